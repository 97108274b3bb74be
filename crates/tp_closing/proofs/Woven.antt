-- What a node went through is told by the deeds of its own site: so the order of the deeds between sites does not matter.
use Rattle.std.proofs.Common.{◌≡◌, Bool, true, false, refl, ap, sym, ◌∙◌, arith, ℕ, List, [], ◌∷◌, ◌++◌, append-nil}
use Rattle.std.specs.Prelude.{if◌then◌else◌}
use Rattle.tp_names.specs.Same.{is_name}
use Rattle.tp_names.proofs.Sames.{name_same}
use Rattle.tp_model.specs.World.{Node}
use Rattle.tp_site_logs.specs.Lives.{Life, history_over, first_origin}
use Rattle.tp_deployments.specs.Deployments.{Deed, Place, life_after}
use Rattle.tp_deployments.specs.RunOf.{node_at, nodes_of}
use Rattle.tp_weaving.specs.Frames.{Record, has_record}
use Rattle.tp_weaving.specs.Parts.{site_of_deed, part, ArePartsOf, AreApart, IsWovenOf}
use Rattle.tp_weaving.proofs.Parts.{life_of_part}
use Rattle.tp_closing.specs.Closing.{deeds_of}

-- ---- parts

part_append : (s : List ℕ) (ds es : List Deed) → part s (ds ++ es) ≡ part s ds ++ part s es
part_append s [] es = refl
part_append s (d ∷ ds) es = go (is_name (site_of_deed d) s) refl (part_append s ds es)
  where
    go : (b : Bool) → is_name (site_of_deed d) s ≡ b → part s (ds ++ es) ≡ part s ds ++ part s es → part s ((d ∷ ds) ++ es) ≡ part s (d ∷ ds) ++ part s es
    go true i rest = rw (i, part) (ap (λ (l : List Deed). d ∷ l) rest)
    go false i rest = rw (i, part) rest

part_again : (s : List ℕ) (ds : List Deed) → part s (part s ds) ≡ part s ds
part_again s [] = refl
part_again s (d ∷ ds) = go (is_name (site_of_deed d) s) refl (part_again s ds)
  where
    go : (b : Bool) → is_name (site_of_deed d) s ≡ b → part s (part s ds) ≡ part s ds → part s (part s (d ∷ ds)) ≡ part s (d ∷ ds)
    go true i rest = grind (arith, i, rest)
    go false i rest = grind (arith, i, rest)

part_other : (s r : List ℕ) (ds : List Deed) → is_name r s ≡ false → part s (part r ds) ≡ []
part_other s r [] off = refl
part_other s r (d ∷ ds) off = go (is_name (site_of_deed d) r) refl (part_other s r ds off)
  where
    go : (b : Bool) → is_name (site_of_deed d) r ≡ b → part s (part r ds) ≡ [] → part s (part r (d ∷ ds)) ≡ []
    go false i rest = grind (arith, i, rest)
    go true i rest =
        let same : is_name (site_of_deed d) s ≡ false = ap (λ (n : List ℕ). is_name n s) (name_same (site_of_deed d) r i) ∙ off in
        grind (arith, i, same, rest)

-- ---- the deeds of all records

abbrev pub there : List Record → List Deed → List ℕ → List Deed
there rs ds s = if has_record rs s then part s ds else []

own_part : (ds : List Deed) (rs : List Record) (s : List ℕ) → ArePartsOf ds rs → AreApart rs → part s (deeds_of rs) ≡ there rs ds s
own_part ds [] s parts apart = refl
own_part ds (r ∷ rs) s parts apart = part_append s r.deeds (deeds_of rs) ∙ ap (λ (l : List Deed). part s l ++ part s (deeds_of rs)) (sym parts.0) ∙ go (is_name r.site s) refl (own_part ds rs s parts.1 apart.1)
  where
    go : (b : Bool) → is_name r.site s ≡ b → part s (deeds_of rs) ≡ there rs ds s → part s (part r.site ds) ++ part s (deeds_of rs) ≡ there (r ∷ rs) ds s
    go true i rest =
        let name : r.site ≡ s = name_same r.site s i in
        let none : has_record rs s ≡ false = ap (has_record rs) (sym name) ∙ apart.0 in
        let empty : part s (deeds_of rs) ≡ [] = rest ∙ ap (λ (c : Bool). if c then part s ds else []) none in
        ap (λ (l : List Deed). part s (part r.site ds) ++ l) empty
        ∙ append-nil (part s (part r.site ds))
        ∙ ap (λ (n : List ℕ). part s (part n ds)) name
        ∙ part_again s ds
        ∙ sym (ap (λ (c : Bool). if c then part s ds else []) (on i))
      where
        on : is_name r.site s ≡ true → has_record (r ∷ rs) s ≡ true
        on j = rw (j, has_record) refl
    go false i rest =
        ap (λ (l : List Deed). l ++ part s (deeds_of rs)) (part_other s r.site ds i)
        ∙ rest
        ∙ sym (ap (λ (c : Bool). if c then part s ds else []) (off i))
      where
        off : is_name r.site s ≡ false → has_record (r ∷ rs) s ≡ has_record rs s
        off j = rw (j, has_record) refl

all_parts : (ds : List Deed) (rs : List Record) (s : List ℕ) → AreApart rs → IsWovenOf rs ds → part s (deeds_of rs) ≡ part s ds
all_parts ds rs s apart woven = own_part ds rs s woven.parts apart ∙ go (has_record rs s) refl
  where
    go : (b : Bool) → has_record rs s ≡ b → (if b then part s ds else []) ≡ part s ds
    go true i = refl
    go false i = sym (woven.others s i)

lives_alike : (ds : List Deed) (rs : List Record) (s : List ℕ) → AreApart rs → IsWovenOf rs ds → life_after ds s ≡ life_after (deeds_of rs) s
lives_alike ds rs s apart woven = sym (life_of_part s ds) ∙ ap (λ (l : List Deed). life_after l s) (sym (all_parts ds rs s apart woven)) ∙ life_of_part s (deeds_of rs)

-- ---- the nodes

abbrev lived : Place → Life → Node
lived q l = record { origin = first_origin q.addr.site q.addr.node; superior = q.superior; history = history_over q.addr.site l q.addr.node }

pub nodes_alike : (qs : List Place) (ds : List Deed) (rs : List Record) → AreApart rs → IsWovenOf rs ds → nodes_of qs ds ≡ nodes_of qs (deeds_of rs)
nodes_alike [] ds rs apart woven = refl
nodes_alike (q ∷ qs) ds rs apart woven =
    ap (λ (l : List Node). l ++ node_at ds q ∷ []) (nodes_alike qs ds rs apart woven)
    ∙ ap (λ (x : Node). nodes_of qs (deeds_of rs) ++ x ∷ []) (ap (lived q) (lives_alike ds rs q.addr.site apart woven))
