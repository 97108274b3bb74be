-- The lives of a list in order: each is in order, and of the lives of a node none but the last may be bound.
use Rattle.std.proofs.Common.{◌≡◌, ◌≤◌, ℕ, Option, Some, None, List, [], ◌∷◌, ◌++◌, inl, inr, refl, sym, subst, ◌∙◌, ap, append_assoc, append-nil, arith, Bool, true, false}
use Rattle.std.specs.Prelude.{◌&&◌, ◌||◌, ◌==◌, ◌⊎◌, nat_le}
use Rattle.std.proofs.lemmas.Bool.Decides.{nat_tests}
use Rattle.tp_names.specs.declared.identifiers.BranchId.{BranchId}
use Rattle.tp_names.specs.declared.identifiers.NodeKey.{NodeKey}
use Rattle.tp_names.specs.declared.outcome.Outcome.{Outcome}
use Rattle.tp_names.proofs.Sames.{both}
use Rattle.tp_logrec.specs.declared.record.LogRec.{LogRec}
use Rattle.tp_logrec.specs.Order.{Owner, owner, owner_of, is_owner, is_end, is_ready, is_heuristic, is_as_ready, is_bound, holds, Before, before, may_follow, Life, with_record, without, lives, records_of, last, last_from, ready_from, boots, greatest, is_begun, boot_by, last_boot_from, bound, is_free, follows, follow_from}
use Rattle.tp_logrec.specs.OrderCheck.{greatest_by, greatest_after, is_above}
use Rattle.tp_logrec.proofs.Sames.{owner_same, owner_self}
use Rattle.tp_logrec.proofs.Stands.{ready_in, last_all, ready_all, last_or-more, above_greatest, greatest_after_is, boot_after_is, lives_after_is}
use Rattle.tp_logrec.proofs.Briefs.{only, begun_last, last_only_is, life, Absent, AreLives, lives_all, after_own}
use Rattle.tp_logrec.proofs.BoundKeys.{free_is_loose}
use Rattle.tp_logrec.proofs.LifeOrders.{in_life, and_both, runs, runs_more, runs_later}

abbrev pub at_node : ℕ → List Life → Bool
at_node n [] = false
at_node n (l ∷ ls) = (l.owner.node == n) || at_node n ls

abbrev pub ends_bound : Life → Bool
ends_bound l = holds (last l.records) is_bound

abbrev pub InOrder : ℕ → List Life → Type 0
InOrder boot [] = Unit {0}
InOrder boot (l ∷ ls) = (runs boot None None l.records ≡ true) × (at_node l.owner.node ls ≡ true → ends_bound l ≡ false) × InOrder boot ls

-- no life of the node is bound
abbrev pub AllLoose : ℕ → List Life → Type 0
AllLoose n [] = Unit {0}
AllLoose n (l ∷ ls) = ((l.owner.node == n) ≡ true → ends_bound l ≡ false) × AllLoose n ls

pub either : (a b : Bool) → (a || b) ≡ true → (a ≡ true) ⊎ (b ≡ true)
either true b e = inl refl
either false b e = inr e

pub or_right : (a b : Bool) → b ≡ true → (a || b) ≡ true
or_right true b e = refl
or_right false b e = e

pub or_left : (a b : Bool) → a ≡ true → (a || b) ≡ true
or_left a b e = ap (λ x. x || b) e

pub order_later : (m n : ℕ) (ls : List Life) → m ≤ n → InOrder m ls → InOrder n ls
order_later m n [] le a = tt
order_later m n (l ∷ ls) le a = (runs_later m n None None l.records le a.0, a.1, order_later m n ls le a.2)

-- ---- a life ends

pub at_without : (n : ℕ) (ls : List Life) (o : Owner) → at_node n (without ls o) ≡ true → at_node n ls ≡ true
at_without n [] o e = e
at_without n (l ∷ ls) o e = go (is_owner l.owner o) e (at_without n ls o)
  where
    go : (b : Bool) → at_node n (elim b as (λ _. List Life) [ true ↦ without ls o | false ↦ l ∷ without ls o ]) ≡ true
        → (at_node n (without ls o) ≡ true → at_node n ls ≡ true) → ((l.owner.node == n) || at_node n ls) ≡ true
    go true e rest = or_right (l.owner.node == n) (at_node n ls) (rest e)
    go false e rest = elim (either (l.owner.node == n) (at_node n (without ls o)) e) as (λ _. ((l.owner.node == n) || at_node n ls) ≡ true) [
      | inl f ↦ or_left (l.owner.node == n) (at_node n ls) f
      | inr f ↦ or_right (l.owner.node == n) (at_node n ls) (rest f)
    ]

pub order_without : (boot : ℕ) (ls : List Life) (o : Owner) → InOrder boot ls → InOrder boot (without ls o)
order_without boot [] o a = tt
order_without boot (l ∷ ls) o a = go (is_owner l.owner o) (order_without boot ls o a.2)
  where
    go : (b : Bool) → InOrder boot (without ls o) → InOrder boot (elim b as (λ _. List Life) [ true ↦ without ls o | false ↦ l ∷ without ls o ])
    go true x = x
    go false x = (a.0, λ e. a.1 (at_without l.owner.node ls o e), x)

-- ---- a life goes on, or begins

-- after a record that does not bind its key stands none that does
pub loose_next : (boot : ℕ) (before ready : Option LogRec) (r : LogRec) → is_begun (only before) ≡ true → holds before is_bound ≡ false
    → may_follow (in_life boot before ready) r ≡ true → is_bound r ≡ false
loose_next boot None ready r some loose e = absurd cc
loose_next boot (Some q) ready (LogRec.Boot n) some loose e = refl
loose_next boot (Some q) ready (LogRec.Ready n k a cs) some loose e = absurd cc
loose_next boot (Some q) ready (LogRec.Heuristic n k h) some loose e = absurd (apart q loose e)
  where
    apart : (q : LogRec) → is_bound q ≡ false → is_ready q ≡ true → ⊥
    apart (LogRec.Ready n k a cs) loose e = cc
    apart _ loose e = cc
loose_next boot (Some q) ready (LogRec.Commit n k a cs) some loose e = absurd (apart q k.branch (holds ready (is_as_ready a cs)) loose e)
  where
    apart : (q : LogRec) (b : Option BranchId) (x : Bool) → is_bound q ≡ false → elim b as (λ _. Bool) [ None ↦ false | Some c ↦ (is_ready q || is_heuristic q) && x ] ≡ true → ⊥
    apart q None x loose e = cc
    apart (LogRec.Ready n k a cs) (Some b) x loose e = cc
    apart (LogRec.Heuristic n k h) (Some b) x loose e = cc
    apart _ (Some b) x loose e = cc
loose_next boot (Some q) ready (LogRec.Damage n k a h p cs) some loose e = refl
loose_next boot (Some q) ready (LogRec.End n k h) some loose e = refl

pub at_with : (n : ℕ) (ls : List Life) (o : Owner) (r : LogRec) → at_node n (with_record ls o r) ≡ true → (at_node n ls ≡ true) ⊎ ((o.node == n) ≡ true)
at_with n [] o r e = elim (either (o.node == n) false e) as (λ _. (false ≡ true) ⊎ ((o.node == n) ≡ true)) [ inl f ↦ inr f | inr f ↦ inl f ]
at_with n (l ∷ ls) o r e = go (is_owner l.owner o) e (at_with n ls o r)
  where
    go : (b : Bool) → at_node n (elim b as (λ _. List Life) [ true ↦ life l.owner (l.records ++ r ∷ []) ∷ ls | false ↦ l ∷ with_record ls o r ]) ≡ true
        → (at_node n (with_record ls o r) ≡ true → (at_node n ls ≡ true) ⊎ ((o.node == n) ≡ true)) → (((l.owner.node == n) || at_node n ls) ≡ true) ⊎ ((o.node == n) ≡ true)
    go true e rest = inl e
    go false e rest = elim (either (l.owner.node == n) (at_node n (with_record ls o r)) e) as (λ _. (((l.owner.node == n) || at_node n ls) ≡ true) ⊎ ((o.node == n) ≡ true)) [
      | inl f ↦ inl (or_left (l.owner.node == n) (at_node n ls) f)
      | inr f ↦ elim (rest f) as (λ _. (((l.owner.node == n) || at_node n ls) ≡ true) ⊎ ((o.node == n) ≡ true)) [
        | inl g ↦ inl (or_right (l.owner.node == n) (at_node n ls) g)
        | inr g ↦ inr g
      ]
    ]

-- a key with records has a life at its node
pub life_at : (ls : List Life) (o : Owner) (n : ℕ) (q : LogRec) → last (records_of ls o) ≡ Some q → (o.node == n) ≡ true → at_node n ls ≡ true
life_at [] o n q e at = absurd cc
life_at (l ∷ ls) o n q e at = go (is_owner l.owner o) refl e (life_at ls o n q)
  where
    go : (b : Bool) → is_owner l.owner o ≡ b → last (elim b as (λ _. List LogRec) [ true ↦ l.records | false ↦ records_of ls o ]) ≡ Some q
        → (last (records_of ls o) ≡ Some q → (o.node == n) ≡ true → at_node n ls ≡ true) → ((l.owner.node == n) || at_node n ls) ≡ true
    go true same e rest = or_left (l.owner.node == n) (at_node n ls) (ap (λ (p : Owner). p.node == n) (owner_same l.owner o same) ∙ at)
    go false other e rest = or_right (l.owner.node == n) (at_node n ls) (rest e at)

pub order_with : (boot : ℕ) (ls : List Life) (o : Owner) (r : LogRec) → AreLives ls
    → may_follow (in_life boot (last (records_of ls o)) (ready_in (records_of ls o))) r ≡ true
    → (last (records_of ls o) ≡ None → AllLoose o.node ls) → InOrder boot ls → InOrder boot (with_record ls o r)
order_with boot [] o r are e clear a = (and_both (may_follow (in_life boot None None) r) true e refl, λ f. absurd (let clash : false ≡ true = f in cc), tt)
order_with boot (l ∷ ls) o r are e clear a = go (is_owner l.owner o) e clear (order_with boot ls o r are.3)
  where
    here : may_follow (in_life boot (last l.records) (ready_in l.records)) r ≡ true → InOrder boot (life l.owner (l.records ++ r ∷ []) ∷ ls)
    here e = (
      runs_more boot None None l.records r ∙ and_both (runs boot None None l.records) (may_follow (in_life boot (last l.records) (ready_in l.records)) r) a.0 e,
      λ f. ap (λ x. holds x is_bound) (last_or-more None l.records r) ∙ loose_next boot (last l.records) (ready_in l.records) r (some l.records are.2) (a.1 f) e,
      a.2,
    )
      where
        some : (rs : List LogRec) → is_begun rs ≡ true → is_begun (only (last rs)) ≡ true
        some [] f = f
        some (q ∷ qs) f = ap is_begun (sym (last_only_is (q ∷ qs))) ∙ begun_last q qs

    apart : (at_node l.owner.node ls ≡ true → ends_bound l ≡ false) → (x : Option LogRec) → last (records_of ls o) ≡ x → (x ≡ None → AllLoose o.node (l ∷ ls))
        → at_node l.owner.node (with_record ls o r) ≡ true → ends_bound l ≡ false
    apart quiet x is clear f = elim (at_with l.owner.node ls o r f) as (λ _. ends_bound l ≡ false) [
      | inl g ↦ quiet g
      | inr g ↦ at x is clear g
    ]
      where
        at : (x : Option LogRec) → last (records_of ls o) ≡ x → (x ≡ None → AllLoose o.node (l ∷ ls)) → (o.node == l.owner.node) ≡ true → ends_bound l ≡ false
        at None is clear g = (clear refl).0 (let h : (l.owner.node == o.node) ≡ true = grind (arith, nat_tests, g) in h)
        at (Some q) is clear g = quiet (life_at ls o l.owner.node q is g)

    go : (b : Bool) → may_follow (in_life boot (last (elim b as (λ _. List LogRec) [ true ↦ l.records | false ↦ records_of ls o ])) (ready_in (elim b as (λ _. List LogRec) [ true ↦ l.records | false ↦ records_of ls o ]))) r ≡ true
        → (last (elim b as (λ _. List LogRec) [ true ↦ l.records | false ↦ records_of ls o ]) ≡ None → AllLoose o.node (l ∷ ls))
        → (may_follow (in_life boot (last (records_of ls o)) (ready_in (records_of ls o))) r ≡ true → (last (records_of ls o) ≡ None → AllLoose o.node ls) → InOrder boot ls → InOrder boot (with_record ls o r))
        → InOrder boot (elim b as (λ _. List Life) [ true ↦ life l.owner (l.records ++ r ∷ []) ∷ ls | false ↦ l ∷ with_record ls o r ])
    go true e clear rest = here e
    go false e clear rest = (a.0, apart a.1 (last (records_of ls o)) refl clear, rest e (λ f. (clear f).1) a.2)

-- ---- what a record that may follow says

-- where the node is free, a record may follow as well
pub freely : (b : Before) (r : LogRec) → may_follow b r ≡ true → may_follow (in_life b.boot b.last b.ready) r ≡ true
freely b (LogRec.Boot n) e = e
freely b (LogRec.Ready n k a cs) e =
    let new = elim b.last as (λ _. Bool) [ None ↦ true | Some r ↦ false ] in
    (both b.free new (both b.begun (b.free && new) e).1).1
freely b (LogRec.Heuristic n k h) e = (both b.begun (holds b.last is_ready) e).1
freely b (LogRec.Commit n k a cs) e = go k.branch (nat_le k.aaid.mark.boot b.boot) ((holds b.last is_ready || holds b.last is_heuristic) && holds b.ready (is_as_ready a cs)) e
  where
    new : Bool
    new = elim b.last as (λ _. Bool) [ None ↦ true | Some r ↦ false ]

    go : (c : Option BranchId) (x y : Bool) → (b.begun && elim c as (λ _. Bool) [ None ↦ (b.free && elim b.last as (λ _. Bool) [ None ↦ true | Some r ↦ false ]) && x | Some d ↦ y ]) ≡ true
        → elim c as (λ _. Bool) [ None ↦ elim b.last as (λ _. Bool) [ None ↦ true | Some r ↦ false ] && x | Some d ↦ y ] ≡ true
    go None x y e =
        let was = elim b.last as (λ _. Bool) [ None ↦ true | Some r ↦ false ] in
        let p = both (b.free && was) x (both b.begun ((b.free && was) && x) e).1 in
        and_both was x (both b.free was p.0).1 p.1
    go (Some d) x y e = (both b.begun y e).1
freely b (LogRec.Damage n k a o p cs) e = (both b.begun (may_follow (in_life b.boot b.last b.ready) (LogRec.Damage n k a o p cs)) e).1
freely b (LogRec.End n k h) e = (both b.begun (may_follow (in_life b.boot b.last b.ready) (LogRec.End n k h)) e).1

pub begun_by : (b : Before) (r : LogRec) → may_follow b r ≡ true → b.begun ≡ true
begun_by b (LogRec.Boot n) e = absurd cc
begun_by b (LogRec.Ready n k a cs) e = (both b.begun (may_follow (record b { begun = true }) (LogRec.Ready n k a cs)) e).0
begun_by b (LogRec.Heuristic n k h) e = (both b.begun (may_follow (record b { begun = true }) (LogRec.Heuristic n k h)) e).0
begun_by b (LogRec.Commit n k a cs) e = (both b.begun (may_follow (record b { begun = true }) (LogRec.Commit n k a cs)) e).0
begun_by b (LogRec.Damage n k a o p cs) e = (both b.begun (may_follow (record b { begun = true }) (LogRec.Damage n k a o p cs)) e).0
begun_by b (LogRec.End n k h) e = (both b.begun (may_follow (record b { begun = true }) (LogRec.End n k h)) e).0

-- a record of a key that has none stands where the node is free
pub free_by : (begun free : Bool) (boot : ℕ) (ready : Option LogRec) (r : LogRec)
    → (let b : Before = record { begun = begun; boot = boot; free = free; last = None; ready = ready } in may_follow b r) ≡ true → free ≡ true
free_by begun free boot ready (LogRec.Boot n) e = absurd cc
free_by begun free boot ready (LogRec.Ready n k a cs) e = (both free true (both begun (free && true) e).1).0
free_by begun free boot ready (LogRec.Heuristic n k h) e = absurd (let f = (both begun false e).1 in cc)
free_by begun free boot ready (LogRec.Commit n k a cs) e = go k.branch (nat_le k.aaid.mark.boot boot) (both begun (elim k.branch as (λ _. Bool) [ None ↦ (free && true) && nat_le k.aaid.mark.boot boot | Some d ↦ false ]) e).1
  where
    go : (c : Option BranchId) (x : Bool) → elim c as (λ _. Bool) [ None ↦ (free && true) && x | Some d ↦ false ] ≡ true → free ≡ true
    go None x e = (both free true (both (free && true) x e).0).0
    go (Some d) x e = absurd cc
free_by begun free boot ready (LogRec.Damage n k a Outcome.Commit p cs) e = absurd (let f = (both begun false e).1 in cc)
free_by begun free boot ready (LogRec.Damage n k a Outcome.Rollback p cs) e = absurd (let f = (both begun false e).1 in cc)
free_by begun free boot ready (LogRec.End n k h) e = absurd (let f = (both begun false e).1 in cc)

-- ---- the lives of a list in order

pub absent_records : (ls : List Life) (o : Owner) → Absent o ls → records_of ls o ≡ []
absent_records [] o a = refl
absent_records (l ∷ ls) o a = ap (λ (b : Bool). elim b as (λ _. List LogRec) [ true ↦ l.records | false ↦ records_of ls o ]) a.0 ∙ absent_records ls o a.1

pub all_loose : (n : ℕ) (ls : List Life) → AreLives ls → ((o : Owner) → (o.node == n) ≡ true → holds (last (records_of ls o)) is_bound ≡ false) → AllLoose n ls
all_loose n [] are says = tt
all_loose n (l ∷ ls) are says = (here, all_loose n ls are.3 rest)
  where
    here : (l.owner.node == n) ≡ true → ends_bound l ≡ false
    here at =
        ap (λ (b : Bool). holds (last (elim b as (λ _. List LogRec) [ true ↦ l.records | false ↦ records_of ls l.owner ])) is_bound) (sym (owner_self l.owner))
        ∙ says l.owner at

    rest : (o : Owner) → (o.node == n) ≡ true → holds (last (records_of ls o)) is_bound ≡ false
    rest o at = go (is_owner l.owner o) refl (says o at)
      where
        go : (b : Bool) → is_owner l.owner o ≡ b → holds (last (elim b as (λ _. List LogRec) [ true ↦ l.records | false ↦ records_of ls o ])) is_bound ≡ false
            → holds (last (records_of ls o)) is_bound ≡ false
        go true same e =
            ap (λ (rs : List LogRec). holds (last rs) is_bound) (absent_records ls o (subst (λ (p : Owner). Absent p ls) (owner_same l.owner o same) are.0))
        go false other e = e

pub record IsOrdered (rs : List LogRec) : Type 0 where
  pub booted : is_begun rs ≡ true → greatest (boots rs) ≡ Some (last_boot_from 0 rs)
  pub order : InOrder (last_boot_from 0 rs) (lives rs)

-- a Boot
pub order_boot : (rs : List LogRec) (n : ℕ) → follows rs (LogRec.Boot n) ≡ true → IsOrdered rs → IsOrdered (rs ++ LogRec.Boot n ∷ [])
order_boot rs n e is =
    let above : is_above (greatest (boots rs)) n ≡ true = above_greatest n (boots rs) ∙ e in
    record {
      booted = λ _. greatest_after_is rs (LogRec.Boot n) ∙ ap Some (newest (greatest (boots rs)) above) ∙ ap Some (sym (boot_after_is 0 rs (LogRec.Boot n)));
      order =
          subst (λ (b : ℕ). InOrder b (lives (rs ++ LogRec.Boot n ∷ []))) (sym (boot_after_is 0 rs (LogRec.Boot n)))
          (subst (λ (ls : List Life). InOrder n ls) (sym (lives_after_is [] rs (LogRec.Boot n))) (order_later (last_boot_from 0 rs) n (lives rs) (lower rs is.booted above) is.order));
    }
  where
    newest : (g : Option ℕ) → is_above g n ≡ true → greatest_by g n ≡ n
    newest None f = refl
    newest (Some m) f = let lt : m ≤ n = grind (arith, nat_tests, f) in omega arith

    lower : (rs : List LogRec) → (is_begun rs ≡ true → greatest (boots rs) ≡ Some (last_boot_from 0 rs)) → is_above (greatest (boots rs)) n ≡ true → last_boot_from 0 rs ≤ n
    lower [] is f = omega arith
    lower (r ∷ rs) is f = let g : is_above (Some (last_boot_from 0 (r ∷ rs))) n ≡ true = ap (λ g. is_above g n) (sym (is refl)) ∙ f in grind (arith, nat_tests, g)

-- a record of a key, which is no End
pub order_more : (rs : List LogRec) (o : Owner) (r : LogRec) → owner_of r ≡ Some o → is_end r ≡ false
    → greatest_after (greatest (boots rs)) r ≡ greatest (boots rs) → boot_by (last_boot_from 0 rs) r ≡ last_boot_from 0 rs
    → may_follow (before rs o) r ≡ true → IsOrdered rs → IsOrdered (rs ++ r ∷ [])
order_more rs o r own alive g b e is = record {
  booted = λ _. greatest_after_is rs r ∙ g ∙ is.booted (begun_by (before rs o) r e) ∙ ap Some (sym (boot_after_is 0 rs r ∙ b));
  order =
      subst (λ (n : ℕ). InOrder n (lives (rs ++ r ∷ []))) (sym (boot_after_is 0 rs r ∙ b))
      (subst (λ (ls : List Life). InOrder (last_boot_from 0 rs) ls) (sym (lives_after_is [] rs r ∙ after_own (lives rs) o r own alive))
      (order_with (last_boot_from 0 rs) (lives rs) o r (lives_all [] rs tt) allowed clear is.order));
}
  where
    allowed : may_follow (in_life (last_boot_from 0 rs) (last (records_of (lives rs) o)) (ready_in (records_of (lives rs) o))) r ≡ true
    allowed =
        ap (λ x. may_follow (in_life (last_boot_from 0 rs) x (ready_in (records_of (lives rs) o))) r) (last_all [] o rs)
        ∙ ap (λ x. may_follow (in_life (last_boot_from 0 rs) (last_from o None rs) x) r) (ready_all [] o rs)
        ∙ freely (before rs o) r e

    clear : last (records_of (lives rs) o) ≡ None → AllLoose o.node (lives rs)
    clear none =
        let gone : last_from o None rs ≡ None = sym (last_all [] o rs) ∙ none in
        let free : is_free o.node (bound rs) ≡ true =
        free_by (is_begun rs) (is_free o.node (bound rs)) (last_boot_from 0 rs) (ready_from o None rs) r
        (ap (λ x. let c : Before = record { begun = is_begun rs; boot = last_boot_from 0 rs; free = is_free o.node (bound rs); last = x; ready = ready_from o None rs } in may_follow c r) (sym gone) ∙ e) in
        all_loose o.node (lives rs) (lives_all [] rs tt)
        (λ p at. ap (λ x. holds x is_bound) (last_all [] p rs) ∙ free_is_loose o.node rs free p at)

pub order_end : (rs : List LogRec) (n : ℕ) (k : NodeKey) (h : Outcome) → may_follow (before rs (owner n k)) (LogRec.End n k h) ≡ true → IsOrdered rs → IsOrdered (rs ++ LogRec.End n k h ∷ [])
order_end rs n k h e is =
    let r : LogRec = LogRec.End n k h in
    record {
      booted = λ _. greatest_after_is rs r ∙ is.booted (begun_by (before rs (owner n k)) r e) ∙ ap Some (sym (boot_after_is 0 rs r));
      order =
          subst (λ (n : ℕ). InOrder n (lives (rs ++ r ∷ []))) (sym (boot_after_is 0 rs r))
          (subst (λ (ls : List Life). InOrder (last_boot_from 0 rs) ls) (sym (lives_after_is [] rs r)) (order_without (last_boot_from 0 rs) (lives rs) (owner n k) is.order));
    }

pub order_step : (rs : List LogRec) (r : LogRec) → follows rs r ≡ true → IsOrdered rs → IsOrdered (rs ++ r ∷ [])
order_step rs (LogRec.Boot n) e is = order_boot rs n e is
order_step rs (LogRec.Ready n k a cs) e is = order_more rs (owner n k) (LogRec.Ready n k a cs) refl refl refl refl e is
order_step rs (LogRec.Heuristic n k h) e is = order_more rs (owner n k) (LogRec.Heuristic n k h) refl refl refl refl e is
order_step rs (LogRec.Commit n k a cs) e is = order_more rs (owner n k) (LogRec.Commit n k a cs) refl refl refl refl e is
order_step rs (LogRec.Damage n k a h p cs) e is = order_more rs (owner n k) (LogRec.Damage n k a h p cs) refl refl refl refl e is
order_step rs (LogRec.End n k h) e is = order_end rs n k h e is

pub order_all : (front rs : List LogRec) → follow_from front rs ≡ true → IsOrdered front → IsOrdered (front ++ rs)
order_all front [] e is = subst (λ (w : List LogRec). IsOrdered w) (sym (append-nil front)) is
order_all front (r ∷ rs) e is =
    let p = both (follows front r) (follow_from (front ++ r ∷ []) rs) e in
    subst (λ (w : List LogRec). IsOrdered w) (append_assoc front (r ∷ []) rs) (order_all (front ++ r ∷ []) rs p.1 (order_step front r p.0 is))
