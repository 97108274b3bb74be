-- Trees and sites as keys of tables: their tests are equality.
use Rattle.std.specs.Prelude.{ℕ, ◌≡◌, Bool, true, false, List}
use Rattle.std.specs.Cmp.{IsEquivalence}
use Rattle.std.proofs.Common.{refl, sym, ◌∙◌, ap}
use Rattle.tp_names.specs.declared.identifiers.Aaid.{Aaid}
use Rattle.tp_names.specs.Same.{is_aaid, is_name}
use Rattle.tp_names.proofs.Sames.{aaid_same, aaid_self, name_same, name_self}
use Rattle.tp_audit.specs.declared.keys.TreeKey.{TreeKey}
use Rattle.tp_audit.specs.declared.keys.SiteKey.{SiteKey}

-- a test that is equality is an equivalence
equivalence : {K : Type 0} (eq : K → K → Bool) → ((a b : K) → eq a b ≡ true → a ≡ b) → ((a : K) → eq a a ≡ true) → IsEquivalence eq
equivalence {K} eq same self = record { refl = self; symm = either; congr = λ a b c e. ap (λ x. eq x c) (same a b e) }
  where
    either : (a b : K) → eq a b ≡ eq b a
    either a b = go (eq a b) (eq b a) refl refl
      where
        go : (x y : Bool) → eq a b ≡ x → eq b a ≡ y → eq a b ≡ eq b a
        go true y e f = ap (λ c. eq a c) (sym (same a b e)) ∙ ap (λ c. eq c a) (same a b e)
        go false true e f = ap (λ c. eq a c) (same b a f) ∙ ap (λ c. eq c a) (sym (same b a f))
        go false false e f = e ∙ sym f

-- ---- trees

abbrev pub is_tree : TreeKey → TreeKey → Bool
is_tree a b = is_aaid a.aaid b.aaid

abbrev pub tree_key : Aaid → TreeKey
tree_key t = record { aaid = t }

pub tree_same : (a b : TreeKey) → is_tree a b ≡ true → a ≡ b
tree_same a b e = ap tree_key (aaid_same a.aaid b.aaid e)

pub tree_equivalence : IsEquivalence is_tree
tree_equivalence = equivalence is_tree tree_same (λ a. aaid_self a.aaid)

-- ---- sites

abbrev pub is_site : SiteKey → SiteKey → Bool
is_site a b = is_name a.name b.name

abbrev pub site_key : List ℕ → SiteKey
site_key s = record { name = s }

pub site_same : (a b : SiteKey) → is_site a b ≡ true → a ≡ b
site_same a b e = ap site_key (name_same a.name b.name e)

pub site_equivalence : IsEquivalence is_site
site_equivalence = equivalence is_site site_same (λ a. name_self a.name)
