-- Trees as keys of tables: their test is equality.
use Rattle.std.specs.Prelude.{◌≡◌, Bool, true, false, Some, None, List}
use Rattle.std.specs.Cmp.{IsEquivalence}
use Rattle.std.specs.Map.{lookup}
use Rattle.std.proofs.Common.{refl, sym, ◌∙◌, ap}
use Rattle.tp_names.specs.declared.identifiers.Aaid.{Aaid}
use Rattle.tp_names.specs.Same.{is_aaid}
use Rattle.tp_names.proofs.Sames.{aaid_same, aaid_self}
use Rattle.tp_network.specs.declared.tree_key.Tree.{Tree}

abbrev pub is_tree : Tree → Tree → Bool
is_tree a b = is_aaid a.aaid b.aaid

abbrev pub tree_of : Aaid → Tree
tree_of t = record { aaid = t }

-- their test is equality
pub tree_same : (a b : Tree) → is_tree a b ≡ true → a ≡ b
tree_same a b e = ap tree_of (aaid_same a.aaid b.aaid e)

pub tree_self : (a : Tree) → is_tree a a ≡ true
tree_self a = aaid_self a.aaid

pub tree_either : (a b : Tree) → is_tree a b ≡ is_tree b a
tree_either a b = go (is_tree a b) (is_tree b a) refl refl
  where
    go : (x y : Bool) → is_tree a b ≡ x → is_tree b a ≡ y → is_tree a b ≡ is_tree b a
    go true y e f = ap (λ c. is_tree a c) (sym (tree_same a b e)) ∙ ap (λ c. is_tree c a) (tree_same a b e)
    go false true e f = ap (λ c. is_tree a c) (tree_same b a f) ∙ ap (λ c. is_tree c a) (sym (tree_same b a f))
    go false false e f = e ∙ sym f

pub tree_equivalence : IsEquivalence is_tree
tree_equivalence = record { refl = tree_self; symm = tree_either; congr = λ a b c e. ap (λ x. is_tree x c) (tree_same a b e) }

-- ---- what a table has at a tree

abbrev pub value_at : {A : Type 0} → A → List (Tree × A) → Aaid → A
value_at none es t = elim (lookup (is_tree (tree_of t)) es) [ None ↦ none | Some v ↦ v ]
