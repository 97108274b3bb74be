-- The kept transactions of a node as they are found: a list in the order of age.
use Rattle.std.specs.Prelude.{Box, Vec, ℕ, ◌≡◌, ◌<◌, ◌==◌, ◌&&◌, Bool, true, false, if◌then◌else◌, Option, Some, None, List, [], ◌∷◌}
use Rattle.std.specs.Cmp.{IsEquivalence}
use Rattle.std.specs.Map.{lookup, keys_of}
use Rattle.std.specs.BTreeMap.{is_at}
use Rattle.std.specs.Ordering.{nat_cmp}
use Rattle.std.specs.List.Sorted.{IsStrictlySortedBy}
use Rattle.std.specs.declared.alloc.Global.{Global}
use Rattle.std.proofs.Common.{refl, sym, ◌∙◌, ap}
use Rattle.tp_names.specs.declared.identifiers.Aaid.{Aaid}
use Rattle.tp_names.specs.declared.identifiers.BranchId.{BranchId}
use Rattle.tp_names.specs.declared.identifiers.NodeKey.{NodeKey}
use Rattle.tp_names.specs.Same.{is_aaid, is_key}
use Rattle.tp_names.proofs.Sames.{aaid_same, aaid_self}
use Rattle.tp_model.specs.declared.recovery.Kept.{Kept}
use Rattle.tp_model.specs.Recovery.{find_kept, find_owed}
use Rattle.tp_node_state.specs.declared.tree_key.TreeKey.{TreeKey}

-- ---- trees, as keys of a table

abbrev pub is_tree : TreeKey → TreeKey → Bool
is_tree a b = is_aaid a.aaid b.aaid

abbrev pub tree_key : Aaid → TreeKey
tree_key t = record { aaid = t }

-- their test is equality
pub tree_same : (a b : TreeKey) → is_tree a b ≡ true → a ≡ b
tree_same a b e = ap tree_key (aaid_same a.aaid b.aaid e)

pub tree_either : (a b : TreeKey) → is_tree a b ≡ is_tree b a
tree_either a b = go (is_tree a b) (is_tree b a) refl refl
  where
    go : (x y : Bool) → is_tree a b ≡ x → is_tree b a ≡ y → is_tree a b ≡ is_tree b a
    go true y e f = ap (λ c. is_tree a c) (sym (tree_same a b e)) ∙ ap (λ c. is_tree c a) (tree_same a b e)
    go false true e f = ap (λ c. is_tree a c) (tree_same b a f) ∙ ap (λ c. is_tree c a) (sym (tree_same b a f))
    go false false e f = e ∙ sym f

pub tree_equivalence : IsEquivalence is_tree
tree_equivalence = record { refl = λ a. aaid_self a.aaid; symm = tree_either; congr = λ a b c e. ap (λ x. is_tree x c) (tree_same a b e) }

-- ---- the list

-- one in the place of the first with its key, or after the others
abbrev pub with_kept : List Kept → Kept → List Kept
with_kept [] k = k ∷ []
with_kept (x ∷ xs) k = if is_key x.key k.key then k ∷ xs else x ∷ with_kept xs k

-- no two have a key
abbrev pub AreSingle : List Kept → Type 0
AreSingle [] = Unit {0}
AreSingle (x ∷ xs) = (find_kept xs x.key ≡ None) × AreSingle xs

-- it owes the branch, where one is asked for
abbrev pub owes : Kept → Option BranchId → Bool
owes k None = true
owes k (Some b) = elim (find_owed k.owed b) [ None ↦ false | Some c ↦ true ]

-- the key of the first of the tree; where a branch is asked for, of the first that owes it
abbrev pub first_in : List Kept → Aaid → Option BranchId → Option NodeKey
first_in [] t b = None
first_in (x ∷ xs) t b = if is_aaid x.key.aaid t && owes x b then Some x.key else first_in xs t b

-- ---- by age

abbrev pub listed : List (ℕ × Box Kept Global) → List Kept
listed [] = []
listed (e ∷ es) = e.1.value ∷ listed es

-- the age of the first with that key
abbrev pub age_of : List (ℕ × Box Kept Global) → NodeKey → Option ℕ
age_of [] q = None
age_of (e ∷ es) q = if is_key e.1.value.key q then Some e.0 else age_of es q

-- the ages of those of the tree
abbrev pub ages_of : List (ℕ × Box Kept Global) → Aaid → List ℕ
ages_of [] t = []
ages_of (e ∷ es) t = if is_aaid e.1.value.key.aaid t then e.0 ∷ ages_of es t else ages_of es t

-- the ages that are noted of the tree
abbrev pub ages_in : List (TreeKey × Vec ℕ Global) → Aaid → List ℕ
ages_in ts t = elim (lookup (is_tree (tree_key t)) ts) [ None ↦ [] | Some v ↦ v.items ]

abbrev pub without_age : List ℕ → ℕ → List ℕ
without_age [] a = []
without_age (n ∷ ns) a = if n == a then without_age ns a else n ∷ without_age ns a

-- they are in order, and of each tree the ages are noted
abbrev pub IsIndexed : List (ℕ × Box Kept Global) → List (TreeKey × Vec ℕ Global) → Type 0
IsIndexed es ts = IsStrictlySortedBy nat_cmp (keys_of es) × ((t : Aaid) → ages_in ts t ≡ ages_of es t)

-- each is younger
abbrev pub AreBelow : List (ℕ × Box Kept Global) → ℕ → Type 0
AreBelow [] a = Unit {0}
AreBelow (e ∷ es) a = (e.0 < a) × AreBelow es a

-- the one of an age
abbrev pub at_age : List (ℕ × Box Kept Global) → ℕ → Option (Box Kept Global)
at_age es a = lookup (is_at (nat_cmp a)) es

abbrev pub has_key : List (ℕ × Box Kept Global) → NodeKey → ℕ → Bool
has_key es q a = elim (at_age es a) [ None ↦ false | Some b ↦ is_key b.value.key q ]

-- of these ages, that of the first with the key
abbrev pub age_among : List (ℕ × Box Kept Global) → NodeKey → List ℕ → Option ℕ
age_among es q [] = None
age_among es q (a ∷ ns) = if has_key es q a then Some a else age_among es q ns
