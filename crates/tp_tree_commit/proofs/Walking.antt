-- What holds of all nodes of a tree: from the root down, and from the ends up.
use Rattle.std.proofs.Common.{◌≡◌, ◌≤◌, ◌+◌, ℕ, zero, suc, refl, ap, sym, subst, ◌∙◌, arith, Option, Some, None}
use Rattle.tp_tree_commit.specs.TreeCommit.{Part, Tree, Superior, EachBranch, IsRoot}
use Rattle.tp_tree_commit.proofs.Kept.{Kept}
use Rattle.tp_tree_commit.proofs.Changes.{same_some}

no_less : (a : ℕ) → suc a ≤ zero → ⊥
no_less a l = omega (arith, l)

no_deeper : (a b c : ℕ) → c ≤ zero + a → suc a ≤ b → b ≤ c → ⊥
no_deeper a b c le less most = omega (arith, le, less, most)

-- it holds of the root, and of a branch where it holds of its superior
pub record Downward (s : Tree) (P : Part → Type 0) : Type 0 where
  pub top : (n : ℕ) (p : Part) → s n ≡ Some p → IsRoot p → P p
  pub down : (m n : ℕ) (q p : Part) → s m ≡ Some q → s n ≡ Some p → p.superior ≡ Some m → P q → P p

one_down : (s : Tree) (k : Kept s) (P : Part → Type 0) → Downward s P → (fuel n : ℕ) (p : Part) → s n ≡ Some p → k.rank n ≤ fuel
    → ((m : ℕ) (q : Part) → s m ≡ Some q → suc (k.rank m) ≤ fuel → P q) → P p
one_down s k P d fuel n p h le above = at p.superior refl
  where
    at : (o : Option ℕ) → p.superior ≡ o → P p
    at None i = d.top n p h i
    at (Some m) i = let u = k.up n m p h i in let less = u.2 in d.down m n u.0 p u.1 h i (above m u.0 u.1 (omega (arith, le, less)))

pub from_above : (s : Tree) → Kept s → (P : Part → Type 0) → Downward s P → (n : ℕ) (p : Part) → s n ≡ Some p → P p
from_above s k P d n p h = go (k.rank n) n p h (omega arith)
  where
    go : (fuel n : ℕ) (p : Part) → s n ≡ Some p → k.rank n ≤ fuel → P p
    go zero n p h le = one_down s k P d zero n p h le (λ m q i less. absurd (no_less (k.rank m) less))
    go (suc f) n p h le = one_down s k P d (suc f) n p h le (λ m q i less. go f m q i (omega (arith, less)))

-- it holds of a node where it holds of each of its branches
pub from_below : (s : Tree) → Kept s → (P : Part → Type 0) → ((n : ℕ) (p : Part) → s n ≡ Some p → EachBranch s n P → P p) → (n : ℕ) (p : Part) → s n ≡ Some p → P p
from_below s k P one n p h = go k.deepest n p h (omega arith)
  where
    go : (fuel n : ℕ) (p : Part) → s n ≡ Some p → k.deepest ≤ fuel + k.rank n → P p
    go zero n p h le = one n p h (λ m q i b. absurd (let u = k.up m n q i b in no_deeper (k.rank n) (k.rank m) k.deepest le u.2 (k.bounded m q i)))
    go (suc f) n p h le = one n p h (λ m q i b. let u = k.up m n q i b in let less = u.2 in go f m q i (omega (arith, le, less)))

same_number : (m n : ℕ) → ◌≡◌ {A = Option ℕ} (Some m) (Some n) → m ≡ n
same_number m n h = cc (h)

-- the superior, found two ways
pub same_superior : (s : Tree) (p : Part) (m : ℕ) (q : Part) (P : Part → Type 0) → p.superior ≡ Some m → s m ≡ Some q → Superior s p P → P q
same_superior s p m q P i h u =
    let number : u.0 ≡ m = same_number u.0 m (sym u.2 ∙ i) in
    subst P (same_some u.1 q (sym u.3 ∙ ap s number ∙ h)) u.4

-- one node is the root
pub the_root : (s : Tree) → Kept s → (m n : ℕ) (p q : Part) → s m ≡ Some p → s n ≡ Some q → IsRoot p → IsRoot q → p ≡ q
the_root s k m n p q h i r t = same_some p q (sym h ∙ ap s (k.one_root m n p q h i r t) ∙ i)
