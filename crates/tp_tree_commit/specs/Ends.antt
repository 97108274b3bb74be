-- How long a run of the page is: each node acts at most five times, so every run of it comes to rest.
use Rattle.std.specs.Prelude.{ℕ, suc, ◌*◌, ◌≤◌, ◌≡◌, ◌⊎◌, None, Some, List, [], ◌∷◌, length}
use Rattle.tp_tree_commit.specs.TreeCommit.{Part, Tree, Steps, Reached}

-- reached in so many steps
pub data ReachedIn : ℕ → Tree → Type 0 where
  at_first : (s : Tree) → ((m : ℕ) → s m ≡ None) → ReachedIn 0 s
  after : (k : ℕ) (s t : Tree) → ReachedIn k s → Steps s t → ReachedIn (suc k) t

abbrev pub IsListed : ℕ → List ℕ → Type 0
IsListed n [] = ⊥
IsListed n (m ∷ ms) = (m ≡ n) ⊎ IsListed n ms

-- each node of the tree is in the list
abbrev pub Covers : List ℕ → Tree → Type 0
Covers ns s = (m : ℕ) (p : Part) → s m ≡ Some p → IsListed m ns

-- a node enters, votes or leaves, commits or rolls back, decides and completes, each at most once
abbrev pub FiveAtMost : Type 0
FiveAtMost = (k : ℕ) (s : Tree) → ReachedIn k s → (ns : List ℕ) → Covers ns s → k ≤ 5 * length ns

abbrev pub RunsAreCounted : Type 0
RunsAreCounted = (s : Tree) → Reached s → (k : ℕ) × ReachedIn k s
