-- Several steps of the page one after the other, or none: what one thing that happens may do to a tree.
use Rattle.std.specs.Prelude.{ℕ, ◌≡◌}
use Rattle.tp_tree_commit.specs.TreeCommit.{Tree, Steps}

pub data Walks : Tree → Tree → Type 0 where
  stays : (s t : Tree) → ((m : ℕ) → t m ≡ s m) → Walks s t
  steps : (s t u : Tree) → Walks s t → Steps t u → Walks s u
