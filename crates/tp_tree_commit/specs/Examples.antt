-- Two ways in which a tree of two nodes may end on the page: the root is number 1, and its branch number 2.
use Rattle.std.specs.Prelude.{◌≡◌, Some}
use Rattle.tp_names.specs.declared.outcome.Outcome.{Outcome}
use Rattle.tp_tree_commit.specs.TreeCommit.{Part, Tree, IsRoot, told, HasCompleted, Reached}

pub record OfTwo (s : Tree) (p q : Part) : Type 0 where
  pub reached : Reached s
  pub root : s 1 ≡ Some p
  pub branch : s 2 ≡ Some q
  pub above : IsRoot p
  pub below : q.superior ≡ Some 1

-- both complete with no report
abbrev pub EndsTogether : Type 0
EndsTogether = (s : Tree) × (p : Part) × (q : Part) × OfTwo s p q × HasCompleted p × HasCompleted q

-- one is told commit, and the other rollback: sentence 1 names the branch, which decided on its own
abbrev pub EndsApart : Type 0
EndsApart = (s : Tree) × (p : Part) × (q : Part) × OfTwo s p q × (told p ≡ Some Outcome.Commit) × (told q ≡ Some Outcome.Rollback)
    × (q.decision ≡ Some Outcome.Rollback)
