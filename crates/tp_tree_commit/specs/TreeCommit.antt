-- The commitment of one tree of nodes, on one page: what each node is to the tree, the seven things that a node may do, and the three
-- sentences that hold whatever they do. There are no messages, logs, crashes or clocks here: an action asks only what the node itself, its
-- superior or its branches are at that moment. How a node comes to know this is the matter of the service.
use Rattle.std.specs.Prelude.{ℕ, ◌≡◌, ◌≢◌, ◌⊎◌, ◌==◌, Bool, true, false, Option, Some, None, if◌then◌else◌}
use Rattle.tp_names.specs.declared.outcome.Outcome.{Outcome}

-- ---- what a node is to the tree

pub data Vote : Type 0 where
  Unvoted : Vote
  -- it has promised to end as its superior ends
  Ready : Vote
  -- neither it nor any node below it has anything to keep, and it takes no further part
  Left : Vote

pub data Ending : Type 0 where
  Open : Ending
  Committed : Ending
  Rolled : Ending

pub record Part : Type 0 where
  -- the node above it; the root has none
  pub superior : Option ℕ
  pub vote : Vote
  pub ending : Ending
  -- a heuristic decision: how it ended its own work while it had promised to wait
  pub decision : Option Outcome
  -- its commitment is complete, and there is nothing to report
  pub clear : Bool

-- which numbers are nodes of the tree, and what each is to it
abbrev pub Tree : Type 0
Tree = ℕ → Option Part

-- ---- what an action may ask

abbrev pub IsRoot : Part → Type 0
IsRoot p = p.superior ≡ None

abbrev pub IsActive : Part → Type 0
IsActive p = (p.vote ≡ Vote.Unvoted) × (p.ending ≡ Ending.Open)

abbrev pub IsInDoubt : Part → Type 0
IsInDoubt p = (p.vote ≡ Vote.Ready) × (p.ending ≡ Ending.Open)

abbrev pub HasLeft : Part → Type 0
HasLeft p = p.vote ≡ Vote.Left

abbrev pub HasVoted : Part → Type 0
HasVoted p = (p.vote ≡ Vote.Ready) ⊎ HasLeft p

abbrev pub HasCommitted : Part → Type 0
HasCommitted p = p.ending ≡ Ending.Committed

abbrev pub HasRolled : Part → Type 0
HasRolled p = p.ending ≡ Ending.Rolled

abbrev pub IsClear : Part → Type 0
IsClear p = p.clear ≡ true

-- its superior waits for it no more, and has nothing to report of it
abbrev pub IsOver : Part → Type 0
IsOver p = HasLeft p ⊎ IsClear p

-- it has not voted and not committed: branches may enter below it
abbrev pub TakesBranches : Part → Type 0
TakesBranches p = (p.vote ≡ Vote.Unvoted) × (p.ending ≢ Ending.Committed)

-- the superior of p is in the tree, and P holds of it
abbrev pub Superior : Tree → Part → (Part → Type 0) → Type 0
Superior s p P = (m : ℕ) × (q : Part) × (p.superior ≡ Some m) × (s m ≡ Some q) × P q

-- P holds of each branch of the node n
abbrev pub EachBranch : Tree → ℕ → (Part → Type 0) → Type 0
EachBranch s n P = (m : ℕ) (q : Part) → s m ≡ Some q → q.superior ≡ Some n → P q

-- it is the root, and nobody is there yet; or a branch of a node that takes branches
abbrev pub MayEnter : Tree → Part → Type 0
MayEnter s p = (IsRoot p × ((m : ℕ) → s m ≡ None)) ⊎ Superior s p TakesBranches

-- ---- the seven actions

abbrev pub entering : Option ℕ → Part
entering m = record { superior = m; vote = Vote.Unvoted; ending = Ending.Open; decision = None; clear = false }

-- what the node n may do in the tree s: it was the first part, or not in the tree, and becomes the second
pub data Acts (s : Tree) (n : ℕ) : Option Part → Part → Type 0 where
  -- a node enters the tree
  Enters : (m : Option ℕ) → MayEnter s (entering m) → Acts s n None (entering m)
  -- a branch votes once each of its own branches has voted
  Votes : (p : Part) → (p.superior ≢ None) → IsActive p → EachBranch s n HasVoted → Acts s n (Some p) (record p { vote = Vote.Ready })
  -- it leaves instead where each of them left
  Leaves : (p : Part) → (p.superior ≢ None) → IsActive p → EachBranch s n HasLeft → Acts s n (Some p) (record p { vote = Vote.Left })
  -- the root commits once each of its branches has voted; a branch that is ready commits once its superior has
  Commits : (p : Part) → (IsRoot p × IsActive p × EachBranch s n HasVoted) ⊎ (IsInDoubt p × Superior s p HasCommitted)
      → Acts s n (Some p) (record p { ending = Ending.Committed })
  -- a node rolls back at will until it votes; one that is ready rolls back once its superior has
  Rolls : (p : Part) → IsActive p ⊎ (IsInDoubt p × Superior s p HasRolled) → Acts s n (Some p) (record p { ending = Ending.Rolled })
  -- while it is in doubt it may decide on its own, once; it still ends as its superior does
  Decides : (p : Part) (o : Outcome) → IsInDoubt p → (p.decision ≡ None) → Acts s n (Some p) (record p { decision = Some o })
  -- its commitment is complete with no report where it did not decide against it, and each of its branches left or is complete so
  Completes : (p : Part) → HasCommitted p → (p.clear ≡ false) → (p.decision ≢ Some Outcome.Rollback) → EachBranch s n IsOver
      → Acts s n (Some p) (record p { clear = true })

-- ---- a run: from the tree with no node, one action after the other

abbrev pub with_part : Tree → ℕ → Part → Tree
with_part s n p m = if n == m then Some p else s m

-- t is s after one action of one node
pub record Steps (s t : Tree) : Type 0 where
  pub node : ℕ
  pub part : Part
  pub acts : Acts s node (s node) part
  pub then_so : (m : ℕ) → t m ≡ with_part s node part m

pub data Reached : Tree → Type 0 where
  first : (s : Tree) → ((m : ℕ) → s m ≡ None) → Reached s
  later : (s t : Tree) → Reached s → Steps s t → Reached t

-- ---- what holds in every run: the three sentences
--
-- Votes go up the tree and endings go down. The root commits only over branches that have voted, and so each over its own; one that has voted
-- ends as its superior does. So where one node commits the root has, and nobody is left who could roll back.

-- what its user is told: its decision, and else how it ended
abbrev pub told : Part → Option Outcome
told p = elim p.decision [
  | Some o ↦ Some o
  | None ↦ elim p.ending [ Ending.Open ↦ None | Ending.Committed ↦ Some Outcome.Commit | Ending.Rolled ↦ Some Outcome.Rollback ]
]

-- it committed, its user was told so, and no report came
abbrev pub HasCompleted : Part → Type 0
HasCompleted p = HasCommitted p × (told p ≡ Some Outcome.Commit) × IsClear p

-- 1. Of two nodes that are told different outcomes, at least one decided on its own.
abbrev pub OneOutcome : Tree → Type 0
OneOutcome s =
    (m n : ℕ) (p q : Part) (o u : Outcome) → s m ≡ Some p → s n ≡ Some q → told p ≡ Some o → told q ≡ Some u → o ≢ u → (p.decision ≢ None) ⊎ (q.decision ≢ None)

-- For, whatever was decided: where one node committed, none rolled back.
abbrev pub CommitsAlone : Tree → Type 0
CommitsAlone s = (m n : ℕ) (p q : Part) → s m ≡ Some p → s n ≡ Some q → HasCommitted p → HasRolled q → ⊥

-- 2. Where the root's commitment is complete with no report, every node that did not leave has completed so.
abbrev pub ReportFree : Tree → Type 0
ReportFree s = (r : ℕ) (p : Part) → s r ≡ Some p → IsRoot p → IsClear p → (n : ℕ) (q : Part) → s n ≡ Some q → HasLeft q ⊎ HasCompleted q

-- 3. Where no node rolled back or decided to, and the most that any could still do is to roll back or decide, every node that did not leave
-- has completed so; and there alone. So a tree stops short of its end only where something fails.
abbrev pub IsUndisturbed : Tree → Type 0
IsUndisturbed s = (n : ℕ) (p : Part) → s n ≡ Some p → (p.ending ≢ Ending.Rolled) × (p.decision ≢ Some Outcome.Rollback)

abbrev pub IsAtRest : Tree → Type 0
IsAtRest s = (n : ℕ) (p q : Part) → s n ≡ Some p → Acts s n (Some p) q → HasRolled q ⊎ (q.decision ≢ p.decision)

abbrev pub AllCompleted : Tree → Type 0
AllCompleted s = (n : ℕ) (p : Part) → s n ≡ Some p → HasLeft p ⊎ HasCompleted p

abbrev pub RestCompletes : Tree → Type 0
RestCompletes s = IsUndisturbed s → IsAtRest s → AllCompleted s

abbrev pub CompletedRests : Tree → Type 0
CompletedRests s = AllCompleted s → IsUndisturbed s × IsAtRest s

pub record KeepsSentences (s : Tree) : Type 0 where
  pub one_outcome : OneOutcome s
  pub commits_alone : CommitsAlone s
  pub report_free : ReportFree s
  pub rest_completes : RestCompletes s
  pub completed_rests : CompletedRests s
