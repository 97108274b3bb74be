-- What the page sees of some runs of two nodes and of three: for each of its actions one in which a node does it.
use Rattle.std.specs.Prelude.{ℕ, ◌≡◌, true, Option, Some, None, List, reverse}
use Rattle.tp_names.specs.declared.outcome.Outcome.{Outcome}
use Rattle.tp_model.specs.Happenings.{Happening, run}
use Rattle.tp_tree_commit.specs.TreeCommit.{Vote, Ending, Part, entering}
use Rattle.tp_refinement.specs.Refinement.{tree_in}
use Rattle.tp_trials.specs.Trials.{begun, readied, committed, rolled_back, mixed, departed, recovered, deep_completed, tree}

-- the part of a node after the happenings, which stand oldest first
abbrev pub part_after : List Happening → ℕ → Option Part
part_after es n = tree_in (run (reverse es)) tree n

-- the root, and its branch, as they enter
abbrev pub root : Part
root = entering None

abbrev pub branch : Part
branch = entering (Some 1)

abbrev pub ready : Part
ready = record branch { vote = Vote.Ready }

abbrev pub is_over : Part → Part
is_over p = record p { ending = Ending.Committed; clear = true }

-- ---- the seven actions

abbrev pub Enter : Type 0
Enter = (part_after begun 1 ≡ Some root) × (part_after begun 2 ≡ Some branch)

abbrev pub Vote_ready : Type 0
Vote_ready = (part_after readied 1 ≡ Some root) × (part_after readied 2 ≡ Some ready)

abbrev pub Leave : Type 0
Leave = part_after departed 2 ≡ Some (record branch { vote = Vote.Left })

-- also where the branch's site stops in between, and the order comes beside the association
abbrev pub Commit : Type 0
Commit =
    (part_after committed 1 ≡ Some (record root { ending = Ending.Committed })) × (part_after committed 2 ≡ Some (record ready { ending = Ending.Committed }))
    × (part_after recovered 2 ≡ Some (record ready { ending = Ending.Committed }))

abbrev pub Roll_back : Type 0
Roll_back = (part_after rolled_back 1 ≡ Some (record root { ending = Ending.Rolled }))
    × (part_after rolled_back 2 ≡ Some (record ready { ending = Ending.Rolled }))

-- the branch decides to roll back, and is told later that its superior committed
abbrev pub Decide : Type 0
Decide = part_after mixed 2 ≡ Some (record ready { ending = Ending.Committed; decision = Some Outcome.Rollback })

-- all three levels
abbrev pub Complete : Type 0
Complete =
    (part_after deep_completed 1 ≡ Some (is_over root)) × (part_after deep_completed 2 ≡ Some (is_over ready))
    × (part_after deep_completed 3 ≡ Some (is_over (record (entering (Some 2)) { vote = Vote.Ready })))
