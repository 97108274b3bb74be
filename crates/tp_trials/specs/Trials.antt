-- Runs of two nodes, and of three, for worked examples of the laws: one that commits, one whose branch recovers, one that rolls
-- back, one that is mixed by a decision, one whose branch leaves, one in which control is passed, and trees of three levels.
use Rattle.std.specs.Prelude.{ℕ, ◌==◌, ◌&&◌, Bool, true, false, Option, Some, None, List, [], ◌∷◌, ◌++◌, reverse, codes}
use Rattle.tp_names.specs.declared.identifiers.Aaid.{Aaid}
use Rattle.tp_names.specs.declared.identifiers.Mark.{Mark}
use Rattle.tp_names.specs.declared.identifiers.BranchId.{BranchId}
use Rattle.tp_names.specs.declared.outcome.Outcome.{Outcome}
use Rattle.tp_records.specs.declared.dialogue.DialogueRecord.{DialogueRecord}
use Rattle.tp_model.specs.declared.line.Action.{Action}
use Rattle.tp_model.specs.declared.line.LineRequest.{LineRequest}
use Rattle.tp_model.specs.Arcs.{is_live_with_peer}
use Rattle.tp_model.specs.History.{digest}
use Rattle.tp_model.specs.Outcomes.{is_member, completed_none, decided, rolled, decision, has_left, told}
use Rattle.tp_model.specs.World.{Node, find_node, addr_of}
use Rattle.tp_model.specs.Happenings.{Happening, Declare, Does, Crash, run}
use Rattle.tp_model.specs.Promises.{is_counted, has_begun, is_of_tree, has_logged, holds_at, has_told_in, has_sent_done_none, is_root, is_ready_of_branch}
use Rattle.tp_model.specs.Questions.{tells_commit_complete}
use Rattle.tp_steps.specs.Facts.{is_order, is_vote, is_end}
use Rattle.tp_histories.specs.Traces.{sent_on, accepted_on}
use Rattle.tp_histories.specs.Control.{answered}
use Rattle.tp_control.specs.Control.{given, returned}
use Rattle.tp_agreement.specs.Logs.{is_rollback_of}

-- ---- the runs, oldest first

-- a root with one branch, in a transaction
abbrev pub begun : List Happening
begun =
    Declare 1 (codes "a") None
    ∷ Declare 2 (codes "b") (Some 1)
    ∷ Does (Action.Do 1 (LineRequest.BeginDialogue 2 41))
    ∷ Does (Action.Again 1)
    ∷ Does (Action.Do 2 (LineRequest.Accept 41))
    ∷ Does (Action.Again 2)
    ∷ Does (Action.Do 1 (LineRequest.BeginTransaction 2))
    ∷ Does (Action.Again 3)
    ∷ []

-- both asked for commitment, and the branch is ready
abbrev pub readied : List Happening
readied = begun ++ (Does (Action.Do 1 LineRequest.Commit) ∷ Does (Action.Again 4) ∷ Does (Action.Do 2 LineRequest.Commit) ∷ [])

abbrev pub committed : List Happening
committed = readied ++ (Does (Action.Again 5) ∷ Does (Action.Again 6) ∷ [])

-- the branch decided to commit by itself, and its superior rolls
abbrev pub damaged : List Happening
damaged = readied ++ (Does (Action.Heur 2 Outcome.Commit) ∷ Does (Action.Do 1 LineRequest.Rollback) ∷ Does (Action.Again 6) ∷ [])

-- the branch's site stops when it is ready; the order comes as a reply
abbrev pub recovered : List Happening
recovered = readied ++ (Crash (codes "b") ∷ Does (Action.Again 5) ∷ Does (Action.Retry 2) ∷ Does (Action.Again 7) ∷ Does (Action.Again 8) ∷ [])

abbrev pub rolled_back : List Happening
rolled_back = readied ++ (Does (Action.Do 1 LineRequest.Rollback) ∷ Does (Action.Again 6) ∷ [])

-- the branch decided to roll back by itself
abbrev pub mixed : List Happening
mixed = readied ++ (Does (Action.Heur 2 Outcome.Rollback) ∷ Does (Action.Again 5) ∷ Does (Action.Again 6) ∷ [])

-- the branch changed nothing
abbrev pub departed : List Happening
departed = begun ++ (Does (Action.Do 1 LineRequest.Commit) ∷ Does (Action.Again 4) ∷ Does (Action.Do 2 LineRequest.Unchanged) ∷ [])

-- a polarized dialogue, in a transaction that the superior end holds control of at first
abbrev pub polarized : List Happening
polarized =
    Declare 1 (codes "a") None
    ∷ Declare 2 (codes "b") (Some 1)
    ∷ Does (Action.Do 1 (LineRequest.BeginDialogue 2 42))
    ∷ Does (Action.Again 1)
    ∷ Does (Action.Do 2 (LineRequest.Accept 42))
    ∷ Does (Action.Again 2)
    ∷ Does (Action.Do 1 (LineRequest.BeginTransaction 2))
    ∷ Does (Action.Again 3)
    ∷ []

abbrev pub granting : List Happening
granting = polarized ++ (Does (Action.Do 1 (LineRequest.Grant 2)) ∷ [])

abbrev pub granted : List Happening
granted = granting ++ (Does (Action.Again 4) ∷ [])

-- the branch grants it back
abbrev pub handed_back : List Happening
handed_back = granted ++ (Does (Action.Do 2 (LineRequest.Grant 1)) ∷ Does (Action.Again 5) ∷ [])

-- the transaction is over at both ends
abbrev pub regained : List Happening
regained =
    granted
    ++ (Does (Action.Do 1 LineRequest.Commit)
    ∷ Does (Action.Again 5)
    ∷ Does (Action.Do 2 LineRequest.Commit)
    ∷ Does (Action.Again 6)
    ∷ Does (Action.Again 7)
    ∷ Does (Action.Do 2 LineRequest.Done)
    ∷ Does (Action.Again 8)
    ∷ Does (Action.Do 1 LineRequest.Done)
    ∷ [])

-- the root rolls; its branch, which stopped before it heard so, asks and is told that it knows of nothing
abbrev pub told_unknown : List Happening
told_unknown = readied ++ (Does (Action.Do 1 LineRequest.Rollback) ∷ Crash (codes "b") ∷ Does (Action.Retry 2) ∷ Does
    (Action.Again 7) ∷ Does (Action.Again 8) ∷ [])

-- three nodes, each below the one before, in a transaction whose second node is told to prepare
abbrev pub deep : List Happening
deep =
    Declare 1 (codes "a") None
    ∷ Declare 2 (codes "b") (Some 1)
    ∷ Declare 3 (codes "c") (Some 2)
    ∷ Does (Action.Do 2 (LineRequest.BeginDialogue 3 41))
    ∷ Does (Action.Again 1)
    ∷ Does (Action.Do 3 (LineRequest.Accept 41))
    ∷ Does (Action.Again 2)
    ∷ Does (Action.Do 1 (LineRequest.BeginDialogue 2 41))
    ∷ Does (Action.Again 3)
    ∷ Does (Action.Do 2 (LineRequest.Accept 41))
    ∷ Does (Action.Again 4)
    ∷ Does (Action.Do 1 (LineRequest.BeginTransaction 2))
    ∷ Does (Action.Again 5)
    ∷ Does (Action.Do 2 (LineRequest.BeginTransaction 3))
    ∷ Does (Action.Again 6)
    ∷ Does (Action.Do 1 LineRequest.Commit)
    ∷ Does (Action.Again 7)
    ∷ []

-- the last leaves, and then the second
abbrev pub deep_departed : List Happening
deep_departed = deep ++ (Does (Action.Do 2 (LineRequest.Prepare 3)) ∷ Does (Action.Again 8) ∷ Does
    (Action.Do 3 LineRequest.Unchanged) ∷ Does (Action.Again 9) ∷ Does (Action.Do 2 LineRequest.Unchanged) ∷ [])

-- the last is ready, and then the second
abbrev pub deep_readied : List Happening
deep_readied = deep ++ (Does (Action.Do 2 LineRequest.Commit) ∷ Does (Action.Again 8) ∷ Does (Action.Do 3 LineRequest.Commit) ∷ Does (Action.Again 9) ∷ [])

-- the last is ready, and the second counts it, before it is asked for commitment itself
abbrev pub deep_counted : List Happening
deep_counted = deep ++ (Does (Action.Do 2 (LineRequest.Prepare 3)) ∷ Does (Action.Again 8) ∷ Does (Action.Do 3 LineRequest.Commit) ∷ Does (Action.Again 9) ∷ [])

-- each commits and is done, from the last up to the root
abbrev pub deep_completed : List Happening
deep_completed =
    deep_readied
    ++ (Does (Action.Again 10)
    ∷ Does (Action.Again 11)
    ∷ Does (Action.Again 12)
    ∷ Does (Action.Do 3 LineRequest.Done)
    ∷ Does (Action.Again 13)
    ∷ Does (Action.Do 2 LineRequest.Done)
    ∷ Does (Action.Again 14)
    ∷ Does (Action.Do 1 LineRequest.Done)
    ∷ [])

-- the same, but the last decided to roll back by itself; its superior tells it to forget, and reports it
abbrev pub deep_reported : List Happening
deep_reported =
    deep_readied
    ++ (Does (Action.Heur 3 Outcome.Rollback)
    ∷ Does (Action.Again 10)
    ∷ Does (Action.Again 11)
    ∷ Does (Action.Again 12)
    ∷ Does (Action.Do 3 LineRequest.Done)
    ∷ Does (Action.Again 13)
    ∷ Does (Action.Do 2 LineRequest.Done)
    ∷ Does (Action.Again 15)
    ∷ Does (Action.Do 1 LineRequest.Done)
    ∷ [])

-- the second and the last are done, and the root's user is not yet
abbrev pub deep_done : List Happening
deep_done = deep_readied ++ (Does (Action.Again 10) ∷ Does (Action.Again 11) ∷ Does (Action.Again 12) ∷ Does
    (Action.Do 3 LineRequest.Done) ∷ Does (Action.Again 13) ∷ Does (Action.Do 2 LineRequest.Done) ∷ [])

-- the last stops when it is ready, and learns the order, and says Done, beside the associations
abbrev pub deep_replied : List Happening
deep_replied =
    deep_readied
    ++ (Does (Action.Again 10)
    ∷ Does (Action.Again 11)
    ∷ Crash (codes "c")
    ∷ Does (Action.Retry 3)
    ∷ Does (Action.Again 13)
    ∷ Does (Action.Again 14)
    ∷ Does (Action.Do 3 LineRequest.Done)
    ∷ Does (Action.Again 15)
    ∷ Does (Action.Do 2 LineRequest.Done)
    ∷ Does (Action.Again 16)
    ∷ Does (Action.Do 1 LineRequest.Done)
    ∷ [])

-- the branch decided to roll back by itself, reports it and is told to forget; an old question is answered after that
abbrev pub forgotten : List Happening
forgotten =
    readied
    ++ (Does (Action.Heur 2 Outcome.Rollback)
    ∷ Does (Action.Again 5)
    ∷ Does (Action.Retry 1)
    ∷ Does (Action.Again 6)
    ∷ Does (Action.Do 2 LineRequest.Done)
    ∷ Does (Action.Again 8)
    ∷ Does (Action.Do 1 LineRequest.Done)
    ∷ Does (Action.Again 9)
    ∷ Does (Action.Again 7)
    ∷ [])

-- ---- what is asked of them

abbrev pub tree : Aaid
tree = record { owner = codes "a"; mark = record { boot = 1; node = 1; count = 2 } }

abbrev pub branch : BranchId
branch = record { superior = codes "a"; mark = record { boot = 1; node = 1; count = 3 } }

-- the branch of the second node
abbrev pub lower_branch : BranchId
lower_branch = record { superior = codes "b"; mark = record { boot = 1; node = 2; count = 3 } }

abbrev pub node_after : List Happening → ℕ → Option Node
node_after es n = find_node (run (reverse es)).nodes n

abbrev pub holds : (Node → Bool) → List Happening → ℕ → Bool
holds f es n = elim (node_after es n) [ None ↦ false | Some x ↦ f x ]

abbrev pub in_tree : Node → Bool
in_tree x = is_member x.origin tree x.history

abbrev pub has_committed : Node → Bool
has_committed x = decided x.origin tree x.history

abbrev pub has_rolled : Node → Bool
has_rolled x = rolled x.origin tree x.history

abbrev pub has_gone : Node → Bool
has_gone x = has_left x.origin tree x.history

abbrev pub is_linked : ℕ → Node → Bool
is_linked p x = is_live_with_peer (digest x.origin x.history).arcs p

-- the second node is the first one's branch
abbrev pub is_branch_of_first : List Happening → Bool
is_branch_of_first es = elim (node_after es 1) [ None ↦ false | Some x ↦ holds (λ y. has_begun tree branch (addr_of x) y.history) es 2 ]

abbrev pub has_voted : Node → Bool
has_voted x = has_logged (is_ready_of_branch tree branch) x

abbrev pub has_backed : Node → Bool
has_backed x = has_logged (is_rollback_of tree) x

abbrev pub has_logs : Node → Bool
has_logs x = has_logged (is_of_tree tree) x

-- the third node is the second one's branch, and voted
abbrev pub is_branch_of_second : List Happening → Bool
is_branch_of_second es = elim (node_after es 2) [ None ↦ false | Some x ↦ holds (λ y. has_begun tree lower_branch (addr_of x) y.history) es 3 ]

abbrev pub counts_below : Node → Bool
counts_below x = is_counted tree lower_branch x

abbrev pub has_voted_below : Node → Bool
has_voted_below x = has_logged (is_ready_of_branch tree lower_branch) x

-- the order was taken over the association; a vote, and an end, were sent on it
abbrev pub some_word : (DialogueRecord → Bool) → List DialogueRecord → Bool
some_word f [] = false
some_word f (r ∷ rs) = elim (f r) [ true ↦ true | false ↦ some_word f rs ]

abbrev pub first_mark : ℕ → Mark
first_mark n = record { boot = 1; node = n; count = 1 }

abbrev pub took_order : Node → Bool
took_order x = some_word is_order (accepted_on (first_mark 1) (first_mark 2) 1 x.history)

abbrev pub sent_vote : Node → Bool
sent_vote x = some_word is_vote (sent_on (first_mark 1) (first_mark 2) 1 x.history)

abbrev pub sent_end : Node → Bool
sent_end x = some_word is_end (sent_on (first_mark 1) (first_mark 2) 1 x.history)

abbrev pub told_after : List Happening → ℕ → Option Outcome
told_after es n = elim (node_after es n) [ None ↦ None | Some x ↦ told x.origin tree x.history ]

-- the user was told that the commitment is complete, with no report; and with any
abbrev pub is_clear : Node → Bool
is_clear x = completed_none x.origin tree x.history

abbrev pub is_complete : Node → Bool
is_complete x = has_told_in tells_commit_complete x.origin tree x.history

-- a Done with no report was sent, of the branch of the second node, and of the third
abbrev pub has_said_done : Node → Bool
has_said_done x = has_sent_done_none x.origin tree branch x.history

abbrev pub has_said_done_below : Node → Bool
has_said_done_below x = has_sent_done_none x.origin tree lower_branch x.history

abbrev pub is_first_root : Node → Bool
is_first_root x = is_root tree x

abbrev pub decision_after : List Happening → ℕ → Option Outcome
decision_after es n = elim (node_after es n) [ None ↦ None | Some x ↦ decision x.origin tree x.history ]

-- the end holds control of the dialogue
abbrev pub has_control : Node → Bool
has_control x = holds_at (first_mark 1) (first_mark 2) x

-- so many rounds are answered by the records taken, and so much was given after them in the records sent
abbrev pub gave_behind : ℕ → ℕ → Node → Bool
gave_behind k n x =
    (answered (accepted_on (first_mark 1) (first_mark 2) 2 x.history) == k) && (given k (sent_on (first_mark 1) (first_mark 2) 2 x.history) == n)

abbrev pub took_behind : ℕ → ℕ → Node → Bool
took_behind k n x =
    (answered (sent_on (first_mark 1) (first_mark 2) 1 x.history) == k) && (given k (accepted_on (first_mark 1) (first_mark 2) 1 x.history) == n)

-- so much came back in the round that is not answered
abbrev pub gave_back : ℕ → Node → Bool
gave_back n x = returned (answered (accepted_on (first_mark 1) (first_mark 2) 2 x.history)) (accepted_on (first_mark 1) (first_mark 2) 2 x.history) == n
