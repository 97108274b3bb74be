-- What nodes forced, started and took in the runs of the worked examples, and what their users were told.
use Rattle.std.specs.Prelude.{ℕ, suc, ◌==◌, ◌&&◌, ◌++◌, not, codes, Bool, true, false, Some, None, List, [], ◌∷◌, reverse}
use Rattle.tp_names.specs.declared.identifiers.NodeKey.{NodeKey}
use Rattle.tp_names.specs.declared.outcome.Outcome.{Outcome}
use Rattle.tp_names.specs.declared.outcome.Report.{Report}
use Rattle.tp_names.specs.Same.{is_aaid}
use Rattle.tp_names.specs.Reports.{is_report_none}
use Rattle.tp_records.specs.declared.peer.PeerRecord.{PeerRecord}
use Rattle.tp_records.specs.declared.peer.RecState.{RecState}
use Rattle.tp_logrec.specs.declared.record.LogRec.{LogRec}
use Rattle.tp_model.specs.declared.line.Action.{Action}
use Rattle.tp_model.specs.declared.line.LineRequest.{LineRequest}
use Rattle.tp_model.specs.declared.out_line.LogWords.{LogWords}
use Rattle.tp_model.specs.Parts.{Event, Entry, Current}
use Rattle.tp_model.specs.Dialogues.{is_committing}
use Rattle.tp_model.specs.Transactions.{aaid_of}
use Rattle.tp_model.specs.Arrivals.{find_branch_by_id}
use Rattle.tp_model.specs.Happenings.{Happening, Does, Crash, log_shown, run}
use Rattle.tp_model.specs.World.{Node}
use Rattle.tp_model.specs.Trees.{closing}
use Rattle.tp_model.specs.Promises.{tells_commit, tells_rollback, has_told_in}
use Rattle.tp_histories.specs.Members.{has_taken_begin}
use Rattle.tp_forced.specs.TreeLog.{forced_of}
use Rattle.tp_forced.specs.Taken.{times_taken}
use Rattle.tp_outcomes.specs.Starting.{starts, times_in, lines_of}
use Rattle.tp_report_causes.specs.Causes.{tells_committed, tells_rolled_back, is_awaited, has_met, has_heard, has_given_up}
use Rattle.tp_trials.specs.Trials.{begun, deep_readied, told_unknown, damaged, tree, branch, lower_branch, first_mark, node_after}

-- ---- more runs

-- a node takes the Begin of its superior, which is delivered again
abbrev pub begun_twice : List Happening
begun_twice = begun ++ (Does (Action.Again 3) ∷ [])

-- the root is asked twice by one question
abbrev pub asked_twice : List Happening
asked_twice = told_unknown ++ (Does (Action.Again 7) ∷ [])

-- the second node gives up its ready branch, and the root hears so
abbrev pub given_up : List Happening
given_up =
    deep_readied
    ++ (Does (Action.Again 10)
    ∷ Does (Action.Again 11)
    ∷ Does (Action.GiveUp 2 3)
    ∷ Does (Action.Do 2 LineRequest.Done)
    ∷ Does (Action.Again 14)
    ∷ Does (Action.Do 1 LineRequest.Done)
    ∷ [])

-- the branch decided to commit by itself, rolls with its superior and is done with it
abbrev pub backed : List Happening
backed = damaged ++ (Does (Action.Do 2 LineRequest.Done) ∷ Does (Action.Again 5) ∷ Does (Action.Again 7) ∷ Does (Action.Again 8) ∷ [])

-- the last of three nodes decides to roll back by itself and stops; it learns the order, and says Done, beside the associations
abbrev pub deep_mixed : List Happening
deep_mixed =
    deep_readied
    ++ (Does (Action.Heur 3 Outcome.Rollback)
    ∷ Does (Action.Again 10)
    ∷ Does (Action.Again 11)
    ∷ Crash (codes "c")
    ∷ Does (Action.Retry 3)
    ∷ Does (Action.Again 13)
    ∷ Does (Action.Again 14)
    ∷ Does (Action.Do 3 LineRequest.Done)
    ∷ Does (Action.Again 15)
    ∷ Does (Action.Do 2 LineRequest.Done)
    ∷ Does (Action.Again 17)
    ∷ Does (Action.Do 1 LineRequest.Done)
    ∷ [])

-- the second of three nodes gives up the last, which decided to roll back by itself, and tells its user; then it learns of the mix, and
-- says so to the root
abbrev pub late_mix : List Happening
late_mix =
    deep_readied
    ++ (Does (Action.Heur 3 Outcome.Rollback)
    ∷ Does (Action.Again 10)
    ∷ Does (Action.Again 11)
    ∷ Crash (codes "c")
    ∷ Does (Action.Retry 3)
    ∷ Does (Action.Again 13)
    ∷ Does (Action.Again 14)
    ∷ Does (Action.Do 3 LineRequest.Done)
    ∷ Does (Action.GiveUp 2 3)
    ∷ Does (Action.Lose 2 1)
    ∷ Does (Action.Do 2 LineRequest.Done)
    ∷ Does (Action.Again 15)
    ∷ Does (Action.Retry 2)
    ∷ Does (Action.Again 19)
    ∷ Does (Action.Do 1 LineRequest.Done)
    ∷ [])

-- ---- what was forced of the tree, newest first

abbrev pub words_of : List LogRec → List LogWords
words_of [] = []
words_of (r ∷ rs) = log_shown r ∷ words_of rs

abbrev pub forced_after : List Happening → ℕ → List LogWords
forced_after es n = elim (node_after es n) [ None ↦ [] | Some x ↦ words_of (forced_of tree x) ]

abbrev pub root_key : NodeKey
root_key = record { aaid = tree; branch = None }

abbrev pub first_key : NodeKey
first_key = record { aaid = tree; branch = Some branch }

abbrev pub second_key : NodeKey
second_key = record { aaid = tree; branch = Some lower_branch }

-- ---- what was taken

-- the second node took the record with that number of its association with the first so often
abbrev pub taken_after : List Happening → ℕ → ℕ
taken_after es q = elim (node_after es 2) [ None ↦ 0 | Some x ↦ times_taken 1 (first_mark 1) (first_mark 2) q x.history ]

-- so often a node took a question of a ready branch
abbrev pub is_question : Event → Bool
is_question (Event.Arrive a (PeerRecord.RecReady t b)) = true
is_question _ = false

abbrev pub questions_in : List Entry → ℕ
questions_in [] = 0
questions_in (e ∷ h) = elim (is_question e.event) [ true ↦ suc (questions_in h) | false ↦ questions_in h ]

abbrev pub questions_after : List Happening → ℕ → ℕ
questions_after es n = elim (node_after es n) [ None ↦ 0 | Some x ↦ questions_in x.history ]

-- ---- what was told, and where the tree stands

abbrev pub is_told_commit : Node → Bool
is_told_commit x = has_told_in tells_commit x.origin tree x.history

abbrev pub is_told_rollback : Node → Bool
is_told_rollback x = has_told_in tells_rollback x.origin tree x.history

abbrev pub has_started : Node → Bool
has_started x = times_in tree (starts x.origin x.history) == 1

abbrev pub took_begin : Node → Bool
took_begin x = has_taken_begin tree x.history

abbrev pub listed_after : List Happening → ℕ
listed_after es = times_in tree (run (reverse es)).trees

abbrev pub closed_after : List Happening → ℕ
closed_after es = lines_of tree (closing (run (reverse es)))

-- ---- reports, and where they come from

abbrev pub commits_with : Report → Node → Bool
commits_with r x = has_told_in (tells_committed r) x.origin tree x.history

abbrev pub rolls_with : Report → Node → Bool
rolls_with r x = has_told_in (tells_rolled_back r) x.origin tree x.history

abbrev pub hears_of : Report → Node → Bool
hears_of r x = has_heard r tree x

abbrev pub gave_up : Node → Bool
gave_up x = has_given_up tree x

-- an awaited branch's report came as a reply
abbrev pub replies : Current → Event → Bool
replies c (Event.Arrive a (PeerRecord.RecReply u b (RecState.Done r))) = is_committing c.phase
    && is_awaited (find_branch_by_id c.branches b) && is_aaid (aaid_of c.key) u && not (is_report_none r)
replies c _ = false

abbrev pub was_replied : Node → Bool
was_replied x = has_met replies x.origin tree x.history
