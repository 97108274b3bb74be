-- The rules of a transaction by name. An event sets off at most three of them, each at what the one before
-- it leaves. What a rule does stands with the definitions of the service; here are its names alone.
use Rattle.std.specs.Prelude.{ℕ, zero, suc, ◌≡◌, ◌&&◌, ◌||◌, not, Bool, true, false, if◌then◌else◌, Option, Some, None, List, [], ◌∷◌, ◌++◌}
use Rattle.tp_names.specs.declared.outcome.Outcome.{Outcome}
use Rattle.tp_names.specs.declared.outcome.Report.{Report}
use Rattle.tp_names.specs.Reports.{join, is_report_none}
use Rattle.tp_records.specs.declared.peer.PeerRecord.{PeerRecord}
use Rattle.tp_records.specs.declared.indication.Indication.{Indication}
use Rattle.tp_records.specs.declared.dialogue.DialogueRecord.{DialogueRecord}
use Rattle.tp_logrec.specs.declared.record.LogRec.{LogRec}
use Rattle.tp_model.specs.declared.arc.Phase.{Phase}
use Rattle.tp_model.specs.declared.transaction.TxEvent.{TxEvent}
use Rattle.tp_model.specs.declared.transaction.TxOut.{TxOut}
use Rattle.tp_model.specs.Parts.{Root, Under}
use Rattle.tp_model.specs.Dialogues.{is_active, is_rolling}
use Rattle.tp_model.specs.Transactions.{Transaction, Turn, turn, and_then, with_row, with_branch, with_arc_lost, find_row, ask_commit, leave, count_branch, end_branch, branch_left, settle, order, begin_rolling, complete_commit, complete_rollback, log_heuristic, retried, all_done, all_rolled_back, all_settled, own_damage, reports_of, is_under_at, row_holds, is_waited_for, roll, transacted, logging, log_end, log_damage, owed_of, forgets, aaid_of, done_up, ends_down, end_up}
use Rattle.tp_commit.specs.declared.rule.Rule.{Rule}
use Rattle.tp_commit.specs.declared.rule.Course.{Course}

-- ---- when the rules that complete may

abbrev pub is_committed : Transaction → Bool
is_committed t = not t.owes && all_done t.rows

abbrev pub is_rolled_back : Transaction → Bool
is_rolled_back t = not t.owes && all_rolled_back t.rows && (t.superior_rolled || not t.up)

abbrev pub is_settled : Transaction → Bool
is_settled t = is_active t.phase && t.asked && all_settled t.rows

-- ---- the rules

-- mix where the node decided to roll back, and what is reported of the branches
abbrev pub final_report : Transaction → Report
final_report t = join (own_damage t.decision) (reports_of t.rows)

-- what a commitment that is complete logs with that report
abbrev pub completion_rec : Transaction → Report → LogRec
completion_rec t r = if is_report_none r then log_end t Outcome.Commit else log_damage t Outcome.Commit r (owed_of t.rows)

-- and what it says
abbrev pub said_at_completion : Transaction → Report → List TxOut
said_at_completion t r = forgets (aaid_of t.key) t.rows ++ done_up t r ++ (TxOut.Tell (Indication.CommitComplete r) ∷ []) ++ ends_down t.rows ++ end_up t

-- a ready node asks its superior
abbrev pub ask_superior : Transaction → List TxOut
ask_superior t = elim t.key [ Root a ↦ [] | Under a b s ↦ TxOut.Recovery s (PeerRecord.RecReady a b) ∷ [] ]

-- the branch is given up, and its arc is shut where it is live
abbrev pub give_up_branch : ℕ → Transaction → Turn
give_up_branch p t = elim (find_row t.rows p) [
  | None ↦ turn [] t
  | Some r ↦
      turn
      (if r.live then TxOut.Shut p ∷ [] else [])
      (with_row t p (λ q. record q { branch = record q.branch { given_up = true }; live = false; ends = false }))
]

abbrev pub turn_of : Rule → Transaction → Turn
turn_of Rule.Nothing t = turn [] t
turn_of (Rule.Prepare p) t = turn (TxOut.Carry p DialogueRecord.Prepare ∷ []) (with_branch t p (λ b. record b { prepared = true }))
turn_of (Rule.DeferEnd p) t = turn (TxOut.Carry p DialogueRecord.DeferEnd ∷ []) (with_row t p (λ r. record r { ends = true }))
turn_of (Rule.DeferGrant p) t = turn (TxOut.Carry p DialogueRecord.DeferGrant ∷ []) t
turn_of (Rule.Abort p) t = turn (TxOut.Carry p DialogueRecord.UAbort ∷ TxOut.Close p ∷ []) (with_arc_lost t p)
turn_of Rule.AskCommit t = ask_commit t
turn_of Rule.Finish t = turn [] (record t { owes = false })
turn_of Rule.Leave t = leave t
turn_of Rule.TakePrepare t = turn (TxOut.Tell Indication.Prepare ∷ []) (record t { told_prepare = true })
turn_of (Rule.TakeDeferEnd p) t = turn (TxOut.Tell (Indication.DeferEnd p) ∷ []) (record t { up_ends = true })
turn_of (Rule.TakeDeferGrant p) t = turn (TxOut.Tell (Indication.DeferGrant p) ∷ []) t
turn_of Rule.NoteRollback t = turn [] (record t { superior_rolled = true })
turn_of (Rule.CountBranch p) t = count_branch p t
turn_of (Rule.EndBranch p r) t = end_branch p r t
turn_of (Rule.BranchLeft p) t = branch_left p t
turn_of (Rule.CloseArc p) t = turn (TxOut.Close p ∷ []) (with_row t p (λ r. record r { live = false; ends = false }))
turn_of (Rule.Aborted p) t = turn (TxOut.Tell (Indication.UAbort p) ∷ []) (with_arc_lost t p)
turn_of (Rule.Lost p) t = turn (TxOut.Tell (Indication.PAbort p) ∷ []) (with_arc_lost t p)
turn_of Rule.Settle t = settle t
turn_of Rule.Order t = order t
turn_of (Rule.BeginRolling asked) t = begin_rolling asked t
turn_of Rule.CompleteCommit t = complete_commit t
turn_of Rule.CompleteRollback t = complete_rollback t
turn_of (Rule.Decide o) t = logging (Some (log_heuristic t o)) (turn [] (record t { decision = Some o }))
turn_of (Rule.GiveUp p) t = give_up_branch p t
turn_of Rule.Retry t = turn (retried t) t

abbrev pub run : Course → Transaction → Turn
run c t = and_then (turn_of c.first t) (λ u. and_then (turn_of c.second u) (turn_of c.third))

-- ---- where a course may stop

-- after so many of its rules; it has no more than three
abbrev pub after_rules : ℕ → Course → Transaction → Transaction
after_rules zero c t = t
after_rules (suc zero) c t = (turn_of c.first t).next
after_rules (suc (suc zero)) c t = (turn_of c.second (turn_of c.first t).next).next
after_rules (suc (suc (suc n))) c t = (run c t).next

-- after some of its rules, or none
abbrev pub IsAlong : Course → Transaction → Transaction → Type 0
IsAlong c t u = (n : ℕ) × (u ≡ after_rules n c t)

-- ---- what events set off

-- the rule by which a transaction completes, by its phase
abbrev pub completion : Phase → Rule
completion Phase.Nil = Rule.Nothing
completion Phase.Active = Rule.Nothing
completion Phase.Ready = Rule.Nothing
completion Phase.Committing = Rule.CompleteCommit
completion Phase.Rolling = Rule.CompleteRollback

-- the superior's arc, or that of a branch neither counted nor left
abbrev pub is_needed : Transaction → ℕ → Bool
is_needed t p = is_under_at t.key p || row_holds t.rows p is_waited_for

-- after the rule by which an arc is lost: in active the node rolls where it still needs it
abbrev pub lost_by : Rule → ℕ → Transaction → Turn
lost_by loss p t =
    if is_active t.phase && is_needed t p then and_then (turn_of loss t) (roll false)
    else if is_rolling t.phase then and_then (turn_of loss t) complete_rollback
    else turn_of loss t

-- an event but for the branches that it begins
abbrev pub set_off : TxEvent → Transaction → Turn
set_off (TxEvent.Begun cs) t = turn [] t
set_off (TxEvent.User r) t = transacted (TxEvent.User r) t
set_off (TxEvent.Took p r) t = transacted (TxEvent.Took p r) t
set_off (TxEvent.Lost p) t = transacted (TxEvent.Lost p) t
set_off (TxEvent.Heur o) t = transacted (TxEvent.Heur o) t
set_off (TxEvent.GiveUp p) t = transacted (TxEvent.GiveUp p) t
set_off TxEvent.Ordered t = transacted TxEvent.Ordered t
set_off (TxEvent.Reply b s) t = transacted (TxEvent.Reply b s) t
set_off TxEvent.Retry t = transacted TxEvent.Retry t

-- after some of the rules that an event sets off, or none
abbrev pub StopsAlong : TxEvent → Transaction → Transaction → Type 0
StopsAlong e t u = (c : Course) × (run c t ≡ set_off e t) × IsAlong c t u

-- of two records the later one
abbrev pub later : Option LogRec → Option LogRec → Option LogRec
later first None = first
later first (Some r) = Some r
