-- What one node of a tree without a failure says and heeds, for worked examples: in a tree of four nodes, while its order to the
-- last of them is not taken, while the root's user owes its done, and when it is drained.
use Rattle.std.specs.Prelude.{ℕ, ◌&&◌, ◌||◌, not, Bool, false, Some, None, List, [], ◌∷◌}
use Rattle.tp_names.specs.Same.{is_aaid}
use Rattle.tp_names.specs.Reports.{is_report_none}
use Rattle.tp_records.specs.declared.dialogue.DialogueRecord.{DialogueRecord}
use Rattle.tp_model.specs.Parts.{Current, Entry}
use Rattle.tp_model.specs.Dialogues.{is_committing}
use Rattle.tp_model.specs.Arcs.{is_live_with_peer}
use Rattle.tp_model.specs.Transactions.{aaid_of, is_under_at}
use Rattle.tp_model.specs.Requests.{has_branch_at}
use Rattle.tp_model.specs.History.{digest}
use Rattle.tp_model.specs.Outcomes.{decided, rolled, is_unchanged, tells_complete_none, completed_none}
use Rattle.tp_model.specs.Promises.{has_told_in}
use Rattle.tp_model.specs.Questions.{tells_commit_complete}
use Rattle.tp_model.specs.Questions.{said_to, has_said, is_left_record}
use Rattle.tp_model.specs.World.{Node}
use Rattle.tp_steps.specs.Facts.{is_vote, is_order}
use Rattle.tp_steps.specs.Passages.{is_commit_rec}
use Rattle.tp_steps.specs.Heeding.{is_answer, has_answered, has_ended}
use Rattle.tp_steps.specs.Outspoken.{is_ready_rec}
use Rattle.tp_failure_free.specs.Drained.{branch_is, took_in, is_done, took_clear}
use Rattle.tp_trials.specs.DrainedTrials.{tree_of_four}

-- ---- questions to a node

abbrev pub of_current : (Current → Bool) → Node → Bool
of_current f x = elim (digest x.origin x.history).current [ None ↦ false | Some c ↦ f c ]

-- the branch with the peer has not ended, and its arc is live
abbrev pub waits_for : ℕ → Node → Bool
waits_for p x = of_current (λ c. branch_is (λ b. not (has_ended b)) c p && is_live_with_peer (digest x.origin x.history).arcs p) x

-- the transaction came from the peer, and its arc is live
abbrev pub stands_under : ℕ → Node → Bool
stands_under p x = of_current (λ c. is_under_at c.key p && is_live_with_peer (digest x.origin x.history).arcs p) x

abbrev pub has_seen : (Entry → Bool) → List Entry → Bool
has_seen f [] = false
has_seen f (e ∷ h) = f e || has_seen f h

-- an entry that logs Ready says so to the peer
abbrev pub said_ready : ℕ → Node → Bool
said_ready p x = has_seen (λ e. is_ready_rec e.rec && has_said is_vote (said_to p e.outs)) x.history

-- an entry that logs Commit orders it to the peer
abbrev pub said_commit : ℕ → Node → Bool
said_commit p x = has_seen (λ e. is_commit_rec e.rec && has_said is_order (said_to p e.outs)) x.history

abbrev pub is_clear_done : DialogueRecord → Bool
is_clear_done (DialogueRecord.Done r) = is_report_none r
is_clear_done _ = false

-- an entry that tells that the commitment is complete with no report says so to the peer
abbrev pub said_done : ℕ → Node → Bool
said_done p x = has_seen (λ e. tells_complete_none e.outs && has_said is_clear_done (said_to p e.outs)) x.history

-- an entry that leaves says so to the peer
abbrev pub said_left : ℕ → Node → Bool
said_left p x = has_seen (λ e. is_unchanged e.event && has_said is_left_record (said_to p e.outs)) x.history

-- an answer of the peer was taken in the tree, and its branch has answered
abbrev pub heeded_answer : ℕ → Node → Bool
heeded_answer p x = took_in (λ d. is_aaid tree_of_four (aaid_of d.key)) is_answer x.origin p x.history && of_current (λ c. branch_is has_answered c p) x

-- an order of the peer was taken in the tree, and Commit is logged
abbrev pub heeded_order : ℕ → Node → Bool
heeded_order p x = took_in (λ d. is_aaid tree_of_four (aaid_of d.key) && is_under_at d.key p) is_order x.origin p x.history
    && decided x.origin tree_of_four x.history

-- a Done of the peer was taken in the tree, and its branch has ended
abbrev pub heeded_done : ℕ → Node → Bool
heeded_done p x =
    took_in (λ d. is_aaid tree_of_four (aaid_of d.key) && is_committing d.phase && has_branch_at d.branches p) is_done x.origin p x.history
    && of_current (λ c. branch_is has_ended c p) x

-- no report was taken in the tree, and its commitment is complete with none
abbrev pub ended_clear : Node → Bool
ended_clear x = took_clear tree_of_four x.origin x.history && has_told_in tells_commit_complete x.origin tree_of_four x.history
    && completed_none x.origin tree_of_four x.history

abbrev pub never_rolled : Node → Bool
never_rolled x = not (rolled x.origin tree_of_four x.history)
