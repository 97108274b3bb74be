-- Commitments that end clear, that is with no report, and those that are kept for their damage. What a node knows of the ends of
-- its branches by then: each is done with no report, or has left.
use Rattle.std.specs.Prelude.{ℕ, ◌==◌, ◌≡◌, ◌⊎◌, ◌&&◌, ◌||◌, not, Bool, true, false, Option, Some, None, List, [], ◌∷◌}
use Rattle.tp_names.specs.declared.identifiers.Aaid.{Aaid}
use Rattle.tp_names.specs.declared.identifiers.BranchId.{BranchId}
use Rattle.tp_names.specs.declared.identifiers.Addr.{Addr}
use Rattle.tp_names.specs.declared.outcome.Outcome.{Outcome}
use Rattle.tp_names.specs.declared.outcome.Report.{Report}
use Rattle.tp_names.specs.Same.{is_aaid, is_key}
use Rattle.tp_names.specs.Reports.{is_report_none}
use Rattle.tp_records.specs.declared.dialogue.DialogueRecord.{DialogueRecord}
use Rattle.tp_records.specs.declared.peer.PeerRecord.{PeerRecord}
use Rattle.tp_records.specs.declared.peer.RecState.{RecState}
use Rattle.tp_logrec.specs.declared.record.LogRec.{LogRec}
use Rattle.tp_model.specs.declared.transaction.TxEvent.{TxEvent}
use Rattle.tp_model.specs.declared.recovery.Kept.{Kept}
use Rattle.tp_model.specs.Parts.{Event, Branch, Current, Digest}
use Rattle.tp_model.specs.Dialogues.{is_nil, is_committing, is_rolling}
use Rattle.tp_model.specs.Transactions.{Transaction, Turn, aaid_of, node_key, find_row_by_id, is_open_in_commit}
use Rattle.tp_model.specs.Recovery.{is_commit}
use Rattle.tp_model.specs.Arrivals.{branch_key}
use Rattle.tp_model.specs.Node.{is_leaving}
use Rattle.tp_steps.specs.Turns.{falls}
use Rattle.tp_steps.specs.Moves.{IsRecoveryIn}
use Rattle.tp_steps.specs.Passages.{asks_tell, IsPassed}
use Rattle.tp_steps.specs.Branches.{may_leave}
use Rattle.tp_steps.specs.Owing.{is_damage_rec}
use Rattle.tp_agreement.specs.Owing.{UnmarkedAt, UnmarkedRow, KeptWith}
use Rattle.tp_steps.specs.Clearing.{is_complete_none, has_damage}

-- the record ends a commitment
abbrev pub is_clear_rec : Option LogRec → Bool
is_clear_rec None = false
is_clear_rec (Some (LogRec.Boot n)) = false
is_clear_rec (Some (LogRec.Ready n k s cs)) = false
is_clear_rec (Some (LogRec.Heuristic n k o)) = false
is_clear_rec (Some (LogRec.Commit n k s cs)) = false
is_clear_rec (Some (LogRec.Damage n k s o r cs)) = false
is_clear_rec (Some (LogRec.End n k o)) = is_commit o

-- a commitment; with no report at all, which never is
abbrev pub is_keeping_rec : Option LogRec → Bool
is_keeping_rec None = false
is_keeping_rec (Some (LogRec.Boot n)) = false
is_keeping_rec (Some (LogRec.Ready n k s cs)) = false
is_keeping_rec (Some (LogRec.Heuristic n k o)) = false
is_keeping_rec (Some (LogRec.Commit n k s cs)) = false
is_keeping_rec (Some (LogRec.Damage n k s o r cs)) = is_commit o
is_keeping_rec (Some (LogRec.End n k o)) = false

abbrev pub is_idle_rec : Option LogRec → Bool
is_idle_rec None = false
is_idle_rec (Some (LogRec.Boot n)) = false
is_idle_rec (Some (LogRec.Ready n k s cs)) = false
is_idle_rec (Some (LogRec.Heuristic n k o)) = false
is_idle_rec (Some (LogRec.Commit n k s cs)) = false
is_idle_rec (Some (LogRec.Damage n k s o r cs)) = is_commit o && is_report_none r
is_idle_rec (Some (LogRec.End n k o)) = false

-- the decision after the record
abbrev pub decided_by : Option LogRec → Option Outcome → Option Outcome
decided_by (Some (LogRec.Heuristic n k o)) u = Some o
decided_by _ u = u

abbrev pub is_for_rollback : Option Outcome → Bool
is_for_rollback None = false
is_for_rollback (Some Outcome.Commit) = false
is_for_rollback (Some Outcome.Rollback) = true

-- ---- branches that are done with no report

abbrev pub is_clear_branch : Branch → Bool
is_clear_branch b = b.ended && is_report_none b.report

-- of the event e at the transaction s, and the branch with the peer p
abbrev pub may_clear : TxEvent → Transaction → ℕ → Bool
may_clear (TxEvent.Took q (DialogueRecord.Done r)) s p = (q == p) && is_committing s.phase && is_report_none r
may_clear (TxEvent.Took q (DialogueRecord.RolledBack r)) s p = (q == p) && is_rolling s.phase
may_clear (TxEvent.Took q DialogueRecord.Left) s p = (q == p) && is_rolling s.phase
may_clear (TxEvent.Took q DialogueRecord.LeftEnd) s p = (q == p) && is_rolling s.phase
may_clear (TxEvent.Reply b (RecState.Done r)) s p = is_report_none r
    && elim (find_row_by_id s.rows b) [ None ↦ false | Some w ↦ (w.branch.peer.node == p) && is_open_in_commit s w.branch ]
may_clear _ s p = false

-- the branch with the peer has the identifier, and has neither left nor is it done with no report
abbrev pub OpenAt : ℕ → BranchId → Transaction → Type 0
OpenAt p b t = UnmarkedAt is_clear_branch p b t

-- what ends that: its Done with no report, or its Left; or the transaction rolls or leaves
pub data Settles (e : TxEvent) (s : Transaction) (p : ℕ) : Type 0 where
  Is_clear : may_clear e s p ≡ true → Settles e s p
  Has_left : may_leave e s p ≡ true → Settles e s p
  Rolls : falls e s ≡ true → Settles e s p
  Departs : is_leaving e ≡ true → Settles e s p

-- ---- an event e at a transaction s, from t on

-- how it ends: it rolls or was rolling, leaves, ends clear, or is kept
abbrev pub is_ended_by : TxEvent → Transaction → Transaction → Option LogRec → Bool
is_ended_by e s t r = falls e s || is_rolling t.phase || is_leaving e || is_clear_rec r || is_keeping_rec r

pub record IsClearing (e : TxEvent) (s t : Transaction) (a : Turn) : Type 0 where
  pub passed : IsPassed e s t a
  -- completion with no report is told, and so is Done with none beside the associations, where the end is logged
  pub tells : asks_tell is_complete_none a.outs ≡ true → is_clear_rec a.rec ≡ true
  pub says : (z : Addr) (u : Aaid) (b : BranchId) → IsRecoveryIn a.outs z (PeerRecord.RecReply u b (RecState.Done Report.None)) → is_clear_rec a.rec ≡ true
  pub forgets : (z : Addr) (u : Aaid) (b : BranchId) → IsRecoveryIn a.outs z (PeerRecord.Forget u b) → (u ≡ aaid_of t.key) × (is_damage_rec a.rec ≡ true)
  pub clears : is_clear_rec a.rec ≡ true → (is_committing t.phase ≡ true) × (is_for_rollback t.decision ≡ false) × (is_nil a.next.phase ≡ true)
  pub decides : (is_nil a.next.phase || is_rolling a.next.phase) ≡ false → a.next.decision ≡ decided_by a.rec t.decision
  pub damages : is_damage_rec a.rec ≡ true → (is_nil a.next.phase || is_rolling a.next.phase) ≡ true
  pub reports : is_idle_rec a.rec ≡ false
  pub over : is_nil t.phase ≡ false → is_nil a.next.phase ≡ true → is_ended_by e s t a.rec ≡ true
  pub stays : (p : ℕ) (b : BranchId) → OpenAt p b t → OpenAt p b a.next ⊎ Settles e s p ⊎ (is_keeping_rec a.rec ≡ true)

-- ---- a node, and one tree

-- an End of its commitment
abbrev pub ends_tree : Aaid → Option LogRec → Bool
ends_tree t None = false
ends_tree t (Some (LogRec.Boot n)) = false
ends_tree t (Some (LogRec.Ready n k s cs)) = false
ends_tree t (Some (LogRec.Heuristic n k o)) = false
ends_tree t (Some (LogRec.Commit n k s cs)) = false
ends_tree t (Some (LogRec.Damage n k s o r cs)) = false
ends_tree t (Some (LogRec.End n k o)) = is_commit o && is_aaid t k.aaid

abbrev pub has_cleared : Aaid → List LogRec → Bool
has_cleared t [] = false
has_cleared t (r ∷ rs) = ends_tree t (Some r) && not (has_damage t rs) || has_cleared t rs

-- Forget is noted of the branch's key; of the tree another key is kept
abbrev pub notes_forget : Aaid → BranchId → List Kept → Bool
notes_forget t b [] = false
notes_forget t b (k ∷ ks) = (k.forgot && is_key k.key (branch_key t b)) || notes_forget t b ks

abbrev pub keeps_beside : Aaid → BranchId → List Kept → Bool
keeps_beside t b [] = false
keeps_beside t b (k ∷ ks) = (not (is_key k.key (branch_key t b)) && is_aaid t k.key.aaid) || keeps_beside t b ks

-- a commitment of the tree is kept
abbrev pub KeepsAt : Aaid → List Kept → Type 0
KeepsAt t ks = KeptWith (λ k. Unit {0}) t ks

-- what lets it go: a Forget of the branch that is taken or was noted, or it has another key of the tree
pub data LetsGo (e : Event) (s : Digest) (t : Aaid) (b : BranchId) (ks : List Kept) : Type 0 where
  Forgets : (a : Addr) → e ≡ Event.Arrive a (PeerRecord.Forget t b) → LetsGo e s t b ks
  Noted : notes_forget t b ks ≡ true → LetsGo e s t b ks
  Beside : keeps_beside t b ks ≡ true → LetsGo e s t b ks
  Beside_here : (c : Current) → s.current ≡ Some c → is_aaid t (aaid_of c.key) ≡ true → is_key (node_key c.key) (branch_key t b) ≡ false → LetsGo e s t b ks

-- the tree is current and stands, and the branch has neither left nor is it done with no report
abbrev pub OpenRow : Aaid → ℕ → BranchId → Option Current → Type 0
OpenRow t p b o = UnmarkedRow is_clear_branch t p b o
