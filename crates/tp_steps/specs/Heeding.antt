-- What a transaction takes is heeded: a branch's answer is counted, the superior's order is carried out, a branch's end is
-- noted; and what is noted of a branch stays.
use Rattle.std.specs.Prelude.{ℕ, ◌≡◌, ◌||◌, Bool, true, false, Some, None}
use Rattle.tp_names.specs.declared.identifiers.BranchId.{BranchId}
use Rattle.tp_names.specs.declared.outcome.Report.{Report}
use Rattle.tp_records.specs.declared.dialogue.DialogueRecord.{DialogueRecord}
use Rattle.tp_records.specs.declared.peer.RecState.{RecState}
use Rattle.tp_model.specs.declared.transaction.TxEvent.{TxEvent}
use Rattle.tp_model.specs.Parts.{Branch}
use Rattle.tp_model.specs.Dialogues.{is_active, is_ready, is_committing, is_rolling}
use Rattle.tp_model.specs.Transactions.{Row, Transaction, Turn, is_under_at, find_row, find_row_by_id, row_holds, refused_tx}

-- a branch answers Prepare by Ready, or by leaving
abbrev pub is_answer : DialogueRecord → Bool
is_answer DialogueRecord.Ready = true
is_answer DialogueRecord.Left = true
is_answer DialogueRecord.LeftEnd = true
is_answer _ = false

abbrev pub has_answered : Branch → Bool
has_answered b = b.counted || b.left

abbrev pub has_ended : Branch → Bool
has_ended b = b.ended || b.left

-- an event e at a transaction s
pub record IsHeeding (e : TxEvent) (s : Transaction) (a : Turn) : Type 0 where
  -- where it does not roll, an answer that is not out of phase is taken in active, and the branch has answered after it
  pub answers : (p : ℕ) (w : DialogueRecord) → e ≡ TxEvent.Took p w → is_answer w ≡ true → refused_tx e s ≡ None → is_rolling s.phase ≡ false
      → (is_active s.phase ≡ true) × (row_holds a.next.rows p has_answered ≡ true)
  -- an order of the superior that is not out of phase is not taken in active, and in ready it is carried out
  pub orders : (p : ℕ) → e ≡ TxEvent.Took p DialogueRecord.Commit → refused_tx e s ≡ None → is_under_at s.key p ≡ true
      → (is_active s.phase || is_ready s.phase) ≡ true
      → (is_ready s.phase ≡ true) × (is_committing a.next.phase ≡ true)
  -- in committing a branch that says that it is done has ended after it, or had left; so does one that replies so
  pub ends : (p : ℕ) (r : Report) → e ≡ TxEvent.Took p (DialogueRecord.Done r) → is_committing s.phase ≡ true
      → row_holds s.rows p (λ b. true) ≡ true → row_holds a.next.rows p has_ended ≡ true
  pub replies : (b : BranchId) (r : Report) (w : Row) → e ≡ TxEvent.Reply b (RecState.Done r) → is_committing s.phase ≡ true → find_row_by_id s.rows b ≡ Some w
      → find_row s.rows w.branch.peer.node ≡ Some w → row_holds a.next.rows w.branch.peer.node has_ended ≡ true
  -- a branch that has answered, or has ended, stays so
  pub answered : (p : ℕ) → row_holds s.rows p has_answered ≡ true → row_holds a.next.rows p has_answered ≡ true
  pub ended : (p : ℕ) → row_holds s.rows p has_ended ≡ true → row_holds a.next.rows p has_ended ≡ true
