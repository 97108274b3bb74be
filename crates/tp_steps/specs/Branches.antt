-- What an event makes of a branch: it is counted by its Ready alone, has left by its Left alone, and has ended by its end or
-- by a reply.
use Rattle.std.specs.Prelude.{ℕ, ◌≡◌, ◌==◌, ◌&&◌, ◌||◌, ◌⊎◌, not, Bool, true, false, Some, None, List}
use Rattle.tp_records.specs.declared.dialogue.DialogueRecord.{DialogueRecord}
use Rattle.tp_records.specs.declared.peer.RecState.{RecState}
use Rattle.tp_model.specs.declared.transaction.TxEvent.{TxEvent}
use Rattle.tp_model.specs.Parts.{Who, Event, Arc, Branch, Current, Digest}
use Rattle.tp_model.specs.Dialogues.{is_active, is_committing, is_rolling}
use Rattle.tp_model.specs.Transactions.{Row, Transaction, Turn, find_row, find_row_by_id, row_holds, is_open_in_commit}
use Rattle.tp_model.specs.Node.{Move, seen}
use Rattle.tp_steps.specs.Moves.{IsAsked}
use Rattle.tp_steps.specs.Facts.{find_branch}

-- of the event e at the transaction s, and the branch with the peer p
abbrev pub may_count : TxEvent → Transaction → ℕ → Bool
may_count (TxEvent.Took q DialogueRecord.Ready) s p = (q == p) && is_active s.phase && row_holds s.rows p (λ b. b.prepared && not b.counted)
may_count _ s p = false

abbrev pub may_leave : TxEvent → Transaction → ℕ → Bool
may_leave (TxEvent.Took q DialogueRecord.Left) s p = (q == p) && is_active s.phase
may_leave (TxEvent.Took q DialogueRecord.LeftEnd) s p = (q == p) && is_active s.phase
may_leave _ s p = false

abbrev pub may_end : TxEvent → Transaction → ℕ → Bool
may_end (TxEvent.Took q (DialogueRecord.Done r)) s p = (q == p) && is_committing s.phase
may_end (TxEvent.Took q (DialogueRecord.RolledBack r)) s p = (q == p) && is_rolling s.phase
may_end (TxEvent.Took q DialogueRecord.Left) s p = (q == p) && is_rolling s.phase
may_end (TxEvent.Took q DialogueRecord.LeftEnd) s p = (q == p) && is_rolling s.phase
may_end (TxEvent.Reply b (RecState.Done r)) s p = elim (find_row_by_id s.rows b)
    [ None ↦ false | Some w ↦ (w.branch.peer.node == p) && is_open_in_commit s w.branch ]
may_end _ s p = false

-- a branch before, and after
pub record IsMoved (e : TxEvent) (s : Transaction) (p : ℕ) (b n : Branch) : Type 0 where
  pub id : n.id ≡ b.id
  pub counted : n.counted ≡ true → (b.counted || may_count e s p) ≡ true
  pub left : n.left ≡ true → (b.left || may_leave e s p) ≡ true
  pub ended : n.ended ≡ true → (b.ended || may_end e s p) ≡ true

-- each row after was there before
pub record IsRowed (e : TxEvent) (s t : Transaction) (a : Turn) : Type 0 where
  pub rows : (p : ℕ) (n : Row) → find_row a.next.rows p ≡ Some n → (r : Row) × (find_row t.rows p ≡ Some r) × IsMoved e s p r.branch n.branch

-- ---- the same of a node: an event e whose prelude left s, from d on

-- the event may do so to the branch of what was current
abbrev pub May : Who → Event → Digest → (TxEvent → Transaction → ℕ → Bool) → ℕ → Type 0
May who e s g p = (c : Current) × (s.current ≡ Some c) × (f : TxEvent) × (arcs : List Arc) × IsAsked e c f × (g f (seen who arcs c) p ≡ true)

pub record IsMovedAt (who : Who) (e : Event) (s : Digest) (p : ℕ) (b n : Branch) : Type 0 where
  pub counted : n.counted ≡ true → (b.counted ≡ true) ⊎ May who e s may_count p
  pub left : n.left ≡ true → (b.left ≡ true) ⊎ May who e s may_leave p
  pub ended : n.ended ≡ true → (b.ended ≡ true) ⊎ May who e s may_end p

-- it was a branch of the current transaction, or is new
abbrev pub Stood : Digest → ℕ → Branch → Type 0
Stood d p b = (c : Current) × (d.current ≡ Some c) × (find_branch c.branches p ≡ Some b)

abbrev pub IsNew : Branch → Type 0
IsNew b = (b.counted ≡ false) × (b.left ≡ false) × (b.ended ≡ false)

pub record IsBranched (who : Who) (e : Event) (s d : Digest) (m : Move) : Type 0 where
  pub branches : (p : ℕ) (n : Branch) → Stood m.next p n → (b : Branch) × (Stood d p b ⊎ IsNew b) × IsMovedAt who e s p b n
