-- Control at one end of a dialogue: whether this end holds it, or owes a response that gives it; and what every event keeps
-- of that towards the superior, and says.
use Rattle.std.specs.Prelude.{ℕ, ◌==◌, ◌≡◌, ◌&&◌, ◌||◌, not, Bool, true, false, Some, None, List, [], ◌∷◌}
use Rattle.tp_records.specs.declared.dialogue.DialogueRecord.{DialogueRecord}
use Rattle.tp_records.specs.declared.dialogue.Holder.{Holder}
use Rattle.tp_records.specs.declared.peer.PeerRecord.{PeerRecord}
use Rattle.tp_model.specs.declared.transaction.TxOut.{TxOut}
use Rattle.tp_model.specs.Parts.{Event, Dialogue, Arc, Current, Digest}
use Rattle.tp_model.specs.Links.{is_live}
use Rattle.tp_model.specs.Dialogues.{is_active, gives_control}
use Rattle.tp_model.specs.Arcs.{find_arc, link_with}
use Rattle.tp_model.specs.Transactions.{is_under_at}
use Rattle.tp_model.specs.Node.{Move, is_superior}
use Rattle.tp_model.specs.Questions.{said_to}
use Rattle.tp_steps.specs.Moves.{is_apart_record}
use Rattle.tp_steps.specs.Facts.{none_of, find_branch, under_at}
use Rattle.tp_control.specs.Control.{is_returning}

abbrev pub is_holding : Dialogue → Bool
is_holding d = d.holds || gives_control d.due

abbrev pub holding_at : ℕ → List Arc → Bool
holding_at p arcs = elim (find_arc arcs p) [ None ↦ false | Some a ↦ is_holding a.dialogue ]

-- a record of the peer that gives control: at once, for a response, or with a transaction
abbrev pub gains_at : Event → ℕ → Bool
gains_at (Event.Arrive from (PeerRecord.OnAssoc x y q DialogueRecord.Grant)) p = from.node == p
gains_at (Event.Arrive from (PeerRecord.OnAssoc x y q DialogueRecord.HandshakeGrant)) p = from.node == p
gains_at (Event.Arrive from (PeerRecord.OnAssoc x y q (DialogueRecord.Begin t b Holder.Subordinate))) p = from.node == p
gains_at _ p = false

-- outputs carry control to the peer; a record with a number goes out by Carry alone
abbrev pub returns_in : ℕ → List TxOut → Bool
returns_in p [] = false
returns_in p (TxOut.Tell i ∷ outs) = returns_in p outs
returns_in p (TxOut.Carry q r ∷ outs) = (is_returning r && (q == p)) || returns_in p outs
returns_in p (TxOut.Shut q ∷ outs) = returns_in p outs
returns_in p (TxOut.Recovery a r ∷ outs) = not (is_apart_record r) || returns_in p outs
returns_in p (TxOut.Close q ∷ outs) = returns_in p outs

-- in a transaction of that superior that is past work, this end holds none
abbrev pub IsPastHolding : ℕ → Digest → Type 0
IsPastHolding p d = (c : Current) → d.current ≡ Some c → is_under_at c.key p ≡ true → is_active c.phase ≡ false → holding_at p d.arcs ≡ false

-- from d on; g: the event may give it control
pub record IsHolding (g : Bool) (p : ℕ) (d : Digest) (m : Move) : Type 0 where
  pub gains : holding_at p m.next.arcs ≡ true → (holding_at p d.arcs || g) ≡ true
  pub past : g ≡ false → IsPastHolding p d → IsPastHolding p m.next
  -- the superior's transaction is over
  pub over : g ≡ false → IsPastHolding p d → under_at d.current p ≡ 1 → under_at m.next.current p ≡ 0 → holding_at p m.next.arcs ≡ false
  pub returns : none_of is_returning (said_to p m.outs) ≡ true

-- where the prelude of an event left s, a live association with the superior is that of no branch
pub record IsAbove (p : ℕ) (s : Digest) : Type 0 where
  pub superior : is_live (link_with s.arcs p) ≡ true → is_superior s p ≡ true
  pub bare : (c : Current) → s.current ≡ Some c → is_live (link_with s.arcs p) ≡ true → find_branch c.branches p ≡ None
