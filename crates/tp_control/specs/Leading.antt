-- What a superior says to a branch, and how the branch stands to it: its round is open until Prepare, Commit or Rollback
-- closes it; then the superior may be a round ahead of the branch, until the branch answers.
use Rattle.std.specs.Prelude.{ℕ, suc, ◌+◌, ◌≤◌, ◌==◌, ◌≡◌, ◌&&◌, ◌||◌, not, nat_le, Bool, true, false, if◌then◌else◌, Option, Some, None, List, [], ◌∷◌}
use Rattle.tp_records.specs.declared.dialogue.DialogueRecord.{DialogueRecord}
use Rattle.tp_model.specs.declared.arc.Phase.{Phase}
use Rattle.tp_model.specs.declared.transaction.TxEvent.{TxEvent}
use Rattle.tp_model.specs.declared.transaction.TxOut.{TxOut}
use Rattle.tp_records.specs.declared.peer.PeerRecord.{PeerRecord}
use Rattle.tp_model.specs.Parts.{Event, Entry, Dialogue, Arc, Branch, Current, Digest}
use Rattle.tp_model.specs.Questions.{is_at}
use Rattle.tp_model.specs.World.{World, Node, number_of}
use Rattle.tp_model.specs.Promises.{IsIn}
use Rattle.tp_histories.specs.Traces.{sent_on, accepted_on}
use Rattle.tp_steps.specs.Upward.{voting_from}
use Rattle.tp_model.specs.Dialogues.{is_nil, is_active, is_rolling, is_polarized, is_chained, is_unchained}
use Rattle.tp_model.specs.Arcs.{find_arc}
use Rattle.tp_model.specs.Transactions.{Transaction, Turn, is_under_at, find_row}
use Rattle.tp_steps.specs.Turns.{loses}
use Rattle.tp_steps.specs.Passages.{IsPassed}
use Rattle.tp_steps.specs.Facts.{stays, sees, find_branch, IsFair}
use Rattle.tp_steps.specs.Control.{flag_from}
use Rattle.tp_histories.specs.Control.{is_closing, begun_behind, closed, answered}
use Rattle.tp_control.specs.Control.{given}
use Rattle.tp_control.specs.Holding.{is_holding}

-- ---- what outputs carry to the peer, whose association is live at first or not

abbrev pub carried_to : Bool → ℕ → List TxOut → List DialogueRecord
carried_to b p [] = []
carried_to b p (TxOut.Tell i ∷ outs) = carried_to b p outs
carried_to b p (TxOut.Carry q r ∷ outs) = if (q == p) && b then r ∷ carried_to b p outs else carried_to b p outs
carried_to b p (TxOut.Shut q ∷ outs) = carried_to (b && not (q == p)) p outs
carried_to b p (TxOut.Recovery a r ∷ outs) = carried_to b p outs
carried_to b p (TxOut.Close q ∷ outs) = carried_to (b && not (q == p)) p outs

abbrev pub some_closing : List DialogueRecord → Bool
some_closing [] = false
some_closing (r ∷ rs) = is_closing r || some_closing rs

-- ---- a branch, in a transaction of that phase

-- no word has closed its round
abbrev pub opens : Phase → Branch → Bool
opens h b = is_active h && not b.prepared && not b.left

-- its round is closed, and it may not have answered
abbrev pub lags : Phase → Branch → Bool
lags h b = (is_active h && b.prepared && not b.counted && not b.left) || (is_rolling h && not (b.ended || b.left))

-- in active none has ended, and only one that was told Prepare is counted
abbrev pub is_sound : Phase → Branch → Bool
is_sound h b = not (is_active h) || (not b.ended && (b.prepared || not b.counted))

-- ---- at a transaction

-- what holds of the branch with the peer; where there is none, v
abbrev pub of_row : Bool → (Phase → Branch → Bool) → Transaction → ℕ → Bool
of_row v f t p = elim (find_row t.rows p) [ None ↦ v | Some r ↦ f t.phase r.branch ]

-- the branch's word answers, as the event e of the transaction s
abbrev pub answers : TxEvent → Transaction → ℕ → Bool
answers (TxEvent.Took q DialogueRecord.Ready) s p = q == p
answers (TxEvent.Took q DialogueRecord.Left) s p = q == p
answers (TxEvent.Took q DialogueRecord.LeftEnd) s p = q == p
answers (TxEvent.Took q (DialogueRecord.RolledBack r)) s p = (q == p) && is_rolling s.phase
answers _ s p = false

-- by the event e of the transaction s, from t on, with the turn a: the branch stays sound (sound); its round stays open
-- until a closing word is carried to it or the branch answers (open_so), and is not opened again (shut); a superior
-- that is a round ahead stays so until the branch answers (lag_so), and a closing word puts it ahead (closes)
pub record Leads (e : TxEvent) (s : Transaction) (p : ℕ) (t : Transaction) (a : Turn) : Type 0 where
  pub sound : of_row true is_sound a.next p ≡ true
  pub open_so : answers e s p ≡ false → of_row false opens t p ≡ true → of_row false opens a.next p ≡ not (some_closing (carried_to true p a.outs))
  pub shut : of_row false opens t p ≡ false → of_row false opens a.next p ≡ false
  pub lag_so : of_row false lags t p ≡ true → (of_row false lags a.next p || answers e s p) ≡ true
  pub closes : answers e s p ≡ false → of_row false opens t p ≡ true → some_closing (carried_to true p a.outs) ≡ true → of_row false lags a.next p ≡ true

-- an event e at a transaction s, from t on, and a subordinate p: of one that t has and that stays there, Leads
pub record IsLeading (e : TxEvent) (s : Transaction) (p : ℕ) (t : Transaction) (a : Turn) : Type 0 where
  pub fair : IsFair e s p t a
  pub passed : IsPassed e s t a
  pub leads : sees t p ≡ true → loses e p ≡ false → is_under_at t.key p ≡ false → of_row true is_sound t p ≡ true → stays true p a.outs ≡ true → Leads e s p t a

-- ---- at a node: the branch with the peer in what is current

abbrev pub of_branch : Bool → (Phase → Branch → Bool) → Option Current → ℕ → Bool
of_branch v f None p = v
of_branch v f (Some c) p = if is_nil c.phase then v else elim (find_branch c.branches p) [ None ↦ v | Some b ↦ f c.phase b ]

abbrev pub has_branch : Option Current → ℕ → Bool
has_branch o p = of_branch false (λ h b. true) o p

abbrev pub dialogue_at : ℕ → List Arc → Option Dialogue
dialogue_at p arcs = elim (find_arc arcs p) [ None ↦ None | Some a ↦ Some a.dialogue ]

abbrev pub begun : List DialogueRecord → Bool
begun rs = flag_from begun_behind false rs

-- a dialogue below on which so much was given, and so much came back: with a branch, or without one
pub record IsKept (g : Dialogue) (branch : Bool) (n r : ℕ) : Type 0 where
  pub control : is_polarized g ≡ true → n + (if is_holding g then 1 else 0) ≤ suc r
  pub chained : branch ≡ false → is_polarized g ≡ true → is_chained g ≡ true → g.holds ≡ true
  pub whole : is_chained g ≡ true → is_unchained g ≡ false

-- what was sent to a subordinate that answered c rounds and returned control r times in the round that is not answered
pub record IsLed (p : ℕ) (d : Digest) (sent : List DialogueRecord) (c r : ℕ) : Type 0 where
  pub sound : of_branch true is_sound d.current p ≡ true
  pub open_now : begun sent ≡ of_branch false opens d.current p
  pub ahead : closed sent ≤ c + (if of_branch false lags d.current p then 1 else 0)
  pub quiet : has_branch d.current p ≡ true → begun sent ≡ false → given (closed sent) sent ≡ 0
  pub kept : (g : Dialogue) → dialogue_at p d.arcs ≡ Some g → IsKept g (has_branch d.current p) (given c sent) r

-- ---- in a history

-- a word of a subordinate at the moment when it is taken: Ready and Left stand after no Ready of their round, and
-- RolledBack that stands after one ends the last round that the superior closed
abbrev pub is_in_round : List DialogueRecord → List DialogueRecord → DialogueRecord → Bool
is_in_round sent taken DialogueRecord.Ready = not (voting_from false taken)
is_in_round sent taken DialogueRecord.Left = not (voting_from false taken)
is_in_round sent taken DialogueRecord.LeftEnd = not (voting_from false taken)
is_in_round sent taken (DialogueRecord.RolledBack r) = not (voting_from false taken) || nat_le (closed sent) (answered taken)
is_in_round sent taken _ = true

-- the same of RolledBack alone
abbrev pub ends_round : List DialogueRecord → List DialogueRecord → DialogueRecord → Bool
ends_round sent taken (DialogueRecord.RolledBack r) = not (voting_from false taken) || nat_le (closed sent) (answered taken)
ends_round sent taken _ = true

-- of each record that was taken from the peer, by what was sent and taken with its pair before
abbrev pub takes_event : (List DialogueRecord → List DialogueRecord → DialogueRecord → Bool) → ℕ → List Entry → Event → Bool
takes_event f p h (Event.Arrive a (PeerRecord.OnAssoc x y q r)) = not (a.node == p) || f (sent_on x y p h) (accepted_on x y p h) r
takes_event f p h _ = true

abbrev pub takes : (List DialogueRecord → List DialogueRecord → DialogueRecord → Bool) → ℕ → List Entry → Bool
takes f p [] = true
takes f p (e ∷ h) = takes_event f p h e.event && takes f p h

-- a superior takes RolledBack of a branch that was ready only for the last round that it closed
abbrev pub EndsRounds : World → Type 0
EndsRounds w = (n m : Node) → IsIn w n → IsIn w m → is_at m.superior (number_of n) ≡ true → takes ends_round (number_of m) n.history ≡ true
