-- The small steps of an event, as in Moves, each with more of what is known where it is taken: which marks an output may
-- carry, which event notes something of a kept transaction, and that a root is begun on an arc at once.
use Rattle.std.specs.Prelude.{ℕ, ◌≡◌, ◌==◌, ◌&&◌, ◌||◌, ◌⊎◌, Bool, true, false, Option, Some, None, List, [], ◌∷◌}
use Rattle.tp_names.specs.declared.identifiers.Mark.{Mark}
use Rattle.tp_names.specs.declared.identifiers.Aaid.{Aaid}
use Rattle.tp_names.specs.declared.identifiers.BranchId.{BranchId}
use Rattle.tp_names.specs.Same.{is_aaid, is_mark}
use Rattle.tp_records.specs.declared.dialogue.DialogueRecord.{DialogueRecord}
use Rattle.tp_records.specs.declared.peer.PeerRecord.{PeerRecord}
use Rattle.tp_model.specs.declared.transaction.TxEvent.{TxEvent}
use Rattle.tp_model.specs.declared.transaction.TxOut.{TxOut}
use Rattle.tp_model.specs.declared.recovery.Kept.{Kept}
use Rattle.tp_model.specs.declared.recovery.KeptEvent.{KeptEvent}
use Rattle.tp_model.specs.Parts.{Who, Event, Out, Tell, Send, Idle, Dialogue, Root, Current, Digest}
use Rattle.tp_model.specs.Dialogues.{is_nil, Asked, Ask_defer_end, Ask_defer_grant, Heard, Hear_defer_end, Hear_defer_grant}
use Rattle.tp_model.specs.Arcs.{link_with, without_arc, with_dialogue}
use Rattle.tp_model.specs.Recovery.{is_commit, settled, noted, not_forgotten, with_forget}
use Rattle.tp_model.specs.Node.{is_end_deferred_at, Move, move, followed, perform, next_mark, with_mark_drawn, may_root, phase_of, seen, fresh_current, begin_on, keep, turned}
use Rattle.tp_model.specs.Arrivals.{branch_key}
use Rattle.tp_steps.specs.Turns.{loses}
use Rattle.tp_steps.specs.Moves.{IsAsked, IsPut, IsOwned, AreSaid, IsAmong, StandsIn, IsFound, IsSettling, are_spoken, are_said, said_by, heard_by, closes_at, IsChange, may_begin, some_leads, keeps_commit}
use Rattle.tp_steps.specs.Ends.{are_separate}

-- the mark that was drawn last
abbrev pub last_mark : Who → Digest → Mark
last_mark who d = record { boot = d.boot; node = who.node; count = d.drawn }

-- an offer, and an answer to one, carry it
abbrev pub carries_last : Who → Digest → PeerRecord → Bool
carries_last who d (PeerRecord.OpenAssoc x u) = is_mark x (last_mark who d)
carries_last who d (PeerRecord.AcceptAssoc x y u) = is_mark y (last_mark who d)
carries_last who d _ = true

abbrev pub carry_last : Who → Digest → List TxOut → Bool
carry_last who d [] = true
carry_last who d (TxOut.Tell i ∷ outs) = carry_last who d outs
carry_last who d (TxOut.Carry p r ∷ outs) = carry_last who d outs
carry_last who d (TxOut.Shut p ∷ outs) = carry_last who d outs
carry_last who d (TxOut.Recovery a r ∷ outs) = carries_last who d r && carry_last who d outs
carry_last who d (TxOut.Close p ∷ outs) = carry_last who d outs

-- the first Begin among outputs
abbrev pub first_begin : List Out → Option (Aaid × BranchId)
first_begin [] = None
first_begin (Tell i ∷ outs) = first_begin outs
first_begin (Send a (PeerRecord.OnAssoc x y q (DialogueRecord.Begin t b h)) ∷ outs) = Some (t, b)
first_begin (Send a _ ∷ outs) = first_begin outs

-- the tree that the node draws next, and the branch after it
abbrev pub next_tree : Who → Digest → Aaid
next_tree who d = record { owner = who.site; mark = next_mark who d }

abbrev pub next_branch : Who → Digest → BranchId
next_branch who d = record { superior = who.site; mark = next_mark who (with_mark_drawn d) }

-- a Forget is noted
abbrev pub IsNotedBy : Event → Digest → List Kept → Type 0
IsNotedBy (Event.Arrive from (PeerRecord.Forget t b)) d ks = ks ≡ with_forget d.kept (branch_key t b) (λ y. noted y KeptEvent.Forget)
IsNotedBy _ d ks = ⊥

-- the event defers something on the arc with the peer
abbrev pub is_deferring : Asked → Bool
is_deferring Ask_defer_end = true
is_deferring Ask_defer_grant = true
is_deferring _ = false

abbrev pub is_deferred_by : Heard → Bool
is_deferred_by Hear_defer_end = true
is_deferred_by Hear_defer_grant = true
is_deferred_by _ = false

abbrev pub puts_off_at : Event → ℕ → Bool
puts_off_at e p =
    elim (said_by e) [ None ↦ false | Some v ↦ (v.0 == p) && is_deferring v.1 ]
    || elim (heard_by e) [ None ↦ false | Some v ↦ (v.0 == p) && is_deferred_by v.1 ]

-- an end is deferred where it was at first, but where the event defers one, or ends the association
abbrev pub AreAlike : Event → Digest → Digest → Type 0
AreAlike e d s = (p : ℕ) → (puts_off_at e p || closes_at e p) ≡ false → is_end_deferred_at d.arcs p ≡ is_end_deferred_at s.arcs p

-- the current transaction is as it was at first, no mark is drawn, and nothing else is deferred
abbrev pub IsLike : Event → Digest → Digest → Type 0
IsLike e d s = (d.current ≡ s.current) × (d.drawn ≡ s.drawn) × AreAlike e d s

pub record Steps (who : Who) (e : Event) (s : Digest) (R : Digest → Move → Type 0) : Type 0 where
  -- chains
  pub still : (d : Digest) → R d (move [] d)
  pub chain : (d : Digest) (a : Move) (f : Digest → Move) → R d a → R a.next (f a.next) → (a.rec ≡ None) ⊎ ((f a.next).rec ≡ None) → R d (followed a f)
  -- outputs, and changes that are no matter of transactions
  pub speaks : (d : Digest) (outs : List TxOut) → are_spoken outs ≡ true → IsOwned d outs × AreSaid e s d outs → are_said e outs ≡ true
      → carry_last who d outs ≡ true → R d (perform outs d)
  pub changes_dialogue : (d : Digest) (p : ℕ) (f : Dialogue → Dialogue) (m : Move) → IsChange e d p f
      → R (record d { arcs = with_dialogue d.arcs p f }) m → R d m
  pub drops_arc : (d : Digest) (p : ℕ) (m : Move) → closes_at e p ≡ true → R (record d { arcs = without_arc d.arcs p }) m → R d m
  pub notes_kept : (d : Digest) (ks : List Kept) (m : Move)
      → ((u : Aaid) → keeps_commit u ks ≡ true → keeps_commit u d.kept ≡ true) × (not_forgotten ks ≡ not_forgotten d.kept)
      → IsNotedBy e d ks → R (record d { kept = ks }) m → R d m
  pub keeps : (d : Digest) (k : Kept) (f : KeptEvent)
      → ((u : Aaid) → (is_commit k.side && is_aaid u k.key.aaid) ≡ true → keeps_commit u d.kept ≡ true) × IsAmong d.kept k
      × StandsIn d.kept k × IsFound d.kept k × IsSettling e s d k f → R d (keep (settled k f) d)
  -- the current transaction
  pub turns : (d : Digest) (c : Current) (f : TxEvent) → d.current ≡ Some c → s.current ≡ Some c → IsAsked e c f
      → IsPut f (seen who d.arcs c) → ((p : ℕ) → loses f p ≡ true → link_with d.arcs p ≡ Idle) → d.drawn ≡ s.drawn → AreAlike e d s → R d (turned who f d c)
  -- transactions begin
  pub begins : (d : Digest) (p : ℕ) → some_leads may_begin p d.arcs ≡ true → R d (begin_on who p d)
  pub roots : (d : Digest) (m : Move) → is_nil (phase_of d) ≡ true → may_root d ≡ true
      → (are_separate d.arcs ≡ true → first_begin m.outs ≡ Some (next_tree who d, next_branch who d))
      → R (record (with_mark_drawn d) { current = Some (fresh_current (Root (next_tree who d))) }) m → R d m
