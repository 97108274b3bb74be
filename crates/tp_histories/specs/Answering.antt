-- What a subordinate answers: a round that its superior closed. At a transaction and at a node, for each number of rounds
-- that the two ends closed before.
use Rattle.std.specs.Prelude.{ℕ, ◌==◌, Bool, false}
use Rattle.tp_records.specs.declared.dialogue.DialogueRecord.{DialogueRecord}
use Rattle.tp_records.specs.declared.peer.PeerRecord.{PeerRecord}
use Rattle.tp_records.specs.declared.peer.RecState.{RecState}
use Rattle.tp_model.specs.Parts.{Event, Digest}
use Rattle.tp_model.specs.Dialogues.{is_ready}
use Rattle.tp_model.specs.Node.{phase_of}

-- the event closes a round with the superior p, where its prelude left s
abbrev pub closes_now : Digest → ℕ → Event → Bool
closes_now s p (Event.Arrive from (PeerRecord.OnAssoc x y q DialogueRecord.Prepare)) = from.node == p
closes_now s p (Event.Arrive from (PeerRecord.OnAssoc x y q DialogueRecord.Rollback)) = from.node == p
closes_now s p (Event.Arrive from (PeerRecord.RecReply t b RecState.Unknown)) = is_ready (phase_of s)
closes_now s p _ = false
