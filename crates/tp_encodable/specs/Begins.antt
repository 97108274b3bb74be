-- Which indication tells a user that its node has a branch of a superior's transaction, and which event makes it one.
-- Statements alone; nothing is proved here.
use Rattle.std.specs.Prelude.{Bool, true, false}
use Rattle.tp_records.specs.declared.indication.Indication.{Indication}
use Rattle.tp_records.specs.declared.dialogue.DialogueRecord.{DialogueRecord}
use Rattle.tp_records.specs.declared.peer.PeerRecord.{PeerRecord}
use Rattle.tp_model.specs.Parts.{Event}

abbrev pub is_begin_told : Indication → Bool
is_begin_told (Indication.BeginTransaction p t) = true
is_begin_told _ = false

-- a Begin arrives
abbrev pub takes_begin : Event → Bool
takes_begin (Event.Arrive from (PeerRecord.OnAssoc x y q (DialogueRecord.Begin t b h))) = true
takes_begin _ = false
