-- The record that a frame carries, from how the code keeps it.
use Rattle.tp_records.specs.declared.dialogue.DialogueRecord.{DialogueRecord}
use Rattle.tp_records.specs.declared.peer.PeerRecord.{PeerRecord}
use Rattle.tp_network.specs.declared.frame_record.DialogueWord.{DialogueWord}
use Rattle.tp_network.specs.declared.frame_record.FrameRecord.{FrameRecord}

abbrev pub said : DialogueWord → DialogueRecord
said DialogueWord.EndDialogue = DialogueRecord.EndDialogue
said DialogueWord.UError = DialogueRecord.UError
said DialogueWord.UAbort = DialogueRecord.UAbort
said DialogueWord.Grant = DialogueRecord.Grant
said DialogueWord.AskControl = DialogueRecord.AskControl
said DialogueWord.Handshake = DialogueRecord.Handshake
said DialogueWord.HandshakeGrant = DialogueRecord.HandshakeGrant
said DialogueWord.Response = DialogueRecord.Response
said DialogueWord.DeferEnd = DialogueRecord.DeferEnd
said DialogueWord.DeferGrant = DialogueRecord.DeferGrant
said DialogueWord.Prepare = DialogueRecord.Prepare
said DialogueWord.Ready = DialogueRecord.Ready
said DialogueWord.Commit = DialogueRecord.Commit
said (DialogueWord.Done report) = DialogueRecord.Done report
said DialogueWord.Rollback = DialogueRecord.Rollback
said (DialogueWord.RolledBack report) = DialogueRecord.RolledBack report
said DialogueWord.Left = DialogueRecord.Left
said DialogueWord.LeftEnd = DialogueRecord.LeftEnd

abbrev pub record_of : FrameRecord → PeerRecord
record_of (FrameRecord.Word word x y seq) = PeerRecord.OnAssoc x y seq (said word)
record_of (FrameRecord.Other rec) = rec.value
