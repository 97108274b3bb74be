-- What comes of a record, by its code and side.
use Rattle.std.proofs.Common.{◌≡◌, Bool, true, false, ◌&&◌, refl}
use Rattle.std.specs.Prelude.{cond}
use Rattle.tp_records.specs.declared.dialogue.DialogueRecord.{DialogueRecord}
use Rattle.tp_model.specs.Parts.{Who, Arc, Digest}
use Rattle.tp_model.specs.Dialogues.{Sight, Nothing_happens}
use Rattle.tp_model.specs.Arrivals.{sight_of, sight_at}
use Rattle.tp_node.specs.Sights.{sight_by}

rested : (b : Bool) (s : Sight) → cond (b && false) Nothing_happens s ≡ s
rested true s = refl
rested false s = refl

pub sight_is : (who : Who) (d : Digest) (a : Arc) (r : DialogueRecord) → sight_at who d a r ≡ sight_by who d a r
unfolding sight_of
sight_is who d a DialogueRecord.EndDialogue = refl
sight_is who d a (DialogueRecord.UserData xs) = refl
sight_is who d a DialogueRecord.UError = refl
sight_is who d a DialogueRecord.UAbort = rested a.dialogue.rests _
sight_is who d a DialogueRecord.Grant = refl
sight_is who d a DialogueRecord.AskControl = refl
sight_is who d a DialogueRecord.Handshake = refl
sight_is who d a DialogueRecord.HandshakeGrant = refl
sight_is who d a DialogueRecord.Response = refl
sight_is who d a DialogueRecord.DeferEnd = refl
sight_is who d a DialogueRecord.DeferGrant = refl
sight_is who d a (DialogueRecord.Begin t b h) = rested a.dialogue.rests _
sight_is who d a DialogueRecord.Prepare = rested a.dialogue.rests _
sight_is who d a DialogueRecord.Ready = rested a.dialogue.rests _
sight_is who d a DialogueRecord.Commit = rested a.dialogue.rests _
sight_is who d a (DialogueRecord.Done x) = rested a.dialogue.rests _
sight_is who d a DialogueRecord.Rollback = rested a.dialogue.rests _
sight_is who d a (DialogueRecord.RolledBack x) = rested a.dialogue.rests _
sight_is who d a DialogueRecord.Left = rested a.dialogue.rests _
sight_is who d a DialogueRecord.LeftEnd = rested a.dialogue.rests _
