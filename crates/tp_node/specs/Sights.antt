-- What comes of a record that a node takes on an association: by what the dialogue hears, and by the side that it comes from.
use Rattle.std.specs.Prelude.{◌&&◌, if◌then◌else◌}
use Rattle.tp_records.specs.declared.dialogue.DialogueRecord.{DialogueRecord}
use Rattle.tp_model.specs.declared.arc.Side.{Side}
use Rattle.tp_model.specs.Parts.{Who, Arc, Digest}
use Rattle.tp_model.specs.Dialogues.{Sight, Acts, Nothing_happens, Out_of_phase, Heard, Hear_end, Hear_data, Hear_error, Hear_grant, Hear_control, Hear_handshake, Hear_handshake_grant, Hear_response, Hear_defer_end, Hear_defer_grant}
use Rattle.tp_dialogue.specs.Dialogue.{is_response}
use Rattle.tp_model.specs.Arrivals.{sight_on_arc, sight_in_tx, sight_of_begin, branch_key, from_superior, from_subordinate}

-- of a record that the dialogue judges; a response on a resting arc does nothing
abbrev pub heard_at : Who → Digest → Arc → Heard → Sight
heard_at who d a h = if a.dialogue.rests && is_response h then Nothing_happens else sight_on_arc who d a h

-- of a record that only that side says
abbrev pub which_from : Side → Digest → Arc → Sight → Sight
which_from Side.Superior d a s = from_superior d a s
which_from Side.Subordinate d a s = from_subordinate d a s

-- of any record
abbrev pub sight_by : Who → Digest → Arc → DialogueRecord → Sight
sight_by who d a DialogueRecord.EndDialogue = heard_at who d a Hear_end
sight_by who d a (DialogueRecord.UserData xs) = heard_at who d a Hear_data
sight_by who d a DialogueRecord.UError = heard_at who d a Hear_error
sight_by who d a DialogueRecord.UAbort = Acts
sight_by who d a DialogueRecord.Grant = heard_at who d a Hear_grant
sight_by who d a DialogueRecord.AskControl = heard_at who d a Hear_control
sight_by who d a DialogueRecord.Handshake = heard_at who d a Hear_handshake
sight_by who d a DialogueRecord.HandshakeGrant = heard_at who d a Hear_handshake_grant
sight_by who d a DialogueRecord.Response = heard_at who d a Hear_response
sight_by who d a DialogueRecord.DeferEnd = heard_at who d a Hear_defer_end
sight_by who d a DialogueRecord.DeferGrant = heard_at who d a Hear_defer_grant
sight_by who d a (DialogueRecord.Begin t b h) = from_superior d a (sight_of_begin d a (branch_key t b))
sight_by who d a DialogueRecord.Prepare = from_superior d a (sight_in_tx who d a DialogueRecord.Prepare Out_of_phase)
sight_by who d a DialogueRecord.Ready = from_subordinate d a (sight_in_tx who d a DialogueRecord.Ready Out_of_phase)
sight_by who d a DialogueRecord.Commit = from_superior d a (sight_in_tx who d a DialogueRecord.Commit Nothing_happens)
sight_by who d a (DialogueRecord.Done r) = from_subordinate d a (sight_in_tx who d a (DialogueRecord.Done r) Nothing_happens)
sight_by who d a DialogueRecord.Rollback = sight_in_tx who d a DialogueRecord.Rollback Nothing_happens
sight_by who d a (DialogueRecord.RolledBack r) = from_subordinate d a (sight_in_tx who d a (DialogueRecord.RolledBack r) Nothing_happens)
sight_by who d a DialogueRecord.Left = from_subordinate d a (sight_in_tx who d a DialogueRecord.Left Out_of_phase)
sight_by who d a DialogueRecord.LeftEnd = from_subordinate d a (sight_in_tx who d a DialogueRecord.LeftEnd Out_of_phase)
