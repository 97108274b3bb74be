-- The primitives of a dialogue as the code has them, and as the definitions have them: one for one.
use Rattle.std.specs.Prelude.{Option, Some, None}
use Rattle.tp_model.specs.Dialogues.{Asked as AskedValue, Ask_end, Ask_data, Ask_error, Ask_abort, Ask_grant, Ask_control, Ask_handshake, Ask_respond, Ask_handshake_grant, Ask_begin, Ask_defer_end, Ask_defer_grant, Ask_prepare, Heard as HeardValue, Hear_end, Hear_data, Hear_error, Hear_grant, Hear_control, Hear_handshake, Hear_handshake_grant, Hear_response, Hear_defer_end, Hear_defer_grant}
use Rattle.tp_dialogue.specs.declared.kinds.Asked.{Asked}
use Rattle.tp_dialogue.specs.declared.kinds.Heard.{Heard}

abbrev pub asked_value : Asked → AskedValue
asked_value Asked.End = Ask_end
asked_value Asked.Data = Ask_data
asked_value Asked.Error = Ask_error
asked_value Asked.Abort = Ask_abort
asked_value Asked.Grant = Ask_grant
asked_value Asked.Control = Ask_control
asked_value Asked.Handshake = Ask_handshake
asked_value Asked.Respond = Ask_respond
asked_value Asked.HandshakeGrant = Ask_handshake_grant
asked_value Asked.Begin = Ask_begin
asked_value Asked.DeferEnd = Ask_defer_end
asked_value Asked.DeferGrant = Ask_defer_grant
asked_value Asked.Prepare = Ask_prepare

abbrev pub asked_values : Option Asked → Option AskedValue
asked_values None = None
asked_values (Some a) = Some (asked_value a)

abbrev pub heard_value : Heard → HeardValue
heard_value Heard.End = Hear_end
heard_value Heard.Data = Hear_data
heard_value Heard.Error = Hear_error
heard_value Heard.Grant = Hear_grant
heard_value Heard.Control = Hear_control
heard_value Heard.Handshake = Hear_handshake
heard_value Heard.HandshakeGrant = Hear_handshake_grant
heard_value Heard.Response = Hear_response
heard_value Heard.DeferEnd = Hear_defer_end
heard_value Heard.DeferGrant = Hear_defer_grant

abbrev pub heard_values : Option Heard → Option HeardValue
heard_values None = None
heard_values (Some h) = Some (heard_value h)
