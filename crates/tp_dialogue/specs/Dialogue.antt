-- One end of a dialogue, as its calls tell and change it: the dialogue of the definitions, and which side
-- this end is. What is refused and what changes stands with the definitions of the service.
use Rattle.std.specs.Prelude.{◌≡◌, ◌&&◌, Bool, true, false, if◌then◌else◌, Some, None, Result, Ok, Err}
use Rattle.std.proofs.Common.{refl, ap}
use Rattle.tp_model.specs.declared.arc.Side.{Side}
use Rattle.tp_model.specs.declared.arc.Situation.{Situation}
use Rattle.tp_model.specs.declared.arc.Act.{Act}
use Rattle.tp_model.specs.Parts.{Dialogue as DialogueValue, Due as DueValue, No_response, Response_due, Response_with_control}
use Rattle.tp_model.specs.Dialogues.{Heard, Hear_end, Hear_data, Hear_error, Hear_grant, Hear_control, Hear_handshake, Hear_handshake_grant, Hear_response, Hear_defer_end, Hear_defer_grant, is_superior_side, is_rolling, Sight, Acts, Nothing_happens, Out_of_phase, acts_nothing_or_out, asked_of, heard_of, arrived, said, heard, woken}
use Rattle.tp_dialogue.specs.declared.dialogue.Due.{Due}
use Rattle.tp_dialogue.specs.declared.dialogue.Dialogue.TheInside.{Inside}
use Rattle.tp_dialogue.specs.declared.dialogue.Seen.{Seen}
use Rattle.tp_dialogue.specs.declared.refused.OutOfPhase.{OutOfPhase}

-- ---- what an end keeps

pub record End : Type 0 where
  pub side : Side
  pub dialogue : DialogueValue

abbrev pub due_value : Due → DueValue
due_value Due.None = No_response
due_value Due.Response = Response_due
due_value Due.ResponseWithControl = Response_with_control

abbrev pub due_inside : DueValue → Due
due_inside No_response = Due.None
due_inside Response_due = Due.Response
due_inside Response_with_control = Due.ResponseWithControl

abbrev pub end_of : Inside → End
end_of d = record {
  side = d.side;
  dialogue = record { units = d.units; holds = d.holds; awaits = d.awaits; due = due_value d.due; deferral = d.deferral; rests = d.rests };
}

abbrev pub inside_of : End → Inside
inside_of e = record {
  units = e.dialogue.units;
  side = e.side;
  holds = e.dialogue.holds;
  awaits = e.dialogue.awaits;
  due = due_inside e.dialogue.due;
  deferral = e.dialogue.deferral;
  rests = e.dialogue.rests;
}

due_inside-due_value : (d : Due) → due_inside (due_value d) ≡ d
due_inside-due_value Due.None = refl
due_inside-due_value Due.Response = refl
due_inside-due_value Due.ResponseWithControl = refl

pub inside_of-end_of : (d : Inside) → inside_of (end_of d) ≡ d
inside_of-end_of d = let f : Due → Inside = λ u. record d { due = u } in ap f (due_inside-due_value d.due)

-- ---- requests

-- what an accepted request makes of this end
abbrev pub after_request : Act → End → End
after_request act e = elim (asked_of act.code) [ None ↦ e | Some a ↦ record e { dialogue = said a e.dialogue } ]

-- ---- records that arrive

abbrev pub is_response : Heard → Bool
is_response Hear_end = false
is_response Hear_data = false
is_response Hear_error = false
is_response Hear_grant = false
is_response Hear_control = false
is_response Hear_handshake = false
is_response Hear_handshake_grant = false
is_response Hear_response = true
is_response Hear_defer_end = false
is_response Hear_defer_grant = false

-- a response on a resting arc does nothing
abbrev pub sight_at : End → Situation → Heard → Sight
sight_at e s h = if e.dialogue.rests && is_response h then Nothing_happens else arrived e.side e.dialogue s h

-- any other record ends the rest
abbrev pub woken_by : Heard → DialogueValue → DialogueValue
woken_by h d = if is_response h then d else woken d

abbrev pub heard_with : Sight → Heard → DialogueValue → DialogueValue
heard_with Acts h d = heard h (woken_by h d)
heard_with Nothing_happens h d = woken_by h d
heard_with Out_of_phase h d = d

-- what comes of a record: what is told, and this end after it
abbrev pub Arrival : Type 0
Arrival = Sight × End

abbrev pub arrival_of : End → Situation → Heard → Arrival
arrival_of e s h = (sight_at e s h, record e { dialogue = heard_with (sight_at e s h) h e.dialogue })

abbrev pub arrival : End → Situation → Act → Arrival
arrival e s act = elim (heard_of act.code) [ None ↦ (Nothing_happens, e) | Some h ↦ arrival_of e s h ]

-- a deferral comes from the superior alone
abbrev pub deferral_sight : Side → Situation → Bool → Sight
deferral_sight side s acts = if is_superior_side side then Out_of_phase else acts_nothing_or_out acts (is_rolling s.phase)

abbrev pub sight_of : Result Seen OutOfPhase → Sight
sight_of (Ok Seen.Told) = Acts
sight_of (Ok Seen.Nothing) = Nothing_happens
sight_of (Err o) = Out_of_phase
