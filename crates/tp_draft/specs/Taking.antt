-- A record that is taken from an arc: what it makes of a node rests on the peer's address alone.
use Rattle.std.specs.Prelude.{[]}
use Rattle.tp_names.specs.declared.identifiers.Addr.{Addr}
use Rattle.tp_records.specs.declared.dialogue.DialogueRecord.{DialogueRecord}
use Rattle.tp_model.specs.declared.arc.Side.{Side}
use Rattle.tp_model.specs.Parts.{Who, Idle, Arc, Digest}
use Rattle.tp_model.specs.Dialogues.{fresh_dialogue, Sight, Acts, Nothing_happens, Out_of_phase}
use Rattle.tp_model.specs.Links.{with_one_taken}
use Rattle.tp_model.specs.Arcs.{with_link}
use Rattle.tp_model.specs.Node.{Move, move}
use Rattle.tp_model.specs.Arrivals.{take_record, woken_by}

-- an arc to that address, of which nothing else is asked
abbrev pub arc_to : Addr → Arc
arc_to from = record { peer = from; link = Idle; dialogue = fresh_dialogue 0 Side.Superior }

-- the record is counted, and then that comes of it
abbrev pub taking_on : Addr → Sight → DialogueRecord → Who → Digest → Move
taking_on from s r who d =
    let counted : Digest = woken_by r from.node (record d { arcs = with_link d.arcs from.node with_one_taken }) in
    elim s [ Acts ↦ take_record who (arc_to from) r counted | Nothing_happens ↦ move [] counted | Out_of_phase ↦ move [] counted ]
