-- What comes of a record, as the code answers it and as the definitions of the service say it: one for one.
use Rattle.tp_model.specs.Dialogues.{Sight, Acts, Nothing_happens, Out_of_phase}
use Rattle.tp_model.specs.declared.disposition.Disposition.{Disposition}

abbrev pub sight_value : Disposition → Sight
sight_value Disposition.Acts = Acts
sight_value Disposition.Nothing = Nothing_happens
sight_value Disposition.OutOfPhase = Out_of_phase
