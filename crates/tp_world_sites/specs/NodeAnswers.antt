-- What a node answers to an event, with the entry of it, which the code tells beside the answer.
use Rattle.std.specs.Prelude.{ℕ, Option, Result, Ok, Err}
use Rattle.tp_model.specs.declared.refusal.Refusal.{Refusal}
use Rattle.tp_world_sites.specs.declared.fault.WorldFault.{WorldFault}
use Rattle.tp_world_sites.specs.declared.site_slot.Answer.{Answer as Reply}
use Rattle.tp_world_sites.specs.declared.site_slot.Entry.{Entry}

-- it is refused by that number; or it has happened, and a record may have been refused with it
pub data Answer : Type 0 where
  Refused : ℕ → Answer
  Happened : Option Refusal → Entry → Answer

-- the answer of the code, with the entry that is told beside it
abbrev pub answer_told : Reply → Entry → Answer
answer_told (Reply.Refused k) x = Refused k
answer_told (Reply.Happened refusal) x = Happened refusal x

abbrev pub result_told : Result Reply WorldFault → Entry → Result Answer WorldFault
result_told (Ok a) x = Ok (answer_told a x)
result_told (Err f) x = Err f
