-- How many of a user's octets an output carries: no more than fit in a record.
-- Statements alone; nothing is proved here.
use Rattle.std.specs.Prelude.{◌≤◌, Option, Some, None, List, [], ◌∷◌, length}
use Rattle.tp_names.specs.declared.identifiers.Addr.{Addr}
use Rattle.tp_records.specs.declared.indication.Indication.{Indication}
use Rattle.tp_records.specs.declared.peer.PeerRecord.{PeerRecord}
use Rattle.tp_texts.specs.PeerTexts.{CarriesFew}
use Rattle.tp_model.specs.Parts.{Event, Out, Tell, Send}
use Rattle.tp_steps.specs.Histories.{brought}

abbrev pub IsShort : Out → Type 0
IsShort (Tell (Indication.UserData p xs)) = length xs ≤ 1024
IsShort (Tell _) = Unit {0}
IsShort (Send a r) = CarriesFew r

abbrev pub AreShort : List Out → Type 0
AreShort [] = Unit {0}
AreShort (o ∷ outs) = IsShort o × AreShort outs

-- a record that comes carries no more; of a user's request nothing is asked
abbrev pub IsShortRecord : Option (Addr × PeerRecord) → Type 0
IsShortRecord None = Unit {0}
IsShortRecord (Some (a, r)) = CarriesFew r

abbrev pub BringsFew : Event → Type 0
BringsFew e = IsShortRecord (brought e)
