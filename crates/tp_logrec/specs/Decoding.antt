-- Where a decoder says that bytes are bad.
use Rattle.std.specs.Prelude.{ℕ, List}
use Rattle.tp_names.specs.declared.bad_bytes.RecordFault.{RecordFault}
use Rattle.tp_names.specs.Grammar.{Grammar, IsBadAt}

-- at the place up to which they are the front of some text, unless memory ran out
abbrev pub IfBad : {A : Type 0} → Grammar A → List ℕ → RecordFault → Type 0
IfBad g bytes (RecordFault.BadRecord at) = IsBadAt g bytes at
IfBad g bytes RecordFault.NoMemory = Unit {0}
