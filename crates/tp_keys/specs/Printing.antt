-- How the printing of a store's keys ends, and what was written then.
use Rattle.std.specs.Prelude.{ℕ, ◌≡◌, ◌⊎◌, Option, Some, List, ◌++◌}
use Rattle.tp_outside.specs.Story.{Story}
use Rattle.tp_journal.specs.declared.faults.StartFault.{StartFault}
use Rattle.tp_journal.specs.declared.faults.StartFault.TheVariants as start
use Rattle.tp_streams.specs.declared.stop.Stop.{Stop}
use Rattle.tp_streams.specs.Stops.{IsFaultOf}
use Rattle.tp_streams.specs.Written.{WritesPrefix}
use Rattle.tp_bound.specs.Bounds.{Standing, Opens, RefusesOpen}
use Rattle.tp_keys.specs.Lines.{key_lines}

-- a part of the text was written, and the rest is left of it
abbrev pub WritesPart : List ℕ → List ℕ → List ℕ → Option (List ℕ) → Type 0
WritesPart before text left new = (part : List ℕ) × (text ≡ part ++ left) × (new ≡ Some (before ++ part))

-- what stops the writing of lines, by the sink's counts before and after it
abbrev pub IsPrintStop : ℕ → ℕ → Stop → Type 0
IsPrintStop old new (Stop.BadInput at why) = ⊥
IsPrintStop old new (Stop.Limit what at) = ⊥
IsPrintStop old new (Stop.Foreign at) = ⊥
IsPrintStop old new (Stop.ReadFault faults) = ⊥
IsPrintStop old new (Stop.WriteFault faults) = IsFaultOf faults old new
IsPrintStop old new (Stop.DiskFault faults) = ⊥
IsPrintStop old new Stop.NoMemory = Unit {0}

-- what stops the start of a store stops the printing
abbrev pub stop_of : StartFault → Stop
stop_of (start.Foreign at) = Stop.Foreign at
stop_of (start.DiskFault faults) = Stop.DiskFault faults
stop_of start.NoMemory = Stop.NoMemory

-- the store on the disk was opened, and the lines of its keys were written
abbrev pub Prints : (D : Type 0) → Option Story → Option Story → Option (List ℕ) → Option (List ℕ) → Type 0
Prints D old new before after =
    (b : Standing D) × Opens old new 0 b × ((written : List ℕ) → before ≡ Some written → after ≡ Some (written ++ key_lines b.store.content))

-- the store on the disk was opened, and the front part of the lines was written
abbrev pub PrintsSome : (D : Type 0) → Option Story → Option Story → Option (List ℕ) → Option (List ℕ) → Type 0
PrintsSome D old new before after =
    (b : Standing D) × Opens old new 0 b × ((written : List ℕ) → before ≡ Some written → WritesPrefix written (key_lines b.store.content) after)

-- why not all was printed, by what the disk and the sink tell before and after: the disk's story and its count of faults,
-- what was written and the sink's count
abbrev pub RefusesKeys : (D : Type 0) → Option Story → Option Story → ℕ → ℕ → Option (List ℕ) → Option (List ℕ) → ℕ → ℕ → Stop → Type 0
RefusesKeys D old new disk_before disk_after before after sink_before sink_after (Stop.BadInput at why) = ⊥
RefusesKeys D old new disk_before disk_after before after sink_before sink_after (Stop.Limit what at) = ⊥
RefusesKeys D old new disk_before disk_after before after sink_before sink_after (Stop.Foreign at) = RefusesOpen old new disk_before
    disk_after (start.Foreign at) × (after ≡ before)
RefusesKeys D old new disk_before disk_after before after sink_before sink_after (Stop.ReadFault faults) = ⊥
RefusesKeys D old new disk_before disk_after before after sink_before sink_after (Stop.WriteFault faults) = PrintsSome D old new before
    after × IsFaultOf faults sink_before sink_after
RefusesKeys D old new disk_before disk_after before after sink_before sink_after (Stop.DiskFault faults) = RefusesOpen old new disk_before
    disk_after (start.DiskFault faults) × (after ≡ before)
RefusesKeys D old new disk_before disk_after before after sink_before sink_after Stop.NoMemory =
    (RefusesOpen old new disk_before disk_after start.NoMemory × (after ≡ before)) ⊎ PrintsSome D old new before after
