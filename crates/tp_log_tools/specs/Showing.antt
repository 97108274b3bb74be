-- What is written of a log, and what is left of it, by how `show` and `check` end.
use Rattle.std.specs.Prelude.{ℕ, ◌≡◌, ◌⊎◌, Option, Some, List, ◌++◌, length}
use Rattle.tp_outside.specs.Story.{Story}
use Rattle.tp_logrec.specs.declared.record.LogVersion.{LogVersion}
use Rattle.tp_logrec.specs.LogText.{Placed}
use Rattle.tp_model.specs.LogCommands.{Has, Is_foreign, opened, placed_texts, findings, start_leaves}
use Rattle.tp_journal.specs.Told.{IsOn}
use Rattle.tp_streams.specs.declared.stop.Stop.{Stop}
use Rattle.tp_streams.specs.Stops.{IsFaultOf}
use Rattle.tp_streams.specs.Written.{WritesPrefix}
use Rattle.tp_log_tools.specs.Opening.{ReadsAs}

abbrev pub finding_texts : List Placed → List ℕ
finding_texts ps = placed_texts (findings ps)

-- The file is a log in order, and of its records all was written that is to be. The disk has what a start leaves.
pub record Shows (file : List ℕ) (texts : List Placed → List ℕ) (old new : Option (List ℕ)) (left : Option Story) : Type 0 where
  pub version : LogVersion
  pub listed : List Placed
  pub opens : opened file ≡ Has version listed
  pub written : (before : List ℕ) → old ≡ Some before → new ≡ Some (before ++ texts listed)
  pub disk : IsOn left (start_leaves file)

-- or a prefix of it
pub record ShowsPart (file : List ℕ) (texts : List Placed → List ℕ) (old new : Option (List ℕ)) (left : Option Story) : Type 0 where
  pub version : LogVersion
  pub listed : List Placed
  pub opens : opened file ≡ Has version listed
  pub written : (before : List ℕ) → old ≡ Some before → WritesPrefix before (texts listed) new
  pub disk : IsOn left (start_leaves file)

-- the findings, of which there are so many
pub record Checks (file : List ℕ) (n : ℕ) (old new : Option (List ℕ)) (left : Option Story) : Type 0 where
  pub shows : Shows file finding_texts old new left
  pub count : n ≡ length (findings shows.listed)

-- why not all was written
abbrev pub StopsShow : List ℕ → (List Placed → List ℕ) → Option (List ℕ) → Option (List ℕ) → Option Story → Stop → Type 0
StopsShow file texts old new left (Stop.BadInput at why) = ⊥
StopsShow file texts old new left (Stop.Limit what at) = ⊥
StopsShow file texts old new left (Stop.Foreign at) = (opened file ≡ Is_foreign at) × ReadsAs left (start_leaves file)
StopsShow file texts old new left (Stop.ReadFault faults) = ⊥
StopsShow file texts old new left (Stop.WriteFault faults) = ShowsPart file texts old new left
StopsShow file texts old new left (Stop.DiskFault faults) = new ≡ old
StopsShow file texts old new left Stop.NoMemory = (new ≡ old) ⊎ ShowsPart file texts old new left

-- by the counts of the disk and of the sink, each before and after
abbrev pub IsShowStop : ℕ → ℕ → ℕ → ℕ → Stop → Type 0
IsShowStop disk left sink now (Stop.BadInput at why) = ⊥
IsShowStop disk left sink now (Stop.Limit what at) = ⊥
IsShowStop disk left sink now (Stop.Foreign at) = Unit {0}
IsShowStop disk left sink now (Stop.ReadFault faults) = ⊥
IsShowStop disk left sink now (Stop.WriteFault faults) = IsFaultOf faults sink now
IsShowStop disk left sink now (Stop.DiskFault faults) = IsFaultOf faults disk left
IsShowStop disk left sink now Stop.NoMemory = Unit {0}
