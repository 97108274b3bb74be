-- How lanes end together.
use Rattle.std.specs.Prelude.{ℕ, ◌≡◌, ◌<◌, ◌≤◌, if◌then◌else◌, nat_le, List, Option, Some, None, length, slice_index_or}
use Rattle.std.specs.List.{All}
use Rattle.tp_drive.specs.declared.ending.Ended.{Ended}
use Rattle.tp_drive.specs.declared.stop.Cause.{Cause}
use Rattle.tp_drive.specs.declared.stop.Stop.{Stop}

-- the least event of two at which the log took no record
abbrev pub sooner : Ended → ℕ → Ended
sooner (Ended.Stopped event) other = if nat_le event other then Ended.Stopped event else Ended.Stopped other
sooner _ other = Ended.Stopped other

abbrev pub starved : Ended → Ended
starved Ended.All = Ended.NoMemory
starved ended = ended

abbrev pub ended_by : Ended → Cause → ℕ → Ended
ended_by ended Cause.Memory event = starved ended
ended_by ended Cause.Log event = sooner ended event

abbrev pub ended_after : Ended → Option Stop → Ended
ended_after ended None = ended
ended_after ended (Some s) = ended_by ended s.cause s.event

-- it was the log that took no record
abbrev pub IsLog : Cause → Type 0
IsLog Cause.Memory = ⊥
IsLog Cause.Log = Unit {0}

-- the lane stopped for another cause than memory at this event
abbrev pub StoppedAt : Option Stop → ℕ → Type 0
StoppedAt None event = ⊥
StoppedAt (Some s) event = IsLog s.cause × (s.event ≡ event)

-- if a lane stopped for another cause than memory, it was no sooner than at this event
abbrev pub IsNoSooner : ℕ → Option Stop → Type 0
IsNoSooner event stop = (n : ℕ) → StoppedAt stop n → event ≤ n

-- of the events at which lanes stopped for another cause than memory, this is the least
pub record IsLeastStop (stops : List (Option Stop)) (event : ℕ) : Type 0 where
  pub lane : ℕ
  pub within : lane < length stops
  pub stopped : (d : Option Stop) → StoppedAt (slice_index_or stops lane d) event
  pub least : All (IsNoSooner event) stops

abbrev pub EndsSo : List (Option Stop) → Ended → Type 0
EndsSo stops Ended.All = All (λ s. s ≡ None) stops
EndsSo stops Ended.NoMemory = All (λ s. (n : ℕ) → StoppedAt s n → ⊥) stops
EndsSo stops (Ended.Stopped event) = IsLeastStop stops event
