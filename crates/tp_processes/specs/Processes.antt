-- The processes of one site: each starts on the file that the one before it left, which may have been compacted between them; it is given
-- events, and stops, whenever and however that is. What it wrote, and to whom, is no matter of this file.
use Rattle.std.specs.Prelude.{ℕ, ◌≡◌, ◌⊎◌, ◌<◌, ◌^◌, Bool, true, false, Some, List, [], ◌∷◌, length}
use Rattle.tp_records.specs.declared.body.Event.{Event as Given}
use Rattle.tp_logrec.specs.declared.owner.Owner.{Owner}
use Rattle.tp_logrec.specs.declared.record.LogRec.{LogRec}
use Rattle.tp_logrec.specs.declared.record.LogVersion.{LogVersion}
use Rattle.tp_logrec.specs.LogText.{Placed, recs, IsLog}
use Rattle.tp_logrec.specs.Order.{owner_of, brief}
use Rattle.tp_model.specs.LogCommands.{Is_foreign, Has, opened}
use Rattle.tp_model.specs.NodeRun.{node_run, log_after}
use Rattle.tp_briefs.specs.Starts.{on, StartAlike}
use Rattle.tp_site_logs.specs.Lives.{Life, opening_after}
use Rattle.tp_processes.specs.Versions.{happened, answers}

pub record Process : Type 0 where
  -- the bytes of the log that it found, and of the log that it left
  pub found : List ℕ
  pub left : List ℕ
  -- its boot stands in the log that it left
  pub begun : Bool
  -- the events that it was given, oldest first
  pub given : List Given

-- the records that it leaves, where it found these in a log of that version
abbrev pub records_left : List ℕ → LogVersion → Process → List LogRec → List LogRec
records_left s version p rs = elim p.begun [ true ↦ log_after (on s version rs) p.given | false ↦ rs ]

-- it found a log, of fewer than 2^64 bytes, and left the log of the events that it was given
pub record IsProcess (s : List ℕ) (p : Process) : Type 0 where
  pub small : length p.found < 2 ^ 64
  pub version : LogVersion
  pub listed : List Placed
  pub opens : opened p.found ≡ Has version listed
  pub leaves : IsLog p.left (records_left s version p (recs listed))

-- the events that happened in it: all that it was given; on a log of version 1, without those that it refused for want of room
abbrev pub happened_in : List ℕ → Process → List Given
happened_in s p = elim (opened p.found) [ Is_foreign at ↦ [] | Has version listed ↦ happened (on s version (recs listed)) p.given ]

-- the one is a log of the brief of what the other, of fewer than 2^64 bytes, is a log of
pub record IsShortened (found left : List ℕ) : Type 0 where
  pub small : length left < 2 ^ 64
  pub records : List LogRec
  pub before : IsLog left records
  pub after : IsLog found (brief records)

-- the newest first; the first one found a log without records
abbrev pub FindsWhatIsLeft : Process → List Process → Type 0
FindsWhatIsLeft p [] = IsLog p.found []
FindsWhatIsLeft p (q ∷ ps) = (p.found ≡ q.left) ⊎ IsShortened p.found q.left

abbrev pub AreProcesses : List ℕ → List Process → Type 0
AreProcesses s [] = Unit {0}
AreProcesses s (p ∷ ps) = IsProcess s p × FindsWhatIsLeft p ps × AreProcesses s ps

-- what happened in those that began
abbrev pub life_of : List ℕ → List Process → Life
life_of s [] = []
life_of s (p ∷ ps) = elim p.begun [ true ↦ happened_in s p ∷ life_of s ps | false ↦ life_of s ps ]

-- none of the logs was made short
abbrev pub AreWhole : List Process → Type 0
AreWhole [] = Unit {0}
AreWhole (p ∷ []) = Unit {0}
AreWhole (p ∷ q ∷ ps) = (p.found ≡ q.left) × AreWhole (q ∷ ps)

-- ---- what holds of them

abbrev pub StandsIn : List LogRec → LogRec → Type 0
StandsIn [] r = ⊥
StandsIn (q ∷ qs) r = (q ≡ r) ⊎ StandsIn qs r

-- each record of the one that is of a node stands in the other
abbrev pub IsPartOf : List LogRec → List LogRec → Type 0
IsPartOf rs qs = (r : LogRec) (o : Owner) → owner_of r ≡ Some o → StandsIn rs r → StandsIn qs r

-- the log of a site that has lived so, whole or not: whoever starts on it knows what a start on the whole log knows, and none of its records
-- is foreign to it
pub record IsLogOf (s : List ℕ) (life : Life) (file : List ℕ) : Type 0 where
  pub records : List LogRec
  pub log : IsLog file records
  pub alike : StartAlike (on s LogVersion.Two records) (opening_after s life)
  -- and each of them that is of a node stands in the whole log
  pub part : IsPartOf records (opening_after s life).records
  pub opens : length file < 2 ^ 64 → (version : LogVersion) × (listed : List Placed) × (opened file ≡ Has version listed) × (recs listed ≡ records)

-- each process leaves the log of all that happened so far; all of it, where none was made short
abbrev pub ProcessesLeaveTheLog : Type 0
ProcessesLeaveTheLog = (s : List ℕ) (p : Process) (ps : List Process) → AreProcesses s (p ∷ ps) → IsLogOf s (life_of s (p ∷ ps)) p.left

abbrev pub ProcessesLeaveItWhole : Type 0
ProcessesLeaveItWhole = (s : List ℕ) (p : Process) (ps : List Process) → AreProcesses s (p ∷ ps) → AreWhole (p ∷ ps)
    → IsLog p.left (opening_after s (life_of s (p ∷ ps))).records

-- what a process gives for the events that happened in it is what one on the whole log gives
abbrev pub ProcessesActAlike : Type 0
ProcessesActAlike =
    (s : List ℕ) (p : Process) (ps : List Process) → (k : AreProcesses s (p ∷ ps))
    → answers (on s k.0.version (recs k.0.listed)) p.given ≡ (node_run (opening_after s (life_of s ps)) (happened_in s p)).outputs
