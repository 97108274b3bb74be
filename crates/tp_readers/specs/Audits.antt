-- Copies of the logs of a deployment, and the verdict over them.
use Rattle.std.specs.Prelude.{ℕ, ◌≡◌, ◌⊎◌, ◌<◌, ◌^◌, List, [], ◌∷◌, length}
use Rattle.std.specs.List.{AllByRecursion}
use Rattle.tp_logrec.specs.declared.record.LogRec.{LogRec}
use Rattle.tp_logrec.specs.LogText.{IsLog}
use Rattle.tp_deployments.specs.Deployments.{Deed, Place, AreArranged, IsDeployment}
use Rattle.tp_processes.specs.Processes.{Process, IsShortened, StandsIn}
use Rattle.tp_processes.specs.Deployed.{AreDeedsOf}
use Rattle.tp_audit.specs.declared.verdict.Verdict.{Verdict}
use Rattle.tp_audit.specs.Entries.{SiteLog, entries}
use Rattle.tp_audit.specs.Verdicts.{outcome_of, verdict_by, verdict}

abbrev pub IsOneOf : Process → List Process → Type 0
IsOneOf p [] = ⊥
IsOneOf p (q ∷ qs) = (q ≡ p) ⊎ IsOneOf p qs

-- the record stands in a file, of fewer than 2^64 bytes, that a process of the site left, or that was made of that one by a compaction
pub record IsCopied (ps : List Process) (r : LogRec) : Type 0 where
  pub process : Process
  pub among : IsOneOf process ps
  pub file : List ℕ
  pub small : length file < 2 ^ 64
  pub from : (file ≡ process.left) ⊎ IsShortened file process.left
  pub records : List LogRec
  pub log : IsLog file records
  pub stands : StandsIn records r

-- The logs may be of some of the sites, in any order, and want some of the records, as those that were copied earlier do.
abbrev pub AreCopies : (List ℕ → List Process) → List SiteLog → Type 0
AreCopies by logs = AllByRecursion (λ (l : SiteLog). AllByRecursion (IsCopied (by l.site)) l.records) logs

-- yes, and also where nodes that decided are judged as all others
pub record IsYes (logs : List SiteLog) : Type 0 where
  pub yes : verdict logs ≡ Verdict.Yes
  pub decided_too : verdict_by outcome_of (entries logs) ≡ Verdict.Yes

abbrev pub AuditsAreYes : Type 0
AuditsAreYes = (by : List ℕ → List Process) (qs : List Place) (ds : List Deed) (logs : List SiteLog) → AreDeedsOf by ds → AreArranged qs
    → IsDeployment qs ds → AreCopies by logs → IsYes logs
