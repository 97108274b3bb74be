-- Processes at several sites, woven by time: the deployment that they are, its run, and what their logs have of it.
use Rattle.std.specs.Prelude.{ℕ, ◌≡◌, List, ◌∷◌, reverse}
use Rattle.tp_logrec.specs.declared.record.LogRec.{LogRec}
use Rattle.tp_logrec.specs.LogText.{IsLog}
use Rattle.tp_model.specs.History.{records}
use Rattle.tp_model.specs.NodeRun.{records_at}
use Rattle.tp_model.specs.Happenings.{Happening, run}
use Rattle.tp_model.specs.Promises.{OneOutcome, ReportFree}
use Rattle.tp_model.specs.World.{World, empty_world}
use Rattle.tp_agreement.specs.Logs.{CommitsAlone}
use Rattle.tp_site_logs.specs.Lives.{first_origin}
use Rattle.tp_deployments.specs.Deployments.{Deed, Place, AreArranged, IsDeployment, life_after, history_at}
use Rattle.tp_deployments.specs.RunOf.{nodes_of, IsRunOf}
use Rattle.tp_laws.specs.Whole.{AllPromised}
use Rattle.tp_processes.specs.Processes.{Process, AreProcesses, AreWhole, life_of}

-- at each site the deeds are what happened in its processes
pub record AreDeedsOf (by : List ℕ → List Process) (ds : List Deed) : Type 0 where
  pub processes : (s : List ℕ) → AreProcesses s (by s)
  pub deeds : (s : List ℕ) → life_after ds s ≡ life_of s (by s)

-- The log that the newest process of a site left has of each number what its node forced in all that happened to it, in that order, where
-- it was never made short.
abbrev pub LogsTell : (List ℕ → List Process) → List Deed → Type 0
LogsTell by ds =
    (s : List ℕ) (p : Process) (ps : List Process) → by s ≡ p ∷ ps → AreWhole (p ∷ ps)
    → (rs : List LogRec) × IsLog p.left rs × ((n : ℕ) → records_at n rs ≡ reverse (records (first_origin s n) (history_at ds (record { site = s; node = n }))))

-- **Processes are a run**, and keep what is promised of runs
abbrev pub ProcessesKeep : Type 0
ProcessesKeep =
    (by : List ℕ → List Process) (qs : List Place) (ds : List Deed) → AreDeedsOf by ds → AreArranged qs → IsDeployment qs ds
    → (es : List Happening) × IsRunOf qs ds (run es) × LogsTell by ds × AllPromised (run es)

-- ---- the sentences, of the nodes where they stand

-- a world of these nodes alone, each with all that happened to it
abbrev pub standing : List Place → List Deed → World
standing qs ds = record empty_world { nodes = nodes_of qs ds }

pub record Sentences (w : World) : Type 0 where
  -- of two nodes of one tree told different outcomes, at least one logged a decision; and where one logged Commit none rolled
  pub one_outcome : OneOutcome w
  pub commits_alone : CommitsAlone w
  -- a commit completion with no report at the root means that every staying node was told commit
  pub report_free : ReportFree w

abbrev pub SentencesHold : Type 0
SentencesHold = (qs : List Place) (ds : List Deed) → AreArranged qs → IsDeployment qs ds → Sentences (standing qs ds)
