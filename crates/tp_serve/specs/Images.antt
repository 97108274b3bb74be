-- What a crash may leave of the log of a site that is given events.
use Rattle.std.specs.Prelude.{ℕ, ◌≡◌, ◌⊎◌, ◌≤◌, List, length}
use Rattle.tp_records.specs.declared.body.Event.{Event as Given}
use Rattle.tp_logrec.specs.declared.record.LogRec.{LogRec}
use Rattle.tp_logrec.specs.LogText.{IsLog}
use Rattle.tp_model.specs.NodeRun.{Opening, log_after}
use Rattle.tp_model.specs.NodeTranscript.{taken}

-- the log after the first so many of the events
abbrev pub log_of_first : Opening → List Given → ℕ → List LogRec
log_of_first o gs k = log_after o (taken k gs)

-- The bytes are the log of the run on the first of the events, so many of them at least; or the log on which the site
-- began, where none of them has to stand.
abbrev pub IsNodeImage : Opening → List Given → ℕ → List ℕ → Type 0
IsNodeImage o gs least c =
    ((k : ℕ) × (least ≤ k) × (k ≤ length gs) × IsLog c (log_of_first o gs k)) ⊎ ((least ≡ 0) × IsLog c o.records)
