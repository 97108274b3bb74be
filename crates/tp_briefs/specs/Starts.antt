-- A start on a log that was made short: the brief of a log, as `compact` and `migrate` leave it, has the greatest boot and of each key what
-- still stands (`tp_logrec/specs/Order.antt`).
use Rattle.std.specs.Prelude.{ℕ, ◌≡◌, true, List, []}
use Rattle.tp_records.specs.declared.body.Event.{Event as Given}
use Rattle.tp_logrec.specs.declared.record.LogRec.{LogRec}
use Rattle.tp_logrec.specs.declared.record.LogVersion.{LogVersion}
use Rattle.tp_logrec.specs.Order.{all_follow, brief}
use Rattle.tp_model.specs.History.{digest}
use Rattle.tp_model.specs.NodeRun.{Opening, boot_of, origin_at, history_of, node_run, log_after}

abbrev pub on : List ℕ → LogVersion → List LogRec → Opening
on s version rs = record { site = s; version = version; records = rs }

-- of each node a site knows the same after a start on either
pub record StartAlike (o p : Opening) : Type 0 where
  pub boot : boot_of o ≡ boot_of p
  pub knows : (n : ℕ) → digest (origin_at o n) [] ≡ digest (origin_at p n) []

-- on every log in order, in both versions
abbrev pub BriefsStartAlike : Type 0
BriefsStartAlike = (s : List ℕ) (version : LogVersion) (rs : List LogRec) → all_follow rs ≡ true → StartAlike (on s version (brief rs)) (on s version rs)

-- ---- and what comes after the start

abbrev pub log_on : List ℕ → LogVersion → List LogRec → List Given → List LogRec
log_on s version rs gs = log_after (on s version rs) gs

pub record RunAlike (s : List ℕ) (version : LogVersion) (rs qs : List LogRec) (gs : List Given) : Type 0 where
  pub outputs : (node_run (on s version rs) gs).outputs ≡ (node_run (on s version qs) gs).outputs
  -- what happens to each node
  pub histories : (n : ℕ) → history_of (node_run (on s version rs) gs).pasts n ≡ history_of (node_run (on s version qs) gs).pasts n
  -- what is forced, from the boot on
  pub forced : (node_run (on s version rs) gs).log ≡ (node_run (on s version qs) gs).log
  -- and the next start
  pub next : StartAlike (on s version (log_on s version rs gs)) (on s version (log_on s version qs gs))

abbrev pub AlikeRunAlike : Type 0
AlikeRunAlike = (s : List ℕ) (version : LogVersion) (rs qs : List LogRec) → StartAlike (on s version rs) (on s version qs)
    → (gs : List Given) → RunAlike s version rs qs gs
