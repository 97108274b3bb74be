-- The nodes of a site as the records of its log alone tell them, and what they answer to a ready branch that asks.
use Rattle.std.specs.Prelude.{ℕ, ◌≡◌, Option, List, []}
use Rattle.tp_names.specs.declared.identifiers.Aaid.{Aaid}
use Rattle.tp_names.specs.declared.identifiers.BranchId.{BranchId}
use Rattle.tp_records.specs.declared.peer.RecState.{RecState}
use Rattle.tp_logrec.specs.declared.record.LogRec.{LogRec}
use Rattle.tp_logrec.specs.declared.record.LogVersion.{LogVersion}
use Rattle.tp_model.specs.declared.recovery.Question.{Question}
use Rattle.tp_model.specs.Parts.{Digest}
use Rattle.tp_model.specs.Recovery.{recovery_answer}
use Rattle.tp_model.specs.Arrivals.{known_of, named_by_branch}
use Rattle.tp_model.specs.History.{digest}
use Rattle.tp_model.specs.NodeRun.{Opening, origin_at}
use Rattle.tp_site.specs.Nodes.{Nodes, digest_at}

pub record Recalled : Type 0 where
  pub nodes : Nodes

-- the log of a site of that name
abbrev pub log_at : List ℕ → LogVersion → List LogRec → Opening
log_at name version rs = record { site = name; version = version; records = rs }

-- what is answered to a ready branch that asks what became of its transaction, by what is known of the node; there always is
-- an answer
abbrev pub answer_to_ready : Digest → Aaid → BranchId → Option RecState
answer_to_ready d t b = recovery_answer (known_of (named_by_branch d t b) b) Question.RecReady

abbrev pub recalled_answer : Recalled → ℕ → Aaid → BranchId → Option RecState
recalled_answer v n t b = answer_to_ready (digest_at v.nodes n) t b

-- each node answers what it answers after the history that a start on that log gives it, where nothing has happened since
pub record IsRecalled (o : Opening) (v : Recalled) : Type 0 where
  pub answers : (n : ℕ) (t : Aaid) (b : BranchId) → recalled_answer v n t b ≡ answer_to_ready (digest (origin_at o n) []) t b
