-- What awaits each node that is in doubt: what the log of its superior's site tells of the outcome.
-- Whether nodes ended apart is said in Verdicts.
use Rattle.std.specs.Prelude.{ℕ, true, false, Option, Some, None, List, [], ◌∷◌}
use Rattle.tp_names.specs.declared.identifiers.Addr.{Addr}
use Rattle.tp_names.specs.declared.identifiers.NodeKey.{NodeKey}
use Rattle.tp_names.specs.Same.{is_name}
use Rattle.tp_records.specs.declared.peer.RecState.{RecState}
use Rattle.tp_logrec.specs.declared.record.LogRec.{LogRec}
use Rattle.tp_logrec.specs.declared.record.LogVersion.{LogVersion}
use Rattle.tp_model.specs.History.{digest}
use Rattle.tp_model.specs.NodeRun.{origin_at}
use Rattle.tp_site.specs.Recalled.{log_at, answer_to_ready}
use Rattle.tp_audit.specs.declared.fate.Fate.{Fate}
use Rattle.tp_audit.specs.declared.fate.FateState.{FateState}
use Rattle.tp_audit.specs.Entries.{SiteLog, Entry, addr_of, entries}
use Rattle.tp_audit.specs.Doubts.{superior_of}

-- ---- what the superior's log tells

abbrev pub records_of_site : List SiteLog → List ℕ → Option (List LogRec)
records_of_site [] s = None
records_of_site (l ∷ ls) s = elim (is_name l.site s) [ true ↦ Some l.records | false ↦ records_of_site ls s ]

-- an answer to a ready branch
abbrev pub state_by : Option RecState → FateState
state_by None = FateState.Unknown
state_by (Some RecState.Commit) = FateState.Commit
state_by (Some (RecState.Done r)) = FateState.Unknown
state_by (Some RecState.Unknown) = FateState.Unknown
state_by (Some RecState.RetryLater) = FateState.RetryLater

-- what the node of that address answers once its site has started on these records, whoever asks; a key without a branch is known
-- to no superior
abbrev pub answered_by : List LogRec → Addr → NodeKey → FateState
answered_by rs a k = elim k.branch [
  | None ↦ FateState.Unknown
  | Some b ↦ state_by (answer_to_ready (digest (origin_at (log_at a.site LogVersion.Two rs) a.node) []) k.aaid b)
]

abbrev pub state_of : List SiteLog → Addr → NodeKey → FateState
state_of logs a k = elim (records_of_site logs a.site) [ None ↦ FateState.Absent | Some rs ↦ answered_by rs a k ]

-- ---- all entries

abbrev pub fates_of : List SiteLog → List Entry → List Fate
fates_of logs [] = []
fates_of logs (e ∷ es) = elim (superior_of e.records) [
  | None ↦ fates_of logs es
  | Some a ↦ record { node = addr_of e; key = e.owner.key; state = state_of logs a e.owner.key } ∷ fates_of logs es
]

abbrev pub fates : List SiteLog → List Fate
fates logs = fates_of logs (entries logs)
