-- What is kept of the logs that were added, and what it tells of them.
use Rattle.std.specs.Prelude.{ℕ, ◌&&◌, not, Bool, true, false, Option, Some, None, option_map, List, [], ◌∷◌, ◌++◌}
use Rattle.std.specs.Map.{lookup}
use Rattle.tp_names.specs.declared.identifiers.Aaid.{Aaid}
use Rattle.tp_names.specs.declared.identifiers.Addr.{Addr}
use Rattle.tp_names.specs.declared.identifiers.NodeKey.{NodeKey}
use Rattle.tp_logrec.specs.declared.record.LogRec.{LogRec}
use Rattle.tp_logrec.specs.declared.record.LogVersion.{LogVersion}
use Rattle.tp_site.specs.Recalled.{IsRecalled, log_at, recalled_answer}
use Rattle.tp_audit.specs.declared.keys.SiteKey.{SiteKey}
use Rattle.tp_audit.specs.declared.fate.Fate.{Fate}
use Rattle.tp_audit.specs.declared.fate.FateState.{FateState}
use Rattle.tp_audit.specs.declared.ledger.Doubt.{Doubt}
use Rattle.tp_audit.specs.declared.mismatch.Mismatch.{Mismatch}
use Rattle.tp_audit.specs.declared.site_told.SiteTold.{SiteTold}
use Rattle.tp_audit.specs.Entries.{SiteLog, entries}
use Rattle.tp_audit.specs.Fates.{records_of_site, state_by}
use Rattle.tp_audit.specs.Keys.{is_site, site_key}
use Rattle.tp_audit.specs.Ledgers.{Ledger, IsLedgerOf, committed_at}
use Rattle.tp_audit.specs.Roots.{has_tree, AreRootCommitsOf}
use Rattle.tp_audit.specs.Mismatches.{is_unknown, mismatch_at}

pub record Audit : Type 0 where
  pub sites : List (SiteKey × SiteTold)
  pub ledger : Ledger

-- the log of a site of that name was added
abbrev pub is_added : List SiteLog → List ℕ → Bool
is_added logs s = elim (records_of_site logs s) [ None ↦ false | Some rs ↦ true ]

-- ---- what a table has of the sites

abbrev pub told_at : List (SiteKey × SiteTold) → List ℕ → Option SiteTold
told_at sites s = lookup (is_site (site_key s)) sites

-- the log of the site, with these records, tells this
pub record IsToldBy (s : List ℕ) (rs : List LogRec) (v : SiteTold) : Type 0 where
  pub recalled : IsRecalled (log_at s LogVersion.Two rs) v.recalled
  pub roots : AreRootCommitsOf rs v.roots

-- what the site's log tells, or nothing where it was not added
abbrev pub TellsOf : List ℕ → Option (List LogRec) → Option SiteTold → Type 0
TellsOf s None None = Unit {0}
TellsOf s None (Some v) = ⊥
TellsOf s (Some rs) None = ⊥
TellsOf s (Some rs) (Some v) = IsToldBy s rs v

abbrev pub state_in : List (SiteKey × SiteTold) → Addr → NodeKey → FateState
state_in sites a k = elim (told_at sites a.site) [
  | None ↦ FateState.Absent
  | Some v ↦ elim k.branch [ None ↦ FateState.Unknown | Some b ↦ state_by (recalled_answer v.recalled a.node k.aaid b) ]
]

abbrev pub fate_in : List (SiteKey × SiteTold) → Doubt → Fate
fate_in sites d = record { node = d.node; key = d.key; state = state_in sites d.superior d.key }

abbrev pub fates_in : List (SiteKey × SiteTold) → List Doubt → List Fate
fates_in sites [] = []
fates_in sites (d ∷ ds) = fate_in sites d ∷ fates_in sites ds

-- ---- which do not belong together

-- the log of the root's site was added, and has no Commit of the root
abbrev pub lacks_in : List (SiteKey × SiteTold) → Aaid → Bool
lacks_in sites t = elim (told_at sites t.owner) [ None ↦ false | Some v ↦ not (has_tree v.roots t) ]

abbrev pub mismatch_in : List (SiteKey × SiteTold) → Ledger → Fate → Option Mismatch
mismatch_in sites l f = elim (is_unknown f.state && lacks_in sites f.key.aaid)
    [ true ↦ option_map (mismatch_at f) (committed_at l.trees f.key.aaid) | false ↦ None ]

abbrev pub mismatches_in : List (SiteKey × SiteTold) → Ledger → List Fate → List Mismatch
mismatches_in sites l [] = []
mismatches_in sites l (f ∷ fs) = elim (mismatch_in sites l f) [ None ↦ mismatches_in sites l fs | Some m ↦ m ∷ mismatches_in sites l fs ]

-- ---- all of it

-- these logs were added, in this order
pub record IsAuditOf (logs : List SiteLog) (a : Audit) : Type 0 where
  pub sites : (s : List ℕ) → TellsOf s (records_of_site logs s) (told_at a.sites s)
  pub ledger : IsLedgerOf (entries logs) a.ledger

-- and the log of one site after them
abbrev pub with_log : List SiteLog → List ℕ → List LogRec → List SiteLog
with_log logs s rs = logs ++ record { site = s; records = rs } ∷ []
