-- Logs that do not belong together: a node committed, the log of the root of its tree has no Commit of the root, and a node of the tree is in
-- doubt whose superior's log knows nothing of it.
use Rattle.std.specs.Prelude.{◌&&◌, not, Bool, true, false, Option, Some, None, option_map, List, [], ◌∷◌}
use Rattle.tp_names.specs.declared.identifiers.Aaid.{Aaid}
use Rattle.tp_names.specs.declared.identifiers.Addr.{Addr}
use Rattle.tp_names.specs.declared.outcome.Outcome.{Outcome}
use Rattle.tp_model.specs.Promises.{has_record}
use Rattle.tp_audit.specs.declared.fate.Fate.{Fate}
use Rattle.tp_audit.specs.declared.fate.FateState.{FateState}
use Rattle.tp_audit.specs.declared.mismatch.Mismatch.{Mismatch}
use Rattle.tp_audit.specs.Entries.{SiteLog, Entry, addr_of, entries}
use Rattle.tp_audit.specs.Fates.{records_of_site, fates}
use Rattle.tp_audit.specs.Ledgers.{is_end_in}
use Rattle.tp_audit.specs.Roots.{is_root_commit}

abbrev pub is_unknown : FateState → Bool
is_unknown FateState.Commit = false
is_unknown FateState.RetryLater = false
is_unknown FateState.Unknown = true
is_unknown FateState.Absent = false

-- the log of the root's site was added, and has no Commit of the root
abbrev pub lacks_root_commit : List SiteLog → Aaid → Bool
lacks_root_commit logs t = elim (records_of_site logs t.owner) [ None ↦ false | Some rs ↦ not (has_record (is_root_commit t) rs) ]

-- the first node that committed in the tree and took no decision of its own
abbrev pub first_committed : Aaid → List Entry → Option Addr
first_committed t [] = None
first_committed t (e ∷ es) = elim (is_end_in t Outcome.Commit e) [ true ↦ Some (addr_of e) | false ↦ first_committed t es ]

-- ---- by the fate of a node that is in doubt

abbrev pub mismatch_at : Fate → Addr → Mismatch
mismatch_at f a = record { aaid = f.key.aaid; committed = a; doubtful = f.node }

abbrev pub mismatch_of : List SiteLog → Fate → Option Mismatch
mismatch_of logs f = elim (is_unknown f.state && lacks_root_commit logs f.key.aaid)
    [ true ↦ option_map (mismatch_at f) (first_committed f.key.aaid (entries logs)) | false ↦ None ]

abbrev pub mismatches_of : List SiteLog → List Fate → List Mismatch
mismatches_of logs [] = []
mismatches_of logs (f ∷ fs) = elim (mismatch_of logs f) [ None ↦ mismatches_of logs fs | Some m ↦ m ∷ mismatches_of logs fs ]

abbrev pub mismatches : List SiteLog → List Mismatch
mismatches logs = mismatches_of logs (fates logs)
