-- The whole logs of a run belong together; and what is kept of the logs tells which do not.
use Rattle.std.proofs.Common.{◌≡◌, ℕ, suc, Bool, true, false, Option, Some, None, List, [], ◌∷◌, refl, sym, ap, ◌∙◌, subst}
use Rattle.std.specs.Prelude.{◌&&◌, not, option_map}
use Rattle.std.specs.List.{AllByRecursion}
use Rattle.tp_names.specs.declared.identifiers.Aaid.{Aaid}
use Rattle.tp_names.specs.declared.identifiers.Addr.{Addr}
use Rattle.tp_names.specs.declared.outcome.Outcome.{Outcome}
use Rattle.tp_names.specs.Same.{is_aaid, is_name}
use Rattle.tp_names.proofs.Sames.{both, aaid_same, name_same}
use Rattle.tp_logrec.specs.declared.record.LogRec.{LogRec}
use Rattle.tp_model.specs.Outcomes.{is_commit_of}
use Rattle.tp_model.specs.Promises.{has_record}
use Rattle.tp_model.specs.World.{World, Site, find_site}
use Rattle.tp_model.specs.Happenings.{Happening, run}
use Rattle.tp_laws.specs.SiteLogs.{DisksTell, log_of}
use Rattle.tp_audit.specs.declared.fate.Fate.{Fate}
use Rattle.tp_audit.specs.declared.mismatch.Mismatch.{Mismatch}
use Rattle.tp_audit.specs.declared.firsts.Place.{Place}
use Rattle.tp_audit.specs.declared.firsts.Firsts.{Firsts}
use Rattle.tp_audit.specs.Entries.{SiteLog, Entry, addr_of, tree_of, entries}
use Rattle.tp_audit.specs.Verdicts.{settled_of, outcome_of}
use Rattle.tp_audit.specs.Fates.{records_of_site}
use Rattle.tp_audit.specs.declared.site_told.SiteTold.{SiteTold}
use Rattle.tp_audit.specs.Ledgers.{ends_by, is_end_in, first_from, firsts_in, committed_at}
use Rattle.tp_audit.specs.Roots.{is_root_commit, has_tree}
use Rattle.tp_audit.specs.Audits.{Audit, IsAuditOf, TellsOf, told_at, mismatch_in, mismatches_in}
use Rattle.tp_audit.specs.Mismatches.{is_unknown, lacks_root_commit, first_committed, mismatch_at, mismatch_of, mismatches_of}
use Rattle.tp_audit.specs.Runs.{records_on, AreOn, AreWhole}
use Rattle.tp_audit.proofs.Runs.{IsOn, entries_stand, stand_behind, commits_logged, Forced}
use Rattle.tp_audit.proofs.RootCommits.{roots_commit}

-- ---- what a ledger has of the first that committed

abbrev pub node_of : Place → Addr
node_of p = p.node

pub committed_is : (n : ℕ) (t : Aaid) (es : List Entry) → option_map node_of (first_from n t Outcome.Commit es) ≡ first_committed t es
committed_is n t [] = refl
committed_is n t (e ∷ es) = go (is_end_in t Outcome.Commit e) (committed_is (suc n) t es)
  where
    go : (b : Bool) → option_map node_of (first_from (suc n) t Outcome.Commit es) ≡ first_committed t es
        → option_map node_of (elim b as (λ _. Option Place) [ true ↦ Some (record { number = n; node = addr_of e }) | false ↦ first_from (suc n) t Outcome.Commit es ])
        ≡ elim b as (λ _. Option Addr) [ true ↦ Some (addr_of e) | false ↦ first_committed t es ]
    go true rest = refl
    go false rest = rest

-- ---- what is kept of the logs tells which do not belong together

lacks_told : (t : Aaid) (o : Option (List LogRec)) (v : Option SiteTold) → TellsOf t.owner o v
    → elim v as (λ _. Bool) [ None ↦ false | Some w ↦ not (has_tree w.roots t) ] ≡ elim o as (λ _. Bool) [ None ↦ false | Some rs ↦ not (has_record (is_root_commit t) rs) ]
lacks_told t None None tells = refl
lacks_told t None (Some v) tells = absurd tells
lacks_told t (Some rs) None tells = absurd tells
lacks_told t (Some rs) (Some v) tells = ap not (tells.roots t)

mismatch_told : (logs : List SiteLog) (a : Audit) (f : Fate) → IsAuditOf logs a → mismatch_in a.sites a.ledger f ≡ mismatch_of logs f
mismatch_told logs a f is =
    ap (λ (b : Bool). elim (is_unknown f.state && b) as (λ _. Option Mismatch) [ true ↦ option_map (mismatch_at f) (committed_at a.ledger.trees f.key.aaid) | false ↦ None ])
    (lacks_told f.key.aaid (records_of_site logs f.key.aaid.owner) (told_at a.sites f.key.aaid.owner) (is.sites f.key.aaid.owner))
    ∙ ap (λ (o : Option Addr). elim (is_unknown f.state && lacks_root_commit logs f.key.aaid) as (λ _. Option Mismatch) [ true ↦ option_map (mismatch_at f) o | false ↦ None ])
    (ap (λ (fs : Firsts). option_map node_of fs.commit) (is.ledger.trees f.key.aaid) ∙ committed_is 0 f.key.aaid (entries logs))

pub mismatches_told : (logs : List SiteLog) (a : Audit) (fs : List Fate) → IsAuditOf logs a → mismatches_in a.sites a.ledger fs ≡ mismatches_of logs fs
mismatches_told logs a [] is = refl
mismatches_told logs a (f ∷ fs) is =
    ap (λ (o : Option Mismatch). elim o as (λ _. List Mismatch) [ None ↦ mismatches_in a.sites a.ledger fs | Some m ↦ m ∷ mismatches_in a.sites a.ledger fs ]) (mismatch_told logs a f is)
    ∙ ap (λ (ms : List Mismatch). elim (mismatch_of logs f) as (λ _. List Mismatch) [ None ↦ ms | Some m ↦ m ∷ ms ]) (mismatches_told logs a fs is)

-- ---- whole logs

whole_stand : (w : World) (logs : List SiteLog) → AreWhole w logs → AreOn w logs
whole_stand w [] whole = tt
whole_stand w (l ∷ logs) whole = (subst (λ (rs : List LogRec). AllByRecursion (λ (r : LogRec). Rattle.std.specs.Prelude.Any (λ q. q ≡ r) rs) l.records) whole.0 (stand_behind [] l.records), whole_stand w logs whole.1)

-- the log of a site, where it is there
of_site : (w : World) (logs : List SiteLog) (s : List ℕ) (rs : List LogRec) → AreWhole w logs → records_of_site logs s ≡ Some rs → rs ≡ records_on w s
of_site w [] s rs whole is = absurd cc
of_site w (l ∷ logs) s rs whole is = go (is_name l.site s) refl is (of_site w logs s rs whole.1)
  where
    go : (b : Bool) → is_name l.site s ≡ b → elim b as (λ _. Option (List LogRec)) [ true ↦ Some l.records | false ↦ records_of_site logs s ] ≡ Some rs
        → (records_of_site logs s ≡ Some rs → rs ≡ records_on w s) → rs ≡ records_on w s
    go true i k rest = let same : l.records ≡ rs = cc in sym same ∙ whole.0 ∙ ap (records_on w) (name_same l.site s i)
    go false i k rest = rest k

settled_commits : (rs : List LogRec) → settled_of rs ≡ Some Outcome.Commit → outcome_of rs ≡ Some Outcome.Commit
settled_commits rs is = go (has_record Rattle.tp_logrec.specs.Order.is_heuristic rs) is
  where
    go : (b : Bool) → elim b as (λ _. Option Outcome) [ true ↦ None | false ↦ outcome_of rs ] ≡ Some Outcome.Commit → outcome_of rs ≡ Some Outcome.Commit
    go true i = absurd cc
    go false i = i

by_commit : (o : Option Outcome) → ends_by Outcome.Commit o ≡ true → o ≡ Some Outcome.Commit
by_commit None is = absurd cc
by_commit (Some Outcome.Commit) is = refl
by_commit (Some Outcome.Rollback) is = absurd cc

-- where an entry committed, a node forced that Commit
some_committed : (w : World) (t : Aaid) (es : List Entry) (a : Addr) → DisksTell w → AllByRecursion (IsOn w) es → first_committed t es ≡ Some a → Forced w (is_commit_of t)
some_committed w t [] a tell on is = absurd cc
some_committed w t (e ∷ es) a tell on is = go (is_end_in t Outcome.Commit e) refl is (some_committed w t es a tell on.1)
  where
    go : (b : Bool) → is_end_in t Outcome.Commit e ≡ b → elim b as (λ _. Option Addr) [ true ↦ Some (addr_of e) | false ↦ first_committed t es ] ≡ Some a
        → (first_committed t es ≡ Some a → Forced w (is_commit_of t)) → Forced w (is_commit_of t)
    go true i k rest =
        let so = both (is_aaid t (tree_of e)) (ends_by Outcome.Commit (settled_of e.records)) i in
        subst (λ (u : Aaid). Forced w (is_commit_of u)) (sym (aaid_same t (tree_of e) so.0)) (commits_logged w e tell on.0 (settled_commits e.records (by_commit (settled_of e.records) so.1)))
    go false i k rest = rest k

root_there : (es : List Happening) (logs : List SiteLog) (t : Aaid) → AreWhole (run es) logs → Forced (run es) (is_commit_of t) → lacks_root_commit logs t ≡ false
root_there es logs t whole forced = go (records_of_site logs t.owner) refl
  where
    x : (x : Site) × (find_site (run es).sites t.owner ≡ Some x) × (has_record (is_root_commit t) (log_of x) ≡ true)
    x = roots_commit es t forced.0 forced.1 forced.2

    own : records_on (run es) t.owner ≡ log_of x.0
    own = ap (λ (o : Option Site). elim o as (λ _. List LogRec) [ None ↦ [] | Some s ↦ log_of s ]) x.1

    go : (o : Option (List LogRec)) → records_of_site logs t.owner ≡ o → elim o as (λ _. Bool) [ None ↦ false | Some rs ↦ not (has_record (is_root_commit t) rs) ] ≡ false
    go None i = refl
    go (Some rs) i = ap (λ (qs : List LogRec). not (has_record (is_root_commit t) qs)) (of_site (run es) logs t.owner rs whole i ∙ own) ∙ ap not x.2

no_mismatch : (es : List Happening) (logs : List SiteLog) (f : Fate) → AreWhole (run es) logs → DisksTell (run es) → mismatch_of logs f ≡ None
no_mismatch es logs f whole tell = go (is_unknown f.state) (first_committed t (entries logs)) refl
  where
    t : Aaid
    t = f.key.aaid

    on : AllByRecursion (IsOn (run es)) (entries logs)
    on = entries_stand (run es) logs (whole_stand (run es) logs whole)

    none : (b : Bool) → elim b as (λ _. Option Mismatch) [ true ↦ None | false ↦ None ] ≡ None
    none true = refl
    none false = refl

    go : (u : Bool) (c : Option Addr) → first_committed t (entries logs) ≡ c
        → elim (u && lacks_root_commit logs t) as (λ _. Option Mismatch) [ true ↦ option_map (mismatch_at f) c | false ↦ None ] ≡ None
    go false c i = refl
    go true None i = none (lacks_root_commit logs t)
    go true (Some a) i = ap (λ (b : Bool). elim b as (λ _. Option Mismatch) [ true ↦ Some (mismatch_at f a) | false ↦ None ]) (root_there es logs t whole (some_committed (run es) t (entries logs) a tell on i))

pub none_mismatch : (es : List Happening) (logs : List SiteLog) (fs : List Fate) → AreWhole (run es) logs → DisksTell (run es) → mismatches_of logs fs ≡ []
none_mismatch es logs [] whole tell = refl
none_mismatch es logs (f ∷ fs) whole tell =
    ap (λ (o : Option Mismatch). elim o as (λ _. List Mismatch) [ None ↦ mismatches_of logs fs | Some m ↦ m ∷ mismatches_of logs fs ]) (no_mismatch es logs f whole tell) ∙ none_mismatch es logs fs whole tell
