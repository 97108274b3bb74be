-- What is kept of the logs, with one log more, and what it tells.
use Rattle.std.proofs.Common.{◌≡◌, ℕ, Bool, true, false, Option, Some, None, List, [], ◌∷◌, ◌++◌, refl, sym, ap, ◌∙◌, cond, subst, append-nil, append_assoc}
use Rattle.std.specs.Map.{lookup}
use Rattle.tp_names.specs.declared.identifiers.Addr.{Addr}
use Rattle.tp_names.specs.declared.identifiers.NodeKey.{NodeKey}
use Rattle.tp_names.specs.declared.identifiers.BranchId.{BranchId}
use Rattle.tp_names.specs.Same.{is_name}
use Rattle.tp_names.proofs.Sames.{name_same}
use Rattle.tp_logrec.specs.declared.record.LogRec.{LogRec}
use Rattle.tp_logrec.specs.declared.record.LogVersion.{LogVersion}
use Rattle.tp_model.specs.History.{digest}
use Rattle.tp_model.specs.NodeRun.{origin_at}
use Rattle.tp_site.specs.Recalled.{log_at, answer_to_ready}
use Rattle.tp_audit.specs.declared.keys.SiteKey.{SiteKey}
use Rattle.tp_audit.specs.declared.fate.Fate.{Fate}
use Rattle.tp_audit.specs.declared.fate.FateState.{FateState}
use Rattle.tp_audit.specs.declared.site_told.SiteTold.{SiteTold}
use Rattle.tp_audit.specs.declared.summary.Summary.{Summary}
use Rattle.tp_audit.specs.Summaries.{summary_of, summaries}
use Rattle.tp_logrec.specs.declared.owner.Owner.{Owner}
use Rattle.tp_logrec.specs.Order.{Life}
use Rattle.tp_audit.specs.Entries.{SiteLog, Entry, addr_of, keys_of, entries_at, entries}
use Rattle.tp_audit.specs.Verdicts.{verdict}
use Rattle.tp_audit.specs.Doubts.{superior_of}
use Rattle.tp_audit.specs.Fates.{records_of_site, state_by, answered_by, state_of, fates_of, fates}
use Rattle.tp_audit.specs.Keys.{is_site, site_key}
use Rattle.tp_audit.specs.Ledgers.{Ledger, IsLedgerOf, verdict_of, doubts_by, doubts_of}
use Rattle.tp_audit.specs.Audits.{Audit, IsAuditOf, IsToldBy, TellsOf, is_added, told_at, state_in, fates_in, with_log}
use Rattle.tp_audit.proofs.Clashes.{verdict_is}

-- ---- what is told

-- a site's log tells of a branch what the node there answers
state_told : (s : List ℕ) (a : Addr) (k : NodeKey) (rs : Option (List LogRec)) (v : Option SiteTold) → a.site ≡ s → TellsOf s rs v
    → elim v as (λ _. FateState) [ None ↦ FateState.Absent | Some w ↦ elim k.branch as (λ _. FateState) [ None ↦ FateState.Unknown | Some b ↦ state_by (Rattle.tp_site.specs.Recalled.recalled_answer w.recalled a.node k.aaid b) ] ]
    ≡ elim rs as (λ _. FateState) [ None ↦ FateState.Absent | Some q ↦ answered_by q a k ]
state_told s a k None None is tells = refl
state_told s a k None (Some v) is tells = absurd tells
state_told s a k (Some rs) None is tells = absurd tells
state_told s a k (Some rs) (Some v) is tells = go k.branch
  where
    go : (b : Option BranchId) → elim b as (λ _. FateState) [ None ↦ FateState.Unknown | Some c ↦ state_by (Rattle.tp_site.specs.Recalled.recalled_answer v.recalled a.node k.aaid c) ]
        ≡ elim b as (λ _. FateState) [ None ↦ FateState.Unknown | Some c ↦ state_by (answer_to_ready (digest (origin_at (log_at a.site LogVersion.Two rs) a.node) []) k.aaid c) ]
    go None = refl
    go (Some c) = ap state_by (tells.recalled.answers a.node k.aaid c ∙ ap (λ t. answer_to_ready (digest (origin_at (log_at t LogVersion.Two rs) a.node) []) k.aaid c) (sym is))

state_is : (logs : List SiteLog) (a : Audit) (s : Addr) (k : NodeKey) → IsAuditOf logs a → state_in a.sites s k ≡ state_of logs s k
state_is logs a s k is = state_told s.site s k (records_of_site logs s.site) (told_at a.sites s.site) refl (is.sites s.site)

fates_are : (logs : List SiteLog) (a : Audit) (es : List Entry) → IsAuditOf logs a → fates_in a.sites (doubts_of es) ≡ fates_of logs es
fates_are logs a [] is = refl
fates_are logs a (e ∷ es) is = go (superior_of e.records) (fates_are logs a es is)
  where
    go : (s : Option Addr) → fates_in a.sites (doubts_of es) ≡ fates_of logs es
        → fates_in a.sites (doubts_by (addr_of e) e.owner.key s ++ doubts_of es)
        ≡ elim s as (λ _. List Fate) [ None ↦ fates_of logs es | Some b ↦ record { node = addr_of e; key = e.owner.key; state = state_of logs b e.owner.key } ∷ fates_of logs es ]
    go None rest = rest
    go (Some b) rest =
        ap (λ t. let f : Fate = record { node = addr_of e; key = e.owner.key; state = t } in f ∷ fates_in a.sites (doubts_of es)) (state_is logs a b e.owner.key is)
        ∙ ap (λ fs. let f : Fate = record { node = addr_of e; key = e.owner.key; state = state_of logs b e.owner.key } in f ∷ fs) rest

pub fates_told : (logs : List SiteLog) (a : Audit) → IsAuditOf logs a → fates_in a.sites a.ledger.doubts ≡ fates logs
fates_told logs a is = ap (fates_in a.sites) is.ledger.doubts ∙ fates_are logs a (entries logs) is

pub verdict_told : (logs : List SiteLog) (a : Audit) → IsAuditOf logs a → verdict_of a.ledger.clash ≡ verdict logs
verdict_told logs a is = ap verdict_of is.ledger.clash ∙ verdict_is 0 (entries logs)

-- ---- the entries of one log

-- so far these entries were entered, and those of the keys that are left are still to come
pub record IsUnderWay (s : List ℕ) (es : List Entry) (ls : List Life) (l : Ledger) (rest : List (Owner × Summary)) : Type 0 where
  pub left : List Life
  pub done : List Entry
  pub keys : rest ≡ summaries left
  pub is : IsLedgerOf done l
  pub all : done ++ entries_at s left ≡ es ++ entries_at s ls

pub first_key : (o : Owner) (t : Summary) (rest : List (Owner × Summary)) (left : List Life) → (o, t) ∷ rest ≡ summaries left → (l : Life) × (more : List Life) × (left ≡ l ∷ more) × (o ≡ l.owner) × (t ≡ summary_of l.records) × (rest ≡ summaries more)
first_key o t rest [] is = absurd cc
first_key o t rest (l ∷ more) is = (l, more, refl, ap (λ (ps : List (Owner × Summary)). owner_or o ps) is, ap (λ ps. summary_or t ps) is, ap rest_of is)
  where
    owner_or : Owner → List (Owner × Summary) → Owner
    owner_or o [] = o
    owner_or o (p ∷ ps) = p.0

    summary_or : Summary → List (Owner × Summary) → Summary
    summary_or t [] = t
    summary_or t (p ∷ ps) = p.1

    rest_of : List (Owner × Summary) → List (Owner × Summary)
    rest_of [] = []
    rest_of (p ∷ ps) = ps

pub next_under_way : (s : List ℕ) (es : List Entry) (ls : List Life) (l m : Ledger) (o : Owner) (t : Summary) (rest : List (Owner × Summary)) → IsUnderWay s es ls l ((o, t) ∷ rest)
    → ((done : List Entry) (e : Entry) → IsLedgerOf done l → e.site ≡ s → e.owner ≡ o → summary_of e.records ≡ t → IsLedgerOf (done ++ e ∷ []) m)
    → IsUnderWay s es ls m rest
next_under_way s es ls l m o t rest way enters =
    let first = first_key o t rest way.left way.keys in
    let x : Entry = record { site = s; owner = first.0.owner; records = first.0.records } in
    record {
      left = first.1;
      done = way.done ++ x ∷ [];
      keys = first.5;
      is = enters way.done x way.is refl (sym first.3) (sym first.4);
      all = append_assoc way.done (x ∷ []) (entries_at s first.1) ∙ ap (λ k. way.done ++ entries_at s k) (sym first.2) ∙ way.all;
    }

pub ends_under_way : (s : List ℕ) (es : List Entry) (ls : List Life) (l : Ledger) → IsUnderWay s es ls l [] → IsLedgerOf (es ++ entries_at s ls) l
ends_under_way s es ls l way = subst (λ xs. IsLedgerOf xs l) (sym (append-nil way.done) ∙ ap (λ k. way.done ++ entries_at s k) (sym (none_left way.left way.keys)) ∙ way.all) way.is
  where
    none_left : (left : List Life) → [] ≡ summaries left → left ≡ []
    none_left [] is = refl
    none_left (k ∷ ks) is = absurd cc

-- ---- the log of one site more

entries_more : (logs : List SiteLog) (s : List ℕ) (rs : List LogRec) → entries (with_log logs s rs) ≡ entries logs ++ entries_at s (keys_of rs)
entries_more [] s rs = append-nil (entries_at s (keys_of rs))
entries_more (l ∷ logs) s rs = ap (λ es. entries_at l.site (keys_of l.records) ++ es) (entries_more logs s rs) ∙ sym (append_assoc (entries_at l.site (keys_of l.records)) (entries logs) (entries_at s (keys_of rs)))

records_more : (logs : List SiteLog) (s q : List ℕ) (rs : List LogRec)
    → records_of_site (with_log logs s rs) q ≡ elim (records_of_site logs q) as (λ _. Option (List LogRec)) [ Some o ↦ Some o | None ↦ elim (is_name s q) as (λ _. Option (List LogRec)) [ true ↦ Some rs | false ↦ None ] ]
records_more [] s q rs = refl
records_more (l ∷ logs) s q rs = go (is_name l.site q) (records_more logs s q rs)
  where
    go : (b : Bool) → records_of_site (with_log logs s rs) q ≡ elim (records_of_site logs q) as (λ _. Option (List LogRec)) [ Some o ↦ Some o | None ↦ elim (is_name s q) as (λ _. Option (List LogRec)) [ true ↦ Some rs | false ↦ None ] ]
        → elim b as (λ _. Option (List LogRec)) [ true ↦ Some l.records | false ↦ records_of_site (with_log logs s rs) q ]
        ≡ elim (elim b as (λ _. Option (List LogRec)) [ true ↦ Some l.records | false ↦ records_of_site logs q ]) as (λ _. Option (List LogRec)) [ Some o ↦ Some o | None ↦ elim (is_name s q) as (λ _. Option (List LogRec)) [ true ↦ Some rs | false ↦ None ] ]
    go true rest = refl
    go false rest = rest

-- a site that was not added
abbrev missing_is : Option (List LogRec) → Bool
missing_is o = elim o [ None ↦ false | Some rs ↦ true ]

tells_more : (logs : List SiteLog) (s q : List ℕ) (rs : List LogRec) (v : SiteTold) (old new : Option SiteTold) → is_added logs s ≡ false → IsToldBy s rs v
    → new ≡ cond (is_name s q) (Some v) old → TellsOf q (records_of_site logs q) old → TellsOf q (records_of_site (with_log logs s rs) q) new
tells_more logs s q rs v old new missing told put tells =
    subst (λ o. TellsOf q o new) (sym (records_more logs s q rs)) (subst (TellsOf q (elim (records_of_site logs q) as (λ _. Option (List LogRec)) [ Some o ↦ Some o | None ↦ elim (is_name s q) as (λ _. Option (List LogRec)) [ true ↦ Some rs | false ↦ None ] ])) (sym put)
    (go (is_name s q) (records_of_site logs q) old refl refl tells))
  where
    go : (b : Bool) (o : Option (List LogRec)) (w : Option SiteTold) → is_name s q ≡ b → records_of_site logs q ≡ o → TellsOf q o w
        → TellsOf q (elim o as (λ _. Option (List LogRec)) [ Some p ↦ Some p | None ↦ elim b as (λ _. Option (List LogRec)) [ true ↦ Some rs | false ↦ None ] ]) (cond b (Some v) w)
    go true None w i j t = subst (λ p. IsToldBy p rs v) (name_same s q i) told
    go true (Some p) w i j t = absurd (let never : true ≡ false = ap missing_is (sym j) ∙ ap (λ n. missing_is (records_of_site logs n)) (sym (name_same s q i)) ∙ missing in cc)
    go false None None i j t = t
    go false None (Some x) i j t = t
    go false (Some p) None i j t = t
    go false (Some p) (Some x) i j t = t

pub taken_log : (logs : List SiteLog) (s : List ℕ) (rs : List LogRec) (v : SiteTold) (a b : Audit) → is_added logs s ≡ false → IsToldBy s rs v → IsAuditOf logs a
    → ((q : SiteKey) → lookup (is_site q) b.sites ≡ cond (is_site (site_key s) q) (Some v) (lookup (is_site q) a.sites))
    → IsLedgerOf (entries logs ++ entries_at s (keys_of rs)) b.ledger → IsAuditOf (with_log logs s rs) b
taken_log logs s rs v a b missing told is put ledger = record {
  sites = λ q. tells_more logs s q rs v (told_at a.sites q) (told_at b.sites q) missing told (put (site_key q)) (is.sites q);
  ledger = subst (λ es. IsLedgerOf es b.ledger) (sym (entries_more logs s rs)) ledger;
}

-- whether a site was added is what the table has of it
pub added_is : (logs : List SiteLog) (a : Audit) (s : List ℕ) → IsAuditOf logs a → elim (told_at a.sites s) as (λ _. Bool) [ None ↦ false | Some v ↦ true ] ≡ is_added logs s
added_is logs a s is = go (records_of_site logs s) (told_at a.sites s) (is.sites s)
  where
    go : (o : Option (List LogRec)) (v : Option SiteTold) → TellsOf s o v → elim v as (λ _. Bool) [ None ↦ false | Some w ↦ true ] ≡ missing_is o
    go None None t = refl
    go None (Some w) t = absurd t
    go (Some rs) None t = absurd t
    go (Some rs) (Some w) t = refl

pub addr_is : (e : Entry) (s : List ℕ) (o : Owner) → e.site ≡ s → e.owner ≡ o → addr_of e ≡ record { site = s; node = o.node }
addr_is e s o site owner =
    ap (λ x. let a : Addr = record { site = x; node = e.owner.node } in a) site ∙ ap (λ (p : Owner). let a : Addr = record { site = s; node = p.node } in a) owner
