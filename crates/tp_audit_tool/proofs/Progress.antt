-- How far the logs of an audit come: one step of the definitions beside one of the code.
use Rattle.std.proofs.Common.{◌≡◌, ℕ, ◌+◌, ◌≤◌, ◌<◌, Bool, true, false, Option, Some, None, Result, Ok, Err, List, [], ◌∷◌, ◌++◌, length, refl, sym, ap, ◌∙◌, subst, arith, inl, inr, ◌⊎◌, add-zero}
use Rattle.std.specs.Prelude.{not, nat_le, nat_lt}
use Rattle.std.proofs.lemmas.Bool.Decides.{nat_tests}
use Rattle.std.proofs.lemmas.List.{length-append}
use Rattle.tp_names.specs.Places.{AreBytes}
use Rattle.tp_log_tools.specs.Readings.{IsFile}
use Rattle.tp_model.specs.declared.verdict.What.{What}
use Rattle.tp_model.specs.declared.verdict.Why.{Why}
use Rattle.tp_model.specs.LogCommands.{Opened, Is_foreign, Has, opened}
use Rattle.tp_logrec.specs.LogText.{recs}
use Rattle.tp_streams.specs.declared.stop.Stop.{Stop}
use Rattle.tp_audit.specs.Audits.{IsAuditOf, is_added, with_log}
use Rattle.tp_audit.specs.Entries.{SiteLog}
use Rattle.tp_audit_tool.specs.declared.hearing.Hearing.{Hearing}
use Rattle.tp_audit_tool.specs.declared.hearing.OpenLog.{OpenLog}
use Rattle.tp_audit_tool.specs.Adding.{Adds, IsRefused}
use Rattle.tp_audit_tool.specs.AuditTranscript.{Progress, closed, read_behind, opens_behind, opens_at, goes_on_at}
use Rattle.tp_audit_tool.specs.Hearing.{IsAt, Reaches, count_of, is_fresh, bytes_of}

-- ---- the log that is open is at its end

fresh_open : (p : Progress) (o : OpenLog) → p.pending ≡ Some o → is_fresh p ≡ true → is_added p.logs o.site ≡ false
fresh_open p o is fresh = go (is_added p.logs o.site) (ap (λ q. elim q as (λ _. Bool) [ None ↦ true | Some l ↦ not (is_added p.logs l.site) ]) (sym is) ∙ fresh)
  where
    go : (b : Bool) → not b ≡ true → b ≡ false
    go false h = refl
    go true h = absurd cc

one_longer : (logs : List SiteLog) (l : SiteLog) → length (logs ++ l ∷ []) ≡ length logs + 1
one_longer [] l = refl
one_longer (x ∷ logs) l = omega (arith, one_longer logs l)

-- what a log that was read leaves
close_ok : (p : Progress) (old new : Hearing) (o : OpenLog) (r : Opened) → IsAt p old → p.pending ≡ Some o → new.pending ≡ None → new.sites ≡ old.sites → new.size ≡ old.size
    → Adds p.logs o.site r new.audit → (q : Progress) × (read_behind p o r ≡ Ok q) × IsAt q new
close_ok p old new o (Is_foreign at) is now_open none sites size adds = absurd adds
close_ok p old new o (Has version ps) is now_open none sites size adds = (
  record { logs = with_log p.logs o.site (recs ps); pending = None; size = p.size },
  refl,
  record {
    audit = adds;
    pending = none;
    size = size ∙ is.size;
    sites = (let longer = one_longer p.logs (record { site = o.site; records = recs ps }) in let before : old.sites ≡ length p.logs + 1 = is.sites ∙ ap (λ c. length p.logs + count_of c) now_open in omega (arith, longer, before, sites));
    fresh = refl;
    bytes = tt;
    within = omega arith;
  },
)

close_err : (p : Progress) (o : OpenLog) (r : Opened) (stop : Stop) → IsRefused r stop → (read_behind p o r ≡ Err stop) ⊎ (stop ≡ Stop.NoMemory)
close_err p o (Is_foreign at) stop (inl is) = inl (ap (λ s. Err s) (sym is))
close_err p o (Is_foreign at) stop (inr is) = inr is
close_err p o (Has version ps) stop is = inr is

pub closes : (p : Progress) (old new : Hearing) (o : OpenLog) (done : Result (Unit {0}) Stop) → IsAt p old → old.pending ≡ Some o → new.pending ≡ None → new.sites ≡ old.sites → new.size ≡ old.size
    → (IsFile o.bytes → is_added p.logs o.site ≡ false → done ≡ Ok tt → Adds p.logs o.site (opened o.bytes) new.audit)
    → (IsFile o.bytes → (stop : Stop) → done ≡ Err stop → IsRefused (opened o.bytes) stop) → old.size ≤ 268435456
    → Reaches (closed p) done new
closes p old new o done is now_open none sites size adds refused small = subst (λ r. Reaches r done new) (sym reads) (go done (adds file) (refused file))
  where
    pending : p.pending ≡ Some o
    pending = sym is.pending ∙ now_open

    file : IsFile o.bytes
    file = record {
      small = (let w : length o.bytes ≤ p.size = subst (λ q. length (bytes_of q) ≤ p.size) pending is.within in let k = is.size in omega (arith, w, k, small));
      bytes = subst (λ q. AreBytes (bytes_of q)) pending is.bytes;
    }

    reads : closed p ≡ read_behind p o (opened o.bytes)
    reads = ap (λ q. elim q as (λ _. Result Progress Stop) [ None ↦ Ok p | Some l ↦ read_behind p l (opened l.bytes) ]) pending

    go : (d : Result (Unit {0}) Stop) → (is_added p.logs o.site ≡ false → d ≡ Ok tt → Adds p.logs o.site (opened o.bytes) new.audit) → ((stop : Stop) → d ≡ Err stop → IsRefused (opened o.bytes) stop)
        → Reaches (read_behind p o (opened o.bytes)) d new
    go (Ok u) a r = close_ok p old new o (opened o.bytes) is pending none sites size (a (fresh_open p o pending is.fresh) refl)
    go (Err stop) a r = close_err p o (opened o.bytes) stop (r stop refl)

-- where none is open nothing is done
pub nothing_closes : (p : Progress) (old new : Hearing) → IsAt p old → old.pending ≡ None → new.audit ≡ old.audit → new.pending ≡ None → new.sites ≡ old.sites → new.size ≡ old.size → (q : Progress) × (closed p ≡ Ok q) × IsAt q new
nothing_closes p old new is none audit pending sites size = (
  p,
  ap (λ q. elim q as (λ _. Result Progress Stop) [ None ↦ Ok p | Some l ↦ read_behind p l (opened l.bytes) ]) (sym is.pending ∙ none),
  record {
    audit = subst (IsAuditOf p.logs) (sym audit) is.audit;
    pending = pending ∙ sym none ∙ is.pending;
    size = size ∙ is.size;
    sites = sites ∙ is.sites;
    fresh = is.fresh;
    bytes = is.bytes;
    within = is.within;
  },
)

both_bytes : (xs ys : List ℕ) → AreBytes xs → AreBytes ys → AreBytes (xs ++ ys)
both_bytes [] ys a b = b
both_bytes (x ∷ xs) ys a b = (a.0, both_bytes xs ys a.1 b)

-- a log that goes on
pub goes_on : (at : ℕ) (p : Progress) (old new : Hearing) (o : OpenLog) (bytes : List ℕ) → IsAt p old → old.pending ≡ Some o → new.audit ≡ old.audit → new.pending ≡ Some (record { site = o.site; bytes = o.bytes ++ bytes })
    → new.sites ≡ old.sites → new.size ≡ old.size + length bytes → new.size ≤ 268435456 → AreBytes bytes → (q : Progress) × (goes_on_at at p bytes ≡ Ok q) × IsAt q new
goes_on at p old new o bytes is now_open audit pending sites size small came =
    let there : p.pending ≡ Some o = sym is.pending ∙ now_open in
    let room : nat_lt 268435456 (p.size + length bytes) ≡ false = (let k = is.size in grind (arith, nat_tests, k, size, small)) in (
      record { logs = p.logs; pending = Some (record { site = o.site; bytes = o.bytes ++ bytes }); size = p.size + length bytes },
      ap (λ q. elim q as (λ _. Result Progress Stop) [ None ↦ Err (Stop.BadInput at Why.Body) | Some l ↦ elim (nat_lt 268435456 (p.size + length bytes)) as (λ _. Result Progress Stop) [ true ↦ Err (Stop.Limit What.Log at) | false ↦ Ok (record { logs = p.logs; pending = Some (record { site = l.site; bytes = l.bytes ++ bytes }); size = p.size + length bytes }) ] ]) there
          ∙ ap (λ b. elim b as (λ _. Result Progress Stop) [ true ↦ Err (Stop.Limit What.Log at) | false ↦ Ok (record { logs = p.logs; pending = Some (record { site = o.site; bytes = o.bytes ++ bytes }); size = p.size + length bytes }) ]) room,
      record {
        audit = subst (IsAuditOf p.logs) (sym audit) is.audit;
        pending = pending;
        size = size ∙ ap (λ n. n + length bytes) is.size;
        sites = sites ∙ is.sites ∙ ap (λ c. length p.logs + count_of c) there;
        fresh = ap (λ q. elim q as (λ _. Bool) [ None ↦ true | Some l ↦ not (is_added p.logs l.site) ]) (sym there) ∙ is.fresh;
        bytes = both_bytes o.bytes bytes (subst (λ q. AreBytes (bytes_of q)) there is.bytes) came;
        within = (let k = length-append o.bytes bytes in let w : length o.bytes ≤ p.size = subst (λ q. length (bytes_of q) ≤ p.size) there is.within in omega (arith, k, w));
      },
    )

-- another log opens, after the one before it was read
pub opens : (at : ℕ) (p q : Progress) (site : List ℕ) (mid new : Hearing) → closed p ≡ Ok q → IsAt q mid → q.pending ≡ None → is_added q.logs site ≡ false → mid.sites < 16 → new.audit ≡ mid.audit
    → new.pending ≡ Some (record { site = site; bytes = [] }) → new.sites ≡ mid.sites + 1 → new.size ≡ mid.size → (s : Progress) × (opens_at at p site ≡ Ok s) × IsAt s new
opens at p q site mid new closed_is is none missing few audit pending sites size =
    let count : mid.sites ≡ length q.logs = is.sites ∙ ap (λ c. length q.logs + count_of c) none ∙ add-zero (length q.logs) in
    let room : nat_le 16 (length q.logs) ≡ false = grind (arith, nat_tests, count, few) in (
      record { logs = q.logs; pending = Some (record { site = site; bytes = [] }); size = q.size },
      ap (λ r. elim r as (λ _. Result Progress Stop) [ Err stop ↦ Err stop | Ok t ↦ opens_behind at site t ]) closed_is
          ∙ ap (λ b. elim b as (λ _. Result Progress Stop) [ true ↦ Err (Stop.BadInput at Why.Name) | false ↦ elim (nat_le 16 (length q.logs)) as (λ _. Result Progress Stop) [ true ↦ Err (Stop.Limit What.Sites at) | false ↦ Ok (record { logs = q.logs; pending = Some (record { site = site; bytes = [] }); size = q.size }) ] ]) missing
          ∙ ap (λ b. elim b as (λ _. Result Progress Stop) [ true ↦ Err (Stop.Limit What.Sites at) | false ↦ Ok (record { logs = q.logs; pending = Some (record { site = site; bytes = [] }); size = q.size }) ]) room,
      record {
        audit = subst (IsAuditOf q.logs) (sym audit) is.audit;
        pending = pending;
        size = size ∙ is.size;
        sites = sites ∙ ap (λ n. n + 1) count;
        fresh = ap (λ b. not b) missing;
        bytes = tt;
        within = omega arith;
      },
    )

-- after a close none is open
pub none_open : (p q : Progress) → closed p ≡ Ok q → q.pending ≡ None
none_open p q is = go p.pending refl is
  where
    pending_of : Result Progress Stop → Option OpenLog
    pending_of (Ok r) = r.pending
    pending_of (Err stop) = None

    read : (o : OpenLog) (r : Opened) → read_behind p o r ≡ Ok q → q.pending ≡ None
    read o (Is_foreign at) h = absurd cc
    read o (Has version ps) h = ap pending_of (sym h)

    go : (f : Option OpenLog) → p.pending ≡ f → elim f as (λ _. Result Progress Stop) [ None ↦ Ok p | Some o ↦ read_behind p o (opened o.bytes) ] ≡ Ok q → q.pending ≡ None
    go None i h = ap pending_of (sym h) ∙ i
    go (Some o) i h = read o (opened o.bytes) h
