-- The verdict over copies of the logs of a deployment is yes.
use Rattle.std.specs.List.{AllByRecursion}
use Rattle.std.specs.Prelude.{Any}
use Rattle.std.proofs.Common.{◌≡◌, ℕ, refl, ap, sym, ◌∙◌, subst, Option, Some, None, List, [], ◌∷◌, ◌++◌}
use Rattle.tp_logrec.specs.declared.owner.Owner.{Owner}
use Rattle.tp_logrec.specs.declared.record.LogRec.{LogRec}
use Rattle.tp_logrec.specs.Order.{Life, owner_of, with_record}
use Rattle.tp_model.specs.World.{World}
use Rattle.tp_model.specs.Happenings.{Happening, run}
use Rattle.tp_agreement.specs.Logs.{LogsAgree}
use Rattle.tp_site_logs.specs.Lives.{Life as SiteLife, opening_after}
use Rattle.tp_site_logs.proofs.EveryLog.{disks_tell}
use Rattle.tp_deployments.specs.Deployments.{Deed, Place, AreArranged, IsDeployment}
use Rattle.tp_deployments.specs.RunOf.{IsRunOf}
use Rattle.tp_laws.specs.Whole.{AllPromised}
use Rattle.tp_laws.proofs.Deployed.{deployments_keep}
use Rattle.tp_processes.specs.Processes.{Process, StandsIn}
use Rattle.tp_processes.specs.Deployed.{AreDeedsOf}
use Rattle.tp_audit.specs.Entries.{SiteLog, Entry, keys_after, keys_from, keys_of, entries_at, entries}
use Rattle.tp_audit.specs.Verdicts.{outcome_of, settled_of, verdict_by}
use Rattle.tp_audit.specs.Runs.{records_on, AreOn}
use Rattle.tp_audit.proofs.Runs.{verdict_yes, outcomes_agree}
use Rattle.tp_readers.specs.Audits.{IsCopied, AreCopies, IsYes, AuditsAreYes}
use Rattle.tp_readers.proofs.Copies.{in_whole, any_of, on_disk}

-- ---- boots are no matter of the verdict

abbrev with_own : Option Owner → LogRec → List LogRec → List LogRec
with_own None r rs = rs
with_own (Some o) r rs = r ∷ rs

abbrev owned : List LogRec → List LogRec
owned [] = []
owned (r ∷ rs) = with_own (owner_of r) r (owned rs)

abbrev owned_logs : List SiteLog → List SiteLog
owned_logs [] = []
owned_logs (l ∷ logs) = record { site = l.site; records = owned l.records } ∷ owned_logs logs

same_keys : (ls : List Life) (rs : List LogRec) → keys_from ls (owned rs) ≡ keys_from ls rs
same_keys ls [] = refl
same_keys ls (r ∷ rs) = go (owner_of r) refl (same_keys (keys_after ls r) rs)
  where
    go : (x : Option Owner) → owner_of r ≡ x → keys_from (keys_after ls r) (owned rs) ≡ keys_from (keys_after ls r) rs → keys_from ls (with_own x r (owned rs)) ≡ keys_from (keys_after ls r) rs
    go (Some o) i rest = rest
    go None i rest =
        let same : keys_after ls r ≡ ls = ap (λ (x : Option Owner). elim x as (λ _. List Life) [ None ↦ ls | Some o ↦ with_record ls o r ]) i in
        ap (λ (ks : List Life). keys_from ks (owned rs)) (sym same) ∙ rest

same_entries : (logs : List SiteLog) → entries (owned_logs logs) ≡ entries logs
same_entries [] = refl
same_entries (l ∷ logs) = ap (λ (ks : List Life). entries_at l.site ks ++ entries (owned_logs logs)) (same_keys [] l.records) ∙ ap (λ (es : List Entry). entries_at l.site (keys_of l.records) ++ es) (same_entries logs)

-- ---- all others stand on the disks of the run

module _ (by : List ℕ → List Process) (qs : List Place) (ds : List Deed) (arr : AreArranged qs) (dep : IsDeployment qs ds) (k : AreDeedsOf by ds) where
  the_run : (es : List Happening) × IsRunOf qs ds (run es) × AllPromised (run es)
  the_run = deployments_keep qs ds arr dep

  abbrev w : World
  w = run the_run.0

  one_on : (s : List ℕ) (q : LogRec) (o : Owner) → owner_of q ≡ Some o → IsCopied (by s) q → StandsIn (records_on w s) q
  one_on s q o own c =
      on_disk qs ds w arr dep the_run.1 (disks_tell the_run.0) s q o own
      (subst (λ (l : SiteLife). StandsIn (opening_after s l).records q) (sym (k.deeds s)) (in_whole s (by s) q o (k.processes s) own c.process c.file c.records c.among c.from c.small c.log c.stands))

  abbrev OnDisk : List ℕ → List LogRec → Type 0
  OnDisk s rs = AllByRecursion (λ (r : LogRec). Any (λ q. q ≡ r) (records_on w s)) rs

  log_on : (s : List ℕ) (rs : List LogRec) → AllByRecursion (IsCopied (by s)) rs → OnDisk s (owned rs)
  log_on s [] copied = tt
  log_on s (q ∷ rs) copied = go (owner_of q) refl (log_on s rs copied.1)
    where
      go : (x : Option Owner) → owner_of q ≡ x → OnDisk s (owned rs) → OnDisk s (with_own x q (owned rs))
      go None i rest = rest
      go (Some o) i rest = (any_of (records_on w s) q (one_on s q o i copied.0), rest)

  logs_on : (logs : List SiteLog) → AreCopies by logs → AreOn w (owned_logs logs)
  logs_on [] copied = tt
  logs_on (l ∷ logs) copied = (log_on l.site l.records copied.0, logs_on logs copied.1)

  agree : LogsAgree w
  agree = the_run.2.trees.logs

  pub is_yes : (logs : List SiteLog) → AreCopies by logs → IsYes logs
  is_yes logs copied = record {
    yes = ap (verdict_by settled_of) (sym (same_entries logs)) ∙ verdict_yes w (owned_logs logs) agree (disks_tell the_run.0) (logs_on logs copied);
    decided_too = ap (verdict_by outcome_of) (sym (same_entries logs)) ∙ outcomes_agree w (owned_logs logs) agree (disks_tell the_run.0) (logs_on logs copied);
  }

pub audits_are_yes : AuditsAreYes
audits_are_yes by qs ds logs k arr dep copied = is_yes by qs ds arr dep k logs copied
