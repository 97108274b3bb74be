-- The records of a site's keeper stay in order over an event.
use Rattle.std.proofs.Common.{◌≡◌, ◌++◌, ℕ, Bool, true, refl, ap, sym, ◌∙◌, List, [], ◌∷◌, Result, Ok, Err, inl, inr}
use Rattle.tp_names.proofs.Sames.{both}
use Rattle.tp_logrec.specs.declared.record.LogRec.{LogRec}
use Rattle.tp_logrec.specs.Order.{follow_from, all_follow}
use Rattle.tp_logrec.proofs.BriefOrders.{follow_from-append}
use Rattle.tp_records.specs.declared.body.Event.{Event as Given}
use Rattle.tp_records.specs.declared.body.Output.{Output}
use Rattle.tp_model.specs.NodeRun.{Opening, boot_of, run_from, log_after}
use Rattle.tp_site_logs.specs.SiteLogs.{is_vote_of_branch, only_branches_vote, is_in_order}
use Rattle.tp_site_logs.proofs.StaysInOrder.{stays_in_order}
use Rattle.tp_journal.specs.Keeping.{Standing}
use Rattle.tp_site.specs.declared.faults.SiteFault.{SiteFault}
use Rattle.tp_site.specs.Site.{Site}
use Rattle.tp_site.specs.Events.{IsAt, StepsTo, IsInOrder}

votes_front : (rs qs : List LogRec) → only_branches_vote (rs ++ qs) ≡ true → only_branches_vote rs ≡ true
votes_front [] qs h = refl
votes_front (r ∷ rs) qs h = let p = both (is_vote_of_branch r) (only_branches_vote (rs ++ qs)) h in rw (p.0, votes_front rs qs p.1) refl

order_front : (rs qs : List LogRec) → is_in_order (rs ++ qs) ≡ true → is_in_order rs ≡ true
order_front rs qs h =
    let p = both (all_follow (rs ++ qs)) (only_branches_vote (rs ++ qs)) h in
    let f = both (all_follow rs) (follow_from rs qs) (sym (follow_from-append [] rs qs) ∙ p.0) in
    rw (f.0, votes_front rs qs p.1) refl

log_stays : (o : Opening) (gs hs : List Given) → is_in_order (log_after o gs) ≡ true → is_in_order (log_after o hs) ≡ true
log_stays o gs hs h = stays_in_order o hs (order_front o.records (LogRec.Boot (boot_of o) ∷ (run_from o [] gs).log) h)

pub stepped_order : {K : Type 0} (standing : K → Standing) (mine : ℕ → Bool) (o : Opening) (gs : List Given) (old : Site K) (g : Given) (result : Result (List Output) SiteFault) (new : Site K) → IsAt standing mine o gs old
    → StepsTo standing mine o gs old g result new → IsInOrder (standing old.keeper) → IsInOrder (standing new.keeper)
stepped_order {K} standing mine o gs old g result new was steps h = go result steps
  where
    at : (hs : List Given) → IsAt standing mine o hs new → IsInOrder (standing new.keeper)
    at hs now = ap is_in_order now.kept ∙ log_stays o gs hs (ap is_in_order (sym was.kept) ∙ h)

    go : (r : Result (List Output) SiteFault) → StepsTo standing mine o gs old g r new → IsInOrder (standing new.keeper)
    go (Ok outputs) s = at (gs ++ g ∷ []) s.at
    go (Err (SiteFault.Refused k)) s = at (gs ++ g ∷ []) s.0
    go (Err (SiteFault.Full size)) s = at gs s.0.at
    go (Err (SiteFault.DiskFault faults)) s = at gs s.0.at
    go (Err (SiteFault.Shut faults)) (inl s) = at gs s.0
    go (Err (SiteFault.Shut faults)) (inr s) = at gs s.0.at
    go (Err SiteFault.NoMemory) s = at gs s.0
