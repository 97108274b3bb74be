-- A site that runs ahead of its log: what it comes to when all that is noted is settled.
use Rattle.std.proofs.Common.{◌≡◌, ℕ, Bool, Result, Ok, Err, List, map, ap, ◌∙◌}
use Rattle.tp_records.specs.declared.body.Event.{Event as Given}
use Rattle.tp_model.specs.NodeRun.{Opening}
use Rattle.tp_journal.specs.declared.faults.ForceFault.{ForceFault}
use Rattle.tp_journal.specs.declared.faults.ForceFault.TheVariants as force
use Rattle.tp_journal.specs.declared.receipts.Receipt.{Receipt}
use Rattle.tp_journal.specs.Keeping.{Standing}
use Rattle.tp_journal.specs.Records.{version_of}
use Rattle.tp_journal.specs.Settling.{SettlesTo}
use Rattle.tp_site.specs.Nodes.{Nodes, digest_at}
use Rattle.tp_site.specs.Site.{Site}
use Rattle.tp_site.specs.Events.{IsAt}

-- the keeper's own records and the version of its log stay
pub settled_kept : (old new : Standing) (r : Result (Unit {0}) ForceFault) → SettlesTo old r new → new.kept ≡ old.kept
settled_kept old new (Ok u) s = s.keeps.kept
settled_kept old new (Err (force.Full size)) s = absurd s
settled_kept old new (Err (force.DiskFault n)) s = s.0.kept
settled_kept old new (Err (force.Shut n)) s = ap (λ (t : Standing). t.kept) s.1
settled_kept old new (Err force.NoMemory) s = absurd s

pub settled_wide : (old new : Standing) (r : Result (Unit {0}) ForceFault) → SettlesTo old r new → new.wide ≡ old.wide
settled_wide old new (Ok u) s = s.keeps.wide
settled_wide old new (Err (force.Full size)) s = absurd s
settled_wide old new (Err (force.DiskFault n)) s = s.0.wide
settled_wide old new (Err (force.Shut n)) s = ap (λ (t : Standing). t.wide) s.1
settled_wide old new (Err force.NoMemory) s = absurd s

pub at_settled : {K : Type 0} (standing : K → Standing) (old new : Site K) (r : Result (Unit {0}) ForceFault) → SettlesTo (standing old.keeper) r (standing new.keeper) → new.nodes ≡ old.nodes
    → (mine : ℕ → Bool) (o : Opening) (gs : List Given) → IsAt standing mine o gs old → IsAt standing mine o gs new
at_settled standing old new r settles nodes mine o gs at = record {
  site = ap (λ (v : Nodes). v.site) nodes ∙ at.site;
  boot = ap (λ (v : Nodes). v.boot) nodes ∙ at.boot;
  version = ap (λ (v : Nodes). v.version) nodes ∙ at.version;
  wide = ap version_of (settled_wide (standing old.keeper) (standing new.keeper) r settles) ∙ at.wide;
  known = λ n own. ap (λ (v : Nodes). digest_at v n) nodes ∙ at.known n own;
  kept = ap (map (λ (receipt : Receipt). receipt.rec)) (settled_kept (standing old.keeper) (standing new.keeper) r settles) ∙ at.kept;
}
