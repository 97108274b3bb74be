-- What a site over a share has come to after an event, and what its answer says of the share.
use Rattle.std.proofs.Common.{◌≡◌, ◌<◌, ℕ, Bool, true, Option, Some, None, is_some, List, [], ◌∷◌, Err, inl, inr, refl, arith}
use Rattle.tp_records.specs.declared.body.Event.{Event as Given}
use Rattle.tp_records.specs.declared.body.Output.{Output}
use Rattle.tp_logrec.specs.declared.record.LogRec.{LogRec}
use Rattle.tp_model.specs.NodeRun.{Opening, Refuses, Is, AskedEvent}
use Rattle.tp_journal.specs.declared.faults.ForceFault.{ForceFault}
use Rattle.tp_journal.specs.declared.faults.ForceFault.TheVariants as force
use Rattle.tp_journal.specs.declared.receipts.Receipt.{Receipt}
use Rattle.tp_journal.specs.Keeping.{Standing}
use Rattle.tp_shared_log.specs.declared.spent.Spent.{Spent}
use Rattle.tp_shared_log.specs.Shares.{Shared, faults_of, share_standing}
use Rattle.tp_site.specs.declared.faults.SiteFault.{SiteFault}
use Rattle.tp_site.specs.Site.{Site, IsUnforced}
use Rattle.tp_site.specs.Events.{IsAt, PlaysAsked, StepsTo, outputs_after}

-- the log took no record
abbrev pub IsHalt : SiteFault → Type 0
IsHalt (SiteFault.Refused k) = ⊥
IsHalt (SiteFault.Full size) = Unit {0}
IsHalt (SiteFault.DiskFault faults) = Unit {0}
IsHalt (SiteFault.Shut faults) = Unit {0}
IsHalt SiteFault.NoMemory = ⊥

abbrev IsForceHalt : ForceFault → Type 0
IsForceHalt (force.Full size) = Unit {0}
IsForceHalt (force.DiskFault faults) = Unit {0}
IsForceHalt (force.Shut faults) = Unit {0}
IsForceHalt force.NoMemory = ⊥

counted_spent : (o : Option Spent) → 0 < faults_of o → is_some o ≡ true
counted_spent None h = absurd (omega arith)
counted_spent (Some s) h = refl

unforced_spent : (stood : List Receipt) (wide : Bool) (old new : Shared) (rec : Option LogRec) (f : ForceFault) → IsForceHalt f → IsUnforced (share_standing stood wide) old rec f new → is_some new.spent ≡ true
unforced_spent stood wide old new None f halt h = absurd h
unforced_spent stood wide old new (Some r) (force.Full size) halt h = counted_spent new.spent h.1
unforced_spent stood wide old new (Some r) (force.DiskFault faults) halt h = counted_spent new.spent (omega (arith, h.1))
unforced_spent stood wide old new (Some r) (force.Shut faults) halt h = counted_spent new.spent h.1
unforced_spent stood wide old new (Some r) force.NoMemory halt h = absurd halt

-- where the log took no record, the stake of the share is spent
pub halt_spent : (stood : List Receipt) (wide : Bool) (old new : Site Shared) (a : AskedEvent) (f : SiteFault) → IsHalt f → old.shut ≡ None → PlaysAsked (share_standing stood wide) old a (Err f) new → is_some new.keeper.spent ≡ true
halt_spent stood wide old new (Refuses k) (SiteFault.Refused n) halt unshut p = absurd halt
halt_spent stood wide old new (Refuses k) (SiteFault.Full size) halt unshut p = absurd p
halt_spent stood wide old new (Refuses k) (SiteFault.DiskFault faults) halt unshut p = absurd p
halt_spent stood wide old new (Refuses k) (SiteFault.Shut faults) halt unshut p = absurd (cc (unshut, p.0))
halt_spent stood wide old new (Refuses k) SiteFault.NoMemory halt unshut p = absurd halt
halt_spent stood wide old new (Is n e) (SiteFault.Refused k) halt unshut p = absurd halt
halt_spent stood wide old new (Is n e) (SiteFault.Full size) halt unshut p = unforced_spent stood wide old.keeper new.keeper _ (force.Full size) tt p.0.unforced
halt_spent stood wide old new (Is n e) (SiteFault.DiskFault faults) halt unshut p = unforced_spent stood wide old.keeper new.keeper _ (force.DiskFault faults) tt p.0.unforced
halt_spent stood wide old new (Is n e) (SiteFault.Shut faults) halt unshut (inl p) = absurd (cc (unshut, p.0))
halt_spent stood wide old new (Is n e) (SiteFault.Shut faults) halt unshut (inr p) = unforced_spent stood wide old.keeper new.keeper _ (force.Shut faults) tt p.0.unforced
halt_spent stood wide old new (Is n e) SiteFault.NoMemory halt unshut p = absurd halt

module _ (standing : Shared → Standing) (mine : ℕ → Bool) (o : Opening) (gs : List Given) (old new : Site Shared) (g : Given) where
  -- nothing of the event is so
  pub halt_at : (f : SiteFault) → IsHalt f → StepsTo standing mine o gs old g (Err f) new → IsAt standing mine o gs new
  halt_at (SiteFault.Refused k) halt s = absurd halt
  halt_at (SiteFault.Full size) halt s = s.0.at
  halt_at (SiteFault.DiskFault faults) halt s = s.0.at
  halt_at (SiteFault.Shut faults) halt (inl s) = s.0
  halt_at (SiteFault.Shut faults) halt (inr s) = s.0.at
  halt_at SiteFault.NoMemory halt s = absurd halt

  -- a refusal is the one output
  pub refused_outputs : (k : ℕ) (outs : List Output) → outs ≡ Output.Refused k ∷ [] → StepsTo standing mine o gs old g (Err (SiteFault.Refused k)) new → outs ≡ outputs_after o gs g
  refused_outputs k outs is s = rw (is, outputs_after, s.1) refl
