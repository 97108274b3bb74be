-- What stops the printing of a store's keys.
use Rattle.std.proofs.Common.{◌≡◌, inl, inr, ℕ, Option, List, refl, sym, subst}
use Rattle.tp_outside.specs.Story.{Story}
use Rattle.tp_journal.specs.declared.faults.StartFault.{StartFault}
use Rattle.tp_journal.specs.declared.faults.StartFault.TheVariants as start
use Rattle.tp_streams.specs.declared.stop.Stop.{Stop}
use Rattle.tp_bound.specs.Bounds.{RefusesOpen}
use Rattle.tp_keys.specs.Printing.{stop_of, IsPrintStop, PrintsSome, RefusesKeys}

pub not_opened : (D : Type 0) (old new : Option Story) (disk_before disk_after : ℕ) (written : Option (List ℕ)) (sink_before sink_after : ℕ) (fault : StartFault) (stop : Stop)
    → stop ≡ stop_of fault → RefusesOpen old new disk_before disk_after fault → RefusesKeys D old new disk_before disk_after written written sink_before sink_after stop
not_opened D old new disk_before disk_after written sink_before sink_after fault stop is x =
    subst (λ (s : Stop). RefusesKeys D old new disk_before disk_after written written sink_before sink_after s) (sym is) (go fault x)
  where
    go : (f : StartFault) → RefusesOpen old new disk_before disk_after f → RefusesKeys D old new disk_before disk_after written written sink_before sink_after (stop_of f)
    go (start.Foreign at) y = (y, refl)
    go (start.DiskFault faults) y = (y, refl)
    go start.NoMemory y = inl (y, refl)

pub not_printed : (D : Type 0) (old new : Option Story) (disk_before disk_after : ℕ) (before after : Option (List ℕ)) (sink_before sink_after : ℕ) (stop : Stop)
    → IsPrintStop sink_before sink_after stop → PrintsSome D old new before after → RefusesKeys D old new disk_before disk_after before after sink_before sink_after stop
not_printed D old new disk_before disk_after before after sink_before sink_after (Stop.WriteFault faults) is some = (some, is)
not_printed D old new disk_before disk_after before after sink_before sink_after Stop.NoMemory is some = inr some
not_printed D old new disk_before disk_after before after sink_before sink_after _ is some = absurd is
