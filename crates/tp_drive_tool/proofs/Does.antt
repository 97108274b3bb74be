-- What a run does, by what its parts answer.
use Rattle.std.proofs.Common.{◌≡◌, inl, inr, ℕ, Option, Some, List, subst}
use Rattle.tp_outside.specs.Story.{Story, seen}
use Rattle.tp_records.specs.declared.body.Event.{Event as Given}
use Rattle.tp_records.specs.declared.body.Output.{Output}
use Rattle.tp_model.specs.NodeTranscript.{written_of}
use Rattle.tp_streams.specs.declared.stop.Stop.{Stop}
use Rattle.tp_streams.specs.Stops.{IsWriteStop}
use Rattle.tp_streams.specs.Written.{WritesPrefix}
use Rattle.tp_log_tools.specs.Readings.{IsFile}
use Rattle.tp_words.specs.declared.drive.Drive.{Drive}
use Rattle.tp_drive_tool.specs.declared.status.Status.{Status}
use Rattle.tp_drive_tool.specs.Status.{status_of}
use Rattle.tp_drive_tool.specs.Reading.{HasRead, IsInputStop, IsReadCause}
use Rattle.tp_drive_tool.specs.Driving.{HasDriven, IsDriveCause, NotDriven}
use Rattle.tp_drive_tool.specs.Running.{Does, DoesAll, DoesPart, IsEnding, IsSilent, Ran, Writes}

-- ---- the input was not read

pub input_stops : (d : Drive) (r : Ran) (same : Type 0) (old new : ℕ) (stop : Stop) → same → ((bytes : List ℕ) → r.left ≡ Some bytes → IsInputStop bytes r.unread stop) → IsReadCause old new stop → Does d r same (status_of stop)
input_stops d r same old new (Stop.BadInput at why) disk input cause = (disk, input)
input_stops d r same old new (Stop.Limit what at) disk input cause = inl (disk, input)
input_stops d r same old new (Stop.Foreign at) disk input cause = absurd cause
input_stops d r same old new (Stop.ReadFault faults) disk input cause = disk
input_stops d r same old new (Stop.WriteFault faults) disk input cause = absurd cause
input_stops d r same old new (Stop.DiskFault faults) disk input cause = absurd cause
input_stops d r same old new Stop.NoMemory disk input cause = inl disk

pub input_ending : (old new write wrote disk left : ℕ) (stop : Stop) → IsReadCause old new stop → IsEnding old new write wrote disk left (status_of stop)
input_ending old new write wrote disk left (Stop.BadInput at why) cause = cause
input_ending old new write wrote disk left (Stop.Limit what at) cause = inl cause
input_ending old new write wrote disk left (Stop.Foreign at) cause = absurd cause
input_ending old new write wrote disk left (Stop.ReadFault faults) cause = cause
input_ending old new write wrote disk left (Stop.WriteFault faults) cause = absurd cause
input_ending old new write wrote disk left (Stop.DiskFault faults) cause = absurd cause
input_ending old new write wrote disk left Stop.NoMemory cause = tt

-- ---- what is written

module _ (bytes : List ℕ) (written output : Option (List ℕ)) where
  pub write_stops : (old new : ℕ) (stop : Stop) → IsWriteStop old new stop → ((before : List ℕ) → written ≡ Some before → WritesPrefix before bytes output) → Writes bytes written output (status_of stop)
  write_stops old new (Stop.BadInput at why) cause prefix = absurd cause
  write_stops old new (Stop.Limit what at) cause prefix = absurd cause
  write_stops old new (Stop.Foreign at) cause prefix = absurd cause
  write_stops old new (Stop.ReadFault faults) cause prefix = absurd cause
  write_stops old new (Stop.WriteFault faults) cause prefix = prefix
  write_stops old new (Stop.DiskFault faults) cause prefix = absurd cause
  write_stops old new Stop.NoMemory cause prefix = absurd cause

pub write_ending : (n old new : ℕ) (stop : Stop) → IsWriteStop old new stop → IsEnding n n old new n n (status_of stop)
write_ending n old new (Stop.BadInput at why) cause = absurd cause
write_ending n old new (Stop.Limit what at) cause = absurd cause
write_ending n old new (Stop.Foreign at) cause = absurd cause
write_ending n old new (Stop.ReadFault faults) cause = absurd cause
write_ending n old new (Stop.WriteFault faults) cause = cause
write_ending n old new (Stop.DiskFault faults) cause = absurd cause
write_ending n old new Stop.NoMemory cause = absurd cause

pub write_loud : (old new : ℕ) (stop : Stop) → IsWriteStop old new stop → IsSilent (status_of stop) → ⊥
write_loud old new (Stop.BadInput at why) cause silent = cause
write_loud old new (Stop.Limit what at) cause silent = cause
write_loud old new (Stop.Foreign at) cause silent = cause
write_loud old new (Stop.ReadFault faults) cause silent = cause
write_loud old new (Stop.WriteFault faults) cause silent = silent
write_loud old new (Stop.DiskFault faults) cause silent = cause
write_loud old new Stop.NoMemory cause silent = cause

-- ---- the events

module _ (d : Drive) (r : Ran) (same : Type 0) (events : List Given) (read : (bytes : List ℕ) → r.left ≡ Some bytes → HasRead bytes events r.unread) where
  module _ (outs : List (List Output)) (driven : (story : Story) → r.told ≡ Some story → IsFile (seen story) → HasDriven d.name d.workers events story r.story outs) where
    all_of_it : (status : Status) → Writes (written_of outs) r.written r.output status → DoesAll d r status
    all_of_it status wrote = record { events = events; read = read; outs = outs; driven = driven; wrote = wrote }

    pub all_done : (status : Status) → Writes (written_of outs) r.written r.output status → Does d r same status
    all_done Status.Ok wrote = all_of_it Status.Ok wrote
    all_done Status.Usage wrote = absurd wrote
    all_done (Status.BadInput at why) wrote = absurd wrote
    all_done (Status.Limit what at) wrote = absurd wrote
    all_done (Status.Foreign at) wrote = absurd wrote
    all_done (Status.ReadFault faults) wrote = absurd wrote
    all_done (Status.WriteFault faults) wrote = all_of_it (Status.WriteFault faults) wrote
    all_done (Status.DiskFault faults) wrote = absurd wrote
    all_done Status.NoMemory wrote = inr (inr (all_of_it Status.NoMemory wrote))
    all_done (Status.LogDiffers place receipt kept) wrote = absurd wrote

  part_of_it : (status : Status) → ((story : Story) → r.told ≡ Some story → IsFile (seen story) → NotDriven d.name d.workers events story r.story status) → DoesPart d r status
  part_of_it status stopped = record { events = events; read = read; stopped = stopped }

  pub part_done : (old new : ℕ) (status : Status) → IsDriveCause old new status → ((story : Story) → r.told ≡ Some story → IsFile (seen story) → NotDriven d.name d.workers events story r.story status) → Does d r same status
  part_done old new Status.Ok cause stopped = absurd cause
  part_done old new Status.Usage cause stopped = absurd cause
  part_done old new (Status.BadInput at why) cause stopped = absurd cause
  part_done old new (Status.Limit what at) cause stopped = inr (part_of_it (Status.Limit what at) stopped)
  part_done old new (Status.Foreign at) cause stopped = part_of_it (Status.Foreign at) stopped
  part_done old new (Status.ReadFault faults) cause stopped = absurd cause
  part_done old new (Status.WriteFault faults) cause stopped = absurd cause
  part_done old new (Status.DiskFault faults) cause stopped = part_of_it (Status.DiskFault faults) stopped
  part_done old new Status.NoMemory cause stopped = inr (inl (part_of_it Status.NoMemory stopped))
  part_done old new (Status.LogDiffers place receipt kept) cause stopped = absurd cause

-- what was written has its end from the sink alone
pub all_ending : (bytes : List ℕ) (written output : Option (List ℕ)) (n read now old new disk left : ℕ) (status : Status) → Writes bytes written output status → IsEnding n n old new n n status → IsEnding read now old new disk left status
all_ending bytes written output n read now old new disk left Status.Ok wrote ends = tt
all_ending bytes written output n read now old new disk left Status.Usage wrote ends = tt
all_ending bytes written output n read now old new disk left (Status.BadInput at why) wrote ends = absurd wrote
all_ending bytes written output n read now old new disk left (Status.Limit what at) wrote ends = absurd wrote
all_ending bytes written output n read now old new disk left (Status.Foreign at) wrote ends = tt
all_ending bytes written output n read now old new disk left (Status.ReadFault faults) wrote ends = absurd wrote
all_ending bytes written output n read now old new disk left (Status.WriteFault faults) wrote ends = ends
all_ending bytes written output n read now old new disk left (Status.DiskFault faults) wrote ends = absurd wrote
all_ending bytes written output n read now old new disk left Status.NoMemory wrote ends = tt
all_ending bytes written output n read now old new disk left (Status.LogDiffers place receipt kept) wrote ends = absurd wrote

pub part_ending : (read now write wrote old new : ℕ) (status : Status) → IsDriveCause old new status → IsEnding read now write wrote old new status
part_ending read now write wrote old new Status.Ok cause = tt
part_ending read now write wrote old new Status.Usage cause = tt
part_ending read now write wrote old new (Status.BadInput at why) cause = absurd cause
part_ending read now write wrote old new (Status.Limit what at) cause = inr cause
part_ending read now write wrote old new (Status.Foreign at) cause = tt
part_ending read now write wrote old new (Status.ReadFault faults) cause = absurd cause
part_ending read now write wrote old new (Status.WriteFault faults) cause = absurd cause
part_ending read now write wrote old new (Status.DiskFault faults) cause = cause
part_ending read now write wrote old new Status.NoMemory cause = tt
part_ending read now write wrote old new (Status.LogDiffers place receipt kept) cause = absurd cause

-- ---- the words

-- only words end with usage
pub never_usage : (d : Drive) (r : Ran) (same : Type 0) (status : Status) → Does d r same status → status ≡ Status.Usage → ⊥
never_usage d r same status does is = subst (Does d r same) is does
