-- What stops a run, by the counts of source and sink since its beginning.
use Rattle.std.proofs.Common.{◌≤◌, ◌<◌, ℕ, suc, subst, sym, arith}
use Rattle.tp_model.specs.declared.verdict.Why.{Why}
use Rattle.tp_streams.specs.declared.stop.Stop.{Stop}
use Rattle.tp_streams.specs.Stops.{IsFaultOf, IsFrameStop, IsOfFrames, IsOfEvents}
use Rattle.tp_serve.specs.Serving.{IsEventsStop}
use Rattle.tp_tx.specs.Progress.{IsBodyStop}

risen_since : (faults first old new : ℕ) → first ≤ old → IsFaultOf faults old new → IsFaultOf faults first new
risen_since faults first old new le x = record { risen = omega (arith, le, x.risen); told = x.told }

of_frames : (why : Why) → IsOfFrames why → IsOfEvents why
of_frames Why.Long h = h
of_frames Why.Word h = h
of_frames Why.Number h = h
of_frames Why.Name h = h
of_frames Why.Short h = h
of_frames Why.Length h = h
of_frames Why.Body h = absurd h

pub read_stop : (number source old new sink wrote : ℕ) (stop : Stop) → source ≤ old → IsFrameStop (suc number) old new stop → IsEventsStop source new sink wrote stop
read_stop number source old new sink wrote (Stop.BadInput at why) le x = (omega (arith, x.0), of_frames why x.1)
read_stop number source old new sink wrote (Stop.Limit what at) le x = absurd x
read_stop number source old new sink wrote (Stop.Foreign at) le x = x
read_stop number source old new sink wrote (Stop.ReadFault n) le x = risen_since n source old new le x
read_stop number source old new sink wrote (Stop.WriteFault n) le x = absurd x
read_stop number source old new sink wrote (Stop.DiskFault n) le x = absurd x
read_stop number source old new sink wrote Stop.NoMemory le x = tt

pub body_stop : (at source read sink wrote : ℕ) (stop : Stop) → 0 < at → IsBodyStop at stop → IsEventsStop source read sink wrote stop
body_stop at source read sink wrote (Stop.BadInput n why) far x = (omega (arith, far, x.0), subst IsOfEvents (sym x.1) tt)
body_stop at source read sink wrote (Stop.Limit what n) far x = omega (arith, far, x.0)
body_stop at source read sink wrote (Stop.Foreign n) far x = x
body_stop at source read sink wrote (Stop.ReadFault n) far x = absurd x
body_stop at source read sink wrote (Stop.WriteFault n) far x = absurd x
body_stop at source read sink wrote (Stop.DiskFault n) far x = tt
body_stop at source read sink wrote Stop.NoMemory far x = tt
