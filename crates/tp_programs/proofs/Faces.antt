-- A run of `tx` is a process of its site.
use Rattle.std.proofs.Common.{inl, inr, ℕ, subst, Some, List, [], Result, Ok, Err}
use Rattle.tp_outside.specs.Story.{Synced, seen}
use Rattle.tp_logrec.specs.declared.record.LogVersion.{LogVersion}
use Rattle.tp_logrec.specs.LogText.{Placed}
use Rattle.tp_model.specs.NodeRun.{Opening}
use Rattle.tp_streams.specs.declared.stop.Stop.{Stop}
use Rattle.tp_serve.specs.Starting.{FailsBefore}
use Rattle.tp_serve.specs.Serving.{Ran, IsUntouched}
use Rattle.tp_tx.specs.Running.{HasRead}
use Rattle.tp_tx.specs.Transacting.{RunsOn, EndsBefore}
use Rattle.tp_programs.specs.Runs.{Stops, IsStart, IsFace, FaceIsAProcess}
use Rattle.tp_programs.proofs.Images.{one_opening, foreign_clash, stops_at, stops_before, stops_unbegun}

face_of : (name : List ℕ) (r : Ran) (result : Result (Unit {0}) Stop) (version : LogVersion) (listed : List Placed) → IsStart r version listed → RunsOn name r result → IsFace name r result version listed
face_of name r result version listed s k = record {
  events = k.events;
  next = k.next;
  bytes = k.bytes;
  read = λ input i. subst (λ (o : Opening). HasRead o input k.events k.next k.bytes r.unread result) (one_opening name (seen r.told) k.version version k.listed listed s.opens k.opens) (k.read input i);
  wrote = k.wrote;
  stops = stops_at name r k.version version k.listed listed k.events k.next s k.opens k.last;
}

before_of : (name : List ℕ) (r : Ran) (version : LogVersion) (listed : List Placed) → IsStart r version listed → EndsBefore name r → Stops name r [] × IsUntouched r
before_of name r version listed s k =
    let f : FailsBefore name r.told r.story = k.0 in
    (stops_before name r f.version version f.listed listed (Some (Synced r.told)) s f.opens f.moments, k.1)

pub face_is : FaceIsAProcess
face_is name r (Ok u) version listed k s = inr (inr (face_of name r (Ok u) version listed s k))
face_is name r (Err (Stop.BadInput at why)) version listed k s = inr (inr (face_of name r (Err (Stop.BadInput at why)) version listed s k))
face_is name r (Err (Stop.Limit what at)) version listed (inl k) s = inr (inl (stops_unbegun name r k.0.version version k.0.listed listed (Some (Synced r.told)) s k.0.opens k.0.moments, k.1))
face_is name r (Err (Stop.Limit what at)) version listed (inr k) s = inr (inr (face_of name r (Err (Stop.Limit what at)) version listed s k))
face_is name r (Err (Stop.Foreign at)) version listed k s = absurd (foreign_clash (seen r.told) at version listed s.opens k.0)
face_is name r (Err (Stop.ReadFault faults)) version listed k s = inr (inr (face_of name r (Err (Stop.ReadFault faults)) version listed s k))
face_is name r (Err (Stop.WriteFault faults)) version listed k s = inr (inr (face_of name r (Err (Stop.WriteFault faults)) version listed s k))
face_is name r (Err (Stop.DiskFault faults)) version listed (inl idle) s = inl idle
face_is name r (Err (Stop.DiskFault faults)) version listed (inr (inl k)) s = inr (inl (before_of name r version listed s k))
face_is name r (Err (Stop.DiskFault faults)) version listed (inr (inr k)) s = inr (inr (face_of name r (Err (Stop.DiskFault faults)) version listed s k))
face_is name r (Err Stop.NoMemory) version listed (inl idle) s = inl idle
face_is name r (Err Stop.NoMemory) version listed (inr (inl k)) s = inr (inl (before_of name r version listed s k))
face_is name r (Err Stop.NoMemory) version listed (inr (inr k)) s = inr (inr (face_of name r (Err Stop.NoMemory) version listed s k))
