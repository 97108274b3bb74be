-- A run of `node` is a process of its site.
use Rattle.std.proofs.Common.{inl, inr, ℕ, subst, List, Result, Ok, Err}
use Rattle.tp_outside.specs.Story.{seen}
use Rattle.tp_logrec.specs.declared.record.LogVersion.{LogVersion}
use Rattle.tp_logrec.specs.LogText.{Placed}
use Rattle.tp_model.specs.NodeRun.{Opening, node_run}
use Rattle.tp_model.specs.NodeTranscript.{written_of}
use Rattle.tp_streams.specs.declared.stop.Stop.{Stop}
use Rattle.tp_streams.specs.Written.{WritesPrefix}
use Rattle.tp_serve.specs.Serving.{Ran, RunsOn}
use Rattle.tp_programs.specs.Runs.{IsStart, IsNode, NodeIsAProcess}
use Rattle.tp_programs.proofs.Images.{one_opening, foreign_clash, stops_at}

node_of : (name : List ℕ) (r : Ran) (result : Result (Unit {0}) Stop) (version : LogVersion) (listed : List Placed) → IsStart r version listed → RunsOn name r result → IsNode name r version listed
node_of name r result version listed s k = record {
  events = k.events;
  wrote = λ before i. subst (λ (o : Opening). WritesPrefix before (written_of (node_run o k.events).outputs) r.output) (one_opening name (seen r.told) k.version version k.listed listed s.opens k.opens) (k.wrote before i);
  stops = stops_at name r k.version version k.listed listed k.events k.next s k.opens k.last;
}

pub node_is : NodeIsAProcess
node_is name r (Ok u) version listed k s = inr (node_of name r (Ok u) version listed s k)
node_is name r (Err (Stop.BadInput at why)) version listed k s = inr (node_of name r (Err (Stop.BadInput at why)) version listed s k)
node_is name r (Err (Stop.Limit what at)) version listed k s = inr (node_of name r (Err (Stop.Limit what at)) version listed s k)
node_is name r (Err (Stop.Foreign at)) version listed k s = absurd (foreign_clash (seen r.told) at version listed s.opens k.0)
node_is name r (Err (Stop.ReadFault faults)) version listed k s = inr (node_of name r (Err (Stop.ReadFault faults)) version listed s k)
node_is name r (Err (Stop.WriteFault faults)) version listed k s = inr (node_of name r (Err (Stop.WriteFault faults)) version listed s k)
node_is name r (Err (Stop.DiskFault faults)) version listed (inl idle) s = inl idle
node_is name r (Err (Stop.DiskFault faults)) version listed (inr k) s = inr (node_of name r (Err (Stop.DiskFault faults)) version listed s k)
node_is name r (Err Stop.NoMemory) version listed (inl idle) s = inl idle
node_is name r (Err Stop.NoMemory) version listed (inr k) s = inr (node_of name r (Err Stop.NoMemory) version listed s k)
