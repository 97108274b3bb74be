use Rattle.std.proofs.Common.{◌≡◌, ℕ, ◌<◌, length, take, drop, slice_index_or}
use Rattle.tp_model.specs.Lanes.{outputs_in}
use Rattle.tp_drive.proofs.outputs.by_event.Given as goal

abbrev pub invariant-loop-k : goal.invariant-loop-k
invariant-loop-k g l = record {
  so_far : l.all ≡ take l.k g.whole;
  left : (i : ℕ) (d : _) → i < length l.outs → (slice_index_or l.outs i d).items ≡ outputs_in i l.lanes (drop l.k l.events) (drop l.k g.whole);
}
