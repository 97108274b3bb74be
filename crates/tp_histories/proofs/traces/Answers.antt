use Rattle.tp_histories.proofs.marks.Traced.{traced_law}
use Rattle.tp_histories.proofs.traces.Goals as goal

pub returns : goal.returns
returns c = record {
  counts = λ o up h p x y s t legal is. (traced_law o up h legal).live p x y s t is;
  marks = traced_law;
}
