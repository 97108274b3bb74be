-- What is left so far, and what will be left of the lines to come, is all that is left.
use Rattle.std.proofs.Common.{◌≡◌, ◌++◌, [], true, length}
use Rattle.std.specs.Vec.Iter.{into_iter_items, into_iter_len}
use Rattle.tp_draw.specs.Chosen.{left_of}
use Rattle.tp_draw.proofs.chosen.left_of.Given as goal

abbrev pub invariant-loop-line : goal.invariant-loop-line
invariant-loop-line l = record {
  len : into_iter_len l.line-iterator ≡ length (into_iter_items l.line-iterator);
  left : l.left ++ left_of l.nodes l.lanes l.frames.items l.before (into_iter_items l.line-iterator) ≡ left_of l.nodes l.lanes [] true l.fn.lines;
}
