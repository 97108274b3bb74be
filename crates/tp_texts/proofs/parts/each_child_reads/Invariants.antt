-- If the children that are left are read back, all are.
use Rattle.std.proofs.Common.{drop}
use Rattle.tp_texts.proofs.TakenValues.{AreTaken}
use Rattle.tp_texts.proofs.parts.each_child_reads.Given as goal

abbrev pub invariant-loop-child : goal.invariant-loop-child
invariant-loop-child l = AreTaken (drop l.child-index l.children) → AreTaken l.children
