use Rattle.std.proofs.Common.{◌≡◌, length}
use Rattle.tp_transcript.specs.OutWords.{parts, node_numbers}
use Rattle.tp_transcript.proofs.OutNumbers.{appended}
use Rattle.tp_transcript.proofs.out_values.read_numbers.Given as goal

abbrev pub invariant-loop-first : goal.invariant-loop-first
invariant-loop-first l = appended l.by (node_numbers (parts 44 l.rest)) ≡ node_numbers (parts 44 l.word)

abbrev pub decreases-loop-first : goal.decreases-loop-first
decreases-loop-first l = length l.rest
