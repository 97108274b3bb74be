use Rattle.std.proofs.Common.{take}
use Rattle.tp_generate.specs.Counts.{AreCounts, IsUpTo}
use Rattle.tp_generate.proofs.summary.count.Given as goal

abbrev pub invariant-loop-line : goal.invariant-loop-line
invariant-loop-line l = AreCounts (take l.line-index l.closing) l.endings × IsUpTo l.line-index l.endings
