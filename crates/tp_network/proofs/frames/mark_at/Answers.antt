use Rattle.std.proofs.Common.{arith}
use Rattle.tp_network.proofs.Oldest.{unmarked}
use Rattle.tp_network.proofs.frames.mark_at.Goals as goal

pub returns-else-place-frames-clause-marked : goal.returns-else-place-frames-clause-marked
returns-else-place-frames-clause-marked c = unmarked c.args.frames.now c.args.place (omega (arith, c.if-place-frames.false))
