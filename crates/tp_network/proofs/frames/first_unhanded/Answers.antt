use Rattle.std.proofs.Common.{arith}
use Rattle.tp_network.proofs.Oldest.{leads_all}
use Rattle.tp_network.proofs.frames.first_unhanded.Goals as goal

pub returns-after-loop-i : goal.returns-after-loop-i
returns-after-loop-i c = leads_all c.args.frames.now c.loop-i.i c.loop-i.invariant (omega (arith, c.loop-i-test.false))
