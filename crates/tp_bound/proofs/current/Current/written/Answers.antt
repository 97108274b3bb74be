use Rattle.std.proofs.Common.{length, ap, arith}
use Rattle.tp_bound.proofs.TakenBodies.{no_more_writes}
use Rattle.tp_bound.proofs.current.Current.written.Goals as goal

pub overflow_cast-len : goal.overflow_cast-len
overflow_cast-len c = omega (arith, c.len.ensures, no_more_writes c.self.inside.writes, ap length c.self.invariant.1, c.self.invariant.2)
