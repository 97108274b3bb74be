use Rattle.std.proofs.Common.{length, arith, ap}
use Rattle.tp_journal.specs.Log.{blocks}
use Rattle.tp_journal.specs.Gathering.{Gathered, bodies_noted}
use Rattle.tp_journal.proofs.Gathered.{long_waits}
use Rattle.tp_journal.proofs.gathering.Gathering.waiting.Goals as goal

pub returns : goal.returns
returns g c =
    let told = g.D.Disk.told c.self.inside.disk in
    omega (arith, c.len.ensures, c.self.inside.waits.ok.0, long_waits told told _ c.self.inside.waits.items c.self.invariant.1, ap (λ (v : Gathered _). length (blocks (bodies_noted v))) c.self.view_is)
