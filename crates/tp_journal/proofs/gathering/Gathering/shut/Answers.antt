use Rattle.std.proofs.Common.{subst}
use Rattle.tp_journal.specs.Log.{place_behind}
use Rattle.tp_journal.specs.Started.{IsKept}
use Rattle.tp_journal.specs.Gathering.{Gathered, bodies_settled}
use Rattle.tp_journal.proofs.gathering.Gathering.shut.Goals as goal

pub returns-clause-kept : goal.returns-clause-kept
returns-clause-kept g c = subst (λ (v : Gathered _). IsKept (g.D.Disk.told v.journal.disk) (place_behind (bodies_settled v)) (bodies_settled v) c.self.inside.shut) c.self.view_is c.self.invariant.1.kept
