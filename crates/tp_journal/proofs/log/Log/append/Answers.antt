use Rattle.tp_journal.proofs.Unmoved.{unmoved}
use Rattle.tp_journal.proofs.log.Log.append.Goals as goal

pub returns-then-size-gt-MOST_BYTES-clause-moments : goal.returns-then-size-gt-MOST_BYTES-clause-moments
returns-then-size-gt-MOST_BYTES-clause-moments g c open_now s is = unmoved g.D.Disk.told g.S.Shelf.bodies _ _ c.self.view_is c.self.invariant.kept open_now s is _

pub returns-in_err-piece-clause-moments : goal.returns-in_err-piece-clause-moments
returns-in_err-piece-clause-moments g c open_now s is = unmoved g.D.Disk.told g.S.Shelf.bodies _ _ c.self.view_is c.self.invariant.kept open_now s is _
