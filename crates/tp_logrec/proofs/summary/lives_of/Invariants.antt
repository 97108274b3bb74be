use Rattle.std.proofs.Common.{◌≡◌, None, drop}
use Rattle.tp_logrec.specs.declared.owner.Owner.{Owner}
use Rattle.tp_logrec.specs.Lives.{begun, begun_from}
use Rattle.tp_logrec.proofs.summary.lives_of.Given as goal

abbrev pub invariant-loop-i : goal.invariant-loop-i
invariant-loop-i l = (o : Owner) → begun_from l.i (begun l.lives o) o (drop l.i l.list) ≡ begun_from 0 None o l.list
