use Rattle.std.proofs.Common.{arith}
use Rattle.tp_commit.proofs.Ascending.{ascends_standing}
use Rattle.tp_commit.proofs.row_list.RowList.stand.Goals as goal

pub invariant_of-self : goal.invariant_of-self
invariant_of-self c = record {
  room = c.self.invariant.room;
  ascends = λ h. ascends_standing c.args.rolls c.self.inside.rows c.stand.new.rows (grind (arith, c.stand.ensures, c.as_mut_slice.ensures.value)) (c.self.invariant.ascends h);
}
