use Rattle.std.proofs.Common.{arith}
use Rattle.tp_commit.proofs.Ascending.{ascends_prepared}
use Rattle.tp_commit.proofs.row_list.RowList.prepare_all.Goals as goal

pub invariant_of-self : goal.invariant_of-self
invariant_of-self c = record {
  room = c.self.invariant.room;
  ascends = λ h. ascends_prepared c.self.inside.rows c.prepare_all.new.rows (grind (arith, c.prepare_all.ensures, c.as_mut_slice.ensures.value)) (c.self.invariant.ascends h);
}
