use Rattle.std.proofs.lemmas.Grind.{common_steps}
use Rattle.std.proofs.Common.{arith}
use Rattle.tp_logrec.proofs.Frees.{none_binds_is_free}
use Rattle.tp_logrec.proofs.order.is_free.Goals as goal

pub returns : goal.returns
returns c = let e = none_binds_is_free c.args.node c.args.list.now in grind (arith, common_steps, e)

pub returns-then-not-comes_again : goal.returns-then-not-comes_again
returns-then-not-comes_again c = let e = none_binds_is_free c.args.node c.args.list.now in grind (arith, common_steps, e)
