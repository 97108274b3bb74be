use Rattle.tp_logrec.proofs.OrderChecks.{check_grows}
use Rattle.tp_logrec.proofs.order_check.OrderCheck.take.Goals as goal

pub returns-clause-ok : goal.returns-clause-ok
returns-clause-ok c = λ rs is. check_grows rs c.args.rec.now c.args.self.now c.grow.new.self is c.in_ok-grow.ensures.ok
