use Rattle.std.proofs.Common.{◌∙◌}
use Rattle.tp_logrec.proofs.OrderChecks.{follows_by_check}
use Rattle.tp_logrec.proofs.order_check.OrderCheck.follows.Goals as goal

pub returns : goal.returns
returns c = λ rs is. c.allows.ensures ∙ follows_by_check rs c.args.self.now c.args.next.now is
