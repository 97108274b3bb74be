use Rattle.std.proofs.Common.{sym}
use Rattle.tp_logrec.proofs.Sames.{children_differ}
use Rattle.tp_logrec.proofs.same.are_children.Goals as goal

pub returns-then-a-b : goal.returns-then-a-b
returns-then-a-b c = sym (children_differ _ _ c.if-a-b.true)
