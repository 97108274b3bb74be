-- A node that is among them is refused as it stands there.
use Rattle.std.proofs.Common.{sym, subst}
use Rattle.tp_node.specs.Node.{Node}
use Rattle.tp_draft.specs.Answers.{IsPlain}
use Rattle.tp_site.proofs.Numbered.{found}
use Rattle.tp_site.proofs.nodes.Nodes.answer_to.Goals as goal

pub returns-in-Some-clause-plain : goal.returns-in-Some-clause-plain
returns-in-Some-clause-plain c = λ x plain.
    c.answer_to.ensures.plain x (subst (λ (y : Node). IsPlain y c.args.event.now x) (sym (found c.args.self.now c.args.node c.in-Some.node.now c.in-Some.ensures)) plain)
