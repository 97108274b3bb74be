use Rattle.tp_agreement.proofs.ParentChild.{parent_and_child}
use Rattle.tp_laws.proofs.parent_and_child.Goals as goal

pub returns : goal.returns
returns c = parent_and_child
