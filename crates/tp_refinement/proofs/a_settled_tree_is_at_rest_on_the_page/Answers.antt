use Rattle.tp_refinement.proofs.Speaks.{settled_rests}
use Rattle.tp_refinement.proofs.a_settled_tree_is_at_rest_on_the_page.Goals as goal

pub returns : goal.returns
returns c = settled_rests
