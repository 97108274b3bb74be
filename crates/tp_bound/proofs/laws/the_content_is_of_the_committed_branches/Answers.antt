use Rattle.tp_bound.proofs.Committing.{content_is_of_branches}
use Rattle.tp_bound.proofs.laws.the_content_is_of_the_committed_branches.Goals as goal

pub returns : goal.returns
returns c = content_is_of_branches
