use Rattle.tp_tree_commit.proofs.lemmas.Walks.{walks_reach}
use Rattle.tp_tree_commit.proofs.steps_stay_on_the_page.Goals as goal

pub returns : goal.returns
returns c = walks_reach
