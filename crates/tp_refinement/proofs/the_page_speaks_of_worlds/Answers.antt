use Rattle.tp_refinement.proofs.Speaks.{says_of_worlds}
use Rattle.tp_refinement.proofs.the_page_speaks_of_worlds.Goals as goal

pub returns : goal.returns
returns c = says_of_worlds
