use Rattle.tp_briefs.proofs.Alike.{alike}
use Rattle.tp_briefs.proofs.a_start_on_a_brief_is_a_start_on_the_log.Goals as goal

pub returns : goal.returns
returns c = alike
