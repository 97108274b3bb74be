use Rattle.tp_bound.proofs.Hearing.{content_is_kept}
use Rattle.tp_bound.proofs.laws.the_content_is_what_was_kept.Goals as goal

pub returns : goal.returns
returns c = content_is_kept
