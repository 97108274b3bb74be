use Rattle.tp_draw.proofs.Escaping.{escaped_law}
use Rattle.tp_draw.proofs.laws.text_is_escaped.Goals as goal

pub returns : goal.returns
returns c = escaped_law
