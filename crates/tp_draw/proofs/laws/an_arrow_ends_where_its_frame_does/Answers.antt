use Rattle.tp_draw.proofs.FirstEnds.{ends_law}
use Rattle.tp_draw.proofs.laws.an_arrow_ends_where_its_frame_does.Goals as goal

pub returns : goal.returns
returns c = ends_law
