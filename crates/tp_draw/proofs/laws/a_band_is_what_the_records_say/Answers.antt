use Rattle.tp_draw.proofs.Banded.{bands_law}
use Rattle.tp_draw.proofs.laws.a_band_is_what_the_records_say.Goals as goal

pub returns : goal.returns
returns c = bands_law
