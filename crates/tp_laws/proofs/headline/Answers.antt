use Rattle.tp_laws.proofs.Promises.{headline}
use Rattle.tp_laws.proofs.headline.Goals as goal

pub returns : goal.returns
returns c = headline
