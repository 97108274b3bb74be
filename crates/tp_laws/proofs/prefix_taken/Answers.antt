use Rattle.tp_runs.proofs.Breaks.{associations}
use Rattle.tp_laws.proofs.prefix_taken.Goals as goal

pub returns : goal.returns
returns c = associations
