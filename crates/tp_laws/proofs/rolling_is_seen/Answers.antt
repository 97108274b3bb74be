use Rattle.tp_runs.proofs.SeenRolled.{rolled_seen_law}
use Rattle.tp_laws.proofs.rolling_is_seen.Goals as goal

pub returns : goal.returns
returns c = rolled_seen_law
