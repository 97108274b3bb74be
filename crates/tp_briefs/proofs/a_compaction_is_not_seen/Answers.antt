use Rattle.tp_briefs.proofs.Runs.{run_alike}
use Rattle.tp_briefs.proofs.a_compaction_is_not_seen.Goals as goal

pub returns : goal.returns
returns c = run_alike
