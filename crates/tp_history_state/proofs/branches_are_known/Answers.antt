use Rattle.tp_runs.proofs.KnownBranches.{above_law, branches_law}
use Rattle.tp_history_state.proofs.branches_are_known.Goals as goal

pub returns : goal.returns
returns c = record { superior = above_law; branches = branches_law }
