use Rattle.tp_forced.proofs.Forced.{commits_force_so}
use Rattle.tp_forced.proofs.a_clear_commitment_forces_three_records.Goals as goal

pub returns : goal.returns
returns c = commits_force_so
