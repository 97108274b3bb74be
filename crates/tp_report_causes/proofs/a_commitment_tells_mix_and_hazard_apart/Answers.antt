use Rattle.tp_report_causes.proofs.Commitments.{commitments_apart}
use Rattle.tp_report_causes.proofs.a_commitment_tells_mix_and_hazard_apart.Goals as goal

pub returns : goal.returns
returns c = commitments_apart
