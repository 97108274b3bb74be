use Rattle.tp_agreement.proofs.Agreed.{commits_alone}
use Rattle.tp_laws.proofs.commits_stand_alone.Goals as goal

pub returns : goal.returns
returns c = commits_alone
