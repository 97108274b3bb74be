use Rattle.tp_runs.proofs.Users.{users_see}
use Rattle.tp_laws.proofs.users_see.Goals as goal

pub returns : goal.returns
returns c = users_see
