use Rattle.tp_readers.proofs.Faces.{committed_means}
use Rattle.tp_readers.proofs.committed_means_all_of_a_deployment.Goals as goal

pub returns : goal.returns
returns c = committed_means
