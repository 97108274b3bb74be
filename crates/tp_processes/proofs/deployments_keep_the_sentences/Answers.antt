use Rattle.tp_processes.proofs.Sentences.{hold}
use Rattle.tp_processes.proofs.deployments_keep_the_sentences.Goals as goal

pub returns : goal.returns
returns c = hold
