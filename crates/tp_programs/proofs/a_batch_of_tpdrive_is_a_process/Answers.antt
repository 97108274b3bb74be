use Rattle.tp_programs.proofs.Batches.{batch_is}
use Rattle.tp_programs.proofs.a_batch_of_tpdrive_is_a_process.Goals as goal

pub returns : goal.returns
returns c = batch_is
