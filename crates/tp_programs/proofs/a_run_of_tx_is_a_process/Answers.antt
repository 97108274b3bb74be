use Rattle.tp_programs.proofs.Faces.{face_is}
use Rattle.tp_programs.proofs.a_run_of_tx_is_a_process.Goals as goal

pub returns : goal.returns
returns c = face_is
