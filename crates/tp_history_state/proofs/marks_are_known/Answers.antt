use Rattle.tp_history_state.proofs.marks.AllMarks.{all_marks_law}
use Rattle.tp_history_state.proofs.marks.Ended.{ended_law}
use Rattle.tp_history_state.proofs.marks.Marked.{given_up_law}
use Rattle.tp_history_state.proofs.marks.Taken.{counted_law, left_law}
use Rattle.tp_history_state.proofs.prepares.Told.{prepared_law}
use Rattle.tp_history_state.proofs.marks_are_known.Goals as goal

pub returns : goal.returns
returns c = record { prepared = prepared_law; counted = counted_law; left = left_law; given_up = given_up_law; ended = ended_law; all = all_marks_law }
