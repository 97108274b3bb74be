use Rattle.tp_schedule.proofs.LinesBack.{line_reads_back}
use Rattle.tp_schedule.proofs.laws.lines_read_back.Goals as goal

pub returns : goal.returns
returns c = line_reads_back
