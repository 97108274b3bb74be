use Rattle.tp_histories.proofs.log.WellLog.{start_again, run_starts}
use Rattle.tp_laws.proofs.the_next_start_finds_its_records.Goals as goal

pub returns : goal.returns
returns c = record { history = start_again; run = run_starts }
