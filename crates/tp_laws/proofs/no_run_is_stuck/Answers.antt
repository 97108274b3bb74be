use Rattle.tp_finishing.proofs.Stops.{stops_quieten}
use Rattle.tp_finishing.proofs.Cutting.{cuts_quieten}
use Rattle.tp_finishing.proofs.Closed.{over_is_closed}
use Rattle.tp_finishing.proofs.Finish.{no_run_is_stuck as recovery, every_run_ends, cuts_end}
use Rattle.tp_laws.proofs.no_run_is_stuck.Goals as goal

pub returns : goal.returns
returns c = record { stops = stops_quieten; cuts = cuts_quieten; recovery = recovery; ends = every_run_ends; ends_by_cuts = cuts_end; closed = over_is_closed }
