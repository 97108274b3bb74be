use Rattle.tp_outcomes.proofs.GoingOn.{nodes_stay}
use Rattle.tp_outcomes.proofs.Staying.{outcomes_stay}
use Rattle.tp_outcomes.proofs.what_was_told_stays_told.Goals as goal

pub returns : goal.returns
returns c = record { nodes = nodes_stay; outcomes = outcomes_stay }
