use Rattle.tp_histories.proofs.pairs.PairedSteps.{paired_law}
use Rattle.tp_histories.proofs.records_are_paired.Goals as goal

pub returns : goal.returns
returns c = paired_law
