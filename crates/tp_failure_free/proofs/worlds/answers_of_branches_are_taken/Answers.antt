use Rattle.tp_failure_free.proofs.DrainedWords.{answers_are_taken}
use Rattle.tp_failure_free.proofs.worlds.answers_of_branches_are_taken.Goals as goal

pub returns : goal.returns
returns c = answers_are_taken
