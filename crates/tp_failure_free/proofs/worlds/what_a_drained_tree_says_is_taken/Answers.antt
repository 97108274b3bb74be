use Rattle.tp_failure_free.proofs.DrainedTaken.{all_came, all_taken, words_are_taken}
use Rattle.tp_failure_free.proofs.worlds.what_a_drained_tree_says_is_taken.Goals as goal

pub returns : goal.returns
returns c = record { came = all_came; taken = all_taken; words = words_are_taken }
