use Rattle.tp_names.proofs.reading.+left_after_letters.Given as goal

abbrev pub decreases-left_after_letters : goal.decreases-left_after_letters
decreases-left_after_letters l = l.len
