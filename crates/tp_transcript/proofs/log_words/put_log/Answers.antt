use Rattle.std.proofs.Common.{◌∷◌, [], ◌++◌, codes}
use Rattle.tp_model.specs.Words.{decimal, key_words, outcome_word, report_word}
use Rattle.tp_text_builder.proofs.Added.{adds_then}
use Rattle.tp_transcript.proofs.Parts.{next_word}
use Rattle.tp_transcript.proofs.log_words.put_log.Goals as goal

pub returns-in-Boot : goal.returns-in-Boot
returns-in-Boot c = rw c.in-Boot.is (adds_then c.word.ensures c.next_number.ensures)

pub returns-in-Heuristic : goal.returns-in-Heuristic
returns-in-Heuristic c =
    rw c.in-Heuristic.is
    (next_word (codes "heuristic") (decimal c.in-Heuristic.node ∷ key_words c.in-Heuristic.key) (outcome_word c.in-Heuristic.outcome)
    c.put_keyed-in-Heuristic.ensures c.space.ensures c.outcome.ensures)

pub returns-in-Damage : goal.returns-in-Damage
returns-in-Damage c =
    let keyed = decimal c.in-Damage.node ∷ key_words c.in-Damage.key in
    let side = outcome_word c.in-Damage.side in
    rw c.in-Damage.is
    (next_word (codes "damage") (keyed ++ (side ∷ [])) (report_word c.in-Damage.report)
    (next_word (codes "damage") keyed side c.put_keyed-in-Damage.ensures c.space-in-Damage.ensures c.outcome-in-Damage.ensures)
    c.space-in-Damage-2.ensures c.report.ensures)

pub returns-in-End : goal.returns-in-End
returns-in-End c =
    rw c.in-End.is
    (next_word (codes "end") (decimal c.in-End.node ∷ key_words c.in-End.key) (outcome_word c.in-End.outcome)
    c.put_keyed-in-End.ensures c.space-in-End.ensures c.outcome-in-End.ensures)
