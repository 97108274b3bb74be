use Rattle.std.proofs.Common.{ap, sym, ◌∙◌}
use Rattle.tp_model.specs.LineReading.{number, words_in}
use Rattle.tp_schedule.specs.Answers.{pair, read_as}
use Rattle.tp_transcript.specs.OutWords.{aaid}
use Rattle.tp_schedule.proofs.lemmas.Readings.{both_plain, two_alone}
use Rattle.tp_transcript.proofs.out_reading.number_and_aaid.Goals as goal

pub returns-in-Some : goal.returns-in-Some
returns-in-Some c =
    rw (c.both.ensures, c.read_number.ensures, c.read_aaid.ensures) (
    both_plain (number c.in-Some.first.now) (aaid c.in-Some.second.now)
    ∙ ap read_as (sym (two_alone pair number aaid (words_in c.args.rest.now) _ _ c.in-Some.ensures))
    )
