use Rattle.std.proofs.Common.{ap, sym, ◌∙◌}
use Rattle.tp_model.specs.LineReading.{outcome, words_in}
use Rattle.tp_schedule.specs.Answers.{pair, read_as}
use Rattle.tp_transcript.specs.OutWords.{report}
use Rattle.tp_schedule.proofs.lemmas.Readings.{both_plain, two_alone}
use Rattle.tp_transcript.proofs.out_reading.side_and_report.Goals as goal

pub returns-in-Some : goal.returns-in-Some
returns-in-Some c =
    rw (c.both.ensures, c.read_outcome.ensures, c.read_report.ensures) (
    both_plain (outcome c.in-Some.side.now) (report c.in-Some.report.now)
    ∙ ap read_as (sym (two_alone pair outcome report (words_in c.args.rest.now) _ _ c.in-Some.ensures))
    )
