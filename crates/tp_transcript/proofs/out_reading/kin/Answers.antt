use Rattle.std.proofs.Common.{ap, sym, ◌∙◌}
use Rattle.tp_model.specs.LineReading.{words_in}
use Rattle.tp_schedule.specs.Answers.{pair, read_as}
use Rattle.tp_transcript.specs.OutWords.{aaid, branch}
use Rattle.tp_schedule.proofs.lemmas.Readings.{both_plain, two_alone}
use Rattle.tp_transcript.proofs.out_reading.kin.Goals as goal

pub returns-in-Some : goal.returns-in-Some
returns-in-Some c =
    rw (c.both.ensures, c.read_aaid.ensures, c.read_branch.ensures) (
    both_plain (aaid c.in-Some.first.now) (branch c.in-Some.second.now)
    ∙ ap read_as (sym (two_alone pair aaid branch (words_in c.args.rest.now) _ _ c.in-Some.ensures))
    )
