use Rattle.std.proofs.Common.{ap, sym, ◌∙◌}
use Rattle.tp_schedule.specs.Answers.{read_as}
use Rattle.tp_transcript.specs.OutWords.{any_short, long}
use Rattle.tp_schedule.proofs.lemmas.Readings.{both_plain}
use Rattle.tp_transcript.proofs.OutForms.{at_dot_found}
use Rattle.tp_transcript.proofs.out_values.read_place.Goals as goal

pub returns-in-Some : goal.returns-in-Some
returns-in-Some c =
    rw (c.both.ensures, c.read_any_short.ensures, c.read_long.ensures) (
    both_plain (any_short c.in-Some.node.now) (long c.in-Some.count.now) ∙ ap read_as (sym (at_dot_found any_short long c.args.word.now _ _ c.in-Some.ensures))
    )
