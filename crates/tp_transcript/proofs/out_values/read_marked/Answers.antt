use Rattle.std.proofs.Common.{ap, sym, ◌∙◌}
use Rattle.tp_model.specs.LineReading.{site}
use Rattle.tp_schedule.specs.Answers.{read_as}
use Rattle.tp_transcript.specs.OutWords.{mark}
use Rattle.tp_schedule.proofs.lemmas.Readings.{both_plain}
use Rattle.tp_transcript.proofs.OutForms.{at_dot_found}
use Rattle.tp_transcript.proofs.out_values.read_marked.Goals as goal

pub returns-in-Some : goal.returns-in-Some
returns-in-Some c =
    rw (c.both.ensures, c.read_site.ensures, c.read_mark.ensures) (
    both_plain (site c.in-Some.name.now) (mark c.in-Some.rest.now) ∙ ap read_as (sym (at_dot_found site mark c.args.word.now _ _ c.in-Some.ensures))
    )
