use Rattle.std.proofs.Common.{◌≡◌, ap, sym, ◌∙◌}
use Rattle.tp_model.specs.LineReading.{words_in, both}
use Rattle.tp_schedule.specs.Answers.{pair, read_as}
use Rattle.tp_transcript.specs.OutWords.{aaid, branch, holder}
use Rattle.tp_transcript.specs.OutReading.{trio}
use Rattle.tp_schedule.proofs.lemmas.Readings.{both_plain}
use Rattle.tp_transcript.proofs.OutForms.{three_found, three_trio}
use Rattle.tp_transcript.proofs.out_reading.kin_and_holder.Goals as goal

pub returns-in-Some : goal.returns-in-Some
returns-in-Some c =
    let x = aaid c.in-Some.aaid.now in
    let y = branch c.in-Some.branch.now in
    let z = holder c.in-Some.holder.now in
    let kin : c.both-kin.result ≡ read_as (both pair x y) = rw (c.both-kin.ensures, c.read_aaid.ensures, c.read_branch.ensures) (both_plain x y) in
    rw (c.both.ensures, kin, c.read_holder.ensures) (
    both_plain (both pair x y) z ∙ ap read_as (sym (three_found trio aaid branch holder (words_in c.args.rest.now) _ _ _ c.in-Some.ensures ∙ three_trio x y z))
    )
