use Rattle.std.proofs.Common.{◌≡◌, ap, sym, ◌∙◌}
use Rattle.tp_model.specs.LineReading.{outcome, words_in, both, two_words}
use Rattle.tp_schedule.specs.Answers.{pair, read_as}
use Rattle.tp_transcript.specs.OutWords.{any_short, key, report}
use Rattle.tp_schedule.proofs.lemmas.Readings.{both_plain}
use Rattle.tp_transcript.proofs.OutForms.{keyed_found}
use Rattle.tp_transcript.proofs.out_reading.keyed_damage.Goals as goal

pub returns-in-Some : goal.returns-in-Some
returns-in-Some c =
    let x = any_short c.in-Some.node.now in
    let y = key c.in-Some.aaid.now c.in-Some.branch.now in
    let z = (two_words pair outcome report) (words_in c.in-Some.rest.now) in
    let named : c.both-named.result ≡ read_as (both pair x y) = rw (c.both-named.ensures, c.read_any_short.ensures, c.read_key.ensures) (both_plain x y) in
    rw (c.both.ensures, named, c.side_and_report.ensures) (
    both_plain (both pair x y) z ∙ ap read_as (sym (keyed_found (two_words pair outcome report) (words_in c.args.rest.now) c.in-Some.node.now c.in-Some.aaid.now c.in-Some.branch.now c.in-Some.rest.now c.in-Some.ensures))
    )
