use Rattle.std.proofs.Common.{◌≡◌, rules, ap, Err, sym, ◌∙◌}
use Rattle.tp_model.specs.LineReading.{both, with}
use Rattle.tp_schedule.specs.Answers.{pair, read_as}
use Rattle.tp_transcript.specs.OutWords.{any_short, long, at_dot, made_mark}
use Rattle.tp_schedule.proofs.lemmas.Readings.{passed_plain, mapped, both_plain}
use Rattle.tp_transcript.proofs.OutForms.{at_dot_found}
use Rattle.tp_transcript.proofs.out_values.read_mark.Goals as goal

pub returns-in_err-boot : goal.returns-in_err-boot
returns-in_err-boot c =
    let x = long c.in-Some.boot.now in
    let y = at_dot any_short long c.in-Some.rest.now in
    let fault : c.from_residual.result ≡ Err c.in_err-boot.field-0.0 = search rules in
    let is = fault ∙ ap (mapped made_mark) (sym c.in_err-boot.was) in
    let read : c.both.result ≡ read_as (both pair x y) = rw (c.both.ensures, c.read_long.ensures, c.read_place.ensures) (both_plain x y) in
    passed_plain made_mark (both pair x y) _ c.both.result _ (ap (with made_mark) (at_dot_found long (at_dot any_short long) c.args.word.now _ _ c.in-Some.ensures)) read is

pub returns : goal.returns
returns c =
    let x = long c.in-Some.boot.now in
    let y = at_dot any_short long c.in-Some.rest.now in
    let is = ap (mapped made_mark) (sym c.in_ok-boot.was) in
    let read : c.both.result ≡ read_as (both pair x y) = rw (c.both.ensures, c.read_long.ensures, c.read_place.ensures) (both_plain x y) in
    passed_plain made_mark (both pair x y) _ c.both.result _ (ap (with made_mark) (at_dot_found long (at_dot any_short long) c.args.word.now _ _ c.in-Some.ensures)) read is
