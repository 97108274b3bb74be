use Rattle.std.proofs.Common.{◌≡◌, ℕ, Err, rules, ap, sym, ◌∙◌, take, drop, length, ◌-◌}
use Rattle.std.specs.Prelude.{replicate}
use Rattle.tp_model.specs.LineReading.{fill, number_in, both}
use Rattle.tp_schedule.specs.Answers.{pair, read_as}
use Rattle.tp_schedule.proofs.lemmas.Cut.{to_the_end}
use Rattle.tp_schedule.proofs.lemmas.Readings.{passed, mapped, plain, both_plain}
use Rattle.tp_schedule.proofs.Values.{run_form}
use Rattle.tp_schedule.proofs.value.read_run.Goals as goal

pub returns-in_err-octet : goal.returns-in_err-octet
returns-in_err-octet c =
    let w = c.args.word.now in
    let t = take (length w - 3) (drop 3 w) in
    let f = λ (p : ℕ × ℕ). replicate p.1 p.0 in
    let is : c.from_residual.result ≡ Err c.in_err-octet.field-0.0 = search rules in
    let x = fill (take 2 w) in
    let y = number_in 1 2000 t in
    let read : c.both.result ≡ read_as (both pair x y) = rw (c.both.ensures, c.read_fill.ensures, c.read_number_in.ensures.value) (both_plain x y) in
    passed f (both pair x y) _ c.both.result _ (run_form w t c.requires (to_the_end w 3)) (plain _ _ read) (is ∙ ap (mapped f) (sym c.in_err-octet.was))
