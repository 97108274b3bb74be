use Rattle.std.proofs.Common.{◌≡◌, ℕ, Err, Some, rules, ap, sym, ◌∙◌, List}
use Rattle.tp_model.specs.declared.line.Line.{Line}
use Rattle.tp_model.specs.LineReading.{both, number, site}
use Rattle.tp_schedule.specs.Answers.{pair, read_as}
use Rattle.tp_schedule.proofs.lemmas.Readings.{passed, mapped, plain, both_plain}
use Rattle.tp_schedule.proofs.LineForms.{under_form}
use Rattle.tp_schedule.proofs.line_reading.read_under.Goals as goal

pub returns-in_err-node : goal.returns-in_err-node
returns-in_err-node c =
    let is : c.from_residual.result ≡ Err c.in_err-node.field-0.0 = search rules in
    let f = λ (q : (ℕ × List ℕ) × ℕ). Line.Node q.0.0 q.0.1 (Some q.1) in
    let x = number c.args.node.now in
    let y = site c.args.site.now in
    let z = number c.args.superior.now in
    let named : c.both-named.result ≡ read_as (both pair x y) = rw (c.both-named.ensures, c.read_number.ensures, c.read_site.ensures) (both_plain x y) in
    let read : c.both.result ≡ read_as (both pair (both pair x y) z) = rw (c.both.ensures, named, c.read_number-2.ensures) (both_plain (both pair x y) z) in
    passed f (both pair (both pair x y) z) _ c.both.result _ (under_form c.args.node.now c.args.site.now c.args.superior.now) (plain _ _ read) (is ∙ ap (mapped f) (sym c.in_err-node.was))
