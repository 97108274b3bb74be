use Rattle.std.proofs.Common.{◌≡◌, ℕ, Err, Result, rules, ap, sym, ◌∙◌}
use Rattle.tp_model.specs.declared.line.LineRequest.{LineRequest}
use Rattle.tp_model.specs.declared.line.Line.{Line}
use Rattle.tp_model.specs.LineReading.{do_from, words_in}
use Rattle.tp_schedule.specs.Answers.{pair, filled}
use Rattle.tp_schedule.specs.declared.line_fault.LineFault.{LineFault}
use Rattle.tp_schedule.proofs.lemmas.Readings.{passed, mapped}
use Rattle.tp_schedule.proofs.LineForms.{do_form}
use Rattle.tp_schedule.proofs.line_reading.read_do_line.Goals as goal

pub returns-in_err-node : goal.returns-in_err-node
returns-in_err-node c =
    let is : c.from_residual.result ≡ Err c.in_err-node.field-0.0 = search rules in
    let f = λ (p : ℕ × LineRequest). Line.Do p.0 p.1 in
    let ws = words_in c.args.rest.now in
    let put : filled c.from_residual.result c.args.line.now ≡ Err c.in_err-node.field-0.0 =
    ap (λ (r : Result (Unit {0}) LineFault). filled r c.args.line.now) is in
    passed f (do_from pair ws) (do_from Line.Do ws) c.read_do.result _ (do_form Line.Do ws) c.read_do.ensures (put ∙ ap (mapped f) (sym c.in_err-node.was))

pub returns : goal.returns
returns c =
    let f = λ (p : ℕ × LineRequest). Line.Do p.0 p.1 in
    let ws = words_in c.args.rest.now in
    passed f (do_from pair ws) (do_from Line.Do ws) c.read_do.result _ (do_form Line.Do ws) c.read_do.ensures (ap (mapped f) (sym c.in_ok-node.was))
