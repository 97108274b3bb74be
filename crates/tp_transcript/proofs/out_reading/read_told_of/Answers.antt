use Rattle.std.proofs.Common.{◌≡◌, ℕ, Err, rules, ap, sym, ◌∙◌}
use Rattle.tp_names.specs.declared.outcome.Report.{Report}
use Rattle.tp_records.specs.declared.indication.Indication.{Indication}
use Rattle.tp_model.specs.LineReading.{number, two_words, words_in}
use Rattle.tp_transcript.specs.OutWords.{report}
use Rattle.tp_schedule.specs.Answers.{pair}
use Rattle.tp_schedule.proofs.lemmas.Readings.{passed, mapped, plain, two_form}
use Rattle.tp_transcript.proofs.out_reading.read_told_of.Goals as goal

pub returns-in_err-peer-in-HeuristicReport : goal.returns-in_err-peer-in-HeuristicReport
returns-in_err-peer-in-HeuristicReport c =
    let f = λ (p : ℕ × Report). Indication.HeuristicReport p.0 p.1 in
    let ws = words_in c.args.rest.now in
    let is : c.from_residual-in_err-peer-in-HeuristicReport.result ≡ Err c.in_err-peer-in-HeuristicReport.field-0.0 = search rules in
    rw c.in-HeuristicReport.is (passed f (two_words pair number report ws) _ c.number_and_report.result _ (two_form Indication.HeuristicReport number report ws) (plain _ _ c.number_and_report.ensures) (is ∙ ap (mapped f) (sym c.in_err-peer-in-HeuristicReport.was)))

pub returns-in_ok-peer-in-HeuristicReport : goal.returns-in_ok-peer-in-HeuristicReport
returns-in_ok-peer-in-HeuristicReport c =
    let f = λ (p : ℕ × Report). Indication.HeuristicReport p.0 p.1 in
    let ws = words_in c.args.rest.now in
    rw c.in-HeuristicReport.is (passed f (two_words pair number report ws) _ c.number_and_report.result _ (two_form Indication.HeuristicReport number report ws) (plain _ _ c.number_and_report.ensures) (ap (mapped f) (sym c.in_ok-peer-in-HeuristicReport.was)))
