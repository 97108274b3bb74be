use Rattle.std.proofs.Common.{◌≡◌, Some, rules, sym, ◌∙◌, Err, ap}
use Rattle.tp_names.specs.declared.identifiers.Mark.{Mark}
use Rattle.tp_transcript.specs.OutWords.{mark}
use Rattle.tp_schedule.proofs.lemmas.Readings.{passed_plain, mapped}
use Rattle.tp_transcript.proofs.OutForms.{maybe_found}
use Rattle.tp_transcript.proofs.out_values.read_maybe_mark.Goals as goal

pub returns-in_err-read_mark : goal.returns-in_err-read_mark
returns-in_err-read_mark c =
    let f = λ (a : Mark). Some a in
    let fault : c.from_residual.result ≡ Err c.in_err-read_mark.field-0.0 = search rules in
    let is = fault ∙ ap (mapped f) (sym c.in_err-read_mark.was) in
    passed_plain f (mark c.args.word.now) _ c.read_mark.result _ (maybe_found mark c.args.word.now (sym c.is_word.ensures ∙ c.if-is_word.false)) c.read_mark.ensures is

pub returns : goal.returns
returns c =
    let f = λ (a : Mark). Some a in
    let is = ap (mapped f) (sym c.in_ok-read_mark.was) in
    passed_plain f (mark c.args.word.now) _ c.read_mark.result _ (maybe_found mark c.args.word.now (sym c.is_word.ensures ∙ c.if-is_word.false)) c.read_mark.ensures is
