use Rattle.std.proofs.Common.{◌≡◌, Some, rules, sym, ◌∙◌, Err, ap}
use Rattle.tp_names.specs.declared.identifiers.BranchId.{BranchId}
use Rattle.tp_transcript.specs.OutWords.{branch}
use Rattle.tp_schedule.proofs.lemmas.Readings.{passed_plain, mapped}
use Rattle.tp_transcript.proofs.OutForms.{maybe_found}
use Rattle.tp_transcript.proofs.out_values.read_maybe_branch.Goals as goal

pub returns-in_err-read_branch : goal.returns-in_err-read_branch
returns-in_err-read_branch c =
    let f = λ (a : BranchId). Some a in
    let fault : c.from_residual.result ≡ Err c.in_err-read_branch.field-0.0 = search rules in
    let is = fault ∙ ap (mapped f) (sym c.in_err-read_branch.was) in
    passed_plain f (branch c.args.word.now) _ c.read_branch.result _ (maybe_found branch c.args.word.now (sym c.is_word.ensures ∙ c.if-is_word.false)) c.read_branch.ensures is

pub returns : goal.returns
returns c =
    let f = λ (a : BranchId). Some a in
    let is = ap (mapped f) (sym c.in_ok-read_branch.was) in
    passed_plain f (branch c.args.word.now) _ c.read_branch.result _ (maybe_found branch c.args.word.now (sym c.is_word.ensures ∙ c.if-is_word.false)) c.read_branch.ensures is
