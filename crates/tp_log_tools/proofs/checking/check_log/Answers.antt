use Rattle.std.proofs.Common.{◌≡◌, ◌<◌, ℕ, Bool, List, Some, ◌++◌, get_or, length, sym, ap, ◌∙◌, subst, arith}
use Rattle.tp_logrec.specs.declared.record.LogRec.{LogRec}
use Rattle.tp_logrec.specs.LogText.{Placed}
use Rattle.tp_model.specs.LogCommands.{placed_texts, findings}
use Rattle.tp_journal.specs.Records.{placed, first_place}
use Rattle.tp_streams.specs.Written.{WritesPrefix}
use Rattle.tp_log_tools.specs.Readings.{as_placed}
use Rattle.tp_log_tools.specs.Findings.{found_from, picked}
use Rattle.tp_log_tools.proofs.Ordered.{receipts_length}
use Rattle.tp_log_tools.proofs.Shortened.{records_placed}
use Rattle.tp_log_tools.proofs.Finds.{findings_picked, found_below, picked_length}
use Rattle.tp_log_tools.proofs.Outputs.{placed_length, on_err}
use Rattle.tp_log_tools.proofs.checking.check_log.Goals as goal

module _ (wide : Bool) (list : List LogRec) (found : List ℕ) (is : found ≡ found_from 0 list) where
  below_told : (k : ℕ) → k < length found → get_or found k 0 < length (placed wide list)
  below_told =
      let P : List ℕ → Type 0 = λ l. (k : ℕ) → k < length l → get_or l k 0 < length (placed wide list) in
      subst P (sym is) (λ k h. omega (arith, found_below 0 list k h, receipts_length wide (first_place wide) list))

  these : picked (as_placed (placed wide list)) found ≡ findings (as_placed (placed wide list))
  these = ap (picked (as_placed (placed wide list))) (is ∙ ap (found_from 0) (sym (records_placed wide (first_place wide) list))) ∙ findings_picked (as_placed (placed wide list))

  so_many : length found ≡ length (findings (as_placed (placed wide list)))
  so_many =
      sym (picked_length (as_placed (placed wide list)) found (λ k h. omega (arith, below_told k h, placed_length (placed wide list)))) ∙ ap (λ (ps : List Placed). length ps) these

pub write_found-requires : goal.write_found-requires
write_found-requires g c =
    let j = c.args.journal.now in
    let is = c.as_slice.ensures.value ∙ (c.in_ok-found.ensures {u = tt}) ∙ ap (found_from 0) c.list.ensures.is in
    below_told j.wide j.list c.as_slice.result.now is

pub returns-in_err-write_found-clause-err : goal.returns-in_err-write_found-clause-err
returns-in_err-write_found-clause-err g c = on_err c.from_residual-in_err-write_found.result _ (λ before was.
    let j = c.args.journal.now in
    let is = c.as_slice.ensures.value ∙ (c.in_ok-found.ensures {u = tt}) ∙ ap (found_from 0) c.list.ensures.is in
    subst (λ ps. WritesPrefix before (placed_texts ps) (g.K.Sink.written c.write_found.new.sink)) (these j.wide j.list c.as_slice.result.now is) ((c.in_err-write_found.ensures {u = tt}).err before was))

pub returns-clause-count : goal.returns-clause-count
returns-clause-count g c =
    let j = c.args.journal.now in
    let is = c.as_slice.ensures.value ∙ (c.in_ok-found.ensures {u = tt}) ∙ ap (found_from 0) c.list.ensures.is in
    c.len.ensures ∙ sym c.as_slice.ensures.len ∙ so_many j.wide j.list c.as_slice.result.now is

pub returns-clause-ok : goal.returns-clause-ok
returns-clause-ok g c before was =
    let j = c.args.journal.now in
    let is = c.as_slice.ensures.value ∙ (c.in_ok-found.ensures {u = tt}) ∙ ap (found_from 0) c.list.ensures.is in
    (c.in_ok-write_found.ensures {u = tt}).ok before was ∙ ap (λ ps. Some (before ++ placed_texts ps)) (these j.wide j.list c.as_slice.result.now is)
