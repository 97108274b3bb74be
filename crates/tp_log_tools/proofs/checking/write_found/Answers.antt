use Rattle.std.proofs.Common.{◌≡◌, ◌<◌, ◌++◌, ℕ, List, Some, get_or, length, ap, ◌∙◌, subst, arith}
use Rattle.tp_streams.specs.Written.{WritesPrefix}
use Rattle.tp_journal.specs.declared.receipts.Receipt.{Receipt}
use Rattle.tp_log_tools.specs.Readings.{as_placed}
use Rattle.tp_log_tools.specs.Findings.{picked}
use Rattle.tp_log_tools.proofs.Finds.{picked_at, picked_length}
use Rattle.tp_log_tools.proofs.Outputs.{lines, lines_all, next_line, cut_short, receipt_at, at_place, placed_length, on_err, ok_so, err_so}
use Rattle.tp_log_tools.proofs.checking.write_found.Goals as goal

all_below : (told : List Receipt) (found : List ℕ) → ((k : ℕ) → k < length found → get_or found k 0 < length told) → (k : ℕ) → k < length found → get_or found k 0 < length (as_placed told)
all_below told found below k h = omega (arith, below k h, placed_length told)

pub returns-in_err-put_line-clause-err : goal.returns-in_err-put_line-clause-err
returns-in_err-put_line-clause-err g c = on_err c.from_residual.result _ (λ before is.
    let told = (g.J.Keeper.standing c.args.log.now).told in
    let found = c.args.found.now in
    let k = c.loop-i.i-index in
    let p = at_place c.place.result c.rec.result.now in
    let there = picked_at (as_placed told) found k p (all_below told found c.requires) c.loop-i-test.true (receipt_at told (get_or found k 0) c.place.result c.rec.result.now (c.requires k c.loop-i-test.true) c.place.ensures c.rec.ensures) in
    cut_short (picked (as_placed told) found) k p there before _ ((c.in_err-put_line.ensures {u = tt}).err before (lines (picked (as_placed told) found) k) (c.loop-i.invariant.so_far before is)))

pub loop-i-preserved : goal.loop-i-preserved
loop-i-preserved g c = record {
  kept = (let k = c.put_line.ensures.kept in let h = c.loop-i.invariant.kept in omega (arith, k, h));
  so_far = λ before is.
      let told = (g.J.Keeper.standing c.args.log.now).told in
      let found = c.args.found.now in
      let k = c.loop-i.i-index in
      let p = at_place c.place.result c.rec.result.now in
      let there = picked_at (as_placed told) found k p (all_below told found c.requires) c.loop-i-test.true (receipt_at told (get_or found k 0) c.place.result c.rec.result.now (c.requires k c.loop-i-test.true) c.place.ensures c.rec.ensures) in
      next_line (picked (as_placed told) found) k p there before _ _ ((c.in_ok-put_line.ensures {u = tt}).ok before (lines (picked (as_placed told) found) k) (c.loop-i.invariant.so_far before is));
}

pub returns-clause-ok : goal.returns-clause-ok
returns-clause-ok g c = ok_so c.write_rest.result _ _ (λ all before is.
    let told = (g.J.Keeper.standing c.args.log.now).told in
    let found = c.args.found.now in
    let ps = picked (as_placed told) found in
    let end : c.loop-i.i-index ≡ length ps = omega (arith, c.loop-i-test.false, c.loop-i.auto.i-index-end, picked_length (as_placed told) found (all_below told found c.requires)) in
    all before (lines ps c.loop-i.i-index) (c.loop-i.invariant.so_far before is) ∙ ap (λ t. Some (before ++ t)) (lines_all ps c.loop-i.i-index end)) c.write_rest.ensures.ok

pub returns-clause-err : goal.returns-clause-err
returns-clause-err g c = err_so c.write_rest.result _ _ (λ some before is.
    let told = (g.J.Keeper.standing c.args.log.now).told in
    let found = c.args.found.now in
    let ps = picked (as_placed told) found in
    let end : c.loop-i.i-index ≡ length ps = omega (arith, c.loop-i-test.false, c.loop-i.auto.i-index-end, picked_length (as_placed told) found (all_below told found c.requires)) in
    subst (λ t. WritesPrefix before t (g.K.Sink.written c.write_rest.new.sink)) (lines_all ps c.loop-i.i-index end) (some before (lines ps c.loop-i.i-index) (c.loop-i.invariant.so_far before is))) c.write_rest.ensures.err
