use Rattle.std.proofs.Common.{◌≡◌, ◌<◌, ◌++◌, Some, length, ap, ◌∙◌, subst, arith}
use Rattle.tp_streams.specs.Written.{WritesPrefix}
use Rattle.tp_log_tools.specs.Readings.{as_placed}
use Rattle.tp_log_tools.proofs.Outputs.{lines, lines_all, next_line, cut_short, receipt_at, at_place, placed_length, on_err, ok_so, err_so}
use Rattle.tp_log_tools.proofs.showing.write_records.Goals as goal

pub returns-in_err-put_line-clause-err : goal.returns-in_err-put_line-clause-err
returns-in_err-put_line-clause-err g c = on_err c.from_residual.result _ (λ before is.
    let told = (g.J.Keeper.standing c.args.log.now).told in
    let i = c.loop-i.i in
    let below : i < length told = omega (arith, c.loop-i-test.true, c.count-i-end.ensures) in
    let there = receipt_at told i c.place.result c.rec.result.now below c.place.ensures c.rec.ensures in
    cut_short (as_placed told) i (at_place c.place.result c.rec.result.now) there before _ ((c.in_err-put_line.ensures {u = tt}).err before (lines (as_placed told) i) (c.loop-i.invariant.so_far before is)))

pub loop-i-preserved : goal.loop-i-preserved
loop-i-preserved g c = record {
  kept = (let k = c.put_line.ensures.kept in let h = c.loop-i.invariant.kept in omega (arith, k, h));
  so_far = λ before is.
      let told = (g.J.Keeper.standing c.args.log.now).told in
      let i = c.loop-i.i in
      let below : i < length told = omega (arith, c.loop-i-test.true, c.count-i-end.ensures) in
      let there = receipt_at told i c.place.result c.rec.result.now below c.place.ensures c.rec.ensures in
      next_line (as_placed told) i (at_place c.place.result c.rec.result.now) there before _ _ ((c.in_ok-put_line.ensures {u = tt}).ok before (lines (as_placed told) i) (c.loop-i.invariant.so_far before is));
}

pub returns-clause-ok : goal.returns-clause-ok
returns-clause-ok g c = ok_so c.write_rest.result _ _ (λ all before is.
    let told = (g.J.Keeper.standing c.args.log.now).told in
    let end : c.loop-i.i ≡ length (as_placed told) = omega (arith, c.loop-i-test.false, c.loop-i.auto.i-end, c.count-i-end.ensures, placed_length told) in
    all before (lines (as_placed told) c.loop-i.i) (c.loop-i.invariant.so_far before is) ∙ ap (λ t. Some (before ++ t)) (lines_all (as_placed told) c.loop-i.i end)) c.write_rest.ensures.ok

pub returns-clause-err : goal.returns-clause-err
returns-clause-err g c = err_so c.write_rest.result _ _ (λ some before is.
    let told = (g.J.Keeper.standing c.args.log.now).told in
    let end : c.loop-i.i ≡ length (as_placed told) = omega (arith, c.loop-i-test.false, c.loop-i.auto.i-end, c.count-i-end.ensures, placed_length told) in
    subst (λ t. WritesPrefix before t (g.K.Sink.written c.write_rest.new.sink)) (lines_all (as_placed told) c.loop-i.i end) (some before (lines (as_placed told) c.loop-i.i) (c.loop-i.invariant.so_far before is))) c.write_rest.ensures.err
