use Rattle.std.proofs.Common.{◌+◌, take, Some, sym, ap, ◌∙◌, arith}
use Rattle.tp_schedule.proofs.lemmas.Cut.{to_the_end}
use Rattle.tp_transcript.proofs.OutCut.{cut_found, cut_none}
use Rattle.tp_transcript.proofs.cutting.cut_at.Goals as goal

pub returns-then-byte-mark : goal.returns-then-byte-mark
returns-then-byte-mark c =
    let bs = c.args.bytes.now in
    let i = c.loop-i.i in
    cut_found c.args.mark bs i (i + 1) (omega arith) c.loop-i-test.true c.loop-i.invariant c.if-byte-mark.true ∙ ap (λ t. Some (take i bs, t)) (sym (to_the_end bs (i + 1)))

pub returns : goal.returns
returns c = cut_none c.args.mark c.args.bytes.now (λ k below. c.loop-i.invariant k (omega (arith, c.loop-i-test.false)))
