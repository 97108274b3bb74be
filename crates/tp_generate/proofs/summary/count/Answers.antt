use Rattle.std.proofs.Common.{◌+◌, take, sym, ap, ◌∙◌, subst}
use Rattle.std.specs.Prelude.{slice_index_or}
use Rattle.tp_generate.specs.Counts.{AreCounts, IsUpTo, with_line}
use Rattle.tp_generate.proofs.Counting.{counts_more, one_more}
use Rattle.tp_generate.proofs.summary.count.Goals as goal

pub loop-line-preserved : goal.loop-line-preserved
loop-line-preserved c =
    let lines = c.args.closing.now in
    let i = c.loop-line.line-index in
    let line = slice_index_or lines i c.line-item.result in
    let is = c.counted_with-endings.ensures ∙ ap (with_line c.loop-line.endings) c.line-item.is in
    subst
    (λ e. AreCounts (take (i + 1) lines) e × IsUpTo (i + 1) e)
    (sym is)
    (counts_more lines i c.line-item.result c.loop-line.endings c.loop-line-test.true c.loop-line.invariant.0, one_more c.loop-line.endings line i c.loop-line.invariant.1)
