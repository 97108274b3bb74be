use Rattle.std.proofs.Common.{◌≡◌, ℕ, length, take, List, subst, ap, arith}
use Rattle.tp_schedule.specs.declared.line_end.LineEnd.{LineEnd}
use Rattle.tp_schedule.specs.AtHand.{EndsSo}
use Rattle.tp_model.specs.Transcript.{without_return}
use Rattle.tp_schedule.specs.LineCut.{IsCut}
use Rattle.tp_schedule.proofs.Buffers.{at_most}
use Rattle.tp_schedule.proofs.LineSought.{sought_feed, sought_input, sought_read}
use Rattle.tp_schedule.proofs.lines.seek.Goals as goal

pub returns-in-Err-clause-finds : goal.returns-in-Err-clause-finds
returns-in-Err-clause-finds g c = sought_read c.args.before c.faults-faults.result c.gather.new.window _ (g.S.Source.left c.gather.new.source) c.in-Err.ensures.unended c.gather.ensures.same

pub returns-in-Ok-Feed-clause-finds : goal.returns-in-Ok-Feed-clause-finds
returns-in-Ok-Feed-clause-finds g c =
    let ends = subst (λ (e : LineEnd). EndsSo e c.gather.new.window (g.S.Source.left c.gather.new.source)) c.in-Ok-Feed.field-0-is c.in-Ok-Feed.ensures.ends in
    sought_feed c.args.before c.gather.new.window _ (g.S.Source.left c.gather.new.source) c.in-Ok-Feed.at c.line_len.result c.judge.result
    ends.0 ends.1 ends.2 c.bytes.ensures.few c.gather.ensures.same
    (omega (arith, c.line_len.ensures.within, at_most c.in-Ok-Feed.at c.bytes.result.now))
    (subst (λ (t : List ℕ). take c.line_len.result (take c.in-Ok-Feed.at t) ≡ without_return (take c.in-Ok-Feed.at t)) c.bytes.ensures.value c.line_len.ensures.value)
    (subst (λ (k : ℕ). IsCut c.args.before c.line_len.result k c.judge.result) (omega arith) c.judge.ensures)

pub returns-else-len-eq0-clause-finds : goal.returns-else-len-eq0-clause-finds
returns-else-len-eq0-clause-finds g c =
    let ends = subst (λ (e : LineEnd). EndsSo e c.gather.new.window (g.S.Source.left c.gather.new.source)) c.in-Ok-Input.field-0-is c.in-Ok-Input.ensures.ends in
    sought_input c.args.before c.gather.new.window _ (g.S.Source.left c.gather.new.source) (length c.bytes-len.result.now) c.judge-in-Ok-Input.result
    ends.0 (omega (arith, ends.1)) ends.2 c.gather.ensures.same (ap length c.bytes-len.ensures.value) (omega (arith, c.if-len-eq0.false)) c.judge-in-Ok-Input.ensures
