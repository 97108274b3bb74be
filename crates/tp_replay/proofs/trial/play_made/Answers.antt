use Rattle.std.proofs.Common.{ap, refl, subst, arith, [], Some, None, Ok}
use Rattle.tp_replay.specs.declared.stop.InputStop.{InputStop}
use Rattle.tp_replay.specs.Stops.{IsInputStop}
use Rattle.tp_replay.specs.Playing.{PlaysNextUnwritten, EndsNext}
use Rattle.tp_replay.specs.Voters.{may_vote}
use Rattle.tp_replay.proofs.SoFar.{at_start, further}
use Rattle.tp_replay.proofs.Tried.{none_is_some, ends_at_line, ends_after_lines}
use Rattle.tp_replay.proofs.trial.play_made.Goals as goal

pub loop-at-init : goal.loop-at-init
loop-at-init c = record {
  unfaulted = ap (λ p. p.fault) c.new-lines.ensures;
  so_far = at_start may_vote [] c.args.text c.args.world.now c.new-lines.result (Some c.new-source.result.source.left) None [] c.requires.empty c.requires.alone c.new-lines.ensures refl (ap Some c.new-source.ensures);
}

pub loop-at-preserved : goal.loop-at-preserved
loop-at-preserved c = record {
  unfaulted = (c.in-Ok-true.ensures {u = tt}).unfaulted (ap Ok c.in-Ok-true.field-0-test);
  so_far =
      let s = c.loop-at.invariant.so_far in
      let n = subst
      (λ v. PlaysNextUnwritten c.loop-at.world c.play_next_unwritten.new.world may_vote c.loop-at.at c.loop-at.lines.before s.world s.lines (Ok v) c.play_next_unwritten.new.lines (Some c.play_next_unwritten.new.source.source.left))
      c.in-Ok-true.field-0-test
      ((c.in-Ok-true.ensures {u = tt}).plays s.world s.lines s.stands s.ahead) in
      further may_vote [] c.loop-at.at c.args.text c.loop-at.world c.loop-at.lines (Some c.loop-at.source.source.left) None None [] s n.0 c.play_next_unwritten.new.lines
      (Some c.play_next_unwritten.new.source.source.left) c.play_next_unwritten.new.world n.1 None [] (λ all h. absurd (none_is_some all h));
}

pub returns-in-Ok-false-clause-played : goal.returns-in-Ok-false-clause-played
returns-in-Ok-false-clause-played c =
    let s = c.loop-at.invariant.so_far in
    ends_after_lines may_vote c.loop-at.at c.args.text c.loop-at.world c.loop-at.lines (Some c.loop-at.source.source.left) None None [] c.play_next_unwritten.new.world (Some c.play_next_unwritten.new.source.source.left) s
    (subst
    (λ v. PlaysNextUnwritten c.loop-at.world c.play_next_unwritten.new.world may_vote c.loop-at.at c.loop-at.lines.before s.world s.lines (Ok v) c.play_next_unwritten.new.lines (Some c.play_next_unwritten.new.source.source.left))
    c.in-Ok-false.field-0-test
    ((c.in-Ok-false.ensures {u = tt}).plays s.world s.lines s.stands s.ahead))

pub returns-in-Err-clause-stopped : goal.returns-in-Err-clause-stopped
returns-in-Err-clause-stopped c =
    let s = c.loop-at.invariant.so_far in
    let unread = Some c.play_next_unwritten.new.source.source.left in
    ends_at_line may_vote c.loop-at.at c.args.text c.loop-at.world c.loop-at.lines (Some c.loop-at.source.source.left) None None [] c.play_next_unwritten.new.world unread s c.of_lines.result
    (subst (λ (x : InputStop). IsInputStop 0 0 x) c.of_lines.ensures (c.in-Err.ensures {u = tt}).ending)
    (subst (λ (x : InputStop). EndsNext may_vote c.loop-at.at c.loop-at.lines.before s.world s.lines x unread c.loop-at.world c.play_next_unwritten.new.world) c.of_lines.ensures
    ((c.in-Err.ensures {u = tt}).plays s.world s.lines s.stands s.ahead))

pub returns-clause-stopped : goal.returns-clause-stopped
returns-clause-stopped c =
    let s = c.loop-at.invariant.so_far in
    let numbered = s.numbered in
    let within = s.within in
    absurd (omega (arith, numbered, within, c.loop-at-test.false))
