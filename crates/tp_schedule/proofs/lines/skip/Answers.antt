use Rattle.std.proofs.Common.{◌≡◌, ℕ, ◌<◌, List, true, length, get_or, take, sym, subst, ap, ◌∙◌, arith}
use Rattle.tp_schedule.specs.AtHand.{no_feed}
use Rattle.tp_schedule.proofs.LineSkipped.{skipped_read, skipped_long, long_ahead, feed_long, feed_limit, feed_ahead, passed_on, all_limit, all_ahead}
use Rattle.tp_schedule.proofs.lines.skip.Goals as goal

pub returns-in-Err-clause-ahead : goal.returns-in-Err-clause-ahead
returns-in-Err-clause-ahead g c = λ all rest is now.
    skipped_read all rest c.loop-taken.taken (g.S.Source.left c.loop-taken.source) (g.S.Source.left c.pull.new.source) (c.loop-taken.invariant.2 all is) c.in-Err.ensures.left now

pub returns-in-Ok-eq0-clause-answer : goal.returns-in-Ok-eq0-clause-answer
returns-in-Ok-eq0-clause-answer g c = λ all is.
    sym (skipped_long c.args.before all c.pull.new.self c.loop-taken.taken c.in-Ok-eq0.field-0 c.clear.new.self _ _ (c.loop-taken.invariant.2 all is) c.clear.ensures c.in-Ok-eq0.ensures.gains c.in-Ok-eq0.field-0-test c.loop-taken.invariant.0 c.loop-taken-test.true)

pub returns-in-Ok-eq0-clause-ahead : goal.returns-in-Ok-eq0-clause-ahead
returns-in-Ok-eq0-clause-ahead g c = λ all rest is now.
    long_ahead all c.pull.new.self rest c.loop-taken.taken c.in-Ok-eq0.field-0 c.clear.new.self _ _ (c.loop-taken.invariant.2 all is) c.clear.ensures c.in-Ok-eq0.ensures.gains c.in-Ok-eq0.field-0-test c.loop-taken.invariant.0

pub returns-in-Some-clause-answer : goal.returns-in-Some-clause-answer
returns-in-Some-clause-answer g c = λ all is.
    sym (feed_long c.args.before all c.pull.new.self c.loop-taken.taken c.in-Ok.count c.clear.new.self _ _ c.in-Some.at (c.loop-taken.invariant.2 all is) c.clear.ensures c.in-Ok.ensures.gains (subst (λ (t : List ℕ). (c.in-Some.at < length t) × (no_feed (take c.in-Some.at t) ≡ true) × (get_or t c.in-Some.at 0 ≡ 10)) c.bytes.ensures.value c.in-Some.ensures) c.loop-taken.invariant.0 c.if-before-taken-lt-MAX_SCHEDULE.true)

pub returns-in-Some-clause-ahead : goal.returns-in-Some-clause-ahead
returns-in-Some-clause-ahead g c = λ all rest is now.
    feed_ahead all c.pull.new.self rest c.loop-taken.taken c.in-Ok.count c.clear.new.self _ _ c.in-Some.at (c.loop-taken.invariant.2 all is) c.clear.ensures c.in-Ok.ensures.gains (subst (λ (t : List ℕ). (c.in-Some.at < length t) × (no_feed (take c.in-Some.at t) ≡ true) × (get_or t c.in-Some.at 0 ≡ 10)) c.bytes.ensures.value c.in-Some.ensures) c.bytes.ensures.few now

pub returns-in-Some-2-clause-answer : goal.returns-in-Some-2-clause-answer
returns-in-Some-2-clause-answer g c = λ all is.
    sym (feed_limit c.args.before all c.pull.new.self c.loop-taken.taken c.in-Ok.count c.clear.new.self _ _ c.in-Some.at (c.loop-taken.invariant.2 all is) c.clear.ensures c.in-Ok.ensures.gains (subst (λ (t : List ℕ). (c.in-Some.at < length t) × (no_feed (take c.in-Some.at t) ≡ true) × (get_or t c.in-Some.at 0 ≡ 10)) c.bytes.ensures.value c.in-Some.ensures) (omega (arith, c.if-before-taken-lt-MAX_SCHEDULE.false)))

pub returns-in-Some-2-clause-ahead : goal.returns-in-Some-2-clause-ahead
returns-in-Some-2-clause-ahead g c = λ all rest is now.
    feed_ahead all c.pull.new.self rest c.loop-taken.taken c.in-Ok.count c.clear.new.self _ _ c.in-Some.at (c.loop-taken.invariant.2 all is) c.clear.ensures c.in-Ok.ensures.gains (subst (λ (t : List ℕ). (c.in-Some.at < length t) × (no_feed (take c.in-Some.at t) ≡ true) × (get_or t c.in-Some.at 0 ≡ 10)) c.bytes.ensures.value c.in-Some.ensures) c.bytes.ensures.few now

pub returns-clause-answer : goal.returns-clause-answer
returns-clause-answer g c = λ all is.
    sym (all_limit c.args.before all c.loop-taken.taken _ (c.loop-taken.invariant.2 all is) c.loop-taken.invariant.0 (omega (arith, c.loop-taken-test.false)))

pub returns-clause-ahead : goal.returns-clause-ahead
returns-clause-ahead g c = λ all rest is now. all_ahead all rest c.loop-taken.taken _ (c.loop-taken.invariant.2 all is) now

pub loop-taken-preserved : goal.loop-taken-preserved
loop-taken-preserved g c = (
  omega (arith, c.loop-taken.invariant.0),
  omega (arith, c.loop-taken-test.true, c.bytes.ensures.few, c.in-Ok.ensures.gains.count, ap length c.clear.ensures),
  λ all is. passed_on all c.pull.new.self c.loop-taken.taken c.in-Ok.count c.clear.new.self _ _ (c.loop-taken.invariant.2 all is) c.clear.ensures c.in-Ok.ensures.gains (ap no_feed (sym c.bytes.ensures.value) ∙ c.in-None.ensures),
  omega (arith, c.loop-taken.invariant.3, c.in-Ok.ensures.kept),
)
