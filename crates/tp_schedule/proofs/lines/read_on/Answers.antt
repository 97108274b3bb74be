use Rattle.std.proofs.Common.{◌≡◌, ℕ, ◌-◌, List, true, length, take, drop, sym, ap, subst, ◌∙◌, arith}
use Rattle.tp_logrec.proofs.Writes.{on_err}
use Rattle.tp_schedule.specs.AtHand.{no_feed}
use Rattle.tp_schedule.proofs.Buffers.{none_gained}
use Rattle.tp_schedule.proofs.lemmas.Cut.{to_the_end}
use Rattle.tp_schedule.proofs.LineCuts.{found_behind, none_behind}
use Rattle.tp_schedule.proofs.lines.read_on.Goals as goal

pub returns-in-Some-clause-ends : goal.returns-in-Some-clause-ends
returns-in-Some-clause-ends g c =
    let w = c.loop-at.window in
    let b = c.bytes-bytes.result.now in
    let s = c.loop-at.seen in
    let is : take (length b - s) (drop s b) ≡ drop s w = to_the_end b s ∙ ap (drop s) c.bytes-bytes.ensures.value in
    found_behind w s _ c.in-Some.at is c.loop-at.invariant.0 c.loop-at.invariant.1 c.in-Some.ensures.0 c.in-Some.ensures.1 c.in-Some.ensures.2

pub returns-then-len-clause-ends : goal.returns-then-len-clause-ends
returns-then-len-clause-ends g c =
    let w = c.loop-at.window in
    let b = c.bytes-bytes.result.now in
    let s = c.loop-at.seen in
    let is : take (length b - s) (drop s b) ≡ drop s w = to_the_end b s ∙ ap (drop s) c.bytes-bytes.ensures.value in
    (none_behind w s _ is c.loop-at.invariant.1 c.in_default.ensures, omega (arith, ap length c.bytes-bytes.ensures.value, c.if-len.true))

pub returns-in_err-pull-clause-unended : goal.returns-in_err-pull-clause-unended
returns-in_err-pull-clause-unended g c =
    let w = c.loop-at.window in
    let b = c.bytes-bytes.result.now in
    let s = c.loop-at.seen in
    let is : take (length b - s) (drop s b) ≡ drop s w = to_the_end b s ∙ ap (drop s) c.bytes-bytes.ensures.value in
    let none : no_feed w ≡ true = none_behind w s _ is c.loop-at.invariant.1 c.in_default.ensures in
    on_err _ _ (subst (λ (t : List ℕ). no_feed t ≡ true) (sym c.in_err-pull.ensures.same) none)

pub returns-then-branch-eq0-clause-ends : goal.returns-then-branch-eq0-clause-ends
returns-then-branch-eq0-clause-ends g c =
    let w = c.loop-at.window in
    let b = c.bytes-bytes.result.now in
    let s = c.loop-at.seen in
    let is : take (length b - s) (drop s b) ≡ drop s w = to_the_end b s ∙ ap (drop s) c.bytes-bytes.ensures.value in
    let none : no_feed w ≡ true = none_behind w s _ is c.loop-at.invariant.1 c.in_default.ensures in
    let gains = c.in_ok-pull.ensures.gains in
    let same : c.pull.new.self ≡ w = none_gained w c.pull.new.self c.in_ok-pull.field-0 gains.before gains.count c.if-branch-eq0.true in (
      subst (λ (t : List ℕ). no_feed t ≡ true) (sym same) none,
      omega (arith, ap length same, ap length c.bytes-bytes.ensures.value, c.if-len.false),
      gains.at_end c.if-branch-eq0.true,
    )

pub loop-at-preserved : goal.loop-at-preserved
loop-at-preserved g c =
    let w = c.loop-at.window in
    let b = c.bytes-bytes.result.now in
    let s = c.loop-at.seen in
    let is : take (length b - s) (drop s b) ≡ drop s w = to_the_end b s ∙ ap (drop s) c.bytes-bytes.ensures.value in
    let none : no_feed w ≡ true = none_behind w s _ is c.loop-at.invariant.1 c.in_default.ensures in
    let gains = c.in_ok-pull.ensures.gains in
    let size : length b ≡ length w = ap length c.bytes-bytes.ensures.value in (
      omega (arith, gains.count),
      subst (λ (t : List ℕ). no_feed t ≡ true) (sym (ap (λ (k : ℕ). take k c.pull.new.self) size ∙ gains.before)) none,
      gains.same ∙ c.loop-at.invariant.2,
      omega (arith, c.loop-at.invariant.3, c.in_ok-pull.ensures.kept),
    )
