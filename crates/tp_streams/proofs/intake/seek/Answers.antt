use Rattle.std.proofs.Common.{◌≡◌, ◌<◌, ℕ, true, Option, Ok, List, length, ap, subst, ◌∙◌, arith}
use Rattle.tp_framing.specs.Frames.{Part, next_in, is_next}
use Rattle.tp_framing.specs.Fed.{Fed}
use Rattle.tp_streams.specs.Taken.{together}
use Rattle.tp_streams.specs.Feeds.{ComesNext}
use Rattle.tp_streams.proofs.Coming.{part_few}
use Rattle.tp_streams.proofs.Sought.{found, found_answer}
use Rattle.tp_streams.proofs.intake.seek.Goals as goal

pub returns-in-Some-clause-body : goal.returns-in-Some-clause-body
returns-in-Some-clause-body g c =
    let i = c.loop-body.invariant in
    let hands = subst (λ (o : Option (List ℕ)). ComesNext c.args.number c.loop-body.feed (Ok o) c.next.new.self) c.in-Some.is c.in_ok-body.ensures.next in
    let left = g.S.Source.left c.args.source.now in
    let rest = g.S.Source.left c.loop-body.source in
    found_answer c.args.number c.args.feed.now c.next.new.self left rest c.in-Some.body
    (found c.args.feed.now c.loop-body.feed c.next.new.self left rest c.in-Some.body i.handed i.same hands)

-- what is at hand holds a frame, so no more is read
unready : (old now : Fed) → next_in now.pending ≡ Part → now ≡ old → is_next (next_in old.pending) ≡ true → ⊥
unready old now part same ready = cc (ap is_next part, ap (λ (f : Fed). is_next (next_in f.pending)) same, ready)

pub loop-body-smaller : goal.loop-body-smaller
loop-body-smaller g c =
    let none = subst (λ (o : Option (List ℕ)). ComesNext c.args.number c.loop-body.feed (Ok o) c.next.new.self) c.in_default.is c.in_ok-body.ensures.next in
    let few : length c.loop-body.feed.pending < 2050 = part_few c.loop-body.feed.pending none.0 in
    let size : length c.next.new.self.pending ≡ length c.loop-body.feed.pending = ap (λ (f : Fed). length f.pending) none.1 in
    omega (arith, few, size, c.in_ok-pull.ensures.gains.count, c.if-branch-eq0.false)

pub loop-body-preserved : goal.loop-body-preserved
loop-body-preserved g c =
    let i = c.loop-body.invariant in
    let gains = c.in_ok-pull.ensures.gains in
    let none = subst (λ (o : Option (List ℕ)). ComesNext c.args.number c.loop-body.feed (Ok o) c.next.new.self) c.in_default.is c.in_ok-body.ensures.next in
    let few : length c.loop-body.feed.pending < 2050 = part_few c.loop-body.feed.pending none.0 in
    let size : length c.next.new.self.pending ≡ length c.loop-body.feed.pending = ap (λ (f : Fed). length f.pending) none.1 in
    record {
      handed = gains.handed ∙ ap (λ (f : Fed). f.handed) none.1 ∙ i.handed;
      same = gains.same ∙ ap (λ (f : Fed). together f.pending (g.S.Source.left c.loop-body.source)) none.1 ∙ i.same;
      few = omega (arith, few, size, gains.count, gains.few);
      unread = λ ready. absurd (unready c.args.feed.now c.loop-body.feed none.0 (i.unread ready).0 ready);
      kept = omega (arith, i.kept, c.in_ok-pull.ensures.kept);
    }
