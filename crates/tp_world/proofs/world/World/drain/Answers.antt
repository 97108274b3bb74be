use Rattle.std.proofs.Common.{◌≡◌, true, false, sym, subst, arith, Ok}
use Rattle.tp_model.specs.Lines.{drain_line}
use Rattle.tp_world.specs.Drains.{Hands}
use Rattle.tp_world.specs.World.{Gives}
use Rattle.tp_world.proofs.Drained.{drained_first, drained_next, drained_dry, drained_last, drained_fault}
use Rattle.tp_world_sites.proofs.Handed.{err_is}
use Rattle.tp_world.proofs.world.World.drain.Goals as goal

pub loop-turn-init : goal.loop-turn-init
loop-turn-init c = λ w h. drained_first w c.args.most c.args.lines.now c.args.self.now h

pub returns-in_err-hand_oldest : goal.returns-in_err-hand_oldest
returns-in_err-hand_oldest c = λ w h.
    let f = c.in_err-hand_oldest.field-0.0 in
    let d = c.loop-turn.invariant w h in
    subst (λ r. Gives (drain_line c.args.most w) c.args.lines.now r c.hand_oldest.new.lines c.hand_oldest.new.self) (sym (err_is c.from_residual.result f c.from_residual.ensures.1))
    (drained_fault w c.args.most c.loop-turn._turn c.args.lines.now c.loop-turn.lines c.hand_oldest.new.lines c.loop-turn.self c.hand_oldest.new.self f c.loop-turn-test.true d (c.in_err-hand_oldest.ensures {u = tt} d.turn.world d.stands))

pub returns-then-not-branch : goal.returns-then-not-branch
returns-then-not-branch c = λ w h.
    let d = c.loop-turn.invariant w h in
    let b = c.in_ok-hand_oldest.field-0 in
    let none : b ≡ false = grind arith in
    drained_dry w c.args.most c.loop-turn._turn c.args.lines.now c.loop-turn.lines c.hand_oldest.new.lines c.loop-turn.self c.hand_oldest.new.self tt d
    (subst (λ q. Hands d.turn.world c.loop-turn.lines (Ok q) c.hand_oldest.new.lines c.hand_oldest.new.self) none (c.in_ok-hand_oldest.ensures {u = tt} d.turn.world d.stands))

pub loop-turn-preserved : goal.loop-turn-preserved
loop-turn-preserved c = λ w h.
    let d = c.loop-turn.invariant w h in
    let b = c.in_ok-hand_oldest.field-0 in
    let some : b ≡ true = grind arith in
    drained_next w c.args.most c.loop-turn._turn c.args.lines.now c.loop-turn.lines c.hand_oldest.new.lines c.loop-turn.self c.hand_oldest.new.self c.loop-turn-test.true d
    (subst (λ q. Hands d.turn.world c.loop-turn.lines (Ok q) c.hand_oldest.new.lines c.hand_oldest.new.self) some (c.in_ok-hand_oldest.ensures {u = tt} d.turn.world d.stands))

pub returns : goal.returns
returns c = λ w h. drained_last w c.args.most c.loop-turn._turn c.args.lines.now c.loop-turn.lines c.loop-turn.self tt c.loop-turn-test.false (c.loop-turn.invariant w h)
