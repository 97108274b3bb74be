use Rattle.std.proofs.Common.{◌≡◌, ◌&&◌, ◌∙◌, true, ap, sym, refl, arith, None, Some}
use Rattle.tp_model.specs.World.{is_node}
use Rattle.tp_model.specs.Happenings.{Mark, happens}
use Rattle.tp_network.specs.Frames.{handed_over}
use Rattle.tp_world.specs.declared.world.World.{World as CodeWorld}
use Rattle.tp_world.proofs.Drained.{between_stood, stands_marked, stands_unmarked}
use Rattle.tp_world.proofs.Resolved.{gives_no_pass, gives_pass}
use Rattle.tp_world.proofs.world.World.pass_line.Goals as goal

pub returns-in-Some : goal.returns-in-Some
returns-in-Some c = λ w h.
    let v = c.args.self.now in
    let new : CodeWorld = record v { frames = c.hand_between.new.self } in
    let k = c.in-Some.frame in
    let marked = c.hand_between.ensures.frames ∙ ap (handed_over v.frames) c.in-Some.is in
    let named : (is_node w c.args.from && is_node w c.args.to) ≡ true = grind (arith, c.is_node.ensures w h, c.is_node-else-not-is_node.ensures w h) in
    gives_pass w c.args.from c.args.to k c.args.lines.now c.deliver.new.lines c.deliver.result c.deliver.new.self named (between_stood w v c.args.from c.args.to (Some k) h (sym c.in-Some.is ∙ c.hand_between.ensures.number))
    (c.deliver.ensures (happens w (Mark k)).world (stands_marked w v new k h marked refl refl refl))

pub returns-in_ok-push-in-None : goal.returns-in_ok-push-in-None
returns-in_ok-push-in-None c = λ w h.
    let v = c.args.self.now in
    let new : CodeWorld = record v { frames = c.hand_between.new.self } in
    let named : (is_node w c.args.from && is_node w c.args.to) ≡ true = grind (arith, c.is_node.ensures w h, c.is_node-else-not-is_node.ensures w h) in
    gives_no_pass w c.args.from c.args.to c.args.lines.now c.push.new.self tt new named (between_stood w v c.args.from c.args.to None h (sym c.in-None.is ∙ c.hand_between.ensures.number))
    (stands_unmarked w v new h (c.hand_between.ensures.frames ∙ ap (handed_over v.frames) c.in-None.is) refl refl refl)
    (c.in_ok-push-in-None.ensures {u = tt}).ok
