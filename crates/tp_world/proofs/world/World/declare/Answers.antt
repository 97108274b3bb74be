use Rattle.std.proofs.Common.{refl}
use Rattle.tp_world.specs.declared.world.World.{World as CodeWorld}
use Rattle.tp_world.proofs.Coming.{come, is_free_of, on_ok}
use Rattle.tp_world.proofs.world.World.declare.Goals as goal

pub returns : goal.returns
returns c = λ w h none above.
    let v = c.args.self.now in
    let new : CodeWorld = record v { nodes = c.declare.new.self; sites = c.declare_at.new.sites } in
    let d = (c.in_ok-declare.ensures {u = tt}).declared in
    let at = c.in_ok-boot.ensures {u = tt} w h.sites h.rest.placed (is_free_of w c.args.at.node none) in
    on_ok c.show_boot.result (λ lines. come w c.args.at c.args.superior c.in_ok-boot.boot d.0 c.args.lines.now c.show_boot.new.lines v new h none above at d.1 d.2 refl refl lines) c.show_boot.ensures.shown
