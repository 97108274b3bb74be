use Rattle.std.proofs.Common.{refl, ap}
use Rattle.tp_model.specs.declared.line.Action.{Action}
use Rattle.tp_model.specs.Happenings.{Does, happens}
use Rattle.tp_model.specs.Lines.{within_limits}
use Rattle.tp_world.proofs.Limits.{same_mirrors, same_gives}
use Rattle.tp_world.specs.declared.world.World.{World as CodeWorld}
use Rattle.tp_world.proofs.world.World.deliver.Goals as goal

pub returns : goal.returns
returns c = λ w h.
    let taken = c.take_entry.ensures in
    let first : CodeWorld = c.take_entry.new.self in
    let last : CodeWorld = c.deliver_with-done.new.self in
    same_gives (within_limits (happens w (Does (Action.Again c.args.number)))) c.args.lines.now c.deliver_with-done.new.lines c.deliver_with-done.result last
    (record { sites = refl; nodes = refl; frames = refl; trees = refl })
    (c.deliver_with-done.ensures w
    (same_mirrors w c.args.self.now first (record { sites = ap (λ (x : CodeWorld). x.sites.items) taken; nodes = ap (λ (x : CodeWorld). x.nodes) taken; frames = ap (λ (x : CodeWorld). x.frames) taken; trees = ap (λ (x : CodeWorld). x.trees.items) taken }) h))
