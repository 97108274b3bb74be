use Rattle.std.proofs.Common.{refl, ap, []}
use Rattle.tp_model.specs.Happenings.{task_at}
use Rattle.tp_model.specs.Lines.{within_limits}
use Rattle.tp_site.specs.NodeEvent.{event_of}
use Rattle.tp_world.specs.World.{task_turn}
use Rattle.tp_world.proofs.Limits.{same_mirrors, same_gives}
use Rattle.tp_world.specs.declared.world.World.{World as CodeWorld}
use Rattle.tp_world.proofs.world.World.local.Goals as goal

pub returns : goal.returns
returns c = λ w h under.
    let taken = c.take_entry.ensures in
    let first : CodeWorld = c.take_entry.new.self in
    let last : CodeWorld = c.local_with-done.new.self in
    same_gives (within_limits (task_turn w [] (task_at w c.args.node (event_of c.args.event.now)))) c.args.lines.now c.local_with-done.new.lines c.local_with-done.result last
    (record { sites = refl; nodes = refl; frames = refl; trees = refl })
    (c.local_with-done.ensures w
    (same_mirrors w c.args.self.now first (record { sites = ap (λ (x : CodeWorld). x.sites.items) taken; nodes = ap (λ (x : CodeWorld). x.nodes) taken; frames = ap (λ (x : CodeWorld). x.frames) taken; trees = ap (λ (x : CodeWorld). x.trees.items) taken }) h) under)
