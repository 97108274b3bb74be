use Rattle.std.proofs.Common.{◌≡◌, ◌≤◌, length, drop}
use Rattle.tp_world_sites.specs.Told.{deciders_at}
use Rattle.tp_world_sites.proofs.closing.deciders.Given as goal

abbrev pub invariant-loop-i : goal.invariant-loop-i
invariant-loop-i l = (l.i ≤ length l.nodes) × (l.numbers ≡ deciders_at l.tree (drop l.i l.nodes))

abbrev pub decreases-loop-i : goal.decreases-loop-i
decreases-loop-i l = l.i
