use Rattle.std.proofs.Common.{◌≡◌, ◌++◌, drop}
use Rattle.tp_model.specs.Trees.{placed}
use Rattle.tp_world_sites.proofs.Ascending.{to_place}
use Rattle.tp_world_sites.proofs.shown.placed.Given as goal

abbrev pub invariant-loop-other : goal.invariant-loop-other
invariant-loop-other l = placed l.number l.numbers ≡ l.all ++ to_place l.is_placed l.number (drop l.other-index l.numbers)
