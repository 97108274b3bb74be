use Rattle.std.proofs.Common.{◌≡◌, ◌++◌, drop}
use Rattle.tp_names.specs.declared.identifiers.Aaid.{Aaid}
use Rattle.tp_network.specs.TreeOutcomes.{outcomes_in, outcomes_at}
use Rattle.tp_world_sites.specs.Told.{closing_at}
use Rattle.tp_world_sites.proofs.closing.lines_of.Given as goal

abbrev pub invariant-loop-i : goal.invariant-loop-i
invariant-loop-i l = ((t : Aaid) → outcomes_in l.all t ≡ outcomes_at l.nodes t) → closing_at l.nodes l.trees ≡ l.lines ++ closing_at l.nodes (drop l.i l.trees)
