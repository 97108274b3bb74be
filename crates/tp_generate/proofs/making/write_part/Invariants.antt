use Rattle.std.proofs.Common.{◌≡◌, ◌-◌, suc}
use Rattle.tp_model.specs.Generator.{from_on}
use Rattle.tp_generate.specs.Parts.{part_lines}
use Rattle.tp_generate.specs.Making.{so_far, with_lines}
use Rattle.tp_generate.proofs.making.write_part.Given as goal

-- what is made, and then the lines of this node and those after it
abbrev pub invariant-loop-node : goal.invariant-loop-node
invariant-loop-node l =
    with_lines (so_far l.made) (part_lines l.part (from_on l.node (suc l.nodes - l.node)))
    ≡ with_lines (so_far l.initial.made) (part_lines l.part (from_on l.first (suc l.nodes - l.first)))
