use Rattle.std.proofs.Common.{suc, ◌-◌, arith}
use Rattle.tp_model.specs.Generator.{from_on}
use Rattle.tp_generate.specs.Parts.{part_lines}
use Rattle.tp_generate.specs.Making.{so_far, with_lines}
use Rattle.tp_generate.proofs.Lists.{part_preserved}
use Rattle.tp_generate.proofs.making.write_part.Goals as goal

pub loop-node-preserved : goal.loop-node-preserved
loop-node-preserved c =
    part_preserved c.args.part c.loop-node.node (suc c.args.nodes) (so_far c.loop-node.made) (so_far c.write_node.new.made)
    (with_lines (so_far c.args.made.now) (part_lines c.args.part (from_on c.args.first (suc c.args.nodes - c.args.first))))
    (omega (arith, c.loop-node-test.true))
    c.in_ok-write_node.ensures
    c.loop-node.invariant
