use Rattle.std.proofs.Common.{◌∙◌, ap, ◌-◌, suc}
use Rattle.tp_model.specs.Generator.{from_on}
use Rattle.tp_generate.specs.declared.part.Part.{Part}
use Rattle.tp_generate.specs.Parts.{part_lines}
use Rattle.tp_generate.specs.Making.{SoFar, so_far, with_lines}
use Rattle.tp_generate.proofs.Lists.{opening_written}
use Rattle.tp_generate.proofs.making.write_opening.Goals as goal

pub returns : goal.returns
returns c =
    c.in_ok-put-2.ensures
    ∙ opening_written c.args.nodes (so_far c.args.made.now) (so_far c.write_part.new.made) (so_far c.write_part-2.new.made) (so_far c.write_part-3.new.made)
    c.in_ok-write_part.ensures
    c.in_ok-write_part-2.ensures
    (c.in_ok-write_part-3.ensures
    ∙ ap (λ (t : SoFar). with_lines t (part_lines Part.Accepted (from_on 2 (suc c.args.nodes - 2)))) c.in_ok-put.ensures)
