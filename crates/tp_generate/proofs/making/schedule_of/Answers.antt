use Rattle.std.proofs.Common.{◌∙◌, ap}
use Rattle.tp_generate.specs.Making.{SoFar, so_far, with_lines, opening_lines}
use Rattle.tp_generate.proofs.Lists.{schedule_written}
use Rattle.tp_generate.proofs.making.schedule_of.Goals as goal

pub returns : goal.returns
returns c =
    schedule_written c.args.number c.args.nodes c.args.rounds (so_far c.write_opening.new.made) c.write_rounds.new.made
    (c.in_ok-write_opening.ensures ∙ ap (λ (t : SoFar). with_lines t (opening_lines c.args.nodes)) c.new-made.ensures)
    c.in_ok-write_rounds.ensures
