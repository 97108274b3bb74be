use Rattle.std.proofs.Common.{◌∙◌, ap, ◌-◌}
use Rattle.tp_model.specs.declared.line.Line.{Line}
use Rattle.tp_model.specs.Generator.{from_on, votes}
use Rattle.tp_generate.specs.Making.{SoFar, so_far, with_line, with_lines}
use Rattle.tp_generate.proofs.Lists.{round_written}
use Rattle.tp_generate.proofs.making.write_round.Goals as goal

pub returns-clause-lines : goal.returns-clause-lines
returns-clause-lines c =
    round_written c.args.nodes c.args.state (so_far c.args.made.now) (so_far c.write_part.new.made) (so_far c.write_votes.new.made) (so_far c.write_part-2.new.made)
    c.in_ok-write_part.ensures
    (c.in_ok-state.ensures.lines
    ∙ ap
    (λ (t : SoFar). with_lines t (votes c.args.nodes c.args.state (from_on 2 (c.args.nodes - 1))).lines)
    (c.in_ok-put.ensures ∙ ap (λ (t : SoFar). with_line t Line.Drain) c.in_ok-put_do.ensures))
    c.in_ok-write_part-2.ensures
