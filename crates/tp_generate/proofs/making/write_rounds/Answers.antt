use Rattle.std.proofs.Common.{arith}
use Rattle.tp_model.specs.Generator.{round_lines}
use Rattle.tp_generate.specs.Making.{so_far, with_lines}
use Rattle.tp_generate.proofs.Lists.{round_preserved}
use Rattle.tp_generate.proofs.making.write_rounds.Goals as goal

pub loop-turn-preserved : goal.loop-turn-preserved
loop-turn-preserved c =
    round_preserved c.loop-turn.turn c.args.rounds c.args.nodes c.loop-turn.state c.in_ok-state.state (so_far c.loop-turn.made) (so_far c.write_round.new.made)
    (with_lines (so_far c.args.made.now) (round_lines c.args.rounds c.args.nodes c.args.number))
    (omega (arith, c.loop-turn-test.true))
    c.in_ok-state.ensures.lines
    c.in_ok-state.ensures.state
    c.loop-turn.invariant
