use Rattle.std.proofs.Common.{◌≡◌, ◌-◌}
use Rattle.tp_model.specs.Generator.{round_lines}
use Rattle.tp_generate.specs.Making.{so_far, with_lines}
use Rattle.tp_generate.proofs.making.write_rounds.Given as goal

-- what is made, and then the rounds that are left
abbrev pub invariant-loop-turn : goal.invariant-loop-turn
invariant-loop-turn l =
    with_lines (so_far l.made) (round_lines (l.rounds - l.turn) l.nodes l.state)
    ≡ with_lines (so_far l.initial.made) (round_lines l.rounds l.nodes l.number)
