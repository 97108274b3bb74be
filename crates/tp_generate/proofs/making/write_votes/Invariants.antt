use Rattle.std.proofs.Common.{◌≡◌, suc}
use Rattle.tp_generate.specs.Making.{so_far, with_lines}
use Rattle.tp_generate.proofs.Lists.{votes_from}
use Rattle.tp_generate.proofs.making.write_votes.Given as goal

-- what is made, and then what this node and those after it do; and the state after the last
abbrev pub invariant-loop-node : goal.invariant-loop-node
invariant-loop-node l = record {
  lines : with_lines (so_far l.made) (votes_from l.nodes l.state l.node (suc l.nodes)).lines
      ≡ with_lines (so_far l.initial.made) (votes_from l.nodes l.initial.state 2 (suc l.nodes)).lines;
  state : (votes_from l.nodes l.state l.node (suc l.nodes)).state ≡ (votes_from l.nodes l.initial.state 2 (suc l.nodes)).state;
}
