use Rattle.std.proofs.Common.{◌∙◌, suc, arith, ap, ◌*◌, ◌%◌, ℕ}
use Rattle.tp_model.specs.Generator.{drawn}
use Rattle.tp_generate.specs.Making.{so_far, with_lines}
use Rattle.tp_generate.proofs.Lists.{votes_from, votes_preserved, votes_state}
use Rattle.tp_generate.proofs.making.write_votes.Goals as goal

pub loop-node-preserved : goal.loop-node-preserved
loop-node-preserved c = record {
  lines = votes_preserved c.args.nodes c.loop-node.state c.next_state-state.result (c.drawn.result % (8 * c.from.result)) c.loop-node.node (suc c.args.nodes) (so_far c.loop-node.made) (so_far c.write_vote.new.made)
      (with_lines (so_far c.args.made.now) (votes_from c.args.nodes c.args.state 2 (suc c.args.nodes)).lines)
      (omega (arith, c.loop-node-test.true))
      c.next_state-state.ensures
      (ap (λ (d : ℕ). d % (8 * c.from.result)) c.drawn.ensures ∙ ap (λ (k : ℕ). drawn c.next_state-state.result % (8 * k)) c.from.ensures)
      c.in_ok-write_vote.ensures
      c.loop-node.invariant.lines;
  state = votes_state c.args.nodes c.loop-node.state c.next_state-state.result c.loop-node.node (suc c.args.nodes) (votes_from c.args.nodes c.args.state 2 (suc c.args.nodes)).state
      (omega (arith, c.loop-node-test.true))
      c.next_state-state.ensures
      c.loop-node.invariant.state;
}
