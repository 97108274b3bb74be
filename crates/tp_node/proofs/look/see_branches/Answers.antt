use Rattle.std.proofs.Common.{◌≡◌, ◌<◌, length, slice_set, slice_index_or, add-one, arith, ap, ◌∙◌}
use Rattle.tp_model.specs.Transactions.{Row, Transaction}
use Rattle.tp_commit.specs.Branch.{seen_at}
use Rattle.tp_node.specs.Node.{arcs_in}
use Rattle.tp_node.proofs.Looks.{see_step, set_long, all_seen}
use Rattle.tp_node.proofs.look.see_branches.Goals as goal

pub branch_peer-peer-requires : goal.branch_peer-peer-requires
branch_peer-peer-requires c = omega (arith, c.loop-i.invariant.long, c.branches-i-end.ensures)

pub see_branch-requires : goal.see_branch-requires
see_branch-requires c = omega (arith, c.loop-i.invariant.long, c.branches-i-end.ensures)

pub loop-i-preserved : goal.loop-i-preserved
loop-i-preserved c =
    let h : c.loop-i.i < length c.loop-i.branch.rows = omega (arith, c.loop-i.invariant.long, c.branches-i-end.ensures) in
    let new : (d : Row) → c.see_branch.new.self.rows ≡ slice_set c.loop-i.branch.rows c.loop-i.i (seen_at c.look_at-seen.result.0 c.look_at-seen.result.1 (slice_index_or c.loop-i.branch.rows c.loop-i.i d)) = λ d. ap (λ (t : Transaction). t.rows) (c.see_branch.ensures d) in
    record {
      rows = rw add-one (c.loop-i.invariant.rows ∙ see_step (arcs_in c.args.arcs.now) c.loop-i.branch.rows c.see_branch.new.self.rows c.loop-i.i c.look_at-seen.result.0 c.look_at-seen.result.1 c.branch_peer-peer.result h c.branch_peer-peer.ensures c.look_at-seen.ensures.live c.look_at-seen.ensures.ends new);
      long = set_long c.loop-i.branch.rows c.see_branch.new.self.rows c.loop-i.i (seen_at c.look_at-seen.result.0 c.look_at-seen.result.1) h new ∙ c.loop-i.invariant.long;
      rest = all_seen c.loop-i.branch c.args.branch.now c.see_branch.new.self c.loop-i.i (seen_at c.look_at-seen.result.0 c.look_at-seen.result.1) h c.see_branch.ensures c.loop-i.invariant.rest;
    }
