use Rattle.std.proofs.Common.{◌≡◌, ◌<◌, ◌≤◌, ◌+◌, ℕ, suc, sym, subst, arith, length}
use Rattle.tp_world_sites.specs.Restarts.{IsRestartedTo, RestartsTo}
use Rattle.tp_world_sites.proofs.Stopping.{as_many, any_count, all_past}
use Rattle.tp_world_sites.proofs.Handed.{err_is}
use Rattle.tp_world_sites.proofs.restart.restart_nodes.Goals as goal

pub returns-in_err-restart_node : goal.returns-in_err-restart_node
returns-in_err-restart_node c = λ ns stop to.
    let f = c.in_err-restart_node.field-0.0 in
    let first = c.args.next.now in
    let count : length c.args.nodes.now ≡ length ns = as_many first.site.nodes.site 0 ns c.args.nodes.now to.nodes in
    let within : c.loop-place.place < length ns = omega (arith, count, c.count-place-end.ensures, c.loop-place-test.true) in
    subst (λ r. RestartsTo ns (length ns) first r c.restart_node.new.nodes c.restart_node.new.next) (sym (err_is c.from_residual.result f c.from_residual.ensures.1))
    (any_count ns (suc c.loop-place.place) (length ns) first f c.restart_node.new.nodes c.restart_node.new.next (c.in_err-restart_node.ensures {u = tt} ns first stop within (c.loop-place.invariant ns stop to)))

pub loop-place-preserved : goal.loop-place-preserved
loop-place-preserved c = λ ns stop to.
    let first = c.args.next.now in
    let count : length c.args.nodes.now ≡ length ns = as_many first.site.nodes.site 0 ns c.args.nodes.now to.nodes in
    let within : c.loop-place.place < length ns = omega (arith, count, c.count-place-end.ensures, c.loop-place-test.true) in
    let next : suc c.loop-place.place ≡ c.loop-place.place + 1 = omega arith in
    subst (λ (k : ℕ). IsRestartedTo ns k first c.restart_node.new.nodes c.restart_node.new.next) next (c.in_ok-restart_node.ensures {u = tt} ns first stop within (c.loop-place.invariant ns stop to))

pub returns : goal.returns
returns c = λ ns stop to.
    let first = c.args.next.now in
    let count : length c.args.nodes.now ≡ length ns = as_many first.site.nodes.site 0 ns c.args.nodes.now to.nodes in
    let past : length ns ≤ c.loop-place.place = omega (arith, count, c.count-place-end.ensures, c.loop-place-test.false) in
    all_past ns c.loop-place.place first c.loop-place.nodes c.loop-place.next past (c.loop-place.invariant ns stop to)
