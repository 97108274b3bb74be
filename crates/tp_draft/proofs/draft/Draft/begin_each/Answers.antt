use Rattle.std.proofs.Common.{drop, drop-cons, suc, slice_index}
use Rattle.tp_draft.proofs.Beginnings.{each_halts}
use Rattle.tp_draft.proofs.draft.Draft.begin_each.Goals as goal

pub returns-in-Err : goal.returns-in-Err
returns-in-Err c =
    let at = c.loop-peer.peer-index in
    let ps = c.args.peers.now in
    each_halts c.in-Err.halt c.loop-peer.self c.args.self.now c.begin_on.new.self c.begin_on.new.self (slice_index ps at) (drop (suc at) ps) (drop at ps) ps
    (drop-cons ps at 0 c.loop-peer-test.true)
    c.loop-peer.invariant
    c.in-Err.ensures
