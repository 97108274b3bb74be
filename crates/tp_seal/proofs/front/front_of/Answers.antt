use Rattle.std.proofs.Common.{rules, arith, ◌≡◌, length, slice_index_or}
use Rattle.tp_seal.proofs.Reading.{Reads, reads_next, reads_shut}
use Rattle.tp_seal.proofs.front.front_of.Goals as goal

pub loop-rest-preserved : goal.loop-rest-preserved
loop-rest-preserved c =
    let open_gate : slice_index_or c.loop-rest.rest.now 0 0 ≡ 1 = search rules in (
      search rules,
      reads_next c.args.log.now c.loop-rest.rest.now c.from.result c.from-in-1-rest.result c.in-1-rest.len_at_least open_gate c.from.ensures c.from-in-1-rest.ensures c.loop-rest.invariant.1,
    )

pub returns-in-0-clause-gate : goal.returns-in-0-clause-gate
returns-in-0-clause-gate c =
    let shut_gate : slice_index_or c.loop-rest.rest.now 0 0 ≡ 0 = search rules in
    reads_shut c.args.log.now c.loop-rest.rest.now c.in-0.len_at_least shut_gate c.loop-rest.invariant.1
