use Rattle.tp_node_state.proofs.Shares.{unplaced}
use Rattle.tp_node_state.proofs.shared_arcs.put.Goals as goal

pub returns-else-place-ties : goal.returns-else-place-ties
returns-else-place-ties c = unplaced c.args.ties.now c.args.tie.now c.place_of-place.result c.addr.result c.place_of-place.ensures c.addr.ensures c.if-place-ties.false
