use Rattle.std.proofs.Common.{sym}
use Rattle.tp_node_state.proofs.Sides.{first_at}
use Rattle.tp_node_state.proofs.Takes.{taken_written}
use Rattle.tp_node_state.proofs.arcs.Arcs.take.Goals as goal

pub tie_near-requires : goal.tie_near-requires
tie_near-requires c = first_at c.self.inside.tree c.args.place c.args.peer c.self.invariant.0

pub returns : goal.returns
returns c =
    let e = c.take_on.ensures in
    taken_written c.self.inside.tree c.args.self.now c.args.wakes c.args.peer c.in-Some.tie.now c.take_on.new.tie c.in-Some.ensures.put (sym c.in-Some.ensures.arc) e.addr e.link e.dialogue c.self.view_is
