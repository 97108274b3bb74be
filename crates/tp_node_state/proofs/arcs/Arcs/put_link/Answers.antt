use Rattle.std.proofs.Common.{sym}
use Rattle.tp_node_state.proofs.Sides.{first_at, link_written}
use Rattle.tp_node_state.proofs.arcs.Arcs.put_link.Goals as goal

pub tie_near-requires : goal.tie_near-requires
tie_near-requires c = first_at c.self.inside.tree c.args.place c.args.peer c.self.invariant.0

pub returns : goal.returns
returns c =
    link_written c.self.inside.tree c.args.self.now c.args.peer c.in-Some.tie.now c.args.link c.in-Some.ensures.link (sym c.in-Some.ensures.tie) c.self.view_is
