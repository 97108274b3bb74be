use Rattle.std.proofs.Common.{sym}
use Rattle.tp_node_state.proofs.Sides.{first_at, numbered_so, unnumbered_so, numbered_says, unnumbered_says}
use Rattle.tp_node_state.proofs.arcs.Arcs.number_next.Goals as goal

pub tie_near-requires : goal.tie_near-requires
tie_near-requires c = first_at c.self.inside.tree c.args.place c.args.peer c.self.invariant.0

pub returns-clause-arcs : goal.returns-clause-arcs
returns-clause-arcs c r =
    let f = c.in-Some.ensures in
    let e = c.number_on.ensures in
    numbered_so c.number_on.result c.self.inside.tree c.args.self.now c.args.peer r c.in-Some.tie.now c.number_on.new.tie f.link (sym f.tie) (sym f.arc) e.addr e.dialogue c.self.view_is e.link

pub returns-clause-out : goal.returns-clause-out
returns-clause-out c r =
    numbered_says c.number_on.result c.self.inside.tree c.args.self.now c.args.peer r c.in-Some.tie.now (sym c.in-Some.ensures.arc) c.self.view_is (c.number_on.ensures.next r)

pub returns-clause-spent : goal.returns-clause-spent
returns-clause-spent c r =
    unnumbered_says c.number_on.result c.self.inside.tree c.args.self.now c.args.peer r c.in-Some.tie.now (sym c.in-Some.ensures.arc) c.self.view_is c.number_on.ensures.spent

pub returns-clause-same : goal.returns-clause-same
returns-clause-same c =
    let f = c.in-Some.ensures in
    unnumbered_so c.number_on.result c.self.inside.tree c.args.self.now c.args.peer c.in-Some.tie.now c.number_on.new.tie f.link (sym f.tie) (sym f.arc) c.self.view_is c.number_on.ensures.same
