use Rattle.std.proofs.Common.{◌≡◌, ◌∙◌, true, ap, sym, subst, List}
use Rattle.std.specs.Prelude.{slice_get}
use Rattle.tp_names.specs.declared.identifiers.Addr.{Addr}
use Rattle.tp_model.specs.Arcs.{find_arc}
use Rattle.tp_tree.specs.declared.tie.Tie.{Tie}
use Rattle.tp_node_state.specs.Arcs.{Arcs, side_with, fits_link}
use Rattle.tp_node_state.proofs.Sides.{got, near_arc}
use Rattle.tp_node_state.proofs.Linked.{near_fits}
use Rattle.tp_node_state.proofs.arcs.Arcs.near.Goals as goal

pub returns-in-Some-clause-arc : goal.returns-in-Some-clause-arc
returns-in-Some-clause-arc c =
    near_arc c.self.inside.tree c.args.place c.args.peer c.in-Some.tie.now c.self.invariant.0
    (got c.subordinates.result.now c.args.place c.in-Some.tie.now c.in-Some.ensures.lookup.3.0 c.in-Some.ensures.lookup.1 ∙ ap (λ (ts : List Tie). slice_get ts c.args.place) c.subordinates.ensures)
    (ap (λ (a : Addr). a.node) (sym c.addr.ensures) ∙ c.if-addr-peer.true)
    ∙ ap (λ (d : Arcs). find_arc d.arcs c.args.peer) c.self.view_is

pub returns-in-Some-clause-side : goal.returns-in-Some-clause-side
returns-in-Some-clause-side c =
    (near_fits c.self.inside.tree c.args.place c.args.peer c.in-Some.tie.now c.self.invariant.0 c.self.invariant.1
    (got c.subordinates.result.now c.args.place c.in-Some.tie.now c.in-Some.ensures.lookup.3.0 c.in-Some.ensures.lookup.1 ∙ ap (λ (ts : List Tie). slice_get ts c.args.place) c.subordinates.ensures)
    (ap (λ (a : Addr). a.node) (sym c.addr.ensures) ∙ c.if-addr-peer.true)).0
    ∙ ap (λ (d : Arcs). side_with d.superior c.args.peer) c.self.view_is

pub returns-in-Some-clause-link : goal.returns-in-Some-clause-link
returns-in-Some-clause-link c =
    subst (λ (d : Arcs). fits_link (side_with d.superior c.args.peer) c.in-Some.tie.now.link ≡ true) c.self.view_is
    (near_fits c.self.inside.tree c.args.place c.args.peer c.in-Some.tie.now c.self.invariant.0 c.self.invariant.1
    (got c.subordinates.result.now c.args.place c.in-Some.tie.now c.in-Some.ensures.lookup.3.0 c.in-Some.ensures.lookup.1 ∙ ap (λ (ts : List Tie). slice_get ts c.args.place) c.subordinates.ensures)
    (ap (λ (a : Addr). a.node) (sym c.addr.ensures) ∙ c.if-addr-peer.true)).1
