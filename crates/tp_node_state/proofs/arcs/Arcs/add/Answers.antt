use Rattle.std.proofs.Common.{◌≡◌, ◌∙◌, refl, ap, sym, subst, true, None}
use Rattle.tp_model.specs.Arcs.{find_arc}
use Rattle.tp_tree.specs.Tie.{arc_of}
use Rattle.tp_tree.specs.Invocation.{Invocation, arcs_of, with_arc, has_room}
use Rattle.tp_node_state.specs.Arcs.{Arcs, value_of, is_sided, is_linked, side_with, has_place}
use Rattle.tp_node_state.proofs.Linked.{bound_tie, made_so, made_there, added_value, added_linked, added_on, itself_on}
use Rattle.tp_node_state.proofs.Places.{place_for}
use Rattle.tp_node_state.proofs.arcs.Arcs.add.Goals as goal

pub unreachable-requires : goal.unreachable-requires
unreachable-requires c =
    let v = c.self.inside.tree in
    let x = c.in_default.ensures {u = tt} in
    let none : find_arc (arcs_of v) c.args.addr.node ≡ None = subst (λ (x : Arcs). find_arc x.arcs c.args.addr.node ≡ None) (sym c.self.view_is) c.requires.other in
    made_there v c.add.new.self c.args.addr c.args.units c.args.side (c.in_ok-add.ensures {u = tt}).value none x.tie

pub invariant_of-self-2 : goal.invariant_of-self-2
invariant_of-self-2 c =
    let v = c.self.inside.tree in
    let u = bound_tie c.args.addr c.args.units c.args.side c.args.link in
    let none : find_arc (arcs_of v) c.args.addr.node ≡ None = subst (λ (x : Arcs). find_arc x.arcs c.args.addr.node ≡ None) (sym c.self.view_is) c.requires.other in
    let side : c.args.side ≡ side_with v.superior c.args.addr.node = c.requires.side ∙ ap (λ (x : Arcs). side_with x.superior c.args.addr.node) (sym c.self.view_is) in
    let made = made_so v c.add.new.self c.args.addr c.args.units c.args.side c.args.link c.in-Some.tie.now (c.in_ok-add.ensures {u = tt}).value none c.in-Some.ensures.tie in (
      ap is_sided made ∙ added_on v c.args.side u c.self.invariant.0 (itself_on v.superior c.args.side u refl side) none,
      ap is_linked made ∙ added_linked v c.args.side u c.self.invariant.1 c.requires.link,
    )

pub returns-clause-added : goal.returns-clause-added
returns-clause-added c =
    let v = c.self.inside.tree in
    let a = c.args.addr in
    let side = c.args.side in
    let u = bound_tie a c.args.units side c.args.link in
    let none : find_arc (arcs_of v) a.node ≡ None = subst (λ (x : Arcs). find_arc x.arcs a.node ≡ None) (sym c.self.view_is) c.requires.other in
    let on : side ≡ side_with v.superior a.node = c.requires.side ∙ ap (λ (x : Arcs). side_with x.superior a.node) (sym c.self.view_is) in
    let place : has_place side (value_of (record { tree = v })) ≡ true = ap (has_place side) c.self.view_is ∙ c.requires.place in
    let room : has_room side v ≡ true = place_for v a side c.self.invariant.0 none on place in
    let made = made_so v c.add.new.self a c.args.units side c.args.link c.in-Some.tie.now (c.in_ok-add.ensures {u = tt}).value none c.in-Some.ensures.tie in
    ap (λ (x : Invocation). value_of (record { tree = x })) made
    ∙ added_value v side u room
    ∙ ap (λ (d : Arcs). record d { arcs = with_arc side (arc_of u) d.arcs }) c.self.view_is
