use Rattle.std.proofs.Common.{◌≡◌, ◌∙◌, ap, sym, Some, ℕ}
use Rattle.tp_model.specs.Arcs.{find_arc}
use Rattle.tp_model.specs.Node.{side_at}
use Rattle.tp_tree.specs.Tie.{arc_of}
use Rattle.tp_node.specs.Node.{Node}
use Rattle.tp_node_state.specs.Arcs.{fits_link}
use Rattle.tp_node.proofs.Arriving.{at_peer}
use Rattle.tp_draft.proofs.Arriving.{accept_opening}
use Rattle.tp_draft.proofs.draft.Draft.accept_from.Goals as goal

pub take_accept-requires-clause-arc : goal.take_accept-requires-clause-arc
take_accept-requires-clause-arc c =
    let a = c.args.self.now in
    let t = c.in-Some.tie in
    let e = c.in-Some.ensures {u = tt} in
    let found : find_arc a.move.next.arcs c.args.from.node ≡ Some (arc_of t) = ap (λ (n : Node). find_arc n.digest.arcs c.args.from.node) (sym c.node.ensures) ∙ sym e.arc in
    let at : c.args.from.node ≡ (arc_of t).peer.node = at_peer a.move.next c.args.from.node (arc_of t) found in
    ap (find_arc a.move.next.arcs) (sym at) ∙ found

pub take_accept-requires-clause-link : goal.take_accept-requires-clause-link
take_accept-requires-clause-link c =
    let a = c.args.self.now in
    let t = c.in-Some.tie in
    let e = c.in-Some.ensures {u = tt} in
    let found : find_arc a.move.next.arcs c.args.from.node ≡ Some (arc_of t) = ap (λ (n : Node). find_arc n.digest.arcs c.args.from.node) (sym c.node.ensures) ∙ sym e.arc in
    let at : c.args.from.node ≡ (arc_of t).peer.node = at_peer a.move.next c.args.from.node (arc_of t) found in
    ap (λ (p : ℕ). fits_link (side_at a.move.next p) t.link) (sym at) ∙ ap (λ (n : Node). fits_link (side_at n.digest c.args.from.node) t.link) (sym c.node.ensures) ∙ e.link

pub take_accept-requires-clause-opening : goal.take_accept-requires-clause-opening
take_accept-requires-clause-opening c =
    let a = c.args.self.now in
    let t = c.in-Some.tie in
    let e = c.in-Some.ensures {u = tt} in
    let found : find_arc a.move.next.arcs c.args.from.node ≡ Some (arc_of t) = ap (λ (n : Node). find_arc n.digest.arcs c.args.from.node) (sym c.node.ensures) ∙ sym e.arc in
    let at : c.args.from.node ≡ (arc_of t).peer.node = at_peer a.move.next c.args.from.node (arc_of t) found in
    accept_opening a.who a.move.next c.args.from c.args.x c.args.y c.args.units (arc_of t) c.requires found
