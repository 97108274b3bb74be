use Rattle.std.proofs.Common.{◌≡◌, ◌∙◌, ap, sym, Some}
use Rattle.tp_model.specs.Arcs.{find_arc}
use Rattle.tp_tree.specs.Tie.{arc_of}
use Rattle.tp_model.specs.Node.{side_at}
use Rattle.tp_node.specs.Node.{Node}
use Rattle.tp_draft.proofs.Arriving.{open_alone}
use Rattle.tp_draft.proofs.draft.Draft.open_from.Goals as goal

pub unreachable-requires : goal.unreachable-requires
unreachable-requires c =
    let a = c.args.self.now in
    let e = c.in-Some.ensures {u = tt} in
    let found : find_arc a.move.next.arcs c.args.from.node ≡ Some (arc_of c.in-Some.field-0) = ap (λ (n : Node). find_arc n.digest.arcs c.args.from.node) (sym c.node.ensures) ∙ sym e.arc in
    open_alone a.who a.move.next c.args.from c.args.x c.args.units (arc_of c.in-Some.field-0) (side_at c.node.result.now.digest c.args.from.node) c.requires found e.link
