-- A number is not wanting.
use Rattle.std.proofs.Common.{◌≡◌, ◌∙◌, true, false, ap, sym}
use Rattle.tp_model.specs.Arcs.{carried}
use Rattle.tp_model.specs.Events.{some_past_numbers}
use Rattle.tp_node.specs.Node.{Node}
use Rattle.tp_node.proofs.Begun.{carries}
use Rattle.tp_node.proofs.node.Node.begin_planned.Goals as goal

pub unreachable-requires-in_default-number_next : goal.unreachable-requires-in_default-number_next
unreachable-requires-in_default-number_next c =
    let v = c.args.self.now in
    let p = c.args.peer in
    let r = c.in-Some.field-0 in
    let begun = c.in-Ok.ensures {u = tt} in
    let clash : false ≡ true =
    sym (carries v.who p v.digest r c.requires (sym c.in-Some.is ∙ begun.rec))
    ∙ ap (λ (n : Node). some_past_numbers (carried n.digest.arcs p r).1) (sym begun.node)
    ∙ (c.in_default-number_next.ensures {u = tt}).spent r in
    cc (clash)
