use Rattle.std.proofs.Common.{ap, sym, ◌∙◌}
use Rattle.tp_node.specs.Node.{Node, superior_in, arcs_in}
use Rattle.tp_node.proofs.Refusals.{counted_in}
use Rattle.tp_node.proofs.node.Node.count_below.Goals as goal

pub returns-in-Some : goal.returns-in-Some
returns-in-Some c =
    counted_in c.args.self.now.digest c.in-Some.arcs _
    (sym (ap (λ (v : Node). v.digest.superior) c.self.view_is) ∙ ap superior_in c.in-Some.is)
    (sym (ap (λ (v : Node). v.digest.arcs) c.self.view_is) ∙ ap arcs_in c.in-Some.is)
    c.subordinates.ensures
