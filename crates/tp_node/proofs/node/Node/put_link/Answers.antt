use Rattle.std.proofs.Common.{◌∙◌, sym, ap}
use Rattle.tp_model.specs.declared.arc.Side.{Side}
use Rattle.tp_node_state.specs.Arcs.{side_with, fits_link}
use Rattle.tp_node.specs.Node.{Node, superior_in}
use Rattle.tp_node.proofs.node.Node.put_link.Goals as goal

pub put_link-requires : goal.put_link-requires
put_link-requires c =
    ap (λ (s : Side). fits_link s c.args.link) (ap (λ s. side_with (superior_in s) c.args.peer) (sym c.in-Some.is) ∙ ap (λ (v : Node). side_with v.digest.superior c.args.peer) c.self.view_is)
    ∙ c.requires
