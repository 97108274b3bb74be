use Rattle.std.proofs.Common.{◌∙◌, sym, ap}
use Rattle.tp_node_state.specs.Arcs.{side_with}
use Rattle.tp_node.specs.Node.{Node, superior_in}
use Rattle.tp_node.proofs.node.Node.put_dialogue.Goals as goal

pub put_dialogue-requires : goal.put_dialogue-requires
put_dialogue-requires c = c.requires ∙ ap (λ (v : Node). side_with v.digest.superior c.args.peer) (sym c.self.view_is) ∙ ap (λ s. side_with (superior_in s) c.args.peer) c.in-Some.is
