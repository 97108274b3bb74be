use Rattle.std.proofs.Common.{◌∙◌, ap, sym}
use Rattle.tp_model.specs.Arcs.{with_dialogue}
use Rattle.tp_tree.specs.Tie.{arc_of}
use Rattle.tp_dialogue.specs.Dialogue.{End}
use Rattle.tp_node.specs.Node.{with_arcs}
use Rattle.tp_model.specs.Dialogues.{said}
use Rattle.tp_dialogue.specs.Kinds.{asked_value}
use Rattle.tp_node.proofs.Beginnings.{dialogue_put}
use Rattle.tp_node.proofs.node.Node.say.Goals as goal

pub returns : goal.returns
returns c =
    let v = c.args.self.now in
    let p = c.args.peer in
    let t = c.in-Some.tie.now in
    c.put_dialogue.ensures
    ∙ ap (λ (e : End). with_arcs v (with_dialogue v.digest.arcs p (λ _. e.dialogue))) c.say.ensures
    ∙ ap (with_arcs v) (dialogue_put v.digest.arcs p (arc_of t) (said (asked_value c.args.asked)) (sym c.in-Some.ensures.arc))
