use Rattle.std.proofs.Common.{◌∙◌, ap, ℕ}
use Rattle.tp_names.specs.declared.identifiers.Addr.{Addr}
use Rattle.tp_model.specs.Parts.{Dialogue}
use Rattle.tp_model.specs.Arcs.{with_link, with_dialogue}
use Rattle.tp_model.specs.Dialogues.{fresh_dialogue}
use Rattle.tp_dialogue.specs.Dialogue.{End}
use Rattle.tp_tree.specs.Tie.{arc_of}
use Rattle.tp_node.specs.Node.{Node, with_arcs}
use Rattle.tp_node_state.proofs.Places.{put_again}
use Rattle.tp_node.proofs.node.Node.renew.Goals as goal

pub returns : goal.returns
returns c =
    let v = c.args.self.now in
    let p : ℕ = c.addr-peer.result.node in
    let e : Dialogue = c.new.result.dialogue in
    c.put_link.ensures
    ∙ ap (λ (x : Node). with_arcs x (with_link x.digest.arcs p (λ _. c.args.link))) c.put_dialogue.ensures
    ∙ ap (λ (a : Addr). with_arcs v (with_link (with_dialogue v.digest.arcs a.node (λ _. e)) a.node (λ _. c.args.link))) c.addr-peer.ensures
    ∙ ap (λ (d : End). with_arcs v (with_link (with_dialogue v.digest.arcs (arc_of c.args.tie.now).peer.node (λ _. d.dialogue)) (arc_of c.args.tie.now).peer.node (λ _. c.args.link))) c.new.ensures
    ∙ ap (with_arcs v) (put_again v.digest.arcs (arc_of c.args.tie.now) (fresh_dialogue c.args.units c.args.side) c.args.link c.requires.arc)
