use Rattle.std.proofs.Common.{◌∙◌, ap, sym, refl, List}
use Rattle.tp_model.specs.Parts.{Arc}
use Rattle.tp_tree.specs.Tie.{arc_of}
use Rattle.tp_node_state.specs.Arcs.{Arcs}
use Rattle.tp_node_state.proofs.Shares.{stands_dialogue, dialogue_put}
use Rattle.tp_node_state.proofs.shared_arcs.SharedArcs.put_dialogue_aside.Goals as goal

pub set-requires : goal.set-requires
set-requires c =
    let t = c.in-Some.tie in
    stands_dialogue c.args.self.now c.args.peer t (record t { dialogue = c.args.dialogue }) c.in-Some.ensures.arc refl refl c.requires c.in-Some.ensures.link

pub returns : goal.returns
returns c =
    let v = c.args.self.now in
    let t = c.in-Some.tie in
    c.set.ensures
    ∙ ap (λ (arcs : List Arc). let x : Arcs = record v { arcs = arcs } in x) (dialogue_put v.arcs c.args.peer (arc_of (record t { dialogue = c.args.dialogue })) (arc_of t) c.args.dialogue.dialogue (sym c.in-Some.ensures.arc) refl)
