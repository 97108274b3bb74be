use Rattle.std.proofs.Common.{◌∙◌, ap, sym, refl, List}
use Rattle.tp_model.specs.Parts.{Arc}
use Rattle.tp_tree.specs.Tie.{arc_of}
use Rattle.tp_node_state.specs.Arcs.{Arcs}
use Rattle.tp_node_state.proofs.Shares.{stands_link, link_put}
use Rattle.tp_node_state.proofs.shared_arcs.SharedArcs.put_link_aside.Goals as goal

pub set-requires : goal.set-requires
set-requires c = stands_link c.args.self.now c.args.peer c.in-Some.tie c.args.link c.in-Some.ensures.arc c.in-Some.ensures.side c.requires

pub returns : goal.returns
returns c =
    let v = c.args.self.now in
    let t = c.in-Some.tie in
    c.set.ensures
    ∙ ap (λ (arcs : List Arc). let x : Arcs = record v { arcs = arcs } in x) (link_put v.arcs c.args.peer (arc_of (record t { link = c.args.link })) (arc_of t) c.args.link (sym c.in-Some.ensures.arc) refl)
