use Rattle.std.proofs.Common.{◌∙◌, ap, sym, List}
use Rattle.tp_model.specs.Parts.{Arc}
use Rattle.tp_model.specs.Arcs.{put_arc}
use Rattle.tp_tree.specs.Tie.{arc_of}
use Rattle.tp_node_state.specs.Arcs.{Arcs}
use Rattle.tp_node_state.proofs.Takes.{number_there, arc_taken, stands_taken, put_taken}
use Rattle.tp_node_state.proofs.shared_arcs.SharedArcs.take_aside.Goals as goal

pub take_on-requires : goal.take_on-requires
take_on-requires c = number_there c.args.self.now.arcs c.args.peer (arc_of c.in-Some.tie) c.args.x c.args.y c.args.seq (sym c.in-Some.ensures.arc) c.requires

pub set-requires : goal.set-requires
set-requires c =
    let e = c.take_on.ensures in
    stands_taken c.args.self.now c.args.peer c.in-Some.tie c.take_on.new.tie c.in-Some.ensures.arc e.addr e.link (e.side ∙ c.in-Some.ensures.side) c.in-Some.ensures.link

pub returns : goal.returns
returns c =
    let v = c.args.self.now in
    let t = c.in-Some.tie in
    let e = c.take_on.ensures in
    c.set.ensures
    ∙ ap (λ (arcs : List Arc). let x : Arcs = record v { arcs = arcs } in x) (ap (put_arc v.arcs) (arc_taken c.args.wakes t c.take_on.new.tie e.addr e.link e.dialogue) ∙ put_taken c.args.wakes v.arcs c.args.peer (arc_of t) (sym c.in-Some.ensures.arc))
