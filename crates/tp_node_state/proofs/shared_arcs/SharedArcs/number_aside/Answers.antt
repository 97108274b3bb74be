use Rattle.std.proofs.Common.{◌≡◌, ◌∙◌, true, Ok, Err, OnErr, List, ap, sym, refl}
use Rattle.tp_model.specs.Parts.{Arc}
use Rattle.tp_model.specs.Arcs.{carried}
use Rattle.tp_model.specs.Events.{some_past_numbers}
use Rattle.tp_dialogue.specs.Dialogue.{End}
use Rattle.tp_link.specs.Link.{with_one_sent}
use Rattle.tp_tree.specs.Tie.{arc_of}
use Rattle.tp_node_state.specs.Arcs.{Arcs, next_on}
use Rattle.tp_node_state.proofs.Sides.{arc_numbered, carry_leaves, carry_says, carry_spent}
use Rattle.tp_node_state.proofs.Shares.{link_put}
use Rattle.tp_node_state.proofs.Takes.{stands_numbered}
use Rattle.tp_node_state.proofs.shared_arcs.SharedArcs.number_aside.Goals as goal

pub returns-in_err-next-clause-spent : goal.returns-in_err-next-clause-spent
returns-in_err-next-clause-spent c rec =
    let spent : some_past_numbers (carried c.args.self.now.arcs c.args.peer rec).1 ≡ true = carry_spent c.args.self.now.arcs c.args.peer rec (arc_of c.in-Some.tie) (sym c.in-Some.ensures.arc) c.in_err-next.ensures.spent in
    elim c.from_residual.result as (λ r. OnErr r (some_past_numbers (carried c.args.self.now.arcs c.args.peer rec).1 ≡ true)) [ Ok x ↦ tt | Err e ↦ spent ]

pub set-requires : goal.set-requires
set-requires c =
    stands_numbered c.args.self.now c.args.peer c.in-Some.tie c.number_on.new.tie c.in-Some.ensures.arc c.number_on.ensures.addr c.in_ok-next.ensures.link
    (ap (λ (e : End). e.side) c.number_on.ensures.dialogue ∙ c.in-Some.ensures.side) c.in-Some.ensures.link

pub returns-clause-arcs : goal.returns-clause-arcs
returns-clause-arcs c rec =
    let v = c.args.self.now in
    let t = c.in-Some.tie in
    let e = c.number_on.ensures in
    c.set.ensures
    ∙ ap (λ (arcs : List Arc). let x : Arcs = record v { arcs = arcs } in x)
    (link_put v.arcs c.args.peer (arc_of c.number_on.new.tie) (arc_of t) (with_one_sent t.link) (sym c.in-Some.ensures.arc) (arc_numbered t c.number_on.new.tie e.addr e.dialogue c.in_ok-next.ensures.link)
    ∙ carry_leaves v.arcs c.args.peer rec (arc_of t) (with_one_sent t.link) (sym c.in-Some.ensures.arc) refl)

pub returns-clause-out : goal.returns-clause-out
returns-clause-out c rec =
    let t = c.in-Some.tie in
    c.in_ok-next.ensures.next rec ∙ carry_says c.args.self.now.arcs c.args.peer rec (arc_of t) (next_on t.link) (sym c.in-Some.ensures.arc) refl
