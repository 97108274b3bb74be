use Rattle.std.proofs.Common.{◌≡◌, ◌∙◌, sym, ap, subst}
use Rattle.tp_model.specs.Requests.{room}
use Rattle.tp_node.specs.Node.{Node, superior_in, arcs_in, FitsIn}
use Rattle.tp_node.proofs.Refusals.{place_there}
use Rattle.tp_node.proofs.node.Node.add_arc.Goals as goal

pub add-requires-clause-place : goal.add-requires-clause-place
add-requires-clause-place c =
    let v = c.self.inside in
    let d = c.args.self.now.digest in
    let a = c.in-Some.arcs in
    let fits : a.room ≡ room v.version = subst (FitsIn v.version) c.in-Some.is c.self.invariant in
    place_there c.args.side a d
    (sym (ap (λ (x : Node). x.digest.superior) c.self.view_is) ∙ ap superior_in c.in-Some.is)
    (sym (ap (λ (x : Node). x.digest.arcs) c.self.view_is) ∙ ap arcs_in c.in-Some.is)
    (fits ∙ ap (λ (x : Node). room x.digest.version) c.self.view_is)
    c.requires.place
