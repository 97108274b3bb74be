-- The node at that place is the one of that number, and stands there as it has become.
use Rattle.std.proofs.Common.{◌∙◌, ap}
use Rattle.tp_node.specs.Node.{Node}
use Rattle.tp_node.specs.NodeEvent.{refused_at_once}
use Rattle.tp_site.specs.InPlace.{run_in_place, can_run}
use Rattle.tp_site.specs.Nodes.{nodes_of}
use Rattle.tp_site.proofs.Placed.{lent_some, put_there, named_there, lent_there}
use Rattle.tp_site.proofs.nodes.Nodes.apply.Goals as goal

pub apply-requires-clause-refused : goal.apply-requires-clause-refused
apply-requires-clause-refused c =
    let lent = lent_there c.self.inside.nodes (nodes_of c.self.inside) c.args.self.now c.self.view_is c.args.number c.in-Some.place c.in-Some.ensures.at c.self.invariant c.in-Some-get_index_mut.node.now c.in-Some-get_index_mut.ensures.value in
    ap (λ (x : Node). refused_at_once x.who x.digest c.args.event.now) (c.deref_mut.ensures.value ∙ lent) ∙ c.requires.refused

pub apply-requires-clause-sure : goal.apply-requires-clause-sure
apply-requires-clause-sure c =
    let lent = lent_there c.self.inside.nodes (nodes_of c.self.inside) c.args.self.now c.self.view_is c.args.number c.in-Some.place c.in-Some.ensures.at c.self.invariant c.in-Some-get_index_mut.node.now c.in-Some-get_index_mut.ensures.value in
    ap (λ (x : Node). can_run x.who c.args.event.now x.digest) (c.deref_mut.ensures.value ∙ lent) ∙ c.requires.sure

pub invariant_of-self-2 : goal.invariant_of-self-2
invariant_of-self-2 c =
    let lent = lent_there c.self.inside.nodes (nodes_of c.self.inside) c.args.self.now c.self.view_is c.args.number c.in-Some.place c.in-Some.ensures.at c.self.invariant c.in-Some-get_index_mut.node.now c.in-Some-get_index_mut.ensures.value in
    named_there c.self.inside.nodes (nodes_of c.self.inside) c.args.self.now c.self.view_is c.args.number c.in-Some.place c.in-Some.ensures.at c.self.invariant
    _ c.get_index_mut.ensures.unique (ap (λ (x : Node). x.who) c.apply.ensures ∙ ap (λ (x : Node). x.who) c.deref_mut.ensures.value ∙ ap (λ (x : Node). x.who) lent)

pub returns-clause-put : goal.returns-clause-put
returns-clause-put c =
    let lent = lent_there c.self.inside.nodes (nodes_of c.self.inside) c.args.self.now c.self.view_is c.args.number c.in-Some.place c.in-Some.ensures.at c.self.invariant c.in-Some-get_index_mut.node.now c.in-Some-get_index_mut.ensures.value in
    put_there c.self.inside.nodes (nodes_of c.self.inside) c.args.self.now c.self.view_is c.args.number c.in-Some.place c.in-Some.ensures.at
    _ _ c.get_index_mut.ensures.unique (ap (λ (x : Node). x.digest) c.apply.ensures ∙ ap (λ (x : Node). run_in_place x.who c.args.event.now x.digest) c.deref_mut.ensures.value ∙ ap (λ (x : Node). run_in_place x.who c.args.event.now x.digest) lent)

pub returns-in_default-get_index_mut-clause-put : goal.returns-in_default-get_index_mut-clause-put
returns-in_default-get_index_mut-clause-put c =
    absurd (lent_some c.self.inside.nodes (nodes_of c.self.inside) c.args.self.now c.self.view_is c.args.number c.in-Some.place c.in-Some.ensures.at c.in_default-get_index_mut.ensures.value)
