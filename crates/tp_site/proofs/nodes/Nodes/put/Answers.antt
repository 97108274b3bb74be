-- The node stands at its place, as the draft has it.
use Rattle.std.proofs.Common.{◌∙◌, ap}
use Rattle.tp_node.specs.Node.{Node}
use Rattle.tp_site.specs.Nodes.{nodes_of}
use Rattle.tp_site.proofs.Placed.{lent_some, put_there, named_there}
use Rattle.tp_site.proofs.nodes.Nodes.put.Goals as goal

pub invariant_of-self-2 : goal.invariant_of-self-2
invariant_of-self-2 c =
    named_there c.self.inside.nodes (nodes_of c.self.inside) c.args.self.now c.self.view_is c.args.number c.in-Some.place c.in-Some.ensures.at c.self.invariant
    c.put_node.new.place c.get_index_mut.ensures.unique (ap (λ (x : Node). x.who) c.put_node.ensures.node ∙ c.requires.who)

pub returns-clause-put : goal.returns-clause-put
returns-clause-put c =
    put_there c.self.inside.nodes (nodes_of c.self.inside) c.args.self.now c.self.view_is c.args.number c.in-Some.place c.in-Some.ensures.at
    c.put_node.new.place c.args.draft.now.move.next c.get_index_mut.ensures.unique (ap (λ (x : Node). x.digest) c.put_node.ensures.node)

pub returns-in_default-get_index_mut-clause-put : goal.returns-in_default-get_index_mut-clause-put
returns-in_default-get_index_mut-clause-put c =
    absurd (lent_some c.self.inside.nodes (nodes_of c.self.inside) c.args.self.now c.self.view_is c.args.number c.in-Some.place c.in-Some.ensures.at c.in_default-get_index_mut.ensures.value)
