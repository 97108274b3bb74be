-- It stands where the last one did, or where its number is found.
use Rattle.std.proofs.Common.{subst, IfSome}
use Rattle.tp_site.specs.Nodes.{Nodes, IsPlaced}
use Rattle.tp_site.proofs.Placed.{sought, sought_last}
use Rattle.tp_site.proofs.nodes.Nodes.place_of.Goals as goal

pub returns-then-found-number-clause-at : goal.returns-then-found-number-clause-at
returns-then-found-number-clause-at c =
    subst (λ (v : Nodes). IsPlaced c.args.number v c.self.inside.last) c.self.view_is (sought_last c.self.inside.nodes c.in-Some.found.now c.args.number c.self.inside.last c.in-Some._node.now c.if-found-number.true c.in-Some.ensures.entry c.in-Some.ensures.value)

pub returns-clause-at : goal.returns-clause-at
returns-clause-at c =
    subst (λ (v : Nodes). IfSome c.get_index_of.result (IsPlaced c.args.number v)) c.self.view_is (sought c.self.inside.nodes c.args.number c.get_index_of.result c.get_index_of.ensures.unique c.get_index_of.ensures.index)
