-- What was prepared has happened, and the nodes are shaped as texts ask.
use Rattle.std.proofs.Common.{◌≡◌, ap, sym, subst, true, None}
use Rattle.tp_node.specs.NodeEvent.{refused_at_once}
use Rattle.tp_site.specs.InPlace.{can_run}
use Rattle.tp_site.specs.Nodes.{Nodes, has_node, who_at, digest_at}
use Rattle.tp_site.proofs.Applied.{applied, applied_shaped}
use Rattle.tp_site.proofs.site.Site.happen.Goals as goal

pub apply-requires-clause-there : goal.apply-requires-clause-there
apply-requires-clause-there g c = subst (λ (v : Nodes). has_node v c.args.node ≡ true) (sym (ap (λ s. s.nodes) c.self.view_is)) c.requires.ready.1.there

pub apply-requires-clause-refused : goal.apply-requires-clause-refused
apply-requires-clause-refused g c =
    subst (λ (v : Nodes). refused_at_once (who_at v c.args.node) (digest_at v c.args.node) c.args.event.now ≡ None) (sym (ap (λ s. s.nodes) c.self.view_is)) c.requires.ready.1.planned.refused

pub apply-requires-clause-sure : goal.apply-requires-clause-sure
apply-requires-clause-sure g c =
    subst (λ (v : Nodes). can_run (who_at v c.args.node) c.args.event.now (digest_at v c.args.node) ≡ true) (sym (ap (λ s. s.nodes) c.self.view_is)) c.requires.ready.1.planned.sure

pub invariant_of-self : goal.invariant_of-self
invariant_of-self g c =
    applied_shaped g.K.Keeper.standing c.self.inside.keeper c.args.self.now.nodes c.self.inside.nodes c.apply.new.self c.args.node c.args.event.now c.requires.ready.0 (ap (λ s. s.nodes) c.self.view_is) c.self.invariant c.requires.ready.1.planned c.apply.ensures.put c.apply.ensures.site

pub returns : goal.returns
returns g c = λ outs at.
    applied g.K.Keeper.standing c.args.self.now c.self.inside.keeper c.self.inside.nodes c.apply.new.self c.self.inside.shut c.args.node c.args.event.now outs c.self.view_is at.planned c.requires.open c.apply.ensures.put c.apply.ensures.site
