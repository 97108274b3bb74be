-- An event that runs on its node itself says what fits, as one on a draft does.
use Rattle.std.proofs.Common.{rules, None}
use Rattle.tp_model.specs.Node.{move}
use Rattle.tp_node.specs.Node.{Node}
use Rattle.tp_node.specs.NodeEvent.{event_of}
use Rattle.tp_site.specs.InPlace.{IsPlanned, run_in_place}
use Rattle.tp_site.specs.Nodes.{node_at}
use Rattle.tp_site.proofs.Applied.{planned_answer}
use Rattle.tp_site.proofs.Shaped.{drawn_short}
use Rattle.tp_site.proofs.site.Site.prepare.Goals as goal

pub returns-then-branch-clause-short : goal.returns-then-branch-clause-short
returns-then-branch-clause-short g c =
    let v : Node = node_at c.self.inside.nodes c.args.node in
    let plan : IsPlanned v c.args.event.now c.plan.new.outs = search rules in
    drawn_short c.self.inside.nodes c.args.node (event_of c.args.event.now) None (move c.plan.new.outs (run_in_place v.who c.args.event.now v.digest)) (planned_answer v c.args.event.now c.plan.new.outs plan)
