use Rattle.std.proofs.Common.{subst}
use Rattle.tp_records.specs.declared.dialogue.DialogueRecord.{DialogueRecord}
use Rattle.tp_node.specs.Node.{FitsIn}
use Rattle.tp_node.proofs.Begun.{numbered_fits, numbered_node}
use Rattle.tp_node.proofs.node.Node.number_next.Goals as goal

-- which record it is does not matter for the room
pub invariant_of-self-2 : goal.invariant_of-self-2
invariant_of-self-2 c =
    let v = c.self.inside in
    numbered_fits c.number_next.result v.version c.in-Some.arcs c.number_next.new.self c.args.peer DialogueRecord.Commit (c.number_next.ensures.arcs DialogueRecord.Commit) c.number_next.ensures.same
    (subst (FitsIn v.version) c.in-Some.is c.self.invariant)

pub returns-clause-arcs : goal.returns-clause-arcs
returns-clause-arcs c r =
    numbered_node c.number_next.result c.self.inside c.args.self.now c.in-Some.arcs c.number_next.new.self c.args.peer r c.in-Some.is c.self.view_is (c.number_next.ensures.arcs r)
