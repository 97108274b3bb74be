use Rattle.std.proofs.Common.{sym}
use Rattle.tp_node_state.proofs.Sides.{first_at, dialogue_written}
use Rattle.tp_node_state.proofs.arcs.Arcs.put_dialogue.Goals as goal

pub tie_near-requires : goal.tie_near-requires
tie_near-requires c = first_at c.self.inside.tree c.args.place c.args.peer c.self.invariant.0

pub returns : goal.returns
returns c =
    dialogue_written c.self.inside.tree c.args.self.now c.args.peer c.in-Some.tie.now c.args.dialogue c.in-Some.ensures.dialogue (sym c.in-Some.ensures.tie) c.self.view_is
