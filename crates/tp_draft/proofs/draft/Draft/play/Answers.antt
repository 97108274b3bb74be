use Rattle.tp_model.specs.Node.{perform}
use Rattle.tp_node_state.specs.declared.arc_step.ArcStep.{ArcStep}
use Rattle.tp_node.specs.Passage.{passage_of}
use Rattle.tp_draft.specs.Passage.{playing, said_then}
use Rattle.tp_draft.proofs.Drafts.{plays_same}
use Rattle.tp_draft.proofs.Turns.{says_plainly, rolls_then, leaves_then}
use Rattle.tp_draft.proofs.draft.Draft.play.Goals as goal

pub returns-in-Stays : goal.returns-in-Stays
returns-in-Stays c =
    let t = c.args.branch.now in
    let outs = c.args.outs.now in
    plays_same c.perform.result c.args.self.now c.perform.new.self (playing t (passage_of c.args.passage) outs) (λ who. perform outs) (says_plainly t outs c.args.passage c.in-Stays.is) c.perform.ensures

pub returns-in-FallsAtOnce : goal.returns-in-FallsAtOnce
returns-in-FallsAtOnce c =
    let t = c.args.branch.now in
    let outs = c.args.outs.now in
    plays_same c.play_then.result c.args.self.now c.play_then.new.self (playing t (passage_of c.args.passage) outs) (said_then ArcStep.RollBack t outs) (rolls_then t outs c.args.passage c.in-FallsAtOnce.is) c.play_then.ensures

pub returns-in-Leaves : goal.returns-in-Leaves
returns-in-Leaves c =
    let t = c.args.branch.now in
    let outs = c.args.outs.now in
    let said = c.play_then-in-Leaves in
    plays_same said.result c.args.self.now said.new.self (playing t (passage_of c.args.passage) outs) (said_then ArcStep.Leave t outs) (leaves_then t outs c.args.passage c.in-Leaves.is) said.ensures
