-- What a passage of the transaction does to the arcs: to the dialogue of each, by whether it is the transaction's.
use Rattle.std.specs.Prelude.{true, if◌then◌else◌, Option, Some, None, List, [], ◌∷◌}
use Rattle.tp_names.specs.declared.identifiers.Addr.{Addr}
use Rattle.tp_names.specs.declared.outcome.Outcome.{Outcome}
use Rattle.tp_model.specs.declared.arc.Side.{Side}
use Rattle.tp_model.specs.Parts.{Arc, Dialogue}
use Rattle.tp_model.specs.Dialogues.{Ask_grant, said, cleared, completed, rested}
use Rattle.tp_model.specs.Arcs.{with_dialogues}
use Rattle.tp_model.specs.Transactions.{Transaction, is_under_at}
use Rattle.tp_model.specs.Node.{is_arc_of, is_granting, without_deferral}
use Rattle.tp_tree.specs.declared.tie.Tie.{Tie}
use Rattle.tp_tree.specs.Tie.{arc_of}
use Rattle.tp_tree.specs.Invocation.{Invocation}
use Rattle.tp_node_state.specs.declared.arc_step.ArcStep.{ArcStep}
use Rattle.tp_node_state.specs.Arcs.{side_with}

-- at a completed commitment: an arc that is granted holds no control after it
abbrev pub granted : Transaction → Arc → Dialogue → Dialogue
granted t a d = if is_granting t a then said Ask_grant d else d

-- of an arc of the transaction, on which the node is that side
abbrev pub touched : ArcStep → Side → Transaction → Arc → Dialogue
touched ArcStep.Enter side t a = cleared a.dialogue
touched ArcStep.Fall side t a = without_deferral (cleared a.dialogue)
touched ArcStep.RollBack side t a = completed Outcome.Rollback side a.dialogue
touched ArcStep.Commit side t a = granted t a (completed Outcome.Commit side a.dialogue)
touched ArcStep.Leave side t a = if is_under_at t.key a.peer.node then rested a.dialogue else completed Outcome.Rollback Side.Superior a.dialogue

-- of any arc
abbrev pub stepped : ArcStep → Side → Transaction → Arc → Dialogue
stepped s side t a = if is_arc_of t a then touched s side t a else a.dialogue

-- every arc of a node with that superior
abbrev pub stepped_arcs : ArcStep → Option Addr → Transaction → List Arc → List Arc
stepped_arcs s up t arcs = with_dialogues arcs (λ a. true) (λ a. stepped s (side_with up a.peer.node) t a)

abbrev pub stepped_tie : ArcStep → Transaction → Tie → Tie
stepped_tie s t x = record x { dialogue = record x.dialogue { dialogue = stepped s x.dialogue.side t (arc_of x) } }

abbrev pub stepped_ties : ArcStep → Transaction → List Tie → List Tie
stepped_ties s t [] = []
stepped_ties s t (x ∷ xs) = stepped_tie s t x ∷ stepped_ties s t xs

abbrev pub stepped_above : ArcStep → Transaction → Option Tie → Option Tie
stepped_above s t None = None
stepped_above s t (Some x) = Some (stepped_tie s t x)

abbrev pub stepped_tree : ArcStep → Transaction → Invocation → Invocation
stepped_tree s t v = record v { above = stepped_above s t v.above; below = stepped_ties s t v.below }
