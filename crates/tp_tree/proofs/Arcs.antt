-- The calls of an invocation, as the rules of the definitions.
use Rattle.std.proofs.Common.{◌≡◌, ℕ, Option, arith}
use Rattle.std.specs.Option.{option_map}
use Rattle.std.proofs.lemmas.Grind.{common_steps}
use Rattle.tp_model.specs.Arcs.{find_arc, put_arc, without_arc}
use Rattle.tp_tree.specs.declared.tie.Tie.{Tie}
use Rattle.tp_tree.specs.Tie.{arc_of, unless_with, find_tie, without_ties}
use Rattle.tp_tree.specs.Invocation.{Invocation, ties_of, arcs_of, with_tie, WritesDialogue, WritesLink}
use Rattle.tp_tree.proofs.Ties.{find_arc_map, without_arc_map, put_arc_map, with_dialogue_map, with_link_map}

pub arc_found : (v : Invocation) (p : ℕ) (o : Option Tie) → o ≡ find_tie (ties_of v) p → option_map arc_of o ≡ find_arc (arcs_of v) p
arc_found v p o is = grind (arith, find_arc_map (ties_of v) p)

pub arcs_without : (v w : Invocation) (p : ℕ) → w.above ≡ unless_with v.above p → w.below ≡ without_ties v.below p → arcs_of w ≡ without_arc (arcs_of v) p
arcs_without v w p above below = grind (arith, common_steps, without_arc_map v.below p)

pub arcs_put : (v : Invocation) (p : ℕ) (t : Tie) → (arc_of t).peer.node ≡ p → arcs_of (with_tie v p t) ≡ put_arc (arcs_of v) (arc_of t)
arcs_put v p t same = grind (arith, common_steps, put_arc_map v.below p t)

pub writes_dialogue : (v : Invocation) (p : ℕ) → WritesDialogue v p
writes_dialogue v p t u f found is = grind (arith, common_steps, with_dialogue_map v.below p t u f)

pub writes_link : (v : Invocation) (p : ℕ) → WritesLink v p
writes_link v p t u f found is = grind (arith, common_steps, with_link_map v.below p t u f)
