-- The arcs of a node that copies of it share, and the one of them that has changed and stands aside.
use Rattle.std.specs.Prelude.{ℕ, ◌≡◌, ◌==◌, ◌≤◌, Bool, true, false, not, if◌then◌else◌, Option, Some, None, List, [], ◌∷◌, vec_capacity}
use Rattle.std.specs.Option.{option_map}
use Rattle.std.specs.Arc.{arc_value}
use Rattle.tp_model.specs.Parts.{Dialogue, Arc}
use Rattle.tp_model.specs.Dialogues.{woken, is_chained, is_grant_deferred}
use Rattle.tp_model.specs.Links.{with_one_taken}
use Rattle.tp_model.specs.Arcs.{find_arc, put_arc, with_dialogue, with_link}
use Rattle.tp_tree.specs.declared.tie.Tie.{Tie}
use Rattle.tp_tree.specs.Tie.{arc_of}
use Rattle.tp_node_state.specs.Arcs.{Arcs, side_with, fits_link, count_subordinates_in}
use Rattle.tp_node_state.specs.declared.shared_arcs.SharedArcs.TheInside.{Inside}

-- the arcs with the changed one in its place
abbrev pub changed : Arcs → Option Tie → Arcs
changed v None = v
changed v (Some t) = record v { arcs = put_arc v.arcs (arc_of t) }

abbrev pub value_of : Inside → Arcs
value_of v = elim v.shared [ None ↦ v.own | Some s ↦ changed (arc_value s) v.change ]

-- among the arcs is one with that address, and the arc fits into its place
pub record Stands (v : Arcs) (t : Tie) : Type 0 where
  pub there : option_map (λ (a : Arc). a.peer) (find_arc v.arcs t.addr.node) ≡ Some t.addr
  pub side : t.dialogue.side ≡ side_with v.superior t.addr.node
  pub link : fits_link (side_with v.superior t.addr.node) t.link ≡ true

abbrev pub StandsIn : Arcs → Option Tie → Type 0
StandsIn v None = Unit {0}
StandsIn v (Some t) = Stands v t

-- what stands aside has its place among those that are shared, and there is memory for a copy of them
abbrev pub IsShared : Inside → Type 0
IsShared v = elim v.shared [
  | None ↦ Unit {0}
  | Some s ↦ StandsIn (arc_value s) v.change × (count_subordinates_in (arc_value s).superior (arc_value s).arcs ≤ vec_capacity v.spare)
]

-- what stands aside, where it is with that peer
abbrev pub aside_at : Option Tie → ℕ → Option Tie
aside_at None p = None
aside_at (Some t) p = if t.addr.node == p then Some t else None

-- one with another peer stands aside
abbrev pub is_other : Option Tie → ℕ → Bool
is_other None p = false
is_other (Some t) p = not (t.addr.node == p)

-- ---- a record is taken

-- the dialogue, where the record wakes it and where it does not
abbrev pub woken_if : Bool → Dialogue → Dialogue
woken_if true d = woken d
woken_if false d = d

-- it is counted on the arc with that peer, and ends its rest where it wakes it
abbrev pub taken_in : Bool → ℕ → List Arc → List Arc
taken_in true p arcs = with_dialogue (with_link arcs p with_one_taken) p woken
taken_in false p arcs = with_link arcs p with_one_taken

-- ---- chained dialogues

-- there is none
abbrev pub has_none_chained : List Arc → Bool
has_none_chained [] = true
has_none_chained (a ∷ arcs) = if is_chained a.dialogue then false else has_none_chained arcs

-- ---- deferred grants

-- there is none
abbrev pub has_no_grant : List Arc → Bool
has_no_grant [] = true
has_no_grant (a ∷ arcs) = if is_grant_deferred a.dialogue.deferral then false else has_no_grant arcs
