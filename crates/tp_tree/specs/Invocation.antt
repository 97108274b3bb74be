-- The arcs of a node as the code keeps them, and the arcs of the definitions that they are: the superior's
-- first, then the subordinates' in the order in which they were added. Which arcs there are, and what is
-- said on them, the definitions of the service say.
use Rattle.std.specs.Prelude.{ℕ, ◌≡◌, ◌≤◌, Bool, true, false, nat_lt, if◌then◌else◌, Option, Some, None, List, [], ◌∷◌, ◌++◌, length, map, take, drop, slice_set, vec_capacity}
use Rattle.tp_names.specs.declared.identifiers.Addr.{Addr}
use Rattle.tp_model.specs.declared.arc.Side.{Side}
use Rattle.tp_model.specs.Parts.{Link, Dialogue, Arc}
use Rattle.tp_model.specs.Arcs.{with_dialogue, with_link}
use Rattle.tp_tree.specs.declared.tie.Tie.{Tie}
use Rattle.tp_tree.specs.declared.invocation.Invocation.TheInside.{Inside}
use Rattle.tp_tree.specs.Tie.{arc_of, is_with, unless_with, find_tie, place_of, without_ties}

pub record Invocation : Type 0 where
  pub node : ℕ
  pub superior : Option Addr
  -- how many subordinates there can be
  pub room : ℕ
  -- the memory for all of them is taken
  pub reserved : Bool
  -- the arc to the superior
  pub above : Option Tie
  pub below : List Tie

abbrev pub value_of : Inside → Invocation
value_of v = record { node = v.node; superior = v.superior; room = v.room; reserved = v.reserved; above = v.above; below = v.below.items }

abbrev pub IsReserved : Inside → Type 0
IsReserved v = v.reserved ≡ true → v.room ≤ vec_capacity v.below

abbrev pub ties_of : Invocation → List Tie
ties_of v = elim v.above [ None ↦ v.below | Some t ↦ t ∷ v.below ]

-- the part of a node's digest that it is
abbrev pub arcs_of : Invocation → List Arc
arcs_of v = map arc_of (ties_of v)

-- ---- one arc more

abbrev pub has_room : Side → Invocation → Bool
has_room Side.Superior v = nat_lt (length v.below) v.room
has_room Side.Subordinate v = elim v.above [ None ↦ true | Some t ↦ false ]

-- the side is that of the node: where it is the superior the peer is a subordinate
abbrev pub with_added : Side → Tie → Invocation → Invocation
with_added Side.Superior t v = record v { below = v.below ++ t ∷ [] }
with_added Side.Subordinate t v = record v { above = Some t }

abbrev pub with_arc : Side → Arc → List Arc → List Arc
with_arc Side.Superior a arcs = arcs ++ a ∷ []
with_arc Side.Subordinate a arcs = a ∷ arcs

-- ---- one arc changed

-- the tie stands in the place of the first one with the peer
abbrev pub with_tie : Invocation → ℕ → Tie → Invocation
with_tie v p t =
    if is_with v.above p then record v { above = Some t }
    else record v { below = slice_set v.below (place_of v.below p) t }

-- the ties are written over those to subordinates; there are as many as before
abbrev pub with_below : Invocation → List Tie → Invocation
with_below v ts = record v { below = take (length v.below) (ts ++ drop (length ts) v.below) }

-- what changes the dialogue alone, or the link alone, of the tie with the peer is a change of that
-- dialogue, or of that link, among the arcs
abbrev pub WritesDialogue : Invocation → ℕ → Type 0
WritesDialogue v p =
    (t u : Tie) (f : Dialogue → Dialogue)
    → find_tie (ties_of v) p ≡ Some t
    → arc_of u ≡ record (arc_of t) { dialogue = f (arc_of t).dialogue }
    → arcs_of (with_tie v p u) ≡ with_dialogue (arcs_of v) p f

abbrev pub WritesLink : Invocation → ℕ → Type 0
WritesLink v p =
    (t u : Tie) (f : Link → Link)
    → find_tie (ties_of v) p ≡ Some t
    → arc_of u ≡ record (arc_of t) { link = f (arc_of t).link }
    → arcs_of (with_tie v p u) ≡ with_link (arcs_of v) p f

-- ---- one arc less

abbrev pub without_tie : Invocation → ℕ → Invocation
without_tie v p = record v { above = unless_with v.above p; below = without_ties v.below p }
