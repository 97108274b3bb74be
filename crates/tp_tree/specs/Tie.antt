-- One arc of a node as the code keeps it: the arc of the definitions, and with its dialogue the side that
-- the node is on it. Arcs are found by the number of their peer.
use Rattle.std.specs.Prelude.{ℕ, suc, ◌==◌, Bool, false, if◌then◌else◌, slice_get, Option, Some, None, List, [], ◌∷◌}
use Rattle.std.specs.Option.{option_map}
use Rattle.tp_names.specs.declared.identifiers.Addr.{Addr}
use Rattle.tp_model.specs.declared.arc.Side.{Side}
use Rattle.tp_model.specs.Parts.{Idle, Dialogue, Arc}
use Rattle.tp_model.specs.Arcs.{find_arc}
use Rattle.tp_model.specs.Dialogues.{fresh_dialogue}
use Rattle.tp_dialogue.specs.Dialogue.{End}
use Rattle.tp_tree.specs.declared.tie.Tie.{Tie}

abbrev pub arc_of : Tie → Arc
arc_of t = record { peer = t.addr; link = t.link; dialogue = t.dialogue.dialogue }

-- the dialogue with its side
abbrev pub dialogue_of : Tie → End
dialogue_of t = t.dialogue

-- what the definitions see of it
abbrev pub said_on : End → Dialogue
said_on e = e.dialogue

-- the dialogue with the peer
abbrev pub dialogue_with : List Arc → ℕ → Option Dialogue
dialogue_with arcs p = option_map (λ (a : Arc). a.dialogue) (find_arc arcs p)

-- nothing was said on it, and it has no association
abbrev pub fresh_tie : Addr → ℕ → Side → Tie
fresh_tie a units side = record { addr = a; dialogue = record { side = side; dialogue = fresh_dialogue units side }; link = Idle }

abbrev pub fresh_arc : Addr → ℕ → Side → Arc
fresh_arc a units side = record { peer = a; link = Idle; dialogue = fresh_dialogue units side }

abbrev pub is_with : Option Tie → ℕ → Bool
is_with None p = false
is_with (Some t) p = t.addr.node == p

abbrev pub unless_with : Option Tie → ℕ → Option Tie
unless_with o p = if is_with o p then None else o

-- the first arc with the peer
abbrev pub find_tie : List Tie → ℕ → Option Tie
find_tie [] p = None
find_tie (t ∷ ts) p = if t.addr.node == p then Some t else find_tie ts p

-- where it stands, which is after the others where there is none
abbrev pub place_of : List Tie → ℕ → ℕ
place_of [] p = 0
place_of (t ∷ ts) p = if t.addr.node == p then 0 else suc (place_of ts p)

-- the one at that place is with the peer
abbrev pub is_at : List Tie → ℕ → ℕ → Bool
is_at ts i p = elim (slice_get ts i) [ None ↦ false | Some t ↦ t.addr.node == p ]

-- no arc with the peer is left
abbrev pub without_ties : List Tie → ℕ → List Tie
without_ties [] p = []
without_ties (t ∷ ts) p = if t.addr.node == p then without_ties ts p else t ∷ without_ties ts p
