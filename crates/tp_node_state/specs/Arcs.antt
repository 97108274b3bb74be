-- The arcs of a node as the site keeps them: those of the definitions. The node's side on an arc follows
-- from the peer's number, and each arc is kept with that side.
use Rattle.std.specs.Prelude.{ℕ, suc, ◌≡◌, ◌==◌, ◌&&◌, Bool, true, false, nat_le, nat_lt, if◌then◌else◌, Option, Some, None, List, [], ◌∷◌}
use Rattle.tp_names.specs.declared.identifiers.Addr.{Addr}
use Rattle.tp_names.specs.declared.identifiers.Mark.{Mark}
use Rattle.tp_records.specs.declared.dialogue.DialogueRecord.{DialogueRecord}
use Rattle.tp_records.specs.declared.peer.PeerRecord.{PeerRecord}
use Rattle.tp_model.specs.Links.{greatest}
use Rattle.tp_model.specs.declared.arc.Side.{Side}
use Rattle.tp_model.specs.Dialogues.{is_superior_side, fresh_dialogue}
use Rattle.tp_model.specs.Parts.{Link, Idle, Opening, Offered, Live, Arc, Out, Send}
use Rattle.tp_tree.specs.declared.tie.Tie.{Tie}
use Rattle.tp_tree.specs.Invocation.{Invocation, arcs_of}
use Rattle.tp_node_state.specs.declared.arcs.Arcs.TheInside.{Inside}

pub record Arcs : Type 0 where
  pub superior : Option Addr
  -- how many subordinates there can be
  pub room : ℕ
  pub arcs : List Arc

abbrev pub value_of : Inside → Arcs
value_of v = record { superior = v.tree.superior; room = v.tree.room; arcs = arcs_of v.tree }

-- ---- the node's side on an arc

abbrev pub is_superior_at : Option Addr → ℕ → Bool
is_superior_at s p = elim s [ None ↦ false | Some a ↦ a.node == p ]

abbrev pub side_with : Option Addr → ℕ → Side
side_with s p = if is_superior_at s p then Side.Subordinate else Side.Superior

abbrev pub is_same_side : Side → Side → Bool
is_same_side Side.Superior s = is_superior_side s
is_same_side Side.Subordinate Side.Superior = false
is_same_side Side.Subordinate Side.Subordinate = true

-- the arc is kept with that side, and with no other
abbrev pub is_on : Side → Option Addr → Tie → Bool
is_on side s t = is_same_side t.dialogue.side side && is_same_side (side_with s t.addr.node) side

abbrev pub all_on : Side → Option Addr → List Tie → Bool
all_on side s [] = true
all_on side s (t ∷ ts) = is_on side s t && all_on side s ts

abbrev pub is_on_option : Side → Option Addr → Option Tie → Bool
is_on_option side s None = true
is_on_option side s (Some t) = is_on side s t

-- no arc with that peer is there
abbrev pub is_absent : List Tie → ℕ → Bool
is_absent [] p = true
is_absent (t ∷ ts) p = if t.addr.node == p then false else is_absent ts p

-- each is with a peer of its own
abbrev pub is_apart : List Tie → Bool
is_apart [] = true
is_apart (t ∷ ts) = is_absent ts t.addr.node && is_apart ts

abbrev pub is_sided : Invocation → Bool
is_sided v = is_on_option Side.Subordinate v.superior v.above && (all_on Side.Superior v.superior v.below && is_apart v.below)

-- an end calls its subordinates, and answers its superior; no arc is kept whose association is over
abbrev pub fits_link : Side → Link → Bool
fits_link Side.Superior Idle = false
fits_link Side.Superior (Opening x) = true
fits_link Side.Superior (Offered x) = false
fits_link Side.Superior (Live x y sent taken) = true
fits_link Side.Subordinate Idle = false
fits_link Side.Subordinate (Opening x) = false
fits_link Side.Subordinate (Offered x) = true
fits_link Side.Subordinate (Live x y sent taken) = true

abbrev pub all_fit : Side → List Tie → Bool
all_fit side [] = true
all_fit side (t ∷ ts) = fits_link side t.link && all_fit side ts

abbrev pub is_linked : Invocation → Bool
is_linked v = elim v.above [ None ↦ true | Some t ↦ fits_link Side.Subordinate t.link ] && all_fit Side.Superior v.below

abbrev pub IsKept : Inside → Type 0
IsKept v = (is_sided v.tree ≡ true) × (is_linked v.tree ≡ true)

abbrev pub count_subordinates_in : Option Addr → List Arc → ℕ
count_subordinates_in s [] = 0
count_subordinates_in s (a ∷ arcs) = if is_superior_at s a.peer.node then count_subordinates_in s arcs else suc (count_subordinates_in s arcs)

-- ---- what goes out

-- the pair and the number of the next record on a live link
abbrev pub next_on : Link → Option (Mark × Mark × ℕ)
next_on Idle = None
next_on (Opening x) = None
next_on (Offered x) = None
next_on (Live x y sent taken) = Some (x, y, sent)

-- it has no number left
abbrev pub is_spent : Link → Bool
is_spent Idle = false
is_spent (Opening x) = false
is_spent (Offered x) = false
is_spent (Live x y sent taken) = nat_le greatest sent

abbrev pub outs_next : Addr → DialogueRecord → Option (Mark × Mark × ℕ) → List Out
outs_next to r None = []
outs_next to r (Some n) = Send to (PeerRecord.OnAssoc n.0 n.1 n.2 r) ∷ []

-- ---- one arc more

-- there is a place for it: another subordinate's, or the superior's
abbrev pub has_place : Side → Arcs → Bool
has_place Side.Superior v = nat_lt (count_subordinates_in v.superior v.arcs) v.room
has_place Side.Subordinate v = true

-- a new dialogue, on an association of that state
abbrev pub new_arc : Addr → ℕ → Side → Link → Arc
new_arc a units side l = record { peer = a; link = l; dialogue = fresh_dialogue units side }
