-- Which trees a node knows, and that it enters each once.
use Rattle.std.specs.Prelude.{ℕ, ◌≤◌, ◌==◌, ◌≡◌, ◌&&◌, ◌||◌, Bool, true, false, Some, List, [], ◌∷◌}
use Rattle.tp_names.specs.declared.identifiers.Aaid.{Aaid}
use Rattle.tp_names.specs.Same.{is_aaid}
use Rattle.tp_records.specs.declared.dialogue.DialogueRecord.{DialogueRecord}
use Rattle.tp_records.specs.declared.peer.PeerRecord.{PeerRecord}
use Rattle.tp_model.specs.Parts.{Who, Origin, Event, Entry}
use Rattle.tp_model.specs.History.{digest}
use Rattle.tp_model.specs.World.{Node, find_node}
use Rattle.tp_steps.specs.Traces.{is_old}
use Rattle.tp_histories.specs.Worlds.{place}

-- the event takes a Begin of the tree
abbrev pub is_begun_by : Aaid → Event → Bool
is_begun_by t (Event.Arrive from (PeerRecord.OnAssoc x y q (DialogueRecord.Begin u b h))) = is_aaid t u
is_begun_by t _ = false

abbrev pub has_taken_begin : Aaid → List Entry → Bool
has_taken_begin t [] = false
has_taken_begin t (e ∷ h) = is_begun_by t e.event || has_taken_begin t h

-- the tree's mark is the node's
abbrev pub is_own : Who → Aaid → Bool
is_own who t = t.mark.node == who.node

-- its mark was drawn by the node, or its Begin was taken
abbrev pub is_known : Origin → Aaid → List Entry → Bool
is_known o t h = (is_own o.who t && is_old o.who (digest o h) t.mark) || has_taken_begin t h

-- no Begin of a tree is taken twice, and none of the node's own trees
abbrev pub IsOnce : Origin → List Entry → Type 0
IsOnce o [] = Unit {0}
IsOnce o (e ∷ h) = ((t : Aaid) → is_begun_by t e.event ≡ true → (is_own o.who t ≡ false) × (has_taken_begin t h ≡ false)) × IsOnce o h

-- who drew the tree's mark: it draws it no more, and it stands not after the node
pub record Drawer (ns : List Node) (t : Aaid) (n : ℕ) : Type 0 where
  pub node : Node
  pub found : find_node ns t.mark.node ≡ Some node
  pub old : is_old node.origin.who (digest node.origin node.history) t.mark ≡ true
  pub before : place ns t.mark.node ≤ place ns n

pub record IsUnique (ns : List Node) : Type 0 where
  pub once : (n : ℕ) (x : Node) → find_node ns n ≡ Some x → IsOnce x.origin x.history
  pub drawn : (n : ℕ) (x : Node) (t : Aaid) → find_node ns n ≡ Some x → is_known x.origin t x.history ≡ true → Drawer ns t n
