-- How often a node takes one record of an association.
use Rattle.std.specs.Prelude.{ℕ, suc, ◌==◌, ◌≤◌, ◌&&◌, Bool, true, false, List, [], ◌∷◌}
use Rattle.tp_names.specs.declared.identifiers.Mark.{Mark}
use Rattle.tp_names.specs.Same.{is_mark}
use Rattle.tp_records.specs.declared.peer.PeerRecord.{PeerRecord}
use Rattle.tp_model.specs.Parts.{Event, Entry}
use Rattle.tp_model.specs.World.{World, Node}
use Rattle.tp_model.specs.Promises.{IsIn}

-- the event takes the record with that number, of the association with that pair of marks, from the node p
abbrev pub takes : ℕ → Mark → Mark → ℕ → Event → Bool
takes p x y q (Event.Arrive a (PeerRecord.OnAssoc z w s r)) = (a.node == p) && is_mark x z && is_mark y w && (s == q)
takes p x y q _ = false

abbrev pub times_taken : ℕ → Mark → Mark → ℕ → List Entry → ℕ
times_taken p x y q [] = 0
times_taken p x y q (e ∷ h) = elim (takes p x y q e.event) [ true ↦ suc (times_taken p x y q h) | false ↦ times_taken p x y q h ]

-- however often a frame is delivered
abbrev pub TakenOnce : World → Type 0
TakenOnce w = (n : Node) (p : ℕ) (x y : Mark) (q : ℕ) → IsIn w n → times_taken p x y q n.history ≤ 1
