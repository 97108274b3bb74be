-- How the members of the code stand for those of a world of the definitions.
use Rattle.std.specs.Prelude.{ℕ, ◌≡◌, ◌==◌, ◌&&◌, not, Bool, true, Option, List, [], ◌∷◌, length}
use Rattle.tp_model.specs.World.{World, Drive, driver_of}
use Rattle.tp_model.specs.Lines.{is_member_there}
use Rattle.tp_world_members.specs.Members.{is_there, slot_at, driver_in}

-- no two of these drive one node
abbrev pub is_undriven : List Drive → ℕ → Bool
is_undriven [] n = true
is_undriven (d ∷ ds) n = not (d.node == n) && is_undriven ds n

abbrev pub are_alone : List Drive → Bool
are_alone [] = true
are_alone (d ∷ ds) = is_undriven ds d.node && are_alone ds

-- those are there that were handed in and not dropped, and they drive the nodes that they drive
pub record MembersStand {M : Type 0} (w : World) (xs : List (Option M)) (es : List (ℕ × ℕ)) : Type 0 where
  pub there : (k : ℕ) → is_there (slot_at xs k) ≡ is_member_there (length xs) w k
  pub drivers : (n : ℕ) → driver_of w.drives n ≡ driver_in xs es n
  pub alone : are_alone w.drives ≡ true
