-- What tells the associations of a node apart: its arcs lead to different nodes, and a mark that it drew for one stands on
-- no other.
use Rattle.std.specs.Prelude.{ℕ, ◌==◌, ◌&&◌, ◌||◌, not, Bool, true, false, List, [], ◌∷◌}
use Rattle.tp_model.specs.Parts.{Arc}
use Rattle.tp_model.specs.Links.{is_idle}

-- an arc leads to the number
abbrev pub is_there : ℕ → List Arc → Bool
is_there p [] = false
is_there p (a ∷ arcs) = (a.peer.node == p) || is_there p arcs

-- no two lead to one number, and none is idle
abbrev pub are_separate : List Arc → Bool
are_separate [] = true
are_separate (a ∷ arcs) = not (is_idle a.link) && not (is_there a.peer.node arcs) && are_separate arcs
