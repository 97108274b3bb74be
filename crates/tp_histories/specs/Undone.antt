-- What an event leaves undone: nothing. Where a transaction may vote, order commitment or be complete, the event that made it
-- so has done it.
use Rattle.std.specs.Prelude.{◌&&◌, ◌||◌, not, Bool, true, List, [], ◌∷◌}
use Rattle.tp_model.specs.Parts.{Branch, Current}
use Rattle.tp_model.specs.Dialogues.{is_active, is_committing}

-- ---- what is current at a node

abbrev pub are_settled : List Branch → Bool
are_settled [] = true
are_settled (b ∷ bs) = (b.counted || b.left) && are_settled bs

abbrev pub are_done : List Branch → Bool
are_done [] = true
are_done (b ∷ bs) = (b.ended || b.left || b.given_up) && are_done bs

-- it may vote or order; its commitment may be complete
abbrev pub is_left_unsettled : Current → Bool
is_left_unsettled c = is_active c.phase && c.asked && are_settled c.branches

abbrev pub is_left_incomplete : Current → Bool
is_left_incomplete c = is_committing c.phase && not c.owes && are_done c.branches

abbrev pub is_left_undone : Current → Bool
is_left_undone c = is_left_unsettled c || is_left_incomplete c
