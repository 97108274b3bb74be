-- The findings of a log by their indices.
use Rattle.std.specs.Prelude.{ℕ, zero, suc, ◌+◌, ◌||◌, ◌&&◌, not, Bool, true, false, Some, None, List, [], ◌∷◌, ◌++◌}
use Rattle.tp_logrec.specs.declared.record.LogRec.{LogRec}
use Rattle.tp_logrec.specs.LogText.{Placed}
use Rattle.tp_logrec.specs.declared.owner.Owner.{Owner}
use Rattle.tp_logrec.specs.Order.{owner_of, is_of, is_damage}

-- one of the records speaks of the key
abbrev pub has_any : Owner → List LogRec → Bool
has_any o [] = false
has_any o (r ∷ rs) = is_of o r || has_any o rs

-- a damage, and none of those after it speaks of its key
abbrev pub is_found : LogRec → List LogRec → Bool
is_found r rs = is_damage r && elim (owner_of r) [ None ↦ false | Some o ↦ not (has_any o rs) ]

-- the indices of those that are found, the first record having this one
abbrev pub found_from : ℕ → List LogRec → List ℕ
found_from i [] = []
found_from i (r ∷ rs) = elim (is_found r rs) [ true ↦ i ∷ found_from (i + 1) rs | false ↦ found_from (i + 1) rs ]

abbrev pub at_index : List Placed → ℕ → List Placed
at_index [] i = []
at_index (p ∷ ps) zero = p ∷ []
at_index (p ∷ ps) (suc i) = at_index ps i

-- those at these indices
abbrev pub picked : List Placed → List ℕ → List Placed
picked ps [] = []
picked ps (i ∷ is) = at_index ps i ++ picked ps is
