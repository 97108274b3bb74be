-- Which keys of a list are in doubt.
use Rattle.std.specs.Prelude.{Bool, true, false, Some, None, List, [], ◌∷◌}
use Rattle.std.specs.List.{list_any}
use Rattle.tp_logrec.specs.declared.record.LogRec.{LogRec}
use Rattle.tp_logrec.specs.declared.owner.Owner.{Owner}
use Rattle.tp_logrec.specs.Order.{owner_of, is_owner, is_ready}

abbrev pub is_in : List Owner → Owner → Bool
is_in os o = list_any (is_owner o) os

-- the last record of the key is a Ready
abbrev pub doubted_by : Owner → Bool → LogRec → Bool
doubted_by o before r = elim (owner_of r) [ None ↦ before | Some p ↦ elim (is_owner p o) [ true ↦ is_ready r | false ↦ before ] ]

abbrev pub doubted_from : Owner → Bool → List LogRec → Bool
doubted_from o before [] = before
doubted_from o before (r ∷ rs) = doubted_from o (doubted_by o before r) rs
