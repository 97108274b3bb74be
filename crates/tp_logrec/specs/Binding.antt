-- Whether a node is free, found by going over the list itself: each record that binds a key of the node, and whether the key comes again.
use Rattle.std.specs.Prelude.{ℕ, ◌==◌, ◌&&◌, ◌||◌, not, Bool, true, false, Some, None, List, [], ◌∷◌}
use Rattle.tp_logrec.specs.declared.record.LogRec.{LogRec}
use Rattle.tp_logrec.specs.Order.{Owner, owner_of, is_of, is_bound}

abbrev pub binds : LogRec → ℕ → Bool
binds r n = elim (owner_of r) [ None ↦ false | Some o ↦ (o.node == n) && is_bound r ]

abbrev pub some_of : Owner → List LogRec → Bool
some_of o [] = false
some_of o (r ∷ rs) = is_of o r || some_of o rs

abbrev pub comes_again : LogRec → List LogRec → Bool
comes_again r rs = elim (owner_of r) [ None ↦ false | Some o ↦ some_of o rs ]

abbrev pub none_binds : ℕ → List LogRec → Bool
none_binds n [] = true
none_binds n (r ∷ rs) = not (binds r n && not (comes_again r rs)) && none_binds n rs
