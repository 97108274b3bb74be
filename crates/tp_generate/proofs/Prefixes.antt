-- Where nothing was written.
use Rattle.std.proofs.Common.{◌≡◌, ◌∙◌, ℕ, Option, Some, List, [], refl, ap, sym, append-nil}
use Rattle.tp_streams.specs.Written.{WritesPrefix}

pub none_written : (before all : List ℕ) (now : Option (List ℕ)) → now ≡ Some before → WritesPrefix before all now
none_written before all now is = ([], (all, refl), is ∙ ap Some (sym (append-nil before)))
