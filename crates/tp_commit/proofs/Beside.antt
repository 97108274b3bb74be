-- A branch that is waited for beside another, wherever it stands.
use Rattle.std.proofs.Common.{◌≡◌, ℕ, zero, suc, Bool, true, Some, List, [], ◌∷◌, slice_get, arith}
use Rattle.tp_model.specs.Parts.{Branch}
use Rattle.tp_model.specs.Transactions.{Row}
use Rattle.tp_model.specs.Node.{branches_of}
use Rattle.tp_commit.specs.Waiting.{is_beside, some_beside}

pub beside_at : (f : Branch → Bool) (rs : List Row) (i p : ℕ) (r : Row) → slice_get rs i ≡ Some r → is_beside f p r.branch ≡ true → some_beside f (branches_of rs) p ≡ true
beside_at f [] i p r at is = absurd (cc (at))
beside_at f (x ∷ rs) zero p r at is = grind (arith, at, is)
beside_at f (x ∷ rs) (suc i) p r at is = grind (arith, beside_at f rs i p r at is)
