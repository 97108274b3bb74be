-- What is noted on a row is noted on its branch.
use Rattle.std.proofs.Common.{◌≡◌, ℕ, List, [], ◌∷◌, arith, refl}
use Rattle.tp_names.specs.declared.outcome.Report.{Report}
use Rattle.tp_model.specs.Transactions.{Row}
use Rattle.tp_model.specs.Node.{branches_of}
use Rattle.tp_commit.specs.declared.row.Note.{Note}
use Rattle.tp_commit.specs.Row.{noted_at}
use Rattle.tp_commit.specs.Waiting.{with_counted, with_ended}

pub counted_at : (rs : List Row) (p : ℕ) → branches_of (noted_at rs p Note.Counted) ≡ with_counted (branches_of rs) p
counted_at [] p = refl
counted_at (r ∷ rs) p = grind (arith, counted_at rs p)

pub ended_at : (rs : List Row) (p : ℕ) (x : Report) → branches_of (noted_at rs p (Note.Ended x)) ≡ with_ended (branches_of rs) p x
ended_at [] p x = refl
ended_at (r ∷ rs) p x = grind (arith, ended_at rs p x)
