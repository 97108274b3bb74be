-- Where a list of records is out of order. Which record may follow which is said below this crate.
use Rattle.std.specs.Prelude.{ℕ, ◌≡◌, ◌<◌, true, false, Option, Some, None, List, length, take, slice_index_or}
use Rattle.tp_logrec.specs.declared.record.LogRec.{LogRec}
use Rattle.tp_logrec.specs.Order.{follows, all_follow}

-- the first record that may not follow those before it: none exactly where the list is in order
abbrev pub IsFirstOutOfOrder : List LogRec → Option ℕ → Type 0
IsFirstOutOfOrder rs None = all_follow rs ≡ true
IsFirstOutOfOrder rs (Some i) = (all_follow rs ≡ false) × (i < length rs) × (all_follow (take i rs) ≡ true)
    × ((d : LogRec) → follows (take i rs) (slice_index_or rs i d) ≡ false)
