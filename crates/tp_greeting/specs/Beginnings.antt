-- What is said of the records of a log.
use Rattle.std.specs.Prelude.{◌≡◌, false, List, length}
use Rattle.tp_logrec.specs.declared.record.LogRec.{LogRec}
use Rattle.tp_logrec.specs.declared.owner.Owner.{Owner}
use Rattle.tp_logrec.specs.Order.{last_boot_from}
use Rattle.tp_greeting.specs.declared.beginning.Beginning.{Beginning}
use Rattle.tp_greeting.specs.Doubts.{is_in, doubted_from}

-- the number of the last Boot, the number of records, and the keys whose last record is a Ready
pub record IsOf (rs : List LogRec) (b : Beginning) : Type 0 where
  pub last : b.last ≡ last_boot_from 0 rs
  pub records : b.records ≡ length rs
  pub doubts : (o : Owner) → is_in b.doubts o ≡ doubted_from o false rs
