-- A log on which a site has started, when workers begin on it.
use Rattle.std.specs.Prelude.{ℕ, ◌≡◌, Bool, List, [], ◌∷◌, ◌++◌, map}
use Rattle.tp_logrec.specs.declared.record.LogRec.{LogRec}
use Rattle.tp_model.specs.NodeRun.{Opening, boot_of}
use Rattle.tp_journal.specs.declared.receipts.Receipt.{Receipt}
use Rattle.tp_journal.specs.Records.{placed, version_of}

abbrev pub recs : List Receipt → List LogRec
recs rs = map (λ r. r.rec) rs

-- the records that the site started on, and its boot
abbrev pub booted : Opening → List LogRec
booted o = o.records ++ LogRec.Boot (boot_of o) ∷ []

-- these records stand in the log, each with its place, after a site of that name started on it with that boot number
pub record IsBegun (stood : List Receipt) (wide : Bool) (o : Opening) (name : List ℕ) (boot : ℕ) : Type 0 where
  pub site : o.site ≡ name
  pub version : o.version ≡ version_of wide
  pub number : boot_of o ≡ boot
  pub records : stood ≡ placed wide (booted o)
