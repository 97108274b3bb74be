-- What the definitions read of a file, beside what a start finds of it.
use Rattle.std.specs.Prelude.{ℕ, ◌≡◌, ◌<◌, ◌^◌, Bool, List, [], ◌∷◌, length}
use Rattle.tp_names.specs.Places.{AreBytes}
use Rattle.tp_logrec.specs.declared.record.LogRec.{LogRec}
use Rattle.tp_logrec.specs.LogText.{Reads, Placed, read_log}
use Rattle.tp_model.specs.LogCommands.{moved, moved_by, start_leaves}
use Rattle.tp_journal.specs.declared.receipts.Receipt.{Receipt}
use Rattle.tp_journal.specs.Log.{StandsFor}
use Rattle.tp_journal.specs.Records.{bodies_of, version_of, placed}
use Rattle.tp_journal.specs.Start.{started_bytes}

-- what a disk can hold: bytes, and no more of them than a place can tell
pub record IsFile (file : List ℕ) : Type 0 where
  pub small : length file < 2 ^ 64
  pub bytes : AreBytes file

-- records as a journal places them
abbrev pub as_placed : List Receipt → List Placed
as_placed [] = []
as_placed (r ∷ rs) = record { place = r.place; rec = r.rec } ∷ as_placed rs

-- The records of which a file has the bodies are read of it. A start leaves the file as the definitions say, and the records
-- then stand at the places that a journal tells.
pub record IsReadAlike (file : List ℕ) (wide : Bool) (rs : List LogRec) (stands : StandsFor file (bodies_of wide rs)) : Type 0 where
  pub listed : List Placed
  pub gate : ℕ
  pub reads : read_log file ≡ Reads (version_of wide) listed gate
  pub places : moved (moved_by file) listed ≡ as_placed (placed wide rs)
  pub bytes : started_bytes file (bodies_of wide rs) stands ≡ start_leaves file
