-- What a keeper of records tells of itself, and what an answer of `force` says.
-- It names no journal and no lock: a journal and a share of a locked log both meet it.
use Rattle.std.specs.Prelude.{ℕ, ◌≡◌, ◌≤◌, ◌<◌, ◌+◌, ◌-◌, ◌⊎◌, Bool, List, [], ◌∷◌, ◌++◌, length, map, Option, Some, None, Result, Ok, Err}
use Rattle.tp_outside.specs.Faults.{HasRisen}
use Rattle.tp_outside.specs.Story.{Story}
use Rattle.tp_outside.specs.FuseDisk.{Fused, OnFuse}
use Rattle.tp_logrec.specs.declared.record.LogRec.{LogRec}
use Rattle.tp_journal.specs.Log.{most_bytes, StandsFor, StandsForEither, forced_bytes}
use Rattle.tp_journal.specs.Records.{text, bodies_of}
use Rattle.tp_journal.specs.Stops.{body_piece, Opens, StopsOpening}
use Rattle.tp_journal.specs.Told.{IsOn, LeavesOnly, LeavesNow}
use Rattle.tp_journal.specs.declared.receipts.Receipt.{Receipt}
use Rattle.tp_journal.specs.declared.faults.ForceFault.{ForceFault}
use Rattle.tp_journal.specs.declared.faults.ForceFault.TheVariants as force

-- What no call of `force` changes, and a generic caller hands back of a keeper that it took.
pub data Lasting : Type 0 where
  -- numbers of the keeper's own
  Numbers : List ℕ → Lasting
  -- Of a keeper that runs ahead of its disk: what this disk has been through, where the disk tells that, and how many of the
  -- keeper's own records are on it.
  Rests : Option Story → ℕ → Lasting

pub record Standing : Type 0 where
  -- what count, rec and place tell
  pub told : List Receipt
  -- the keeper's own records in order: those that it told when it was made, and each that it has forced since
  pub kept : List Receipt
  -- the log's bytes up to its closing gate, that one included, where the keeper tells them
  pub length_told : Option ℕ
  -- the count that every further `force` answers with
  pub shut : Option ℕ
  pub faults : ℕ
  -- what its disk has been through, where the keeper tells that; it tells it only of a log that no other writes to
  pub story : Option Story
  -- the fuse of that disk, where it has one
  pub fuse : Option Fused
  -- is the log of version 2?
  pub wide : Bool
  -- what no call of `force` changes
  pub lasting : Lasting

-- the length after a record: an open gate's place is the closing gate's, then the text after its length, and a gate
abbrev pub longer : ℕ → Bool → LogRec → ℕ
longer n wide rec = n + 3 + length (text wide rec)

abbrev pub longer_told : Option ℕ → Bool → LogRec → Option ℕ
longer_told None wide rec = None
longer_told (Some n) wide rec = Some (longer n wide rec)

-- the record has room, where the length is told
abbrev pub HasRoom : Option ℕ → Bool → LogRec → Type 0
HasRoom None wide rec = Unit {0}
HasRoom (Some n) wide rec = longer n wide rec ≤ most_bytes

-- Full comes exactly where the record has no room, or, of a keeper that tells no length, only with a fault counted
abbrev pub IsFull : Option ℕ → Bool → LogRec → ℕ → ℕ → Type 0
IsFull None wide rec size faults = 0 < faults
IsFull (Some n) wide rec size faults = (size ≡ longer n wide rec) × (most_bytes < size)

-- Shut comes exactly where the keeper was shut with that count, or, of a keeper that tells no length, only with a fault
-- counted
abbrev pub IsShut : Option ℕ → Option ℕ → ℕ → ℕ → Type 0
IsShut None shut n faults = 0 < faults
IsShut (Some length) shut n faults = shut ≡ Some n

-- ---- what a call of `force` leaves on the disk, where the keeper tells its story

-- the bodies of the keeper's own records, and of these and one more
abbrev pub bodies_kept : Standing → List (List ℕ)
bodies_kept s = bodies_of s.wide (map (λ r. r.rec) s.kept)

abbrev pub bodies_with : Standing → LogRec → List (List ℕ)
bodies_with s rec = bodies_of s.wide (map (λ r. r.rec) s.kept ++ rec ∷ [])

-- a crash at any moment of the call leaves the records from before it, with the new one or without
abbrev pub LeavesEither : Standing → LogRec → Standing → Type 0
LeavesEither old rec new = LeavesOnly (StandsForEither (bodies_kept old) (bodies_with old rec)) old.story new.story

-- where the length is told too, the file is to the byte what it was, but that the body is forced
abbrev pub HasForced : Option ℕ → List ℕ → Option Story → Option Story → Type 0
HasForced None body old new = Unit {0}
HasForced (Some n) body old new = (file : List ℕ) → IsOn old file → IsOn new (forced_bytes (n - 1) body file)

-- where its disk has a fuse that has not stopped: the calls of a force pass it, or it stops in one of them
abbrev pub PassesFuse : Option ℕ → List ℕ → Option Fused → Option Fused → Type 0
PassesFuse None body old new = Unit {0}
PassesFuse (Some n) body old new = OnFuse (Opens (n - 1) (body_piece body)) old new

abbrev pub StopsAtFuse : Option ℕ → List ℕ → Option Fused → Option Fused → Type 0
StopsAtFuse None body old new = Unit {0}
StopsAtFuse (Some n) body old new = OnFuse (StopsOpening (n - 1) (body_piece body)) old new

-- a fault of the disk carries the count right after the call that failed, where the keeper tells the length; another
-- keeper counts none of the disk's
abbrev pub CountsAs : Option ℕ → ℕ → ℕ → Type 0
CountsAs None n faults = Unit {0}
CountsAs (Some length) n faults = n ≡ faults

-- ---- what an answer says

-- the record is the keeper's last one, and the receipt tells it
pub record Stored (old : Standing) (rec : LogRec) (r : Receipt) (new : Standing) : Type 0 where
  pub same : r.rec ≡ rec
  pub kept : new.kept ≡ old.kept ++ r ∷ []
  pub told : (new.told ≡ old.told) ⊎ (new.told ≡ new.kept)
  pub length_told : new.length_told ≡ longer_told old.length_told old.wide rec
  pub room : HasRoom old.length_told old.wide rec
  pub open_before : old.shut ≡ None
  pub open_after : new.shut ≡ None
  pub faults : old.faults ≤ new.faults
  pub wide : new.wide ≡ old.wide
  pub lasting : new.lasting ≡ old.lasting
  pub moments : LeavesEither old rec new
  -- a crash now leaves the new record too
  pub last : LeavesNow (λ file. StandsFor file (bodies_with old rec)) new.story
  pub bytes : HasForced old.length_told (text old.wide rec) old.story new.story
  pub fuse : PassesFuse old.length_told (text old.wide rec) old.fuse new.fuse

-- nothing is kept or told that was not before
pub record Refused (old new : Standing) : Type 0 where
  pub kept : new.kept ≡ old.kept
  pub told : new.told ≡ old.told
  pub length_told : new.length_told ≡ old.length_told
  pub faults : old.faults ≤ new.faults
  pub wide : new.wide ≡ old.wide
  pub lasting : new.lasting ≡ old.lasting

-- what an answer says
abbrev pub Forces : Standing → LogRec → Result Receipt ForceFault → Standing → Type 0
Forces old rec (Ok r) new = Stored old rec r new
Forces old rec (Err (force.Full size)) new = Refused old new × IsFull old.length_told old.wide rec size new.faults × (old.shut ≡ None)
    × (new.shut ≡ None) × (new.story ≡ old.story) × (new.fuse ≡ old.fuse)
Forces old rec (Err (force.DiskFault n)) new =
    Refused old new × HasRisen old.faults new.faults × (old.shut ≡ None) × (new.shut ≡ Some n) × CountsAs old.length_told n new.faults
    × LeavesEither old rec new × StopsAtFuse old.length_told (text old.wide rec) old.fuse new.fuse
Forces old rec (Err (force.Shut n)) new = Refused old new × IsShut old.length_told old.shut n new.faults × (new.shut ≡ Some n)
    × (new.story ≡ old.story) × (new.fuse ≡ old.fuse)
Forces old rec (Err force.NoMemory) new = new ≡ old

-- the receipt of a record that was forced, by its place
abbrev pub receipt_of : LogRec → Result ℕ ForceFault → Result Receipt ForceFault
receipt_of rec (Ok place) = Ok (record { place = place; rec = rec })
receipt_of rec (Err fault) = Err fault
