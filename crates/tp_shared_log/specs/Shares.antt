-- What contracts see of a share of a log under its lock, and the share as a keeper.
use Rattle.std.specs.Prelude.{ℕ, Bool, List, [], ◌∷◌, ◌++◌, Option, Some, None}
use Rattle.tp_journal.specs.declared.receipts.Receipt.{Receipt}
use Rattle.tp_journal.specs.Keeping.{Standing, Numbers}
use Rattle.tp_turns.specs.declared.knows.Claim.{Claim}
use Rattle.atomic_table.specs.Seated.{TableId}
use Rattle.tp_shared_log.specs.declared.spent.Spent.{Spent}

pub record Shared : Type 0 where
  -- its receipts, in the order in which it got them
  pub receipts : List Receipt
  -- why its stake is spent
  pub spent : Option Spent
  -- how many parts it has of the ledger of records, and of that of stakes
  pub parts : ℕ
  pub stake_parts : ℕ
  -- which log it is a share of
  pub of : TableId

-- What a share hands out when it is closed: which log it was a share of, and its receipts.
pub record Noted : Type 0 where
  pub of : TableId
  pub receipts : List Receipt

abbrev pub first_list : List (Claim Receipt) → List Receipt
first_list [] = []
first_list (c ∷ cs) = c.list

-- the amount of its stake
abbrev pub stake_of : Option Spent → ℕ
stake_of None = 1
stake_of (Some _) = 0

-- its count of faults
abbrev pub faults_of : Option Spent → ℕ
faults_of None = 0
faults_of (Some _) = 1

-- the count that it answers with, where it knows the log to be shut
abbrev pub shut_of : Option Spent → Option ℕ
shut_of None = None
shut_of (Some (Spent.Full size)) = None
shut_of (Some (Spent.Shut n)) = Some n

-- It tells the records that stood when the log was put under its lock. Its own are these and its receipts. It tells no
-- length and no story, since others force records beside it. No call changes how many parts it has, and of
-- which log it is.
abbrev pub share_standing : List Receipt → Bool → Shared → Standing
share_standing stood wide s = record {
  told = stood;
  kept = stood ++ s.receipts;
  length_told = None;
  shut = shut_of s.spent;
  faults = faults_of s.spent;
  story = None;
  fuse = None;
  wide = wide;
  lasting = Numbers (s.parts ∷ s.stake_parts ∷ s.of.words ∷ s.of.slots ∷ s.of.views_name ∷ s.of.atom ∷ s.of.block ∷ s.of.offset ∷ s.of.slot_names);
}
