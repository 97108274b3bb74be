-- What is read off the lanes when they are taken apart.
use Rattle.std.specs.Prelude.{ℕ, Bool, ◌≡◌, ◌<◌, List, length, slice_index_or, Option}
use Rattle.tp_records.specs.declared.body.Output.{Output}
use Rattle.tp_model.specs.NodeRun.{Opening}
use Rattle.tp_journal.specs.declared.receipts.Receipt.{Receipt}
use Rattle.atomic_table.specs.Seated.{TableId}
use Rattle.tp_shared_log.specs.Shares.{Noted, stake_of}
use Rattle.tp_drive.specs.declared.stop.Stop.{Stop}
use Rattle.tp_drive.specs.Works.{Working, IsFresh}

abbrev pub outs_of : Working → List (List Output)
outs_of w = w.outs

abbrev pub receipts_of : Working → List Receipt
receipts_of w = w.site.keeper.receipts

-- what its share shows the log
abbrev pub slip_of : Working → Noted
slip_of w = record { of = w.site.keeper.of; receipts = w.site.keeper.receipts }

-- its share is one of this log
abbrev pub IsOf : TableId → Working → Type 0
IsOf log w = w.site.keeper.of ≡ log

abbrev pub stop_of : Working → Option Stop
stop_of w = w.stop

abbrev pub forced_by : Working → ℕ
forced_by w = length w.site.keeper.receipts

abbrev pub stake_left : Working → ℕ
stake_left w = stake_of w.site.keeper.spent

-- each of these lanes, of so many, has done nothing yet
abbrev pub AreFresh : List Receipt → Bool → Opening → ℕ → List Working → Type 0
AreFresh stood wide o lanes ws = (i : ℕ) (d : Working) → i < length ws → IsFresh stood wide o lanes i (slice_index_or ws i d)
