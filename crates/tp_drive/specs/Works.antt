-- What a worker has done of its lane.
use Rattle.std.specs.Prelude.{ℕ, suc, ◌≡◌, ◌≤◌, Bool, true, List, [], take, length, Option, Some, None, is_some}
use Rattle.tp_records.specs.declared.body.Event.{Event as Given}
use Rattle.tp_records.specs.declared.body.Output.{Output}
use Rattle.tp_model.specs.NodeRun.{Opening, node_run}
use Rattle.tp_model.specs.Lanes.{lane}
use Rattle.tp_journal.specs.declared.receipts.Receipt.{Receipt}
use Rattle.tp_shared_log.specs.Shares.{Shared, share_standing}
use Rattle.tp_site.specs.Site.{Site}
use Rattle.tp_site.specs.Events.{IsAt}
use Rattle.tp_site.specs.Resume.{is_in_lane}
use Rattle.tp_drive.specs.declared.stop.Cause.{Cause}
use Rattle.tp_drive.specs.declared.stop.Stop.{Stop}

-- what contracts see of a lane: its site over a share of the log, what it put out, and where it stopped
pub record Working : Type 0 where
  pub site : Site Shared
  pub outs : List (List Output)
  pub stop : Option Stop

-- the site stands where a run of these events does, and the outputs are those of the run
pub record Did (stood : List Receipt) (wide : Bool) (o : Opening) (mine : ℕ → Bool) (w : Working) (gs : List Given) : Type 0 where
  pub at : IsAt (share_standing stood wide) mine o gs w.site
  pub answers : w.outs ≡ (node_run o gs).outputs

-- where the log took no record, the stake of the share is spent
abbrev pub IsBackedBy : Cause → Shared → Type 0
IsBackedBy Cause.Memory s = Unit {0}
IsBackedBy Cause.Log s = is_some s.spent ≡ true

abbrev pub IsBacked : Option Stop → Shared → Type 0
IsBacked None s = Unit {0}
IsBacked (Some stop) s = IsBackedBy stop.cause s

-- one part of each ledger
pub record HasOnePart (w : Working) : Type 0 where
  pub part : w.site.keeper.parts ≡ 1
  pub stake : w.site.keeper.stake_parts ≡ 1

-- nothing is done yet
pub record IsFresh (stood : List Receipt) (wide : Bool) (o : Opening) (lanes own : ℕ) (w : Working) : Type 0 where
  pub did : Did stood wide o (is_in_lane own lanes) w []
  pub going : w.stop ≡ None
  pub unshut : w.site.shut ≡ None
  pub one_part : HasOnePart w

-- of so many events a worker has met these, each of which it did or left to another: all, or those before the one at which it stopped
abbrev pub EndsAt : ℕ → Option Stop → ℕ → Type 0
EndsAt events None met = met ≡ events
EndsAt events (Some stop) met = stop.event ≡ suc met

-- a worker has met so many of the events, and did those of its lane
pub record Worked (stood : List Receipt) (wide : Bool) (o : Opening) (lanes own : ℕ) (events : List Given) (w : Working) : Type 0 where
  pub met : ℕ
  pub within : met ≤ length events
  pub ends : EndsAt (length events) w.stop met
  pub did : Did stood wide o (is_in_lane own lanes) w (lane (take met events) own lanes)
  pub backed : IsBacked w.stop w.site.keeper
  pub one_part : HasOnePart w
