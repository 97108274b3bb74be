-- What a run of the workers leaves.
use Rattle.std.specs.Prelude.{ℕ, ◌≡◌, ◌<◌, ◌≤◌, List, length, take, slice_index_or, Option}
use Rattle.tp_records.specs.declared.body.Event.{Event as Given}
use Rattle.tp_records.specs.declared.body.Output.{Output}
use Rattle.tp_logrec.specs.declared.record.LogRec.{LogRec}
use Rattle.tp_model.specs.NodeRun.{Opening, node_run}
use Rattle.tp_model.specs.Lanes.{lane, lane_log}
use Rattle.tp_journal.specs.declared.receipts.Receipt.{Receipt}
use Rattle.tp_drive.specs.declared.stop.Stop.{Stop}
use Rattle.tp_drive.specs.Begun.{recs}
use Rattle.tp_drive.specs.Works.{EndsAt}

-- A lane forced these records: those of its events among the first so many, which are all, or those before the one at which it
-- stopped.
pub record IsForcedBy (o : Opening) (lanes own : ℕ) (events : List Given) (stop : Option Stop) (log : List LogRec) : Type 0 where
  pub met : ℕ
  pub within : met ≤ length events
  pub ends : EndsAt (length events) stop met
  pub records : log ≡ lane_log o (take met events) own lanes

-- it put out what a run of these events does
pub record IsRun (o : Opening) (lanes own : ℕ) (events : List Given) (outs : List (List Output)) (receipts : List Receipt) (stop : Option Stop) : Type 0 where
  pub forced : IsForcedBy o lanes own events stop (recs receipts)
  pub answers : outs ≡ (node_run o (lane (take forced.met events) own lanes)).outputs

-- so of each lane
pub record AreRun (o : Opening) (lanes : ℕ) (events : List Given) (outs : List (List (List Output))) (queues : List (List Receipt))
    (stops : List (Option Stop)) : Type 0 where
  pub outs_counted : length outs ≡ lanes
  pub queues_counted : length queues ≡ lanes
  pub stops_counted : length stops ≡ lanes
  pub each : (i : ℕ) (d : List (List Output)) (q : List Receipt) (s : Option Stop) → i < lanes
      → IsRun o lanes i events (slice_index_or outs i d) (slice_index_or queues i q) (slice_index_or stops i s)
