-- Records that are an interleaving of those of lanes, and a run that is made of lanes.
use Rattle.std.specs.Prelude.{ℕ, ◌≡◌, ◌<◌, List, [], length, slice_index_or}
use Rattle.tp_records.specs.declared.body.Event.{Event as Given}
use Rattle.tp_logrec.specs.declared.record.LogRec.{LogRec}
use Rattle.tp_model.specs.NodeRun.{Opening, run_from, node_run}
use Rattle.tp_model.specs.Lanes.{lane, lane_log, outputs_in, IsInterleaving}

-- the records are an interleaving of what each lane forces for its own events
pub record IsWoven (o : Opening) (lanes : ℕ) (events : List Given) (records : List LogRec) : Type 0 where
  pub logs : List (List LogRec)
  pub counted : length logs ≡ lanes
  pub each : (i : ℕ) (d : List LogRec) → i < lanes → slice_index_or logs i d ≡ lane_log o events i lanes
  pub woven : IsInterleaving records logs

-- One thread's records are such an interleaving, and of its outputs each lane alone puts out those for its own events.
pub record IsMadeOfLanes (o : Opening) (events : List Given) (lanes : ℕ) : Type 0 where
  pub log : IsWoven o lanes events (run_from o [] events).log
  pub outputs : (i : ℕ) → i < lanes → outputs_in i lanes events (node_run o events).outputs ≡ (node_run o (lane events i lanes)).outputs
