-- The events of a batch that is shared between workers, in the order of the records that they forced.
use Rattle.std.specs.Prelude.{ℕ, ◌≡◌, ◌<◌, List, [], ◌++◌, length, take, slice_index_or}
use Rattle.tp_records.specs.declared.body.Event.{Event as Given}
use Rattle.tp_logrec.specs.declared.record.LogRec.{LogRec}
use Rattle.tp_model.specs.NodeRun.{Opening, run_from}
use Rattle.tp_model.specs.Lanes.{lane, lane_log, outputs_in, IsInterleaving}

-- each lane forced what its own events among the first so many force
pub record AreForced (o : Opening) (lanes : ℕ) (events : List Given) (met : ℕ → ℕ) (logs : List (List LogRec)) : Type 0 where
  pub counted : length logs ≡ lanes
  pub each : (i : ℕ) (d : List LogRec) → i < lanes → slice_index_or logs i d ≡ lane_log o (take (met i) events) i lanes

-- these leave the records, and are of each lane the first of its events, in order
pub record IsBatch (o : Opening) (lanes : ℕ) (events : List Given) (records : List LogRec) : Type 0 where
  pub given : List Given
  pub log : (run_from o [] given).log ≡ records
  pub each : (i : ℕ) → i < lanes → (later : List Given) × (lane events i lanes ≡ lane given i lanes ++ later)

-- and of each lane all, with the outputs that one thread gives for them
pub record IsWhole (o : Opening) (lanes : ℕ) (events : List Given) (records : List LogRec) : Type 0 where
  pub given : List Given
  pub log : (run_from o [] given).log ≡ records
  pub each : (i : ℕ) → i < lanes → lane given i lanes ≡ lane events i lanes
  pub outputs : (i : ℕ) → i < lanes → outputs_in i lanes given (run_from o [] given).outputs ≡ outputs_in i lanes events (run_from o [] events).outputs

-- the first of the records that workers forced, as many as they are
abbrev pub FirstOfABatch : Type 0
FirstOfABatch =
    (o : Opening) (lanes : ℕ) (events : List Given) (met : ℕ → ℕ) (logs : List (List LogRec)) (records later : List LogRec)
    → AreForced o lanes events met logs → IsInterleaving (records ++ later) logs → IsBatch o lanes events records

-- all that they forced for all events
abbrev pub WholeBatch : Type 0
WholeBatch =
    (o : Opening) (lanes : ℕ) (events : List Given) (logs : List (List LogRec)) (records : List LogRec)
    → AreForced o lanes events (λ i. length events) logs → IsInterleaving records logs → IsWhole o lanes events records
