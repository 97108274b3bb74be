-- How the commands over schedules end, by what their calls answer.
use Rattle.std.proofs.Common.{◌≡◌, ◌<◌, ℕ, Result, Ok, Err, refl, subst, sym, ◌∙◌}
use Rattle.std.specs.Prelude.{IfErr}
use Rattle.tp_words.specs.declared.command.Command.{Command}
use Rattle.tp_words.specs.declared.command.Plan.{Plan}
use Rattle.tp_replay.specs.declared.status.Status.{Status}
use Rattle.tp_replay.specs.declared.stop.LineStop.{LineStop}
use Rattle.tp_replay.specs.declared.stop.InputStop.{InputStop}
use Rattle.tp_replay.specs.declared.stop.ReplayStop.{ReplayStop}
use Rattle.tp_replay.specs.declared.stop.TrialStop.{TrialStop}
use Rattle.tp_replay.specs.Stops.{IsReplayStop, IsTrialStop}
use Rattle.tp_replay.specs.Status.{Ends, replay_status, trial_status}
use Rattle.tp_replay.proofs.Limits.{limit_at}
use Rattle.tp_commands.specs.Commands.{exits, EndsInLine}

abbrev pub out_of_memory : Result (Unit {0}) ReplayStop
out_of_memory = Err (ReplayStop.Input (InputStop.Line LineStop.NoMemory))

module _ (a b c d old new : ℕ) where
  by_replay : (answer : Result (Unit {0}) ReplayStop) → IfErr answer (IsReplayStop a b c d) → Ends (exits Command.Replay) a b c d old new (replay_status answer)
  by_replay (Ok u) h = record { exit = refl; cause = tt }
  by_replay (Err (ReplayStop.Input (InputStop.Line (LineStop.BadInput at why)))) h = record { exit = refl; cause = h }
  by_replay (Err (ReplayStop.Input (InputStop.Line (LineStop.Limit what at)))) h = record { exit = refl; cause = limit_at what at h }
  by_replay (Err (ReplayStop.Input (InputStop.Line LineStop.NoMemory))) h = record { exit = refl; cause = tt }
  by_replay (Err (ReplayStop.Input (InputStop.ReadFault n))) h = record { exit = refl; cause = h }
  by_replay (Err (ReplayStop.WriteFault n)) h = record { exit = refl; cause = h }

  pub replay_ends : (answer : Result (Unit {0}) ReplayStop) (status : Status) → status ≡ replay_status answer → IfErr answer (IsReplayStop a b c d) → Ends (exits Command.Replay) a b c d old new status
  replay_ends answer status is h = subst (λ s. Ends (exits Command.Replay) a b c d old new s) (sym is) (by_replay answer h)

  by_trial : (plan : Plan) (answer : Result (Unit {0}) TrialStop) → IfErr answer (IsTrialStop c d) → Ends (exits (Command.Trial plan)) a b c d old new (trial_status answer)
  by_trial plan (Ok u) h = record { exit = refl; cause = tt }
  by_trial plan (Err (TrialStop.Line (LineStop.BadInput at why))) h = record { exit = refl; cause = h }
  by_trial plan (Err (TrialStop.Line (LineStop.Limit what at))) h = record { exit = refl; cause = limit_at what at h }
  by_trial plan (Err (TrialStop.Line LineStop.NoMemory)) h = record { exit = refl; cause = tt }
  by_trial plan (Err (TrialStop.WriteFault n)) h = record { exit = refl; cause = h }

  pub trial_ends : (plan : Plan) (answer : Result (Unit {0}) TrialStop) (status : Status) → status ≡ trial_status answer → IfErr answer (IsTrialStop c d) → Ends (exits (Command.Trial plan)) a b c d old new status
  trial_ends plan answer status is h = subst (λ s. Ends (exits (Command.Trial plan)) a b c d old new s) (sym is) (by_trial plan answer h)

-- a limit of a replay is reached in a line
abbrev FromOne : Status → Type 0
FromOne Status.Ok = Unit {0}
FromOne (Status.Findings n) = Unit {0}
FromOne Status.Usage = Unit {0}
FromOne (Status.BadInput at why) = Unit {0}
FromOne (Status.Limit what at) = 0 < at
FromOne (Status.Foreign at) = Unit {0}
FromOne (Status.ReadFault faults) = Unit {0}
FromOne (Status.WriteFault faults) = Unit {0}
FromOne (Status.DiskFault faults) = Unit {0}
FromOne Status.NoMemory = Unit {0}

from_one : (a b c d : ℕ) (answer : Result (Unit {0}) ReplayStop) → IfErr answer (IsReplayStop a b c d) → FromOne (replay_status answer)
from_one a b c d (Ok u) h = tt
from_one a b c d (Err (ReplayStop.Input (InputStop.Line (LineStop.BadInput at why)))) h = tt
from_one a b c d (Err (ReplayStop.Input (InputStop.Line (LineStop.Limit what at)))) h = h
from_one a b c d (Err (ReplayStop.Input (InputStop.Line LineStop.NoMemory))) h = tt
from_one a b c d (Err (ReplayStop.Input (InputStop.ReadFault n))) h = tt
from_one a b c d (Err (ReplayStop.WriteFault n)) h = tt

pub replay_limits : (a b c d : ℕ) (answer : Result (Unit {0}) ReplayStop) (status : Status) → status ≡ replay_status answer → IfErr answer (IsReplayStop a b c d) → EndsInLine status
replay_limits a b c d answer status is h what at e = subst FromOne (sym is ∙ e) (from_one a b c d answer h)
