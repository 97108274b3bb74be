-- How an audit ends, by what its call answers, and what it tells of logs that do not belong together.
use Rattle.std.proofs.Common.{ℕ, zero, suc, List, [], Result, Ok, Err, refl, arith}
use Rattle.std.specs.Prelude.{IfErr}
use Rattle.tp_words.specs.declared.command.Command.{Command}
use Rattle.tp_streams.specs.declared.stop.Stop.{Stop}
use Rattle.tp_audit.specs.declared.mismatch.Mismatch.{Mismatch}
use Rattle.tp_audit_tool.specs.Audited.{NamesMismatches, IsAuditStop}
use Rattle.tp_replay.specs.Status.{Ends, ended_with}
use Rattle.tp_replay.proofs.Limits.{limit_at}
use Rattle.tp_commands.specs.Commands.{exits}
use Rattle.tp_commands.specs.Auditing.{TellsMismatches}

-- the ending, by the counts of the source and of the sink
pub judged : (read_old read_new write_old write_new disk_old disk_new : ℕ) (answer : Result ℕ Stop) → IfErr answer (IsAuditStop read_old read_new write_old write_new)
    → Ends (exits Command.Audit) read_old read_new write_old write_new disk_old disk_new (ended_with answer)
judged ro rn wo wn d e (Ok zero) stops = record { exit = refl; cause = tt }
judged ro rn wo wn d e (Ok (suc n)) stops = record { exit = refl; cause = omega arith }
judged ro rn wo wn d e (Err (Stop.BadInput at why)) stops = record { exit = refl; cause = stops }
judged ro rn wo wn d e (Err (Stop.Limit what at)) stops = record { exit = refl; cause = limit_at what at stops }
judged ro rn wo wn d e (Err (Stop.Foreign at)) stops = record { exit = refl; cause = tt }
judged ro rn wo wn d e (Err (Stop.ReadFault faults)) stops = record { exit = refl; cause = stops }
judged ro rn wo wn d e (Err (Stop.WriteFault faults)) stops = record { exit = refl; cause = stops }
judged ro rn wo wn d e (Err (Stop.DiskFault faults)) stops = absurd stops
judged ro rn wo wn d e (Err Stop.NoMemory) stops = record { exit = refl; cause = tt }

pub named : (bytes : List ℕ) (n : ℕ) (found : List Mismatch) → NamesMismatches bytes found → TellsMismatches bytes (ended_with (Ok n)) found
named bytes zero found names = names
named bytes (suc n) found names = names

pub unnamed : (bytes : List ℕ) (stop : Stop) → TellsMismatches bytes (ended_with (Err stop)) []
unnamed bytes (Stop.BadInput at why) = refl
unnamed bytes (Stop.Limit what at) = refl
unnamed bytes (Stop.Foreign at) = refl
unnamed bytes (Stop.ReadFault faults) = refl
unnamed bytes (Stop.WriteFault faults) = refl
unnamed bytes (Stop.DiskFault faults) = refl
unnamed bytes Stop.NoMemory = refl
