use Rattle.std.proofs.Common.{[], codes, refl, ap, sym, ◌∙◌, Some, Err, inr}
use Rattle.std.proofs.lemmas.List.{append-nil}
use Rattle.tp_laws.specs.Whole.{AllPromised}
use Rattle.tp_model.specs.Transcript.{transcript_with}
use Rattle.tp_laws.proofs.LineRuns.{transcripts_leave_runs, of_run}
use Rattle.tp_laws.proofs.Promises.{all_promised}
use Rattle.tp_commands.specs.Commands.{Refused, Asked}
use Rattle.tp_replay.proofs.SoFar.{tells_none}
use Rattle.tp_replay.proofs.Ending.{completes}
use Rattle.tp_replay.proofs.One.{is_one}
use Rattle.tp_commands.proofs.Replayed.{out_of_memory}
use Rattle.tp_commands.proofs.Asking.{never_usage, replays, plain_replay, no_usage}
use Rattle.tp_commands.proofs.top.run.Goals as goal

pub returns-in-Ok-clause-usage : goal.returns-in-Ok-clause-usage
returns-in-Ok-clause-usage g c = λ e.
    absurd (never_usage c.in-Ok.command _ _ _ _ c.run_command.ensures.runs e)

pub returns-in-Ok-clause-answers : goal.returns-in-Ok-clause-answers
returns-in-Ok-clause-answers g c = Asked c.in-Ok.command c.in-Ok.ensures.ok c.run_command.ensures.runs

pub returns-in-Ok-clause-reads : goal.returns-in-Ok-clause-reads
returns-in-Ok-clause-reads g c = λ is bytes has. (replays c.in-Ok.command _ _ _ _ (c.in-Ok.ensures.plain (codes "replay") [] plain_replay is) c.run_command.ensures.runs).does.reads bytes has

pub returns-in-Ok-clause-disk : goal.returns-in-Ok-clause-disk
returns-in-Ok-clause-disk g c = λ is. (replays c.in-Ok.command _ _ _ _ (c.in-Ok.ensures.plain (codes "replay") [] plain_replay is) c.run_command.ensures.runs).disk

pub returns-in-Ok-clause-one : goal.returns-in-Ok-clause-one
returns-in-Ok-clause-one g c = λ certain bytes. is_one _ certain _ bytes

pub returns-in-Ok-clause-promised : goal.returns-in-Ok-clause-promised
returns-in-Ok-clause-promised g c = λ bytes answers. of_run AllPromised all_promised (transcript_with _ bytes answers).world (transcripts_leave_runs _ bytes answers)

pub returns-in-Ok-clause-transcript : goal.returns-in-Ok-clause-transcript
returns-in-Ok-clause-transcript g c = λ is bytes has.
    (replays c.in-Ok.command _ _ _ _ (c.in-Ok.ensures.plain (codes "replay") [] plain_replay is) c.run_command.ensures.runs).does.writes bytes has

pub returns-in-Ok-clause-complete : goal.returns-in-Ok-clause-complete
returns-in-Ok-clause-complete g c = λ is bytes has all read written.
    completes _ _ bytes _ _ _ all _ _ _ _ _ _ _ c.run_command.ensures.ending
    ((replays c.in-Ok.command _ _ _ _ (c.in-Ok.ensures.plain (codes "replay") [] plain_replay is) c.run_command.ensures.runs).does.writes bytes has) read written

pub returns-in-Err-Usage-clause-usage : goal.returns-in-Err-Usage-clause-usage
returns-in-Err-Usage-clause-usage g c = λ e. c.in-Err-Usage.ensures.usage (ap Err c.in-Err-Usage.field-0-is)

pub returns-in-Err-Usage-clause-answers : goal.returns-in-Err-Usage-clause-answers
returns-in-Err-Usage-clause-answers g c =
    Refused (c.in-Err-Usage.ensures.usage (ap Err c.in-Err-Usage.field-0-is)) (record { ends = refl; source = refl; sink = refl; disk = refl })

pub returns-in-Err-Usage-clause-reads : goal.returns-in-Err-Usage-clause-reads
returns-in-Err-Usage-clause-reads g c = λ is bytes has. absurd (no_usage (sym c.in-Err-Usage.field-0-is ∙ c.in-Err-Usage.ensures.plain (codes "replay") [] plain_replay is))

pub returns-in-Err-Usage-clause-one : goal.returns-in-Err-Usage-clause-one
returns-in-Err-Usage-clause-one g c = λ certain bytes. is_one _ certain _ bytes

pub returns-in-Err-Usage-clause-promised : goal.returns-in-Err-Usage-clause-promised
returns-in-Err-Usage-clause-promised g c = λ bytes answers. of_run AllPromised all_promised (transcript_with _ bytes answers).world (transcripts_leave_runs _ bytes answers)

pub returns-in-Err-Usage-clause-transcript : goal.returns-in-Err-Usage-clause-transcript
returns-in-Err-Usage-clause-transcript g c = λ is bytes has. absurd (no_usage (sym c.in-Err-Usage.field-0-is ∙ c.in-Err-Usage.ensures.plain (codes "replay") [] plain_replay is))

pub returns-in-Err-Usage-clause-complete : goal.returns-in-Err-Usage-clause-complete
returns-in-Err-Usage-clause-complete g c = λ is bytes has all read written. absurd (no_usage (sym c.in-Err-Usage.field-0-is ∙ c.in-Err-Usage.ensures.plain (codes "replay") [] plain_replay is))

pub returns-clause-one : goal.returns-clause-one
returns-clause-one g c = λ certain bytes. is_one _ certain _ bytes

pub returns-clause-promised : goal.returns-clause-promised
returns-clause-promised g c = λ bytes answers. of_run AllPromised all_promised (transcript_with _ bytes answers).world (transcripts_leave_runs _ bytes answers)

pub returns-clause-reads : goal.returns-clause-reads
returns-clause-reads g c = λ is bytes has. record { answer = out_of_memory; ends = refl; reads = tt }

pub returns-clause-transcript : goal.returns-clause-transcript
returns-clause-transcript g c = λ is bytes has. record { answer = out_of_memory; ends = refl; writes = record { text = []; tells = tells_none _ c.args.members.items bytes; written = λ before was. was ∙ ap Some (sym (append-nil before)) } }

pub returns-clause-complete : goal.returns-clause-complete
returns-clause-complete g c = λ is bytes has all read written. inr refl
