use Rattle.std.proofs.Common.{◌++◌, length, subst, sym, ap, ◌∙◌, Some}
use Rattle.std.specs.Prelude.{IfErr}
use Rattle.tp_replay.specs.Stops.{IsReplayStop}
use Rattle.tp_replay.specs.Transcribing.{may_of, Reads, Tells}
use Rattle.tp_streams.specs.Written.{WritesPrefix}
use Rattle.tp_replay.specs.Written.{Writes}
use Rattle.tp_replay.proofs.One.{is_one}
use Rattle.tp_replay.proofs.Ending.{finishes, fails_at_last, replay_stop, replay_reads}
use Rattle.tp_replay.proofs.replaying.replay.Goals as goal

pub returns-in-Ok-write_all-clause-stop : goal.returns-in-Ok-write_all-clause-stop
returns-in-Ok-write_all-clause-stop g c =
    subst (λ r. IfErr r (IsReplayStop (g.S.Source.fault_count c.args.source.now) (g.S.Source.fault_count c.play_all.new.source) (g.K.Sink.fault_count c.args.sink.now) (g.K.Sink.fault_count c.write_all.new.sink)))
    (sym c.all_written.ensures) (replay_stop _ _ _ _ c.in-Ok.input (c.in-Ok.ensures {u = tt}).ending)

pub returns-in-Ok-write_all-clause-reads : goal.returns-in-Ok-write_all-clause-reads
returns-in-Ok-write_all-clause-reads g c = λ bytes is.
    subst (λ r. Reads bytes r (g.S.Source.left c.play_all.new.source)) (sym c.all_written.ensures) (replay_reads bytes _ c.in-Ok.input ((c.in-Ok.ensures {u = tt}).reads bytes is))

pub returns-in-Ok-write_all-clause-transcript : goal.returns-in-Ok-write_all-clause-transcript
returns-in-Ok-write_all-clause-transcript g c = λ bytes is.
    subst (λ r. Writes (Tells (may_of g.M.Member.allowed c.args.members.items) (length c.args.members.items) bytes r (g.S.Source.left c.play_all.new.source)) (g.K.Sink.written c.args.sink.now) (g.K.Sink.written c.write_all.new.sink)) (sym c.all_written.ensures)
    (finishes _ _ bytes c.in-Ok.input _ c.play_all.new.out _ (g.K.Sink.written c.play_all.new.sink) (g.K.Sink.written c.write_all.new.sink)
    ((c.in-Ok.ensures {u = tt}).plays bytes is)
    (λ all h. (c.in-Ok-write_all.ensures {u = tt}).whole all h ∙ ap (λ t. Some (all ++ t)) c.as_slice.ensures))

pub returns-clause-transcript : goal.returns-clause-transcript
returns-clause-transcript g c = λ bytes is.
    fails_at_last _ _ bytes c.in-Ok.input _ c.play_all.new.out _ (g.K.Sink.written c.play_all.new.sink) (g.K.Sink.written c.write_all.new.sink)
    ((c.in-Ok.ensures {u = tt}).plays bytes is)
    (λ all h. subst (λ t. WritesPrefix all t (g.K.Sink.written c.write_all.new.sink)) c.as_slice.ensures ((c.in-Err-write_all.ensures {u = tt}).prefix all h))

pub returns-in-Err-clause-one : goal.returns-in-Err-clause-one
returns-in-Err-clause-one g c = λ certain bytes. is_one _ certain _ bytes

pub returns-in-Ok-write_all-clause-one : goal.returns-in-Ok-write_all-clause-one
returns-in-Ok-write_all-clause-one g c = λ certain bytes. is_one _ certain _ bytes

pub returns-clause-one : goal.returns-clause-one
returns-clause-one g c = λ certain bytes. is_one _ certain _ bytes
