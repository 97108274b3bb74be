use Rattle.std.proofs.Common.{◌≡◌, sym, subst, ap, ◌∙◌, arith, length, [], Some, Ok}
use Rattle.std.specs.Prelude.{IfOk, IfErr}
use Rattle.std.proofs.lemmas.List.{append-nil}
use Rattle.tp_streams.specs.Stops.{IsFaultOf}
use Rattle.tp_replay.specs.Stops.{IsInputStop}
use Rattle.tp_replay.specs.Transcribing.{may_of, ReadsInput, TranscribesOn}
use Rattle.tp_replay.specs.Playing.{PlaysNext}
use Rattle.tp_replay.proofs.SoFar.{at_start, further, tells_none}
use Rattle.tp_replay.proofs.Ending.{input_stop, ends_so, reads_so, starves_so, closes_so, fails_so}
use Rattle.tp_replay.proofs.replaying.play_all.Goals as goal
use Rattle.tp_replay.proofs.replaying.play_all.Goals.{in-Ok-close, in-Err-close}

pub loop-at-init : goal.loop-at-init
loop-at-init g c = record {
  unfaulted = ap (λ p. p.fault) c.new-lines.ensures;
  read = omega arith;
  written = omega arith;
  so_far = λ bytes is.
      at_start _ c.args.members.items bytes c.in-Ok.world c.new-lines.result (g.S.Source.left c.args.source.now) (g.K.Sink.written c.args.sink.now) c.args.out.now (c.in-Ok.ensures {u = tt}).stands (c.in-Ok.ensures {u = tt}).members c.new-lines.ensures c.requires is;
}

pub loop-at-preserved : goal.loop-at-preserved
loop-at-preserved g c = record {
  unfaulted = (c.in-Ok-true.ensures {u = tt}).unfaulted (ap Ok c.in-Ok-true.field-0-test);
  read = omega (arith, c.loop-at.invariant.read, (c.in-Ok-true.ensures {u = tt}).kept);
  written = omega (arith, c.loop-at.invariant.written, (c.in_default-write_long.ensures {u = tt}).kept);
  so_far = λ bytes is.
      let s = c.loop-at.invariant.so_far bytes is in
      let n = subst
      (λ v. PlaysNext c.loop-at.world c.play_next.new.world g.M.Member.allowed c.loop-at.at c.loop-at.lines.before s.world s.lines (Ok v) c.loop-at.out c.play_next.new.out c.play_next.new.lines (g.S.Source.left c.play_next.new.source))
      c.in-Ok-true.field-0-test
      ((c.in-Ok-true.ensures {u = tt}).plays s.world s.lines s.stands s.ahead) in
      further _ c.args.members.items c.loop-at.at bytes c.loop-at.world c.loop-at.lines (g.S.Source.left c.loop-at.source) (g.K.Sink.written c.args.sink.now) (g.K.Sink.written c.loop-at.sink)
      c.loop-at.out s c.play_next.new.out c.play_next.new.lines (g.S.Source.left c.play_next.new.source) c.play_next.new.world n (g.K.Sink.written c.write_long.new.sink) c.write_long.new.text
      (c.in_default-write_long.ensures {u = tt}).whole;
}

pub returns-in-Err-write_long-clause-plays : goal.returns-in-Err-write_long-clause-plays
returns-in-Err-write_long-clause-plays g c = λ bytes is.
    let s = c.loop-at.invariant.so_far bytes is in
    let n = subst
    (λ v. PlaysNext c.loop-at.world c.play_next.new.world g.M.Member.allowed c.loop-at.at c.loop-at.lines.before s.world s.lines (Ok v) c.loop-at.out c.play_next.new.out c.play_next.new.lines (g.S.Source.left c.play_next.new.source))
    c.in-Ok-true.field-0-test
    ((c.in-Ok-true.ensures {u = tt}).plays s.world s.lines s.stands s.ahead) in
    fails_so _ c.args.members.items c.loop-at.at bytes c.loop-at.world c.loop-at.lines (g.S.Source.left c.loop-at.source) (g.K.Sink.written c.args.sink.now) (g.K.Sink.written c.loop-at.sink)
    c.loop-at.out s c.play_next.new.out c.play_next.new.lines (g.S.Source.left c.play_next.new.source) c.play_next.new.world (g.K.Sink.written c.write_long.new.sink) n
    (c.in-Err-write_long.ensures {u = tt}).prefix

pub returns-in_default-clause-plays : goal.returns-in_default-clause-plays
returns-in_default-clause-plays g c = λ bytes is. record {
  text = [];
  tells = (tells_none _ c.args.members.items bytes, tells_none _ c.args.members.items bytes);
  wrote = λ before was. ([], sym c.requires, was ∙ ap Some (sym (append-nil before)));
}

pub returns-in-Ok-false-clause-ending : goal.returns-in-Ok-false-clause-ending
returns-in-Ok-false-clause-ending g c =
    elim c.match-close.branch [
      | in-Ok-close w ↦ subst (λ r. IfOk r (λ input. IfErr input (IsInputStop (g.S.Source.fault_count c.args.source.now) (g.S.Source.fault_count c.play_next.new.source)))) (sym w.result-is) tt
      | in-Err-close w ↦ subst (λ r. IfOk r (λ input. IfErr input (IsInputStop (g.S.Source.fault_count c.args.source.now) (g.S.Source.fault_count c.play_next.new.source)))) (sym w.result-is) tt
    ]

pub returns-in-Ok-false-clause-fault : goal.returns-in-Ok-false-clause-fault
returns-in-Ok-false-clause-fault g c =
    elim c.match-close.branch [
      | in-Ok-close w ↦ subst (λ r. IfErr r (λ f. IsFaultOf f.faults (g.K.Sink.fault_count c.args.sink.now) (g.K.Sink.fault_count c.loop-at.sink))) (sym w.result-is) tt
      | in-Err-close w ↦ subst (λ r. IfErr r (λ f. IsFaultOf f.faults (g.K.Sink.fault_count c.args.sink.now) (g.K.Sink.fault_count c.loop-at.sink))) (sym w.result-is) tt
    ]

pub returns-in-Err-clause-ending : goal.returns-in-Err-clause-ending
returns-in-Err-clause-ending g c =
    input_stop (g.S.Source.fault_count c.args.source.now) (g.S.Source.fault_count c.loop-at.source) (g.S.Source.fault_count c.play_next.new.source) c.in-Err.stop c.loop-at.invariant.read (c.in-Err.ensures {u = tt}).ending

pub returns-in-Ok-false-clause-reads : goal.returns-in-Ok-false-clause-reads
returns-in-Ok-false-clause-reads g c = λ bytes is.
    let s = c.loop-at.invariant.so_far bytes is in
    let last = subst
    (λ v. PlaysNext c.loop-at.world c.play_next.new.world g.M.Member.allowed c.loop-at.at c.loop-at.lines.before s.world s.lines (Ok v) c.loop-at.out c.play_next.new.out c.play_next.new.lines (g.S.Source.left c.play_next.new.source))
    c.in-Ok-false.field-0-test
    ((c.in-Ok-false.ensures {u = tt}).plays s.world s.lines s.stands s.ahead) in
    elim c.match-close.branch [
      | in-Ok-close w ↦ subst (λ r. IfOk r (λ input. ReadsInput bytes input (g.S.Source.left c.play_next.new.source))) (sym w.result-is) last.ended
      | in-Err-close w ↦ subst (λ r. IfOk r (λ input. ReadsInput bytes input (g.S.Source.left c.play_next.new.source))) (sym w.result-is) tt
    ]

pub returns-in-Ok-false-clause-plays : goal.returns-in-Ok-false-clause-plays
returns-in-Ok-false-clause-plays g c = λ bytes is.
    let s = c.loop-at.invariant.so_far bytes is in
    let unread = g.S.Source.left c.play_next.new.source in
    let start = g.K.Sink.written c.args.sink.now in
    let now = g.K.Sink.written c.loop-at.sink in
    let ms = c.args.members.items in
    let last = subst
    (λ v. PlaysNext c.loop-at.world c.play_next.new.world g.M.Member.allowed c.loop-at.at c.loop-at.lines.before s.world s.lines (Ok v) c.loop-at.out c.play_next.new.out c.play_next.new.lines unread)
    c.in-Ok-false.field-0-test
    ((c.in-Ok-false.ensures {u = tt}).plays s.world s.lines s.stands s.ahead) in
    let same : c.play_next.new.out ≡ c.loop-at.out = (c.in-Ok-false.ensures {u = tt}).ended (ap Ok c.in-Ok-false.field-0-test) in
    elim c.match-close.branch [
      | in-Ok-close w ↦ subst (λ r. TranscribesOn (may_of g.M.Member.allowed ms) (length ms) bytes r unread c.close.new.out start now) (sym w.result-is)
          (closes_so _ ms c.loop-at.at bytes c.loop-at.world c.loop-at.lines (g.S.Source.left c.loop-at.source) start now c.loop-at.out s c.play_next.new.out c.close.new.out unread c.play_next.new.world same last (λ v h. (w.in-Ok-close.ensures {u = tt}).ok v h))
      | in-Err-close w ↦ subst (λ r. TranscribesOn (may_of g.M.Member.allowed ms) (length ms) bytes r unread c.close.new.out start now) (sym w.result-is)
          (starves_so _ ms c.loop-at.at bytes c.loop-at.world c.loop-at.lines (g.S.Source.left c.loop-at.source) start now c.loop-at.out s c.close.new.out unread ((w.in-Err-close.ensures {u = tt}).err ∙ same))
    ]

pub returns-in-Err-clause-plays : goal.returns-in-Err-clause-plays
returns-in-Err-clause-plays g c = λ bytes is.
    let s = c.loop-at.invariant.so_far bytes is in
    ends_so _ c.args.members.items c.loop-at.at bytes c.loop-at.world c.loop-at.lines (g.S.Source.left c.loop-at.source) (g.K.Sink.written c.args.sink.now) (g.K.Sink.written c.loop-at.sink) c.loop-at.out s c.play_next.new.out c.in-Err.stop
    (g.S.Source.left c.play_next.new.source) c.play_next.new.world (c.in-Err.ensures {u = tt}).same ((c.in-Err.ensures {u = tt}).plays s.world s.lines s.stands s.ahead)

pub returns-in-Err-clause-reads : goal.returns-in-Err-clause-reads
returns-in-Err-clause-reads g c = λ bytes is.
    let s = c.loop-at.invariant.so_far bytes is in
    reads_so _ c.args.members.items c.loop-at.at bytes c.loop-at.world c.loop-at.lines (g.S.Source.left c.loop-at.source) (g.K.Sink.written c.args.sink.now) (g.K.Sink.written c.loop-at.sink) c.loop-at.out s c.in-Err.stop
    (g.S.Source.left c.play_next.new.source) c.play_next.new.world ((c.in-Err.ensures {u = tt}).plays s.world s.lines s.stands s.ahead)

pub returns-clause-plays : goal.returns-clause-plays
returns-clause-plays g c = λ bytes is.
    let s = c.loop-at.invariant.so_far bytes is in
    let numbered = s.numbered in
    let within = s.within in
    absurd (omega (arith, numbered, within, c.loop-at-test.false))

pub returns-clause-reads : goal.returns-clause-reads
returns-clause-reads g c = λ bytes is.
    let s = c.loop-at.invariant.so_far bytes is in
    let numbered = s.numbered in
    let within = s.within in
    absurd (omega (arith, numbered, within, c.loop-at-test.false))
