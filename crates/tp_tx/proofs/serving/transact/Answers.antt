use Rattle.std.proofs.Common.{◌≡◌, refl, sym, ap, ◌∙◌, subst, arith, Some, None, Option, Err}
use Rattle.std.specs.Option.{option_map}
use Rattle.tp_outside.specs.Story.{Story, Synced}
use Rattle.tp_journal.specs.Gathering.{gathered_standing}
use Rattle.tp_streams.specs.declared.stop.Stop.{Stop}
use Rattle.tp_serve.specs.Progress.{journal_of, RestsOn}
use Rattle.tp_serve.specs.Starting.{opening}
use Rattle.tp_serve.specs.Serving.{Ran}
use Rattle.tp_serve.proofs.Ahead.{rests_ahead}
use Rattle.tp_serve.proofs.Whole.{start_stop, served_stop, never_foreign, never_before}
use Rattle.tp_tx.specs.Transcript.{first_events}
use Rattle.tp_tx.specs.Progress.{IsRunning}
use Rattle.tp_tx.specs.Transacting.{HasMade}
use Rattle.tp_tx.proofs.Transacted.{begins_face, runs_ahead, none_run, ran, not_made}
use Rattle.tp_tx.proofs.serving.transact.Goals as goal

-- ---- no face

pub returns-in-Err-clause-transacts : goal.returns-in-Err-clause-transacts
returns-in-Err-clause-transacts g c s is file =
    let left = g.S.Source.left c.args.source.now in
    let written = g.K.Sink.written c.args.sink.now in
    let r : Ran = record { told = s; story = g.D.Disk.told c.in-Err.disk; left = left; unread = left; written = written; output = written } in
    not_made c.args.name r (record { source = refl; sink = refl }) c.in-Err.stop ((c.in-Err.ensures {u = tt}).refused s is file)

pub returns-in-Err-clause-stops : goal.returns-in-Err-clause-stops
returns-in-Err-clause-stops g c = start_stop _ _ _ _ c.in-Err.stop (c.in-Err.ensures {u = tt}).stops

pub returns-in-Err-clause-foreign : goal.returns-in-Err-clause-foreign
returns-in-Err-clause-foreign g c at is = (refl, refl)

pub returns-in-Err-clause-before : goal.returns-in-Err-clause-before
returns-in-Err-clause-before g c what is = (refl, refl)

pub returns-in-Err-clause-read : goal.returns-in-Err-clause-read
returns-in-Err-clause-read g c = omega arith

pub returns-in-Err-clause-kept : goal.returns-in-Err-clause-kept
returns-in-Err-clause-kept g c = omega arith

-- ---- no memory to run ahead

pub returns-in-Err-ahead-clause-transacts : goal.returns-in-Err-ahead-clause-transacts
returns-in-Err-ahead-clause-transacts g c s is file =
    let count = g.D.Disk.fault_count in
    let told = g.D.Disk.told in
    let fuse = g.D.Disk.fuse in
    let standing = journal_of count told fuse in
    let faults = count c.args.disk in
    let h : HasMade standing c.args.name (Some s) faults c.in-Ok.face = subst (λ (t : Option Story). HasMade standing c.args.name t faults c.in-Ok.face) is (c.in-Ok.ensures {u = tt}).made in
    let left = g.S.Source.left c.args.source.now in
    let written = g.K.Sink.written c.args.sink.now in
    let r : Ran = record { told = s; story = told c.disk.result; left = left; unread = left; written = written; output = written } in
    let story_is : told c.disk.result ≡ told c.in-Ok.face.site.keeper.disk =
    ap told (c.disk.ensures ∙ ap (λ k. k.disk) (c.keeper.ensures ∙ ap (λ v. v.keeper) (c.site.ensures ∙ ap (λ v. v.site) (c.in-Err-ahead.ensures {u = tt}).err))) in
    ran (gathered_standing count told) c.args.name r faults h.version h.listed (h.opens s refl file) (begins_face c.in-Ok.face) story_is (Err Stop.NoMemory)
    (none_run count told fuse (opening c.args.name h.version h.listed) (Some (Synced s)) faults c.in-Ok.face h.running left written)

-- ---- a face

pub returns-clause-transacts : goal.returns-clause-transacts
returns-clause-transacts g c s is file =
    let count = g.D.Disk.fault_count in
    let told = g.D.Disk.told in
    let fuse = g.D.Disk.fuse in
    let standing = journal_of count told fuse in
    let noting = gathered_standing count told in
    let faults = count c.args.disk in
    let h : HasMade standing c.args.name (Some s) faults c.in-Ok.face = subst (λ (t : Option Story). HasMade standing c.args.name t faults c.in-Ok.face) is (c.in-Ok.ensures {u = tt}).made in
    let r : Ran = record {
      told = s;
      story = told c.disk-2.result;
      left = g.S.Source.left c.args.source.now;
      unread = g.S.Source.left c.answer_frames-served.new.source;
      written = g.K.Sink.written c.args.sink.now;
      output = g.K.Sink.written c.answer_frames-served.new.sink;
    } in
    let o = opening c.args.name h.version h.listed in
    let begun : Option Story = Some (Synced s) in
    let same : c.in-Ok-ahead.face ≡ begins_face c.in-Ok.face = (c.in-Ok-ahead.ensures {u = tt}).ok in
    let running = subst (IsRunning noting o first_events None faults) (sym same) (runs_ahead count told fuse o begun faults c.in-Ok.face h.running) in
    let rests = subst (λ v. RestsOn o first_events begun (noting v.site.keeper).lasting) (sym same) (rests_ahead count told fuse o first_events begun faults c.in-Ok.face.site h.running.serving) in
    let face = c.answer_frames-served.new.face in
    let story_is : told c.disk-2.result ≡ told face.site.keeper.journal.disk = ap told (c.disk-2.ensures ∙ ap (λ k. k.journal.disk) (c.keeper-2.ensures ∙ ap (λ v. v.keeper) c.site-2.ensures)) in
    ran noting c.args.name r faults h.version h.listed (h.opens s refl file) face story_is c.answer_frames-served.result (c.answer_frames-served.ensures.answers o begun faults running rests)

pub returns-clause-stops : goal.returns-clause-stops
returns-clause-stops g c =
    let count = g.D.Disk.fault_count in
    let told = g.D.Disk.told in
    let fuse = g.D.Disk.fuse in
    let standing = journal_of count told fuse in
    let noting = gathered_standing count told in
    let faults = count c.args.disk in
    let h : HasMade standing c.args.name (told c.args.disk) faults c.in-Ok.face = (c.in-Ok.ensures {u = tt}).made in
    let o = opening c.args.name h.version h.listed in
    let begun : Option Story = option_map Synced (told c.args.disk) in
    let same : c.in-Ok-ahead.face ≡ begins_face c.in-Ok.face = (c.in-Ok-ahead.ensures {u = tt}).ok in
    let running = subst (IsRunning noting o first_events None faults) (sym same) (runs_ahead count told fuse o begun faults c.in-Ok.face h.running) in
    let rests = subst (λ v. RestsOn o first_events begun (noting v.site.keeper).lasting) (sym same) (rests_ahead count told fuse o first_events begun faults c.in-Ok.face.site h.running.serving) in
    let e = c.answer_frames-served.ensures.answers o begun faults running rests in
    let site = c.answer_frames-served.new.face.site in
    let equal : count site.keeper.journal.disk ≡ count c.disk-2.result = sym (ap count (c.disk-2.ensures ∙ ap (λ k. k.journal.disk) (c.keeper-2.ensures ∙ ap (λ v. v.keeper) c.site-2.ensures))) in
    served_stop noting o e.events e.next begun site faults (count c.disk-2.result) _ _ _ _ c.answer_frames-served.result c.answer_frames-served.ensures.stops e.site equal

pub returns-clause-foreign : goal.returns-clause-foreign
returns-clause-foreign g c at is = absurd (never_foreign c.answer_frames-served.result _ _ _ _ at c.answer_frames-served.ensures.stops is)

pub returns-clause-before : goal.returns-clause-before
returns-clause-before g c what is = absurd (never_before c.answer_frames-served.result _ _ _ _ what c.answer_frames-served.ensures.stops is)

pub returns-clause-read : goal.returns-clause-read
returns-clause-read g c = c.answer_frames-served.ensures.read

pub returns-clause-kept : goal.returns-clause-kept
returns-clause-kept g c = c.answer_frames-served.ensures.kept
