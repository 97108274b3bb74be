use Rattle.std.proofs.Common.{◌≡◌, refl, sym, ap, ◌∙◌, subst, arith, Some, None, Option, Err, []}
use Rattle.std.specs.Option.{option_map}
use Rattle.tp_outside.specs.Story.{Story, Synced}
use Rattle.tp_journal.specs.Gathering.{gathered_standing}
use Rattle.tp_streams.specs.declared.stop.Stop.{Stop}
use Rattle.tp_serve.specs.Progress.{journal_of, IsServing, RestsOn}
use Rattle.tp_serve.specs.Starting.{opening, HasStarted}
use Rattle.tp_serve.specs.Serving.{Ran}
use Rattle.tp_serve.proofs.Ahead.{begins, serves_ahead, rests_ahead, is_settled}
use Rattle.tp_serve.proofs.Endings.{none_begun}
use Rattle.tp_serve.proofs.Whole.{served, not_served, start_stop, served_stop, never_foreign, never_before}
use Rattle.tp_serve.proofs.serving.serve.Goals as goal

-- ---- no site

pub returns-in-Err-clause-serves : goal.returns-in-Err-clause-serves
returns-in-Err-clause-serves g c s is file =
    let left = g.S.Source.left c.args.source.now in
    let written = g.K.Sink.written c.args.sink.now in
    let r : Ran = record { told = s; story = g.D.Disk.told c.in-Err.disk; left = left; unread = left; written = written; output = written } in
    not_served c.args.name r (record { source = refl; sink = refl }) c.in-Err.stop ((c.in-Err.ensures {u = tt}).refused s is file)

pub returns-in-Err-clause-stops : goal.returns-in-Err-clause-stops
returns-in-Err-clause-stops g c = start_stop _ _ _ _ c.in-Err.stop (c.in-Err.ensures {u = tt}).stops

pub returns-in-Err-clause-foreign : goal.returns-in-Err-clause-foreign
returns-in-Err-clause-foreign g c at is = (refl, refl)

pub returns-in-Err-clause-before : goal.returns-in-Err-clause-before
returns-in-Err-clause-before g c what is = (refl, refl)

pub returns-in-Err-clause-read : goal.returns-in-Err-clause-read
returns-in-Err-clause-read g c = omega arith

pub returns-in-Err-clause-kept : goal.returns-in-Err-clause-kept
returns-in-Err-clause-kept g c = omega arith

-- ---- no memory to run ahead

pub returns-in-Err-ahead-clause-serves : goal.returns-in-Err-ahead-clause-serves
returns-in-Err-ahead-clause-serves g c s is file =
    let count = g.D.Disk.fault_count in
    let told = g.D.Disk.told in
    let fuse = g.D.Disk.fuse in
    let standing = journal_of count told fuse in
    let faults = count c.args.disk in
    let h : HasStarted standing c.args.name (Some s) faults c.in-Ok.site = subst (λ (t : Option Story). HasStarted standing c.args.name t faults c.in-Ok.site) is (c.in-Ok.ensures {u = tt}).started in
    let left = g.S.Source.left c.args.source.now in
    let written = g.K.Sink.written c.args.sink.now in
    let o = opening c.args.name h.version h.listed in
    let r : Ran = record { told = s; story = told c.disk.result; left = left; unread = left; written = written; output = written } in
    let story_is : told c.disk.result ≡ told c.in-Ok.site.keeper.disk = ap told (c.disk.ensures ∙ ap (λ k. k.disk) (c.keeper.ensures ∙ ap (λ v. v.keeper) (c.in-Err-ahead.ensures {u = tt}).err)) in
    served (gathered_standing count told) c.args.name r faults h.version h.listed (h.opens s refl file) (begins c.in-Ok.site) story_is (Err Stop.NoMemory)
    (none_begun (gathered_standing count told) o (Some (Synced s)) faults left written (begins c.in-Ok.site) (is_settled count told fuse o [] (Some (Synced s)) faults c.in-Ok.site h.serving))

-- ---- a site that had started

pub returns-clause-serves : goal.returns-clause-serves
returns-clause-serves g c s is file =
    let count = g.D.Disk.fault_count in
    let told = g.D.Disk.told in
    let fuse = g.D.Disk.fuse in
    let standing = journal_of count told fuse in
    let noting = gathered_standing count told in
    let faults = count c.args.disk in
    let h : HasStarted standing c.args.name (Some s) faults c.in-Ok.site = subst (λ (t : Option Story). HasStarted standing c.args.name t faults c.in-Ok.site) is (c.in-Ok.ensures {u = tt}).started in
    let r : Ran = record {
      told = s;
      story = told c.disk-2.result;
      left = g.S.Source.left c.args.source.now;
      unread = g.S.Source.left c.serve_events-served.new.source;
      written = g.K.Sink.written c.args.sink.now;
      output = g.K.Sink.written c.serve_events-served.new.sink;
    } in
    let o = opening c.args.name h.version h.listed in
    let begun : Option Story = Some (Synced s) in
    let same : c.in-Ok-ahead.site ≡ begins c.in-Ok.site = (c.in-Ok-ahead.ensures {u = tt}).ok in
    let serving = subst (IsServing noting o [] None faults) (sym same) (serves_ahead count told fuse o [] begun faults c.in-Ok.site h.serving) in
    let rests = subst (λ v. RestsOn o [] begun (noting v.keeper).lasting) (sym same) (rests_ahead count told fuse o [] begun faults c.in-Ok.site h.serving) in
    let site = c.serve_events-served.new.site in
    let story_is : told c.disk-2.result ≡ told site.keeper.journal.disk = ap told (c.disk-2.ensures ∙ ap (λ k. k.journal.disk) c.keeper-2.ensures) in
    served noting c.args.name r faults h.version h.listed (h.opens s refl file) site story_is c.serve_events-served.result (c.serve_events-served.ensures.serves o begun faults serving rests)

pub returns-clause-stops : goal.returns-clause-stops
returns-clause-stops g c =
    let count = g.D.Disk.fault_count in
    let told = g.D.Disk.told in
    let fuse = g.D.Disk.fuse in
    let standing = journal_of count told fuse in
    let noting = gathered_standing count told in
    let faults = count c.args.disk in
    let h : HasStarted standing c.args.name (told c.args.disk) faults c.in-Ok.site = (c.in-Ok.ensures {u = tt}).started in
    let o = opening c.args.name h.version h.listed in
    let begun : Option Story = option_map Synced (told c.args.disk) in
    let same : c.in-Ok-ahead.site ≡ begins c.in-Ok.site = (c.in-Ok-ahead.ensures {u = tt}).ok in
    let serving = subst (IsServing noting o [] None faults) (sym same) (serves_ahead count told fuse o [] begun faults c.in-Ok.site h.serving) in
    let rests = subst (λ v. RestsOn o [] begun (noting v.keeper).lasting) (sym same) (rests_ahead count told fuse o [] begun faults c.in-Ok.site h.serving) in
    let e = c.serve_events-served.ensures.serves o begun faults serving rests in
    let site = c.serve_events-served.new.site in
    let equal : count site.keeper.journal.disk ≡ count c.disk-2.result = sym (ap count (c.disk-2.ensures ∙ ap (λ k. k.journal.disk) c.keeper-2.ensures)) in
    served_stop noting o e.events e.next begun site faults (count c.disk-2.result) _ _ _ _ c.serve_events-served.result c.serve_events-served.ensures.stops e.site equal

pub returns-clause-foreign : goal.returns-clause-foreign
returns-clause-foreign g c at is = absurd (never_foreign c.serve_events-served.result _ _ _ _ at c.serve_events-served.ensures.stops is)

pub returns-clause-before : goal.returns-clause-before
returns-clause-before g c what is = absurd (never_before c.serve_events-served.result _ _ _ _ what c.serve_events-served.ensures.stops is)

pub returns-clause-read : goal.returns-clause-read
returns-clause-read g c = c.serve_events-served.ensures.read

pub returns-clause-kept : goal.returns-clause-kept
returns-clause-kept g c = c.serve_events-served.ensures.kept
