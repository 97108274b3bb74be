use Rattle.std.proofs.Common.{Result, Err, List, ap, ◌∙◌, subst}
use Rattle.tp_records.specs.declared.body.Output.{Output}
use Rattle.tp_shared_log.specs.Shares.{share_standing}
use Rattle.tp_site.specs.declared.faults.SiteFault.{SiteFault}
use Rattle.tp_site.specs.Events.{StepsTo}
use Rattle.tp_drive.proofs.Stepped.{halt_at, refused_outputs}
use Rattle.tp_drive.proofs.answering.answer.Goals as goal

-- the event is one more, and these are its outputs
pub returns-in-Ok-clause-done : goal.returns-in-Ok-clause-done
returns-in-Ok-clause-done g c = λ mine gs own at.
    let s = c.in-Ok.ensures.steps mine g.L.Begun.opening gs at own in (s.at, s.given)

-- a refusal is its one output
pub returns-in_ok-refused-in-Err-Refused-clause-done : goal.returns-in_ok-refused-in-Err-Refused-clause-done
returns-in_ok-refused-in-Err-Refused-clause-done g c = λ mine gs own at.
    let standing = share_standing g.L.Stood.stood g.L.Stood.wide in
    let o = g.L.Begun.opening in
    let k = c.in-Err-Refused.number in
    let Steps : Result (List Output) SiteFault → Type 0 = λ r. StepsTo standing mine o gs c.args.site.now c.args.event.now r c.event.new.self in
    let s = subst Steps (c.in-Err-Refused.is ∙ ap Err c.in-Err-Refused.field-0-is) (c.event.ensures.steps mine o gs at own) in
    (s.0, refused_outputs standing mine o gs c.args.site.now c.event.new.self c.args.event.now k c.in_ok-refused-in-Err-Refused.field-0 (c.in_ok-refused-in-Err-Refused.ensures {u = tt}) s)

-- nothing of the event is so
pub returns-in-Err-Shut-clause-stopped : goal.returns-in-Err-Shut-clause-stopped
returns-in-Err-Shut-clause-stopped g c = λ mine gs own at.
    let standing = share_standing g.L.Stood.stood g.L.Stood.wide in
    let o = g.L.Begun.opening in
    let Steps : Result (List Output) SiteFault → Type 0 = λ r. StepsTo standing mine o gs c.args.site.now c.args.event.now r c.event.new.self in
    let s = subst Steps (c.in-Err-Shut.is ∙ ap Err c.in-Err-Shut.field-0-is) (c.event.ensures.steps mine o gs at own) in
    halt_at standing mine o gs c.args.site.now c.event.new.self c.args.event.now (SiteFault.Shut c.in-Err-Shut.field-0-0) tt s
