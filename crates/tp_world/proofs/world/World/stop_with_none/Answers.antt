use Rattle.std.proofs.Common.{sym, subst}
use Rattle.tp_model.specs.declared.out_line.RecordFate.{RecordFate}
use Rattle.tp_model.specs.Happenings.{after_stop}
use Rattle.tp_model.specs.Lines.{within_limits}
use Rattle.tp_world.specs.World.{Gives}
use Rattle.tp_world.proofs.Booting.{slot_on}
use Rattle.tp_world.proofs.Halted.{reopens_fault, stopped_again}
use Rattle.tp_world_sites.proofs.Handed.{err_is}
use Rattle.tp_world.proofs.world.World.stop_with_none.Goals as goal

pub returns-in_err-journal : goal.returns-in_err-journal
returns-in_err-journal c = λ w s tells starts place stand.
    let old = c.args.self.now in
    let x = c.index.result.now in
    let f = c.in_err-journal.field-0.0 in
    subst (λ r. Gives (within_limits (after_stop w s RecordFate.None)) c.args.lines.now r c.args.lines.now old) (sym (err_is c.from_residual.result f c.from_residual.ensures.1))
    (reopens_fault w s old c.args.place x stand place c.requires (sym c.index.ensures) f (within_limits (after_stop w s RecordFate.None)) c.args.lines.now c.args.lines.now old (λ a b. c.in_err-journal.ensures {u = tt} a b))

pub returns : goal.returns
returns c = λ w s tells starts place stand.
    let old = c.args.self.now in
    let x = c.index.result.now in
    let j = c.in_ok-journal.journal in
    c.stopped.ensures w s (slot_on x j) tells starts place (stopped_again w s old c.args.place x stand place c.requires (sym c.index.ensures) j (λ a b. c.in_ok-journal.ensures {u = tt} a b))
