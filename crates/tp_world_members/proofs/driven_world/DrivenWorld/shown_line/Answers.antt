use Rattle.std.proofs.Common.{refl, ap, length}
use Rattle.tp_members.specs.Expansion.{memberless}
use Rattle.tp_world_members.proofs.Answered.{err_is}
use Rattle.tp_world_members.proofs.DrivenLines.{line_answered, line_failed}
use Rattle.tp_world_members.proofs.driven_world.DrivenWorld.shown_line.Goals as goal

pub returns-in_err-play-clause-plays : goal.returns-in_err-play-clause-plays
returns-in_err-play-clause-plays g c = λ w stands shown.
    let old = c.args.self.now in
    let f = c.in_err-play.field-0.0 in
    line_failed _ w c.args.line.now old (record { world = c.play.new.self; members = old.members; ended = old.ended }) c.args.lines.now c.play.new.lines c.play.new.lines f c.from_residual.result c.play.new.self
    (err_is c.from_residual.result f c.from_residual.ensures.1) shown (c.in_err-play.ensures {u = tt} (memberless w) stands.world) refl

pub returns-clause-plays : goal.returns-clause-plays
returns-clause-plays g c = λ w stands shown.
    let old = c.args.self.now in
    line_answered _ w c.args.line.now old (record { world = c.answer_all.new.world; members = c.answer_all.new.members; ended = old.ended }) c.args.lines.now c.play.new.lines c.answer_all.new.lines (length c.as_slice-from.result.now) c.answer_all.result
    c.play.new.self shown stands (ap (λ ls. length ls) c.as_slice-from.ensures) (c.in_ok-play.ensures {u = tt} (memberless w) stands.world) c.answer_all.ensures
