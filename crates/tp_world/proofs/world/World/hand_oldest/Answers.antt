use Rattle.std.proofs.Common.{◌∙◌, ap, sym, subst, refl, None, Some}
use Rattle.tp_model.specs.Happenings.{Mark, happens}
use Rattle.tp_world.specs.Drains.{Hands}
use Rattle.tp_network.specs.Frames.{handed_over}
use Rattle.tp_world.specs.declared.world.World.{World as CodeWorld}
use Rattle.tp_world.proofs.Drained.{oldest_stood, stands_marked, stands_unmarked}
use Rattle.tp_world_sites.proofs.Handed.{err_is}
use Rattle.tp_world.proofs.Trying.{not_some}
use Rattle.tp_world.proofs.world.World.hand_oldest.Goals as goal

pub returns-in_err-deliver : goal.returns-in_err-deliver
returns-in_err-deliver c = λ w h.
    let v = c.args.self.now in
    let new : CodeWorld = record v { frames = c.hand_oldest.new.self } in
    let k = c.in-Some.frame in
    let marked = c.hand_oldest.ensures.frames ∙ ap (handed_over v.frames) c.in-Some.is in
    let f = c.in_err-deliver.field-0.0 in
    subst (λ r. Hands w c.args.lines.now r c.deliver.new.lines c.deliver.new.self) (sym (err_is c.from_residual.result f c.from_residual.ensures.1))
    (k, oldest_stood w v (Some k) h (sym c.in-Some.is ∙ c.hand_oldest.ensures.number), c.in_err-deliver.ensures {u = tt} (happens w (Mark k)).world (stands_marked w v new k h marked refl refl refl))

pub returns : goal.returns
returns c = λ w h.
    let v = c.args.self.now in
    let new : CodeWorld = record v { frames = c.hand_oldest.new.self } in
    let k = c.in-Some.frame in
    let marked = c.hand_oldest.ensures.frames ∙ ap (handed_over v.frames) c.in-Some.is in
    (k, oldest_stood w v (Some k) h (sym c.in-Some.is ∙ c.hand_oldest.ensures.number), c.in_ok-deliver.ensures {u = tt} (happens w (Mark k)).world (stands_marked w v new k h marked refl refl refl))

pub returns-in_default : goal.returns-in_default
returns-in_default c = λ w h.
    let v = c.args.self.now in
    let new : CodeWorld = record v { frames = c.hand_oldest.new.self } in
    let none = not_some c.hand_oldest.result c.in_default.not-Some in
    (oldest_stood w v None h (sym none ∙ c.hand_oldest.ensures.number), refl, stands_unmarked w v new h (c.hand_oldest.ensures.frames ∙ ap (handed_over v.frames) none) refl refl refl)
