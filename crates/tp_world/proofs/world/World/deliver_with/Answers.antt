use Rattle.std.proofs.Common.{◌∙◌, ◌∷◌, [], sym, ap, subst, refl, Some, None, Ok, Err}
use Rattle.std.specs.Option.{option_map, option_copied}
use Rattle.tp_model.specs.declared.out_line.OutLine.{OutLine}
use Rattle.tp_model.specs.declared.line.Action.{Action}
use Rattle.tp_model.specs.Happenings.{task_at, task_of}
use Rattle.tp_model.specs.Lines.{within_limits}
use Rattle.tp_model.specs.Parts.{Event, Arrive}
use Rattle.tp_network.specs.FrameRecord.{record_of}
use Rattle.tp_network.specs.Frames.{frame_of}
use Rattle.tp_world.specs.World.{Gives, task_turn}
use Rattle.tp_world.proofs.Tasks.{played_gives, played_fault, missing_gives, none_gives}
use Rattle.tp_world_sites.specs.Faults.{sending_fault}
use Rattle.tp_world_sites.specs.NodeAnswers.{answer_told}
use Rattle.tp_world_sites.proofs.Handed.{err_is}
use Rattle.tp_world.proofs.Trying.{is_played, not_some, lent_back, lent_items, task_delivered}
use Rattle.tp_world.proofs.world.World.deliver_with.Goals as goal

pub returns-in_default : goal.returns-in_default
returns-in_default c = λ w h.
    let v = c.args.self.now in
    let k = c.args.number in
    let none = not_some c.find.result c.in_default.not-Some in
    subst (λ o. Gives (within_limits (task_turn w (OutLine.Take k ∷ []) o)) c.args.lines.now (Ok tt) c.args.lines.now v)
    (sym (task_delivered w v k None h (ap (λ o. option_map frame_of (option_copied o)) (sym none) ∙ c.find.ensures)))
    (none_gives w (OutLine.Take k ∷ []) c.args.lines.now tt v h)

pub returns-in_default-addr : goal.returns-in_default-addr
returns-in_default-addr c = λ w h.
    let v = c.args.self.now in
    let k = c.args.number in
    let f = c.in-Some.frame.now in
    let e : Event = Arrive f.from (record_of f.rec) in
    subst (λ o. Gives (within_limits (task_turn w (OutLine.Take k ∷ []) o)) c.args.lines.now (Ok tt) c.args.lines.now v)
    (sym (task_delivered w v k (Some (frame_of f)) h (ap (λ o. option_map frame_of (option_copied o)) (sym c.in-Some.is) ∙ c.find.ensures)))
    (missing_gives w (OutLine.Take k ∷ []) c.args.lines.now f.to.node e tt v h (sym (not_some c.addr.result c.in_default-addr.not-Some) ∙ c.addr.ensures))

pub returns-in_err-answer : goal.returns-in_err-answer
returns-in_err-answer c = λ w h.
    let v = c.args.self.now in
    let k = c.args.number in
    let f = c.in-Some.frame.now in
    let e : Event = Arrive f.from (record_of f.rec) in
    let g = c.in_err-answer.field-0.0 in
    let new = lent_back v c.arrive_at.new.sites in
    subst (λ r. Gives (within_limits (task_turn w (OutLine.Take k ∷ []) (task_of w (Action.Again k)))) c.args.lines.now r c.push.new.self new)
    (sym (err_is c.from_residual-in_err-answer.result g c.from_residual-in_err-answer.ensures.1))
    (subst (λ o. Gives (within_limits (task_turn w (OutLine.Take k ∷ []) o)) c.args.lines.now (Err g) c.push.new.self new)
    (sym (task_delivered w v k (Some (frame_of f)) h (ap (λ o. option_map frame_of (option_copied o)) (sym c.in-Some.is) ∙ c.find.ensures)))
    (played_fault w (OutLine.Take k ∷ []) (task_at w f.to.node e) e c.in-Some-addr.at g c.arrive_at.new.sites c.args.lines.now c.push.new.self new
    (is_played w v f.to.node e c.in-Some-addr.at (Err g) c.as_mut_slice.result.now c.arrive_at.new.sites h (sym c.in-Some-addr.is ∙ c.addr.ensures) c.as_mut_slice.ensures.value (c.in_err-answer.ensures {u = tt} w))))

pub returns-in_err-settle : goal.returns-in_err-settle
returns-in_err-settle c = λ w h.
    let v = c.args.self.now in
    let k = c.args.number in
    let f = c.in-Some.frame.now in
    let e : Event = Arrive f.from (record_of f.rec) in
    let a = answer_told c.in_ok-answer.answer c.arrive_at.new.entry in
    let mid = lent_back v c.arrive_at.new.sites in
    let g = c.in_err-settle.field-0.0 in
    subst (λ r. Gives (within_limits (task_turn w (OutLine.Take k ∷ []) (task_of w (Action.Again k)))) c.args.lines.now r c.settle.new.lines c.settle.new.self) (sym (err_is c.from_residual-in_err-settle.result (sending_fault g) c.from_residual-in_err-settle.ensures.1))
    (subst (λ o. Gives (within_limits (task_turn w (OutLine.Take k ∷ []) o)) c.args.lines.now (Err (sending_fault g)) c.settle.new.lines c.settle.new.self)
    (sym (task_delivered w v k (Some (frame_of f)) h (ap (λ o. option_map frame_of (option_copied o)) (sym c.in-Some.is) ∙ c.find.ensures)))
    (played_gives w (OutLine.Take k ∷ []) (task_at w f.to.node e) e c.in-Some-addr.at a c.arrive_at.new.sites c.args.lines.now c.push.new.self c.settle.new.lines (Err g) v mid c.settle.new.self h (λ up. tt)
    (is_played w v f.to.node e c.in-Some-addr.at (Ok a) c.as_mut_slice.result.now c.arrive_at.new.sites h (sym c.in-Some-addr.is ∙ c.addr.ensures) c.as_mut_slice.ensures.value (c.in_ok-answer.ensures {u = tt} w))
    (record { sites = lent_items v c.as_mut_slice.result.now c.arrive_at.new.sites c.as_mut_slice.ensures.value c.arrive_at.auto.sites; nodes = refl; frames = refl; trees = refl })
    (c.in_ok-push.ensures {u = tt}).ok (c.in_err-settle.ensures {u = tt})))

pub returns : goal.returns
returns c = λ w h.
    let v = c.args.self.now in
    let k = c.args.number in
    let f = c.in-Some.frame.now in
    let e : Event = Arrive f.from (record_of f.rec) in
    let a = answer_told c.in_ok-answer.answer c.arrive_at.new.entry in
    let mid = lent_back v c.arrive_at.new.sites in
    subst (λ o. Gives (within_limits (task_turn w (OutLine.Take k ∷ []) o)) c.args.lines.now (Ok tt) c.settle.new.lines c.settle.new.self)
    (sym (task_delivered w v k (Some (frame_of f)) h (ap (λ o. option_map frame_of (option_copied o)) (sym c.in-Some.is) ∙ c.find.ensures)))
    (played_gives w (OutLine.Take k ∷ []) (task_at w f.to.node e) e c.in-Some-addr.at a c.arrive_at.new.sites c.args.lines.now c.push.new.self c.settle.new.lines (Ok tt) v mid c.settle.new.self h (λ up. tt)
    (is_played w v f.to.node e c.in-Some-addr.at (Ok a) c.as_mut_slice.result.now c.arrive_at.new.sites h (sym c.in-Some-addr.is ∙ c.addr.ensures) c.as_mut_slice.ensures.value (c.in_ok-answer.ensures {u = tt} w))
    (record { sites = lent_items v c.as_mut_slice.result.now c.arrive_at.new.sites c.as_mut_slice.ensures.value c.arrive_at.auto.sites; nodes = refl; frames = refl; trees = refl })
    (c.in_ok-push.ensures {u = tt}).ok (c.in_ok-settle.ensures {u = tt}))
