use Rattle.std.proofs.Common.{◌∙◌, sym, subst, refl, [], Ok, Err}
use Rattle.std.proofs.lemmas.List.{append-nil}
use Rattle.tp_model.specs.Happenings.{task_at}
use Rattle.tp_model.specs.Lines.{within_limits}
use Rattle.tp_model.specs.Parts.{Event}
use Rattle.tp_site.specs.NodeEvent.{event_of}
use Rattle.tp_world.specs.World.{Gives, task_turn}
use Rattle.tp_world.proofs.Tasks.{played_gives, played_fault, missing_gives}
use Rattle.tp_world_sites.specs.Faults.{sending_fault}
use Rattle.tp_world_sites.specs.NodeAnswers.{answer_told}
use Rattle.tp_world_sites.proofs.Handed.{err_is}
use Rattle.tp_world.proofs.Trying.{is_played, not_some, lent_back, lent_items}
use Rattle.tp_world.proofs.world.World.local_with.Goals as goal

pub returns-in_default : goal.returns-in_default
returns-in_default c = λ w h under. missing_gives w [] c.args.lines.now c.args.node (event_of c.args.event.now) tt c.args.self.now h (sym (not_some c.addr.result c.in_default.not-Some) ∙ c.addr.ensures)

pub returns-in_err-answer : goal.returns-in_err-answer
returns-in_err-answer c = λ w h under.
    let e : Event = event_of c.args.event.now in
    let f = c.in_err-answer.field-0.0 in
    let new = lent_back c.args.self.now c.play_at.new.sites in
    subst (λ r. Gives (within_limits (task_turn w [] (task_at w c.args.node e))) c.args.lines.now r c.args.lines.now new) (sym (err_is c.from_residual.result f c.from_residual.ensures.1))
    (played_fault w [] (task_at w c.args.node e) e c.in-Some.at f c.play_at.new.sites c.args.lines.now c.args.lines.now new
    (is_played w c.args.self.now c.args.node e c.in-Some.at (Err f) c.as_mut_slice.result.now c.play_at.new.sites h (sym c.in-Some.is ∙ c.addr.ensures) c.as_mut_slice.ensures.value (c.in_err-answer.ensures {u = tt} w)))

pub returns-in_err-settle : goal.returns-in_err-settle
returns-in_err-settle c = λ w h under.
    let e : Event = event_of c.args.event.now in
    let a = answer_told c.in_ok-answer.answer c.play_at.new.entry in
    let v = c.args.self.now in
    let mid = lent_back v c.play_at.new.sites in
    let f = c.in_err-settle.field-0.0 in
    subst (λ r. Gives (within_limits (task_turn w [] (task_at w c.args.node e))) c.args.lines.now r c.settle.new.lines c.settle.new.self) (sym (err_is c.from_residual-in_err-settle.result (sending_fault f) c.from_residual-in_err-settle.ensures.1))
    (played_gives w [] (task_at w c.args.node e) e c.in-Some.at a c.play_at.new.sites c.args.lines.now c.args.lines.now c.settle.new.lines (Err f) v mid c.settle.new.self h under
    (is_played w v c.args.node e c.in-Some.at (Ok a) c.as_mut_slice.result.now c.play_at.new.sites h (sym c.in-Some.is ∙ c.addr.ensures) c.as_mut_slice.ensures.value (c.in_ok-answer.ensures {u = tt} w))
    (record { sites = lent_items v c.as_mut_slice.result.now c.play_at.new.sites c.as_mut_slice.ensures.value c.play_at.auto.sites; nodes = refl; frames = refl; trees = refl })
    (sym (append-nil c.args.lines.now)) (c.in_err-settle.ensures {u = tt}))

pub returns : goal.returns
returns c = λ w h under.
    let e : Event = event_of c.args.event.now in
    let a = answer_told c.in_ok-answer.answer c.play_at.new.entry in
    let v = c.args.self.now in
    let mid = lent_back v c.play_at.new.sites in
    played_gives w [] (task_at w c.args.node e) e c.in-Some.at a c.play_at.new.sites c.args.lines.now c.args.lines.now c.settle.new.lines (Ok tt) v mid c.settle.new.self h under
    (is_played w v c.args.node e c.in-Some.at (Ok a) c.as_mut_slice.result.now c.play_at.new.sites h (sym c.in-Some.is ∙ c.addr.ensures) c.as_mut_slice.ensures.value (c.in_ok-answer.ensures {u = tt} w))
    (record { sites = lent_items v c.as_mut_slice.result.now c.play_at.new.sites c.as_mut_slice.ensures.value c.play_at.auto.sites; nodes = refl; frames = refl; trees = refl })
    (sym (append-nil c.args.lines.now)) (c.in_ok-settle.ensures {u = tt})
