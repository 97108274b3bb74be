use Rattle.std.proofs.Common.{◌≡◌, [], ℕ, refl, ap, sym, ◌∙◌, subst, Option, Some, None, Ok, Err}
use Rattle.std.proofs.lemmas.List.{append-nil}
use Rattle.tp_outside.specs.MemDisk.{recorded, fresh}
use Rattle.tp_outside.specs.Story.{seen}
use Rattle.tp_model.specs.Happenings.{Task, task_at}
use Rattle.tp_model.specs.Parts.{Event}
use Rattle.tp_model.specs.World.{Node, number_of}
use Rattle.tp_site.specs.NodeEvent.{event_of}
use Rattle.tp_world_sites.specs.NodeAnswers.{answer_told}
use Rattle.tp_world_sites.specs.Slots.{SlotPlays}
use Rattle.tp_world.specs.Stops.{stop_deed}
use Rattle.tp_world_sites.specs.Standing.{entry_answered}
use Rattle.tp_world.specs.World.{Gives}
use Rattle.tp_world_sites.specs.declared.site_slot.SiteSlot.{SiteSlot}
use Rattle.tp_world.proofs.Crashing.{same_index}
use Rattle.tp_world.proofs.StopDeeds.{IsNodeAt, node_at, has_played, disk_before, play_stops, play_fails, deed}
use Rattle.tp_world.proofs.StopTurns.{fails_with}
use Rattle.tp_world.proofs.world.World.stop_local.Goals as goal

pub returns-in_err-answer : goal.returns-in_err-answer
returns-in_err-answer c = λ w s z d stops stand task under.
    let v = c.args.self.now in
    let e : Event = event_of c.args.event.now in
    let at : IsNodeAt w s c.args.node = node_at w s c.args.node stand in
    let n = at.node in
    let x = c.index_mut.result.now in
    let y = c.play.new.self in
    let is = sym c.index_mut.ensures.value in
    let stop = c.args.stop.now in
    let f = c.in_err-answer.field-0.0 in
    let plays : SlotPlays x (number_of n) e (Err f) y = subst (λ (k : ℕ). SlotPlays x k e (Err f) y) (sym at.number) (c.in_err-answer.ensures {u = tt}) in
    let here : task_at w c.args.node e ≡ Some (record { node = n; event = e }) = ap (λ (o : Option Node). elim o as (λ _. Option Task) [ None ↦ None | Some q ↦ Some (record { node = q; event = e }) ]) at.at in
    fails_with (stop_deed w s z stop.call stop.fill [] (Some (record { node = n; event = e }))) (stop_deed w s z stop.call stop.fill [] (task_at w c.args.node e)) f c.from_residual-in_err-answer.result c.args.lines.now c.args.lines.now _
    (ap (stop_deed w s z stop.call stop.fill []) here) c.from_residual-in_err-answer.ensures.1
    (deed w s z c.args.place v stops c.requires x y is n at.found at.here e stop.call stop.fill [] (Err f) c.args.lines.now c.args.lines.now c.args.lines.now _ (sym (append-nil c.args.lines.now))
    (play_fails w s z c.args.place v stops c.requires x y is n at.found at.here e stop.call stop.fill f c.args.lines.now c.args.lines.now _ plays))

pub returns : goal.returns
returns c = λ w s z d stops stand task under.
    let v = c.args.self.now in
    let e : Event = event_of c.args.event.now in
    let at : IsNodeAt w s c.args.node = node_at w s c.args.node stand in
    let n = at.node in
    let x = c.index_mut.result.now in
    let y = c.play.new.self in
    let is = sym c.index_mut.ensures.value in
    let stop = c.args.stop.now in
    let a = answer_told c.in_ok-answer.answer c.play.new.entry in
    let plays : SlotPlays x (number_of n) e (Ok a) y = subst (λ (k : ℕ). SlotPlays x k e (Ok a) y) (sym at.number) (c.in_ok-answer.ensures {u = tt}) in
    let here : task_at w c.args.node e ≡ Some (record { node = n; event = e }) = ap (λ (o : Option Node). elim o as (λ _. Option Task) [ None ↦ None | Some q ↦ Some (record { node = q; event = e }) ]) at.at in
    let same = c.index.ensures ∙ same_index v.sites.items c.args.place c.index.result.now x c.requires ∙ is in
    let disk = disk_before w s z c.args.place v stops c.requires x y is n at.found at.here e c.in_ok-disk.disk ((c.in_ok-disk.ensures {u = tt}) ∙ ap (λ (q : SiteSlot). fresh (seen (recorded q.site.keeper.disk).story) []) same) in
    let stopped = c.stop_in_entry.ensures w s z n (entry_answered n e) x (has_played w s z c.args.place v stops c.requires x y is n at.found at.here e a d _ plays (task ∙ here) under refl refl refl refl) (sym at.number) disk in
    let r = c.stop_in_entry.result in
    subst (λ (o : Option Task). Gives (stop_deed w s z stop.call stop.fill [] o) c.args.lines.now r c.stop_in_entry.new.lines c.stop_in_entry.new.self) (sym here)
    (deed w s z c.args.place v stops c.requires x y is n at.found at.here e stop.call stop.fill [] r c.args.lines.now c.args.lines.now c.stop_in_entry.new.lines c.stop_in_entry.new.self (sym (append-nil c.args.lines.now))
    (play_stops w s z c.args.place v stops c.requires x y is n at.found at.here e a stop.call stop.fill r c.args.lines.now c.stop_in_entry.new.lines c.stop_in_entry.new.self plays stopped))
