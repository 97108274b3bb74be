use Rattle.std.proofs.Common.{◌≡◌, ◌∷◌, [], ℕ, true, refl, ap, sym, ◌∙◌, subst, Option, Some, None, Ok, Err}
use Rattle.std.specs.Option.{option_map, option_copied}
use Rattle.tp_outside.specs.MemDisk.{recorded, fresh}
use Rattle.tp_outside.specs.Story.{seen}
use Rattle.tp_model.specs.declared.line.Action.{Action}
use Rattle.tp_model.specs.declared.out_line.OutLine.{OutLine}
use Rattle.tp_model.specs.Happenings.{Task, task_at, task_of}
use Rattle.tp_model.specs.Lines.{stands_at}
use Rattle.tp_model.specs.Parts.{Event}
use Rattle.tp_model.specs.World.{Node, Frame, number_of, find_frame}
use Rattle.tp_network.specs.FrameRecord.{record_of}
use Rattle.tp_network.specs.Frames.{frame_of}
use Rattle.tp_world_sites.specs.NodeAnswers.{answer_told}
use Rattle.tp_world_sites.specs.Slots.{SlotPlays}
use Rattle.tp_world.specs.Stops.{stop_deed}
use Rattle.tp_world_sites.specs.Standing.{entry_answered}
use Rattle.tp_world.specs.World.{Gives}
use Rattle.tp_world_sites.specs.declared.site_slot.SiteSlot.{SiteSlot}
use Rattle.tp_world.proofs.Crashing.{same_index}
use Rattle.tp_world.proofs.StopDeeds.{IsNodeAt, node_at, has_played, disk_before, play_stops, play_fails, deed}
use Rattle.tp_world.proofs.StopTurns.{fails_with}
use Rattle.tp_world.proofs.Stood.{frame_same}
use Rattle.tp_world.proofs.Trying.{not_some, task_delivered}
use Rattle.tp_world.proofs.world.World.stop_delivery.Goals as goal

pub returns-in_default : goal.returns-in_default
returns-in_default c = λ w s z stops stand.
    let v = c.args.self.now in
    let none = not_some c.find.result c.in_default.not-Some in
    let missing : find_frame w.frames c.args.number ≡ None = sym (ap (λ o. option_map frame_of (option_copied o)) (sym none) ∙ c.find.ensures ∙ frame_same w v c.args.number stops.mirrors) in
    absurd (let clash = sym stand ∙ ap (λ (o : Option Frame). stands_at w s (elim o as (λ _. Option ℕ) [ None ↦ None | Some g ↦ Some g.to.node ])) missing in cc (clash))

pub returns-in_err-answer : goal.returns-in_err-answer
returns-in_err-answer c = λ w s z stops stand.
    let v = c.args.self.now in
    let k = c.args.number in
    let f = c.in-Some.frame.now in
    let e : Event = Event.Arrive f.from (record_of f.rec) in
    let there = ap (λ o. option_map frame_of (option_copied o)) (sym c.in-Some.is) ∙ c.find.ensures in
    let found : find_frame w.frames k ≡ Some (frame_of f) = sym (there ∙ frame_same w v k stops.mirrors) in
    let on : stands_at w s (Some f.to.node) ≡ true = ap (λ (o : Option Frame). stands_at w s (elim o as (λ _. Option ℕ) [ None ↦ None | Some g ↦ Some g.to.node ])) (sym found) ∙ stand in
    let at : IsNodeAt w s f.to.node = node_at w s f.to.node on in
    let task = task_delivered w v k (Some (frame_of f)) stops.mirrors there in
    let n = at.node in
    let x = c.index_mut.result.now in
    let y = c.arrive.new.self in
    let is = sym c.index_mut.ensures.value in
    let stop = c.args.stop.now in
    let g = c.in_err-answer.field-0.0 in
    let plays : SlotPlays x (number_of n) e (Err g) y = subst (λ (m : ℕ). SlotPlays x m e (Err g) y) (sym at.number) (c.in_err-answer.ensures {u = tt}) in
    let here : task_at w f.to.node e ≡ Some (record { node = n; event = e }) = ap (λ (o : Option Node). elim o as (λ _. Option Task) [ None ↦ None | Some q ↦ Some (record { node = q; event = e }) ]) at.at in
    fails_with (stop_deed w s z stop.call stop.fill (OutLine.Take k ∷ []) (Some (record { node = n; event = e }))) (stop_deed w s z stop.call stop.fill (OutLine.Take k ∷ []) (task_of w (Action.Again k))) g c.from_residual-in_err-answer.result
    c.args.lines.now c.push.new.self _ (ap (stop_deed w s z stop.call stop.fill (OutLine.Take k ∷ [])) (task ∙ here)) c.from_residual-in_err-answer.ensures.1
    (deed w s z c.args.place v stops c.requires x y is n at.found at.here e stop.call stop.fill (OutLine.Take k ∷ []) (Err g) c.args.lines.now c.push.new.self c.push.new.self _ (c.in_ok-push.ensures {u = tt}).ok
    (play_fails w s z c.args.place v stops c.requires x y is n at.found at.here e stop.call stop.fill g c.push.new.self c.push.new.self _ plays))

pub returns : goal.returns
returns c = λ w s z stops stand.
    let v = c.args.self.now in
    let k = c.args.number in
    let f = c.in-Some.frame.now in
    let e : Event = Event.Arrive f.from (record_of f.rec) in
    let there = ap (λ o. option_map frame_of (option_copied o)) (sym c.in-Some.is) ∙ c.find.ensures in
    let found : find_frame w.frames k ≡ Some (frame_of f) = sym (there ∙ frame_same w v k stops.mirrors) in
    let on : stands_at w s (Some f.to.node) ≡ true = ap (λ (o : Option Frame). stands_at w s (elim o as (λ _. Option ℕ) [ None ↦ None | Some g ↦ Some g.to.node ])) (sym found) ∙ stand in
    let at : IsNodeAt w s f.to.node = node_at w s f.to.node on in
    let task = task_delivered w v k (Some (frame_of f)) stops.mirrors there in
    let n = at.node in
    let x = c.index_mut.result.now in
    let y = c.arrive.new.self in
    let is = sym c.index_mut.ensures.value in
    let stop = c.args.stop.now in
    let a = answer_told c.in_ok-answer.answer c.arrive.new.entry in
    let plays : SlotPlays x (number_of n) e (Ok a) y = subst (λ (m : ℕ). SlotPlays x m e (Ok a) y) (sym at.number) (c.in_ok-answer.ensures {u = tt}) in
    let here : task_at w f.to.node e ≡ Some (record { node = n; event = e }) = ap (λ (o : Option Node). elim o as (λ _. Option Task) [ None ↦ None | Some q ↦ Some (record { node = q; event = e }) ]) at.at in
    let same = c.index.ensures ∙ same_index v.sites.items c.args.place c.index.result.now x c.requires ∙ is in
    let disk = disk_before w s z c.args.place v stops c.requires x y is n at.found at.here e c.in_ok-disk.disk ((c.in_ok-disk.ensures {u = tt}) ∙ ap (λ (q : SiteSlot). fresh (seen (recorded q.site.keeper.disk).story) []) same) in
    let stopped = c.stop_in_entry.ensures w s z n (entry_answered n e) x (has_played w s z c.args.place v stops c.requires x y is n at.found at.here e a (Action.Again k) _ plays (task ∙ here) (λ up. tt) refl refl refl refl) (sym at.number) disk in
    let r = c.stop_in_entry.result in
    subst (λ (o : Option Task). Gives (stop_deed w s z stop.call stop.fill (OutLine.Take k ∷ []) o) c.args.lines.now r c.stop_in_entry.new.lines c.stop_in_entry.new.self) (sym (task ∙ here))
    (deed w s z c.args.place v stops c.requires x y is n at.found at.here e stop.call stop.fill (OutLine.Take k ∷ []) r c.args.lines.now c.push.new.self c.stop_in_entry.new.lines c.stop_in_entry.new.self (c.in_ok-push.ensures {u = tt}).ok
    (play_stops w s z c.args.place v stops c.requires x y is n at.found at.here e a stop.call stop.fill r c.push.new.self c.stop_in_entry.new.lines c.stop_in_entry.new.self plays stopped))
