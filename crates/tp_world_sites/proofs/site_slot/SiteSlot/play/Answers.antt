use Rattle.std.proofs.Common.{◌≡◌, length, refl, ap, subst, ◌∙◌}
use Rattle.std.specs.Option.{option_map}
use Rattle.tp_model.specs.Happenings.{log_shown}
use Rattle.tp_model.specs.Outcomes.{is_unchanged}
use Rattle.tp_site.specs.NodeEvent.{event_of}
use Rattle.tp_site.specs.Site.{IsPlayed, known_at}
use Rattle.tp_site.specs.State.{tree_in}
use Rattle.tp_world_sites.specs.Slots.{standing, shown_behind}
use Rattle.tp_world_sites.proofs.Logs.{shown_forced}
use Rattle.tp_world_sites.proofs.Entries.{step_made}
use Rattle.tp_world_sites.proofs.site_slot.SiteSlot.play.Goals as goal

-- what is shown after the records from before is the record of the move
pub returns-in-Ok : goal.returns-in-Ok
returns-in-Ok c =
    let old = c.args.self.now.site in
    let same = c.note_tree.ensures.same in
    let noted = c.note_tree.new.self in
    let new = c.play_into.new.self in
    let move = c.in-Ok.ensures.0 in
    let count = length c.records-count.result.now in
    let rec : shown_behind new.keeper.list count ≡ option_map log_shown move.rec =
    ap (λ l. shown_behind new.keeper.list (length l)) c.records-count.ensures ∙ shown_forced noted.keeper new.keeper move.rec c.in-Ok.ensures.1.forced in
    record {
      move = move;
      played = subst (λ s. IsPlayed standing s c.args.node (event_of c.args.event.now) (record { refusal = c.in-Ok.refusal; outs = c.play_into.new.outs }) new move) same c.in-Ok.ensures.1;
      change = c.fill.ensures
          ∙ step_made c.note_tree.new.tree (tree_in (known_at old c.args.node)) (tree_in (known_at new c.args.node)) (tree_in (known_at new c.args.node)) c.is_unchanged.result (is_unchanged (event_of c.args.event.now))
          (shown_behind new.keeper.list count) (option_map log_shown move.rec) c.note_tree.ensures.tree refl c.is_unchanged.ensures rec;
    }
