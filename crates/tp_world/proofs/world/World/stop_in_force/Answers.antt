use Rattle.std.proofs.Common.{◌≡◌, ◌-◌, ℕ, ap, sym, ◌∙◌, subst, arith, Some, None, Ok, Err, List, length, reverse, slice_get}
use Rattle.std.specs.List.{AllByRecursion}
use Rattle.std.specs.Option.{option_copied}
use Rattle.tp_logrec.specs.declared.record.LogRec.{LogRec}
use Rattle.tp_outside.specs.declared.mem_disk.MemDisk.{MemDisk}
use Rattle.tp_journal.specs.Journals.{Kept}
use Rattle.tp_journal.specs.Records.{HasText}
use Rattle.tp_model.specs.Disk.{disk_bytes, remains}
use Rattle.tp_model.specs.Happenings.{stop_in_force, WorldTurn}
use Rattle.tp_model.specs.Lines.{within_limits}
use Rattle.tp_model.specs.World.{number_of}
use Rattle.tp_world.specs.Settled.{IsEntered}
use Rattle.tp_world_sites.specs.declared.site_slot.Entry.{Entry}
use Rattle.tp_world_sites.specs.Sites.{place_of_site}
use Rattle.tp_world_sites.specs.Standing.{after_entry}
use Rattle.tp_world.specs.World.{Gives}
use Rattle.tp_world.proofs.Booting.{slot_on}
use Rattle.tp_world.proofs.StopCases.{last_is, left_ok, opened_ok, left_fails, opens_fails, kept_here, lost_here, kept_stopped, kept_turn, lost_turn, lost_tells, lost_starts, lost_stopped}
use Rattle.tp_world_sites.proofs.Handed.{err_is}
use Rattle.tp_world.proofs.Trying.{not_some}
use Rattle.tp_world.proofs.world.World.stop_in_force.Goals as goal

pub returns-in_default : goal.returns-in_default
returns-in_default c = λ w s z n e r x outs h logs number disk.
    let v = c.args.self.now in
    let place = c.args.place in
    let entry : Entry = record { outs = outs; change = c.args.change.now } in
    let y = c.index.result.now in
    let within = c.requires in
    let here = sym c.index.ensures in
    let texts = subst (λ (k : Kept MemDisk). AllByRecursion (HasText k.wide) k.list) c.log.ensures c.list-records.ensures.texts in
    let records = c.list-records.ensures.is ∙ ap (λ (k : Kept MemDisk). k.list) c.log.ensures in
    let none = not_some c.last.result c.in_default.not-Some in
    let clash : None ≡ Some r = ap option_copied (sym none) ∙ c.last.ensures.value ∙ ap (λ (l : List LogRec). slice_get l (length l - 1)) records ∙ last_is w s z n e r x place entry v h within logs y here texts in
    absurd (cc (clash))

pub returns-in_err-left : goal.returns-in_err-left
returns-in_err-left c = λ w s z n e r x outs h logs number disk.
    let v = c.args.self.now in
    let place = c.args.place in
    let entry : Entry = record { outs = outs; change = c.args.change.now } in
    let y = c.index.result.now in
    let within = c.requires in
    let here = sym c.index.ensures in
    let texts = subst (λ (k : Kept MemDisk). AllByRecursion (HasText k.wide) k.list) c.log.ensures c.list-records.ensures.texts in
    let records = c.list-records.ensures.is ∙ ap (λ (k : Kept MemDisk). k.list) c.log.ensures in
    let stop = c.args.stop.now in
    let st = remains stop.call stop.fill r z.disk in
    let turn = within_limits (stop_in_force w n z e st) in
    let same : Some c.in-Some.rec.now ≡ Some r = ap option_copied (sym c.in-Some.is) ∙ c.last.ensures.value ∙ ap (λ (l : List LogRec). slice_get l (length l - 1)) records ∙ last_is w s z n e r x place entry v h within logs y here texts in
    let is_r : c.in-Some.rec.now ≡ r = cc (same) in
    let f = c.in_err-left.field-0.0 in
    let fails = left_ok w s z n e r x place entry v h within logs y here texts stop c.in-Some.rec.now c.args.disk (Err f) is_r disk (c.in_err-left.ensures {u = tt}) in
    subst (λ q. Gives turn c.args.lines.now q c.args.lines.now v) (sym (err_is c.from_residual.result f c.from_residual.ensures.1)) (left_fails stop r z.disk f turn c.args.lines.now c.args.lines.now v fails)

pub returns-in_err-journal : goal.returns-in_err-journal
returns-in_err-journal c = λ w s z n e r x outs h logs number disk.
    let v = c.args.self.now in
    let place = c.args.place in
    let entry : Entry = record { outs = outs; change = c.args.change.now } in
    let y = c.index.result.now in
    let within = c.requires in
    let here = sym c.index.ensures in
    let texts = subst (λ (k : Kept MemDisk). AllByRecursion (HasText k.wide) k.list) c.log.ensures c.list-records.ensures.texts in
    let records = c.list-records.ensures.is ∙ ap (λ (k : Kept MemDisk). k.list) c.log.ensures in
    let stop = c.args.stop.now in
    let st = remains stop.call stop.fill r z.disk in
    let turn = within_limits (stop_in_force w n z e st) in
    let same : Some c.in-Some.rec.now ≡ Some r = ap option_copied (sym c.in-Some.is) ∙ c.last.ensures.value ∙ ap (λ (l : List LogRec). slice_get l (length l - 1)) records ∙ last_is w s z n e r x place entry v h within logs y here texts in
    let is_r : c.in-Some.rec.now ≡ r = cc (same) in
    let left = c.in_ok-left.left in
    let leaves = left_ok w s z n e r x place entry v h within logs y here texts stop c.in-Some.rec.now c.args.disk (Ok left) is_r disk (c.in_ok-left.ensures {u = tt}) in
    let f = c.in_err-journal.field-0.0 in
    let fails = opened_ok w s z n e r x place entry v h within logs y here texts stop left (Err f) leaves (c.in_err-journal.ensures {u = tt}) in
    subst (λ q. Gives turn c.args.lines.now q c.args.lines.now v) (sym (err_is c.from_residual-in_err-journal.result f c.from_residual-in_err-journal.ensures.1)) (opens_fails (disk_bytes st.disk) (reverse st.disk.records) f turn c.args.lines.now c.args.lines.now v fails)

pub returns-then-list-records : goal.returns-then-list-records
returns-then-list-records c = λ w s z n e r x outs h logs number disk.
    let v = c.args.self.now in
    let place = c.args.place in
    let entry : Entry = record { outs = outs; change = c.args.change.now } in
    let y = c.index.result.now in
    let within = c.requires in
    let here = sym c.index.ensures in
    let texts = subst (λ (k : Kept MemDisk). AllByRecursion (HasText k.wide) k.list) c.log.ensures c.list-records.ensures.texts in
    let records = c.list-records.ensures.is ∙ ap (λ (k : Kept MemDisk). k.list) c.log.ensures in
    let stop = c.args.stop.now in
    let st = remains stop.call stop.fill r z.disk in
    let turn = within_limits (stop_in_force w n z e st) in
    let same : Some c.in-Some.rec.now ≡ Some r = ap option_copied (sym c.in-Some.is) ∙ c.last.ensures.value ∙ ap (λ (l : List LogRec). slice_get l (length l - 1)) records ∙ last_is w s z n e r x place entry v h within logs y here texts in
    let is_r : c.in-Some.rec.now ≡ r = cc (same) in
    let left = c.in_ok-left.left in
    let leaves = left_ok w s z n e r x place entry v h within logs y here texts stop c.in-Some.rec.now c.args.disk (Ok left) is_r disk (c.in_ok-left.ensures {u = tt}) in
    let j = c.in_ok-journal.journal in
    let opens = opened_ok w s z n e r x place entry v h within logs y here texts stop left (Ok j) leaves (c.in_ok-journal.ensures {u = tt}) in
    let counts = ap length c.list.ensures.is in
    let played = ap length records in
    let all : length j.list ≡ length y.site.keeper.list = omega (arith, counts, played, c.if-list-records.true) in
    let kept = kept_here w s z n e r x place entry v h within logs y here texts stop.call stop.fill j opens all in
    let new = c.enter.new.self in
    let enters : IsEntered (number_of n) entry.change v new = subst (λ (k : ℕ). IsEntered k entry.change v new) number (c.in_ok-enter.ensures {u = tt}) in
    subst (λ (t : WorldTurn). Gives (within_limits t) c.args.lines.now c.stopped.result c.stopped.new.lines c.stopped.new.self) (kept_turn w s z n e r x place entry v h within logs y here texts stop.call stop.fill j opens kept)
    (c.stopped.ensures (after_entry w n (Some e)) s (slot_on y j) h.tells_after h.starts_after (h.at ∙ ap (λ xs. place_of_site xs.items s) (sym enters.sites)) (kept_stopped w s z n e r x place entry v h within logs y here texts stop.call stop.fill j opens new kept enters))

pub returns : goal.returns
returns c = λ w s z n e r x outs h logs number disk.
    let v = c.args.self.now in
    let place = c.args.place in
    let entry : Entry = record { outs = outs; change = c.args.change.now } in
    let y = c.index.result.now in
    let within = c.requires in
    let here = sym c.index.ensures in
    let texts = subst (λ (k : Kept MemDisk). AllByRecursion (HasText k.wide) k.list) c.log.ensures c.list-records.ensures.texts in
    let records = c.list-records.ensures.is ∙ ap (λ (k : Kept MemDisk). k.list) c.log.ensures in
    let stop = c.args.stop.now in
    let st = remains stop.call stop.fill r z.disk in
    let turn = within_limits (stop_in_force w n z e st) in
    let same : Some c.in-Some.rec.now ≡ Some r = ap option_copied (sym c.in-Some.is) ∙ c.last.ensures.value ∙ ap (λ (l : List LogRec). slice_get l (length l - 1)) records ∙ last_is w s z n e r x place entry v h within logs y here texts in
    let is_r : c.in-Some.rec.now ≡ r = cc (same) in
    let left = c.in_ok-left.left in
    let leaves = left_ok w s z n e r x place entry v h within logs y here texts stop c.in-Some.rec.now c.args.disk (Ok left) is_r disk (c.in_ok-left.ensures {u = tt}) in
    let j = c.in_ok-journal.journal in
    let opens = opened_ok w s z n e r x place entry v h within logs y here texts stop left (Ok j) leaves (c.in_ok-journal.ensures {u = tt}) in
    let counts = ap length c.list.ensures.is in
    let played = ap length records in
    let lost = lost_here w s z n e r x place entry v h within logs y here texts stop.call stop.fill j opens (λ all. absurd (omega (arith, all, counts, played, c.if-list-records.false))) in
    subst (λ (t : WorldTurn). Gives (within_limits t) c.args.lines.now c.stopped-2.result c.stopped-2.new.lines c.stopped-2.new.self) (lost_turn w s z n e r x place entry v h within logs y here texts stop.call stop.fill j opens lost)
    (c.stopped-2.ensures _ s (slot_on x j) (lost_tells w s z n e r x place entry v h within logs y here texts stop.call stop.fill j opens lost) (lost_starts w s z n e r x place entry v h within logs y here texts stop.call stop.fill j opens lost) h.at
    (lost_stopped w s z n e r x place entry v h within logs y here texts stop.call stop.fill j opens c.args.node number lost))
