use Rattle.std.proofs.Common.{rules, ◌≡◌, ◌<◌, ◌+◌, ◌^◌, ℕ, max, true, ap, sym, ◌∙◌, subst, arith, Ok, Err, List, [], length, reverse}
use Rattle.tp_outside.specs.FuseDisk.{fused}
use Rattle.tp_outside.specs.Fill.{filled}
use Rattle.tp_outside.specs.MemDisk.{Recorded, fresh}
use Rattle.tp_outside.specs.Story.{seen}
use Rattle.tp_outside.specs.declared.fuse_disk.FuseDisk.{FuseDisk}
use Rattle.tp_journal.specs.Keeping.{Forces}
use Rattle.tp_journal.specs.Records.{HasText}
use Rattle.tp_journal.specs.declared.faults.ForceFault.{ForceFault}
use Rattle.tp_model.specs.Disk.{disk_bytes}
use Rattle.tp_world_sites.proofs.LeftBy.{standing, starts_on, made_of, gives_memory, memory_alone, opens_at, stops_at, never_full, never_shut, left_whole, left_part, has_room}
use Rattle.tp_world_sites.proofs.left.left_by.Goals as goal

pub returns-in_err-journal : goal.returns-in_err-journal
returns-in_err-journal c = λ d is readable has room.
    let stop = c.args.stop.now in
    let rec = c.args.rec.now in
    let fits : length c.bytes-bytes.result.now < 2 ^ 64 = search rules in
    let small : length (disk_bytes d) < 2 ^ 64 = subst (λ (f : List ℕ). length f < 2 ^ 64) (c.bytes-bytes.ensures ∙ ap (λ (q : Recorded). seen q.story) is) fits in
    let made = made_of d stop c.max.result c.args.disk c.new-fuse.result is c.new-fuse.ensures in
    let f = c.in_err-journal.field-0.0 in
    gives_memory stop rec d f c.from_residual.result (memory_alone c.new-fuse.result (reverse d.records) f (starts_on d stop c.max.result c.new-fuse.result (Err f) made readable small (c.in_err-journal.ensures {u = tt}))) c.from_residual.ensures.1

pub returns-then-not-is_text_of : goal.returns-then-not-is_text_of
returns-then-not-is_text_of c = λ d is readable has room.
    let stop = c.args.stop.now in
    let rec = c.args.rec.now in
    let fits : length c.bytes-bytes.result.now < 2 ^ 64 = search rules in
    let small : length (disk_bytes d) < 2 ^ 64 = subst (λ (f : List ℕ). length f < 2 ^ 64) (c.bytes-bytes.ensures ∙ ap (λ (q : Recorded). seen q.story) is) fits in
    let made = made_of d stop c.max.result c.args.disk c.new-fuse.result is c.new-fuse.ensures in
    let j = c.in_ok-journal.journal in
    let began = starts_on d stop c.max.result c.new-fuse.result (Ok j) made readable small (c.in_ok-journal.ensures {u = tt}) in
    let number : c.max.result ≡ max (stop.call + 1) 2 = omega (arith, c.max.ensures, c.from-last.ensures) in
    let fit : c.is_text_of.result ≡ true = c.is_text_of.ensures.1 (subst (λ b. HasText b rec) (sym began.wide) has) in
    absurd (let clash = sym fit ∙ c.if-not-is_text_of.true in cc (clash))

pub returns-in-Ok : goal.returns-in-Ok
returns-in-Ok c = λ d is readable has room.
    let stop = c.args.stop.now in
    let rec = c.args.rec.now in
    let fits : length c.bytes-bytes.result.now < 2 ^ 64 = search rules in
    let small : length (disk_bytes d) < 2 ^ 64 = subst (λ (f : List ℕ). length f < 2 ^ 64) (c.bytes-bytes.ensures ∙ ap (λ (q : Recorded). seen q.story) is) fits in
    let made = made_of d stop c.max.result c.args.disk c.new-fuse.result is c.new-fuse.ensures in
    let j = c.in_ok-journal.journal in
    let began = starts_on d stop c.max.result c.new-fuse.result (Ok j) made readable small (c.in_ok-journal.ensures {u = tt}) in
    let number : c.max.result ≡ max (stop.call + 1) 2 = omega (arith, c.max.ensures, c.from-last.ensures) in
    let h = c.force.new.self in
    let image = left_whole d rec stop c.max.result c.new-fuse.result j readable has made began number (fused h.disk) (opens_at j h rec c.in-Ok._receipt began.wide (c.in-Ok.ensures {u = tt}).forces) in
    c.image.ensures ∙ ap (λ (q : FuseDisk). fresh (filled (fused q).fill (fused q).disk.story) []) c.disk.ensures ∙ ap (λ (b : List ℕ). fresh b []) image

pub returns-then-stopped : goal.returns-then-stopped
returns-then-stopped c = λ d is readable has room.
    let stop = c.args.stop.now in
    let rec = c.args.rec.now in
    let fits : length c.bytes-bytes.result.now < 2 ^ 64 = search rules in
    let small : length (disk_bytes d) < 2 ^ 64 = subst (λ (f : List ℕ). length f < 2 ^ 64) (c.bytes-bytes.ensures ∙ ap (λ (q : Recorded). seen q.story) is) fits in
    let made = made_of d stop c.max.result c.args.disk c.new-fuse.result is c.new-fuse.ensures in
    let j = c.in_ok-journal.journal in
    let began = starts_on d stop c.max.result c.new-fuse.result (Ok j) made readable small (c.in_ok-journal.ensures {u = tt}) in
    let number : c.max.result ≡ max (stop.call + 1) 2 = omega (arith, c.max.ensures, c.from-last.ensures) in
    let h = c.force.new.self in
    let forces : Forces (standing j) rec (Err (ForceFault.DiskFault c.in-Err-DiskFault.field-0-0)) (standing h) = subst (λ (f : ForceFault). Forces (standing j) rec (Err f) (standing h)) c.in-Err-DiskFault.field-0-is c.in-Err-DiskFault.ensures.forces in
    let stopped : (fused h.disk).stopped ≡ true = ap (λ (q : FuseDisk). (fused q).stopped) (sym c.disk-fuse.ensures) ∙ sym c.stopped.ensures ∙ c.if-stopped.true in
    let image = left_part d rec stop c.max.result c.new-fuse.result j readable has made began number (fused h.disk) stopped (stops_at j h rec c.in-Err-DiskFault.field-0-0 began.wide forces) in
    c.image-then-stopped.ensures ∙ ap (λ (q : FuseDisk). fresh (filled (fused q).fill (fused q).disk.story) []) c.disk-fuse.ensures ∙ ap (λ (b : List ℕ). fresh b []) image

pub returns-in-Err-Full : goal.returns-in-Err-Full
returns-in-Err-Full c = λ d is readable has room.
    let stop = c.args.stop.now in
    let rec = c.args.rec.now in
    let fits : length c.bytes-bytes.result.now < 2 ^ 64 = search rules in
    let small : length (disk_bytes d) < 2 ^ 64 = subst (λ (f : List ℕ). length f < 2 ^ 64) (c.bytes-bytes.ensures ∙ ap (λ (q : Recorded). seen q.story) is) fits in
    let made = made_of d stop c.max.result c.args.disk c.new-fuse.result is c.new-fuse.ensures in
    let j = c.in_ok-journal.journal in
    let began = starts_on d stop c.max.result c.new-fuse.result (Ok j) made readable small (c.in_ok-journal.ensures {u = tt}) in
    let number : c.max.result ≡ max (stop.call + 1) 2 = omega (arith, c.max.ensures, c.from-last.ensures) in
    let h = c.force.new.self in
    let n = c.in-Err-Full.field-0-0 in
    never_full j h rec n began.wide (has_room d rec stop c.max.result c.new-fuse.result j readable has made began number room)
    (subst (λ (f : ForceFault). Forces (standing j) rec (Err f) (standing h)) c.in-Err-Full.field-0-is c.in-Err-Full.ensures.forces)

pub returns-in-Err-Shut : goal.returns-in-Err-Shut
returns-in-Err-Shut c = λ d is readable has room.
    let stop = c.args.stop.now in
    let rec = c.args.rec.now in
    let fits : length c.bytes-bytes.result.now < 2 ^ 64 = search rules in
    let small : length (disk_bytes d) < 2 ^ 64 = subst (λ (f : List ℕ). length f < 2 ^ 64) (c.bytes-bytes.ensures ∙ ap (λ (q : Recorded). seen q.story) is) fits in
    let made = made_of d stop c.max.result c.args.disk c.new-fuse.result is c.new-fuse.ensures in
    let j = c.in_ok-journal.journal in
    let began = starts_on d stop c.max.result c.new-fuse.result (Ok j) made readable small (c.in_ok-journal.ensures {u = tt}) in
    let number : c.max.result ≡ max (stop.call + 1) 2 = omega (arith, c.max.ensures, c.from-last.ensures) in
    let h = c.force.new.self in
    let n = c.in-Err-Shut.field-0-0 in
    never_shut j h rec n began.unshut (subst (λ (f : ForceFault). Forces (standing j) rec (Err f) (standing h)) c.in-Err-Shut.field-0-is c.in-Err-Shut.ensures.forces)
