-- What the site shows after the event is what the entry shows.
use Rattle.std.proofs.Common.{◌∙◌, ap, List}
use Rattle.tp_outside.specs.declared.mem_disk.MemDisk.{MemDisk}
use Rattle.tp_logrec.specs.declared.record.LogRec.{LogRec}
use Rattle.tp_journal.specs.Journals.{Kept}
use Rattle.tp_world_sites.specs.Slots.{shown_behind}
use Rattle.tp_closing.specs.Seen.{words_heeded}
use Rattle.tp_unite.proofs.playing.Playing.tell.Goals as goal

pub returns : goal.returns
returns c = λ ds es qs is sees.
    let words = c.words_behind.ensures ∙ ap (λ (l : List LogRec). words_heeded (shown_behind l c.args.count)) (c.list.ensures.is ∙ ap (λ (j : Kept MemDisk). j.list) c.log.ensures) in
    c.in_ok-enter.ensures ds es qs (record { entry = is.entry; here = is.here; there = is.there; after_is = c.tree.ensures ∙ is.after_is; leaves_is = c.is_unchanged.ensures ∙ is.leaves_is; rec_is = words ∙ is.rec_is }) sees
