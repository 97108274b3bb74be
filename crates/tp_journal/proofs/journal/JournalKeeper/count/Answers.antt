use Rattle.std.proofs.Common.{length, sym, ap, ◌∙◌}
use Rattle.tp_journal.specs.Records.{recs_of, first_place}
use Rattle.tp_journal.specs.Journals.{Kept}
use Rattle.tp_journal.proofs.RecordBodies.{receipts_long}
use Rattle.tp_journal.proofs.journal.JournalKeeper.count.Goals as goal

pub returns : goal.returns
returns g c =
    let now = c.args.self.now in
    ap length (c.list.ensures.is ∙ ap recs_of c.shelf.ensures ∙ ap (λ (v : Kept _). v.list) c.self.view_is) ∙ sym (receipts_long (first_place now.wide) now.wide now.list)
