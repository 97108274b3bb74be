use Rattle.std.proofs.Common.{◌≡◌, length, arith, ap, ◌∙◌}
use Rattle.tp_journal.specs.Records.{recs_of, first_place}
use Rattle.tp_journal.specs.Journals.{Kept}
use Rattle.tp_journal.proofs.RecordBodies.{receipts_long}
use Rattle.tp_journal.proofs.journal.JournalKeeper.rec.Goals as goal

pub rec-requires : goal.rec-requires
rec-requires g c =
    let now = c.args.self.now in
    let is : recs_of c.shelf.result.now ≡ now.list = ap recs_of c.shelf.ensures ∙ ap (λ (v : Kept _). v.list) c.self.view_is in
    omega (arith, ap length is, receipts_long (first_place now.wide) now.wide now.list, c.requires)
