use Rattle.std.proofs.Common.{length, sym, ap, ◌∙◌}
use Rattle.tp_journal.specs.Records.{first_place}
use Rattle.tp_journal.specs.Gathering.{Gathered}
use Rattle.tp_journal.proofs.RecordBodies.{receipts_long}
use Rattle.tp_journal.proofs.gathering.GatheringKeeper.count.Goals as goal

pub returns : goal.returns
returns g c =
    let now = c.args.self.now.journal in
    ap length (c.list.ensures.is ∙ ap (λ (v : Gathered _). v.journal.list) c.self.view_is) ∙ sym (receipts_long (first_place now.wide) now.wide now.list)
