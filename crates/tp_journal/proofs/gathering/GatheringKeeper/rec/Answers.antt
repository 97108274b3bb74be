use Rattle.std.proofs.Common.{◌≡◌, length, arith, ap}
use Rattle.tp_journal.specs.Records.{recs_of, first_place}
use Rattle.tp_journal.specs.Gathering.{Gathered}
use Rattle.tp_journal.proofs.RecordBodies.{receipts_long}
use Rattle.tp_journal.proofs.gathering.GatheringKeeper.rec.Goals as goal

pub rec-requires : goal.rec-requires
rec-requires g c =
    let now = c.args.self.now.journal in
    let is : recs_of c.self.inside.shelf ≡ now.list = ap (λ (v : Gathered _). v.journal.list) c.self.view_is in
    omega (arith, ap length is, receipts_long (first_place now.wide) now.wide now.list, c.requires)
