use Rattle.std.proofs.Common.{sym, subst}
use Rattle.tp_journal.specs.Started.{Started}
use Rattle.tp_journal.specs.Gathering.{Gathered, IsSettled}
use Rattle.tp_journal.proofs.Gathered.{started_again}
use Rattle.tp_journal.proofs.gathering.Gathering.into_journal.Goals as goal

pub of_parts-requires : goal.of_parts-requires
of_parts-requires g c =
    let log = c.self.inside in
    let raw : Started _ _ = record { disk = log.disk; shelf = log.shelf; gate = log.gate; shut = log.shut } in
    started_again (g.D.Disk.told log.disk) raw log.settled c.self.invariant.0 log.waits.items c.self.invariant.1 (subst (λ (v : Gathered _). IsSettled v) (sym c.self.view_is) c.requires)
