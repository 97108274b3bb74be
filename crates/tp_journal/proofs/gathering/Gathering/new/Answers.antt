use Rattle.std.proofs.Common.{◌≡◌, [], ◌∷◌, length, sym, ap, ◌∙◌, subst}
use Rattle.tp_journal.specs.Records.{recs_of, AreRecords}
use Rattle.tp_journal.specs.Started.{Started}
use Rattle.tp_journal.specs.Journals.{Kept}
use Rattle.tp_journal.specs.Gathering.{IsGathered, gathered_of}
use Rattle.tp_journal.proofs.Gathered.{first_gathered}
use Rattle.tp_journal.proofs.gathering.Gathering.new.Goals as goal

pub invariant_of-result : goal.invariant_of-result
invariant_of-result g c =
    let log = c.into_log-log.result.0 in
    let parts = c.into_parts-disk.result in
    let told = g.D.Disk.told parts.0 in
    let raw : Started _ _ = record { disk = parts.0; shelf = parts.1; gate = parts.2; shut = parts.3 } in
    let records : AreRecords parts.1 = subst (λ (v : Started _ _). AreRecords v.shelf) c.into_parts-disk.ensures.parts c.into_log-log.ensures.records in
    let all : length c.list-settled.result.now ≡ length (recs_of parts.1) =
    ap length (c.list-settled.ensures.is ∙ ap (λ (v : Kept _). v.list) (sym c.into_log-log.ensures.log) ∙ ap (λ (v : Started _ _). recs_of v.shelf) c.into_parts-disk.ensures.parts) in
    let waits : c.into_vec.result.items ≡ 0 ∷ [] = c.into_vec.ensures ∙ (c.in-Ok.ensures {u = tt}) in (
      records,
      subst (λ w. IsGathered told (gathered_of raw (length c.list-settled.result.now)) w) (sym waits) (first_gathered told raw (length c.list-settled.result.now) records c.into_parts-disk.ensures.started all),
    )
