use Rattle.std.proofs.Common.{◌<◌, length, arith}
use Rattle.std.proofs.lemmas.Grind.{common_steps}
use Rattle.std.proofs.lemmas.List.{take_more}
use Rattle.tp_journal.specs.declared.receipts.Receipt.{Receipt}
use Rattle.tp_shared_log.proofs.shared_log.receipts_told.Goals as goal

pub loop-i-preserved : goal.loop-i-preserved
loop-i-preserved g c =
    let d : Receipt = record { place = c.place.result; rec = c.in_ok-rec.rec } in
    let told = (g.K.Keeper.standing c.args.keeper.now).told in
    let within : c.loop-i.i < length told = omega arith in
    let more = take_more told c.loop-i.i d within in
    let rec = c.rec.ensures d in
    let place = c.place.ensures d in
    grind (arith, common_steps)
