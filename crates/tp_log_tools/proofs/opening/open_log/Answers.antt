use Rattle.std.proofs.Common.{inr, sym, subst, Some, None, arith}
use Rattle.tp_outside.specs.Story.{seen}
use Rattle.tp_logrec.specs.declared.record.LogRec.{LogRec}
use Rattle.tp_logrec.specs.LogText.{IsLog}
use Rattle.tp_journal.specs.declared.receipts.Receipt.{Receipt}
use Rattle.tp_journal.specs.Disorder.{IsFirstOutOfOrder}
use Rattle.tp_journal.specs.Records.{first_place}
use Rattle.tp_log_tools.specs.Opening.{StopsOpening, HoldsThroughout}
use Rattle.tp_log_tools.proofs.Ordered.{receipts_length}
use Rattle.tp_log_tools.proofs.Opened.{refused_so, refused_leaves, starts_open, starts_leave, starts_broken}
use Rattle.tp_log_tools.proofs.opening.open_log.Goals as goal

abbrev some_receipt : Receipt
some_receipt = record { place = 0; rec = LogRec.Boot 0 }

pub returns-in-Err-clause-refused : goal.returns-in-Err-clause-refused
returns-in-Err-clause-refused g c s is file =
    let told = g.D.Disk.told in
    subst (StopsOpening (seen s) (told c.in-Err.disk)) (sym c.stop_of.ensures)
    (refused_so (told c.args.disk) (told c.in-Err.disk) _ _ c.in-Err.fault ((c.in-Err.ensures {u = tt}).refused) s is file)

pub returns-in-Err-clause-left : goal.returns-in-Err-clause-left
returns-in-Err-clause-left g c s rs is small log =
    let told = g.D.Disk.told in
    refused_leaves (told c.args.disk) (told c.in-Err.disk) _ _ c.in-Err.fault ((c.in-Err.ensures {u = tt}).refused) s rs is small log

pub place-at-requires : goal.place-at-requires
place-at-requires g c =
    let j = c.in-Ok.journal in
    let first : IsFirstOutOfOrder j.list (Some c.in-Ok-Some.i) = rw c.in-Ok-Some.field-0-is at (c.in-Ok-Some.ensures {u = tt}) in
    omega (arith, first.1, receipts_length j.wide (first_place j.wide) j.list)

pub returns-in-Ok-None-clause-opens : goal.returns-in-Ok-None-clause-opens
returns-in-Ok-None-clause-opens g c s is file =
    let told = g.D.Disk.told in
    let j = c.in-Ok.journal in
    let order : IsFirstOutOfOrder j.list None = rw c.in-Ok-None.field-0-is at (c.in-Ok-None.ensures {u = tt}) in
    let start = c.in-Ok.ensures {u = tt} in
    starts_open (told c.args.disk) (told j.disk) j.wide j.list j.gate start.started.0 start.texts order s is file

pub returns-in-Ok-None-clause-moments : goal.returns-in-Ok-None-clause-moments
returns-in-Ok-None-clause-moments g c s rs is small log =
    let told = g.D.Disk.told in
    let j = c.in-Ok.journal in
    let start = c.in-Ok.ensures {u = tt} in
    starts_leave (told c.args.disk) (told j.disk) j.wide j.list j.gate start.started.0 start.texts s rs is small log

pub returns-in-Ok-Some-clause-refused : goal.returns-in-Ok-Some-clause-refused
returns-in-Ok-Some-clause-refused g c s is file =
    let told = g.D.Disk.told in
    let j = c.in-Ok.journal in
    let first : IsFirstOutOfOrder j.list (Some c.in-Ok-Some.i) = rw c.in-Ok-Some.field-0-is at (c.in-Ok-Some.ensures {u = tt}) in
    let start = c.in-Ok.ensures {u = tt} in
    rw (c.disk.ensures, c.place-at.ensures some_receipt) (starts_broken (told c.args.disk) (told j.disk) j.wide j.list j.gate start.started.0 start.texts c.in-Ok-Some.i some_receipt first s is file)

pub returns-in-Ok-Some-clause-left : goal.returns-in-Ok-Some-clause-left
returns-in-Ok-Some-clause-left g c s rs is small log =
    let told = g.D.Disk.told in
    let j = c.in-Ok.journal in
    let start = c.in-Ok.ensures {u = tt} in
    subst (λ d. HoldsThroughout (λ file. IsLog file rs) s (told d)) (sym c.disk.ensures) (inr (starts_leave (told c.args.disk) (told j.disk) j.wide j.list j.gate start.started.0 start.texts s rs is small log).moments)

pub returns-in-Err-first_out_of_order-clause-left : goal.returns-in-Err-first_out_of_order-clause-left
returns-in-Err-first_out_of_order-clause-left g c s rs is small log =
    let told = g.D.Disk.told in
    let j = c.in-Ok.journal in
    let start = c.in-Ok.ensures {u = tt} in
    subst (λ d. HoldsThroughout (λ file. IsLog file rs) s (told d)) (sym c.disk-in-Err-first_out_of_order.ensures) (inr (starts_leave (told c.args.disk) (told j.disk) j.wide j.list j.gate start.started.0 start.texts s rs is small log).moments)
