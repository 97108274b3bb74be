use Rattle.std.proofs.Common.{sym, subst}
use Rattle.tp_bound.specs.Bounds.{Opens}
use Rattle.tp_keys.proofs.Refusing.{not_opened, not_printed}
use Rattle.tp_keys.proofs.listing.keys.Goals as goal

pub returns-in-Err-clause-refused : goal.returns-in-Err-clause-refused
returns-in-Err-clause-refused g c =
    let told = g.D.Disk.told in
    let count = g.D.Disk.fault_count in
    let sink = c.args.sink.now in
    not_opened g.row.D.Denot (told c.args.disk) (told c.in-Err.disk) (count c.args.disk) (count c.in-Err.disk) (g.K.Sink.written sink) (g.K.Sink.fault_count sink) (g.K.Sink.fault_count sink)
    c.in-Err.fault c.stop_of.result c.stop_of.ensures c.in-Err.ensures.refused

pub returns-in-Ok-printed-clause-printed : goal.returns-in-Ok-printed-clause-printed
returns-in-Ok-printed-clause-printed g c =
    let told = g.D.Disk.told in
    let bound = c.in-Ok.bound in
    (bound, subst (λ (d : g.row.D.Denot). Opens (told c.args.disk) (told d) 0 bound) (sym c.disk-disk.ensures) c.in-Ok.ensures.opened, c.in-Ok-printed.ensures.whole)

pub returns-in-Err-printed-clause-refused : goal.returns-in-Err-printed-clause-refused
returns-in-Err-printed-clause-refused g c =
    let told = g.D.Disk.told in
    let count = g.D.Disk.fault_count in
    let bound = c.in-Ok.bound in
    let old = c.args.sink.now in
    let new = c.print-printed.new.sink in
    let opens = subst (λ (d : g.row.D.Denot). Opens (told c.args.disk) (told d) 0 bound) (sym c.disk-disk.ensures) c.in-Ok.ensures.opened in
    not_printed g.row.D.Denot (told c.args.disk) (told c.disk-disk.result) (count c.args.disk) (count c.disk-disk.result) (g.K.Sink.written old) (g.K.Sink.written new)
    (g.K.Sink.fault_count old) (g.K.Sink.fault_count new) c.in-Err-printed.stop c.in-Err-printed.ensures.fault (bound, opens, c.in-Err-printed.ensures.prefix)
