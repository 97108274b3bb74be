use Rattle.std.proofs.Common.{ap}
use Rattle.tp_bound.proofs.Refusing.{refused}
use Rattle.tp_bound.proofs.bound.Bound.open.Goals as goal

pub returns-in-Err-clause-refused : goal.returns-in-Err-clause-refused
returns-in-Err-clause-refused g c =
    let gates = c.in_ok-gates.gates in
    let told = g.D.Disk.told in
    let count = g.D.Disk.fault_count in
    refused (told c.args.disk) (told gates.disk) (told c.disk.result) (count c.args.disk) (count c.disk.result) gates.gate gates.bodies c.in-Err.fault (ap told c.disk.ensures) c.in_ok-gates.ensures.bodies c.in-Err.ensures.refused
