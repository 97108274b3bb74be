-- Reports join in any grouping.
use Rattle.std.specs.Prelude.{◌≡◌}
use Rattle.std.proofs.Common.{arith}
use Rattle.tp_names.specs.declared.outcome.Report.{Report}
use Rattle.tp_names.specs.Reports.{join}

pub join_assoc : (a b c : Report) → join (join a b) c ≡ join a (join b c)
join_assoc a b c = grind arith
