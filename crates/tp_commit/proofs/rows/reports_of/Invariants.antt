use Rattle.std.proofs.Common.{◌≡◌, drop}
use Rattle.tp_names.specs.Reports.{join}
use Rattle.tp_model.specs.Transactions.{reports_of}
use Rattle.tp_commit.proofs.rows.reports_of.Given as goal

-- those before, joined with those that are left
abbrev pub invariant-loop-row : goal.invariant-loop-row
invariant-loop-row l = reports_of l.rows ≡ join l.joined (reports_of (drop l.row-index l.rows))
