use Rattle.std.proofs.Common.{◌≡◌, ◌≤◌, length, drop}
use Rattle.std.specs.Prelude.{reverse}
use Rattle.indexmap.specs.IndexSet.{contains}
use Rattle.tp_logrec.specs.declared.owner.Owner.{Owner}
use Rattle.tp_logrec.specs.Order.{is_owner}
use Rattle.tp_log_tools.specs.Findings.{has_any, found_from}
use Rattle.tp_log_tools.proofs.checking.find.Given as goal

abbrev pub invariant-loop-i : goal.invariant-loop-i
invariant-loop-i l = record {
  within : l.i ≤ length l.list;
  later : (o : Owner) → contains is_owner l.later o ≡ has_any o (drop l.i l.list);
  found : reverse l.found.items ≡ found_from l.i (drop l.i l.list);
}

abbrev pub decreases-loop-i : goal.decreases-loop-i
decreases-loop-i l = l.i
