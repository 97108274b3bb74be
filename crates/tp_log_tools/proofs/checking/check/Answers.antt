use Rattle.std.proofs.Common.{sym, subst}
use Rattle.tp_outside.specs.Story.{seen}
use Rattle.tp_model.specs.LogCommands.{start_leaves}
use Rattle.tp_journal.specs.Records.{version_of, placed}
use Rattle.tp_journal.specs.Told.{IsOn}
use Rattle.tp_log_tools.specs.Readings.{as_placed}
use Rattle.tp_log_tools.proofs.Outputs.{both_ok}
use Rattle.tp_log_tools.proofs.checking.check.Goals as goal

pub returns-clause-checks : goal.returns-clause-checks
returns-clause-checks g c = both_ok c.check_log-checked.result _ _ _ (λ n count written s is file.
    let j = c.in-Ok.journal in
    let begun = (c.in-Ok.ensures {u = tt}).opens s is file in
    record {
      shows = record {
        version = version_of j.wide;
        listed = as_placed (placed j.wide j.list);
        opens = begun.opens;
        written = written;
        disk = subst (λ d. IsOn (g.D.Disk.told d) (start_leaves (seen s))) (sym c.disk.ensures) begun.left;
      };
      count = count;
    }) c.check_log-checked.ensures.count c.check_log-checked.ensures.ok
