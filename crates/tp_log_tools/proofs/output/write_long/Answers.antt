use Rattle.tp_log_tools.proofs.Outputs.{emptied}
use Rattle.std.proofs.Common.{◌∙◌, ap, ◌++◌, Some}
use Rattle.tp_log_tools.proofs.output.write_long.Goals as goal

pub returns-clause-ok : goal.returns-clause-ok
returns-clause-ok g c before text way =
    emptied before text c.args.out.now c.truncate.new.self _ _ way
    (λ front is. (c.in_ok-write_all.ensures {u = tt}).whole front is ∙ ap (λ l. Some (front ++ l)) c.as_slice.ensures)
    c.truncate.ensures
