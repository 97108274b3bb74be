use Rattle.std.proofs.Common.{◌∙◌, ◌-◌, sym, length}
use Rattle.tp_model.specs.Transactions.{is_waited_for}
use Rattle.tp_commit.proofs.Beside.{beside_at}
use Rattle.tp_commit.proofs.rows.waits_beside.Goals as goal

pub returns-then-waits_at : goal.returns-then-waits_at
returns-then-waits_at c =
    sym (beside_at is_waited_for c.args.rows.now (length c.args.rows.now - 1) c.args.peer c.in-Some.row.now (sym c.in-Some.ensures.value) (sym c.waits_at.ensures ∙ c.if-waits_at.true))
