use Rattle.std.proofs.Common.{◌∙◌, ◌-◌, sym, length}
use Rattle.tp_commit.specs.Waiting.{is_owing}
use Rattle.tp_commit.proofs.Beside.{beside_at}
use Rattle.tp_commit.proofs.rows.owes_beside.Goals as goal

pub returns-then-owes_at : goal.returns-then-owes_at
returns-then-owes_at c =
    sym (beside_at is_owing c.args.rows.now (length c.args.rows.now - 1) c.args.peer c.in-Some.row.now (sym c.in-Some.ensures.value) (sym c.owes_at.ensures ∙ c.if-owes_at.true))
