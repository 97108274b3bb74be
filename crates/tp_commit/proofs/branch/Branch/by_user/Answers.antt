use Rattle.std.proofs.Common.{false, ap, sym, ◌∙◌}
use Rattle.tp_model.specs.Transactions.{Transaction, by_user}
use Rattle.tp_commit.specs.Rules.{turn_of, completion}
use Rattle.tp_commit.proofs.Courses.{after_nothing, completes}
use Rattle.tp_commit.proofs.branch.Branch.by_user.Goals as goal

pub returns-in-Done : goal.returns-in-Done
returns-in-Done c =
    let t : Transaction = c.args.self.now in
    let u : Transaction = record t { owes = false } in
    c.two-in-Done.ensures t ∙ after_nothing u (turn_of c.completion.result) ∙ ap (λ r. turn_of r u) (c.completion.ensures ∙ ap (λ (x : Transaction). completion x.phase) c.self.view_is) ∙ completes u ∙ sym (ap (λ r. by_user r t) c.in-Done.is)
