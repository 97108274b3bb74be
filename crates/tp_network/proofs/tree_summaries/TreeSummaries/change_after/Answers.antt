use Rattle.std.proofs.Common.{◌≡◌, Bool, true, ap, sym, arith}
use Rattle.std.specs.Prelude.{cond}
use Rattle.tp_network.specs.TreeSummary.{same_tree, summary_after}
use Rattle.tp_network.specs.TreeSummaries.{summary_at}
use Rattle.tp_network.proofs.Changes.{stayed}
use Rattle.tp_network.proofs.tree_summaries.TreeSummaries.change_after.Goals as goal

pub returns-then-stays-clause-changed : goal.returns-then-stays-clause-changed
returns-then-stays-clause-changed c = λ t.
    let s = c.args.change.now in
    let same : same_tree s.before s.after ≡ true = grind (arith, c.requires, c.if-stays.true) in
    ap (λ (b : Bool). cond b (summary_after t s (summary_at c.args.self.now t)) (summary_at c.args.self.now t)) (sym (stayed t s.before s.after same))
