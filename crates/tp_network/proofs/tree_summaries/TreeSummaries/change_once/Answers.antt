use Rattle.std.proofs.Common.{◌≡◌, ◌∙◌, Bool, true, false, ap, sym, arith}
use Rattle.std.specs.Prelude.{cond}
use Rattle.tp_names.specs.declared.identifiers.Aaid.{Aaid}
use Rattle.tp_network.specs.TreeSummary.{stood_in, summary_after}
use Rattle.tp_network.specs.TreeSummaries.{summary_at}
use Rattle.tp_network.proofs.Changes.{already, once, then_ok}
use Rattle.tp_network.proofs.tree_summaries.TreeSummaries.change_once.Goals as goal

pub returns-then-stood_in-clause-changed : goal.returns-then-stood_in-clause-changed
returns-then-stood_in-clause-changed c = λ t.
    let s = c.args.change.now in
    let u = c.args.tree.now in
    let done : stood_in u s ≡ true = grind (arith, c.if-stood_in.true, c.stood_in.ensures) in
    ap (λ (b : Bool). cond b (summary_after t s (summary_at c.args.self.now t)) (summary_at c.args.self.now t)) (sym (already (λ (v : Aaid). stood_in v s) t u done))

pub returns-clause-changed : goal.returns-clause-changed
returns-clause-changed c =
    let s = c.args.change.now in
    let u = c.args.tree.now in
    let new : stood_in u s ≡ false = grind (arith, c.if-stood_in.false, c.stood_in.ensures) in
    then_ok c.change_in.result (λ h t. h t ∙ ap (λ (b : Bool). cond b (summary_after t s (summary_at c.args.self.now t)) (summary_at c.args.self.now t)) (sym (once (λ (v : Aaid). stood_in v s) t u new))) c.change_in.ensures.changed
