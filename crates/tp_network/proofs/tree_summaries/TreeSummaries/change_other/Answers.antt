use Rattle.std.proofs.Common.{◌≡◌, ◌∙◌, sym, subst}
use Rattle.std.specs.Prelude.{cond}
use Rattle.tp_names.specs.declared.identifiers.Aaid.{Aaid}
use Rattle.tp_names.specs.Same.{is_aaid}
use Rattle.tp_network.specs.TreeSummary.{no_summary, summary_after}
use Rattle.tp_network.specs.TreeSummaries.{summary_at}
use Rattle.tp_network.proofs.TreeTables.{put_new, put_again, has_value}
use Rattle.tp_network.proofs.tree_summaries.TreeSummaries.change_other.Goals as goal

pub put-requires : goal.put-requires
put-requires c = has_value c.self.inside.summaries.entries c.insert_full.new.self.entries c.args.tree.now c.after_in-first.result c.in_ok-place.ensures.updates.0

pub returns-in-Some-clause-changed : goal.returns-in-Some-clause-changed
returns-in-Some-clause-changed c =
    let es = c.self.inside.summaries.entries in
    let a = c.args.tree.now in
    let s = c.args.change.now in
    subst (λ old. (t : Aaid) → summary_at c.put.new.summaries.entries t ≡ cond (is_aaid t a) (summary_after t s (summary_at old t)) (summary_at old t)) c.self.view_is
    (put_again no_summary (λ t. summary_after t s) es c.insert_full.new.self.entries c.put.new.summaries.entries a c.in-Some.older c.after_in-first.result c.after_in-summary.result (sym c.in-Some.is ∙ c.in_ok-place.ensures.old) c.after_in-summary.ensures c.in_ok-place.ensures.updates.0 c.put.ensures)

pub returns-in_default-clause-changed : goal.returns-in_default-clause-changed
returns-in_default-clause-changed c =
    let es = c.self.inside.summaries.entries in
    let a = c.args.tree.now in
    let s = c.args.change.now in
    subst (λ old. (t : Aaid) → summary_at c.insert_full.new.self.entries t ≡ cond (is_aaid t a) (summary_after t s (summary_at old t)) (summary_at old t)) c.self.view_is
    (put_new no_summary (λ t. summary_after t s) es c.insert_full.new.self.entries a c.after_in-first.result (sym c.in_default.is ∙ c.in_ok-place.ensures.old) c.after_in-first.ensures c.in_ok-place.ensures.updates.0)
