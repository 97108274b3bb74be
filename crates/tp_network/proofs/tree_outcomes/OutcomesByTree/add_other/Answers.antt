use Rattle.std.proofs.Common.{◌≡◌, ◌∙◌, sym, subst}
use Rattle.std.specs.Prelude.{cond}
use Rattle.tp_names.specs.declared.identifiers.Aaid.{Aaid}
use Rattle.tp_names.specs.Same.{is_aaid}
use Rattle.tp_network.specs.TreeOutcomes.{no_outcomes, outcomes_in, with_node}
use Rattle.tp_network.proofs.TreeTables.{put_new, put_again, has_value}
use Rattle.tp_network.proofs.tree_outcomes.OutcomesByTree.add_other.Goals as goal

pub put-requires : goal.put-requires
put-requires c = has_value c.self.inside.outcomes.entries c.insert_full.new.self.entries c.args.tree.now.aaid c.with-first.result c.in_ok-place.ensures.updates.0

pub returns-in-Some : goal.returns-in-Some
returns-in-Some c =
    let es = c.self.inside.outcomes.entries in
    let a = c.args.tree.now.aaid in
    let s = c.args.summary.now in
    subst (λ old. (t : Aaid) → outcomes_in c.put.new.outcomes.entries t ≡ cond (is_aaid t a) (with_node s (outcomes_in old t)) (outcomes_in old t)) c.self.view_is
    (put_again no_outcomes (λ t. with_node s) es c.insert_full.new.self.entries c.put.new.outcomes.entries a c.in-Some.older c.with-first.result c.with.result (sym c.in-Some.is ∙ c.in_ok-place.ensures.old) c.with.ensures c.in_ok-place.ensures.updates.0 c.put.ensures)

pub returns-in_default : goal.returns-in_default
returns-in_default c =
    let es = c.self.inside.outcomes.entries in
    let a = c.args.tree.now.aaid in
    let s = c.args.summary.now in
    subst (λ old. (t : Aaid) → outcomes_in c.insert_full.new.self.entries t ≡ cond (is_aaid t a) (with_node s (outcomes_in old t)) (outcomes_in old t)) c.self.view_is
    (put_new no_outcomes (λ t. with_node s) es c.insert_full.new.self.entries a c.with-first.result (sym c.in_default.is ∙ c.in_ok-place.ensures.old) c.with-first.ensures c.in_ok-place.ensures.updates.0)
