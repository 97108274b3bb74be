use Rattle.std.proofs.Common.{◌≡◌, ◌∙◌, Bool, false, Option, ap, sym}
use Rattle.std.specs.Prelude.{◌&&◌, not, cond}
use Rattle.tp_names.specs.declared.identifiers.Aaid.{Aaid}
use Rattle.tp_names.proofs.Sames.{aaid_self}
use Rattle.tp_node.specs.declared.state.NodeTree.{NodeTree}
use Rattle.tp_network.specs.TreeSummary.{is_in, same_tree, summary_after}
use Rattle.tp_network.specs.TreeSummaries.{summary_at}
use Rattle.tp_network.proofs.Changes.{left_behind, once, then_ok}
use Rattle.tp_network.proofs.tree_summaries.TreeSummaries.change_entered.Goals as goal

pub change_in-requires-clause-before : goal.change_in-requires-clause-before
change_in-requires-clause-before c =
    let s = c.args.change.now in
    left_behind s.before c.in-Some.after (ap (λ (o : Option NodeTree). same_tree s.before o) (sym c.in-Some.is) ∙ c.requires)

pub change_in-requires-clause-after : goal.change_in-requires-clause-after
change_in-requires-clause-after c = ap (λ (o : Option NodeTree). is_in c.in-Some.after.aaid o) c.in-Some.is ∙ aaid_self c.in-Some.after.aaid

pub returns-in-Some-clause-changed : goal.returns-in-Some-clause-changed
returns-in-Some-clause-changed c =
    let s = c.args.change.now in
    let tree = c.in-Some.after in
    let new : is_in tree.aaid s.before ≡ false = left_behind s.before tree (ap (λ (o : Option NodeTree). same_tree s.before o) (sym c.in-Some.is) ∙ c.requires) in
    then_ok c.change_in.result
    (λ h t.
    h t
    ∙ ap (λ (b : Bool). cond b (summary_after t s (summary_at c.args.self.now t)) (summary_at c.args.self.now t))
    (sym (ap (λ (o : Option NodeTree). is_in t o && not (is_in t s.before)) c.in-Some.is ∙ once (λ (v : Aaid). is_in v s.before) t tree.aaid new)))
    c.change_in.ensures.changed
