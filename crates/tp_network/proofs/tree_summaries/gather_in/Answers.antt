use Rattle.std.proofs.Common.{◌≡◌, ◌∙◌, [], ap, sym, rules}
use Rattle.tp_network.specs.TreeOutcomes.{outcomes_in}
use Rattle.tp_network.proofs.Gathering.{gathered, gathered_all}
use Rattle.tp_network.proofs.tree_summaries.gather_in.Goals as goal

pub returns : goal.returns
returns c = λ t.
    let none : c.loop-tree.tree-iterator ≡ [] = search rules in
    let all = outcomes_in c.loop-tree.all t in
    sym (ap (λ es. gathered es t all) none) ∙ c.loop-tree.invariant t ∙ gathered_all c.args.summaries.now.entries t (outcomes_in c.args.all.now t) c.iter-tree-items.ensures.unique
