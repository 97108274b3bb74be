use Rattle.std.proofs.Common.{rules, not, ◌≡◌, ◌∙◌}
use Rattle.std.specs.Prelude.{◌==◌}
use Rattle.std.specs.List.{filter}
use Rattle.std.proofs.lemmas.Fn.{filter_same}
use Rattle.tp_tree.proofs.Ties.{filter-without_ties}
use Rattle.tp_tree.proofs.invocation.remove_all.Goals as goal

pub returns-clause-items : goal.returns-clause-items
returns-clause-items c =
    let kept : c.retain.new.self.items ≡ filter (λ t. not (t.addr.node == c.args.peer)) c.args.ties.now.items = filter_same _ _ _ (λ x b f' k. search rules) _ _ c.retain.ensures.filtered in
    kept ∙ filter-without_ties c.args.peer c.args.ties.now.items
