use Rattle.std.proofs.Common.{rules, not, ◌≡◌, ◌∙◌}
use Rattle.std.specs.Prelude.{◌==◌}
use Rattle.std.specs.List.{filter}
use Rattle.std.proofs.lemmas.Fn.{filter_same}
use Rattle.tp_node_state.proofs.KeptTrees.{filter-without_age}
use Rattle.tp_node_state.proofs.ages.let_go.Goals as goal

pub returns : goal.returns
returns c =
    let kept : c.retain.new.self.items ≡ filter (λ n. not (n == c.args.age)) c.args.ages.now.items = filter_same _ _ _ (λ x b f' k. search rules) _ _ c.retain.ensures.filtered in
    kept ∙ filter-without_age c.args.age c.args.ages.now.items
