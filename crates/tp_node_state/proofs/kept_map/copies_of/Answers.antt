use Rattle.std.proofs.Common.{◌≡◌, ◌++◌, ap, ◌∙◌}
use Rattle.tp_node_state.specs.Changes.{changed_all}
use Rattle.tp_node_state.proofs.KeptPlaces.{shown, shown_values}
use Rattle.tp_node_state.proofs.kept_map.copies_of.Goals as goal

pub loop-kept-init : goal.loop-kept-init
loop-kept-init c =
    ap (λ l. l ++ changed_all c.args.change.now (shown c.into_iter-kept-iterator.result)) c.new-copies.ensures.items
    ∙ ap (λ bs. changed_all c.args.change.now (shown bs)) (c.into_iter-kept-iterator.ensures.into_iter_gives ∙ c.values-kept-items.ensures.rest)
    ∙ ap (changed_all c.args.change.now) (shown_values c.args.by_age.now.entries)
