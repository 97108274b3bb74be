use Rattle.std.proofs.Common.{◌∙◌, ap, sym, Some}
use Rattle.std.specs.Option.{option_map}
use Rattle.tp_model.specs.Transactions.{Transaction}
use Rattle.tp_node.specs.Node.{Node, current_of, unboxed}
use Rattle.tp_node.specs.Begins.{has_place_below}
use Rattle.tp_node.proofs.Begun.{rows_left}
use Rattle.tp_node.proofs.node.Node.add_branch.Goals as goal

pub returns-clause-memory : goal.returns-clause-memory
returns-clause-memory c h =
    c.add.ensures.memory
    (rows_left c.deref_mut.result.now
    (ap (λ (t : Transaction). has_place_below (Some (current_of t))) c.deref_mut.ensures.value
    ∙ sym (ap (λ o. has_place_below (option_map current_of (unboxed o))) c.in-Some.is)
    ∙ ap (λ (n : Node). has_place_below n.digest.current) c.self.view_is
    ∙ h))
