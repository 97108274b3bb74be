use Rattle.std.proofs.Common.{◌≡◌, ap, sym, ◌∙◌, Option, Some, None}
use Rattle.std.specs.Option.{option_to_list}
use Rattle.tp_names.specs.declared.identifiers.NodeKey.{NodeKey}
use Rattle.tp_node_state.specs.Changes.{newcomer}
use Rattle.tp_node_state.specs.Kept.{first_in}
use Rattle.tp_node_state.specs.KeptTable.{shared_list}
use Rattle.tp_node_state.proofs.KeptPlaces.{first_changed}
use Rattle.tp_node_state.proofs.kept_table.first_of.Goals as goal

pub returns-in-Some : goal.returns-in-Some
returns-in-Some c =
    ap (λ (o : Option NodeKey). elim o as (λ _. Option NodeKey) [ None ↦ first_in (option_to_list (newcomer c.args.change.now (shared_list c.args.shared.now))) c.args.aaid.now c.args.branch.now | Some k ↦ Some k ]) c.in-Some.ensures.first
    ∙ sym (first_changed c.args.change.now (shared_list c.args.shared.now) c.args.aaid.now c.args.branch.now c.shared_first.ensures.single)

pub returns-in-None : goal.returns-in-None
returns-in-None c =
    c.key_of.ensures
    ∙ ap (λ o. first_in (option_to_list o) c.args.aaid.now c.args.branch.now) c.newcomer.ensures
    ∙ ap (λ (o : Option NodeKey). elim o as (λ _. Option NodeKey) [ None ↦ first_in (option_to_list (newcomer c.args.change.now (shared_list c.args.shared.now))) c.args.aaid.now c.args.branch.now | Some k ↦ Some k ]) c.in-None.ensures.first
    ∙ sym (first_changed c.args.change.now (shared_list c.args.shared.now) c.args.aaid.now c.args.branch.now c.shared_first.ensures.single)
