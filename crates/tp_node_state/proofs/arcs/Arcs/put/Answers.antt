use Rattle.std.proofs.Common.{◌≡◌, ◌∙◌, true, ap, sym, subst}
use Rattle.tp_tree.specs.Invocation.{Invocation}
use Rattle.tp_node_state.specs.Arcs.{value_of, is_sided, is_linked}
use Rattle.tp_node_state.proofs.Sides.{put_written}
use Rattle.tp_node_state.proofs.Linked.{put_kept}
use Rattle.tp_node_state.proofs.arcs.Arcs.put.Goals as goal

pub invariant_of-self : goal.invariant_of-self
invariant_of-self c =
    subst (λ (v : Invocation). (is_sided v ≡ true) × (is_linked v ≡ true)) (sym c.write.ensures)
    (put_kept c.self.inside.tree c.args.self.now c.args.tie.now c.self.view_is c.self.invariant.0 c.self.invariant.1 c.requires)

pub returns : goal.returns
returns c =
    ap (λ (v : Invocation). value_of (record { tree = v })) c.write.ensures
    ∙ put_written c.self.inside.tree c.args.self.now c.args.tie.now c.self.view_is
