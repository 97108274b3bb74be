-- A node that is not among them is refused as the one that it would be.
use Rattle.std.proofs.Common.{◌≡◌, refl, sym, ◌∙◌, subst}
use Rattle.tp_model.specs.Parts.{Who, Digest}
use Rattle.tp_node.specs.Node.{Node}
use Rattle.tp_draft.specs.Answers.{IsPlain}
use Rattle.tp_site.specs.Nodes.{who_at}
use Rattle.tp_site.proofs.nodes.Nodes.answer_unknown.Goals as goal

same_node : (w : Who) (d e : Digest) → d ≡ e → ◌≡◌ {A = Node} (record { who = w; digest = d }) (record { who = w; digest = e })
same_node w d e same = rw same refl

pub returns-in-Err-clause-plain : goal.returns-in-Err-clause-plain
returns-in-Err-clause-plain c = λ k plain.
    c.in-Err.ensures.plain k (subst (λ (x : Node). IsPlain x c.args.event.now k) (same_node (who_at c.args.self.now c.args.node) _ _ c.requires ∙ sym c.unknown.ensures) plain)
