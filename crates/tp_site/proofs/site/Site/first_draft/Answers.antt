-- Where the event is refused at once, the refusal that is answered is the one that it is refused by.
use Rattle.std.proofs.Common.{◌≡◌, ◌∙◌, ℕ, ap, sym, subst, refl, Err}
use Rattle.tp_model.specs.declared.transaction.TxFault.{TxFault}
use Rattle.tp_model.specs.Refusal.{number_of}
use Rattle.tp_draft.specs.Answers.{IsPlain}
use Rattle.tp_draft.proofs.Answered.{refused_plain}
use Rattle.tp_site.specs.Nodes.{Nodes, who_at, digest_at, node_at}
use Rattle.tp_site.proofs.site.Site.first_draft.Goals as goal

pub returns-in-Some-clause-plain : goal.returns-in-Some-clause-plain
returns-in-Some-clause-plain g c = λ x plain.
    let moved : IsPlain (node_at c.self.inside.nodes c.args.node) c.args.event.now x = subst (λ (v : Nodes). IsPlain (node_at v c.args.node) c.args.event.now x) (sym (ap (λ s. s.nodes) c.self.view_is)) plain in
    let same : c.in-Some.refusal ≡ x = cc (c.in-Some.ensures.refused x moved) in
    ap (λ (k : ℕ). Err (TxFault.Refused k)) (c.number.ensures ∙ ap number_of same)

pub returns-in-Some-clause-refused : goal.returns-in-Some-clause-refused
returns-in-Some-clause-refused g c =
    let found : IsPlain (node_at c.args.self.now.nodes c.args.node) c.args.event.now c.in-Some.refusal = subst (λ (v : Nodes). IsPlain (node_at v c.args.node) c.args.event.now c.in-Some.refusal) (ap (λ s. s.nodes) c.self.view_is) c.in-Some.ensures.plain in (
      refused_plain (who_at c.args.self.now.nodes c.args.node) (digest_at c.args.self.now.nodes c.args.node) c.args.event.now c.in-Some.refusal c.number.result found.0 found.1 (sym c.number.ensures),
      c.requires,
      refl,
    )
