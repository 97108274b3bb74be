use Rattle.std.proofs.Common.{◌≡◌, ◌∙◌, sym, ap, subst}
use Rattle.tp_model.specs.Node.{grants}
use Rattle.tp_draft.specs.Draft.{Draft, Plays, later}
use Rattle.tp_node.specs.Node.{Node}
use Rattle.tp_draft.specs.Passage.{giving}
use Rattle.tp_draft.proofs.Turns.{given}
use Rattle.tp_draft.proofs.draft.Draft.give.Goals as goal

pub returns : goal.returns
returns c =
    let v = c.self.inside in
    let drafted : Node → Draft = λ w. record { who = w.who; move = record { rec = later v.earlier v.step.rec; outs = v.outs; next = w.digest } } in
    let from : drafted c.deref_mut.result.now ≡ c.args.self.now = ap drafted c.deref_mut.ensures.value ∙ c.self.view_is in
    subst (λ (a : Draft). Plays c.perform.result a c.perform.new.self (giving c.args.branch.now)) from
    (given c.perform.result (drafted c.deref_mut.result.now) (drafted c.step.new.self) c.perform.new.self c.args.branch.now c.as_slice.result.now (c.as_slice.ensures ∙ c.in_ok-grants.ensures {u = tt} ∙ ap (λ (w : Node). grants c.args.branch.now w.digest.arcs) (c.deref.ensures ∙ sym c.deref_mut.ensures.value)) (ap drafted c.step.ensures) c.perform.ensures)
