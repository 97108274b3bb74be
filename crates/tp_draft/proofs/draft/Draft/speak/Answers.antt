use Rattle.std.proofs.Common.{◌≡◌, ◌∙◌, ap, subst}
use Rattle.tp_draft.specs.Draft.{Draft, Plays, later}
use Rattle.tp_node.specs.Node.{Node}
use Rattle.tp_draft.specs.Passage.{speaking}
use Rattle.tp_node.specs.Passage.{passage_of}
use Rattle.tp_draft.proofs.Turns.{speaks}
use Rattle.tp_draft.proofs.draft.Draft.speak.Goals as goal

pub returns : goal.returns
returns c =
    let v = c.self.inside in
    let drafted : Node → Draft = λ w. record { who = w.who; move = record { rec = later v.earlier v.step.rec; outs = v.outs; next = w.digest } } in
    let from : drafted c.deref_mut.result.now ≡ c.args.self.now = ap drafted c.deref_mut.ensures.value ∙ c.self.view_is in
    subst (λ (a : Draft). Plays c.play.result a c.play.new.self (speaking c.args.branch.now (passage_of c.args.passage) c.args.outs.now)) from
    (speaks c.play.result (drafted c.deref_mut.result.now) (drafted c.enter.new.self) c.play.new.self c.args.branch.now c.args.passage c.args.outs.now (ap drafted c.enter.ensures) c.play.ensures)
