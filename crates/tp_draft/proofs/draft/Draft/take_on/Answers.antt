use Rattle.std.proofs.Common.{◌≡◌, ◌∙◌, ap, sym}
use Rattle.tp_model.specs.Node.{side_at}
use Rattle.tp_model.specs.Disposition.{sight_value}
use Rattle.tp_node.specs.Node.{Node}
use Rattle.tp_draft.specs.Draft.{Draft, later}
use Rattle.tp_draft.proofs.Sights.{side_counted}
use Rattle.tp_draft.proofs.draft.Draft.take_on.Goals as goal

pub take_record-requires : goal.take_record-requires
take_record-requires c = λ begins.
    let v = c.self.inside in
    let p = c.args.from.now.node in
    let drafted : Node → Draft = λ w. record { who = w.who; move = record { rec = later v.earlier v.step.rec; outs = v.outs; next = w.digest } } in
    let from : drafted c.deref_mut.result.now ≡ c.args.self.now = ap drafted c.deref_mut.ensures.value ∙ c.self.view_is in
    c.requires.side (ap sight_value c.in-Acts.is) begins
    ∙ sym (ap (λ (x : Draft). side_at x.move.next p) from)
    ∙ sym (side_counted c.deref_mut.result.now.digest c.args.rec.now p p)
    ∙ sym (ap (λ (n : Node). side_at n.digest p) c.take.ensures)
