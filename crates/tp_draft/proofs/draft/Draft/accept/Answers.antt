use Rattle.std.proofs.Common.{◌≡◌, ◌∙◌, ap, sym, subst, Some, None}
use Rattle.tp_model.specs.Requests.{accept}
use Rattle.tp_names.specs.declared.identifiers.Mark.{Mark}
use Rattle.tp_model.specs.Parts.{Arc}
use Rattle.tp_tree.specs.Tie.{arc_of}
use Rattle.tp_node.specs.Calls.{offer_of, offer_on}
use Rattle.tp_draft.specs.Calls.{answering}
use Rattle.tp_node.specs.Node.{Node}
use Rattle.tp_draft.specs.Draft.{Draft, later}
use Rattle.tp_draft.proofs.Drafts.{plays_same_at}
use Rattle.tp_draft.proofs.Calls.{accept_none, accept_some}
use Rattle.tp_draft.proofs.draft.Draft.accept.Goals as goal

pub returns-in_default : goal.returns-in_default
returns-in_default c =
    let a = c.args.self.now in
    let v = c.self.inside in
    let drafted : Node → Draft = λ w. record { who = w.who; move = record { rec = later v.earlier v.step.rec; outs = v.outs; next = w.digest } } in
    let from : drafted c.deref.result.now ≡ a = ap drafted c.deref.ensures ∙ c.self.view_is in
    let none : offer_of a.move.next ≡ None = subst (λ (x : Draft). offer_of x.move.next ≡ None) from (sym c.offer.ensures ∙ ap offer_on c.in_default.is) in
    sym (accept_none a c.args.units none)

pub returns : goal.returns
returns c =
    let a = c.args.self.now in
    let o : Arc × Mark = (arc_of c.in-Some.tie, c.in-Some.x) in
    let v = c.self.inside in
    let drafted : Node → Draft = λ w. record { who = w.who; move = record { rec = later v.earlier v.step.rec; outs = v.outs; next = w.digest } } in
    let from : drafted c.deref.result.now ≡ a = ap drafted c.deref.ensures ∙ c.self.view_is in
    let some : offer_of a.move.next ≡ Some o = subst (λ (x : Draft). offer_of x.move.next ≡ Some o) from (sym c.offer.ensures ∙ ap offer_on c.in-Some.is) in
    plays_same_at c.answer.result a c.answer.new.self (λ who. accept who c.args.units) (answering o.0 o.1 c.args.units) (accept_some a.who c.args.units a.move.next o some) c.answer.ensures
