use Rattle.std.proofs.Common.{◌≡◌, ◌∙◌, ap, sym, subst, Some, None}
use Rattle.tp_model.specs.Requests.{reject}
use Rattle.tp_names.specs.declared.identifiers.Addr.{Addr}
use Rattle.tp_names.specs.declared.identifiers.Mark.{Mark}
use Rattle.tp_model.specs.Parts.{Arc}
use Rattle.tp_tree.specs.Tie.{arc_of}
use Rattle.tp_node.specs.Calls.{offer_of, offer_on}
use Rattle.tp_node.specs.Node.{Node}
use Rattle.tp_draft.specs.Draft.{Draft, later}
use Rattle.tp_draft.proofs.Drafts.{plays_same_at}
use Rattle.tp_draft.proofs.Calls.{rejecting, reject_none, reject_some}
use Rattle.tp_draft.proofs.draft.Draft.reject.Goals as goal

pub returns-in_default : goal.returns-in_default
returns-in_default c =
    let a = c.args.self.now in
    let v = c.self.inside in
    let drafted : Node → Draft = λ w. record { who = w.who; move = record { rec = later v.earlier v.step.rec; outs = v.outs; next = w.digest } } in
    let from : drafted c.deref.result.now ≡ a = ap drafted c.deref.ensures ∙ c.self.view_is in
    let none : offer_of a.move.next ≡ None = subst (λ (x : Draft). offer_of x.move.next ≡ None) from (sym c.offer.ensures ∙ ap offer_on c.in_default.is) in
    sym (reject_none a none)

pub returns : goal.returns
returns c =
    let a = c.args.self.now in
    let o : Arc × Mark = (arc_of c.in-Some.tie, c.in-Some.x) in
    let v = c.self.inside in
    let drafted : Node → Draft = λ w. record { who = w.who; move = record { rec = later v.earlier v.step.rec; outs = v.outs; next = w.digest } } in
    let from : drafted c.deref.result.now ≡ a = ap drafted c.deref.ensures ∙ c.self.view_is in
    let some : offer_of a.move.next ≡ Some o = subst (λ (x : Draft). offer_of x.move.next ≡ Some o) from (sym c.offer.ensures ∙ ap offer_on c.in-Some.is) in
    let same : reject a.move.next ≡ rejecting c.addr-to.result c.in-Some.x a.move.next = reject_some a.move.next o some ∙ ap (λ (to : Addr). rejecting to c.in-Some.x a.move.next) (sym c.addr-to.ensures) in
    plays_same_at c.perform.result a c.perform.new.self (λ who. reject) (λ who. rejecting c.addr-to.result c.in-Some.x) same c.perform.ensures
