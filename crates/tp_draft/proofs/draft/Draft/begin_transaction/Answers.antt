use Rattle.std.proofs.Common.{◌≡◌, ◌∙◌, true, false, ◌∷◌, [], sym, subst, ap}
use Rattle.std.specs.Option.{is_some}
use Rattle.tp_model.specs.Node.{begin_on, start_root}
use Rattle.tp_model.specs.Requests.{begin_transaction}
use Rattle.tp_node.specs.Node.{Node}
use Rattle.tp_draft.specs.Draft.{Draft, later}
use Rattle.tp_draft.proofs.Drafts.{plays_same_at}
use Rattle.tp_draft.proofs.Talks.{begins_there, begins_root}
use Rattle.tp_draft.proofs.draft.Draft.begin_transaction.Goals as goal

pub returns-then-has_current : goal.returns-then-has_current
returns-then-has_current c =
    let a = c.args.self.now in
    let p = c.args.peer in
    let v = c.self.inside in
    let drafted : Node → Draft = λ w. record { who = w.who; move = record { rec = later v.earlier v.step.rec; outs = v.outs; next = w.digest } } in
    let from : drafted c.deref.result.now ≡ a = ap drafted c.deref.ensures ∙ c.self.view_is in
    let there : is_some a.move.next.current ≡ true = subst (λ (x : Draft). is_some x.move.next.current ≡ true) from (sym c.has_current.ensures ∙ c.if-has_current.true) in
    plays_same_at c.begin_on.result a c.begin_on.new.self (λ who. begin_transaction who p) (λ who. begin_on who p) (begins_there a.who p a.move.next there) c.begin_on.ensures

pub returns : goal.returns
returns c =
    let a = c.args.self.now in
    let p = c.args.peer in
    let v = c.self.inside in
    let drafted : Node → Draft = λ w. record { who = w.who; move = record { rec = later v.earlier v.step.rec; outs = v.outs; next = w.digest } } in
    let from : drafted c.deref.result.now ≡ a = ap drafted c.deref.ensures ∙ c.self.view_is in
    let none : is_some a.move.next.current ≡ false = subst (λ (x : Draft). is_some x.move.next.current ≡ false) from (sym c.has_current.ensures ∙ c.if-has_current.false) in
    plays_same_at c.start_root.result a c.start_root.new.self (λ who. begin_transaction who p) (λ who. start_root who (p ∷ [])) (begins_root a.who p a.move.next none) c.start_root.ensures
