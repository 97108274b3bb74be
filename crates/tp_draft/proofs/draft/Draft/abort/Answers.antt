use Rattle.std.proofs.Common.{◌≡◌, ◌∙◌, true, false, ◌∷◌, [], ap, sym, subst}
use Rattle.tp_records.specs.declared.dialogue.DialogueRecord.{DialogueRecord}
use Rattle.tp_records.specs.declared.request.Request.{Request}
use Rattle.tp_model.specs.declared.arc.Situation.{Situation}
use Rattle.tp_model.specs.declared.transaction.TxEvent.{TxEvent}
use Rattle.tp_model.specs.declared.transaction.TxOut.{TxOut}
use Rattle.tp_model.specs.Node.{perform, transact, situation_at}
use Rattle.tp_model.specs.Requests.{abort}
use Rattle.tp_node.specs.Node.{Node}
use Rattle.tp_draft.specs.Draft.{Draft, later}
use Rattle.tp_draft.proofs.Drafts.{plays_same_at}
use Rattle.tp_draft.proofs.Talks.{aborts_there, aborts_alone}
use Rattle.tp_draft.proofs.draft.Draft.abort.Goals as goal

pub returns-then-situation : goal.returns-then-situation
returns-then-situation c =
    let a = c.args.self.now in
    let p = c.args.peer in
    let v = c.self.inside in
    let drafted : Node → Draft = λ w. record { who = w.who; move = record { rec = later v.earlier v.step.rec; outs = v.outs; next = w.digest } } in
    let from : drafted c.deref.result.now ≡ a = ap drafted c.deref.ensures ∙ c.self.view_is in
    let there : (situation_at a.who a.move.next p).branch ≡ true = subst (λ (x : Draft). (situation_at x.who x.move.next p).branch ≡ true) from (sym (ap (λ (s : Situation). s.branch) c.situation.ensures) ∙ c.if-situation.true) in
    plays_same_at c.transact.result a c.transact.new.self (λ who. abort who p) (λ who. transact who (TxEvent.User (Request.UAbort p))) (aborts_there a.who p a.move.next there) c.transact.ensures

pub returns : goal.returns
returns c =
    let a = c.args.self.now in
    let p = c.args.peer in
    let v = c.self.inside in
    let drafted : Node → Draft = λ w. record { who = w.who; move = record { rec = later v.earlier v.step.rec; outs = v.outs; next = w.digest } } in
    let from : drafted c.deref.result.now ≡ a = ap drafted c.deref.ensures ∙ c.self.view_is in
    let none : (situation_at a.who a.move.next p).branch ≡ false = subst (λ (x : Draft). (situation_at x.who x.move.next p).branch ≡ false) from (sym (ap (λ (s : Situation). s.branch) c.situation.ensures) ∙ c.if-situation.false) in
    plays_same_at c.perform.result a c.perform.new.self (λ who. abort who p) (λ who. perform (TxOut.Carry p DialogueRecord.UAbort ∷ TxOut.Close p ∷ [])) (aborts_alone a.who p a.move.next none) c.perform.ensures
