use Rattle.std.proofs.Common.{◌≡◌, ◌∙◌, ap, true, false, ◌∷◌, [], sym, subst}
use Rattle.std.specs.Option.{is_some}
use Rattle.tp_records.specs.declared.dialogue.DialogueRecord.{DialogueRecord}
use Rattle.tp_records.specs.declared.indication.Indication.{Indication}
use Rattle.tp_model.specs.declared.transaction.TxEvent.{TxEvent}
use Rattle.tp_model.specs.declared.transaction.TxOut.{TxOut}
use Rattle.tp_model.specs.Arcs.{without_arc}
use Rattle.tp_model.specs.Node.{perform, transact}
use Rattle.tp_model.specs.Arrivals.{take_abort}
use Rattle.tp_draft.specs.Draft.{Draft, Plays, later}
use Rattle.tp_node.specs.Node.{Node}
use Rattle.tp_draft.proofs.Drafts.{plays_from}
use Rattle.tp_draft.proofs.Talks.{takes_there, takes_alone}
use Rattle.tp_draft.proofs.draft.Draft.take_abort.Goals as goal

pub returns-then-has_current : goal.returns-then-has_current
returns-then-has_current c =
    let v = c.self.inside in
    let p = c.args.peer in
    let d = c.deref_mut.result.now.digest in
    let drafted : Node → Draft = λ w. record { who = w.who; move = record { rec = later v.earlier v.step.rec; outs = v.outs; next = w.digest } } in
    let from : drafted c.deref_mut.result.now ≡ c.args.self.now = ap drafted c.deref_mut.ensures.value ∙ c.self.view_is in
    let there : is_some d.current ≡ true = sym (ap (λ (w : Node). is_some w.digest.current) c.close.ensures) ∙ sym (ap (λ (w : Node). is_some w.digest.current) c.deref.ensures) ∙ sym c.has_current.ensures ∙ c.if-has_current.true in
    subst (λ (a : Draft). Plays c.transact.result a c.transact.new.self (λ who. take_abort who p)) from
    (plays_from c.transact.result (drafted c.deref_mut.result.now) (drafted c.close.new.self) c.transact.new.self (record d { arcs = without_arc d.arcs p }) (λ who. transact who (TxEvent.Took p DialogueRecord.UAbort)) (λ who. take_abort who p) (ap drafted c.close.ensures) (takes_there c.deref_mut.result.now.who p d there) c.transact.ensures)

pub returns : goal.returns
returns c =
    let v = c.self.inside in
    let p = c.args.peer in
    let d = c.deref_mut.result.now.digest in
    let drafted : Node → Draft = λ w. record { who = w.who; move = record { rec = later v.earlier v.step.rec; outs = v.outs; next = w.digest } } in
    let from : drafted c.deref_mut.result.now ≡ c.args.self.now = ap drafted c.deref_mut.ensures.value ∙ c.self.view_is in
    let none : is_some d.current ≡ false = sym (ap (λ (w : Node). is_some w.digest.current) c.close.ensures) ∙ sym (ap (λ (w : Node). is_some w.digest.current) c.deref.ensures) ∙ sym c.has_current.ensures ∙ c.if-has_current.false in
    subst (λ (a : Draft). Plays c.tell.result a c.tell.new.self (λ who. take_abort who p)) from
    (plays_from c.tell.result (drafted c.deref_mut.result.now) (drafted c.close.new.self) c.tell.new.self (record d { arcs = without_arc d.arcs p }) (λ who. perform (TxOut.Tell (Indication.UAbort p) ∷ [])) (λ who. take_abort who p) (ap drafted c.close.ensures) (takes_alone c.deref_mut.result.now.who p d none) c.tell.ensures)
