use Rattle.std.proofs.Common.{sym, subst}
use Rattle.tp_records.specs.declared.dialogue.DialogueRecord.{DialogueRecord}
use Rattle.tp_model.specs.declared.transaction.TxEvent.{TxEvent}
use Rattle.tp_model.specs.Dialogues.{Hear_defer_end, Hear_defer_grant}
use Rattle.tp_model.specs.Arrivals.{take_record}
use Rattle.tp_draft.specs.Draft.{Plays}
use Rattle.tp_draft.specs.Talk.{taking_deferral}
use Rattle.tp_draft.specs.Taking.{arc_to}
use Rattle.tp_draft.proofs.draft.Draft.take_record.Goals as goal

pub returns-in-DeferEnd : goal.returns-in-DeferEnd
returns-in-DeferEnd c =
    let a = c.args.self.now in
    let p = c.args.from.now.node in
    subst (λ (r : DialogueRecord). Plays c.take_deferral.result a c.take_deferral.new.self (λ who. take_record who (arc_to c.args.from.now) r)) (sym c.in-DeferEnd.is)
    (subst (λ (r : DialogueRecord). Plays c.take_deferral.result a c.take_deferral.new.self (taking_deferral p Hear_defer_end (TxEvent.Took p r))) c.in-DeferEnd.is c.take_deferral.ensures)

pub returns-in-DeferGrant : goal.returns-in-DeferGrant
returns-in-DeferGrant c =
    let a = c.args.self.now in
    let p = c.args.from.now.node in
    subst (λ (r : DialogueRecord). Plays c.take_deferral-in-DeferGrant.result a c.take_deferral-in-DeferGrant.new.self (λ who. take_record who (arc_to c.args.from.now) r)) (sym c.in-DeferGrant.is)
    (subst (λ (r : DialogueRecord). Plays c.take_deferral-in-DeferGrant.result a c.take_deferral-in-DeferGrant.new.self (taking_deferral p Hear_defer_grant (TxEvent.Took p r))) c.in-DeferGrant.is c.take_deferral-in-DeferGrant.ensures)
