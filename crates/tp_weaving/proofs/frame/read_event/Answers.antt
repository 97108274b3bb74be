use Rattle.std.proofs.Common.{Some, ◌∙◌, ap, sym, subst, arith}
use Rattle.tp_names.specs.declared.bad_bytes.RecordFault.{RecordFault}
use Rattle.tp_names.specs.Grammar.{IsFaultOf}
use Rattle.tp_names.proofs.Numbers.{bytes_from}
use Rattle.tp_records.specs.declared.body.Body.{Body}
use Rattle.tp_records.specs.BodyReading.{event_of, body_grammar}
use Rattle.tp_streams.proofs.Reading.{said_whole, said_part, said_nothing, said_output}
use Rattle.tp_weaving.proofs.frame.read_event.Goals as goal

pub returns-in-Err-BadRecord : goal.returns-in-Err-BadRecord
returns-in-Err-BadRecord c =
    sym
    (said_nothing c.in-Err-BadRecord.field-0-0 c.args.body.now (bytes_from _ (λ i. omega (arith, c.type_inv.body i)))
    (subst (λ (f : RecordFault). IsFaultOf body_grammar c.args.body.now f) c.in-Err-BadRecord.field-0-is c.in-Err-BadRecord.ensures.bad))

pub returns-then-len-body : goal.returns-then-len-body
returns-then-len-body c =
    sym
    (said_whole c.in-Ok.found.0 c.in-Ok.found.1 c.args.body.now c.in-Ok.ensures.ok c.if-len-body.true
    ∙ ap (λ (v : Body). event_of (Some v)) c.in-Event.is)

pub returns-in-Event : goal.returns-in-Event
returns-in-Event c = sym (said_part c.in-Ok.found.0 c.in-Ok.found.1 c.args.body.now c.in-Ok.ensures.ok c.if-len-body.false)

pub returns : goal.returns
returns c = sym (said_output _ c.in-Ok.found.0 c.in-Ok.found.1 c.args.body.now c.in-Output.is c.in-Ok.ensures.ok)
