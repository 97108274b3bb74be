use Rattle.std.proofs.Common.{refl, ap, Some}
use Rattle.tp_members.specs.Expansion.{memberless}
use Rattle.tp_world_members.proofs.Answered.{err_is, asks_of, out, goes_on, failed}
use Rattle.tp_world_members.proofs.answers.answer_next.Goals as goal

pub returns-in_default : goal.returns-in_default
returns-in_default g c = λ w stands members.
    let ls = c.args.lines.now in
    let same = c.in_ok-asked.ensures.same in
    out _ c.args.before w c.args.from ls c.args.world.now c.args.members.now.slots.items c.next_request.new.members.slots.items c.args.members.now.drivers.entries c.next_request.new.members.drivers.entries
    (record { world = stands; members = members }) same.0 (ap (λ d. d.entries) same.1) c.as_slice.result.now c.in_ok-asked.field-0 ls refl c.as_slice.ensures c.in_default.is c.in_ok-asked.ensures.asks

pub returns-in_err-answer : goal.returns-in_err-answer
returns-in_err-answer g c = λ w stands members.
    let ls = c.args.lines.now in
    let same = c.in_ok-asked.ensures.same in
    let x = c.in-Some.asked in
    let f = c.in_err-answer.field-0.0 in
    failed _ c.args.before w c.args.from ls c.args.world.now c.args.members.now.slots.items c.next_request.new.members.slots.items c.args.members.now.drivers.entries c.next_request.new.members.drivers.entries
    (record { world = stands; members = members }) same.0 (ap (λ d. d.entries) same.1) x c.in-Some.next
    (asks_of _ c.args.before w c.args.from ls c.args.world.now c.args.members.now.slots.items c.next_request.new.members.slots.items c.args.members.now.drivers.entries c.next_request.new.members.drivers.entries
    (record { world = stands; members = members }) same.0 (ap (λ d. d.entries) same.1) c.as_slice.result.now c.in_ok-asked.field-0 (Some (x, c.in-Some.next)) c.as_slice.ensures c.in-Some.is c.in_ok-asked.ensures.asks)
    f c.from_residual-in_err-answer.result x.node c.line_request.result c.answer.new.lines c.answer.new.world (err_is c.from_residual-in_err-answer.result f c.from_residual-in_err-answer.ensures.1) refl c.line_request.ensures
    (c.in_err-answer.ensures {u = tt} (memberless w) stands)

pub returns : goal.returns
returns g c = λ w stands members.
    let ls = c.args.lines.now in
    let same = c.in_ok-asked.ensures.same in
    let x = c.in-Some.asked in
    goes_on _ c.args.before w c.args.from ls c.args.world.now c.args.members.now.slots.items c.next_request.new.members.slots.items c.args.members.now.drivers.entries c.next_request.new.members.drivers.entries
    (record { world = stands; members = members }) same.0 (ap (λ d. d.entries) same.1) x c.in-Some.next
    (asks_of _ c.args.before w c.args.from ls c.args.world.now c.args.members.now.slots.items c.next_request.new.members.slots.items c.args.members.now.drivers.entries c.next_request.new.members.drivers.entries
    (record { world = stands; members = members }) same.0 (ap (λ d. d.entries) same.1) c.as_slice.result.now c.in_ok-asked.field-0 (Some (x, c.in-Some.next)) c.as_slice.ensures c.in-Some.is c.in_ok-asked.ensures.asks)
    x.node c.line_request.result c.answer.new.lines c.answer.new.world refl c.line_request.ensures
    (c.in_ok-answer.ensures {u = tt} (memberless w) stands)
