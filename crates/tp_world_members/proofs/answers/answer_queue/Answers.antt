use Rattle.std.proofs.Common.{arith}
use Rattle.tp_world_members.proofs.Answered.{err_is, no_more, all_first, all_more_so, all_out_so, all_failed_so}
use Rattle.tp_world_members.proofs.answers.answer_queue.Goals as goal

pub loop-before-init : goal.loop-before-init
loop-before-init g c = λ w stands members.
    (omega arith, all_first _ w c.args.from c.args.lines.now c.args.world.now c.args.members.now.slots.items c.args.members.now.drivers.entries (record { world = stands; members = members }))

pub returns-in_err-next : goal.returns-in_err-next
returns-in_err-next g c = λ w stands members.
    let so = (c.loop-before.invariant w stands members).1 in
    let f = c.in_err-next.field-0.0 in
    all_failed_so _ w c.args.from c.args.lines.now c.loop-before.before c.loop-before.from c.loop-before.lines c.loop-before.world c.args.members.now.slots.items c.loop-before.members.slots.items c.loop-before.members.drivers.entries so
    c.answer_next.new.members.slots.items c.answer_next.new.members.drivers.entries c.answer_next.new.lines c.answer_next.new.world f c.from_residual.result (err_is c.from_residual.result f c.from_residual.ensures.1)
    (c.in_err-next.ensures {u = tt} so.world so.stands.world so.stands.members)

pub returns-in_default : goal.returns-in_default
returns-in_default g c = λ w stands members.
    let so = (c.loop-before.invariant w stands members).1 in
    all_out_so _ w c.args.from c.args.lines.now c.loop-before.before c.loop-before.from c.loop-before.lines c.loop-before.world c.args.members.now.slots.items c.loop-before.members.slots.items c.loop-before.members.drivers.entries so
    c.answer_next.new.members.slots.items c.answer_next.new.members.drivers.entries c.answer_next.new.lines c.answer_next.new.world c.in_ok-next.field-0 c.in_default.is
    (c.in_ok-next.ensures {u = tt} so.world so.stands.world so.stands.members)

pub loop-before-preserved : goal.loop-before-preserved
loop-before-preserved g c = λ w stands members.
    let so = (c.loop-before.invariant w stands members).1 in
    all_more_so _ w c.args.from c.args.lines.now c.loop-before.before c.loop-before.from c.loop-before.lines c.loop-before.world c.args.members.now.slots.items c.loop-before.members.slots.items c.loop-before.members.drivers.entries so
    c.answer_next.new.members.slots.items c.answer_next.new.members.drivers.entries c.answer_next.new.lines c.answer_next.new.world c.in_ok-next.field-0 c.in-Some.next c.in-Some.is
    (c.in_ok-next.ensures {u = tt} so.world so.stands.world so.stands.members)

pub returns : goal.returns
returns g c = λ w stands members.
    absurd (no_more c.loop-before.before (c.loop-before.invariant w stands members).0 c.loop-before-test.false)
