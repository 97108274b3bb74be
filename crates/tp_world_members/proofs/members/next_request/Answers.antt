use Rattle.std.proofs.Common.{ap, ◌∙◌, Some, None}
use Rattle.tp_world_members.specs.Members.{driver_in}
use Rattle.tp_world_members.proofs.Asking.{asks_as, asked_there, passed_more, same_more}
use Rattle.tp_world_members.proofs.members.next_request.Goals as goal

pub returns-in-Some-clause-asks : goal.returns-in-Some-clause-asks
returns-in-Some-clause-asks g c =
    let xs = c.args.members.now.slots.items in
    let es = c.args.members.now.drivers.entries in
    let ys = c.loop-place.members.slots.items in
    let fs = c.loop-place.members.drivers.entries in
    let zs = c.ask.new.self.slots.items in
    let line = c.index-lines-place.result in
    let i = c.loop-place.invariant in
    asked_there _ xs ys zs (driver_in xs es) c.args.lines.now c.args.from c.loop-place.place line c.in-Some.asked c.loop-place-test.true c.index-lines-place.is i.2
    (asks_as _ xs ys zs es fs line c.in_ok-asked.field-0 (Some c.in-Some.asked) i.0 (ap (λ d. d.entries) i.1) c.in-Some.is c.in_ok-asked.ensures.asks)

pub loop-place-preserved : goal.loop-place-preserved
loop-place-preserved g c =
    let xs = c.args.members.now.slots.items in
    let es = c.args.members.now.drivers.entries in
    let ys = c.loop-place.members.slots.items in
    let fs = c.loop-place.members.drivers.entries in
    let zs = c.ask.new.self.slots.items in
    let line = c.index-lines-place.result in
    let i = c.loop-place.invariant in (
      same_more xs ys zs i.0 c.in_ok-asked.ensures.same.0,
      c.in_ok-asked.ensures.same.1 ∙ i.1,
      passed_more _ xs ys zs (driver_in xs es) c.args.lines.now c.args.from c.loop-place.place line c.loop-place-test.true c.index-lines-place.is i.2
          (asks_as _ xs ys zs es fs line c.in_ok-asked.field-0 None i.0 (ap (λ d. d.entries) i.1) c.in_default.is c.in_ok-asked.ensures.asks),
    )
