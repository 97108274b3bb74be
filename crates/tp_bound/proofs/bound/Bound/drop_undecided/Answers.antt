use Rattle.std.proofs.Common.{inr}
use Rattle.tp_bound.proofs.Deciding.{answered, drop_opens_on, drop_leaves_on, drop_tells_on}
use Rattle.tp_bound.proofs.bound.Bound.drop_undecided.Goals as goal

pub returns-then-not-branch-clause-moments : goal.returns-then-not-branch-clause-moments
returns-then-not-branch-clause-moments g c =
    let told = g.D.Disk.told in
    let count = g.D.Disk.fault_count in
    let body = c.as_slice.result.now in
    let x = answered told count _ c.args.self.now c.append.new.gates body c.in_ok-text.text c.in_ok-append.field-0 c.self.view_is c.in_ok-append.ensures.appended c.append.ensures.moments c.as_slice.ensures c.count-count.ensures.started.place c.self.invariant.0 in
    inr (drop_leaves_on told count _ c.args.self.now c.append.new.gates body c.in_ok-text.text c.in_ok-append.field-0 c.self.view_is x c.in-Some.pending c.args.answer c.args.current c.in-Some.is c.in_ok-text.ensures.read)

pub returns-clause-moments : goal.returns-clause-moments
returns-clause-moments g c =
    let told = g.D.Disk.told in
    let count = g.D.Disk.fault_count in
    let body = c.as_slice.result.now in
    let x = answered told count _ c.args.self.now c.append.new.gates body c.in_ok-text.text c.in_ok-append.field-0 c.self.view_is c.in_ok-append.ensures.appended c.append.ensures.moments c.as_slice.ensures c.count-count.ensures.started.place c.self.invariant.0 in
    inr (drop_leaves_on told count _ c.args.self.now c.append.new.gates body c.in_ok-text.text c.in_ok-append.field-0 c.self.view_is x c.in-Some.pending c.args.answer c.args.current c.in-Some.is c.in_ok-text.ensures.read)

pub invariant_of-self-2 : goal.invariant_of-self-2
invariant_of-self-2 g c =
    let told = g.D.Disk.told in
    let count = g.D.Disk.fault_count in
    let body = c.as_slice.result.now in
    let x = answered told count _ c.args.self.now c.append.new.gates body c.in_ok-text.text c.in_ok-append.field-0 c.self.view_is c.in_ok-append.ensures.appended c.append.ensures.moments c.as_slice.ensures c.count-count.ensures.started.place c.self.invariant.0 in
    (drop_opens_on told count _ c.args.self.now c.append.new.gates body c.in_ok-text.text c.in_ok-append.field-0 c.self.view_is x c.in-Some.pending c.if-not-branch.false c.in-Some.is c.in_ok-text.ensures.read, λ p e. absurd cc)

pub returns-clause-tells : goal.returns-clause-tells
returns-clause-tells g c =
    let told = g.D.Disk.told in
    let count = g.D.Disk.fault_count in
    let body = c.as_slice.result.now in
    let x = answered told count _ c.args.self.now c.append.new.gates body c.in_ok-text.text c.in_ok-append.field-0 c.self.view_is c.in_ok-append.ensures.appended c.append.ensures.moments c.as_slice.ensures c.count-count.ensures.started.place c.self.invariant.0 in
    drop_tells_on told count _ c.args.self.now c.append.new.gates body c.in_ok-text.text c.in_ok-append.field-0 c.self.view_is x c.in-Some.pending c.args.answer c.args.current c.if-not-branch.false c.in-Some.is c.in_ok-text.ensures.is
