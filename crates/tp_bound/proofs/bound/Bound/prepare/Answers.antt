use Rattle.std.proofs.Common.{inr, length, sym, ap, ◌∙◌}
use Rattle.tp_bound.specs.Gathered.{Gathered}
use Rattle.tp_bound.proofs.Telling.{has_its_room}
use Rattle.tp_bound.proofs.Deciding.{Votes, answered, same_taken, bind_opens_on, bind_leaves_on, bind_tells_on}
use Rattle.tp_bound.proofs.bound.Bound.prepare.Goals as goal

pub returns-then-not-branch-clause-moments : goal.returns-then-not-branch-clause-moments
returns-then-not-branch-clause-moments g c =
    let told = g.D.Disk.told in
    let count = g.D.Disk.fault_count in
    let body = c.as_slice.result.now in
    let x = answered told count _ c.args.self.now c.append.new.gates body c.in_ok-text.text c.in_ok-append.field-0 c.self.view_is c.in_ok-append.ensures.appended c.append.ensures.moments c.as_slice.ensures c.count-count.ensures.started.place c.self.invariant.0 in
    let v : Votes c.self.inside.store c.self.inside.current c.in-Some.current c.self.inside.gates.gate c.in_ok-text.text = record {
      alone = c.self.invariant.1;
      is = c.in-Some.is;
      sound = sym c.is_spoilt.ensures ∙ c.if-is_spoilt.false;
      spelled = c.in_ok-text.ensures.is;
      read = c.in_ok-text.ensures.read;
      room = has_its_room c.self.inside.gates.gate (length c.in_ok-text.text) c.len.result c.fits.result c.if-not-fits.false c.len.ensures c.fits.ensures;
    } in
    inr (bind_leaves_on told count _ c.args.self.now c.append.new.gates body c.in_ok-text.text c.in_ok-append.field-0 c.self.view_is x c.in-Some.current v)

pub returns-clause-moments : goal.returns-clause-moments
returns-clause-moments g c =
    let told = g.D.Disk.told in
    let count = g.D.Disk.fault_count in
    let body = c.as_slice.result.now in
    let x = answered told count _ c.args.self.now c.append.new.gates body c.in_ok-text.text c.in_ok-append.field-0 c.self.view_is c.in_ok-append.ensures.appended c.append.ensures.moments c.as_slice.ensures c.count-count.ensures.started.place c.self.invariant.0 in
    let v : Votes c.self.inside.store c.self.inside.current c.in-Some.current c.self.inside.gates.gate c.in_ok-text.text = record {
      alone = c.self.invariant.1;
      is = c.in-Some.is;
      sound = sym c.is_spoilt.ensures ∙ c.if-is_spoilt.false;
      spelled = c.in_ok-text.ensures.is;
      read = c.in_ok-text.ensures.read;
      room = has_its_room c.self.inside.gates.gate (length c.in_ok-text.text) c.len.result c.fits.result c.if-not-fits.false c.len.ensures c.fits.ensures;
    } in
    inr (bind_leaves_on told count _ c.args.self.now c.append.new.gates body c.in_ok-text.text c.in_ok-append.field-0 c.self.view_is x c.in-Some.current v)

pub invariant_of-self-2 : goal.invariant_of-self-2
invariant_of-self-2 g c =
    let told = g.D.Disk.told in
    let count = g.D.Disk.fault_count in
    let body = c.as_slice.result.now in
    let x = answered told count _ c.args.self.now c.append.new.gates body c.in_ok-text.text c.in_ok-append.field-0 c.self.view_is c.in_ok-append.ensures.appended c.append.ensures.moments c.as_slice.ensures c.count-count.ensures.started.place c.self.invariant.0 in
    let v : Votes c.self.inside.store c.self.inside.current c.in-Some.current c.self.inside.gates.gate c.in_ok-text.text = record {
      alone = c.self.invariant.1;
      is = c.in-Some.is;
      sound = sym c.is_spoilt.ensures ∙ c.if-is_spoilt.false;
      spelled = c.in_ok-text.ensures.is;
      read = c.in_ok-text.ensures.read;
      room = has_its_room c.self.inside.gates.gate (length c.in_ok-text.text) c.len.result c.fits.result c.if-not-fits.false c.len.ensures c.fits.ensures;
    } in
    let same = same_taken c.self.inside.current c.in-Some-take.current c.in-Some.current c.in-Some-take.ensures.value c.in-Some.is in
    let bound_so = c.into_pending.ensures ∙ ap (λ (h : Gathered). record { aaid = h.aaid; writes = h.writes }) same in
    (bind_opens_on told count _ c.args.self.now c.append.new.gates body c.in_ok-text.text c.in_ok-append.field-0 c.self.view_is x c.in-Some.current c.into_pending.result c.if-not-branch.false v bound_so, λ p e. c.take.ensures.after)

pub returns-clause-tells : goal.returns-clause-tells
returns-clause-tells g c =
    let told = g.D.Disk.told in
    let count = g.D.Disk.fault_count in
    let body = c.as_slice.result.now in
    let x = answered told count _ c.args.self.now c.append.new.gates body c.in_ok-text.text c.in_ok-append.field-0 c.self.view_is c.in_ok-append.ensures.appended c.append.ensures.moments c.as_slice.ensures c.count-count.ensures.started.place c.self.invariant.0 in
    let v : Votes c.self.inside.store c.self.inside.current c.in-Some.current c.self.inside.gates.gate c.in_ok-text.text = record {
      alone = c.self.invariant.1;
      is = c.in-Some.is;
      sound = sym c.is_spoilt.ensures ∙ c.if-is_spoilt.false;
      spelled = c.in_ok-text.ensures.is;
      read = c.in_ok-text.ensures.read;
      room = has_its_room c.self.inside.gates.gate (length c.in_ok-text.text) c.len.result c.fits.result c.if-not-fits.false c.len.ensures c.fits.ensures;
    } in
    let same = same_taken c.self.inside.current c.in-Some-take.current c.in-Some.current c.in-Some-take.ensures.value c.in-Some.is in
    let bound_so = c.into_pending.ensures ∙ ap (λ (h : Gathered). record { aaid = h.aaid; writes = h.writes }) same in
    bind_tells_on told count _ c.args.self.now c.append.new.gates body c.in_ok-text.text c.in_ok-append.field-0 c.self.view_is x c.in-Some.current c.into_pending.result c.take.new.self c.if-not-branch.false v bound_so c.take.ensures.after
