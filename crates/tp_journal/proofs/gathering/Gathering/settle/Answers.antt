use Rattle.std.proofs.Common.{◌≡◌, ◌<◌, ◌-◌, ℕ, List, None, Some, length, drop, take, set, [], ◌∷◌, rules, arith, sym, ap, ◌∙◌, subst}
use Rattle.std.proofs.lemmas.List.{take_rest}
use Rattle.tp_outside.specs.Story.{Story}
use Rattle.tp_journal.specs.Log.{place_behind, settled_bytes, StandsFor, StandsForEither}
use Rattle.tp_journal.specs.Told.{IsOn, LeavesOnly, LeavesNow, LeavesFront}
use Rattle.tp_journal.specs.Started.{Started, IsKept}
use Rattle.tp_journal.specs.Journals.{bodies_in}
use Rattle.tp_journal.specs.Gathering.{Gathered, IsGathered, gathered_of, bodies_settled, bodies_noted}
use Rattle.tp_journal.proofs.Forcing.{last_at_rest}
use Rattle.tp_journal.proofs.Gathered.{settle_unmoved, last_unmoved, waits_fit, gate_here, settle_leaves, settle_rests, settle_bytes, settled_now, closes_gate}
use Rattle.tp_journal.proofs.gathering.Gathering.settle.Goals as goal

pub returns-then-self-count-clause-moments : goal.returns-then-self-count-clause-moments
returns-then-self-count-clause-moments g c open_now s tells = settle_unmoved g.D.Disk.told _ _ c.self.view_is _ c.self.invariant.1 open_now s tells

pub returns-then-self-count-clause-last : goal.returns-then-self-count-clause-last
returns-then-self-count-clause-last g c =
    let open_now : c.self.inside.shut ≡ None = search rules in
    let all : c.args.self.now.settled ≡ length c.args.self.now.journal.list =
    omega (arith, c.if-self-count.true, ap length c.list-count.ensures.is, ap (λ (v : Gathered _). v.settled) c.self.view_is, ap (λ (v : Gathered _). length v.journal.list) c.self.view_is) in
    last_unmoved g.D.Disk.told _ _ c.self.view_is _ c.self.invariant.1 (sym (ap (λ (v : Gathered _). v.journal.shut) c.self.view_is) ∙ open_now) all

pub overflow_sub-place-2 : goal.overflow_sub-place-2
overflow_sub-place-2 g c =
    let told = g.D.Disk.told c.self.inside.disk in
    omega (arith, c.len.ensures, c.self.inside.waits.ok.0, waits_fit told told _ c.self.inside.waits.items c.self.invariant.1)

pub returns-in_default-append-clause-moments : goal.returns-in_default-append-clause-moments
returns-in_default-append-clause-moments g c open_now s tells =
    let told = g.D.Disk.told in
    let log = c.self.inside in
    let waits = c.deref.result.now in
    let raw : Started _ _ = record { disk = log.disk; shelf = log.shelf; gate = log.gate; shut = log.shut } in
    let here : Gathered _ = gathered_of raw log.settled in
    let is : IsGathered (told log.disk) here waits = subst (λ w. IsGathered (told log.disk) here w) (sym c.deref.ensures.value) c.self.invariant.1 in
    let some : log.settled < length here.journal.list = omega (arith, is.within, c.if-self-count.false, ap length c.list-count.ensures.is) in
    let place : log.gate - (c.len.result - 1) ≡ place_behind (bodies_settled here) = gate_here (told log.disk) (told c.append.new.disk) here waits is _ (omega (arith, c.len.ensures, log.waits.ok.0, ap length c.deref.ensures.value)) in
    subst (λ (v : Gathered _). v.journal.shut ≡ None → (s : Story) → told v.journal.disk ≡ Some s → LeavesOnly (StandsForEither (bodies_settled v) (bodies_in v.journal)) (told v.journal.disk) (told c.append.new.disk)) c.self.view_is
    (settle_leaves (told log.disk) (told c.append.new.disk) here waits is some (log.gate - (c.len.result - 1)) place (take (length waits - 1) (drop 1 waits)) (take_rest waits 1) c.append.ensures.moments) open_now s tells

pub invariant_of-self-2 : goal.invariant_of-self-2
invariant_of-self-2 g c =
    let told = g.D.Disk.told in
    let log = c.self.inside in
    let waits = c.deref.result.now in
    let raw : Started _ _ = record { disk = log.disk; shelf = log.shelf; gate = log.gate; shut = log.shut } in
    let here : Gathered _ = gathered_of raw log.settled in
    let is : IsGathered (told log.disk) here waits = subst (λ w. IsGathered (told log.disk) here w) (sym c.deref.ensures.value) c.self.invariant.1 in
    let some : log.settled < length here.journal.list = omega (arith, is.within, c.if-self-count.false, ap length c.list-count.ensures.is) in
    let place : log.gate - (c.len.result - 1) ≡ place_behind (bodies_settled here) = gate_here (told log.disk) (told c.append.new.disk) here waits is _ (omega (arith, c.len.ensures, log.waits.ok.0, ap length c.deref.ensures.value)) in
    let open_now : log.shut ≡ None = search rules in
    let kept : IsKept (told c.append.new.disk) log.gate (bodies_in here.journal) log.shut =
    settle_rests (told log.disk) (told c.append.new.disk) here waits is some (log.gate - (c.len.result - 1)) place (take (length waits - 1) (drop 1 waits)) (take_rest waits 1) (c.in-Ok.ensures {u = tt}).rests open_now c.append.ensures.untold in
    let closed : set c.truncate.new.self.items 0 0 ≡ 0 ∷ [] = ap (λ (l : List ℕ). set l 0 0) c.truncate.ensures.items ∙ closes_gate (bodies_noted here) log.waits.items c.self.invariant.1.text in (
      c.self.invariant.0,
      subst (λ w. IsGathered (told c.append.new.disk) (gathered_of (record { disk = c.append.new.disk; shelf = log.shelf; gate = log.gate; shut = log.shut }) (length c.list-count.result.now)) w) (sym closed)
          (settled_now (told log.disk) (told c.append.new.disk) here waits is (length c.list-count.result.now) (ap length c.list-count.ensures.is) c.append.new.disk kept),
    )

pub returns-clause-moments : goal.returns-clause-moments
returns-clause-moments g c open_now s tells =
    let told = g.D.Disk.told in
    let log = c.self.inside in
    let waits = c.deref.result.now in
    let raw : Started _ _ = record { disk = log.disk; shelf = log.shelf; gate = log.gate; shut = log.shut } in
    let here : Gathered _ = gathered_of raw log.settled in
    let is : IsGathered (told log.disk) here waits = subst (λ w. IsGathered (told log.disk) here w) (sym c.deref.ensures.value) c.self.invariant.1 in
    let some : log.settled < length here.journal.list = omega (arith, is.within, c.if-self-count.false, ap length c.list-count.ensures.is) in
    let place : log.gate - (c.len.result - 1) ≡ place_behind (bodies_settled here) = gate_here (told log.disk) (told c.append.new.disk) here waits is _ (omega (arith, c.len.ensures, log.waits.ok.0, ap length c.deref.ensures.value)) in
    subst (λ (v : Gathered _). v.journal.shut ≡ None → (s : Story) → told v.journal.disk ≡ Some s → LeavesOnly (StandsForEither (bodies_settled v) (bodies_in v.journal)) (told v.journal.disk) (told c.append.new.disk)) c.self.view_is
    (settle_leaves (told log.disk) (told c.append.new.disk) here waits is some (log.gate - (c.len.result - 1)) place (take (length waits - 1) (drop 1 waits)) (take_rest waits 1) c.append.ensures.moments) open_now s tells

pub returns-clause-bytes : goal.returns-clause-bytes
returns-clause-bytes g c file on =
    let told = g.D.Disk.told in
    let log = c.self.inside in
    let waits = c.deref.result.now in
    let raw : Started _ _ = record { disk = log.disk; shelf = log.shelf; gate = log.gate; shut = log.shut } in
    let here : Gathered _ = gathered_of raw log.settled in
    let is : IsGathered (told log.disk) here waits = subst (λ w. IsGathered (told log.disk) here w) (sym c.deref.ensures.value) c.self.invariant.1 in
    let some : log.settled < length here.journal.list = omega (arith, is.within, c.if-self-count.false, ap length c.list-count.ensures.is) in
    let place : log.gate - (c.len.result - 1) ≡ place_behind (bodies_settled here) = gate_here (told log.disk) (told c.append.new.disk) here waits is _ (omega (arith, c.len.ensures, log.waits.ok.0, ap length c.deref.ensures.value)) in
    let open_now : log.shut ≡ None = search rules in
    let forced : IsOn (told log.disk) file → IsOn (told c.append.new.disk) (settled_bytes (place_behind (bodies_settled here)) (bodies_noted here) file) =
    λ on. settle_bytes (told log.disk) (told c.append.new.disk) here waits is some (log.gate - (c.len.result - 1)) place (take (length waits - 1) (drop 1 waits)) (take_rest waits 1) file open_now on ((c.in-Ok.ensures {u = tt}).bytes file on) in
    subst (λ (v : Gathered _). IsOn (told v.journal.disk) file → IsOn (told c.append.new.disk) (settled_bytes (place_behind (bodies_settled v)) (bodies_noted v) file)) c.self.view_is forced on

pub returns-clause-last : goal.returns-clause-last
returns-clause-last g c =
    let told = g.D.Disk.told in
    let log = c.self.inside in
    let waits = c.deref.result.now in
    let raw : Started _ _ = record { disk = log.disk; shelf = log.shelf; gate = log.gate; shut = log.shut } in
    let here : Gathered _ = gathered_of raw log.settled in
    let is : IsGathered (told log.disk) here waits = subst (λ w. IsGathered (told log.disk) here w) (sym c.deref.ensures.value) c.self.invariant.1 in
    let some : log.settled < length here.journal.list = omega (arith, is.within, c.if-self-count.false, ap length c.list-count.ensures.is) in
    let place : log.gate - (c.len.result - 1) ≡ place_behind (bodies_settled here) = gate_here (told log.disk) (told c.append.new.disk) here waits is _ (omega (arith, c.len.ensures, log.waits.ok.0, ap length c.deref.ensures.value)) in
    let open_now : log.shut ≡ None = search rules in
    let kept : IsKept (told c.append.new.disk) log.gate (bodies_in here.journal) log.shut =
    settle_rests (told log.disk) (told c.append.new.disk) here waits is some (log.gate - (c.len.result - 1)) place (take (length waits - 1) (drop 1 waits)) (take_rest waits 1) (c.in-Ok.ensures {u = tt}).rests open_now c.append.ensures.untold in
    subst (λ (v : Gathered _). LeavesNow (λ file. StandsFor file (bodies_in v.journal)) (told c.append.new.disk)) c.self.view_is (last_at_rest (told c.append.new.disk) log.gate (bodies_in here.journal) log.shut open_now kept)

pub returns-in_default-append-clause-front : goal.returns-in_default-append-clause-front
returns-in_default-append-clause-front g c =
    let told = g.D.Disk.told in
    let log = c.self.inside in
    let raw : Started _ _ = record { disk = log.disk; shelf = log.shelf; gate = log.gate; shut = log.shut } in
    let here : Gathered _ = gathered_of raw log.settled in
    let place : log.gate - (c.len.result - 1) ≡ place_behind (bodies_settled here) = gate_here (told log.disk) (told c.append.new.disk) here log.waits.items c.self.invariant.1 _ (omega (arith, c.len.ensures, log.waits.ok.0)) in
    subst (λ (v : Gathered _). LeavesFront (place_behind (bodies_settled v)) (told v.journal.disk) (told c.append.new.disk)) c.self.view_is
    (subst (λ (n : ℕ). LeavesFront n (told log.disk) (told c.append.new.disk)) place c.append.ensures.front)

pub returns-clause-front : goal.returns-clause-front
returns-clause-front g c =
    let told = g.D.Disk.told in
    let log = c.self.inside in
    let raw : Started _ _ = record { disk = log.disk; shelf = log.shelf; gate = log.gate; shut = log.shut } in
    let here : Gathered _ = gathered_of raw log.settled in
    let place : log.gate - (c.len.result - 1) ≡ place_behind (bodies_settled here) = gate_here (told log.disk) (told c.append.new.disk) here log.waits.items c.self.invariant.1 _ (omega (arith, c.len.ensures, log.waits.ok.0)) in
    subst (λ (v : Gathered _). LeavesFront (place_behind (bodies_settled v)) (told v.journal.disk) (told c.append.new.disk)) c.self.view_is
    (subst (λ (n : ℕ). LeavesFront n (told log.disk) (told c.append.new.disk)) place c.append.ensures.front)
