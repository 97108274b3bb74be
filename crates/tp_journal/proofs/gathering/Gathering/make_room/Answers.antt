use Rattle.std.proofs.Common.{◌≡◌, ◌+◌, ◌-◌, ℕ, None, Some, rules, arith, refl, sym, ap, ◌∙◌, subst}
use Rattle.tp_outside.specs.Faults.{HasRisen}
use Rattle.tp_journal.specs.Log.{place_behind}
use Rattle.tp_journal.specs.Told.{LeavesFront}
use Rattle.tp_journal.specs.Started.{Started}
use Rattle.tp_journal.specs.Gathering.{Gathered, Stays, gathered_of, bodies_settled}
use Rattle.tp_journal.proofs.Gathered.{stays_still, stays_on, goes_on, waits_fit, gate_here}
use Rattle.tp_journal.proofs.gathering.Gathering.make_room.Goals as goal

pub returns-then-is_some-clause-stays : goal.returns-then-is_some-clause-stays
returns-then-is_some-clause-stays g c =
    let told = g.D.Disk.told in
    let faults = g.D.Disk.fault_count in
    let log = c.self.inside in
    let raw : Started _ _ = record { disk = log.disk; shelf = log.shelf; gate = log.gate; shut = log.shut } in
    let here : Gathered _ = gathered_of raw log.settled in
    subst (λ (v : Gathered _). Stays told faults v v) c.self.view_is (stays_still told faults here log.waits.items c.self.invariant.1 here refl)

pub returns-then-long-ge-AHEAD-clause-stays : goal.returns-then-long-ge-AHEAD-clause-stays
returns-then-long-ge-AHEAD-clause-stays g c =
    let told = g.D.Disk.told in
    let faults = g.D.Disk.fault_count in
    let log = c.self.inside in
    let raw : Started _ _ = record { disk = log.disk; shelf = log.shelf; gate = log.gate; shut = log.shut } in
    let here : Gathered _ = gathered_of raw log.settled in
    subst (λ (v : Gathered _). Stays told faults v here) c.self.view_is (stays_still told faults here log.waits.items c.self.invariant.1 here refl)

pub overflow_sub-place : goal.overflow_sub-place
overflow_sub-place g c =
    let told = g.D.Disk.told c.self.inside.disk in
    omega (arith, c.len-long.ensures, c.self.inside.waits.ok.0, waits_fit told told _ c.self.inside.waits.items c.self.invariant.1)

pub returns-in_default-clause-stays : goal.returns-in_default-clause-stays
returns-in_default-clause-stays g c =
    let told = g.D.Disk.told in
    let faults = g.D.Disk.fault_count in
    let log = c.self.inside in
    let raw : Started _ _ = record { disk = log.disk; shelf = log.shelf; gate = log.gate; shut = log.shut } in
    let here : Gathered _ = gathered_of raw log.settled in
    subst (λ (v : Gathered _). Stays told faults v here) c.self.view_is (stays_still told faults here log.waits.items c.self.invariant.1 here refl)

pub returns-in_default-widen-clause-stays : goal.returns-in_default-widen-clause-stays
returns-in_default-widen-clause-stays g c =
    let told = g.D.Disk.told in
    let faults = g.D.Disk.fault_count in
    let log = c.self.inside in
    let raw : Started _ _ = record { disk = log.disk; shelf = log.shelf; gate = log.gate; shut = log.shut } in
    let here : Gathered _ = gathered_of raw log.settled in
    let place : log.gate - (c.len-long.result - 1) ≡ place_behind (bodies_settled here) = gate_here (told log.disk) (told log.disk) here log.waits.items c.self.invariant.1 _ (omega (arith, c.len-long.ensures, log.waits.ok.0)) in
    let open_now : log.shut ≡ None = search rules in
    let front : LeavesFront (place_behind (bodies_settled here) + 1) (told log.disk) (told c.widen.new.disk) = subst (λ (n : ℕ). LeavesFront (n + 1) (told log.disk) (told c.widen.new.disk)) place c.widen.ensures.front in
    let then : Gathered _ = gathered_of (record { disk = c.widen.new.disk; shelf = log.shelf; gate = log.gate; shut = Some c.faults.result }) log.settled in
    subst (λ (v : Gathered _). Stays told faults v then) c.self.view_is (stays_on told faults here log.waits.items c.self.invariant.1 open_now c.widen.new.disk front c.widen.ensures.untold c.widen.ensures.kept (Some c.faults.result))

pub returns-in_default-widen-clause-fails : goal.returns-in_default-widen-clause-fails
returns-in_default-widen-clause-fails g c =
    let faults = g.D.Disk.fault_count in
    let open_now : c.self.inside.shut ≡ None = search rules in (
      sym (ap (λ (v : Gathered _). v.journal.shut) c.self.view_is) ∙ open_now,
      ap (λ (n : ℕ). Some n) c.faults.ensures,
      subst (λ (v : Gathered _). HasRisen (faults v.journal.disk) (faults c.widen.new.disk)) c.self.view_is c.in_default-widen.ensures.risen,
    )

pub invariant_of-self-2 : goal.invariant_of-self-2
invariant_of-self-2 g c =
    let told = g.D.Disk.told in
    let faults = g.D.Disk.fault_count in
    let log = c.self.inside in
    let raw : Started _ _ = record { disk = log.disk; shelf = log.shelf; gate = log.gate; shut = log.shut } in
    let here : Gathered _ = gathered_of raw log.settled in
    let place : log.gate - (c.len-long.result - 1) ≡ place_behind (bodies_settled here) = gate_here (told log.disk) (told log.disk) here log.waits.items c.self.invariant.1 _ (omega (arith, c.len-long.ensures, log.waits.ok.0)) in
    let open_now : log.shut ≡ None = search rules in
    let front : LeavesFront (place_behind (bodies_settled here) + 1) (told log.disk) (told c.widen.new.disk) = subst (λ (n : ℕ). LeavesFront (n + 1) (told log.disk) (told c.widen.new.disk)) place c.widen.ensures.front in
    (c.self.invariant.0, goes_on told faults here log.waits.items c.self.invariant.1 open_now c.widen.new.disk front c.widen.ensures.untold c.widen.ensures.kept (λ file on. let now = (c.in-Ok-widen.ensures {u = tt}).on file on in (now.0, now.2)))

pub returns-clause-stays : goal.returns-clause-stays
returns-clause-stays g c =
    let told = g.D.Disk.told in
    let faults = g.D.Disk.fault_count in
    let log = c.self.inside in
    let raw : Started _ _ = record { disk = log.disk; shelf = log.shelf; gate = log.gate; shut = log.shut } in
    let here : Gathered _ = gathered_of raw log.settled in
    let place : log.gate - (c.len-long.result - 1) ≡ place_behind (bodies_settled here) = gate_here (told log.disk) (told log.disk) here log.waits.items c.self.invariant.1 _ (omega (arith, c.len-long.ensures, log.waits.ok.0)) in
    let open_now : log.shut ≡ None = search rules in
    let front : LeavesFront (place_behind (bodies_settled here) + 1) (told log.disk) (told c.widen.new.disk) = subst (λ (n : ℕ). LeavesFront (n + 1) (told log.disk) (told c.widen.new.disk)) place c.widen.ensures.front in
    let then : Gathered _ = gathered_of (record { disk = c.widen.new.disk; shelf = log.shelf; gate = log.gate; shut = log.shut }) log.settled in
    subst (λ (v : Gathered _). Stays told faults v then) c.self.view_is (stays_on told faults here log.waits.items c.self.invariant.1 open_now c.widen.new.disk front c.widen.ensures.untold c.widen.ensures.kept log.shut)
