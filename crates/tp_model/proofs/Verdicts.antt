-- What a verdict tells of the event: an accepted event is not refused, nor is the loss that ends an association.
use Rattle.std.proofs.Common.{◌≡◌, Bool, true, false, if◌then◌else◌, refl, ap, sym, ◌∙◌, Option, Some, None}
use Rattle.tp_names.specs.declared.identifiers.Addr.{Addr}
use Rattle.tp_records.specs.declared.peer.PeerRecord.{PeerRecord}
use Rattle.tp_model.specs.declared.refusal.Refusal.{Refusal}
use Rattle.tp_model.specs.Parts.{Who, Digest, Event, Verdict}
use Rattle.tp_model.specs.Events.{refusal, verdict, action, refused_plainly, is_breaking, needs_numbers, may_need_numbers, verdict_within, verdict_against, refusal_in}
use Rattle.tp_model.specs.Arrivals.{break_off}

-- ---- by what refuses the event but for the want of numbers

pub plainly_not : (who : Who) (d : Digest) (e : Event) → refused_plainly who d e ≡ None → verdict who d e ≡ verdict_within who d e
unfolding verdict
plainly_not who d e h = ap (λ (o : Option Refusal). elim o as (λ _. Verdict) [ None ↦ verdict_within who d e | Some n ↦ verdict_against who d e n ]) h

pub plainly_by : (who : Who) (d : Digest) (e : Event) (n : Refusal) → refused_plainly who d e ≡ Some n → verdict who d e ≡ verdict_against who d e n
unfolding verdict
plainly_by who d e n h = ap (λ (o : Option Refusal). elim o as (λ _. Verdict) [ None ↦ verdict_within who d e | Some k ↦ verdict_against who d e k ]) h

-- what a record that is refused comes to, by whether it is out of phase on its association and whether numbers are left
abbrev broken : Addr → PeerRecord → Refusal → Bool → Bool → Verdict
broken from r n out spent = if out then if spent then Verdict.Refused Refusal.NumbersSpent else Verdict.Breaks from r else Verdict.Refused n

broken_some : (from : Addr) (r : PeerRecord) (n : Refusal) (out spent : Bool) → refusal_in (broken from r n out spent) ≡ None → ⊥
broken_some from r n true true h = absurd (cc (h))
broken_some from r n true false h = absurd (cc (h))
broken_some from r n false spent h = absurd (cc (h))

against_some : (who : Who) (d : Digest) (e : Event) (n : Refusal) → refusal_in (verdict_against who d e n) ≡ None → ⊥
against_some who d (Event.Arrive from r) n h = broken_some from r n (is_breaking who d from r) (needs_numbers (break_off who from r d)) h
against_some who d e n h = absurd (cc (h))

pub plainly_none : (who : Who) (d : Digest) (e : Event) → refusal who d e ≡ None → refused_plainly who d e ≡ None
unfolding refusal verdict
plainly_none who d e h = go (refused_plainly who d e) refl
  where
    go : (o : Option Refusal) → refused_plainly who d e ≡ o → refused_plainly who d e ≡ None
    go None i = i
    go (Some n) i = absurd (against_some who d e n (ap refusal_in (sym (plainly_by who d e n i)) ∙ h))

-- ---- by the refusal in it

pub shown_none : (v : Verdict) → refusal_in v ≡ None → v ≡ Verdict.Accepted
shown_none Verdict.Accepted h = refl
shown_none (Verdict.Refused n) h = absurd (cc (h))
shown_none (Verdict.Breaks from r) h = absurd (cc (h))

pub shown_some : (v : Verdict) (n : Refusal) → refusal_in v ≡ Some n → ((from : Addr) (r : PeerRecord) → v ≡ Verdict.Breaks from r → ⊥) → v ≡ Verdict.Refused n
shown_some Verdict.Accepted n h not = absurd (cc (h))
shown_some (Verdict.Refused k) n h not = let same : k ≡ n = cc (h) in ap (λ (m : Refusal). Verdict.Refused m) same
shown_some (Verdict.Breaks from r) n h not = absurd (not from r refl)

pub accepted_by_none : (who : Who) (d : Digest) (e : Event) → refusal who d e ≡ None → verdict who d e ≡ Verdict.Accepted
unfolding refusal verdict
accepted_by_none who d e h = shown_none (verdict who d e) h

pub none_if_accepted : (who : Who) (d : Digest) (e : Event) → verdict who d e ≡ Verdict.Accepted → refusal who d e ≡ None
unfolding refusal verdict
none_if_accepted who d e h = ap refusal_in h

pub refused_by_some : (who : Who) (d : Digest) (e : Event) (n : Refusal) → refusal who d e ≡ Some n → ((from : Addr) (r : PeerRecord) → verdict who d e ≡ Verdict.Breaks from r → ⊥) → verdict who d e ≡ Verdict.Refused n
unfolding refusal verdict
refused_by_some who d e n h not = shown_some (verdict who d e) n h not

-- ---- an answer that ends the association

within_not : (who : Who) (d : Digest) (e : Event) (from : Addr) (r : PeerRecord) → verdict_within who d e ≡ Verdict.Breaks from r → ⊥
within_not who d e from r h = go (may_need_numbers e) (needs_numbers (action who d e)) h
  where
    go : (may spent : Bool) → (if may then if spent then Verdict.Refused Refusal.NumbersSpent else Verdict.Accepted else Verdict.Accepted) ≡ Verdict.Breaks from r → ⊥
    go true true i = absurd (cc (i))
    go true false i = absurd (cc (i))
    go false spent i = absurd (cc (i))

pub breaks_refused : (who : Who) (d : Digest) (e : Event) (from : Addr) (r : PeerRecord) → verdict who d e ≡ Verdict.Breaks from r → refused_plainly who d e ≡ None → ⊥
breaks_refused who d e from r h none = within_not who d e from r (sym (plainly_not who d e none) ∙ h)

-- it is of a record that came
never : (who : Who) (d : Digest) (e : Event) (from : Addr) (r : PeerRecord) → ((n : Refusal) → verdict_against who d e n ≡ Verdict.Refused n) → verdict who d e ≡ Verdict.Breaks from r → ⊥
never who d e from r plain h = go (refused_plainly who d e) refl
  where
    go : (o : Option Refusal) → refused_plainly who d e ≡ o → ⊥
    go None i = breaks_refused who d e from r h i
    go (Some n) i = let same : Verdict.Refused n ≡ Verdict.Breaks from r = sym (plainly_by who d e n i ∙ plain n) ∙ h in absurd (cc (same))

-- and its loss is accepted
lost : (who : Who) (d : Digest) (from : Addr) (r : PeerRecord) → is_breaking who d from r ≡ true → needs_numbers (break_off who from r d) ≡ false → refusal who d (Event.Break from r) ≡ None
lost who d from r out left =
    none_if_accepted who d (Event.Break from r)
    (plainly_not who d (Event.Break from r) (ap (λ (b : Bool). if b then None else Some Refusal.OutOfPhase) out)
    ∙ ap (λ (b : Bool). if b then Verdict.Refused Refusal.NumbersSpent else Verdict.Accepted) left)

pub breaks_so : (who : Who) (d : Digest) (e : Event) (from : Addr) (r : PeerRecord) → verdict who d e ≡ Verdict.Breaks from r → (e ≡ Event.Arrive from r) × (refusal who d (Event.Break from r) ≡ None)
breaks_so who d (Event.Arrive a s) from r h = go (refused_plainly who d (Event.Arrive a s)) refl
  where
    on : (n : Refusal) (out spent : Bool) → is_breaking who d a s ≡ out → needs_numbers (break_off who a s d) ≡ spent → broken a s n out spent ≡ Verdict.Breaks from r
        → (Event.Arrive a s ≡ Event.Arrive from r) × (refusal who d (Event.Break from r) ≡ None)
    on n true true i j k = absurd (cc (k))
    on n true false i j k =
        let one : a ≡ from = cc (k) in
        let two : s ≡ r = cc (k) in
        let same : Event.Break a s ≡ Event.Break from r = ap (λ (x : Addr). Event.Break x s) one ∙ ap (λ (x : PeerRecord). Event.Break from x) two in
        (ap (λ (x : Addr). Event.Arrive x s) one ∙ ap (λ (x : PeerRecord). Event.Arrive from x) two, ap (refusal who d) (sym same) ∙ lost who d a s i j)
    on n false spent i j k = absurd (cc (k))

    go : (o : Option Refusal) → refused_plainly who d (Event.Arrive a s) ≡ o → (Event.Arrive a s ≡ Event.Arrive from r) × (refusal who d (Event.Break from r) ≡ None)
    go None i = absurd (breaks_refused who d (Event.Arrive a s) from r h i)
    go (Some n) i = on n (is_breaking who d a s) (needs_numbers (break_off who a s d)) refl refl (sym (plainly_by who d (Event.Arrive a s) n i) ∙ h)
breaks_so who d e from r h = absurd (never who d e from r (λ n. refl) h)
