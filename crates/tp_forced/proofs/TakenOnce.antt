-- In every run, a node takes each record of an association at most once.
use Rattle.std.proofs.Common.{◌≡◌, ◌≤◌, inl, inr, ℕ, zero, suc, Bool, true, false, refl, ap, sym, subst, ◌∙◌, arith, Option, None, List, [], ◌∷◌, ◌&&◌, ◌==◌, length}
use Rattle.std.proofs.lemmas.Bool.Decides.{nat_tests}
use Rattle.tp_names.specs.declared.identifiers.Mark.{Mark}
use Rattle.tp_names.specs.declared.identifiers.Addr.{Addr}
use Rattle.tp_names.specs.Same.{is_mark}
use Rattle.tp_records.specs.declared.dialogue.DialogueRecord.{DialogueRecord}
use Rattle.tp_records.specs.declared.peer.PeerRecord.{PeerRecord}
use Rattle.tp_model.specs.Parts.{Origin, Event, Entry}
use Rattle.tp_model.specs.Events.{refusal}
use Rattle.tp_model.specs.History.{digest}
use Rattle.tp_model.specs.World.{number_of}
use Rattle.tp_model.specs.Happenings.{Happening, run}
use Rattle.tp_model.specs.Legal.{IsGrown}
use Rattle.tp_histories.specs.Traces.{accepted_on}
use Rattle.tp_forced.specs.Taken.{takes, times_taken, TakenOnce}
use Rattle.tp_steps.proofs.every.Preludes.{marks_same}
use Rattle.tp_steps.proofs.lemmas.Equality.{and_left, and_right}
use Rattle.tp_histories.proofs.marks.Traced.{traced_law}
use Rattle.tp_histories.proofs.worlds.Prefix.{took_place}
use Rattle.tp_histories.proofs.worlds.Unique.{TookOn, taken_below}
use Rattle.tp_histories.proofs.worlds.Good.{good_run}

-- the event that takes the record
record Takes (p : ℕ) (x y : Mark) (q : ℕ) (e : Event) : Type 0 where
  from : Addr
  word : DialogueRecord
  is : e ≡ Event.Arrive from (PeerRecord.OnAssoc x y q word)
  at : from.node ≡ p

takes_is : (p : ℕ) (x y : Mark) (q : ℕ) (e : Event) → takes p x y q e ≡ true → Takes p x y q e
takes_is p x y q (Event.Arrive a (PeerRecord.OnAssoc z w s r)) h =
    let first = and_left ((a.node == p) && is_mark x z && is_mark y w) (s == q) h in
    let second = and_left ((a.node == p) && is_mark x z) (is_mark y w) first in
    let mx : x ≡ z = marks_same x z (and_right (a.node == p) (is_mark x z) second) in
    let my : y ≡ w = marks_same y w (and_right ((a.node == p) && is_mark x z) (is_mark y w) first) in
    let seq : (s == q) ≡ true = and_right ((a.node == p) && is_mark x z && is_mark y w) (s == q) h in
    let at : (a.node == p) ≡ true = and_left (a.node == p) (is_mark x z) second in
    record {
      from = a;
      word = r;
      is = made z x w y s q (sym mx) (sym my) (grind (arith, nat_tests, seq));
      at = grind (arith, nat_tests, at);
    }
  where
    made : (z x w y : Mark) (s q : ℕ) → z ≡ x → w ≡ y → s ≡ q → ◌≡◌ {A = Event} (Event.Arrive a (PeerRecord.OnAssoc z w s r)) (Event.Arrive a (PeerRecord.OnAssoc x y q r))
    made z x w y s q i j k = rw (i, j, k) refl
takes_is p x y q e h = absurd (grind (arith, h))

-- it was taken before
record TookBefore (p : ℕ) (x y : Mark) (q : ℕ) (h : List Entry) : Type 0 where
  from : Addr
  word : DialogueRecord
  took : TookOn h from x y q word
  at : from.node ≡ p

took_before : (p : ℕ) (x y : Mark) (q : ℕ) (h : List Entry) → suc 0 ≤ times_taken p x y q h → TookBefore p x y q h
took_before p x y q [] n = absurd (omega (arith, n))
took_before p x y q (e ∷ h) n = go (takes p x y q e.event) refl n (took_before p x y q h)
  where
    go : (b : Bool) → takes p x y q e.event ≡ b → suc 0 ≤ elim (takes p x y q e.event) as (λ _. ℕ) [ true ↦ suc (times_taken p x y q h) | false ↦ times_taken p x y q h ] → (suc 0 ≤ times_taken p x y q h → TookBefore p x y q h) → TookBefore p x y q (e ∷ h)
    go true i m rest = let t = takes_is p x y q e.event i in record { from = t.from; word = t.word; took = inl t.is; at = t.at }
    go false i m rest =
        let b = rest (subst (λ (k : ℕ). suc 0 ≤ k) (ap (λ (v : Bool). elim v as (λ _. ℕ) [ true ↦ suc (times_taken p x y q h) | false ↦ times_taken p x y q h ]) i) m) in
        record { from = b.from; word = b.word; took = inr b.took; at = b.at }

taken_law : (o : Origin) (up : Option Addr) (h : List Entry) (p : ℕ) (x y : Mark) (q : ℕ) → IsGrown o up h → times_taken p x y q h ≤ 1
taken_law o up [] p x y q legal = omega arith
taken_law o up (e ∷ h) p x y q legal = go (takes p x y q e.event) refl (taken_law o up h p x y q legal.3)
  where
    once : takes p x y q e.event ≡ true → (n : ℕ) → times_taken p x y q h ≡ n → n ≡ 0
    once i zero m = refl
    once i (suc n) m =
        let t = takes_is p x y q e.event i in
        let b = took_before p x y q h (subst (λ (k : ℕ). suc 0 ≤ k) (sym m) (omega arith)) in
        let ok : refusal o.who (digest o h) (Event.Arrive t.from (PeerRecord.OnAssoc x y q t.word)) ≡ None = subst (λ (f : Event). refusal o.who (digest o h) f ≡ None) t.is legal.0 in
        let place : length (accepted_on x y t.from.node h) ≡ q = took_place o up h t.from x y q t.word (traced_law o up h legal.3) ok in
        let below : suc q ≤ length (accepted_on x y b.from.node h) = taken_below o up h b.from x y q b.word legal.3 b.took in
        let same : length (accepted_on x y t.from.node h) ≡ length (accepted_on x y b.from.node h) = ap (λ (k : ℕ). length (accepted_on x y k h)) (t.at ∙ sym b.at) in
        absurd (past q (length (accepted_on x y t.from.node h)) (length (accepted_on x y b.from.node h)) place same below)
      where
        past : (q m n : ℕ) → m ≡ q → m ≡ n → suc q ≤ n → ⊥
        past q m n i j k = omega (arith, i, j, k)

    go : (b : Bool) → takes p x y q e.event ≡ b → times_taken p x y q h ≤ 1 → elim (takes p x y q e.event) as (λ _. ℕ) [ true ↦ suc (times_taken p x y q h) | false ↦ times_taken p x y q h ] ≤ 1
    go false i le = subst (λ (k : ℕ). k ≤ 1) (sym (ap (λ (v : Bool). elim v as (λ _. ℕ) [ true ↦ suc (times_taken p x y q h) | false ↦ times_taken p x y q h ]) i)) le
    go true i le =
        subst (λ (k : ℕ). k ≤ 1) (sym (ap (λ (v : Bool). elim v as (λ _. ℕ) [ true ↦ suc (times_taken p x y q h) | false ↦ times_taken p x y q h ]) i))
        (subst (λ (k : ℕ). suc k ≤ 1) (sym (once i (times_taken p x y q h) refl)) (omega arith))

pub taken_once : (es : List Happening) → TakenOnce (run es)
taken_once es n p x y q here = taken_law n.origin n.superior n.history p x y q ((good_run es).legal (number_of n) n here)
