-- What an event of a transaction shows: a record or a rollback where it leaves active or ready, and an outcome told where it
-- ends.
use Rattle.tp_history_state.proofs.Vocabulary.{◌≡◌, ◌⊎◌, inl, inr, Bool, true, false, refl, sym, ◌∙◌, ◌&&◌, ◌||◌, or-true, Phase, TxEvent, is_nil, is_rolling, is_late, Transaction, Turn, transacted, is_leaving, Passage, passage, is_over, logs_ready_or_commit, IsPut, falls, asks_tell, every_turn, passed_turn, is_rolled_told, staged_turn, down_turn}
use Rattle.tp_history_state.proofs.passages.Shown.{is_early, IsShown, shown_turns, clears, clears_early, clears_down, logs_clear}
use Rattle.tp_history_state.proofs.lemmas.Passages.{over_is}
use Rattle.tp_history_state.proofs.orders.OverTold.{is_over_told, over_turn}

-- ---- the passage of an event that is no leaving

-- a late phase that is not entered was late before
pub late_before : (p q : Phase) → is_nil p ≡ false → is_late q ≡ true → clears (passage false p q) ≡ false → is_late p ≡ true
late_before Phase.Nil q n h k = absurd (cc (n))
late_before Phase.Active Phase.Nil n h k = absurd (cc (h))
late_before Phase.Active Phase.Active n h k = absurd (cc (h))
late_before Phase.Active _ n h k = absurd (cc (k))
late_before _ q n h k = refl

-- what of it the event shows: a record, or that it rolls, and the phase after it; and whether an outcome is told
pub record Passes (f : TxEvent) (t : Transaction) (fall : Bool) : Type 0 where
  pub clear : clears (passage false t.phase (transacted f t).next.phase) ≡ (logs_ready_or_commit (transacted f t).rec || fall && (is_rolling (transacted f t).next.phase || asks_tell is_rolled_told (transacted f t).outs))
  pub complete : is_over (passage false t.phase (transacted f t).next.phase) ≡ asks_tell is_over_told (transacted f t).outs

pub passes : (f : TxEvent) (t : Transaction) (fall : Bool) → IsPut f t → is_leaving f ≡ false → (fall ≡ true → is_early t.phase ≡ true) → (falls f t ≡ true → fall ≡ true) → Passes f t fall
passes f t fall put off early so = record { clear = same (clears w) (logs_ready_or_commit a.rec || fall && (is_rolling a.next.phase || asks_tell is_rolled_told a.outs)) refl refl; complete = over_is t.phase a.next.phase put.late ∙ over_turn f t put off }
  where
    a : Turn
    a = transacted f t

    w : Passage
    w = passage false t.phase a.next.phase

    ends : (x y : Bool) → (x || y) ≡ true → (x ≡ true → is_rolling a.next.phase ≡ true) → (y ≡ true → is_nil a.next.phase ≡ true) → (is_rolling a.next.phase || is_nil a.next.phase) ≡ true
    ends true y h i j = let on = i refl in rw on refl
    ends false y h i j = let on = j h in rw on (or-true (is_rolling a.next.phase))

    parts : (x y z : Bool) → (x || y && z) ≡ true → (x ≡ true) ⊎ ((y ≡ true) × (z ≡ true))
    parts true y z h = inl refl
    parts false true z h = inr (refl, h)
    parts false false z h = absurd (cc (h))

    back : (logs_ready_or_commit a.rec || fall && (is_rolling a.next.phase || asks_tell is_rolled_told a.outs)) ≡ true → clears w ≡ true
    back h = elim (parts (logs_ready_or_commit a.rec) fall (is_rolling a.next.phase || asks_tell is_rolled_told a.outs) h) [
      | inl i ↦ logs_clear t a.next a.rec i (passed_turn f t put).logs
      | inr i ↦ clears_down t.phase a.next.phase (early i.0) (ends (is_rolling a.next.phase) (asks_tell is_rolled_told a.outs) i.1 (λ k. k) (λ k. (staged_turn f t put).ended k))
    ]

    some : (x y z u v : Bool) → (x || y || z) ≡ true → z ≡ false → (y ≡ true → (u ≡ true) × (v ≡ true)) → (x || u && v) ≡ true
    some true y z u v h i k = refl
    some false true z u v h i k = let p = k refl in rw (p.0, p.1) refl
    some false false z u v h i k = absurd (cc (h, i))

    shown : clears w ≡ true → (logs_ready_or_commit a.rec || fall && (is_rolling a.next.phase || asks_tell is_rolled_told a.outs)) ≡ true
    shown h =
        let moved = clears_early t.phase a.next.phase h in
        elim (every_turn f t (IsShown f t) (shown_turns f t) put moved.0) [
          | inl same ↦ absurd (moved.1 same)
          | inr k ↦ some (logs_ready_or_commit a.rec) (falls f t) (is_leaving f) fall (is_rolling a.next.phase || asks_tell is_rolled_told a.outs) k off (λ i. (so i, (down_turn f t i).2))
        ]

    same : (x y : Bool) → clears w ≡ x → (logs_ready_or_commit a.rec || fall && (is_rolling a.next.phase || asks_tell is_rolled_told a.outs)) ≡ y → clears w ≡ (logs_ready_or_commit a.rec || fall && (is_rolling a.next.phase || asks_tell is_rolled_told a.outs))
    same true true i j = i ∙ sym j
    same true false i j = absurd (cc (shown i, j))
    same false true i j = absurd (cc (back j, i))
    same false false i j = i ∙ sym j
