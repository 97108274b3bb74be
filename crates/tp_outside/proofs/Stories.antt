-- A story that goes on, one change after the other.
use Rattle.std.proofs.Common.{◌≡◌, ◌⊎◌, inl, inr, ◌<◌, ℕ, zero, suc, ◌+◌, ◌-◌, ◌≤◌, List, refl, sym, ap, ◌∙◌, subst, arith}
use Rattle.tp_outside.specs.Story.{Story, Made, Wrote, Resized, Synced, seen, back, IsImage, Leaves, LeavesSince}

back_more : (k : ℕ) (s : Story) → back (suc k) s ≡ back k (back 1 s)
back_more zero (Made bytes) = refl
back_more (suc k) (Made bytes) = refl
back_more k (Wrote at n now s) = refl
back_more k (Resized len now s) = refl
back_more k (Synced s) = refl

pub split_le : (a b : ℕ) → (a ≤ b) ⊎ (b < a)
split_le zero b = inl (omega arith)
split_le (suc a) zero = inr (omega arith)
split_le (suc a) (suc b) = elim (split_le a b) [ inl le ↦ inl (omega arith) | inr lt ↦ inr (omega arith) ]

-- before the first change
pub started : (P : List ℕ → Type 0) (s : Story) → Leaves P s → LeavesSince P s s
started P s here = record { changes = 0; from = refl; each = each }
  where
    each : (k : ℕ) → k ≤ 0 → Leaves P (back k s)
    each zero le = here
    each (suc k) le = absurd (omega arith)

-- one change more
pub goes_on : (P : List ℕ → Type 0) (old mid new : Story) → LeavesSince P old mid → back 1 new ≡ mid → Leaves P new → LeavesSince P old new
goes_on P old mid new so_far is here = record {
  changes = suc so_far.changes;
  from = back_more so_far.changes new ∙ ap (back so_far.changes) is ∙ so_far.from;
  each = each;
}
  where
    each : (k : ℕ) → k ≤ suc so_far.changes → Leaves P (back k new)
    each zero le = here
    each (suc k) le = subst (Leaves P) (sym (back_more k new ∙ ap (back k) is)) (so_far.each k (omega arith))

-- what is weaker
pub weaker : (P Q : List ℕ → Type 0) (old new : Story) → ((c : List ℕ) → P c → Q c) → LeavesSince P old new → LeavesSince Q old new
weaker P Q old new implies so_far = record {
  changes = so_far.changes;
  from = so_far.from;
  each = λ k le c image. implies c (so_far.each k le c image);
}

back_back : (j k : ℕ) (s : Story) → back j (back k s) ≡ back (k + j) s
back_back j zero s = let e : 0 + j ≡ j = omega arith in rw e refl
back_back j (suc k) s =
    let e : suc k + j ≡ suc (k + j) = omega arith in
    ap (back j) (back_more k s) ∙ back_back j k (back 1 s) ∙ sym (back_more (k + j) s) ∙ ap (λ (n : ℕ). back n s) (sym e)

-- two runs, one after the other
pub joined : (P : List ℕ → Type 0) (old mid new : Story) → LeavesSince P old mid → LeavesSince P mid new → LeavesSince P old new
joined P old mid new first second = record {
  changes = second.changes + first.changes;
  from = sym (back_back first.changes second.changes new) ∙ ap (back first.changes) second.from ∙ first.from;
  each = λ k le. elim (split_le k second.changes) [
    | inl near ↦ second.each k near
    | inr far ↦
        let j = k - second.changes in
        let e : second.changes + j ≡ k = omega arith in
        subst (Leaves P) (ap (back j) (sym second.from) ∙ back_back j second.changes new ∙ ap (λ (n : ℕ). back n new) e) (first.each j (omega arith))
  ];
}

-- what reads give is one of the images
pub seen_is_image : (s : Story) → IsImage s (seen s)
seen_is_image (Made bytes) = refl
seen_is_image (Wrote at n now s) = inl refl
seen_is_image (Resized len now s) = inl refl
seen_is_image (Synced s) = refl
