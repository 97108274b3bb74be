-- What is before the closing gate stays as it is.
use Rattle.std.proofs.Common.{◌≡◌, inl, ℕ, ◌≤◌, ◌+◌, min, Option, Some, None, List, [], ◌∷◌, ◌++◌, length, take, drop, refl, sym, ap, ◌∙◌, subst, arith, append_assoc, length-append}
use Rattle.std.proofs.lemmas.List.{take-take, take_at}
use Rattle.tp_outside.specs.Story.{Story, Torn, Clipped, Leaves, seen}
use Rattle.tp_outside.proofs.Stories.{seen_is_image}
use Rattle.tp_outside.proofs.Torn.{in_front}
use Rattle.tp_journal.specs.Log.{blocks, StandsInFront, StandsFor}
use Rattle.tp_journal.specs.Told.{IsOn, LeavesOnly, LeavesFront, HasStored, RestsAt}
use Rattle.tp_journal.proofs.Appending.{front, length-front}
use Rattle.tp_journal.proofs.Steps.{at_first, leaves_weaker, then_leaves}

torn_front : (n at m : ℕ) (d c : List ℕ) → n ≤ at → n ≤ length d → Torn at m d c → take n c ≡ take n d
torn_front n at m d c before within torn =
    let low : n ≤ min at (length d) = omega (arith, before, within) in
    sym (take-take n (min at (length d)) c low) ∙ ap (λ (l : List ℕ). take n l) torn.before ∙ take-take n (min at (length d)) d low

clipped_front : (n at : ℕ) (d c : List ℕ) → n ≤ at → n ≤ length d → Clipped at d c → take n c ≡ take n d
clipped_front n at d c before within clipped =
    let m = min (length c) (length d) in
    let low : n ≤ m = omega (arith, before, within, clipped.no_shorter) in
    sym (take-take n m c low) ∙ ap (λ (l : List ℕ). take n l) clipped.same ∙ take-take n m d low

-- what reads give is one of the images
seen_has : (P : List ℕ → Type 0) (old new : Option Story) (now : List ℕ) → IsOn new now → LeavesOnly P old new → P now
seen_has P None new now on none = absurd (subst (λ o. IsOn o now) none on)
seen_has P (Some s) new now on (t, is, since) = seen_in t (subst (λ o. IsOn o now) is on) (since.each 0 (omega arith))
  where
    seen_in : (t : Story) → IsOn (Some t) now → Leaves P t → P now
    seen_in t on leaves = subst P on.1 (leaves (seen t) (seen_is_image t))

-- the disk was not called
pub front_still : (n : ℕ) (old new : Option Story) → new ≡ old → LeavesFront n old new
front_still n old new same file on within = subst (LeavesOnly (λ c. take n c ≡ take n file) old) (sym same) (at_first (λ c. take n c ≡ take n file) old file on refl)

pub store_front : (n at m : ℕ) (old new : Option Story) → n ≤ at → ((file : List ℕ) → IsOn old file → LeavesOnly (Torn at m file) old new) → LeavesFront n old new
store_front n at m old new before torn file on within = leaves_weaker (Torn at m file) (λ c. take n c ≡ take n file) old new (λ c t. torn_front n at m file c before within t) (torn file on)

pub cut_front : (n at : ℕ) (old new : Option Story) → n ≤ at → ((file : List ℕ) → IsOn old file → LeavesOnly (Clipped at file) old new) → LeavesFront n old new
cut_front n at old new before clipped file on within =
    leaves_weaker (Clipped at file) (λ c. take n c ≡ take n file) old new (λ c t. clipped_front n at file c before within t) (clipped file on)

-- a write that is done, and what follows
pub then_front : (n at : ℕ) (piece : List ℕ) (old mid new : Option Story) → n ≤ at → ((file : List ℕ) → IsOn old file → LeavesOnly (Torn at (length piece) file) old mid)
    → ((file : List ℕ) → IsOn old file → HasStored at piece file mid) → LeavesFront n mid new → LeavesFront n old new
then_front n at piece old mid new before torn stored rest file on within =
    let now = stored file on in
    let same : take n now.0 ≡ take n file = torn_front n at (length piece) file now.0 before within now.1.torn in
    let long : n ≤ length now.0 = omega (arith, within, now.1.torn.no_shorter) in
    then_leaves (λ c. take n c ≡ take n file) old mid new (store_front n at (length piece) old mid before torn file on within)
    (leaves_weaker (λ c. take n c ≡ take n now.0) (λ c. take n c ≡ take n file) mid new (λ c t. t ∙ same) (rest now.0 now.2 long))

-- ---- what a log stands for, its first bytes tell

module _ (bodies : List (List ℕ)) (gate : ℕ) (place : gate ≡ 5 + length (blocks bodies)) (file : List ℕ) (is : StandsInFront file bodies) where
  abbrev upto : List ℕ
  upto = front is.selector bodies ++ (is.gate ∷ [])

  long : length upto ≡ gate + 1
  long = omega (arith, place, length-append (front is.selector bodies) (is.gate ∷ []), length-front is.selector bodies)

  parts : file ≡ upto ++ is.rest
  parts = is.whole ∙ sym (append_assoc (front is.selector bodies) (is.gate ∷ []) is.rest)

  long_enough : gate + 1 ≤ length file
  long_enough = omega (arith, ap length parts, length-append upto is.rest, long)

  by_front : (c : List ℕ) → take (gate + 1) c ≡ take (gate + 1) file → StandsInFront c bodies
  by_front c same = record {
    selector = is.selector;
    gate = is.gate;
    rest = drop (gate + 1) c;
    whole =
        in_front (gate + 1) upto c (same ∙ ap (λ (l : List ℕ). take (gate + 1) l) parts ∙ take_at upto is.rest (gate + 1) long)
        ∙ append_assoc (front is.selector bodies) (is.gate ∷ []) (drop (gate + 1) c);
    selects = is.selects;
    closed = is.closed;
    each = is.each;
  }

module _ (old new : Option Story) (gate : ℕ) (bodies : List (List ℕ)) (kept : LeavesFront (gate + 1) old new) where
  pub still_stands : RestsAt old gate bodies → LeavesOnly (λ c. StandsFor c bodies) old new
  still_stands rests =
      leaves_weaker (λ c. take (gate + 1) c ≡ take (gate + 1) rests.file) (λ c. StandsFor c bodies) old new (λ c t. inl (by_front bodies gate rests.place rests.file rests.stands c t))
      (kept rests.file rests.on (long_enough bodies gate rests.place rests.file rests.stands))

  pub still_rests : RestsAt old gate bodies → (now : List ℕ) → IsOn new now → RestsAt new gate bodies
  still_rests rests now on = record {
    file = now;
    on = on;
    stands =
        by_front bodies gate rests.place rests.file rests.stands now
        (seen_has (λ c. take (gate + 1) c ≡ take (gate + 1) rests.file) old new now on (kept rests.file rests.on (long_enough bodies gate rests.place rests.file rests.stands)));
    place = rests.place;
  }
