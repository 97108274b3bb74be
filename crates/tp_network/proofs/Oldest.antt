-- Frames of a world: those in front that are handed over, a mark among them, and which is the oldest of all.
use Rattle.std.proofs.Common.{◌≡◌, ◌≤◌, ◌<◌, ◌+◌, ◌-◌, ◌++◌, ℕ, zero, suc, Bool, true, false, refl, ap, sym, ◌∙◌, arith, Some, None, List, [], ◌∷◌, length, map}
use Rattle.std.specs.Prelude.{slice_index_or, slice_set}
use Rattle.tp_model.specs.World.{Frame as FrameValue, find_frame, mark_handed, oldest_from}
use Rattle.tp_network.specs.Frames.{frame_of, leading}
use Rattle.tp_network.specs.declared.frames.Frame.{Frame}

pub leading_most : (fs : List Frame) → leading fs ≤ length fs
leading_most [] = omega arith
leading_most (f ∷ fs) = go f.handed refl (leading_most fs)
  where
    go : (b : Bool) → f.handed ≡ b → leading fs ≤ length fs → leading (f ∷ fs) ≤ length (f ∷ fs)
    go true e more = grind (arith, e, more)
    go false e more = grind (arith, e)

-- ---- the oldest of all

-- it is the first one that is not handed over, where that passes the test
oldest_at : (test : FrameValue → Bool) (fs : List Frame) (k : ℕ) (d : Frame) → leading fs < length fs → test (frame_of (slice_index_or fs (leading fs) d)) ≡ true → oldest_from k test (map frame_of fs) ≡ Some (suc (k + leading fs))
oldest_at test [] k d h t = absurd (omega arith)
oldest_at test (f ∷ fs) k d h t = go f.handed refl (oldest_at test fs (suc k) d)
  where
    go : (b : Bool) → f.handed ≡ b → (leading fs < length fs → test (frame_of (slice_index_or fs (leading fs) d)) ≡ true → oldest_from (suc k) test (map frame_of fs) ≡ Some (suc (suc k + leading fs)))
        → oldest_from k test (map frame_of (f ∷ fs)) ≡ Some (suc (k + leading (f ∷ fs)))
    go true e more =
        let one_more : leading (f ∷ fs) ≡ suc (leading fs) = grind (arith, e) in
        let there : test (frame_of (slice_index_or (f ∷ fs) (suc (leading fs)) d)) ≡ true = ap (λ n. test (frame_of (slice_index_or (f ∷ fs) n d))) (sym one_more) ∙ t in
        let rest = more (omega (arith, one_more, h)) there in
        let far : suc k + leading fs ≡ k + leading (f ∷ fs) = omega (arith, one_more) in
        grind (arith, e, rest, far)
    go false e more =
        let none : leading (f ∷ fs) ≡ 0 = grind (arith, e) in
        let there : test (frame_of f) ≡ true = ap (λ n. test (frame_of (slice_index_or (f ∷ fs) n d))) (sym none) ∙ t in
        let far : k + leading (f ∷ fs) ≡ k = omega (arith, none) in
        grind (arith, e, there, far)

-- of all it is the first one that is not handed over
pub oldest_first : (fs : List Frame) → leading fs < length fs → oldest_from 0 (λ f. true) (map frame_of fs) ≡ Some (leading fs + 1)
oldest_first [] h = absurd (omega arith)
oldest_first (f ∷ fs) h = let far : suc (0 + leading (f ∷ fs)) ≡ leading (f ∷ fs) + 1 = omega arith in oldest_at (λ g. true) (f ∷ fs) 0 f h refl ∙ ap Some far

oldest_none : (fs : List Frame) (k : ℕ) → length fs ≤ leading fs → oldest_from k (λ f. true) (map frame_of fs) ≡ None
oldest_none [] k h = refl
oldest_none (f ∷ fs) k h = go f.handed refl (oldest_none fs (suc k))
  where
    go : (b : Bool) → f.handed ≡ b → (length fs ≤ leading fs → oldest_from (suc k) (λ f. true) (map frame_of fs) ≡ None) → oldest_from k (λ f. true) (map frame_of (f ∷ fs)) ≡ None
    go true e more =
        let one_more : leading (f ∷ fs) ≡ suc (leading fs) = grind (arith, e) in
        let rest = more (omega (arith, one_more, h)) in
        grind (arith, e, rest)
    go false e more = absurd (let none : leading (f ∷ fs) ≡ 0 = grind (arith, e) in omega (arith, none, h))

pub oldest_missing : (fs : List Frame) → length fs ≤ leading fs → oldest_from 0 (λ f. true) (map frame_of fs) ≡ None
oldest_missing fs h = oldest_none fs 0 h

-- ---- a mark

pub mark_there : (fs : List Frame) (i : ℕ) (d : Frame) → i < length fs → map frame_of (slice_set fs i (record (slice_index_or fs i d) { handed = true })) ≡ mark_handed (map frame_of fs) (suc i)
mark_there [] i d h = absurd (omega arith)
mark_there (f ∷ fs) zero d h = refl
mark_there (f ∷ fs) (suc i) d h = ap (λ l. frame_of f ∷ l) (mark_there fs i d (omega (arith, h)))

unmarked_at : (fs : List Frame) (i : ℕ) → length fs ≤ i → map frame_of fs ≡ mark_handed (map frame_of fs) (suc i)
unmarked_at [] i h = refl
unmarked_at (f ∷ fs) zero h = absurd (omega (arith, h))
unmarked_at (f ∷ fs) (suc i) h = ap (λ l. frame_of f ∷ l) (unmarked_at fs i (omega (arith, h)))

pub unmarked : (fs : List Frame) (i : ℕ) → length fs ≤ i → map frame_of fs ≡ mark_handed (map frame_of fs) (i + 1)
unmarked fs i h = let e : i + 1 ≡ suc i = omega arith in rw e (unmarked_at fs i h)

-- it lowers no number of those in front
pub mark_leads : (fs : List Frame) (i : ℕ) (d : Frame) → leading fs ≤ leading (slice_set fs i (record (slice_index_or fs i d) { handed = true }))
mark_leads [] i d = omega arith
mark_leads (f ∷ fs) zero d = go f.handed refl
  where
    go : (b : Bool) → f.handed ≡ b → leading (f ∷ fs) ≤ leading (record f { handed = true } ∷ fs)
    go true e = grind (arith, e)
    go false e = grind (arith, e)
mark_leads (f ∷ fs) (suc i) d = go f.handed refl (mark_leads fs i d)
  where
    go : (b : Bool) → f.handed ≡ b → leading fs ≤ leading (slice_set fs i (record (slice_index_or fs i d) { handed = true }))
        → leading (f ∷ fs) ≤ leading (f ∷ slice_set fs i (record (slice_index_or fs i d) { handed = true }))
    go true e more = grind (arith, e, more)
    go false e more = grind (arith, e)

-- where all before it are handed over, it is one of those in front
pub mark_past : (fs : List Frame) (i : ℕ) (d : Frame) → i ≤ leading fs → i < length fs → i + 1 ≤ leading (slice_set fs i (record (slice_index_or fs i d) { handed = true }))
mark_past [] i d h k = absurd (omega (arith, k))
mark_past (f ∷ fs) zero d h k = omega arith
mark_past (f ∷ fs) (suc i) d h k = go f.handed refl (mark_past fs i d)
  where
    go : (b : Bool) → f.handed ≡ b → (i ≤ leading fs → i < length fs → i + 1 ≤ leading (slice_set fs i (record (slice_index_or fs i d) { handed = true })))
        → suc i + 1 ≤ leading (f ∷ slice_set fs i (record (slice_index_or fs i d) { handed = true }))
    go true e more =
        let one_more : leading (f ∷ fs) ≡ suc (leading fs) = grind (arith, e) in
        let rest = more (omega (arith, one_more, h)) (omega (arith, k)) in
        grind (arith, e, rest)
    go false e more = absurd (let none : leading (f ∷ fs) ≡ 0 = grind (arith, e) in omega (arith, none, h))

-- ---- where the first one that is not handed over stands

leads_on : (fs : List Frame) (i : ℕ) (d : Frame) → i ≤ leading fs → i < length fs → (slice_index_or fs i d).handed ≡ true → suc i ≤ leading fs
leads_on [] i d h k e = absurd (omega (arith, k))
leads_on (f ∷ fs) zero d h k e = let one_more : leading (f ∷ fs) ≡ suc (leading fs) = grind (arith, e) in omega (arith, one_more)
leads_on (f ∷ fs) (suc i) d h k e = go f.handed refl (leads_on fs i d)
  where
    go : (b : Bool) → f.handed ≡ b → (i ≤ leading fs → i < length fs → (slice_index_or fs i d).handed ≡ true → suc i ≤ leading fs) → suc (suc i) ≤ leading (f ∷ fs)
    go true x more =
        let one_more : leading (f ∷ fs) ≡ suc (leading fs) = grind (arith, x) in
        let rest = more (omega (arith, one_more, h)) (omega (arith, k)) e in
        omega (arith, one_more, rest)
    go false x more = absurd (let none : leading (f ∷ fs) ≡ 0 = grind (arith, x) in omega (arith, none, h))

pub leads_more : (fs : List Frame) (i : ℕ) (d : Frame) → i ≤ leading fs → i < length fs → (slice_index_or fs i d).handed ≡ true → i + 1 ≤ leading fs
leads_more fs i d h k e = let on = leads_on fs i d h k e in omega (arith, on)

pub leads_to : (fs : List Frame) (i : ℕ) (d : Frame) → i ≤ leading fs → i < length fs → (slice_index_or fs i d).handed ≡ false → i ≡ leading fs
leads_to [] i d h k e = absurd (omega (arith, k))
leads_to (f ∷ fs) zero d h k e = let none : leading (f ∷ fs) ≡ 0 = grind (arith, e) in sym none
leads_to (f ∷ fs) (suc i) d h k e = go f.handed refl (leads_to fs i d)
  where
    go : (b : Bool) → f.handed ≡ b → (i ≤ leading fs → i < length fs → (slice_index_or fs i d).handed ≡ false → i ≡ leading fs) → suc i ≡ leading (f ∷ fs)
    go true x more =
        let one_more : leading (f ∷ fs) ≡ suc (leading fs) = grind (arith, x) in
        let rest = more (omega (arith, one_more, h)) (omega (arith, k)) e in
        omega (arith, one_more, rest)
    go false x more = absurd (let none : leading (f ∷ fs) ≡ 0 = grind (arith, x) in omega (arith, none, h))

pub leads_all : (fs : List Frame) (i : ℕ) → i ≤ leading fs → length fs ≤ i → i ≡ leading fs
leads_all fs i h k = let most = leading_most fs in omega (arith, h, k, most)

-- a frame that is sent is not handed over
pub leading_behind : (fs : List Frame) (f : Frame) → f.handed ≡ false → leading (fs ++ f ∷ []) ≡ leading fs
leading_behind [] f e = grind (arith, e)
leading_behind (x ∷ fs) f e = let rest = leading_behind fs f e in grind (arith, rest)

-- ---- by number

found_at : (fs : List Frame) (i : ℕ) (d : Frame) → i < length fs → find_frame (map frame_of fs) (suc i) ≡ Some (frame_of (slice_index_or fs i d))
found_at [] i d h = absurd (omega (arith, h))
found_at (f ∷ fs) zero d h = refl
found_at (f ∷ fs) (suc i) d h = found_at fs i d (omega (arith, h))

unfound_at : (fs : List Frame) (i : ℕ) → length fs ≤ i → find_frame (map frame_of fs) (suc i) ≡ None
unfound_at [] i h = refl
unfound_at (f ∷ fs) zero h = absurd (omega (arith, h))
unfound_at (f ∷ fs) (suc i) h = unfound_at fs i (omega (arith, h))

pub found_number : (fs : List Frame) (n : ℕ) (d : Frame) → 1 ≤ n → n - 1 < length fs → find_frame (map frame_of fs) n ≡ Some (frame_of (slice_index_or fs (n - 1) d))
found_number fs zero d h k = absurd (omega (arith, h))
found_number fs (suc i) d h k = let e : suc i - 1 ≡ i = omega arith in rw e (found_at fs i d (omega (arith, k)))

pub unfound_number : (fs : List Frame) (n : ℕ) → 1 ≤ n → length fs ≤ n - 1 → find_frame (map frame_of fs) n ≡ None
unfound_number fs zero h k = absurd (omega (arith, h))
unfound_number fs (suc i) h k = unfound_at fs i (omega (arith, k))
