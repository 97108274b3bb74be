-- The first line of bytes, by where their first line feed stands.
use Rattle.std.proofs.Common.{◌≡◌, ◌≢◌, ℕ, zero, suc, ◌+◌, ◌<◌, ◌≤◌, ◌==◌, Bool, true, false, List, [], ◌∷◌, ◌++◌, length, get_or, take, drop, refl, ap, sym, ◌∙◌, arith, length-drop, eqb-true, Option, Some, None}
use Rattle.std.specs.Prelude.{MatchOption}
use Rattle.std.proofs.lemmas.List.{take-append-drop, get_or-drop}
use Rattle.std.proofs.Math.Seq.{take-add}
use Rattle.std.proofs.lemmas.Bool.Decides.{nat_tests}
use Rattle.memchr.specs.Find.{IsFirstByte, is_byte}
use Rattle.tp_model.specs.Transcript.{RawLine, raw_lines, before_first, without_return, content}
use Rattle.tp_schedule.specs.AtHand.{no_feed}

-- ---- cutting

one_more : (b : ℕ) (bs : List ℕ) → (b == 10) ≡ false → raw_lines (b ∷ bs) ≡ before_first b (raw_lines bs)
one_more b bs other = grind (arith, nat_tests)

fed : (b : ℕ) (bs : List ℕ) → b ≡ 10 → raw_lines (b ∷ bs) ≡ record { bytes = []; ended = true } ∷ raw_lines bs
fed b bs is = rw is refl

-- a line that ends at a line feed
pub line_at : (w left : List ℕ) (at : ℕ) → at < length w → no_feed (take at w) ≡ true → get_or w at 0 ≡ 10
    → raw_lines (w ++ left) ≡ record { bytes = take at w; ended = true } ∷ raw_lines (drop (suc at) w ++ left)
line_at [] left at within none is = absurd (omega arith)
line_at (b ∷ w) left zero within none is = fed b (w ++ left) is
line_at (b ∷ w) left (suc at) within none is =
    let other : (b == 10) ≡ false = grind (arith, nat_tests) in
    let rest : no_feed (take at w) ≡ true = grind (arith, nat_tests) in
    one_more b (w ++ left) other ∙ ap (before_first b) (line_at w left at (omega arith) rest is)

-- bytes without a line feed stand before the first line
pub in_front : (w left : List ℕ) (l : RawLine) (ls : List RawLine) → no_feed w ≡ true → raw_lines left ≡ l ∷ ls
    → raw_lines (w ++ left) ≡ record { bytes = w ++ l.bytes; ended = l.ended } ∷ ls
in_front [] left l ls none is = is
in_front (b ∷ w) left l ls none is =
    let other : (b == 10) ≡ false = grind (arith, nat_tests) in
    let rest : no_feed w ≡ true = grind (arith, nat_tests) in
    one_more b (w ++ left) other ∙ ap (before_first b) (in_front w left l ls rest is)

-- the last line
pub last_line : (w : List ℕ) → no_feed w ≡ true → 0 < length w → raw_lines w ≡ record { bytes = w; ended = false } ∷ []
last_line [] none some = absurd (omega arith)
last_line (b ∷ []) none some =
    let other : (b == 10) ≡ false = grind (arith, nat_tests) in
    one_more b [] other
last_line (b ∷ c ∷ w) none some =
    let other : (b == 10) ≡ false = grind (arith, nat_tests) in
    let rest : no_feed (c ∷ w) ≡ true = grind (arith, nat_tests) in
    one_more b (c ∷ w) other ∙ ap (before_first b) (last_line (c ∷ w) rest (omega arith))

-- ---- lengths

length_without : (bs : List ℕ) → length bs ≤ suc (length (without_return bs))
length_without [] = omega arith
length_without (b ∷ []) = grind (arith, nat_tests)
length_without (b ∷ c ∷ bs) = omega (arith, length_without (c ∷ bs))

pub length_content : (l : RawLine) → length l.bytes ≤ suc (length (content l))
length_content l = go l.ended l.bytes
  where
    go : (e : Bool) (bs : List ℕ) → length bs ≤ suc (length (elim e as (λ _. List ℕ) [ true ↦ without_return bs | false ↦ bs ]))
    go true bs = length_without bs
    go false bs = omega arith

-- ---- the end of a line

other_than_13 : (b : ℕ) → b ≢ 13 → (b == 13) ≡ false
other_than_13 b other = grind (arith, nat_tests)

pub without_it : (bs : List ℕ) (n : ℕ) → length bs ≡ suc n → get_or bs n 0 ≡ 13 → take n bs ≡ without_return bs
without_it [] n size last = absurd (omega arith)
without_it (b ∷ []) zero size last = rw (last, without_return) refl
without_it (b ∷ []) (suc n) size last = absurd (omega arith)
without_it (b ∷ c ∷ bs) zero size last = absurd (omega arith)
without_it (b ∷ c ∷ bs) (suc n) size last = ap (λ (t : List ℕ). b ∷ t) (without_it (c ∷ bs) n (omega arith) last)

pub with_all : (bs : List ℕ) (n : ℕ) → length bs ≡ suc n → get_or bs n 0 ≢ 13 → bs ≡ without_return bs
with_all [] n size last = absurd (omega arith)
with_all (b ∷ []) zero size last = rw (other_than_13 b last, without_return) refl
with_all (b ∷ []) (suc n) size last = absurd (omega arith)
with_all (b ∷ c ∷ bs) zero size last = absurd (omega arith)
with_all (b ∷ c ∷ bs) (suc n) size last = ap (λ (t : List ℕ). b ∷ t) (with_all (c ∷ bs) n (omega arith) last)

-- ---- looking for a line feed

pub none_before : (bs : List ℕ) (n : ℕ) → ((k : ℕ) → k < n → get_or bs k 0 ≢ 10) → no_feed (take n bs) ≡ true
none_before bs zero none = refl
none_before [] (suc n) none = refl
none_before (b ∷ bs) (suc n) none =
    let first : b ≢ 10 = none 0 (omega arith) in
    let rest : no_feed (take n bs) ≡ true = none_before bs n (λ k below. none (suc k) (omega arith)) in
    grind (arith, nat_tests)

pub none_at_all : (bs : List ℕ) → ((k : ℕ) → k < length bs → get_or bs k 0 ≢ 10) → no_feed bs ≡ true
none_at_all [] none = refl
none_at_all (b ∷ bs) none =
    let first : b ≢ 10 = none 0 (omega arith) in
    let rest : no_feed bs ≡ true = none_at_all bs (λ k below. none (suc k) (omega arith)) in
    grind (arith, nat_tests)

pub feed_found : (bs : List ℕ) (r : Option ℕ) → IsFirstByte (is_byte 10) bs r → MatchOption r (no_feed bs ≡ true) (λ at. (at < length bs) × (no_feed (take at bs) ≡ true) × (get_or bs at 0 ≡ 10))
feed_found bs None none = none_at_all bs (λ k below is. none k (omega arith) below (ap (is_byte 10) is))
feed_found bs (Some at) found = (found.0.high, none_before bs at (λ k below is. found.0.before k (omega arith) below (ap (is_byte 10) is)), eqb-true _ _ found.1)

pub none_joined : (v w : List ℕ) → no_feed v ≡ true → no_feed w ≡ true → no_feed (v ++ w) ≡ true
none_joined [] w a b = b
none_joined (c ∷ v) w a b = grind (arith, nat_tests, none_joined v w)

pub no_line : (bs : List ℕ) → length bs ≤ 0 → bs ≡ without_return bs
no_line [] none = refl
no_line (b ∷ bs) none = absurd (omega arith)

-- what is found after the bytes that were looked at
pub found_behind : (w : List ℕ) (s : ℕ) (t : List ℕ) (at : ℕ) → t ≡ drop s w → s ≤ length w → no_feed (take s w) ≡ true
    → at < length t → no_feed (take at t) ≡ true → get_or t at 0 ≡ 10
    → (s + at < length w) × (no_feed (take (s + at) w) ≡ true) × (get_or w (s + at) 0 ≡ 10)
found_behind w s t at is within before some none feed = (
  omega (arith, ap length is, length-drop s w),
  ap no_feed (take-add s at w) ∙ none_joined (take s w) (take at (drop s w)) before (ap (λ (u : List ℕ). no_feed (take at u)) (sym is) ∙ none),
  sym (get_or-drop s w at 0) ∙ ap (λ (u : List ℕ). get_or u at 0) (sym is) ∙ feed,
)

pub none_behind : (w : List ℕ) (s : ℕ) (t : List ℕ) → t ≡ drop s w → no_feed (take s w) ≡ true → no_feed t ≡ true → no_feed w ≡ true
none_behind w s t is before none =
    ap no_feed (sym (take-append-drop s w)) ∙ none_joined (take s w) (drop s w) before (ap no_feed (sym is) ∙ none)
