-- A line that is too long, of which the front was passed over.
use Rattle.std.proofs.Common.{◌≡◌, ℕ, suc, ◌+◌, ◌<◌, ◌≤◌, true, false, Option, Some, None, Err, List, [], ◌∷◌, ◌++◌, length, get_or, take, drop, refl, ap, sym, subst, ◌∙◌, arith, length-append, length-take-le, length-drop}
use Rattle.std.proofs.lemmas.List.{take-append-drop, append-nil, take_all, take-append-le}
use Rattle.std.proofs.Math.Seq.{take-add, drop-append_seam}
use Rattle.tp_model.specs.Transcript.{RawLine, raw_lines}
use Rattle.tp_schedule.specs.declared.lines_fault.LinesFault.{LinesFault}
use Rattle.tp_schedule.specs.AtHand.{together, IsAtEnd, no_feed, Gains}
use Rattle.tp_schedule.specs.LinesLeft.{first_of, first_length, first_taken}
use Rattle.tp_schedule.proofs.Buffers.{none_gained, drop_twice}
use Rattle.tp_schedule.proofs.LineCuts.{line_at, in_front, last_line, length_content, none_joined}
use Rattle.tp_schedule.proofs.LineSought.{is_limit, is_long, past_limit, front_length, read_ahead, taken_at_least}

-- Of all bytes the first n were passed over, with no line feed among them; the others are left.
abbrev pub IsBehind : List ℕ → ℕ → Option (List ℕ) → Type 0
IsBehind all n left = (left ≡ Some (drop n all)) × (no_feed (take n all) ≡ true) × (n ≤ length all)

the_same : (xs ys : List ℕ) (o : Option (List ℕ)) → o ≡ Some xs → o ≡ Some ys → xs ≡ ys
the_same xs ys o a b = cc

pub skipped_read : (all rest : List ℕ) (n : ℕ) (left now : Option (List ℕ)) → IsBehind all n left → now ≡ left → now ≡ Some rest
    → length all ≤ length rest + first_length (raw_lines all)
skipped_read all rest n left now at same is =
    let e : rest ≡ drop n all = the_same rest (drop n all) left (sym same ∙ is) at.0 in
    let front = read_ahead n (take n all) (drop n all) at.1 in
    omega (arith, ap length e, subst (λ (t : List ℕ). length t ≤ length (drop n all) + first_length (raw_lines t)) (take-append-drop n all) front)

-- ---- with the bytes of one more read

-- what stands after those that were passed over
behind : (all w : List ℕ) (n k : ℕ) (held : List ℕ) (left now : Option (List ℕ)) → IsBehind all n left → held ≡ [] → Gains held w left now k
    → (rest : List ℕ) → now ≡ Some rest → w ++ rest ≡ drop n all
behind all w n k held left now at none gains rest is =
    let e : Some (w ++ rest) ≡ together held left = ap (λ (o : Option (List ℕ)). together w o) (sym is) ∙ gains.same in
    let f : together held left ≡ Some (drop n all) = ap (λ (t : List ℕ). together t left) none ∙ ap (together []) at.0 in
    the_same (w ++ rest) (drop n all) (together held left) (sym e) f

-- the source goes on telling what it has left
tells : (all w : List ℕ) (n k : ℕ) (held : List ℕ) (left now : Option (List ℕ)) → IsBehind all n left → held ≡ [] → Gains held w left now k
    → (rest : List ℕ) × (now ≡ Some rest)
tells all w n k held left None at none gains =
    let e : None ≡ together held left = gains.same in
    let f : together held left ≡ Some (drop n all) = ap (λ (t : List ℕ). together t left) none ∙ ap (together []) at.0 in
    absurd cc
tells all w n k held left (Some rest) at none gains = (rest, refl)

ended_here : (all w : List ℕ) (n k : ℕ) (held : List ℕ) (left now : Option (List ℕ)) → IsBehind all n left → held ≡ [] → Gains held w left now k → k ≡ 0
    → take n all ≡ all
ended_here all w n k held left now at none gains zero =
    let r = tells all w n k held left now at none gains in
    let end : r.0 ≡ [] = subst IsAtEnd r.1 (gains.at_end zero) in
    let empty : w ≡ [] = none_gained held w k gains.before gains.count zero ∙ none in
    let rest : [] ≡ drop n all = sym (ap (λ (t : List ℕ). t ++ r.0) empty ∙ end) ∙ behind all w n k held left now at none gains r.0 r.1 in
    sym (append-nil (take n all)) ∙ ap (λ (t : List ℕ). take n all ++ t) rest ∙ take-append-drop n all

-- the input ended: the line is too long
pub skipped_long : (before : ℕ) (all w : List ℕ) (n k : ℕ) (held : List ℕ) (left now : Option (List ℕ)) → IsBehind all n left → held ≡ [] → Gains held w left now k → k ≡ 0
    → 8193 < n → before + n ≤ 1048576 → first_of before (raw_lines all) ≡ Err LinesFault.Long
skipped_long before all w n k held left now at none gains zero long few =
    let whole = ended_here all w n k held left now at none gains zero in
    let size : length all ≡ n = ap length (sym whole) ∙ length-take-le n all at.2 in
    ap (first_of before) (last_line all (ap no_feed (sym whole) ∙ at.1) (omega arith))
    ∙ is_long before (record { bytes = all; ended = false }) (omega arith) (omega arith)

pub long_ahead : (all w rest : List ℕ) (n k : ℕ) (held : List ℕ) (left now : Option (List ℕ)) → IsBehind all n left → held ≡ [] → Gains held w left now k → k ≡ 0
    → 8193 < n → length all ≤ length rest + (first_taken (raw_lines all) + 12288)
long_ahead all w rest n k held left now at none gains zero long =
    let whole = ended_here all w n k held left now at none gains zero in
    let size : length all ≡ n = ap length (sym whole) ∙ length-take-le n all at.2 in
    let cut = ap first_taken (last_line all (ap no_feed (sym whole) ∙ at.1) (omega arith)) in
    omega arith

-- the first line, where its line feed stands among the bytes of the read
feed_line : (all w rest : List ℕ) (n at : ℕ) → no_feed (take n all) ≡ true → w ++ rest ≡ drop n all → at < length w → no_feed (take at w) ≡ true → get_or w at 0 ≡ 10
    → raw_lines all ≡ record { bytes = take n all ++ take at w; ended = true } ∷ raw_lines (drop (suc at) w ++ rest)
feed_line all w rest n at front is within none feed =
    ap raw_lines (sym (take-append-drop n all) ∙ ap (λ (t : List ℕ). take n all ++ t) (sym is))
    ∙ in_front (take n all) (w ++ rest) (record { bytes = take at w; ended = true }) (raw_lines (drop (suc at) w ++ rest)) front (line_at w rest at within none feed)

feed_size : (all w : List ℕ) (n at : ℕ) → n ≤ length all → at < length w → length (take n all ++ take at w) ≡ n + at
feed_size all w n at front within = length-append (take n all) (take at w) ∙ omega (arith, length-take-le n all front, length-take-le at w (omega arith))

pub feed_long : (before : ℕ) (all w : List ℕ) (n k : ℕ) (held : List ℕ) (left now : Option (List ℕ)) (at : ℕ) → IsBehind all n left → held ≡ [] → Gains held w left now k
    → (at < length w) × (no_feed (take at w) ≡ true) × (get_or w at 0 ≡ 10) → 8193 < n → before + n + at < 1048576 → first_of before (raw_lines all) ≡ Err LinesFault.Long
feed_long before all w n k held left now at b none gains feed long few =
    let r = tells all w n k held left now b none gains in
    let l : RawLine = record { bytes = take n all ++ take at w; ended = true } in
    let size = feed_size all w n at b.2 feed.0 in
    ap (first_of before) (feed_line all w r.0 n at b.1 (behind all w n k held left now b none gains r.0 r.1) feed.0 feed.1 feed.2)
    ∙ is_long before l (omega arith) (omega (arith, length_content l))

pub feed_limit : (before : ℕ) (all w : List ℕ) (n k : ℕ) (held : List ℕ) (left now : Option (List ℕ)) (at : ℕ) → IsBehind all n left → held ≡ [] → Gains held w left now k
    → (at < length w) × (no_feed (take at w) ≡ true) × (get_or w at 0 ≡ 10) → 1048576 ≤ before + n + at → first_of before (raw_lines all) ≡ Err LinesFault.Limit
feed_limit before all w n k held left now at b none gains feed more =
    let r = tells all w n k held left now b none gains in
    let l : RawLine = record { bytes = take n all ++ take at w; ended = true } in
    let size = feed_size all w n at b.2 feed.0 in
    ap (first_of before) (feed_line all w r.0 n at b.1 (behind all w n k held left now b none gains r.0 r.1) feed.0 feed.1 feed.2)
    ∙ is_limit before l (omega arith)

pub feed_ahead : (all w rest : List ℕ) (n k : ℕ) (held : List ℕ) (left now : Option (List ℕ)) (at : ℕ) → IsBehind all n left → held ≡ [] → Gains held w left now k
    → (at < length w) × (no_feed (take at w) ≡ true) × (get_or w at 0 ≡ 10) → length w ≤ 12288 → now ≡ Some rest
    → length all ≤ length rest + (first_taken (raw_lines all) + 12288)
feed_ahead all w rest n k held left now at b none gains feed few is =
    let joined = behind all w n k held left now b none gains rest is in
    let size = feed_size all w n at b.2 feed.0 in
    let cut = ap first_taken (feed_line all w rest n at b.1 joined feed.0 feed.1 feed.2) in
    let both : length all ≡ n + (length w + length rest) =
    ap length (sym (take-append-drop n all)) ∙ length-append (take n all) (drop n all) ∙ omega (arith, length-take-le n all b.2, ap length (sym joined), length-append w rest) in
    omega arith

-- no line feed came: all of these are passed over too
pub passed_on : (all w : List ℕ) (n k : ℕ) (held : List ℕ) (left now : Option (List ℕ)) → IsBehind all n left → held ≡ [] → Gains held w left now k → no_feed w ≡ true
    → IsBehind all (n + k) now
passed_on all w n k held left now b none gains feed =
    let r = tells all w n k held left now b none gains in
    let joined = behind all w n k held left now b none gains r.0 r.1 in
    let size : length w ≡ k = omega (arith, gains.count, ap length none) in
    let front : take k (drop n all) ≡ w = ap (λ (t : List ℕ). take k t) (sym joined) ∙ take-append-le k w r.0 (omega arith) ∙ take_all k w (omega arith) in
    let back : drop (n + k) all ≡ r.0 = sym (drop_twice all n k) ∙ ap (drop k) (sym joined) ∙ drop_front w r.0 k size in
    let total : length w + length r.0 ≡ length (drop n all) = sym (length-append w r.0) ∙ ap length joined in (
      r.1 ∙ ap Some (sym back),
      ap no_feed (take-add n k all ∙ ap (λ (t : List ℕ). take n all ++ t) front) ∙ none_joined (take n all) w b.1 feed,
      omega (arith, length-drop n all, b.2),
    )
  where
    drop_front : (v rest : List ℕ) (j : ℕ) → length v ≡ j → drop j (v ++ rest) ≡ rest
    drop_front v rest j is = ap (λ (i : ℕ). drop i (v ++ rest)) (sym is) ∙ drop-append_seam v rest

-- more was passed over than a schedule may have
pub all_limit : (before : ℕ) (all : List ℕ) (n : ℕ) (left : Option (List ℕ)) → IsBehind all n left → 8193 < n → 1048576 < before + n → first_of before (raw_lines all) ≡ Err LinesFault.Limit
all_limit before all n left b some more =
    past_limit before n (raw_lines all) (omega arith) (omega (arith, front all n b)) more
  where
    front : (xs : List ℕ) (k : ℕ) → IsBehind xs k left → k ≤ first_length (raw_lines xs)
    front xs k at = subst (λ (t : List ℕ). k ≤ first_length (raw_lines t)) (take-append-drop k xs) (omega (arith, front_length (take k xs) (drop k xs) at.1, length-take-le k xs at.2))

pub all_ahead : (all rest : List ℕ) (n : ℕ) (left : Option (List ℕ)) → IsBehind all n left → left ≡ Some rest → length all ≤ length rest + (first_taken (raw_lines all) + 12288)
all_ahead all rest n left b is = omega (arith, skipped_read all rest n left left b refl is, taken_at_least (raw_lines all))
