-- What is found of a line, from where it ends.
use Rattle.std.proofs.Common.{◌≡◌, ℕ, suc, ◌+◌, ◌<◌, ◌≤◌, Bool, true, false, Option, Some, None, Result, Ok, Err, List, [], ◌∷◌, ◌++◌, length, get_or, take, drop, refl, ap, sym, subst, ◌∙◌, arith, length-append, length-take-le, take-take}
use Rattle.std.specs.Prelude.{IfSome, nat_lt}
use Rattle.std.proofs.lemmas.Bool.Decides.{nat_tests}
use Rattle.std.proofs.lemmas.List.{take_all, append-nil}
use Rattle.std.proofs.Math.Seq.{drop-length}
use Rattle.tp_model.specs.Transcript.{RawLine, raw_lines, before_first, without_return, content, octets_taken}
use Rattle.tp_schedule.specs.declared.lines_fault.LinesFault.{LinesFault}
use Rattle.tp_schedule.specs.declared.lines.Cut.{Cut}
use Rattle.tp_schedule.specs.AtHand.{together, IsAtEnd, no_feed}
use Rattle.tp_schedule.specs.LinesLeft.{judged, first_of, first_length, first_taken}
use Rattle.tp_schedule.specs.LineCut.{IsCut, Takes, Sought}
use Rattle.tp_schedule.proofs.LineCuts.{line_at, last_line}

-- ---- which answer

over_limit : (n : ℕ) → 1048576 < n → nat_lt 1048576 n ≡ true
over_limit n more = grind (arith, nat_tests)

under_limit : (n : ℕ) → n ≤ 1048576 → nat_lt 1048576 n ≡ false
under_limit n few = grind (arith, nat_tests)

over_long : (n : ℕ) → 8192 < n → nat_lt 8192 n ≡ true
over_long n more = grind (arith, nat_tests)

pub is_limit : (before : ℕ) (l : RawLine) → 1048576 < before + octets_taken l → judged before l ≡ Err LinesFault.Limit
is_limit before l more =
    ap (λ (b : Bool). elim b as (λ _. Result (Option (List ℕ)) LinesFault) [ true ↦ Err LinesFault.Limit | false ↦ elim (nat_lt 8192 (length (content l))) as (λ _. Result (Option (List ℕ)) LinesFault) [ true ↦ Err LinesFault.Long | false ↦ Ok (Some (content l)) ] ]) (over_limit (before + octets_taken l) more)

pub is_long : (before : ℕ) (l : RawLine) → before + octets_taken l ≤ 1048576 → 8192 < length (content l) → judged before l ≡ Err LinesFault.Long
is_long before l few more =
    ap (λ (b : Bool). elim b as (λ _. Result (Option (List ℕ)) LinesFault) [ true ↦ Err LinesFault.Limit | false ↦ elim (nat_lt 8192 (length (content l))) as (λ _. Result (Option (List ℕ)) LinesFault) [ true ↦ Err LinesFault.Long | false ↦ Ok (Some (content l)) ] ]) (under_limit (before + octets_taken l) few)
    ∙ ap (λ (b : Bool). elim b as (λ _. Result (Option (List ℕ)) LinesFault) [ true ↦ Err LinesFault.Long | false ↦ Ok (Some (content l)) ]) (over_long (length (content l)) more)

taken_length : (l : RawLine) → length l.bytes ≤ octets_taken l
taken_length l = go l.ended (length l.bytes)
  where
    go : (e : Bool) (n : ℕ) → n ≤ elim e as (λ _. ℕ) [ true ↦ suc n | false ↦ n ]
    go true n = omega arith
    go false n = omega arith

pub taken_at_least : (ls : List RawLine) → first_length ls ≤ first_taken ls
taken_at_least [] = omega arith
taken_at_least (l ∷ ls) = taken_length l

pub past_limit : (before n : ℕ) (ls : List RawLine) → 0 < n → n ≤ first_length ls → 1048576 < before + n → first_of before ls ≡ Err LinesFault.Limit
past_limit before n [] some within more = absurd (omega arith)
past_limit before n (l ∷ ls) some within more = is_limit before l (omega (arith, taken_length l))

first_before : (b : ℕ) (ls : List RawLine) → first_length (before_first b ls) ≡ suc (first_length ls)
first_before b [] = refl
first_before b (l ∷ ls) = refl

one_more : (b : ℕ) (bs : List ℕ) → no_feed (b ∷ []) ≡ true → raw_lines (b ∷ bs) ≡ before_first b (raw_lines bs)
one_more b bs none = grind (arith, nat_tests)

-- the first line has all that stands before its line feed
pub front_length : (w left : List ℕ) → no_feed w ≡ true → length w ≤ first_length (raw_lines (w ++ left))
front_length [] left none = omega arith
front_length (b ∷ w) left none =
    let here : no_feed (b ∷ []) ≡ true = grind (arith, nat_tests) in
    let rest : no_feed w ≡ true = grind (arith, nat_tests) in
    omega (arith, front_length w left rest, ap first_length (one_more b (w ++ left) here), first_before b (raw_lines (w ++ left)))

-- ---- the source failed

pub read_ahead : (n : ℕ) (w left : List ℕ) → no_feed w ≡ true → length (w ++ left) ≤ length left + first_length (raw_lines (w ++ left))
read_ahead n w left none = omega (arith, length-append w left, front_length w left none)

joined_as : (w : List ℕ) (bytes rest : Option (List ℕ)) (all left : List ℕ) → together w rest ≡ bytes → bytes ≡ Some all → rest ≡ Some left → w ++ left ≡ all
joined_as w bytes None all left same is kept = absurd cc
joined_as w bytes (Some l) all left same is kept =
    let e : Some (w ++ l) ≡ Some all = same ∙ is in
    let f : l ≡ left = cc in
    rw (← f) cc

pub sought_read : (before n : ℕ) (w : List ℕ) (bytes rest : Option (List ℕ)) → no_feed w ≡ true → together w rest ≡ bytes → Sought before bytes w rest (Err (LinesFault.ReadFault n))
sought_read before n w bytes rest none same = (
  λ all is. refl,
  λ all left is kept.
      subst (λ (t : List ℕ). length t ≤ length left + first_length (raw_lines t)) (joined_as w bytes rest all left same is kept) (read_ahead n w left none),
)

-- ---- a line that ends at a line feed

if_some : {A : Type 0} → (P : A → Type 0) (o : Option A) → ((a : A) → P a) → IfSome o P
if_some P None all = tt
if_some P (Some a) all = all a

-- all bytes are known where those left are
known : (w : List ℕ) (bytes rest : Option (List ℕ)) (all : List ℕ) → together w rest ≡ bytes → bytes ≡ Some all → (left : List ℕ) × (w ++ left ≡ all)
known w bytes None all same is = absurd cc
known w bytes (Some left) all same is =
    let e : Some (w ++ left) ≡ Some all = same ∙ is in
    (left, cc)

pub sought_feed : (before : ℕ) (w : List ℕ) (bytes rest : Option (List ℕ)) (at len : ℕ) (r : Result (Option Cut) LinesFault)
    → at < length w → no_feed (take at w) ≡ true → get_or w at 0 ≡ 10 → length w ≤ 12288 → together w rest ≡ bytes
    → len ≤ at → take len (take at w) ≡ without_return (take at w) → IsCut before len (suc at) r → Sought before bytes w rest r
sought_feed before w bytes rest at len (Ok None) within none feed few same inside text is = absurd is
sought_feed before w bytes rest at len (Ok (Some cut)) within none feed few same inside text is =
    subst (λ (k : Cut). Takes before bytes w rest k) (sym is.0) (
    record {
      line = record { bytes = take at w; ended = true };
      text = sym text ∙ take-take len at w inside;
      short = is.1;
      inside = omega arith;
      taken = ap suc (length-take-le at w (omega arith));
      within = omega arith;
      few = few;
      under = is.2;
      same = same;
      first = if_some _ rest (λ left. line_at w left at within none feed);
    }
    )
sought_feed before w bytes rest at len (Err (LinesFault.ReadFault n)) within none feed few same inside text is = absurd is
sought_feed before w bytes rest at len (Err LinesFault.Long) within none feed few same inside text is =
    let l : RawLine = record { bytes = take at w; ended = true } in
    let size : length (take at w) ≡ at = length-take-le at w (omega arith) in
    let long : length (content l) ≡ len = ap length (sym text) ∙ length-take-le len (take at w) (omega arith) in (
      λ all e.
          let k = known w bytes rest all same e in
          sym (ap (λ (t : List ℕ). first_of before (raw_lines t)) (sym k.1) ∙ ap (first_of before) (line_at w k.0 at within none feed) ∙ is_long before l (omega arith) (omega arith)),
      λ all left e kept.
          subst (λ (t : List ℕ). length t ≤ length left + (first_taken (raw_lines t) + 12288)) (joined_as w bytes rest all left same e kept)
          (omega (arith, length-append w left)),
    )
sought_feed before w bytes rest at len (Err LinesFault.Limit) within none feed few same inside text is =
    let l : RawLine = record { bytes = take at w; ended = true } in
    let size : length (take at w) ≡ at = length-take-le at w (omega arith) in (
      λ all e.
          let k = known w bytes rest all same e in
          sym (ap (λ (t : List ℕ). first_of before (raw_lines t)) (sym k.1) ∙ ap (first_of before) (line_at w k.0 at within none feed) ∙ is_limit before l (omega arith)),
      λ all left e kept.
          subst (λ (t : List ℕ). length t ≤ length left + (first_taken (raw_lines t) + 12288)) (joined_as w bytes rest all left same e kept)
          (omega (arith, length-append w left)),
    )

-- ---- a line that ends with the input

nothing_left : (w : List ℕ) (rest : Option (List ℕ)) (P : List ℕ → Type 0) → IsAtEnd rest → P [] → IfSome rest P
nothing_left w None P end p = tt
nothing_left w (Some left) P end p = subst P (sym end) p

known_end : (w : List ℕ) (bytes rest : Option (List ℕ)) (all : List ℕ) → IsAtEnd rest → together w rest ≡ bytes → bytes ≡ Some all → w ≡ all
known_end w bytes None all end same is = absurd cc
known_end w bytes (Some left) all end same is =
    let e : Some (w ++ left) ≡ Some all = same ∙ is in
    let f : w ++ left ≡ all = cc in
    sym (append-nil w) ∙ ap (λ (t : List ℕ). w ++ t) (sym end) ∙ f

pub sought_end : (before : ℕ) (w : List ℕ) (bytes rest : Option (List ℕ)) → length w ≡ 0 → IsAtEnd rest → together w rest ≡ bytes → Sought before bytes w rest (Ok None)
sought_end before [] bytes rest none end same = (refl, end, same)
sought_end before (b ∷ w) bytes rest none end same = absurd (omega arith)

pub sought_input : (before : ℕ) (w : List ℕ) (bytes rest : Option (List ℕ)) (len : ℕ) (r : Result (Option Cut) LinesFault)
    → no_feed w ≡ true → length w ≤ 12288 → IsAtEnd rest → together w rest ≡ bytes → len ≡ length w → 0 < len → IsCut before len len r → Sought before bytes w rest r
sought_input before w bytes rest len (Ok None) none few end same size some is = absurd is
sought_input before w bytes rest len (Ok (Some cut)) none few end same size some is =
    subst (λ (k : Cut). Takes before bytes w rest k) (sym is.0) (
    record {
      line = record { bytes = w; ended = false };
      text = sym (take_all len w (omega arith));
      short = is.1;
      inside = omega arith;
      taken = sym size;
      within = omega arith;
      few = few;
      under = is.2;
      same = same;
      first = nothing_left w rest _ end (
          ap raw_lines (append-nil w) ∙ last_line w none (omega arith)
          ∙ ap (λ (t : List ℕ). record { bytes = w; ended = false } ∷ raw_lines (t ++ [])) (sym (ap (λ (k : ℕ). drop k w) size ∙ drop-length w))
          );
    }
    )
sought_input before w bytes rest len (Err (LinesFault.ReadFault n)) none few end same size some is = absurd is
sought_input before w bytes rest len (Err LinesFault.Long) none few end same size some is = (
  λ all e. sym (ap (λ (t : List ℕ). first_of before (raw_lines t)) (sym (known_end w bytes rest all end same e)) ∙ ap (first_of before) (last_line w none (omega arith)) ∙ is_long before (record { bytes = w; ended = false }) (omega arith) (omega arith)),
  λ all left e kept. omega (arith, ap length (joined_as w bytes rest all left same e kept), length-append w left),
)
sought_input before w bytes rest len (Err LinesFault.Limit) none few end same size some is = (
  λ all e. sym (ap (λ (t : List ℕ). first_of before (raw_lines t)) (sym (known_end w bytes rest all end same e)) ∙ ap (first_of before) (last_line w none (omega arith)) ∙ is_limit before (record { bytes = w; ended = false }) (omega arith)),
  λ all left e kept. omega (arith, ap length (joined_as w bytes rest all left same e kept), length-append w left),
)
