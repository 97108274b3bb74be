-- Octets, after their count: the scan, and its places.
use Rattle.std.proofs.Common.{length-append, ◌≡◌, ℕ, suc, ◌≤◌, ◌<◌, ◌+◌, ◌*◌, ◌/◌, ◌%◌, Option, Some, None, Result, Ok, Err, List, [], ◌∷◌, ◌++◌, length, take, drop, Bool, true, false, cond, refl, sym, ap, subst, ◌∙◌, arith}
use Rattle.std.specs.Prelude.{nat_le}
use Rattle.std.proofs.lemmas.Bool.Decides.{nat_tests}
use Rattle.tp_names.specs.Bytes.{octets_bytes}
use Rattle.tp_names.specs.Reading.{Reader, that, read_short, read_bytes, read_octets}
use Rattle.tp_names.specs.Scanning.{then_scan, scan_count, scan_bytes, scan_octets}
use Rattle.tp_names.specs.Places.{AreBytes, IsSteady, Sample, IsStuck, IsScan, IsWrittenBy}
use Rattle.tp_names.proofs.Sequences.{some_of, ok_of, some_pair, ok_pair}
use Rattle.tp_names.proofs.Choices.{Chosen, chosen_parts, chosen_scan, bytes_scan, bytes_parts}

abbrev read_count : ℕ → Reader ℕ
read_count most = that (λ n. nat_le n most) read_short

abbrev err_of : ℕ → Result (ℕ × List ℕ) ℕ
err_of n = Err n

abbrev count_of : ℕ → ℕ → ℕ
count_of high low = (0 * 256 + high) * 256 + low

abbrev passed : ℕ → ℕ → List ℕ → Bool → Option (ℕ × List ℕ)
passed most n bytes t = elim t as (λ _. Option (ℕ × List ℕ)) [ true ↦ Some (n, bytes) | false ↦ None ]

-- what is read is two bytes, of a count that is not above
pub record CountParts (most : ℕ) (bytes : List ℕ) (v : ℕ) (rest : List ℕ) : Type 0 where
  pub high : ℕ
  pub low : ℕ
  pub parts : bytes ≡ high ∷ low ∷ rest
  pub value : count_of high low ≡ v
  pub fits : v ≤ most

count_parts : (most : ℕ) (bytes : List ℕ) (v : ℕ) (rest : List ℕ) → read_count most bytes ≡ Some (v, rest) → CountParts most bytes v rest
count_parts most [] v rest h = absurd cc
count_parts most (a ∷ []) v rest h = absurd cc
count_parts most (a ∷ b ∷ bytes) v rest h = go (nat_le (count_of a b) most) refl h
  where
    go : (t : Bool) → nat_le (count_of a b) most ≡ t → passed most (count_of a b) bytes t ≡ Some (v, rest) → CountParts most (a ∷ b ∷ bytes) v rest
    go false e k = absurd cc
    go true e k =
        let same = some_pair (count_of a b) v bytes rest k in
        let le : count_of a b ≤ most = at_most (count_of a b) e in
        record { high = a; low = b; parts = ap (λ (w : List ℕ). a ∷ b ∷ w) same.1; value = same.0; fits = omega (arith, le, same.0) }
      where
        at_most : (n : ℕ) → nat_le n most ≡ true → n ≤ most
        at_most n k = grind (arith, nat_tests)

count_read : (most a b : ℕ) (bytes : List ℕ) → count_of a b ≤ most → read_count most (a ∷ b ∷ bytes) ≡ Some (count_of a b, bytes)
count_read most a b bytes le = ap (passed most (count_of a b) bytes) (at_most (count_of a b) le)
  where
    at_most : (n : ℕ) → n ≤ most → nat_le n most ≡ true
    at_most n k = grind (arith, nat_tests)

count_steady : (most : ℕ) → IsSteady (read_count most)
count_steady most = record {
  fronts = λ bytes v rest h.
      let x : CountParts most bytes v rest = count_parts most bytes v rest h in
      record {
        text = x.high ∷ x.low ∷ [];
        parts = x.parts;
        again = λ more. count_read most x.high x.low more (omega (arith, x.value, x.fits)) ∙ ap (λ (n : ℕ). some_of n more) x.value;
      };
}

count_found : (most : ℕ) (bytes : List ℕ) (v : ℕ) (rest : List ℕ) → scan_count most bytes ≡ Ok (v, rest) → read_count most bytes ≡ Some (v, rest)
count_found most [] v rest h = absurd cc
count_found most (a ∷ []) v rest h = absurd (go (nat_le (a * 256) most) h)
  where
    go : (t : Bool) → cond t (Err 0) (Err 1) ≡ ok_of v rest → ⊥
    go true k = cc
    go false k = cc
count_found most (a ∷ b ∷ bytes) v rest h = go (nat_le (a * 256 + b) most) (nat_le (a * 256) most) refl h
  where
    go : (t u : Bool) → nat_le (a * 256 + b) most ≡ t → cond t (ok_of (a * 256 + b) bytes) (cond u (Err (suc (length bytes))) (Err (suc (suc (length bytes))))) ≡ Ok (v, rest) → read_count most (a ∷ b ∷ bytes) ≡ Some (v, rest)
    go false true e k = absurd cc
    go false false e k = absurd cc
    go true u e k =
        let same = ok_pair (a * 256 + b) v bytes rest k in
        let le : a * 256 + b ≤ most = grind (arith, nat_tests) in
        let value : count_of a b ≡ v = omega (arith, same.0) in
        count_read most a b bytes (omega (arith, le)) ∙ ap (λ (n : ℕ). some_of n bytes) value ∙ ap (λ (w : List ℕ). some_of v w) same.1

zero_read : (most : ℕ) → read_count most (0 ∷ 0 ∷ []) ≡ Some (count_of 0 0, [])
zero_read most = count_read most 0 0 [] (omega arith)

count_sample : (most : ℕ) → Sample (read_count most)
count_sample most = record { value = count_of 0 0; text = 0 ∷ 0 ∷ []; bytes = (omega arith, (omega arith, tt)); reads = zero_read most }

count_none : (most : ℕ) (bytes : List ℕ) → ((a b : ℕ) (rest : List ℕ) → bytes ≡ a ∷ b ∷ rest → count_of a b ≤ most → ⊥) → read_count most bytes ≡ None
count_none most bytes never = go (read_count most bytes) refl
  where
    go : (o : Option (ℕ × List ℕ)) → read_count most bytes ≡ o → read_count most bytes ≡ None
    go None e = e
    go (Some p) e =
        let x : CountParts most bytes p.0 p.1 = count_parts most bytes p.0 p.1 e in
        absurd (never x.high x.low p.1 x.parts (omega (arith, x.value, x.fits)))

-- the first byte has no count
first_stuck : (most a : ℕ) (bytes : List ℕ) → most < a * 256 → IsStuck (read_count most) (a ∷ bytes) (suc (length bytes))
first_stuck most a bytes above = record {
  none = none bytes;
  front = [];
  rest = a ∷ bytes;
  parts = refl;
  left_is = refl;
  more = 0 ∷ 0 ∷ [];
  more_bytes = (omega arith, (omega arith, tt));
  value = count_of 0 0;
  reached = zero_read most;
  most = λ p q z v w zs cut r. far p q z v w cut r;
}
  where
    none : (more : List ℕ) → read_count most (a ∷ more) ≡ None
    none more = count_none most (a ∷ more) (λ h l rest same le. let heads : a ≡ h = cc in omega (arith, above, heads, le))

    far : (p q z : List ℕ) (v : ℕ) (w : List ℕ) → a ∷ bytes ≡ p ++ q → read_count most (p ++ z) ≡ Some (v, w) → suc (length bytes) ≤ length q
    far [] q z v w cut r = omega (arith, ap length cut)
    far (y ∷ p) q z v w cut r =
        let heads : a ≡ y = cc in
        let nothing : read_count most (y ∷ (p ++ z)) ≡ None = ap (λ (k : ℕ). read_count most (k ∷ (p ++ z))) (sym heads) ∙ none (p ++ z) in
        absurd cc

-- the first byte alone has one
second_stuck : (most a : ℕ) (bytes : List ℕ) → a * 256 ≤ most → ((b : ℕ) (rest : List ℕ) → bytes ≡ b ∷ rest → most < a * 256 + b) → IsStuck (read_count most) (a ∷ bytes) (length bytes)
second_stuck most a bytes below above = record {
  none = none bytes (λ b rest e. above b rest e);
  front = a ∷ [];
  rest = bytes;
  parts = refl;
  left_is = refl;
  more = 0 ∷ [];
  more_bytes = (omega arith, tt);
  value = count_of a 0;
  reached = count_read most a 0 [] (omega (arith, below));
  most = λ p q z v w zs cut r. far p q z v w cut r;
}
  where
    none : (more : List ℕ) → ((b : ℕ) (rest : List ℕ) → more ≡ b ∷ rest → most < a * 256 + b) → read_count most (a ∷ more) ≡ None
    none more high = count_none most (a ∷ more) (λ h l rest same le.
        let heads : a ≡ h = cc in
        let tails : more ≡ l ∷ rest = cc in
        omega (arith, high l rest tails, heads, le))

    far : (p q z : List ℕ) (v : ℕ) (w : List ℕ) → a ∷ bytes ≡ p ++ q → read_count most (p ++ z) ≡ Some (v, w) → length bytes ≤ length q
    far [] q z v w cut r = omega (arith, ap length cut)
    far (y ∷ []) q z v w cut r = omega (arith, ap length cut)
    far (y ∷ b ∷ p) q z v w cut r =
        let heads : a ≡ y = cc in
        let tails : bytes ≡ b ∷ (p ++ q) = cc in
        let nothing : read_count most (y ∷ b ∷ (p ++ z)) ≡ None = ap (λ (k : ℕ). read_count most (k ∷ b ∷ (p ++ z))) (sym heads) ∙ none (b ∷ (p ++ z)) (λ c rest e. let same : b ≡ c = cc in omega (arith, above b (p ++ q) tails, same)) in
        absurd cc

count_stuck : (most : ℕ) (bytes : List ℕ) (left : ℕ) → scan_count most bytes ≡ Err left → IsStuck (read_count most) bytes left
count_stuck most [] left h =
    let end : 0 ≡ left = cc in
    record {
      none = refl;
      front = [];
      rest = [];
      parts = refl;
      left_is = end;
      more = 0 ∷ 0 ∷ [];
      more_bytes = (omega arith, (omega arith, tt));
      value = count_of 0 0;
      reached = zero_read most;
      most = λ p q z v w zs cut r. omega (arith, end);
    }
count_stuck most (a ∷ []) left h = go (nat_le (a * 256) most) refl h
  where
    go : (t : Bool) → nat_le (a * 256) most ≡ t → cond t (err_of 0) (err_of 1) ≡ err_of left → IsStuck (read_count most) (a ∷ []) left
    go true e k =
        let place : 0 ≡ left = cc in
        let le : a * 256 ≤ most = grind (arith, nat_tests) in
        let P : ℕ → Type 0 = λ l. IsStuck (read_count most) (a ∷ []) l in
        subst P place (second_stuck most a [] le (λ b rest same. absurd cc))
    go false e k =
        let place : 1 ≡ left = cc in
        let above : most < a * 256 = grind (arith, nat_tests) in
        let P : ℕ → Type 0 = λ l. IsStuck (read_count most) (a ∷ []) l in
        subst P place (first_stuck most a [] above)
count_stuck most (a ∷ b ∷ bytes) left h = go (nat_le (a * 256 + b) most) (nat_le (a * 256) most) refl refl h
  where
    go : (t u : Bool) → nat_le (a * 256 + b) most ≡ t → nat_le (a * 256) most ≡ u → cond t (ok_of (a * 256 + b) bytes) (cond u (Err (suc (length bytes))) (Err (suc (suc (length bytes))))) ≡ Err left → IsStuck (read_count most) (a ∷ b ∷ bytes) left
    go true u e f k = absurd cc
    go false true e f k =
        let place : suc (length bytes) ≡ left = cc in
        let le : a * 256 ≤ most = grind (arith, nat_tests) in
        let above : most < a * 256 + b = grind (arith, nat_tests) in
        let P : ℕ → Type 0 = λ l. IsStuck (read_count most) (a ∷ b ∷ bytes) l in
        subst P place (second_stuck most a (b ∷ bytes) le (λ c rest same. let heads : b ≡ c = cc in omega (arith, above, heads)))
    go false false e f k =
        let place : suc (suc (length bytes)) ≡ left = cc in
        let above : most < a * 256 = grind (arith, nat_tests) in
        let P : ℕ → Type 0 = λ l. IsStuck (read_count most) (a ∷ b ∷ bytes) l in
        subst P place (first_stuck most a (b ∷ bytes) above)

pub count_scan : (most : ℕ) → IsScan (read_count most) (scan_count most)
count_scan most = record { steady = count_steady most; sample = count_sample most; found = count_found most; stuck = λ bytes left fits h. count_stuck most bytes left h }

pub octets_scan : (most : ℕ) → IsScan (read_octets most) (scan_octets most)
unfolding scan_octets
octets_scan most = chosen_scan (read_count most) read_bytes (scan_count most) scan_bytes (count_scan most) bytes_scan

-- what is read is at most so long
pub record OctetsParts (most : ℕ) (bytes v rest : List ℕ) : Type 0 where
  pub high : ℕ
  pub low : ℕ
  pub parts : bytes ≡ high ∷ low ∷ (v ++ rest)
  pub count : count_of high low ≡ length v
  pub fits : length v ≤ most

pub octets_parts : (most : ℕ) (bytes v rest : List ℕ) → read_octets most bytes ≡ Some (v, rest) → OctetsParts most bytes v rest
octets_parts most bytes v rest h =
    let c : Chosen (read_count most bytes) read_bytes v rest = chosen_parts (read_count most bytes) read_bytes v rest h in
    let x : CountParts most bytes c.choice c.middle = count_parts most bytes c.choice c.middle c.first in
    let e = bytes_parts c.choice c.middle v rest c.second in
    record { high = x.high; low = x.low; parts = x.parts ∙ ap (λ (w : List ℕ). x.high ∷ x.low ∷ w) e.0; count = x.value ∙ sym e.1; fits = omega (arith, x.fits, e.1) }

pub octets_written : (most : ℕ) → IsWrittenBy octets_bytes (read_octets most)
octets_written most = record { spelled = spelled }
  where
    spelled : (bytes v rest : List ℕ) → AreBytes bytes → read_octets most bytes ≡ Some (v, rest) → bytes ≡ octets_bytes v ++ rest
    spelled bytes v rest fits h =
        let x : OctetsParts most bytes v rest = octets_parts most bytes v rest h in
        let P : List ℕ → Type 0 = λ w. AreBytes w in
        let small : AreBytes (x.high ∷ x.low ∷ (v ++ rest)) = subst P x.parts fits in
        let high : x.high ≡ length v / 256 % 256 = omega (arith, x.count, small.0, small.1.0) in
        let low : x.low ≡ length v % 256 = omega (arith, x.count, small.0, small.1.0) in
        x.parts ∙ ap (λ (k : ℕ). k ∷ x.low ∷ (v ++ rest)) high ∙ ap (λ (k : ℕ). (length v / 256 % 256) ∷ k ∷ (v ++ rest)) low

abbrev number_of : ℕ → List ℕ → Result (ℕ × List ℕ) ℕ
number_of n rest = Ok (n, rest)

refuted : (most h l : ℕ) (body : List ℕ) (left : ℕ) → h * 256 + l ≤ most → h * 256 + l ≤ length body → then_scan (scan_count most (h ∷ l ∷ body)) scan_bytes ≡ Err left → ⊥
refuted most h l body left small fits e =
    let n : ℕ = h * 256 + l in
    let a : nat_le n most ≡ true = tested n most small in
    let b : nat_le n (length body) ≡ true = tested n (length body) fits in
    let counted : then_scan (scan_count most (h ∷ l ∷ body)) scan_bytes ≡ scan_bytes n body =
    ap (λ (t : Bool). then_scan (cond t (number_of n body) (cond (nat_le (h * 256) most) (Err (suc (length body))) (Err (suc (suc (length body)))))) scan_bytes) a in
    let taken : scan_bytes n body ≡ ok_of (take n body) (drop n body) = ap (λ (t : Bool). cond t (ok_of (take n body) (drop n body)) (Err 0)) b in
    let clash : ok_of (take n body) (drop n body) ≡ Err left = sym (counted ∙ taken) ∙ e in
    cc
  where
    tested : (n m : ℕ) → n ≤ m → nat_le n m ≡ true
    tested n m le = grind (arith, nat_tests)

-- where octets are read they are scanned, whatever the numbers are
pub octets_whole : (most : ℕ) (bytes v rest : List ℕ) (left : ℕ) → read_octets most bytes ≡ Some (v, rest) → scan_octets most bytes ≡ Err left → ⊥
unfolding scan_octets
octets_whole most bytes v rest left h e =
    let x : OctetsParts most bytes v rest = octets_parts most bytes v rest h in
    let body : List ℕ = v ++ rest in
    let small : x.high * 256 + x.low ≤ most = omega (arith, x.count, x.fits) in
    let fits : x.high * 256 + x.low ≤ length body = omega (arith, x.count, length-append v rest) in
    let same : then_scan (scan_count most (x.high ∷ x.low ∷ body)) scan_bytes ≡ Err left = ap (λ (w : List ℕ). then_scan (scan_count most w) scan_bytes) (sym x.parts) ∙ e in
    refuted most x.high x.low body left small fits same

pub octets_none : (most : ℕ) (bytes : List ℕ) (left : ℕ) → scan_octets most bytes ≡ Err left → read_octets most bytes ≡ None
octets_none most bytes left h = go (read_octets most bytes) refl
  where
    go : (o : Option (List ℕ × List ℕ)) → read_octets most bytes ≡ o → read_octets most bytes ≡ None
    go None e = e
    go (Some p) e = absurd (octets_whole most bytes p.0 p.1 left e h)
