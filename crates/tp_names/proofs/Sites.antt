-- Site names, after their length: the scan, and its places.
use Rattle.std.proofs.Common.{◌≡◌, ℕ, zero, suc, ◌≤◌, ◌<◌, ◌-◌, ◌&&◌, Option, Some, None, Ok, Err, List, [], ◌∷◌, ◌++◌, length, take, drop, replicate, Bool, true, false, cond, ◌⊎◌, inl, inr, refl, sym, ap, subst, ◌∙◌, zero-add, append_assoc, length-append, arith}
use Rattle.std.specs.Prelude.{nat_le}
use Rattle.std.proofs.lemmas.Bool.{cases_lt}
use Rattle.std.proofs.lemmas.List.{append-nil, take-append-drop, length-take, length-replicate, take_at}
use Rattle.std.proofs.lemmas.Bool.Decides.{nat_tests}
use Rattle.tp_names.specs.Bytes.{is_site_byte, is_site_name, all_bytes, site_bytes}
use Rattle.tp_names.specs.Reading.{that, if_passes, read_bytes, read_site, Reader}
use Rattle.tp_names.specs.Scanning.{Scan, left_after_letters, scan_letters, scan_site, scan_site_within}
use Rattle.tp_names.specs.Places.{AreBytes, IsSteady, IsStuck, IsScan, IsWrittenBy, Sample}
use Rattle.tp_names.proofs.Sequences.{some_of, ok_of, some_pair, ok_pair, cuts}
use Rattle.tp_names.proofs.Choices.{bytes_taken, bytes_parts}

-- ---- the reader

read_at : (n : ℕ) (bytes : List ℕ) → read_site (n ∷ bytes) ≡ if_passes is_site_name (read_bytes n bytes)
read_at n bytes = ap (λ (k : ℕ). if_passes is_site_name (read_bytes k bytes)) (zero-add n)

pub site_taken : (name more : List ℕ) → is_site_name name ≡ true → read_site (length name ∷ (name ++ more)) ≡ Some (name, more)
site_taken name more h =
    read_at (length name) (name ++ more)
    ∙ ap (if_passes is_site_name) (bytes_taken name more)
    ∙ ap (λ (t : Bool). elim t as (λ _. Option (List ℕ × List ℕ)) [ true ↦ Some (name, more) | false ↦ None ]) h

pub site_parts : (bytes v rest : List ℕ) → read_site bytes ≡ Some (v, rest) → (bytes ≡ length v ∷ (v ++ rest)) × (is_site_name v ≡ true)
site_parts [] v rest h = absurd cc
site_parts (n ∷ bytes) v rest h = go (read_bytes n bytes) refl (sym (read_at n bytes) ∙ h)
  where
    go : (o : Option (List ℕ × List ℕ)) → read_bytes n bytes ≡ o → if_passes is_site_name o ≡ Some (v, rest) → (n ∷ bytes ≡ length v ∷ (v ++ rest)) × (is_site_name v ≡ true)
    go None e k = absurd cc
    go (Some p) e k = on (is_site_name p.0) refl k
      where
        on : (t : Bool) → is_site_name p.0 ≡ t → elim t as (λ _. Option (List ℕ × List ℕ)) [ true ↦ Some p | false ↦ None ] ≡ Some (v, rest) → (n ∷ bytes ≡ length v ∷ (v ++ rest)) × (is_site_name v ≡ true)
        on false name k = absurd cc
        on true name k =
            let same = some_pair p.0 v p.1 rest k in
            let parts = bytes_parts n bytes p.0 p.1 e in
            let len : n ≡ length v = sym parts.1 ∙ ap length same.0 in
            let body : bytes ≡ v ++ rest = parts.0 ∙ ap (λ (w : List ℕ). w ++ p.1) same.0 ∙ ap (λ (w : List ℕ). v ++ w) same.1 in
            (ap (λ (k : ℕ). k ∷ bytes) len ∙ ap (λ (w : List ℕ). length v ∷ w) body, ap is_site_name (sym same.0) ∙ name)

pub site_steady : IsSteady read_site
site_steady = record {
  fronts = λ bytes v rest h.
      let e = site_parts bytes v rest h in
      record { text = length v ∷ v; parts = e.0; again = λ more. site_taken v more e.1 };
}

pub site_written : IsWrittenBy site_bytes read_site
site_written = record { spelled = λ bytes v rest fits h. (site_parts bytes v rest h).0 }

-- ---- letters

-- bytes as letters in front, and what stands after them
pub record Letters (k : ℕ) (bytes : List ℕ) : Type 0 where
  pub run : List ℕ
  pub rest : List ℕ
  pub parts : bytes ≡ run ++ rest
  pub left_is : length rest ≡ left_after_letters k bytes
  pub letters : all_bytes is_site_byte run ≡ true
  pub within : length run ≤ k
  pub ends : length run < k → (c : ℕ) (after : List ℕ) → rest ≡ c ∷ after → is_site_byte c ≡ false

letters_of : (k : ℕ) (bytes : List ℕ) → Letters k bytes
letters_of zero bytes = record { run = []; rest = bytes; parts = refl; left_is = refl; letters = refl; within = omega arith; ends = λ less c after e. absurd (omega (arith, less)) }
letters_of (suc k) [] = record { run = []; rest = []; parts = refl; left_is = refl; letters = refl; within = omega arith; ends = λ less c after e. absurd cc }
letters_of (suc k) (b ∷ bytes) = go (is_site_byte b) refl (letters_of k bytes)
  where
    left_by : (t : Bool) → is_site_byte b ≡ t → left_after_letters (suc k) (b ∷ bytes) ≡ elim t as (λ _. ℕ) [ true ↦ left_after_letters k bytes | false ↦ suc (length bytes) ]
    left_by t e = ap (λ (u : Bool). elim u as (λ _. ℕ) [ true ↦ left_after_letters k bytes | false ↦ suc (length bytes) ]) e

    go : (t : Bool) → is_site_byte b ≡ t → Letters k bytes → Letters (suc k) (b ∷ bytes)
    go false e x = record {
      run = [];
      rest = b ∷ bytes;
      parts = refl;
      left_is = sym (left_by false e);
      letters = refl;
      within = omega arith;
      ends = λ less c after same. let heads : b ≡ c = cc in ap is_site_byte (sym heads) ∙ e;
    }
    go true e x = record {
      run = b ∷ x.run;
      rest = x.rest;
      parts = ap (λ (w : List ℕ). b ∷ w) x.parts;
      left_is = x.left_is ∙ sym (left_by true e);
      letters = ap (λ (t : Bool). t && all_bytes is_site_byte x.run) e ∙ x.letters;
      within = omega (arith, x.within);
      ends = λ less c after same. x.ends (omega (arith, less)) c after same;
    }

all_append : (xs ys : List ℕ) → all_bytes is_site_byte xs ≡ true → all_bytes is_site_byte ys ≡ true → all_bytes is_site_byte (xs ++ ys) ≡ true
all_append [] ys hx hy = hy
all_append (x ∷ xs) ys hx hy = go (is_site_byte x) hx (λ h. all_append xs ys h hy)
  where
    go : (t : Bool) → (t && all_bytes is_site_byte xs) ≡ true → (all_bytes is_site_byte xs ≡ true → all_bytes is_site_byte (xs ++ ys) ≡ true) → (t && all_bytes is_site_byte (xs ++ ys)) ≡ true
    go true h later = later h
    go false h later = absurd cc

-- a byte after others
all_at : (xs : List ℕ) (c : ℕ) (ys : List ℕ) → all_bytes is_site_byte (xs ++ (c ∷ ys)) ≡ true → is_site_byte c ≡ true
all_at [] c ys h = go (is_site_byte c) h
  where
    go : (t : Bool) → (t && all_bytes is_site_byte ys) ≡ true → t ≡ true
    go true h = refl
    go false h = absurd cc
all_at (x ∷ xs) c ys h = go (is_site_byte x) h (λ e. all_at xs c ys e)
  where
    go : (t : Bool) → (t && all_bytes is_site_byte (xs ++ (c ∷ ys))) ≡ true → (all_bytes is_site_byte (xs ++ (c ∷ ys)) ≡ true → is_site_byte c ≡ true) → is_site_byte c ≡ true
    go true h later = later h
    go false h later = absurd cc

name_from : (v : List ℕ) → 1 ≤ length v → length v ≤ 16 → all_bytes is_site_byte v ≡ true → is_site_name v ≡ true
name_from v low high each = go (length v) (all_bytes is_site_byte v) low high each
  where
    go : (n : ℕ) (t : Bool) → 1 ≤ n → n ≤ 16 → t ≡ true → ((nat_le 1 n && nat_le n 16) && t) ≡ true
    go n t low high each = grind (arith, nat_tests)

pub record NameParts (v : List ℕ) : Type 0 where
  pub low : 1 ≤ length v
  pub high : length v ≤ 16
  pub each : all_bytes is_site_byte v ≡ true

name_parts : (v : List ℕ) → is_site_name v ≡ true → NameParts v
name_parts v h =
    let e = go (length v) (all_bytes is_site_byte v) h in
    record { low = e.0; high = e.1; each = e.2 }
  where
    go : (n : ℕ) (t : Bool) → ((nat_le 1 n && nat_le n 16) && t) ≡ true → (1 ≤ n) × (n ≤ 16) × (t ≡ true)
    go n t h = (grind (arith, nat_tests), grind (arith, nat_tests), grind (arith, nat_tests))

-- ---- the scan

spare_bytes : (k : ℕ) → AreBytes (replicate k 97)
spare_bytes zero = tt
spare_bytes (suc k) = (omega arith, spare_bytes k)

spare_letters : (k : ℕ) → all_bytes is_site_byte (replicate k 97) ≡ true
spare_letters zero = refl
spare_letters (suc k) = spare_letters k

abbrev is_whole : ℕ → List ℕ → Bool
is_whole n bytes = nat_le n (length bytes) && is_site_name (take n bytes)

whole_from : (v rest : List ℕ) → is_site_name v ≡ true → is_whole (length v) (v ++ rest) ≡ true
whole_from v rest name =
    let front : take (length v) (v ++ rest) ≡ v = take_at v rest (length v) refl in
    let long : nat_le (length v) (length (v ++ rest)) ≡ true = grind (arith, nat_tests, length-append v rest) in
    ap (λ (w : List ℕ). nat_le (length v) (length (v ++ rest)) && is_site_name w) front ∙ ap (λ (t : Bool). t && is_site_name v) long ∙ name

run_is_short : (n : ℕ) (bytes : List ℕ) → 1 ≤ n → n ≤ 16 → is_whole n bytes ≡ false → (x : Letters n bytes) → length x.run < n
run_is_short n bytes low high partial x = elim (cases_lt (length x.run) n) [
  | inl less ↦ less
  | inr le ↦
      let len : length x.run ≡ n = omega (arith, le, x.within) in
      let name : is_site_name x.run ≡ true = name_from x.run (omega (arith, len)) (omega (arith, len)) x.letters in
      let whole : is_whole (length x.run) (x.run ++ x.rest) ≡ true = whole_from x.run x.rest name in
      let same : is_whole n bytes ≡ true = ap (λ (w : List ℕ). is_whole n w) x.parts ∙ ap (λ (k : ℕ). is_whole k (x.run ++ x.rest)) (sym len) ∙ whole in
      absurd (let clash : false ≡ true = sym partial ∙ same in cc)
]

letters_none : (n : ℕ) (bytes : List ℕ) → is_whole n bytes ≡ false → read_site (n ∷ bytes) ≡ None
letters_none n bytes partial = go (read_site (n ∷ bytes)) refl
  where
    go : (o : Option (List ℕ × List ℕ)) → read_site (n ∷ bytes) ≡ o → read_site (n ∷ bytes) ≡ None
    go None e = e
    go (Some p) e =
        let parts = site_parts (n ∷ bytes) p.0 p.1 e in
        let len : n ≡ length p.0 = let whole : n ∷ bytes ≡ length p.0 ∷ (p.0 ++ p.1) = parts.0 in cc in
        let body : bytes ≡ p.0 ++ p.1 = let whole : n ∷ bytes ≡ length p.0 ∷ (p.0 ++ p.1) = parts.0 in cc in
        let same : is_whole n bytes ≡ true = ap (λ (w : List ℕ). is_whole n w) body ∙ ap (λ (k : ℕ). is_whole k (p.0 ++ p.1)) len ∙ whole_from p.0 p.1 parts.1 in
        absurd (let clash : false ≡ true = sym partial ∙ same in cc)

-- a byte that is no letter stands in no name
no_name : (run : List ℕ) (c : ℕ) (after v w : List ℕ) → is_site_byte c ≡ false → length run < length v → is_site_name v ≡ true → run ++ (c ∷ after) ≡ v ++ w → ⊥
no_name run c after v w bad less name same = go (cuts run (c ∷ after) v w same)
  where
    inner : (d : List ℕ) → v ≡ run ++ d → c ∷ after ≡ d ++ w → ⊥
    inner [] front back = omega (arith, less, ap length front, length-append {A = ℕ} run [])
    inner (y ∷ d) front back =
        let same_byte : c ≡ y = cc in
        let good : is_site_byte y ≡ true = all_at run y d (ap (all_bytes is_site_byte) (sym front) ∙ (name_parts v name).each) in
        let clash : false ≡ true = sym bad ∙ ap is_site_byte same_byte ∙ good in
        cc

    go : ((e : List ℕ) × ((v ≡ run ++ e) × (c ∷ after ≡ e ++ w))) ⊎ ((e : List ℕ) × ((run ≡ v ++ e) × (w ≡ e ++ (c ∷ after)))) → ⊥
    go (inl e) = inner e.0 e.1.0 e.1.1
    go (inr e) = omega (arith, less, ap length e.1.0, length-append v e.0)

letters_most : (n : ℕ) (bytes : List ℕ) (x : Letters n bytes) → length x.run < n → (p q z v w : List ℕ) → n ∷ bytes ≡ p ++ q → read_site (p ++ z) ≡ Some (v, w) → length x.rest ≤ length q
letters_most n bytes x less [] q z v w cut r = omega (arith, ap length cut, ap length x.parts, length-append x.run x.rest)
letters_most n bytes x less (y ∷ p) q z v w cut r = go (cuts x.run x.rest p q (sym x.parts ∙ tails))
  where
    heads : n ≡ y
    heads = cc

    tails : bytes ≡ p ++ q
    tails = cc

    name : (y ∷ (p ++ z) ≡ length v ∷ (v ++ w)) × (is_site_name v ≡ true)
    name = site_parts (y ∷ (p ++ z)) v w r

    behind : (e : List ℕ) → p ≡ x.run ++ e → x.rest ≡ e ++ q → length x.rest ≤ length q
    behind [] front back = omega (arith, ap length back)
    behind (c ∷ e) front back =
        let bad : is_site_byte c ≡ false = x.ends less c (e ++ q) back in
        let whole : y ∷ (p ++ z) ≡ length v ∷ (v ++ w) = name.0 in
        let len : y ≡ length v = cc in
        let text : p ++ z ≡ v ++ w = cc in
        let same : x.run ++ (c ∷ (e ++ z)) ≡ v ++ w = sym (append_assoc x.run (c ∷ e) z) ∙ ap (λ (u : List ℕ). u ++ z) (sym front) ∙ text in
        absurd (no_name x.run c (e ++ z) v w bad (omega (arith, less, heads, len)) name.1 same)

    go : ((e : List ℕ) × ((p ≡ x.run ++ e) × (x.rest ≡ e ++ q))) ⊎ ((e : List ℕ) × ((x.run ≡ p ++ e) × (q ≡ e ++ x.rest))) → length x.rest ≤ length q
    go (inl e) = behind e.0 e.1.0 e.1.1
    go (inr e) = omega (arith, ap length e.1.1, length-append e.0 x.rest)

letters_stuck : (n : ℕ) (bytes : List ℕ) → 1 ≤ n → n ≤ 16 → is_whole n bytes ≡ false → IsStuck read_site (n ∷ bytes) (left_after_letters n bytes)
letters_stuck n bytes low high partial =
    let x : Letters n bytes = letters_of n bytes in
    let less : length x.run < n = run_is_short n bytes low high partial x in
    let more : List ℕ = replicate (n - length x.run) 97 in
    let len : length (x.run ++ more) ≡ n = omega (arith, less, length-append x.run more, length-replicate {A = ℕ} (n - length x.run) 97) in
    let name : is_site_name (x.run ++ more) ≡ true = name_from (x.run ++ more) (omega (arith, len)) (omega (arith, len)) (all_append x.run more x.letters (spare_letters (n - length x.run))) in
    record {
      none = letters_none n bytes partial;
      front = n ∷ x.run;
      rest = x.rest;
      parts = ap (λ (w : List ℕ). n ∷ w) x.parts;
      left_is = x.left_is;
      more = more;
      more_bytes = spare_bytes (n - length x.run);
      value = x.run ++ more;
      reached = ap (λ (k : ℕ). read_site (k ∷ (x.run ++ more))) (sym len) ∙ ap (λ (w : List ℕ). read_site (length (x.run ++ more) ∷ w)) (sym (append-nil (x.run ++ more))) ∙ site_taken (x.run ++ more) [] name;
      most = λ p q z v w zs cut r. let l : length x.rest ≤ length q = letters_most n bytes x less p q z v w cut r in omega (arith, l, x.left_is);
    }

site_a : read_site (1 ∷ 97 ∷ []) ≡ Some (97 ∷ [], [])
site_a = refl

-- a length that no name has
length_none : (n : ℕ) → (nat_le 1 n && nat_le n 16) ≡ false → (bytes : List ℕ) → read_site (n ∷ bytes) ≡ None
length_none n bad bytes = go (read_site (n ∷ bytes)) refl
  where
    go : (o : Option (List ℕ × List ℕ)) → read_site (n ∷ bytes) ≡ o → read_site (n ∷ bytes) ≡ None
    go None e = e
    go (Some p) e =
        let parts = site_parts (n ∷ bytes) p.0 p.1 e in
        let len : n ≡ length p.0 = let whole : n ∷ bytes ≡ length p.0 ∷ (p.0 ++ p.1) = parts.0 in cc in
        let name : NameParts p.0 = name_parts p.0 parts.1 in
        let good : (nat_le 1 n && nat_le n 16) ≡ true = within n (omega (arith, len, name.low)) (omega (arith, len, name.high)) in
        absurd (let clash : false ≡ true = sym bad ∙ good in cc)
      where
        within : (k : ℕ) → 1 ≤ k → k ≤ 16 → (nat_le 1 k && nat_le k 16) ≡ true
        within k low high = grind (arith, nat_tests)

length_stuck : (n : ℕ) (bytes : List ℕ) → (nat_le 1 n && nat_le n 16) ≡ false → IsStuck read_site (n ∷ bytes) (suc (length bytes))
length_stuck n bytes bad = record {
  none = length_none n bad bytes;
  front = [];
  rest = n ∷ bytes;
  parts = refl;
  left_is = refl;
  more = 1 ∷ 97 ∷ [];
  more_bytes = (omega arith, (omega arith, tt));
  value = 97 ∷ [];
  reached = site_a;
  most = λ p q z v w zs cut r. most p q z v w cut r;
}
  where
    most : (p q z v w : List ℕ) → n ∷ bytes ≡ p ++ q → read_site (p ++ z) ≡ Some (v, w) → suc (length bytes) ≤ length q
    most [] q z v w cut r = omega (arith, ap length cut)
    most (y ∷ p) q z v w cut r =
        let heads : n ≡ y = cc in
        let none : read_site (y ∷ (p ++ z)) ≡ None = ap (λ (k : ℕ). read_site (k ∷ (p ++ z))) (sym heads) ∙ length_none n bad (p ++ z) in
        absurd cc

abbrev scan_name : Scan (List ℕ)
scan_name [] = Err 0
scan_name (n ∷ bytes) = cond (nat_le 1 n && nat_le n 16) (scan_letters n bytes) (Err (suc (length bytes)))

same_scan : (bytes : List ℕ) → scan_site bytes ≡ scan_name bytes
unfolding scan_site
same_scan [] = refl
same_scan (n ∷ bytes) = refl

name_found : (bytes v rest : List ℕ) → scan_name bytes ≡ Ok (v, rest) → read_site bytes ≡ Some (v, rest)
name_found [] v rest h = absurd cc
name_found (n ∷ bytes) v rest h = go (nat_le 1 n && nat_le n 16) (is_whole n bytes) refl h
  where
    go : (t u : Bool) → is_whole n bytes ≡ u → cond t (cond u (ok_of (take n bytes) (drop n bytes)) (Err (left_after_letters n bytes))) (Err (suc (length bytes))) ≡ Ok (v, rest) → read_site (n ∷ bytes) ≡ Some (v, rest)
    go false u e k = absurd cc
    go true false e k = absurd cc
    go true true e k =
        let same = ok_pair (take n bytes) v (drop n bytes) rest k in
        let both = both_true (nat_le n (length bytes)) (is_site_name (take n bytes)) e in
        let fits : n ≤ length bytes = at_most both.0 in
        let len : length (take n bytes) ≡ n = omega (arith, length-take {A = ℕ} n bytes, fits) in
        ap (λ (w : List ℕ). read_site (n ∷ w)) (sym (take-append-drop n bytes)) ∙ ap (λ (j : ℕ). read_site (j ∷ (take n bytes ++ drop n bytes))) (sym len)
        ∙ site_taken (take n bytes) (drop n bytes) both.1 ∙ ap (λ (w : List ℕ). some_of w (drop n bytes)) same.0 ∙ ap (λ (w : List ℕ). some_of v w) same.1
      where
        both_true : (a b : Bool) → (a && b) ≡ true → (a ≡ true) × (b ≡ true)
        both_true true b k = (refl, k)
        both_true false b k = absurd cc

        at_most : nat_le n (length bytes) ≡ true → n ≤ length bytes
        at_most k = grind (arith, nat_tests)

name_stuck : (bytes : List ℕ) (left : ℕ) → scan_name bytes ≡ Err left → IsStuck read_site bytes left
name_stuck [] left h =
    let end : 0 ≡ left = cc in
    record {
      none = refl;
      front = [];
      rest = [];
      parts = refl;
      left_is = end;
      more = 1 ∷ 97 ∷ [];
      more_bytes = (omega arith, (omega arith, tt));
      value = 97 ∷ [];
      reached = site_a;
      most = λ p q z v w zs cut r. omega (arith, end);
    }
name_stuck (n ∷ bytes) left h = go (nat_le 1 n && nat_le n 16) (is_whole n bytes) refl refl h
  where
    bounds : (nat_le 1 n && nat_le n 16) ≡ true → (1 ≤ n) × (n ≤ 16)
    bounds k = (grind (arith, nat_tests), grind (arith, nat_tests))

    go : (t u : Bool) → (nat_le 1 n && nat_le n 16) ≡ t → is_whole n bytes ≡ u → cond t (cond u (ok_of (take n bytes) (drop n bytes)) (Err (left_after_letters n bytes))) (Err (suc (length bytes))) ≡ Err left → IsStuck read_site (n ∷ bytes) left
    go false u e f k = let place : suc (length bytes) ≡ left = cc in let P : ℕ → Type 0 = λ l. IsStuck read_site (n ∷ bytes) l in subst P place (length_stuck n bytes e)
    go true true e f k = absurd cc
    go true false e f k =
        let place : left_after_letters n bytes ≡ left = cc in
        let P : ℕ → Type 0 = λ l. IsStuck read_site (n ∷ bytes) l in
        let within = bounds e in
        subst P place (letters_stuck n bytes within.0 within.1 f)

pub site_scan : IsScan read_site scan_site
site_scan = record {
  steady = site_steady;
  sample = record { value = 97 ∷ []; text = 1 ∷ 97 ∷ []; bytes = (omega arith, (omega arith, tt)); reads = site_a };
  found = λ bytes v rest h. name_found bytes v rest (sym (same_scan bytes) ∙ h);
  stuck = λ bytes left fits h. name_stuck bytes left (sym (same_scan bytes) ∙ h);
}

-- ---- names whose length is within bounds

abbrev fits_within : ℕ → ℕ → ℕ → Bool
fits_within low high n = nat_le low n && nat_le n high

abbrev pub read_site_within : ℕ → ℕ → Reader (List ℕ)
read_site_within low high = that (λ s. nat_le low (length s) && nat_le (length s) high) read_site

abbrev passed : ℕ → ℕ → List ℕ → List ℕ → Bool → Option (List ℕ × List ℕ)
passed low high v rest t = elim t as (λ _. Option (List ℕ × List ℕ)) [ true ↦ Some (v, rest) | false ↦ None ]

pub record WithinParts (low high : ℕ) (bytes v rest : List ℕ) : Type 0 where
  pub read : read_site bytes ≡ Some (v, rest)
  pub fits : fits_within low high (length v) ≡ true

pub within_parts : (low high : ℕ) (bytes v rest : List ℕ) → read_site_within low high bytes ≡ Some (v, rest) → WithinParts low high bytes v rest
within_parts low high bytes v rest h = go (read_site bytes) refl h
  where
    go : (o : Option (List ℕ × List ℕ)) → read_site bytes ≡ o → if_passes (λ s. fits_within low high (length s)) o ≡ Some (v, rest) → WithinParts low high bytes v rest
    go None e k = absurd cc
    go (Some p) e k = on (fits_within low high (length p.0)) refl k
      where
        on : (t : Bool) → fits_within low high (length p.0) ≡ t → elim t as (λ _. Option (List ℕ × List ℕ)) [ true ↦ Some p | false ↦ None ] ≡ Some (v, rest) → WithinParts low high bytes v rest
        on false f k = absurd cc
        on true f k =
            let same = some_pair p.0 v p.1 rest k in
            record {
              read = e ∙ ap (λ (w : List ℕ). some_of w p.1) same.0 ∙ ap (λ (w : List ℕ). some_of v w) same.1;
              fits = ap (λ (w : List ℕ). fits_within low high (length w)) (sym same.0) ∙ f;
            }

pub within_read : (low high : ℕ) (bytes v rest : List ℕ) → read_site bytes ≡ Some (v, rest) → fits_within low high (length v) ≡ true → read_site_within low high bytes ≡ Some (v, rest)
within_read low high bytes v rest h f =
    ap (if_passes (λ s. fits_within low high (length s))) h
    ∙ ap (passed low high v rest) f

within_steady : (low high : ℕ) → IsSteady (read_site_within low high)
within_steady low high = record {
  fronts = λ bytes v rest h.
      let w : WithinParts low high bytes v rest = within_parts low high bytes v rest h in
      let e = site_parts bytes v rest w.read in
      record { text = length v ∷ v; parts = e.0; again = λ more. within_read low high (length v ∷ (v ++ more)) v more (site_taken v more e.1) w.fits };
}

within_none : (low high : ℕ) (bytes : List ℕ) → ((v rest : List ℕ) → read_site bytes ≡ Some (v, rest) → fits_within low high (length v) ≡ true → ⊥) → read_site_within low high bytes ≡ None
within_none low high bytes never = go (read_site_within low high bytes) refl
  where
    go : (o : Option (List ℕ × List ℕ)) → read_site_within low high bytes ≡ o → read_site_within low high bytes ≡ None
    go None e = e
    go (Some p) e = let w : WithinParts low high bytes p.0 p.1 = within_parts low high bytes p.0 p.1 e in absurd (never p.0 p.1 w.read w.fits)

-- a length within the bounds
pub record HasLength (low high : ℕ) : Type 0 where
  pub len : ℕ
  pub least : 1 ≤ len
  pub most : len ≤ 16
  pub from : low ≤ len
  pub to : len ≤ high

spare_name : (k : ℕ) → 1 ≤ k → k ≤ 16 → (is_site_name (replicate k 97) ≡ true) × (length (replicate {A = ℕ} k 97) ≡ k)
spare_name k low high =
    let len : length (replicate {A = ℕ} k 97) ≡ k = length-replicate {A = ℕ} k 97 in
    (name_from (replicate k 97) (omega (arith, len, low)) (omega (arith, len, high)) (spare_letters k), len)

within_sample : (low high : ℕ) → HasLength low high → Sample (read_site_within low high)
within_sample low high x =
    let s = spare_name x.len x.least x.most in
    let name : List ℕ = replicate x.len 97 in
    let fits : fits_within low high (length name) ≡ true = at (length name) (omega (arith, s.1, x.from)) (omega (arith, s.1, x.to)) in
    record {
      value = name;
      text = length name ∷ name;
      bytes = (omega (arith, s.1, x.most), spare_bytes x.len);
      reads = within_read low high (length name ∷ name) name [] (ap (λ (w : List ℕ). read_site (length name ∷ w)) (sym (append-nil name)) ∙ site_taken name [] s.0) fits;
    }
  where
    at : (n : ℕ) → low ≤ n → n ≤ high → fits_within low high n ≡ true
    at n a b = grind (arith, nat_tests)

abbrev scan_name_within : ℕ → ℕ → Scan (List ℕ)
scan_name_within low high [] = Err 0
scan_name_within low high (n ∷ bytes) = cond ((nat_le 1 n && nat_le n 16) && fits_within low high n) (scan_letters n bytes) (Err (suc (length bytes)))

same_within : (low high : ℕ) (bytes : List ℕ) → scan_site_within low high bytes ≡ scan_name_within low high bytes
unfolding scan_site_within
same_within low high [] = refl
same_within low high (n ∷ bytes) = refl

within_found : (low high : ℕ) (bytes v rest : List ℕ) → scan_name_within low high bytes ≡ Ok (v, rest) → read_site_within low high bytes ≡ Some (v, rest)
within_found low high [] v rest h = absurd cc
within_found low high (n ∷ bytes) v rest h = go (nat_le 1 n && nat_le n 16) (fits_within low high n) refl refl h
  where
    go : (t u : Bool) → (nat_le 1 n && nat_le n 16) ≡ t → fits_within low high n ≡ u → cond (t && u) (scan_letters n bytes) (Err (suc (length bytes))) ≡ Ok (v, rest) → read_site_within low high (n ∷ bytes) ≡ Some (v, rest)
    go false u e f k = absurd cc
    go true false e f k = absurd cc
    go true true e f k =
        let read : read_site (n ∷ bytes) ≡ Some (v, rest) = name_found (n ∷ bytes) v rest (ap (λ (t : Bool). cond t (scan_letters n bytes) (Err (suc (length bytes)))) e ∙ k) in
        let parts = site_parts (n ∷ bytes) v rest read in
        let whole : n ∷ bytes ≡ length v ∷ (v ++ rest) = parts.0 in
        let len : n ≡ length v = cc in
        within_read low high (n ∷ bytes) v rest read (ap (fits_within low high) (sym len) ∙ f)

within_end : (low high : ℕ) → HasLength low high → IsStuck (read_site_within low high) [] 0
within_end low high x =
    let s : Sample (read_site_within low high) = within_sample low high x in
    record {
      none = refl;
      front = [];
      rest = [];
      parts = refl;
      left_is = refl;
      more = s.text;
      more_bytes = s.bytes;
      value = s.value;
      reached = s.reads;
      most = λ p q z v w zs cut r. omega arith;
    }

-- a length that is none of these
within_length : (low high : ℕ) → HasLength low high → (n : ℕ) (bytes : List ℕ) → ((nat_le 1 n && nat_le n 16) && fits_within low high n) ≡ false → IsStuck (read_site_within low high) (n ∷ bytes) (suc (length bytes))
within_length low high x n bytes bad =
    let s : Sample (read_site_within low high) = within_sample low high x in
    record {
      none = none bytes;
      front = [];
      rest = n ∷ bytes;
      parts = refl;
      left_is = refl;
      more = s.text;
      more_bytes = s.bytes;
      value = s.value;
      reached = s.reads;
      most = λ p q z v w zs cut r. most p q z v w cut r;
    }
  where
    none : (more : List ℕ) → read_site_within low high (n ∷ more) ≡ None
    none more = within_none low high (n ∷ more) (λ v rest read fits.
        let parts = site_parts (n ∷ more) v rest read in
        let whole : n ∷ more ≡ length v ∷ (v ++ rest) = parts.0 in
        let len : n ≡ length v = cc in
        let name : NameParts v = name_parts v parts.1 in
        clash n (omega (arith, len, name.low)) (omega (arith, len, name.high)) (ap (fits_within low high) len ∙ fits) bad)
      where
        clash : (k : ℕ) → 1 ≤ k → k ≤ 16 → fits_within low high k ≡ true → ((nat_le 1 k && nat_le k 16) && fits_within low high k) ≡ false → ⊥
        clash k a b f g = grind (arith, nat_tests)

    most : (p q z v w : List ℕ) → n ∷ bytes ≡ p ++ q → read_site_within low high (p ++ z) ≡ Some (v, w) → suc (length bytes) ≤ length q
    most [] q z v w cut r = omega (arith, ap length cut)
    most (y ∷ p) q z v w cut r =
        let heads : n ≡ y = cc in
        let nothing : read_site_within low high (y ∷ (p ++ z)) ≡ None = ap (λ (k : ℕ). read_site_within low high (k ∷ (p ++ z))) (sym heads) ∙ none (p ++ z) in
        absurd cc

within_letters : (low high n : ℕ) (bytes : List ℕ) → 1 ≤ n → n ≤ 16 → fits_within low high n ≡ true → is_whole n bytes ≡ false → IsStuck (read_site_within low high) (n ∷ bytes) (left_after_letters n bytes)
within_letters low high n bytes least most_n fits partial =
    let x : Letters n bytes = letters_of n bytes in
    let less : length x.run < n = run_is_short n bytes least most_n partial x in
    let more : List ℕ = replicate (n - length x.run) 97 in
    let len : length (x.run ++ more) ≡ n = omega (arith, less, length-append x.run more, length-replicate {A = ℕ} (n - length x.run) 97) in
    let name : is_site_name (x.run ++ more) ≡ true = name_from (x.run ++ more) (omega (arith, len)) (omega (arith, len)) (all_append x.run more x.letters (spare_letters (n - length x.run))) in
    let read : read_site (n ∷ (x.run ++ more)) ≡ Some (x.run ++ more, []) = ap (λ (k : ℕ). read_site (k ∷ (x.run ++ more))) (sym len) ∙ ap (λ (w : List ℕ). read_site (length (x.run ++ more) ∷ w)) (sym (append-nil (x.run ++ more))) ∙ site_taken (x.run ++ more) [] name in
    record {
      none = within_none low high (n ∷ bytes) (λ v rest r f. let clash : None ≡ some_of v rest = sym (letters_none n bytes partial) ∙ r in cc);
      front = n ∷ x.run;
      rest = x.rest;
      parts = ap (λ (w : List ℕ). n ∷ w) x.parts;
      left_is = x.left_is;
      more = more;
      more_bytes = spare_bytes (n - length x.run);
      value = x.run ++ more;
      reached = within_read low high (n ∷ (x.run ++ more)) (x.run ++ more) [] read (ap (fits_within low high) len ∙ fits);
      most = λ p q z v w zs cut r.
          let b : WithinParts low high (p ++ z) v w = within_parts low high (p ++ z) v w r in
          let l : length x.rest ≤ length q = letters_most n bytes x less p q z v w cut b.read in omega (arith, l, x.left_is);
    }

within_stuck : (low high : ℕ) → HasLength low high → (bytes : List ℕ) (left : ℕ) → scan_name_within low high bytes ≡ Err left → IsStuck (read_site_within low high) bytes left
within_stuck low high x [] left h =
    let end : 0 ≡ left = cc in
    let P : ℕ → Type 0 = λ l. IsStuck (read_site_within low high) [] l in
    subst P end (within_end low high x)
within_stuck low high x (n ∷ bytes) left h = go (nat_le 1 n && nat_le n 16) (fits_within low high n) (is_whole n bytes) refl refl refl h
  where
    P : ℕ → Type 0
    P l = IsStuck (read_site_within low high) (n ∷ bytes) l

    bounds : (nat_le 1 n && nat_le n 16) ≡ true → (1 ≤ n) × (n ≤ 16)
    bounds k = (grind (arith, nat_tests), grind (arith, nat_tests))

    refused : (t u : Bool) → (nat_le 1 n && nat_le n 16) ≡ t → fits_within low high n ≡ u → (t && u) ≡ false → ((nat_le 1 n && nat_le n 16) && fits_within low high n) ≡ false
    refused t u e f g = ap (λ (b : Bool). b && fits_within low high n) e ∙ ap (λ (b : Bool). t && b) f ∙ g

    go : (t u w : Bool) → (nat_le 1 n && nat_le n 16) ≡ t → fits_within low high n ≡ u → is_whole n bytes ≡ w
        → cond (t && u) (cond w (ok_of (take n bytes) (drop n bytes)) (Err (left_after_letters n bytes))) (Err (suc (length bytes))) ≡ Err left → IsStuck (read_site_within low high) (n ∷ bytes) left
    go false u w e f g k = let place : suc (length bytes) ≡ left = cc in subst P place (within_length low high x n bytes (refused false u e f refl))
    go true false w e f g k = let place : suc (length bytes) ≡ left = cc in subst P place (within_length low high x n bytes (refused true false e f refl))
    go true true true e f g k = absurd cc
    go true true false e f g k = let place : left_after_letters n bytes ≡ left = cc in let b = bounds e in subst P place (within_letters low high n bytes b.0 b.1 f g)

pub site_within_scan : (low high : ℕ) → HasLength low high → IsScan (read_site_within low high) (scan_site_within low high)
site_within_scan low high x = record {
  steady = within_steady low high;
  sample = within_sample low high x;
  found = λ bytes v rest h. within_found low high bytes v rest (sym (same_within low high bytes) ∙ h);
  stuck = λ bytes left fits h. within_stuck low high x bytes left (sym (same_within low high bytes) ∙ h);
}
