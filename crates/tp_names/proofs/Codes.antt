-- A byte that passes a test, and values that a code in front tells apart.
use Rattle.std.proofs.Common.{◌≡◌, ℕ, suc, ◌≤◌, ◌<◌, ◌==◌, Option, Some, None, Result, Ok, Err, List, [], ◌∷◌, ◌++◌, length, Bool, true, false, cond, ◌⊎◌, inl, inr, refl, sym, ap, ◌∙◌, zero-add, eq-eqb, length-append, arith}
use Rattle.tp_names.specs.Reading.{Reader, make, ◌and◌, that, if_passes, read_byte, read_kind, read_by_code, read_maybe}
use Rattle.tp_names.specs.Scanning.{Scan, scan_make, ◌with◌, scan_byte_that, scan_kind, scan_by_code, scan_maybe}
use Rattle.tp_names.specs.Places.{AreBytes, Front, Sample, IsStuck, IsScan}
use Rattle.tp_names.proofs.Sequences.{some_of, ok_of, some_pair, ok_pair, scan_made, scan_both}

-- ---- a byte that passes a test

that_byte : (test : ℕ → Bool) (b : ℕ) (bytes : List ℕ) → that test read_byte (b ∷ bytes) ≡ elim (test b) as (λ _. Option (ℕ × List ℕ)) [ true ↦ Some (b, bytes) | false ↦ None ]
that_byte test b bytes = ap (λ (n : ℕ). if_passes test (Some (n, bytes))) (zero-add b)

byte_that_front : (test : ℕ → Bool) (bytes : List ℕ) (v : ℕ) (rest : List ℕ) → that test read_byte bytes ≡ Some (v, rest) → Front (that test read_byte) bytes v rest
byte_that_front test [] v rest h = absurd cc
byte_that_front test (b ∷ bytes) v rest h = go (test b) refl (sym (that_byte test b bytes) ∙ h)
  where
    go : (t : Bool) → test b ≡ t → elim t as (λ _. Option (ℕ × List ℕ)) [ true ↦ Some (b, bytes) | false ↦ None ] ≡ Some (v, rest) → Front (that test read_byte) (b ∷ bytes) v rest
    go false e k = absurd cc
    go true e k =
        let same = some_pair b v bytes rest k in
        record {
          text = b ∷ [];
          parts = ap (λ (w : List ℕ). b ∷ w) same.1;
          again = λ more. that_byte test b more ∙ ap (λ (t : Bool). elim t as (λ _. Option (ℕ × List ℕ)) [ true ↦ Some (b, more) | false ↦ None ]) e ∙ ap (λ (w : ℕ). some_of w more) same.0;
        }

byte_that_found : (test : ℕ → Bool) (bytes : List ℕ) (v : ℕ) (rest : List ℕ) → scan_byte_that test bytes ≡ Ok (v, rest) → that test read_byte bytes ≡ Some (v, rest)
byte_that_found test [] v rest h = absurd cc
byte_that_found test (b ∷ bytes) v rest h = that_byte test b bytes ∙ go (test b) h
  where
    go : (t : Bool) → cond t (ok_of b bytes) (Err (suc (length bytes))) ≡ Ok (v, rest) → elim t as (λ _. Option (ℕ × List ℕ)) [ true ↦ Some (b, bytes) | false ↦ None ] ≡ Some (v, rest)
    go true k = let same = ok_pair b v bytes rest k in ap (λ (w : ℕ). some_of w bytes) same.0 ∙ ap (λ (w : List ℕ). some_of v w) same.1
    go false k = absurd cc

byte_that_stuck : (test : ℕ → Bool) (sample : ℕ) → sample < 256 → test sample ≡ true → (bytes : List ℕ) (left : ℕ) → scan_byte_that test bytes ≡ Err left → IsStuck (that test read_byte) bytes left
byte_that_stuck test sample small passes bytes left h = go bytes h
  where
    reads : that test read_byte (sample ∷ []) ≡ Some (sample, [])
    reads = that_byte test sample [] ∙ ap (λ (t : Bool). elim t as (λ _. Option (ℕ × List ℕ)) [ true ↦ Some (sample, []) | false ↦ None ]) passes

    refused : (b : ℕ) (more : List ℕ) → test b ≡ false → that test read_byte (b ∷ more) ≡ None
    refused b more e = that_byte test b more ∙ ap (λ (t : Bool). elim t as (λ _. Option (ℕ × List ℕ)) [ true ↦ Some (b, more) | false ↦ None ]) e

    most : (b : ℕ) (after : List ℕ) → test b ≡ false → (p q z : List ℕ) (v : ℕ) (w : List ℕ) → b ∷ after ≡ p ++ q → that test read_byte (p ++ z) ≡ Some (v, w) → suc (length after) ≤ length q
    most b after e [] q z v w cut r = omega (arith, ap length cut)
    most b after e (y ∷ p) q z v w cut r =
        let same : b ≡ y = cc in
        let none : that test read_byte (y ∷ (p ++ z)) ≡ None = refused y (p ++ z) (ap test (sym same) ∙ e) in
        absurd cc

    go : (bytes : List ℕ) → scan_byte_that test bytes ≡ Err left → IsStuck (that test read_byte) bytes left
    go [] k =
        let end : 0 ≡ left = cc in
        record {
          none = refl;
          front = [];
          rest = [];
          parts = refl;
          left_is = end;
          more = sample ∷ [];
          more_bytes = (small, tt);
          value = sample;
          reached = reads;
          most = λ p q z v w zs cut r. omega (arith, end);
        }
    go (b ∷ after) k = on (test b) refl k
      where
        on : (t : Bool) → test b ≡ t → cond t (ok_of b after) (Err (suc (length after))) ≡ Err left → IsStuck (that test read_byte) (b ∷ after) left
        on true e j = absurd cc
        on false e j =
            let place : suc (length after) ≡ left = cc in
            record {
              none = refused b after e;
              front = [];
              rest = b ∷ after;
              parts = refl;
              left_is = place;
              more = sample ∷ [];
              more_bytes = (small, tt);
              value = sample;
              reached = reads;
              most = λ p q z v w zs cut r. let l : suc (length after) ≤ length q = most b after e p q z v w cut r in omega (arith, l, place);
            }

pub byte_that_scan : (test : ℕ → Bool) (sample : ℕ) → sample < 256 → test sample ≡ true → IsScan (that test read_byte) (scan_byte_that test)
byte_that_scan test sample small passes = record {
  steady = record { fronts = byte_that_front test };
  sample = record { value = sample; text = sample ∷ []; bytes = (small, tt); reads = that_byte test sample [] ∙ ap (λ (t : Bool). elim t as (λ _. Option (ℕ × List ℕ)) [ true ↦ Some (sample, []) | false ↦ None ]) passes };
  found = byte_that_found test;
  stuck = λ bytes left fits h. byte_that_stuck test sample small passes bytes left h;
}

-- ---- codes

-- the same codes, and each row of the second scans for that of the first
abbrev pub RowsScan : {A : Type 0} → List (ℕ × Reader A) → List (ℕ × Scan A) → Type 0
RowsScan [] [] = Unit {0}
RowsScan [] (s ∷ ss) = ⊥
RowsScan (k ∷ ks) [] = ⊥
RowsScan (k ∷ ks) (s ∷ ss) = (k.0 ≡ s.0) × (IsScan k.1 s.1 × RowsScan ks ss)

-- the row of a code
pub record Row {A : Type 0} (ks : List (ℕ × Reader A)) (ss : List (ℕ × Scan A)) (code : ℕ) : Type 0 where
  pub reader : Reader A
  pub scan : Scan A
  pub scans : IsScan reader scan
  pub reads : (bytes : List ℕ) → read_kind ks code bytes ≡ reader bytes
  pub scanned : (bytes : List ℕ) → scan_kind ss code bytes ≡ scan bytes

-- there is none
pub record NoRow {A : Type 0} (ks : List (ℕ × Reader A)) (ss : List (ℕ × Scan A)) (code : ℕ) : Type 0 where
  pub reads : (bytes : List ℕ) → read_kind ks code bytes ≡ None
  pub scanned : (bytes : List ℕ) → scan_kind ss code bytes ≡ Err (suc (length bytes))

row_of : {A : Type 0} (ks : List (ℕ × Reader A)) (ss : List (ℕ × Scan A)) (code : ℕ) → RowsScan ks ss → Row ks ss code ⊎ NoRow ks ss code
row_of [] [] code rows = inr (record { reads = λ bytes. refl; scanned = λ bytes. refl })
row_of [] (s ∷ ss) code rows = absurd rows
row_of (k ∷ ks) [] code rows = absurd rows
row_of {A} (k ∷ ks) (s ∷ ss) code rows = go (k.0 == code) refl (row_of ks ss code rows.1.1)
  where
    reads_by : (t : Bool) → (k.0 == code) ≡ t → (bytes : List ℕ) → read_kind (k ∷ ks) code bytes ≡ elim t as (λ _. Option (A × List ℕ)) [ true ↦ k.1 bytes | false ↦ read_kind ks code bytes ]
    reads_by t e bytes = ap (λ (u : Bool). elim u as (λ _. Option (A × List ℕ)) [ true ↦ k.1 bytes | false ↦ read_kind ks code bytes ]) e

    scans_by : (t : Bool) → (k.0 == code) ≡ t → (bytes : List ℕ) → scan_kind (s ∷ ss) code bytes ≡ elim t as (λ _. Result (A × List ℕ) ℕ) [ true ↦ s.1 bytes | false ↦ scan_kind ss code bytes ]
    scans_by t e bytes = ap (λ (u : Bool). elim u as (λ _. Result (A × List ℕ) ℕ) [ true ↦ s.1 bytes | false ↦ scan_kind ss code bytes ]) (ap (λ (n : ℕ). n == code) (sym rows.0) ∙ e)

    go : (t : Bool) → (k.0 == code) ≡ t → Row ks ss code ⊎ NoRow ks ss code → Row (k ∷ ks) (s ∷ ss) code ⊎ NoRow (k ∷ ks) (s ∷ ss) code
    go true e later = inl (record { reader = k.1; scan = s.1; scans = rows.1.0; reads = reads_by true e; scanned = scans_by true e })
    go false e (inl row) = inl (record {
      reader = row.reader;
      scan = row.scan;
      scans = row.scans;
      reads = λ bytes. reads_by false e bytes ∙ row.reads bytes;
      scanned = λ bytes. scans_by false e bytes ∙ row.scanned bytes;
    })
    go false e (inr none) = inr (record {
      reads = λ bytes. reads_by false e bytes ∙ none.reads bytes;
      scanned = λ bytes. scans_by false e bytes ∙ none.scanned bytes;
    })

pub by_code : {A : Type 0} (ks : List (ℕ × Reader A)) (code : ℕ) (bytes : List ℕ) → read_by_code ks (code ∷ bytes) ≡ read_kind ks code bytes
by_code ks code bytes = ap (λ (n : ℕ). read_kind ks n bytes) (zero-add code)

code_front : {A : Type 0} (ks : List (ℕ × Reader A)) (ss : List (ℕ × Scan A)) → RowsScan ks ss → (bytes : List ℕ) (v : A) (rest : List ℕ) → read_by_code ks bytes ≡ Some (v, rest) → Front (read_by_code ks) bytes v rest
code_front ks ss rows [] v rest h = absurd cc
code_front ks ss rows (code ∷ bytes) v rest h = go (row_of ks ss code rows)
  where
    go : Row ks ss code ⊎ NoRow ks ss code → Front (read_by_code ks) (code ∷ bytes) v rest
    go (inr none) = absurd (let a : read_by_code ks (code ∷ bytes) ≡ None = by_code ks code bytes ∙ none.reads bytes in cc)
    go (inl row) =
        let x : Front row.reader bytes v rest = row.scans.steady.fronts bytes v rest (sym (row.reads bytes) ∙ sym (by_code ks code bytes) ∙ h) in
        record { text = code ∷ x.text; parts = ap (λ (w : List ℕ). code ∷ w) x.parts; again = λ more. by_code ks code (x.text ++ more) ∙ row.reads (x.text ++ more) ∙ x.again more }

code_found : {A : Type 0} (ks : List (ℕ × Reader A)) (ss : List (ℕ × Scan A)) → RowsScan ks ss → (bytes : List ℕ) (v : A) (rest : List ℕ) → scan_by_code ss bytes ≡ Ok (v, rest) → read_by_code ks bytes ≡ Some (v, rest)
code_found ks ss rows [] v rest h = absurd cc
code_found ks ss rows (code ∷ bytes) v rest h = go (row_of ks ss code rows)
  where
    go : Row ks ss code ⊎ NoRow ks ss code → read_by_code ks (code ∷ bytes) ≡ Some (v, rest)
    go (inr none) = absurd (let a : scan_kind ss code bytes ≡ Err (suc (length bytes)) = none.scanned bytes in cc)
    go (inl row) = by_code ks code bytes ∙ row.reads bytes ∙ row.scans.found bytes v rest (sym (row.scanned bytes) ∙ h)

-- a first row, which gives the sample
first_sample : {A : Type 0} (k : ℕ × Reader A) (ks : List (ℕ × Reader A)) → k.0 < 256 → Sample k.1 → Sample (read_by_code (k ∷ ks))
first_sample {A} k ks small x =
    let here : (k.0 == k.0) ≡ true = eq-eqb k.0 k.0 refl in
    record {
      value = x.value;
      text = k.0 ∷ x.text;
      bytes = (small, x.bytes);
      reads = by_code (k ∷ ks) k.0 x.text ∙ ap (λ (u : Bool). elim u as (λ _. Option (A × List ℕ)) [ true ↦ k.1 x.text | false ↦ read_kind ks k.0 x.text ]) here ∙ x.reads;
    }

code_stuck : {A : Type 0} (ks : List (ℕ × Reader A)) (ss : List (ℕ × Scan A)) → RowsScan ks ss → Sample (read_by_code ks) → (bytes : List ℕ) (left : ℕ) → AreBytes bytes → scan_by_code ss bytes ≡ Err left → IsStuck (read_by_code ks) bytes left
code_stuck ks ss rows sample [] left fits h =
    let end : 0 ≡ left = cc in
    record {
      none = refl;
      front = [];
      rest = [];
      parts = refl;
      left_is = end;
      more = sample.text;
      more_bytes = sample.bytes;
      value = sample.value;
      reached = sample.reads;
      most = λ p q z v w zs cut r. omega (arith, end);
    }
code_stuck {A} ks ss rows sample (code ∷ bytes) left fits h = go (row_of ks ss code rows)
  where
    none_most : NoRow ks ss code → (p q z : List ℕ) (v : A) (w : List ℕ) → code ∷ bytes ≡ p ++ q → read_by_code ks (p ++ z) ≡ Some (v, w) → suc (length bytes) ≤ length q
    none_most none [] q z v w cut r = omega (arith, ap length cut)
    none_most none (y ∷ p) q z v w cut r =
        let same : code ≡ y = cc in
        let nothing : read_by_code ks (y ∷ (p ++ z)) ≡ None = ap (λ (n : ℕ). read_by_code ks (n ∷ (p ++ z))) (sym same) ∙ by_code ks code (p ++ z) ∙ none.reads (p ++ z) in
        absurd cc

    row_most : (row : Row ks ss code) (x : IsStuck row.reader bytes left) (p q z : List ℕ) (v : A) (w : List ℕ) → AreBytes z → code ∷ bytes ≡ p ++ q → read_by_code ks (p ++ z) ≡ Some (v, w) → left ≤ length q
    row_most row x [] q z v w zs cut r = omega (arith, ap length cut, ap length x.parts, length-append x.front x.rest, x.left_is)
    row_most row x (y ∷ p) q z v w zs cut r =
        let same : code ≡ y = cc in
        let tails : bytes ≡ p ++ q = cc in
        let inner : row.reader (p ++ z) ≡ Some (v, w) = sym (row.reads (p ++ z)) ∙ sym (by_code ks code (p ++ z)) ∙ ap (λ (n : ℕ). read_by_code ks (n ∷ (p ++ z))) same ∙ r in
        x.most p q z v w zs tails inner

    go : Row ks ss code ⊎ NoRow ks ss code → IsStuck (read_by_code ks) (code ∷ bytes) left
    go (inr none) =
        let e : scan_kind ss code bytes ≡ Err (suc (length bytes)) = none.scanned bytes in
        let place : suc (length bytes) ≡ left = cc in
        record {
          none = by_code ks code bytes ∙ none.reads bytes;
          front = [];
          rest = code ∷ bytes;
          parts = refl;
          left_is = place;
          more = sample.text;
          more_bytes = sample.bytes;
          value = sample.value;
          reached = sample.reads;
          most = λ p q z v w zs cut r. let l : suc (length bytes) ≤ length q = none_most none p q z v w cut r in omega (arith, l, place);
        }
    go (inl row) =
        let x : IsStuck row.reader bytes left = row.scans.stuck bytes left fits.1 (sym (row.scanned bytes) ∙ h) in
        record {
          none = by_code ks code bytes ∙ row.reads bytes ∙ x.none;
          front = code ∷ x.front;
          rest = x.rest;
          parts = ap (λ (w : List ℕ). code ∷ w) x.parts;
          left_is = x.left_is;
          more = x.more;
          more_bytes = x.more_bytes;
          value = x.value;
          reached = by_code ks code (x.front ++ x.more) ∙ row.reads (x.front ++ x.more) ∙ x.reached;
          most = row_most row x;
        }

-- the first code is a byte
abbrev pub HasCode : {A : Type 0} → List (ℕ × Reader A) → Type 0
HasCode [] = ⊥
HasCode (k ∷ ks) = k.0 < 256

rows_sample : {A : Type 0} (ks : List (ℕ × Reader A)) (ss : List (ℕ × Scan A)) → HasCode ks → RowsScan ks ss → Sample (read_by_code ks)
rows_sample [] ss small rows = absurd small
rows_sample (k ∷ ks) [] small rows = absurd rows
rows_sample (k ∷ ks) (s ∷ ss) small rows = first_sample k ks small rows.1.0.sample

pub code_scan : {A : Type 0} (ks : List (ℕ × Reader A)) (ss : List (ℕ × Scan A)) → HasCode ks → RowsScan ks ss → IsScan (read_by_code ks) (scan_by_code ss)
code_scan ks ss small rows =
    let sample : Sample (read_by_code ks) = rows_sample ks ss small rows in
    record {
      steady = record { fronts = code_front ks ss rows };
      sample = sample;
      found = code_found ks ss rows;
      stuck = code_stuck ks ss rows sample;
    }

pub maybe_scan : {A : Type 0} (r : Reader A) (s : Scan A) → IsScan r s → IsScan (read_maybe r) (scan_maybe s)
maybe_scan r s x =
    code_scan ((0, make None) ∷ (1, make (λ a. Some a) and r) ∷ []) ((0, scan_make None) ∷ (1, scan_make (λ a. Some a) with s) ∷ []) (omega arith)
    (refl, (scan_made None, (refl, (scan_both (make (λ a. Some a)) r (scan_make (λ a. Some a)) s (scan_made (λ a. Some a)) x, tt))))
