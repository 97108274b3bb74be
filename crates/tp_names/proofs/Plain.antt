-- Scans that find what is read, and refuse what is not: what stands of a sort whose places are told in part alone.
use Rattle.std.proofs.Common.{◌≡◌, ℕ, suc, ◌≤◌, ◌==◌, Bool, true, false, Option, Some, None, Result, Ok, Err, List, [], ◌∷◌, ◌++◌, length, ◌⊎◌, inl, inr, refl, sym, ap, ◌∙◌, length-append, arith}
use Rattle.tp_names.specs.Reading.{Reader, ◌and◌, applied, read_kind, read_by_code}
use Rattle.tp_names.specs.Scanning.{Scan, ◌with◌, scan_kind, scan_by_code}
use Rattle.tp_names.specs.Places.{AreBytes, Front, IsSteady, IsStuck, IsScan}
use Rattle.tp_names.proofs.Sequences.{some_of, steady_and, behind_bytes, both_read, BothScanned, both_scanned, both_refused}
use Rattle.tp_names.proofs.Codes.{NoRow, by_code}

pub record IsPlain {A : Type 0} (r : Reader A) (s : Scan A) : Type 0 where
  pub steady : IsSteady r
  pub found : (bytes : List ℕ) (v : A) (rest : List ℕ) → s bytes ≡ Ok (v, rest) → r bytes ≡ Some (v, rest)
  pub refused : (bytes : List ℕ) (left : ℕ) → AreBytes bytes → s bytes ≡ Err left → (r bytes ≡ None) × (left ≤ length bytes)

pub plain_scan : {A : Type 0} (r : Reader A) (s : Scan A) → IsScan r s → IsPlain r s
plain_scan r s x = record {
  steady = x.steady;
  found = x.found;
  refused = λ bytes left fits h.
      let k : IsStuck r bytes left = x.stuck bytes left fits h in
      (k.none, omega (arith, ap length k.parts, length-append k.front k.rest, k.left_is));
}

pub plain_both : {A B : Type 0} (f : Reader (A → B)) (r : Reader A) (sf : Scan (A → B)) (sr : Scan A) → IsPlain f sf → IsPlain r sr → IsPlain (f and r) (sf with sr)
plain_both {A} {B} f r sf sr x y = record { steady = steady_and f r x.steady y.steady; found = found; refused = refused }
  where
    found : (bytes : List ℕ) (v : B) (rest : List ℕ) → (sf with sr) bytes ≡ Ok (v, rest) → (f and r) bytes ≡ Some (v, rest)
    found bytes v rest h =
        let b : BothScanned (sf bytes) sr v rest = both_scanned (sf bytes) sr v rest h in
        both_read f r bytes b.middle rest b.made b.part (x.found bytes b.made b.middle b.first) (y.found b.middle b.part rest b.second)
        ∙ ap (λ (w : B). some_of w rest) (sym b.value)

    refused : (bytes : List ℕ) (left : ℕ) → AreBytes bytes → (sf with sr) bytes ≡ Err left → ((f and r) bytes ≡ None) × (left ≤ length bytes)
    refused bytes left fits h = elim (both_refused (sf bytes) sr left h) [
      | inl e ↦ let k = x.refused bytes left fits e in (ap (λ (o : Option ((A → B) × List ℕ)). applied o r) k.0, k.1)
      | inr e ↦
          let first : f bytes ≡ Some (e.0, e.1.0) = x.found bytes e.0 e.1.0 e.1.1.0 in
          let front : Front f bytes e.0 e.1.0 = x.steady.fronts bytes e.0 e.1.0 first in
          let k = y.refused e.1.0 left (behind_bytes f bytes e.0 e.1.0 front fits) e.1.1.1 in (
            ap (λ (o : Option ((A → B) × List ℕ)). applied o r) first ∙ ap (λ (o : Option (A × List ℕ)). elim o as (λ _. Option (B × List ℕ)) [ None ↦ None | Some q ↦ Some (e.0 q.0, q.1) ]) k.0,
            omega (arith, k.1, ap length front.parts, length-append front.text e.1.0),
          )
    ]

-- ---- codes

abbrev pub RowsPlain : {A : Type 0} → List (ℕ × Reader A) → List (ℕ × Scan A) → Type 0
RowsPlain [] [] = Unit {0}
RowsPlain [] (s ∷ ss) = ⊥
RowsPlain (k ∷ ks) [] = ⊥
RowsPlain (k ∷ ks) (s ∷ ss) = (k.0 ≡ s.0) × (IsPlain k.1 s.1 × RowsPlain ks ss)

pub record PlainRow {A : Type 0} (ks : List (ℕ × Reader A)) (ss : List (ℕ × Scan A)) (code : ℕ) : Type 0 where
  pub reader : Reader A
  pub scan : Scan A
  pub plain : IsPlain reader scan
  pub reads : (bytes : List ℕ) → read_kind ks code bytes ≡ reader bytes
  pub scanned : (bytes : List ℕ) → scan_kind ss code bytes ≡ scan bytes

plain_row : {A : Type 0} (ks : List (ℕ × Reader A)) (ss : List (ℕ × Scan A)) (code : ℕ) → RowsPlain ks ss → PlainRow ks ss code ⊎ NoRow ks ss code
plain_row [] [] code rows = inr (record { reads = λ bytes. refl; scanned = λ bytes. refl })
plain_row [] (s ∷ ss) code rows = absurd rows
plain_row (k ∷ ks) [] code rows = absurd rows
plain_row {A} (k ∷ ks) (s ∷ ss) code rows = go (k.0 == code) refl (plain_row ks ss code rows.1.1)
  where
    reads_by : (t : Bool) → (k.0 == code) ≡ t → (bytes : List ℕ) → read_kind (k ∷ ks) code bytes ≡ elim t as (λ _. Option (A × List ℕ)) [ true ↦ k.1 bytes | false ↦ read_kind ks code bytes ]
    reads_by t e bytes = ap (λ (u : Bool). elim u as (λ _. Option (A × List ℕ)) [ true ↦ k.1 bytes | false ↦ read_kind ks code bytes ]) e

    scans_by : (t : Bool) → (k.0 == code) ≡ t → (bytes : List ℕ) → scan_kind (s ∷ ss) code bytes ≡ elim t as (λ _. Result (A × List ℕ) ℕ) [ true ↦ s.1 bytes | false ↦ scan_kind ss code bytes ]
    scans_by t e bytes = ap (λ (u : Bool). elim u as (λ _. Result (A × List ℕ) ℕ) [ true ↦ s.1 bytes | false ↦ scan_kind ss code bytes ]) (ap (λ (n : ℕ). n == code) (sym rows.0) ∙ e)

    go : (t : Bool) → (k.0 == code) ≡ t → PlainRow ks ss code ⊎ NoRow ks ss code → PlainRow (k ∷ ks) (s ∷ ss) code ⊎ NoRow (k ∷ ks) (s ∷ ss) code
    go true e later = inl (record { reader = k.1; scan = s.1; plain = rows.1.0; reads = reads_by true e; scanned = scans_by true e })
    go false e (inl row) = inl (record {
      reader = row.reader;
      scan = row.scan;
      plain = row.plain;
      reads = λ bytes. reads_by false e bytes ∙ row.reads bytes;
      scanned = λ bytes. scans_by false e bytes ∙ row.scanned bytes;
    })
    go false e (inr none) = inr (record {
      reads = λ bytes. reads_by false e bytes ∙ none.reads bytes;
      scanned = λ bytes. scans_by false e bytes ∙ none.scanned bytes;
    })

pub plain_code : {A : Type 0} (ks : List (ℕ × Reader A)) (ss : List (ℕ × Scan A)) → RowsPlain ks ss → IsPlain (read_by_code ks) (scan_by_code ss)
plain_code {A} ks ss rows = record { steady = record { fronts = fronts }; found = found; refused = refused }
  where
    fronts : (bytes : List ℕ) (v : A) (rest : List ℕ) → read_by_code ks bytes ≡ Some (v, rest) → Front (read_by_code ks) bytes v rest
    fronts [] v rest h = absurd cc
    fronts (code ∷ bytes) v rest h = elim (plain_row ks ss code rows) [
      | inl row ↦
          let x : Front row.reader bytes v rest = row.plain.steady.fronts bytes v rest (sym (row.reads bytes) ∙ sym (by_code ks code bytes) ∙ h) in
          record { text = code ∷ x.text; parts = ap (λ (w : List ℕ). code ∷ w) x.parts; again = λ more. by_code ks code (x.text ++ more) ∙ row.reads (x.text ++ more) ∙ x.again more }
      | inr none ↦ absurd (let a : read_by_code ks (code ∷ bytes) ≡ None = by_code ks code bytes ∙ none.reads bytes in cc)
    ]

    found : (bytes : List ℕ) (v : A) (rest : List ℕ) → scan_by_code ss bytes ≡ Ok (v, rest) → read_by_code ks bytes ≡ Some (v, rest)
    found [] v rest h = absurd cc
    found (code ∷ bytes) v rest h = elim (plain_row ks ss code rows) [
      | inl row ↦ by_code ks code bytes ∙ row.reads bytes ∙ row.plain.found bytes v rest (sym (row.scanned bytes) ∙ h)
      | inr none ↦ absurd (let a : scan_kind ss code bytes ≡ Err (suc (length bytes)) = none.scanned bytes in cc)
    ]

    refused : (bytes : List ℕ) (left : ℕ) → AreBytes bytes → scan_by_code ss bytes ≡ Err left → (read_by_code ks bytes ≡ None) × (left ≤ length bytes)
    refused [] left fits h = let end : 0 ≡ left = cc in (refl, omega (arith, end))
    refused (code ∷ bytes) left fits h = elim (plain_row ks ss code rows) [
      | inl row ↦ let k = row.plain.refused bytes left fits.1 (sym (row.scanned bytes) ∙ h) in (by_code ks code bytes ∙ row.reads bytes ∙ k.0, omega (arith, k.1))
      | inr none ↦
          let a : scan_kind ss code bytes ≡ Err (suc (length bytes)) = none.scanned bytes in
          let place : suc (length bytes) ≡ left = cc in
          (by_code ks code bytes ∙ none.reads bytes, omega (arith, place))
    ]
