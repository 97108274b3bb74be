-- Octets after a count that is given.
use Rattle.std.proofs.Common.{◌≡◌, ℕ, ◌≤◌, ◌<◌, ◌+◌, ◌*◌, ◌/◌, ◌%◌, Bool, true, false, cond, Option, Some, Result, Ok, Err, List, ◌∷◌, ◌++◌, length, take, drop, refl, sym, ap, subst, ◌∙◌, length-append, arith}
use Rattle.std.specs.Prelude.{nat_le}
use Rattle.std.proofs.lemmas.Bool.Decides.{nat_tests}
use Rattle.tp_names.specs.Reading.{Reader, make, ◌and◌, that, then_read, read_short, read_bytes, read_octets}
use Rattle.tp_names.specs.Scanning.{scan_make, ◌with◌, with_value, scan_bytes, scan_skip, scan_this}
use Rattle.tp_names.specs.Places.{AreBytes, IsScan}
use Rattle.tp_names.proofs.Sequences.{some_pair, Both, both_parts, both_read, scan_made, scan_both}
use Rattle.tp_names.proofs.Choices.{bytes_scan, bytes_parts, bytes_taken}
use Rattle.tp_names.proofs.Counts.{OctetsParts, octets_parts}
use Rattle.tp_names.proofs.Passing.{that_read}
use Rattle.tp_records.specs.SentScanning.{scan_octets_of}
use Rattle.tp_records.proofs.Choosing.{scan_as}
use Rattle.tp_records.proofs.Parts.{read_this, this_scan, this_is, this_taken}
use Rattle.tp_records.proofs.Agreeing.{Sized}

-- octets after two bytes of count are read
pub octets_from : (most high low : ℕ) (body xs rest : List ℕ) → high * 256 + low ≤ most → read_bytes (high * 256 + low) body ≡ Some (xs, rest) → read_octets most (high ∷ low ∷ body) ≡ Some (xs, rest)
octets_from most high low body xs rest small h =
    let n : ℕ = (0 * 256 + high) * 256 + low in
    let same : n ≡ high * 256 + low = omega arith in
    let counted : that (λ m. nat_le m most) read_short (high ∷ low ∷ body) ≡ Some (n, body) = that_read (λ m. nat_le m most) read_short (high ∷ low ∷ body) n body refl (tested n (omega (arith, small))) in
    ap (λ (o : Option (ℕ × List ℕ)). then_read o read_bytes) counted ∙ ap (λ (m : ℕ). read_bytes m body) same ∙ h
  where
    tested : (n : ℕ) → n ≤ most → nat_le n most ≡ true
    tested n le = grind (arith, nat_tests)

abbrev pub read_skip : ℕ → Reader (Unit {0})
read_skip k = make (λ xs. tt) and read_bytes k

abbrev past : ℕ → List ℕ → Result (Unit {0} × List ℕ) ℕ
past k bytes = Ok (tt, drop k bytes)

abbrev taken : ℕ → List ℕ → Result (List ℕ × List ℕ) ℕ
taken k bytes = Ok (take k bytes, drop k bytes)

pub skip_scan : (k : ℕ) → IsScan (read_skip k) (scan_skip k)
skip_scan k =
    scan_as (read_skip k) (scan_make (λ xs. tt) with scan_bytes k) (scan_skip k)
    (scan_both (make (λ xs. tt)) (read_bytes k) (scan_make (λ xs. tt)) (scan_bytes k) (scan_made (λ xs. tt)) (bytes_scan k)) (λ bytes. go bytes (nat_le k (length bytes)))
  where
    go : (bytes : List ℕ) (t : Bool) → cond t (past k bytes) (Err 0) ≡ with_value (λ xs. tt) (cond t (taken k bytes) (Err 0))
    go bytes true = refl
    go bytes false = refl

abbrev pub read_octets_of : ℕ → Reader (Unit {0})
read_octets_of k = make (λ high low xs. tt) and read_this (k / 256) and read_this (k % 256) and read_skip k

pub octets_scan_of : (k : ℕ) → k < 65536 → IsScan (read_octets_of k) (scan_octets_of k)
unfolding scan_octets_of
octets_scan_of k small =
    scan_both (make (λ high low xs. tt) and read_this (k / 256) and read_this (k % 256)) (read_skip k) (scan_make (λ high low xs. tt) with scan_this (k / 256) with scan_this (k % 256)) (scan_skip k)
    (scan_both (make (λ high low xs. tt) and read_this (k / 256)) (read_this (k % 256)) (scan_make (λ high low xs. tt) with scan_this (k / 256)) (scan_this (k % 256))
    (scan_both (make (λ high low xs. tt)) (read_this (k / 256)) (scan_make (λ high low xs. tt)) (scan_this (k / 256)) (scan_made (λ high low xs. tt)) (this_scan (k / 256) (omega (arith, small)))) (this_scan (k % 256) (omega arith))) (skip_scan k)

-- ---- octets of that count

abbrev any_octets : Unit {0} → Unit {0} → Unit {0} → Unit {0}
any_octets high low xs = tt

abbrev any_list : List ℕ → Unit {0}
any_list xs = tt

octets_of_taken : (k : ℕ) (v rest : List ℕ) → length v ≡ k → read_octets_of k (k / 256 ∷ k % 256 ∷ (v ++ rest)) ≡ Some (tt, rest)
octets_of_taken k v rest len =
    let body : List ℕ = v ++ rest in
    let taken : read_bytes k body ≡ Some (v, rest) = ap (λ (n : ℕ). read_bytes n body) (sym len) ∙ bytes_taken v rest in
    both_read (make any_octets and read_this (k / 256) and read_this (k % 256)) (read_skip k) (k / 256 ∷ k % 256 ∷ body) body rest (any_octets tt tt) tt
    (both_read (make any_octets and read_this (k / 256)) (read_this (k % 256)) (k / 256 ∷ k % 256 ∷ body) (k % 256 ∷ body) body (any_octets tt) tt
    (both_read (make any_octets) (read_this (k / 256)) (k / 256 ∷ k % 256 ∷ body) (k / 256 ∷ k % 256 ∷ body) (k % 256 ∷ body) any_octets tt refl (this_taken (k / 256) (k % 256 ∷ body))) (this_taken (k % 256) body))
    (both_read (make any_list) (read_bytes k) body body rest any_list v refl taken)

pub octets_sized : (most k : ℕ) → k ≤ most → Sized (2 + k) (read_octets most) (read_octets_of k)
octets_sized most k small = record { there = there; back = back }
  where
    there : (bytes : List ℕ) (w : Unit {0}) (rest : List ℕ) → read_octets_of k bytes ≡ Some (w, rest) → (v : List ℕ) × ((read_octets most bytes ≡ Some (v, rest)) × (length bytes ≡ 2 + k + length rest))
    there bytes w rest h =
        let c : Both ((make any_octets and read_this (k / 256) and read_this (k % 256)) bytes) (read_skip k) w rest = both_parts ((make any_octets and read_this (k / 256) and read_this (k % 256)) bytes) (read_skip k) w rest h in
        let b : Both ((make any_octets and read_this (k / 256)) bytes) (read_this (k % 256)) c.made c.middle = both_parts ((make any_octets and read_this (k / 256)) bytes) (read_this (k % 256)) c.made c.middle c.first in
        let a : Both (make any_octets bytes) (read_this (k / 256)) b.made b.middle = both_parts (make any_octets bytes) (read_this (k / 256)) b.made b.middle b.first in
        let e = some_pair any_octets a.made bytes a.middle a.first in
        let s : Both (make any_list c.middle) (read_bytes k) c.part rest = both_parts (make any_list c.middle) (read_bytes k) c.part rest c.second in
        let f = some_pair any_list s.made c.middle s.middle s.first in
        let body : read_bytes k c.middle ≡ Some (s.part, rest) = ap (read_bytes k) f.1 ∙ s.second in
        let cut = bytes_parts k c.middle s.part rest body in
        let count : k / 256 * 256 + k % 256 ≡ k = omega arith in
        let spelled : bytes ≡ k / 256 ∷ k % 256 ∷ c.middle =
        e.1 ∙ this_is (k / 256) a.middle a.part b.middle a.second ∙ ap (λ (x : List ℕ). k / 256 ∷ x) (this_is (k % 256) b.middle b.part c.middle b.second) in
        let counted : read_bytes (k / 256 * 256 + k % 256) c.middle ≡ Some (s.part, rest) = ap (λ (n : ℕ). read_bytes n c.middle) count ∙ body in (
          s.part,
          (
            ap (read_octets most) spelled ∙ octets_from most (k / 256) (k % 256) c.middle s.part rest (omega (arith, count, small)) counted,
            omega (arith, ap length spelled, ap length cut.0, length-append s.part rest, cut.1),
          ),
        )

    back : (bytes v rest : List ℕ) → AreBytes bytes → read_octets most bytes ≡ Some (v, rest) → length bytes ≡ 2 + k + length rest → (w : Unit {0}) × (read_octets_of k bytes ≡ Some (w, rest))
    back bytes v rest fits h len =
        let x : OctetsParts most bytes v rest = octets_parts most bytes v rest h in
        let P : List ℕ → Type 0 = λ w. AreBytes w in
        let each : AreBytes (x.high ∷ x.low ∷ (v ++ rest)) = subst P x.parts fits in
        let long : length v ≡ k = omega (arith, len, ap length x.parts, length-append v rest) in
        let high : x.high ≡ k / 256 = omega (arith, x.count, each.0, each.1.0, long) in
        let low : x.low ≡ k % 256 = omega (arith, x.count, each.0, each.1.0, long) in (
          tt,
          ap (read_octets_of k) (x.parts ∙ ap (λ (n : ℕ). n ∷ x.low ∷ (v ++ rest)) high ∙ ap (λ (n : ℕ). k / 256 ∷ n ∷ (v ++ rest)) low)
              ∙ octets_of_taken k v rest long,
        )
