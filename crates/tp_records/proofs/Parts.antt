-- The lengths of the parts of records, and how octets and names of a given length are read.
use Rattle.std.proofs.Common.{◌≡◌, ℕ, zero, suc, ◌<◌, ◌+◌, ◌*◌, ◌==◌, Bool, true, false, cond, Option, Some, Result, Ok, Err, List, [], ◌∷◌, length, refl, ap, ◌∙◌, eq-eqb, zero-add, arith}
use Rattle.tp_names.specs.declared.outcome.Report.{Report}
use Rattle.tp_names.specs.Reading.{Reader, make, ◌and◌, that, number_from, read_byte, read_short, read_long, read_mark, mark_of, read_report, read_kind, read_by_code}
use Rattle.tp_names.specs.Scanning.{scan_make, ◌with◌, with_value, scan_this, scan_byte_that}
use Rattle.tp_names.specs.Places.{IsScan}
use Rattle.tp_names.proofs.Sequences.{scan_made, scan_both}
use Rattle.tp_names.proofs.Codes.{byte_that_scan}
use Rattle.tp_names.proofs.Passing.{Passed, that_parts, that_read}
use Rattle.tp_names.proofs.Sequences.{some_of, some_pair, Both, both_parts, both_read}
use Rattle.tp_units.specs.Units.{is_permitted}
use Rattle.tp_records.specs.BodyReading.{read_units}
use Rattle.tp_records.proofs.Agreeing.{IsFixed, made_fixed, both_fixed, same_code}
use Rattle.tp_records.proofs.Choosing.{scan_as}

number_fixed : (k n : ℕ) → IsFixed k (number_from k n)
number_fixed zero n = record { len = λ bytes v rest h. let e = some_pair n v bytes rest h in omega (arith, ap length e.1) }
number_fixed (suc k) n = go (λ b. number_fixed k (n * 256 + b))
  where
    go : ((b : ℕ) → IsFixed k (number_from k (n * 256 + b))) → IsFixed (suc k) (number_from (suc k) n)
    go later = record { len = len }
      where
        len : (bytes : List ℕ) (v : ℕ) (rest : List ℕ) → number_from (suc k) n bytes ≡ Some (v, rest) → length bytes ≡ suc k + length rest
        len [] v rest h = absurd cc
        len (b ∷ bytes) v rest h = let l = (later b).len bytes v rest h in omega (arith, l)

pub that_fixed : {A : Type 0} (n : ℕ) (test : A → Bool) (r : Reader A) → IsFixed n r → IsFixed n (that test r)
that_fixed n test r x = record { len = λ bytes v rest h. x.len bytes v rest (that_parts test r bytes v rest h).read }

pub byte_fixed : IsFixed 1 read_byte
byte_fixed = number_fixed 1 0

pub long_fixed : IsFixed 8 read_long
long_fixed = number_fixed 8 0

pub units_fixed : IsFixed 1 read_units
units_fixed = that_fixed 1 is_permitted read_byte byte_fixed

pub mark_fixed : IsFixed 18 read_mark
mark_fixed =
    both_fixed 10 8 (make mark_of and read_long and read_short) read_long
    (both_fixed 8 2 (make mark_of and read_long) read_short (both_fixed 0 8 (make mark_of) read_long (made_fixed mark_of) (number_fixed 8 0)) (number_fixed 2 0)) (number_fixed 8 0)

abbrev pub RowsFixed : {A : Type 0} → ℕ → List (ℕ × Reader A) → Type 0
RowsFixed n [] = Unit {0}
RowsFixed n (k ∷ ks) = IsFixed n k.1 × RowsFixed n ks

kind_fixed : {A : Type 0} (n : ℕ) (ks : List (ℕ × Reader A)) (code : ℕ) → RowsFixed n ks → IsFixed n (read_kind ks code)
kind_fixed n [] code rows = record { len = λ bytes v rest h. absurd cc }
kind_fixed {A} n (k ∷ ks) code rows = go (k.0 == code) (kind_fixed n ks code rows.1)
  where
    go : (t : Bool) → IsFixed n (read_kind ks code) → IsFixed n (λ bytes. elim t as (λ _. Option (A × List ℕ)) [ true ↦ k.1 bytes | false ↦ read_kind ks code bytes ])
    go true later = rows.0
    go false later = later

pub code_fixed : {A : Type 0} (n : ℕ) (ks : List (ℕ × Reader A)) → RowsFixed n ks → IsFixed (1 + n) (read_by_code ks)
code_fixed {A} n ks rows = record { len = len }
  where
    len : (bytes : List ℕ) (v : A) (rest : List ℕ) → read_by_code ks bytes ≡ Some (v, rest) → length bytes ≡ 1 + n + length rest
    len [] v rest h = absurd cc
    len (code ∷ bytes) v rest h = let l = (kind_fixed n ks (0 * 256 + code) rows).len bytes v rest h in omega (arith, l)

pub report_fixed : IsFixed 1 read_report
report_fixed = code_fixed 0 ((0, make Report.None) ∷ (1, make Report.Hazard) ∷ (2, make Report.Mix) ∷ []) (made_fixed Report.None, (made_fixed Report.Hazard, (made_fixed Report.Mix, tt)))

-- ---- one byte alone

pub byte_is : (bytes : List ℕ) (v : ℕ) (rest : List ℕ) → read_byte bytes ≡ Some (v, rest) → bytes ≡ v ∷ rest
byte_is [] v rest h = absurd cc
byte_is (b ∷ bytes) v rest h =
    let e = some_pair (0 * 256 + b) v bytes rest h in
    let same : b ≡ v = omega (arith, e.0) in
    ap (λ (n : ℕ). n ∷ bytes) same ∙ ap (λ (w : List ℕ). v ∷ w) e.1

pub byte_that_taken : (test : ℕ → Bool) (b : ℕ) (rest : List ℕ) → test b ≡ true → that test read_byte (b ∷ rest) ≡ Some (b, rest)
byte_that_taken test b rest passes = that_read test read_byte (b ∷ rest) b rest (ap (λ (n : ℕ). some_of n rest) (zero-add b)) passes

abbrev unit_of : List ℕ → Result (Unit {0} × List ℕ) ℕ
unit_of rest = Ok (tt, rest)

abbrev byte_of : ℕ → List ℕ → Result (ℕ × List ℕ) ℕ
byte_of b rest = Ok (b, rest)

abbrev pub read_this : ℕ → Reader (Unit {0})
read_this byte = make (λ b. tt) and that (λ b. b == byte) read_byte

pub this_scan : (byte : ℕ) → byte < 256 → IsScan (read_this byte) (scan_this byte)
this_scan byte small =
    scan_as (read_this byte) (scan_make (λ b. tt) with scan_byte_that (λ b. b == byte)) (scan_this byte)
    (scan_both (make (λ b. tt)) (that (λ b. b == byte) read_byte) (scan_make (λ b. tt)) (scan_byte_that (λ b. b == byte)) (scan_made (λ b. tt)) (byte_that_scan (λ b. b == byte) byte small (eq-eqb byte byte refl))) same
  where
    same : (bytes : List ℕ) → scan_this byte bytes ≡ (scan_make (λ b. tt) with scan_byte_that (λ b. b == byte)) bytes
    same [] = refl
    same (b ∷ bytes) = go (b == byte)
      where
        go : (t : Bool) → cond t (unit_of bytes) (Err (suc (length bytes))) ≡ with_value (λ c. tt) (cond t (byte_of b bytes) (Err (suc (length bytes))))
        go true = refl
        go false = refl

pub this_taken : (byte : ℕ) (rest : List ℕ) → read_this byte (byte ∷ rest) ≡ Some (tt, rest)
this_taken byte rest =
    let f : ℕ → Unit {0} = λ b. tt in
    both_read (make f) (that (λ b. b == byte) read_byte) (byte ∷ rest) (byte ∷ rest) rest f byte refl (byte_that_taken (λ b. b == byte) byte rest (eq-eqb byte byte refl))

pub this_is : (byte : ℕ) (bytes : List ℕ) (w : Unit {0}) (rest : List ℕ) → read_this byte bytes ≡ Some (w, rest) → bytes ≡ byte ∷ rest
this_is byte bytes w rest h =
    let f : ℕ → Unit {0} = λ b. tt in
    let b : Both (make f bytes) (that (λ b. b == byte) read_byte) w rest = both_parts (make f bytes) (that (λ b. b == byte) read_byte) w rest h in
    let e = some_pair f b.made bytes b.middle b.first in
    let p : Passed (λ b. b == byte) read_byte b.middle b.part rest = that_parts (λ b. b == byte) read_byte b.middle b.part rest b.second in
    e.1 ∙ byte_is b.middle b.part rest p.read ∙ ap (λ (n : ℕ). n ∷ rest) (same_code b.part byte p.passes)
