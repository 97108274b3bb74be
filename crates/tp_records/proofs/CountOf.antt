-- The count of a record's octets: of a length that some record has.
use Rattle.std.proofs.Common.{◌≡◌, ℕ, ◌≤◌, ◌+◌, ◌*◌, true, Some, List, ◌∷◌, refl, sym, ap, ◌∙◌, arith}
use Rattle.std.specs.Prelude.{nat_le}
use Rattle.std.proofs.lemmas.Bool.Decides.{nat_tests}
use Rattle.tp_names.specs.Reading.{Reader, make, ◌and◌, that, chosen_by, read_byte}
use Rattle.tp_names.specs.Scanning.{scan_make, ◌with◌, scan_byte_that}
use Rattle.tp_names.specs.Places.{IsScan}
use Rattle.tp_names.proofs.Sequences.{some_pair, Both, both_parts, both_read, scan_made, scan_both}
use Rattle.tp_names.proofs.Choices.{Chosen, chosen_parts}
use Rattle.tp_names.proofs.Codes.{byte_that_scan}
use Rattle.tp_names.proofs.Passing.{Passed, that_parts}
use Rattle.tp_records.specs.SentScanning.{is_peer_length, scan_peer_count}
use Rattle.tp_records.proofs.Choosing.{chosen_within, chosen_read}
use Rattle.tp_records.proofs.Parts.{byte_is, byte_that_taken}

abbrev pub low_of : ℕ → Reader ℕ
low_of high = make (λ low. high * 256 + low) and that (λ low. is_peer_length (high * 256 + low)) read_byte

abbrev pub read_peer_count : Reader ℕ
read_peer_count = chosen_by (that (λ high. nat_le high 4) read_byte) low_of

pub count_scan : IsScan read_peer_count scan_peer_count
unfolding scan_peer_count
count_scan =
    chosen_within (that (λ high. nat_le high 4) read_byte) low_of (scan_byte_that (λ high. nat_le high 4))
    (λ high. scan_make (λ low. high * 256 + low) with scan_byte_that (λ low. is_peer_length (high * 256 + low)))
    (byte_that_scan (λ high. nat_le high 4) 0 (omega arith) refl)
    (record {
      next = λ bytes high rest h.
          scan_both (make (λ low. high * 256 + low)) (that (λ low. is_peer_length (high * 256 + low)) read_byte) (scan_make (λ low. high * 256 + low)) (scan_byte_that (λ low. is_peer_length (high * 256 + low)))
          (scan_made (λ low. high * 256 + low)) (byte_that_scan (λ low. is_peer_length (high * 256 + low)) 44 (omega arith) (fits high (that_parts (λ high. nat_le high 4) read_byte bytes high rest h).passes));
    })
  where
    long_enough : (n : ℕ) → 41 ≤ n → n ≤ 1072 → is_peer_length n ≡ true
    long_enough n a b = grind (arith, nat_tests)

    most : (high : ℕ) → nat_le high 4 ≡ true → high ≤ 4
    most high h = grind (arith, nat_tests)

    fits : (high : ℕ) → nat_le high 4 ≡ true → is_peer_length (high * 256 + 44) ≡ true
    fits high h = let m : high ≤ 4 = most high h in long_enough (high * 256 + 44) (omega arith) (omega (arith, m))

-- what such a count is
pub record Counted (bytes : List ℕ) (n : ℕ) (rest : List ℕ) : Type 0 where
  pub high : ℕ
  pub low : ℕ
  pub parts : bytes ≡ high ∷ low ∷ rest
  pub value : n ≡ high * 256 + low
  pub passes : is_peer_length n ≡ true

pub counted : (bytes : List ℕ) (n : ℕ) (rest : List ℕ) → read_peer_count bytes ≡ Some (n, rest) → Counted bytes n rest
counted bytes n rest h =
    let c : Chosen (that (λ high. nat_le high 4) read_byte bytes) low_of n rest = chosen_parts (that (λ high. nat_le high 4) read_byte bytes) low_of n rest h in
    let x : Passed (λ high. nat_le high 4) read_byte bytes c.choice c.middle = that_parts (λ high. nat_le high 4) read_byte bytes c.choice c.middle c.first in
    let f : ℕ → ℕ = λ low. c.choice * 256 + low in
    let b : Both (make f c.middle) (that (λ low. is_peer_length (c.choice * 256 + low)) read_byte) n rest = both_parts (make f c.middle) (that (λ low. is_peer_length (c.choice * 256 + low)) read_byte) n rest c.second in
    let e = some_pair f b.made c.middle b.middle b.first in
    let y : Passed (λ low. is_peer_length (c.choice * 256 + low)) read_byte b.middle b.part rest = that_parts (λ low. is_peer_length (c.choice * 256 + low)) read_byte b.middle b.part rest b.second in
    let value : n ≡ c.choice * 256 + b.part = b.value ∙ ap (λ (g : ℕ → ℕ). g b.part) (sym e.0) in
    record {
      high = c.choice;
      low = b.part;
      parts = byte_is bytes c.choice c.middle x.read ∙ ap (λ (w : List ℕ). c.choice ∷ w) (e.1 ∙ byte_is b.middle b.part rest y.read);
      value = value;
      passes = ap is_peer_length value ∙ y.passes;
    }

pub count_taken : (high low : ℕ) (rest : List ℕ) → high ≤ 4 → is_peer_length (high * 256 + low) ≡ true → read_peer_count (high ∷ low ∷ rest) ≡ Some (high * 256 + low, rest)
count_taken high low rest small passes =
    let f : ℕ → ℕ = λ l. high * 256 + l in
    chosen_read (that (λ h. nat_le h 4) read_byte) low_of (high ∷ low ∷ rest) (low ∷ rest) high (byte_that_taken (λ h. nat_le h 4) high (low ∷ rest) (within high small))
    ∙ both_read (make f) (that (λ l. is_peer_length (high * 256 + l)) read_byte) (low ∷ rest) (low ∷ rest) rest f low refl (byte_that_taken (λ l. is_peer_length (high * 256 + l)) low rest passes)
  where
    within : (h : ℕ) → h ≤ 4 → nat_le h 4 ≡ true
    within h le = grind (arith, nat_tests)
