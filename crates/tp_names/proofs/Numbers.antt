-- Numbers of so many bytes: their scans, and that what is read is written so.
use Rattle.std.proofs.Common.{◌≡◌, ℕ, zero, suc, ◌<◌, ◌+◌, ◌*◌, ◌/◌, ◌%◌, ◌^◌, Option, Some, None, Ok, Err, List, [], ◌∷◌, ◌++◌, length, get_or, refl, sym, ap, ◌∙◌, arith}
use Rattle.std.proofs.lemmas.List.{append-nil}
use Rattle.std.proofs.lemmas.Nat.{be_bytes_8}
use Rattle.std.specs.Int.{w64, from_be_bytes, to_be_bytes}
use Rattle.tp_names.specs.Bytes.{byte_bytes, short_bytes, long_bytes}
use Rattle.tp_names.specs.Reading.{number_from, read_byte, read_short, read_long}
use Rattle.tp_names.specs.Scanning.{or_end, scan_byte, scan_short, scan_long}
use Rattle.tp_names.specs.Places.{AreBytes, Front, Sample, IsStuck, IsScan, IsWrittenBy}
use Rattle.tp_names.proofs.Sequences.{some_of, some_pair, ok_pair}

-- ---- scans

number_front : (k n : ℕ) (bytes : List ℕ) (v : ℕ) (rest : List ℕ) → number_from k n bytes ≡ Some (v, rest) → Front (number_from k n) bytes v rest
number_front zero n bytes v rest h =
    let e = some_pair n v bytes rest h in
    record { text = []; parts = e.1; again = λ more. ap (λ (w : ℕ). some_of w more) e.0 }
number_front (suc k) n [] v rest h = absurd cc
number_front (suc k) n (b ∷ bytes) v rest h =
    let x : Front (number_from k (n * 256 + b)) bytes v rest = number_front k (n * 256 + b) bytes v rest h in
    record { text = b ∷ x.text; parts = ap (λ (w : List ℕ). b ∷ w) x.parts; again = x.again }

-- where it ends too early, zeros after it make it whole
pub record Completed (k n : ℕ) (bytes : List ℕ) : Type 0 where
  pub more : List ℕ
  pub more_bytes : AreBytes more
  pub value : ℕ
  pub reads : number_from k n (bytes ++ more) ≡ Some (value, [])

with_zeros : (k n : ℕ) → Completed k n []
with_zeros zero n = record { more = []; more_bytes = tt; value = n; reads = refl }
with_zeros (suc k) n =
    let x : Completed k (n * 256 + 0) [] = with_zeros k (n * 256 + 0) in
    record { more = 0 ∷ x.more; more_bytes = (omega arith, x.more_bytes); value = x.value; reads = x.reads }

completed : (k n : ℕ) (bytes : List ℕ) → number_from k n bytes ≡ None → Completed k n bytes
completed zero n bytes h = absurd cc
completed (suc k) n [] h = with_zeros (suc k) n
completed (suc k) n (b ∷ bytes) h =
    let x : Completed k (n * 256 + b) bytes = completed k (n * 256 + b) bytes h in
    record { more = x.more; more_bytes = x.more_bytes; value = x.value; reads = x.reads }

number_stuck : (k n : ℕ) (bytes : List ℕ) (left : ℕ) → or_end (number_from k n bytes) ≡ Err left → IsStuck (number_from k n) bytes left
number_stuck k n bytes left h = go (number_from k n bytes) refl h
  where
    go : (o : Option (ℕ × List ℕ)) → number_from k n bytes ≡ o → or_end o ≡ Err left → IsStuck (number_from k n) bytes left
    go (Some p) e h = absurd cc
    go None e h =
        let x : Completed k n bytes = completed k n bytes e in
        record {
          none = e;
          front = bytes;
          rest = [];
          parts = sym (append-nil bytes);
          left_is = cc;
          more = x.more;
          more_bytes = x.more_bytes;
          value = x.value;
          reached = x.reads;
          most = λ p q z v w zs cut r. let none_left : 0 ≡ left = cc in omega (arith, none_left);
        }

number_sample : (k n : ℕ) → Sample (number_from k n)
number_sample zero n = record { value = n; text = []; bytes = tt; reads = refl }
number_sample (suc k) n =
    let x : Sample (number_from k (n * 256 + 0)) = number_sample k (n * 256 + 0) in
    record { value = x.value; text = 0 ∷ x.text; bytes = (omega arith, x.bytes); reads = x.reads }

number_found : (k n : ℕ) (bytes : List ℕ) (v : ℕ) (rest : List ℕ) → or_end (number_from k n bytes) ≡ Ok (v, rest) → number_from k n bytes ≡ Some (v, rest)
number_found k n bytes v rest h = go (number_from k n bytes) refl h
  where
    go : (o : Option (ℕ × List ℕ)) → number_from k n bytes ≡ o → or_end o ≡ Ok (v, rest) → number_from k n bytes ≡ Some (v, rest)
    go None e h = absurd cc
    go (Some p) e h = let same = ok_pair p.0 v p.1 rest h in e ∙ ap (λ (w : ℕ). some_of w p.1) same.0 ∙ ap (λ (w : List ℕ). some_of v w) same.1

number_scan : (k : ℕ) → IsScan (number_from k 0) (λ bytes. or_end (number_from k 0 bytes))
number_scan k = record {
  steady = record { fronts = number_front k 0 };
  sample = number_sample k 0;
  found = number_found k 0;
  stuck = λ bytes left fits h. number_stuck k 0 bytes left h;
}

pub byte_scan : IsScan read_byte scan_byte
unfolding scan_byte
byte_scan = number_scan 1

pub short_scan : IsScan read_short scan_short
unfolding scan_short
short_scan = number_scan 2

pub long_scan : IsScan read_long scan_long
unfolding scan_long
long_scan = number_scan 8

-- ---- what is written is read back, whatever follows it

pub short_back : (n : ℕ) (bs : List ℕ) → n < 2 ^ 16 → read_short (short_bytes n ++ bs) ≡ Some (n, bs)
short_back n bs h =
    let e : (0 * 256 + n / 256 % 256) * 256 + n % 256 ≡ n = omega arith in
    ap (λ m. Some (m, bs)) e

-- ---- what is read is written so

pub bytes_at : (bytes : List ℕ) → AreBytes bytes → (i : ℕ) → get_or bytes i 0 < 256
bytes_at [] fits i = omega arith
bytes_at (b ∷ bytes) fits zero = fits.0
bytes_at (b ∷ bytes) fits (suc i) = bytes_at bytes fits.1 i

-- what is at each place
pub bytes_from : (bytes : List ℕ) → ((i : ℕ) → get_or bytes i 0 < 256) → AreBytes bytes
bytes_from [] fits = tt
bytes_from (b ∷ bytes) fits = (fits 0, bytes_from bytes (λ i. fits (suc i)))

pub byte_written : IsWrittenBy byte_bytes read_byte
byte_written = record { spelled = spelled }
  where
    spelled : (bytes : List ℕ) (v : ℕ) (rest : List ℕ) → AreBytes bytes → read_byte bytes ≡ Some (v, rest) → bytes ≡ byte_bytes v ++ rest
    spelled [] v rest fits h = absurd cc
    spelled (b ∷ bytes) v rest fits h =
        let e = some_pair (0 * 256 + b) v bytes rest h in
        let same : b ≡ v % 256 = omega (arith, e.0, fits.0) in
        ap (λ (x : ℕ). x ∷ bytes) same ∙ ap (λ (w : List ℕ). (v % 256) ∷ w) e.1

pub short_written : IsWrittenBy short_bytes read_short
short_written = record { spelled = spelled }
  where
    spelled : (bytes : List ℕ) (v : ℕ) (rest : List ℕ) → AreBytes bytes → read_short bytes ≡ Some (v, rest) → bytes ≡ short_bytes v ++ rest
    spelled [] v rest fits h = absurd cc
    spelled (a ∷ []) v rest fits h = absurd cc
    spelled (a ∷ b ∷ bytes) v rest fits h =
        let e = some_pair ((0 * 256 + a) * 256 + b) v bytes rest h in
        let high : a ≡ v / 256 % 256 = omega (arith, e.0, fits.0, fits.1.0) in
        let low : b ≡ v % 256 = omega (arith, e.0, fits.0, fits.1.0) in
        ap (λ (x : ℕ). x ∷ b ∷ bytes) high ∙ ap (λ (x : ℕ). (v / 256 % 256) ∷ x ∷ bytes) low ∙ ap (λ (w : List ℕ). (v / 256 % 256) ∷ (v % 256) ∷ w) e.1

spelled_long : (n : ℕ) (bytes : List ℕ) (v : ℕ) (rest : List ℕ) → length bytes ≡ 8 → AreBytes bytes → from_be_bytes w64 bytes ≡ n → n ≡ v → bytes ++ rest ≡ long_bytes v ++ rest
spelled_long n bytes v rest len fits is same =
    let e : to_be_bytes w64 v ≡ bytes = be_bytes_8 bytes v len (bytes_at bytes fits) (sym (is ∙ same)) in
    ap (λ (w : List ℕ). w ++ rest) (sym e)

pub long_written : IsWrittenBy long_bytes read_long
long_written = record { spelled = spelled }
  where
    spelled : (bytes : List ℕ) (v : ℕ) (rest : List ℕ) → AreBytes bytes → read_long bytes ≡ Some (v, rest) → bytes ≡ long_bytes v ++ rest
    spelled [] v rest fits h = absurd cc
    spelled (a ∷ []) v rest fits h = absurd cc
    spelled (a ∷ b ∷ []) v rest fits h = absurd cc
    spelled (a ∷ b ∷ c ∷ []) v rest fits h = absurd cc
    spelled (a ∷ b ∷ c ∷ d ∷ []) v rest fits h = absurd cc
    spelled (a ∷ b ∷ c ∷ d ∷ e ∷ []) v rest fits h = absurd cc
    spelled (a ∷ b ∷ c ∷ d ∷ e ∷ f ∷ []) v rest fits h = absurd cc
    spelled (a ∷ b ∷ c ∷ d ∷ e ∷ f ∷ g ∷ []) v rest fits h = absurd cc
    spelled (a ∷ b ∷ c ∷ d ∷ e ∷ f ∷ g ∷ i ∷ bytes) v rest fits h =
        let n : ℕ = (((((((0 * 256 + a) * 256 + b) * 256 + c) * 256 + d) * 256 + e) * 256 + f) * 256 + g) * 256 + i in
        let same = some_pair n v bytes rest h in
        let eight : List ℕ = a ∷ b ∷ c ∷ d ∷ e ∷ f ∷ g ∷ i ∷ [] in
        let is : from_be_bytes w64 eight ≡ n = omega arith in
        let fits8 : AreBytes eight = (fits.0, (fits.1.0, (fits.1.1.0, (fits.1.1.1.0, (fits.1.1.1.1.0, (fits.1.1.1.1.1.0, (fits.1.1.1.1.1.1.0, (fits.1.1.1.1.1.1.1.0, tt)))))))) in
        ap (λ (w : List ℕ). eight ++ w) same.1 ∙ spelled_long n eight v rest refl fits8 is same.0
