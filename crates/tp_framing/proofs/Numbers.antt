-- Reading so many bytes, and a short number, from the front of bytes.
use Rattle.std.proofs.Common.{◌≡◌, ℕ, zero, suc, ◌+◌, ◌*◌, ◌/◌, ◌%◌, ◌<◌, ◌≤◌, ◌^◌, Option, Some, None, List, [], ◌∷◌, ◌++◌, length, take, drop, refl, ◌∙◌, ap, arith}
use Rattle.tp_names.specs.Bytes.{short_bytes}
use Rattle.tp_names.specs.Reading.{read_short, read_bytes}

-- what so many bytes and then one more make
abbrev pub with_front : ℕ → Option (List ℕ × List ℕ) → Option (List ℕ × List ℕ)
with_front b None = None
with_front b (Some q) = Some (b ∷ q.0, q.1)

pub byte_is : (b : ℕ) → 0 * 256 + b ≡ b
byte_is b = omega arith

pub read_bytes_more : (n b : ℕ) (bs : List ℕ) → read_bytes (suc n) (b ∷ bs) ≡ with_front b (read_bytes n bs)
read_bytes_more n b bs = go (read_bytes n bs)
  where
    go : (o : Option (List ℕ × List ℕ)) → elim o as (λ _. Option (List ℕ × List ℕ)) [ None ↦ None | Some q ↦ Some ((0 * 256 + b) ∷ q.0, q.1) ] ≡ with_front b o
    go None = refl
    go (Some q) = ap (λ x. Some (x ∷ q.0, q.1)) (byte_is b)

pub read_bytes_all : (n : ℕ) (bs : List ℕ) → n ≤ length bs → read_bytes n bs ≡ Some (take n bs, drop n bs)
read_bytes_all zero bs h = refl
read_bytes_all (suc n) [] h = absurd (omega arith)
read_bytes_all (suc n) (b ∷ bs) h = read_bytes_more n b bs ∙ ap (with_front b) (read_bytes_all n bs (omega arith))

pub read_bytes_few : (n : ℕ) (bs : List ℕ) → length bs < n → read_bytes n bs ≡ None
read_bytes_few zero bs h = absurd (omega arith)
read_bytes_few (suc n) [] h = refl
read_bytes_few (suc n) (b ∷ bs) h = read_bytes_more n b bs ∙ ap (with_front b) (read_bytes_few n bs (omega arith))

pub read_short_is : (high low : ℕ) (bs : List ℕ) → read_short (high ∷ low ∷ bs) ≡ Some (high * 256 + low, bs)
read_short_is high low bs = let e : (0 * 256 + high) * 256 + low ≡ high * 256 + low = omega arith in rw e refl

pub short_bytes_of : (high low : ℕ) → high < 256 → low < 256 → short_bytes (high * 256 + low) ≡ high ∷ low ∷ []
short_bytes_of high low h l =
    let n = high * 256 + low in
    let e : n / 256 % 256 ≡ high = omega arith in
    let f : n % 256 ≡ low = omega arith in
    rw (e, f) refl
