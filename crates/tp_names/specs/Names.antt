-- What a site's name is kept as: its length, and sixteen bytes with the name in front.
use Rattle.std.specs.Prelude.{ℕ, ◌≡◌, ◌≤◌, ◌-◌, IsTrue, List, ◌++◌, length, take, drop, replicate}
use Rattle.std.proofs.Common.{arith, sym, ◌∙◌, ap, length-take}
use Rattle.std.proofs.lemmas.List.{take-append-drop}
use Rattle.tp_names.specs.Bytes.{is_site_name}
use Rattle.tp_names.specs.declared.site_name.SiteName.TheInside.{Inside}

-- the name at the front of sixteen bytes
abbrev pub padded : List ℕ → List ℕ
padded v = v ++ replicate (16 - length v) 0

-- after the name stand zeros
abbrev pub IsPadded : Inside → Type 0
IsPadded s = (s.len ≤ 16) × (length s.bytes ≡ 16) × (drop s.len s.bytes ≡ replicate (16 - s.len) 0)

-- and the bytes in front are a name
abbrev pub IsName : Inside → Type 0
IsName s = IsPadded s × IsTrue (is_site_name (take s.len s.bytes))

abbrev pub inside_of : List ℕ → Inside
inside_of v = record { len = length v; bytes = padded v }

pub take_length : (n : ℕ) (xs : List ℕ) → n ≤ 16 → length xs ≡ 16 → length (take n xs) ≡ n
take_length n xs h e = omega (arith, length-take n xs)

pub inside_of-view : (s : Inside) → IsName s → inside_of (take s.len s.bytes) ≡ s
inside_of-view s name =
    let h : IsPadded s = name.0 in
    let len : length (take s.len s.bytes) ≡ s.len = take_length s.len s.bytes h.0 h.1 in
    let all : take s.len s.bytes ++ replicate (16 - s.len) 0 ≡ s.bytes =
    ap (λ w. take s.len s.bytes ++ w) (sym h.2) ∙ take-append-drop s.len s.bytes in
    let P : List ℕ → Inside = λ w. record { len = s.len; bytes = w } in
    rw len (ap P all)
