-- Readers that read the same texts, as other values: those of one length, and any.
use Rattle.std.proofs.Common.{zero, ◌≤◌, ◌<◌, ◌-◌, eq-eqb, length-append, ◌≡◌, ℕ, ◌+◌, ◌==◌, ◌&&◌, Bool, true, false, cond, suc, Err, ◌⊎◌, inl, inr, subst, Option, Some, None, List, [], ◌∷◌, ◌++◌, length, refl, sym, ap, ◌∙◌, zero-add, arith}
use Rattle.tp_names.specs.Reading.{Reader, make, ◌and◌, read_kind, read_by_code}
use Rattle.std.specs.Prelude.{nat_le}
use Rattle.std.proofs.lemmas.Bool.Decides.{nat_tests}
use Rattle.tp_names.specs.Scanning.{Scan}
use Rattle.tp_names.specs.Places.{AreBytes, Front, IsSteady, IsScan}
use Rattle.tp_names.proofs.First.{Refuses}
use Rattle.tp_names.proofs.Sequences.{some_of, some_pair, behind_bytes, Both, both_parts, both_read}

-- what is read has this length
pub record IsFixed {A : Type 0} (n : ℕ) (r : Reader A) : Type 0 where
  pub len : (bytes : List ℕ) (v : A) (rest : List ℕ) → r bytes ≡ Some (v, rest) → length bytes ≡ n + length rest

-- the second reads of bytes what the first reads of this length
pub record Sized {A B : Type 0} (n : ℕ) (r : Reader A) (t : Reader B) : Type 0 where
  pub there : (bytes : List ℕ) (w : B) (rest : List ℕ) → t bytes ≡ Some (w, rest) → (v : A) × ((r bytes ≡ Some (v, rest)) × (length bytes ≡ n + length rest))
  pub back : (bytes : List ℕ) (v : A) (rest : List ℕ) → AreBytes bytes → r bytes ≡ Some (v, rest) → length bytes ≡ n + length rest → (w : B) × (t bytes ≡ Some (w, rest))

pub made_fixed : {A : Type 0} (a : A) → IsFixed 0 (make a)
made_fixed a = record { len = λ bytes v rest h. let e = some_pair a v bytes rest h in omega (arith, ap length e.1) }

pub both_fixed : {A B : Type 0} (m n : ℕ) (f : Reader (A → B)) (r : Reader A) → IsFixed m f → IsFixed n r → IsFixed (m + n) (f and r)
both_fixed m n f r x y = record {
  len = λ bytes v rest h.
      let b : Both (f bytes) r v rest = both_parts (f bytes) r v rest h in
      omega (arith, x.len bytes b.made b.middle b.first, y.len b.middle b.part rest b.second);
}

pub made_sized : {A B : Type 0} (a : A) (b : B) → Sized 0 (make a) (make b)
made_sized a b = record {
  there = λ bytes w rest h. let e = some_pair b w bytes rest h in (a, (ap (λ (x : List ℕ). some_of a x) e.1, omega (arith, ap length e.1)));
  back = λ bytes v rest fits h len. let e = some_pair a v bytes rest h in (b, ap (λ (x : List ℕ). some_of b x) e.1);
}

pub fixed_sized : {A : Type 0} (n : ℕ) (r : Reader A) → IsFixed n r → Sized n r r
fixed_sized n r x = record {
  there = λ bytes w rest h. (w, (h, x.len bytes w rest h));
  back = λ bytes v rest fits h len. (v, h);
}

sized_there : {A B C D : Type 0} (m n : ℕ) (f : Reader (A → B)) (r : Reader A) (g : Reader (C → D)) (t : Reader C) → Sized m f g → Sized n r t
    → (bytes : List ℕ) (w : D) (rest : List ℕ) → (g and t) bytes ≡ Some (w, rest) → (v : B) × (((f and r) bytes ≡ Some (v, rest)) × (length bytes ≡ m + n + length rest))
sized_there m n f r g t x y bytes w rest h =
    let b : Both (g bytes) t w rest = both_parts (g bytes) t w rest h in
    let p = x.there bytes b.made b.middle b.first in
    let q = y.there b.middle b.part rest b.second in
    (p.0 q.0, (both_read f r bytes b.middle rest p.0 q.0 p.1.0 q.1.0, omega (arith, p.1.1, q.1.1)))

sized_back : {A B C D : Type 0} (m n : ℕ) (f : Reader (A → B)) (r : Reader A) (g : Reader (C → D)) (t : Reader C) → IsSteady f → Sized m f g → Sized n r t
    → (bytes : List ℕ) (v : B) (rest : List ℕ) → AreBytes bytes → (b : Both (f bytes) r v rest) → length bytes ≡ m + length b.middle → length b.middle ≡ n + length rest → (w : D) × ((g and t) bytes ≡ Some (w, rest))
sized_back m n f r g t steady x y bytes v rest fits b first second =
    let behind : AreBytes b.middle = behind_bytes f bytes b.made b.middle (steady.fronts bytes b.made b.middle b.first) fits in
    let p = x.back bytes b.made b.middle fits b.first first in
    let q = y.back b.middle b.part rest behind b.second second in
    (p.0 q.0, both_read g t bytes b.middle rest p.0 q.0 p.1 q.1)

-- one after the other, where the first has one length alone
pub fixed_then : {A B C D : Type 0} (m n : ℕ) (f : Reader (A → B)) (r : Reader A) (g : Reader (C → D)) (t : Reader C) → IsSteady f → IsFixed m f → Sized m f g → Sized n r t → Sized (m + n) (f and r) (g and t)
fixed_then m n f r g t steady z x y = record {
  there = sized_there m n f r g t x y;
  back = λ bytes v rest fits h len.
      let b : Both (f bytes) r v rest = both_parts (f bytes) r v rest h in
      let first = z.len bytes b.made b.middle b.first in
      sized_back m n f r g t steady x y bytes v rest fits b first (omega (arith, first, len));
}

-- or the second
pub then_fixed : {A B C D : Type 0} (m n : ℕ) (f : Reader (A → B)) (r : Reader A) (g : Reader (C → D)) (t : Reader C) → IsSteady f → IsFixed n r → Sized m f g → Sized n r t → Sized (m + n) (f and r) (g and t)
then_fixed m n f r g t steady z x y = record {
  there = sized_there m n f r g t x y;
  back = λ bytes v rest fits h len.
      let b : Both (f bytes) r v rest = both_parts (f bytes) r v rest h in
      let second = z.len b.middle b.part rest b.second in
      sized_back m n f r g t steady x y bytes v rest fits b (omega (arith, second, len)) second;
}

-- ---- tables, row by row, against what is read after each code

abbrev pub RowsSized : {A B : Type 0} → ℕ → List (ℕ × Reader A) → (ℕ → Reader B) → Type 0
RowsSized n [] t = Unit {0}
RowsSized n (k ∷ ks) t = Sized n k.1 (t k.0) × RowsSized n ks t

-- a code that no row has
abbrev pub Missing : {A : Type 0} → List (ℕ × Reader A) → ℕ → Type 0
Missing [] code = Unit {0}
Missing (k ∷ ks) code = ((k.0 == code) ≡ false) × Missing ks code

pub same_code : (a b : ℕ) → (a == b) ≡ true → a ≡ b
same_code a b h = grind (arith, nat_tests)

pub kind_sized : {A B : Type 0} (n : ℕ) (ks : List (ℕ × Reader A)) (t : ℕ → Reader B) (code : ℕ) → RowsSized n ks t → (Missing ks code → (bytes : List ℕ) → t code bytes ≡ None) → Sized n (read_kind ks code) (t code)
kind_sized n [] t code rows outside = record { there = λ bytes w rest h. absurd (let e : t code bytes ≡ None = outside tt bytes in cc); back = λ bytes v rest fits h len. absurd cc }
kind_sized {A} {B} n (k ∷ ks) t code rows outside = go (k.0 == code) refl (λ e. kind_sized n ks t code rows.1 (λ m. outside (e, m)))
  where
    go : (a : Bool) → (k.0 == code) ≡ a → ((k.0 == code) ≡ false → Sized n (read_kind ks code) (t code))
        → Sized n (λ bytes. elim a as (λ _. Option (A × List ℕ)) [ true ↦ k.1 bytes | false ↦ read_kind ks code bytes ]) (t code)
    go true e later = let P : ℕ → Type 0 = λ c. Sized n k.1 (t c) in subst P (same_code k.0 code e) rows.0
    go false e later = later e

-- what goes by its code in front
pub code_sized : {A B : Type 0} (n : ℕ) (ks : List (ℕ × Reader A)) (t : ℕ → Reader B) (r : Reader B) → 1 ≤ n → r [] ≡ None → ((code : ℕ) (bytes : List ℕ) → r (code ∷ bytes) ≡ t code bytes)
    → RowsSized (n - 1) ks t → ((code : ℕ) → Missing ks code → (bytes : List ℕ) → t code bytes ≡ None) → Sized n (read_by_code ks) r
code_sized {A} {B} n ks t r low none some rows outside = record { there = there; back = back }
  where
    by_code : (code : ℕ) (bytes : List ℕ) → read_by_code ks (code ∷ bytes) ≡ read_kind ks code bytes
    by_code code bytes = ap (λ (m : ℕ). read_kind ks m bytes) (zero-add code)

    there : (bytes : List ℕ) (w : B) (rest : List ℕ) → r bytes ≡ Some (w, rest) → (v : A) × ((read_by_code ks bytes ≡ Some (v, rest)) × (length bytes ≡ n + length rest))
    there [] w rest h = absurd cc
    there (code ∷ bytes) w rest h =
        let p = (kind_sized (n - 1) ks t code rows (outside code)).there bytes w rest (sym (some code bytes) ∙ h) in
        (p.0, (by_code code bytes ∙ p.1.0, omega (arith, p.1.1, low)))

    back : (bytes : List ℕ) (v : A) (rest : List ℕ) → AreBytes bytes → read_by_code ks bytes ≡ Some (v, rest) → length bytes ≡ n + length rest → (w : B) × (r bytes ≡ Some (w, rest))
    back [] v rest fits h len = absurd cc
    back (code ∷ bytes) v rest fits h len =
        let p = (kind_sized (n - 1) ks t code rows (outside code)).back bytes v rest fits.1 (sym (by_code code bytes) ∙ h) (omega (arith, len, low)) in
        (p.0, some code bytes ∙ p.1)

-- a row that stands under a condition on the length
abbrev pub when : {A : Type 0} → Bool → Reader A → Reader A → Reader A
when t r s bytes = cond t (r bytes) (s bytes)

abbrev pub nothing : {A : Type 0} → Reader A
nothing bytes = None

pub when_sized : {A B : Type 0} (n : ℕ) (t : Bool) (r : Reader A) (s u : Reader B) → (t ≡ true → Sized n r s) → (t ≡ false → Sized n r u) → Sized n r (when t s u)
when_sized {A} {B} n t r s u x y = go t refl
  where
    go : (b : Bool) → t ≡ b → Sized n r (when b s u)
    go true e = x e
    go false e = y e

pub never_sized : {A B : Type 0} (n : ℕ) (r : Reader A) → ((bytes : List ℕ) (v : A) (rest : List ℕ) → AreBytes bytes → r bytes ≡ Some (v, rest) → length bytes ≡ n + length rest → ⊥) → Sized {B = B} n r nothing
never_sized n r never = record { there = λ bytes w rest h. absurd cc; back = λ bytes v rest fits h len. absurd (never bytes v rest fits h len) }

-- which holds at the length of what is read
pub ranged_row : {A B : Type 0} (n : ℕ) (t : Bool) (r : Reader A) (s : Reader B) → (t ≡ true → Sized n r s)
    → ((bytes : List ℕ) (v : A) (rest : List ℕ) → AreBytes bytes → r bytes ≡ Some (v, rest) → length bytes ≡ n + length rest → t ≡ true) → Sized n r (when t s nothing)
ranged_row n t r s x holds = when_sized n t r s nothing x (λ e. never_sized n r (λ bytes v rest fits h len. let f : t ≡ true = holds bytes v rest fits h len in cc))

-- a row of one length, after its code
pub fixed_row : {A B : Type 0} (n k m : ℕ) (r : Reader A) (s : Reader B) → 1 ≤ n → k ≡ suc m → IsFixed m r → Sized m r s → Sized (n - 1) r (when (n == k) s nothing)
fixed_row n k m r s low is x y =
    ranged_row (n - 1) (n == k) r s
    (λ e. let e2 : n ≡ k = same_code n k e in let P : ℕ → Type 0 = λ i. Sized i r s in let same : m ≡ n - 1 = omega (arith, e2, is) in subst P same y)
    (λ bytes v rest fits h len. let l = x.len bytes v rest h in eq-eqb n k (omega (arith, l, len, low, is)))

-- a test of two parts may be taken either way round
pub swapped : {A : Type 0} (a b : Bool) (x y z : A) → y ≡ z → cond (a && b) x y ≡ cond (b && a) x z
swapped true true x y z e = refl
swapped true false x y z e = e
swapped false true x y z e = e
swapped false false x y z e = e

-- ---- scans of such rows

pub record IsTried {A : Type 0} (r : Reader A) (s : Scan A) : Type 0 where
  pub each : IsScan r s ⊎ Refuses r s

abbrev pub when_scanned : {A : Type 0} → Bool → Scan A → Scan A → Scan A
when_scanned t r s bytes = cond t (r bytes) (s bytes)

pub when_tried : {A : Type 0} (t : Bool) (r u : Reader A) (s z : Scan A) → (t ≡ true → IsScan r s) → IsTried u z → IsTried (when t r u) (when_scanned t s z)
when_tried {A} t r u s z x y = go t refl
  where
    go : (b : Bool) → t ≡ b → IsTried (when b r u) (when_scanned b s z)
    go true e = record { each = inl (x e) }
    go false e = y

abbrev pub refused : {A : Type 0} → Scan A
refused bytes = Err (suc (length bytes))

pub none_tried : {A : Type 0} → IsTried {A = A} nothing refused
none_tried = record { each = inr (record { reads = λ bytes. refl; scanned = λ bytes. refl }) }

-- ---- the same, under another name

pub mapped_sized : {A B C : Type 0} (n : ℕ) (r : Reader A) (t : Reader B) (g : B → C) → Sized n r t → Sized n r (make g and t)
mapped_sized n r t g x = record {
  there = λ bytes w rest h.
      let b : Both (make g bytes) t w rest = both_parts (make g bytes) t w rest h in
      let e = some_pair g b.made bytes b.middle b.first in
      x.there bytes b.part rest (ap t e.1 ∙ b.second);
  back = λ bytes v rest fits h len.
      let p = x.back bytes v rest fits h len in
      (g p.0, both_read (make g) t bytes bytes rest g p.0 refl p.1);
}

pub named_sized : {A B C : Type 0} (n : ℕ) (r : Reader A) (t : Reader B) (g : A → C) → Sized n r t → Sized n (make g and r) t
named_sized n r t g x = record {
  there = λ bytes w rest h.
      let p = x.there bytes w rest h in
      (g p.0, (both_read (make g) r bytes bytes rest g p.0 refl p.1.0, p.1.1));
  back = λ bytes v rest fits h len.
      let b : Both (make g bytes) r v rest = both_parts (make g bytes) r v rest h in
      let e = some_pair g b.made bytes b.middle b.first in
      x.back bytes b.part rest fits (ap r e.1 ∙ b.second) len;
}

-- ---- what such a row says

pub when_parts : {A : Type 0} (t : Bool) (r u : Reader A) (bytes : List ℕ) (v : A) (rest : List ℕ) → when t r u bytes ≡ Some (v, rest) → (t ≡ true) ⊎ (u bytes ≡ Some (v, rest))
when_parts true r u bytes v rest h = inl refl
when_parts false r u bytes v rest h = inr h

pub off : {A : Type 0} (a b : Bool) (r u : Reader A) (bytes : List ℕ) → a ≡ false → when (a && b) r u bytes ≡ u bytes
off false b r u bytes e = refl
off true b r u bytes e = absurd cc

pub other : (a b : ℕ) → (a == b) ≡ false → (b == a) ≡ false
other a b h = grind (arith, nat_tests)

-- what is read has a byte at least
pub consumed : {A : Type 0} (r : Reader A) → IsSteady r → r [] ≡ None → (bytes : List ℕ) (v : A) (rest : List ℕ) → r bytes ≡ Some (v, rest) → 1 + length rest ≤ length bytes
consumed r steady none bytes v rest h =
    let f : Front r bytes v rest = steady.fronts bytes v rest h in
    go f.text (f.again []) (omega (arith, ap length f.parts, length-append f.text rest))
  where
    go : (text : List ℕ) → r (text ++ []) ≡ Some (v, []) → length bytes ≡ length text + length rest → 1 + length rest ≤ length bytes
    go [] again len = absurd (let clash : None ≡ some_of v [] = sym none ∙ again in cc)
    go (b ∷ text) again len = omega (arith, len)

-- ---- codes that follow one another

abbrev pub CountsFrom : {A : Type 0} → ℕ → List (ℕ × Reader A) → Type 0
CountsFrom n [] = Unit {0}
CountsFrom n (k ∷ ks) = (k.0 ≡ n) × CountsFrom (suc n) ks

past : {A : Type 0} (n code : ℕ) (ks : List (ℕ × Reader A)) → CountsFrom n ks → Missing ks code → n ≤ code → n + length ks ≤ code
past n code [] from m le = omega (arith, le)
past n code (k ∷ ks) from m le =
    let next : suc n ≤ code = above n code k.0 from.0 m.0 le in
    let later : suc n + length ks ≤ code = past (suc n) code ks from.1 m.1 next in
    omega (arith, later)
  where
    above : (a b c : ℕ) → c ≡ a → (c == b) ≡ false → a ≤ b → suc a ≤ b
    above a b c e h le = grind (arith, nat_tests)

pub outside_codes : {A : Type 0} (code : ℕ) (ks : List (ℕ × Reader A)) → CountsFrom 1 ks → Missing ks code → (code ≡ 0) ⊎ (1 + length ks ≤ code)
outside_codes code ks from m = go code (past 1 code ks from m)
  where
    go : (c : ℕ) → (1 ≤ c → 1 + length ks ≤ c) → (c ≡ 0) ⊎ (1 + length ks ≤ c)
    go zero h = inl refl
    go (suc c) h = inr (h (omega arith))

pub beyond : (top code n : ℕ) → (code ≡ 0) ⊎ (top ≤ code) → 1 ≤ n → n < top → (code == n) ≡ false
beyond top code n (inl e) low high = grind (arith, nat_tests)
beyond top code n (inr e) low high = grind (arith, nat_tests)

-- a length that is within bounds
pub within : (low high n : ℕ) → low ≤ n → n ≤ high → (nat_le low n && nat_le n high) ≡ true
within low high n a b = grind (arith, nat_tests)

pub record Bounds (low high n : ℕ) : Type 0 where
  pub least : low ≤ n
  pub most : n ≤ high

pub bounds : (low high n : ℕ) → (nat_le low n && nat_le n high) ≡ true → Bounds low high n
bounds low high n h = record { least = grind (arith, nat_tests); most = grind (arith, nat_tests) }
