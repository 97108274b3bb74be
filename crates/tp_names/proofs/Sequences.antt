-- Two readers one after the other, and their scans.
use Rattle.std.proofs.Common.{◌≡◌, ℕ, ◌≤◌, Option, Some, None, Result, Ok, Err, List, [], ◌∷◌, ◌++◌, length, ◌⊎◌, inl, inr, refl, sym, ap, subst, ◌∙◌, append_assoc, length-append, arith}
use Rattle.std.proofs.lemmas.List.{append-nil}
use Rattle.tp_names.specs.Reading.{Reader, make, ◌and◌, applied}
use Rattle.tp_names.specs.Scanning.{Scan, scan_make, ◌with◌, then_scan, with_value}
use Rattle.tp_names.specs.Places.{AreBytes, Front, IsSteady, Sample, IsStuck, IsScan}

abbrev pub pair_of : {A : Type 0} → A → List ℕ → A × List ℕ
pair_of a x = (a, x)

abbrev pub some_of : {A : Type 0} → A → List ℕ → Option (A × List ℕ)
some_of a x = Some (a, x)

abbrev pub ok_of : {A : Type 0} → A → List ℕ → Result (A × List ℕ) ℕ
ok_of a x = Ok (a, x)

-- ---- lists

-- of two ways to cut a list one comes first
pub cuts : (a b c d : List ℕ) → a ++ b ≡ c ++ d → ((e : List ℕ) × ((c ≡ a ++ e) × (b ≡ e ++ d))) ⊎ ((e : List ℕ) × ((a ≡ c ++ e) × (d ≡ e ++ b)))
cuts [] b c d same = inl (c, (refl, same))
cuts (x ∷ a) b [] d same = inr (x ∷ a, (refl, sym same))
cuts (x ∷ a) b (y ∷ c) d same =
    let tails : a ++ b ≡ c ++ d = cc in
    let heads : x ≡ y = cc in
    elim (cuts a b c d tails) [
      | inl p ↦ inl (p.0, (ap (λ (z : ℕ). z ∷ c) (sym heads) ∙ ap (λ (zs : List ℕ). x ∷ zs) p.1.0, p.1.1))
      | inr p ↦ inr (p.0, (ap (λ (z : ℕ). z ∷ a) heads ∙ ap (λ (zs : List ℕ). y ∷ zs) p.1.0, p.1.1))
    ]

pub AreBytes-append : (a b : List ℕ) → AreBytes a → AreBytes b → AreBytes (a ++ b)
AreBytes-append [] b ha hb = hb
AreBytes-append (x ∷ a) b ha hb = (ha.0, AreBytes-append a b ha.1 hb)

pub AreBytes-front : (a b : List ℕ) → AreBytes (a ++ b) → AreBytes a
AreBytes-front [] b h = tt
AreBytes-front (x ∷ a) b h = (h.0, AreBytes-front a b h.1)

pub AreBytes-back : (a b : List ℕ) → AreBytes (a ++ b) → AreBytes b
AreBytes-back [] b h = h
AreBytes-back (x ∷ a) b h = AreBytes-back a b h.1

-- what two answers have in common
pub some_pair : {A : Type 0} (a b : A) (x y : List ℕ) → some_of a x ≡ some_of b y → (a ≡ b) × (x ≡ y)
some_pair {A} a b x y e =
    let pairs : pair_of a x ≡ pair_of b y = cc in
    (ap (λ (p : A × List ℕ). p.0) pairs, ap (λ (p : A × List ℕ). p.1) pairs)

pub ok_pair : {A : Type 0} (a b : A) (x y : List ℕ) → ok_of a x ≡ ok_of b y → (a ≡ b) × (x ≡ y)
ok_pair {A} a b x y e =
    let pairs : pair_of a x ≡ pair_of b y = cc in
    (ap (λ (p : A × List ℕ). p.0) pairs, ap (λ (p : A × List ℕ). p.1) pairs)

-- what stands after what was read is bytes
pub behind_bytes : {A : Type 0} (r : Reader A) (bytes : List ℕ) (v : A) (rest : List ℕ) → Front r bytes v rest → AreBytes bytes → AreBytes rest
behind_bytes r bytes v rest x fits = let P : List ℕ → Type 0 = λ w. AreBytes w in AreBytes-back x.text rest (subst P x.parts fits)

-- ---- nothing read

pub steady_make : {A : Type 0} (a : A) → IsSteady (make a)
steady_make {A} a = record {
  fronts = λ bytes v rest h.
      let e = some_pair a v bytes rest h in
      record { text = []; parts = e.1; again = λ more. ap (λ (w : A). some_of w more) e.0 };
}

pub scan_made : {A : Type 0} (a : A) → IsScan (make a) (scan_make a)
scan_made {A} a = record {
  steady = steady_make a;
  sample = record { value = a; text = []; bytes = tt; reads = refl };
  found = λ bytes v rest h. let e = ok_pair a v bytes rest h in ap (λ (w : A). some_of w bytes) e.0 ∙ ap (λ (w : List ℕ). some_of v w) e.1;
  stuck = λ bytes left fits h. absurd cc;
}

-- ---- two parts

-- what both read
pub record Both {A B : Type 0} (o : Option ((A → B) × List ℕ)) (r : Reader A) (v : B) (rest : List ℕ) : Type 0 where
  pub made : A → B
  pub middle : List ℕ
  pub part : A
  pub first : o ≡ Some (made, middle)
  pub second : r middle ≡ Some (part, rest)
  pub value : v ≡ made part

pub both_parts : {A B : Type 0} (o : Option ((A → B) × List ℕ)) (r : Reader A) (v : B) (rest : List ℕ) → applied o r ≡ Some (v, rest) → Both o r v rest
both_parts None r v rest h = absurd cc
both_parts {A} {B} (Some p) r v rest h = go (r p.1) refl h
  where
    go : (o : Option (A × List ℕ)) → r p.1 ≡ o → elim o as (λ _. Option (B × List ℕ)) [ None ↦ None | Some q ↦ Some (p.0 q.0, q.1) ] ≡ Some (v, rest) → Both (Some p) r v rest
    go None e h = absurd cc
    go (Some q) e h =
        let same = some_pair (p.0 q.0) v q.1 rest h in
        record { made = p.0; middle = p.1; part = q.0; first = refl; second = e ∙ ap (λ (w : List ℕ). some_of q.0 w) same.1; value = sym same.0 }

pub both_read : {A B : Type 0} (f : Reader (A → B)) (r : Reader A) (bytes middle rest : List ℕ) (g : A → B) (a : A)
    → f bytes ≡ Some (g, middle) → r middle ≡ Some (a, rest) → (f and r) bytes ≡ Some (g a, rest)
both_read {A} {B} f r bytes middle rest g a first second =
    ap (λ (o : Option ((A → B) × List ℕ)). applied o r) first
    ∙ ap (λ (o : Option (A × List ℕ)). elim o as (λ _. Option (B × List ℕ)) [ None ↦ None | Some q ↦ Some (g q.0, q.1) ]) second

pub steady_and : {A B : Type 0} (f : Reader (A → B)) (r : Reader A) → IsSteady f → IsSteady r → IsSteady (f and r)
steady_and {A} {B} f r sf sr = record { fronts = fronts }
  where
    fronts : (bytes : List ℕ) (v : B) (rest : List ℕ) → (f and r) bytes ≡ Some (v, rest) → Front (f and r) bytes v rest
    fronts bytes v rest h =
        let b : Both (f bytes) r v rest = both_parts (f bytes) r v rest h in
        let x : Front f bytes b.made b.middle = sf.fronts bytes b.made b.middle b.first in
        let y : Front r b.middle b.part rest = sr.fronts b.middle b.part rest b.second in
        record {
          text = x.text ++ y.text;
          parts = x.parts ∙ ap (λ (w : List ℕ). x.text ++ w) y.parts ∙ sym (append_assoc x.text y.text rest);
          again = λ more. ap (f and r) (append_assoc x.text y.text more) ∙ both_read f r (x.text ++ (y.text ++ more)) (y.text ++ more) more b.made b.part (x.again (y.text ++ more)) (y.again more) ∙ ap (λ (w : B). Some (w, more)) (sym b.value);
        }

-- with nothing after it, and so with anything
pub reads_on : {A : Type 0} (r : Reader A) (bytes : List ℕ) (v : A) → IsSteady r → r bytes ≡ Some (v, []) → (more : List ℕ) → r (bytes ++ more) ≡ Some (v, more)
reads_on r bytes v steady h more =
    let x : Front r bytes v [] = steady.fronts bytes v [] h in
    let whole : bytes ≡ x.text = x.parts ∙ append-nil x.text in
    ap (λ (w : List ℕ). r (w ++ more)) whole ∙ x.again more

sample_and : {A B : Type 0} (f : Reader (A → B)) (r : Reader A) → IsSteady f → Sample f → Sample r → Sample (f and r)
sample_and f r steady x y = record {
  value = x.value y.value;
  text = x.text ++ y.text;
  bytes = AreBytes-append x.text y.text x.bytes y.bytes;
  reads = both_read f r (x.text ++ y.text) y.text [] x.value y.value (reads_on f x.text x.value steady x.reads y.text) y.reads;
}

stuck_first : {A B : Type 0} (f : Reader (A → B)) (r : Reader A) (bytes : List ℕ) (left : ℕ) → IsSteady f → Sample r → IsStuck f bytes left → IsStuck (f and r) bytes left
stuck_first {A} {B} f r bytes left steady y x = record {
  none = ap (λ (o : Option ((A → B) × List ℕ)). applied o r) x.none;
  front = x.front;
  rest = x.rest;
  parts = x.parts;
  left_is = x.left_is;
  more = x.more ++ y.text;
  more_bytes = AreBytes-append x.more y.text x.more_bytes y.bytes;
  value = x.value y.value;
  reached = ap (f and r) (sym (append_assoc x.front x.more y.text)) ∙ both_read f r ((x.front ++ x.more) ++ y.text) y.text [] x.value y.value (reads_on f (x.front ++ x.more) x.value steady x.reached y.text) y.reads;
  most = λ p q z v w zs cut h. let b : Both (f (p ++ z)) r v w = both_parts (f (p ++ z)) r v w h in x.most p q z b.made b.middle zs cut b.first;
}

stuck_second : {A B : Type 0} (f : Reader (A → B)) (r : Reader A) (bytes : List ℕ) (g : A → B) (middle : List ℕ) (left : ℕ) → Front f bytes g middle → f bytes ≡ Some (g, middle) → IsStuck r middle left → IsStuck (f and r) bytes left
stuck_second {A} {B} f r bytes g middle left x first y = record {
  none =
      ap (λ (o : Option ((A → B) × List ℕ)). applied o r) first
      ∙ ap (λ (o : Option (A × List ℕ)). elim o as (λ _. Option (B × List ℕ)) [ None ↦ None | Some q ↦ Some (g q.0, q.1) ]) y.none;
  front = x.text ++ y.front;
  rest = y.rest;
  parts = x.parts ∙ ap (λ (w : List ℕ). x.text ++ w) y.parts ∙ sym (append_assoc x.text y.front y.rest);
  left_is = y.left_is;
  more = y.more;
  more_bytes = y.more_bytes;
  value = g y.value;
  reached = ap (f and r) (append_assoc x.text y.front y.more) ∙ both_read f r (x.text ++ (y.front ++ y.more)) (y.front ++ y.more) [] g y.value (x.again (y.front ++ y.more)) y.reached;
  most = most;
}
  where
    short : left ≤ length middle
    short = omega (arith, y.left_is, ap length y.parts, length-append y.front y.rest)

    most : (p q z : List ℕ) (v : B) (w : List ℕ) → AreBytes z → bytes ≡ p ++ q → (f and r) (p ++ z) ≡ Some (v, w) → left ≤ length q
    most p q z v w zs cut h = elim (cuts x.text middle p q (sym x.parts ∙ cut)) [
      | inl e ↦
          let b : Both (f (p ++ z)) r v w = both_parts (f (p ++ z)) r v w h in
          let there : f (p ++ z) ≡ Some (g, e.0 ++ z) = ap (λ (u : List ℕ). f (u ++ z)) e.1.0 ∙ ap f (append_assoc x.text e.0 z) ∙ x.again (e.0 ++ z) in
          let same = some_pair b.made g b.middle (e.0 ++ z) (sym b.first ∙ there) in
          let behind : b.middle ≡ e.0 ++ z = same.1 in
          y.most e.0 q z b.part w zs e.1.1 (ap r (sym behind) ∙ b.second)
      | inr e ↦ omega (arith, short, ap length e.1.1, length-append e.0 middle)
    ]

-- how two scans go
pub record BothScanned {A B : Type 0} (o : Result ((A → B) × List ℕ) ℕ) (s : Scan A) (v : B) (rest : List ℕ) : Type 0 where
  pub made : A → B
  pub middle : List ℕ
  pub part : A
  pub first : o ≡ Ok (made, middle)
  pub second : s middle ≡ Ok (part, rest)
  pub value : v ≡ made part

abbrev pub with_scan : {A B : Type 0} → Result ((A → B) × List ℕ) ℕ → Scan A → Result (B × List ℕ) ℕ
with_scan o s = then_scan o (λ g rest. with_value g (s rest))

pub both_scanned : {A B : Type 0} (o : Result ((A → B) × List ℕ) ℕ) (s : Scan A) (v : B) (rest : List ℕ) → with_scan o s ≡ Ok (v, rest) → BothScanned o s v rest
both_scanned (Err left) s v rest h = absurd cc
both_scanned {A} {B} (Ok p) s v rest h = go (s p.1) refl h
  where
    go : (o : Result (A × List ℕ) ℕ) → s p.1 ≡ o → with_value p.0 o ≡ Ok (v, rest) → BothScanned (Ok p) s v rest
    go (Err left) e h = absurd cc
    go (Ok q) e h =
        let same = ok_pair (p.0 q.0) v q.1 rest h in
        record { made = p.0; middle = p.1; part = q.0; first = refl; second = e ∙ ap (λ (w : List ℕ). ok_of q.0 w) same.1; value = sym same.0 }

-- the first refuses, or the second does
pub both_refused : {A B : Type 0} (o : Result ((A → B) × List ℕ) ℕ) (s : Scan A) (left : ℕ) → with_scan o s ≡ Err left
    → (o ≡ Err left) ⊎ ((g : A → B) × ((middle : List ℕ) × ((o ≡ Ok (g, middle)) × (s middle ≡ Err left))))
both_refused (Err l) s left h = inl (let e : l ≡ left = cc in ap (λ (n : ℕ). Err n) e)
both_refused {A} {B} (Ok p) s left h = go (s p.1) refl h
  where
    go : (o : Result (A × List ℕ) ℕ) → s p.1 ≡ o → with_value p.0 o ≡ Err left
        → (ok_of p.0 p.1 ≡ Err left) ⊎ ((g : A → B) × ((middle : List ℕ) × ((ok_of p.0 p.1 ≡ Ok (g, middle)) × (s middle ≡ Err left))))
    go (Err l) e h = let same : l ≡ left = cc in inr (p.0, (p.1, (refl, e ∙ ap (λ (n : ℕ). Err n) same)))
    go (Ok q) e h = absurd cc

pub scan_both : {A B : Type 0} (f : Reader (A → B)) (r : Reader A) (sf : Scan (A → B)) (sr : Scan A) → IsScan f sf → IsScan r sr → IsScan (f and r) (sf with sr)
scan_both {A} {B} f r sf sr x y = record {
  steady = steady_and f r x.steady y.steady;
  sample = sample_and f r x.steady x.sample y.sample;
  found = found;
  stuck = stuck;
}
  where
    found : (bytes : List ℕ) (v : B) (rest : List ℕ) → (sf with sr) bytes ≡ Ok (v, rest) → (f and r) bytes ≡ Some (v, rest)
    found bytes v rest h =
        let b : BothScanned (sf bytes) sr v rest = both_scanned (sf bytes) sr v rest h in
        both_read f r bytes b.middle rest b.made b.part (x.found bytes b.made b.middle b.first) (y.found b.middle b.part rest b.second)
        ∙ ap (λ (w : B). some_of w rest) (sym b.value)

    stuck : (bytes : List ℕ) (left : ℕ) → AreBytes bytes → (sf with sr) bytes ≡ Err left → IsStuck (f and r) bytes left
    stuck bytes left fits h = elim (both_refused (sf bytes) sr left h) [
      | inl e ↦ stuck_first f r bytes left x.steady y.sample (x.stuck bytes left fits e)
      | inr e ↦
          let first : f bytes ≡ Some (e.0, e.1.0) = x.found bytes e.0 e.1.0 e.1.1.0 in
          stuck_second f r bytes e.0 e.1.0 left (x.steady.fronts bytes e.0 e.1.0 first) first (y.stuck e.1.0 left (behind_bytes f bytes e.0 e.1.0 (x.steady.fronts bytes e.0 e.1.0 first) fits) e.1.1.1)
    ]
