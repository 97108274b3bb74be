-- A value that says how the next is read, and a fixed number of values.
use Rattle.std.proofs.Common.{◌≡◌, ℕ, zero, suc, ◌≤◌, ◌<◌, ◌-◌, Option, Some, None, Result, Ok, Err, List, [], ◌∷◌, ◌++◌, length, take, drop, replicate, Bool, true, false, cond, ◌⊎◌, inl, inr, refl, sym, ap, ◌∙◌, zero-add, append_assoc, length-append, arith}
use Rattle.std.specs.Prelude.{nat_le}
use Rattle.std.proofs.lemmas.List.{append-nil, take-append-drop, length-take, length-replicate}
use Rattle.std.proofs.lemmas.Bool.Decides.{nat_tests}
use Rattle.tp_names.specs.Reading.{Reader, make, ◌and◌, then_read, chosen_by, read_byte, read_many, read_bytes}
use Rattle.tp_names.specs.Scanning.{Scan, then_scan, scan_many, scan_bytes}
use Rattle.tp_names.specs.Places.{AreBytes, Front, IsSteady, Sample, IsStuck, IsScan}
use Rattle.tp_names.proofs.Sequences.{some_of, ok_of, some_pair, ok_pair, cuts, AreBytes-append, behind_bytes, reads_on, Both, both_parts, both_read, scan_made, scan_both}

-- ---- a choice

pub record Chosen {A B : Type 0} (o : Option (A × List ℕ)) (f : A → Reader B) (v : B) (rest : List ℕ) : Type 0 where
  pub choice : A
  pub middle : List ℕ
  pub first : o ≡ Some (choice, middle)
  pub second : f choice middle ≡ Some (v, rest)

pub chosen_parts : {A B : Type 0} (o : Option (A × List ℕ)) (f : A → Reader B) (v : B) (rest : List ℕ) → then_read o f ≡ Some (v, rest) → Chosen o f v rest
chosen_parts None f v rest h = absurd cc
chosen_parts (Some p) f v rest h = record { choice = p.0; middle = p.1; first = refl; second = h }

chosen_read : {A B : Type 0} (r : Reader A) (f : A → Reader B) (bytes middle : List ℕ) (a : A) → r bytes ≡ Some (a, middle) → chosen_by r f bytes ≡ f a middle
chosen_read {A} r f bytes middle a first = ap (λ (o : Option (A × List ℕ)). then_read o f) first

chosen_steady : {A B : Type 0} (r : Reader A) (f : A → Reader B) → IsSteady r → ((a : A) → IsSteady (f a)) → IsSteady (chosen_by r f)
chosen_steady {A} {B} r f sr sf = record { fronts = fronts }
  where
    fronts : (bytes : List ℕ) (v : B) (rest : List ℕ) → chosen_by r f bytes ≡ Some (v, rest) → Front (chosen_by r f) bytes v rest
    fronts bytes v rest h =
        let b : Chosen (r bytes) f v rest = chosen_parts (r bytes) f v rest h in
        let x : Front r bytes b.choice b.middle = sr.fronts bytes b.choice b.middle b.first in
        let y : Front (f b.choice) b.middle v rest = (sf b.choice).fronts b.middle v rest b.second in
        record {
          text = x.text ++ y.text;
          parts = x.parts ∙ ap (λ (w : List ℕ). x.text ++ w) y.parts ∙ sym (append_assoc x.text y.text rest);
          again = λ more. ap (chosen_by r f) (append_assoc x.text y.text more) ∙ chosen_read r f (x.text ++ (y.text ++ more)) (y.text ++ more) b.choice (x.again (y.text ++ more)) ∙ y.again more;
        }

chosen_first : {A B : Type 0} (r : Reader A) (f : A → Reader B) (bytes : List ℕ) (left : ℕ) → IsSteady r → ((a : A) → Sample (f a)) → IsStuck r bytes left → IsStuck (chosen_by r f) bytes left
chosen_first {A} {B} r f bytes left steady samples x =
    let y : Sample (f x.value) = samples x.value in
    record {
      none = ap (λ (o : Option (A × List ℕ)). then_read o f) x.none;
      front = x.front;
      rest = x.rest;
      parts = x.parts;
      left_is = x.left_is;
      more = x.more ++ y.text;
      more_bytes = AreBytes-append x.more y.text x.more_bytes y.bytes;
      value = y.value;
      reached = ap (chosen_by r f) (sym (append_assoc x.front x.more y.text)) ∙ chosen_read r f ((x.front ++ x.more) ++ y.text) y.text x.value (reads_on r (x.front ++ x.more) x.value steady x.reached y.text) ∙ y.reads;
      most = λ p q z v w zs cut h. let b : Chosen (r (p ++ z)) f v w = chosen_parts (r (p ++ z)) f v w h in x.most p q z b.choice b.middle zs cut b.first;
    }

chosen_second : {A B : Type 0} (r : Reader A) (f : A → Reader B) (bytes : List ℕ) (a : A) (middle : List ℕ) (left : ℕ) → Front r bytes a middle → r bytes ≡ Some (a, middle) → IsStuck (f a) middle left → IsStuck (chosen_by r f) bytes left
chosen_second {A} {B} r f bytes a middle left x first y = record {
  none = chosen_read r f bytes middle a first ∙ y.none;
  front = x.text ++ y.front;
  rest = y.rest;
  parts = x.parts ∙ ap (λ (w : List ℕ). x.text ++ w) y.parts ∙ sym (append_assoc x.text y.front y.rest);
  left_is = y.left_is;
  more = y.more;
  more_bytes = y.more_bytes;
  value = y.value;
  reached = ap (chosen_by r f) (append_assoc x.text y.front y.more) ∙ chosen_read r f (x.text ++ (y.front ++ y.more)) (y.front ++ y.more) a (x.again (y.front ++ y.more)) ∙ y.reached;
  most = most;
}
  where
    short : left ≤ length middle
    short = omega (arith, y.left_is, ap length y.parts, length-append y.front y.rest)

    most : (p q z : List ℕ) (v : B) (w : List ℕ) → AreBytes z → bytes ≡ p ++ q → chosen_by r f (p ++ z) ≡ Some (v, w) → left ≤ length q
    most p q z v w zs cut h = elim (cuts x.text middle p q (sym x.parts ∙ cut)) [
      | inl e ↦
          let there : r (p ++ z) ≡ Some (a, e.0 ++ z) = ap (λ (u : List ℕ). r (u ++ z)) e.1.0 ∙ ap r (append_assoc x.text e.0 z) ∙ x.again (e.0 ++ z) in
          y.most e.0 q z v w zs e.1.1 (sym (chosen_read r f (p ++ z) (e.0 ++ z) a there) ∙ h)
      | inr e ↦ omega (arith, short, ap length e.1.1, length-append e.0 middle)
    ]

chosen_refused : {A B : Type 0} (o : Result (A × List ℕ) ℕ) (g : A → Scan B) (left : ℕ) → then_scan o g ≡ Err left
    → (o ≡ Err left) ⊎ ((a : A) × ((middle : List ℕ) × ((o ≡ Ok (a, middle)) × (g a middle ≡ Err left))))
chosen_refused (Err l) g left h = inl (let e : l ≡ left = cc in ap (λ (n : ℕ). Err n) e)
chosen_refused (Ok p) g left h = inr (p.0, (p.1, (refl, h)))

chosen_ok : {A B : Type 0} (o : Result (A × List ℕ) ℕ) (g : A → Scan B) (v : B) (rest : List ℕ) → then_scan o g ≡ Ok (v, rest)
    → (a : A) × ((middle : List ℕ) × ((o ≡ Ok (a, middle)) × (g a middle ≡ Ok (v, rest))))
chosen_ok (Err l) g v rest h = absurd cc
chosen_ok (Ok p) g v rest h = (p.0, (p.1, (refl, h)))

pub chosen_scan : {A B : Type 0} (r : Reader A) (f : A → Reader B) (s : Scan A) (g : A → Scan B) → IsScan r s → ((a : A) → IsScan (f a) (g a)) → IsScan (chosen_by r f) (λ bytes. then_scan (s bytes) g)
chosen_scan {A} {B} r f s g x y = record {
  steady = chosen_steady r f x.steady (λ a. (y a).steady);
  sample =
      let sx : Sample r = x.sample in
      let sy : Sample (f sx.value) = (y sx.value).sample in
      record {
        value = sy.value;
        text = sx.text ++ sy.text;
        bytes = AreBytes-append sx.text sy.text sx.bytes sy.bytes;
        reads = chosen_read r f (sx.text ++ sy.text) sy.text sx.value (reads_on r sx.text sx.value x.steady sx.reads sy.text) ∙ sy.reads;
      };
  found = λ bytes v rest h.
      let e = chosen_ok (s bytes) g v rest h in
      chosen_read r f bytes e.1.0 e.0 (x.found bytes e.0 e.1.0 e.1.1.0) ∙ (y e.0).found e.1.0 v rest e.1.1.1;
  stuck = stuck;
}
  where
    stuck : (bytes : List ℕ) (left : ℕ) → AreBytes bytes → then_scan (s bytes) g ≡ Err left → IsStuck (chosen_by r f) bytes left
    stuck bytes left fits h = elim (chosen_refused (s bytes) g left h) [
      | inl e ↦ chosen_first r f bytes left x.steady (λ a. (y a).sample) (x.stuck bytes left fits e)
      | inr e ↦
          let first : r bytes ≡ Some (e.0, e.1.0) = x.found bytes e.0 e.1.0 e.1.1.0 in
          chosen_second r f bytes e.0 e.1.0 left (x.steady.fronts bytes e.0 e.1.0 first) first ((y e.0).stuck e.1.0 left (behind_bytes r bytes e.0 e.1.0 (x.steady.fronts bytes e.0 e.1.0 first) fits) e.1.1.1)
    ]

-- ---- so many values

pub many_scan : {A : Type 0} (r : Reader A) (s : Scan A) → IsScan r s → (k : ℕ) → IsScan (read_many r k) (scan_many s k)
many_scan r s x zero = scan_made []
many_scan r s x (suc k) = scan_both _ _ _ _ (scan_both _ _ _ _ (scan_made (λ a rest. a ∷ rest)) x) (many_scan r s x k)

-- ---- so many bytes

abbrev cons_byte : Reader (List ℕ → List ℕ)
cons_byte = make (λ a rest. a ∷ rest) and read_byte

consed : (b : ℕ) (bytes : List ℕ) → cons_byte (b ∷ bytes) ≡ Some ((λ rest. b ∷ rest), bytes)
consed b bytes = ap (λ (n : ℕ). let f : List ℕ → List ℕ = λ rest. n ∷ rest in some_of f bytes) (zero-add b)

pub bytes_taken : (text more : List ℕ) → read_bytes (length text) (text ++ more) ≡ Some (text, more)
bytes_taken [] more = refl
bytes_taken (b ∷ text) more = both_read cons_byte (read_bytes (length text)) (b ∷ (text ++ more)) (text ++ more) more (λ rest. b ∷ rest) text (consed b (text ++ more)) (bytes_taken text more)

pub bytes_parts : (k : ℕ) (bytes v rest : List ℕ) → read_bytes k bytes ≡ Some (v, rest) → (bytes ≡ v ++ rest) × (length v ≡ k)
bytes_parts zero bytes v rest h =
    let e = some_pair [] v bytes rest h in
    (e.1 ∙ ap (λ (w : List ℕ). w ++ rest) e.0, ap length (sym e.0))
bytes_parts (suc k) [] v rest h = absurd (let b : Both (cons_byte []) (read_bytes k) v rest = both_parts (cons_byte []) (read_bytes k) v rest h in let e : None ≡ some_of b.made b.middle = b.first in cc)
bytes_parts (suc k) (b ∷ bytes) v rest h =
    let x : Both (cons_byte (b ∷ bytes)) (read_bytes k) v rest = both_parts (cons_byte (b ∷ bytes)) (read_bytes k) v rest h in
    let f : List ℕ → List ℕ = λ w. b ∷ w in
    let same = some_pair x.made f x.middle bytes (sym x.first ∙ consed b bytes) in
    let later = bytes_parts k x.middle x.part rest x.second in
    let value : v ≡ b ∷ x.part = x.value ∙ ap (λ (g : List ℕ → List ℕ). g x.part) same.0 in
    (ap (λ (w : List ℕ). b ∷ w) (sym same.1 ∙ later.0) ∙ ap (λ (w : List ℕ). w ++ rest) (sym value), ap length value ∙ omega (arith, later.1))

zeros_are_bytes : (k : ℕ) → AreBytes (replicate k 0)
zeros_are_bytes zero = tt
zeros_are_bytes (suc k) = (omega arith, zeros_are_bytes k)

bytes_steady : (k : ℕ) → IsSteady (read_bytes k)
bytes_steady k = record {
  fronts = λ bytes v rest h.
      let e = bytes_parts k bytes v rest h in
      record { text = v; parts = e.0; again = λ more. ap (λ (n : ℕ). read_bytes n (v ++ more)) (sym e.1) ∙ bytes_taken v more };
}

-- a list that is not longer is completed by zeros
filled : (k : ℕ) (bytes : List ℕ) → length bytes ≤ k → read_bytes k (bytes ++ replicate (k - length bytes) 0) ≡ Some (bytes ++ replicate (k - length bytes) 0, [])
filled k bytes short =
    let zeros : List ℕ = replicate (k - length bytes) 0 in
    let len : length (bytes ++ zeros) ≡ k = omega (arith, length-append bytes zeros, length-replicate {A = ℕ} (k - length bytes) 0) in
    ap (λ (n : ℕ). read_bytes n (bytes ++ zeros)) (sym len) ∙ ap (read_bytes (length (bytes ++ zeros))) (sym (append-nil (bytes ++ zeros))) ∙ bytes_taken (bytes ++ zeros) []

too_few : (k : ℕ) (bytes : List ℕ) → length bytes < k → read_bytes k bytes ≡ None
too_few k bytes short = go (read_bytes k bytes) refl
  where
    go : (o : Option (List ℕ × List ℕ)) → read_bytes k bytes ≡ o → read_bytes k bytes ≡ None
    go None e = e
    go (Some p) e =
        let parts = bytes_parts k bytes p.0 p.1 e in
        absurd (omega (arith, short, parts.1, ap length parts.0, length-append p.0 p.1))

pub bytes_scan : (k : ℕ) → IsScan (read_bytes k) (scan_bytes k)
bytes_scan k = record {
  steady = bytes_steady k;
  sample = record { value = [] ++ replicate (k - 0) 0; text = [] ++ replicate (k - 0) 0; bytes = zeros_are_bytes (k - 0); reads = filled k [] (omega arith) };
  found = λ bytes v rest h. found bytes v rest (nat_le k (length bytes)) refl h;
  stuck = λ bytes left fits h. stuck bytes left (nat_le k (length bytes)) refl h;
}
  where
    found : (bytes v rest : List ℕ) (t : Bool) → nat_le k (length bytes) ≡ t → cond t (ok_of (take k bytes) (drop k bytes)) (Err 0) ≡ Ok (v, rest) → read_bytes k bytes ≡ Some (v, rest)
    found bytes v rest false e h = absurd cc
    found bytes v rest true e h =
        let same = ok_pair (take k bytes) v (drop k bytes) rest h in
        let fits : k ≤ length bytes = grind (arith, nat_tests) in
        let len : length (take k bytes) ≡ k = omega (arith, length-take {A = ℕ} k bytes, fits) in
        ap (read_bytes k) (sym (take-append-drop k bytes)) ∙ ap (λ (n : ℕ). read_bytes n (take k bytes ++ drop k bytes)) (sym len) ∙ bytes_taken (take k bytes) (drop k bytes)
        ∙ ap (λ (w : List ℕ). some_of w (drop k bytes)) same.0 ∙ ap (λ (w : List ℕ). some_of v w) same.1

    stuck : (bytes : List ℕ) (left : ℕ) (t : Bool) → nat_le k (length bytes) ≡ t → cond t (ok_of (take k bytes) (drop k bytes)) (Err 0) ≡ Err left → IsStuck (read_bytes k) bytes left
    stuck bytes left true e h = absurd cc
    stuck bytes left false e h =
        let short : length bytes < k = grind (arith, nat_tests) in
        let end : 0 ≡ left = cc in
        record {
          none = too_few k bytes short;
          front = bytes;
          rest = [];
          parts = sym (append-nil bytes);
          left_is = end;
          more = replicate (k - length bytes) 0;
          more_bytes = zeros_are_bytes (k - length bytes);
          value = bytes ++ replicate (k - length bytes) 0;
          reached = filled k bytes (omega (arith, short));
          most = λ p q z v w zs cut r. omega (arith, end);
        }
