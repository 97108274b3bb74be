-- Scans of a value that says how the next is read, where that stands only for values that are read; and scans that give the same.
use Rattle.std.proofs.Common.{◌≡◌, ℕ, Option, Some, Result, Ok, Err, List, [], ◌++◌, length, ◌⊎◌, inl, inr, refl, sym, ap, ◌∙◌, append_assoc, length-append, arith}
use Rattle.tp_names.specs.Reading.{Reader, then_read, chosen_by}
use Rattle.tp_names.specs.Scanning.{Scan, then_scan}
use Rattle.tp_names.specs.Places.{AreBytes, Front, Sample, IsStuck, IsScan}
use Rattle.tp_names.proofs.Sequences.{cuts, AreBytes-append, behind_bytes, reads_on}
use Rattle.tp_names.proofs.Choices.{Chosen, chosen_parts}

-- for each value that is read, what is read next
pub record Follows {A B : Type 0} (r : Reader A) (f : A → Reader B) (g : A → Scan B) : Type 0 where
  pub next : (bytes : List ℕ) (a : A) (rest : List ℕ) → r bytes ≡ Some (a, rest) → IsScan (f a) (g a)

pub chosen_read : {A B : Type 0} (r : Reader A) (f : A → Reader B) (bytes middle : List ℕ) (a : A) → r bytes ≡ Some (a, middle) → chosen_by r f bytes ≡ f a middle
chosen_read {A} r f bytes middle a first = ap (λ (o : Option (A × List ℕ)). then_read o f) first

chosen_refused : {A B : Type 0} (o : Result (A × List ℕ) ℕ) (g : A → Scan B) (left : ℕ) → then_scan o g ≡ Err left
    → (o ≡ Err left) ⊎ ((a : A) × ((middle : List ℕ) × ((o ≡ Ok (a, middle)) × (g a middle ≡ Err left))))
chosen_refused (Err l) g left h = inl (let e : l ≡ left = cc in ap (λ (n : ℕ). Err n) e)
chosen_refused (Ok p) g left h = inr (p.0, (p.1, (refl, h)))

chosen_ok : {A B : Type 0} (o : Result (A × List ℕ) ℕ) (g : A → Scan B) (v : B) (rest : List ℕ) → then_scan o g ≡ Ok (v, rest)
    → (a : A) × ((middle : List ℕ) × ((o ≡ Ok (a, middle)) × (g a middle ≡ Ok (v, rest))))
chosen_ok (Err l) g v rest h = absurd cc
chosen_ok (Ok p) g v rest h = (p.0, (p.1, (refl, h)))

pub chosen_within : {A B : Type 0} (r : Reader A) (f : A → Reader B) (s : Scan A) (g : A → Scan B) → IsScan r s → Follows r f g → IsScan (chosen_by r f) (λ bytes. then_scan (s bytes) g)
chosen_within {A} {B} r f s g x y = record {
  steady = record { fronts = fronts };
  sample =
      let sx : Sample r = x.sample in
      let sy : Sample (f sx.value) = (y.next sx.text sx.value [] sx.reads).sample in
      record {
        value = sy.value;
        text = sx.text ++ sy.text;
        bytes = AreBytes-append sx.text sy.text sx.bytes sy.bytes;
        reads = chosen_read r f (sx.text ++ sy.text) sy.text sx.value (reads_on r sx.text sx.value x.steady sx.reads sy.text) ∙ sy.reads;
      };
  found = λ bytes v rest h.
      let e = chosen_ok (s bytes) g v rest h in
      let first : r bytes ≡ Some (e.0, e.1.0) = x.found bytes e.0 e.1.0 e.1.1.0 in
      chosen_read r f bytes e.1.0 e.0 first ∙ (y.next bytes e.0 e.1.0 first).found e.1.0 v rest e.1.1.1;
  stuck = stuck;
}
  where
    fronts : (bytes : List ℕ) (v : B) (rest : List ℕ) → chosen_by r f bytes ≡ Some (v, rest) → Front (chosen_by r f) bytes v rest
    fronts bytes v rest h =
        let b : Chosen (r bytes) f v rest = chosen_parts (r bytes) f v rest h in
        let p : Front r bytes b.choice b.middle = x.steady.fronts bytes b.choice b.middle b.first in
        let q : Front (f b.choice) b.middle v rest = (y.next bytes b.choice b.middle b.first).steady.fronts b.middle v rest b.second in
        record {
          text = p.text ++ q.text;
          parts = p.parts ∙ ap (λ (w : List ℕ). p.text ++ w) q.parts ∙ sym (append_assoc p.text q.text rest);
          again = λ more. ap (chosen_by r f) (append_assoc p.text q.text more) ∙ chosen_read r f (p.text ++ (q.text ++ more)) (q.text ++ more) b.choice (p.again (q.text ++ more)) ∙ q.again more;
        }

    first_stuck : (bytes : List ℕ) (left : ℕ) → IsStuck r bytes left → IsStuck (chosen_by r f) bytes left
    first_stuck bytes left k =
        let n : Sample (f k.value) = (y.next (k.front ++ k.more) k.value [] k.reached).sample in
        record {
          none = ap (λ (o : Option (A × List ℕ)). then_read o f) k.none;
          front = k.front;
          rest = k.rest;
          parts = k.parts;
          left_is = k.left_is;
          more = k.more ++ n.text;
          more_bytes = AreBytes-append k.more n.text k.more_bytes n.bytes;
          value = n.value;
          reached = ap (chosen_by r f) (sym (append_assoc k.front k.more n.text)) ∙ chosen_read r f ((k.front ++ k.more) ++ n.text) n.text k.value (reads_on r (k.front ++ k.more) k.value x.steady k.reached n.text) ∙ n.reads;
          most = λ p q z v w zs cut h. let b : Chosen (r (p ++ z)) f v w = chosen_parts (r (p ++ z)) f v w h in k.most p q z b.choice b.middle zs cut b.first;
        }

    second_stuck : (bytes : List ℕ) (a : A) (middle : List ℕ) (left : ℕ) → Front r bytes a middle → r bytes ≡ Some (a, middle) → IsStuck (f a) middle left → IsStuck (chosen_by r f) bytes left
    second_stuck bytes a middle left k first n = record {
      none = chosen_read r f bytes middle a first ∙ n.none;
      front = k.text ++ n.front;
      rest = n.rest;
      parts = k.parts ∙ ap (λ (w : List ℕ). k.text ++ w) n.parts ∙ sym (append_assoc k.text n.front n.rest);
      left_is = n.left_is;
      more = n.more;
      more_bytes = n.more_bytes;
      value = n.value;
      reached = ap (chosen_by r f) (append_assoc k.text n.front n.more) ∙ chosen_read r f (k.text ++ (n.front ++ n.more)) (n.front ++ n.more) a (k.again (n.front ++ n.more)) ∙ n.reached;
      most = λ p q z v w zs cut h. elim (cuts k.text middle p q (sym k.parts ∙ cut)) [
        | inl e ↦
            let there : r (p ++ z) ≡ Some (a, e.0 ++ z) = ap (λ (u : List ℕ). r (u ++ z)) e.1.0 ∙ ap r (append_assoc k.text e.0 z) ∙ k.again (e.0 ++ z) in
            n.most e.0 q z v w zs e.1.1 (sym (chosen_read r f (p ++ z) (e.0 ++ z) a there) ∙ h)
        | inr e ↦ omega (arith, n.left_is, ap length n.parts, length-append n.front n.rest, ap length e.1.1, length-append e.0 middle)
      ];
    }

    stuck : (bytes : List ℕ) (left : ℕ) → AreBytes bytes → then_scan (s bytes) g ≡ Err left → IsStuck (chosen_by r f) bytes left
    stuck bytes left fits h = elim (chosen_refused (s bytes) g left h) [
      | inl e ↦ first_stuck bytes left (x.stuck bytes left fits e)
      | inr e ↦
          let first : r bytes ≡ Some (e.0, e.1.0) = x.found bytes e.0 e.1.0 e.1.1.0 in
          let k : Front r bytes e.0 e.1.0 = x.steady.fronts bytes e.0 e.1.0 first in
          second_stuck bytes e.0 e.1.0 left k first ((y.next bytes e.0 e.1.0 first).stuck e.1.0 left (behind_bytes r bytes e.0 e.1.0 k fits) e.1.1.1)
    ]

pub scan_as : {A : Type 0} (r : Reader A) (s t : Scan A) → IsScan r s → ((bytes : List ℕ) → t bytes ≡ s bytes) → IsScan r t
scan_as r s t x same = record {
  steady = x.steady;
  sample = x.sample;
  found = λ bytes v rest h. x.found bytes v rest (sym (same bytes) ∙ h);
  stuck = λ bytes left fits h. x.stuck bytes left fits (sym (same bytes) ∙ h);
}
