-- Readers that go by their first byte, each in its own way.
use Rattle.std.proofs.Common.{◌≡◌, ℕ, suc, ◌≤◌, ◌⊎◌, inl, inr, Some, None, Ok, Err, List, [], ◌∷◌, ◌++◌, length, refl, sym, ap, ◌∙◌, length-append, arith}
use Rattle.tp_names.specs.Reading.{Reader}
use Rattle.tp_names.specs.Scanning.{Scan}
use Rattle.tp_names.specs.Places.{AreBytes, Front, Sample, IsStuck, IsScan}

pub record GoesBy {A : Type 0} (r : Reader A) (each : ℕ → Reader A) : Type 0 where
  pub none : r [] ≡ None
  pub some : (b : ℕ) (bytes : List ℕ) → r (b ∷ bytes) ≡ each b bytes

pub record ScansBy {A : Type 0} (s : Scan A) (each : ℕ → Scan A) : Type 0 where
  pub none : s [] ≡ Err 0
  pub some : (b : ℕ) (bytes : List ℕ) → s (b ∷ bytes) ≡ each b bytes

-- nothing is read after this byte
pub record Refuses {A : Type 0} (r : Reader A) (s : Scan A) : Type 0 where
  pub reads : (bytes : List ℕ) → r bytes ≡ None
  pub scanned : (bytes : List ℕ) → s bytes ≡ Err (suc (length bytes))

pub first_scan : {A : Type 0} (r : Reader A) (rs : ℕ → Reader A) (s : Scan A) (ss : ℕ → Scan A)
    → GoesBy r rs → ScansBy s ss → ((b : ℕ) → IsScan (rs b) (ss b) ⊎ Refuses (rs b) (ss b)) → Sample r → IsScan r s
first_scan {A} r rs s ss gr gs each sample = record {
  steady = record { fronts = fronts };
  sample = sample;
  found = found;
  stuck = stuck;
}
  where
    fronts : (bytes : List ℕ) (v : A) (rest : List ℕ) → r bytes ≡ Some (v, rest) → Front r bytes v rest
    fronts [] v rest h = absurd (let e : r [] ≡ None = gr.none in cc)
    fronts (b ∷ bytes) v rest h = elim (each b) [
      | inl x ↦
          let f : Front (rs b) bytes v rest = x.steady.fronts bytes v rest (sym (gr.some b bytes) ∙ h) in
          record { text = b ∷ f.text; parts = ap (λ (w : List ℕ). b ∷ w) f.parts; again = λ more. gr.some b (f.text ++ more) ∙ f.again more }
      | inr x ↦ absurd (let e : r (b ∷ bytes) ≡ None = gr.some b bytes ∙ x.reads bytes in cc)
    ]

    found : (bytes : List ℕ) (v : A) (rest : List ℕ) → s bytes ≡ Ok (v, rest) → r bytes ≡ Some (v, rest)
    found [] v rest h = absurd (let e : s [] ≡ Err 0 = gs.none in cc)
    found (b ∷ bytes) v rest h = elim (each b) [
      | inl x ↦ gr.some b bytes ∙ x.found bytes v rest (sym (gs.some b bytes) ∙ h)
      | inr x ↦ absurd (let e : s (b ∷ bytes) ≡ Err (suc (length bytes)) = gs.some b bytes ∙ x.scanned bytes in cc)
    ]

    refused_most : (b : ℕ) (bytes : List ℕ) → Refuses (rs b) (ss b) → (p q z : List ℕ) (v : A) (w : List ℕ) → b ∷ bytes ≡ p ++ q → r (p ++ z) ≡ Some (v, w) → suc (length bytes) ≤ length q
    refused_most b bytes x [] q z v w cut h = omega (arith, ap length cut)
    refused_most b bytes x (y ∷ p) q z v w cut h =
        let same : b ≡ y = cc in
        let nothing : r (y ∷ (p ++ z)) ≡ None = ap (λ (n : ℕ). r (n ∷ (p ++ z))) (sym same) ∙ gr.some b (p ++ z) ∙ x.reads (p ++ z) in
        absurd cc

    inner_most : (b : ℕ) (bytes : List ℕ) (left : ℕ) → IsStuck (rs b) bytes left → (p q z : List ℕ) (v : A) (w : List ℕ) → AreBytes z → b ∷ bytes ≡ p ++ q → r (p ++ z) ≡ Some (v, w) → left ≤ length q
    inner_most b bytes left x [] q z v w zs cut h = omega (arith, ap length cut, ap length x.parts, length-append x.front x.rest, x.left_is)
    inner_most b bytes left x (y ∷ p) q z v w zs cut h =
        let same : b ≡ y = cc in
        let tails : bytes ≡ p ++ q = cc in
        x.most p q z v w zs tails (sym (gr.some b (p ++ z)) ∙ ap (λ (n : ℕ). r (n ∷ (p ++ z))) same ∙ h)

    stuck : (bytes : List ℕ) (left : ℕ) → AreBytes bytes → s bytes ≡ Err left → IsStuck r bytes left
    stuck [] left fits h =
        let e : s [] ≡ Err 0 = gs.none in
        let end : 0 ≡ left = cc in
        record {
          none = gr.none;
          front = [];
          rest = [];
          parts = refl;
          left_is = end;
          more = sample.text;
          more_bytes = sample.bytes;
          value = sample.value;
          reached = sample.reads;
          most = λ p q z v w zs cut h. omega (arith, end);
        }
    stuck (b ∷ bytes) left fits h = elim (each b) [
      | inl x ↦
          let k : IsStuck (rs b) bytes left = x.stuck bytes left fits.1 (sym (gs.some b bytes) ∙ h) in
          record {
            none = gr.some b bytes ∙ k.none;
            front = b ∷ k.front;
            rest = k.rest;
            parts = ap (λ (w : List ℕ). b ∷ w) k.parts;
            left_is = k.left_is;
            more = k.more;
            more_bytes = k.more_bytes;
            value = k.value;
            reached = gr.some b (k.front ++ k.more) ∙ k.reached;
            most = inner_most b bytes left k;
          }
      | inr x ↦
          let e : s (b ∷ bytes) ≡ Err (suc (length bytes)) = gs.some b bytes ∙ x.scanned bytes in
          let place : suc (length bytes) ≡ left = cc in
          record {
            none = gr.some b bytes ∙ x.reads bytes;
            front = [];
            rest = b ∷ bytes;
            parts = refl;
            left_is = place;
            more = sample.text;
            more_bytes = sample.bytes;
            value = sample.value;
            reached = sample.reads;
            most = λ p q z v w zs cut h. let l : suc (length bytes) ≤ length q = refused_most b bytes x p q z v w cut h in omega (arith, l, place);
          }
    ]
