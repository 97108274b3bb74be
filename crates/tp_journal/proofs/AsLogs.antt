-- A file that stands for the bodies of records is a log of these records, and a log stands for its records' bodies.
use Rattle.std.proofs.Common.{◌≡◌, inl, inr, ℕ, ◌+◌, ◌/◌, ◌%◌, ◌<◌, ◌^◌, Bool, true, false, List, [], ◌∷◌, ◌++◌, length, refl, sym, ap, ◌∙◌, subst, arith, append_assoc}
use Rattle.std.specs.List.{AllByRecursion}
use Rattle.tp_names.specs.Bytes.{long_bytes}
use Rattle.tp_logrec.specs.declared.record.LogRec.{LogRec}
use Rattle.tp_logrec.specs.declared.record.LogVersion.{LogVersion}
use Rattle.tp_logrec.specs.LogText.{framed, log_text, records_text, HaveBodies, IsFront, IsBack, IsLog}
use Rattle.tp_journal.specs.Log.{counted, blocks, head, StandsInFront, StandsBehind, StandsFor}
use Rattle.tp_journal.specs.Records.{version_of, HasText, text, texts, bodies_of}
use Rattle.tp_journal.proofs.Sizes.{text_is_body, bodies_are}

framed_is : (body more : List ℕ) → length body < 2 ^ 16 → counted body ++ more ≡ framed body ++ more
framed_is body more short =
    let high : length body / 256 ≡ length body / 256 % 256 = omega arith in
    ap (λ (n : ℕ). n ∷ length body % 256 ∷ (body ++ more)) high

texts_text : (wide : Bool) (rs : List LogRec) → AllByRecursion (HasText wide) rs → blocks (texts wide rs) ≡ records_text (version_of wide) rs
texts_text wide [] each = refl
texts_text wide (r ∷ rs) each =
    ap (λ (l : List ℕ). 1 ∷ l) (ap (λ (l : List ℕ). counted (text wide r) ++ l) (texts_text wide rs each.1)
    ∙ framed_is (text wide r) (records_text (version_of wide) rs) (text_is_body wide r each.0).1)

pub bodies_text : (wide : Bool) (rs : List LogRec) → AllByRecursion (HasText wide) rs → blocks (bodies_of wide rs) ≡ log_text (version_of wide) rs
bodies_text false rs each = texts_text false rs each
bodies_text true rs each = ap (λ (l : List ℕ). 1 ∷ 0 ∷ 2 ∷ 7 ∷ 2 ∷ l) (texts_text true rs each)

have_bodies : (wide : Bool) (rs : List LogRec) → AllByRecursion (HasText wide) rs → HaveBodies (version_of wide) rs
have_bodies wide [] each = tt
have_bodies wide (r ∷ rs) each = (record { text = each.0; short = (text_is_body wide r each.0).1 }, have_bodies wide rs each.1)

have_texts : (wide : Bool) (rs : List LogRec) → HaveBodies (version_of wide) rs → AllByRecursion (HasText wide) rs
have_texts wide [] have = tt
have_texts wide (r ∷ rs) have = (have.0.text, have_texts wide rs have.1)

module _ (file : List ℕ) (wide : Bool) (rs : List LogRec) (each : AllByRecursion (HasText wide) rs) where
  is_front : StandsInFront file (bodies_of wide rs) → IsFront file rs
  is_front s = record {
    selector = s.selector;
    text = log_text (version_of wide) rs ++ s.gate ∷ s.rest;
    other = s.selects;
    is = s.whole ∙ append_assoc (head s.selector) (blocks (bodies_of wide rs)) (s.gate ∷ s.rest) ∙ ap (λ (l : List ℕ). head s.selector ++ (l ++ s.gate ∷ s.rest)) (bodies_text wide rs each);
    listed = record { version = version_of wide; gate = s.gate; rest = s.rest; bodies = have_bodies wide rs each; closed = s.closed; is = refl };
  }

  is_back : StandsBehind file (bodies_of wide rs) → IsBack file rs
  is_back s = record {
    front = s.front;
    version = version_of wide;
    gate = s.gate;
    rest = s.rest;
    bodies = have_bodies wide rs each;
    closed = s.closed;
    is = s.whole ∙ ap (λ (l : List ℕ). head 2 ++ s.front ++ l ++ (s.gate ∷ s.rest) ++ long_bytes (5 + length s.front)) (bodies_text wide rs each);
    fits = omega (arith, s.fits, ap length (bodies_text wide rs each));
  }

  pub is_log : StandsFor file (bodies_of wide rs) → IsLog file rs
  is_log (inl s) = inl (is_front s)
  is_log (inr s) = inr (is_back s)

  pub in_front : (selector gate : ℕ) (rest : List ℕ) → file ≡ head selector ++ (log_text (version_of wide) rs ++ gate ∷ rest) → file ≡ head selector ++ blocks (bodies_of wide rs) ++ gate ∷ rest
  in_front selector gate rest is =
      is ∙ ap (λ (l : List ℕ). head selector ++ (l ++ gate ∷ rest)) (sym (bodies_text wide rs each)) ∙ sym (append_assoc (head selector) (blocks (bodies_of wide rs)) (gate ∷ rest))

abbrev wide_in : LogVersion → Bool
wide_in LogVersion.One = false
wide_in LogVersion.Two = true

version_is : (version : LogVersion) → version_of (wide_in version) ≡ version
version_is LogVersion.One = refl
version_is LogVersion.Two = refl

abbrev Stands : List ℕ → List LogRec → Type 0
Stands file rs = (wide : Bool) × AllByRecursion (HasText wide) rs × StandsFor file (bodies_of wide rs)

front_stands : (file : List ℕ) (rs : List LogRec) → IsFront file rs → Stands file rs
front_stands file rs f =
    let l = f.listed in
    let wide = wide_in l.version in
    let each = have_texts wide rs (subst (λ v. HaveBodies v rs) (sym (version_is l.version)) l.bodies) in
    let is : file ≡ head f.selector ++ (log_text (version_of wide) rs ++ l.gate ∷ l.rest) =
    f.is ∙ ap (λ (t : List ℕ). head f.selector ++ t) l.is ∙ ap (λ v. head f.selector ++ (log_text v rs ++ l.gate ∷ l.rest)) (sym (version_is l.version)) in (
      wide,
      each,
      inl (record {
        selector = f.selector;
        gate = l.gate;
        rest = l.rest;
        whole = in_front file wide rs each f.selector l.gate l.rest is;
        selects = f.other;
        closed = l.closed;
        each = bodies_are wide rs each;
      }),
    )

back_stands : (file : List ℕ) (rs : List LogRec) → IsBack file rs → Stands file rs
back_stands file rs b =
    let wide = wide_in b.version in
    let each = have_texts wide rs (subst (λ v. HaveBodies v rs) (sym (version_is b.version)) b.bodies) in
    let same : log_text b.version rs ≡ blocks (bodies_of wide rs) = ap (λ v. log_text v rs) (sym (version_is b.version)) ∙ sym (bodies_text wide rs each) in (
      wide,
      each,
      inr (record {
        front = b.front;
        gate = b.gate;
        rest = b.rest;
        whole = b.is ∙ ap (λ (t : List ℕ). head 2 ++ b.front ++ t ++ (b.gate ∷ b.rest) ++ long_bytes (5 + length b.front)) same;
        fits = omega (arith, b.fits, ap length same);
        closed = b.closed;
        each = bodies_are wide rs each;
      }),
    )

pub stands : (file : List ℕ) (rs : List LogRec) → IsLog file rs → Stands file rs
stands file rs (inl f) = front_stands file rs f
stands file rs (inr b) = back_stands file rs b
