-- From the scan of a sort of texts, and from what is read being written so: its laws, what a decoder finds, and the place of a fault.
use Rattle.std.proofs.Common.{◌≡◌, ℕ, ◌≤◌, ◌-◌, Some, None, Ok, Err, List, [], ◌++◌, length, take, drop, inl, inr, refl, sym, ap, subst, ◌∙◌, length-append, length-drop, arith}
use Rattle.std.proofs.lemmas.List.{append-nil, take_at, take-append-drop, nil_from_length}
use Rattle.tp_names.specs.Grammar.{Grammar, HasText, Begins, IsOpen, IsBadAt, IsReadBack, IsWritten, IsPrefixFree, IsGrammar}
use Rattle.tp_names.specs.Scanning.{Scan}
use Rattle.tp_names.specs.Places.{AreBytes, Front, IsSteady, IsStuck, IsScan, IsWrittenBy}
use Rattle.tp_names.proofs.Sequences.{some_of, some_pair, cuts, reads_on, AreBytes-append, AreBytes-front}

-- of one text and one rest
text_is : (a b rest : List ℕ) → a ++ rest ≡ b ++ rest → a ≡ b
text_is a b rest same = elim (cuts a rest b rest same) [
  | inl e ↦
      let none : e.0 ≡ [] = nil_from_length e.0 (omega (arith, ap length e.1.1, length-append e.0 rest)) in
      sym (append-nil a) ∙ ap (λ (w : List ℕ). a ++ w) (sym none) ∙ sym e.1.0
  | inr e ↦
      let none : e.0 ≡ [] = nil_from_length e.0 (omega (arith, ap length e.1.1, length-append e.0 rest)) in
      e.1.0 ∙ ap (λ (w : List ℕ). b ++ w) none ∙ append-nil b
]

pub is_read_back : {A : Type 0} (g : Grammar A) → IsSteady g.reader → IsReadBack g
is_read_back g steady v rest h = reads_on g.reader (g.bytes v) v steady h rest

pub is_prefix_free : {A : Type 0} (g : Grammar A) → IsSteady g.reader → IsPrefixFree g
is_prefix_free g steady v w rest hv hw same =
    (some_pair v w rest [] (sym (is_read_back g steady v rest hv) ∙ ap g.reader same ∙ hw)).1

pub is_written : {A : Type 0} (g : Grammar A) → IsSteady g.reader → IsWrittenBy g.bytes g.reader → IsWritten g
is_written {A} g steady x v bytes rest fits h =
    let f : Front g.reader bytes v rest = steady.fronts bytes v rest h in
    let e : bytes ≡ g.bytes v ++ rest = x.spelled bytes v rest fits h in
    let text : f.text ≡ g.bytes v = text_is f.text (g.bytes v) rest (sym f.parts ∙ e) in
    let read : g.reader f.text ≡ Some (v, []) = ap g.reader (sym (append-nil f.text)) ∙ f.again [] in
    (ap g.reader (sym text) ∙ read, e)

pub is_grammar : {A : Type 0} (g : Grammar A) → IsSteady g.reader → IsWrittenBy g.bytes g.reader → IsGrammar g
is_grammar g steady x = record { read_back = is_read_back g steady; written = is_written g steady x; prefix_free = is_prefix_free g steady }

-- what a decoder finds
pub begins : {A : Type 0} (g : Grammar A) (s : Scan A) → IsScan g.reader s → IsWrittenBy g.bytes g.reader → (bytes : List ℕ) (v : A) (rest : List ℕ) → AreBytes bytes → s bytes ≡ Ok (v, rest)
    → Begins g v (length bytes - length rest) bytes
begins g s scan x bytes v rest fits h =
    let w = is_written g scan.steady x v bytes rest fits (scan.found bytes v rest h) in
    let len : length bytes - length rest ≡ length (g.bytes v) = omega (arith, ap length w.1, length-append (g.bytes v) rest) in
    let front : take (length bytes - length rest) bytes ≡ g.bytes v =
    ap (λ (n : ℕ). take n bytes) len ∙ ap (take (length (g.bytes v))) w.1 ∙ take_at (g.bytes v) rest (length (g.bytes v)) refl in
    (omega arith, (w.0, sym front))

pub left_is_within : {A : Type 0} (g : Grammar A) (s : Scan A) → IsScan g.reader s → (bytes : List ℕ) (left : ℕ) → AreBytes bytes → s bytes ≡ Err left → left ≤ length bytes
left_is_within g s scan bytes left fits h =
    let x : IsStuck g.reader bytes left = scan.stuck bytes left fits h in
    omega (arith, ap length x.parts, length-append x.front x.rest, x.left_is)

-- and where it stops
pub is_bad : {A : Type 0} (g : Grammar A) (s : Scan A) → IsScan g.reader s → IsWrittenBy g.bytes g.reader → (bytes : List ℕ) (left : ℕ) → AreBytes bytes → s bytes ≡ Err left
    → IsBadAt g bytes (length bytes - left)
is_bad {A} g s scan y bytes left fits h = record {
  no_text = no_text;
  within = omega arith;
  reached = (x.value, x.more, x.more_bytes, (whole.0, sym whole.1 ∙ ap (λ (w : List ℕ). w ++ x.more) (sym front)));
  most = most;
}
  where
    x : IsStuck g.reader bytes left
    x = scan.stuck bytes left fits h

    len : length bytes - left ≡ length x.front
    len = omega (arith, ap length x.parts, length-append x.front x.rest, x.left_is)

    front : take (length bytes - left) bytes ≡ x.front
    front = ap (λ (n : ℕ). take n bytes) len ∙ ap (take (length x.front)) x.parts ∙ take_at x.front x.rest (length x.front) refl

    bytes_in_front : AreBytes x.front
    bytes_in_front = let P : List ℕ → Type 0 = λ w. AreBytes w in AreBytes-front x.front x.rest (subst P x.parts fits)

    whole : HasText g x.value × (x.front ++ x.more ≡ g.bytes x.value)
    whole =
        let w = is_written g scan.steady y x.value (x.front ++ x.more) [] (AreBytes-append x.front x.more bytes_in_front x.more_bytes) x.reached in
        (w.0, w.1 ∙ append-nil (g.bytes x.value))

    no_text : (v : A) (n : ℕ) → Begins g v n bytes → ⊥
    no_text v n b =
        let read : g.reader (g.bytes v ++ drop n bytes) ≡ Some (v, drop n bytes) = is_read_back g scan.steady v (drop n bytes) b.1.0 in
        let same : g.bytes v ++ drop n bytes ≡ bytes = ap (λ (w : List ℕ). w ++ drop n bytes) b.1.1 ∙ take-append-drop n bytes in
        let clash : None ≡ some_of v (drop n bytes) = sym x.none ∙ ap g.reader (sym same) ∙ read in
        cc

    most : (n : ℕ) → n ≤ length bytes → IsOpen g (take n bytes) → n ≤ length bytes - left
    most n le open_at =
        let v : A = open_at.0 in
        let read : g.reader (take n bytes ++ open_at.1) ≡ Some (v, []) = ap g.reader (sym open_at.3.1) ∙ open_at.3.0 in
        let l : left ≤ length (drop n bytes) = x.most (take n bytes) (drop n bytes) open_at.1 v [] open_at.2 (sym (take-append-drop n bytes)) read in
        omega (arith, l, le, length-drop {A = ℕ} n bytes)

-- where places are told in part alone: no front is a text
pub no_text : {A : Type 0} (g : Grammar A) → IsSteady g.reader → (bytes : List ℕ) → g.reader bytes ≡ None → (v : A) (n : ℕ) → Begins g v n bytes → ⊥
no_text {A} g steady bytes none v n b =
    let read : g.reader (g.bytes v ++ drop n bytes) ≡ Some (v, drop n bytes) = is_read_back g steady v (drop n bytes) b.1.0 in
    let same : g.bytes v ++ drop n bytes ≡ bytes = ap (λ (w : List ℕ). w ++ drop n bytes) b.1.1 ∙ take-append-drop n bytes in
    let clash : None ≡ some_of v (drop n bytes) = sym none ∙ ap g.reader (sym same) ∙ read in
    cc

pub begins_by : {A : Type 0} (g : Grammar A) → IsSteady g.reader → IsWrittenBy g.bytes g.reader → (bytes : List ℕ) (v : A) (rest : List ℕ) → AreBytes bytes → g.reader bytes ≡ Some (v, rest)
    → Begins g v (length bytes - length rest) bytes
begins_by g steady x bytes v rest fits h =
    let w = is_written g steady x v bytes rest fits h in
    let len : length bytes - length rest ≡ length (g.bytes v) = omega (arith, ap length w.1, length-append (g.bytes v) rest) in
    let front : take (length bytes - length rest) bytes ≡ g.bytes v =
    ap (λ (n : ℕ). take n bytes) len ∙ ap (take (length (g.bytes v))) w.1 ∙ take_at (g.bytes v) rest (length (g.bytes v)) refl in
    (omega arith, (w.0, sym front))
