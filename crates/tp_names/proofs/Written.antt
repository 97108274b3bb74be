-- What is read of a value with so many parts is written so: `front` stands before it, as the code of a kind.
use Rattle.std.proofs.Common.{◌≡◌, ℕ, ◌==◌, Option, Some, None, List, [], ◌∷◌, ◌++◌, Bool, true, false, refl, sym, ap, subst, ◌∙◌, zero-add, append_assoc}
use Rattle.std.proofs.lemmas.Bool.{eqb-true}
use Rattle.tp_names.specs.Bytes.{maybe_bytes}
use Rattle.tp_names.specs.Reading.{Reader, make, ◌and◌, read_kind, read_by_code, read_maybe}
use Rattle.tp_names.specs.Places.{AreBytes, IsWrittenBy}
use Rattle.tp_names.proofs.Sequences.{some_pair, Both, both_parts, AreBytes-back}

-- what is read of a value is written so, after a front
pub record IsRowOf {A : Type 0} (write : A → List ℕ) (front : List ℕ) (r : Reader A) : Type 0 where
  pub spelled : (bytes : List ℕ) (v : A) (rest : List ℕ) → AreBytes bytes → r bytes ≡ Some (v, rest) → front ++ bytes ≡ write v ++ rest

pub row_0 : {V : Type 0} (write : V → List ℕ) (front : List ℕ) (v : V) → write v ≡ front → IsRowOf write front (make v)
row_0 write front c same = record {
  spelled = λ bytes v rest fits h.
      let e = some_pair c v bytes rest h in
      ap (λ (w : List ℕ). front ++ w) e.1 ∙ ap (λ (w : List ℕ). w ++ rest) (sym same ∙ ap write e.0);
}

-- a part is read, and the rest with the front after it
part : {A : Type 0} (write : A → List ℕ) (r : Reader A) → IsWrittenBy write r → (bytes : List ℕ) (a : A) (rest : List ℕ) → AreBytes bytes → r bytes ≡ Some (a, rest) → (bytes ≡ write a ++ rest) × AreBytes rest
part write r x bytes a rest fits h =
    let e : bytes ≡ write a ++ rest = x.spelled bytes a rest fits h in
    let P : List ℕ → Type 0 = λ w. AreBytes w in
    (e, AreBytes-back (write a) rest (subst P e fits))

pub row_1 : {A V : Type 0} (write : V → List ℕ) (front : List ℕ) (f : A → V) (wa : A → List ℕ) (ra : Reader A)
    → ((a : A) → write (f a) ≡ front ++ wa a) → IsWrittenBy wa ra → IsRowOf write front (make f and ra)
row_1 {A} {V} write front f wa ra same xa = record { spelled = spelled }
  where
    spelled : (bytes : List ℕ) (v : V) (rest : List ℕ) → AreBytes bytes → (make f and ra) bytes ≡ Some (v, rest) → front ++ bytes ≡ write v ++ rest
    spelled bytes v rest fits h =
        let b : Both (make f bytes) ra v rest = both_parts (make f bytes) ra v rest h in
        let e = some_pair f b.made bytes b.middle b.first in
        let a : ra bytes ≡ Some (b.part, rest) = ap ra e.1 ∙ b.second in
        let p = part wa ra xa bytes b.part rest fits a in
        let value : f b.part ≡ v = ap (λ (g : A → V). g b.part) e.0 ∙ sym b.value in
        ap (λ (w : List ℕ). front ++ w) p.0 ∙ sym (append_assoc front (wa b.part) rest) ∙ ap (λ (w : List ℕ). w ++ rest) (sym (same b.part) ∙ ap write value)

-- one part more: the text so far, with which each value of what the first parts make begins
pub record IsPartOf {A : Type 0} (Goes : A → List ℕ → Type 0) (front : List ℕ) (r : Reader A) : Type 0 where
  pub spelled : (bytes : List ℕ) (g : A) (rest : List ℕ) → AreBytes bytes → r bytes ≡ Some (g, rest) → (text : List ℕ) × ((front ++ bytes ≡ text ++ rest) × (AreBytes rest × Goes g text))

-- what is written of the value that so many more parts make is the text and theirs
abbrev pub Goes_0 : {V : Type 0} → (V → List ℕ) → V → List ℕ → Type 0
Goes_0 write v text = write v ≡ text

abbrev pub Goes_1 : {A V : Type 0} → (V → List ℕ) → (A → List ℕ) → (A → V) → List ℕ → Type 0
Goes_1 {A} write wa g text = (a : A) → write (g a) ≡ text ++ wa a

abbrev pub Goes_2 : {A B V : Type 0} → (V → List ℕ) → (A → List ℕ) → (B → List ℕ) → (A → B → V) → List ℕ → Type 0
Goes_2 {A} {B} write wa wb g text = (a : A) (b : B) → write (g a b) ≡ (text ++ wa a) ++ wb b

abbrev pub Goes_3 : {A B C V : Type 0} → (V → List ℕ) → (A → List ℕ) → (B → List ℕ) → (C → List ℕ) → (A → B → C → V) → List ℕ → Type 0
Goes_3 {A} {B} {C} write wa wb wc g text = (a : A) (b : B) (c : C) → write (g a b c) ≡ ((text ++ wa a) ++ wb b) ++ wc c

abbrev pub Goes_4 : {A B C D V : Type 0} → (V → List ℕ) → (A → List ℕ) → (B → List ℕ) → (C → List ℕ) → (D → List ℕ) → (A → B → C → D → V) → List ℕ → Type 0
Goes_4 {A} {B} {C} {D} write wa wb wc wd g text = (a : A) (b : B) (c : C) (d : D) → write (g a b c d) ≡ (((text ++ wa a) ++ wb b) ++ wc c) ++ wd d

made : {A : Type 0} (Goes : A → List ℕ → Type 0) (front : List ℕ) (f : A) → Goes f front → IsPartOf Goes front (make f)
made {A} Goes front f goes = record {
  spelled = λ bytes g rest fits h.
      let e = some_pair f g bytes rest h in
      let P : List ℕ → Type 0 = λ w. AreBytes w in
      let Q : A → Type 0 = λ k. Goes k front in
      (front, (ap (λ (w : List ℕ). front ++ w) e.1, (subst P e.1 fits, subst Q e.0 goes)));
}

further : {A B : Type 0} (Goes : (A → B) → List ℕ → Type 0) (After : B → List ℕ → Type 0) (wa : A → List ℕ) (front : List ℕ) (r : Reader (A → B)) (ra : Reader A)
    → ((g : A → B) (text : List ℕ) (a : A) → Goes g text → After (g a) (text ++ wa a)) → IsPartOf Goes front r → IsWrittenBy wa ra → IsPartOf After front (r and ra)
further {A} {B} Goes After wa front r ra step x xa = record { spelled = spelled }
  where
    spelled : (bytes : List ℕ) (v : B) (rest : List ℕ) → AreBytes bytes → (r and ra) bytes ≡ Some (v, rest) → (text : List ℕ) × ((front ++ bytes ≡ text ++ rest) × (AreBytes rest × After v text))
    spelled bytes v rest fits h =
        let b : Both (r bytes) ra v rest = both_parts (r bytes) ra v rest h in
        let e = x.spelled bytes b.made b.middle fits b.first in
        let p = part wa ra xa b.middle b.part rest e.1.1.0 b.second in
        let Q : B → Type 0 = λ k. After k (e.0 ++ wa b.part) in
        (e.0 ++ wa b.part, (e.1.0 ∙ ap (λ (w : List ℕ). e.0 ++ w) p.0 ∙ sym (append_assoc e.0 (wa b.part) rest), (p.1, subst Q (sym b.value) (step b.made e.0 b.part e.1.1.1))))

whole_row : {V : Type 0} (write : V → List ℕ) (front : List ℕ) (r : Reader V) → IsPartOf (Goes_0 write) front r → IsRowOf write front r
whole_row write front r x = record {
  spelled = λ bytes v rest fits h.
      let e = x.spelled bytes v rest fits h in
      e.1.0 ∙ ap (λ (w : List ℕ). w ++ rest) (sym e.1.1.1);
}

pub row_2 : {A B V : Type 0} (write : V → List ℕ) (front : List ℕ) (f : A → B → V) (wa : A → List ℕ) (wb : B → List ℕ) (ra : Reader A) (rb : Reader B)
    → Goes_2 write wa wb f front → IsWrittenBy wa ra → IsWrittenBy wb rb → IsRowOf write front (make f and ra and rb)
row_2 write front f wa wb ra rb same xa xb =
    whole_row write front _ (further (Goes_1 write wb) (Goes_0 write) wb front (make f and ra) rb (λ g text b goes. goes b)
    (further (Goes_2 write wa wb) (Goes_1 write wb) wa front (make f) ra (λ g text a goes b. goes a b) (made (Goes_2 write wa wb) front f same) xa) xb)

pub row_3 : {A B C V : Type 0} (write : V → List ℕ) (front : List ℕ) (f : A → B → C → V) (wa : A → List ℕ) (wb : B → List ℕ) (wc : C → List ℕ) (ra : Reader A) (rb : Reader B) (rc : Reader C)
    → Goes_3 write wa wb wc f front → IsWrittenBy wa ra → IsWrittenBy wb rb → IsWrittenBy wc rc → IsRowOf write front (make f and ra and rb and rc)
row_3 write front f wa wb wc ra rb rc same xa xb xc =
    whole_row write front _ (further (Goes_1 write wc) (Goes_0 write) wc front (make f and ra and rb) rc (λ g text c goes. goes c)
    (further (Goes_2 write wb wc) (Goes_1 write wc) wb front (make f and ra) rb (λ g text b goes c. goes b c)
    (further (Goes_3 write wa wb wc) (Goes_2 write wb wc) wa front (make f) ra (λ g text a goes b c. goes a b c) (made (Goes_3 write wa wb wc) front f same) xa) xb) xc)

pub row_4 : {A B C D V : Type 0} (write : V → List ℕ) (front : List ℕ) (f : A → B → C → D → V) (wa : A → List ℕ) (wb : B → List ℕ) (wc : C → List ℕ) (wd : D → List ℕ) (ra : Reader A) (rb : Reader B) (rc : Reader C) (rd : Reader D)
    → Goes_4 write wa wb wc wd f front → IsWrittenBy wa ra → IsWrittenBy wb rb → IsWrittenBy wc rc → IsWrittenBy wd rd → IsRowOf write front (make f and ra and rb and rc and rd)
row_4 write front f wa wb wc wd ra rb rc rd same xa xb xc xd =
    whole_row write front _ (further (Goes_1 write wd) (Goes_0 write) wd front (make f and ra and rb and rc) rd (λ g text d goes. goes d)
    (further (Goes_2 write wc wd) (Goes_1 write wd) wc front (make f and ra and rb) rc (λ g text c goes d. goes c d)
    (further (Goes_3 write wb wc wd) (Goes_2 write wc wd) wb front (make f and ra) rb (λ g text b goes c d. goes b c d)
    (further (Goes_4 write wa wb wc wd) (Goes_3 write wb wc wd) wa front (make f) ra (λ g text a goes b c d. goes a b c d) (made (Goes_4 write wa wb wc wd) front f same) xa) xb) xc) xd)

-- a value that is written with nothing before it
pub written_alone : {A : Type 0} (write : A → List ℕ) (r : Reader A) → IsRowOf write [] r → IsWrittenBy write r
written_alone write r x = record { spelled = λ bytes v rest fits h. x.spelled bytes v rest fits h }

-- ---- codes

-- each row of a table is written after its code
abbrev pub RowsWritten : {A : Type 0} → (A → List ℕ) → List (ℕ × Reader A) → Type 0
RowsWritten write [] = Unit {0}
RowsWritten write (k ∷ ks) = IsRowOf write (k.0 ∷ []) k.1 × RowsWritten write ks

row_written : {A : Type 0} (write : A → List ℕ) (ks : List (ℕ × Reader A)) (code : ℕ) (bytes : List ℕ) (v : A) (rest : List ℕ) → RowsWritten write ks → AreBytes bytes → read_kind ks code bytes ≡ Some (v, rest) → code ∷ bytes ≡ write v ++ rest
row_written write [] code bytes v rest rows fits h = absurd cc
row_written {A} write (k ∷ ks) code bytes v rest rows fits h = go (k.0 == code) refl h (row_written write ks code bytes v rest rows.1 fits)
  where
    go : (t : Bool) → (k.0 == code) ≡ t → elim t as (λ _. Option (A × List ℕ)) [ true ↦ k.1 bytes | false ↦ read_kind ks code bytes ] ≡ Some (v, rest)
        → (read_kind ks code bytes ≡ Some (v, rest) → code ∷ bytes ≡ write v ++ rest) → code ∷ bytes ≡ write v ++ rest
    go true e r later = let same : k.0 ≡ code = eqb-true k.0 code e in ap (λ (n : ℕ). n ∷ bytes) (sym same) ∙ rows.0.spelled bytes v rest fits r
    go false e r later = later r

pub code_written : {A : Type 0} (write : A → List ℕ) (ks : List (ℕ × Reader A)) → RowsWritten write ks → IsWrittenBy write (read_by_code ks)
code_written {A} write ks rows = record { spelled = spelled }
  where
    spelled : (bytes : List ℕ) (v : A) (rest : List ℕ) → AreBytes bytes → read_by_code ks bytes ≡ Some (v, rest) → bytes ≡ write v ++ rest
    spelled [] v rest fits h = absurd cc
    spelled (code ∷ bytes) v rest fits h = row_written write ks code bytes v rest rows fits.1 (ap (λ (n : ℕ). read_kind ks n bytes) (sym (zero-add code)) ∙ h)

pub maybe_written : {A : Type 0} (write : A → List ℕ) (r : Reader A) → IsWrittenBy write r → IsWrittenBy (maybe_bytes write) (read_maybe r)
maybe_written write r x =
    code_written (maybe_bytes write) ((0, make None) ∷ (1, make (λ a. Some a) and r) ∷ [])
    (row_0 (maybe_bytes write) (0 ∷ []) None refl, (row_1 (maybe_bytes write) (1 ∷ []) (λ a. Some a) write r (λ a. refl) x, tt))
