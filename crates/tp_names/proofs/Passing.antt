-- Readers of values that pass a test.
use Rattle.std.proofs.Common.{◌≡◌, ℕ, Bool, true, false, Option, Some, None, List, ◌++◌, refl, sym, ap, ◌∙◌}
use Rattle.tp_names.specs.Reading.{Reader, that, if_passes}
use Rattle.tp_names.specs.Places.{Front, IsSteady, IsWrittenBy}
use Rattle.tp_names.proofs.Sequences.{some_of, some_pair}

pub record Passed {A : Type 0} (test : A → Bool) (r : Reader A) (bytes : List ℕ) (v : A) (rest : List ℕ) : Type 0 where
  pub read : r bytes ≡ Some (v, rest)
  pub passes : test v ≡ true

pub that_parts : {A : Type 0} (test : A → Bool) (r : Reader A) (bytes : List ℕ) (v : A) (rest : List ℕ) → that test r bytes ≡ Some (v, rest) → Passed test r bytes v rest
that_parts {A} test r bytes v rest h = go (r bytes) refl h
  where
    go : (o : Option (A × List ℕ)) → r bytes ≡ o → if_passes test o ≡ Some (v, rest) → Passed test r bytes v rest
    go None e k = absurd cc
    go (Some p) e k = on (test p.0) refl k
      where
        on : (t : Bool) → test p.0 ≡ t → elim t as (λ _. Option (A × List ℕ)) [ true ↦ Some p | false ↦ None ] ≡ Some (v, rest) → Passed test r bytes v rest
        on false f k = absurd cc
        on true f k =
            let same = some_pair p.0 v p.1 rest k in
            record {
              read = e ∙ ap (λ (w : A). some_of w p.1) same.0 ∙ ap (λ (w : List ℕ). some_of v w) same.1;
              passes = ap test (sym same.0) ∙ f;
            }

pub that_read : {A : Type 0} (test : A → Bool) (r : Reader A) (bytes : List ℕ) (v : A) (rest : List ℕ) → r bytes ≡ Some (v, rest) → test v ≡ true → that test r bytes ≡ Some (v, rest)
that_read {A} test r bytes v rest h f =
    ap (if_passes test) h ∙ ap (λ (t : Bool). elim t as (λ _. Option (A × List ℕ)) [ true ↦ some_of v rest | false ↦ None ]) f

pub that_steady : {A : Type 0} (test : A → Bool) (r : Reader A) → IsSteady r → IsSteady (that test r)
that_steady test r x = record {
  fronts = λ bytes v rest h.
      let p : Passed test r bytes v rest = that_parts test r bytes v rest h in
      let f : Front r bytes v rest = x.fronts bytes v rest p.read in
      record { text = f.text; parts = f.parts; again = λ more. that_read test r (f.text ++ more) v more (f.again more) p.passes };
}

pub that_written : {A : Type 0} (write : A → List ℕ) (test : A → Bool) (r : Reader A) → IsWrittenBy write r → IsWrittenBy write (that test r)
that_written write test r x = record { spelled = λ bytes v rest fits h. x.spelled bytes v rest fits (that_parts test r bytes v rest h).read }
