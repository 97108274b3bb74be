-- Numbers of nodes, one after the other.
use Rattle.std.proofs.Common.{◌≡◌, ℕ, suc, ◌<◌, ◌==◌, Bool, true, false, Option, Some, None, Ok, Err, List, [], ◌∷◌, ◌++◌, length, refl, ap, sym, ◌∙◌, arith, append_assoc}
use Rattle.std.specs.Prelude.{option_map}
use Rattle.tp_model.specs.LineReading.{form_of}
use Rattle.tp_schedule.specs.declared.line_fault.LineFault.{LineFault}
use Rattle.tp_schedule.specs.Answers.{Reads}
use Rattle.tp_transcript.specs.OutWords.{cut, parts, node_number, node_numbers, in_front, Pushes}
use Rattle.tp_transcript.proofs.OutCut.{parts_cut, parts_by}

-- after those that were read
abbrev pub appended : List ℕ → Option (List ℕ) → Option (List ℕ)
appended by None = None
appended by (Some ns) = Some (by ++ ns)

abbrev rest_of : Option (List ℕ × List ℕ) → List ℕ
rest_of None = []
rest_of (Some p) = p.1

pub cut_shorter : (d : ℕ) (bs v u : List ℕ) → cut d bs ≡ Some (v, u) → length u < length bs
cut_shorter d [] v u is = absurd cc
cut_shorter d (b ∷ bs) v u is = go (b == d) (cut d bs) (cut_shorter d bs) is
  where
    go : (t : Bool) (o : Option (List ℕ × List ℕ)) → ((x y : List ℕ) → o ≡ Some (x, y) → length y < length bs)
        → elim t as (λ _. Option (List ℕ × List ℕ)) [ true ↦ Some ([], bs) | false ↦ option_map (λ (p : List ℕ × List ℕ). (b ∷ p.0, p.1)) o ] ≡ Some (v, u) → length u < suc (length bs)
    go true o more e = let f : bs ≡ u = ap rest_of e in omega (arith, ap length f)
    go false None more e = absurd cc
    go false (Some p) more e =
        let f : p.1 ≡ u = ap rest_of e in
        omega (arith, more p.0 p.1 refl, ap length f)

first_part : (rest v u : List ℕ) → cut 44 rest ≡ Some (v, u) → node_numbers (parts 44 rest) ≡ in_front (node_number v) (node_numbers (parts 44 u))
first_part rest v u is = ap node_numbers (parts_cut 44 rest ∙ ap (λ (o : Option (List ℕ × List ℕ)). parts_by rest o 44) is)

last_part : (rest : List ℕ) → cut 44 rest ≡ None → node_numbers (parts 44 rest) ≡ in_front (node_number rest) (Some [])
last_part rest is = ap node_numbers (parts_cut 44 rest ∙ ap (λ (o : Option (List ℕ × List ℕ)). parts_by rest o 44) is)

pub one_further : (by new rest v u : List ℕ) (k : ℕ) (all : Option (List ℕ)) → cut 44 rest ≡ Some (v, u) → appended by (node_numbers (parts 44 rest)) ≡ all
    → node_number v ≡ Some k → new ≡ by ++ k ∷ [] → appended new (node_numbers (parts 44 u)) ≡ all
one_further by new rest v u k all is before read pushed =
    ap (λ (t : List ℕ). appended t (node_numbers (parts 44 u))) pushed
    ∙ go (node_numbers (parts 44 u))
    ∙ ap (appended by) (sym (first_part rest v u is ∙ ap (λ (o : Option ℕ). in_front o (node_numbers (parts 44 u))) read))
    ∙ before
  where
    go : (o : Option (List ℕ)) → appended (by ++ k ∷ []) o ≡ appended by (in_front (Some k) o)
    go None = refl
    go (Some ns) = ap Some (append_assoc by (k ∷ []) ns)

pub last_one : (by new rest : List ℕ) (k : ℕ) (all : Option (List ℕ)) → cut 44 rest ≡ None → appended by (node_numbers (parts 44 rest)) ≡ all
    → node_number rest ≡ Some k → new ≡ by ++ k ∷ [] → Reads (form_of all) (Ok new)
last_one by new rest k all is before read pushed =
    let e : all ≡ Some new = sym before ∙ ap (appended by) (last_part rest is ∙ ap (λ (o : Option ℕ). in_front o (Some [])) read) ∙ ap Some (sym pushed) in
    rw e refl

bad_first : (by rest v u : List ℕ) (all : Option (List ℕ)) → cut 44 rest ≡ Some (v, u) → appended by (node_numbers (parts 44 rest)) ≡ all → node_number v ≡ None → all ≡ None
bad_first by rest v u all is before none =
    sym before ∙ ap (appended by) (first_part rest v u is ∙ ap (λ (o : Option ℕ). in_front o (node_numbers (parts 44 u))) none)

bad_last : (by rest : List ℕ) (all : Option (List ℕ)) → cut 44 rest ≡ None → appended by (node_numbers (parts 44 rest)) ≡ all → node_number rest ≡ None → all ≡ None
bad_last by rest all is before none = sym before ∙ ap (appended by) (last_part rest is ∙ ap (λ (o : Option ℕ). in_front o (Some [])) none)

refused : (all : Option (List ℕ)) → all ≡ None → Reads (form_of all) (Err LineFault.Word)
refused all none = rw none refl

pub first_refused : (by old new rest v u : List ℕ) (all : Option (List ℕ)) (e : LineFault) → cut 44 rest ≡ Some (v, u) → appended by (node_numbers (parts 44 rest)) ≡ all
    → Pushes old new (node_number v) (Err e) → Reads (form_of all) (Err e)
first_refused by old new rest v u all LineFault.Word is before pushes = refused all (bad_first by rest v u all is before pushes)
first_refused by old new rest v u all LineFault.NoMemory is before pushes = refl
first_refused by old new rest v u all LineFault.Long is before pushes = absurd pushes
first_refused by old new rest v u all LineFault.Number is before pushes = absurd pushes

pub last_refused : (by old new rest : List ℕ) (all : Option (List ℕ)) (e : LineFault) → cut 44 rest ≡ None → appended by (node_numbers (parts 44 rest)) ≡ all
    → Pushes old new (node_number rest) (Err e) → Reads (form_of all) (Err e)
last_refused by old new rest all LineFault.Word is before pushes = refused all (bad_last by rest all is before pushes)
last_refused by old new rest all LineFault.NoMemory is before pushes = refl
last_refused by old new rest all LineFault.Long is before pushes = absurd pushes
last_refused by old new rest all LineFault.Number is before pushes = absurd pushes
