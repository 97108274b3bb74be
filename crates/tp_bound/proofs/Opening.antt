-- Bodies are read one after the other.
use Rattle.std.proofs.Common.{◌≡◌, ◌≤◌, ◌<◌, ◌+◌, ℕ, Bool, true, false, Option, Some, None, List, [], ◌∷◌, length, drop, get_or, refl, sym, ap, ◌∙◌, arith, length-append, length-drop}
use Rattle.std.proofs.lemmas.List.{drop_more, nil_from_length}
use Rattle.tp_journal.specs.Log.{blocks, place_behind}
use Rattle.tp_bound.specs.declared.store.Store.{Store}
use Rattle.tp_bound.specs.Stores.{empty, taken, Reading, Stands, Breaks, opened_from, opened}
use Rattle.tp_bound.specs.Taking.{Takes}

-- so many bodies have led to the store, and the next one's gate is at this place
pub record ReadSoFar (bodies : List (List ℕ)) (i place : ℕ) (s : Store) : Type 0 where
  pub reads : opened_from place s (drop i bodies) ≡ opened bodies
  pub reach : place + length (blocks (drop i bodies)) ≡ place_behind bodies

pub at_first : (bodies : List (List ℕ)) → ReadSoFar bodies 0 5 empty
at_first bodies = record { reads = refl; reach = refl }

-- the next body stands first of those that are left
next_body : (bodies : List (List ℕ)) (i : ℕ) (body : List ℕ) → i < length bodies → body ≡ get_or bodies i [] → drop i bodies ≡ body ∷ drop (i + 1) bodies
next_body bodies i body within is = drop_more bodies i [] within ∙ ap (λ (b : List ℕ). b ∷ drop (i + 1) bodies) (sym is)

pub block_is : (body : List ℕ) (more : List (List ℕ)) → length (blocks (body ∷ more)) ≡ 3 + length body + length (blocks more)
block_is body more = omega (arith, length-append body (blocks more))

pub next_within : (bodies : List (List ℕ)) (i place : ℕ) (s : Store) (body : List ℕ) → ReadSoFar bodies i place s → i < length bodies → body ≡ get_or bodies i []
    → place + 3 + length body ≤ place_behind bodies
next_within bodies i place s body so_far within is =
    let e = ap (λ (l : List (List ℕ)). length (blocks l)) (next_body bodies i body within is) ∙ block_is body (drop (i + 1) bodies) in
    omega (arith, e, so_far.reach)

-- what is read, by what the next body leads to
by_next : (place : ℕ) (s : Store) (body : List ℕ) (more : List (List ℕ)) (o : Option Store) → taken place body s ≡ o
    → opened_from place s (body ∷ more) ≡ elim o as (λ _. Reading) [ None ↦ Breaks place | Some t ↦ opened_from (place + 3 + length body) t more ]
by_next place s body more o is = ap (λ (x : Option Store). elim x as (λ _. Reading) [ None ↦ Breaks place | Some t ↦ opened_from (place + 3 + length body) t more ]) is

pub at_next : (bodies : List (List ℕ)) (i place : ℕ) (s : Store) (body : List ℕ) (t : Store) (after : ℕ) → ReadSoFar bodies i place s → i < length bodies → body ≡ get_or bodies i []
    → taken place body s ≡ Some t → after ≡ place + 3 + length body → ReadSoFar bodies (i + 1) after t
at_next bodies i place s body t after so_far within is takes next =
    let first = next_body bodies i body within is in
    let e = ap (λ (l : List (List ℕ)). length (blocks l)) first ∙ block_is body (drop (i + 1) bodies) in
    record {
      reads = ap (λ (n : ℕ). opened_from n t (drop (i + 1) bodies)) next ∙ sym (by_next place s body (drop (i + 1) bodies) (Some t) takes)
          ∙ sym (ap (λ (l : List (List ℕ)). opened_from place s l) first) ∙ so_far.reads;
      reach = omega (arith, e, so_far.reach, next);
    }

pub at_break : (bodies : List (List ℕ)) (i place : ℕ) (s : Store) (body : List ℕ) → ReadSoFar bodies i place s → i < length bodies → body ≡ get_or bodies i []
    → taken place body s ≡ None → opened bodies ≡ Breaks place
at_break bodies i place s body so_far within is refused =
    sym so_far.reads ∙ ap (λ (l : List (List ℕ)). opened_from place s l) (next_body bodies i body within is) ∙ by_next place s body (drop (i + 1) bodies) None refused

pub at_last : (bodies : List (List ℕ)) (i place : ℕ) (s : Store) → ReadSoFar bodies i place s → length bodies ≤ i → opened bodies ≡ Stands s
at_last bodies i place s so_far all =
    let none : drop i bodies ≡ [] = nil_from_length (drop i bodies) (omega (arith, length-drop i bodies)) in
    sym so_far.reads ∙ ap (λ (l : List (List ℕ)). opened_from place s l) none

-- ---- what the answer to one more body says

pub was_taken : (old : Store) (o : Option Store) (new : Store) (took : Bool) → Takes old o new took → took ≡ true → o ≡ Some new
was_taken old None new took takes is = absurd (let e = sym takes.0 ∙ is in cc)
was_taken old (Some s) new took takes is = ap (λ (t : Store). let found : Option Store = Some t in found) (sym takes.1)

pub not_taken : (old : Store) (o : Option Store) (new : Store) (took : Bool) → Takes old o new took → took ≡ false → o ≡ None
not_taken old None new took takes is = refl
not_taken old (Some s) new took takes is = absurd (let e = sym takes.0 ∙ is in cc)
