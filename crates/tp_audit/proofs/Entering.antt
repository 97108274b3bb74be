-- What is kept of the entries, with one entry more.
use Rattle.std.proofs.Common.{◌≡◌, ◌+◌, Bool, true, false, Option, Some, None, List, [], ◌∷◌, ◌++◌, length, refl, sym, ap, ◌∙◌, arith, cond, append-nil, append_assoc}
use Rattle.std.specs.Prelude.{◌&&◌}
use Rattle.tp_names.specs.declared.identifiers.Aaid.{Aaid}
use Rattle.tp_names.specs.declared.outcome.Outcome.{Outcome}
use Rattle.tp_names.specs.Same.{is_aaid, is_outcome}
use Rattle.tp_names.proofs.Sames.{aaid_same}
use Rattle.tp_audit.specs.declared.firsts.Place.{Place}
use Rattle.tp_audit.specs.declared.firsts.Firsts.{Firsts}
use Rattle.tp_audit.specs.Entries.{Entry, addr_of, tree_of}
use Rattle.tp_audit.specs.Verdicts.{settled_of}
use Rattle.tp_audit.specs.Doubts.{superior_of}
use Rattle.tp_audit.specs.Ledgers.{Ledger, IsLedgerOf, place_of, ends_by, is_end_in, first_from, first_of, firsts_in, firsts_with, or_place, firsts_at, other, clash_from, clash_by, doubts_by, doubts_of}
use Rattle.tp_audit.proofs.Clashes.{first_more, clash_more, clash_same}

doubts_more : (es : List Entry) (x : Entry) → doubts_of (es ++ x ∷ []) ≡ doubts_of es ++ doubts_by (addr_of x) x.owner.key (superior_of x.records)
doubts_more [] x = append-nil (doubts_by (addr_of x) x.owner.key (superior_of x.records))
doubts_more (e ∷ es) x =
    let ds = doubts_by (addr_of e) e.owner.key (superior_of e.records) in
    ap (λ rest. ds ++ rest) (doubts_more es x) ∙ sym (append_assoc ds (doubts_of es) (doubts_by (addr_of x) x.owner.key (superior_of x.records)))

count_more : (es : List Entry) (x : Entry) → length (es ++ x ∷ []) ≡ length es + 1
count_more [] x = refl
count_more (e ∷ es) x = omega (arith, count_more es x)

-- the first of one outcome, by whether the entry is such an end
first_by : (t : Aaid) (o : Outcome) (es : List Entry) (x : Entry) (b : Bool) → is_end_in t o x ≡ b
    → first_from 0 t o (es ++ x ∷ []) ≡ elim b as (λ _. Option Place) [ true ↦ or_place (first_from 0 t o es) (place_of (length es) x) | false ↦ first_from 0 t o es ]
first_by t o es x b is = first_more 0 t o es x ∙ go (first_from 0 t o es) b is
  where
    go : (f : Option Place) (b : Bool) → is_end_in t o x ≡ b
        → elim f as (λ _. Option Place) [ Some p ↦ Some p | None ↦ elim (is_end_in t o x) as (λ _. Option Place) [ true ↦ Some (place_of (length es + 0) x) | false ↦ None ] ]
        ≡ elim b as (λ _. Option Place) [ true ↦ or_place f (place_of (length es) x) | false ↦ f ]
    go (Some p) true i = refl
    go (Some p) false i = refl
    go None true i = ap (λ c. elim c as (λ _. Option Place) [ true ↦ Some (place_of (length es + 0) x) | false ↦ None ]) i ∙ ap (λ n. Some (place_of n x)) (let k : length es + 0 ≡ length es = omega arith in k)
    go None false i = ap (λ c. elim c as (λ _. Option Place) [ true ↦ Some (place_of (length es + 0) x) | false ↦ None ]) i

-- ---- the first entries of each tree

firsts_same : (t : Aaid) (es : List Entry) (x : Entry) → ((o : Outcome) → is_end_in t o x ≡ false) → firsts_in t (es ++ x ∷ []) ≡ firsts_in t es
firsts_same t es x none =
    ap (λ c. let f : Firsts = record { commit = c; rollback = first_from 0 t Outcome.Rollback (es ++ x ∷ []) } in f) (first_by t Outcome.Commit es x false (none Outcome.Commit))
    ∙ ap (λ r. let f : Firsts = record { commit = first_from 0 t Outcome.Commit es; rollback = r } in f) (first_by t Outcome.Rollback es x false (none Outcome.Rollback))

firsts_more : (t : Aaid) (o : Outcome) (es : List Entry) (x : Entry) → is_end_in t o x ≡ true → is_end_in t (other o) x ≡ false → firsts_in t (es ++ x ∷ []) ≡ firsts_with (firsts_in t es) o (place_of (length es) x)
firsts_more t Outcome.Commit es x is not =
    ap (λ c. let f : Firsts = record { commit = c; rollback = first_from 0 t Outcome.Rollback (es ++ x ∷ []) } in f) (first_by t Outcome.Commit es x true is)
    ∙ ap (λ r. let f : Firsts = record { commit = or_place (first_from 0 t Outcome.Commit es) (place_of (length es) x); rollback = r } in f) (first_by t Outcome.Rollback es x false not)
firsts_more t Outcome.Rollback es x is not =
    ap (λ c. let f : Firsts = record { commit = c; rollback = first_from 0 t Outcome.Rollback (es ++ x ∷ []) } in f) (first_by t Outcome.Commit es x false not)
    ∙ ap (λ r. let f : Firsts = record { commit = first_from 0 t Outcome.Commit es; rollback = r } in f) (first_by t Outcome.Rollback es x true is)

outcome_self : (o : Outcome) → is_outcome o o ≡ true
outcome_self Outcome.Commit = refl
outcome_self Outcome.Rollback = refl

outcome_other : (o : Outcome) → is_outcome (other o) o ≡ false
outcome_other Outcome.Commit = refl
outcome_other Outcome.Rollback = refl

and_false : (c : Bool) → (c && false) ≡ false
and_false true = refl
and_false false = refl

firsts_by : (t : Aaid) (o : Outcome) (es : List Entry) (x : Entry) → settled_of x.records ≡ Some o
    → firsts_in t (es ++ x ∷ []) ≡ cond (is_aaid (tree_of x) t) (firsts_with (firsts_in (tree_of x) es) o (place_of (length es) x)) (firsts_in t es)
firsts_by t o es x is = go (is_aaid (tree_of x) t) refl
  where
    end : (p : Outcome) (b : Bool) → is_aaid t (tree_of x) ≡ b → is_end_in t p x ≡ (b && is_outcome p o)
    end p b i = ap (λ s. is_aaid t (tree_of x) && ends_by p s) is ∙ ap (λ c. c && is_outcome p o) i

    turned : (b : Bool) → is_aaid (tree_of x) t ≡ b → is_aaid t (tree_of x) ≡ b
    turned true i = ap (λ u. is_aaid t u) (aaid_same (tree_of x) t i) ∙ ap (λ u. is_aaid u t) (sym (aaid_same (tree_of x) t i)) ∙ i
    turned false i = off (is_aaid t (tree_of x)) refl
      where
        off : (c : Bool) → is_aaid t (tree_of x) ≡ c → is_aaid t (tree_of x) ≡ false
        off false j = j
        off true j = absurd (let never : true ≡ false = sym j ∙ ap (λ u. is_aaid t u) (sym (aaid_same t (tree_of x) j)) ∙ ap (λ u. is_aaid u t) (aaid_same t (tree_of x) j) ∙ i in cc)

    go : (b : Bool) → is_aaid (tree_of x) t ≡ b → firsts_in t (es ++ x ∷ []) ≡ cond b (firsts_with (firsts_in (tree_of x) es) o (place_of (length es) x)) (firsts_in t es)
    go true i = firsts_more t o es x (end o true (turned true i) ∙ outcome_self o) (end (other o) true (turned true i) ∙ outcome_other o)
        ∙ ap (λ u. firsts_with (firsts_in u es) o (place_of (length es) x)) (sym (aaid_same (tree_of x) t i))
    go false i = firsts_same t es x (λ p. end p false (turned false i))

unsettled : (t : Aaid) (o : Outcome) (x : Entry) → settled_of x.records ≡ None → is_end_in t o x ≡ false
unsettled t o x none = ap (λ s. is_aaid t (tree_of x) && ends_by o s) none ∙ and_false (is_aaid t (tree_of x))

first_of_in : (t : Aaid) (o : Outcome) (es : List Entry) → first_of o (firsts_in t es) ≡ first_from 0 t o es
first_of_in t Outcome.Commit es = refl
first_of_in t Outcome.Rollback es = refl

-- ---- all of it

-- of an entry that settled its tree
pub entered_end : (es : List Entry) (x : Entry) (o : Outcome) (l m : Ledger) (f : Firsts) (p : Place) → IsLedgerOf es l → settled_of x.records ≡ Some o
    → m.count ≡ l.count + 1 → p ≡ record { number = l.count; node = addr_of x } → f ≡ firsts_at l.trees (tree_of x)
    → ((t : Aaid) → firsts_at m.trees t ≡ cond (is_aaid (tree_of x) t) (firsts_with f o p) (firsts_at l.trees t))
    → m.clash ≡ clash_by l.clash (first_of o f) (first_of (other o) f) (tree_of x) (addr_of x)
    → m.doubts ≡ l.doubts ++ doubts_by (addr_of x) x.owner.key (superior_of x.records)
    → IsLedgerOf (es ++ x ∷ []) m
entered_end es x o l m f p is settled count place before trees clash doubts =
    let first : f ≡ firsts_in (tree_of x) es = before ∙ is.trees (tree_of x) in
    let here : p ≡ place_of (length es) x = place ∙ ap (λ n. place_of n x) is.count in
    record {
      count = count ∙ ap (λ n. n + 1) is.count ∙ sym (count_more es x);
      trees = λ t. trees t ∙ ap (λ g. cond (is_aaid (tree_of x) t) (firsts_with g o p) (firsts_at l.trees t)) first
          ∙ ap (λ q. cond (is_aaid (tree_of x) t) (firsts_with (firsts_in (tree_of x) es) o q) (firsts_at l.trees t)) here
          ∙ ap (λ g. cond (is_aaid (tree_of x) t) (firsts_with (firsts_in (tree_of x) es) o (place_of (length es) x)) g) (is.trees t)
          ∙ sym (firsts_by t o es x settled);
      clash = clash ∙ ap (λ c. clash_by c (first_of o f) (first_of (other o) f) (tree_of x) (addr_of x)) is.clash
          ∙ ap (λ g. clash_by (clash_from 0 es) (first_of o g) (first_of (other o) g) (tree_of x) (addr_of x)) first
          ∙ ap (λ s. clash_by (clash_from 0 es) s (first_of (other o) (firsts_in (tree_of x) es)) (tree_of x) (addr_of x)) (first_of_in (tree_of x) o es)
          ∙ ap (λ s. clash_by (clash_from 0 es) (first_from 0 (tree_of x) o es) s (tree_of x) (addr_of x)) (first_of_in (tree_of x) (other o) es)
          ∙ sym (clash_more 0 es x o settled);
      doubts = doubts ∙ ap (λ ds. ds ++ doubts_by (addr_of x) x.owner.key (superior_of x.records)) is.doubts ∙ sym (doubts_more es x);
    }

-- and of one that did not
pub entered_open : (es : List Entry) (x : Entry) (l m : Ledger) → IsLedgerOf es l → settled_of x.records ≡ None
    → m.count ≡ l.count + 1 → m.trees ≡ l.trees → m.clash ≡ l.clash
    → m.doubts ≡ l.doubts ++ doubts_by (addr_of x) x.owner.key (superior_of x.records)
    → IsLedgerOf (es ++ x ∷ []) m
entered_open es x l m is none count trees clash doubts = record {
  count = count ∙ ap (λ n. n + 1) is.count ∙ sym (count_more es x);
  trees = λ t. ap (λ ts. firsts_at ts t) trees ∙ is.trees t ∙ sym (firsts_same t es x (λ o. unsettled t o x none));
  clash = clash ∙ is.clash ∙ sym (clash_same 0 es x none);
  doubts = doubts ∙ ap (λ ds. ds ++ doubts_by (addr_of x) x.owner.key (superior_of x.records)) is.doubts ∙ sym (doubts_more es x);
}
