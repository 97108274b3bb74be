-- The first entries that clash, with one entry more.
use Rattle.std.proofs.Common.{◌≡◌, ℕ, suc, ◌+◌, ◌≤◌, Bool, true, false, Option, Some, None, List, [], ◌∷◌, ◌++◌, length, refl, sym, ap, ◌∙◌, arith, zero-add}
use Rattle.std.specs.Prelude.{◌&&◌, nat_lt, option_map}
use Rattle.std.proofs.lemmas.Bool.Decides.{nat_tests}
use Rattle.tp_names.specs.declared.identifiers.Aaid.{Aaid}
use Rattle.tp_names.specs.declared.identifiers.Addr.{Addr}
use Rattle.tp_names.specs.declared.outcome.Outcome.{Outcome}
use Rattle.tp_names.specs.Same.{is_aaid}
use Rattle.tp_names.proofs.Sames.{both, aaid_same}
use Rattle.tp_audit.specs.declared.verdict.Verdict.{Verdict}
use Rattle.tp_audit.specs.declared.firsts.Place.{Place}
use Rattle.tp_audit.specs.declared.ledger.Clash.{Clash}
use Rattle.tp_audit.specs.Entries.{Entry, addr_of, tree_of}
use Rattle.tp_audit.specs.Verdicts.{settled_of, are_apart, clash, first_clash, verdict_by}
use Rattle.tp_audit.specs.Ledgers.{place_of, ends_by, is_end_in, first_from, clash_at, clash_from, is_before, clash_by, verdict_of, other}

-- ---- the verdict is that of the first clash

pub verdict_is : (n : ℕ) (es : List Entry) → verdict_of (clash_from n es) ≡ verdict_by settled_of es
verdict_is n [] = refl
verdict_is n (e ∷ es) = go (first_clash settled_of e es) (verdict_is (suc n) es)
  where
    go : (o : Option Entry) → verdict_of (clash_from (suc n) es) ≡ verdict_by settled_of es
        → verdict_of (elim (option_map addr_of o) as (λ _. Option Clash) [ Some a ↦ Some (clash_at n e a) | None ↦ clash_from (suc n) es ])
        ≡ elim o as (λ _. Verdict) [ Some b ↦ Verdict.Differ (tree_of e) (addr_of e) (addr_of b) | None ↦ verdict_by settled_of es ]
    go None rest = rest
    go (Some b) rest = refl

-- ---- the first entries of a tree

pub first_more : (n : ℕ) (t : Aaid) (o : Outcome) (es : List Entry) (x : Entry)
    → first_from n t o (es ++ x ∷ []) ≡ elim (first_from n t o es) as (λ _. Option Place) [ Some p ↦ Some p | None ↦ first_from (length es + n) t o (x ∷ []) ]
first_more n t o [] x = ap (λ k. first_from k t o (x ∷ [])) (sym (zero-add n))
first_more n t o (e ∷ es) x = go (is_end_in t o e) (first_more (suc n) t o es x)
  where
    moved : length es + suc n ≡ length (e ∷ es) + n
    moved = omega arith

    go : (b : Bool) → first_from (suc n) t o (es ++ x ∷ []) ≡ elim (first_from (suc n) t o es) as (λ _. Option Place) [ Some p ↦ Some p | None ↦ first_from (length es + suc n) t o (x ∷ []) ]
        → elim b as (λ _. Option Place) [ true ↦ Some (place_of n e) | false ↦ first_from (suc n) t o (es ++ x ∷ []) ]
        ≡ elim (elim b as (λ _. Option Place) [ true ↦ Some (place_of n e) | false ↦ first_from (suc n) t o es ]) as (λ _. Option Place) [ Some p ↦ Some p | None ↦ first_from (length (e ∷ es) + n) t o (x ∷ []) ]
    go true rest = refl
    go false rest = rest ∙ ap (λ k. elim (first_from (suc n) t o es) as (λ _. Option Place) [ Some p ↦ Some p | None ↦ first_from k t o (x ∷ []) ]) moved

-- none stands before the first
abbrev number_or : ℕ → Option Place → ℕ
number_or n None = n
number_or n (Some p) = p.number

pub first_behind : (n : ℕ) (t : Aaid) (o : Outcome) (es : List Entry) (p : Place) → first_from n t o es ≡ Some p → n ≤ p.number
first_behind n t o [] p is = absurd cc
first_behind n t o (e ∷ es) p is = go (is_end_in t o e) is (first_behind (suc n) t o es p)
  where
    go : (b : Bool) → elim b as (λ _. Option Place) [ true ↦ Some (place_of n e) | false ↦ first_from (suc n) t o es ] ≡ Some p → (first_from (suc n) t o es ≡ Some p → suc n ≤ p.number) → n ≤ p.number
    go true i rest = let k : n ≡ p.number = ap (number_or n) i in omega (arith, k)
    go false i rest = omega (arith, rest i)

abbrev number_of_clash : ℕ → Option Clash → ℕ
number_of_clash n None = n
number_of_clash n (Some c) = c.number

pub clash_behind : (n : ℕ) (es : List Entry) (c : Clash) → clash_from n es ≡ Some c → n ≤ c.number
clash_behind n [] c is = absurd cc
clash_behind n (e ∷ es) c is = go (option_map addr_of (first_clash settled_of e es)) is (clash_behind (suc n) es c)
  where
    go : (o : Option Addr) → elim o as (λ _. Option Clash) [ Some a ↦ Some (clash_at n e a) | None ↦ clash_from (suc n) es ] ≡ Some c → (clash_from (suc n) es ≡ Some c → suc n ≤ c.number) → n ≤ c.number
    go (Some a) i rest = let k : n ≡ c.number = ap (number_of_clash n) i in omega (arith, k)
    go None i rest = omega (arith, rest i)

-- ---- with whom an entry clashes: with those of its tree that ended otherwise

apart_is : (o : Outcome) (q : Option Outcome) → are_apart (Some o) q ≡ ends_by (other o) q
apart_is Outcome.Commit None = refl
apart_is Outcome.Rollback None = refl
apart_is Outcome.Commit (Some Outcome.Commit) = refl
apart_is Outcome.Commit (Some Outcome.Rollback) = refl
apart_is Outcome.Rollback (Some Outcome.Commit) = refl
apart_is Outcome.Rollback (Some Outcome.Rollback) = refl

-- and one that settled its tree with the first of the other outcome there
clash_is_first : (n : ℕ) (e : Entry) (o : Outcome) (es : List Entry) → settled_of e.records ≡ Some o
    → option_map addr_of (first_clash settled_of e es) ≡ option_map (λ (p : Place). p.node) (first_from n (tree_of e) (other o) es)
clash_is_first n e o [] is = refl
clash_is_first n e o (b ∷ bs) is = go (clash settled_of e b) (is_end_in (tree_of e) (other o) b) same (clash_is_first (suc n) e o bs is)
  where
    same : clash settled_of e b ≡ is_end_in (tree_of e) (other o) b
    same = ap (λ s. is_aaid (tree_of e) (tree_of b) && are_apart s (settled_of b.records)) is ∙ ap (λ c. is_aaid (tree_of e) (tree_of b) && c) (apart_is o (settled_of b.records))

    go : (c d : Bool) → c ≡ d → option_map addr_of (first_clash settled_of e bs) ≡ option_map (λ (p : Place). p.node) (first_from (suc n) (tree_of e) (other o) bs)
        → option_map addr_of (elim c as (λ _. Option Entry) [ true ↦ Some b | false ↦ first_clash settled_of e bs ])
        ≡ option_map (λ (p : Place). p.node) (elim d as (λ _. Option Place) [ true ↦ Some (place_of n b) | false ↦ first_from (suc n) (tree_of e) (other o) bs ])
    go true true i rest = refl
    go false false i rest = rest
    go true false i rest = absurd cc
    go false true i rest = absurd cc

-- ---- one entry more

first_clash_more : (a x : Entry) (es : List Entry)
    → first_clash settled_of a (es ++ x ∷ []) ≡ elim (first_clash settled_of a es) as (λ _. Option Entry) [ Some b ↦ Some b | None ↦ first_clash settled_of a (x ∷ []) ]
first_clash_more a x [] = refl
first_clash_more a x (b ∷ bs) = go (clash settled_of a b) (first_clash_more a x bs)
  where
    go : (c : Bool) → first_clash settled_of a (bs ++ x ∷ []) ≡ elim (first_clash settled_of a bs) as (λ _. Option Entry) [ Some b ↦ Some b | None ↦ first_clash settled_of a (x ∷ []) ]
        → elim c as (λ _. Option Entry) [ true ↦ Some b | false ↦ first_clash settled_of a (bs ++ x ∷ []) ]
        ≡ elim (elim c as (λ _. Option Entry) [ true ↦ Some b | false ↦ first_clash settled_of a bs ]) as (λ _. Option Entry) [ Some b ↦ Some b | None ↦ first_clash settled_of a (x ∷ []) ]
    go true rest = refl
    go false rest = rest

either : (t u : Aaid) → is_aaid t u ≡ is_aaid u t
either t u = go (is_aaid t u) (is_aaid u t) refl refl
  where
    go : (x y : Bool) → is_aaid t u ≡ x → is_aaid u t ≡ y → is_aaid t u ≡ is_aaid u t
    go true y e f = ap (λ v. is_aaid t v) (sym (aaid_same t u e)) ∙ ap (λ v. is_aaid v t) (aaid_same t u e)
    go false true e f = ap (λ v. is_aaid t v) (aaid_same u t f) ∙ ap (λ v. is_aaid v t) (sym (aaid_same u t f))
    go false false e f = e ∙ sym f

apart_from : (o : Outcome) (q : Option Outcome) → are_apart q (Some o) ≡ ends_by (other o) q
apart_from o None = refl
apart_from Outcome.Commit (Some Outcome.Commit) = refl
apart_from Outcome.Commit (Some Outcome.Rollback) = refl
apart_from Outcome.Rollback (Some Outcome.Commit) = refl
apart_from Outcome.Rollback (Some Outcome.Rollback) = refl

-- an entry clashes with a later one as an end of the other outcome
clash_is_end : (a x : Entry) (o : Outcome) → settled_of x.records ≡ Some o → clash settled_of a x ≡ is_end_in (tree_of x) (other o) a
clash_is_end a x o is =
    ap (λ s. is_aaid (tree_of a) (tree_of x) && are_apart (settled_of a.records) s) is
    ∙ ap (λ b. b && are_apart (settled_of a.records) (Some o)) (either (tree_of a) (tree_of x))
    ∙ ap (λ b. is_aaid (tree_of x) (tree_of a) && b) (apart_from o (settled_of a.records))

ends_is : (o : Outcome) (q : Option Outcome) → ends_by o q ≡ true → q ≡ Some o
ends_is o None e = absurd cc
ends_is Outcome.Commit (Some Outcome.Commit) e = refl
ends_is Outcome.Commit (Some Outcome.Rollback) e = absurd cc
ends_is Outcome.Rollback (Some Outcome.Commit) e = absurd cc
ends_is Outcome.Rollback (Some Outcome.Rollback) e = refl

-- an end is of its tree and its outcome
end_tree : (t : Aaid) (o : Outcome) (e : Entry) → is_end_in t o e ≡ true → t ≡ tree_of e
end_tree t o e is = aaid_same t (tree_of e) (both (is_aaid t (tree_of e)) (ends_by o (settled_of e.records)) is).0

end_settles : (t : Aaid) (o : Outcome) (e : Entry) → is_end_in t o e ≡ true → settled_of e.records ≡ Some o
end_settles t o e is = ends_is o (settled_of e.records) (both (is_aaid t (tree_of e)) (ends_by o (settled_of e.records)) is).1

other_twice : (o : Outcome) → other (other o) ≡ o
other_twice Outcome.Commit = refl
other_twice Outcome.Rollback = refl

not_both : (t : Aaid) (o : Outcome) (e : Entry) → is_end_in t (other o) e ≡ true → is_end_in t o e ≡ false
not_both t o e is = go o (settled_of e.records) (is_aaid t (tree_of e)) (end_settles t (other o) e is)
  where
    go : (o : Outcome) (q : Option Outcome) (b : Bool) → q ≡ Some (other o) → (b && ends_by o q) ≡ false
    go o None b i = absurd cc
    go Outcome.Commit (Some Outcome.Commit) b i = absurd cc
    go Outcome.Commit (Some Outcome.Rollback) true i = refl
    go Outcome.Commit (Some Outcome.Rollback) false i = refl
    go Outcome.Rollback (Some Outcome.Commit) true i = refl
    go Outcome.Rollback (Some Outcome.Commit) false i = refl
    go Outcome.Rollback (Some Outcome.Rollback) b i = absurd cc

-- where an entry of the tree clashes with none, there is no end of the other outcome behind it
none_behind : (n : ℕ) (t : Aaid) (o : Outcome) (e : Entry) (es : List Entry) → is_end_in t o e ≡ true → first_clash settled_of e es ≡ None → first_from n t (other o) es ≡ None
none_behind n t o e es is none = go (first_from n t (other o) es) (ap (λ u. option_map (λ (p : Place). p.node) (first_from n u (other o) es)) (end_tree t o e is)
    ∙ sym (clash_is_first n e o es (end_settles t o e is)) ∙ ap (option_map addr_of) none)
  where
    go : (q : Option Place) → option_map (λ (p : Place). p.node) q ≡ None → q ≡ None
    go None i = refl
    go (Some p) i = absurd cc

clash_stays : (c : Clash) (s p : Option Place) (t : Aaid) (a : Addr) → ((q : Place) → p ≡ Some q → c.number ≤ q.number) → clash_by (Some c) s p t a ≡ Some c
clash_stays c s None t a least = refl
clash_stays c (Some q) (Some p) t a least = refl
clash_stays c None (Some p) t a least = go (nat_lt p.number c.number) late
  where
    late : nat_lt p.number c.number ≡ false
    late = let k = least p refl in grind (arith, nat_tests, k)

    go : (b : Bool) → b ≡ false → elim b as (λ _. Option Clash) [ true ↦ Some (record { number = p.number; aaid = t; first = p.node; second = a }) | false ↦ Some c ] ≡ Some c
    go true i = absurd cc
    go false i = refl

comes_before : (n : ℕ) (es : List Entry) (c : Option Clash) → clash_from (suc n) es ≡ c → is_before n c ≡ true
comes_before n es None is = refl
comes_before n es (Some c) is = let k = clash_behind (suc n) es c is in grind (arith, nat_tests, k)

pub clash_more : (n : ℕ) (es : List Entry) (x : Entry) (o : Outcome) → settled_of x.records ≡ Some o
    → clash_from n (es ++ x ∷ []) ≡ clash_by (clash_from n es) (first_from n (tree_of x) o es) (first_from n (tree_of x) (other o) es) (tree_of x) (addr_of x)
clash_more n [] x o is = refl
clash_more n (a ∷ es) x o is =
    ap (λ f. elim (option_map addr_of f) as (λ _. Option Clash) [ Some b ↦ Some (clash_at n a b) | None ↦ clash_from (suc n) (es ++ x ∷ []) ]) (first_clash_more a x es)
    ∙ go (first_clash settled_of a es) (clash settled_of a x) (is_end_in t (other o) a) (is_end_in t o a) refl (clash_is_end a x o is) refl refl (clash_more (suc n) es x o is)
  where
    t : Aaid
    t = tree_of x

    behind : (p : Outcome) (b : Bool) (q : Place) → elim b as (λ _. Option Place) [ true ↦ Some (place_of n a) | false ↦ first_from (suc n) t p es ] ≡ Some q → n ≤ q.number
    behind p true q i = let k : n ≡ q.number = ap (number_or n) i in omega (arith, k)
    behind p false q i = omega (arith, first_behind (suc n) t p es q i)

    go : (f : Option Entry) (c d s : Bool) → first_clash settled_of a es ≡ f → c ≡ d → is_end_in t (other o) a ≡ d → is_end_in t o a ≡ s
        → clash_from (suc n) (es ++ x ∷ []) ≡ clash_by (clash_from (suc n) es) (first_from (suc n) t o es) (first_from (suc n) t (other o) es) t (addr_of x)
        → elim (option_map addr_of (elim f as (λ _. Option Entry) [ Some b ↦ Some b | None ↦ elim c as (λ _. Option Entry) [ true ↦ Some x | false ↦ None ] ])) as (λ _. Option Clash) [ Some b ↦ Some (clash_at n a b) | None ↦ clash_from (suc n) (es ++ x ∷ []) ]
        ≡ clash_by (elim (option_map addr_of f) as (λ _. Option Clash) [ Some b ↦ Some (clash_at n a b) | None ↦ clash_from (suc n) es ])
        (elim s as (λ _. Option Place) [ true ↦ Some (place_of n a) | false ↦ first_from (suc n) t o es ])
        (elim d as (λ _. Option Place) [ true ↦ Some (place_of n a) | false ↦ first_from (suc n) t (other o) es ]) t (addr_of x)
    go (Some b) c d s f i j k rest = sym (clash_stays (clash_at n a (addr_of b)) (elim s as (λ _. Option Place) [ true ↦ Some (place_of n a) | false ↦ first_from (suc n) t o es ])
        (elim d as (λ _. Option Place) [ true ↦ Some (place_of n a) | false ↦ first_from (suc n) t (other o) es ]) t (addr_of x) (behind (other o) d))
    go None true true true f i j k rest = absurd (let never : true ≡ false = sym k ∙ not_both t o a j in cc)
    go None true true false f i j k rest =
        let first : first_from (suc n) t o es ≡ None = ap (λ p. first_from (suc n) t p es) (sym (other_twice o)) ∙ none_behind (suc n) t (other o) a es j f in
        sym (ap (λ p. clash_by (clash_from (suc n) es) p (Some (place_of n a)) t (addr_of x)) first
        ∙ ap (λ b. elim b as (λ _. Option Clash) [ true ↦ Some (record { number = n; aaid = t; first = addr_of a; second = addr_of x }) | false ↦ clash_from (suc n) es ]) (comes_before n es (clash_from (suc n) es) refl)
        ∙ ap (λ (u : Aaid). let c : Clash = record { number = n; aaid = u; first = addr_of a; second = addr_of x } in Some c) (end_tree t (other o) a j))
    go None true false s f i j k rest = absurd cc
    go None false true s f i j k rest = absurd cc
    go None false false false f i j k rest = rest
    go None false false true f i j k rest =
        let none : first_from (suc n) t (other o) es ≡ None = none_behind (suc n) t o a es k f in
        rest ∙ ap (λ p. clash_by (clash_from (suc n) es) (first_from (suc n) t o es) p t (addr_of x)) none
        ∙ sym (ap (λ p. clash_by (clash_from (suc n) es) (Some (place_of n a)) p t (addr_of x)) none)

pub clash_same : (n : ℕ) (es : List Entry) (x : Entry) → settled_of x.records ≡ None → clash_from n (es ++ x ∷ []) ≡ clash_from n es
clash_same n [] x none = refl
clash_same n (a ∷ es) x none =
    ap (λ f. elim (option_map addr_of f) as (λ _. Option Clash) [ Some b ↦ Some (clash_at n a b) | None ↦ clash_from (suc n) (es ++ x ∷ []) ]) (first_clash_more a x es)
    ∙ go (first_clash settled_of a es) (clash settled_of a x) silent (clash_same (suc n) es x none)
  where
    unsettled : (q : Option Outcome) → are_apart q None ≡ false
    unsettled None = refl
    unsettled (Some o) = refl

    and_false : (c : Bool) → (c && false) ≡ false
    and_false true = refl
    and_false false = refl

    silent : clash settled_of a x ≡ false
    silent = ap (λ s. is_aaid (tree_of a) (tree_of x) && are_apart (settled_of a.records) s) none ∙ ap (λ b. is_aaid (tree_of a) (tree_of x) && b) (unsettled (settled_of a.records)) ∙ and_false (is_aaid (tree_of a) (tree_of x))

    go : (f : Option Entry) (c : Bool) → c ≡ false → clash_from (suc n) (es ++ x ∷ []) ≡ clash_from (suc n) es
        → elim (option_map addr_of (elim f as (λ _. Option Entry) [ Some b ↦ Some b | None ↦ elim c as (λ _. Option Entry) [ true ↦ Some x | false ↦ None ] ])) as (λ _. Option Clash) [ Some b ↦ Some (clash_at n a b) | None ↦ clash_from (suc n) (es ++ x ∷ []) ]
        ≡ elim (option_map addr_of f) as (λ _. Option Clash) [ Some b ↦ Some (clash_at n a b) | None ↦ clash_from (suc n) es ]
    go (Some b) c i rest = refl
    go None true i rest = absurd cc
    go None false i rest = rest
