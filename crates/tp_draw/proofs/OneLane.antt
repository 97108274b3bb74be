-- Each node that is named has one lane.
use Rattle.std.proofs.Common.{◌≡◌, ◌≢◌, ℕ, suc, ◌+◌, ◌≤◌, ◌==◌, ◌||◌, Bool, true, false, if◌then◌else◌, Option, Some, None, List, [], ◌∷◌, ◌++◌, length, take, drop, insert, refl, ap, sym, ◌∙◌, subst, arith, eqb-true, take-append-drop, append-nil}
use Rattle.std.proofs.lemmas.Bool.Decides.{nat_tests}
use Rattle.tp_model.specs.declared.out_line.OutLine.{OutLine}
use Rattle.tp_draw.specs.declared.lane.Lane.{Lane}
use Rattle.tp_draw.specs.Lanes.{placed, named, place_in, after_site, with_placed, placed_lanes, with_named, with_all_named, named_lanes, lanes_of}
use Rattle.tp_draw.specs.Shapes.{place_of}
use Rattle.tp_draw.specs.Chosen.{is_among}
use Rattle.tp_draw.specs.Laws.{item, is_placed_by, is_placed, is_mentioned, is_named, lanes_with, HasOneLane}

-- ---- how many lanes a node has

counted : (b : Bool) (x y z : ℕ) → x ≡ y + z → (if b then suc x else x) ≡ (if b then suc y else y) + z
counted true x y z e = omega arith
counted false x y z e = e

lanes_append : (n : ℕ) (xs ys : List Lane) → lanes_with n (xs ++ ys) ≡ lanes_with n xs + lanes_with n ys
lanes_append n [] ys = omega arith
lanes_append n (x ∷ xs) ys = counted (x.node == n) (lanes_with n (xs ++ ys)) (lanes_with n xs) (lanes_with n ys) (lanes_append n xs ys)

lanes_put : (b : Bool) (t d w : ℕ) → w ≡ t + d → t + (if b then suc d else d) ≡ w + (if b then 1 else 0)
lanes_put true t d w e = omega arith
lanes_put false t d w e = omega arith

-- new has these lanes, and one more of that node
abbrev HasMore : ℕ → List Lane → List Lane → Type 0
HasMore m ls new = (n : ℕ) → lanes_with n new ≡ lanes_with n ls + (if m == n then 1 else 0)

put_between : (xs ys : List Lane) (x : Lane) (ls : List Lane) → xs ++ ys ≡ ls → HasMore x.node ls (xs ++ x ∷ ys)
put_between xs ys x ls same n =
    lanes_append n xs (x ∷ ys)
    ∙ lanes_put (x.node == n) (lanes_with n xs) (lanes_with n ys) (lanes_with n ls) (ap (lanes_with n) (sym same) ∙ lanes_append n xs ys)

-- ---- the place of a node

absent_by : (b : Bool) (p len c : ℕ) → (p ≡ len → c ≡ 0) → (elim b as (λ _. ℕ) [ true ↦ 0 | false ↦ suc p ]) ≡ suc len → (if b then suc c else c) ≡ 0
absent_by true p len c rest e = absurd (omega arith)
absent_by false p len c rest e = rest (omega arith)

-- a node whose place is after all lanes has none
absent : (ls : List Lane) (n : ℕ) → place_in ls n ≡ length ls → lanes_with n ls ≡ 0
absent [] n e = refl
absent (l ∷ ls) n e = absent_by (l.node == n) (place_in ls n) (length ls) (lanes_with n ls) (absent ls n) e

present_by : (b : Bool) (p len c : ℕ) → (p ≢ len → 1 ≤ c) → (elim b as (λ _. ℕ) [ true ↦ 0 | false ↦ suc p ]) ≢ suc len → 1 ≤ (if b then suc c else c)
present_by true p len c rest ne = omega arith
present_by false p len c rest ne = rest (λ e. ne (ap suc e))

present : (ls : List Lane) (n : ℕ) → place_in ls n ≢ length ls → 1 ≤ lanes_with n ls
present [] n ne = absurd (ne refl)
present (l ∷ ls) n ne = present_by (l.node == n) (place_in ls n) (length ls) (lanes_with n ls) (present ls n) ne

-- ---- steps

-- no node loses a lane, and none that has one at most gets another
record Keeps (old new : List Lane) : Type 0 where
  grows : (n : ℕ) → lanes_with n old ≤ lanes_with n new
  most : ((n : ℕ) → lanes_with n old ≤ 1) → (n : ℕ) → lanes_with n new ≤ 1

keeps_same : (ls : List Lane) → Keeps ls ls
keeps_same ls = record { grows = λ n. omega arith; most = λ h n. h n }

keeps_on : (a b c : List Lane) → Keeps a b → Keeps b c → Keeps a c
keeps_on a b c k l = record { grows = λ n. omega (arith, k.grows n, l.grows n); most = λ h. l.most (k.most h) }

most_by : (m n : ℕ) (b : Bool) (x y : ℕ) → (m == n) ≡ b → (m ≡ n → x ≡ 0) → x ≤ 1 → y ≡ x + (if b then 1 else 0) → y ≤ 1
most_by m n true x y is none h e = let z : x ≡ 0 = none (eqb-true m n is) in omega arith
most_by m n false x y is none h e = omega arith

-- a lane was put where the node had none
keeps_put : (m : ℕ) (ls new : List Lane) → HasMore m ls new → place_in ls m ≡ length ls → Keeps ls new
keeps_put m ls new more none = record {
  grows = λ n. let e : lanes_with n new ≡ lanes_with n ls + (if m == n then 1 else 0) = more n in omega arith;
  most = λ h n. most_by m n (m == n) (lanes_with n ls) (lanes_with n new) refl (λ e. subst (λ (k : ℕ). lanes_with k ls ≡ 0) e (absent ls m none)) (h n) (more n);
}

-- the same, where the test said so
keeps_if : (m : ℕ) (ls new : List Lane) (b : Bool) → (place_in ls m == length ls) ≡ b → HasMore m ls new → Keeps ls (if b then new else ls)
keeps_if m ls new true is more = keeps_put m ls new more (eqb-true _ _ is)
keeps_if m ls new false is more = keeps_same ls

self_one : (m x y : ℕ) → y ≡ x + (if m == m then 1 else 0) → 1 ≤ y
self_one m x y e = grind (arith, nat_tests)

not_place : (a b : ℕ) → (a == b) ≡ false → a ≢ b
not_place a b is e = grind (arith, nat_tests)

has_if : (m : ℕ) (ls new : List Lane) (b : Bool) → (place_in ls m == length ls) ≡ b → HasMore m ls new → 1 ≤ lanes_with m (if b then new else ls)
has_if m ls new true is more = self_one m (lanes_with m ls) (lanes_with m new) (more m)
has_if m ls new false is more = present ls m (not_place _ _ is)

-- ---- lanes of nodes whose site is told

pub more_placed : (ls : List Lane) (m : ℕ) (s : List ℕ) → HasMore m ls (insert ls (after_site ls s) (record { node = m; site = Some s }))
more_placed ls m s = put_between (take (after_site ls s) ls) (drop (after_site ls s) ls) (record { node = m; site = Some s }) ls (take-append-drop (after_site ls s) ls)

keeps_placed : (ls : List Lane) (p : Option (ℕ × List ℕ)) → Keeps ls (with_placed ls p)
keeps_placed ls None = keeps_same ls
keeps_placed ls (Some p) = keeps_if p.0 ls (insert ls (after_site ls p.1) (record { node = p.0; site = Some p.1 })) (place_in ls p.0 == length ls) refl (more_placed ls p.0 p.1)

has_placed : (ls : List Lane) (n : ℕ) (p : Option (ℕ × List ℕ)) → is_placed_by n p ≡ true → 1 ≤ lanes_with n (with_placed ls p)
has_placed ls n None is = absurd (grind arith)
has_placed ls n (Some p) is =
    subst (λ (k : ℕ). 1 ≤ lanes_with k (with_placed ls (Some p))) (eqb-true p.0 n is)
    (has_if p.0 ls (insert ls (after_site ls p.1) (record { node = p.0; site = Some p.1 })) (place_in ls p.0 == length ls) refl (more_placed ls p.0 p.1))

keeps_all_placed : (ls : List Lane) (os : List OutLine) → Keeps ls (placed_lanes ls os)
keeps_all_placed ls [] = keeps_same ls
keeps_all_placed ls (o ∷ os) = keeps_on ls (with_placed ls (placed o)) (placed_lanes (with_placed ls (placed o)) os) (keeps_placed ls (placed o)) (keeps_all_placed (with_placed ls (placed o)) os)

has_all_placed : (ls : List Lane) (n : ℕ) (os : List OutLine) → is_placed n os ≡ true → 1 ≤ lanes_with n (placed_lanes ls os)
has_all_placed ls n [] is = absurd (grind arith)
has_all_placed ls n (o ∷ os) is = either (is_placed_by n (placed o)) refl (has_all_placed (with_placed ls (placed o)) n os) is
  where
    either : (b : Bool) → is_placed_by n (placed o) ≡ b → (is_placed n os ≡ true → 1 ≤ lanes_with n (placed_lanes (with_placed ls (placed o)) os))
        → (b || is_placed n os) ≡ true → 1 ≤ lanes_with n (placed_lanes (with_placed ls (placed o)) os)
    either true here rest any =
        let first : 1 ≤ lanes_with n (with_placed ls (placed o)) = has_placed ls n (placed o) here in
        let kept : lanes_with n (with_placed ls (placed o)) ≤ lanes_with n (placed_lanes (with_placed ls (placed o)) os) = (keeps_all_placed (with_placed ls (placed o)) os).grows n in
        omega (arith, first, kept)
    either false here rest any = rest any

-- ---- lanes of the other nodes

pub more_named : (ls : List Lane) (m : ℕ) → HasMore m ls (ls ++ record { node = m; site = None } ∷ [])
more_named ls m = put_between ls [] (record { node = m; site = None }) ls (append-nil ls)

keeps_named : (ls : List Lane) (m : ℕ) → Keeps ls (with_named ls m)
keeps_named ls m = keeps_if m ls (ls ++ record { node = m; site = None } ∷ []) (place_in ls m == length ls) refl (more_named ls m)

has_named : (ls : List Lane) (m : ℕ) → 1 ≤ lanes_with m (with_named ls m)
has_named ls m = has_if m ls (ls ++ record { node = m; site = None } ∷ []) (place_in ls m == length ls) refl (more_named ls m)

keeps_all_named : (ls : List Lane) (ns : List ℕ) → Keeps ls (with_all_named ls ns)
keeps_all_named ls [] = keeps_same ls
keeps_all_named ls (m ∷ ns) = keeps_on ls (with_named ls m) (with_all_named (with_named ls m) ns) (keeps_named ls m) (keeps_all_named (with_named ls m) ns)

has_all_named : (ls : List Lane) (n : ℕ) (ns : List ℕ) → is_among n ns ≡ true → 1 ≤ lanes_with n (with_all_named ls ns)
has_all_named ls n [] is = absurd (grind arith)
has_all_named ls n (m ∷ ns) is = either (m == n) refl (has_all_named (with_named ls m) n ns) is
  where
    either : (b : Bool) → (m == n) ≡ b → (is_among n ns ≡ true → 1 ≤ lanes_with n (with_all_named (with_named ls m) ns))
        → (b || is_among n ns) ≡ true → 1 ≤ lanes_with n (with_all_named (with_named ls m) ns)
    either true here rest any =
        let first : 1 ≤ lanes_with n (with_named ls m) = subst (λ (k : ℕ). 1 ≤ lanes_with k (with_named ls m)) (eqb-true m n here) (has_named ls m) in
        let kept : lanes_with n (with_named ls m) ≤ lanes_with n (with_all_named (with_named ls m) ns) = (keeps_all_named (with_named ls m) ns).grows n in
        omega (arith, first, kept)
    either false here rest any = rest any

keeps_lines : (ls : List Lane) (os : List OutLine) → Keeps ls (named_lanes ls os)
keeps_lines ls [] = keeps_same ls
keeps_lines ls (o ∷ os) = keeps_on ls (with_all_named ls (named o)) (named_lanes (with_all_named ls (named o)) os) (keeps_all_named ls (named o)) (keeps_lines (with_all_named ls (named o)) os)

has_lines : (ls : List Lane) (n : ℕ) (os : List OutLine) → is_mentioned n os ≡ true → 1 ≤ lanes_with n (named_lanes ls os)
has_lines ls n [] is = absurd (grind arith)
has_lines ls n (o ∷ os) is = either (is_among n (named o)) refl (has_lines (with_all_named ls (named o)) n os) is
  where
    either : (b : Bool) → is_among n (named o) ≡ b → (is_mentioned n os ≡ true → 1 ≤ lanes_with n (named_lanes (with_all_named ls (named o)) os))
        → (b || is_mentioned n os) ≡ true → 1 ≤ lanes_with n (named_lanes (with_all_named ls (named o)) os)
    either true here rest any =
        let first : 1 ≤ lanes_with n (with_all_named ls (named o)) = has_all_named ls n (named o) here in
        let kept : lanes_with n (with_all_named ls (named o)) ≤ lanes_with n (named_lanes (with_all_named ls (named o)) os) = (keeps_lines (with_all_named ls (named o)) os).grows n in
        omega (arith, first, kept)
    either false here rest any = rest any

-- ---- all lanes

some_lane : (n : ℕ) (os : List OutLine) → is_named n os ≡ true → 1 ≤ lanes_with n (lanes_of os)
some_lane n os is = either (is_placed n os) refl is
  where
    either : (b : Bool) → is_placed n os ≡ b → (b || is_mentioned n os) ≡ true → 1 ≤ lanes_with n (lanes_of os)
    either true here any =
        let first : 1 ≤ lanes_with n (placed_lanes [] os) = has_all_placed [] n os here in
        let kept : lanes_with n (placed_lanes [] os) ≤ lanes_with n (lanes_of os) = (keeps_lines (placed_lanes [] os) os).grows n in
        omega (arith, first, kept)
    either false here any = has_lines (placed_lanes [] os) n os any

one_at_most : (n : ℕ) (os : List OutLine) → lanes_with n (lanes_of os) ≤ 1
one_at_most n os = (keeps_lines (placed_lanes [] os) os).most ((keeps_all_placed [] os).most (λ k. omega arith)) n

-- the lane stands at the node's place
record IsAt (n : ℕ) (ls : List Lane) (place : ℕ) : Type 0 where
  site : Option (List ℕ)
  here : item ls place ≡ Some (record { node = n; site = site })

stands : (ls : List Lane) (n : ℕ) → 1 ≤ lanes_with n ls → IsAt n ls (place_in ls n)
stands [] n some = absurd (omega arith)
stands (l ∷ ls) n some = either (l.node == n) refl (stands ls n) some
  where
    either : (b : Bool) → (l.node == n) ≡ b → (1 ≤ lanes_with n ls → IsAt n ls (place_in ls n)) → 1 ≤ (if b then suc (lanes_with n ls) else lanes_with n ls)
        → IsAt n (l ∷ ls) (elim b as (λ _. ℕ) [ true ↦ 0 | false ↦ suc (place_in ls n) ])
    either true is rest more = record { site = l.site; here = subst (λ (k : ℕ). item (l ∷ ls) 0 ≡ Some (record { node = k; site = l.site })) (eqb-true l.node n is) refl }
    either false is rest more = let at = rest more in record { site = at.site; here = at.here }

pub lanes_law : (os : List OutLine) (n : ℕ) → is_named n os ≡ true → HasOneLane n (lanes_of os) (place_of os n)
lanes_law os n is =
    let some : 1 ≤ lanes_with n (lanes_of os) = some_lane n os is in
    let most : lanes_with n (lanes_of os) ≤ 1 = one_at_most n os in
    let at = stands (lanes_of os) n some in
    record { one = omega arith; site = at.site; here = at.here }
