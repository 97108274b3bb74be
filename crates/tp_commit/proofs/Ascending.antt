-- The numbers of the peers, where they ascend: what keeps them so, and that the first branch with a peer is the only one.
use Rattle.std.proofs.Common.{◌≡◌, ◌<◌, ◌≤◌, ◌==◌, ◌++◌, ◌-◌, ℕ, zero, suc, Bool, true, false, if◌then◌else◌, List, [], ◌∷◌, Some, None, length, take, set, get_or, slice_get, nat_lt, Vec, Global, refl, ap, sym, subst, ◌∙◌, arith}
use Rattle.std.proofs.lemmas.Bool.Decides.{nat_tests}
use Rattle.std.proofs.lemmas.List.{with_items_is}
use Rattle.std.specs.Vec.{with_items}
use Rattle.tp_model.specs.Transactions.{Row, find_row, all_prepared}
use Rattle.tp_commit.specs.declared.row.Note.{Note}
use Rattle.tp_commit.specs.Row.{noted, noted_at, numbers_of}
use Rattle.tp_commit.specs.Branch.{standing_rows, seen_at}
use Rattle.tp_commit.specs.RowList.{Ascends, IsFirstWith, ends_below}
use Rattle.tp_commit.proofs.Among.{noted_numbers}

-- ---- what keeps the numbers

prepared_numbers : (rs : List Row) → numbers_of (all_prepared rs) ≡ numbers_of rs
prepared_numbers [] = refl
prepared_numbers (r ∷ rs) = ap (λ (ns : List ℕ). r.branch.peer.node ∷ ns) (prepared_numbers rs)

standing_numbers : (rolls : Bool) (rs : List Row) → numbers_of (standing_rows rolls rs) ≡ numbers_of rs
standing_numbers rolls [] = refl
standing_numbers rolls (r ∷ rs) = ap (λ (ns : List ℕ). r.branch.peer.node ∷ ns) (standing_numbers rolls rs)

seen_numbers : (live ends : Bool) (rs : List Row) (i : ℕ) (d : Row) → numbers_of (set rs i (seen_at live ends (get_or rs i d))) ≡ numbers_of rs
seen_numbers live ends [] i d = refl
seen_numbers live ends (r ∷ rs) zero d = refl
seen_numbers live ends (r ∷ rs) (suc i) d = ap (λ (ns : List ℕ). r.branch.peer.node ∷ ns) (seen_numbers live ends rs i d)

ascends_alike : (rs ss : List Row) → numbers_of ss ≡ numbers_of rs → Ascends 0 (numbers_of rs) → Ascends 0 (numbers_of ss)
ascends_alike rs ss e a = subst (λ ns. Ascends 0 ns) (sym e) a

-- lent as a slice, and written over with as many
lent_back : (v : Vec Row Global) (ss : List Row) → numbers_of ss ≡ numbers_of v.items → Ascends 0 (numbers_of v.items) → Ascends 0 (numbers_of (with_items v ss).items)
lent_back v ss e a = subst (λ rs. Ascends 0 (numbers_of rs)) (sym (with_items_is v ss (sym (as_many ss) ∙ ap length e ∙ as_many v.items ∙ sym v.ok.0))) (ascends_alike v.items ss e a)
  where
    as_many : (rs : List Row) → length (numbers_of rs) ≡ length rs
    as_many [] = refl
    as_many (r ∷ rs) = ap suc (as_many rs)

pub ascends_prepared : (v : Vec Row Global) (ss : List Row) → ss ≡ all_prepared v.items → Ascends 0 (numbers_of v.items) → Ascends 0 (numbers_of (with_items v ss).items)
ascends_prepared v ss e = lent_back v ss (ap numbers_of e ∙ prepared_numbers v.items)

pub ascends_standing : (rolls : Bool) (v : Vec Row Global) (ss : List Row) → ss ≡ standing_rows rolls v.items → Ascends 0 (numbers_of v.items) → Ascends 0 (numbers_of (with_items v ss).items)
ascends_standing rolls v ss e = lent_back v ss (ap numbers_of e ∙ standing_numbers rolls v.items)

pub ascends_seen : (live ends : Bool) (rs : List Row) (i : ℕ) (d : Row) → Ascends 0 (numbers_of rs) → Ascends 0 (numbers_of (set rs i (seen_at live ends (get_or rs i d))))
ascends_seen live ends rs i d = ascends_alike rs (set rs i (seen_at live ends (get_or rs i d))) (seen_numbers live ends rs i d)

pub ascends_noted : (rs ss : List Row) (p : ℕ) (n : Note) → ss ≡ noted_at rs p n → Ascends 0 (numbers_of rs) → Ascends 0 (numbers_of ss)
ascends_noted rs ss p n e = ascends_alike rs ss (ap numbers_of e ∙ noted_numbers rs p n)

pub ascends_marked : (v : Vec Row Global) (ss : List Row) (p : ℕ) (n : Note) → ss ≡ noted_at v.items p n → Ascends 0 (numbers_of v.items) → Ascends 0 (numbers_of (with_items v ss).items)
ascends_marked v ss p n e = lent_back v ss (ap numbers_of e ∙ noted_numbers v.items p n)

-- ---- one more

-- what the first one of several is does not matter
tail_ends : (r q : Row) (rs : List Row) (p : ℕ) → ends_below (r ∷ q ∷ rs) p ≡ ends_below (q ∷ rs) p
tail_ends r q rs p =
    let two : length (r ∷ q ∷ rs) - 1 ≡ suc (length rs) = omega arith in
    let one : length (q ∷ rs) - 1 ≡ length rs = omega arith in
    ap (λ i. there (r ∷ q ∷ rs) i) two ∙ sym (ap (λ i. there (q ∷ rs) i) one)
  where
    there : List Row → ℕ → Bool
    there ss i = elim (slice_get ss i) [ None ↦ true | Some s ↦ nat_lt s.branch.peer.node p ]

longer : (least : ℕ) (r : Row) (rs : List Row) (s : Row) → Ascends least (numbers_of (r ∷ rs)) → ends_below (r ∷ rs) s.branch.peer.node ≡ true
    → Ascends least (numbers_of (r ∷ rs ++ s ∷ []))
longer least r [] s a e = (a.0, (grind (arith, nat_tests, e), tt))
longer least r (q ∷ rs) s a e = (a.0, longer (suc r.branch.peer.node) q rs s a.1 (sym (tail_ends r q rs s.branch.peer.node) ∙ e))

pub ascends_longer : (rs : List Row) (s : Row) → Ascends 0 (numbers_of rs) → ends_below rs s.branch.peer.node ≡ true → Ascends 0 (numbers_of (rs ++ s ∷ []))
ascends_longer [] s a e = (omega arith, tt)
ascends_longer (r ∷ rs) s a e = longer 0 r rs s a e

-- ---- the first with a peer

at_least : (least : ℕ) (rs : List Row) (i : ℕ) (d : Row) → Ascends least (numbers_of rs) → i < length rs → least ≤ (get_or rs i d).branch.peer.node
at_least least [] i d a h = absurd (omega arith)
at_least least (r ∷ rs) zero d a h = a.0
at_least least (r ∷ rs) (suc i) d a h = above (a.0) (at_least (suc r.branch.peer.node) rs i d a.1 (omega arith))
  where
    above : {m n k : ℕ} → m ≤ n → suc n ≤ k → m ≤ k
    above h k = omega arith

none_before : (least : ℕ) (rs : List Row) (i p : ℕ) (d : Row) → Ascends least (numbers_of rs) → i < length rs → (get_or rs i d).branch.peer.node ≡ p → find_row (take i rs) p ≡ None
none_before least [] i p d a h e = absurd (omega arith)
none_before least (r ∷ rs) zero p d a h e = refl
none_before least (r ∷ rs) (suc i) p d a h e =
    grind (arith, nat_tests, e, at_least (suc r.branch.peer.node) rs i d a.1 (omega arith), none_before (suc r.branch.peer.node) rs i p d a.1 (omega arith) e)

pub first_with : (rs : List Row) (i p : ℕ) → Ascends 0 (numbers_of rs) → i < length rs → ((d : Row) → (get_or rs i d).branch.peer.node ≡ p) → IsFirstWith rs p i
first_with rs i p a h e = record { inside = h; with_peer = e; none_before = none rs a h e }
  where
    none : (rs : List Row) → Ascends 0 (numbers_of rs) → i < length rs → ((d : Row) → (get_or rs i d).branch.peer.node ≡ p) → find_row (take i rs) p ≡ None
    none [] a h e = absurd (omega arith)
    none (r ∷ rs) a h e = none_before 0 (r ∷ rs) i p r a h (e r)

-- none has a number above the last one

beyond : (least : ℕ) (r : Row) (rs : List Row) (p : ℕ) → Ascends least (numbers_of (r ∷ rs)) → ends_below (r ∷ rs) p ≡ true → (r.branch.peer.node < p) × (find_row (r ∷ rs) p ≡ None)
beyond least r [] p a e =
    let h : r.branch.peer.node < p = grind (arith, nat_tests, e) in
    (h, grind (arith, nat_tests, h))
beyond least r (q ∷ rs) p a e =
    let rest = beyond (suc r.branch.peer.node) q rs p a.1 (sym (tail_ends r q rs p) ∙ e) in
    let h : r.branch.peer.node < p = above a.1.0 rest.0 in
    (h, grind (arith, nat_tests, h, rest.1))
  where
    above : {m n k : ℕ} → suc m ≤ n → n < k → m < k
    above h k = omega arith

pub none_beyond : (rs : List Row) (p : ℕ) → Ascends 0 (numbers_of rs) → ends_below rs p ≡ true → find_row rs p ≡ None
none_beyond [] p a e = refl
none_beyond (r ∷ rs) p a e = (beyond 0 r rs p a e).1

-- what stands at that place is found, and noted

found_at : (rs : List Row) (i p : ℕ) (d : Row) → i < length rs → (get_or rs i d).branch.peer.node ≡ p → find_row (take i rs) p ≡ None → find_row rs p ≡ Some (get_or rs i d)
found_at [] i p d h e n = absurd (omega arith)
found_at (r ∷ rs) zero p d h e n = grind (arith, nat_tests, e)
found_at (r ∷ rs) (suc i) p d h e n = go (r.branch.peer.node == p) n (found_at rs i p d (omega arith) e)
  where
    go : (b : Bool) → (if b then Some r else find_row (take i rs) p) ≡ None → (find_row (take i rs) p ≡ None → find_row rs p ≡ Some (get_or rs i d))
        → (if b then Some r else find_row rs p) ≡ Some (get_or rs i d)
    go true n rest = absurd cc
    go false n rest = rest n

pub found_first : (rs : List Row) (i p : ℕ) (d : Row) → IsFirstWith rs p i → find_row rs p ≡ Some (get_or rs i d)
found_first rs i p d f = found_at rs i p d f.inside (f.with_peer d) f.none_before

marked_at : (rs : List Row) (i p : ℕ) (m : Note) (d : Row) → i < length rs → (get_or rs i d).branch.peer.node ≡ p → find_row (take i rs) p ≡ None
    → noted_at rs p m ≡ set rs i (noted m (get_or rs i d))
marked_at [] i p m d h e n = absurd (omega arith)
marked_at (r ∷ rs) zero p m d h e n = grind (arith, nat_tests, e)
marked_at (r ∷ rs) (suc i) p m d h e n = go (r.branch.peer.node == p) n (marked_at rs i p m d (omega arith) e)
  where
    go : (b : Bool) → (if b then Some r else find_row (take i rs) p) ≡ None → (find_row (take i rs) p ≡ None → noted_at rs p m ≡ set rs i (noted m (get_or rs i d)))
        → (if b then noted m r ∷ rs else r ∷ noted_at rs p m) ≡ r ∷ set rs i (noted m (get_or rs i d))
    go true n rest = absurd cc
    go false n rest = ap (λ (ss : List Row). r ∷ ss) (rest n)

pub noted_first : (rs : List Row) (i p : ℕ) (m : Note) (d : Row) → IsFirstWith rs p i → noted_at rs p m ≡ set rs i (noted m (get_or rs i d))
noted_first rs i p m d f = marked_at rs i p m d f.inside (f.with_peer d) f.none_before
