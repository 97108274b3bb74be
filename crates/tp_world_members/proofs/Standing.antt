-- Members that are handed in, that drive nodes, and that are dropped.
use Rattle.std.proofs.Common.{◌≡◌, ◌==◌, ◌&&◌, ◌||◌, not, nat_le, ℕ, zero, suc, Bool, true, false, refl, ap, sym, ◌∙◌, subst, arith, inl, Option, Some, None, List, [], ◌∷◌, length, map, slice_index_or, nat_eq}
use Rattle.std.proofs.lemmas.Bool.Decides.{nat_tests}
use Rattle.std.specs.Map.{lookup}
use Rattle.tp_records.specs.Answers.{Answer}
use Rattle.tp_model.specs.World.{World, Drive, empty_world, driver_of, driven, undriven, without_member}
use Rattle.tp_model.specs.Happenings.{Drive as DriveNode, Drop, happens}
use Rattle.tp_model.specs.Lines.{is_dropped, is_member_there}
use Rattle.tp_world_members.specs.Members.{is_there, slot_at, driver_in, now_driven, may, AreSame, HasLeft, Gave}
use Rattle.tp_world_members.specs.Standing.{is_undriven, are_alone, MembersStand}
use Rattle.tp_world_members.proofs.Asking.{driver_same}

-- ---- the first world

each_there : {M : Type 0} (ms : List M) (i : ℕ) → is_there (slice_index_or (map (λ m. Some m) ms) i None) ≡ not (nat_le (length ms) i)
each_there [] i = grind (arith, nat_tests)
each_there (m ∷ ms) zero = grind (arith, nat_tests)
each_there (m ∷ ms) (suc i) = each_there ms i ∙ grind (arith, nat_tests)

all_there : {M : Type 0} (ms : List M) (k : ℕ) → is_there (slot_at (map (λ m. Some m) ms) k) ≡ (nat_le 1 k && nat_le k (length ms) && not (is_dropped [] k))
all_there ms zero = refl
all_there ms (suc i) = each_there ms i ∙ go (nat_le (length ms) i) (nat_le (suc i) (length ms)) refl refl
  where
    go : (a b : Bool) → nat_le (length ms) i ≡ a → nat_le (suc i) (length ms) ≡ b → not a ≡ (nat_le 1 (suc i) && b && true)
    go true true e f = absurd (grind (arith, nat_tests, e, f))
    go true false e f = grind (arith, nat_tests)
    go false true e f = grind (arith, nat_tests)
    go false false e f = absurd (grind (arith, nat_tests, e, f))

as_many : {M : Type 0} (ms : List M) → length (map (λ m. Some m) ms) ≡ length ms
as_many [] = refl
as_many (m ∷ ms) = ap (λ (n : ℕ). suc n) (as_many ms)

members_first : {M : Type 0} (ms : List M) → MembersStand empty_world (map (λ m. Some m) ms) []
members_first ms = record {
  there = λ k. all_there ms k ∙ ap (λ (n : ℕ). nat_le 1 k && nat_le k n && not (is_dropped [] k)) (sym (as_many ms));
  drivers = λ n. refl;
  alone = refl;
}

pub members_first_so : {M : Type 0} (ms : List M) (xs : List (Option M)) (es : List (ℕ × ℕ)) → xs ≡ map (λ m. Some m) ms → es ≡ [] → MembersStand empty_world xs es
members_first_so {M} ms xs es is none =
    subst (λ (l : List (ℕ × ℕ)). MembersStand empty_world xs l) (sym none) (subst (λ (l : List (Option M)). MembersStand empty_world l []) (sym is) (members_first ms))

-- ---- nothing has changed

pub members_same : {M : Type 0} (w : World) (xs ys : List (Option M)) (es fs : List (ℕ × ℕ)) → AreSame xs ys → fs ≡ es → MembersStand w xs es → MembersStand w ys fs
members_same w xs ys es fs same is s = record {
  there = λ k. same.there k ∙ s.there k ∙ ap (λ (n : ℕ). is_member_there n w k) (sym same.count);
  drivers = λ n. s.drivers n ∙ sym (driver_same xs ys es fs same is n);
  alone = s.alone;
}

pub members_kept : {M : Type 0} (v w : World) (xs : List (Option M)) (es : List (ℕ × ℕ)) → v.drives ≡ w.drives → v.dropped ≡ w.dropped → MembersStand w xs es → MembersStand v xs es
members_kept v w xs es drives dropped s = record {
  there = λ k. s.there k ∙ ap (λ (ks : List ℕ). nat_le 1 k && nat_le k (length xs) && not (is_dropped ks k)) (sym dropped);
  drivers = λ n. ap (λ (ds : List Drive). driver_of ds n) drives ∙ s.drivers n;
  alone = ap are_alone drives ∙ s.alone;
}

-- ---- a member drives a node

others_driven : (ds : List Drive) (n m : ℕ) → (n == m) ≡ false → driver_of (undriven ds n) m ≡ driver_of ds m
others_driven [] n m other = refl
others_driven (d ∷ ds) n m other = go (d.node == n) (d.node == m) refl refl (others_driven ds n m other)
  where
    go : (a b : Bool) → (d.node == n) ≡ a → (d.node == m) ≡ b → driver_of (undriven ds n) m ≡ driver_of ds m
        → driver_of (elim a as (λ _. List Drive) [ true ↦ undriven ds n | false ↦ d ∷ undriven ds n ]) m ≡ (elim b as (λ _. Option ℕ) [ true ↦ Some d.member | false ↦ driver_of ds m ])
    go true true e f more = absurd (grind (arith, nat_tests, e, f, other))
    go true false e f more = more
    go false true e f more = ap (λ (c : Bool). elim c as (λ _. Option ℕ) [ true ↦ Some d.member | false ↦ driver_of (undriven ds n) m ]) f
    go false false e f more = ap (λ (c : Bool). elim c as (λ _. Option ℕ) [ true ↦ Some d.member | false ↦ driver_of (undriven ds n) m ]) f ∙ more

undriven_still : (ds : List Drive) (n m : ℕ) → is_undriven ds m ≡ true → is_undriven (undriven ds n) m ≡ true
undriven_still [] n m h = refl
undriven_still (d ∷ ds) n m h = go (d.node == n) (undriven_still ds n m (grind (arith, h)))
  where
    go : (a : Bool) → is_undriven (undriven ds n) m ≡ true → is_undriven (elim a as (λ _. List Drive) [ true ↦ undriven ds n | false ↦ d ∷ undriven ds n ]) m ≡ true
    go true more = more
    go false more = grind (arith, h, more)

now_undriven : (ds : List Drive) (n : ℕ) → is_undriven (undriven ds n) n ≡ true
now_undriven [] n = refl
now_undriven (d ∷ ds) n = go (d.node == n) refl (now_undriven ds n)
  where
    go : (a : Bool) → (d.node == n) ≡ a → is_undriven (undriven ds n) n ≡ true → is_undriven (elim a as (λ _. List Drive) [ true ↦ undriven ds n | false ↦ d ∷ undriven ds n ]) n ≡ true
    go true e more = more
    go false e more = grind (arith, e, more)

alone_still : (ds : List Drive) (n : ℕ) → are_alone ds ≡ true → are_alone (undriven ds n) ≡ true
alone_still [] n h = refl
alone_still (d ∷ ds) n h = go (d.node == n) (alone_still ds n (grind (arith, h))) (undriven_still ds n d.node (grind (arith, h)))
  where
    go : (a : Bool) → are_alone (undriven ds n) ≡ true → is_undriven (undriven ds n) d.node ≡ true → are_alone (elim a as (λ _. List Drive) [ true ↦ undriven ds n | false ↦ d ∷ undriven ds n ]) ≡ true
    go true more still = more
    go false more still = grind (arith, more, still)

pub members_drive : {M : Type 0} (w : World) (xs : List (Option M)) (es fs : List (ℕ × ℕ)) (n k : ℕ) → is_there (slot_at xs k) ≡ true → ((m : ℕ) → lookup (nat_eq m) fs ≡ now_driven (nat_eq n m) k (lookup (nat_eq m) es)) → MembersStand w xs es
    → MembersStand (happens w (DriveNode n k)).world xs fs
members_drive {M} w xs es fs n k there noted s = record {
  there = s.there;
  drivers = λ m. go m (n == m) refl;
  alone = grind (arith, now_undriven w.drives n, alone_still w.drives n s.alone);
}
  where
    by : Option ℕ → Option ℕ
    by o = elim o [ None ↦ None | Some j ↦ elim (is_there (slot_at xs j)) [ true ↦ Some j | false ↦ None ] ]

    go : (m : ℕ) (b : Bool) → (n == m) ≡ b → driver_of (driven w.drives n k) m ≡ driver_in xs fs m
    go m true e =
        ap (λ (c : Bool). elim c as (λ _. Option ℕ) [ true ↦ Some k | false ↦ driver_of (undriven w.drives n) m ]) e
        ∙ sym (ap by (noted m ∙ ap (λ (c : Bool). now_driven c k (lookup (nat_eq m) es)) e) ∙ ap (λ (c : Bool). elim c as (λ _. Option ℕ) [ true ↦ Some k | false ↦ None ]) there)
    go m false e =
        ap (λ (c : Bool). elim c as (λ _. Option ℕ) [ true ↦ Some k | false ↦ driver_of (undriven w.drives n) m ]) e
        ∙ others_driven w.drives n m e ∙ s.drivers m
        ∙ sym (ap by (noted m ∙ ap (λ (c : Bool). now_driven c k (lookup (nat_eq m) es)) e))

-- ---- a member is dropped

-- who drives a node once it is
abbrev but : ℕ → Option ℕ → Option ℕ
but k None = None
but k (Some j) = elim (j == k) [ true ↦ None | false ↦ Some j ]

none_without : (ds : List Drive) (k m : ℕ) → is_undriven ds m ≡ true → driver_of (without_member ds k) m ≡ None
none_without [] k m h = refl
none_without (d ∷ ds) k m h = go (d.member == k) (none_without ds k m (grind (arith, h)))
  where
    other : (d.node == m) ≡ false
    other = grind (arith, h)

    go : (a : Bool) → driver_of (without_member ds k) m ≡ None → driver_of (elim a as (λ _. List Drive) [ true ↦ without_member ds k | false ↦ d ∷ without_member ds k ]) m ≡ None
    go true more = more
    go false more = ap (λ (c : Bool). elim c as (λ _. Option ℕ) [ true ↦ Some d.member | false ↦ driver_of (without_member ds k) m ]) other ∙ more

driver_without : (ds : List Drive) (k m : ℕ) → are_alone ds ≡ true → driver_of (without_member ds k) m ≡ but k (driver_of ds m)
driver_without [] k m h = refl
driver_without (d ∷ ds) k m h = go (d.member == k) (d.node == m) refl refl (driver_without ds k m (grind (arith, h)))
  where
    free : is_undriven ds d.node ≡ true
    free = grind (arith, h)

    to : Bool → Option ℕ → Option ℕ
    to b o = elim b [ true ↦ Some d.member | false ↦ o ]

    go : (a b : Bool) → (d.member == k) ≡ a → (d.node == m) ≡ b → driver_of (without_member ds k) m ≡ but k (driver_of ds m)
        → driver_of (elim a as (λ _. List Drive) [ true ↦ without_member ds k | false ↦ d ∷ without_member ds k ]) m ≡ but k (to b (driver_of ds m))
    go true true e f more = none_without ds k m (subst (λ (n : ℕ). is_undriven ds n ≡ true) (grind (arith, nat_tests, f)) free)
        ∙ sym (ap (λ (c : Bool). elim c as (λ _. Option ℕ) [ true ↦ None | false ↦ Some d.member ]) e)
    go true false e f more = more
    go false true e f more = ap (λ (c : Bool). to c (driver_of (without_member ds k) m)) f ∙ sym (ap (λ (c : Bool). elim c as (λ _. Option ℕ) [ true ↦ None | false ↦ Some d.member ]) e)
    go false false e f more = ap (λ (c : Bool). to c (driver_of (without_member ds k) m)) f ∙ more

undriven_without : (ds : List Drive) (k m : ℕ) → is_undriven ds m ≡ true → is_undriven (without_member ds k) m ≡ true
undriven_without [] k m h = refl
undriven_without (d ∷ ds) k m h = go (d.member == k) (undriven_without ds k m (grind (arith, h)))
  where
    go : (a : Bool) → is_undriven (without_member ds k) m ≡ true → is_undriven (elim a as (λ _. List Drive) [ true ↦ without_member ds k | false ↦ d ∷ without_member ds k ]) m ≡ true
    go true more = more
    go false more = grind (arith, h, more)

alone_without : (ds : List Drive) (k : ℕ) → are_alone ds ≡ true → are_alone (without_member ds k) ≡ true
alone_without [] k h = refl
alone_without (d ∷ ds) k h = go (d.member == k) (alone_without ds k (grind (arith, h))) (undriven_without ds k d.node (grind (arith, h)))
  where
    go : (a : Bool) → are_alone (without_member ds k) ≡ true → is_undriven (without_member ds k) d.node ≡ true → are_alone (elim a as (λ _. List Drive) [ true ↦ without_member ds k | false ↦ d ∷ without_member ds k ]) ≡ true
    go true more still = more
    go false more still = grind (arith, more, still)

pub members_left : {M : Type 0} (w : World) (xs ys : List (Option M)) (es fs : List (ℕ × ℕ)) (k : ℕ) → length ys ≡ length xs → HasLeft k xs ys → fs ≡ es → MembersStand w xs es → MembersStand (happens w (Drop k)).world ys fs
members_left {M} w xs ys es fs k count left is s = record {
  there = λ j. ap is_there (left j) ∙ one j (k == j) ∙ ap (λ (n : ℕ). nat_le 1 j && nat_le j n && not (is_dropped (k ∷ w.dropped) j)) (sym count);
  drivers = λ n. driver_without w.drives k n s.alone ∙ ap (but k) (s.drivers n) ∙ node n (lookup (nat_eq n) es) ∙ ap (λ (l : List (ℕ × ℕ)). driver_in ys l n) (sym is);
  alone = alone_without w.drives k s.alone;
}
  where
    gone : ℕ → Bool → Option M
    gone j b = elim b [ true ↦ None | false ↦ slot_at xs j ]

    one : (j : ℕ) (b : Bool) → is_there (gone j b) ≡ (nat_le 1 j && nat_le j (length xs) && not (b || is_dropped w.dropped j))
    one j true = grind (arith)
    one j false = s.there j

    by_old : Option ℕ → Option ℕ
    by_old o = elim o [ None ↦ None | Some j ↦ elim (is_there (slot_at xs j)) [ true ↦ Some j | false ↦ None ] ]

    by_new : Option ℕ → Option ℕ
    by_new o = elim o [ None ↦ None | Some j ↦ elim (is_there (slot_at ys j)) [ true ↦ Some j | false ↦ None ] ]

    both : (j : ℕ) (b : Bool) → (k == j) ≡ b → but k (by_old (Some j)) ≡ (elim (is_there (gone j b)) as (λ _. Option ℕ) [ true ↦ Some j | false ↦ None ])
    both j true e = cases (is_there (slot_at xs j))
      where
        cases : (c : Bool) → but k (elim c as (λ _. Option ℕ) [ true ↦ Some j | false ↦ None ]) ≡ None
        cases true = ap (λ (d : Bool). elim d as (λ _. Option ℕ) [ true ↦ None | false ↦ Some j ]) (let f : (j == k) ≡ true = grind (arith, nat_tests, e) in f)
        cases false = refl
    both j false e = cases (is_there (slot_at xs j))
      where
        cases : (c : Bool) → but k (elim c as (λ _. Option ℕ) [ true ↦ Some j | false ↦ None ]) ≡ (elim c as (λ _. Option ℕ) [ true ↦ Some j | false ↦ None ])
        cases true = ap (λ (d : Bool). elim d as (λ _. Option ℕ) [ true ↦ None | false ↦ Some j ]) (let f : (j == k) ≡ false = grind (arith, nat_tests, e) in f)
        cases false = refl

    node : (n : ℕ) (o : Option ℕ) → but k (by_old o) ≡ by_new o
    node n None = refl
    node n (Some j) = both j (k == j) refl ∙ ap (λ (b : Bool). elim b as (λ _. Option ℕ) [ true ↦ Some j | false ↦ None ]) (ap is_there (sym (left j)))

pub gave_left : {M : Type 0} (allowed : M → List Answer → Type 0) (k : ℕ) (xs ys : List (Option M)) → HasLeft k xs ys → Gave allowed xs ys [] []
gave_left {M} allowed k xs ys left j rest h = go (k == j) (subst (λ (x : Option M). may allowed x rest) (left j) h)
  where
    silent_now : (x : Option M) → rest ≡ [] → may allowed x rest
    silent_now None e = e
    silent_now (Some m) e = inl e

    go : (b : Bool) → may allowed (elim b as (λ _. Option M) [ true ↦ None | false ↦ slot_at xs j ]) rest → may allowed (slot_at xs j) rest
    go true e = silent_now (slot_at xs j) e
    go false e = e
