-- What agreement of a tree rests on: Ready and leaving go down, Commit and the rolling of a ready branch go up.
use Rattle.std.proofs.Common.{◌≡◌, ◌≢◌, ◌≤◌, ◌⊎◌, inl, inr, ℕ, zero, suc, Bool, true, false, refl, ap, sym, subst, ◌∙◌, arith, Option, Some, None, List, ◌==◌}
use Rattle.std.proofs.lemmas.Bool.Decides.{nat_tests}
use Rattle.tp_names.specs.declared.identifiers.Aaid.{Aaid}
use Rattle.tp_names.specs.declared.outcome.Outcome.{Outcome}
use Rattle.tp_names.specs.Same.{is_name}
use Rattle.tp_model.specs.History.{records}
use Rattle.tp_model.specs.Outcomes.{decided, rolled, has_left, decision}
use Rattle.tp_model.specs.World.{Node, number_of, site_of, find_node}
use Rattle.tp_model.specs.Happenings.{Happening, run}
use Rattle.tp_model.specs.Promises.{IsOf, HasDecided, OneOutcome, is_root, told_of, has_logged, is_bound_of}
use Rattle.tp_histories.specs.Worlds.{place}
use Rattle.tp_histories.specs.Fates.{IsFated}
use Rattle.tp_agreement.specs.Logs.{CommitsAlone}
use Rattle.tp_steps.proofs.lemmas.Equality.{and_right}
use Rattle.tp_histories.proofs.worlds.Good.{good_run}
use Rattle.tp_histories.proofs.worlds.Unique.{unique_run}
use Rattle.tp_histories.proofs.trees.Fated.{fated_law}
use Rattle.tp_runs.proofs.Left.{left_is_not_rolled}
use Rattle.tp_runs.proofs.Family.{commits_up}
use Rattle.tp_runs.proofs.Hanging.{hangs}
use Rattle.tp_agreement.proofs.Bounds.{commit_bound, ready_bound}
use Rattle.tp_agreement.proofs.RollsUp.{rolls_up, left_down, ready_down}
use Rattle.std.proofs.Math.Nat.{le_refl}
use Rattle.tp_steps.proofs.lemmas.Options.{some_same}

pub less : (a b k : ℕ) → suc a ≤ b → b ≤ suc k → a ≤ k
less a b k h i = omega (arith, h, i)

pub no_less : (a b : ℕ) → suc a ≤ b → b ≤ 0 → ⊥
no_less a b h i = omega (arith, h, i)

abbrev pub rank : List Happening → Node → ℕ
rank es y = place (run es).nodes (number_of y)

-- the root is one node
pub one_root : (es : List Happening) (t : Aaid) (x y : Node) → IsOf (run es) t x → IsOf (run es) t y → is_root t x ≡ true → is_root t y ≡ true → x ≡ y
one_root es t x y here there a b =
    let m : t.mark.node ≡ number_of x = at x a in
    let n : t.mark.node ≡ number_of y = at y b in
    some_same x y (sym here.here ∙ ap (find_node (run es).nodes) (sym m ∙ n) ∙ there.here)
  where
    at : (z : Node) → is_root t z ≡ true → t.mark.node ≡ number_of z
    at z h = let k = and_right (is_name t.owner (site_of z)) (t.mark.node == number_of z) h in grind (arith, nat_tests, k)

-- ---- up to the root

record CommittedRoot (es : List Happening) (t : Aaid) : Type 0 where
  node : Node
  of : IsOf (run es) t node
  root : is_root t node ≡ true
  commits : decided node.origin t node.history ≡ true

committed_root : (es : List Happening) (t : Aaid) (k : ℕ) (y : Node) (b : Bool) → is_root t y ≡ b → rank es y ≤ k → IsOf (run es) t y → decided y.origin t y.history ≡ true → CommittedRoot es t
committed_root es t k y true i le of c = record { node = y; of = of; root = i; commits = c }
committed_root es t zero y false i le of c = let u = hangs es t y of i in absurd (no_less (rank es u.superior) (rank es y) u.before le)
committed_root es t (suc k) y false i le of c =
    let u = hangs es t y of i in
    committed_root es t k u.superior (is_root t u.superior) refl (less (rank es u.superior) (rank es y) k u.before le) u.branch.superior (commits_up es t u.id u.superior y u.branch c)

-- ---- and down again

-- below a root that commits a node left, or logged Ready or Commit
bound_below : (es : List Happening) (t : Aaid) → CommittedRoot es t → (k : ℕ) (y : Node) (b : Bool) → is_root t y ≡ b → rank es y ≤ k → IsOf (run es) t y
    → (has_left y.origin t y.history ≡ true) ⊎ (has_logged (is_bound_of t) y ≡ true)
bound_below es t r k y true i le of =
    let same : r.node ≡ y = one_root es t r.node y r.of of r.root i in
    inr (commit_bound t (records y.origin y.history) (subst (λ (v : Node). decided v.origin t v.history ≡ true) same r.commits))
bound_below es t r zero y false i le of = let u = hangs es t y of i in absurd (no_less (rank es u.superior) (rank es y) u.before le)
bound_below es t r (suc k) y false i le of =
    let u = hangs es t y of i in
    elim (bound_below es t r k u.superior (is_root t u.superior) refl (less (rank es u.superior) (rank es y) k u.before le) u.branch.superior) [
      | inl gone ↦ inl (left_down es t u.id u.superior y u.branch gone)
      | inr bound ↦ elim (ready_down es t u.id u.superior y u.branch bound) [ inl gone ↦ inl gone | inr voted ↦ inr (ready_bound t u.id (records y.origin y.history) voted) ]
    ]

-- below a root that commits a node did not roll
none_rolls : (es : List Happening) (t : Aaid) → CommittedRoot es t → (k : ℕ) (y : Node) (b : Bool) → is_root t y ≡ b → rank es y ≤ k → IsOf (run es) t y
    → rolled y.origin t y.history ≡ true → ⊥
none_rolls es t r k y true i le of roll =
    let same : r.node ≡ y = one_root es t r.node y r.of of r.root i in
    let good = good_run es in
    let fated : IsFated y.origin y.history t = fated_law y.origin y.superior y.history t (good.fresh (number_of y) y of.here) (good.legal (number_of y) y of.here) ((unique_run es).once (number_of y) y of.here) in
    fated.never_both (subst (λ (v : Node). decided v.origin t v.history ≡ true) same r.commits) roll
none_rolls es t r zero y false i le of roll = let u = hangs es t y of i in absurd (no_less (rank es u.superior) (rank es y) u.before le)
none_rolls es t r (suc k) y false i le of roll =
    let u = hangs es t y of i in
    let below : rank es u.superior ≤ k = less (rank es u.superior) (rank es y) k u.before le in
    let stayed : has_left y.origin t y.history ≡ true → ⊥ = λ gone. cc (left_is_not_rolled es t y of gone, roll) in
    elim (bound_below es t r k u.superior (is_root t u.superior) refl below u.branch.superior) [
      | inl gone ↦ absurd (stayed (left_down es t u.id u.superior y u.branch gone))
      | inr bound ↦ elim (ready_down es t u.id u.superior y u.branch bound) [
        | inl gone ↦ absurd (stayed gone)
        | inr voted ↦ none_rolls es t r k u.superior (is_root t u.superior) refl below u.branch.superior (rolls_up es t u.id u.superior y u.branch voted roll)
      ]
    ]

-- a node that logged Commit, and one that rolled, are of different trees
pub never_two : (es : List Happening) (t : Aaid) → (x y : Node) → IsOf (run es) t x → IsOf (run es) t y → decided x.origin t x.history ≡ true → rolled y.origin t y.history ≡ true → ⊥
never_two es t x y here there c roll =
    let r = committed_root es t (rank es x) x (is_root t x) refl (le_refl (rank es x)) here c in
    none_rolls es t r (rank es y) y (is_root t y) refl (le_refl (rank es y)) there roll

pub commits_alone : (es : List Happening) → CommitsAlone (run es)
commits_alone es t x y here there c roll = never_two es t x y here there c roll

-- ---- what was told

told_commit : (t : Aaid) (x : Node) → decision x.origin t x.history ≡ None → told_of t x ≡ Some Outcome.Commit → decided x.origin t x.history ≡ true
told_commit t x none h = grind (arith, none, h)

told_rollback : (t : Aaid) (x : Node) → decision x.origin t x.history ≡ None → told_of t x ≡ Some Outcome.Rollback → rolled x.origin t x.history ≡ true
told_rollback t x none h = grind (arith, none, h)

pub one_outcome : (es : List Happening) → OneOutcome (run es)
one_outcome es t x y o p here there tx ty differ = go (decision x.origin t x.history) refl (decision y.origin t y.history) refl
  where
    clash : (o p : Outcome) → told_of t x ≡ Some o → told_of t y ≡ Some p → o ≢ p → decision x.origin t x.history ≡ None → decision y.origin t y.history ≡ None → ⊥
    clash Outcome.Commit Outcome.Commit a b ne i j = ne refl
    clash Outcome.Rollback Outcome.Rollback a b ne i j = ne refl
    clash Outcome.Commit Outcome.Rollback a b ne i j = never_two es t x y here there (told_commit t x i a) (told_rollback t y j b)
    clash Outcome.Rollback Outcome.Commit a b ne i j = never_two es t y x there here (told_commit t y j b) (told_rollback t x i a)

    go : (u : Option Outcome) → decision x.origin t x.history ≡ u → (v : Option Outcome) → decision y.origin t y.history ≡ v → HasDecided t x ⊎ HasDecided t y
    go (Some u) i v j = inl (u, i)
    go None i (Some v) j = inr (v, j)
    go None i None j = absurd (clash o p tx ty differ i j)
