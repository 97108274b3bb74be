-- A drained tree without failure, from the root down: each node left, or logged Commit.
use Rattle.std.proofs.Common.{◌≡◌, ◌≤◌, ◌⊎◌, inl, inr, ℕ, zero, suc, Bool, true, false, refl, sym, subst, List, ◌==◌}
use Rattle.tp_names.specs.declared.identifiers.Aaid.{Aaid}
use Rattle.tp_names.specs.declared.identifiers.BranchId.{BranchId}
use Rattle.tp_names.specs.Same.{is_name}
use Rattle.tp_model.specs.History.{digest, records}
use Rattle.tp_model.specs.Outcomes.{is_now, decided, has_left}
use Rattle.tp_model.specs.World.{Node, number_of, site_of}
use Rattle.tp_model.specs.Happenings.{Happening, run}
use Rattle.tp_model.specs.Promises.{IsOf, IsBranchOf, is_root, has_told_in}
use Rattle.tp_histories.specs.Members.{is_own}
use Rattle.tp_steps.specs.Facts.{is_order}
use Rattle.tp_steps.specs.Upward.{Deeds}
use Rattle.tp_histories.specs.Upward.{deeds_of}
use Rattle.tp_failure_free.specs.Drained.{IsUnfailed}
use Rattle.tp_failure_free.specs.DrainedWorlds.{says}
use Rattle.tp_steps.proofs.lemmas.Equality.{and_right}
use Rattle.tp_runs.proofs.Users.{sees_commit}
use Rattle.tp_histories.proofs.worlds.TreeMembers.{own_untaken}
use Rattle.tp_agreement.proofs.BelowRuns.{SentBegin, branch_above, branch_sent}
use Rattle.tp_agreement.proofs.RollsUp.{below_run, left_down}
use Rattle.tp_agreement.proofs.LeftDown.{Below}
use Rattle.tp_runs.proofs.Hanging.{hangs}
use Rattle.tp_agreement.proofs.Agreed.{rank, less, no_less}
use Rattle.tp_reports.proofs.Finished.{Ending, Goes_on, It_rolled, It_left, It_was_told, ending_law}
use Rattle.tp_failure_free.proofs.Heeds.{heeds_commit}
use Rattle.tp_failure_free.proofs.NoRolling.{nobody_rolls}
use Rattle.tp_failure_free.proofs.DrainedOrders.{orders_are_taken}
use Rattle.tp_failure_free.proofs.DrainedNode.{bound_by, complete_told, ready_begun}
use Rattle.tp_failure_free.proofs.DrainedRows.{order_down}
use Rattle.tp_failure_free.proofs.DrainedUp.{IsDone, unfailed_at, IsAnswered, all_answered}
use Rattle.std.proofs.Math.Nat.{le_refl}

-- it has left, or logged Commit
abbrev pub IsOrdered : Aaid → Node → Type 0
IsOrdered t x = (has_left x.origin t x.history ≡ true) ⊎ (decided x.origin t x.history ≡ true)

root_ordered : (es : List Happening) (t : Aaid) → IsDone es t → (x : Node) → IsOf (run es) t x → is_root t x ≡ true → IsAnswered t x → IsOrdered t x
root_ordered es t k x of root (inl l) = inl l
root_ordered es t k x of root (inr r) = elim (bound_by t (records x.origin x.history) r) [
  | inr c ↦ inr c
  | inl i ↦
      (let u = unfailed_at es t k x of in
      let own : is_own x.origin.who t ≡ true = and_right (is_name t.owner (site_of x)) (t.mark.node == number_of x) root in
      absurd (cc (own_untaken x.origin t x.history u.once own, ready_begun x.origin x.superior x.history t u i)))
]

-- a branch of a node that logged Commit
branch_ordered : (es : List Happening) (t : Aaid) → IsDone es t → (b : BranchId) (x z : Node) → IsBranchOf (run es) t b x z → decided x.origin t x.history ≡ true → IsOrdered t z
branch_ordered es t k b x z branch done = go (has_left z.origin t z.history) refl
  where
    ux : IsUnfailed t x.origin x.superior x.history
    ux = unfailed_at es t k x branch.superior

    uz : IsUnfailed t z.origin z.superior z.history
    uz = unfailed_at es t k z branch.child

    s : SentBegin x z t b
    s = branch_sent es t b x z branch

    g : Deeds
    g = deeds_of z.origin z.history

    there : Below x.origin x.superior s.to.node g (records z.origin z.history) x.history
    there = subst (λ (n : ℕ). Below x.origin x.superior n g (records z.origin z.history) x.history) (sym s.at) (below_run es x z branch.superior.here branch.child.here (branch_above es t b x z branch))

    said : has_left z.origin t z.history ≡ false → has_told_in (says (number_of z) is_order) x.origin t x.history ≡ true
    said stays =
        subst (λ (n : ℕ). has_told_in (says n is_order) x.origin t x.history ≡ true) s.at
        (order_down x.origin x.superior g (records z.origin z.history) t s.to s.x_mark s.y_mark s.seq b s.holder x.history ux there stays s.sent done)

    heeded : has_left z.origin t z.history ≡ false → is_now t (digest z.origin z.history).current ≡ true → decided z.origin t z.history ≡ true
    heeded stays now =
        heeds_commit t z.origin z.superior z.history uz (number_of x) (nobody_rolls es t k.calm z branch.child) (orders_are_taken es t k.drained b x z branch (said stays) now)

    stood : has_left z.origin t z.history ≡ false → Ending z.origin z.history t → IsOrdered t z
    stood stays (Goes_on n) = inr (heeded stays n)
    stood stays (It_rolled r) = absurd (cc (nobody_rolls es t k.calm z branch.child, r))
    stood stays (It_left l) = inl l
    stood stays (It_was_told v) = inr (sees_commit z.origin z.superior z.history t uz.fresh uz.grown uz.once (complete_told z.origin t z.history v))

    go : (v : Bool) → has_left z.origin t z.history ≡ v → IsOrdered t z
    go true i = inl i
    go false i = stood i (ending_law z.origin z.superior z.history t uz.fresh uz.grown uz.once branch.child.of_tree)

ordered_down : (es : List Happening) (t : Aaid) → IsDone es t → (k : ℕ) (y : Node) (b : Bool) → is_root t y ≡ b → rank es y ≤ k → IsOf (run es) t y → IsOrdered t y
ordered_down es t d k y true i le of = root_ordered es t d y of i (all_answered es t d y of)
ordered_down es t d zero y false i le of = let u = hangs es t y of i in absurd (no_less (rank es u.superior) (rank es y) u.before le)
ordered_down es t d (suc k) y false i le of =
    let u = hangs es t y of i in
    elim (ordered_down es t d k u.superior (is_root t u.superior) refl (less (rank es u.superior) (rank es y) k u.before le) u.branch.superior) [
      | inl gone ↦ inl (left_down es t u.id u.superior y u.branch gone)
      | inr done ↦ branch_ordered es t d u.id u.superior y u.branch done
    ]

pub all_ordered : (es : List Happening) (t : Aaid) → IsDone es t → (x : Node) → IsOf (run es) t x → IsOrdered t x
all_ordered es t d x of = ordered_down es t d (rank es x) x (is_root t x) refl (le_refl (rank es x)) of
