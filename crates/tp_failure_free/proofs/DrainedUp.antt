-- A drained tree without failure, from the leaves up: each node left, or is bound by a record of the tree.
use Rattle.std.proofs.Common.{◌≡◌, ◌≤◌, ◌+◌, ◌⊎◌, inl, inr, ℕ, zero, suc, Bool, true, false, refl, ap, sym, subst, ◌∙◌, arith, Option, Some, None, List, [], ◌∷◌, ◌==◌, length}
use Rattle.std.proofs.lemmas.Bool.Decides.{nat_tests}
use Rattle.tp_names.specs.declared.identifiers.Aaid.{Aaid}
use Rattle.tp_names.specs.declared.identifiers.BranchId.{BranchId}
use Rattle.tp_names.specs.declared.identifiers.Addr.{Addr}
use Rattle.tp_names.specs.Same.{is_aaid}
use Rattle.tp_model.specs.Parts.{Branch, Current}
use Rattle.tp_model.specs.Dialogues.{is_active, is_committing}
use Rattle.tp_model.specs.Transactions.{aaid_of}
use Rattle.tp_model.specs.History.{digest, records}
use Rattle.tp_model.specs.Outcomes.{is_now, has_left, has_asked_commit}
use Rattle.tp_model.specs.Questions.{is_at}
use Rattle.tp_model.specs.World.{Node, number_of, addr_of, find_node}
use Rattle.tp_model.specs.Happenings.{Happening, run}
use Rattle.tp_model.specs.Promises.{IsOf, IsBranchOf, AllAsked, has_told_in, has_logged, is_bound_of}
use Rattle.tp_histories.specs.Worlds.{place}
use Rattle.tp_steps.specs.Facts.{find_branch}
use Rattle.tp_histories.specs.Undone.{are_settled, is_left_unsettled, is_left_undone}
use Rattle.tp_steps.specs.Heeding.{is_answer, has_answered}
use Rattle.tp_failure_free.specs.Drained.{IsUnfailed, branch_is}
use Rattle.tp_failure_free.specs.DrainedWorlds.{IsUnfailedTree, IsDrainedTree, HasBegun, says}
use Rattle.tp_steps.proofs.lemmas.Equality.{or_case, aaids_equal}
use Rattle.tp_steps.proofs.branches.Rolls.{phase_at}
use Rattle.tp_histories.proofs.worlds.Good.{good_run}
use Rattle.tp_histories.proofs.worlds.Unique.{unique_run}
use Rattle.tp_histories.proofs.worlds.Starts.{all_legal}
use Rattle.tp_histories.proofs.trees.Fated.{fated_law}
use Rattle.tp_histories.proofs.worlds.TreeMembers.{own_untaken}
use Rattle.tp_agreement.proofs.ReadyDown.{begun_taken}
use Rattle.tp_agreement.proofs.BelowRuns.{branch_above}
use Rattle.tp_runs.proofs.Family.{commits_up}
use Rattle.tp_agreement.proofs.OwingLaw.{spread_at}
use Rattle.tp_histories.proofs.undone.Prompt.{prompt_run}
use Rattle.tp_agreement.proofs.Agreed.{rank}
use Rattle.tp_failure_free.proofs.Heeds.{heeds_ready}
use Rattle.tp_failure_free.proofs.NoRolling.{nobody_rolls}
use Rattle.tp_failure_free.proofs.DrainedBranches.{branches_are_there}
use Rattle.tp_failure_free.proofs.DrainedWords.{answers_are_taken}
use Rattle.tp_failure_free.proofs.DrainedNode.{IsBelow, Stands, Is_active, Is_bound, Has_left, stands_law, bound_by, asked_now, ready_up, left_up}
use Rattle.tp_failure_free.proofs.DrainedRows.{row_begun, all_settled_at}

-- a tree that the sentence speaks of
pub record IsDone (es : List Happening) (t : Aaid) : Type 0 where
  pub drained : IsDrainedTree (run es) t
  pub calm : IsUnfailedTree (run es) t
  pub asked : AllAsked (run es) t

pub unfailed_at : (es : List Happening) (t : Aaid) → IsDone es t → (x : Node) → IsOf (run es) t x → IsUnfailed t x.origin x.superior x.history
unfailed_at es t k x of = record {
  fresh = (good_run es).fresh (number_of x) x of.here;
  grown = (good_run es).legal (number_of x) x of.here;
  once = (unique_run es).once (number_of x) x of.here;
  calm = k.calm x of;
}

pub below_at : (es : List Happening) (t : Aaid) (b : BranchId) (x z : Node) → IsBranchOf (run es) t b x z → IsBelow z.origin z.superior t (number_of x)
below_at es t b x z branch = record {
  other = λ i. cc (own_untaken z.origin t z.history ((unique_run es).once (number_of z) z branch.child.here) i, begun_taken t b (addr_of x) z.history branch.begun);
  above = branch_above es t b x z branch;
}

-- ---- ranks

found_place : (ns : List Node) (n : ℕ) (x : Node) → find_node ns n ≡ Some x → suc (place ns n) ≤ length ns
found_place [] n x h = absurd (cc (h))
found_place (y ∷ ns) n x h = go (number_of y == n) refl (found_place ns n x)
  where
    first : (k : ℕ) → suc 0 ≤ suc k
    first k = omega arith

    next : (j k : ℕ) → suc j ≤ k → suc (suc j) ≤ suc k
    next j k i = omega (arith, i)

    go : (v : Bool) → (number_of y == n) ≡ v → (find_node ns n ≡ Some x → suc (place ns n) ≤ length ns) → suc (place (y ∷ ns) n) ≤ length (y ∷ ns)
    go true i rest = rw (i, place) (first (length ns))
    go false i rest = rw (i, place) (next (place ns n) (length ns) (rest (rw (i, find_node) at h)))

pub branch_before : (es : List Happening) (t : Aaid) (b : BranchId) (x z : Node) → IsBranchOf (run es) t b x z → suc (rank es x) ≤ rank es z
branch_before es t b x z branch = go z.superior refl (branch_above es t b x z branch)
  where
    go : (u : Option Addr) → z.superior ≡ u → is_at u (number_of x) ≡ true → suc (rank es x) ≤ rank es z
    go None i h = absurd (cc (h))
    go (Some s) i h =
        let at : s.node ≡ number_of x = grind (arith, nat_tests, h) in
        subst (λ (n : ℕ). suc (place (run es).nodes n) ≤ rank es z) at ((good_run es).above (number_of z) z s branch.child.here i).before

-- how far the node is from the last one
abbrev pub IsWithin : List Happening → ℕ → Node → Type 0
IsWithin es k x = length (run es).nodes ≤ rank es x + k

pub none_within : (es : List Happening) (t : Aaid) (x : Node) → IsOf (run es) t x → IsWithin es 0 x → ⊥
none_within es t x of le = over (rank es x) (length (run es).nodes) (found_place (run es).nodes (number_of x) x of.here) le
  where
    over : (p n : ℕ) → suc p ≤ n → n ≤ p + 0 → ⊥
    over p n i j = absurd (omega (arith, i, j))

pub branch_within : (es : List Happening) (t : Aaid) (b : BranchId) (k : ℕ) (x z : Node) → IsBranchOf (run es) t b x z → IsWithin es (suc k) x → IsWithin es k z
branch_within es t b k x z branch le = closer (rank es x) (rank es z) (length (run es).nodes) (branch_before es t b x z branch) le
  where
    closer : (p q n : ℕ) → suc p ≤ q → n ≤ p + suc k → n ≤ q + k
    closer p q n i j = omega (arith, i, j)

pub all_within : (es : List Happening) (x : Node) → IsWithin es (length (run es).nodes) x
all_within es x = far (rank es x) (length (run es).nodes)
  where
    far : (p n : ℕ) → n ≤ p + n
    far p n = omega arith

-- ---- what a branch answered was heeded

pub answer_heeded : (es : List Happening) (t : Aaid) → IsDone es t → (b : BranchId) (x z : Node) → IsBranchOf (run es) t b x z → has_told_in (says (number_of x) is_answer) z.origin t z.history ≡ true
    → (c : Current) → (digest x.origin x.history).current ≡ Some c → is_aaid t (aaid_of c.key) ≡ true → branch_is has_answered c (number_of z) ≡ true
answer_heeded es t k b x z branch said c at tree =
    let u = unfailed_at es t k x branch.superior in
    let took = answers_are_taken es t k.drained b x z branch said (ap (is_now t) at ∙ tree) in
    heeds_ready t x.origin x.superior x.history u c (number_of z) (nobody_rolls es t k.calm x branch.superior) took at tree

-- it has left, or is bound by a record
abbrev pub IsAnswered : Aaid → Node → Type 0
IsAnswered t x = (has_left x.origin t x.history ≡ true) ⊎ (has_logged (is_bound_of t) x ≡ true)

not_both : (x : Current) → is_active x.phase ≡ true → is_committing x.phase ≡ true → ⊥
not_both x h i = absurd (grind (arith, h, i))

branch_answered : (es : List Happening) (t : Aaid) → IsDone es t → (b : BranchId) (x z : Node) → IsBranchOf (run es) t b x z → IsAnswered t z
    → (c : Current) → (digest x.origin x.history).current ≡ Some c → is_aaid t (aaid_of c.key) ≡ true → is_active c.phase ≡ true → branch_is has_answered c (number_of z) ≡ true
branch_answered es t k b x z branch answered c at tree active = answer_heeded es t k b x z branch (said answered) c at tree
  where
    uz : IsUnfailed t z.origin z.superior z.history
    uz = unfailed_at es t k z branch.child

    ux : IsUnfailed t x.origin x.superior x.history
    ux = unfailed_at es t k x branch.superior

    said : IsAnswered t z → has_told_in (says (number_of x) is_answer) z.origin t z.history ≡ true
    said (inl l) = left_up z.origin z.superior z.history t (number_of x) uz (below_at es t b x z branch) l
    said (inr r) = elim (bound_by t (records z.origin z.history) r) [
      | inl i ↦ ready_up z.origin z.superior z.history t (number_of x) uz (below_at es t b x z branch) i
      | inr i ↦ absurd (not_both c active (sym (ap is_committing (phase_at (digest x.origin x.history) c at)) ∙ (fated_law x.origin x.superior x.history t ux.fresh ux.grown ux.once).commit_now (commits_up es t b x z branch i) (ap (is_now t) at ∙ tree)))
    ]

pub branch_at : (es : List Happening) (t : Aaid) → IsDone es t → (x : Node) → IsOf (run es) t x → (c : Current) (p : ℕ) (v : Branch) → (digest x.origin x.history).current ≡ Some c → is_aaid t (aaid_of c.key) ≡ true → find_branch c.branches p ≡ Some v
    → (z : Node) × (number_of z ≡ p) × IsBranchOf (run es) t v.id x z
branch_at es t k x of c p v at tree found =
    let begun = row_begun t x.origin x.superior x.history c p v (all_legal es x of.here) (unfailed_at es t k x of) at tree found in
    branches_are_there es t k.drained x p v.id of (subst (λ (u : Aaid). HasBegun x.history p u v.id) (sym (aaids_equal t (aaid_of c.key) tree)) begun)

pub found_is : (f : Branch → Bool) (c : Current) (p : ℕ) (v : Branch) → find_branch c.branches p ≡ Some v → branch_is f c p ≡ true → f v ≡ true
found_is f c p v found h = rw (found, branch_is) at h

-- ---- up

pub answered_up : (es : List Happening) (t : Aaid) → IsDone es t → (k : ℕ) (x : Node) → IsWithin es k x → IsOf (run es) t x → IsAnswered t x
answered_up es t d zero x le of = absurd (none_within es t x of le)
answered_up es t d (suc k) x le of = go (or_case (has_asked_commit x.origin t x.history) (has_left x.origin t x.history) (d.asked x of)) (λ b z branch. answered_up es t d k z (branch_within es t b k x z branch le) branch.child)
  where
    u : IsUnfailed t x.origin x.superior x.history
    u = unfailed_at es t d x of

    undone : (c : Current) → is_active c.phase ≡ true → c.asked ≡ true → are_settled c.branches ≡ true → is_left_undone c ≡ true
    undone c h i j = rw (h, i, j, is_left_undone, is_left_unsettled) refl

    never : (c : Current) → (digest x.origin x.history).current ≡ Some c → is_aaid t (aaid_of c.key) ≡ true → is_active c.phase ≡ true → has_asked_commit x.origin t x.history ≡ true
        → ((b : BranchId) (z : Node) → IsBranchOf (run es) t b x z → IsAnswered t z) → ⊥
    never c at tree active asked rest =
        let settled : are_settled c.branches ≡ true = all_settled_at c.branches (spread_at x.origin x.superior x.history u.fresh u.grown c at) (λ p v found.
        (let z = branch_at es t d x of c p v at tree found in
        found_is has_answered c p v found (subst (λ (n : ℕ). branch_is has_answered c n ≡ true) z.1 (branch_answered es t d v.id x z.0 z.2 (rest v.id z.0 z.2) c at tree active)))) in
        cc (undone c active (asked_now x.origin x.superior x.history t c u asked at tree) settled, prompt_run es x c of.here at)

    stood : Stands x.origin x.history t → has_asked_commit x.origin t x.history ≡ true → ((b : BranchId) (z : Node) → IsBranchOf (run es) t b x z → IsAnswered t z) → IsAnswered t x
    stood (Is_active c at tree active) asked rest = absurd (never c at tree active asked rest)
    stood (Is_bound r) asked rest = inr r
    stood (Has_left l) asked rest = inl l

    go : (has_asked_commit x.origin t x.history ≡ true) ⊎ (has_left x.origin t x.history ≡ true) → ((b : BranchId) (z : Node) → IsBranchOf (run es) t b x z → IsAnswered t z) → IsAnswered t x
    go (inr l) rest = inl l
    go (inl asked) rest = stood (stands_law x.origin x.superior x.history t (all_legal es x of.here) u (nobody_rolls es t d.calm x of) of.of_tree) asked rest

pub all_answered : (es : List Happening) (t : Aaid) → IsDone es t → (x : Node) → IsOf (run es) t x → IsAnswered t x
all_answered es t d x of = answered_up es t d (length (run es).nodes) x (all_within es x) of
