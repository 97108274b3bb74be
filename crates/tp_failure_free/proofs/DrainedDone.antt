-- A drained tree without failure, from the leaves up: each node that stays was told that its commitment is complete, with no report.
use Rattle.std.proofs.Common.{◌≡◌, ◌⊎◌, inl, inr, ℕ, zero, suc, Bool, true, false, refl, ap, sym, subst, ◌∙◌, arith, Some, List, length}
use Rattle.tp_names.specs.declared.identifiers.Aaid.{Aaid}
use Rattle.tp_names.specs.declared.identifiers.BranchId.{BranchId}
use Rattle.tp_names.specs.Same.{is_aaid}
use Rattle.tp_model.specs.Parts.{Branch, Current}
use Rattle.tp_model.specs.Dialogues.{is_committing}
use Rattle.tp_model.specs.Transactions.{aaid_of}
use Rattle.tp_model.specs.History.{digest, records}
use Rattle.tp_model.specs.Outcomes.{is_now, is_owed, decided, has_left, completed_none}
use Rattle.tp_model.specs.World.{Node, number_of}
use Rattle.tp_model.specs.Happenings.{Happening, run}
use Rattle.tp_model.specs.Promises.{IsOf, IsBranchOf, has_told_in, has_record, is_ready_of_branch}
use Rattle.tp_model.specs.Questions.{tells_commit_complete}
use Rattle.tp_steps.specs.Facts.{find_branch, has_ready_of}
use Rattle.tp_histories.specs.Undone.{are_done, is_left_incomplete, is_left_undone}
use Rattle.tp_steps.specs.Heeding.{has_answered, has_ended}
use Rattle.tp_histories.specs.Upward.{deeds_of}
use Rattle.tp_failure_free.specs.Drained.{IsUnfailed, branch_is}
use Rattle.tp_steps.proofs.lemmas.Equality.{or_case, aaids_equal}
use Rattle.tp_runs.proofs.Bare.{left_is_bare}
use Rattle.tp_agreement.proofs.Bounds.{ready_bound}
use Rattle.tp_agreement.proofs.ReadyDown.{bound_tree}
use Rattle.tp_agreement.proofs.BelowRuns.{branch_above, ready_logged}
use Rattle.tp_agreement.proofs.RollsUp.{below_run}
use Rattle.tp_agreement.proofs.LeftDown.{accounts_of}
use Rattle.tp_agreement.proofs.Accounts.{counted_of}
use Rattle.tp_agreement.proofs.Marked.{Marked}
use Rattle.tp_agreement.proofs.OwingLaw.{spread_at}
use Rattle.tp_histories.proofs.undone.Prompt.{prompt_run}
use Rattle.tp_failure_free.proofs.Heeds.{heeds_done}
use Rattle.tp_failure_free.proofs.ClearLaw.{report_law}
use Rattle.tp_failure_free.proofs.NoRolling.{nobody_rolls}
use Rattle.tp_failure_free.proofs.DrainedDones.{dones_are_taken}
use Rattle.tp_failure_free.proofs.DrainedNode.{Commits, Is_committing, Was_told, commits_law, left_up, done_up}
use Rattle.tp_failure_free.proofs.DrainedRows.{all_done_at}
use Rattle.tp_failure_free.proofs.DrainedUp.{IsDone, unfailed_at, below_at, IsWithin, none_within, branch_within, all_within, answer_heeded, branch_at, found_is}
use Rattle.tp_failure_free.proofs.DrainedDown.{all_ordered}
use Rattle.tp_failure_free.proofs.DrainedClear.{all_clear}

-- a branch that left has left above too
left_above : (es : List Happening) (t : Aaid) → IsDone es t → (x z : Node) (c : Current) (v : Branch) → IsBranchOf (run es) t v.id x z → (digest x.origin x.history).current ≡ Some c → is_aaid t (aaid_of c.key) ≡ true
    → find_branch c.branches (number_of z) ≡ Some v → has_left z.origin t z.history ≡ true → has_ended v ≡ true
left_above es t k x z c v branch at tree found l = go (or_case v.counted v.left (found_is has_answered c (number_of z) v found answered))
  where
    answered : branch_is has_answered c (number_of z) ≡ true
    answered = answer_heeded es t k v.id x z branch (left_up z.origin z.superior z.history t (number_of x) (unfailed_at es t k z branch.child) (below_at es t v.id x z branch) l) c at tree

    never : v.counted ≡ true → ⊥
    never i =
        let below = below_run es x z branch.superior.here branch.child.here (branch_above es t v.id x z branch) in
        let m : Marked counted_of (digest x.origin x.history).current (number_of z) (aaid_of c.key, v.id) = record { current = c; branch = v; at = at; found = found; is = i; key = refl } in
        let r : has_ready_of (aaid_of c.key, v.id) (records z.origin z.history) ≡ true = (accounts_of x.origin x.superior (number_of z) (deeds_of z.origin z.history) (records z.origin z.history) x.history below).counted (aaid_of c.key, v.id) m in
        let same : aaid_of c.key ≡ t = sym (aaids_equal t (aaid_of c.key) tree) in
        let mine : has_record (is_ready_of_branch t v.id) (records z.origin z.history) ≡ true = subst (λ (u : Aaid). has_record (is_ready_of_branch u v.id) (records z.origin z.history) ≡ true) same (ready_logged (aaid_of c.key, v.id) (records z.origin z.history) r) in
        cc (bound_tree t (records z.origin z.history) (ready_bound t v.id (records z.origin z.history) mine), left_is_bare es t z branch.child l)

    go : (v.counted ≡ true) ⊎ (v.left ≡ true) → has_ended v ≡ true
    go (inl i) = absurd (never i)
    go (inr i) = rw i (grind arith)

-- one that stays, and is complete, has ended above
done_above : (es : List Happening) (t : Aaid) → IsDone es t → (x z : Node) (c : Current) (v : Branch) → IsBranchOf (run es) t v.id x z → (digest x.origin x.history).current ≡ Some c → is_aaid t (aaid_of c.key) ≡ true
    → find_branch c.branches (number_of z) ≡ Some v → completed_none z.origin t z.history ≡ true → has_ended v ≡ true
done_above es t k x z c v branch at tree found done =
    let u = unfailed_at es t k x branch.superior in
    let said = done_up z.origin z.superior z.history t (number_of x) (unfailed_at es t k z branch.child) (below_at es t v.id x z branch) done in
    let took = dones_are_taken es t k.drained k.calm v.id x z branch said (ap (is_now t) at ∙ tree) in
    found_is has_ended c (number_of z) v found (heeds_done t x.origin x.superior x.history u c (number_of z) took at tree)

done_up_to : (es : List Happening) (t : Aaid) → IsDone es t → (k : ℕ) (x : Node) → IsWithin es k x → IsOf (run es) t x → has_left x.origin t x.history ≡ false → completed_none x.origin t x.history ≡ true
done_up_to es t d zero x le of stay = absurd (none_within es t x of le)
done_up_to es t d (suc k) x le of stay = go (λ b z branch. done_up_to es t d k z (branch_within es t b k x z branch le) branch.child)
  where
    u : IsUnfailed t x.origin x.superior x.history
    u = unfailed_at es t d x of

    done : decided x.origin t x.history ≡ true
    done = elim (all_ordered es t d x of) [ inl l ↦ absurd (cc (l, stay)) | inr c ↦ c ]

    undone : (c : Current) → is_committing c.phase ≡ true → c.owes ≡ false → are_done c.branches ≡ true → is_left_undone c ≡ true
    undone c h i j = let one : is_left_incomplete c ≡ true = rw (h, i, j, is_left_incomplete) refl in rw one (grind arith)

    owes_none : (c : Current) → (digest x.origin x.history).current ≡ Some c → is_aaid t (aaid_of c.key) ≡ true → (v : Bool) → c.owes ≡ v → c.owes ≡ false
    owes_none c at tree false i = i
    owes_none c at tree true i = let owed : is_owed x.origin t x.history ≡ true = rw (at, tree, i, is_owed) refl in absurd (cc (owed, d.drained.settled x of))

    ended : ((b : BranchId) (z : Node) → IsBranchOf (run es) t b x z → has_left z.origin t z.history ≡ false → completed_none z.origin t z.history ≡ true)
        → (c : Current) → (digest x.origin x.history).current ≡ Some c → is_aaid t (aaid_of c.key) ≡ true → (p : ℕ) (v : Branch) → find_branch c.branches p ≡ Some v → has_ended v ≡ true
    ended rest c at tree p v found = by (branch_at es t d x of c p v at tree found)
      where
        by : (z : Node) × (number_of z ≡ p) × IsBranchOf (run es) t v.id x z → has_ended v ≡ true
        by z = on (has_left z.0.origin t z.0.history) refl
          where
            here : find_branch c.branches (number_of z.0) ≡ Some v
            here = ap (find_branch c.branches) z.1 ∙ found

            on : (w : Bool) → has_left z.0.origin t z.0.history ≡ w → has_ended v ≡ true
            on true i = left_above es t d x z.0 c v z.2 at tree here i
            on false i = done_above es t d x z.0 c v z.2 at tree here (rest v.id z.0 z.2 i)

    told : ((b : BranchId) (z : Node) → IsBranchOf (run es) t b x z → has_left z.origin t z.history ≡ false → completed_none z.origin t z.history ≡ true) → Commits x.origin x.history t → has_told_in tells_commit_complete x.origin t x.history ≡ true
    told rest (Was_told i) = i
    told rest (Is_committing c at tree now) =
        let all : are_done c.branches ≡ true = all_done_at c.branches (spread_at x.origin x.superior x.history u.fresh u.grown c at) (ended rest c at tree) in
        absurd (cc (undone c now (owes_none c at tree c.owes refl) all, prompt_run es x c of.here at))

    go : ((b : BranchId) (z : Node) → IsBranchOf (run es) t b x z → has_left z.origin t z.history ≡ false → completed_none z.origin t z.history ≡ true) → completed_none x.origin t x.history ≡ true
    go rest =
        report_law x.origin x.superior x.history t u (all_clear es t d.drained d.calm x of rest)
        (told rest (commits_law x.origin x.superior x.history t u (nobody_rolls es t d.calm x of) stay of.of_tree done))

pub all_done : (es : List Happening) (t : Aaid) → IsDone es t → (x : Node) → IsOf (run es) t x → has_left x.origin t x.history ≡ false → completed_none x.origin t x.history ≡ true
all_done es t d x of stay = done_up_to es t d (length (run es).nodes) x (all_within es x) of stay
