-- In every run, one entry more at one node is steps of the page.
use Rattle.std.proofs.Common.{◌≡◌, ◌≤◌, inl, inr, ℕ, suc, Bool, true, false, cond, refl, ap, sym, subst, ◌∙◌, arith, Option, Some, None, List, [], ◌∷◌, ◌==◌}
use Rattle.std.specs.Prelude.{◌≢◌}
use Rattle.std.proofs.lemmas.Bool.Decides.{nat_tests}
use Rattle.tp_names.specs.declared.identifiers.Aaid.{Aaid}
use Rattle.tp_names.specs.declared.identifiers.BranchId.{BranchId}
use Rattle.tp_names.specs.declared.outcome.Outcome.{Outcome}
use Rattle.tp_logrec.specs.declared.record.LogRec.{LogRec}
use Rattle.tp_model.specs.Parts.{Origin, Entry}
use Rattle.tp_model.specs.History.{digest, records}
use Rattle.tp_model.specs.Outcomes.{is_now, is_member, decided, decision, rolled, has_left, completed_none}
use Rattle.tp_model.specs.World.{Node, number_of, find_node}
use Rattle.tp_model.specs.Happenings.{Happening, run}
use Rattle.tp_model.specs.Promises.{IsIn, IsOf, IsBranchOf, is_root, is_of_tree, is_bound_of, has_record, has_logged}
use Rattle.tp_model.specs.Promises.{is_ready_of_branch as is_ready_rec}
use Rattle.tp_histories.specs.Fates.{has_ready_in}
use Rattle.tp_reports.specs.Clearing.{is_for_rollback}
use Rattle.tp_tree_commit.specs.TreeCommit.{Ending, Part, EachBranch, IsActive, HasVoted, HasLeft, HasCommitted, HasRolled, IsOver, TakesBranches, MayEnter, entering}
use Rattle.tp_tree_commit.specs.Walks.{Walks, stays}
use Rattle.tp_tree_commit.proofs.lemmas.Walks.{Elsewhere, enters_walks, Voting, No_vote, Ready, Leaving, Deciding, No_decision, Decides, Closing, No_end, Root_commits, Branch_commits, Active_rolls, Ready_rolls, Clearing, No_completion, Clears, Becomes, becomes_walks}
use Rattle.tp_refinement.specs.Refinement.{ending_of, above_of, part_of, part_in, tree_in}
use Rattle.tp_steps.proofs.lemmas.Equality.{or_case, and_right}
use Rattle.tp_steps.proofs.lemmas.Options.{some_same}
use Rattle.tp_steps.proofs.lemmas.Words.{commit_more}
use Rattle.tp_histories.proofs.trees.Fated.{fated_law}
use Rattle.tp_histories.proofs.worlds.Nodes.{find_is}
use Rattle.tp_runs.proofs.Left.{left_is_not_rolled}
use Rattle.tp_runs.proofs.Bare.{left_is_bare}
use Rattle.tp_runs.proofs.Family.{commits_up}
use Rattle.tp_agreement.proofs.RollsUp.{rolls_up, left_down, ready_down}
use Rattle.tp_agreement.proofs.ReadyDown.{once_same}
use Rattle.tp_agreement.proofs.BelowRuns.{ready_took, ready_logged}
use Rattle.tp_agreement.proofs.Bounds.{commit_bound}
use Rattle.tp_agreement.proofs.OwingLaw.{rolled_more}
use Rattle.tp_agreement.proofs.Logs.{later_member}
use Rattle.tp_reports.proofs.ClearedLaw.{IsCleared, cleared_law}
use Rattle.tp_reports.proofs.ReportFree.{clear_below}
use Rattle.tp_outcomes.proofs.Staying.{decision_step}
use Rattle.tp_outcomes.proofs.TreesListed.{listed_once}
use Rattle.tp_refinement.proofs.Nodes.{Sound, not_true, decision_record, ready_more, Fresh, entering_fresh, ready_branch, ready_foreign, left_foreign, OpenStill, first_ready, Doubtful, first_decision, first_commit}
use Rattle.tp_refinement.proofs.Parts.{made_same, with_history, part_there, part_none, Seen, seen}
use Rattle.tp_refinement.proofs.Around.{sound_run, root_own, drew_root, above_root, HasSuperior, superior_at, root_or_below, not_itself, with_superior, each_branch, vote_is, ending_is, left_is, voted_is, committed_is, later, branch_ready, ready_bound}

-- what happens is one entry of the history of one node
pub record OneEntry (es : List Happening) (f : Happening) : Type 0 where
  pub node : Node
  pub entry : Entry
  pub here : IsIn (run es) node
  pub after : (m : ℕ) → find_node (run (f ∷ es)).nodes m ≡ cond (number_of node == m) (Some (with_history node (entry ∷ node.history))) (find_node (run es).nodes m)

-- ---- the node before and after it

record Growth (es : List Happening) (f : Happening) (t : Aaid) : Type 0 where
  x : Node
  e : Entry
  old : IsIn (run es) x
  new : IsIn (run (f ∷ es)) (with_history x (e ∷ x.history))
  was : tree_in (run es) t (number_of x) ≡ part_in t (Some x)
  is : tree_in (run (f ∷ es)) t (number_of x) ≡ part_in t (Some (with_history x (e ∷ x.history)))
  elsewhere : Elsewhere (tree_in (run es) t) (tree_in (run (f ∷ es)) t) (number_of x)
  sound : Sound x.origin x.superior (e ∷ x.history)

growth : (es : List Happening) (f : Happening) (t : Aaid) → OneEntry es f → Growth es f t
growth es f t o = record {
  x = x;
  e = o.entry;
  old = o.here;
  new = new;
  was = ap (part_in t) o.here;
  is = ap (part_in t) new;
  elsewhere = λ m i. ap (part_in t) (o.after m ∙ ap (λ (b : Bool). cond b (Some y) (find_node (run es).nodes m)) i);
  sound = sound_run (f ∷ es) y new;
}
  where
    x : Node
    x = o.node

    y : Node
    y = with_history x (o.entry ∷ x.history)

    self : (number_of x == number_of x) ≡ true
    self = grind (arith, nat_tests)

    new : find_node (run (f ∷ es)).nodes (number_of x) ≡ Some y
    new = o.after (number_of x) ∙ ap (λ (b : Bool). cond b (Some y) (find_node (run es).nodes (number_of x))) self

-- ---- it enters the tree

enters : (es : List Happening) (f : Happening) (t : Aaid) (g : Growth es f t) → is_member g.x.origin t g.x.history ≡ false → is_member g.x.origin t (g.e ∷ g.x.history) ≡ true → Walks (tree_in (run es) t) (tree_in (run (f ∷ es)) t)
enters es f t g out there = enters_walks (tree_in (run es) t) (tree_in (run (f ∷ es)) t) (number_of x) (part_of t y) (g.was ∙ part_none t x out) (g.is ∙ part_there t y there) g.elsewhere bare (may (is_root t y) refl)
  where
    x : Node
    x = g.x

    y : Node
    y = with_history x (g.e ∷ x.history)

    now : is_now t (digest x.origin y.history).current ≡ true
    now = elim (or_case (is_now t (digest x.origin y.history).current) (is_member x.origin t x.history) there) [ inl i ↦ i | inr i ↦ absurd (cc (i, out)) ]

    fresh : Fresh x.origin y.history t
    fresh = entering_fresh x.origin x.superior g.e x.history t g.sound out now

    of : IsOf (run (f ∷ es)) t y
    of = record { here = g.new; of_tree = there }

    bare : part_of t y ≡ entering (above_of t y)
    bare = made_same (above_of t y) false (has_left x.origin t y.history) false (has_ready_in t (records x.origin y.history)) false (decided x.origin t y.history) false (rolled x.origin t y.history) None (decision x.origin t y.history) false (completed_none x.origin t y.history)
        fresh.unleft fresh.unready fresh.uncommitted fresh.unrolled fresh.undecided fresh.unclear

    -- nobody is in a tree whose root is not
    nobody : is_root t y ≡ true → (m : ℕ) → tree_in (run es) t m ≡ None
    nobody root m = go (tree_in (run es) t m) refl
      where
        alone : (p : Part) → tree_in (run es) t m ≡ Some p → ⊥
        alone p at =
            let s : Seen t (find_node (run es).nodes m) p = seen t (find_node (run es).nodes m) p at in
            let z : Node = s.node in
            let of : IsOf (run es) t z = record { here = ap (find_node (run es).nodes) (find_is (run es).nodes m z s.found) ∙ s.found; of_tree = s.member } in
            let l = listed_once es in
            let r = l.rooted t (subst (λ (k : ℕ). suc 0 ≤ k) (sym (l.once t z of)) (omega arith)) in
            let number : number_of r.0 ≡ number_of x = sym (drawn r.0 r.2) ∙ drawn y root in
            let same : r.0 ≡ x = some_same r.0 x (sym r.1.here ∙ ap (find_node (run es).nodes) number ∙ g.old) in
            cc (subst (λ (v : Node). is_member v.origin t v.history ≡ true) same r.1.of_tree, out)
          where
            drawn : (v : Node) → is_root t v ≡ true → t.mark.node ≡ number_of v
            drawn v i = let j = and_right _ (t.mark.node == number_of v) i in grind (arith, nat_tests, j)

        go : (v : Option Part) → tree_in (run es) t m ≡ v → tree_in (run es) t m ≡ None
        go None i = i
        go (Some p) i = absurd (alone p i)

    -- the superior has not voted, nor committed, since its branch has not
    unbound : (z : Node) (b : BranchId) → IsBranchOf (run (f ∷ es)) t b z y → has_logged (is_bound_of t) z ≡ true → ⊥
    unbound z b branch bound = elim (ready_down (f ∷ es) t b z y branch bound) [ inl l ↦ cc (l, fresh.unleft) | inr r ↦ (let ready = branch_ready t b (records x.origin y.history) r in cc (ready, fresh.unready)) ]

    takes : (z : Node) (b : BranchId) → IsBranchOf (run (f ∷ es)) t b z y → TakesBranches (part_of t z)
    takes z b branch = (vote_is t z false false left ready, uncommitted)
      where
        left : has_left z.origin t z.history ≡ false
        left = not_true (has_left z.origin t z.history) (λ l. cc (left_down (f ∷ es) t b z y branch l, fresh.unleft))

        ready : has_ready_in t (records z.origin z.history) ≡ false
        ready = not_true (has_ready_in t (records z.origin z.history)) (λ r. unbound z b branch (ready_bound t (records z.origin z.history) r))

        commits : decided z.origin t z.history ≡ false
        commits = not_true (decided z.origin t z.history) (λ c. unbound z b branch (commit_bound t (records z.origin z.history) c))

        uncommitted : (part_of t z).ending ≢ Ending.Committed
        uncommitted is = by (rolled z.origin t z.history) (sym (ending_is t z false (rolled z.origin t z.history) commits refl) ∙ is)
          where
            by : (b : Bool) → ending_of false b ≡ Ending.Committed → ⊥
            by true i = cc (i)
            by false i = cc (i)

    may : (b : Bool) → is_root t y ≡ b → MayEnter (tree_in (run es) t) (entering (above_of t y))
    may true i = inl (above_root t y i, nobody i)
    may false i =
        let u : HasSuperior (f ∷ es) t y = superior_at (f ∷ es) t y of i in
        inr (number_of u.node, part_of t u.node, u.above, sym (g.elsewhere (number_of u.node) u.other) ∙ u.there, takes u.node u.id u.branch)

-- ---- it was in the tree

becomes : (es : List Happening) (f : Happening) (t : Aaid) (g : Growth es f t) → is_member g.x.origin t g.x.history ≡ true → Becomes (tree_in (run (f ∷ es)) t) (number_of g.x) (part_of t g.x) (part_of t (with_history g.x (g.e ∷ g.x.history)))
becomes es f t g member = record {
  superior = refl;
  other = not_itself fs t y of;
  voting = voting (has_left o t h2) refl (has_left o t h) refl (has_ready_in t (records o h2)) refl (has_ready_in t (records o h)) refl;
  deciding = deciding (decision o t h) refl (decision o t h2) refl;
  closing = closing (decided o t h) refl (decided o t h2) refl (rolled o t h) refl (rolled o t h2) refl;
  clearing = clearing (completed_none o t h) refl (completed_none o t h2) refl;
}
  where
    fs : List Happening
    fs = f ∷ es

    x : Node
    x = g.x

    o : Origin
    o = x.origin

    h : List Entry
    h = x.history

    h2 : List Entry
    h2 = g.e ∷ h

    y : Node
    y = with_history x h2

    p : Part
    p = part_of t x

    q : Part
    q = part_of t y

    of : IsOf (run fs) t y
    of = record { here = g.new; of_tree = later_member o t g.e h member }

    -- what was so is so
    left_more : has_left o t h ≡ true → has_left o t h2 ≡ true
    left_more i = later _ (has_left o t h) i

    committed_more : decided o t h ≡ true → decided o t h2 ≡ true
    committed_more i = commit_more t g.e.rec (records o h) i

    unready_then : has_ready_in t (records o h2) ≡ false → has_ready_in t (records o h) ≡ false
    unready_then i = not_true (has_ready_in t (records o h)) (λ r. cc (ready_more t g.e.rec (records o h) r, i))

    uncommitted_then : decided o t h2 ≡ false → decided o t h ≡ false
    uncommitted_then i = not_true (decided o t h) (λ c. cc (committed_more c, i))

    unrolled_then : rolled o t h2 ≡ false → rolled o t h ≡ false
    unrolled_then i = not_true (rolled o t h) (λ b. cc (rolled_more o g.e h t b, i))

    -- a node that left logged nothing
    bare : has_left o t h2 ≡ true → has_record (is_of_tree t) (records o h2) ≡ true → ⊥
    bare l r = cc (left_is_bare fs t y of l, r)

    bound_record : (rs : List LogRec) → has_record (is_bound_of t) rs ≡ true → has_record (is_of_tree t) rs ≡ true
    bound_record [] i = absurd (cc (i))
    bound_record (r ∷ rs) i = elim (or_case (is_bound_of t r) (has_record (is_bound_of t) rs) i) [ inl j ↦ first r j | inr j ↦ later (is_of_tree t r) (has_record (is_of_tree t) rs) (bound_record rs j) ]
      where
        first : (r : LogRec) → is_bound_of t r ≡ true → has_record (is_of_tree t) (r ∷ rs) ≡ true
        first (LogRec.Ready n k s cs) j = rw j refl
        first (LogRec.Commit n k s cs) j = rw j refl
        first _ j = absurd (cc (j))

    left_unready : has_left o t h2 ≡ true → has_ready_in t (records o h2) ≡ false
    left_unready l = not_true (has_ready_in t (records o h2)) (λ r. bare l (bound_record (records o h2) (ready_bound t (records o h2) r)))

    left_uncommitted : has_left o t h2 ≡ true → decided o t h2 ≡ false
    left_uncommitted l = not_true (decided o t h2) (λ c. bare l (bound_record (records o h2) (commit_bound t (records o h2) c)))

    unleft : has_record (is_bound_of t) (records o h2) ≡ true → has_left o t h2 ≡ false
    unleft r = not_true (has_left o t h2) (λ l. bare l (bound_record (records o h2) r))

    -- a root neither votes nor leaves
    not_root : (is_root t y ≡ true → ⊥) → p.superior ≢ None
    not_root below none = below (root_or_below fs t y of none)

    ready_below : has_ready_in t (records o h2) ≡ true → is_root t y ≡ true → ⊥
    ready_below r i = ready_foreign o x.superior h2 t g.sound r (root_own t y i)

    left_below : has_left o t h2 ≡ true → is_root t y ≡ true → ⊥
    left_below l i = left_foreign o x.superior h2 t g.sound l (root_own t y i)

    -- each branch of one that is bound has voted
    all_voted : has_record (is_bound_of t) (records o h2) ≡ true → EachBranch (tree_in (run fs) t) (number_of x) HasVoted
    all_voted bound = each_branch fs t y HasVoted g.new (λ z b branch. elim (ready_down fs t b y z branch bound) [ inl l ↦ inr (left_is t z l) | inr r ↦ voted_is t z (branch_ready t b (records z.origin z.history) r) ])

    all_left : has_left o t h2 ≡ true → EachBranch (tree_in (run fs) t) (number_of x) HasLeft
    all_left l = each_branch fs t y HasLeft g.new (λ z b branch. left_is t z (left_down fs t b y z branch l))

    active : has_left o t h ≡ false → has_ready_in t (records o h) ≡ false → decided o t h2 ≡ false → rolled o t h2 ≡ false → IsActive p
    active l r c b = (vote_is t x false false l r, ending_is t x false false (uncommitted_then c) (unrolled_then b))

    voting : (l2 : Bool) → has_left o t h2 ≡ l2 → (l : Bool) → has_left o t h ≡ l → (r2 : Bool) → has_ready_in t (records o h2) ≡ r2 → (r : Bool) → has_ready_in t (records o h) ≡ r → Voting (tree_in (run fs) t) (number_of x) p q
    voting true l2 true l r2 ri r ri2 = No_vote (left_is t y l2 ∙ sym (left_is t x l))
    voting true l2 false l r2 ri2 r ri =
        Leaving (not_root (left_below l2)) (active l (unready_then (left_unready l2)) (left_uncommitted l2) (left_is_not_rolled fs t y of l2)) (left_is t y l2) (all_left l2)
    voting false l2 true l r2 ri2 r ri = absurd (cc (left_more l, l2))
    voting false l2 false l true ri2 true ri = No_vote (vote_is t y false true l2 ri2 ∙ sym (vote_is t x false true l ri))
    voting false l2 false l true ri2 false ri =
        let s : OpenStill o h2 t = first_ready o x.superior g.e h t g.sound ri ri2 in
        Ready (not_root (ready_below ri2)) (active l ri s.uncommitted s.unrolled) (vote_is t y false true l2 ri2) (all_voted (ready_bound t (records o h2) ri2))
    voting false l2 false l false ri2 r ri = No_vote (vote_is t y false false l2 ri2 ∙ sym (vote_is t x false false l (unready_then ri2)))

    deciding : (d : Option Outcome) → decision o t h ≡ d → (d2 : Option Outcome) → decision o t h2 ≡ d2 → Deciding p q
    deciding (Some u) i d2 j = No_decision (decision_step o x.superior g.e h t u g.sound.empty g.sound.legal g.sound.once i ∙ sym i)
    deciding None i None j = No_decision (j ∙ sym i)
    deciding None i (Some u) j =
        let s : Doubtful o h t = first_decision o x.superior g.e h t u g.sound i j in
        let left2 : has_left o t h2 ≡ false = not_true (has_left o t h2) (λ l. bare l (decision_record t (records o h2) u j)) in
        let left : has_left o t h ≡ false = not_true (has_left o t h) (λ l. cc (left_more l, left2)) in
        Decides u i (vote_is t x false true left s.ready, ending_is t x false false s.uncommitted s.unrolled) (vote_is t y false true left2 (ready_more t g.e.rec (records o h) s.ready)) j

    open_is : decided o t h ≡ false → rolled o t h ≡ false → p.ending ≡ Ending.Open
    open_is c b = ending_is t x false false c b

    -- its Ready is that of its branch
    branch_of : (z : Node) (b : BranchId) → IsBranchOf (run fs) t b z y → has_ready_in t (records o h2) ≡ true → has_logged (is_ready_rec t b) y ≡ true
    branch_of z b branch r =
        let k = ready_branch o x.superior h2 t g.sound r in
        let took = ready_took o x.superior h2 (t, k.0) g.sound.empty g.sound.legal k.1 in
        let same : k.0 ≡ b = once_same o h2 t b k.0 _ took.from took.x took.y took.seq took.holder g.sound.once branch.begun took.took in
        subst (λ (id : BranchId). has_logged (is_ready_rec t id) y ≡ true) same (ready_logged (t, k.0) (records o h2) k.1)

    commits : (i : Bool) → is_root t y ≡ i → decided o t h ≡ false → decided o t h2 ≡ true → rolled o t h ≡ false → Closing (tree_in (run fs) t) (number_of x) p q
    commits true root c c2 b =
        let unvoted = vote_is t y false false (not_true (has_left o t h2) (λ l. left_below l root)) (not_true (has_ready_in t (records o h2)) (λ r. ready_below r root)) in
        Root_commits (open_is c b) (committed_is t y c2) (above_root t x root) unvoted (all_voted (commit_bound t (records o h2) c2))
    commits false root c c2 b = elim (first_commit o x.superior g.e h t g.sound c c2) [
      | inl r ↦
          Branch_commits (open_is c b) (committed_is t y c2) (vote_is t y false true (unleft (commit_bound t (records o h2) c2)) (ready_more t g.e.rec (records o h) r))
          (with_superior fs t y HasCommitted of root (λ z k branch. committed_is t z (commits_up fs t k z y branch c2)))
      | inr own ↦ absurd (cc (drew_root t y own, root))
    ]

    rolls_back : (r : Bool) → has_ready_in t (records o h2) ≡ r → decided o t h2 ≡ false → rolled o t h ≡ false → rolled o t h2 ≡ true → Closing (tree_in (run fs) t) (number_of x) p q
    rolls_back r ri c2 b b2 = by r ri
      where
        whole : has_left o t h2 ≡ false
        whole = not_true (has_left o t h2) (λ l. cc (left_is_not_rolled fs t y of l, b2))

        is : q.ending ≡ Ending.Rolled
        is = ending_is t y false true c2 b2

        by : (r : Bool) → has_ready_in t (records o h2) ≡ r → Closing (tree_in (run fs) t) (number_of x) p q
        by false ri = Active_rolls (open_is (uncommitted_then c2) b) is (vote_is t y false false whole ri)
        by true ri =
            Ready_rolls (open_is (uncommitted_then c2) b) is (vote_is t y false true whole ri)
            (with_superior fs t y HasRolled of (not_true (is_root t y) (ready_below ri)) (λ z k branch. rolled_is z (rolls_up fs t k z y branch (branch_of z k branch ri) b2) branch.superior))
          where
            rolled_is : (z : Node) → rolled z.origin t z.history ≡ true → IsOf (run fs) t z → HasRolled (part_of t z)
            rolled_is z r zof =
                let k : Sound z.origin z.superior z.history = sound_run fs z zof.here in
                let uncommitted = not_true (decided z.origin t z.history) (λ c. (fated_law z.origin z.superior z.history t k.empty k.legal k.once).never_both c r) in
                ending_is t z false true uncommitted r

    never_both : decided o t h2 ≡ true → rolled o t h2 ≡ true → ⊥
    never_both c b = (fated_law o x.superior h2 t g.sound.empty g.sound.legal g.sound.once).never_both c b

    closing : (c : Bool) → decided o t h ≡ c → (c2 : Bool) → decided o t h2 ≡ c2 → (b : Bool) → rolled o t h ≡ b → (b2 : Bool) → rolled o t h2 ≡ b2 → Closing (tree_in (run fs) t) (number_of x) p q
    closing true ci c2 ci2 b bi b2 bi2 = No_end (committed_is t y (committed_more ci) ∙ sym (committed_is t x ci))
    closing false ci true ci2 true bi b2 bi2 = absurd (never_both ci2 (rolled_more o g.e h t bi))
    closing false ci true ci2 false bi b2 bi2 = commits (is_root t y) refl ci ci2 bi
    closing false ci false ci2 true bi b2 bi2 = No_end (ending_is t y false true ci2 (rolled_more o g.e h t bi) ∙ sym (ending_is t x false true ci bi))
    closing false ci false ci2 false bi true bi2 = rolls_back (has_ready_in t (records o h2)) refl ci2 bi bi2
    closing false ci false ci2 false bi false bi2 = No_end (ending_is t y false false ci2 bi2 ∙ sym (ending_is t x false false ci bi))

    clearing : (k : Bool) → completed_none o t h ≡ k → (k2 : Bool) → completed_none o t h2 ≡ k2 → Clearing (tree_in (run fs) t) (number_of x) p q
    clearing true ki k2 ki2 = No_completion (later _ (completed_none o t h) ki ∙ sym ki)
    clearing false ki false ki2 = No_completion (ki2 ∙ sym ki)
    clearing false ki true ki2 = Clears ki ki2 (committed_is t y (c.clear_decided (c.completed ki2))) whole each
      where
        c : IsCleared o h2 t
        c = cleared_law o x.superior h2 t g.sound.empty g.sound.legal g.sound.once

        whole : q.decision ≢ Some Outcome.Rollback
        whole is = cc (ap is_for_rollback (sym is) ∙ c.clear_decision (c.completed ki2))

        each : EachBranch (tree_in (run fs) t) (number_of x) IsOver
        each = each_branch fs t y IsOver g.new (λ z b branch. elim (clear_below fs t b y z branch ki2) [ inl l ↦ inl (left_is t z l) | inr d ↦ inr d ])

-- ---- the whole

pub entry_walks : (es : List Happening) (f : Happening) (t : Aaid) → OneEntry es f → Walks (tree_in (run es) t) (tree_in (run (f ∷ es)) t)
entry_walks es f t o = go (is_member x.origin t x.history) refl (is_member x.origin t y.history) refl
  where
    g : Growth es f t
    g = growth es f t o

    x : Node
    x = g.x

    y : Node
    y = with_history x (g.e ∷ x.history)

    same : tree_in (run es) t (number_of x) ≡ tree_in (run (f ∷ es)) t (number_of x) → (m : ℕ) → tree_in (run (f ∷ es)) t m ≡ tree_in (run es) t m
    same here m = by (number_of x == m) refl
      where
        by : (b : Bool) → (number_of x == m) ≡ b → tree_in (run (f ∷ es)) t m ≡ tree_in (run es) t m
        by false i = g.elsewhere m i
        by true i = let n : number_of x ≡ m = grind (arith, nat_tests, i) in ap (tree_in (run (f ∷ es)) t) (sym n) ∙ sym here ∙ ap (tree_in (run es) t) n

    go : (b : Bool) → is_member x.origin t x.history ≡ b → (c : Bool) → is_member x.origin t y.history ≡ c → Walks (tree_in (run es) t) (tree_in (run (f ∷ es)) t)
    go true i c j = becomes_walks (tree_in (run es) t) (tree_in (run (f ∷ es)) t) (number_of x) (part_of t x) (part_of t y) (g.was ∙ part_there t x i) (g.is ∙ part_there t y (later_member x.origin t g.e x.history i)) g.elsewhere (becomes es f t g i)
    go false i true j = enters es f t g i j
    go false i false j = stays (tree_in (run es) t) (tree_in (run (f ∷ es)) t) (same (g.was ∙ part_none t x i ∙ sym (g.is ∙ part_none t y j)))
