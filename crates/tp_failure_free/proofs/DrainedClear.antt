-- A drained tree without failure: where each staying branch of a node was complete with no report, no branch brings the node one.
use Rattle.std.proofs.Common.{◌≡◌, inl, inr, ℕ, Bool, true, false, refl, ap, sym, subst, ◌∙◌, arith, Option, Some, None, List, [], ◌∷◌, ◌==◌}
use Rattle.std.proofs.lemmas.Bool.Decides.{nat_tests}
use Rattle.tp_names.specs.declared.identifiers.Aaid.{Aaid}
use Rattle.tp_names.specs.declared.identifiers.BranchId.{BranchId}
use Rattle.tp_names.specs.declared.identifiers.Addr.{Addr}
use Rattle.tp_names.specs.declared.outcome.Report.{Report}
use Rattle.tp_names.specs.Reports.{is_report_none}
use Rattle.tp_names.specs.Same.{is_branch}
use Rattle.tp_records.specs.declared.dialogue.DialogueRecord.{DialogueRecord}
use Rattle.tp_records.specs.declared.peer.PeerRecord.{PeerRecord}
use Rattle.tp_records.specs.declared.peer.RecState.{RecState}
use Rattle.tp_logrec.specs.declared.record.LogRec.{LogRec}
use Rattle.tp_model.specs.declared.transaction.TxEvent.{TxEvent}
use Rattle.tp_model.specs.Parts.{Origin, Event, Entry, Branch, Digest}
use Rattle.tp_model.specs.Dialogues.{is_committing}
use Rattle.tp_model.specs.Transactions.{Row, aaid_of, row_holds, find_row, find_row_by_id, child_of}
use Rattle.tp_model.specs.Arrivals.{find_branch_by_id}
use Rattle.tp_model.specs.Node.{seen, seen_rows}
use Rattle.tp_model.specs.History.{digest, records}
use Rattle.tp_model.specs.Legal.{IsLegal, is_apart, are_apart}
use Rattle.tp_model.specs.Outcomes.{has_left, completed_none}
use Rattle.tp_model.specs.World.{Node, number_of, find_node}
use Rattle.tp_model.specs.Happenings.{Happening, run}
use Rattle.tp_model.specs.Promises.{IsOf, IsBranchOf}
use Rattle.tp_steps.specs.Histories.{brought}
use Rattle.tp_histories.specs.Histories.{HasSent, HasBrought}
use Rattle.tp_histories.specs.Worlds.{IsGood}
use Rattle.tp_steps.specs.Moves.{IsAsked, prelude}
use Rattle.tp_steps.specs.Facts.{find_branch}
use Rattle.tp_steps.specs.Upward.{Deeds}
use Rattle.tp_histories.specs.Upward.{deeds_of}
use Rattle.tp_runs.specs.Heeded.{heeds_event, heeds}
use Rattle.tp_steps.specs.Branches.{may_end}
use Rattle.tp_steps.specs.Clearing.{has_damage}
use Rattle.tp_failure_free.specs.DrainedWorlds.{IsDrainedTree, IsUnfailedTree}
use Rattle.tp_failure_free.specs.Drained.{IsUnfailed}
use Rattle.tp_steps.proofs.lemmas.Equality.{aaids_equal, addrs_equal, and_left, and_right}
use Rattle.tp_steps.proofs.lemmas.Words.{commit_more}
use Rattle.tp_histories.proofs.worlds.Good.{good_run, Sender, was_sent}
use Rattle.tp_histories.proofs.worlds.Unique.{unique_run}
use Rattle.tp_histories.proofs.worlds.Starts.{all_legal}
use Rattle.tp_runs.proofs.Bare.{left_is_bare}
use Rattle.tp_steps.proofs.log.KinTurns.{kin}
use Rattle.tp_steps.proofs.branches.Branched.{row_seen}
use Rattle.tp_agreement.proofs.Marked.{MayMark}
use Rattle.tp_agreement.proofs.Accounts.{TookWord, asked_took, Accounts}
use Rattle.tp_agreement.proofs.AccountSteps.{Rules}
use Rattle.tp_agreement.proofs.LeftDown.{Below, below_tail, accounts_of}
use Rattle.tp_agreement.proofs.BelowRuns.{branch_above}
use Rattle.tp_agreement.proofs.RollsUp.{below_run}
use Rattle.tp_agreement.proofs.OwingLaw.{Replied, replied_by, rows_by_id, spread_at, damaged_word}
use Rattle.tp_reports.proofs.ClearedLaw.{IsCleared, cleared_law, damage_record}
use Rattle.tp_reports.proofs.ClearedReplies.{damage_replied}
use Rattle.tp_failure_free.proofs.ClearTurns.{brings_none}
use Rattle.tp_failure_free.proofs.ClearLaw.{BringsNone, AreClear, Brings, Nothing_brought, By_word, By_answer, brought_by, bare_event, bare_prelude}
use Rattle.tp_failure_free.proofs.DrainedBranches.{branches_are_there}
use Rattle.tp_failure_free.proofs.LiveLaw.{unfailed_before}
use Rattle.tp_failure_free.proofs.DrainedRows.{row_begun, later_found, first_found}
use Rattle.tp_steps.proofs.lemmas.Options.{some_same}

-- each branch of the node left, or was complete with no report
abbrev pub AreComplete : List Happening → Aaid → Node → Type 0
AreComplete es t x = (b : BranchId) (z : Node) → IsBranchOf (run es) t b x z → has_left z.origin t z.history ≡ false → completed_none z.origin t z.history ≡ true

-- none of them logged the tree's damage
undamaged : (es : List Happening) (t : Aaid) (x : Node) → AreComplete es t x → (b : BranchId) (z : Node) → IsBranchOf (run es) t b x z → has_damage t (records z.origin z.history) ≡ true → ⊥
undamaged es t x all b z branch damaged = go (has_left z.origin t z.history) refl
  where
    cleared : IsCleared z.origin z.history t
    cleared = cleared_law z.origin z.superior z.history t ((good_run es).fresh (number_of z) z branch.child.here) ((good_run es).legal (number_of z) z branch.child.here) ((unique_run es).once (number_of z) z branch.child.here)

    go : (v : Bool) → has_left z.origin t z.history ≡ v → ⊥
    go true l = cc (damage_record t (records z.origin z.history) damaged, left_is_bare es t z branch.child l)
    go false l = cc (cleared.clear_whole (cleared.completed (all b z branch l)), damaged)

-- a branch that is found by its identifier is found with its peer
found_at : (bs : List Branch) (b : BranchId) (w : Branch) → are_apart (kin bs) ≡ true → find_branch_by_id bs b ≡ Some w → find_branch bs w.peer.node ≡ Some w
found_at [] b w apart h = absurd (cc (h))
found_at (x ∷ bs) b w apart h = go (is_branch x.id b) refl (found_at bs b w (and_right (is_apart (child_of x) (kin bs)) (are_apart (kin bs)) apart))
  where
    go : (v : Bool) → is_branch x.id b ≡ v → (find_branch_by_id bs b ≡ Some w → find_branch bs w.peer.node ≡ Some w) → find_branch (x ∷ bs) w.peer.node ≡ Some w
    go true i rest =
        let one : Some x ≡ Some w = rw (i, find_branch_by_id) at h in
        let same : x ≡ w = cc (one) in
        subst (λ (y : Branch). find_branch (x ∷ bs) y.peer.node ≡ Some y) same (first_found x bs)
    go false i rest = later_found x bs w.peer.node w apart (rest (rw (i, find_branch_by_id) at h))

-- a part of the node's history
record IsPart (es : List Happening) (t : Aaid) (x : Node) (h : List Entry) : Type 0 where
  unfailed : IsUnfailed t x.origin x.superior h
  legal : IsLegal x.origin x.superior h
  sent : (a : Addr) (r : PeerRecord) → HasSent h a r → HasSent x.history a r
  taken : (a : Addr) (r : PeerRecord) → HasBrought h a r → HasBrought x.history a r
  below : (b : BranchId) (z : Node) → IsBranchOf (run es) t b x z → Below x.origin x.superior (number_of z) (deeds_of z.origin z.history) (records z.origin z.history) h

part_tail : (es : List Happening) (t : Aaid) (x : Node) (e : Entry) (h : List Entry) → IsPart es t x (e ∷ h) → IsPart es t x h
part_tail es t x e h k = record {
  unfailed = (unfailed_before t x.origin x.superior e h k.unfailed).1;
  legal = record { start = k.legal.start; grown = k.legal.grown.3 };
  sent = λ a r s. k.sent a r (inr s);
  taken = λ a r s. k.taken a r (inr s);
  below = λ b z branch. below_tail x.origin x.superior (number_of z) (deeds_of z.origin z.history) (records z.origin z.history) e h (k.below b z branch);
}

brings_nothing : (es : List Happening) (t : Aaid) → IsDrainedTree (run es) t → (x : Node) → IsOf (run es) t x → AreComplete es t x → (e : Entry) (h : List Entry) → IsPart es t x (e ∷ h)
    → BringsNone x.origin.who t e.event (prelude x.origin.who (digest x.origin h) e.event)
brings_nothing es t drained x of all e h part c f arcs at tree asked = (bare_event e.event c f (bare_prelude x.origin x.superior e h t c part.unfailed at tree) asked, by (brought_by f))
  where
    o : Origin
    o = x.origin

    d : Digest
    d = digest o h

    s : Digest
    s = prelude o.who d e.event

    part_h : IsPart es t x h
    part_h = part_tail es t x e h part

    same : aaid_of c.key ≡ t
    same = sym (aaids_equal t (aaid_of c.key) tree)

    -- the branch with the peer is a node of the tree
    branch_there : (p : ℕ) (v : Branch) → d.current ≡ Some c → find_branch c.branches p ≡ Some v → (z : Node) × (number_of z ≡ p) × IsBranchOf (run es) t v.id x z
    branch_there p v now found =
        let b = row_begun t o x.superior h c p v part_h.legal part_h.unfailed now tree found in
        branches_are_there es t drained x p v.id of (b.0, b.1, b.2, b.3, b.4, b.5, part_h.sent b.0 (PeerRecord.OnAssoc b.1 b.2 b.3 (DialogueRecord.Begin t v.id b.4)) (subst (λ (u : Aaid). HasSent h b.0 (PeerRecord.OnAssoc b.1 b.2 b.3 (DialogueRecord.Begin u v.id b.4))) same b.6))

    word : (p : ℕ) (r : Report) → f ≡ TxEvent.Took p (DialogueRecord.Done r) → is_report_none r ≡ false → is_committing c.phase ≡ true → (w : Row) → find_row (seen_rows arcs c.branches) p ≡ Some w → ⊥
    word p r is some committing w row = by_branch (branch_there p w.branch now found)
      where
        k : TookWord e.event p (DialogueRecord.Done r)
        k = asked_took e.event c p (DialogueRecord.Done r) (subst (λ (g : TxEvent). IsAsked e.event c g) is asked)

        now : d.current ≡ Some c
        now = sym (ap (λ (g : Event). (prelude o.who d g).current) k.is) ∙ at

        found : find_branch c.branches p ≡ Some w.branch
        found = row_seen arcs c.branches p w row

        by_branch : (z : Node) × (number_of z ≡ p) × IsBranchOf (run es) t w.branch.id x z → ⊥
        by_branch z = undamaged es t x all w.branch.id z.0 z.2 (subst (λ (u : Aaid). has_damage u (records z.0.origin z.0.history) ≡ true) same damaged)
          where
            g : Deeds
            g = deeds_of z.0.origin z.0.history

            rs : List LogRec
            rs = records z.0.origin z.0.history

            below : Below o x.superior p g rs (e ∷ h)
            below = subst (λ (n : ℕ). Below o x.superior n g rs (e ∷ h)) z.1 (part.below w.branch.id z.0 z.2)

            rules : Rules o x.superior p g rs e h
            rules = record {
              empty = below.empty;
              legal = below.legal;
              once = below.once;
              heeded = and_left (heeds_event g rs p h e.event) (heeds g rs p h) below.heeded;
              never = λ j m v y. below.never j m v (commit_more j.0 e.rec (records o h) y);
            }

            old : Accounts o p g rs h
            old = accounts_of o x.superior p g rs h (below_tail o x.superior p g rs e h below)

            self : (p == p) ≡ true
            self = grind (arith, nat_tests)

            m : MayMark o.who e.event s may_end p (aaid_of c.key, w.branch.id)
            m = record { current = c; branch = w.branch; at = at; found = found; key = refl; event = f; arcs = arcs; asked = asked; sets = ap (λ (y : TxEvent). may_end y (seen o.who arcs c) p) is ∙ rw (self, committing) refl }

            damaged : g.damaged (aaid_of c.key) ≡ true
            damaged = damaged_word o x.superior p g rs e h rules old (aaid_of c.key, w.branch.id) may_end m r is committing some

    reply : (b : BranchId) (r : Report) → f ≡ TxEvent.Reply b (RecState.Done r) → is_report_none r ≡ false → (w : Row) → find_row_by_id (seen_rows arcs c.branches) b ≡ Some w → ⊥
    reply b r is some w row = by_branch (branch_there w.branch.peer.node w.branch now (found_at c.branches b w.branch (spread_at o x.superior h part_h.unfailed.fresh part_h.unfailed.grown c now) by_id))
      where
        k : Replied e.event c b r
        k = replied_by e.event c b r (subst (λ (g : TxEvent). IsAsked e.event c g) is asked)

        now : d.current ≡ Some c
        now = sym (ap (λ (g : Event). (prelude o.who d g).current) k.is) ∙ at

        by_id : find_branch_by_id c.branches b ≡ Some w.branch
        by_id = rows_by_id arcs c.branches b w row

        from : w.branch.peer ≡ k.from
        from = addrs_equal w.branch.peer k.from (k.peer w.branch by_id)

        mine : k.tree ≡ t
        mine = sym (aaids_equal (aaid_of c.key) k.tree k.same) ∙ same

        by_branch : (z : Node) × (number_of z ≡ w.branch.peer.node) × IsBranchOf (run es) t w.branch.id x z → ⊥
        by_branch z = undamaged es t x all w.branch.id z.0 z.2 (damage_replied z.0.origin z.0.superior z.0.history said.to t b r (good.fresh (number_of z.0) z.0 here) (good.legal (number_of z.0) z.0 here) ((unique_run es).once (number_of z.0) z.0 here) some sent)
          where
            good : IsGood (run es).nodes (run es).frames
            good = good_run es

            here : find_node (run es).nodes (number_of z.0) ≡ Some z.0
            here = z.2.child.here

            rec : PeerRecord
            rec = PeerRecord.RecReply k.tree b (RecState.Done r)

            said : Sender (run es).nodes k.from (number_of x) rec
            said = was_sent (run es).nodes (run es).frames k.from (number_of x) rec good.sent (good.taken (number_of x) x k.from rec of.here (part.taken k.from rec (inl (ap brought k.is))))

            one : said.node ≡ z.0
            one = some_same said.node z.0 (sym said.found ∙ ap (find_node (run es).nodes) (ap (λ (a : Addr). a.node) (sym from) ∙ sym z.1) ∙ here)

            sent : HasSent z.0.history said.to (PeerRecord.RecReply t b (RecState.Done r))
            sent = subst (λ (u : Aaid). HasSent z.0.history said.to (PeerRecord.RecReply u b (RecState.Done r))) mine (subst (λ (u : Node). HasSent u.history said.to rec) one said.sent)

    by : Brings f → brings_none f (seen o.who arcs c) ≡ true
    by (Nothing_brought n) = n (seen o.who arcs c)
    by (By_word p r is) = ap (λ (g : TxEvent). brings_none g (seen o.who arcs c)) is ∙ go (is_report_none r) refl (is_committing c.phase) refl (find_row (seen_rows arcs c.branches) p) refl
      where
        go : (v : Bool) → is_report_none r ≡ v → (u : Bool) → is_committing c.phase ≡ u → (w : Option Row) → find_row (seen_rows arcs c.branches) p ≡ w → brings_none (TxEvent.Took p (DialogueRecord.Done r)) (seen o.who arcs c) ≡ true
        go true i u j w k = rw i refl
        go false i false j w k = rw (i, j) refl
        go false i true j None k = rw (i, j, k, row_holds) refl
        go false i true j (Some w) k = absurd (word p r is i j w k)
    by (By_answer b r is) = ap (λ (g : TxEvent). brings_none g (seen o.who arcs c)) is ∙ go (is_report_none r) refl (find_row_by_id (seen_rows arcs c.branches) b) refl
      where
        go : (v : Bool) → is_report_none r ≡ v → (w : Option Row) → find_row_by_id (seen_rows arcs c.branches) b ≡ w → brings_none (TxEvent.Reply b (RecState.Done r)) (seen o.who arcs c) ≡ true
        go true i w k = rw i refl
        go false i None k = rw (i, k) refl
        go false i (Some w) k = absurd (reply b r is i w k)

clear_part : (es : List Happening) (t : Aaid) → IsDrainedTree (run es) t → (x : Node) → IsOf (run es) t x → AreComplete es t x → (h : List Entry) → IsPart es t x h → AreClear t x.origin h
clear_part es t drained x of all [] part = tt
clear_part es t drained x of all (e ∷ h) part = (brings_nothing es t drained x of all e h part, clear_part es t drained x of all h (part_tail es t x e h part))

pub all_clear : (es : List Happening) (t : Aaid) → IsDrainedTree (run es) t → IsUnfailedTree (run es) t → (x : Node) → IsOf (run es) t x → AreComplete es t x → AreClear t x.origin x.history
all_clear es t drained fine x of all = clear_part es t drained x of all x.history (record {
  unfailed = record {
    fresh = (good_run es).fresh (number_of x) x of.here;
    grown = (good_run es).legal (number_of x) x of.here;
    once = (unique_run es).once (number_of x) x of.here;
    calm = fine x of;
  };
  legal = all_legal es x of.here;
  sent = λ a r s. s;
  taken = λ a r s. s;
  below = λ b z branch. below_run es x z branch.superior.here branch.child.here (branch_above es t b x z branch);
})
