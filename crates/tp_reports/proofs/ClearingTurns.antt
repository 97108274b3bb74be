-- How a commitment ends, and what is known of its branches by then: an instance of the steps of a turn.
use Rattle.std.proofs.Common.{if◌then◌else◌, ◌≡◌, ◌⊎◌, inl, inr, ℕ, Bool, true, false, refl, ap, sym, subst, ◌∙◌, arith, Option, Some, None, List, [], ◌∷◌, ◌++◌, ◌&&◌, ◌||◌, ◌==◌, not}
use Rattle.std.proofs.lemmas.Bool.Decides.{nat_tests}
use Rattle.tp_names.specs.declared.identifiers.Aaid.{Aaid}
use Rattle.tp_names.specs.declared.identifiers.BranchId.{BranchId}
use Rattle.tp_names.specs.declared.identifiers.Addr.{Addr}
use Rattle.tp_names.specs.declared.outcome.Outcome.{Outcome}
use Rattle.tp_names.specs.declared.outcome.Report.{Report}
use Rattle.tp_names.specs.Reports.{join, is_report_none}
use Rattle.tp_records.specs.declared.indication.Indication.{Indication}
use Rattle.tp_records.specs.declared.dialogue.DialogueRecord.{DialogueRecord}
use Rattle.tp_records.specs.declared.peer.PeerRecord.{PeerRecord}
use Rattle.tp_records.specs.declared.peer.RecState.{RecState}
use Rattle.tp_logrec.specs.declared.record.LogRec.{LogRec}
use Rattle.tp_model.specs.declared.arc.Phase.{Phase}
use Rattle.tp_model.specs.declared.transaction.TxEvent.{TxEvent}
use Rattle.tp_model.specs.declared.transaction.TxOut.{TxOut}
use Rattle.tp_model.specs.Parts.{Key, Root, Under}
use Rattle.tp_model.specs.Dialogues.{is_nil, is_committing, is_rolling}
use Rattle.tp_model.specs.Transactions.{Row, Transaction, Turn, turn, and_then, before, aaid_of, is_open_in_commit, find_row, find_row_by_id, with_row, all_done, owed_of, report_of_branch, reports_of, own_damage, log_ready, log_end, log_damage, tell_report, forgets, done_up, ends_down, end_up, rollback_rec, complete_commit, complete_rollback, begin_rolling, order, ask_commit, leave, count_branch, end_branch, branch_left, transacted, completion_of}
use Rattle.tp_steps.specs.Turns.{Turns, vote, decide, shut_given_up, row_dead, falls, is_outcome_told, is_left_word}
use Rattle.tp_steps.specs.Moves.{IsPut, IsRecoveryIn}
use Rattle.tp_steps.specs.Passages.{may_move, asks_tell, is_commit_rec, IsPassed}
use Rattle.tp_steps.specs.Branches.{may_leave, may_end}
use Rattle.tp_agreement.specs.Owing.{is_standing}
use Rattle.tp_model.specs.Node.{is_leaving}
use Rattle.tp_steps.specs.Clearing.{is_complete_none}
use Rattle.tp_steps.specs.Owing.{is_damage_rec}
use Rattle.tp_reports.specs.Clearing.{is_clear_rec, is_keeping_rec, is_idle_rec, decided_by, is_for_rollback, is_clear_branch, may_clear, OpenAt, Settles, Is_clear, Has_left, Rolls, Departs, is_ended_by, IsClearing}
use Rattle.tp_steps.proofs.every.EveryTurn.{every_turn}
use Rattle.tp_steps.proofs.lemmas.Phases.{tell_append}
use Rattle.tp_steps.proofs.links.Saying.{recovery_append}
use Rattle.tp_steps.proofs.words.Fair.{row_phase}
use Rattle.tp_steps.proofs.words.FairTurns.{lost_phase}
use Rattle.tp_steps.proofs.lemmas.Equality.{or_case}
use Rattle.tp_steps.proofs.branches.Rowed.{left_may, left_end_may}
use Rattle.tp_steps.proofs.log.Passed.{passed_turns, later_rec}
use Rattle.tp_steps.proofs.lemmas.Joined.{IsJoined, joined_up, joined_prepare, joined_forgets, joined_ask, joined_done, joined_report, joined_retried, joined_commit, joined_unrolls, joined_rolls, joined_order, joined_leaves}
use Rattle.tp_steps.proofs.log.TurnLog.{row_decision, lost_decision}
use Rattle.tp_agreement.proofs.OwingTurns.{unmarked_same, unmarked_row, unmarked_or, unmarked_lost, unmarked_prepared}

-- ---- what says nothing of an end

abbrev is_mute_record : PeerRecord → Bool
is_mute_record (PeerRecord.RecReply t b (RecState.Done r)) = not (is_report_none r)
is_mute_record (PeerRecord.Forget t b) = false
is_mute_record _ = true

abbrev is_mute : TxOut → Bool
is_mute (TxOut.Tell i) = not (is_complete_none i)
is_mute (TxOut.Carry p r) = true
is_mute (TxOut.Shut p) = true
is_mute (TxOut.Recovery a r) = is_mute_record r
is_mute (TxOut.Close p) = true

abbrev are_mute : List TxOut → Bool
are_mute [] = true
are_mute (o ∷ outs) = is_mute o && are_mute outs

mute_append : (xs ys : List TxOut) → are_mute (xs ++ ys) ≡ (are_mute xs && are_mute ys)
mute_append [] ys = refl
mute_append (x ∷ xs) ys = grind (arith, mute_append xs ys)

mute_tells : (outs : List TxOut) → are_mute outs ≡ true → asks_tell is_complete_none outs ≡ false
mute_tells [] h = refl
mute_tells (TxOut.Tell i ∷ outs) h = grind (arith, h, mute_tells outs)
mute_tells (TxOut.Carry p r ∷ outs) h = mute_tells outs h
mute_tells (TxOut.Shut p ∷ outs) h = mute_tells outs h
mute_tells (TxOut.Recovery a r ∷ outs) h = mute_tells outs (grind (arith, h))
mute_tells (TxOut.Close p ∷ outs) h = mute_tells outs h

mute_in : (outs : List TxOut) (z : Addr) (r : PeerRecord) → are_mute outs ≡ true → IsRecoveryIn outs z r → is_mute_record r ≡ true
mute_in [] z r h i = absurd i
mute_in (TxOut.Tell x ∷ outs) z r h i = mute_in outs z r (grind (arith, h)) i
mute_in (TxOut.Carry p x ∷ outs) z r h i = mute_in outs z r h i
mute_in (TxOut.Shut p ∷ outs) z r h i = mute_in outs z r h i
mute_in (TxOut.Recovery a x ∷ outs) z r h (inl i) = ap is_mute_record (sym i.1) ∙ (grind (arith, h))
mute_in (TxOut.Recovery a x ∷ outs) z r h (inr i) = mute_in outs z r (grind (arith, h)) i
mute_in (TxOut.Close p ∷ outs) z r h i = mute_in outs z r h i

abbrev AreMute : List TxOut → Type 0
AreMute outs = are_mute outs ≡ true

mute_joined : IsJoined AreMute
mute_joined = record { none = refl; more = λ xs ys one two. mute_append xs ys ∙ rw (one, two) refl }

-- ---- completion of a commitment

join_none : (x y : Report) → is_report_none (join x y) ≡ true → (is_report_none x ≡ true) × (is_report_none y ≡ true)
join_none Report.None Report.None h = (refl, refl)
join_none Report.None Report.Hazard h = absurd (cc (h))
join_none Report.None Report.Mix h = absurd (cc (h))
join_none Report.Hazard Report.None h = absurd (cc (h))
join_none Report.Hazard Report.Hazard h = absurd (cc (h))
join_none Report.Hazard Report.Mix h = absurd (cc (h))
join_none Report.Mix Report.None h = absurd (cc (h))
join_none Report.Mix Report.Hazard h = absurd (cc (h))
join_none Report.Mix Report.Mix h = absurd (cc (h))

hazard_none : (x : Report) → is_report_none (join x Report.Hazard) ≡ true → ⊥
hazard_none Report.None h = cc (h)
hazard_none Report.Hazard h = cc (h)
hazard_none Report.Mix h = cc (h)

branch_none : (r : Row) → is_report_none (report_of_branch r.branch) ≡ true → (is_report_none r.branch.report ≡ true) × (r.branch.given_up ≡ false)
branch_none r h = go r.branch.given_up refl
  where
    go : (v : Bool) → r.branch.given_up ≡ v → (is_report_none r.branch.report ≡ true) × (r.branch.given_up ≡ false)
    go true i = absurd (hazard_none r.branch.report (rw (i, report_of_branch) at h))
    go false i = (rw (i, report_of_branch) at h, i)

-- where they are done with no report at all, none is to forget
none_forgets : (u : Aaid) (rows : List Row) → is_report_none (reports_of rows) ≡ true → forgets u rows ≡ []
none_forgets u [] h = refl
none_forgets u (r ∷ rows) h =
    let both = join_none (report_of_branch r.branch) (reports_of rows) h in
    let one = (branch_none r both.0).0 in
    rw (one, forgets) (none_forgets u rows both.1)

-- and each has left, or is done with no report
none_open : (rows : List Row) (p : ℕ) (r : Row) → find_row rows p ≡ Some r → r.branch.left ≡ false → all_done rows ≡ true → is_report_none (reports_of rows) ≡ true → is_clear_branch r.branch ≡ true
none_open [] p r h left all none = absurd (cc (h))
none_open (x ∷ rows) p r h left all none = go (x.branch.peer.node == p) refl (none_open rows p r)
  where
    both : (is_report_none (report_of_branch x.branch) ≡ true) × (is_report_none (reports_of rows) ≡ true)
    both = join_none (report_of_branch x.branch) (reports_of rows) none

    go : (v : Bool) → (x.branch.peer.node == p) ≡ v → (find_row rows p ≡ Some r → r.branch.left ≡ false → all_done rows ≡ true → is_report_none (reports_of rows) ≡ true → is_clear_branch r.branch ≡ true) → is_clear_branch r.branch ≡ true
    go true i rest =
        let one : Some x ≡ Some r = rw i at h in
        let same : x ≡ r = cc (one) in
        let l : x.branch.left ≡ false = ap (λ (y : Row). y.branch.left) same ∙ left in
        let n = branch_none x both.0 in
        let clear : is_clear_branch x.branch ≡ true = grind (arith, all, l, n.0, n.1) in
        ap (λ (y : Row). is_clear_branch y.branch) (sym same) ∙ clear
    go false i rest = rest (rw i at h) left (grind (arith, all)) both.1

damage_none : (o : Option Outcome) → is_report_none (own_damage o) ≡ true → is_for_rollback o ≡ false
damage_none (Some Outcome.Rollback) h = absurd (cc (h))
damage_none _ h = refl

committing_late : (p : Phase) → is_committing p ≡ true → (is_nil p || is_rolling p) ≡ false
committing_late p h = grind (arith, h)

clearing_commit : (e : TxEvent) (s t : Transaction) → IsPassed e s t (complete_commit t) → is_committing t.phase ≡ true → IsClearing e s t (complete_commit t)
unfolding complete_commit
clearing_commit e s t passed c = go (not t.owes && all_done t.rows) refl (is_report_none x) refl
  where
    x : Report
    x = join (own_damage t.decision) (reports_of t.rows)

    outs : List TxOut
    outs = forgets (aaid_of t.key) t.rows ++ done_up t x ++ (TxOut.Tell (Indication.CommitComplete x) ∷ []) ++ ends_down t.rows ++ end_up t

    over : Bool → Turn
    over v = record { rec = Some (if v then log_end t Outcome.Commit else log_damage t Outcome.Commit x (owed_of t.rows)); outs = outs; completion = completion_of t x; next = record t { phase = Phase.Nil } }

    is : (v w : Bool) → (not t.owes && all_done t.rows) ≡ v → is_report_none x ≡ w → complete_commit t ≡ (if v then over w else turn [] t)
    is v w i j = rw (i, j) refl

    go : (v : Bool) → (not t.owes && all_done t.rows) ≡ v → (w : Bool) → is_report_none x ≡ w → IsClearing e s t (complete_commit t)
    go false i w j = subst (λ (a : Turn). IsClearing e s t a) (sym (is false w i j)) (record {
      passed = subst (λ (a : Turn). IsPassed e s t a) (is false w i j) passed;
      tells = λ h. absurd (cc (h));
      says = λ z u b h. absurd h;
      forgets = λ z u b h. absurd h;
      clears = λ h. absurd (cc (h));
      decides = λ h. refl;
      damages = λ h. absurd (cc (h));
      reports = refl;
      over = λ late nil. absurd (cc (late, nil));
      stays = λ p b st. inl st;
    })
    go true i true j = subst (λ (a : Turn). IsClearing e s t a) (sym (is true true i j)) (record {
      passed = subst (λ (a : Turn). IsPassed e s t a) (is true true i j) passed;
      tells = λ h. refl;
      says = λ z u b h. refl;
      forgets = λ z u b h. absurd (quiet z u b h);
      clears = λ h. (c, damage_none t.decision (join_none (own_damage t.decision) (reports_of t.rows) j).0, refl);
      decides = λ h. absurd (cc (h));
      damages = λ h. refl;
      reports = refl;
      over = λ late nil. grind arith;
      stays = λ p b st.
          let all : all_done t.rows ≡ true = grind (arith, i) in
          absurd (cc (st.off, none_open t.rows p st.row st.found st.left all (join_none (own_damage t.decision) (reports_of t.rows) j).1));
    })
      where
        none : forgets (aaid_of t.key) t.rows ≡ []
        none = none_forgets (aaid_of t.key) t.rows (join_none (own_damage t.decision) (reports_of t.rows) j).1

        IsQuiet : List TxOut → Type 0
        IsQuiet l = (z : Addr) (u : Aaid) (b : BranchId) → IsRecoveryIn l z (PeerRecord.Forget u b) → ⊥

        quiet_joined : IsJoined IsQuiet
        quiet_joined = record { none = λ z u b h. h; more = λ xs ys one two z u b h. elim (recovery_append xs ys z (PeerRecord.Forget u b) h) [ inl k ↦ one z u b k | inr k ↦ two z u b k ] }

        quiet : IsQuiet outs
        quiet =
            joined_commit IsQuiet quiet_joined t x (subst IsQuiet (sym none) (λ z u b h. h))
            (joined_done IsQuiet quiet_joined t x (λ p z u b h. h) (λ a d y k z u b h. elim h [ inl l ↦ (let same = l.1 in cc (same)) | inr l ↦ l ])) (λ z u b h. h) (λ p z u b h. h)
    go true i false j = subst (λ (a : Turn). IsClearing e s t a) (sym (is true false i j)) (record {
      passed = subst (λ (a : Turn). IsPassed e s t a) (is true false i j) passed;
      tells = λ h. absurd (cc (untold, h));
      says = λ z u b h. elim (rest z (PeerRecord.RecReply u b (RecState.Done Report.None)) h) [ inl k ↦ absurd (cc (k)) | inr k ↦ (let same = k.1 in absurd (cc (same))) ];
      forgets = λ z u b h. (elim (rest z (PeerRecord.Forget u b) h) [ inl k ↦ absurd (cc (k)) | inr k ↦ (let same = k.1 in cc (same)) ], refl);
      clears = λ h. absurd (cc (h));
      decides = λ h. absurd (cc (h));
      damages = λ h. refl;
      reports = j;
      over = λ late nil. grind arith;
      stays = λ p b st. inr (inr refl);
    })
      where
        IsUntold : List TxOut → Type 0
        IsUntold l = asks_tell is_complete_none l ≡ false

        untold_joined : IsJoined IsUntold
        untold_joined = record { none = refl; more = λ xs ys one two. tell_append is_complete_none xs ys ∙ rw (one, two) refl }

        untold : IsUntold outs
        untold = joined_commit IsUntold untold_joined t x (joined_forgets IsUntold untold_joined (aaid_of t.key) t.rows (λ z b. refl)) (joined_done IsUntold untold_joined t x (λ p. refl) (λ a d y k. refl)) (rw j refl) (λ p. refl)

        -- with a report, all but the Forgets is mute
        IsRest : List TxOut → Type 0
        IsRest l = (z : Addr) (r : PeerRecord) → IsRecoveryIn l z r → (is_mute_record r ≡ true) ⊎ ((b : BranchId) × (r ≡ PeerRecord.Forget (aaid_of t.key) b))

        rest_joined : IsJoined IsRest
        rest_joined = record { none = λ z r h. absurd h; more = λ xs ys one two z r h. elim (recovery_append xs ys z r h) [ inl k ↦ one z r k | inr k ↦ two z r k ] }

        rest : IsRest outs
        rest =
            joined_commit IsRest rest_joined t x (joined_forgets IsRest rest_joined (aaid_of t.key) t.rows (λ y b z r h. elim h [ inl k ↦ inr (b, sym k.1) | inr k ↦ absurd k ]))
            (joined_done IsRest rest_joined t x (λ p z r h. absurd h) (λ a d y k z r h. elim h [ inl l ↦ inl (ap is_mute_record (sym l.1) ∙ rw j refl) | inr l ↦ absurd l ])) (λ z r h. absurd h) (λ p z r h. absurd h)

-- ---- the other rules

-- nothing is logged or said of an end, and it goes on
clearing_plain : (e : TxEvent) (s t : Transaction) (a : Turn) → IsPassed e s t a → a.rec ≡ None → are_mute a.outs ≡ true → a.next.decision ≡ t.decision → (is_nil t.phase ≡ false → is_nil a.next.phase ≡ true → is_ended_by e s t None ≡ true)
    → ((p : ℕ) (b : BranchId) → OpenAt p b t → OpenAt p b a.next ⊎ Settles e s p) → IsClearing e s t a
clearing_plain e s t a passed none mute same over stays = record {
  passed = passed;
  tells = λ h. absurd (cc (mute_tells a.outs mute, h));
  says = λ z u b h. absurd (cc (mute_in a.outs z (PeerRecord.RecReply u b (RecState.Done Report.None)) mute h));
  forgets = λ z u b h. absurd (cc (mute_in a.outs z (PeerRecord.Forget u b) mute h));
  clears = λ h. absurd (cc (ap is_clear_rec none, h));
  decides = λ h. same ∙ ap (λ (r : Option LogRec). decided_by r t.decision) (sym none);
  damages = λ h. absurd (cc (ap is_damage_rec none, h));
  reports = ap is_idle_rec none;
  over = λ late nil. ap (is_ended_by e s t) none ∙ over late nil;
  stays = λ p b st. elim (stays p b st) [ inl i ↦ inl i | inr i ↦ inr (inl i) ];
}

clearing_same : (e : TxEvent) (s t : Transaction) (outs : List TxOut) (u : Transaction) → IsPassed e s t (turn outs u) → are_mute outs ≡ true → u.decision ≡ t.decision → u.phase ≡ t.phase → ((p : ℕ) (b : BranchId) → OpenAt p b t → OpenAt p b u ⊎ Settles e s p) → IsClearing e s t (turn outs u)
clearing_same e s t outs u passed mute same phase stays = clearing_plain e s t (turn outs u) passed refl mute same (λ late nil. absurd (cc (late, ap is_nil (sym phase) ∙ nil))) stays

clearing_rollback : (e : TxEvent) (s t : Transaction) → IsPassed e s t (complete_rollback t) → is_rolling t.phase ≡ true → IsClearing e s t (complete_rollback t)
unfolding complete_rollback
clearing_rollback e s t passed c = clearing_plain e s t (complete_rollback t) passed (grind arith) (joined_unrolls AreMute mute_joined t (λ p r. refl) (λ r. refl)) (grind arith) (λ late nil. rw c (grind arith)) (λ p b st. absurd (off st.phase))
  where
    off : is_standing t.phase ≡ true → ⊥
    off h = absurd (grind (arith, c, h))

clearing_rolling : (e : TxEvent) (s t : Transaction) (asked : Bool) → IsPassed e s t (begin_rolling asked t) → falls e s ≡ true → IsClearing e s t (begin_rolling asked t)
unfolding begin_rolling
clearing_rolling e s t asked passed f = record {
  passed = passed;
  tells = λ h. absurd (cc (mute_tells (begin_rolling asked t).outs mute, h));
  says = λ z u b h. absurd (cc (mute_in (begin_rolling asked t).outs z (PeerRecord.RecReply u b (RecState.Done Report.None)) mute h));
  forgets = λ z u b h. absurd (cc (mute_in (begin_rolling asked t).outs z (PeerRecord.Forget u b) mute h));
  clears = λ h. absurd (cc (clear, h));
  decides = λ h. absurd (cc (h));
  damages = λ h. refl;
  reports = idle;
  over = λ late nil. absurd (cc (nil));
  stays = λ p b st. inr (inl (Rolls f));
}
  where
    clear : is_clear_rec (rollback_rec t) ≡ false
    clear = grind arith

    idle : is_idle_rec (rollback_rec t) ≡ false
    idle = grind arith

    mute : are_mute (begin_rolling asked t).outs ≡ true
    mute = joined_rolls AreMute mute_joined asked t refl (λ p. refl)

-- a record that is neither an end nor a damage
clearing_logs : (e : TxEvent) (s t : Transaction) (a : Turn) → IsPassed e s t a → is_clear_rec a.rec ≡ false → is_damage_rec a.rec ≡ false → is_idle_rec a.rec ≡ false → are_mute a.outs ≡ true → a.next.decision ≡ decided_by a.rec t.decision → is_nil a.next.phase ≡ false
    → ((p : ℕ) (b : BranchId) → OpenAt p b t → OpenAt p b a.next) → IsClearing e s t a
clearing_logs e s t a passed clear damage idle mute same late stays = record {
  passed = passed;
  tells = λ h. absurd (cc (mute_tells a.outs mute, h));
  says = λ z u b h. absurd (cc (mute_in a.outs z (PeerRecord.RecReply u b (RecState.Done Report.None)) mute h));
  forgets = λ z u b h. absurd (cc (mute_in a.outs z (PeerRecord.Forget u b) mute h));
  clears = λ h. absurd (cc (clear, h));
  decides = λ h. same;
  damages = λ h. absurd (cc (damage, h));
  reports = idle;
  over = λ l nil. absurd (cc (late, nil));
  stays = λ p b st. inl (stays p b st);
}

clearing_order : (e : TxEvent) (s t : Transaction) → IsPassed e s t (order t) → IsClearing e s t (order t)
unfolding order
clearing_order e s t passed = clearing_logs e s t (order t) passed refl refl refl (joined_order AreMute mute_joined t refl (λ p. refl)) refl refl (λ p b st. unmarked_same is_clear_branch p b t (order t).next refl refl st)

clearing_vote : (e : TxEvent) (s t : Transaction) → IsPassed e s t (vote t) → IsClearing e s t (vote t)
clearing_vote e s t passed = clearing_logs e s t (vote t) passed (clear t.key) (damage t.key) (idle t.key) (joined_up AreMute mute_joined t DialogueRecord.Ready (λ p. refl)) (same t.key) refl (λ p b st. unmarked_same is_clear_branch p b t (vote t).next refl refl st)
  where
    clear : (k : Key) → is_clear_rec (log_ready (record t { key = k })) ≡ false
    clear (Root a) = refl
    clear (Under a b c) = refl

    damage : (k : Key) → is_damage_rec (log_ready (record t { key = k })) ≡ false
    damage (Root a) = refl
    damage (Under a b c) = refl

    idle : (k : Key) → is_idle_rec (log_ready (record t { key = k })) ≡ false
    idle (Root a) = refl
    idle (Under a b c) = refl

    same : (k : Key) → t.decision ≡ decided_by (log_ready (record t { key = k })) t.decision
    same (Root a) = refl
    same (Under a b c) = refl

clearing_leave : (e : TxEvent) (s t : Transaction) → IsPassed e s t (leave t) → is_leaving e ≡ true → IsClearing e s t (leave t)
unfolding leave
clearing_leave e s t passed departs = clearing_plain e s t (leave t) passed refl (joined_leaves AreMute mute_joined t (λ p. refl) (λ p. refl) (λ p. refl)) refl (λ late nil. rw departs (grind arith)) (λ p b st. inr (Departs departs))

clearing_ask : (e : TxEvent) (s t : Transaction) → IsPassed e s t (ask_commit t) → IsClearing e s t (ask_commit t)
unfolding ask_commit
clearing_ask e s t passed = clearing_same e s t _ _ passed (joined_prepare AreMute mute_joined t.rows (λ p. refl)) refl refl (λ p b st. inl (unmarked_prepared is_clear_branch (λ x. refl) p b t st))

clearing_row : (e : TxEvent) (s t : Transaction) (outs : List TxOut) (q : ℕ) (f : Row → Row) → IsPassed e s t (turn outs (with_row t q f)) → are_mute outs ≡ true → ((p : ℕ) (b : BranchId) → OpenAt p b t → OpenAt p b (with_row t q f) ⊎ Settles e s p) → IsClearing e s t (turn outs (with_row t q f))
clearing_row e s t outs q f passed mute stays = clearing_same e s t outs (with_row t q f) passed mute (row_decision t q f) (row_phase t q f) stays

clearing_count : (e : TxEvent) (s t : Transaction) (q : ℕ) → IsPassed e s t (count_branch q t) → IsClearing e s t (count_branch q t)
unfolding count_branch
clearing_count e s t q passed = clearing_row e s t _ q (λ r. record r { branch = record r.branch { counted = true } }) passed refl (λ p b st. inl (unmarked_row is_clear_branch p b t q (λ r. record r { branch = record r.branch { counted = true } }) (λ r. refl) (λ r. refl) (λ r. refl) (λ r h. h) st))

clearing_end : (e : TxEvent) (s t : Transaction) (q : ℕ) (x : Report) → IsPassed e s t (end_branch q x t) → (is_report_none x ≡ true → may_clear e s q ≡ true) → IsClearing e s t (end_branch q x t)
unfolding end_branch
clearing_end e s t q x passed may = clearing_row e s t (tell_report q x) q (λ r. record r { branch = record r.branch { ended = true; report = x } }) passed (joined_report AreMute mute_joined q x refl) (go (is_report_none x) refl)
  where
    go : (v : Bool) → is_report_none x ≡ v → (p : ℕ) (b : BranchId) → OpenAt p b t → OpenAt p b (with_row t q (λ r. record r { branch = record r.branch { ended = true; report = x } })) ⊎ Settles e s p
    go true i p b st = unmarked_or is_clear_branch p b t q (λ r. record r { branch = record r.branch { ended = true; report = x } }) (Settles e s p) (λ r. refl) (λ j. Is_clear (subst (λ (n : ℕ). may_clear e s n ≡ true) j (may i))) st
    go false i p b st = inl (unmarked_row is_clear_branch p b t q (λ r. record r { branch = record r.branch { ended = true; report = x } }) (λ r. refl) (λ r. refl) (λ r. refl) (λ r h. i) st)

clearing_left : (e : TxEvent) (s t : Transaction) (q : ℕ) → IsPassed e s t (branch_left q t) → may_leave e s q ≡ true → IsClearing e s t (branch_left q t)
unfolding branch_left
clearing_left e s t q passed may =
    clearing_row e s t _ q (λ r. record r { branch = record r.branch { left = true } }) passed refl
    (λ p b st. unmarked_or is_clear_branch p b t q (λ r. record r { branch = record r.branch { left = true } }) (Settles e s p) (λ r. refl) (λ i. Has_left (subst (λ (n : ℕ). may_leave e s n ≡ true) i may)) st)

clearing_shut : (e : TxEvent) (s : Transaction) (q : ℕ) (r : Row) → IsPassed e s s (shut_given_up q r s) → IsClearing e s s (shut_given_up q r s)
clearing_shut e s q r passed = clearing_row e s s _ q (λ w. record w { branch = record w.branch { given_up = true }; live = false; ends = false }) passed (mute r.live) (λ p b st. inl (unmarked_row is_clear_branch p b s q (λ w. record w { branch = record w.branch { given_up = true }; live = false; ends = false }) (λ w. refl) (λ w. refl) (λ w. refl) (λ w h. h) st))
  where
    mute : (v : Bool) → are_mute (if v then TxOut.Shut q ∷ [] else []) ≡ true
    mute true = refl
    mute false = refl

-- ---- what the event is

done_clear : (e : TxEvent) (s : Transaction) (q : ℕ) (r : Report) → e ≡ TxEvent.Took q (DialogueRecord.Done r) → is_committing s.phase ≡ true → is_report_none r ≡ true → may_clear e s q ≡ true
done_clear e s q r is c n = ap (λ (f : TxEvent). may_clear f s q) is ∙ rw (c, n) (grind (arith, nat_tests))

rolled_clear : (e : TxEvent) (s : Transaction) (q : ℕ) (r : Report) → e ≡ TxEvent.Took q (DialogueRecord.RolledBack r) → is_rolling s.phase ≡ true → may_clear e s q ≡ true
rolled_clear e s q r is c = ap (λ (f : TxEvent). may_clear f s q) is ∙ rw c (grind (arith, nat_tests))

reply_clear : (e : TxEvent) (s : Transaction) (b : BranchId) (w : Row) (r : Report) → e ≡ TxEvent.Reply b (RecState.Done r) → find_row_by_id s.rows b ≡ Some w → is_open_in_commit s w.branch ≡ true → is_report_none r ≡ true → may_clear e s w.branch.peer.node ≡ true
reply_clear e s b w r is found o n = ap (λ (f : TxEvent). may_clear f s w.branch.peer.node) is ∙ rw (found, n, may_clear) (grind (arith, nat_tests, o))

left_clear : (e : TxEvent) (s t : Transaction) (q : ℕ) (w : DialogueRecord) → e ≡ TxEvent.Took q w → is_left_word w ≡ true → may_end e s q ≡ true → may_clear e s q ≡ true
left_clear e s t q DialogueRecord.Left is l may = ap (λ (f : TxEvent). may_clear f s q) is ∙ ap (λ (f : TxEvent). may_end f s q) (sym is) ∙ may
left_clear e s t q DialogueRecord.LeftEnd is l may = ap (λ (f : TxEvent). may_clear f s q) is ∙ ap (λ (f : TxEvent). may_end f s q) (sym is) ∙ may
left_clear e s t q w is l may = absurd (cc (l))

told_mute : (i : Indication) → is_outcome_told i ≡ false → are_mute (TxOut.Tell i ∷ []) ≡ true
told_mute (Indication.CommitComplete r) h = absurd (cc (h))
told_mute i h = refl

-- ---- chains

nil_after : (p q : Phase) → may_move p q ≡ true → (is_nil p || is_rolling p) ≡ true → (is_nil q || is_rolling q) ≡ true
nil_after Phase.Nil q m h = grind (arith, m)
nil_after Phase.Rolling q m h = grind (arith, m)
nil_after _ q m h = absurd (cc (h))

nil_stays : (p q : Phase) → may_move p q ≡ true → is_nil p ≡ true → is_nil q ≡ true
nil_stays Phase.Nil q m h = grind (arith, m)
nil_stays _ q m h = absurd (cc (h))

-- what ends the second part ends the whole
five : (f g h i j k x y : Bool) → (f || g || h || i || j) ≡ true → (g ≡ true → (f || k) ≡ true) → (i ≡ true → x ≡ true) → (j ≡ true → y ≡ true) → (f || k || h || x || y) ≡ true
five true g h i j k x y all p q r = grind arith
five false true h i j k x y all p q r = let z : k ≡ true = p refl in rw z (grind arith)
five false false true i j k x y all p q r = grind arith
five false false false true j k x y all p q r = let z : x ≡ true = q refl in rw z (grind arith)
five false false false false true k x y all p q r = let z : y ≡ true = r refl in rw z (grind arith)
five false false false false false k x y all p q r = absurd (cc (all))

-- a and then b, from what a leaves; the whole logs what one of them does
clearing_then : (e : TxEvent) (s t : Transaction) (a b c : Turn) → IsPassed e s t c → c.next ≡ b.next → c.outs ≡ a.outs ++ b.outs → (a.rec ≡ None) × (c.rec ≡ b.rec) ⊎ (b.rec ≡ None) × (c.rec ≡ a.rec)
    → IsClearing e s t a → IsClearing e s a.next b → IsClearing e s t c
clearing_then e s t a b c passed next outs which one two = record {
  passed = passed;
  tells = λ h. elim (or_case (asks_tell is_complete_none a.outs) (asks_tell is_complete_none b.outs) (sym (tell_append is_complete_none a.outs b.outs) ∙ ap (asks_tell is_complete_none) (sym outs) ∙ h)) [
    | inl i ↦ from_a is_clear_rec refl which (one.tells i)
    | inr i ↦ from_b is_clear_rec refl which (two.tells i)
  ];
  says = λ z u d h. elim (recovery_append a.outs b.outs z (PeerRecord.RecReply u d (RecState.Done Report.None)) (subst (λ (l : List TxOut). IsRecoveryIn l z (PeerRecord.RecReply u d (RecState.Done Report.None))) outs h)) [
    | inl i ↦ from_a is_clear_rec refl which (one.says z u d i)
    | inr i ↦ from_b is_clear_rec refl which (two.says z u d i)
  ];
  forgets = λ z u d h. elim (recovery_append a.outs b.outs z (PeerRecord.Forget u d) (subst (λ (l : List TxOut). IsRecoveryIn l z (PeerRecord.Forget u d)) outs h)) [
    | inl i ↦ (let w = one.forgets z u d i in (w.0, from_a is_damage_rec refl which w.1))
    | inr i ↦ (let w = two.forgets z u d i in (w.0 ∙ ap aaid_of one.passed.key, from_b is_damage_rec refl which w.1))
  ];
  clears = λ h. clears h which;
  decides = λ h. ap (λ (u : Transaction). u.decision) next ∙ decides (ap (λ (u : Transaction). is_nil u.phase || is_rolling u.phase) (sym next) ∙ h) which;
  damages = λ h. ap (λ (u : Transaction). is_nil u.phase || is_rolling u.phase) next ∙ damages h which;
  reports = reports which;
  over = λ late nil. over late (ap (λ (u : Transaction). is_nil u.phase) (sym next) ∙ nil) (is_nil a.next.phase) refl which;
  stays = λ p d st. elim (one.stays p d st) [
    | inl i ↦ elim (two.stays p d i) [
      | inl j ↦ inl (subst (λ (u : Transaction). OpenAt p d u) (sym next) j)
      | inr j ↦ elim j [ inl k ↦ inr (inl k) | inr k ↦ inr (inr (from_b is_keeping_rec refl which k)) ]
    ]
    | inr i ↦ elim i [ inl j ↦ inr (inl j) | inr j ↦ inr (inr (from_a is_keeping_rec refl which j)) ]
  ];
}
  where
    Which : Type 0
    Which = (a.rec ≡ None) × (c.rec ≡ b.rec) ⊎ (b.rec ≡ None) × (c.rec ≡ a.rec)

    from_a : (f : Option LogRec → Bool) → f None ≡ false → (a.rec ≡ None) × (c.rec ≡ b.rec) ⊎ (b.rec ≡ None) × (c.rec ≡ a.rec) → f a.rec ≡ true → f c.rec ≡ true
    from_a f none (inl w) h = absurd (cc (ap f w.0, none, h))
    from_a f none (inr w) h = ap f w.1 ∙ h

    from_b : (f : Option LogRec → Bool) → f None ≡ false → (a.rec ≡ None) × (c.rec ≡ b.rec) ⊎ (b.rec ≡ None) × (c.rec ≡ a.rec) → f b.rec ≡ true → f c.rec ≡ true
    from_b f none (inl w) h = ap f w.1 ∙ h
    from_b f none (inr w) h = absurd (cc (ap f w.0, none, h))

    settled : is_committing a.next.phase ≡ true → a.rec ≡ None → (is_committing t.phase ≡ true) × (a.next.decision ≡ t.decision)
    settled h none = (elim (or_case (is_committing t.phase) (is_commit_rec a.rec) (one.passed.commits h)) [ inl i ↦ i | inr i ↦ absurd (cc (ap is_commit_rec none, i)) ], one.decides (committing_late a.next.phase h) ∙ ap (λ (r : Option LogRec). decided_by r t.decision) none)

    clears : is_clear_rec c.rec ≡ true → (a.rec ≡ None) × (c.rec ≡ b.rec) ⊎ (b.rec ≡ None) × (c.rec ≡ a.rec) → (is_committing t.phase ≡ true) × (is_for_rollback t.decision ≡ false) × (is_nil c.next.phase ≡ true)
    clears h (inl w) =
        let k = two.clears (ap is_clear_rec (sym w.1) ∙ h) in
        let m = settled k.0 w.0 in
        (m.0, ap is_for_rollback (sym m.1) ∙ k.1, ap (λ (u : Transaction). is_nil u.phase) next ∙ k.2)
    clears h (inr w) =
        let k = one.clears (ap is_clear_rec (sym w.1) ∙ h) in
        (k.0, k.1, ap (λ (u : Transaction). is_nil u.phase) next ∙ nil_stays a.next.phase b.next.phase two.passed.moves k.2)

    loose : (p q : Phase) → may_move p q ≡ true → (is_nil q || is_rolling q) ≡ false → (is_nil p || is_rolling p) ≡ false
    loose p q m h = go (is_nil p || is_rolling p) refl
      where
        go : (v : Bool) → (is_nil p || is_rolling p) ≡ v → v ≡ false
        go false i = refl
        go true i = absurd (cc (h, nil_after p q m i))

    decides : (is_nil b.next.phase || is_rolling b.next.phase) ≡ false → (a.rec ≡ None) × (c.rec ≡ b.rec) ⊎ (b.rec ≡ None) × (c.rec ≡ a.rec) → b.next.decision ≡ decided_by c.rec t.decision
    decides h (inl w) =
        two.decides h ∙ ap (decided_by b.rec) (one.decides (loose a.next.phase b.next.phase two.passed.moves h) ∙ ap (λ (r : Option LogRec). decided_by r t.decision) w.0) ∙ ap (λ (r : Option LogRec). decided_by r t.decision) (sym w.1)
    decides h (inr w) =
        two.decides h ∙ ap (λ (r : Option LogRec). decided_by r a.next.decision) w.0 ∙ one.decides (loose a.next.phase b.next.phase two.passed.moves h) ∙ ap (λ (r : Option LogRec). decided_by r t.decision) (sym w.1)

    damages : is_damage_rec c.rec ≡ true → (a.rec ≡ None) × (c.rec ≡ b.rec) ⊎ (b.rec ≡ None) × (c.rec ≡ a.rec) → (is_nil b.next.phase || is_rolling b.next.phase) ≡ true
    damages h (inl w) = two.damages (ap is_damage_rec (sym w.1) ∙ h)
    damages h (inr w) = nil_after a.next.phase b.next.phase two.passed.moves (one.damages (ap is_damage_rec (sym w.1) ∙ h))

    reports : (a.rec ≡ None) × (c.rec ≡ b.rec) ⊎ (b.rec ≡ None) × (c.rec ≡ a.rec) → is_idle_rec c.rec ≡ false
    reports (inl w) = ap is_idle_rec w.1 ∙ two.reports
    reports (inr w) = ap is_idle_rec w.1 ∙ one.reports

    -- one that rolls after a was rolling, or falls
    rolled : is_rolling a.next.phase ≡ true → (falls e s || is_rolling t.phase) ≡ true
    rolled h = elim (or_case (is_rolling t.phase) (falls e s) (one.passed.rolling h)) [ inl i ↦ rw i (grind arith) | inr i ↦ rw i (grind arith) ]

    over : is_nil t.phase ≡ false → is_nil b.next.phase ≡ true → (v : Bool) → is_nil a.next.phase ≡ v → (a.rec ≡ None) × (c.rec ≡ b.rec) ⊎ (b.rec ≡ None) × (c.rec ≡ a.rec) → is_ended_by e s t c.rec ≡ true
    over late nil true i w =
        five (falls e s) (is_rolling t.phase) (is_leaving e) (is_clear_rec a.rec) (is_keeping_rec a.rec) (is_rolling t.phase) (is_clear_rec c.rec) (is_keeping_rec c.rec) (one.over late i) (λ h. rw h (grind arith)) (from_a is_clear_rec refl w) (from_a is_keeping_rec refl w)
    over late nil false i w =
        five (falls e s) (is_rolling a.next.phase) (is_leaving e) (is_clear_rec b.rec) (is_keeping_rec b.rec) (is_rolling t.phase) (is_clear_rec c.rec) (is_keeping_rec c.rec) (two.over i nil) rolled (from_b is_clear_rec refl w) (from_b is_keeping_rec refl w)

-- ---- the steps

clearing_turns : (e : TxEvent) (s : Transaction) → Turns e s (IsClearing e s)
clearing_turns e s = record {
  still = λ t. clearing_same e s t [] t (k.still t) refl refl refl (λ p b st. inl st);
  first = λ t u outs a one two. clearing_then e s t (turn outs u) a (before outs a) (k.first t u outs a one.passed two.passed) refl refl (inl (refl, refl)) one two;
  chain = λ t a f one two none. clearing_then e s t a (f a.next) (and_then a f) (k.chain t a f one.passed two.passed none) refl refl (later_rec a.rec (f a.next).rec none) one two;
  tells = λ t i n. clearing_same e s t _ t (k.tells t i n) (told_mute i n) refl refl (λ p b st. inl st);
  notes_prepare = λ pr cl. clearing_same e s s _ _ (k.notes_prepare pr cl) refl refl refl (λ p b st. inl (unmarked_same is_clear_branch p b s _ refl st.phase st));
  notes_done = λ is. clearing_same e s s _ _ (k.notes_done is) refl refl refl (λ p b st. inl (unmarked_same is_clear_branch p b s _ refl st.phase st));
  notes_end = λ q is. clearing_same e s s _ _ (k.notes_end q is) refl refl refl (λ p b st. inl (unmarked_same is_clear_branch p b s _ refl st.phase st));
  notes_rollback = λ ro cl. clearing_same e s s _ _ (k.notes_rollback ro cl) refl refl refl (λ p b st. inl (unmarked_same is_clear_branch p b s _ refl st.phase st));
  defers_end = λ q is. clearing_row e s s _ q _ (k.defers_end q is) refl (λ p b st. inl (unmarked_row is_clear_branch p b s q (λ r. record r { ends = true }) (λ r. refl) (λ r. refl) (λ r. refl) (λ r h. h) st));
  defers_grant = λ q is. clearing_same e s s _ _ (k.defers_grant q is) refl refl refl (λ p b st. inl st);
  prepares = λ q. clearing_row e s s _ q _ (k.prepares q) refl (λ p b st. inl (unmarked_row is_clear_branch p b s q (λ r. record r { branch = record r.branch { prepared = true } }) (λ r. refl) (λ r. refl) (λ r. refl) (λ r h. h) st));
  asks = λ is act asked told. clearing_ask e s s (k.asks is act asked told);
  asks_again = clearing_same e s s _ _ k.asks_again (joined_retried AreMute mute_joined s refl (λ a b z i. refl) (λ c. joined_ask AreMute mute_joined (aaid_of s.key) s.rows (λ z b. refl))) refl refl (λ p b st. inl st);
  decides = λ o is ready. clearing_logs e s s (decide o s) (k.decides o is ready) refl refl refl refl refl (grind (arith, ready)) (λ p b st. unmarked_same is_clear_branch p b s (decide o s).next refl st.phase st);
  aborts = λ q is. clearing_same e s s _ _ (k.aborts q is) refl (lost_decision s q) (lost_phase s q) (λ p b st. inl (unmarked_lost is_clear_branch p b s q st));
  loses_arc = λ q gone. clearing_same e s s _ _ (k.loses_arc q gone) refl (lost_decision s q) (lost_phase s q) (λ p b st. inl (unmarked_lost is_clear_branch p b s q st));
  closes_left = λ q is. clearing_row e s s _ q row_dead (k.closes_left q is) refl (λ p b st. inl (unmarked_row is_clear_branch p b s q row_dead (λ r. refl) (λ r. refl) (λ r. refl) (λ r h. h) st));
  gives_up = λ q r is c found. clearing_shut e s q r (k.gives_up q r is c found);
  counts = λ q is act row. clearing_count e s s q (k.counts q is act row);
  ends_done = λ q r is c row. clearing_end e s s q r (k.ends_done q r is c row) (done_clear e s q r is c);
  ends_replied = λ b w r is found o. clearing_end e s s w.branch.peer.node r (k.ends_replied b w r is found o) (reply_clear e s b w r is found o);
  ends_rolled = λ q r is c row. clearing_end e s s q r (k.ends_rolled q r is c row) (λ n. rolled_clear e s q r is c);
  leaves_below = λ q w t is left at act. clearing_left e s t q (k.leaves_below q w t is left at act) (left_may e s t q w is left at act);
  leaves_rolling = λ q w t is left at c. clearing_end e s t q Report.None (k.leaves_rolling q w t is left at c) (λ n. left_clear e s t q w is left (left_end_may e s t q w is left at c));
  votes = λ t act asked all under. clearing_vote e s t (k.votes t act asked all under);
  orders_root = λ t act asked all root. clearing_order e s t (k.orders_root t act asked all root);
  orders_ready = λ ready is. clearing_order e s s (k.orders_ready ready is);
  rolls = λ t asked f ok. clearing_rolling e s t asked (k.rolls t asked f ok) f;
  completes_commit = λ t c. clearing_commit e s t (k.completes_commit t c) c;
  completes_rollback = λ t c. clearing_rollback e s t (k.completes_rollback t c) c;
  leaves = λ is act under asked all. clearing_leave e s s (k.leaves is act under asked all) (ap is_leaving is);
}
  where
    k : Turns e s (IsPassed e s)
    k = passed_turns e s

-- every event of a transaction
pub clearing_turn : (e : TxEvent) (s : Transaction) → IsPut e s → IsClearing e s s (transacted e s)
clearing_turn e s put = every_turn e s (IsClearing e s) (clearing_turns e s) put
