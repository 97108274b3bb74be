-- Every event of a transaction keeps the facts of words and branches: an instance of the steps of a turn.
use Rattle.std.proofs.Common.{if◌then◌else◌, ◌≡◌, ◌≤◌, ◌⊎◌, inl, inr, ℕ, Bool, true, false, refl, ap, sym, subst, ◌∙◌, arith, Option, Some, None, List, [], ◌∷◌, ◌++◌, ◌&&◌, ◌||◌, ◌==◌, not, slice_get}
use Rattle.std.proofs.lemmas.Bool.Decides.{nat_tests}
use Rattle.std.proofs.lemmas.List.{append-nil}
use Rattle.tp_names.specs.declared.identifiers.Aaid.{Aaid}
use Rattle.tp_names.specs.declared.identifiers.BranchId.{BranchId}
use Rattle.tp_names.specs.declared.outcome.Report.{Report}
use Rattle.tp_names.specs.Same.{is_aaid, is_key}
use Rattle.tp_records.specs.declared.indication.Indication.{Indication}
use Rattle.tp_records.specs.declared.dialogue.DialogueRecord.{DialogueRecord}
use Rattle.tp_records.specs.declared.peer.RecState.{RecState}
use Rattle.tp_logrec.specs.declared.record.LogRec.{LogRec}
use Rattle.tp_model.specs.declared.arc.Phase.{Phase}
use Rattle.tp_model.specs.declared.transaction.TxEvent.{TxEvent}
use Rattle.tp_model.specs.declared.transaction.TxOut.{TxOut}
use Rattle.tp_model.specs.Parts.{Key, Root, Under, Branch}
use Rattle.tp_model.specs.Dialogues.{is_nil, is_active, is_committing, is_rolling}
use Rattle.tp_model.specs.Transactions.{Row, Transaction, turn, and_then, aaid_of, is_under_at, find_row, find_row_by_id, with_row, with_arc_lost, carry_up, carry_down, tell_report, log_ready, log_commit, rollback_rec, begin_rolling, order, all_prepared, ask_commit, count_branch, end_branch, branch_left, retried, is_open_in_commit, transacted}
use Rattle.tp_model.specs.History.{with_rec}
use Rattle.tp_model.specs.Questions.{is_begin}
use Rattle.tp_steps.specs.Turns.{Turns, falls, loses, is_left_word, vote, decide, shut_given_up, row_dead}
use Rattle.tp_steps.specs.Facts.{spoken, stays, is_vote, is_order, is_rollback, is_end, ends_in_phase, none_of, BranchKey, each_under, each_vote, is_voted, is_ordered, is_rolled, open_now, sees_row, sees, closes, HasPlace, Knows, IsFair}
use Rattle.tp_steps.proofs.lemmas.Words.{spoken_append, stays_append, none_append, none_under, none_vote, none_ends, under_const, both}
use Rattle.tp_steps.proofs.every.EveryTurn.{every_turn}
use Rattle.tp_steps.specs.Moves.{IsPut}
use Rattle.tp_steps.proofs.words.Fair.{mute, fair_mute, fair_outs, fair_rows, fair_row, facts_then, IsLater, row_id, row_open, row_with, row_keeps, row_key, row_phase, row_up, id_is}
use Rattle.tp_steps.proofs.words.Leaves.{aaid_same, branch_same, up_spoken, up_stays, down_kind, down_none, prepare_spoken, prepare_row, retried_spoken, fair_commit, fair_rollback, fair_leave}
use Rattle.std.proofs.Math.Nat.{le_refl}
use Rattle.tp_steps.proofs.lemmas.Phases.{lost_key}

key_same : (a : Aaid) (b : BranchId) → is_key (record { aaid = a; branch = Some b }) (record { aaid = a; branch = Some b }) ≡ true
key_same a b = grind (arith, aaid_same a, branch_same b)

-- ---- votes, orders, rollbacks

fair_vote : (e : TxEvent) (s : Transaction) (p : ℕ) (t : Transaction) → is_active t.phase ≡ true → IsFair e s p t (vote t)
fair_vote e s p t act = record {
  same = record { key = refl; ids = refl };
  facts = λ saw kept. record {
    begins = rw said (grind arith);
    seen_after = λ st. saw;
    balance = λ st. rw said (grind (arith, act));
    opens = λ c st. grind (arith, act);
    votes = λ ks rs n h. rw said (go t.key refl ks rs n h);
    orders = λ k rs h. rw said (grind arith);
    rollbacks = λ k g h u f. rw said (grind arith);
  };
}
  where
    said : spoken true p (carry_up t DialogueRecord.Ready) ≡ (if is_under_at t.key p && t.up then DialogueRecord.Ready ∷ [] else [])
    said = up_spoken t p DialogueRecord.Ready refl

    go : (k : Key) → t.key ≡ k → (ks : List BranchKey) (rs : List LogRec) (n : ℕ) → HasPlace ks n t p
        → each_vote (is_voted ks (with_rec (log_ready t) rs)) n (if is_under_at t.key p && t.up then DialogueRecord.Ready ∷ [] else []) ≡ true
    go (Root a) i ks rs n h = grind (arith, i)
    go (Under a b w) i ks rs n h = on (is_under_at t.key p && t.up) refl
      where
        on : (c : Bool) → (is_under_at t.key p && t.up) ≡ c → each_vote (is_voted ks (with_rec (log_ready t) rs)) n (if c then DialogueRecord.Ready ∷ [] else []) ≡ true
        on false j = refl
        on true j =
            let place : slice_get ks n ≡ Some (a, b) = h a b w (grind (arith, act)) i (grind (arith, j)) in
            let same = key_same a b in
            grind (arith, i, place, same)

fair_order : (e : TxEvent) (s : Transaction) (p : ℕ) (t : Transaction) → is_nil t.phase ≡ false → IsFair e s p t (order t)
unfolding order
fair_order e s p t late = record {
  same = record { key = refl; ids = refl };
  facts = λ saw kept. record {
    begins = rw said (down_kind is_begin p t.rows DialogueRecord.Commit refl);
    seen_after = λ st. saw;
    balance = λ st. rw (said, none_ends (spoken true p (carry_down t.rows DialogueRecord.Commit)) (down_kind is_end p t.rows DialogueRecord.Commit refl)) (grind (arith, late));
    opens = λ c st. grind (arith, late);
    votes = λ ks rs n h. rw said (none_vote (is_voted ks (with_rec (Some (log_commit t)) rs)) n (spoken true p (carry_down t.rows DialogueRecord.Commit)) (down_kind is_vote p t.rows DialogueRecord.Commit refl));
    orders = λ k rs h. rw said (go (row_id (find_row t.rows p)) refl k rs h);
    rollbacks = λ k g h u f. rw said (none_under is_rollback (is_rolled g) k (spoken true p (carry_down t.rows DialogueRecord.Commit)) (down_kind is_rollback p t.rows DialogueRecord.Commit refl));
  };
}
  where
    said : spoken true p (carry_down t.rows DialogueRecord.Commit ++ (TxOut.Tell Indication.Commit ∷ [])) ≡ spoken true p (carry_down t.rows DialogueRecord.Commit)
    said = spoken_append true p (carry_down t.rows DialogueRecord.Commit) (TxOut.Tell Indication.Commit ∷ []) ∙ append-nil (spoken true p (carry_down t.rows DialogueRecord.Commit))

    go : (o : Option BranchId) → row_id (find_row t.rows p) ≡ o → (k : Option BranchKey) (rs : List LogRec) → Knows k t p
        → each_under is_order (is_ordered (with_rec (Some (log_commit t)) rs)) k (spoken true p (carry_down t.rows DialogueRecord.Commit)) ≡ true
    go None i k rs h = rw (down_none p t.rows DialogueRecord.Commit i) refl
    go (Some b) i k rs h =
        let key : k ≡ Some (aaid_of t.key, b) = h b (id_is t p ∙ i) in
        let same = aaid_same (aaid_of t.key) in
        let logged : is_ordered (with_rec (Some (log_commit t)) rs) (Some (aaid_of t.key, b)) ≡ true = commits t.key refl same in
        under_const is_order (is_ordered (with_rec (Some (log_commit t)) rs)) k (spoken true p (carry_down t.rows DialogueRecord.Commit)) (down_kind is_begin p t.rows DialogueRecord.Commit refl)
        (ap (is_ordered (with_rec (Some (log_commit t)) rs)) key ∙ logged)
      where
        commits : (j : Key) → t.key ≡ j → is_aaid (aaid_of t.key) (aaid_of t.key) ≡ true → is_ordered (with_rec (Some (log_commit t)) rs) (Some (aaid_of t.key, b)) ≡ true
        commits (Root a) l same = let one : is_aaid a a ≡ true = rw l at same in grind (arith, l, one)
        commits (Under a c w) l same = let one : is_aaid a a ≡ true = rw l at same in grind (arith, l, one)

fair_rolls : (e : TxEvent) (s : Transaction) (p : ℕ) (t : Transaction) (asked : Bool) → falls e s ≡ true → is_nil t.phase ≡ false → IsFair e s p t (begin_rolling asked t)
unfolding begin_rolling
fair_rolls e s p t asked fall late = record {
  same = record { key = refl; ids = refl };
  facts = λ saw kept. record {
    begins = kind is_begin refl;
    seen_after = λ st. saw;
    balance = λ st. rw (none_ends (spoken true p outs) (kind is_end refl)) (grind (arith, late));
    opens = λ c st. grind (arith, late);
    votes = λ ks rs n h. none_vote (is_voted ks (with_rec (rollback_rec t) rs)) n (spoken true p outs) (kind is_vote refl);
    orders = λ k rs h. none_under is_order (is_ordered (with_rec (rollback_rec t) rs)) k (spoken true p outs) (kind is_order refl);
    rollbacks = λ k g h u f. go k g h u (f fall) (is_under_at t.key p) refl (row_id (find_row t.rows p)) refl;
  };
}
  where
    told : List TxOut
    told = if asked then [] else TxOut.Tell Indication.Rollback ∷ []

    up : List TxOut
    up = carry_up t DialogueRecord.Rollback

    down : List TxOut
    down = carry_down t.rows DialogueRecord.Rollback

    outs : List TxOut
    outs = told ++ up ++ down

    told_none : (b : Bool) → (spoken true p (if b then [] else TxOut.Tell Indication.Rollback ∷ []) ≡ []) × (stays true p (if b then [] else TxOut.Tell Indication.Rollback ∷ []) ≡ true)
    told_none true = (refl, refl)
    told_none false = (refl, refl)

    said : spoken true p outs ≡ spoken true p up ++ spoken true p down
    said =
        let one : spoken true p (told ++ up) ≡ spoken true p up = spoken_append true p told up ∙ rw ((told_none asked).0, (told_none asked).1) refl in
        let live : stays true p (told ++ up) ≡ true = stays_append true p told up ∙ rw ((told_none asked).1) (up_stays t p DialogueRecord.Rollback) in
        spoken_append true p (told ++ up) down ∙ rw (one, live) refl

    kind : (f : DialogueRecord → Bool) → f DialogueRecord.Rollback ≡ false → none_of f (spoken true p outs) ≡ true
    kind f h =
        let first : none_of f (spoken true p up) ≡ true = rw (up_spoken t p DialogueRecord.Rollback refl) (grind (arith, h)) in
        rw (said, none_append f (spoken true p up) (spoken true p down)) (both (none_of f (spoken true p up)) (none_of f (spoken true p down)) first (down_kind f p t.rows DialogueRecord.Rollback h))

    go : (k : Option BranchKey) (g : Aaid → Bool) → Knows k t p → (is_under_at t.key p ≡ true → k ≡ None) → g (aaid_of t.key) ≡ true → (b : Bool) → is_under_at t.key p ≡ b
        → (o : Option BranchId) → row_id (find_row t.rows p) ≡ o → each_under is_rollback (is_rolled g) k (spoken true p outs) ≡ true
    go k g h u f true i o j = under_const is_rollback (is_rolled g) k (spoken true p outs) (kind is_begin refl) (ap (is_rolled g) (u i))
    go k g h u f false i (Some b) j = under_const is_rollback (is_rolled g) k (spoken true p outs) (kind is_begin refl) (ap (is_rolled g) (h b (id_is t p ∙ j)) ∙ f)
    go k g h u f false i None j =
        let none_up : spoken true p up ≡ [] = up_spoken t p DialogueRecord.Rollback refl ∙ rw i refl in
        let none : spoken true p outs ≡ [] = said ∙ rw (none_up, down_none p t.rows DialogueRecord.Rollback j) refl in
        rw none refl

-- ---- branches

report_spoken : (q : ℕ) (r : Report) (p : ℕ) → spoken true p (tell_report q r) ≡ []
report_spoken q r p = grind arith

-- a branch that closes: only where the event may close it
fair_close : (e : TxEvent) (s : Transaction) (p : ℕ) (t : Transaction) (outs : List TxOut) (q : ℕ) (f : Row → Row) → spoken true p outs ≡ [] → ((r : Row) → (f r).branch.peer.node ≡ r.branch.peer.node)
    → ((r : Row) → row_id (Some (f r)) ≡ row_id (Some r)) → ((r : Row) → sees_row (Some (f r)) ≡ true) → ((q == p) ≡ true → closes e s p ≡ 0 → ⊥) → IsFair e s p t (turn outs (with_row t q f))
fair_close e s p t outs q f none peer id seen closed =
    fair_rows e s p t (turn outs (with_row t q f)) none (row_key t q f) (ap is_nil (row_phase t q f)) (row_up t q f) (row_keeps row_id t q f p peer id)
    (λ st saw. saw_after (q == p) (find_row t.rows p) refl saw)
    (λ st saw c. other (q == p) refl c)
  where
    saw_after : (b : Bool) (o : Option Row) → find_row t.rows p ≡ o → sees_row (find_row t.rows p) ≡ true → sees_row (find_row (with_row t q f).rows p) ≡ true
    saw_after b o i saw = ap sees_row (row_with t q f p peer) ∙ on (q == p) o i
      where
        on : (c : Bool) (o : Option Row) → find_row t.rows p ≡ o → sees_row (if c then elim (find_row t.rows p) as (λ _. Option Row) [ None ↦ None | Some r ↦ Some (f r) ] else find_row t.rows p) ≡ true
        on false o i = saw
        on true None i = rw i refl
        on true (Some r) i = rw i (seen r)

    other : (b : Bool) → (q == p) ≡ b → closes e s p ≡ 0 → row_open (find_row t.rows p) ≤ row_open (find_row (with_row t q f).rows p)
    other true i c = absurd (closed i c)
    other false i c = let same : find_row (with_row t q f).rows p ≡ find_row t.rows p = row_with t q f p peer ∙ rw i refl in rw same (le_refl (row_open (find_row t.rows p)))

took_closes : (q p : ℕ) (r : DialogueRecord) (s : Transaction) → ends_in_phase r s.phase ≡ true → (q == p) ≡ true → closes (TxEvent.Took q r) s p ≡ 0 → ⊥
took_closes q p r s h i c = absurd (grind (arith, h, i, c))

fair_end : (e : TxEvent) (s : Transaction) (p q : ℕ) (r : Report) (t : Transaction) → ((q == p) ≡ true → closes e s p ≡ 0 → ⊥) → IsFair e s p t (end_branch q r t)
unfolding end_branch
fair_end e s p q r t c = fair_close e s p t (tell_report q r) q (λ w. record w { branch = record w.branch { ended = true; report = r } }) (report_spoken q r p) (λ w. refl) (λ w. refl) (λ w. grind arith) c

fair_left : (e : TxEvent) (s : Transaction) (p q : ℕ) (t : Transaction) → ((q == p) ≡ true → closes e s p ≡ 0 → ⊥) → IsFair e s p t (branch_left q t)
unfolding branch_left
fair_left e s p q t c = fair_close e s p t (TxOut.Tell (Indication.Left q) ∷ []) q (λ w. record w { branch = record w.branch { left = true } }) refl (λ w. refl) (λ w. refl) (λ w. grind arith) c

fair_count : (e : TxEvent) (s : Transaction) (p q : ℕ) (t : Transaction) → IsFair e s p t (count_branch q t)
unfolding count_branch
fair_count e s p q t = fair_row e s p t (TxOut.Tell (Indication.Ready q) ∷ []) q (λ w. record w { branch = record w.branch { counted = true } }) refl (λ w. refl) (λ w. refl) (λ w. refl) (λ w. refl)

fair_ask : (e : TxEvent) (s : Transaction) (p : ℕ) (t : Transaction) → IsFair e s p t (ask_commit t)
unfolding ask_commit
fair_ask e s p t =
    fair_rows e s p t (ask_commit t) (prepare_spoken p t.rows) refl refl refl
    (ap row_id (prepare_row p t.rows) ∙ on_id (find_row t.rows p))
    (λ st saw. ap sees_row (prepare_row p t.rows) ∙ on_seen (find_row t.rows p) saw)
    (λ st saw c. on_open (find_row t.rows p) (find_row (all_prepared t.rows) p) (prepare_row p t.rows))
  where
    on_id : (o : Option Row) → row_id (elim o as (λ _. Option Row) [ None ↦ None | Some r ↦ Some (record r { branch = record r.branch { prepared = true } }) ]) ≡ row_id o
    on_id None = refl
    on_id (Some r) = refl

    on_seen : (o : Option Row) → sees_row o ≡ true → sees_row (elim o as (λ _. Option Row) [ None ↦ None | Some r ↦ Some (record r { branch = record r.branch { prepared = true } }) ]) ≡ true
    on_seen None h = refl
    on_seen (Some r) h = h

    on_open : (o u : Option Row) → u ≡ elim o as (λ _. Option Row) [ None ↦ None | Some r ↦ Some (record r { branch = record r.branch { prepared = true } }) ] → row_open o ≤ row_open u
    on_open None u h = rw h (le_refl 0)
    on_open (Some r) u h = rw h (le_refl (row_open (Some r)))

-- ---- associations that go

-- the arc with another peer is lost
fair_other : (e : TxEvent) (s : Transaction) (p : ℕ) (t u : Transaction) (outs : List TxOut) (q : ℕ) → spoken true p outs ≡ [] → (stays true p outs ≡ true → (q == p) ≡ false)
    → u.key ≡ t.key → u.phase ≡ t.phase → row_id (find_row u.rows p) ≡ row_id (find_row t.rows p)
    → ((q == p) ≡ false → (find_row u.rows p ≡ find_row t.rows p) × (is_under_at t.key p ≡ true → u.up ≡ t.up)) → IsFair e s p t (turn outs u)
fair_other e s p t u outs q none live key phase id at = record {
  same = record { key = key; ids = id_is u p ∙ id ∙ sym (id_is t p) };
  facts = λ saw kept. mute e s p t (turn outs u) none
      (λ st. let o = at (live st) in seen_go o.0 o.1 saw (is_under_at t.key p) refl)
      (λ st. rw (phase, key) refl)
      (λ c st. let o = at (live st) in at_most_same (rw (o.0, phase) refl));
}
  where
    at_most_same : open_now t p ≡ open_now u p → open_now t p ≤ open_now u p
    at_most_same h = omega (arith, h)

    seen_go : find_row u.rows p ≡ find_row t.rows p → (is_under_at t.key p ≡ true → u.up ≡ t.up) → sees t p ≡ true → (b : Bool) → is_under_at t.key p ≡ b → sees u p ≡ true
    seen_go r v saw true i = rw (key, r, v i) saw
    seen_go r v saw false i = rw (key, r) (grind (arith, i, saw))

lost_id : (t : Transaction) (q p : ℕ) → row_id (find_row (with_arc_lost t q).rows p) ≡ row_id (find_row t.rows p)
lost_id t q p = go (is_under_at t.key q) refl
  where
    go : (b : Bool) → is_under_at t.key q ≡ b → row_id (find_row (with_arc_lost t q).rows p) ≡ row_id (find_row t.rows p)
    go true i = rw (i, with_arc_lost) refl
    go false i = rw (i, with_arc_lost) (row_keeps row_id t q row_dead p (λ r. refl) (λ r. refl))

lost_at : (t : Transaction) (q p : ℕ) → (q == p) ≡ false → (find_row (with_arc_lost t q).rows p ≡ find_row t.rows p) × (is_under_at t.key p ≡ true → (with_arc_lost t q).up ≡ t.up)
lost_at t q p ne = go (is_under_at t.key q) refl
  where
    apart : (k : Key) → is_under_at k q ≡ true → is_under_at k p ≡ true → ⊥
    apart (Root a) h i = absurd cc
    apart (Under a b w) h i =
        let one : w.node ≡ q = grind (arith, nat_tests, h) in
        let two : w.node ≡ p = grind (arith, nat_tests, i) in
        let same : q ≡ p = sym one ∙ two in
        absurd (grind (arith, nat_tests, ne, same))

    go : (b : Bool) → is_under_at t.key q ≡ b → (find_row (with_arc_lost t q).rows p ≡ find_row t.rows p) × (is_under_at t.key p ≡ true → (with_arc_lost t q).up ≡ t.up)
    go true i = (rw (i, with_arc_lost) refl, λ h. absurd (apart t.key i h))
    go false i = (rw (i, with_arc_lost) (row_with t q row_dead p (λ r. refl) ∙ rw ne refl), λ h. rw (i, with_arc_lost) (row_up t q row_dead))

pub lost_phase : (t : Transaction) (q : ℕ) → (with_arc_lost t q).phase ≡ t.phase
lost_phase t q = grind (arith, row_phase)

not_same : (q p : ℕ) → (not (q == p)) ≡ true → (q == p) ≡ false
not_same q p h = grind (arith, h)

fair_lost : (e : TxEvent) (s : Transaction) (p q : ℕ) (outs : List TxOut) → spoken true p outs ≡ [] → (stays true p outs ≡ true → (q == p) ≡ false) → IsFair e s p s (turn outs (with_arc_lost s q))
fair_lost e s p q outs none live = fair_other e s p s (with_arc_lost s q) outs q none live (lost_key s q) (lost_phase s q) (lost_id s q p) (λ ne. lost_at s q p ne)

loses_other : (e : TxEvent) (q p : ℕ) → loses e q ≡ true → loses e p ≡ false → (q == p) ≡ false
loses_other (TxEvent.Lost r) q p h i = grind (arith, nat_tests, h, i)
loses_other (TxEvent.Took r DialogueRecord.UAbort) q p h i = grind (arith, nat_tests, h, i)
loses_other (TxEvent.Took r w) q p h i = absurd (grind (arith, h, i))
loses_other e q p h i = absurd (grind (arith, h, i))

-- known to keep the peer's association, or nothing to show
fair_loses : (e : TxEvent) (s : Transaction) (p q : ℕ) → loses e q ≡ true → IsFair e s p s (turn [] (with_arc_lost s q))
fair_loses e s p q gone = go (loses e p) refl
  where
    go : (b : Bool) → loses e p ≡ b → IsFair e s p s (turn [] (with_arc_lost s q))
    go false i = fair_lost e s p q [] refl (λ st. loses_other e q p gone i)
    go true i = record {
      same = record { key = lost_key s q; ids = id_is (with_arc_lost s q) p ∙ lost_id s q p ∙ sym (id_is s p) };
      facts = λ saw kept. absurd (cc (i, kept));
    }

fair_closes_left : (e : TxEvent) (s : Transaction) (p q : ℕ) → IsFair e s p s (turn (TxOut.Close q ∷ []) (with_row s q row_dead))
fair_closes_left e s p q =
    fair_other e s p s (with_row s q row_dead) (TxOut.Close q ∷ []) q refl (λ st. not_same q p st) (row_key s q row_dead) (row_phase s q row_dead) (row_keeps row_id s q row_dead p (λ r. refl) (λ r. refl))
    (λ ne. (row_with s q row_dead p (λ r. refl) ∙ rw ne refl, λ h. row_up s q row_dead))

fair_gives_up : (e : TxEvent) (s : Transaction) (p q : ℕ) (r : Row) → find_row s.rows q ≡ Some r → IsFair e s p s (shut_given_up q r s)
fair_gives_up e s p q r found =
    fair_rows e s p s (shut_given_up q r s) (none r.live) (row_key s q f) (ap is_nil (row_phase s q f)) (row_up s q f) (row_keeps row_id s q f p (λ w. refl) (λ w. refl))
    (λ st saw. seen_go (q == p) refl st saw)
    (λ st saw c. open_go (q == p) refl st saw)
  where
    f : Row → Row
    f = λ q. record q { branch = record q.branch { given_up = true }; live = false; ends = false }

    none : (b : Bool) → spoken true p (if b then TxOut.Shut q ∷ [] else []) ≡ []
    none true = refl
    none false = refl

    at : q ≡ p → find_row s.rows p ≡ Some r
    at same = subst (λ (n : ℕ). find_row s.rows n ≡ Some r) same found

    same_row : (q == p) ≡ false → find_row (with_row s q f).rows p ≡ find_row s.rows p
    same_row i = row_with s q f p (λ w. refl) ∙ rw i refl

    -- the association with the peer was gone
    over : (q == p) ≡ true → stays true p (if r.live then TxOut.Shut q ∷ [] else []) ≡ true → sees_row (find_row s.rows p) ≡ true → (r.branch.ended || r.branch.left) ≡ true
    over i st saw =
        let here : find_row s.rows p ≡ Some r = at (grind (arith, nat_tests, i)) in
        let seen : sees_row (Some r) ≡ true = ap sees_row (sym here) ∙ saw in
        grind (arith, i, st, seen)

    seen_go : (b : Bool) → (q == p) ≡ b → stays true p (if r.live then TxOut.Shut q ∷ [] else []) ≡ true → sees_row (find_row s.rows p) ≡ true → sees_row (find_row (with_row s q f).rows p) ≡ true
    seen_go false i st saw = rw (same_row i) saw
    seen_go true i st saw =
        let here : find_row s.rows p ≡ Some r = at (grind (arith, nat_tests, i)) in
        let o = over i st saw in
        let now : find_row (with_row s q f).rows p ≡ Some (f r) = row_with s q f p (λ w. refl) ∙ rw (i, here) refl in
        rw now (grind (arith, o))

    open_go : (b : Bool) → (q == p) ≡ b → stays true p (if r.live then TxOut.Shut q ∷ [] else []) ≡ true → sees_row (find_row s.rows p) ≡ true → row_open (find_row s.rows p) ≤ row_open (find_row (with_row s q f).rows p)
    open_go false i st saw = rw (same_row i) (le_refl (row_open (find_row s.rows p)))
    open_go true i st saw =
        let here : find_row s.rows p ≡ Some r = at (grind (arith, nat_tests, i)) in
        let o = over i st saw in
        let zero_open : row_open (Some r) ≡ 0 = grind (arith, o) in
        rw (here, zero_open) (omega arith)

-- ---- the steps

replied_closes : (b : BranchId) (w : Row) (r : Report) (s : Transaction) (p : ℕ) → find_row_by_id s.rows b ≡ Some w → is_committing s.phase ≡ true → (w.branch.peer.node == p) ≡ true → closes (TxEvent.Reply b (RecState.Done r)) s p ≡ 0 → ⊥
replied_closes b w r s p found o i c = absurd (grind (arith, found, o, i, c))

same_phase : (s t : Transaction) (q : ℕ) → (t ≡ s) ⊎ (t ≡ with_row s q row_dead) → s.phase ≡ t.phase
same_phase s t q (inl i) = ap (λ (u : Transaction). u.phase) (sym i)
same_phase s t q (inr i) = sym (ap (λ (u : Transaction). u.phase) i ∙ row_phase s q row_dead)

open_phase : (s : Transaction) (b : Branch) → is_open_in_commit s b ≡ true → is_committing s.phase ≡ true
open_phase s b h = grind (arith, h)

left_word_ends : (w : DialogueRecord) (p : Phase) → is_left_word w ≡ true → (is_active p || is_rolling p) ≡ true → ends_in_phase w p ≡ true
left_word_ends DialogueRecord.Left p h i = i
left_word_ends DialogueRecord.LeftEnd p h i = i
left_word_ends w p h i = absurd (grind (arith, h))

took_event : (e : TxEvent) (q p : ℕ) (r : DialogueRecord) (s : Transaction) → e ≡ TxEvent.Took q r → ends_in_phase r s.phase ≡ true → (q == p) ≡ true → closes e s p ≡ 0 → ⊥
took_event e q p r s is h i c = took_closes q p r s h i (ap (λ (f : TxEvent). closes f s p) (sym is) ∙ c)

pub fair_turns : (e : TxEvent) (s : Transaction) (p : ℕ) → Turns e s (IsFair e s p)
fair_turns e s p = record {
  still = λ t. fair_outs e s p t [] refl;
  first = λ t u outs a one two. record {
    same = record { key = two.same.key ∙ one.same.key; ids = two.same.ids ∙ one.same.ids };
    facts = λ saw kept. facts_then e s p t (turn outs u) a a.rec one.same (one.facts saw kept) (λ later. two.facts later kept) (inl (refl, refl));
  };
  chain = λ t a f one two none. record {
    same = record { key = two.same.key ∙ one.same.key; ids = two.same.ids ∙ one.same.ids };
    facts = λ saw kept. facts_then e s p t a (f a.next) (and_then a f).rec one.same (one.facts saw kept) (λ later. two.facts later kept) (later_rec a.rec (f a.next).rec none);
  };
  tells = λ t i n. fair_outs e s p t (TxOut.Tell i ∷ []) refl;
  notes_prepare = λ pr cl. fair_mute e s p s (turn (TxOut.Tell Indication.Prepare ∷ []) (record s { told_prepare = true })) refl refl refl refl refl;
  notes_done = λ is. fair_mute e s p s (turn [] (record s { owes = false })) refl refl refl refl refl;
  notes_end = λ q is. fair_mute e s p s (turn (TxOut.Tell (Indication.DeferEnd q) ∷ []) (record s { up_ends = true })) refl refl refl refl refl;
  notes_rollback = λ ro cl. fair_mute e s p s (turn [] (record s { superior_rolled = true })) refl refl refl refl refl;
  defers_end = λ q is. fair_row e s p s (TxOut.Carry q DialogueRecord.DeferEnd ∷ []) q (λ r. record r { ends = true }) refl (λ r. refl) (λ r. refl) (λ r. refl) (λ r. refl);
  defers_grant = λ q is. fair_outs e s p s (TxOut.Carry q DialogueRecord.DeferGrant ∷ []) refl;
  prepares = λ q. fair_row e s p s (TxOut.Carry q DialogueRecord.Prepare ∷ []) q (λ r. record r { branch = record r.branch { prepared = true } }) refl (λ r. refl) (λ r. refl) (λ r. refl) (λ r. refl);
  asks = λ is act asked told. fair_ask e s p s;
  asks_again = fair_outs e s p s (retried s) (retried_spoken p s);
  decides = λ o is ready. fair_mute e s p s (decide o s) refl refl refl refl refl;
  aborts = λ q is. fair_lost e s p q (TxOut.Carry q DialogueRecord.UAbort ∷ TxOut.Close q ∷ []) refl (λ st. not_same q p st);
  loses_arc = λ q gone. fair_loses e s p q gone;
  closes_left = λ q is. fair_closes_left e s p q;
  gives_up = λ q r is c found. fair_gives_up e s p q r found;
  counts = λ q is act row. fair_count e s p q s;
  ends_done = λ q r is c row. fair_end e s p q r s (λ i z. took_event e q p (DialogueRecord.Done r) s is c i z);
  ends_replied = λ b w r is found o. fair_end e s p w.branch.peer.node r s (λ i z. replied_closes b w r s p found (open_phase s w.branch o) i (ap (λ (f : TxEvent). closes f s p) (sym is) ∙ z));
  ends_rolled = λ q r is c row. fair_end e s p q r s (λ i z. took_event e q p (DialogueRecord.RolledBack r) s is c i z);
  leaves_below = λ q w t is left at act. fair_left e s p q t (λ i z. took_event e q p w s is (left_word_ends w s.phase left (ap (λ (v : Phase). is_active v || is_rolling v) (same_phase s t q at) ∙ (rw act refl))) i z);
  leaves_rolling = λ q w t is left at c. fair_end e s p q Report.None t (λ i z. took_event e q p w s is (left_word_ends w s.phase left (ap (λ (v : Phase). is_active v || is_rolling v) (same_phase s t q at) ∙ (rw c (grind arith)))) i z);
  votes = λ t act asked all under. fair_vote e s p t act;
  orders_root = λ t act asked all root. fair_order e s p t (grind (arith, act));
  orders_ready = λ ready is. fair_order e s p s (grind (arith, ready));
  rolls = λ t asked f ok. fair_rolls e s p t asked f (grind (arith, ok));
  completes_commit = λ t c. fair_commit e s p t c;
  completes_rollback = λ t c. fair_rollback e s p t c;
  leaves = λ is act under asked all. fair_leave e s p s act all;
}
  where
    later_rec : (a b : Option LogRec) → (a ≡ None) ⊎ (b ≡ None) → IsLater a b (elim b as (λ _. Option LogRec) [ None ↦ a | Some r ↦ Some r ])
    later_rec a None (inl i) = inl (i, i)
    later_rec a (Some r) (inl i) = inl (i, refl)
    later_rec a None (inr i) = inr (refl, refl)
    later_rec a (Some r) (inr i) = absurd (cc (i))

-- every event of a transaction
pub fair_turn : (e : TxEvent) (s : Transaction) (p : ℕ) → IsPut e s → IsFair e s p s (transacted e s)
fair_turn e s p put = every_turn e s (IsFair e s p) (fair_turns e s p) put
