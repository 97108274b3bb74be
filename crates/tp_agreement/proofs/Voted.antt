-- A record that binds leaves a transaction bound, and each of its branches counted or left.
use Rattle.std.proofs.Common.{◌≡◌, ℕ, Bool, true, false, refl, ap, sym, subst, ◌∙◌, arith, Option, Some, None, List, [], ◌&&◌, ◌||◌, ◌==◌, not}
use Rattle.tp_logrec.specs.declared.record.LogRec.{LogRec}
use Rattle.tp_model.specs.declared.arc.Phase.{Phase}
use Rattle.tp_model.specs.declared.transaction.TxEvent.{TxEvent}
use Rattle.tp_model.specs.declared.transaction.TxOut.{TxOut}
use Rattle.tp_model.specs.Parts.{Branch}
use Rattle.tp_model.specs.Dialogues.{is_active, is_ready, is_rolling}
use Rattle.tp_model.specs.Transactions.{Row, Transaction, Turn, turn, and_then, before, is_under_at, find_row, with_row, with_arc_lost, all_settled, all_done, complete_commit, complete_rollback, rollback_rec, begin_rolling, order, leave, ask_commit, count_branch, end_branch, branch_left, transacted}
use Rattle.tp_steps.specs.Turns.{vote, row_dead, shut_given_up, Turns}
use Rattle.tp_steps.specs.Moves.{IsPut}
use Rattle.tp_steps.proofs.words.Fair.{row_phase, row_with}
use Rattle.tp_steps.proofs.every.EveryTurn.{every_turn}
use Rattle.tp_agreement.proofs.Settled.{is_bound_phase, all_row}
use Rattle.tp_steps.proofs.lemmas.Options.{some_same}

abbrev pub is_voted_branch : Branch → Bool
is_voted_branch b = b.counted || b.left

abbrev pub AllVoted : Transaction → Type 0
AllVoted t = is_bound_phase t.phase ≡ true → (p : ℕ) (r : Row) → find_row t.rows p ≡ Some r → is_voted_branch r.branch ≡ true

abbrev pub binds_opt : Option LogRec → Bool
binds_opt None = false
binds_opt (Some (LogRec.Ready n k s cs)) = true
binds_opt (Some (LogRec.Commit n k s cs)) = true
binds_opt (Some (LogRec.Boot n)) = false
binds_opt (Some (LogRec.Heuristic n k u)) = false
binds_opt (Some (LogRec.Damage n k s u r cs)) = false
binds_opt (Some (LogRec.End n k u)) = false

pub record IsBinding (t : Transaction) (a : Turn) : Type 0 where
  pub voted : AllVoted t → AllVoted a.next
  pub rec : binds_opt a.rec ≡ true → is_bound_phase a.next.phase ≡ true
  pub stays : a.rec ≡ None → is_bound_phase t.phase ≡ true → is_bound_phase a.next.phase ≡ true

-- neither phase nor branches change
binding_same : (t : Transaction) (outs : List TxOut) (u : Transaction) → u.phase ≡ t.phase → u.rows ≡ t.rows → IsBinding t (turn outs u)
binding_same t outs u phase rows = record {
  voted = λ old bound p r h. old (ap is_bound_phase (sym phase) ∙ bound) p r (ap (λ (rs : List Row). find_row rs p) (sym rows) ∙ h);
  rec = λ h. absurd (cc (h));
  stays = λ n b. ap is_bound_phase phase ∙ b;
}

-- one row changes
voted_row : (t u : Transaction) (q : ℕ) (f : Row → Row) → u.rows ≡ (with_row t q f).rows → u.phase ≡ t.phase → ((r : Row) → (f r).branch.peer.node ≡ r.branch.peer.node)
    → ((r : Row) → is_voted_branch r.branch ≡ true → is_voted_branch (f r).branch ≡ true) → AllVoted t → AllVoted u
voted_row t u q f is phase peer keeps old bound p n h = go (q == p) refl (sym (ap (λ (rs : List Row). find_row rs p) is) ∙ h)
  where
    was : is_bound_phase t.phase ≡ true
    was = ap is_bound_phase (sym phase) ∙ bound

    go : (b : Bool) → (q == p) ≡ b → find_row (with_row t q f).rows p ≡ Some n → is_voted_branch n.branch ≡ true
    go false i m = old was p n (sym (row_with t q f p peer ∙ rw i refl) ∙ m)
    go true i m = on (find_row t.rows p) refl
      where
        on : (o : Option Row) → find_row t.rows p ≡ o → is_voted_branch n.branch ≡ true
        on None j = let none : find_row (with_row t q f).rows p ≡ None = row_with t q f p peer ∙ rw (i, j) refl in absurd (cc (none, m))
        on (Some r) j =
            let now : find_row (with_row t q f).rows p ≡ Some (f r) = row_with t q f p peer ∙ rw (i, j) refl in
            let same : f r ≡ n = some_same (f r) n (sym now ∙ m) in
            subst (λ (v : Row). is_voted_branch v.branch ≡ true) same (keeps r (old was p r j))

binding_row : (t : Transaction) (a : Turn) (q : ℕ) (f : Row → Row) → a.rec ≡ None → a.next ≡ with_row t q f → ((r : Row) → (f r).branch.peer.node ≡ r.branch.peer.node)
    → ((r : Row) → is_voted_branch r.branch ≡ true → is_voted_branch (f r).branch ≡ true) → IsBinding t a
binding_row t a q f none is peer keeps = record {
  voted = voted_row t a.next q f (ap (λ (u : Transaction). u.rows) is) phase peer keeps;
  rec = λ h. absurd (cc (h, ap binds_opt none));
  stays = λ n b. ap is_bound_phase phase ∙ b;
}
  where
    phase : a.next.phase ≡ t.phase
    phase = ap (λ (u : Transaction). u.phase) is ∙ row_phase t q f

binding_lost : (t : Transaction) (outs : List TxOut) (q : ℕ) → IsBinding t (turn outs (with_arc_lost t q))
binding_lost t outs q = go (is_under_at t.key q) refl
  where
    go : (b : Bool) → is_under_at t.key q ≡ b → IsBinding t (turn outs (with_arc_lost t q))
    go true i = binding_same t outs (with_arc_lost t q) (rw (i, with_arc_lost) refl) (rw (i, with_arc_lost) refl)
    go false i = binding_row t (turn outs (with_arc_lost t q)) q row_dead refl (rw (i, with_arc_lost) refl) (λ r. refl) (λ r h. h)

-- from a phase that binds nothing
loose_from : (t : Transaction) (a : Turn) → is_bound_phase t.phase ≡ false → AllVoted a.next → (binds_opt a.rec ≡ true → is_bound_phase a.next.phase ≡ true) → IsBinding t a
loose_from t a h all rec = record { voted = λ old. all; rec = rec; stays = λ n b. absurd (cc (h, b)) }

active_loose : (v : Phase) → is_active v ≡ true → is_bound_phase v ≡ false
active_loose v h = grind (arith, h)

rolling_loose : (v : Phase) → is_rolling v ≡ true → is_bound_phase v ≡ false
rolling_loose v h = grind (arith, h)

binding_commit : (t : Transaction) → IsBinding t (complete_commit t)
unfolding complete_commit
binding_commit t = go (not t.owes && all_done t.rows) refl
  where
    go : (b : Bool) → (not t.owes && all_done t.rows) ≡ b → IsBinding t (complete_commit t)
    go false i =
        let next : (complete_commit t).next ≡ t = grind (arith, i) in
        let rec : (complete_commit t).rec ≡ None = grind (arith, i) in
        record {
          voted = λ old. subst AllVoted (sym next) old;
          rec = λ h. absurd (cc (h, ap binds_opt rec));
          stays = λ n b. ap (λ (u : Transaction). is_bound_phase u.phase) next ∙ b;
        }
    go true i =
        let off : is_bound_phase (complete_commit t).next.phase ≡ false = grind (arith, i) in
        let none : binds_opt (complete_commit t).rec ≡ false = grind (arith, i) in
        record {
          voted = λ old b. absurd (cc (off, b));
          rec = λ h. absurd (cc (h, none));
          stays = λ n b. absurd (grind (arith, n, i));
        }

binding_rollback : (t : Transaction) → is_rolling t.phase ≡ true → IsBinding t (complete_rollback t)
unfolding complete_rollback
binding_rollback t roll = loose_from t (complete_rollback t) (rolling_loose t.phase roll) (λ b. absurd (cc (off, b))) (λ h. absurd (cc (h, none)))
  where
    off : is_bound_phase (complete_rollback t).next.phase ≡ false
    off = grind (arith, roll)

    none : binds_opt (complete_rollback t).rec ≡ false
    none = grind arith

binding_rolling : (asked : Bool) (t : Transaction) → (is_active t.phase || is_ready t.phase) ≡ true → IsBinding t (begin_rolling asked t)
unfolding begin_rolling
binding_rolling asked t open_phase = record {
  voted = λ old b. absurd (cc (b));
  rec = λ h. absurd (cc (h, none));
  stays = λ n b. absurd (grind (arith, n, b, open_phase));
}
  where
    none : binds_opt (rollback_rec t) ≡ false
    none = grind arith

binding_order : (t : Transaction) → AllVoted (record t { phase = Phase.Committing }) → IsBinding t (order t)
unfolding order
binding_order t all = record { voted = λ old. all; rec = λ h. refl; stays = λ n b. refl }

binding_ready : (t : Transaction) → is_ready t.phase ≡ true → IsBinding t (order t)
unfolding order
binding_ready t ready = record { voted = λ old b p r h. old (grind (arith, ready)) p r h; rec = λ h. refl; stays = λ n b. refl }

binding_leave : (t : Transaction) → is_active t.phase ≡ true → IsBinding t (leave t)
unfolding leave
binding_leave t act = loose_from t (leave t) (active_loose t.phase act) (λ b. absurd (cc (b))) (λ h. absurd (cc (h)))

binding_ask : (t : Transaction) → is_active t.phase ≡ true → IsBinding t (ask_commit t)
unfolding ask_commit
binding_ask t act = loose_from t (ask_commit t) (active_loose t.phase act) (λ b. absurd (cc (active_loose t.phase act, b))) (λ h. absurd (cc (h)))

binding_count : (q : ℕ) (t : Transaction) → IsBinding t (count_branch q t)
unfolding count_branch
binding_count q t = binding_row t (count_branch q t) q (λ r. record r { branch = record r.branch { counted = true } }) refl refl (λ r. refl) (λ r h. refl)

binding_end : (q : ℕ) (x : _) (t : Transaction) → IsBinding t (end_branch q x t)
unfolding end_branch
binding_end q x t = binding_row t (end_branch q x t) q (λ r. record r { branch = record r.branch { ended = true; report = x } }) refl refl (λ r. refl) (λ r h. h)

binding_left : (q : ℕ) (t : Transaction) → IsBinding t (branch_left q t)
unfolding branch_left
binding_left q t = binding_row t (branch_left q t) q (λ r. record r { branch = record r.branch { left = true } }) refl refl (λ r. refl) (λ r h. grind arith)

binding_first : (t : Transaction) (outs : List TxOut) (u : Transaction) (a : Turn) → IsBinding t (turn outs u) → IsBinding u a → IsBinding t (before outs a)
binding_first t outs u a one two = record { voted = λ old. two.voted (one.voted old); rec = two.rec; stays = λ n b. two.stays n (one.stays refl b) }

binding_then : (t : Transaction) (a : Turn) (f : Transaction → Turn) → IsBinding t a → IsBinding a.next (f a.next) → IsBinding t (and_then a f)
binding_then t a f one two = record {
  voted = λ old. two.voted (one.voted old);
  rec = rec (f a.next).rec refl;
  stays = stays (f a.next).rec refl;
}
  where
    rec : (r : Option LogRec) → (f a.next).rec ≡ r → binds_opt (elim r as (λ _. Option LogRec) [ None ↦ a.rec | Some l ↦ Some l ]) ≡ true → is_bound_phase (f a.next).next.phase ≡ true
    rec None i h = two.stays i (one.rec h)
    rec (Some l) i h = two.rec (ap binds_opt i ∙ h)

    stays : (r : Option LogRec) → (f a.next).rec ≡ r → elim r as (λ _. Option LogRec) [ None ↦ a.rec | Some l ↦ Some l ] ≡ None → is_bound_phase t.phase ≡ true → is_bound_phase (f a.next).next.phase ≡ true
    stays None i h b = two.stays i (one.stays h b)
    stays (Some l) i h b = absurd (cc (h))

voted_all : (t : Transaction) → all_settled t.rows ≡ true → AllVoted t
voted_all t all bound p r h = all_row t.rows p r all h

binding_turns : (e : TxEvent) (s : Transaction) → Turns e s IsBinding
binding_turns e s = record {
  still = λ t. binding_same t [] t refl refl;
  first = λ t u outs a one two. binding_first t outs u a one two;
  chain = λ t a f one two none. binding_then t a f one two;
  tells = λ t i n. binding_same t _ t refl refl;
  notes_prepare = λ pr h. binding_same s _ _ refl refl;
  notes_done = λ is. binding_same s _ _ refl refl;
  notes_end = λ q is. binding_same s _ _ refl refl;
  notes_rollback = λ ro h. binding_same s _ _ refl refl;
  defers_end = λ q is. binding_row s _ q (λ r. record r { ends = true }) refl refl (λ r. refl) (λ r h. h);
  defers_grant = λ q is. binding_same s _ _ refl refl;
  prepares = λ q. binding_row s _ q (λ r. record r { branch = record r.branch { prepared = true } }) refl refl (λ r. refl) (λ r h. h);
  asks = λ is act asked told. binding_ask s act;
  asks_again = binding_same s _ _ refl refl;
  decides = λ o is ready. record { voted = λ old. old; rec = λ h. absurd (cc (h)); stays = λ n b. b };
  aborts = λ q is. binding_lost s _ q;
  loses_arc = λ q gone. binding_lost s _ q;
  closes_left = λ q is. binding_row s _ q row_dead refl refl (λ r. refl) (λ r h. h);
  gives_up = λ q r is c found. binding_row s (shut_given_up q r s) q (λ w. record w { branch = record w.branch { given_up = true }; live = false; ends = false }) refl refl (λ w. refl) (λ w h. h);
  counts = λ q is act row. binding_count q s;
  ends_done = λ q r is c row. binding_end q r s;
  ends_replied = λ b w r is found o. binding_end w.branch.peer.node r s;
  ends_rolled = λ q r is c row. binding_end q r s;
  leaves_below = λ q w t is left at act. binding_left q t;
  leaves_rolling = λ q w t is left at c. binding_end q _ t;
  votes = λ t act asked all under. loose_from t (vote t) (active_loose t.phase act) (voted_all (vote t).next all) (λ h. refl);
  orders_root = λ t act asked all root. binding_order t (voted_all (record t { phase = Phase.Committing }) all);
  orders_ready = λ ready is. binding_ready s ready;
  rolls = λ t asked f ok. binding_rolling asked t ok;
  completes_commit = λ t c. binding_commit t;
  completes_rollback = λ t c. binding_rollback t c;
  leaves = λ is act under asked all. binding_leave s act;
}

pub binding_turn : (e : TxEvent) (s : Transaction) → IsPut e s → IsBinding s (transacted e s)
binding_turn e s put = every_turn e s IsBinding (binding_turns e s) put
