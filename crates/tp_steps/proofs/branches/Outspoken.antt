-- What a transaction decides, it says: an instance of the steps of a turn.
use Rattle.std.proofs.Common.{if◌then◌else◌, ◌≡◌, ◌⊎◌, inl, inr, ℕ, Bool, true, false, refl, ap, sym, subst, ◌∙◌, arith, Option, Some, None, List, [], ◌∷◌, ◌++◌, ◌&&◌, ◌||◌, ◌==◌, not}
use Rattle.std.proofs.lemmas.Bool.Decides.{nat_tests}
use Rattle.tp_names.specs.declared.outcome.Report.{Report}
use Rattle.tp_names.specs.declared.identifiers.Addr.{Addr}
use Rattle.tp_names.specs.Reports.{join}
use Rattle.tp_records.specs.declared.indication.Indication.{Indication}
use Rattle.tp_records.specs.declared.dialogue.DialogueRecord.{DialogueRecord}
use Rattle.tp_records.specs.declared.peer.PeerRecord.{PeerRecord}
use Rattle.tp_records.specs.declared.peer.RecState.{RecState}
use Rattle.tp_model.specs.declared.arc.Phase.{Phase}
use Rattle.tp_model.specs.declared.transaction.TxEvent.{TxEvent}
use Rattle.tp_model.specs.declared.transaction.TxOut.{TxOut}
use Rattle.tp_model.specs.Parts.{Key, Root, Under}
use Rattle.tp_model.specs.Dialogues.{is_nil, is_active, is_ready, is_committing, is_rolling}
use Rattle.tp_model.specs.Transactions.{Row, Transaction, Turn, turn, and_then, before, aaid_of, is_under_at, find_row, with_row, with_arc_lost, all_done, reports_of, own_damage, carry_up, carry_down, forgets, done_up, ends_down, end_up, complete_commit, complete_rollback, rollback_rec, begin_rolling, order, ask_commit, leave, count_branch, end_branch, branch_left, transacted}
use Rattle.tp_steps.specs.Turns.{Turns, vote, row_dead}
use Rattle.tp_steps.specs.Moves.{IsPut, IsRecoveryIn}
use Rattle.tp_steps.specs.Passages.{is_commit_rec}
use Rattle.tp_steps.specs.Outspoken.{IsCarriedIn, IsToldIn, IsDoneUp, IsCompleted, is_ready_rec, is_there, IsOutspoken, SaysLeft}
use Rattle.tp_steps.proofs.words.Fair.{row_phase, row_with, row_key, row_up}
use Rattle.tp_steps.proofs.words.Leaves.{prepare_row}
use Rattle.tp_steps.proofs.log.Passed.{later_rec}
use Rattle.tp_steps.proofs.every.EveryTurn.{every_turn}

-- ---- outputs after and before others

carried_first : (xs ys : List TxOut) (p : ℕ) (r : DialogueRecord) → IsCarriedIn xs p r → IsCarriedIn (xs ++ ys) p r
carried_first [] ys p r h = absurd h
carried_first (TxOut.Tell i ∷ xs) ys p r h = carried_first xs ys p r h
carried_first (TxOut.Carry q w ∷ xs) ys p r (inl h) = inl h
carried_first (TxOut.Carry q w ∷ xs) ys p r (inr h) = inr (carried_first xs ys p r h)
carried_first (TxOut.Shut q ∷ xs) ys p r h = carried_first xs ys p r h
carried_first (TxOut.Recovery a w ∷ xs) ys p r h = carried_first xs ys p r h
carried_first (TxOut.Close q ∷ xs) ys p r h = carried_first xs ys p r h

carried_later : (xs ys : List TxOut) (p : ℕ) (r : DialogueRecord) → IsCarriedIn ys p r → IsCarriedIn (xs ++ ys) p r
carried_later [] ys p r h = h
carried_later (TxOut.Tell i ∷ xs) ys p r h = carried_later xs ys p r h
carried_later (TxOut.Carry q w ∷ xs) ys p r h = inr (carried_later xs ys p r h)
carried_later (TxOut.Shut q ∷ xs) ys p r h = carried_later xs ys p r h
carried_later (TxOut.Recovery a w ∷ xs) ys p r h = carried_later xs ys p r h
carried_later (TxOut.Close q ∷ xs) ys p r h = carried_later xs ys p r h

told_first : (xs ys : List TxOut) (i : Indication) → IsToldIn xs i → IsToldIn (xs ++ ys) i
told_first [] ys i h = absurd h
told_first (TxOut.Tell j ∷ xs) ys i (inl h) = inl h
told_first (TxOut.Tell j ∷ xs) ys i (inr h) = inr (told_first xs ys i h)
told_first (TxOut.Carry q w ∷ xs) ys i h = told_first xs ys i h
told_first (TxOut.Shut q ∷ xs) ys i h = told_first xs ys i h
told_first (TxOut.Recovery a w ∷ xs) ys i h = told_first xs ys i h
told_first (TxOut.Close q ∷ xs) ys i h = told_first xs ys i h

told_later : (xs ys : List TxOut) (i : Indication) → IsToldIn ys i → IsToldIn (xs ++ ys) i
told_later [] ys i h = h
told_later (TxOut.Tell j ∷ xs) ys i h = inr (told_later xs ys i h)
told_later (TxOut.Carry q w ∷ xs) ys i h = told_later xs ys i h
told_later (TxOut.Shut q ∷ xs) ys i h = told_later xs ys i h
told_later (TxOut.Recovery a w ∷ xs) ys i h = told_later xs ys i h
told_later (TxOut.Close q ∷ xs) ys i h = told_later xs ys i h

pub recovery_first : (xs ys : List TxOut) (a : Addr) (r : PeerRecord) → IsRecoveryIn xs a r → IsRecoveryIn (xs ++ ys) a r
recovery_first [] ys a r h = absurd h
recovery_first (TxOut.Tell i ∷ xs) ys a r h = recovery_first xs ys a r h
recovery_first (TxOut.Carry q w ∷ xs) ys a r h = recovery_first xs ys a r h
recovery_first (TxOut.Shut q ∷ xs) ys a r h = recovery_first xs ys a r h
recovery_first (TxOut.Recovery b w ∷ xs) ys a r (inl h) = inl h
recovery_first (TxOut.Recovery b w ∷ xs) ys a r (inr h) = inr (recovery_first xs ys a r h)
recovery_first (TxOut.Close q ∷ xs) ys a r h = recovery_first xs ys a r h

pub recovery_later : (xs ys : List TxOut) (a : Addr) (r : PeerRecord) → IsRecoveryIn ys a r → IsRecoveryIn (xs ++ ys) a r
recovery_later [] ys a r h = h
recovery_later (TxOut.Tell i ∷ xs) ys a r h = recovery_later xs ys a r h
recovery_later (TxOut.Carry q w ∷ xs) ys a r h = recovery_later xs ys a r h
recovery_later (TxOut.Shut q ∷ xs) ys a r h = recovery_later xs ys a r h
recovery_later (TxOut.Recovery b w ∷ xs) ys a r h = inr (recovery_later xs ys a r h)
recovery_later (TxOut.Close q ∷ xs) ys a r h = recovery_later xs ys a r h

done_first : (k : Key) (r : Report) (xs ys : List TxOut) → IsDoneUp k r xs → IsDoneUp k r (xs ++ ys)
done_first (Root t) r xs ys h = tt
done_first (Under t b a) r xs ys (inl h) = inl (carried_first xs ys a.node (DialogueRecord.Done r) h)
done_first (Under t b a) r xs ys (inr h) = inr (recovery_first xs ys a (PeerRecord.RecReply t b (RecState.Done r)) h)

done_later : (k : Key) (r : Report) (xs ys : List TxOut) → IsDoneUp k r ys → IsDoneUp k r (xs ++ ys)
done_later (Root t) r xs ys h = tt
done_later (Under t b a) r xs ys (inl h) = inl (carried_later xs ys a.node (DialogueRecord.Done r) h)
done_later (Under t b a) r xs ys (inr h) = inr (recovery_later xs ys a (PeerRecord.RecReply t b (RecState.Done r)) h)

completed_first : (k : Key) (xs ys : List TxOut) → IsCompleted k xs → IsCompleted k (xs ++ ys)
completed_first k xs ys c = (c.0, told_first xs ys (Indication.CommitComplete c.0) c.1, done_first k c.0 xs ys c.2)

completed_later : (k : Key) (xs ys : List TxOut) → IsCompleted k ys → IsCompleted k (xs ++ ys)
completed_later k xs ys c = (c.0, told_later xs ys (Indication.CommitComplete c.0) c.1, done_later k c.0 xs ys c.2)

-- ---- what a rule writes out

up_says : (t : Transaction) (w : DialogueRecord) (p : ℕ) → is_under_at t.key p ≡ true → t.up ≡ true → IsCarriedIn (carry_up t w) p w
up_says t w p under up = go t.key refl
  where
    go : (k : Key) → t.key ≡ k → IsCarriedIn (carry_up t w) p w
    go (Root a) i = absurd (grind (arith, under, i))
    go (Under a b s) i = let at : s.node ≡ p = grind (arith, nat_tests, under, i) in rw (i, up, carry_up) (inl (at, refl))

down_says : (rows : List Row) (p : ℕ) (w : DialogueRecord) → elim (find_row rows p) as (λ _. Bool) [ None ↦ false | Some r ↦ r.live && not r.branch.left ] ≡ true → IsCarriedIn (carry_down rows w) p w
down_says [] p w h = absurd (cc (h))
down_says (x ∷ rows) p w h = go (x.branch.peer.node == p) (x.live && not x.branch.left) refl refl (down_says rows p w)
  where
    go : (a b : Bool) → (x.branch.peer.node == p) ≡ a → (x.live && not x.branch.left) ≡ b
        → (elim (find_row rows p) as (λ _. Bool) [ None ↦ false | Some r ↦ r.live && not r.branch.left ] ≡ true → IsCarriedIn (carry_down rows w) p w) → IsCarriedIn (carry_down (x ∷ rows) w) p w
    go true true i j rest = let at : x.branch.peer.node ≡ p = grind (arith, nat_tests, i) in rw (j, carry_down) (inl (at, refl))
    go true false i j rest = absurd (grind (arith, h, i, j))
    go false true i j rest = let more : elim (find_row rows p) as (λ _. Bool) [ None ↦ false | Some r ↦ r.live && not r.branch.left ] ≡ true = grind (arith, h, i) in rw (j, carry_down) (inr (rest more))
    go false false i j rest = let more : elim (find_row rows p) as (λ _. Bool) [ None ↦ false | Some r ↦ r.live && not r.branch.left ] ≡ true = grind (arith, h, i) in rw (j, carry_down) (rest more)

done_says : (t : Transaction) (r : Report) → IsDoneUp t.key r (done_up t r)
done_says t r = go t.key t.up refl refl
  where
    go : (k : Key) (b : Bool) → t.key ≡ k → t.up ≡ b → IsDoneUp t.key r (done_up t r)
    go (Root a) b i j = rw (i, IsDoneUp) tt
    go (Under a b s) true i j = rw (i, j, done_up) (inl (inl (refl, refl)))
    go (Under a b s) false i j = rw (i, j, done_up) (inr (inl (refl, refl)))

-- ---- rules that log nothing and complete nothing

clash : (h : Phase) → is_committing h ≡ true → is_nil h ≡ true → ⊥
clash h c n = grind (arith, c, n)

plain : (t : Transaction) (a : Turn) → a.rec ≡ None → a.next.key ≡ t.key → a.next.phase ≡ t.phase → (a.next.up ≡ true → t.up ≡ true) → ((p : ℕ) → is_there p a.next ≡ true → is_there p t ≡ true) → IsOutspoken t a
plain t a none key phase up there = record {
  key = key;
  up = up;
  there = there;
  moves = λ c. grind (arith, phase, c);
  over = λ n. ap is_nil phase ∙ n;
  votes = λ h p under live. absurd (cc (h, ap is_ready_rec none));
  orders = λ h p is. absurd (cc (h, ap is_commit_rec none));
  completes = λ c n. absurd (clash t.phase c (ap is_nil (sym phase) ∙ n));
}

there_row : (t : Transaction) (q : ℕ) (g : Row → Row) → ((r : Row) → (g r).branch.peer.node ≡ r.branch.peer.node) → ((r : Row) → ((g r).live && not (g r).branch.left) ≡ true → (r.live && not r.branch.left) ≡ true)
    → (p : ℕ) → is_there p (with_row t q g) ≡ true → is_there p t ≡ true
there_row t q g peer falls p h = go (q == p) refl (find_row t.rows p) refl
  where
    now : is_there p (with_row t q g) ≡ elim (if q == p then elim (find_row t.rows p) as (λ _. Option Row) [ None ↦ None | Some r ↦ Some (g r) ] else find_row t.rows p) as (λ _. Bool) [ None ↦ false | Some r ↦ r.live && not r.branch.left ]
    now = ap (λ (o : Option Row). elim o as (λ _. Bool) [ None ↦ false | Some r ↦ r.live && not r.branch.left ]) (row_with t q g p peer)

    was : elim (if q == p then elim (find_row t.rows p) as (λ _. Option Row) [ None ↦ None | Some r ↦ Some (g r) ] else find_row t.rows p) as (λ _. Bool) [ None ↦ false | Some r ↦ r.live && not r.branch.left ] ≡ true
    was = sym now ∙ h

    go : (b : Bool) → (q == p) ≡ b → (o : Option Row) → find_row t.rows p ≡ o → is_there p t ≡ true
    go false i o j = rw i at was
    go true i None j = absurd (grind (arith, was, i, j))
    go true i (Some r) j =
        let old : ((g r).live && not (g r).branch.left) ≡ true = rw (i, j) at was in
        rw (j, is_there) (falls r old)

plain_row : (t : Transaction) (outs : List TxOut) (q : ℕ) (g : Row → Row) → ((r : Row) → (g r).branch.peer.node ≡ r.branch.peer.node) → ((r : Row) → ((g r).live && not (g r).branch.left) ≡ true → (r.live && not r.branch.left) ≡ true)
    → IsOutspoken t (turn outs (with_row t q g))
plain_row t outs q g peer falls = plain t (turn outs (with_row t q g)) refl (row_key t q g) (row_phase t q g) (λ h. sym (row_up t q g) ∙ h) (there_row t q g peer falls)

plain_lost : (t : Transaction) (outs : List TxOut) (q : ℕ) → IsOutspoken t (turn outs (with_arc_lost t q))
plain_lost t outs q = go (is_under_at t.key q) refl
  where
    go : (b : Bool) → is_under_at t.key q ≡ b → IsOutspoken t (turn outs (with_arc_lost t q))
    go true i = rw (i, with_arc_lost) (plain t (turn outs (record t { up = false; up_ends = false })) refl refl refl (λ h. absurd (cc (h))) (λ p h. h))
    go false i = rw (i, with_arc_lost) (plain_row t outs q row_dead (λ r. refl) (λ r h. absurd (cc (h))))

plain_still : (t : Transaction) (outs : List TxOut) → IsOutspoken t (turn outs t)
plain_still t outs = plain t (turn outs t) refl refl refl (λ h. h) (λ p h. h)

there_prepared : (t : Transaction) (p : ℕ) → is_there p (ask_commit t).next ≡ true → is_there p t ≡ true
unfolding ask_commit
there_prepared t p h = go (find_row t.rows p) refl
  where
    go : (o : Option Row) → find_row t.rows p ≡ o → is_there p t ≡ true
    go None i = absurd (grind (arith, h, prepare_row p t.rows, i))
    go (Some r) i =
        let now : find_row (ask_commit t).next.rows p ≡ Some (record r { branch = record r.branch { prepared = true } }) = prepare_row p t.rows ∙ rw i refl in
        let is : (r.live && not r.branch.left) ≡ true = sym (ap (λ (o : Option Row). elim o as (λ _. Bool) [ None ↦ false | Some w ↦ w.live && not w.branch.left ]) now) ∙ h in
        rw (i, is_there) is

plain_ask : (t : Transaction) → IsOutspoken t (ask_commit t)
unfolding ask_commit
plain_ask t = plain t (ask_commit t) refl refl refl (λ h. h) (there_prepared t)

plain_count : (t : Transaction) (q : ℕ) → IsOutspoken t (count_branch q t)
unfolding count_branch
plain_count t q = plain_row t (count_branch q t).outs q (λ r. record r { branch = record r.branch { counted = true } }) (λ r. refl) (λ r h. h)

plain_end : (t : Transaction) (q : ℕ) (x : Report) → IsOutspoken t (end_branch q x t)
unfolding end_branch
plain_end t q x = plain_row t (end_branch q x t).outs q (λ r. record r { branch = record r.branch { ended = true; report = x } }) (λ r. refl) (λ r h. h)

plain_left : (t : Transaction) (q : ℕ) → IsOutspoken t (branch_left q t)
unfolding branch_left
plain_left t q = plain_row t (branch_left q t).outs q (λ r. record r { branch = record r.branch { left = true } }) (λ r. refl) (λ r h. absurd (grind (arith, h)))

-- ---- rules that decide

speaks_vote : (t : Transaction) → is_active t.phase ≡ true → IsOutspoken t (vote t)
speaks_vote t act = record {
  key = refl;
  up = λ h. h;
  there = λ p h. h;
  moves = λ c. absurd (grind (arith, act, c));
  over = λ n. absurd (grind (arith, act, n));
  votes = λ h p under live. up_says t DialogueRecord.Ready p under live;
  orders = λ h p is. absurd (grind (arith, h));
  completes = λ c n. absurd (cc (n));
}

speaks_order : (t : Transaction) → (is_active t.phase || is_ready t.phase) ≡ true → IsOutspoken t (order t)
unfolding order
speaks_order t early = record {
  key = refl;
  up = λ h. h;
  there = λ p h. h;
  moves = λ c. refl;
  over = λ n. absurd (grind (arith, early, n));
  votes = λ h p under live. absurd (cc (h));
  orders = λ h p is. carried_first (carry_down t.rows DialogueRecord.Commit) (TxOut.Tell Indication.Commit ∷ []) p DialogueRecord.Commit (down_says t.rows p DialogueRecord.Commit is);
  completes = λ c n. absurd (cc (n));
}

speaks_rolling : (t : Transaction) (asked : Bool) → (is_active t.phase || is_ready t.phase) ≡ true → IsOutspoken t (begin_rolling asked t)
unfolding begin_rolling
speaks_rolling t asked ok = record {
  key = refl;
  up = λ h. h;
  there = λ p h. h;
  moves = λ c. absurd (grind (arith, ok, c));
  over = λ n. absurd (grind (arith, ok, n));
  votes = λ h p under live. absurd (cc (h, none));
  orders = λ h p is. absurd (cc (h, nor));
  completes = λ c n. absurd (cc (n));
}
  where
    none : is_ready_rec (rollback_rec t) ≡ false
    none = grind arith

    nor : is_commit_rec (rollback_rec t) ≡ false
    nor = grind arith

speaks_leave : (t : Transaction) → is_active t.phase ≡ true → IsOutspoken t (leave t)
unfolding leave
speaks_leave t act = record {
  key = refl;
  up = λ h. h;
  there = λ p h. h;
  moves = λ c. absurd (grind (arith, act, c));
  over = λ n. absurd (grind (arith, act, n));
  votes = λ h p under live. absurd (cc (h));
  orders = λ h p is. absurd (cc (h));
  completes = λ c n. absurd (grind (arith, act, c));
}

speaks_rollback : (t : Transaction) → is_rolling t.phase ≡ true → IsOutspoken t (complete_rollback t)
unfolding complete_rollback
speaks_rollback t roll = record {
  key = grind arith;
  up = λ h. grind (arith, h);
  there = λ p h. ap (λ (rs : List Row). elim (find_row rs p) as (λ _. Bool) [ None ↦ false | Some r ↦ r.live && not r.branch.left ]) (sym rows) ∙ h;
  moves = λ c. absurd (grind (arith, roll, c));
  over = λ n. absurd (grind (arith, roll, n));
  votes = λ h p under live. absurd (cc (h, none));
  orders = λ h p is. absurd (cc (h, nor));
  completes = λ c n. absurd (grind (arith, roll, c));
}
  where
    rows : (complete_rollback t).next.rows ≡ t.rows
    rows = grind arith

    none : is_ready_rec (complete_rollback t).rec ≡ false
    none = grind arith

    nor : is_commit_rec (complete_rollback t).rec ≡ false
    nor = grind arith

speaks_commit : (t : Transaction) → is_committing t.phase ≡ true → IsOutspoken t (complete_commit t)
unfolding complete_commit
speaks_commit t c = go (not t.owes && all_done t.rows) refl
  where
    r : Report
    r = join (own_damage t.decision) (reports_of t.rows)

    none : is_ready_rec (complete_commit t).rec ≡ false
    none = grind arith

    nor : is_commit_rec (complete_commit t).rec ≡ false
    nor = grind arith

    rows : (complete_commit t).next.rows ≡ t.rows
    rows = grind arith

    said : IsCompleted t.key (forgets (aaid_of t.key) t.rows ++ done_up t r ++ (TxOut.Tell (Indication.CommitComplete r) ∷ []) ++ ends_down t.rows ++ end_up t)
    said =
        let last : IsCompleted t.key (forgets (aaid_of t.key) t.rows ++ done_up t r ++ (TxOut.Tell (Indication.CommitComplete r) ∷ [])) =
        (r, told_later (forgets (aaid_of t.key) t.rows ++ done_up t r) (TxOut.Tell (Indication.CommitComplete r) ∷ []) (Indication.CommitComplete r) (inl refl), done_first t.key r (forgets (aaid_of t.key) t.rows ++ done_up t r) (TxOut.Tell (Indication.CommitComplete r) ∷ []) (done_later t.key r (forgets (aaid_of t.key) t.rows) (done_up t r) (done_says t r))) in
        completed_first t.key _ (end_up t) (completed_first t.key _ (ends_down t.rows) last)

    go : (b : Bool) → (not t.owes && all_done t.rows) ≡ b → IsOutspoken t (complete_commit t)
    go true i =
        let outs : (complete_commit t).outs ≡ forgets (aaid_of t.key) t.rows ++ done_up t r ++ (TxOut.Tell (Indication.CommitComplete r) ∷ []) ++ ends_down t.rows ++ end_up t = rw (i, complete_commit) refl in
        record {
          key = grind (arith, i);
          up = λ h. grind (arith, i, h);
          there = λ p h. ap (λ (rs : List Row). elim (find_row rs p) as (λ _. Bool) [ None ↦ false | Some w ↦ w.live && not w.branch.left ]) (sym rows) ∙ h;
          moves = λ d. grind (arith, i);
          over = λ n. absurd (clash t.phase c n);
          votes = λ h p under live. absurd (cc (h, none));
          orders = λ h p is. absurd (cc (h, nor));
          completes = λ d n. subst (IsCompleted t.key) (sym outs) said;
        }
    go false i = let same : complete_commit t ≡ turn [] t = rw (i, complete_commit) refl in subst (IsOutspoken t) (sym same) (plain_still t [])

-- ---- chains

joined : (t : Transaction) (a b c : Turn) → c.outs ≡ a.outs ++ b.outs → c.next ≡ b.next → (a.rec ≡ None) × (c.rec ≡ b.rec) ⊎ (b.rec ≡ None) × (c.rec ≡ a.rec) → IsOutspoken t a → IsOutspoken a.next b → IsOutspoken t c
joined t a b c outs next rec one two = record {
  key = ap (λ (u : Transaction). u.key) next ∙ two.key ∙ one.key;
  up = λ h. one.up (two.up (ap (λ (u : Transaction). u.up) (sym next) ∙ h));
  there = λ p h. one.there p (two.there p (ap (is_there p) (sym next) ∙ h));
  moves = λ d. ap (λ (u : Transaction). is_committing u.phase || is_nil u.phase) next ∙ moved d;
  over = λ n. ap (λ (u : Transaction). is_nil u.phase) next ∙ two.over (one.over n);
  votes = λ h p under live. subst (λ (os : List TxOut). IsCarriedIn os p DialogueRecord.Ready) (sym outs) (voted h p under (ap (λ (u : Transaction). u.up) (sym next) ∙ live));
  orders = λ h p is. subst (λ (os : List TxOut). IsCarriedIn os p DialogueRecord.Commit) (sym outs) (ordered h p (ap (is_there p) (sym next) ∙ is));
  completes = λ d n. subst (IsCompleted t.key) (sym outs) (completed d (ap (λ (u : Transaction). is_nil u.phase) (sym next) ∙ n));
}
  where
    voted : is_ready_rec c.rec ≡ true → (p : ℕ) → is_under_at t.key p ≡ true → b.next.up ≡ true → IsCarriedIn (a.outs ++ b.outs) p DialogueRecord.Ready
    voted h p under live = elim rec [
      | inl k ↦ carried_later a.outs b.outs p DialogueRecord.Ready (two.votes (ap is_ready_rec (sym k.1) ∙ h) p (ap (λ (x : Key). is_under_at x p) one.key ∙ under) live)
      | inr k ↦ carried_first a.outs b.outs p DialogueRecord.Ready (one.votes (ap is_ready_rec (sym k.1) ∙ h) p under (two.up live))
    ]

    ordered : is_commit_rec c.rec ≡ true → (p : ℕ) → is_there p b.next ≡ true → IsCarriedIn (a.outs ++ b.outs) p DialogueRecord.Commit
    ordered h p is = elim rec [
      | inl k ↦ carried_later a.outs b.outs p DialogueRecord.Commit (two.orders (ap is_commit_rec (sym k.1) ∙ h) p is)
      | inr k ↦ carried_first a.outs b.outs p DialogueRecord.Commit (one.orders (ap is_commit_rec (sym k.1) ∙ h) p (two.there p is))
    ]

    over_stays : is_nil a.next.phase ≡ true → is_committing a.next.phase ≡ false
    over_stays n = grind (arith, n)

    completed : is_committing t.phase ≡ true → is_nil b.next.phase ≡ true → IsCompleted t.key (a.outs ++ b.outs)
    completed d n = go (is_committing a.next.phase) refl
      where
        go : (v : Bool) → is_committing a.next.phase ≡ v → IsCompleted t.key (a.outs ++ b.outs)
        go true i = completed_later t.key a.outs b.outs (subst (λ (x : Key). IsCompleted x b.outs) one.key (two.completes i n))
        go false i = completed_first t.key a.outs b.outs (one.completes d (grind (arith, one.moves d, i)))

    moved : is_committing t.phase ≡ true → (is_committing b.next.phase || is_nil b.next.phase) ≡ true
    moved d = go (is_committing a.next.phase) refl
      where
        go : (v : Bool) → is_committing a.next.phase ≡ v → (is_committing b.next.phase || is_nil b.next.phase) ≡ true
        go true i = two.moves i
        go false i = let n : is_nil a.next.phase ≡ true = grind (arith, one.moves d, i) in let m : is_nil b.next.phase ≡ true = two.over n in grind (arith, m)

-- ---- every event

outspoken_turns : (e : TxEvent) (s : Transaction) → Turns e s IsOutspoken
outspoken_turns e s = record {
  still = λ t. plain_still t [];
  first = λ t u outs a one two. joined t (turn outs u) a (before outs a) refl refl (inl (refl, refl)) one two;
  chain = λ t a f one two none. joined t a (f a.next) (and_then a f) refl refl (later_rec a.rec (f a.next).rec none) one two;
  tells = λ t i n. plain_still t (TxOut.Tell i ∷ []);
  notes_prepare = λ pr c. plain s _ refl refl refl (λ h. h) (λ p h. h);
  notes_done = λ is. plain s _ refl refl refl (λ h. h) (λ p h. h);
  notes_end = λ q is. plain s _ refl refl refl (λ h. h) (λ p h. h);
  notes_rollback = λ ro c. plain s _ refl refl refl (λ h. h) (λ p h. h);
  defers_end = λ q is. plain_row s _ q (λ r. record r { ends = true }) (λ r. refl) (λ r h. h);
  defers_grant = λ q is. plain_still s _;
  prepares = λ q. plain_row s _ q (λ r. record r { branch = record r.branch { prepared = true } }) (λ r. refl) (λ r h. h);
  asks = λ is act n told. plain_ask s;
  asks_again = plain_still s _;
  decides = λ o is ready. record {
    key = refl;
    up = λ h. h;
    there = λ p h. h;
    moves = λ c. absurd (grind (arith, ready, c));
    over = λ n. n;
    votes = λ h p under live. absurd (cc (h));
    orders = λ h p is. absurd (cc (h));
    completes = λ c n. absurd (clash s.phase c n);
  };
  aborts = λ q is. plain_lost s _ q;
  loses_arc = λ q l. plain_lost s [] q;
  closes_left = λ q is. plain_row s _ q row_dead (λ r. refl) (λ r h. absurd (cc (h)));
  gives_up = λ q r is c found. plain_row s _ q (λ w. record w { branch = record w.branch { given_up = true }; live = false; ends = false }) (λ w. refl) (λ w h. absurd (cc (h)));
  counts = λ q is act h. plain_count s q;
  ends_done = λ q x is c h. plain_end s q x;
  ends_replied = λ b w x is found open_now. plain_end s w.branch.peer.node x;
  ends_rolled = λ q x is c h. plain_end s q x;
  leaves_below = λ q w t is left at act. plain_left t q;
  leaves_rolling = λ q w t is left at act. plain_end t q Report.None;
  votes = λ t act asked all under. speaks_vote t act;
  orders_root = λ t act asked all under. speaks_order t (rw act refl);
  orders_ready = λ ready is. speaks_order s (rw ready (grind arith));
  rolls = λ t asked fall ok. speaks_rolling t asked ok;
  completes_commit = λ t c. speaks_commit t c;
  completes_rollback = λ t c. speaks_rollback t c;
  leaves = λ is act under asked all. speaks_leave s act;
}

pub outspoken_event : (e : TxEvent) (s : Transaction) → IsPut e s → IsOutspoken s (transacted e s)
outspoken_event e s put = every_turn e s IsOutspoken (outspoken_turns e s) put

says_leave : (s : Transaction) (p : ℕ) → is_under_at s.key p ≡ true → s.up ≡ true → IsCarriedIn (leave s).outs p DialogueRecord.Left ⊎ IsCarriedIn (leave s).outs p DialogueRecord.LeftEnd
unfolding leave
says_leave s p under up = go s.up_ends
  where
    go : (b : Bool) → IsCarriedIn (if b then carry_up s DialogueRecord.LeftEnd ++ end_up s else carry_up s DialogueRecord.Left) p DialogueRecord.Left ⊎ IsCarriedIn (if b then carry_up s DialogueRecord.LeftEnd ++ end_up s else carry_up s DialogueRecord.Left) p DialogueRecord.LeftEnd
    go true = inr (carried_first (carry_up s DialogueRecord.LeftEnd) (end_up s) p DialogueRecord.LeftEnd (up_says s DialogueRecord.LeftEnd p under up))
    go false = inl (up_says s DialogueRecord.Left p under up)

pub left_is_said : (e : TxEvent) (s : Transaction) → SaysLeft e s (transacted e s)
left_is_said e s is p under up = let same = is in rw same (says_leave s p under up)
