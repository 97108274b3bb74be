-- Of an event of a transaction: a branch that is bound was so before, or its user has asked for commitment; and only one that
-- is ready commits.
use Rattle.std.proofs.Common.{◌≡◌, ℕ, Bool, true, false, refl, ap, sym, ◌∙◌, arith, Option, Some, None, List, [], ◌&&◌, ◌||◌, not}
use Rattle.tp_logrec.specs.declared.record.LogRec.{LogRec}
use Rattle.tp_names.specs.declared.outcome.Report.{Report}
use Rattle.tp_model.specs.declared.arc.Phase.{Phase}
use Rattle.tp_model.specs.declared.transaction.TxEvent.{TxEvent}
use Rattle.tp_model.specs.declared.transaction.TxOut.{TxOut}
use Rattle.tp_model.specs.Parts.{Key, Root, Under}
use Rattle.tp_model.specs.Dialogues.{is_ready, is_committing}
use Rattle.tp_model.specs.Transactions.{Row, Transaction, Turn, turn, and_then, before, is_under, is_under_at, with_row, with_arc_lost, all_done, log_ready, complete_commit, complete_rollback, rollback_rec, begin_rolling, order, leave, ask_commit, count_branch, end_branch, branch_left, transacted}
use Rattle.tp_steps.specs.Turns.{vote, row_dead, Turns}
use Rattle.tp_steps.specs.Moves.{IsPut}
use Rattle.tp_steps.specs.Passages.{is_commit_rec}
use Rattle.tp_steps.proofs.words.Fair.{row_phase}
use Rattle.tp_steps.proofs.every.EveryTurn.{every_turn}
use Rattle.tp_stores.proofs.Hearing.{or_first, or_over}

abbrev pub is_bound : Phase → Bool
is_bound p = is_ready p || is_committing p

pub record IsAskedTurn (s t : Transaction) (a : Turn) : Type 0 where
  pub key : a.next.key ≡ t.key
  pub keeps : t.asked ≡ true → a.next.asked ≡ true
  pub bound : is_bound a.next.phase ≡ true → (is_bound t.phase || a.next.asked) ≡ true
  pub orders : is_commit_rec a.rec ≡ true → is_under t.key ≡ true → is_ready s.phase ≡ true

-- neither key, phase nor what was asked changes
same_turn : (s t : Transaction) (a : Turn) → a.next.key ≡ t.key → a.next.asked ≡ t.asked → a.next.phase ≡ t.phase → is_commit_rec a.rec ≡ false → IsAskedTurn s t a
same_turn s t a key asked phase none = record {
  key = key;
  keeps = λ h. asked ∙ h;
  bound = λ h. or_first (is_bound t.phase) a.next.asked (ap is_bound (sym phase) ∙ h);
  orders = λ h u. absurd (cc (h, none));
}

-- to a phase that binds nothing
loose_turn : (s t : Transaction) (a : Turn) → a.next.key ≡ t.key → a.next.asked ≡ t.asked → is_bound a.next.phase ≡ false → is_commit_rec a.rec ≡ false → IsAskedTurn s t a
loose_turn s t a key asked off none = record { key = key; keeps = λ h. asked ∙ h; bound = λ h. absurd (cc (h, off)); orders = λ h u. absurd (cc (h, none)) }

row_key : (t : Transaction) (q : ℕ) (f : Row → Row) → (with_row t q f).key ≡ t.key
row_key t q f = grind arith

row_asked : (t : Transaction) (q : ℕ) (f : Row → Row) → (with_row t q f).asked ≡ t.asked
row_asked t q f = grind arith

row_turn : (s t : Transaction) (outs : List TxOut) (q : ℕ) (f : Row → Row) → IsAskedTurn s t (turn outs (with_row t q f))
row_turn s t outs q f = same_turn s t (turn outs (with_row t q f)) (row_key t q f) (row_asked t q f) (row_phase t q f) refl

lost_turn : (s t : Transaction) (outs : List TxOut) (q : ℕ) → IsAskedTurn s t (turn outs (with_arc_lost t q))
lost_turn s t outs q = go (is_under_at t.key q) refl
  where
    go : (b : Bool) → is_under_at t.key q ≡ b → IsAskedTurn s t (turn outs (with_arc_lost t q))
    go true i = same_turn s t (turn outs (with_arc_lost t q)) (rw (i, with_arc_lost) refl) (rw (i, with_arc_lost) refl) (rw (i, with_arc_lost) refl) refl
    go false i = same_turn s t (turn outs (with_arc_lost t q)) (rw (i, with_arc_lost) (row_key t q row_dead)) (rw (i, with_arc_lost) (row_asked t q row_dead)) (rw (i, with_arc_lost) (row_phase t q row_dead)) refl

commit_turn : (s t : Transaction) → IsAskedTurn s t (complete_commit t)
unfolding complete_commit
commit_turn s t = go (not t.owes && all_done t.rows) refl
  where
    none : is_commit_rec (complete_commit t).rec ≡ false
    none = grind arith

    go : (b : Bool) → (not t.owes && all_done t.rows) ≡ b → IsAskedTurn s t (complete_commit t)
    go false i =
        let next : (complete_commit t).next ≡ t = grind (arith, i) in
        same_turn s t (complete_commit t) (ap (λ (u : Transaction). u.key) next) (ap (λ (u : Transaction). u.asked) next) (ap (λ (u : Transaction). u.phase) next) none
    go true i = loose_turn s t (complete_commit t) (grind (arith, i)) (grind (arith, i)) (grind (arith, i)) none

rollback_turn : (s t : Transaction) → IsAskedTurn s t (complete_rollback t)
unfolding complete_rollback
rollback_turn s t = record { key = grind arith; keeps = λ h. grind (arith, h); bound = λ h. or_first (is_bound t.phase) (complete_rollback t).next.asked (grind (arith, h)); orders = λ h u. absurd (cc (h, none)) }
  where
    none : is_commit_rec (complete_rollback t).rec ≡ false
    none = grind arith

rolling_turn : (s t : Transaction) (asked : Bool) → IsAskedTurn s t (begin_rolling asked t)
unfolding begin_rolling
rolling_turn s t asked = loose_turn s t (begin_rolling asked t) refl refl refl none
  where
    none : is_commit_rec (rollback_rec t) ≡ false
    none = grind arith

order_turn : (s t : Transaction) → (is_bound t.phase || t.asked) ≡ true → (is_under t.key ≡ true → is_ready s.phase ≡ true) → IsAskedTurn s t (order t)
unfolding order
order_turn s t was ready = record { key = refl; keeps = λ h. h; bound = λ h. was; orders = λ h u. ready u }

no_commit : (t : Transaction) → is_commit_rec (log_ready t) ≡ false
no_commit t = go t.key
  where
    go : (k : Key) → is_commit_rec (log_ready (record t { key = k })) ≡ false
    go (Root a) = refl
    go (Under a b p) = refl

vote_turn : (s t : Transaction) → t.asked ≡ true → IsAskedTurn s t (vote t)
vote_turn s t asked = record { key = refl; keeps = λ h. h; bound = λ h. or_over (is_bound t.phase) t.asked asked; orders = λ h u. absurd (let none = no_commit t in cc (h, none)) }

leave_turn : (s t : Transaction) → IsAskedTurn s t (leave t)
unfolding leave
leave_turn s t = loose_turn s t (leave t) refl refl refl refl

ask_turn : (s t : Transaction) → IsAskedTurn s t (ask_commit t)
unfolding ask_commit
ask_turn s t = record { key = refl; keeps = λ h. refl; bound = λ h. or_over (is_bound t.phase) true refl; orders = λ h u. absurd (cc (h)) }

count_turn : (s t : Transaction) (q : ℕ) → IsAskedTurn s t (count_branch q t)
unfolding count_branch
count_turn s t q = row_turn s t _ q (λ r. record r { branch = record r.branch { counted = true } })

end_turn : (s t : Transaction) (q : ℕ) (x : Report) → IsAskedTurn s t (end_branch q x t)
unfolding end_branch
end_turn s t q x = row_turn s t _ q (λ r. record r { branch = record r.branch { ended = true; report = x } })

left_turn : (s t : Transaction) (q : ℕ) → IsAskedTurn s t (branch_left q t)
unfolding branch_left
left_turn s t q = row_turn s t _ q (λ r. record r { branch = record r.branch { left = true } })

-- what was bound between was bound before, or asked
pub passed : (p q : Phase) (between after : Bool) → (is_bound q ≡ true → (is_bound p || between) ≡ true) → (between ≡ true → after ≡ true) → (is_bound q || after) ≡ true → (is_bound p || after) ≡ true
passed p q between after one keeps h = go (is_bound p) refl (is_bound q) refl between refl
  where
    go : (x : Bool) → is_bound p ≡ x → (y : Bool) → is_bound q ≡ y → (z : Bool) → between ≡ z → (is_bound p || after) ≡ true
    go true i y j z k = or_first (is_bound p) after i
    go false i false j z k = or_over (is_bound p) after (let m : (false || after) ≡ true = rw j at h in m)
    go false i true j true k = or_over (is_bound p) after (keeps k)
    go false i true j false k = absurd (let no : (is_bound p || between) ≡ true = one j in let off : (is_bound p || between) ≡ false = rw (i, k) refl in cc (no, off))

first_turn : (s t u : Transaction) (outs : List TxOut) (a : Turn) → IsAskedTurn s t (turn outs u) → IsAskedTurn s u a → IsAskedTurn s t (before outs a)
first_turn s t u outs a one two = record {
  key = two.key ∙ one.key;
  keeps = λ h. two.keeps (one.keeps h);
  bound = λ h. passed t.phase u.phase u.asked a.next.asked one.bound two.keeps (two.bound h);
  orders = λ h k. two.orders h (ap is_under one.key ∙ k);
}

then_turn : (s t : Transaction) (a : Turn) (f : Transaction → Turn) → IsAskedTurn s t a → IsAskedTurn s a.next (f a.next) → IsAskedTurn s t (and_then a f)
then_turn s t a f one two = record {
  key = two.key ∙ one.key;
  keeps = λ h. two.keeps (one.keeps h);
  bound = λ h. passed t.phase a.next.phase a.next.asked (f a.next).next.asked one.bound two.keeps (two.bound h);
  orders = orders (f a.next).rec refl;
}
  where
    orders : (r : Option LogRec) → (f a.next).rec ≡ r → is_commit_rec (elim r as (λ _. Option LogRec) [ None ↦ a.rec | Some l ↦ Some l ]) ≡ true → is_under t.key ≡ true → is_ready s.phase ≡ true
    orders None i h u = one.orders h u
    orders (Some l) i h u = two.orders (ap is_commit_rec i ∙ h) (ap is_under one.key ∙ u)

still_turn : (s t : Transaction) (outs : List TxOut) (u : Transaction) → u.key ≡ t.key → u.asked ≡ t.asked → u.phase ≡ t.phase → IsAskedTurn s t (turn outs u)
still_turn s t outs u key asked phase = same_turn s t (turn outs u) key asked phase refl

asked_turns : (e : TxEvent) (s : Transaction) → Turns e s (IsAskedTurn s)
asked_turns e s = record {
  still = λ t. still_turn s t [] t refl refl refl;
  first = λ t u outs a one two. first_turn s t u outs a one two;
  chain = λ t a f one two none. then_turn s t a f one two;
  tells = λ t i n. still_turn s t _ t refl refl refl;
  notes_prepare = λ pr h. still_turn s s _ _ refl refl refl;
  notes_done = λ is. still_turn s s _ _ refl refl refl;
  notes_end = λ q is. still_turn s s _ _ refl refl refl;
  notes_rollback = λ ro h. still_turn s s _ _ refl refl refl;
  defers_end = λ q is. row_turn s s _ q (λ r. record r { ends = true });
  defers_grant = λ q is. still_turn s s _ _ refl refl refl;
  prepares = λ q. row_turn s s _ q (λ r. record r { branch = record r.branch { prepared = true } });
  asks = λ is act asked told. ask_turn s s;
  asks_again = still_turn s s _ _ refl refl refl;
  decides = λ o is ready. same_turn s s _ refl refl refl refl;
  aborts = λ q is. lost_turn s s _ q;
  loses_arc = λ q gone. lost_turn s s _ q;
  closes_left = λ q is. row_turn s s _ q row_dead;
  gives_up = λ q r is c found. row_turn s s _ q (λ w. record w { branch = record w.branch { given_up = true }; live = false; ends = false });
  counts = λ q is act row. count_turn s s q;
  ends_done = λ q r is c row. end_turn s s q r;
  ends_replied = λ b w r is found o. end_turn s s w.branch.peer.node r;
  ends_rolled = λ q r is c row. end_turn s s q r;
  leaves_below = λ q w t is left at act. left_turn s t q;
  leaves_rolling = λ q w t is left at c. end_turn s t q Report.None;
  votes = λ t act asked all under. vote_turn s t asked;
  orders_root = λ t act asked all root. order_turn s t (or_over (is_bound t.phase) t.asked asked) (λ u. absurd (cc (u, root)));
  orders_ready = λ ready is. order_turn s s (or_first (is_bound s.phase) s.asked (or_first (is_ready s.phase) (is_committing s.phase) ready)) (λ u. ready);
  rolls = λ t asked f ok. rolling_turn s t asked;
  completes_commit = λ t c. commit_turn s t;
  completes_rollback = λ t c. rollback_turn s t;
  leaves = λ is act under asked all. leave_turn s s;
}

pub asked_turn : (e : TxEvent) (s : Transaction) → IsPut e s → IsAskedTurn s s (transacted e s)
asked_turn e s put = every_turn e s (IsAskedTurn s) (asked_turns e s) put
