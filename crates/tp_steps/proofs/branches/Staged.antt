-- How an event of a transaction leaves active and rolling: by what is logged, by a rollback, by leaving, and by what the
-- user is told. An instance of the steps of a turn.
use Rattle.std.proofs.Common.{◌≡◌, ℕ, Bool, true, false, refl, ap, sym, ◌∙◌, arith, Option, Some, None, List, [], ◌∷◌, ◌++◌, ◌&&◌, ◌||◌, not}
use Rattle.tp_names.specs.declared.outcome.Report.{Report}
use Rattle.tp_records.specs.declared.request.Request.{Request}
use Rattle.tp_records.specs.declared.indication.Indication.{Indication}
use Rattle.tp_records.specs.declared.dialogue.DialogueRecord.{DialogueRecord}
use Rattle.tp_logrec.specs.declared.record.LogRec.{LogRec}
use Rattle.tp_model.specs.declared.arc.Phase.{Phase}
use Rattle.tp_model.specs.declared.transaction.TxEvent.{TxEvent}
use Rattle.tp_model.specs.declared.transaction.TxOut.{TxOut}
use Rattle.tp_model.specs.Parts.{Key, Root, Under}
use Rattle.tp_model.specs.Dialogues.{is_nil, is_active, is_ready, is_committing, is_rolling}
use Rattle.tp_model.specs.Transactions.{Transaction, Turn, turn, is_under, all_done, all_rolled_back, log_ready, complete_commit, complete_rollback, begin_rolling, order, ask_commit, leave, count_branch, end_branch, branch_left, retried, transacted, part_by_part}
use Rattle.tp_model.specs.Node.{is_leaving}
use Rattle.tp_steps.specs.Turns.{Turns, falls, vote, decide, shut_given_up, row_dead}
use Rattle.tp_steps.specs.Moves.{IsPut}
use Rattle.tp_steps.specs.Passages.{asks_tell}
use Rattle.tp_steps.proofs.every.EveryTurn.{every_turn}
use Rattle.tp_steps.proofs.words.Fair.{row_phase}
use Rattle.tp_steps.proofs.words.FairTurns.{lost_phase}
use Rattle.tp_steps.proofs.lemmas.Phases.{tell_append, still_up, still_prepare, still_ask, IsUntold, untold}
use Rattle.tp_steps.proofs.lemmas.Joined.{joined_retried, joined_rolls, joined_order}

-- the user is told that a rollback is complete
abbrev pub is_rolled_told : Indication → Bool
is_rolled_told (Indication.RollbackComplete r) = true
is_rolled_told _ = false

abbrev pub is_some_rec : Option LogRec → Bool
is_some_rec None = false
is_some_rec (Some r) = true

pub record IsStaged (e : TxEvent) (s t : Transaction) (a : Turn) : Type 0 where
  pub active : is_active t.phase ≡ true → (is_active a.next.phase || falls e s || is_leaving e || is_some_rec a.rec) ≡ true
  pub rolling : is_rolling t.phase ≡ true → (is_rolling a.next.phase || asks_tell is_rolled_told a.outs) ≡ true
  pub ended : asks_tell is_rolled_told a.outs ≡ true → is_nil a.next.phase ≡ true
  pub over : is_nil t.phase ≡ true → is_nil a.next.phase ≡ true

-- nothing is told, and the phase stays
staged_same : (e : TxEvent) (s t : Transaction) (a : Turn) → a.next.phase ≡ t.phase → asks_tell is_rolled_told a.outs ≡ false → IsStaged e s t a
staged_same e s t a same none = record {
  active = λ h. let k : is_active a.next.phase ≡ true = ap is_active same ∙ h in rw k refl;
  rolling = λ h. let k : is_rolling a.next.phase ≡ true = ap is_rolling same ∙ h in rw k refl;
  ended = λ h. absurd (cc (none, h));
  over = λ h. ap is_nil same ∙ h;
}

-- a record is forced, from active or ready
staged_forced : (e : TxEvent) (s t : Transaction) (a : Turn) → is_some_rec a.rec ≡ true → (is_active t.phase || is_ready t.phase) ≡ true → asks_tell is_rolled_told a.outs ≡ false → IsStaged e s t a
staged_forced e s t a some open_phase none = record {
  active = λ h. rw some (last (is_active a.next.phase) (falls e s) (is_leaving e));
  rolling = λ h. absurd (off t.phase open_phase h);
  ended = λ h. absurd (cc (none, h));
  over = λ h. absurd (dead t.phase open_phase h);
}
  where
    last : (x y z : Bool) → (x || y || z || true) ≡ true
    last x y z = grind arith

    off : (p : Phase) → (is_active p || is_ready p) ≡ true → is_rolling p ≡ true → ⊥
    off p h k = grind (arith, h, k)

    dead : (p : Phase) → (is_active p || is_ready p) ≡ true → is_nil p ≡ true → ⊥
    dead p h k = grind (arith, h, k)

staged_then : (e : TxEvent) (s t : Transaction) (a b : Turn) (r : Option LogRec) → (is_some_rec a.rec || is_some_rec b.rec) ≡ is_some_rec r → IsStaged e s t a → IsStaged e s a.next b
    → IsStaged e s t (record { rec = r; outs = a.outs ++ b.outs; completion = part_by_part a.completion b.completion; next = b.next })
staged_then e s t a b r some one two = record {
  active = λ h. rw (sym some) (through (is_active a.next.phase) (is_active b.next.phase) (falls e s) (is_leaving e) (is_some_rec a.rec) (is_some_rec b.rec) (one.active h) two.active);
  rolling = λ h. rw told (over (is_rolling a.next.phase) (is_rolling b.next.phase) (asks_tell is_rolled_told a.outs) (asks_tell is_rolled_told b.outs) (one.rolling h) two.rolling);
  ended = λ h. last (asks_tell is_rolled_told a.outs) (asks_tell is_rolled_told b.outs) refl refl (sym told ∙ h);
  over = λ h. two.over (one.over h);
}
  where
    told : asks_tell is_rolled_told (a.outs ++ b.outs) ≡ (asks_tell is_rolled_told a.outs || asks_tell is_rolled_told b.outs)
    told = tell_append is_rolled_told a.outs b.outs

    through : (x y f l u v : Bool) → (x || f || l || u) ≡ true → (x ≡ true → (y || f || l || v) ≡ true) → (y || f || l || (u || v)) ≡ true
    through true y f l u v h k = let one = k refl in grind (arith, one)
    through false y f l u v h k = grind (arith, h)

    over : (x y u v : Bool) → (x || u) ≡ true → (x ≡ true → (y || v) ≡ true) → (y || (u || v)) ≡ true
    over true y u v h k = let one = k refl in grind (arith, one)
    over false y u v h k = grind (arith, h)

    last : (u v : Bool) → asks_tell is_rolled_told a.outs ≡ u → asks_tell is_rolled_told b.outs ≡ v → (u || v) ≡ true → is_nil b.next.phase ≡ true
    last true v i j h = two.over (one.ended i)
    last false v i j h = two.ended (j ∙ h)

-- ---- the rules

staged_vote : (e : TxEvent) (s t : Transaction) → is_active t.phase ≡ true → is_under t.key ≡ true → IsStaged e s t (vote t)
staged_vote e s t act under = staged_forced e s t (vote t) (go t.key refl) (rw act refl) ((still_up t DialogueRecord.Ready refl).1 is_rolled_told)
  where
    go : (k : Key) → t.key ≡ k → is_some_rec (log_ready t) ≡ true
    go (Root a) i = absurd (grind (arith, under, i))
    go (Under a b w) i = grind (arith, i)

staged_order : (e : TxEvent) (s t : Transaction) → (is_active t.phase || is_ready t.phase) ≡ true → IsStaged e s t (order t)
unfolding order
staged_order e s t open_phase =
    staged_forced e s t (order t) refl open_phase
    (joined_order (IsUntold is_rolled_told) (untold is_rolled_told) t refl (λ p. refl))

staged_rolls : (e : TxEvent) (s t : Transaction) (asked : Bool) → falls e s ≡ true → (is_active t.phase || is_ready t.phase) ≡ true → IsStaged e s t (begin_rolling asked t)
unfolding begin_rolling
staged_rolls e s t asked fall open_phase = record {
  active = λ h. rw fall refl;
  rolling = λ h. refl;
  ended = λ h. absurd (cc (joined_rolls (IsUntold is_rolled_told) (untold is_rolled_told) asked t refl (λ p. refl), h));
  over = λ h. absurd (dead t.phase open_phase h);
}
  where
    dead : (p : Phase) → (is_active p || is_ready p) ≡ true → is_nil p ≡ true → ⊥
    dead p h k = grind (arith, h, k)

staged_commit : (e : TxEvent) (s t : Transaction) → is_committing t.phase ≡ true → IsStaged e s t (complete_commit t)
unfolding complete_commit
staged_commit e s t c = go (not t.owes && all_done t.rows) refl
  where
    off : (p : Phase) → is_committing p ≡ true → (is_active p || is_rolling p || is_nil p) ≡ true → ⊥
    off p h k = grind (arith, h, k)

    go : (b : Bool) → (not t.owes && all_done t.rows) ≡ b → IsStaged e s t (complete_commit t)
    go false i = rw i (staged_same e s t (turn [] t) refl refl)
    go true i = rw i (record {
      active = λ h. absurd (off t.phase c (rw h refl));
      rolling = λ h. absurd (off t.phase c (rw h (grind arith)));
      ended = λ h. refl;
      over = λ h. refl;
    })

pub staged_rollback : (e : TxEvent) (s t : Transaction) → is_rolling t.phase ≡ true → IsStaged e s t (complete_rollback t)
unfolding complete_rollback
staged_rollback e s t c = go (not t.owes && all_rolled_back t.rows && (t.superior_rolled || not t.up)) refl
  where
    off : (p : Phase) → is_rolling p ≡ true → is_active p ≡ true → ⊥
    off p h k = grind (arith, h, k)

    told : (outs : List TxOut) (r : Report) → asks_tell is_rolled_told (outs ++ (TxOut.Tell (Indication.RollbackComplete r) ∷ [])) ≡ true
    told outs r = tell_append is_rolled_told outs (TxOut.Tell (Indication.RollbackComplete r) ∷ []) ∙ grind arith

    go : (b : Bool) → (not t.owes && all_rolled_back t.rows && (t.superior_rolled || not t.up)) ≡ b → IsStaged e s t (complete_rollback t)
    go false i = rw i (staged_same e s t (turn [] t) refl refl)
    go true i = rw i (record { active = λ h. absurd (off t.phase c h); rolling = λ h. rw (told _ _) refl; ended = λ h. refl; over = λ h. refl })

staged_leave : (e : TxEvent) (s : Transaction) → e ≡ TxEvent.User Request.Unchanged → is_active s.phase ≡ true → IsStaged e s s (leave s)
unfolding leave
staged_leave e s is act = record {
  active = λ h. let l : is_leaving e ≡ true = ap is_leaving is in rw l (middle false (falls e s) (is_some_rec (leave s).rec));
  rolling = λ h. absurd (off s.phase act h);
  ended = λ h. refl;
  over = λ h. refl;
}
  where
    middle : (x y z : Bool) → (x || y || true || z) ≡ true
    middle x y z = grind arith

    off : (p : Phase) → is_active p ≡ true → is_rolling p ≡ true → ⊥
    off p h k = grind (arith, h, k)

staged_ask : (e : TxEvent) (s : Transaction) → IsStaged e s s (ask_commit s)
unfolding ask_commit
staged_ask e s = staged_same e s s (ask_commit s) refl ((still_prepare s.rows).1 is_rolled_told)

staged_count : (e : TxEvent) (s : Transaction) (q : ℕ) → IsStaged e s s (count_branch q s)
unfolding count_branch
staged_count e s q = staged_same e s s (count_branch q s) (row_phase s q (λ r. record r { branch = record r.branch { counted = true } })) refl

staged_end : (e : TxEvent) (s t : Transaction) (q : ℕ) (x : Report) → IsStaged e s t (end_branch q x t)
unfolding end_branch
staged_end e s t q x = staged_same e s t (end_branch q x t) (row_phase t q (λ r. record r { branch = record r.branch { ended = true; report = x } })) (grind arith)

staged_left : (e : TxEvent) (s t : Transaction) (q : ℕ) → IsStaged e s t (branch_left q t)
unfolding branch_left
staged_left e s t q = staged_same e s t (branch_left q t) (row_phase t q (λ r. record r { branch = record r.branch { left = true } })) refl

staged_retried : (e : TxEvent) (s : Transaction) → IsStaged e s s (turn (retried s) s)
staged_retried e s = staged_same e s s (turn (retried s) s) refl (joined_retried (IsUntold is_rolled_told) (untold is_rolled_told) s refl (λ a b z i. refl) (λ c. (still_ask _ s.rows).1 is_rolled_told))

-- ---- the steps

pub some_then : (a b : Option LogRec) → (is_some_rec a || is_some_rec b) ≡ is_some_rec (elim b as (λ _. Option LogRec) [ None ↦ a | Some r ↦ Some r ])
some_then None None = refl
some_then None (Some r) = refl
some_then (Some s) None = refl
some_then (Some s) (Some r) = refl

staged_turns : (e : TxEvent) (s : Transaction) → Turns e s (IsStaged e s)
staged_turns e s = record {
  still = λ t. staged_same e s t (turn [] t) refl refl;
  first = λ t u outs a one two. staged_then e s t (turn outs u) a a.rec refl one two;
  chain = λ t a f one two none. staged_then e s t a (f a.next) _ (some_then a.rec (f a.next).rec) one two;
  tells = λ t i n. staged_same e s t _ refl (grind (arith, n));
  notes_prepare = λ pr cl. staged_same e s s _ refl refl;
  notes_done = λ is. staged_same e s s _ refl refl;
  notes_end = λ q is. staged_same e s s _ refl refl;
  notes_rollback = λ ro cl. staged_same e s s _ refl refl;
  defers_end = λ q is. staged_same e s s _ (row_phase s q (λ r. record r { ends = true })) refl;
  defers_grant = λ q is. staged_same e s s _ refl refl;
  prepares = λ q. staged_same e s s _ (row_phase s q (λ r. record r { branch = record r.branch { prepared = true } })) refl;
  asks = λ is act asked told. staged_ask e s;
  asks_again = staged_retried e s;
  decides = λ o is ready. staged_forced e s s (decide o s) refl (rw ready (grind arith)) refl;
  aborts = λ q is. staged_same e s s _ (lost_phase s q) refl;
  loses_arc = λ q gone. staged_same e s s _ (lost_phase s q) refl;
  closes_left = λ q is. staged_same e s s _ (row_phase s q row_dead) refl;
  gives_up = λ q r is c found. staged_same e s s (shut_given_up q r s) (row_phase s q (λ w. record w { branch = record w.branch { given_up = true }; live = false; ends = false })) (grind arith);
  counts = λ q is act row. staged_count e s q;
  ends_done = λ q r is c row. staged_end e s s q r;
  ends_replied = λ b w r is found o. staged_end e s s w.branch.peer.node r;
  ends_rolled = λ q r is c row. staged_end e s s q r;
  leaves_below = λ q w t is left at act. staged_left e s t q;
  leaves_rolling = λ q w t is left at c. staged_end e s t q Report.None;
  votes = λ t act asked all under. staged_vote e s t act under;
  orders_root = λ t act asked all root. staged_order e s t (rw act refl);
  orders_ready = λ ready is. staged_order e s s (rw ready (grind arith));
  rolls = λ t asked f ok. staged_rolls e s t asked f ok;
  completes_commit = λ t c. staged_commit e s t c;
  completes_rollback = λ t c. staged_rollback e s t c;
  leaves = λ is act under asked all. staged_leave e s is act;
}

-- every event of a transaction
pub staged_turn : (e : TxEvent) (s : Transaction) → IsPut e s → IsStaged e s s (transacted e s)
staged_turn e s put = every_turn e s (IsStaged e s) (staged_turns e s) put
