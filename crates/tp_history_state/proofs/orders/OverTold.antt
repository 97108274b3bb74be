-- An event of a transaction ends it where it tells that it is complete, or where its user leaves: an instance of the steps
-- of a turn.
use Rattle.tp_history_state.proofs.Vocabulary.{◌≡◌, Bool, true, false, refl, ap, sym, ◌∙◌, arith, List, [], ◌++◌, ◌||◌, Report, Indication, DialogueRecord, Phase, TxEvent, TxOut, is_nil, is_active, is_ready, is_committing, is_rolling, Transaction, Turn, turn, and_then, all_done, complete_commit, complete_rollback, begin_rolling, order, ask_commit, leave, count_branch, end_branch, branch_left, retried, transacted, is_leaving, row_dead, Turns, IsPut, asks_tell, every_turn, row_phase, tell_append, still_up, still_prepare}
use Rattle.tp_steps.proofs.words.FairTurns.{lost_phase}
use Rattle.tp_history_state.proofs.lemmas.Tells.{ordering_tells, rolls_untold, completion_tells, unrolling_tells, retried_tells}

-- the user is told that the transaction is complete
abbrev pub is_over_told : Indication → Bool
is_over_told (Indication.CommitComplete r) = true
is_over_told (Indication.RollbackComplete r) = true
is_over_told _ = false

abbrev tells_over : List TxOut → Bool
tells_over outs = asks_tell is_over_told outs

record IsEnding (e : TxEvent) (t : Transaction) (a : Turn) : Type 0 where
  over : is_nil t.phase ≡ true → is_nil a.next.phase ≡ true
  told : is_nil t.phase ≡ false → is_leaving e ≡ false → is_nil a.next.phase ≡ tells_over a.outs

ending_same : (e : TxEvent) (t : Transaction) (a : Turn) → a.next.phase ≡ t.phase → tells_over a.outs ≡ false → IsEnding e t a
ending_same e t a same none = record { over = λ h. ap is_nil same ∙ h; told = λ h off. ap is_nil same ∙ h ∙ sym none }

ending_then : (e : TxEvent) (t : Transaction) (a b : Turn) (c : Turn) → c.outs ≡ a.outs ++ b.outs → c.next.phase ≡ b.next.phase → IsEnding e t a → IsEnding e a.next b → IsEnding e t c
ending_then e t a b c outs next one two = record {
  over = λ h. ap is_nil next ∙ two.over (one.over h);
  told = λ h off. ap is_nil next ∙ go (is_nil a.next.phase) refl (one.told h off) off ∙ sym (ap tells_over outs ∙ tell_append is_over_told a.outs b.outs);
}
  where
    go : (v : Bool) → is_nil a.next.phase ≡ v → is_nil a.next.phase ≡ tells_over a.outs → is_leaving e ≡ false → is_nil b.next.phase ≡ (tells_over a.outs || tells_over b.outs)
    go true i k off = two.over i ∙ sym (ap (λ (x : Bool). x || tells_over b.outs) (sym k ∙ i))
    go false i k off = two.told i off ∙ sym (ap (λ (x : Bool). x || tells_over b.outs) (sym k ∙ i))

ending_moved : (e : TxEvent) (t : Transaction) (a : Turn) → is_nil t.phase ≡ false → is_nil a.next.phase ≡ false → tells_over a.outs ≡ false → IsEnding e t a
ending_moved e t a late next none = record { over = λ h. absurd (cc (h, late)); told = λ h off. next ∙ sym none }

not_over : (p : Phase) → (is_active p || is_ready p) ≡ true → is_nil p ≡ false
not_over p h = grind (arith, h)

ending_order : (e : TxEvent) (t : Transaction) → (is_active t.phase || is_ready t.phase) ≡ true → IsEnding e t (order t)
unfolding order
ending_order e t open_phase = ending_moved e t (order t) (not_over t.phase open_phase) refl (ordering_tells is_over_told t)

ending_rolls : (e : TxEvent) (t : Transaction) (asked : Bool) → (is_active t.phase || is_ready t.phase) ≡ true → IsEnding e t (begin_rolling asked t)
unfolding begin_rolling
ending_rolls e t asked open_phase = ending_moved e t (begin_rolling asked t) (not_over t.phase open_phase) refl (rolls_untold is_over_told asked t refl)

ending_commit : (e : TxEvent) (t : Transaction) → is_committing t.phase ≡ true → IsEnding e t (complete_commit t)
unfolding complete_commit
ending_commit e t c = grind (arith, all_done, completion_tells)

ending_rollback : (e : TxEvent) (t : Transaction) → is_rolling t.phase ≡ true → IsEnding e t (complete_rollback t)
unfolding complete_rollback
ending_rollback e t c = grind (arith, unrolling_tells)

ending_turns : (e : TxEvent) (s : Transaction) → Turns e s (IsEnding e)
unfolding ask_commit leave count_branch end_branch branch_left
ending_turns e s = record {
  still = λ t. ending_same e t (turn [] t) refl refl;
  first = λ t u outs a one two. ending_then e t (turn outs u) a _ refl refl one two;
  chain = λ t a f one two none. ending_then e t a (f a.next) (and_then a f) refl refl one two;
  tells = λ t i n. ending_same e t _ refl (grind (arith, n));
  notes_prepare = λ pr h. ending_same e s _ refl refl;
  notes_done = λ is. ending_same e s _ refl refl;
  notes_end = λ q is. ending_same e s _ refl refl;
  notes_rollback = λ ro h. ending_same e s _ refl refl;
  defers_end = λ q is. ending_same e s _ (row_phase s q (λ r. record r { ends = true })) refl;
  defers_grant = λ q is. ending_same e s _ refl refl;
  prepares = λ q. ending_same e s _ (row_phase s q (λ r. record r { branch = record r.branch { prepared = true } })) refl;
  asks = λ is act asked told. ending_same e s (ask_commit s) refl ((still_prepare s.rows).1 is_over_told);
  asks_again = ending_same e s (turn (retried s) s) refl (retried_tells is_over_told s refl);
  decides = λ o is ready. ending_same e s _ refl refl;
  aborts = λ q is. ending_same e s _ (lost_phase s q) refl;
  loses_arc = λ q gone. ending_same e s _ (lost_phase s q) refl;
  closes_left = λ q is. ending_same e s _ (row_phase s q row_dead) refl;
  gives_up = λ q r is c found. ending_same e s _ (row_phase s q (λ w. record w { branch = record w.branch { given_up = true }; live = false; ends = false })) (grind arith);
  counts = λ q is act row. ending_same e s (count_branch q s) (row_phase s q (λ r. record r { branch = record r.branch { counted = true } })) refl;
  ends_done = λ q r is c row. ending_same e s (end_branch q r s) (row_phase s q (λ w. record w { branch = record w.branch { ended = true; report = r } })) (grind arith);
  ends_replied = λ b w r is found o. ending_same e s (end_branch w.branch.peer.node r s) (row_phase s w.branch.peer.node (λ v. record v { branch = record v.branch { ended = true; report = r } })) (grind arith);
  ends_rolled = λ q r is c row. ending_same e s (end_branch q r s) (row_phase s q (λ w. record w { branch = record w.branch { ended = true; report = r } })) (grind arith);
  leaves_below = λ q w t is left at act. ending_same e t (branch_left q t) (row_phase t q (λ v. record v { branch = record v.branch { left = true } })) refl;
  leaves_rolling = λ q w t is left at c. ending_same e t (end_branch q Report.None t) (row_phase t q (λ v. record v { branch = record v.branch { ended = true; report = Report.None } })) (grind arith);
  votes = λ t act asked all under. ending_moved e t _ (not_over t.phase (rw act refl)) refl ((still_up t DialogueRecord.Ready refl).1 is_over_told);
  orders_root = λ t act asked all root. ending_order e t (rw act refl);
  orders_ready = λ ready is. ending_order e s (rw ready (grind arith));
  rolls = λ t asked f ok. ending_rolls e t asked ok;
  completes_commit = λ t c. ending_commit e t c;
  completes_rollback = λ t c. ending_rollback e t c;
  leaves = λ is act under asked all. record { over = λ h. refl; told = λ h off. absurd (let on : is_leaving e ≡ true = ap is_leaving is in cc (on, off)) };
}

-- every event of a transaction but a leaving
pub over_turn : (e : TxEvent) (s : Transaction) → IsPut e s → is_leaving e ≡ false → is_nil (transacted e s).next.phase ≡ asks_tell is_over_told (transacted e s).outs
over_turn e s put off = (every_turn e s (IsEnding e) (ending_turns e s) put).told put.late off
