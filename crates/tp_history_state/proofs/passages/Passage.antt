-- Which passage an event of a transaction makes, by what is logged, by a rollback, and by what the user is told: an instance
-- of the steps of a turn.
use Rattle.tp_history_state.proofs.Vocabulary.{◌≡◌, ◌⊎◌, inl, inr, ℕ, Bool, true, false, refl, ap, sym, subst, ◌∙◌, arith, Option, Some, None, List, [], ◌∷◌, ◌++◌, ◌&&◌, ◌||◌, or-true, or_parts, or_right, Report, Request, Indication, DialogueRecord, LogRec, Phase, TxEvent, TxOut, is_nil, is_active, is_ready, is_committing, is_rolling, Transaction, Turn, turn, and_then, is_under, all_done, done_up, rollback_rec, complete_commit, complete_rollback, begin_rolling, order, prepare_each, ask_commit, leave, count_branch, end_branch, branch_left, transacted, is_leaving, Passage, Stays, Enters, Falls, Falls_at_once, Commits, Rolls_back, Leaves, passage, logs_ready_or_commit, Turns, falls, is_outcome_told, vote, shut_given_up, row_dead, IsPut, asks_tell, every_turn, row_phase, tell_append, still_up, still_prepare, is_rolled_told, is_some_rec, IsStaged, staged_turn, part_by_part}
use Rattle.tp_steps.proofs.words.FairTurns.{lost_phase}
use Rattle.tp_history_state.proofs.lemmas.Passages.{no_leaving}
use Rattle.tp_history_state.proofs.lemmas.Tells.{ordering_tells, rolls_untold, completion_tells, unrolling_tells, leave_tells, retried_tells}
use Rattle.tp_history_state.proofs.passages.Shown.{IsShown, shown_turns, is_early, logs_joined}

-- the user is told that a commitment is complete
abbrev pub is_committed_told : Indication → Bool
is_committed_told (Indication.CommitComplete r) = true
is_committed_told _ = false

abbrev is_fixed : Phase → Bool
is_fixed p = is_ready p || is_committing p

abbrev is_sunk : Phase → Bool
is_sunk p = is_committing p || is_nil p

record IsGoing (e : TxEvent) (s t : Transaction) (a : Turn) : Type 0 where
  logged : logs_ready_or_commit a.rec ≡ true → is_fixed a.next.phase ≡ true
  steady : is_fixed t.phase ≡ true → is_some_rec a.rec ≡ false → is_fixed a.next.phase ≡ true
  done : is_committing t.phase ≡ true → (is_committing a.next.phase || asks_tell is_committed_told a.outs) ≡ true
  told : asks_tell is_committed_told a.outs ≡ true → (is_committing t.phase ≡ true) × (is_nil a.next.phase ≡ true) × (is_some_rec a.rec ≡ true)
  came : is_committing a.next.phase ≡ true → is_some_rec a.rec ≡ false → is_committing t.phase ≡ true
  sunk : is_sunk t.phase ≡ true → is_sunk a.next.phase ≡ true
  over : is_nil t.phase ≡ true → is_nil a.next.phase ≡ true
  back : asks_tell is_rolled_told a.outs ≡ true → is_sunk t.phase ≡ false

-- what tells the user of no completion
abbrev AreUntold : List TxOut → Type 0
AreUntold outs = (asks_tell is_committed_told outs ≡ false) × (asks_tell is_rolled_told outs ≡ false)

-- or_parts the phase changes, nor is Ready or Commit logged
going_same : (e : TxEvent) (s t : Transaction) (a : Turn) → a.next.phase ≡ t.phase → logs_ready_or_commit a.rec ≡ false → AreUntold a.outs → IsGoing e s t a
going_same e s t a same quiet none = record {
  logged = λ h. absurd (cc (h, quiet));
  steady = λ h i. ap is_fixed same ∙ h;
  done = λ h. let k : is_committing a.next.phase ≡ true = ap is_committing same ∙ h in rw k refl;
  told = λ h. absurd (let off = none.0 in cc (h, off));
  came = λ h i. ap is_committing (sym same) ∙ h;
  sunk = λ h. ap is_sunk same ∙ h;
  over = λ h. ap is_nil same ∙ h;
  back = λ h. absurd (let off = none.1 in cc (h, off));
}

-- ---- chains

some_joined : (x y : Option LogRec) → is_some_rec (elim y as (λ _. Option LogRec) [ None ↦ x | Some r ↦ Some r ]) ≡ (is_some_rec x || is_some_rec y)
some_joined x y = grind arith

alone : (x y : Option LogRec) → (x ≡ None) ⊎ (y ≡ None) → is_some_rec y ≡ true → is_some_rec x ≡ false
alone x y (inl i) h = ap is_some_rec i
alone x y (inr i) h = absurd (cc (ap is_some_rec i, h))

either : (C : Type 0) (u v : Bool) → (u || v) ≡ true → (u ≡ true → C) → (v ≡ true → C) → C
either C true v h i j = i refl
either C false v h i j = j h

going_then : (e : TxEvent) (s t : Transaction) (a b : Turn) (r : Option LogRec) → (a.rec ≡ None) ⊎ (b.rec ≡ None) → r ≡ elim b.rec as (λ _. Option LogRec) [ None ↦ a.rec | Some x ↦ Some x ] → IsGoing e s t a → IsGoing e s a.next b
    → IsGoing e s t (record { rec = r; outs = a.outs ++ b.outs; completion = part_by_part a.completion b.completion; next = b.next })
going_then e s t a b r none is one two = record {
  logged = λ h. either _ (logs_ready_or_commit a.rec) (logs_ready_or_commit b.rec) (sym logs ∙ h) (λ i. two.steady (one.logged i) (quiet_after i)) (λ i. two.logged i);
  steady = λ h i. let n = or_parts (is_some_rec a.rec) (is_some_rec b.rec) (sym some ∙ i) in two.steady (one.steady h n.0) n.1;
  done = λ h. either _ (is_committing a.next.phase) (asks_tell is_committed_told a.outs) (one.done h)
      (λ i. either _ (is_committing b.next.phase) (asks_tell is_committed_told b.outs) (two.done i) (λ j. rw j refl) (λ j. ap (λ (v : Bool). is_committing b.next.phase || v) cc_told ∙ rw j (last (is_committing b.next.phase) (asks_tell is_committed_told a.outs))))
      (λ i. ap (λ (v : Bool). is_committing b.next.phase || v) cc_told ∙ rw i (mid (is_committing b.next.phase) (asks_tell is_committed_told b.outs)));
  told = λ h. either _ (asks_tell is_committed_told a.outs) (asks_tell is_committed_told b.outs) (sym cc_told ∙ h)
      (λ i. let x = one.told i in (x.0, two.over x.1, some ∙ rw x.2 refl))
      (λ i. let y = two.told i in (one.came y.0 (alone a.rec b.rec none y.2), y.1, some ∙ rw y.2 (or-true (is_some_rec a.rec))));
  came = λ h i. let n = or_parts (is_some_rec a.rec) (is_some_rec b.rec) (sym some ∙ i) in one.came (two.came h n.1) n.0;
  sunk = λ h. two.sunk (one.sunk h);
  over = λ h. two.over (one.over h);
  back = λ h. either _ (asks_tell is_rolled_told a.outs) (asks_tell is_rolled_told b.outs) (sym rb_told ∙ h) one.back (λ i. up (is_sunk t.phase) refl (two.back i));
}
  where
    logs : logs_ready_or_commit r ≡ (logs_ready_or_commit a.rec || logs_ready_or_commit b.rec)
    logs = ap logs_ready_or_commit is ∙ logs_joined a.rec b.rec none

    some : is_some_rec r ≡ (is_some_rec a.rec || is_some_rec b.rec)
    some = ap is_some_rec is ∙ some_joined a.rec b.rec

    cc_told : asks_tell is_committed_told (a.outs ++ b.outs) ≡ (asks_tell is_committed_told a.outs || asks_tell is_committed_told b.outs)
    cc_told = tell_append is_committed_told a.outs b.outs

    rb_told : asks_tell is_rolled_told (a.outs ++ b.outs) ≡ (asks_tell is_rolled_told a.outs || asks_tell is_rolled_told b.outs)
    rb_told = tell_append is_rolled_told a.outs b.outs

    last : (x y : Bool) → (x || (y || true)) ≡ true
    last x y = grind arith

    mid : (x y : Bool) → (x || (true || y)) ≡ true
    mid true y = refl
    mid false y = refl

    -- who logged goes on without a record
    quiet_after : logs_ready_or_commit a.rec ≡ true → is_some_rec b.rec ≡ false
    quiet_after i = elim none [ inl j ↦ absurd (cc (ap logs_ready_or_commit j, i)) | inr j ↦ ap is_some_rec j ]

    up : (v : Bool) → is_sunk t.phase ≡ v → is_sunk a.next.phase ≡ false → is_sunk t.phase ≡ false
    up false i off = i
    up true i off = absurd (let on : is_sunk a.next.phase ≡ true = one.sunk i in cc (on, off))

-- ---- the rules

early_fixed : (p : Phase) → is_active p ≡ true → is_fixed p ≡ true → ⊥
early_fixed p h i = grind (arith, h, i)

early_sunk : (p : Phase) → is_early p ≡ true → is_sunk p ≡ true → ⊥
early_sunk p h i = grind (arith, h, i)

early_nil : (p : Phase) → is_early p ≡ true → is_nil p ≡ true → ⊥
early_nil p h i = grind (arith, h, i)

early_committing : (p : Phase) → is_early p ≡ true → is_committing p ≡ true → ⊥
early_committing p h i = grind (arith, h, i)

untold : (outs : List TxOut) → ((f : Indication → Bool) → asks_tell f outs ≡ false) → AreUntold outs
untold outs k = (k is_committed_told, k is_rolled_told)

going_vote : (e : TxEvent) (s t : Transaction) → is_active t.phase ≡ true → is_under t.key ≡ true → IsGoing e s t (vote t)
going_vote e s t act under = record {
  logged = λ h. refl;
  steady = λ h i. absurd (early_fixed t.phase act h);
  done = λ h. absurd (early_committing t.phase (rw act refl) h);
  told = λ h. absurd (let off = (still_up t DialogueRecord.Ready refl).1 is_committed_told in cc (h, off));
  came = λ h i. absurd (cc (h));
  sunk = λ h. absurd (early_sunk t.phase (rw act refl) h);
  over = λ h. absurd (early_nil t.phase (rw act refl) h);
  back = λ h. absurd (let off = (still_up t DialogueRecord.Ready refl).1 is_rolled_told in cc (h, off));
}

going_order : (e : TxEvent) (s t : Transaction) → is_early t.phase ≡ true → IsGoing e s t (order t)
unfolding order
going_order e s t open_phase = record {
  logged = λ h. refl;
  steady = λ h i. refl;
  done = λ h. refl;
  told = λ h. absurd (let off = ordering_tells is_committed_told t in cc (h, off));
  came = λ h i. absurd (cc (i));
  sunk = λ h. absurd (early_sunk t.phase open_phase h);
  over = λ h. absurd (early_nil t.phase open_phase h);
  back = λ h. absurd (let off = ordering_tells is_rolled_told t in cc (h, off));
}

going_rolls : (e : TxEvent) (s t : Transaction) (asked : Bool) → falls e s ≡ true → is_early t.phase ≡ true → IsGoing e s t (begin_rolling asked t)
unfolding begin_rolling
going_rolls e s t asked fall open_phase = record {
  logged = λ h. absurd (quiet h);
  steady = λ h i. absurd (some t.phase refl open_phase h i);
  done = λ h. absurd (early_committing t.phase open_phase h);
  told = λ h. absurd (let off = rolls_untold is_committed_told asked t refl in cc (h, off));
  came = λ h i. absurd (cc (h));
  sunk = λ h. absurd (early_sunk t.phase open_phase h);
  over = λ h. absurd (early_nil t.phase open_phase h);
  back = λ h. absurd (let off = rolls_untold is_rolled_told asked t refl in cc (h, off));
}
  where
    quiet : logs_ready_or_commit (rollback_rec t) ≡ true → ⊥
    quiet h = grind (arith, h)

    some : (p : Phase) → t.phase ≡ p → is_early t.phase ≡ true → is_fixed t.phase ≡ true → is_some_rec (rollback_rec t) ≡ false → ⊥
    some Phase.Ready j h i k = grind (arith, j, k)
    some p j h i k = grind (arith, j, h, i)

going_commits : (e : TxEvent) (s t : Transaction) → is_committing t.phase ≡ true → IsGoing e s t (complete_commit t)
unfolding complete_commit
going_commits e s t c = grind (arith, all_done, completion_tells, done_up)

going_unrolls : (e : TxEvent) (s t : Transaction) → is_rolling t.phase ≡ true → IsGoing e s t (complete_rollback t)
unfolding complete_rollback
going_unrolls e s t c = grind (arith, unrolling_tells)

going_leave : (e : TxEvent) (s : Transaction) → e ≡ TxEvent.User Request.Unchanged → is_active s.phase ≡ true → IsGoing e s s (leave s)
unfolding leave
going_leave e s is act = record {
  logged = λ h. absurd (cc (h));
  steady = λ h i. absurd (early_fixed s.phase act h);
  done = λ h. absurd (early_committing s.phase (rw act refl) h);
  told = λ h. absurd (let off = leave_tells is_committed_told s in cc (h, off));
  came = λ h i. absurd (cc (h));
  sunk = λ h. absurd (early_sunk s.phase (rw act refl) h);
  over = λ h. refl;
  back = λ h. absurd (let off = leave_tells is_rolled_told s in cc (h, off));
}

going_report : (e : TxEvent) (s t : Transaction) (q : ℕ) (x : Report) → IsGoing e s t (end_branch q x t)
unfolding end_branch
going_report e s t q x = going_same e s t (end_branch q x t) (row_phase t q (λ r. record r { branch = record r.branch { ended = true; report = x } })) refl (grind arith, grind arith)

going_turns : (e : TxEvent) (s : Transaction) → Turns e s (IsGoing e s)
unfolding ask_commit count_branch branch_left
going_turns e s = record {
  still = λ t. going_same e s t (turn [] t) refl refl (refl, refl);
  first = λ t u outs a one two. going_then e s t (turn outs u) a a.rec (inl refl) (none_first a.rec) one two;
  chain = λ t a f one two none. going_then e s t a (f a.next) (and_then a f).rec none refl one two;
  tells = λ t i n. going_same e s t _ refl refl (plain i n);
  notes_prepare = λ pr h. going_same e s s _ refl refl (refl, refl);
  notes_done = λ is. going_same e s s _ refl refl (refl, refl);
  notes_end = λ q is. going_same e s s _ refl refl (refl, refl);
  notes_rollback = λ ro h. going_same e s s _ refl refl (refl, refl);
  defers_end = λ q is. going_same e s s _ (row_phase s q (λ r. record r { ends = true })) refl (refl, refl);
  defers_grant = λ q is. going_same e s s _ refl refl (refl, refl);
  prepares = λ q. going_same e s s _ (row_phase s q (λ r. record r { branch = record r.branch { prepared = true } })) refl (refl, refl);
  asks = λ is act asked told. going_same e s s _ refl refl (untold (prepare_each s.rows) (still_prepare s.rows).1);
  asks_again = going_same e s s _ refl refl (retried_tells is_committed_told s refl, retried_tells is_rolled_told s refl);
  decides = λ o is ready. going_same e s s _ refl refl (refl, refl);
  aborts = λ q is. going_same e s s _ (lost_phase s q) refl (refl, refl);
  loses_arc = λ q gone. going_same e s s _ (lost_phase s q) refl (refl, refl);
  closes_left = λ q is. going_same e s s _ (row_phase s q row_dead) refl (refl, refl);
  gives_up = λ q r is c found. going_same e s s (shut_given_up q r s) (row_phase s q (λ w. record w { branch = record w.branch { given_up = true }; live = false; ends = false })) refl (grind arith, grind arith);
  counts = λ q is act row. going_same e s s _ (row_phase s q (λ r. record r { branch = record r.branch { counted = true } })) refl (refl, refl);
  ends_done = λ q r is c row. going_report e s s q r;
  ends_replied = λ b w r is found o. going_report e s s w.branch.peer.node r;
  ends_rolled = λ q r is c row. going_report e s s q r;
  leaves_below = λ q w t is left at act. going_same e s t _ (row_phase t q (λ r. record r { branch = record r.branch { left = true } })) refl (refl, refl);
  leaves_rolling = λ q w t is left at c. going_report e s t q Report.None;
  votes = λ t act asked all under. going_vote e s t act under;
  orders_root = λ t act asked all root. going_order e s t (rw act refl);
  orders_ready = λ ready is. going_order e s s (rw ready (or-true (is_active s.phase)));
  rolls = λ t asked f ok. going_rolls e s t asked f ok;
  completes_commit = λ t c. going_commits e s t c;
  completes_rollback = λ t c. going_unrolls e s t c;
  leaves = λ is act under asked all. going_leave e s is act;
}
  where
    none_first : (r : Option LogRec) → r ≡ elim r as (λ _. Option LogRec) [ None ↦ None | Some x ↦ Some x ]
    none_first None = refl
    none_first (Some r) = refl

    plain : (i : Indication) → is_outcome_told i ≡ false → AreUntold (TxOut.Tell i ∷ [])
    plain (Indication.CommitComplete r) h = absurd (cc (h))
    plain (Indication.RollbackComplete r) h = absurd (cc (h))
    plain i h = (refl, refl)

-- ---- what the passage tells

abbrev pub drops : Passage → Bool
drops Stays = false
drops Enters = false
drops Falls = true
drops Falls_at_once = true
drops Commits = false
drops Rolls_back = true
drops Leaves = false

abbrev pub ends : Passage → Bool
ends Stays = false
ends Enters = false
ends Falls = false
ends Falls_at_once = false
ends Commits = true
ends Rolls_back = false
ends Leaves = false

going_turn : (e : TxEvent) (s : Transaction) → IsPut e s → IsGoing e s s (transacted e s)
going_turn e s put = every_turn e s (IsGoing e s) (going_turns e s) put

dropped_from : (p q : Phase) → drops (passage false p q) ≡ true → ((is_early p ≡ true) × ((is_rolling q || is_nil q) ≡ true)) ⊎ ((is_rolling p ≡ true) × (is_nil q ≡ true))
dropped_from p q h1 = grind arith

ended_from : (p q : Phase) → ends (passage false p q) ≡ (is_committing p && is_nil q)
ended_from p q = grind arith

-- a transaction that is not over, and is not committing, drops what is deferred where it is over or rolls
drops_down : (p q : Phase) → is_sunk p ≡ false → is_nil q ≡ true → drops (passage false p q) ≡ true
drops_down p q h1 h2 = grind arith

drops_rolling : (p q : Phase) → is_sunk p ≡ false → is_rolling p ≡ false → is_rolling q ≡ true → drops (passage false p q) ≡ true
drops_rolling p q h1 h2 h3 = grind arith

-- of an event that is no leaving
pub record IsPassage (e : TxEvent) (s : Transaction) (w : Passage) (a : Turn) : Type 0 where
  pub dropped : drops w ≡ true → (falls e s || asks_tell is_rolled_told a.outs) ≡ true
  pub ended : ends w ≡ asks_tell is_committed_told a.outs
  pub told : asks_tell is_rolled_told a.outs ≡ true → drops w ≡ true
  pub rolled : is_rolling s.phase ≡ false → is_rolling a.next.phase ≡ true → drops w ≡ true
  pub left : w ≡ Leaves → ⊥

pub passage_turn : (e : TxEvent) (s : Transaction) → is_leaving e ≡ false → IsPut e s → IsPassage e s (passage (is_leaving e) s.phase (transacted e s).next.phase) (transacted e s)
passage_turn e s off put = subst (λ (b : Bool). IsPassage e s (passage b s.phase a.next.phase) a) (sym off) (record {
  dropped = λ h. elim (dropped_from s.phase a.next.phase h) [
    | inl v ↦ (let one : falls e s ≡ true = fallen v.0 v.1 in rw one refl)
    | inr v ↦ (let one = st.rolling v.0 in or_right (falls e s) _ (flat (is_rolling a.next.phase) (asks_tell is_rolled_told a.outs) one (nil_flat a.next.phase v.1)))
  ];
  ended = ended_from s.phase a.next.phase ∙ both (is_committing s.phase) refl (is_nil a.next.phase) refl (asks_tell is_committed_told a.outs) refl;
  told = λ h. drops_down s.phase a.next.phase (g.back h) (st.ended h);
  rolled = λ h i. drops_rolling s.phase a.next.phase (afloat (is_sunk s.phase) refl i) h i;
  left = no_leaving s.phase a.next.phase;
})
  where
    a : Turn
    a = transacted e s

    g : IsGoing e s s a
    g = going_turn e s put

    st : IsStaged e s s a
    st = staged_turn e s put

    nil_flat : (p : Phase) → is_nil p ≡ true → is_rolling p ≡ false
    nil_flat p h = grind (arith, h)

    flat : (x y : Bool) → (x || y) ≡ true → x ≡ false → y ≡ true
    flat true y h i = absurd (cc (i))
    flat false y h i = h

    apart : (p : Phase) → is_early p ≡ true → (is_rolling p || is_nil p) ≡ true → ⊥
    apart p h i = grind (arith, h, i)

    loose : (p : Phase) → is_fixed p ≡ true → (is_rolling p || is_nil p) ≡ true → ⊥
    loose p h i = grind (arith, h, i)

    middle : (x y z : Bool) → (x || y || z) ≡ true → x ≡ false → z ≡ false → y ≡ true
    middle x y z h i j = grind (arith, h, i, j)

    fallen : is_early s.phase ≡ true → (is_rolling a.next.phase || is_nil a.next.phase) ≡ true → falls e s ≡ true
    fallen h i = elim (every_turn e s (IsShown e s) (shown_turns e s) put h) [
      | inl j ↦ absurd (apart a.next.phase (ap is_early j ∙ h) i)
      | inr j ↦ middle (logs_ready_or_commit a.rec) (falls e s) (is_leaving e) j (unlogged (logs_ready_or_commit a.rec) refl) off
    ]
      where
        unlogged : (v : Bool) → logs_ready_or_commit a.rec ≡ v → v ≡ false
        unlogged false j = refl
        unlogged true j = absurd (loose a.next.phase (g.logged j) i)

    both : (x : Bool) → is_committing s.phase ≡ x → (y : Bool) → is_nil a.next.phase ≡ y → (z : Bool) → asks_tell is_committed_told a.outs ≡ z → (x && y) ≡ z
    both x i y j true k = let t = g.told k in put_both (sym i ∙ t.0) (sym j ∙ t.1)
      where
        put_both : x ≡ true → y ≡ true → (x && y) ≡ true
        put_both h k = rw (h, k) refl
    both true i true j false k = absurd (let one = g.done i in over a.next.phase j (flat_back (is_committing a.next.phase) (asks_tell is_committed_told a.outs) one k))
      where
        over : (p : Phase) → is_nil p ≡ true → is_committing p ≡ true → ⊥
        over p h k = grind (arith, h, k)

        flat_back : (x y : Bool) → (x || y) ≡ true → y ≡ false → x ≡ true
        flat_back true y h k = refl
        flat_back false y h k = absurd (cc (h, k))
    both true i false j false k = refl
    both false i y j false k = refl

    afloat : (v : Bool) → is_sunk s.phase ≡ v → is_rolling a.next.phase ≡ true → v ≡ false
    afloat false i r = refl
    afloat true i r = absurd (under a.next.phase (g.sunk i) r)
      where
        under : (p : Phase) → is_sunk p ≡ true → is_rolling p ≡ true → ⊥
        under p h k = grind (arith, h, k)
