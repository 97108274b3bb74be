-- What a turn says of the end of its commitment: Done with no report, over an association, where the end is logged; and where it is
-- logged, the user is told that it is complete with no report.
use Rattle.std.proofs.Common.{if◌then◌else◌, ◌≡◌, ◌⊎◌, inl, inr, Bool, true, false, refl, ap, sym, ◌∙◌, arith, Option, Some, None, List, [], ◌++◌, ◌&&◌, not}
use Rattle.tp_names.specs.declared.outcome.Report.{Report}
use Rattle.tp_names.specs.Reports.{join, is_report_none}
use Rattle.tp_records.specs.declared.dialogue.DialogueRecord.{DialogueRecord}
use Rattle.tp_logrec.specs.declared.record.LogRec.{LogRec}
use Rattle.tp_model.specs.declared.transaction.TxEvent.{TxEvent}
use Rattle.tp_model.specs.declared.transaction.TxOut.{TxOut}
use Rattle.tp_model.specs.Parts.{Key, Root, Under}
use Rattle.tp_model.specs.Dialogues.{is_ready}
use Rattle.tp_model.specs.Transactions.{Transaction, Turn, aaid_of, all_done, reports_of, own_damage, complete_commit, complete_rollback, begin_rolling, order, ask_commit, leave, count_branch, end_branch, branch_left, log_ready, log_end, log_damage, is_own_commit}
use Rattle.tp_steps.specs.Turns.{Turns, vote}
use Rattle.tp_steps.specs.Passages.{asks_tell}
use Rattle.tp_steps.specs.Clearing.{is_complete_none}
use Rattle.tp_reports.specs.Clearing.{is_clear_rec}
use Rattle.tp_steps.proofs.log.Passed.{later_rec}
use Rattle.tp_runs.proofs.AtPeer.{carries_none, none_more}
use Rattle.tp_names.specs.declared.outcome.Outcome.{Outcome}
use Rattle.tp_steps.proofs.lemmas.Phases.{tell_append}
use Rattle.tp_steps.proofs.lemmas.Joined.{IsJoined, joined_up, joined_prepare, joined_ask, joined_forgets, joined_done, joined_retried, joined_commit, joined_unrolls, joined_rolls, joined_order, joined_leaves}

-- ---- Done with no report, over an association

abbrev pub is_clear_done : DialogueRecord → Bool
is_clear_done (DialogueRecord.Done r) = is_report_none r
is_clear_done _ = false

abbrev pub IsDoneTurn : Transaction → Turn → Type 0
IsDoneTurn t a = (carries_none is_clear_done a.outs ≡ true) ⊎ (is_clear_rec a.rec ≡ true)

more : (xs ys : List TxOut) → carries_none is_clear_done xs ≡ true → carries_none is_clear_done ys ≡ true → carries_none is_clear_done (xs ++ ys) ≡ true
more xs ys h i = none_more is_clear_done xs ys ∙ rw (h, i) refl

abbrev AreUnclear : List TxOut → Type 0
AreUnclear outs = carries_none is_clear_done outs ≡ true

unclear : IsJoined AreUnclear
unclear = record { none = refl; more = more }

done_completes : (t : Transaction) → IsDoneTurn t (complete_commit t)
unfolding complete_commit
done_completes t = go (not t.owes && all_done t.rows) refl (is_report_none x) refl
  where
    x : Report
    x = join (own_damage t.decision) (reports_of t.rows)

    go : (v : Bool) → (not t.owes && all_done t.rows) ≡ v → (w : Bool) → is_report_none x ≡ w → IsDoneTurn t (complete_commit t)
    go false i w j = inl (rw i refl)
    go true i true j = inr (rw (i, j) refl)
    go true i false j = inl (rw i (joined_commit AreUnclear unclear t x (joined_forgets AreUnclear unclear (aaid_of t.key) t.rows (λ z b. refl)) (joined_done AreUnclear unclear t x (λ p. rw j refl) (λ a b z k. refl)) refl (λ p. refl)))

pub done_turns : (e : TxEvent) (s : Transaction) → Turns e s IsDoneTurn
unfolding ask_commit count_branch end_branch branch_left
done_turns e s = record {
  still = λ t. inl refl;
  first = λ t u outs a one two. first outs a one two;
  chain = λ t a f one two quiet. chain a (f a.next) one two (later_rec a.rec (f a.next).rec quiet);
  tells = λ t i n. inl refl;
  notes_prepare = λ pr h. inl refl;
  notes_done = λ is. inl refl;
  notes_end = λ q is. inl refl;
  notes_rollback = λ ro h. inl refl;
  defers_end = λ q is. inl refl;
  defers_grant = λ q is. inl refl;
  prepares = λ q. inl refl;
  asks = λ is act asked told. inl (joined_prepare AreUnclear unclear s.rows (λ p. refl));
  asks_again = inl (joined_retried AreUnclear unclear s refl (λ a b z k. refl) (λ c. joined_ask AreUnclear unclear (aaid_of s.key) s.rows (λ z b. refl)));
  decides = λ o is ready. inl refl;
  aborts = λ q is. inl refl;
  loses_arc = λ q gone. inl refl;
  closes_left = λ q is. inl refl;
  gives_up = λ q r is c found. inl (grind arith);
  counts = λ q is act row. inl refl;
  ends_done = λ q r is c row. inl (grind arith);
  ends_replied = λ b w r is found o. inl (grind arith);
  ends_rolled = λ q r is c row. inl (grind arith);
  leaves_below = λ q w t is left at act. inl refl;
  leaves_rolling = λ q w t is left at c. inl refl;
  votes = λ t act asked all under. inl (joined_up AreUnclear unclear t DialogueRecord.Ready (λ p. refl));
  orders_root = λ t act asked all root. inl (joined_order AreUnclear unclear t refl (λ p. refl));
  orders_ready = λ ready is. inl (joined_order AreUnclear unclear s refl (λ p. refl));
  rolls = λ t asked f ok. inl (joined_rolls AreUnclear unclear asked t refl (λ p. refl));
  completes_commit = λ t c. done_completes t;
  completes_rollback = λ t c. inl (joined_unrolls AreUnclear unclear t (λ p r. refl) (λ r. refl));
  leaves = λ is act under asked all. inl (joined_leaves AreUnclear unclear s (λ p. refl) (λ p. refl) (λ p. refl));
}
  where
    first : (outs : List TxOut) (a : Turn) → (carries_none is_clear_done outs ≡ true) ⊎ (false ≡ true) → (carries_none is_clear_done a.outs ≡ true) ⊎ (is_clear_rec a.rec ≡ true) → (carries_none is_clear_done (outs ++ a.outs) ≡ true) ⊎ (is_clear_rec a.rec ≡ true)
    first outs a one (inr i) = inr i
    first outs a (inl j) (inl i) = inl (more outs a.outs j i)
    first outs a (inr j) (inl i) = absurd (cc (j))

    Both : Turn → Turn → Type 0
    Both a b = (a.rec ≡ None) × (elim b.rec as (λ _. Option LogRec) [ None ↦ a.rec | Some r ↦ Some r ] ≡ b.rec) ⊎ (b.rec ≡ None) × (elim b.rec as (λ _. Option LogRec) [ None ↦ a.rec | Some r ↦ Some r ] ≡ a.rec)

    chain : (a b : Turn) → (carries_none is_clear_done a.outs ≡ true) ⊎ (is_clear_rec a.rec ≡ true) → (carries_none is_clear_done b.outs ≡ true) ⊎ (is_clear_rec b.rec ≡ true) → Both a b
        → (carries_none is_clear_done (a.outs ++ b.outs) ≡ true) ⊎ (is_clear_rec (elim b.rec as (λ _. Option LogRec) [ None ↦ a.rec | Some r ↦ Some r ]) ≡ true)
    chain a b (inl i) (inl j) w = inl (more a.outs b.outs i j)
    chain a b (inr i) two (inr w) = inr (ap is_clear_rec w.1 ∙ i)
    chain a b (inr i) two (inl w) = absurd (cc (ap is_clear_rec w.0, i))
    chain a b (inl i) (inr j) (inl w) = inr (ap is_clear_rec w.1 ∙ j)
    chain a b (inl i) (inr j) (inr w) = absurd (cc (ap is_clear_rec w.0, j))

-- ---- the end of a commitment that is logged is told

abbrev pub IsToldTurn : Transaction → Turn → Type 0
IsToldTurn t a = is_clear_rec a.rec ≡ true → asks_tell is_complete_none a.outs ≡ true

told_votes : (t : Transaction) → IsToldTurn t (vote t)
told_votes t = go t.key
  where
    go : (k : Key) → is_clear_rec (log_ready (record t { key = k })) ≡ true → asks_tell is_complete_none (vote t).outs ≡ true
    go (Root a) h = absurd (cc (h))
    go (Under a b s) h = absurd (cc (h))

told_orders : (t : Transaction) → IsToldTurn t (order t)
unfolding order
told_orders t h = absurd (cc (h))

told_rolls : (asked : Bool) (t : Transaction) → IsToldTurn t (begin_rolling asked t)
unfolding begin_rolling
told_rolls asked t h = absurd (go (not (is_ready t.phase)) (is_own_commit t) h)
  where
    go : (b c : Bool) → is_clear_rec (if b then None else if c then Some (log_damage t Outcome.Rollback Report.Mix []) else Some (log_end t Outcome.Rollback)) ≡ true → ⊥
    go true c i = cc (i)
    go false true i = cc (i)
    go false false i = cc (i)

told_completes : (t : Transaction) → IsToldTurn t (complete_commit t)
unfolding complete_commit
told_completes t = go (not t.owes && all_done t.rows) refl (is_report_none x) refl
  where
    x : Report
    x = join (own_damage t.decision) (reports_of t.rows)

    go : (v : Bool) → (not t.owes && all_done t.rows) ≡ v → (w : Bool) → is_report_none x ≡ w → IsToldTurn t (complete_commit t)
    go false i w j = rw i (λ h. absurd (cc (h)))
    go true i false j = rw (i, j) (λ h. absurd (cc (h)))
    go true i true j = rw i (λ h. grind (arith, tell_append, j))

told_unrolls : (t : Transaction) → IsToldTurn t (complete_rollback t)
unfolding complete_rollback
told_unrolls t h = absurd (let none : (complete_rollback t).rec ≡ None = grind arith in cc (ap is_clear_rec none, h))

pub told_turns : (e : TxEvent) (s : Transaction) → Turns e s IsToldTurn
unfolding ask_commit leave count_branch end_branch branch_left
told_turns e s = record {
  still = λ t h. absurd (cc (h));
  first = λ t u outs a one two h. let w = two h in tell_append is_complete_none outs a.outs ∙ rw w (grind arith);
  chain = λ t a f one two quiet h. chain a (f a.next) one two h (later_rec a.rec (f a.next).rec quiet);
  tells = λ t i n h. absurd (cc (h));
  notes_prepare = λ pr c h. absurd (cc (h));
  notes_done = λ is h. absurd (cc (h));
  notes_end = λ q is h. absurd (cc (h));
  notes_rollback = λ ro c h. absurd (cc (h));
  defers_end = λ q is h. absurd (cc (h));
  defers_grant = λ q is h. absurd (cc (h));
  prepares = λ q h. absurd (cc (h));
  asks = λ is act asked told h. absurd (cc (h));
  asks_again = λ h. absurd (cc (h));
  decides = λ o is ready h. absurd (cc (h));
  aborts = λ q is h. absurd (cc (h));
  loses_arc = λ q gone h. absurd (cc (h));
  closes_left = λ q is h. absurd (cc (h));
  gives_up = λ q r is c found h. absurd (cc (h));
  counts = λ q is act row h. absurd (cc (h));
  ends_done = λ q r is c row h. absurd (cc (h));
  ends_replied = λ b w r is found o h. absurd (cc (h));
  ends_rolled = λ q r is c row h. absurd (cc (h));
  leaves_below = λ q w t is left at act h. absurd (cc (h));
  leaves_rolling = λ q w t is left at c h. absurd (cc (h));
  votes = λ t act asked all under h. told_votes t h;
  orders_root = λ t act asked all root h. told_orders t h;
  orders_ready = λ ready is h. told_orders s h;
  rolls = λ t asked f ok h. told_rolls asked t h;
  completes_commit = λ t c h. told_completes t h;
  completes_rollback = λ t c h. told_unrolls t h;
  leaves = λ is act under asked all h. absurd (cc (h));
}
  where
    Both : Turn → Turn → Type 0
    Both a b = (a.rec ≡ None) × (elim b.rec as (λ _. Option LogRec) [ None ↦ a.rec | Some r ↦ Some r ] ≡ b.rec) ⊎ (b.rec ≡ None) × (elim b.rec as (λ _. Option LogRec) [ None ↦ a.rec | Some r ↦ Some r ] ≡ a.rec)

    chain : (a b : Turn) → (is_clear_rec a.rec ≡ true → asks_tell is_complete_none a.outs ≡ true) → (is_clear_rec b.rec ≡ true → asks_tell is_complete_none b.outs ≡ true) → is_clear_rec (elim b.rec as (λ _. Option LogRec) [ None ↦ a.rec | Some r ↦ Some r ]) ≡ true → Both a b
        → asks_tell is_complete_none (a.outs ++ b.outs) ≡ true
    chain a b one two h (inl w) = let x = two (ap is_clear_rec (sym w.1) ∙ h) in tell_append is_complete_none a.outs b.outs ∙ rw x (grind arith)
    chain a b one two h (inr w) = let x = one (ap is_clear_rec (sym w.1) ∙ h) in tell_append is_complete_none a.outs b.outs ∙ rw x refl
