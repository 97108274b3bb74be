-- The rules that say words to the peer: what they say, and the facts of it.
use Rattle.std.proofs.Common.{if◌then◌else◌, ◌≡◌, ◌≤◌, ℕ, Bool, true, false, refl, ap, ◌∙◌, arith, Option, Some, None, List, [], ◌∷◌, ◌++◌, ◌&&◌, ◌||◌, ◌==◌, not}
use Rattle.std.proofs.lemmas.Bool.Decides.{nat_tests}
use Rattle.std.proofs.lemmas.Grind.{common_steps}
use Rattle.std.proofs.lemmas.List.{append-nil}
use Rattle.tp_names.specs.Reports.{join, is_report_none}
use Rattle.tp_names.specs.declared.identifiers.Aaid.{Aaid}
use Rattle.tp_names.specs.declared.identifiers.BranchId.{BranchId}
use Rattle.tp_names.specs.declared.outcome.Outcome.{Outcome}
use Rattle.tp_names.specs.declared.outcome.Report.{Report}
use Rattle.tp_names.specs.Same.{is_aaid, is_branch, is_name, is_mark}
use Rattle.tp_records.specs.declared.indication.Indication.{Indication}
use Rattle.tp_records.specs.declared.dialogue.DialogueRecord.{DialogueRecord}
use Rattle.tp_logrec.specs.declared.record.LogRec.{LogRec}
use Rattle.tp_model.specs.declared.arc.Phase.{Phase}
use Rattle.tp_model.specs.declared.transaction.TxEvent.{TxEvent}
use Rattle.tp_model.specs.declared.transaction.TxOut.{TxOut}
use Rattle.tp_model.specs.Dialogues.{is_nil, is_active, is_committing, is_rolling}
use Rattle.tp_model.specs.Transactions.{Row, Transaction, Turn, turn, aaid_of, is_under_at, find_row, all_done, all_rolled_back, all_left, carry_up, carry_down, forgets, done_up, ends_down, end_up, reports_of, own_damage, log_end, log_damage, owed_of, complete_commit, complete_rollback, prepare_each, all_prepared, leave, ask_each, retried, completion_of}
use Rattle.tp_model.specs.Questions.{is_begin}
use Rattle.tp_steps.specs.Moves.{is_word}
use Rattle.tp_steps.specs.Facts.{spoken, stays, is_vote, is_order, is_rollback, is_end, none_of, open_now, id_at, sees_row, sees, Facts, IsFair}
use Rattle.tp_steps.proofs.lemmas.Words.{spoken_append}
use Rattle.tp_steps.proofs.words.Fair.{fair_outs, row_id, row_open, open_is}

-- ---- names

pub name_same : (n : List ℕ) → is_name n n ≡ true
name_same [] = refl
name_same (c ∷ n) = grind (arith, nat_tests, name_same n)

mark_same : (m : _) → is_mark m m ≡ true
mark_same m = grind (arith, nat_tests)

pub aaid_same : (a : Aaid) → is_aaid a a ≡ true
aaid_same a = grind (arith, name_same a.owner, mark_same a.mark)

pub branch_same : (b : BranchId) → is_branch b b ≡ true
branch_same b = grind (arith, name_same b.superior, mark_same b.mark)

-- ---- what rules say to the peer

pub up_spoken : (t : Transaction) (p : ℕ) (r : DialogueRecord) → is_word r ≡ true → spoken true p (carry_up t r) ≡ (if is_under_at t.key p && t.up then r ∷ [] else [])
up_spoken t p r h = grind (arith, h)

pub up_stays : (t : Transaction) (p : ℕ) (r : DialogueRecord) → stays true p (carry_up t r) ≡ true
up_stays t p r = grind arith

done_spoken : (t : Transaction) (p : ℕ) (r : Report) → spoken true p (done_up t r) ≡ (if is_under_at t.key p && t.up then DialogueRecord.Done r ∷ [] else [])
done_spoken t p r = grind arith

pub down_kind : (f : DialogueRecord → Bool) (p : ℕ) (rows : List Row) (r : DialogueRecord) → f r ≡ false → none_of f (spoken true p (carry_down rows r)) ≡ true
down_kind f p [] r h = refl
down_kind f p (w ∷ rows) r h = grind (arith, down_kind f p rows r h)

-- only to a branch
pub down_none : (p : ℕ) (rows : List Row) (r : DialogueRecord) → row_id (find_row rows p) ≡ None → spoken true p (carry_down rows r) ≡ []
down_none p [] r h = refl
down_none p (w ∷ rows) r h = grind (arith, nat_tests, down_none p rows r, h)

forgets_spoken : (a : Aaid) (p : ℕ) (rows : List Row) → spoken true p (forgets a rows) ≡ []
forgets_spoken a p [] = refl
forgets_spoken a p (w ∷ rows) = grind (arith, forgets_spoken a p rows)

forgets_stays : (a : Aaid) (p : ℕ) (rows : List Row) → stays true p (forgets a rows) ≡ true
forgets_stays a p [] = refl
forgets_stays a p (w ∷ rows) = grind (arith, forgets_stays a p rows)

closing_spoken : (b : Bool) (p : ℕ) (rows : List Row) → spoken b p (ends_down rows) ≡ []
closing_spoken b p [] = refl
closing_spoken b p (w ∷ rows) = let rest = closing_spoken (b && not (w.branch.peer.node == p)) p rows in let same = closing_spoken b p rows in grind (arith, rest, same)

end_up_spoken : (b : Bool) (p : ℕ) (t : Transaction) → spoken b p (end_up t) ≡ []
end_up_spoken b p t = grind arith

pub prepare_spoken : (p : ℕ) (rows : List Row) → spoken true p (prepare_each rows) ≡ []
prepare_spoken p [] = refl
prepare_spoken p (w ∷ rows) = grind (arith, prepare_spoken p rows)

pub prepare_row : (p : ℕ) (rows : List Row) → find_row (all_prepared rows) p ≡ elim (find_row rows p) as (λ _. Option Row) [ None ↦ None | Some r ↦ Some (record r { branch = record r.branch { prepared = true } }) ]
prepare_row p [] = refl
prepare_row p (w ∷ rows) = grind (arith, prepare_row p rows)

ask_spoken : (a : Aaid) (p : ℕ) (rows : List Row) → spoken true p (ask_each a rows) ≡ []
ask_spoken a p [] = refl
ask_spoken a p (w ∷ rows) = grind (arith, ask_spoken a p rows)

pub retried_spoken : (p : ℕ) (t : Transaction) → spoken true p (retried t) ≡ []
retried_spoken p t = grind (arith, common_steps, spoken_append true p (if t.owes then TxOut.Tell Indication.Commit ∷ [] else []) (ask_each (aaid_of t.key) t.rows), ask_spoken (aaid_of t.key) p t.rows)

-- ---- rows of a transaction that is over

done_open : (rows : List Row) (p : ℕ) → all_done rows ≡ true → row_open (find_row rows p) ≡ 0
done_open [] p h = refl
done_open (w ∷ rows) p h = grind (arith, done_open rows p, h)

rolled_open : (rows : List Row) (p : ℕ) → all_rolled_back rows ≡ true → sees_row (find_row rows p) ≡ true → row_open (find_row rows p) ≡ 0
rolled_open [] p h s = refl
rolled_open (w ∷ rows) p h s = grind (arith, rolled_open rows p, h, s)

left_open : (rows : List Row) (p : ℕ) → all_left rows ≡ true → row_open (find_row rows p) ≡ 0
left_open [] p h = refl
left_open (w ∷ rows) p h = grind (arith, left_open rows p, h)

-- ---- the last word upwards

abbrev is_last : DialogueRecord → Bool
is_last w = is_end w && not (is_begin w) && not (is_vote w) && not (is_order w) && not (is_rollback w)

last_word : (e : TxEvent) (s : Transaction) (p : ℕ) (t : Transaction) (a : Turn) (w : DialogueRecord) → is_last w ≡ true → spoken true p a.outs ≡ (if is_under_at t.key p && t.up then w ∷ [] else [])
    → a.next.phase ≡ Phase.Nil → is_nil t.phase ≡ false → sees t p ≡ true → (stays true p a.outs ≡ true → sees a.next p ≡ true) → row_open (find_row t.rows p) ≡ 0 → Facts e s p t a
last_word e s p t a w last said nil late saw seen none_open = record {
  begins = rw said (grind (arith, last));
  seen_after = seen;
  balance = λ st. rw (said, nil) (grind (arith, last, late, saw));
  opens = λ c st. none_left (open_is t p ∙ grind (arith, none_open));
  votes = λ ks rs n h. rw said (grind (arith, last));
  orders = λ k rs h. rw said (grind (arith, last));
  rollbacks = λ k g h u f. rw said (grind (arith, last));
}
  where
    none_left : open_now t p ≡ 0 → open_now t p ≤ open_now a.next p
    none_left i = omega (arith, i)

fair_last : (e : TxEvent) (s : Transaction) (p : ℕ) (t : Transaction) (a : Turn) (w : DialogueRecord) → is_last w ≡ true → spoken true p a.outs ≡ (if is_under_at t.key p && t.up then w ∷ [] else [])
    → a.next ≡ record t { phase = Phase.Nil } → is_nil t.phase ≡ false → (sees_row (find_row t.rows p) ≡ true → row_open (find_row t.rows p) ≡ 0) → IsFair e s p t a
fair_last e s p t a w last said next late none_open = record {
  same = record { key = ap (λ (u : Transaction). u.key) next; ids = ap (λ (u : Transaction). id_at u p) next };
  facts = λ saw kept.
      last_word e s p t a w last said (ap (λ (u : Transaction). u.phase) next) late saw (λ st. ap (λ (u : Transaction). sees u p) next ∙ saw) (none_open (grind (arith, saw)));
}

pub commit_said : (t : Transaction) (p : ℕ) (r : Report) → spoken true p (forgets (aaid_of t.key) t.rows ++ done_up t r ++ (TxOut.Tell (Indication.CommitComplete r) ∷ []) ++ ends_down t.rows ++ end_up t) ≡ (if is_under_at t.key p && t.up then DialogueRecord.Done r ∷ [] else [])
commit_said t p r =
    let f : List TxOut = forgets (aaid_of t.key) t.rows in
    let d : List TxOut = done_up t r in
    let c : List TxOut = TxOut.Tell (Indication.CommitComplete r) ∷ [] in
    let one : spoken true p (f ++ d) ≡ (if is_under_at t.key p && t.up then DialogueRecord.Done r ∷ [] else []) = spoken_append true p f d ∙ rw (forgets_spoken (aaid_of t.key) p t.rows, forgets_stays (aaid_of t.key) p t.rows) (done_spoken t p r) in
    let two : spoken true p (f ++ d ++ c) ≡ spoken true p (f ++ d) = spoken_append true p (f ++ d) c ∙ ends_nil (spoken true p (f ++ d)) in
    let three : spoken true p (f ++ d ++ c ++ ends_down t.rows) ≡ spoken true p (f ++ d ++ c) = spoken_append true p (f ++ d ++ c) (ends_down t.rows) ∙ rw (closing_spoken (stays true p (f ++ d ++ c)) p t.rows) (ends_nil (spoken true p (f ++ d ++ c))) in
    let four : spoken true p (f ++ d ++ c ++ ends_down t.rows ++ end_up t) ≡ spoken true p (f ++ d ++ c ++ ends_down t.rows) = spoken_append true p (f ++ d ++ c ++ ends_down t.rows) (end_up t) ∙ rw (end_up_spoken (stays true p (f ++ d ++ c ++ ends_down t.rows)) p t) (ends_nil (spoken true p (f ++ d ++ c ++ ends_down t.rows))) in
    four ∙ three ∙ two ∙ one
  where
    ends_nil : (xs : List DialogueRecord) → xs ++ [] ≡ xs
    ends_nil xs = append-nil xs

pub fair_commit : (e : TxEvent) (s : Transaction) (p : ℕ) (t : Transaction) → is_committing t.phase ≡ true → IsFair e s p t (complete_commit t)
unfolding complete_commit
fair_commit e s p t c = go (not t.owes && all_done t.rows) refl
  where
    late : is_nil t.phase ≡ false
    late = grind (arith, c)

    done : (o : Option LogRec) (r : Report) → all_done t.rows ≡ true
        → IsFair e s p t (record { rec = o; outs = forgets (aaid_of t.key) t.rows ++ done_up t r ++ (TxOut.Tell (Indication.CommitComplete r) ∷ []) ++ ends_down t.rows ++ end_up t; completion = completion_of t r; next = record t { phase = Phase.Nil } })
    done o r h = fair_last e s p t (record { rec = o; outs = forgets (aaid_of t.key) t.rows ++ done_up t r ++ (TxOut.Tell (Indication.CommitComplete r) ∷ []) ++ ends_down t.rows ++ end_up t; completion = completion_of t r; next = record t { phase = Phase.Nil } }) (DialogueRecord.Done r) refl (commit_said t p r) refl late (λ k. done_open t.rows p h)

    go : (b : Bool) → (not t.owes && all_done t.rows) ≡ b → IsFair e s p t (if b then (let r : Report = join (own_damage t.decision) (reports_of t.rows) in
        record {
          rec = Some (if is_report_none r then log_end t Outcome.Commit else log_damage t Outcome.Commit r (owed_of t.rows));
          outs = forgets (aaid_of t.key) t.rows ++ done_up t r ++ (TxOut.Tell (Indication.CommitComplete r) ∷ []) ++ ends_down t.rows ++ end_up t;
          completion = completion_of t r;
          next = record t { phase = Phase.Nil };
        }) else turn [] t)
    go true i =
        let r : Report = join (own_damage t.decision) (reports_of t.rows) in
        done (Some (if is_report_none r then log_end t Outcome.Commit else log_damage t Outcome.Commit r (owed_of t.rows))) r (grind (arith, i))
    go false i = fair_outs e s p t [] refl

pub rollback_said : (t : Transaction) (p : ℕ) (r : Report) → spoken true p (carry_up t (DialogueRecord.RolledBack r) ++ (TxOut.Tell (Indication.RollbackComplete r) ∷ [])) ≡ (if is_under_at t.key p && t.up then DialogueRecord.RolledBack r ∷ [] else [])
rollback_said t p r =
    spoken_append true p (carry_up t (DialogueRecord.RolledBack r)) (TxOut.Tell (Indication.RollbackComplete r) ∷ [])
    ∙ append-nil (spoken true p (carry_up t (DialogueRecord.RolledBack r))) ∙ up_spoken t p (DialogueRecord.RolledBack r) refl

pub fair_rollback : (e : TxEvent) (s : Transaction) (p : ℕ) (t : Transaction) → is_rolling t.phase ≡ true → IsFair e s p t (complete_rollback t)
unfolding complete_rollback
fair_rollback e s p t c = go (not t.owes && all_rolled_back t.rows && (t.superior_rolled || not t.up)) refl
  where
    late : is_nil t.phase ≡ false
    late = grind (arith, c)

    go : (b : Bool) → (not t.owes && all_rolled_back t.rows && (t.superior_rolled || not t.up)) ≡ b → IsFair e s p t (if b then (let r : Report = join t.own (reports_of t.rows) in
        turn (carry_up t (DialogueRecord.RolledBack r) ++ (TxOut.Tell (Indication.RollbackComplete r) ∷ [])) (record t { phase = Phase.Nil })) else turn [] t)
    go true i =
        let r : Report = join t.own (reports_of t.rows) in
        fair_last e s p t (turn (carry_up t (DialogueRecord.RolledBack r) ++ (TxOut.Tell (Indication.RollbackComplete r) ∷ [])) (record t { phase = Phase.Nil })) (DialogueRecord.RolledBack r) refl (rollback_said t p r) refl late
        (λ k. rolled_open t.rows p (grind (arith, i)) k)
    go false i = fair_outs e s p t [] refl

pub leave_said : (t : Transaction) (p : ℕ) → spoken true p (carry_up t DialogueRecord.LeftEnd ++ end_up t) ≡ (if is_under_at t.key p && t.up then DialogueRecord.LeftEnd ∷ [] else [])
leave_said t p =
    spoken_append true p (carry_up t DialogueRecord.LeftEnd) (end_up t) ∙ rw (end_up_spoken (stays true p (carry_up t DialogueRecord.LeftEnd)) p t) (append-nil (spoken true p (carry_up t DialogueRecord.LeftEnd)) ∙ up_spoken t p DialogueRecord.LeftEnd refl)

pub fair_leave : (e : TxEvent) (s : Transaction) (p : ℕ) (t : Transaction) → is_active t.phase ≡ true → all_left t.rows ≡ true → IsFair e s p t (leave t)
unfolding leave
fair_leave e s p t c all = go t.up_ends
  where
    late : is_nil t.phase ≡ false
    late = grind (arith, c)

    go : (b : Bool) → IsFair e s p t (turn (if b then carry_up t DialogueRecord.LeftEnd ++ end_up t else carry_up t DialogueRecord.Left) (record t { phase = Phase.Nil }))
    go true =
        fair_last e s p t (turn (carry_up t DialogueRecord.LeftEnd ++ end_up t) (record t { phase = Phase.Nil })) DialogueRecord.LeftEnd refl (leave_said t p) refl late (λ k. left_open t.rows p all)
    go false = fair_last e s p t (turn (carry_up t DialogueRecord.Left) (record t { phase = Phase.Nil })) DialogueRecord.Left refl (up_spoken t p DialogueRecord.Left refl) refl late (λ k. left_open t.rows p all)
