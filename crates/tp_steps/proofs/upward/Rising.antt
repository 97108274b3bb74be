-- What every event of a transaction says to its superior stands in order: an instance of the steps of a turn.
use Rattle.std.proofs.Common.{if◌then◌else◌, ◌≡◌, ◌⊎◌, inl, inr, ℕ, Bool, true, false, refl, ap, sym, subst, ◌∙◌, arith, Option, Some, None, List, [], ◌∷◌, ◌++◌, ◌&&◌, ◌||◌, ◌==◌, not, slice_get, ◌+◌}
use Rattle.std.proofs.lemmas.List.{append-nil}
use Rattle.tp_names.specs.declared.identifiers.Aaid.{Aaid}
use Rattle.tp_names.specs.declared.outcome.Outcome.{Outcome}
use Rattle.tp_names.specs.declared.outcome.Report.{Report}
use Rattle.tp_names.specs.Reports.{is_report_none, join}
use Rattle.tp_records.specs.declared.request.Request.{Request}
use Rattle.tp_records.specs.declared.indication.Indication.{Indication}
use Rattle.tp_records.specs.declared.dialogue.DialogueRecord.{DialogueRecord}
use Rattle.tp_logrec.specs.declared.record.LogRec.{LogRec}
use Rattle.tp_model.specs.declared.arc.Phase.{Phase}
use Rattle.tp_model.specs.declared.transaction.TxEvent.{TxEvent}
use Rattle.tp_model.specs.declared.transaction.TxOut.{TxOut}
use Rattle.tp_model.specs.Parts.{Key, Root, Under}
use Rattle.tp_model.specs.Dialogues.{is_nil, is_active, is_committing, is_rolling}
use Rattle.tp_model.specs.Transactions.{Row, Transaction, Turn, turn, and_then, aaid_of, is_under_at, all_done, all_rolled_back, reports_of, owed_of, own_damage, log_end, log_damage, carry_up, carry_down, done_up, forgets, ends_down, end_up, tell_report, prepare_each, ask_each, retried, complete_commit, complete_rollback, begin_rolling, order, ask_commit, leave, count_branch, end_branch, branch_left, transacted, completion_of, part_by_part}
use Rattle.tp_steps.specs.Turns.{Turns, vote, decide, falls, loses}
use Rattle.tp_steps.specs.Moves.{IsPut}
use Rattle.tp_steps.specs.Passages.{is_commit_rec, asks_tell, IsPassed}
use Rattle.tp_steps.specs.Clearing.{is_complete_none, same_report, is_complete}
use Rattle.tp_steps.specs.Owing.{is_damage_rec}
use Rattle.tp_steps.specs.Facts.{is_rollback, is_end, ends_in, none_of, spoken, stays, id_at, sees, BranchKey, HasPlace, IsFair, Facts}
use Rattle.tp_steps.specs.Upward.{voting, voting_from, each_up, Deeds, holds_at, may_say, Votes, Tells, Rises, IsRising}
use Rattle.tp_steps.proofs.every.EveryTurn.{every_turn}
use Rattle.tp_steps.proofs.lemmas.Phases.{was_active, tell_append}
use Rattle.tp_steps.proofs.lemmas.Words.{spoken_append, stays_append, dead_spoken, dead_stays}
use Rattle.tp_steps.proofs.words.Fair.{row_phase, id_is, place_then}
use Rattle.tp_steps.proofs.words.Leaves.{up_spoken, up_stays, down_none, commit_said, rollback_said, leave_said}
use Rattle.tp_steps.proofs.words.FairTurns.{fair_turns, lost_phase}
use Rattle.tp_steps.proofs.log.Passed.{passed_turns, later_rec}
use Rattle.tp_steps.proofs.lemmas.Equality.{or_case, both_true}
use Rattle.tp_steps.proofs.lemmas.UpwardWords.{up_append, voting_append, is_upward, is_telling, none_telling, none_up, none_voting}

-- ---- outputs that carry no such record

abbrev pub carries_none : (DialogueRecord → Bool) → List TxOut → Bool
carries_none f [] = true
carries_none f (TxOut.Carry q r ∷ outs) = not (f r) && carries_none f outs
carries_none f (_ ∷ outs) = carries_none f outs

pub none_spoken : (f : DialogueRecord → Bool) (b : Bool) (p : ℕ) (outs : List TxOut) → carries_none f outs ≡ true → none_of f (spoken b p outs) ≡ true
none_spoken f b p [] h = refl
none_spoken f b p (TxOut.Tell i ∷ outs) h = none_spoken f b p outs h
none_spoken f b p (TxOut.Carry q r ∷ outs) h = let rest = none_spoken f b p outs in grind (arith, h, rest)
none_spoken f b p (TxOut.Shut q ∷ outs) h = none_spoken f (b && not (q == p)) p outs h
none_spoken f b p (TxOut.Recovery a r ∷ outs) h = none_spoken f b p outs h
none_spoken f b p (TxOut.Close q ∷ outs) h = none_spoken f (b && not (q == p)) p outs h

pub carries_append : (f : DialogueRecord → Bool) (xs ys : List TxOut) → carries_none f (xs ++ ys) ≡ (carries_none f xs && carries_none f ys)
carries_append f [] ys = refl
carries_append f (x ∷ xs) ys = grind (arith, carries_append f xs ys)

pub carries_up : (f : DialogueRecord → Bool) (t : Transaction) (r : DialogueRecord) → f r ≡ false → carries_none f (carry_up t r) ≡ true
carries_up f t r h = grind (arith, h)

pub carries_down : (f : DialogueRecord → Bool) (rows : List Row) (r : DialogueRecord) → f r ≡ false → carries_none f (carry_down rows r) ≡ true
carries_down f [] r h = refl
carries_down f (w ∷ rows) r h = grind (arith, carries_down f rows r h, h)

pub carries_prepare : (f : DialogueRecord → Bool) (rows : List Row) → f DialogueRecord.Prepare ≡ false → carries_none f (prepare_each rows) ≡ true
carries_prepare f [] h = refl
carries_prepare f (w ∷ rows) h = grind (arith, carries_prepare f rows h, h)

pub carries_ask : (f : DialogueRecord → Bool) (a : Aaid) (rows : List Row) → carries_none f (ask_each a rows) ≡ true
carries_ask f a [] = refl
carries_ask f a (w ∷ rows) = grind (arith, carries_ask f a rows)

pub carries_retried : (f : DialogueRecord → Bool) (t : Transaction) → carries_none f (retried t) ≡ true
carries_retried f t = let a = carries_ask f (aaid_of t.key) t.rows in grind (arith, carries_append f, a)

pub carries_rolling : (f : DialogueRecord → Bool) (asked : Bool) (t : Transaction) → f DialogueRecord.Rollback ≡ false → carries_none f (begin_rolling asked t).outs ≡ true
unfolding begin_rolling
carries_rolling f asked t h =
    let up = carries_up f t DialogueRecord.Rollback h in
    let down = carries_down f t.rows DialogueRecord.Rollback h in
    grind (arith, carries_append f, up, down)

pub carries_order : (f : DialogueRecord → Bool) (t : Transaction) → f DialogueRecord.Commit ≡ false → carries_none f (order t).outs ≡ true
unfolding order
carries_order f t h = let down = carries_down f t.rows DialogueRecord.Commit h in grind (arith, carries_append f, down)

-- ---- steps that say nothing upwards that matters

quiet_votes : (e : TxEvent) (s : Transaction) (p : ℕ) (t : Transaction) (a : Turn) → IsPassed e s t a → none_of is_upward (spoken true p a.outs) ≡ true → (is_nil t.phase ≡ false → is_nil a.next.phase ≡ false) → (v : Bool) → Votes v t p
    → Votes (voting_from v (spoken true p a.outs)) a.next p
quiet_votes e s p t a passed quiet late v w =
    subst (λ (u : Bool). Votes u a.next p) (sym (none_voting v (spoken true p a.outs) quiet)) (λ i. let x = w i in (late x.0, ap (λ (k : Key). is_under_at k p) passed.key ∙ x.1, still x.2))
  where
    still : is_active t.phase ≡ false → is_active a.next.phase ≡ false
    still h = go (is_active a.next.phase) refl
      where
        go : (b : Bool) → is_active a.next.phase ≡ b → is_active a.next.phase ≡ false
        go false i = i
        go true i = absurd (cc (h, was_active t.phase a.next.phase passed.moves i))

rise_quiet : (e : TxEvent) (s : Transaction) (p : ℕ) (t : Transaction) (a : Turn) → IsFair e s p t a → IsPassed e s t a → carries_none is_telling a.outs ≡ true → (is_nil t.phase ≡ false → is_nil a.next.phase ≡ false) → IsRising e s p t a
rise_quiet e s p t a fair passed none late = record {
  fair = fair;
  passed = passed;
  rises = λ saw kept. record {
    words = λ ks g n v free place w k. none_up ks g n v (spoken true p a.outs) quiet;
    votes = λ v w st. quiet_votes e s p t a passed (none_telling (spoken true p a.outs) quiet) late v w;
  };
}
  where
    quiet : none_of is_telling (spoken true p a.outs) ≡ true
    quiet = none_spoken is_telling true p a.outs none

same_late : (t u : Transaction) → u.phase ≡ t.phase → is_nil t.phase ≡ false → is_nil u.phase ≡ false
same_late t u same h = ap is_nil same ∙ h

-- ---- the last word

rise_last : (e : TxEvent) (s : Transaction) (p : ℕ) (t : Transaction) (a : Turn) (w : DialogueRecord) → IsFair e s p t a → IsPassed e s t a → is_end w ≡ true
    → spoken true p a.outs ≡ (if is_under_at t.key p && t.up then w ∷ [] else []) → is_nil t.phase ≡ false
    → ((ks : List BranchKey) (g : Deeds) (n : ℕ) (v : Bool) → HasPlace ks n t p → Votes v t p → Tells g e s t a → is_under_at t.key p ≡ true → may_say ks g n v w ≡ true) → IsRising e s p t a
rise_last e s p t a w fair passed last said late say = record {
  fair = fair;
  passed = passed;
  rises = λ saw kept. record {
    words = λ ks g n v free place u k. rw said (words ks g n v place u k (is_under_at t.key p && t.up) refl);
    votes = λ v u st. rw said (votes v u saw (is_under_at t.key p && t.up) refl);
  };
}
  where
    words : (ks : List BranchKey) (g : Deeds) (n : ℕ) (v : Bool) → HasPlace ks n t p → Votes v t p → Tells g e s t a → (b : Bool) → (is_under_at t.key p && t.up) ≡ b
        → each_up (may_say ks g) n v (if b then w ∷ [] else []) ≡ true
    words ks g n v place u k false i = refl
    words ks g n v place u k true i = let under : is_under_at t.key p ≡ true = grind (arith, i) in rw (say ks g n v place u k under) refl

    votes : (v : Bool) → Votes v t p → sees t p ≡ true → (b : Bool) → (is_under_at t.key p && t.up) ≡ b → Votes (voting_from v (if b then w ∷ [] else [])) a.next p
    votes v u saw true i = λ h. absurd (grind (arith, h, last))
    votes v u saw false i = λ h. let x = u h in let under = x.1 in absurd (grind (arith, saw, i, under))

key_tree : (t : Transaction) (ks : List BranchKey) (n p : ℕ) (g : Aaid → Bool) → HasPlace ks n t p → is_nil t.phase ≡ false → is_under_at t.key p ≡ true → g (aaid_of t.key) ≡ true → holds_at ks n g ≡ true
key_tree t ks n p g place late under h = go t.key refl
  where
    go : (k : Key) → t.key ≡ k → holds_at ks n g ≡ true
    go (Root a) i = absurd (grind (arith, under, i))
    go (Under a b w) i =
        let at : slice_get ks n ≡ Some (a, b) = place a b w late i under in
        let tree : g a ≡ true = ap (λ (k : Key). g (aaid_of k)) (sym i) ∙ h in
        rw (at, holds_at) tree

-- ---- the rules

rise_vote : (e : TxEvent) (s : Transaction) (p : ℕ) (t : Transaction) → IsFair e s p t (vote t) → IsPassed e s t (vote t) → is_active t.phase ≡ true → IsRising e s p t (vote t)
rise_vote e s p t fair passed act = record {
  fair = fair;
  passed = passed;
  rises = λ saw kept. record {
    words = λ ks g n v free place w k. rw said (words ks g n v w (is_under_at t.key p && t.up));
    votes = λ v w st. rw said (votes v w (is_under_at t.key p && t.up) refl);
  };
}
  where
    said : spoken true p (carry_up t DialogueRecord.Ready) ≡ (if is_under_at t.key p && t.up then DialogueRecord.Ready ∷ [] else [])
    said = up_spoken t p DialogueRecord.Ready refl

    silent : (v : Bool) → Votes v t p → v ≡ false
    silent false w = refl
    silent true w = absurd (cc (act, (w refl).2))

    words : (ks : List BranchKey) (g : Deeds) (n : ℕ) (v : Bool) → Votes v t p → (b : Bool) → each_up (may_say ks g) n v (if b then DialogueRecord.Ready ∷ [] else []) ≡ true
    words ks g n v w false = refl
    words ks g n v w true = rw (silent v w) refl

    votes : (v : Bool) → Votes v t p → (b : Bool) → (is_under_at t.key p && t.up) ≡ b → Votes (voting_from v (if b then DialogueRecord.Ready ∷ [] else [])) (record t { phase = Phase.Ready }) p
    votes v w true i = λ h. (refl, grind (arith, i), refl)
    votes v w false i = λ h. absurd (cc (act, (w h).2))

-- what stands among outputs is told
pub told_in : (f : Indication → Bool) (i : Indication) (xs ys zs ws : List TxOut) → f i ≡ true → asks_tell f (xs ++ ys ++ (TxOut.Tell i ∷ []) ++ zs ++ ws) ≡ true
told_in f i xs ys zs ws h =
    tell_append f (xs ++ ys ++ (TxOut.Tell i ∷ []) ++ zs) ws
    ∙ rw (tell_append f (xs ++ ys ++ (TxOut.Tell i ∷ [])) zs, tell_append f (xs ++ ys) (TxOut.Tell i ∷ []), h) (any (asks_tell f (xs ++ ys)) (asks_tell f zs) (asks_tell f ws))
  where
    any : (a b c : Bool) → (((a || (true || false)) || b) || c) ≡ true
    any a b c = grind arith

pub report_self : (r : Report) → same_report r r ≡ true
report_self Report.None = refl
report_self Report.Hazard = refl
report_self Report.Mix = refl

rise_commit : (e : TxEvent) (s : Transaction) (p : ℕ) (t : Transaction) → IsFair e s p t (complete_commit t) → IsPassed e s t (complete_commit t) → is_committing t.phase ≡ true → IsRising e s p t (complete_commit t)
unfolding complete_commit
rise_commit e s p t fair passed c = go (not t.owes && all_done t.rows) fair passed
  where
    late : is_nil t.phase ≡ false
    late = grind (arith, c)

    over : Report → Turn
    over r = record {
      rec = Some (if is_report_none r then log_end t Outcome.Commit else log_damage t Outcome.Commit r (owed_of t.rows));
      outs = forgets (aaid_of t.key) t.rows ++ done_up t r ++ (TxOut.Tell (Indication.CommitComplete r) ∷ []) ++ ends_down t.rows ++ end_up t;
      completion = completion_of t r;
      next = record t { phase = Phase.Nil };
    }

    clear : (ks : List BranchKey) (g : Deeds) (n : ℕ) (r : Report) (b : Bool) → is_report_none r ≡ b → HasPlace ks n t p → Tells g e s t (over r) → is_under_at t.key p ≡ true → (not (is_report_none r) || holds_at ks n g.completed) ≡ true
    clear ks g n r false i place k under = rw i refl
    clear ks g n r true i place k under =
        let told : asks_tell is_complete_none (over r).outs ≡ true = told_in is_complete_none (Indication.CommitComplete r) (forgets (aaid_of t.key) t.rows) (done_up t r) (ends_down t.rows) (end_up t) i in
        rw i (key_tree t ks n p g.completed place late under (k.completes told))

    spoilt : (ks : List BranchKey) (g : Deeds) (n : ℕ) (r : Report) (b : Bool) → is_report_none r ≡ b → HasPlace ks n t p → Tells g e s t (over r) → is_under_at t.key p ≡ true → (is_report_none r || holds_at ks n g.damaged) ≡ true
    spoilt ks g n r true i place k under = rw i refl
    spoilt ks g n r false i place k under = let kept : is_damage_rec (over r).rec ≡ true = rw i refl in rw i (key_tree t ks n p g.damaged place late under (k.damages kept))

    go : (b : Bool) → IsFair e s p t (if b then over (join (own_damage t.decision) (reports_of t.rows)) else turn [] t) → IsPassed e s t (if b then over (join (own_damage t.decision) (reports_of t.rows)) else turn [] t)
        → IsRising e s p t (if b then over (join (own_damage t.decision) (reports_of t.rows)) else turn [] t)
    go false f q = rise_quiet e s p t (turn [] t) f q refl (λ h. h)
    go true f q =
        let r : Report = join (own_damage t.decision) (reports_of t.rows) in
        rise_last e s p t (over r) (DialogueRecord.Done r) f q refl (commit_said t p r) late
        (λ ks g n v place w k under.
        both_true (holds_at ks n g.committed && (not (is_report_none r) || holds_at ks n g.completed) && (is_report_none r || holds_at ks n g.damaged)) (holds_at ks n (g.told Outcome.Commit r))
        (both_true (holds_at ks n g.committed && (not (is_report_none r) || holds_at ks n g.completed)) (is_report_none r || holds_at ks n g.damaged)
        (both_true (holds_at ks n g.committed) (not (is_report_none r) || holds_at ks n g.completed) (key_tree t ks n p g.committed place late under (k.committing c)) (clear ks g n r (is_report_none r) refl place k under))
        (spoilt ks g n r (is_report_none r) refl place k under))
        (key_tree t ks n p (g.told Outcome.Commit r) place late under
        (k.tells Outcome.Commit r (told_in (is_complete Outcome.Commit r) (Indication.CommitComplete r) (forgets (aaid_of t.key) t.rows) (done_up t r) (ends_down t.rows) (end_up t) (report_self r)))))

rise_rollback : (e : TxEvent) (s : Transaction) (p : ℕ) (t : Transaction) → IsFair e s p t (complete_rollback t) → IsPassed e s t (complete_rollback t) → is_rolling t.phase ≡ true → IsRising e s p t (complete_rollback t)
unfolding complete_rollback
rise_rollback e s p t fair passed c = go (not t.owes && all_rolled_back t.rows && (t.superior_rolled || not t.up)) fair passed
  where
    late : is_nil t.phase ≡ false
    late = grind (arith, c)

    over : Report → Turn
    over r = turn (carry_up t (DialogueRecord.RolledBack r) ++ (TxOut.Tell (Indication.RollbackComplete r) ∷ [])) (record t { phase = Phase.Nil })

    last : (a b : Bool) → b ≡ true → (a || (b || false)) ≡ true
    last a b h = rw h (grind arith)

    go : (b : Bool) → IsFair e s p t (if b then over (join t.own (reports_of t.rows)) else turn [] t) → IsPassed e s t (if b then over (join t.own (reports_of t.rows)) else turn [] t)
        → IsRising e s p t (if b then over (join t.own (reports_of t.rows)) else turn [] t)
    go false f q = rise_quiet e s p t (turn [] t) f q refl (λ h. h)
    go true f q =
        let r : Report = join t.own (reports_of t.rows) in
        rise_last e s p t (over r) (DialogueRecord.RolledBack r) f q refl (rollback_said t p r) late
        (λ ks g n v place w k under.
        both_true (holds_at ks n g.rolled) (holds_at ks n (g.told Outcome.Rollback r)) (key_tree t ks n p g.rolled place late under (k.rolling c))
        (key_tree t ks n p (g.told Outcome.Rollback r) place late under
        (k.tells Outcome.Rollback r (tell_append (is_complete Outcome.Rollback r) (carry_up t (DialogueRecord.RolledBack r)) (TxOut.Tell (Indication.RollbackComplete r) ∷ []) ∙ last (asks_tell (is_complete Outcome.Rollback r) (carry_up t (DialogueRecord.RolledBack r))) (same_report r r) (report_self r)))))

silent_active : (v : Bool) (t : Transaction) (p : ℕ) → is_active t.phase ≡ true → Votes v t p → not v ≡ true
silent_active false t p act w = refl
silent_active true t p act w = absurd (cc (act, (w refl).2))

rise_leave : (e : TxEvent) (s : Transaction) (p : ℕ) (t : Transaction) → IsFair e s p t (leave t) → IsPassed e s t (leave t) → e ≡ TxEvent.User Request.Unchanged → is_active t.phase ≡ true → IsRising e s p t (leave t)
unfolding leave
rise_leave e s p t fair passed is act = go t.up_ends fair passed
  where
    late : is_nil t.phase ≡ false
    late = grind (arith, act)

    go : (b : Bool) → IsFair e s p t (turn (if b then carry_up t DialogueRecord.LeftEnd ++ end_up t else carry_up t DialogueRecord.Left) (record t { phase = Phase.Nil }))
        → IsPassed e s t (turn (if b then carry_up t DialogueRecord.LeftEnd ++ end_up t else carry_up t DialogueRecord.Left) (record t { phase = Phase.Nil }))
        → IsRising e s p t (turn (if b then carry_up t DialogueRecord.LeftEnd ++ end_up t else carry_up t DialogueRecord.Left) (record t { phase = Phase.Nil }))
    go true f q =
        rise_last e s p t (turn (carry_up t DialogueRecord.LeftEnd ++ end_up t) (record t { phase = Phase.Nil })) DialogueRecord.LeftEnd f q refl (leave_said t p) late
        (λ ks g n v place w k under. both_true (not v) (holds_at ks n g.left) (silent_active v t p act w) (key_tree t ks n p g.left place late under (k.leaves is)))
    go false f q =
        rise_last e s p t (turn (carry_up t DialogueRecord.Left) (record t { phase = Phase.Nil })) DialogueRecord.Left f q refl (up_spoken t p DialogueRecord.Left refl) late
        (λ ks g n v place w k under. both_true (not v) (holds_at ks n g.left) (silent_active v t p act w) (key_tree t ks n p g.left place late under (k.leaves is)))

rise_same : (e : TxEvent) (s : Transaction) (p : ℕ) (t : Transaction) (outs : List TxOut) (u : Transaction) → IsFair e s p t (turn outs u) → IsPassed e s t (turn outs u) → carries_none is_telling outs ≡ true → u.phase ≡ t.phase → IsRising e s p t (turn outs u)
rise_same e s p t outs u fair passed none same = rise_quiet e s p t (turn outs u) fair passed none (same_late t u same)

rise_ask : (e : TxEvent) (s : Transaction) (p : ℕ) (t : Transaction) → IsFair e s p t (ask_commit t) → IsPassed e s t (ask_commit t) → IsRising e s p t (ask_commit t)
unfolding ask_commit
rise_ask e s p t fair passed = rise_quiet e s p t (ask_commit t) fair passed (carries_prepare is_telling t.rows refl) (λ h. h)

rise_count : (e : TxEvent) (s : Transaction) (p q : ℕ) (t : Transaction) → IsFair e s p t (count_branch q t) → IsPassed e s t (count_branch q t) → IsRising e s p t (count_branch q t)
unfolding count_branch
rise_count e s p q t fair passed = rise_same e s p t _ _ fair passed refl (row_phase t q _)

pub report_none : (f : DialogueRecord → Bool) (q : ℕ) (r : Report) → carries_none f (tell_report q r) ≡ true
report_none f q r = grind arith

rise_end : (e : TxEvent) (s : Transaction) (p q : ℕ) (r : Report) (t : Transaction) → IsFair e s p t (end_branch q r t) → IsPassed e s t (end_branch q r t) → IsRising e s p t (end_branch q r t)
unfolding end_branch
rise_end e s p q r t fair passed = rise_same e s p t _ _ fair passed (report_none is_telling q r) (row_phase t q _)

rise_left : (e : TxEvent) (s : Transaction) (p q : ℕ) (t : Transaction) → IsFair e s p t (branch_left q t) → IsPassed e s t (branch_left q t) → IsRising e s p t (branch_left q t)
unfolding branch_left
rise_left e s p q t fair passed = rise_same e s p t _ _ fair passed refl (row_phase t q _)

rolls_late : (asked : Bool) (t : Transaction) → is_nil (begin_rolling asked t).next.phase ≡ false
unfolding begin_rolling
rolls_late asked t = refl

order_late : (t : Transaction) → is_nil (order t).next.phase ≡ false
unfolding order
order_late t = refl

abbrev is_other : DialogueRecord → Bool
is_other r = not (is_rollback r)

-- where all that is said is Rollback, of a tree that rolled
rollbacks_told : (ks : List BranchKey) (g : Deeds) (n : ℕ) (v : Bool) (ws : List DialogueRecord) → none_of is_other ws ≡ true → holds_at ks n g.rolled ≡ true → each_up (may_say ks g) n v ws ≡ true
rollbacks_told ks g n v [] h r = refl
rollbacks_told ks g n v (DialogueRecord.Rollback ∷ ws) h r =
    let zero_n : 0 + n ≡ n = omega arith in
    let same : voting v DialogueRecord.Rollback ≡ v = grind arith in
    both_true (holds_at ks n g.rolled) (each_up (may_say ks g) (0 + n) (voting v DialogueRecord.Rollback) ws) r (rw (zero_n, same) (rollbacks_told ks g n v ws h r))
rollbacks_told ks g n v (w ∷ ws) h r = absurd (cc (h))

-- a peer that is neither the superior nor a branch hears nothing
rolls_silent : (asked : Bool) (t : Transaction) (p : ℕ) → is_under_at t.key p ≡ false → id_at t p ≡ None → spoken true p (begin_rolling asked t).outs ≡ []
unfolding begin_rolling
rolls_silent asked t p off free =
    spoken_append true p (told ++ up) down
    ∙ rw (spoken_append true p told up, stays_append true p told up, (told_none asked).0, (told_none asked).1, none_up, up_stays t p DialogueRecord.Rollback, down_none p t.rows DialogueRecord.Rollback (sym (id_is t p) ∙ free)) refl
  where
    told : List TxOut
    told = if asked then [] else TxOut.Tell Indication.Rollback ∷ []

    up : List TxOut
    up = carry_up t DialogueRecord.Rollback

    down : List TxOut
    down = carry_down t.rows DialogueRecord.Rollback

    told_none : (b : Bool) → (spoken true p (if b then [] else TxOut.Tell Indication.Rollback ∷ []) ≡ []) × (stays true p (if b then [] else TxOut.Tell Indication.Rollback ∷ []) ≡ true)
    told_none true = (refl, refl)
    told_none false = (refl, refl)

    none_up : spoken true p up ≡ []
    none_up = up_spoken t p DialogueRecord.Rollback refl ∙ rw off refl

rise_rolls : (e : TxEvent) (s : Transaction) (p : ℕ) (t : Transaction) (asked : Bool) → falls e s ≡ true → is_nil t.phase ≡ false → IsFair e s p t (begin_rolling asked t) → IsPassed e s t (begin_rolling asked t) → IsRising e s p t (begin_rolling asked t)
rise_rolls e s p t asked fall late fair passed = record {
  fair = fair;
  passed = passed;
  rises = λ saw kept. record {
    words = λ ks g n v free place w k. go ks g n v free place k (is_under_at t.key p) refl;
    votes = λ v w st. quiet_votes e s p t (begin_rolling asked t) passed (none_spoken is_upward true p (begin_rolling asked t).outs (carries_rolling is_upward asked t refl)) (λ h. rolls_late asked t) v w;
  };
}
  where
    go : (ks : List BranchKey) (g : Deeds) (n : ℕ) (v : Bool) → id_at t p ≡ None → HasPlace ks n t p → Tells g e s t (begin_rolling asked t) → (b : Bool) → is_under_at t.key p ≡ b → each_up (may_say ks g) n v (spoken true p (begin_rolling asked t).outs) ≡ true
    go ks g n v free place k true under =
        rollbacks_told ks g n v (spoken true p (begin_rolling asked t).outs) (none_spoken is_other true p (begin_rolling asked t).outs (carries_rolling is_other asked t refl)) (key_tree t ks n p g.rolled place late under (k.falls fall))
    go ks g n v free place k false off = rw (rolls_silent asked t p off free) refl

rise_order : (e : TxEvent) (s : Transaction) (p : ℕ) (t : Transaction) → IsFair e s p t (order t) → IsPassed e s t (order t) → IsRising e s p t (order t)
rise_order e s p t fair passed = rise_quiet e s p t (order t) fair passed (carries_order is_telling t refl) (λ h. order_late t)

pub given_up_none : (f : DialogueRecord → Bool) (b : Bool) (q : ℕ) → carries_none f (if b then TxOut.Shut q ∷ [] else []) ≡ true
given_up_none f true q = refl
given_up_none f false q = refl

-- ---- chains

rise_then : (e : TxEvent) (s : Transaction) (p : ℕ) (t : Transaction) (a b : Turn) (r : Option LogRec) → (a.rec ≡ None) × (r ≡ b.rec) ⊎ (b.rec ≡ None) × (r ≡ a.rec) → IsRising e s p t a → IsRising e s p a.next b
    → sees t p ≡ true → loses e p ≡ false → Rises e s p t (record { rec = r; outs = a.outs ++ b.outs; completion = part_by_part a.completion b.completion; next = b.next })
rise_then e s p t a b r which one two saw kept = go (stays true p a.outs) refl
  where
    m : Turn
    m = record { rec = r; outs = a.outs ++ b.outs; completion = part_by_part a.completion b.completion; next = b.next }

    first : Rises e s p t a
    first = one.rises saw kept

    facts : Facts e s p t a
    facts = one.fair.facts saw kept

    tree : (g : Aaid → Bool) → g (aaid_of t.key) ≡ true → g (aaid_of a.next.key) ≡ true
    tree g h = ap (λ (k : Key). g (aaid_of k)) one.passed.key ∙ h

    tells_first : (g : Deeds) → Tells g e s t m → Tells g e s t a
    tells_first g k = record {
      committing = k.committing;
      commits = λ h. elim which [ inl i ↦ absurd (cc (ap is_commit_rec i.0, h)) | inr i ↦ k.commits (ap is_commit_rec i.1 ∙ h) ];
      rolling = k.rolling;
      falls = k.falls;
      leaves = k.leaves;
      completes = λ h. k.completes (tell_append is_complete_none a.outs b.outs ∙ rw h refl);
      damages = λ h. elim which [ inl i ↦ absurd (cc (ap is_damage_rec i.0, h)) | inr i ↦ k.damages (ap is_damage_rec i.1 ∙ h) ];
      tells = λ u x h. k.tells u x (tell_append (is_complete u x) a.outs b.outs ∙ rw h refl);
    }

    tells_second : (g : Deeds) → Tells g e s t m → Tells g e s a.next b
    tells_second g k = record {
      committing = λ h. tree g.committed (elim (or_case (is_committing t.phase) (is_commit_rec a.rec) (one.passed.commits h)) [ inl i ↦ k.committing i | inr i ↦ (tells_first g k).commits i ]);
      commits = λ h. tree g.committed (elim which [ inl i ↦ k.commits (ap is_commit_rec i.1 ∙ h) | inr i ↦ absurd (cc (ap is_commit_rec i.0, h)) ]);
      rolling = λ h. tree g.rolled (elim (or_case (is_rolling t.phase) (falls e s) (one.passed.rolling h)) [ inl i ↦ k.rolling i | inr i ↦ k.falls i ]);
      falls = λ h. tree g.rolled (k.falls h);
      leaves = λ h. tree g.left (k.leaves h);
      completes = λ h. tree g.completed (k.completes (tell_append is_complete_none a.outs b.outs ∙ rw h (grind arith)));
      damages = λ h. tree g.damaged (elim which [ inl i ↦ k.damages (ap is_damage_rec i.1 ∙ h) | inr i ↦ absurd (cc (ap is_damage_rec i.0, h)) ]);
      tells = λ u x h. tree (g.told u x) (k.tells u x (tell_append (is_complete u x) a.outs b.outs ∙ rw h (grind arith)));
    }

    go : (c : Bool) → stays true p a.outs ≡ c → Rises e s p t m
    go false i =
        let words : spoken true p m.outs ≡ spoken true p a.outs = spoken_append true p a.outs b.outs ∙ rw (i, dead_spoken p b.outs) (append-nil (spoken true p a.outs)) in
        let gone : stays true p m.outs ≡ false = stays_append true p a.outs b.outs ∙ rw i (dead_stays p b.outs) in
        record {
          words = λ ks g n v free place w k. rw words (first.words ks g n v free place w (tells_first g k));
          votes = λ v w st. absurd (cc (gone, st));
        }
    go true i =
        let second : Rises e s p a.next b = two.rises (facts.seen_after i) kept in
        let words : spoken true p m.outs ≡ spoken true p a.outs ++ spoken true p b.outs = spoken_append true p a.outs b.outs ∙ rw i refl in
        let live : stays true p m.outs ≡ stays true p b.outs = stays_append true p a.outs b.outs ∙ rw i refl in
        record {
          words = λ ks g n v free place w k.
              rw (words, up_append (may_say ks g) n v (spoken true p a.outs) (spoken true p b.outs))
              (both_true (each_up (may_say ks g) n v (spoken true p a.outs)) (each_up (may_say ks g) (ends_in (spoken true p a.outs) + n) (voting_from v (spoken true p a.outs)) (spoken true p b.outs))
              (first.words ks g n v free place w (tells_first g k))
              (second.words ks g (ends_in (spoken true p a.outs) + n) (voting_from v (spoken true p a.outs)) (one.fair.same.ids ∙ free) (place_then ks n p t a.next (ends_in (spoken true p a.outs)) one.passed.key (facts.balance i) place) (first.votes v w i) (tells_second g k)));
          votes = λ v w st. rw (words, voting_append v (spoken true p a.outs) (spoken true p b.outs)) (second.votes (voting_from v (spoken true p a.outs)) (first.votes v w i) (sym live ∙ st));
        }

-- ---- the steps

rising_turns : (e : TxEvent) (s : Transaction) (p : ℕ) → Turns e s (IsFair e s p) → Turns e s (IsPassed e s) → Turns e s (IsRising e s p)
rising_turns e s p f q = record {
  still = λ t. rise_same e s p t [] t (f.still t) (q.still t) refl refl;
  first = λ t u outs a one two. record {
    fair = f.first t u outs a one.fair two.fair;
    passed = q.first t u outs a one.passed two.passed;
    rises = λ saw kept. rise_then e s p t (turn outs u) a a.rec (inl (refl, refl)) one two saw kept;
  };
  chain = λ t a k one two none. record {
    fair = f.chain t a k one.fair two.fair none;
    passed = q.chain t a k one.passed two.passed none;
    rises = λ saw kept. rise_then e s p t a (k a.next) (and_then a k).rec (later_rec a.rec (k a.next).rec none) one two saw kept;
  };
  tells = λ t i n. rise_same e s p t (TxOut.Tell i ∷ []) t (f.tells t i n) (q.tells t i n) refl refl;
  notes_prepare = λ pr cl. rise_same e s p s _ _ (f.notes_prepare pr cl) (q.notes_prepare pr cl) refl refl;
  notes_done = λ is. rise_same e s p s _ _ (f.notes_done is) (q.notes_done is) refl refl;
  notes_end = λ k is. rise_same e s p s _ _ (f.notes_end k is) (q.notes_end k is) refl refl;
  notes_rollback = λ ro cl. rise_same e s p s _ _ (f.notes_rollback ro cl) (q.notes_rollback ro cl) refl refl;
  defers_end = λ k is. rise_same e s p s _ _ (f.defers_end k is) (q.defers_end k is) refl (row_phase s k _);
  defers_grant = λ k is. rise_same e s p s _ _ (f.defers_grant k is) (q.defers_grant k is) refl refl;
  prepares = λ k. rise_same e s p s _ _ (f.prepares k) (q.prepares k) refl (row_phase s k _);
  asks = λ is act asked told. rise_ask e s p s (f.asks is act asked told) (q.asks is act asked told);
  asks_again = rise_same e s p s _ _ f.asks_again q.asks_again (carries_retried is_telling s) refl;
  decides = λ o is ready. rise_quiet e s p s (decide o s) (f.decides o is ready) (q.decides o is ready) refl (λ h. h);
  aborts = λ k is. rise_same e s p s _ _ (f.aborts k is) (q.aborts k is) refl (lost_phase s k);
  loses_arc = λ k gone. rise_same e s p s _ _ (f.loses_arc k gone) (q.loses_arc k gone) refl (lost_phase s k);
  closes_left = λ k is. rise_same e s p s _ _ (f.closes_left k is) (q.closes_left k is) refl (row_phase s k _);
  gives_up = λ k r is c found. rise_same e s p s _ _ (f.gives_up k r is c found) (q.gives_up k r is c found) (given_up_none is_telling r.live k) (row_phase s k _);
  counts = λ k is act row. rise_count e s p k s (f.counts k is act row) (q.counts k is act row);
  ends_done = λ k r is c row. rise_end e s p k r s (f.ends_done k r is c row) (q.ends_done k r is c row);
  ends_replied = λ b w r is found o. rise_end e s p w.branch.peer.node r s (f.ends_replied b w r is found o) (q.ends_replied b w r is found o);
  ends_rolled = λ k r is c row. rise_end e s p k r s (f.ends_rolled k r is c row) (q.ends_rolled k r is c row);
  leaves_below = λ k w t is left at act. rise_left e s p k t (f.leaves_below k w t is left at act) (q.leaves_below k w t is left at act);
  leaves_rolling = λ k w t is left at c. rise_end e s p k Report.None t (f.leaves_rolling k w t is left at c) (q.leaves_rolling k w t is left at c);
  votes = λ t act asked all under. rise_vote e s p t (f.votes t act asked all under) (q.votes t act asked all under) act;
  orders_root = λ t act asked all root. rise_order e s p t (f.orders_root t act asked all root) (q.orders_root t act asked all root);
  orders_ready = λ ready is. rise_order e s p s (f.orders_ready ready is) (q.orders_ready ready is);
  rolls = λ t asked fall ok. rise_rolls e s p t asked fall (grind (arith, ok)) (f.rolls t asked fall ok) (q.rolls t asked fall ok);
  completes_commit = λ t c. rise_commit e s p t (f.completes_commit t c) (q.completes_commit t c) c;
  completes_rollback = λ t c. rise_rollback e s p t (f.completes_rollback t c) (q.completes_rollback t c) c;
  leaves = λ is act under asked all. rise_leave e s p s (f.leaves is act under asked all) (q.leaves is act under asked all) is act;
}

-- every event of a transaction
pub rising_turn : (e : TxEvent) (s : Transaction) (p : ℕ) → IsPut e s → IsRising e s p s (transacted e s)
rising_turn e s p put = every_turn e s (IsRising e s p) (rising_turns e s p (fair_turns e s p) (passed_turns e s)) put
