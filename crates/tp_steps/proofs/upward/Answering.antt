-- Every event of a transaction answers its superior only after a closed round: an instance of the steps of a turn.
use Rattle.std.proofs.Common.{if◌then◌else◌, ◌≡◌, ◌≤◌, ◌+◌, ℕ, suc, Bool, true, false, refl, ap, sym, subst, ◌∙◌, arith, Some, None, List, [], ◌∷◌, ◌++◌, ◌&&◌, ◌||◌, not}
use Rattle.tp_names.specs.declared.outcome.Outcome.{Outcome}
use Rattle.tp_names.specs.declared.outcome.Report.{Report}
use Rattle.tp_names.specs.Reports.{is_report_none, join}
use Rattle.tp_records.specs.declared.request.Request.{Request}
use Rattle.tp_records.specs.declared.indication.Indication.{Indication}
use Rattle.tp_records.specs.declared.dialogue.DialogueRecord.{DialogueRecord}
use Rattle.tp_model.specs.declared.arc.Phase.{Phase}
use Rattle.tp_model.specs.declared.transaction.TxEvent.{TxEvent}
use Rattle.tp_model.specs.declared.transaction.TxOut.{TxOut}
use Rattle.tp_model.specs.Parts.{Key, Root, Under}
use Rattle.tp_model.specs.Dialogues.{is_nil, is_active, is_ready, is_committing, is_rolling}
use Rattle.tp_model.specs.Transactions.{Row, Transaction, Turn, turn, aaid_of, is_under, is_under_at, with_row, with_arc_lost, all_done, all_rolled_back, reports_of, owed_of, own_damage, log_end, log_damage, carry_up, done_up, forgets, ends_down, end_up, complete_commit, complete_rollback, begin_rolling, order, ask_commit, leave, count_branch, end_branch, branch_left, transacted, refused_tx, completion_of}
use Rattle.tp_steps.specs.Turns.{Turns, vote, decide, loses, hears_close}
use Rattle.tp_steps.specs.Moves.{IsPut}
use Rattle.tp_steps.specs.Passages.{IsPassed}
use Rattle.tp_steps.specs.Facts.{is_end, none_of, spoken, stays, sees, IsFair, Facts}
use Rattle.tp_steps.specs.Control.{rounds, flag_from, closes_up, voted_behind}
use Rattle.tp_steps.specs.Answering.{MayAnswer, Answers, IsAnswering}
use Rattle.tp_steps.proofs.every.EveryTurn.{every_turn}
use Rattle.tp_steps.proofs.lemmas.Words.{spoken_append, stays_append, dead_stays}
use Rattle.tp_steps.proofs.words.Leaves.{up_spoken, commit_said, rollback_said, leave_said}
use Rattle.tp_steps.proofs.words.FairTurns.{fair_turns}
use Rattle.tp_steps.proofs.log.Passed.{passed_turns}
use Rattle.tp_steps.proofs.lemmas.UpwardWords.{is_upward}
use Rattle.tp_steps.proofs.upward.Rising.{carries_none, none_spoken, carries_prepare, carries_retried, carries_rolling, carries_order, report_none, given_up_none}

-- ---- rounds of words

pub rounds_append : (f g : Bool → DialogueRecord → Bool) (b : Bool) (xs ys : List DialogueRecord) → rounds f g b (xs ++ ys) ≡ rounds f g b xs + rounds f g (flag_from g b xs) ys
rounds_append f g b [] ys = omega arith
rounds_append f g b (x ∷ xs) ys = let rest = rounds_append f g (g b x) xs ys in omega (arith, rest)

pub flag_append : (g : Bool → DialogueRecord → Bool) (b : Bool) (xs ys : List DialogueRecord) → flag_from g b (xs ++ ys) ≡ flag_from g (flag_from g b xs) ys
flag_append g b [] ys = refl
flag_append g b (x ∷ xs) ys = flag_append g (g b x) xs ys

quiet_closes : (v : Bool) (r : DialogueRecord) → is_upward r ≡ false → closes_up v r ≡ false
quiet_closes v r h = grind (arith, h)

quiet_voted : (v : Bool) (r : DialogueRecord) → is_upward r ≡ false → voted_behind v r ≡ v
quiet_voted v r h = grind (arith, h)

pub none_rounds : (v : Bool) (xs : List DialogueRecord) → none_of is_upward xs ≡ true → (rounds closes_up voted_behind v xs ≡ 0) × (flag_from voted_behind v xs ≡ v)
none_rounds v [] h = (refl, refl)
none_rounds v (x ∷ xs) h =
    let quiet : is_upward x ≡ false = grind (arith, h) in
    let rest = none_rounds v xs (grind (arith, h)) in
    let same : voted_behind v x ≡ v = quiet_voted v x quiet in
    let no : closes_up v x ≡ false = quiet_closes v x quiet in
    (rw (same, no, rest.0) refl, rw same rest.1)

-- ---- steps that answer nothing

pub same_rounds : (c n d : ℕ) → d ≡ c + n → n ≡ 0 → c ≡ d
same_rounds c n d h i = omega (arith, h, i)

answers_quiet : (e : TxEvent) (s : Transaction) (p : ℕ) (t : Transaction) (a : Turn) → IsFair e s p t a → IsPassed e s t a → carries_none is_upward a.outs ≡ true → (is_nil a.next.phase ≡ false → is_nil t.phase ≡ false)
    → (is_under_at t.key p ≡ true → ((t.asked || is_ready t.phase || is_committing t.phase) ≡ true → t.told_prepare ≡ true) → (a.next.asked || is_ready a.next.phase || is_committing a.next.phase) ≡ true → a.next.told_prepare ≡ true)
    → ((cl : Bool) → (is_under_at s.key p ≡ true → hears_close e s ≡ true → cl ≡ true) → is_under_at t.key p ≡ true → (a.next.told_prepare || a.next.superior_rolled || cl) ≡ true → (t.told_prepare || t.superior_rolled || cl) ≡ true)
    → IsAnswering e s p t a
answers_quiet e s p t a fair passed none late marks source = record {
  fair = fair;
  passed = passed;
  answers = λ saw kept cl hears c b v f le old st d w i j. go cl hears c b v f le old d w i j;
}
  where
    quiet : none_of is_upward (spoken true p a.outs) ≡ true
    quiet = none_spoken is_upward true p a.outs none

    go : (cl : Bool) → (is_under_at s.key p ≡ true → hears_close e s ≡ true → cl ≡ true) → (c b : ℕ) (v f : Bool) → c ≤ b → Answers cl c b v f t p
        → (d : ℕ) (w : Bool) → d ≡ c + rounds closes_up voted_behind v (spoken true p a.outs) → w ≡ flag_from voted_behind v (spoken true p a.outs) → (d ≤ b) × Answers cl d b w f a.next p
    go cl hears c b v f le old d w i j =
        let r = none_rounds v (spoken true p a.outs) quiet in
        let same : c ≡ d = same_rounds c (rounds closes_up voted_behind v (spoken true p a.outs)) d i r.0 in
        let flag : v ≡ w = sym (j ∙ r.1) in
        (subst (λ (k : ℕ). k ≤ b) same le, subst (λ (k : ℕ). Answers cl k b w f a.next p) same (subst (λ (u : Bool). Answers cl c b u f a.next p) flag (on cl hears c b v f old)))
      where
        on : (cl : Bool) → (is_under_at s.key p ≡ true → hears_close e s ≡ true → cl ≡ true) → (c b : ℕ) (v f : Bool) → Answers cl c b v f t p → Answers cl c b v f a.next p
        on cl hears c b v f old n u =
            let under : is_under_at t.key p ≡ true = ap (λ (k : Key). is_under_at k p) (sym passed.key) ∙ u in
            let was = old (late n) under in
            record { marks = marks under was.marks; opens = was.opens; closes = λ z l. was.closes z (source cl hears under l) }

record SameMarks (t u : Transaction) : Type 0 where
  phase : u.phase ≡ t.phase
  asked : u.asked ≡ t.asked
  told : u.told_prepare ≡ t.told_prepare
  rolled : u.superior_rolled ≡ t.superior_rolled

answers_same : (e : TxEvent) (s : Transaction) (p : ℕ) (t : Transaction) (a : Turn) → IsFair e s p t a → IsPassed e s t a → carries_none is_upward a.outs ≡ true → SameMarks t a.next → IsAnswering e s p t a
answers_same e s p t a fair passed none same =
    answers_quiet e s p t a fair passed none (λ n. ap is_nil (sym same.phase) ∙ n)
    (λ under marks h. same.told ∙ marks (rw (← same.phase, ← same.asked) h))
    (λ cl hears under h. rw (← same.told, ← same.rolled) h)

kept_marks : (t : Transaction) → SameMarks t t
kept_marks t = record { phase = refl; asked = refl; told = refl; rolled = refl }

row_marks : (t : Transaction) (q : ℕ) (f : Row → Row) → SameMarks t (with_row t q f)
row_marks t q f = record { phase = grind arith; asked = grind arith; told = grind arith; rolled = grind arith }

lost_marks : (t : Transaction) (q : ℕ) → SameMarks t (with_arc_lost t q)
lost_marks t q = go (is_under_at t.key q)
  where
    go : (b : Bool) → SameMarks t (if b then record t { up = false; up_ends = false } else with_row t q (λ r. record r { live = false; ends = false }))
    go true = record { phase = refl; asked = refl; told = refl; rolled = refl }
    go false = row_marks t q (λ r. record r { live = false; ends = false })

-- ---- the answers

one_round : (c d n b : ℕ) (v : Bool) → d ≡ c + n → n ≡ (if not v then 1 else 0) → c ≤ b → (v ≡ false → suc c ≤ b) → d ≤ b
one_round c d n b true h i le room = omega (arith, h, i, le)
one_round c d n b false h i le room = let more = room refl in omega (arith, h, i, more)

answers_last : (e : TxEvent) (s : Transaction) (p : ℕ) (t : Transaction) (a : Turn) (r : DialogueRecord) → IsFair e s p t a → IsPassed e s t a → is_end r ≡ true
    → spoken true p a.outs ≡ (if is_under_at t.key p && t.up then r ∷ [] else []) → is_nil t.phase ≡ false → is_nil a.next.phase ≡ true
    → ((cl : Bool) (c b : ℕ) (v f : Bool) → t.up ≡ true → MayAnswer cl c b v f t.asked t.phase t.told_prepare t.superior_rolled → (t.told_prepare || t.superior_rolled || cl) ≡ true) → IsAnswering e s p t a
answers_last e s p t a r fair passed last said late over ready = record {
  fair = fair;
  passed = passed;
  answers = λ saw kept cl hears c b v f le old st d w i j. (go cl c b v f le old (is_under_at t.key p && t.up) refl d (i ∙ ap (λ (ws : List DialogueRecord). c + rounds closes_up voted_behind v ws) said), λ n u. absurd (cc (n, over)));
}
  where
    counted : (v : Bool) → rounds closes_up voted_behind v (r ∷ []) ≡ (if not v then 1 else 0)
    counted v = grind (arith, last)

    go : (cl : Bool) (c b : ℕ) (v f : Bool) → c ≤ b → Answers cl c b v f t p → (x : Bool) → (is_under_at t.key p && t.up) ≡ x → (d : ℕ) → d ≡ c + rounds closes_up voted_behind v (if is_under_at t.key p && t.up then r ∷ [] else []) → d ≤ b
    go cl c b v f le old false k d i = let none : d ≡ c + 0 = rw k at i in omega (arith, le, none)
    go cl c b v f le old true k d i =
        let one : d ≡ c + rounds closes_up voted_behind v (r ∷ []) = rw k at i in
        let under : is_under_at t.key p ≡ true = grind (arith, k) in
        let up : t.up ≡ true = grind (arith, k) in
        let was = old late under in
        one_round c d (rounds closes_up voted_behind v (r ∷ [])) b v one (counted v) le (λ z. was.closes z (ready cl c b v f up was))

answers_vote : (e : TxEvent) (s : Transaction) (p : ℕ) (t : Transaction) → IsFair e s p t (vote t) → IsPassed e s t (vote t) → is_active t.phase ≡ true → t.asked ≡ true → IsAnswering e s p t (vote t)
answers_vote e s p t fair passed act asked = record {
  fair = fair;
  passed = passed;
  answers = λ saw kept cl hears c b v f le old st d w i j. go cl c b v f le old saw (is_under_at t.key p && t.up) refl d w (i ∙ ap (λ (ws : List DialogueRecord). c + rounds closes_up voted_behind v ws) said) (j ∙ ap (flag_from voted_behind v) said);
}
  where
    said : spoken true p (carry_up t DialogueRecord.Ready) ≡ (if is_under_at t.key p && t.up then DialogueRecord.Ready ∷ [] else [])
    said = up_spoken t p DialogueRecord.Ready refl

    late : is_nil t.phase ≡ false
    late = grind (arith, act)

    told : (cl : Bool) (c b : ℕ) (v f : Bool) → MayAnswer cl c b v f t.asked t.phase t.told_prepare t.superior_rolled → t.told_prepare ≡ true
    told cl c b v f was = was.marks (grind (arith, asked))

    counted : (v : Bool) → rounds closes_up voted_behind v (DialogueRecord.Ready ∷ []) ≡ (if not v then 1 else 0)
    counted v = grind arith

    go : (cl : Bool) (c b : ℕ) (v f : Bool) → c ≤ b → Answers cl c b v f t p → sees t p ≡ true → (x : Bool) → (is_under_at t.key p && t.up) ≡ x → (d : ℕ) (w : Bool)
        → d ≡ c + rounds closes_up voted_behind v (if is_under_at t.key p && t.up then DialogueRecord.Ready ∷ [] else []) → w ≡ flag_from voted_behind v (if is_under_at t.key p && t.up then DialogueRecord.Ready ∷ [] else [])
        → (d ≤ b) × Answers cl d b w f (record t { phase = Phase.Ready }) p
    go cl c b v f le old saw false k d w i j = let none : d ≡ c + 0 = rw k at i in (omega (arith, le, none), λ n u. absurd (grind (arith, saw, k, u)))
    go cl c b v f le old saw true k d w i j =
        let one : d ≡ c + rounds closes_up voted_behind v (DialogueRecord.Ready ∷ []) = rw k at i in
        let under : is_under_at t.key p ≡ true = grind (arith, k) in
        let was = old late under in
        let is_told : t.told_prepare ≡ true = told cl c b v f was in
        let flag : w ≡ true = rw k at j in (
          one_round c d (rounds closes_up voted_behind v (DialogueRecord.Ready ∷ [])) b v one (counted v) le (λ z. was.closes z (rw is_told refl)),
          λ n u. record { marks = λ h. is_told; opens = λ z. absurd (cc (z, flag)); closes = λ z l. absurd (cc (z, flag)) },
        )

-- ---- the rules

answers_commit : (e : TxEvent) (s : Transaction) (p : ℕ) (t : Transaction) → IsFair e s p t (complete_commit t) → IsPassed e s t (complete_commit t) → is_committing t.phase ≡ true → IsAnswering e s p t (complete_commit t)
unfolding complete_commit
answers_commit e s p t fair passed c = go (not t.owes && all_done t.rows) fair passed
  where
    late : is_nil t.phase ≡ false
    late = grind (arith, c)

    over : Report → Turn
    over r = record {
      rec = Some (if is_report_none r then log_end t Outcome.Commit else log_damage t Outcome.Commit r (owed_of t.rows));
      outs = forgets (aaid_of t.key) t.rows ++ done_up t r ++ (TxOut.Tell (Indication.CommitComplete r) ∷ []) ++ ends_down t.rows ++ end_up t;
      completion = completion_of t r;
      next = record t { phase = Phase.Nil };
    }

    ready : (cl : Bool) (k b : ℕ) (v f : Bool) → t.up ≡ true → MayAnswer cl k b v f t.asked t.phase t.told_prepare t.superior_rolled → (t.told_prepare || t.superior_rolled || cl) ≡ true
    ready cl k b v f up was = let told : t.told_prepare ≡ true = was.marks (grind (arith, c)) in rw told refl

    go : (b : Bool) → IsFair e s p t (if b then over (join (own_damage t.decision) (reports_of t.rows)) else turn [] t) → IsPassed e s t (if b then over (join (own_damage t.decision) (reports_of t.rows)) else turn [] t)
        → IsAnswering e s p t (if b then over (join (own_damage t.decision) (reports_of t.rows)) else turn [] t)
    go false f q = answers_same e s p t (turn [] t) f q refl (kept_marks t)
    go true f q =
        let r : Report = join (own_damage t.decision) (reports_of t.rows) in
        answers_last e s p t (over r) (DialogueRecord.Done r) f q refl (commit_said t p r) late refl ready

answers_rollback : (e : TxEvent) (s : Transaction) (p : ℕ) (t : Transaction) → IsFair e s p t (complete_rollback t) → IsPassed e s t (complete_rollback t) → is_rolling t.phase ≡ true → IsAnswering e s p t (complete_rollback t)
unfolding complete_rollback
answers_rollback e s p t fair passed c = go (not t.owes && all_rolled_back t.rows && (t.superior_rolled || not t.up)) refl fair passed
  where
    late : is_nil t.phase ≡ false
    late = grind (arith, c)

    over : Report → Turn
    over r = turn (carry_up t (DialogueRecord.RolledBack r) ++ (TxOut.Tell (Indication.RollbackComplete r) ∷ [])) (record t { phase = Phase.Nil })

    ready : (not t.owes && all_rolled_back t.rows && (t.superior_rolled || not t.up)) ≡ true → (cl : Bool) (k b : ℕ) (v f : Bool) → t.up ≡ true → MayAnswer cl k b v f t.asked t.phase t.told_prepare t.superior_rolled
        → (t.told_prepare || t.superior_rolled || cl) ≡ true
    ready i cl k b v f up was = let rolled : t.superior_rolled ≡ true = grind (arith, i, up) in grind (arith, rolled)

    go : (b : Bool) → (not t.owes && all_rolled_back t.rows && (t.superior_rolled || not t.up)) ≡ b → IsFair e s p t (if b then over (join t.own (reports_of t.rows)) else turn [] t) → IsPassed e s t (if b then over (join t.own (reports_of t.rows)) else turn [] t)
        → IsAnswering e s p t (if b then over (join t.own (reports_of t.rows)) else turn [] t)
    go false i f q = answers_same e s p t (turn [] t) f q refl (kept_marks t)
    go true i f q =
        let r : Report = join t.own (reports_of t.rows) in
        answers_last e s p t (over r) (DialogueRecord.RolledBack r) f q refl (rollback_said t p r) late refl (ready i)

answers_leave : (e : TxEvent) (s : Transaction) (p : ℕ) (t : Transaction) → IsFair e s p t (leave t) → IsPassed e s t (leave t) → is_active t.phase ≡ true → t.told_prepare ≡ true → IsAnswering e s p t (leave t)
unfolding leave
answers_leave e s p t fair passed act told = go t.up_ends fair passed
  where
    late : is_nil t.phase ≡ false
    late = grind (arith, act)

    go : (b : Bool) → IsFair e s p t (turn (if b then carry_up t DialogueRecord.LeftEnd ++ end_up t else carry_up t DialogueRecord.Left) (record t { phase = Phase.Nil }))
        → IsPassed e s t (turn (if b then carry_up t DialogueRecord.LeftEnd ++ end_up t else carry_up t DialogueRecord.Left) (record t { phase = Phase.Nil }))
        → IsAnswering e s p t (turn (if b then carry_up t DialogueRecord.LeftEnd ++ end_up t else carry_up t DialogueRecord.Left) (record t { phase = Phase.Nil }))
    go true f q = answers_last e s p t _ DialogueRecord.LeftEnd f q refl (leave_said t p) late refl (λ cl k b v g up was. rw told refl)
    go false f q = answers_last e s p t _ DialogueRecord.Left f q refl (up_spoken t p DialogueRecord.Left refl) late refl (λ cl k b v g up was. rw told refl)

answers_ask : (e : TxEvent) (s : Transaction) (p : ℕ) (t : Transaction) → IsFair e s p t (ask_commit t) → IsPassed e s t (ask_commit t) → (is_under t.key ≡ true → t.told_prepare ≡ true) → IsAnswering e s p t (ask_commit t)
unfolding ask_commit
answers_ask e s p t fair passed told = answers_quiet e s p t (ask_commit t) fair passed (carries_prepare is_upward t.rows refl) (λ n. n) (λ under marks h. told (under_so t.key under)) (λ cl hears under h. h)
  where
    under_so : (k : Key) → is_under_at k p ≡ true → is_under k ≡ true
    under_so (Root t) h = absurd cc
    under_so (Under t b a) h = refl

answers_count : (e : TxEvent) (s : Transaction) (p q : ℕ) (t : Transaction) → IsFair e s p t (count_branch q t) → IsPassed e s t (count_branch q t) → IsAnswering e s p t (count_branch q t)
unfolding count_branch
answers_count e s p q t fair passed = answers_same e s p t _ fair passed refl (row_marks t q _)

answers_end : (e : TxEvent) (s : Transaction) (p q : ℕ) (r : Report) (t : Transaction) → IsFair e s p t (end_branch q r t) → IsPassed e s t (end_branch q r t) → IsAnswering e s p t (end_branch q r t)
unfolding end_branch
answers_end e s p q r t fair passed = answers_same e s p t _ fair passed (report_none is_upward q r) (row_marks t q _)

answers_left : (e : TxEvent) (s : Transaction) (p q : ℕ) (t : Transaction) → IsFair e s p t (branch_left q t) → IsPassed e s t (branch_left q t) → IsAnswering e s p t (branch_left q t)
unfolding branch_left
answers_left e s p q t fair passed = answers_same e s p t _ fair passed refl (row_marks t q _)

rolling_told : (asked told : Bool) (x : Phase) → ((asked || is_ready x || is_committing x) ≡ true → told ≡ true) → (asked || false || false) ≡ true → told ≡ true
rolling_told asked told x marks h = marks (grind (arith, h))

rolling_marks : (asked : Bool) (t : Transaction) → ((t.asked || is_ready t.phase || is_committing t.phase) ≡ true → t.told_prepare ≡ true)
    → ((begin_rolling asked t).next.asked || is_ready (begin_rolling asked t).next.phase || is_committing (begin_rolling asked t).next.phase) ≡ true → (begin_rolling asked t).next.told_prepare ≡ true
unfolding begin_rolling
rolling_marks asked t marks h = rolling_told t.asked t.told_prepare t.phase marks h

rolling_source : (asked : Bool) (t : Transaction) (cl : Bool) → ((begin_rolling asked t).next.told_prepare || (begin_rolling asked t).next.superior_rolled || cl) ≡ true → (t.told_prepare || t.superior_rolled || cl) ≡ true
unfolding begin_rolling
rolling_source asked t cl h = h

answers_rolls : (e : TxEvent) (s : Transaction) (p : ℕ) (t : Transaction) (asked : Bool) → IsFair e s p t (begin_rolling asked t) → IsPassed e s t (begin_rolling asked t) → is_nil t.phase ≡ false → IsAnswering e s p t (begin_rolling asked t)
answers_rolls e s p t asked fair passed late =
    answers_quiet e s p t (begin_rolling asked t) fair passed (carries_rolling is_upward asked t refl) (λ n. late) (λ under marks h. rolling_marks asked t marks h) (λ cl hears under h. rolling_source asked t cl h)

answers_order : (e : TxEvent) (s : Transaction) (p : ℕ) (t : Transaction) → IsFair e s p t (order t) → IsPassed e s t (order t) → is_nil t.phase ≡ false → ((t.asked || is_ready t.phase || is_committing t.phase) ≡ true) → IsAnswering e s p t (order t)
unfolding order
answers_order e s p t fair passed late was = answers_quiet e s p t (order t) fair passed (carries_order is_upward t refl) (λ n. late) (λ under marks h. marks was) (λ cl hears under h. h)

-- ---- chains

answers_then : (e : TxEvent) (s : Transaction) (p : ℕ) (t : Transaction) (a b : Turn) → IsAnswering e s p t a → IsAnswering e s p a.next b → sees t p ≡ true → loses e p ≡ false
    → (cl : Bool) → (is_under_at s.key p ≡ true → hears_close e s ≡ true → cl ≡ true) → (c k : ℕ) (v f : Bool) → c ≤ k → Answers cl c k v f t p → stays true p (a.outs ++ b.outs) ≡ true
    → (d : ℕ) (w : Bool) → d ≡ c + rounds closes_up voted_behind v (spoken true p (a.outs ++ b.outs)) → w ≡ flag_from voted_behind v (spoken true p (a.outs ++ b.outs)) → (d ≤ k) × Answers cl d k w f b.next p
answers_then e s p t a b one two saw kept cl hears c k v f le old st d w i j = go (stays true p a.outs) refl
  where
    xs : List DialogueRecord
    xs = spoken true p a.outs

    ys : List DialogueRecord
    ys = spoken true p b.outs

    go : (x : Bool) → stays true p a.outs ≡ x → (d ≤ k) × Answers cl d k w f b.next p
    go false n = let gone : stays true p (a.outs ++ b.outs) ≡ false = stays_append true p a.outs b.outs ∙ rw n (dead_stays p b.outs) in absurd (cc (gone, st))
    go true n =
        let words : spoken true p (a.outs ++ b.outs) ≡ xs ++ ys = spoken_append true p a.outs b.outs ∙ rw n refl in
        let live : stays true p b.outs ≡ true = sym (stays_append true p a.outs b.outs ∙ rw n refl) ∙ st in
        let first = one.answers saw kept cl hears c k v f le old n (c + rounds closes_up voted_behind v xs) (flag_from voted_behind v xs) refl refl in
        let facts : Facts e s p t a = one.fair.facts saw kept in
        let split = rounds_append closes_up voted_behind v xs ys in
        let sum : d ≡ c + rounds closes_up voted_behind v (xs ++ ys) = i ∙ ap (λ (ws : List DialogueRecord). c + rounds closes_up voted_behind v ws) words in
        let total : d ≡ c + rounds closes_up voted_behind v xs + rounds closes_up voted_behind (flag_from voted_behind v xs) ys = omega (arith, sum, split) in
        let flag : w ≡ flag_from voted_behind (flag_from voted_behind v xs) ys = j ∙ ap (flag_from voted_behind v) words ∙ flag_append voted_behind v xs ys in
        two.answers (facts.seen_after n) kept cl hears (c + rounds closes_up voted_behind v xs) k (flag_from voted_behind v xs) f first.0 first.1 live d w total flag

-- ---- the steps

answering_turns : (e : TxEvent) (s : Transaction) (p : ℕ) → (e ≡ TxEvent.User Request.Unchanged → s.told_prepare ≡ true) → is_nil s.phase ≡ false → Turns e s (IsFair e s p) → Turns e s (IsPassed e s) → Turns e s (IsAnswering e s p)
answering_turns e s p unchanged busy f q = record {
  still = λ t. answers_same e s p t _ (f.still t) (q.still t) refl (kept_marks t);
  first = λ t u outs a one two. record {
    fair = f.first t u outs a one.fair two.fair;
    passed = q.first t u outs a one.passed two.passed;
    answers = answers_then e s p t (turn outs u) a one two;
  };
  chain = λ t a k one two none. record {
    fair = f.chain t a k one.fair two.fair none;
    passed = q.chain t a k one.passed two.passed none;
    answers = answers_then e s p t a (k a.next) one two;
  };
  tells = λ t i n. answers_same e s p t _ (f.tells t i n) (q.tells t i n) refl (kept_marks t);
  notes_prepare = λ pr cl. answers_quiet e s p s _ (f.notes_prepare pr cl) (q.notes_prepare pr cl) refl (λ n. n) (λ under marks h. refl) (λ closing hears under h. let closed : closing ≡ true = hears under cl in grind (arith, closed));
  notes_done = λ is. answers_same e s p s _ (f.notes_done is) (q.notes_done is) refl (record { phase = refl; asked = refl; told = refl; rolled = refl });
  notes_end = λ k is. answers_same e s p s _ (f.notes_end k is) (q.notes_end k is) refl (record { phase = refl; asked = refl; told = refl; rolled = refl });
  notes_rollback = λ ro cl. answers_quiet e s p s _ (f.notes_rollback ro cl) (q.notes_rollback ro cl) refl (λ n. n) (λ under marks h. marks h) (λ closing hears under h. let closed : closing ≡ true = hears under cl in grind (arith, closed));
  defers_end = λ k is. answers_same e s p s _ (f.defers_end k is) (q.defers_end k is) refl (row_marks s k _);
  defers_grant = λ k is. answers_same e s p s _ (f.defers_grant k is) (q.defers_grant k is) refl (kept_marks s);
  prepares = λ k. answers_same e s p s _ (f.prepares k) (q.prepares k) refl (row_marks s k _);
  asks = λ is act asked told. answers_ask e s p s (f.asks is act asked told) (q.asks is act asked told) told;
  asks_again = answers_same e s p s _ f.asks_again q.asks_again (carries_retried is_upward s) (kept_marks s);
  decides = λ o is ready. answers_same e s p s (decide o s) (f.decides o is ready) (q.decides o is ready) refl (record { phase = refl; asked = refl; told = refl; rolled = refl });
  aborts = λ k is. answers_same e s p s _ (f.aborts k is) (q.aborts k is) refl (lost_marks s k);
  loses_arc = λ k gone. answers_same e s p s _ (f.loses_arc k gone) (q.loses_arc k gone) refl (lost_marks s k);
  closes_left = λ k is. answers_same e s p s _ (f.closes_left k is) (q.closes_left k is) refl (row_marks s k _);
  gives_up = λ k r is c found. answers_same e s p s _ (f.gives_up k r is c found) (q.gives_up k r is c found) (given_up_none is_upward r.live k) (row_marks s k _);
  counts = λ k is act row. answers_count e s p k s (f.counts k is act row) (q.counts k is act row);
  ends_done = λ k r is c row. answers_end e s p k r s (f.ends_done k r is c row) (q.ends_done k r is c row);
  ends_replied = λ b w r is found o. answers_end e s p w.branch.peer.node r s (f.ends_replied b w r is found o) (q.ends_replied b w r is found o);
  ends_rolled = λ k r is c row. answers_end e s p k r s (f.ends_rolled k r is c row) (q.ends_rolled k r is c row);
  leaves_below = λ k w t is left at act. answers_left e s p k t (f.leaves_below k w t is left at act) (q.leaves_below k w t is left at act);
  leaves_rolling = λ k w t is left at c. answers_end e s p k Report.None t (f.leaves_rolling k w t is left at c) (q.leaves_rolling k w t is left at c);
  votes = λ t act asked all under. answers_vote e s p t (f.votes t act asked all under) (q.votes t act asked all under) act asked;
  orders_root = λ t act asked all root. answers_order e s p t (f.orders_root t act asked all root) (q.orders_root t act asked all root) (grind (arith, act)) (grind (arith, asked));
  orders_ready = λ ready is. answers_order e s p s (f.orders_ready ready is) (q.orders_ready ready is) busy (grind (arith, ready));
  rolls = λ t asked fall ok. answers_rolls e s p t asked (f.rolls t asked fall ok) (q.rolls t asked fall ok) (grind (arith, ok));
  completes_commit = λ t c. answers_commit e s p t (f.completes_commit t c) (q.completes_commit t c) c;
  completes_rollback = λ t c. answers_rollback e s p t (f.completes_rollback t c) (q.completes_rollback t c) c;
  leaves = λ is act under asked all. answers_leave e s p s (f.leaves is act under asked all) (q.leaves is act under asked all) act (unchanged is);
}

-- every event of a transaction
told_leaving : (e : TxEvent) (s : Transaction) → IsPut e s → e ≡ TxEvent.User Request.Unchanged → s.told_prepare ≡ true
unfolding refused_tx
told_leaving (TxEvent.User Request.Unchanged) s put is = let ok : refused_tx (TxEvent.User Request.Unchanged) s ≡ None = put.ok refl in grind (arith, ok)
told_leaving e s put is = absurd (cc (is))

pub answering_turn : (e : TxEvent) (s : Transaction) (p : ℕ) → IsPut e s → IsAnswering e s p s (transacted e s)
answering_turn e s p put = every_turn e s (IsAnswering e s p) (answering_turns e s p (told_leaving e s put) put.late (fair_turns e s p) (passed_turns e s)) put
