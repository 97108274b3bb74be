-- An event of a transaction that is no failure shuts no association of it, but where a branch leaves or the transaction is over;
-- and what it completes it says to the superior first.
use Rattle.std.proofs.Common.{if◌then◌else◌, ◌≡◌, inl, inr, ℕ, Bool, true, false, refl, ap, sym, subst, ◌∙◌, arith, Option, Some, None, List, [], ◌∷◌, ◌++◌, ◌&&◌, ◌||◌, ◌==◌, not}
use Rattle.tp_names.specs.declared.identifiers.Aaid.{Aaid}
use Rattle.tp_names.specs.declared.identifiers.BranchId.{BranchId}
use Rattle.tp_names.specs.declared.outcome.Report.{Report}
use Rattle.tp_records.specs.declared.request.Request.{Request}
use Rattle.tp_records.specs.declared.indication.Indication.{Indication}
use Rattle.tp_records.specs.declared.dialogue.DialogueRecord.{DialogueRecord}
use Rattle.tp_records.specs.declared.peer.RecState.{RecState}
use Rattle.tp_model.specs.declared.arc.Phase.{Phase}
use Rattle.tp_model.specs.declared.transaction.TxEvent.{TxEvent}
use Rattle.tp_model.specs.declared.transaction.TxOut.{TxOut}
use Rattle.tp_model.specs.Dialogues.{is_nil, is_active, is_ready, is_rolling, Sight, Acts, Nothing_happens, Out_of_phase}
use Rattle.tp_model.specs.Transactions.{Row, Transaction, Turn, turn, and_then, before, is_under, is_under_at, find_row, find_row_by_id, with_row, all_settled, all_done, all_rolled_back, carry_up, complete_commit, complete_rollback, begin_rolling, roll, order, settle, ask_commit, leave, count_branch, end_branch, branch_left, complete, superior_rolls, takes_left, takes, by_user, ask_each, retried, replied, is_open_in_commit, tell_report, sight_of_tx, transacted, aaid_of, reports_of, own_damage, log_end, log_damage, owed_of, forgets, done_up, ends_down, end_up}
use Rattle.tp_steps.specs.Turns.{row_dead, vote}
use Rattle.tp_steps.specs.Facts.{stays, spoken}
use Rattle.tp_steps.proofs.words.Fair.{row_phase, row_up, row_with, row_keeps, row_key}
use Rattle.tp_steps.proofs.lemmas.Words.{stays_append, spoken_append}
use Rattle.tp_steps.proofs.words.Leaves.{up_stays, prepare_row, commit_said}
use Rattle.tp_names.specs.declared.outcome.Outcome.{Outcome}
use Rattle.tp_names.specs.Reports.{join, is_report_none}
use Rattle.tp_logrec.specs.declared.record.LogRec.{LogRec}
use Rattle.tp_model.specs.Parts.{Key}
use Rattle.tp_model.specs.Questions.{logs_ready_or_commit}
use Rattle.tp_model.specs.Dialogues.{is_nil, is_active, is_ready, is_rolling, Sight, Acts, Nothing_happens, Out_of_phase}
use Rattle.tp_model.specs.Transactions.{Row, Transaction, Turn, turn, and_then, before, aaid_of, is_under, is_under_at, reports_of, own_damage, log_end, log_damage, owed_of, forgets, done_up, ends_down, end_up, find_row, find_row_by_id, with_row, all_settled, all_done, all_rolled_back, carry_up, complete_commit, complete_rollback, begin_rolling, roll, order, settle, ask_commit, leave, count_branch, end_branch, branch_left, complete, superior_rolls, takes_left, takes, by_user, ask_each, retried, replied, is_open_in_commit, tell_report, sight_of_tx, transacted}
use Rattle.tp_steps.specs.Turns.{vote, row_dead}
use Rattle.tp_model.specs.Transactions.{row_holds, is_waited_for, with_arc_lost, lost_arc}
use Rattle.tp_steps.specs.Facts.{spoken, stays}
use Rattle.tp_steps.specs.Passages.{asks_tell}
use Rattle.tp_steps.specs.Clearing.{is_complete_none}
use Rattle.tp_failure_free.specs.Drained.{IsOneOf}
use Rattle.tp_steps.proofs.lemmas.Phases.{tell_append, still_up, still_prepare, still_forgets, still_ends, still_ask, still_done, still_end_up, IsUntold, untold}
use Rattle.tp_steps.proofs.every.EveryTurn.{phase_end}
use Rattle.tp_steps.proofs.lemmas.Joined.{IsJoined, joined_prepare, joined_retried, joined_rolls, joined_order, joined_leaves}

-- no failure
abbrev pub is_calm : TxEvent → Bool
is_calm (TxEvent.Begun arcs) = false
is_calm (TxEvent.User (Request.UAbort p)) = false
is_calm (TxEvent.User _) = true
is_calm (TxEvent.Took p DialogueRecord.UAbort) = false
is_calm (TxEvent.Took p _) = true
is_calm (TxEvent.Lost p) = false
is_calm (TxEvent.Heur o) = false
is_calm (TxEvent.GiveUp p) = false
is_calm TxEvent.Ordered = true
is_calm (TxEvent.Reply b s) = true
is_calm TxEvent.Retry = true

-- it is no failure, or one of a dialogue with another peer that is not the superior
abbrev pub spares : TxEvent → Key → ℕ → Bool
spares (TxEvent.Took q DialogueRecord.UAbort) k p = not (q == p) && not (is_under_at k q)
spares (TxEvent.Lost q) k p = not (q == p) && not (is_under_at k q)
spares e k p = is_calm e

pub calm_spares : (e : TxEvent) (k : Key) (p : ℕ) → is_calm e ≡ true → spares e k p ≡ true
calm_spares (TxEvent.Took q DialogueRecord.UAbort) k p h = absurd (cc (h))
calm_spares (TxEvent.Took q r) k p h = h
calm_spares (TxEvent.Lost q) k p h = absurd (cc (h))
calm_spares e k p h = h

-- the node decides, or gives a branch up
abbrev pub is_given : TxEvent → Bool
is_given (TxEvent.Heur o) = true
is_given (TxEvent.GiveUp p) = true
is_given _ = false

pub calm_not_given : (e : TxEvent) → is_calm e ≡ true → is_given e ≡ false
calm_not_given (TxEvent.Heur o) h = absurd (cc (h))
calm_not_given (TxEvent.GiveUp p) h = absurd (cc (h))
calm_not_given e h = refl

-- the peer leaves, and its arc ends with that
abbrev pub leaves_with_end : TxEvent → ℕ → Bool
leaves_with_end (TxEvent.Took q DialogueRecord.LeftEnd) p = q == p
leaves_with_end _ p = false

abbrev pub live_row : Option Row → Bool
live_row None = false
live_row (Some r) = r.live

pub record IsKeeping (p : ℕ) (t : Transaction) (a : Turn) : Type 0 where
  pub over : is_nil t.phase ≡ true → is_nil a.next.phase ≡ true
  pub shut : is_nil a.next.phase ≡ false → stays true p a.outs ≡ true
  pub up : a.next.up ≡ t.up
  pub rows : live_row (find_row a.next.rows p) ≡ live_row (find_row t.rows p)
  pub key : a.next.key ≡ t.key
  -- one that logs Ready or Commit goes on
  pub logged : logs_ready_or_commit a.rec ≡ true → is_nil a.next.phase ≡ false
  -- what is complete with no report is said with none
  pub mute : is_nil t.phase ≡ true → asks_tell is_complete_none a.outs ≡ false
  pub told : asks_tell is_complete_none a.outs ≡ true → is_under_at t.key p ≡ true → t.up ≡ true → IsOneOf (DialogueRecord.Done Report.None) (spoken true p a.outs)

-- a rule that tells of no completion
keeps_quiet : (p : ℕ) (t : Transaction) (a : Turn) → (is_nil t.phase ≡ true → is_nil a.next.phase ≡ true) → (is_nil a.next.phase ≡ false → stays true p a.outs ≡ true) → a.next.up ≡ t.up
    → live_row (find_row a.next.rows p) ≡ live_row (find_row t.rows p) → a.next.key ≡ t.key → (logs_ready_or_commit a.rec ≡ true → is_nil a.next.phase ≡ false) → asks_tell is_complete_none a.outs ≡ false → IsKeeping p t a
keeps_quiet p t a over shut up rows key logged none =
    record { over = over; shut = shut; up = up; rows = rows; key = key; logged = logged; mute = λ n. none; told = λ h under live. absurd (cc (none, h)) }

keeps_still : (p : ℕ) (t : Transaction) (outs : List TxOut) → stays true p outs ≡ true → asks_tell is_complete_none outs ≡ false → IsKeeping p t (turn outs t)
keeps_still p t outs h none = keeps_quiet p t (turn outs t) (λ n. n) (λ n. h) refl refl refl (λ l. absurd (cc (l))) none

keeps_row : (p : ℕ) (t : Transaction) (outs : List TxOut) (q : ℕ) (f : Row → Row) → stays true p outs ≡ true → asks_tell is_complete_none outs ≡ false → ((r : Row) → (f r).branch.peer.node ≡ r.branch.peer.node) → ((r : Row) → (f r).live ≡ r.live) → IsKeeping p t (turn outs (with_row t q f))
keeps_row p t outs q f h none peer live =
    keeps_quiet p t (turn outs (with_row t q f)) (λ n. ap is_nil (row_phase t q f) ∙ n) (λ n. h) (row_up t q f) (row_keeps live_row t q f p peer live) (row_key t q f) (λ l. absurd (cc (l))) none

-- ---- chains; the first part logs neither Ready nor Commit

pub one_first : (r : DialogueRecord) (xs ys : List DialogueRecord) → IsOneOf r xs → IsOneOf r (xs ++ ys)
one_first r [] ys h = absurd h
one_first r (x ∷ xs) ys (inl h) = inl h
one_first r (x ∷ xs) ys (inr h) = inr (one_first r xs ys h)

pub one_later : (r : DialogueRecord) (xs ys : List DialogueRecord) → IsOneOf r ys → IsOneOf r (xs ++ ys)
one_later r [] ys h = h
one_later r (x ∷ xs) ys h = inr (one_later r xs ys h)

joined : (p : ℕ) (t : Transaction) (a b m : Turn) → m.outs ≡ a.outs ++ b.outs → m.next ≡ b.next → (logs_ready_or_commit m.rec ≡ true → logs_ready_or_commit b.rec ≡ true) → IsKeeping p t a → IsKeeping p a.next b → IsKeeping p t m
joined p t a b m outs next logs one two = record {
  over = λ n. ap (λ (u : Transaction). is_nil u.phase) next ∙ two.over (one.over n);
  shut = λ n.
      let late : is_nil b.next.phase ≡ false = sym (ap (λ (u : Transaction). is_nil u.phase) next) ∙ n in
      ap (stays true p) outs ∙ stays_append true p a.outs b.outs ∙ ap (λ v. stays v p b.outs) (one.shut (mid (is_nil a.next.phase) refl late)) ∙ two.shut late;
  up = ap (λ (u : Transaction). u.up) next ∙ two.up ∙ one.up;
  rows = ap (λ (u : Transaction). live_row (find_row u.rows p)) next ∙ two.rows ∙ one.rows;
  key = ap (λ (u : Transaction). u.key) next ∙ two.key ∙ one.key;
  logged = λ l. ap (λ (u : Transaction). is_nil u.phase) next ∙ two.logged (logs l);
  mute = λ n. tells ∙ rw (one.mute n, two.mute (one.over n)) refl;
  told = λ h under live. subst (λ (xs : List TxOut). IsOneOf (DialogueRecord.Done Report.None) (spoken true p xs)) (sym outs) (says (asks_tell is_complete_none a.outs) refl (sym tells ∙ h) under live);
}
  where
    tells : asks_tell is_complete_none m.outs ≡ (asks_tell is_complete_none a.outs || asks_tell is_complete_none b.outs)
    tells = ap (asks_tell is_complete_none) outs ∙ tell_append is_complete_none a.outs b.outs

    mid : (v : Bool) → is_nil a.next.phase ≡ v → is_nil b.next.phase ≡ false → is_nil a.next.phase ≡ false
    mid false i late = i
    mid true i late = absurd (cc (two.over i, late))

    words : spoken true p (a.outs ++ b.outs) ≡ spoken true p a.outs ++ spoken (stays true p a.outs) p b.outs
    words = spoken_append true p a.outs b.outs

    second : asks_tell is_complete_none b.outs ≡ true → is_under_at t.key p ≡ true → t.up ≡ true → (v : Bool) → is_nil a.next.phase ≡ v → IsOneOf (DialogueRecord.Done Report.None) (spoken true p (a.outs ++ b.outs))
    second h under live true i = absurd (cc (two.mute i, h))
    second h under live false i =
        let later : IsOneOf (DialogueRecord.Done Report.None) (spoken true p b.outs) = two.told h (ap (λ (k : Key). is_under_at k p) one.key ∙ under) (one.up ∙ live) in
        subst (IsOneOf (DialogueRecord.Done Report.None)) (sym words)
        (one_later (DialogueRecord.Done Report.None) (spoken true p a.outs) (spoken (stays true p a.outs) p b.outs) (subst (λ v. IsOneOf (DialogueRecord.Done Report.None) (spoken v p b.outs)) (sym (one.shut i)) later))

    says : (v : Bool) → asks_tell is_complete_none a.outs ≡ v → (asks_tell is_complete_none a.outs || asks_tell is_complete_none b.outs) ≡ true → is_under_at t.key p ≡ true → t.up ≡ true → IsOneOf (DialogueRecord.Done Report.None) (spoken true p (a.outs ++ b.outs))
    says true i h under live = subst (IsOneOf (DialogueRecord.Done Report.None)) (sym words) (one_first (DialogueRecord.Done Report.None) (spoken true p a.outs) (spoken (stays true p a.outs) p b.outs) (one.told i under live))
    says false i h under live = second (grind (arith, h, i)) under live (is_nil a.next.phase) refl

later_logs : (x y : Option LogRec) → logs_ready_or_commit x ≡ false → logs_ready_or_commit (elim y as (λ _. Option LogRec) [ None ↦ x | Some r ↦ Some r ]) ≡ true → logs_ready_or_commit y ≡ true
later_logs x None off h = absurd (cc (off, h))
later_logs x (Some r) off h = h

keeps_then : (p : ℕ) (t : Transaction) (a : Turn) (f : Transaction → Turn) → logs_ready_or_commit a.rec ≡ false → IsKeeping p t a → IsKeeping p a.next (f a.next) → IsKeeping p t (and_then a f)
keeps_then p t a f off one two = joined p t a (f a.next) (and_then a f) refl refl (later_logs a.rec (f a.next).rec off) one two

keeps_first : (p : ℕ) (t u : Transaction) (outs : List TxOut) (a : Turn) → IsKeeping p t (turn outs u) → IsKeeping p u a → IsKeeping p t (before outs a)
keeps_first p t u outs a one two = joined p t (turn outs u) a (before outs a) refl refl (λ l. l) one two

-- ---- what the first parts log

rolling_logs : (asked : Bool) (t : Transaction) → logs_ready_or_commit (begin_rolling asked t).rec ≡ false
unfolding begin_rolling
rolling_logs asked t = grind arith

ask_logs : (t : Transaction) → logs_ready_or_commit (ask_commit t).rec ≡ false
unfolding ask_commit
ask_logs t = refl

count_logs : (q : ℕ) (t : Transaction) → logs_ready_or_commit (count_branch q t).rec ≡ false
unfolding count_branch
count_logs q t = refl

left_logs : (q : ℕ) (t : Transaction) → logs_ready_or_commit (branch_left q t).rec ≡ false
unfolding branch_left
left_logs q t = refl

end_logs : (q : ℕ) (r : Report) (t : Transaction) → logs_ready_or_commit (end_branch q r t).rec ≡ false
unfolding end_branch
end_logs q r t = refl

report_none : (q : ℕ) (r : Report) → asks_tell is_complete_none (tell_report q r) ≡ false
report_none q r = grind arith

pub retried_untold : (f : Indication → Bool) → f Indication.Commit ≡ false → (t : Transaction) → asks_tell f (retried t) ≡ false
retried_untold f off t = joined_retried (IsUntold f) (untold f) t (rw off refl) (λ a b z i. refl) (λ c. (still_ask (aaid_of t.key) t.rows).1 f)

-- the outputs of a completed commitment tell of its report alone
abbrev pub completion : Transaction → Report → List TxOut
completion t r = forgets (aaid_of t.key) t.rows ++ done_up t r ++ (TxOut.Tell (Indication.CommitComplete r) ∷ []) ++ ends_down t.rows ++ end_up t

pub completion_tells : (f : Indication → Bool) (t : Transaction) (r : Report) → asks_tell f (completion t r) ≡ f (Indication.CommitComplete r)
completion_tells f t r =
    let a : List TxOut = forgets (aaid_of t.key) t.rows in
    let d : List TxOut = done_up t r in
    let c : List TxOut = TxOut.Tell (Indication.CommitComplete r) ∷ [] in
    let x : List TxOut = ends_down t.rows in
    let y : List TxOut = end_up t in
    tell_append f (a ++ d ++ c ++ x) y
    ∙ rw (tell_append f (a ++ d ++ c) x, tell_append f (a ++ d) c, tell_append f a d, (still_forgets (aaid_of t.key) t.rows).1 f, (still_done t r).1 f, (still_ends t.rows).1 f, (still_end_up t).1 f) (last (f (Indication.CommitComplete r)))
  where
    last : (b : Bool) → ((((false || false) || (b || false)) || false) || false) ≡ b
    last true = refl
    last false = refl

-- ---- rules

abbrev IsStaying : ℕ → List TxOut → Type 0
IsStaying p outs = stays true p outs ≡ true

staying : (p : ℕ) → IsJoined (IsStaying p)
staying p = record { none = refl; more = λ xs ys h i. stays_append true p xs ys ∙ ap (λ v. stays v p ys) h ∙ i }

keeps_order : (p : ℕ) (t : Transaction) → is_nil t.phase ≡ false → IsKeeping p t (order t)
unfolding order
keeps_order p t late =
    keeps_quiet p t (order t) (λ n. absurd (cc (n, late)))
    (λ n. joined_order (IsStaying p) (staying p) t refl (λ q. refl)) refl refl refl (λ l. refl) (joined_order (IsUntold is_complete_none) (untold is_complete_none) t refl (λ q. refl))

keeps_settle : (p : ℕ) (t : Transaction) → IsKeeping p t (settle t)
unfolding settle
keeps_settle p t = go (is_active t.phase && t.asked && all_settled t.rows) (is_under t.key) refl refl
  where
    go : (a b : Bool) → (is_active t.phase && t.asked && all_settled t.rows) ≡ a → is_under t.key ≡ b → IsKeeping p t (settle t)
    go false b i j = let same : settle t ≡ turn [] t = grind (arith, i) in subst (IsKeeping p t) (sym same) (keeps_still p t [] refl refl)
    go true false i j = let same : settle t ≡ order t = grind (arith, i, j) in subst (IsKeeping p t) (sym same) (keeps_order p t (grind (arith, i)))
    go true true i j = rw (i, j, settle) (keeps_quiet p t (vote t) (λ n. absurd (grind (arith, i, n))) (λ n. up_stays t p DialogueRecord.Ready) refl refl refl (λ l. refl) ((still_up t DialogueRecord.Ready refl).1 is_complete_none))

report_is : (r : Report) → is_report_none r ≡ true → r ≡ Report.None
report_is Report.None h = refl
report_is _ h = absurd (cc (h))

keeps_commit : (p : ℕ) (t : Transaction) → is_nil t.phase ≡ false → IsKeeping p t (complete_commit t)
unfolding complete_commit
keeps_commit p t late = go (not t.owes && all_done t.rows) refl
  where
    r : Report
    r = join (own_damage t.decision) (reports_of t.rows)

    bare : (r : Report) → logs_ready_or_commit (Some (if is_report_none r then log_end t Outcome.Commit else log_damage t Outcome.Commit r (owed_of t.rows))) ≡ true → ⊥
    bare Report.None l = cc (l)
    bare Report.Hazard l = cc (l)
    bare Report.Mix l = cc (l)

    says : (r : Report) → asks_tell is_complete_none (completion t r) ≡ true → is_under_at t.key p ≡ true → t.up ≡ true → IsOneOf (DialogueRecord.Done Report.None) (spoken true p (completion t r))
    says r h under live =
        let none : r ≡ Report.None = report_is r (sym (completion_tells is_complete_none t r) ∙ h) in
        let words : spoken true p (completion t r) ≡ DialogueRecord.Done r ∷ [] = commit_said t p r ∙ rw (under, live) refl in
        subst (IsOneOf (DialogueRecord.Done Report.None)) (sym words) (inl (ap DialogueRecord.Done none))

    go : (b : Bool) → (not t.owes && all_done t.rows) ≡ b → IsKeeping p t (complete_commit t)
    go true i = rw (i, complete_commit) (record { over = λ n. refl; shut = λ n. absurd (cc (n)); up = refl; rows = refl; key = refl; logged = λ l. absurd (bare r l); mute = λ n. absurd (cc (n, late)); told = says r })
    go false i = rw (i, complete_commit) (keeps_still p t [] refl refl)

keeps_rollback : (p : ℕ) (t : Transaction) → IsKeeping p t (complete_rollback t)
unfolding complete_rollback
keeps_rollback p t = go (not t.owes && all_rolled_back t.rows && (t.superior_rolled || not t.up)) refl
  where
    over : Report → Turn
    over r = turn (carry_up t (DialogueRecord.RolledBack r) ++ (TxOut.Tell (Indication.RollbackComplete r) ∷ [])) (record t { phase = Phase.Nil })

    none : (r : Report) → asks_tell is_complete_none (over r).outs ≡ false
    none r = tell_append is_complete_none (carry_up t (DialogueRecord.RolledBack r)) (TxOut.Tell (Indication.RollbackComplete r) ∷ []) ∙ rw ((still_up t (DialogueRecord.RolledBack r) refl).1 is_complete_none) refl

    go : (b : Bool) → (not t.owes && all_rolled_back t.rows && (t.superior_rolled || not t.up)) ≡ b → IsKeeping p t (complete_rollback t)
    go true i = rw (i, complete_rollback) (keeps_quiet p t (over (join t.own (reports_of t.rows))) (λ n. refl) (λ n. absurd (cc (n))) refl refl refl (λ l. absurd (cc (l))) (none (join t.own (reports_of t.rows))))
    go false i = rw (i, complete_rollback) (keeps_still p t [] refl refl)

keeps_rolling : (p : ℕ) (asked : Bool) (t : Transaction) → is_nil t.phase ≡ false → IsKeeping p t (begin_rolling asked t)
unfolding begin_rolling
keeps_rolling p asked t late =
    keeps_quiet p t (begin_rolling asked t) (λ n. absurd (cc (n, late))) (λ n. joined_rolls (IsStaying p) (staying p) asked t refl (λ q. refl)) refl refl refl (λ l. refl) (joined_rolls (IsUntold is_complete_none) (untold is_complete_none) asked t refl (λ q. refl))

keeps_roll : (p : ℕ) (asked : Bool) (t : Transaction) → is_nil t.phase ≡ false → IsKeeping p t (roll asked t)
keeps_roll p asked t late = keeps_then p t (begin_rolling asked t) complete_rollback (rolling_logs asked t) (keeps_rolling p asked t late) (keeps_rollback p (begin_rolling asked t).next)

keeps_ask : (p : ℕ) (t : Transaction) → IsKeeping p t (ask_commit t)
unfolding ask_commit
keeps_ask p t = keeps_quiet p t (ask_commit t) (λ n. n) (λ n. joined_prepare (IsStaying p) (staying p) t.rows (λ q. refl)) refl (ap live_row (prepare_row p t.rows) ∙ on (find_row t.rows p)) refl (λ l. absurd (cc (l))) ((still_prepare t.rows).1 is_complete_none)
  where
    on : (o : Option Row) → live_row (elim o as (λ _. Option Row) [ None ↦ None | Some r ↦ Some (record r { branch = record r.branch { prepared = true } }) ]) ≡ live_row o
    on None = refl
    on (Some r) = refl

keeps_leave : (p : ℕ) (t : Transaction) → IsKeeping p t (leave t)
unfolding leave
keeps_leave p t = keeps_quiet p t (leave t) (λ n. refl) (λ n. absurd (cc (n))) refl refl refl (λ l. absurd (cc (l))) (joined_leaves (IsUntold is_complete_none) (untold is_complete_none) t (λ q. refl) (λ q. refl) (λ q. refl))

keeps_count : (p q : ℕ) (t : Transaction) → IsKeeping p t (count_branch q t)
unfolding count_branch
keeps_count p q t = keeps_row p t (TxOut.Tell (Indication.Ready q) ∷ []) q (λ r. record r { branch = record r.branch { counted = true } }) refl refl (λ r. refl) (λ r. refl)

report_stays : (p q : ℕ) (r : Report) → stays true p (tell_report q r) ≡ true
report_stays p q r = grind arith

keeps_end : (p q : ℕ) (r : Report) (t : Transaction) → IsKeeping p t (end_branch q r t)
unfolding end_branch
keeps_end p q x t = keeps_row p t (tell_report q x) q (λ r. record r { branch = record r.branch { ended = true; report = x } }) (report_stays p q x) (report_none q x) (λ r. refl) (λ r. refl)

keeps_left : (p q : ℕ) (t : Transaction) → IsKeeping p t (branch_left q t)
unfolding branch_left
keeps_left p q t = keeps_row p t (TxOut.Tell (Indication.Left q) ∷ []) q (λ r. record r { branch = record r.branch { left = true } }) refl refl (λ r. refl) (λ r. refl)

keeps_takes_left : (p q : ℕ) (t : Transaction) → IsKeeping p t (takes_left q t)
keeps_takes_left p q t = go (is_active t.phase)
  where
    go : (b : Bool) → IsKeeping p t (if b then and_then (branch_left q t) settle else and_then (end_branch q Report.None t) complete_rollback)
    go true = keeps_then p t (branch_left q t) settle (left_logs q t) (keeps_left p q t) (keeps_settle p (branch_left q t).next)
    go false = keeps_then p t (end_branch q Report.None t) complete_rollback (end_logs q Report.None t) (keeps_end p q Report.None t) (keeps_rollback p (end_branch q Report.None t).next)

-- with a state that differs in what no arc tells
noted : (p : ℕ) (t u : Transaction) (a : Turn) → u.phase ≡ t.phase → u.up ≡ t.up → u.rows ≡ t.rows → u.key ≡ t.key → IsKeeping p u a → IsKeeping p t a
noted p t u a phase up rows key k = record {
  over = λ n. k.over (ap is_nil phase ∙ n);
  shut = k.shut;
  up = k.up ∙ up;
  rows = k.rows ∙ ap (λ (rs : List Row). live_row (find_row rs p)) rows;
  key = k.key ∙ key;
  logged = k.logged;
  mute = λ n. k.mute (ap is_nil phase ∙ n);
  told = λ h under live. k.told h (ap (λ (x : Key). is_under_at x p) key ∙ under) (up ∙ live);
}

keeps_superior : (p : ℕ) (t : Transaction) → is_nil t.phase ≡ false → IsKeeping p t (superior_rolls t)
keeps_superior p t late = noted p t u (superior_rolls t) refl refl refl refl (go (is_rolling t.phase))
  where
    u : Transaction
    u = record t { superior_rolled = true }

    go : (b : Bool) → IsKeeping p u (if b then complete_rollback u else roll false u)
    go true = keeps_rollback p u
    go false = keeps_roll p false u late

keeps_complete : (p : ℕ) (t : Transaction) → is_nil t.phase ≡ false → IsKeeping p t (complete t)
keeps_complete p t late = go t.phase
  where
    go : (h : Phase) → IsKeeping p t (elim h as (λ _. Turn) [
      | Phase.Nil ↦ turn [] t
      | Phase.Active ↦ turn [] t
      | Phase.Ready ↦ turn [] t
      | Phase.Committing ↦ complete_commit t
      | Phase.Rolling ↦ complete_rollback t
    ])
    go Phase.Nil = keeps_still p t [] refl refl
    go Phase.Active = keeps_still p t [] refl refl
    go Phase.Ready = keeps_still p t [] refl refl
    go Phase.Committing = keeps_commit p t late
    go Phase.Rolling = keeps_rollback p t

-- ---- events

keeps_user : (p : ℕ) (s : Transaction) (r : Request) → is_calm (TxEvent.User r) ≡ true → is_nil s.phase ≡ false → IsKeeping p s (by_user r s)
keeps_user p s (Request.UAbort q) calm late = absurd (cc (calm))
keeps_user p s (Request.DeferEnd q) calm late = keeps_row p s (TxOut.Carry q DialogueRecord.DeferEnd ∷ []) q (λ r. record r { ends = true }) refl refl (λ r. refl) (λ r. refl)
keeps_user p s (Request.DeferGrant q) calm late = keeps_still p s (TxOut.Carry q DialogueRecord.DeferGrant ∷ []) refl refl
keeps_user p s (Request.Prepare q) calm late = keeps_row p s (TxOut.Carry q DialogueRecord.Prepare ∷ []) q (λ r. record r { branch = record r.branch { prepared = true } }) refl refl (λ r. refl) (λ r. refl)
keeps_user p s Request.Commit calm late = keeps_then p s (ask_commit s) settle (ask_logs s) (keeps_ask p s) (keeps_settle p (ask_commit s).next)
keeps_user p s Request.Done calm late = noted p s (record s { owes = false }) (complete (record s { owes = false })) refl refl refl refl (keeps_complete p (record s { owes = false }) late)
keeps_user p s Request.Rollback calm late = keeps_roll p true s late
keeps_user p s Request.Unchanged calm late = keeps_leave p s
keeps_user p s _ calm late = keeps_still p s [] refl refl

-- the arc of one that leaves with an end is shut, and no other one
dead_other : (p q : ℕ) (s : Transaction) → (q == p) ≡ false → IsKeeping p s (turn (TxOut.Close q ∷ []) (with_row s q row_dead))
dead_other p q s other =
    keeps_quiet p s (turn (TxOut.Close q ∷ []) (with_row s q row_dead)) (λ n. ap is_nil (row_phase s q row_dead) ∙ n) (λ n. rw other refl) (row_up s q row_dead) (ap live_row same) (row_key s q row_dead) (λ l. absurd (cc (l))) refl
  where
    same : find_row (with_row s q row_dead).rows p ≡ find_row s.rows p
    same = row_with s q row_dead p (λ r. refl) ∙ rw other refl

-- an arc of another peer goes
dead_arc : (p q : ℕ) (s : Transaction) → (q == p) ≡ false → IsKeeping p s (turn [] (with_row s q row_dead))
dead_arc p q s other =
    keeps_quiet p s (turn [] (with_row s q row_dead)) (λ n. ap is_nil (row_phase s q row_dead) ∙ n) (λ n. refl) (row_up s q row_dead) (ap live_row same) (row_key s q row_dead) (λ l. absurd (cc (l))) refl
  where
    same : find_row (with_row s q row_dead).rows p ≡ find_row s.rows p
    same = row_with s q row_dead p (λ r. refl) ∙ rw other refl

keeps_lost : (p q : ℕ) (s : Transaction) → (not (q == p) && not (is_under_at s.key q)) ≡ true → is_nil s.phase ≡ false → IsKeeping p s (lost_arc q s)
unfolding lost_arc
keeps_lost p q s spared late = subst (λ (u : Transaction). IsKeeping p s (after u)) (sym same) (go (is_active s.phase && (is_under_at s.key q || row_holds s.rows q is_waited_for)) (is_rolling s.phase))
  where
    other : (q == p) ≡ false
    other = grind (arith, spared)

    off : is_under_at s.key q ≡ false
    off = grind (arith, spared)

    g : Transaction
    g = with_row s q row_dead

    after : Transaction → Turn
    after u = if is_active s.phase && (is_under_at s.key q || row_holds s.rows q is_waited_for) then roll false u else if is_rolling s.phase then complete_rollback u else turn [] u

    same : with_arc_lost s q ≡ g
    same = rw off refl

    go : (a b : Bool) → IsKeeping p s (if a then roll false g else if b then complete_rollback g else turn [] g)
    go true b = keeps_first p s g [] (roll false g) (dead_arc p q s other) (keeps_roll p false g (ap is_nil (row_phase s q row_dead) ∙ late))
    go false true = keeps_first p s g [] (complete_rollback g) (dead_arc p q s other) (keeps_rollback p g)
    go false false = dead_arc p q s other

keeps_take : (p q : ℕ) (s : Transaction) (r : DialogueRecord) → spares (TxEvent.Took q r) s.key p ≡ true → leaves_with_end (TxEvent.Took q r) p ≡ false → is_nil s.phase ≡ false → IsKeeping p s (takes q r s)
keeps_take p q s DialogueRecord.UAbort calm off late = keeps_first p s s (TxOut.Tell (Indication.UAbort q) ∷ []) (lost_arc q s) (keeps_still p s (TxOut.Tell (Indication.UAbort q) ∷ []) refl refl) (keeps_lost p q s calm late)
keeps_take p q s DialogueRecord.DeferEnd calm off late = keeps_quiet p s (takes q DialogueRecord.DeferEnd s) (λ n. n) (λ n. refl) refl refl refl (λ l. absurd (cc (l))) refl
keeps_take p q s DialogueRecord.DeferGrant calm off late = keeps_still p s (TxOut.Tell (Indication.DeferGrant q) ∷ []) refl refl
keeps_take p q s DialogueRecord.Prepare calm off late = keeps_quiet p s (takes q DialogueRecord.Prepare s) (λ n. n) (λ n. refl) refl refl refl (λ l. absurd (cc (l))) refl
keeps_take p q s DialogueRecord.Ready calm off late = keeps_then p s (count_branch q s) settle (count_logs q s) (keeps_count p q s) (keeps_settle p (count_branch q s).next)
keeps_take p q s DialogueRecord.Commit calm off late = keeps_order p s late
keeps_take p q s (DialogueRecord.Done r) calm off late = keeps_then p s (end_branch q r s) complete_commit (end_logs q r s) (keeps_end p q r s) (keeps_commit p (end_branch q r s).next (ap is_nil (phase_end q r s) ∙ late))
keeps_take p q s DialogueRecord.Rollback calm off late = go (is_under_at s.key q)
  where
    go : (b : Bool) → IsKeeping p s (if b then superior_rolls s else roll false s)
    go true = keeps_superior p s late
    go false = keeps_roll p false s late
keeps_take p q s (DialogueRecord.RolledBack r) calm off late = keeps_then p s (end_branch q r s) complete_rollback (end_logs q r s) (keeps_end p q r s) (keeps_rollback p (end_branch q r s).next)
keeps_take p q s DialogueRecord.Left calm off late = keeps_takes_left p q s
keeps_take p q s DialogueRecord.LeftEnd calm off late =
    keeps_first p s (with_row s q row_dead) (TxOut.Close q ∷ []) (takes_left q (with_row s q row_dead)) (dead_other p q s off) (keeps_takes_left p q (with_row s q row_dead))
keeps_take p q s _ calm off late = keeps_still p s [] refl refl

keeps_reply : (p : ℕ) (s : Transaction) (b : BranchId) (r : RecState) → is_nil s.phase ≡ false → IsKeeping p s (replied s b r)
keeps_reply p s b RecState.Commit late = go (is_ready s.phase)
  where
    go : (v : Bool) → IsKeeping p s (if v then order s else turn [] s)
    go true = keeps_order p s late
    go false = keeps_still p s [] refl refl
keeps_reply p s b (RecState.Done r) late = go (find_row_by_id s.rows b)
  where
    on : (w : Row) (v : Bool) → IsKeeping p s (if v then and_then (end_branch w.branch.peer.node r s) complete_commit else turn [] s)
    on w true = let q : ℕ = w.branch.peer.node in keeps_then p s (end_branch q r s) complete_commit (end_logs q r s) (keeps_end p q r s) (keeps_commit p (end_branch q r s).next (ap is_nil (phase_end q r s) ∙ late))
    on w false = keeps_still p s [] refl refl

    go : (o : Option Row) → IsKeeping p s (elim o as (λ _. Turn) [ None ↦ turn [] s | Some w ↦ if is_open_in_commit s w.branch then and_then (end_branch w.branch.peer.node r s) complete_commit else turn [] s ])
    go None = keeps_still p s [] refl refl
    go (Some w) = on w (is_open_in_commit s w.branch)
keeps_reply p s b RecState.Unknown late = go (is_ready s.phase)
  where
    go : (v : Bool) → IsKeeping p s (if v then superior_rolls s else turn [] s)
    go true = keeps_superior p s late
    go false = keeps_still p s [] refl refl
keeps_reply p s b RecState.RetryLater late = keeps_still p s [] refl refl

ask_stays : (a : Aaid) (p : ℕ) (rows : List Row) → stays true p (ask_each a rows) ≡ true
ask_stays a p [] = refl
ask_stays a p (r ∷ rows) = grind (arith, ask_stays a p rows)

retried_stays : (p : ℕ) (t : Transaction) → stays true p (retried t) ≡ true
retried_stays p t = grind (arith, ask_stays)

pub keeps_event : (e : TxEvent) (p : ℕ) (s : Transaction) → spares e s.key p ≡ true → leaves_with_end e p ≡ false → is_nil s.phase ≡ false → IsKeeping p s (transacted e s)
keeps_event (TxEvent.User r) p s calm off late = keeps_user p s r calm late
keeps_event (TxEvent.Took q r) p s calm off late = go (sight_of_tx s q r)
  where
    go : (g : Sight) → IsKeeping p s (elim g as (λ _. Turn) [ Acts ↦ takes q r s | Nothing_happens ↦ turn [] s | Out_of_phase ↦ turn [] s ])
    go Acts = keeps_take p q s r calm off late
    go Nothing_happens = keeps_still p s [] refl refl
    go Out_of_phase = keeps_still p s [] refl refl
keeps_event (TxEvent.Lost q) p s calm off late = keeps_first p s s (TxOut.Tell (Indication.PAbort q) ∷ []) (lost_arc q s) (keeps_still p s (TxOut.Tell (Indication.PAbort q) ∷ []) refl refl) (keeps_lost p q s calm late)
keeps_event TxEvent.Ordered p s calm off late = keeps_order p s late
keeps_event (TxEvent.Reply b r) p s calm off late = keeps_reply p s b r late
keeps_event TxEvent.Retry p s calm off late = keeps_still p s (retried s) (retried_stays p s) (retried_untold is_complete_none refl s)
keeps_event _ p s calm off late = absurd (cc (calm))
