-- Each rule of a transaction moves its phase one way, logs what fits, and tells what it may.
use Rattle.std.proofs.Common.{if◌then◌else◌, ◌≡◌, ℕ, Bool, true, false, refl, ap, sym, ◌∙◌, arith, Some, None, List, [], ◌∷◌, ◌++◌, ◌&&◌, ◌||◌, not}
use Rattle.tp_names.specs.Reports.{join, is_report_none}
use Rattle.tp_names.specs.declared.outcome.Outcome.{Outcome}
use Rattle.tp_names.specs.declared.outcome.Report.{Report}
use Rattle.tp_records.specs.declared.indication.Indication.{Indication}
use Rattle.tp_records.specs.declared.dialogue.DialogueRecord.{DialogueRecord}
use Rattle.tp_model.specs.declared.arc.Phase.{Phase}
use Rattle.tp_model.specs.declared.transaction.TxEvent.{TxEvent}
use Rattle.tp_model.specs.declared.transaction.TxOut.{TxOut}
use Rattle.tp_model.specs.Parts.{Key, Root, Under}
use Rattle.tp_model.specs.Dialogues.{is_active, is_ready, is_committing, is_rolling}
use Rattle.tp_model.specs.Transactions.{Row, Transaction, Turn, turn, aaid_of, is_under, all_done, all_rolled_back, with_row, child_of, children_of, carry_up, tell_report, forgets, done_up, ends_down, end_up, reports_of, own_damage, owed_of, log_ready, log_end, log_damage, rollback_rec, is_own_commit, complete_commit, complete_rollback, begin_rolling, order, ask_commit, leave, count_branch, end_branch, branch_left, retried, completion_of}
use Rattle.tp_steps.specs.Turns.{falls, is_order_for, vote, shut_given_up}
use Rattle.tp_steps.specs.Passages.{begins_none, is_commit_told, is_rollback_told, asks_tell, may_move, is_commit_rec, IsLogged, IsPassed}
use Rattle.tp_steps.proofs.words.Fair.{row_key, row_phase}
use Rattle.tp_steps.proofs.lemmas.Phases.{none_append, tell_append, IsStill, still_up, still_prepare, still_forgets, still_ask, still_done, move_same, children_row, IsBeginless, beginless, IsUntold, untold, still_joined}
use Rattle.tp_steps.proofs.lemmas.Joined.{joined_retried, joined_commit, joined_rolls, joined_order, joined_leaves}

-- ---- steps that log nothing and stay in their phase

plain : (e : TxEvent) (s t : Transaction) (a : Turn) → a.rec ≡ None → a.next.key ≡ t.key → a.next.phase ≡ t.phase → (is_active t.phase ≡ false → children_of a.next.rows ≡ children_of t.rows)
    → begins_none a.outs ≡ true → (asks_tell is_commit_told a.outs ≡ true → is_committing t.phase ≡ true) → (asks_tell is_rollback_told a.outs ≡ true → is_rolling t.phase ≡ true) → IsPassed e s t a
plain e s t a rec key phase children begins c r = record {
  key = key;
  begins = begins;
  moves = rw phase (move_same t.phase);
  children = children;
  logs = rw rec tt;
  orders = λ h u. absurd (cc (ap is_commit_rec rec, h));
  commits = λ h. let k : is_committing t.phase ≡ true = ap is_committing (sym phase) ∙ h in rw k refl;
  rolling = λ h. let k : is_rolling t.phase ≡ true = ap is_rolling (sym phase) ∙ h in rw k refl;
  tells_commit = λ h. rw (c h) refl;
  tells_rollback = λ h. rw (r h) refl;
}

-- outputs that tell no outcome
pub quiet : (e : TxEvent) (s t : Transaction) (outs : List TxOut) (u : Transaction) → u.key ≡ t.key → u.phase ≡ t.phase → (is_active t.phase ≡ false → children_of u.rows ≡ children_of t.rows)
    → begins_none outs ≡ true → asks_tell is_commit_told outs ≡ false → asks_tell is_rollback_told outs ≡ false → IsPassed e s t (turn outs u)
quiet e s t outs u key phase children begins c r = plain e s t (turn outs u) refl key phase children begins (λ h. absurd (cc (c, h))) (λ h. absurd (cc (r, h)))

-- what a user may be told beside outcomes
pub tell_one : (e : TxEvent) (s t : Transaction) (i : Indication) → is_commit_told i ≡ false → is_rollback_told i ≡ false → IsPassed e s t (turn (TxOut.Tell i ∷ []) t)
tell_one e s t i c r = quiet e s t (TxOut.Tell i ∷ []) t refl refl (λ h. refl) refl (rw c refl) (rw r refl)

-- one row changes
pub quiet_row : (e : TxEvent) (s t : Transaction) (outs : List TxOut) (q : ℕ) (f : Row → Row) → ((r : Row) → child_of (f r).branch ≡ child_of r.branch) → ((r : Row) → (f r).branch.left ≡ r.branch.left)
    → begins_none outs ≡ true → asks_tell is_commit_told outs ≡ false → asks_tell is_rollback_told outs ≡ false → IsPassed e s t (turn outs (with_row t q f))
quiet_row e s t outs q f c l b x y = quiet e s t outs (with_row t q f) (row_key t q f) (row_phase t q f) (λ h. children_row t q f c l) b x y

-- ---- the rules that log or change the phase

pub passed_vote : (e : TxEvent) (s t : Transaction) → is_active t.phase ≡ true → is_under t.key ≡ true → IsPassed e s t (vote t)
passed_vote e s t act under =
    let up = still_up t DialogueRecord.Ready refl in
    record {
      key = refl;
      begins = up.0;
      moves = grind (arith, act, active_any t.phase Phase.Ready);
      children = λ h. refl;
      logs = go t.key refl;
      orders = λ h u. absurd (cc (no_commit t.key refl, h));
      commits = λ h. absurd (cc (h));
      rolling = λ h. absurd (cc (h));
      tells_commit = λ h. absurd (cc (up.1 is_commit_told, h));
      tells_rollback = λ h. absurd (cc (up.1 is_rollback_told, h));
    }
  where
    active_any : (p q : Phase) → is_active p ≡ true → may_move p q ≡ true
    active_any Phase.Active q h = refl
    active_any Phase.Nil q h = absurd cc
    active_any Phase.Ready q h = absurd cc
    active_any Phase.Committing q h = absurd cc
    active_any Phase.Rolling q h = absurd cc

    no_commit : (k : Key) → t.key ≡ k → is_commit_rec (log_ready t) ≡ false
    no_commit (Root a) i = grind (arith, i)
    no_commit (Under a b w) i = grind (arith, i)

    go : (k : Key) → t.key ≡ k → IsLogged t (log_ready t) (record t { phase = Phase.Ready })
    go (Root a) i = absurd (grind (arith, under, i))
    go (Under a b w) i = rw i (refl, refl, refl, act, refl)

open_any : (p q : Phase) → (is_active p || is_ready p) ≡ true → may_move Phase.Ready q ≡ true → may_move p q ≡ true
open_any Phase.Active q h i = refl
open_any Phase.Ready q h i = i
open_any _ q h i = absurd cc

pub passed_order : (e : TxEvent) (s t : Transaction) → (is_active t.phase || is_ready t.phase) ≡ true → (is_under t.key ≡ true → is_order_for e s ≡ true) → IsPassed e s t (order t)
unfolding order
passed_order e s t open_phase ordered =
    record {
      key = refl;
      begins = joined_order IsBeginless beginless t refl (λ p. refl);
      moves = open_any t.phase Phase.Committing open_phase refl;
      children = λ h. refl;
      logs = (refl, refl, open_phase, refl);
      orders = λ h u. ordered u;
      commits = λ h. grind arith;
      rolling = λ h. absurd (cc (h));
      tells_commit = λ h. grind arith;
      tells_rollback = λ h. absurd (cc (joined_order (IsUntold is_rollback_told) (untold is_rollback_told) t refl (λ p. refl), h));
    }

rolls_rec : (t : Transaction) (u : Transaction) → IsLogged t (rollback_rec t) u
rolls_rec t u = go (is_ready t.phase) (is_own_commit t)
  where
    go : (a b : Bool) → IsLogged t (if not a then None else if b then Some (log_damage t Outcome.Rollback Report.Mix []) else Some (log_end t Outcome.Rollback)) u
    go false b = tt
    go true true = (refl, λ h. absurd (cc (h)))
    go true false = refl

no_commit : (t : Transaction) → is_commit_rec (rollback_rec t) ≡ false
no_commit t = grind arith

pub passed_rolls : (e : TxEvent) (s t : Transaction) (asked : Bool) → falls e s ≡ true → (is_active t.phase || is_ready t.phase) ≡ true → IsPassed e s t (begin_rolling asked t)
unfolding begin_rolling
passed_rolls e s t asked fall open_phase = record {
  key = refl;
  begins = joined_rolls IsBeginless beginless asked t refl (λ p. refl);
  moves = open_any t.phase Phase.Rolling open_phase refl;
  children = λ h. refl;
  logs = rolls_rec t (begin_rolling asked t).next;
  orders = λ h u. absurd (cc (no_commit t, h));
  commits = λ h. absurd (cc (h));
  rolling = λ h. rw fall (grind arith);
  tells_commit = λ h. absurd (cc (joined_rolls (IsUntold is_commit_told) (untold is_commit_told) asked t refl (λ p. refl), h));
  tells_rollback = λ h. rw fall (grind arith);
}

pub passed_commit : (e : TxEvent) (s t : Transaction) → is_committing t.phase ≡ true → IsPassed e s t (complete_commit t)
unfolding complete_commit
passed_commit e s t c = go (not t.owes && all_ended) refl
  where
    all_ended : Bool
    all_ended = all_done t.rows

    done : (r : Report) → IsPassed e s t (record {
      rec = Some (if is_report_none r then log_end t Outcome.Commit else log_damage t Outcome.Commit r (owed_of t.rows));
      outs = forgets (aaid_of t.key) t.rows ++ done_up t r ++ (TxOut.Tell (Indication.CommitComplete r) ∷ []) ++ ends_down t.rows ++ end_up t;
      completion = completion_of t r;
      next = record t { phase = Phase.Nil };
    })
    done r =
        record {
          key = refl;
          begins = joined_commit IsBeginless beginless t r (still_forgets (aaid_of t.key) t.rows).0 (still_done t r).0 refl (λ p. refl);
          moves = to_nil t.phase c;
          children = λ h. refl;
          logs = logged (is_report_none r);
          orders = λ h u. absurd (cc (no_order (is_report_none r), h));
          commits = λ h. absurd (cc (h));
          rolling = λ h. absurd (cc (h));
          tells_commit = λ h. rw c refl;
          tells_rollback = λ h. absurd (cc (joined_commit (IsUntold is_rollback_told) (untold is_rollback_told) t r ((still_forgets (aaid_of t.key) t.rows).1 is_rollback_told) ((still_done t r).1 is_rollback_told) refl (λ p. refl), h));
        }
      where
        to_nil : (p : Phase) → is_committing p ≡ true → may_move p Phase.Nil ≡ true
        to_nil Phase.Committing h = refl
        to_nil Phase.Nil h = absurd cc
        to_nil Phase.Active h = absurd cc
        to_nil Phase.Ready h = absurd cc
        to_nil Phase.Rolling h = absurd cc

        no_order : (b : Bool) → is_commit_rec (Some (if b then log_end t Outcome.Commit else log_damage t Outcome.Commit r (owed_of t.rows))) ≡ false
        no_order true = refl
        no_order false = refl

        logged : (b : Bool) → IsLogged t (Some (if b then log_end t Outcome.Commit else log_damage t Outcome.Commit r (owed_of t.rows))) (record t { phase = Phase.Nil })
        logged true = refl
        logged false = (refl, λ h. c)

    go : (b : Bool) → (not t.owes && all_ended) ≡ b → IsPassed e s t (if b then (let r : Report = join (own_damage t.decision) (reports_of t.rows) in
        record {
          rec = Some (if is_report_none r then log_end t Outcome.Commit else log_damage t Outcome.Commit r (owed_of t.rows));
          outs = forgets (aaid_of t.key) t.rows ++ done_up t r ++ (TxOut.Tell (Indication.CommitComplete r) ∷ []) ++ ends_down t.rows ++ end_up t;
          completion = completion_of t r;
          next = record t { phase = Phase.Nil };
        }) else turn [] t)
    go true i = done (join (own_damage t.decision) (reports_of t.rows))
    go false i = quiet e s t [] t refl refl (λ h. refl) refl refl refl

pub passed_rollback : (e : TxEvent) (s t : Transaction) → is_rolling t.phase ≡ true → IsPassed e s t (complete_rollback t)
unfolding complete_rollback
passed_rollback e s t c = go (not t.owes && all_rolled_back t.rows && (t.superior_rolled || not t.up))
  where
    to_nil : (p : Phase) → is_rolling p ≡ true → may_move p Phase.Nil ≡ true
    to_nil Phase.Rolling h = refl
    to_nil Phase.Nil h = absurd cc
    to_nil Phase.Active h = absurd cc
    to_nil Phase.Ready h = absurd cc
    to_nil Phase.Committing h = absurd cc

    done : (r : Report) → IsPassed e s t (turn (carry_up t (DialogueRecord.RolledBack r) ++ (TxOut.Tell (Indication.RollbackComplete r) ∷ [])) (record t { phase = Phase.Nil }))
    done r =
        let u : List TxOut = carry_up t (DialogueRecord.RolledBack r) in
        let i : List TxOut = TxOut.Tell (Indication.RollbackComplete r) ∷ [] in
        let up = still_up t (DialogueRecord.RolledBack r) refl in
        record {
          key = refl;
          begins = none_append u i ∙ rw up.0 refl;
          moves = to_nil t.phase c;
          children = λ h. refl;
          logs = tt;
          orders = λ h u. absurd (cc (h));
          commits = λ h. absurd (cc (h));
          rolling = λ h. absurd (cc (h));
          tells_commit = λ h. let none : asks_tell is_commit_told (u ++ i) ≡ false = tell_append is_commit_told u i ∙ rw (up.1 is_commit_told) refl in absurd (cc (none, h));
          tells_rollback = λ h. rw c refl;
        }

    go : (b : Bool) → IsPassed e s t (if b then (let r : Report = join t.own (reports_of t.rows) in
        turn (carry_up t (DialogueRecord.RolledBack r) ++ (TxOut.Tell (Indication.RollbackComplete r) ∷ [])) (record t { phase = Phase.Nil })) else turn [] t)
    go true = done (join t.own (reports_of t.rows))
    go false = quiet e s t [] t refl refl (λ h. refl) refl refl refl

pub passed_leave : (e : TxEvent) (s t : Transaction) → is_active t.phase ≡ true → IsPassed e s t (leave t)
unfolding leave
passed_leave e s t act = record {
  key = refl;
  begins = outs.0;
  moves = to_nil t.phase act;
  children = λ h. refl;
  logs = tt;
  orders = λ h u. absurd (cc (h));
  commits = λ h. absurd (cc (h));
  rolling = λ h. absurd (cc (h));
  tells_commit = λ h. absurd (cc (outs.1 is_commit_told, h));
  tells_rollback = λ h. absurd (cc (outs.1 is_rollback_told, h));
}
  where
    to_nil : (p : Phase) → is_active p ≡ true → may_move p Phase.Nil ≡ true
    to_nil Phase.Active h = refl
    to_nil Phase.Nil h = refl
    to_nil Phase.Committing h = absurd cc
    to_nil Phase.Ready h = absurd cc
    to_nil Phase.Rolling h = absurd cc

    outs : IsStill (leave t).outs
    outs = joined_leaves IsStill still_joined t (λ p. (refl, λ f. refl)) (λ p. (refl, λ f. refl)) (λ p. (refl, λ f. refl))

-- ---- branches

pub passed_ask : (e : TxEvent) (s t : Transaction) → is_active t.phase ≡ true → IsPassed e s t (ask_commit t)
unfolding ask_commit
passed_ask e s t act =
    let p = still_prepare t.rows in
    plain e s t (ask_commit t) refl refl refl (λ h. absurd (cc (act, h))) p.0 (λ h. absurd (cc (p.1 is_commit_told, h))) (λ h. absurd (cc (p.1 is_rollback_told, h)))

retried_begun : (t : Transaction) → begins_none (retried t) ≡ true
retried_begun t = joined_retried IsBeginless beginless t refl (λ a b z i. refl) (λ c. (still_ask (aaid_of t.key) t.rows).0)

retried_commit : (t : Transaction) → asks_tell is_commit_told (retried t) ≡ true → is_committing t.phase ≡ true
retried_commit t h = grind (arith, h)

retried_rollback : (t : Transaction) → asks_tell is_rollback_told (retried t) ≡ false
retried_rollback t = let a = (still_ask (aaid_of t.key) t.rows).1 is_rollback_told in grind (arith, tell_append, a)

pub passed_retried : (e : TxEvent) (s t : Transaction) → IsPassed e s t (turn (retried t) t)
passed_retried e s t = plain e s t (turn (retried t) t) refl refl refl (λ h. refl) (retried_begun t) (retried_commit t) (λ h. absurd (cc (retried_rollback t, h)))

pub passed_end : (e : TxEvent) (s : Transaction) (q : ℕ) (r : Report) (t : Transaction) → IsPassed e s t (end_branch q r t)
unfolding end_branch
passed_end e s q r t = quiet_row e s t (tell_report q r) q (λ w. record w { branch = record w.branch { ended = true; report = r } }) (λ w. refl) (λ w. refl) (grind arith) (grind arith) (grind arith)

pub passed_count : (e : TxEvent) (s : Transaction) (q : ℕ) (t : Transaction) → IsPassed e s t (count_branch q t)
unfolding count_branch
passed_count e s q t = quiet_row e s t (TxOut.Tell (Indication.Ready q) ∷ []) q (λ w. record w { branch = record w.branch { counted = true } }) (λ w. refl) (λ w. refl) refl refl refl

pub passed_left : (e : TxEvent) (s : Transaction) (q : ℕ) (t : Transaction) → is_active t.phase ≡ true → IsPassed e s t (branch_left q t)
unfolding branch_left
passed_left e s q t act =
    let f : Row → Row = λ w. record w { branch = record w.branch { left = true } } in
    quiet e s t (TxOut.Tell (Indication.Left q) ∷ []) (with_row t q f) (row_key t q f) (row_phase t q f) (λ h. absurd (cc (act, h))) refl refl refl

pub passed_shut : (e : TxEvent) (s : Transaction) (q : ℕ) (r : Row) → IsPassed e s s (shut_given_up q r s)
passed_shut e s q r =
    quiet_row e s s (if r.live then TxOut.Shut q ∷ [] else []) q (λ w. record w { branch = record w.branch { given_up = true }; live = false; ends = false }) (λ w. refl) (λ w. refl) (go r.live).0 ((go r.live).1 is_commit_told) ((go r.live).1 is_rollback_told)
  where
    go : (b : Bool) → IsStill (if b then TxOut.Shut q ∷ [] else [])
    go true = (refl, λ f. refl)
    go false = (refl, λ f. refl)
