-- Each turn of a transaction forces the record that tells what it makes of it: an instance of the steps of a turn.
use Rattle.std.proofs.Common.{if◌then◌else◌, ◌≡◌, ◌⊎◌, inl, inr, ℕ, Bool, true, false, refl, ap, sym, ◌∙◌, arith, Option, Some, None, List, [], ◌∷◌, ◌&&◌, ◌||◌, not}
use Rattle.tp_names.specs.declared.identifiers.BranchId.{BranchId}
use Rattle.tp_names.specs.declared.identifiers.NodeKey.{NodeKey}
use Rattle.tp_names.specs.declared.children.Child.{Child}
use Rattle.tp_names.specs.declared.outcome.Outcome.{Outcome}
use Rattle.tp_names.specs.declared.outcome.Report.{Report}
use Rattle.tp_names.specs.Same.{is_aaid, is_branch, is_branch_option, is_key}
use Rattle.tp_names.specs.Reports.{join, is_report_none}
use Rattle.tp_logrec.specs.declared.record.LogRec.{LogRec}
use Rattle.tp_model.specs.declared.arc.Phase.{Phase}
use Rattle.tp_model.specs.declared.transaction.TxEvent.{TxEvent}
use Rattle.tp_model.specs.declared.transaction.TxOut.{TxOut}
use Rattle.tp_model.specs.Parts.{Key, Root, Under, Current}
use Rattle.tp_model.specs.Dialogues.{is_active, is_ready, is_rolling}
use Rattle.tp_model.specs.Transactions.{Row, Transaction, turn, node_key, is_under, all_done, all_rolled_back, with_row, with_arc_lost, child_of, children_of, log_ready, log_commit, log_end, log_damage, rollback_rec, own_damage, reports_of, owed_of, complete_commit, complete_rollback, begin_rolling, order, ask_commit, leave, count_branch, end_branch, branch_left, transacted}
use Rattle.tp_model.specs.Events.{decision_of, without_current, current_by}
use Rattle.tp_steps.specs.Turns.{Turns, vote, row_dead}
use Rattle.tp_steps.specs.Moves.{IsPut}
use Rattle.tp_steps.specs.Standing.{standing, in_log, current_after, IsUndecided, IsTold}
use Rattle.tp_steps.proofs.every.EveryTurn.{every_turn}
use Rattle.tp_steps.proofs.words.Fair.{row_key, row_phase}
use Rattle.tp_steps.proofs.lemmas.Phases.{children_row, lost_children, lost_key}
use Rattle.tp_steps.proofs.words.FairTurns.{lost_phase}
use Rattle.tp_steps.proofs.words.Leaves.{name_same}
use Rattle.tp_steps.proofs.links.Links.{mark_same}

-- ---- keys are as themselves

pub key_self : (k : NodeKey) → is_key k k ≡ true
key_self k = go k.branch
  where
    aaid : is_aaid k.aaid k.aaid ≡ true
    aaid = rw (name_same k.aaid.owner, mark_same k.aaid.mark) refl

    branch : (b : BranchId) → is_branch b b ≡ true
    branch b = rw (name_same b.superior, mark_same b.mark) refl

    go : (o : Option BranchId) → (is_aaid k.aaid k.aaid && is_branch_option o o) ≡ true
    go None = rw aaid refl
    go (Some b) = rw aaid (branch b)

-- ---- steps that force nothing and stay in their phase

stand_same : (k : Key) (p : Phase) (cs ds : List Child) (o : Option Outcome) → (is_active p ≡ false → ds ≡ cs) → standing k p cs o ≡ standing k p ds o
stand_same k Phase.Ready cs ds o h = ap (λ (l : List Child). standing k Phase.Ready l o) (sym (h refl))
stand_same k Phase.Committing cs ds o h = ap (λ (l : List Child). standing k Phase.Committing l o) (sym (h refl))
stand_same k _ cs ds o h = refl

told_quiet : (t u : Transaction) (outs : List TxOut) → u.key ≡ t.key → u.phase ≡ t.phase → u.decision ≡ t.decision → (is_active t.phase ≡ false → children_of u.rows ≡ children_of t.rows)
    → IsUndecided t → IsTold t (turn outs u)
told_quiet t u outs key phase decision children un = record {
  log = rw (key, phase, decision) (stand_same t.key t.phase (children_of t.rows) (children_of u.rows) t.decision children);
  undecided = λ h. decision ∙ un (ap is_active (sym phase) ∙ h);
  active = λ h. (ap is_active (sym phase) ∙ h, refl);
}

pub row_decision : (t : Transaction) (q : ℕ) (f : Row → Row) → (with_row t q f).decision ≡ t.decision
row_decision t q f = grind arith

pub lost_decision : (t : Transaction) (q : ℕ) → (with_arc_lost t q).decision ≡ t.decision
lost_decision t q = grind (arith, row_decision)

told_row : (t : Transaction) (outs : List TxOut) (q : ℕ) (f : Row → Row) → ((r : Row) → child_of (f r).branch ≡ child_of r.branch) → ((r : Row) → (f r).branch.left ≡ r.branch.left)
    → IsUndecided t → IsTold t (turn outs (with_row t q f))
told_row t outs q f c l un = told_quiet t (with_row t q f) outs (row_key t q f) (row_phase t q f) (row_decision t q f) (λ h. children_row t q f c l) un

told_active_row : (t : Transaction) (outs : List TxOut) (q : ℕ) (f : Row → Row) → is_active t.phase ≡ true → IsUndecided t → IsTold t (turn outs (with_row t q f))
told_active_row t outs q f act un = told_quiet t (with_row t q f) outs (row_key t q f) (row_phase t q f) (row_decision t q f) (λ h. absurd (cc (act, h))) un

told_lost : (t : Transaction) (outs : List TxOut) (q : ℕ) → IsUndecided t → IsTold t (turn outs (with_arc_lost t q))
told_lost t outs q un = told_quiet t (with_arc_lost t q) outs (lost_key t q) (lost_phase t q) (lost_decision t q) (λ h. lost_children t q) un

-- ---- the rules that force a record or change the phase

pub active_none : (k : Key) (p : Phase) (cs : List Child) (o : Option Outcome) → is_active p ≡ true → standing k p cs o ≡ None
active_none k Phase.Ready cs o h = absurd cc
active_none k Phase.Committing cs o h = absurd cc
active_none k _ cs o h = refl

told_vote : (t : Transaction) → is_active t.phase ≡ true → is_under t.key ≡ true → IsUndecided t → IsTold t (vote t)
told_vote t act under un = record { log = go t.key under; undecided = λ h. absurd (cc (h)); active = λ h. absurd (cc (h)) }
  where
    go : (k : Key) → is_under k ≡ true → current_after (log_ready (record t { key = k })) (standing k t.phase (children_of t.rows) t.decision) ≡ standing k Phase.Ready (children_of t.rows) t.decision
    go (Root a) h = absurd (cc (h))
    go (Under a b s) h = rw (un act) refl

told_order : (t : Transaction) → decision_of (in_log t) ≡ t.decision → IsTold t (order t)
unfolding order
told_order t same = record { log = go t.key same; undecided = λ h. absurd (cc (h)); active = λ h. absurd (cc (h)) }
  where
    go : (k : Key) → decision_of (standing k t.phase (children_of t.rows) t.decision) ≡ t.decision
        → current_by (log_commit (record t { key = k })) (standing k t.phase (children_of t.rows) t.decision) ≡ standing k Phase.Committing (children_of t.rows) t.decision
    go (Root a) h = ap (standing (Root a) Phase.Committing (children_of t.rows)) h
    go (Under a b s) h = ap (standing (Under a b s) Phase.Committing (children_of t.rows)) h

ready_decision : (k : Key) (p : Phase) (cs : List Child) (o : Option Outcome) → is_ready p ≡ true → decision_of (standing k p cs o) ≡ o
ready_decision k Phase.Ready cs o h = refl
ready_decision k _ cs o h = absurd cc

told_decided : (k : Key) (p : Phase) (cs : List Child) (o : Option Outcome) (n : ℕ) (j : NodeKey) (u : Outcome) → is_ready p ≡ true → current_by (LogRec.Heuristic n j u) (standing k p cs o) ≡ standing k p cs (Some u)
told_decided k Phase.Ready cs o n j u h = refl
told_decided k _ cs o n j u h = absurd cc

-- a record of its own key lets it go
pub gone : (k : Key) (p : Phase) (cs : List Child) (o : Option Outcome) → without_current (node_key k) (standing k p cs o) ≡ None
gone k Phase.Ready cs o = rw (key_self (node_key k)) refl
gone k Phase.Committing cs o = rw (key_self (node_key k)) refl
gone k _ cs o = refl

told_rolls : (t : Transaction) (asked : Bool) → (is_active t.phase || is_ready t.phase) ≡ true → IsTold t (begin_rolling asked t)
unfolding begin_rolling
told_rolls t asked ok = record { log = go t.phase t.decision ok; undecided = λ h. absurd (cc (h)); active = λ h. absurd (cc (h)) }
  where
    go : (p : Phase) (o : Option Outcome) → (is_active p || is_ready p) ≡ true → current_after (rollback_rec (record t { phase = p; decision = o })) (standing t.key p (children_of t.rows) o) ≡ None
    go Phase.Nil o h = absurd (cc (h))
    go Phase.Active o h = refl
    go Phase.Ready None h = gone t.key Phase.Ready (children_of t.rows) None
    go Phase.Ready (Some Outcome.Commit) h = gone t.key Phase.Ready (children_of t.rows) (Some Outcome.Commit)
    go Phase.Ready (Some Outcome.Rollback) h = gone t.key Phase.Ready (children_of t.rows) (Some Outcome.Rollback)
    go Phase.Committing o h = absurd (cc (h))
    go Phase.Rolling o h = absurd (cc (h))

told_completes : (t : Transaction) → IsUndecided t → IsTold t (complete_commit t)
unfolding complete_commit
told_completes t un = go (not t.owes && all_done t.rows) refl
  where
    ended : (b : Bool) (r : Report) → current_by (if b then log_end t Outcome.Commit else log_damage t Outcome.Commit r (owed_of t.rows)) (in_log t) ≡ None
    ended true r = gone t.key t.phase (children_of t.rows) t.decision
    ended false r = gone t.key t.phase (children_of t.rows) t.decision

    go : (b : Bool) → (not t.owes && all_done t.rows) ≡ b → IsTold t (complete_commit t)
    go true h = rw h (record { log = ended (is_report_none (join (own_damage t.decision) (reports_of t.rows))) (join (own_damage t.decision) (reports_of t.rows)); undecided = λ k. absurd (cc (k)); active = λ k. absurd (cc (k)) })
    go false h = rw h (record { log = refl; undecided = un; active = λ k. (k, refl) })

pub rolling_none : (k : Key) (p : Phase) (cs : List Child) (o : Option Outcome) → is_rolling p ≡ true → standing k p cs o ≡ None
rolling_none k Phase.Ready cs o h = absurd cc
rolling_none k Phase.Committing cs o h = absurd cc
rolling_none k _ cs o h = refl

told_unrolls : (t : Transaction) → is_rolling t.phase ≡ true → IsUndecided t → IsTold t (complete_rollback t)
unfolding complete_rollback
told_unrolls t rolling un = go (not t.owes && all_rolled_back t.rows && (t.superior_rolled || not t.up)) refl
  where
    go : (b : Bool) → (not t.owes && all_rolled_back t.rows && (t.superior_rolled || not t.up)) ≡ b → IsTold t (complete_rollback t)
    go true h = rw h (record { log = rolling_none t.key t.phase (children_of t.rows) t.decision rolling; undecided = λ k. absurd (cc (k)); active = λ k. absurd (cc (k)) })
    go false h = rw h (record { log = refl; undecided = un; active = λ k. (k, refl) })

told_then : (t : Transaction) (x y : Option LogRec) (u v : Option Current) → (x ≡ None) ⊎ (y ≡ None) → current_after x (in_log t) ≡ u → current_after y u ≡ v
    → current_after (elim y as (λ _. Option LogRec) [ None ↦ x | Some r ↦ Some r ]) (in_log t) ≡ v
told_then t x None u v q h i = h ∙ i
told_then t None (Some r) u v q h i = ap (current_by r) h ∙ i
told_then t (Some s) (Some r) u v (inl q) h i = absurd (cc (q))
told_then t (Some s) (Some r) u v (inr q) h i = absurd (cc (q))

quiet_both : (x y : Option LogRec) → x ≡ None → y ≡ None → (elim y as (λ _. Option LogRec) [ None ↦ x | Some r ↦ Some r ]) ≡ None
quiet_both x None h i = h
quiet_both x (Some r) h i = i

pub told_turns : (e : TxEvent) (s : Transaction) → Turns e s (λ t a. IsUndecided t → IsTold t a)
unfolding ask_commit leave count_branch end_branch branch_left
told_turns e s = record {
  still = λ t un. told_quiet t t [] refl refl refl (λ h. refl) un;
  first = λ t u outs a one two un. let x = one un in let y = two x.undecided in record { log = ap (current_after a.rec) x.log ∙ y.log; undecided = y.undecided; active = λ h. let z = y.active h in ((x.active z.0).0, z.1) };
  chain = λ t a f one two none un. let x = one un in let y = two x.undecided in record { log = told_then t a.rec (f a.next).rec _ _ none x.log y.log; undecided = y.undecided; active = λ h. let z = y.active h in let v = x.active z.0 in (v.0, quiet_both a.rec (f a.next).rec v.1 z.1) };
  tells = λ t i n un. told_quiet t t (TxOut.Tell i ∷ []) refl refl refl (λ h. refl) un;
  notes_prepare = λ pr cl un. told_quiet s _ _ refl refl refl (λ h. refl) un;
  notes_done = λ is un. told_quiet s _ _ refl refl refl (λ h. refl) un;
  notes_end = λ q is un. told_quiet s _ _ refl refl refl (λ h. refl) un;
  notes_rollback = λ ro cl un. told_quiet s _ _ refl refl refl (λ h. refl) un;
  defers_end = λ q is un. told_row s _ q (λ r. record r { ends = true }) (λ r. refl) (λ r. refl) un;
  defers_grant = λ q is un. told_quiet s s _ refl refl refl (λ h. refl) un;
  prepares = λ q un. told_row s _ q (λ r. record r { branch = record r.branch { prepared = true } }) (λ r. refl) (λ r. refl) un;
  asks = λ is act asked told un. told_quiet s _ _ refl refl refl (λ h. absurd (cc (act, h))) un;
  asks_again = λ un. told_quiet s s _ refl refl refl (λ h. refl) un;
  decides = λ o is ready un. record {
    log = told_decided s.key s.phase (children_of s.rows) s.decision s.node (node_key s.key) o ready;
    undecided = λ h. absurd (no_both s.phase ready h);
    active = λ h. absurd (no_both s.phase ready h);
  };
  aborts = λ q is un. told_lost s _ q un;
  loses_arc = λ q gone un. told_lost s _ q un;
  closes_left = λ q is un. told_row s _ q row_dead (λ r. refl) (λ r. refl) un;
  gives_up = λ q r is c found un. told_row s _ q (λ w. record w { branch = record w.branch { given_up = true }; live = false; ends = false }) (λ r. refl) (λ r. refl) un;
  counts = λ q is act row un. told_row s _ q (λ r. record r { branch = record r.branch { counted = true } }) (λ r. refl) (λ r. refl) un;
  ends_done = λ q r is c row un. told_row s _ q (λ w. record w { branch = record w.branch { ended = true; report = r } }) (λ r. refl) (λ r. refl) un;
  ends_replied = λ b w r is found o un. told_row s _ w.branch.peer.node (λ v. record v { branch = record v.branch { ended = true; report = r } }) (λ r. refl) (λ r. refl) un;
  ends_rolled = λ q r is c row un. told_row s _ q (λ w. record w { branch = record w.branch { ended = true; report = r } }) (λ r. refl) (λ r. refl) un;
  leaves_below = λ q w t is left at act un. told_active_row t _ q _ act un;
  leaves_rolling = λ q w t is left at c un. told_row t _ q (λ v. record v { branch = record v.branch { ended = true; report = Report.None } }) (λ r. refl) (λ r. refl) un;
  votes = λ t act asked all under un. told_vote t act under un;
  orders_root = λ t act asked all root un. told_order t (ap decision_of (active_none t.key t.phase (children_of t.rows) t.decision act) ∙ sym (un act));
  orders_ready = λ ready is un. told_order s (ready_decision s.key s.phase (children_of s.rows) s.decision ready);
  rolls = λ t asked f ok un. told_rolls t asked ok;
  completes_commit = λ t c un. told_completes t un;
  completes_rollback = λ t c un. told_unrolls t c un;
  leaves = λ is act under asked all un. record { log = active_none s.key s.phase (children_of s.rows) s.decision act; undecided = λ h. absurd (cc (h)); active = λ h. absurd (cc (h)) };
}
  where
    no_both : (p : Phase) → is_ready p ≡ true → is_active p ≡ true → ⊥
    no_both Phase.Nil h i = cc
    no_both Phase.Active h i = cc
    no_both Phase.Ready h i = cc
    no_both Phase.Committing h i = cc
    no_both Phase.Rolling h i = cc

-- every event of a transaction
pub told_turn : (e : TxEvent) (s : Transaction) → IsPut e s → IsUndecided s → IsTold s (transacted e s)
told_turn e s put un = every_turn e s (λ t a. IsUndecided t → IsTold t a) (told_turns e s) put un
