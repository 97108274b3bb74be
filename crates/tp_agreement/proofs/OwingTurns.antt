-- What a transaction owes its branches, and what it says beside its associations: an instance of the steps of a turn.
use Rattle.std.proofs.Common.{if◌then◌else◌, ◌≡◌, ◌⊎◌, inl, inr, ℕ, Bool, true, false, refl, ap, sym, subst, ◌∙◌, arith, Option, Some, None, List, [], ◌∷◌, ◌++◌, ◌&&◌, ◌||◌, ◌==◌, not}
use Rattle.std.proofs.lemmas.Bool.Decides.{nat_tests}
use Rattle.tp_names.specs.declared.identifiers.BranchId.{BranchId}
use Rattle.tp_names.specs.declared.identifiers.Addr.{Addr}
use Rattle.tp_names.specs.declared.outcome.Outcome.{Outcome}
use Rattle.tp_names.specs.declared.outcome.Report.{Report}
use Rattle.tp_names.specs.Reports.{join, is_report_none}
use Rattle.tp_records.specs.declared.indication.Indication.{Indication}
use Rattle.tp_records.specs.declared.dialogue.DialogueRecord.{DialogueRecord}
use Rattle.tp_records.specs.declared.peer.PeerRecord.{PeerRecord}
use Rattle.tp_records.specs.declared.peer.RecState.{RecState}
use Rattle.tp_logrec.specs.declared.record.LogRec.{LogRec}
use Rattle.tp_model.specs.declared.arc.Phase.{Phase}
use Rattle.tp_model.specs.declared.transaction.TxEvent.{TxEvent}
use Rattle.tp_model.specs.declared.transaction.TxOut.{TxOut}
use Rattle.tp_model.specs.Parts.{Key, Root, Under, Branch}
use Rattle.tp_model.specs.Dialogues.{is_active, is_ready, is_committing, is_rolling}
use Rattle.tp_model.specs.Transactions.{Row, Transaction, Turn, turn, and_then, before, aaid_of, node_key, superior_of, is_under_at, find_row, with_row, with_arc_lost, all_done, owed_of, child_of, report_of_branch, reports_of, own_damage, log_ready, log_end, log_damage, forgets, done_up, ends_down, end_up, retried, complete_commit, complete_rollback, begin_rolling, order, ask_commit, leave, count_branch, end_branch, branch_left, transacted, completion_of}
use Rattle.tp_steps.specs.Turns.{Turns, vote, decide, shut_given_up, row_dead, falls}
use Rattle.tp_steps.specs.Moves.{IsPut, IsRecoveryIn}
use Rattle.tp_steps.specs.Passages.{may_move, is_commit_rec, IsPassed}
use Rattle.tp_steps.specs.Branches.{may_leave, may_end}
use Rattle.tp_steps.specs.Owing.{is_damage_rec}
use Rattle.tp_agreement.specs.Owing.{is_standing, IsOwedIn, rolls_back, StandsAt, KeepsOwed, Quits, Is_done, Has_left, Rolls, Departs, IsOwnWord, IsOwingTurn, UnmarkedAt, is_done_branch}
use Rattle.tp_steps.proofs.every.EveryTurn.{every_turn}
use Rattle.tp_steps.proofs.links.Saying.{recovery_append}
use Rattle.tp_steps.proofs.words.Fair.{row_phase, row_with}
use Rattle.tp_steps.proofs.words.Leaves.{prepare_row}
use Rattle.tp_steps.proofs.branches.Rowed.{done_may, reply_may, rolled_may, left_may, left_end_may}
use Rattle.tp_steps.proofs.log.Passed.{passed_turns, later_rec}
use Rattle.tp_steps.proofs.lemmas.Joined.{IsJoined, joined_up, joined_prepare, joined_forgets, joined_ask, joined_done, joined_report, joined_retried, joined_commit, joined_unrolls, joined_rolls, joined_order, joined_leaves}
use Rattle.tp_steps.proofs.lemmas.UpwardWords.{still_kept}

-- ---- rows whose mark stays off

pub unmarked_same : (m : Branch → Bool) (p : ℕ) (b : BranchId) (t u : Transaction) → find_row u.rows p ≡ find_row t.rows p → is_standing u.phase ≡ true → UnmarkedAt m p b t → UnmarkedAt m p b u
unmarked_same m p b t u rows phase st = record { row = st.row; found = rows ∙ st.found; id = st.id; left = st.left; off = st.off; phase = phase }

-- one row changes, and the mark stays off
pub unmarked_row : (m : Branch → Bool) (p : ℕ) (b : BranchId) (t : Transaction) (q : ℕ) (f : Row → Row) → ((r : Row) → (f r).branch.peer.node ≡ r.branch.peer.node) → ((r : Row) → (f r).branch.id ≡ r.branch.id)
    → ((r : Row) → (f r).branch.left ≡ r.branch.left) → ((r : Row) → m r.branch ≡ false → m (f r).branch ≡ false) → UnmarkedAt m p b t → UnmarkedAt m p b (with_row t q f)
unmarked_row m p b t q f peer id left off st = go (q == p) refl
  where
    phase : is_standing (with_row t q f).phase ≡ true
    phase = ap is_standing (row_phase t q f) ∙ st.phase

    go : (v : Bool) → (q == p) ≡ v → UnmarkedAt m p b (with_row t q f)
    go true i = let found = st.found in record {
      row = f st.row;
      found = row_with t q f p peer ∙ rw (i, found) refl;
      id = id st.row ∙ st.id;
      left = left st.row ∙ st.left;
      off = off st.row st.off;
      phase = phase;
    }
    go false i = record { row = st.row; found = row_with t q f p peer ∙ rw i st.found; id = st.id; left = st.left; off = st.off; phase = phase }

-- one row changes, and the event says so of the branch
pub unmarked_or : (m : Branch → Bool) (p : ℕ) (b : BranchId) (t : Transaction) (q : ℕ) (f : Row → Row) (Q : Type 0) → ((r : Row) → (f r).branch.peer.node ≡ r.branch.peer.node) → (q ≡ p → Q) → UnmarkedAt m p b t
    → UnmarkedAt m p b (with_row t q f) ⊎ Q
unmarked_or m p b t q f Q peer quits st = go (q == p) refl
  where
    go : (v : Bool) → (q == p) ≡ v → UnmarkedAt m p b (with_row t q f) ⊎ Q
    go true i = inr (quits (grind (arith, nat_tests, i)))
    go false i = inl (record { row = st.row; found = row_with t q f p peer ∙ rw i st.found; id = st.id; left = st.left; off = st.off; phase = ap is_standing (row_phase t q f) ∙ st.phase })

pub unmarked_lost : (m : Branch → Bool) (p : ℕ) (b : BranchId) (t : Transaction) (q : ℕ) → UnmarkedAt m p b t → UnmarkedAt m p b (with_arc_lost t q)
unmarked_lost m p b t q st = go (is_under_at t.key q) refl
  where
    go : (v : Bool) → is_under_at t.key q ≡ v → UnmarkedAt m p b (with_arc_lost t q)
    go true i = rw (i, with_arc_lost) (unmarked_same m p b t (record t { up = false; up_ends = false }) refl st.phase st)
    go false i = rw (i, with_arc_lost) (unmarked_row m p b t q row_dead (λ r. refl) (λ r. refl) (λ r. refl) (λ r h. h) st)

pub unmarked_prepared : (m : Branch → Bool) → ((x : Branch) → m (record x { prepared = true }) ≡ m x) → (p : ℕ) (b : BranchId) (t : Transaction) → UnmarkedAt m p b t → UnmarkedAt m p b (ask_commit t).next
unfolding ask_commit
unmarked_prepared m same p b t st =
    let found = st.found in
    record { row = record st.row { branch = record st.row.branch { prepared = true } }; found = prepare_row p t.rows ∙ rw found refl; id = st.id; left = st.left; off = same st.row.branch ∙ st.off; phase = st.phase }

-- ---- records beside the associations, in the lists that rules write

abbrev Silent : List TxOut → Type 0
Silent outs = (z : Addr) (r : PeerRecord) → IsRecoveryIn outs z r → ⊥

silent_joined : IsJoined Silent
silent_joined = record { none = λ z r h. h; more = λ xs ys one two z r h. elim (recovery_append xs ys z r h) [ inl i ↦ one z r i | inr i ↦ two z r i ] }

-- words of the transaction's own
abbrev SaysOwn : Transaction → Turn → List TxOut → Type 0
SaysOwn t a outs = (z : Addr) (r : PeerRecord) → IsRecoveryIn outs z r → IsOwnWord t a z r

own_joined : (t : Transaction) (a : Turn) → IsJoined (SaysOwn t a)
own_joined t a = record { none = λ z r h. absurd h; more = λ xs ys one two z r h. elim (recovery_append xs ys z r h) [ inl i ↦ one z r i | inr i ↦ two z r i ] }

own_one : (t : Transaction) (a : Turn) (s : Addr) (w : PeerRecord) → IsOwnWord t a s w → SaysOwn t a (TxOut.Recovery s w ∷ [])
own_one t a s w own z r (inl h) = subst (λ (v : PeerRecord). IsOwnWord t a z v) h.1 (subst (λ (y : Addr). IsOwnWord t a y w) h.0 own)
own_one t a s w own z r (inr h) = absurd h

retried_own : (t : Transaction) → SaysOwn t (turn (retried t) t) (retried t)
retried_own t =
    let a : Turn = turn (retried t) t in
    joined_retried (SaysOwn t a) (own_joined t a) t (λ z r h. absurd h) (λ u b s i. own_one t a s (PeerRecord.RecReady u b) i)
    (λ c. joined_ask (SaysOwn t a) (own_joined t a) (aaid_of t.key) t.rows (λ z b. own_one t a z (PeerRecord.RecCommit (aaid_of t.key) b) tt))

-- ---- completion

hazard_more : (x y : Report) → is_report_none (join (join x Report.Hazard) y) ≡ false
hazard_more Report.None Report.None = refl
hazard_more Report.None Report.Hazard = refl
hazard_more Report.None Report.Mix = refl
hazard_more Report.Hazard Report.None = refl
hazard_more Report.Hazard Report.Hazard = refl
hazard_more Report.Hazard Report.Mix = refl
hazard_more Report.Mix Report.None = refl
hazard_more Report.Mix Report.Hazard = refl
hazard_more Report.Mix Report.Mix = refl

join_right : (x y : Report) → is_report_none y ≡ false → is_report_none (join x y) ≡ false
join_right x Report.None h = absurd (cc (h))
join_right Report.None Report.Hazard h = refl
join_right Report.Hazard Report.Hazard h = refl
join_right Report.Mix Report.Hazard h = refl
join_right Report.None Report.Mix h = refl
join_right Report.Hazard Report.Mix h = refl
join_right Report.Mix Report.Mix h = refl

-- a branch that is neither done nor left was given up: the report says so, and it is owed
given_up : (rows : List Row) (p : ℕ) (r : Row) → find_row rows p ≡ Some r → r.branch.left ≡ false → r.branch.ended ≡ false → all_done rows ≡ true → (is_report_none (reports_of rows) ≡ false) × IsOwedIn p r.branch.id (owed_of rows)
given_up [] p r h left ended all = absurd (cc (h))
given_up (x ∷ rows) p r h left ended all = go (x.branch.peer.node == p) refl (given_up rows p r)
  where
    here : x ≡ r → (x.branch.peer.node == p) ≡ true → (is_report_none (reports_of (x ∷ rows)) ≡ false) × IsOwedIn p r.branch.id (owed_of (x ∷ rows))
    here same at =
        let l : x.branch.left ≡ false = ap (λ (y : Row). y.branch.left) same ∙ left in
        let e : x.branch.ended ≡ false = ap (λ (y : Row). y.branch.ended) same ∙ ended in
        let g : x.branch.given_up ≡ true = grind (arith, all, l, e) in
        let n : x.branch.peer.node ≡ p = grind (arith, nat_tests, at) in
        (rw (g, report_of_branch) (hazard_more x.branch.report (reports_of rows)), rw (l, e) (inl (n, ap (λ (y : Row). y.branch.id) same)))

    there : (is_report_none (reports_of rows) ≡ false) × IsOwedIn p r.branch.id (owed_of rows) → (is_report_none (reports_of (x ∷ rows)) ≡ false) × IsOwedIn p r.branch.id (owed_of (x ∷ rows))
    there k = (join_right (report_of_branch x.branch) (reports_of rows) k.0, on (x.branch.left || x.branch.ended) k.1)
      where
        on : (v : Bool) → IsOwedIn p r.branch.id (owed_of rows) → IsOwedIn p r.branch.id (if v then owed_of rows else child_of x.branch ∷ owed_of rows)
        on true i = i
        on false i = inr i

    go : (v : Bool) → (x.branch.peer.node == p) ≡ v → (find_row rows p ≡ Some r → r.branch.left ≡ false → r.branch.ended ≡ false → all_done rows ≡ true → (is_report_none (reports_of rows) ≡ false) × IsOwedIn p r.branch.id (owed_of rows))
        → (is_report_none (reports_of (x ∷ rows)) ≡ false) × IsOwedIn p r.branch.id (owed_of (x ∷ rows))
    go true i rest = let one : Some x ≡ Some r = rw i at h in here (cc (one)) i
    go false i rest = there (rest (rw i at h) left ended (grind (arith, all)))

commit_standing : (p : Phase) → is_committing p ≡ true → is_standing p ≡ true
commit_standing p h = rw h (grind arith)

open_standing : (p : Phase) → (is_active p || is_ready p) ≡ true → is_standing p ≡ true
open_standing p h = grind (arith, h)

not_standing : (p : Phase) → is_rolling p ≡ true → is_standing p ≡ true → ⊥
not_standing p h i = absurd (grind (arith, h, i))

owing_commit : (e : TxEvent) (s t : Transaction) → IsPassed e s t (complete_commit t) → is_committing t.phase ≡ true → IsOwingTurn e s t (complete_commit t)
unfolding complete_commit
owing_commit e s t passed c = go (not t.owes && all_done t.rows) refl
  where
    x : Report
    x = join (own_damage t.decision) (reports_of t.rows)

    outs : List TxOut
    outs = forgets (aaid_of t.key) t.rows ++ done_up t x ++ (TxOut.Tell (Indication.CommitComplete x) ∷ []) ++ ends_down t.rows ++ end_up t

    over : Turn
    over = record { rec = Some (if is_report_none x then log_end t Outcome.Commit else log_damage t Outcome.Commit x (owed_of t.rows)); outs = outs; completion = completion_of t x; next = record t { phase = Phase.Nil } }

    says : (a : Turn) → (is_report_none x || is_damage_rec a.rec) ≡ true → SaysOwn t a outs
    says a spoilt =
        joined_commit (SaysOwn t a) (own_joined t a) t x
        (joined_forgets (SaysOwn t a) (own_joined t a) (aaid_of t.key) t.rows (λ z b. own_one t a z (PeerRecord.Forget (aaid_of t.key) b) tt))
        (joined_done (SaysOwn t a) (own_joined t a) t x (λ p z r h. absurd h) (λ u b s i. own_one t a s (PeerRecord.RecReply u b (RecState.Done x)) (sym (ap aaid_of i), rw c refl, spoilt)))
        (λ z r h. absurd h) (λ p z r h. absurd h)

    spoilt : (v : Bool) → (v || is_damage_rec (Some (if v then log_end t Outcome.Commit else log_damage t Outcome.Commit x (owed_of t.rows)))) ≡ true
    spoilt true = refl
    spoilt false = refl

    plain : (v : Bool) → rolls_back (Some (if v then log_end t Outcome.Commit else log_damage t Outcome.Commit x (owed_of t.rows))) ≡ false
    plain true = refl
    plain false = refl

    go : (v : Bool) → (not t.owes && all_done t.rows) ≡ v → IsOwingTurn e s t (complete_commit t)
    go true i =
        let is : complete_commit t ≡ over = rw i refl in
        let all : all_done t.rows ≡ true = grind (arith, i) in
        record {
          passed = passed;
          logs = inr (commit_standing t.phase c);
          says = λ z r h. says (complete_commit t) (ap (λ (a : Turn). is_report_none x || is_damage_rec a.rec) is ∙ spoilt (is_report_none x)) z r (subst (λ (a : Turn). IsRecoveryIn a.outs z r) is h);
          rolls = λ h. absurd (cc (plain (is_report_none x), ap (λ (a : Turn). rolls_back a.rec) (sym is) ∙ h));
          stays = λ p b st.
              let k = given_up t.rows p st.row st.found st.left st.off all in
              let off : is_report_none x ≡ false = join_right (own_damage t.decision) (reports_of t.rows) k.0 in
              inr (inr (record {
                node = t.node;
                superior = superior_of t.key;
                report = x;
                owed = owed_of t.rows;
                is = ap (λ (a : Turn). a.rec) is ∙ rw off refl;
                owes = subst (λ (i : BranchId). IsOwedIn p i (owed_of t.rows)) st.id k.1;
              }));
        }
    go false i =
        let is : complete_commit t ≡ turn [] t = rw i refl in
        record {
          passed = passed;
          logs = inr (commit_standing t.phase c);
          says = λ z r h. absurd (subst (λ (a : Turn). IsRecoveryIn a.outs z r) is h);
          rolls = λ h. absurd (cc (ap (λ (a : Turn). rolls_back a.rec) (sym is) ∙ h));
          stays = λ p b st. inl (subst (λ (a : Turn). StandsAt p b a.next) (sym is) st);
        }

-- ---- the other rules

owing_plain : (e : TxEvent) (s t : Transaction) (a : Turn) → IsPassed e s t a → a.rec ≡ None → Silent a.outs → ((p : ℕ) (b : BranchId) → StandsAt p b t → StandsAt p b a.next ⊎ Quits e s p) → IsOwingTurn e s t a
owing_plain e s t a passed none silent stays = record {
  passed = passed;
  logs = inl none;
  says = λ z r h. absurd (silent z r h);
  rolls = λ h. absurd (cc (ap rolls_back none, h));
  stays = λ p b st. elim (stays p b st) [ inl i ↦ inl i | inr i ↦ inr (inl i) ];
}

owing_rollback : (e : TxEvent) (s t : Transaction) → IsPassed e s t (complete_rollback t) → is_rolling t.phase ≡ true → IsOwingTurn e s t (complete_rollback t)
unfolding complete_rollback
owing_rollback e s t passed c = owing_plain e s t (complete_rollback t) passed (grind arith) (joined_unrolls Silent silent_joined t (λ p r z w h. h) (λ r z w h. h)) (λ p b st. absurd (not_standing t.phase c st.phase))

owing_rolling : (e : TxEvent) (s t : Transaction) (asked : Bool) → IsPassed e s t (begin_rolling asked t) → falls e s ≡ true → (is_active t.phase || is_ready t.phase) ≡ true → IsOwingTurn e s t (begin_rolling asked t)
unfolding begin_rolling
owing_rolling e s t asked passed f ok = record {
  passed = passed;
  logs = inr (open_standing t.phase ok);
  says = λ z r h. absurd (joined_rolls Silent silent_joined asked t (λ z r h. h) (λ p z r h. h) z r h);
  rolls = λ h. f;
  stays = λ p b st. inr (inl (Rolls f));
}

owing_order : (e : TxEvent) (s t : Transaction) → IsPassed e s t (order t) → (is_active t.phase || is_ready t.phase) ≡ true → IsOwingTurn e s t (order t)
unfolding order
owing_order e s t passed ok = record {
  passed = passed;
  logs = inr (open_standing t.phase ok);
  says = λ z r h. absurd (joined_order Silent silent_joined t (λ z r h. h) (λ p z r h. h) z r h);
  rolls = λ h. absurd (cc (h));
  stays = λ p b st. inl (unmarked_same is_done_branch p b t (order t).next refl refl st);
}

owing_vote : (e : TxEvent) (s t : Transaction) → IsPassed e s t (vote t) → is_active t.phase ≡ true → IsOwingTurn e s t (vote t)
owing_vote e s t passed act = record {
  passed = passed;
  logs = inr (open_standing t.phase (rw act refl));
  says = λ z r h. absurd (joined_up Silent silent_joined t DialogueRecord.Ready (λ p z r h. h) z r h);
  rolls = λ h. absurd (plain t.key h);
  stays = λ p b st. inl (unmarked_same is_done_branch p b t (vote t).next refl refl st);
}
  where
    plain : (k : Key) → rolls_back (log_ready (record t { key = k })) ≡ true → ⊥
    plain (Root a) h = cc (h)
    plain (Under a b c) h = cc (h)

owing_leave : (e : TxEvent) (s t : Transaction) → IsPassed e s t (leave t) → Quits e s 0 → ((p : ℕ) → Quits e s p) → IsOwingTurn e s t (leave t)
unfolding leave
owing_leave e s t passed one quits = owing_plain e s t (leave t) passed refl (joined_leaves Silent silent_joined t (λ p z r h. h) (λ p z r h. h) (λ p z r h. h)) (λ p b st. inr (quits p))

owing_ask : (e : TxEvent) (s t : Transaction) → IsPassed e s t (ask_commit t) → IsOwingTurn e s t (ask_commit t)
unfolding ask_commit
owing_ask e s t passed = owing_plain e s t (ask_commit t) passed refl (joined_prepare Silent silent_joined t.rows (λ p z r h. h)) (λ p b st. inl (unmarked_prepared is_done_branch (λ x. refl) p b t st))

owing_count : (e : TxEvent) (s t : Transaction) (q : ℕ) → IsPassed e s t (count_branch q t) → IsOwingTurn e s t (count_branch q t)
unfolding count_branch
owing_count e s t q passed = owing_plain e s t (count_branch q t) passed refl (λ z r h. h) (λ p b st. inl (unmarked_row is_done_branch p b t q (λ r. record r { branch = record r.branch { counted = true } }) (λ r. refl) (λ r. refl) (λ r. refl) (λ r h. h) st))

owing_end : (e : TxEvent) (s t : Transaction) (q : ℕ) (x : Report) → IsPassed e s t (end_branch q x t) → may_end e s q ≡ true → IsOwingTurn e s t (end_branch q x t)
unfolding end_branch
owing_end e s t q x passed may =
    owing_plain e s t (end_branch q x t) passed refl (joined_report Silent silent_joined q x (λ z r h. h))
    (λ p b st. unmarked_or is_done_branch p b t q (λ r. record r { branch = record r.branch { ended = true; report = x } }) (Quits e s p) (λ r. refl) (λ i. Is_done (subst (λ (n : ℕ). may_end e s n ≡ true) i may)) st)

owing_left : (e : TxEvent) (s t : Transaction) (q : ℕ) → IsPassed e s t (branch_left q t) → may_leave e s q ≡ true → IsOwingTurn e s t (branch_left q t)
unfolding branch_left
owing_left e s t q passed may =
    owing_plain e s t (branch_left q t) passed refl (λ z r h. h)
    (λ p b st. unmarked_or is_done_branch p b t q (λ r. record r { branch = record r.branch { left = true } }) (Quits e s p) (λ r. refl) (λ i. Has_left (subst (λ (n : ℕ). may_leave e s n ≡ true) i may)) st)

owing_shut : (e : TxEvent) (s : Transaction) (q : ℕ) (r : Row) → IsPassed e s s (shut_given_up q r s) → IsOwingTurn e s s (shut_given_up q r s)
owing_shut e s q r passed = owing_plain e s s (shut_given_up q r s) passed refl (silent r.live) (λ p b st. inl (unmarked_row is_done_branch p b s q (λ w. record w { branch = record w.branch { given_up = true }; live = false; ends = false }) (λ w. refl) (λ w. refl) (λ w. refl) (λ w h. h) st))
  where
    silent : (v : Bool) → Silent (if v then TxOut.Shut q ∷ [] else [])
    silent true z w h = h
    silent false z w h = h

-- ---- chains

standing_back : (p q : Phase) → may_move p q ≡ true → is_standing q ≡ true → is_standing p ≡ true
standing_back Phase.Nil q m h = absurd (grind (arith, m, h))
standing_back Phase.Rolling q m h = absurd (grind (arith, m, h))
standing_back _ q m h = refl

-- what a record tells, the whole logs too
from_a : {a b c : Option LogRec} (f : Option LogRec → Bool) → f None ≡ false → (a ≡ None) × (c ≡ b) ⊎ (b ≡ None) × (c ≡ a) → f a ≡ true → f c ≡ true
from_a f none (inl w) h = absurd (cc (none, ap f (sym w.0), h))
from_a f none (inr w) h = ap f w.1 ∙ h

from_b : {a b c : Option LogRec} (f : Option LogRec → Bool) → f None ≡ false → (a ≡ None) × (c ≡ b) ⊎ (b ≡ None) × (c ≡ a) → f b ≡ true → f c ≡ true
from_b f none (inl w) h = ap f w.1 ∙ h
from_b f none (inr w) h = absurd (cc (none, ap f (sym w.0), h))

word_later : (t u : Transaction) (a b c : Turn) (z : Addr) (r : PeerRecord) → u.key ≡ t.key → ((is_committing u.phase || is_commit_rec b.rec) ≡ true → (is_committing t.phase || is_commit_rec c.rec) ≡ true) → (is_damage_rec b.rec ≡ true → is_damage_rec c.rec ≡ true) → IsOwnWord u b z r → IsOwnWord t c z r
word_later t u a b c z (PeerRecord.RecReady v w) key more spoilt h = sym key ∙ h
word_later t u a b c z (PeerRecord.RecReply v w (RecState.Done x)) key more spoilt h = (h.0 ∙ ap aaid_of key, more h.1, still_kept (is_report_none x) (is_damage_rec b.rec) (is_damage_rec c.rec) spoilt h.2)
word_later t u a b c z (PeerRecord.RecReply v w RecState.Unknown) key more spoilt h = h
word_later t u a b c z _ key more spoilt h = tt

-- a and then b, from what a leaves; the whole logs what one of them does
owing_then : (e : TxEvent) (s t : Transaction) (a b c : Turn) → IsPassed e s t c → c.next ≡ b.next → c.outs ≡ a.outs ++ b.outs → (a.rec ≡ None) × (c.rec ≡ b.rec) ⊎ (b.rec ≡ None) × (c.rec ≡ a.rec)
    → IsOwingTurn e s t a → IsOwingTurn e s a.next b → IsOwingTurn e s t c
owing_then e s t a b c passed next outs which one two = record {
  passed = passed;
  logs = logs which;
  says = λ z r h. elim (recovery_append a.outs b.outs z r (subst (λ (l : List TxOut). IsRecoveryIn l z r) outs h)) [
    | inl i ↦ word_later t t a a c z r refl first (λ k. from_a is_damage_rec refl which k) (one.says z r i)
    | inr i ↦ word_later t a.next a b c z r one.passed.key second (λ k. from_b is_damage_rec refl which k) (two.says z r i)
  ];
  rolls = λ h. elim which [ inl i ↦ two.rolls (ap rolls_back (sym i.1) ∙ h) | inr i ↦ one.rolls (ap rolls_back (sym i.1) ∙ h) ];
  stays = λ p d st. elim (one.stays p d st) [
    | inl i ↦ elim (two.stays p d i) [
      | inl j ↦ inl (subst (λ (u : Transaction). StandsAt p d u) (sym next) j)
      | inr j ↦ elim j [ inl k ↦ inr (inl k) | inr k ↦ inr (inr (kept_second p d k which)) ]
    ]
    | inr i ↦ elim i [ inl j ↦ inr (inl j) | inr j ↦ inr (inr (kept_first p d j which)) ]
  ];
}
  where
    first : (is_committing t.phase || is_commit_rec a.rec) ≡ true → (is_committing t.phase || is_commit_rec c.rec) ≡ true
    first h = go (is_committing t.phase) refl which
      where
        go : (v : Bool) → is_committing t.phase ≡ v → (a.rec ≡ None) × (c.rec ≡ b.rec) ⊎ (b.rec ≡ None) × (c.rec ≡ a.rec) → (is_committing t.phase || is_commit_rec c.rec) ≡ true
        go true i w = rw i refl
        go false i (inl w) = absurd (cc (rw i at h, ap is_commit_rec w.0))
        go false i (inr w) = rw i (ap is_commit_rec w.1 ∙ (rw i at h))

    second : (is_committing a.next.phase || is_commit_rec b.rec) ≡ true → (is_committing t.phase || is_commit_rec c.rec) ≡ true
    second h = go (is_committing a.next.phase) refl which
      where
        go : (v : Bool) → is_committing a.next.phase ≡ v → (a.rec ≡ None) × (c.rec ≡ b.rec) ⊎ (b.rec ≡ None) × (c.rec ≡ a.rec) → (is_committing t.phase || is_commit_rec c.rec) ≡ true
        go true i w = first (one.passed.commits i)
        go false i (inl w) = let k : is_commit_rec c.rec ≡ true = ap is_commit_rec w.1 ∙ (rw i at h) in rw k (grind arith)
        go false i (inr w) = absurd (cc (rw i at h, ap is_commit_rec w.0))

    logs : (a.rec ≡ None) × (c.rec ≡ b.rec) ⊎ (b.rec ≡ None) × (c.rec ≡ a.rec) → (c.rec ≡ None) ⊎ (is_standing t.phase ≡ true)
    logs (inl w) = elim two.logs [ inl i ↦ inl (w.1 ∙ i) | inr i ↦ inr (standing_back t.phase a.next.phase one.passed.moves i) ]
    logs (inr w) = elim one.logs [ inl i ↦ inl (w.1 ∙ i) | inr i ↦ inr i ]

    kept_first : (p : ℕ) (d : BranchId) → KeepsOwed (node_key t.key) p d a.rec → (a.rec ≡ None) × (c.rec ≡ b.rec) ⊎ (b.rec ≡ None) × (c.rec ≡ a.rec) → KeepsOwed (node_key t.key) p d c.rec
    kept_first p d k (inl w) = absurd (cc (w.0, k.is))
    kept_first p d k (inr w) = subst (λ (r : Option LogRec). KeepsOwed (node_key t.key) p d r) (sym w.1) k

    kept_second : (p : ℕ) (d : BranchId) → KeepsOwed (node_key a.next.key) p d b.rec → (a.rec ≡ None) × (c.rec ≡ b.rec) ⊎ (b.rec ≡ None) × (c.rec ≡ a.rec) → KeepsOwed (node_key t.key) p d c.rec
    kept_second p d k (inr w) = absurd (cc (w.0, k.is))
    kept_second p d k (inl w) = subst (λ (r : Option LogRec). KeepsOwed (node_key t.key) p d r) (sym w.1) (subst (λ (j : Key). KeepsOwed (node_key j) p d b.rec) one.passed.key k)

-- ---- the steps

owing_turns : (e : TxEvent) (s : Transaction) → Turns e s (IsOwingTurn e s)
owing_turns e s = record {
  still = λ t. owing_plain e s t (turn [] t) (k.still t) refl (λ z r h. h) (λ p b st. inl st);
  first = λ t u outs a one two. owing_then e s t (turn outs u) a (before outs a) (k.first t u outs a one.passed two.passed) refl refl (inl (refl, refl)) one two;
  chain = λ t a f one two none. owing_then e s t a (f a.next) (and_then a f) (k.chain t a f one.passed two.passed none) refl refl (later_rec a.rec (f a.next).rec none) one two;
  tells = λ t i n. owing_plain e s t _ (k.tells t i n) refl (λ z r h. h) (λ p b st. inl st);
  notes_prepare = λ pr cl. owing_plain e s s _ (k.notes_prepare pr cl) refl (λ z r h. h) (λ p b st. inl (unmarked_same is_done_branch p b s _ refl st.phase st));
  notes_done = λ is. owing_plain e s s _ (k.notes_done is) refl (λ z r h. h) (λ p b st. inl (unmarked_same is_done_branch p b s _ refl st.phase st));
  notes_end = λ q is. owing_plain e s s _ (k.notes_end q is) refl (λ z r h. h) (λ p b st. inl (unmarked_same is_done_branch p b s _ refl st.phase st));
  notes_rollback = λ ro cl. owing_plain e s s _ (k.notes_rollback ro cl) refl (λ z r h. h) (λ p b st. inl (unmarked_same is_done_branch p b s _ refl st.phase st));
  defers_end = λ q is. owing_plain e s s _ (k.defers_end q is) refl (λ z r h. h) (λ p b st. inl (unmarked_row is_done_branch p b s q (λ r. record r { ends = true }) (λ r. refl) (λ r. refl) (λ r. refl) (λ r h. h) st));
  defers_grant = λ q is. owing_plain e s s _ (k.defers_grant q is) refl (λ z r h. h) (λ p b st. inl st);
  prepares = λ q. owing_plain e s s _ (k.prepares q) refl (λ z r h. h) (λ p b st. inl (unmarked_row is_done_branch p b s q (λ r. record r { branch = record r.branch { prepared = true } }) (λ r. refl) (λ r. refl) (λ r. refl) (λ r h. h) st));
  asks = λ is act asked told. owing_ask e s s (k.asks is act asked told);
  asks_again = record {
    passed = k.asks_again;
    logs = inl refl;
    says = retried_own s;
    rolls = λ h. absurd (cc (h));
    stays = λ p b st. inl st;
  };
  decides = λ o is ready. record {
    passed = k.decides o is ready;
    logs = inr (open_standing s.phase (rw ready (grind arith)));
    says = λ z r h. absurd h;
    rolls = λ h. absurd (cc (h));
    stays = λ p b st. inl (unmarked_same is_done_branch p b s (decide o s).next refl st.phase st);
  };
  aborts = λ q is. owing_plain e s s _ (k.aborts q is) refl (λ z r h. h) (λ p b st. inl (unmarked_lost is_done_branch p b s q st));
  loses_arc = λ q gone. owing_plain e s s _ (k.loses_arc q gone) refl (λ z r h. h) (λ p b st. inl (unmarked_lost is_done_branch p b s q st));
  closes_left = λ q is. owing_plain e s s _ (k.closes_left q is) refl (λ z r h. h) (λ p b st. inl (unmarked_row is_done_branch p b s q row_dead (λ r. refl) (λ r. refl) (λ r. refl) (λ r h. h) st));
  gives_up = λ q r is c found. owing_shut e s q r (k.gives_up q r is c found);
  counts = λ q is act row. owing_count e s s q (k.counts q is act row);
  ends_done = λ q r is c row. owing_end e s s q r (k.ends_done q r is c row) (done_may e s q r is c);
  ends_replied = λ b w r is found o. owing_end e s s w.branch.peer.node r (k.ends_replied b w r is found o) (reply_may e s b w r is found o);
  ends_rolled = λ q r is c row. owing_end e s s q r (k.ends_rolled q r is c row) (rolled_may e s q r is c);
  leaves_below = λ q w t is left at act. owing_left e s t q (k.leaves_below q w t is left at act) (left_may e s t q w is left at act);
  leaves_rolling = λ q w t is left at c. owing_end e s t q Report.None (k.leaves_rolling q w t is left at c) (left_end_may e s t q w is left at c);
  votes = λ t act asked all under. owing_vote e s t (k.votes t act asked all under) act;
  orders_root = λ t act asked all root. owing_order e s t (k.orders_root t act asked all root) (rw act refl);
  orders_ready = λ ready is. owing_order e s s (k.orders_ready ready is) (rw ready (grind arith));
  rolls = λ t asked f ok. owing_rolling e s t asked (k.rolls t asked f ok) f ok;
  completes_commit = λ t c. owing_commit e s t (k.completes_commit t c) c;
  completes_rollback = λ t c. owing_rollback e s t (k.completes_rollback t c) c;
  leaves = λ is act under asked all. owing_leave e s s (k.leaves is act under asked all) (Departs is) (λ p. Departs is);
}
  where
    k : Turns e s (IsPassed e s)
    k = passed_turns e s

-- every event of a transaction
pub owing_turn : (e : TxEvent) (s : Transaction) → IsPut e s → IsOwingTurn e s s (transacted e s)
owing_turn e s put = every_turn e s (IsOwingTurn e s) (owing_turns e s) put
