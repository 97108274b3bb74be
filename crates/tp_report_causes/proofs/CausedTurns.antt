-- Every event of a transaction whose reports have causes leaves one whose reports have causes, and tells no other report.
use Rattle.std.proofs.Common.{if◌then◌else◌, ◌≡◌, ◌⊎◌, inl, inr, ℕ, Bool, true, false, refl, ap, sym, subst, ◌∙◌, Option, Some, None, List, [], ◌∷◌, ◌++◌, ◌&&◌, ◌||◌, ◌==◌}
use Rattle.std.specs.Prelude.{not}
use Rattle.tp_names.specs.declared.identifiers.BranchId.{BranchId}
use Rattle.tp_names.specs.declared.outcome.Outcome.{Outcome}
use Rattle.tp_names.specs.declared.outcome.Report.{Report}
use Rattle.tp_names.specs.Reports.{join}
use Rattle.tp_records.specs.declared.indication.Indication.{Indication}
use Rattle.tp_records.specs.declared.dialogue.DialogueRecord.{DialogueRecord}
use Rattle.tp_records.specs.declared.peer.RecState.{RecState}
use Rattle.tp_model.specs.declared.transaction.TxEvent.{TxEvent}
use Rattle.tp_model.specs.declared.transaction.TxOut.{TxOut}
use Rattle.tp_model.specs.Parts.{Branch}
use Rattle.tp_model.specs.Dialogues.{is_ready, is_committing, is_rolling}
use Rattle.tp_model.specs.Transactions.{Row, Transaction, Turn, turn, and_then, before, aaid_of, is_under_at, row_holds, find_row, find_row_by_id, is_open_in_commit, put_row, with_row, with_arc_lost, all_done, all_rolled_back, report_of_branch, reports_of, own_damage, carry_up, forgets, done_up, ends_down, end_up, all_prepared, is_own_commit, complete_commit, complete_rollback, begin_rolling, ask_commit, order, leave, count_branch, end_branch, branch_left, transacted}
use Rattle.tp_steps.specs.Turns.{Turns, vote, decide, shut_given_up, is_outcome_told}
use Rattle.tp_steps.specs.Moves.{IsPut}
use Rattle.tp_steps.specs.Passages.{asks_tell}
use Rattle.tp_steps.proofs.every.EveryTurn.{every_turn}
use Rattle.tp_steps.proofs.lemmas.Joined.{joined_up, joined_prepare, joined_forgets, joined_done, joined_report, joined_retried, joined_ask, joined_commit, joined_rolls, joined_order, joined_leaves}
use Rattle.tp_steps.proofs.lemmas.Phases.{IsUntold, untold}
use Rattle.tp_steps.proofs.lemmas.Equality.{and_left, and_right, both_true}

-- ---- what is known of a tree

-- which reports branches told, whether a branch was given up, and which decision the node logged
pub record Known : Type 0 where
  pub heard : Report → Bool
  pub gave : Bool
  pub decides : Outcome → Bool

abbrev pub may_hear : Known → Report → Bool
may_hear k Report.None = true
may_hear k Report.Hazard = k.heard Report.Hazard
may_hear k Report.Mix = k.heard Report.Mix

-- a report of branches
abbrev pub may_come : Known → Report → Bool
may_come k Report.None = true
may_come k Report.Hazard = k.gave || k.heard Report.Hazard
may_come k Report.Mix = k.heard Report.Mix

-- of a completion, where the decision against it is u
abbrev pub has_cause : Known → Outcome → Report → Bool
has_cause k u Report.None = true
has_cause k u Report.Hazard = k.gave || k.heard Report.Hazard
has_cause k u Report.Mix = k.decides u || k.heard Report.Mix

abbrev pub branch_ok : Known → Branch → Bool
branch_ok k b = may_hear k b.report && (not b.given_up || k.gave)

abbrev pub rows_ok : Known → List Row → Bool
rows_ok k [] = true
rows_ok k (r ∷ rs) = branch_ok k r.branch && rows_ok k rs

abbrev pub decision_ok : Known → Option Outcome → Bool
decision_ok k None = true
decision_ok k (Some o) = k.decides o

abbrev pub own_ok : Known → Report → Bool
own_ok k Report.None = true
own_ok k Report.Hazard = false
own_ok k Report.Mix = k.decides Outcome.Commit

pub record IsOk (k : Known) (t : Transaction) : Type 0 where
  pub rows : rows_ok k t.rows ≡ true
  pub decision : decision_ok k t.decision ≡ true
  pub own : own_ok k t.own ≡ true

-- a completion with a report that has no cause
abbrev pub is_bad : Known → Indication → Bool
is_bad k (Indication.CommitComplete r) = not (has_cause k Outcome.Rollback r)
is_bad k (Indication.RollbackComplete r) = not (has_cause k Outcome.Commit r)
is_bad k _ = false

-- what the event adds
pub record Adds (k : Known) (e : TxEvent) (s : Transaction) : Type 0 where
  pub done : (p : ℕ) (r : Report) → e ≡ TxEvent.Took p (DialogueRecord.Done r) → is_committing s.phase ≡ true → row_holds s.rows p (λ b. not b.ended && not b.left) ≡ true → may_hear k r ≡ true
  pub rolled : (p : ℕ) (r : Report) → e ≡ TxEvent.Took p (DialogueRecord.RolledBack r) → is_rolling s.phase ≡ true → row_holds s.rows p (λ b. not b.ended && not b.left) ≡ true → may_hear k r ≡ true
  pub replied : (b : BranchId) (w : Row) (r : Report) → e ≡ TxEvent.Reply b (RecState.Done r) → find_row_by_id s.rows b ≡ Some w → is_open_in_commit s w.branch ≡ true → may_hear k r ≡ true
  pub gives : (p : ℕ) → e ≡ TxEvent.GiveUp p → k.gave ≡ true
  pub decides : (o : Outcome) → e ≡ TxEvent.Heur o → k.decides o ≡ true

pub record Caused (k : Known) (a : Turn) : Type 0 where
  pub ok : IsOk k a.next
  pub tells : asks_tell (is_bad k) a.outs ≡ false

abbrev pub IsCaused : Known → Transaction → Turn → Type 0
IsCaused k t a = IsOk k t → Caused k a

-- ---- reports

heard_comes : (k : Known) (r : Report) → may_hear k r ≡ true → may_come k r ≡ true
heard_comes k Report.None h = refl
heard_comes k Report.Hazard h = later k.gave (k.heard Report.Hazard) h
  where
    later : (x y : Bool) → y ≡ true → (x || y) ≡ true
    later true y i = refl
    later false y i = i
heard_comes k Report.Mix h = h

join_comes : (k : Known) (a b : Report) → may_come k a ≡ true → may_come k b ≡ true → may_come k (join a b) ≡ true
join_comes k Report.None Report.None h i = refl
join_comes k Report.None Report.Hazard h i = i
join_comes k Report.None Report.Mix h i = i
join_comes k Report.Hazard Report.None h i = h
join_comes k Report.Hazard Report.Hazard h i = h
join_comes k Report.Hazard Report.Mix h i = i
join_comes k Report.Mix Report.None h i = h
join_comes k Report.Mix Report.Hazard h i = h
join_comes k Report.Mix Report.Mix h i = h

branch_comes : (k : Known) (b : Branch) → branch_ok k b ≡ true → may_come k (report_of_branch b) ≡ true
branch_comes k b h = go b.given_up refl
  where
    heard : may_come k b.report ≡ true
    heard = heard_comes k b.report (and_left (may_hear k b.report) (not b.given_up || k.gave) h)

    given : b.given_up ≡ true → (k.gave || k.heard Report.Hazard) ≡ true
    given i = let g : k.gave ≡ true = sym (ap (λ (v : Bool). not v || k.gave) i) ∙ and_right (may_hear k b.report) (not b.given_up || k.gave) h in rw g refl

    go : (v : Bool) → b.given_up ≡ v → may_come k (if b.given_up then join b.report Report.Hazard else b.report) ≡ true
    go true i = ap (λ (v : Bool). may_come k (if v then join b.report Report.Hazard else b.report)) i ∙ join_comes k b.report Report.Hazard heard (given i)
    go false i = ap (λ (v : Bool). may_come k (if v then join b.report Report.Hazard else b.report)) i ∙ heard

rows_come : (k : Known) (rows : List Row) → rows_ok k rows ≡ true → may_come k (reports_of rows) ≡ true
rows_come k [] h = refl
rows_come k (r ∷ rs) h =
    join_comes k (report_of_branch r.branch) (reports_of rs) (branch_comes k r.branch (and_left (branch_ok k r.branch) (rows_ok k rs) h)) (rows_come k rs (and_right (branch_ok k r.branch) (rows_ok k rs) h))

-- the node's own part, and its branches'
join_cause : (k : Known) (u : Outcome) (a b : Report) → (a ≡ Report.None) ⊎ (a ≡ Report.Mix) × (k.decides u ≡ true) → may_come k b ≡ true → has_cause k u (join a b) ≡ true
join_cause k u a b (inl i) h = ap (λ (v : Report). has_cause k u (join v b)) i ∙ below b h
  where
    below : (b : Report) → may_come k b ≡ true → has_cause k u (join Report.None b) ≡ true
    below Report.None h = refl
    below Report.Hazard h = h
    below Report.Mix h = later (k.decides u) (k.heard Report.Mix) h
      where
        later : (x y : Bool) → y ≡ true → (x || y) ≡ true
        later true y j = refl
        later false y j = j
join_cause k u a b (inr i) h = ap (λ (v : Report). has_cause k u (join v b)) i.0 ∙ above b
  where
    mixed : (k.decides u || k.heard Report.Mix) ≡ true
    mixed = let d = i.1 in rw d refl

    above : (b : Report) → has_cause k u (join Report.Mix b) ≡ true
    above Report.None = mixed
    above Report.Hazard = mixed
    above Report.Mix = mixed

damage_cause : (k : Known) (o : Option Outcome) → decision_ok k o ≡ true → (own_damage o ≡ Report.None) ⊎ (own_damage o ≡ Report.Mix) × (k.decides Outcome.Rollback ≡ true)
damage_cause k None h = inl refl
damage_cause k (Some Outcome.Commit) h = inl refl
damage_cause k (Some Outcome.Rollback) h = inr (refl, h)

own_cause : (k : Known) (r : Report) → own_ok k r ≡ true → (r ≡ Report.None) ⊎ (r ≡ Report.Mix) × (k.decides Outcome.Commit ≡ true)
own_cause k Report.None h = inl refl
own_cause k Report.Mix h = inr (refl, h)
own_cause k Report.Hazard h = absurd (cc (h))

-- ---- rows

put_ok : (k : Known) (rows : List Row) (n : Row) → rows_ok k rows ≡ true → branch_ok k n.branch ≡ true → rows_ok k (put_row rows n) ≡ true
put_ok k [] n h i = refl
put_ok k (r ∷ rs) n h i = go (r.branch.peer.node == n.branch.peer.node) (put_ok k rs n (and_right (branch_ok k r.branch) (rows_ok k rs) h) i)
  where
    go : (b : Bool) → rows_ok k (put_row rs n) ≡ true → rows_ok k (if b then n ∷ rs else r ∷ put_row rs n) ≡ true
    go true rest = both_true (branch_ok k n.branch) (rows_ok k rs) i (and_right (branch_ok k r.branch) (rows_ok k rs) h)
    go false rest = both_true (branch_ok k r.branch) (rows_ok k (put_row rs n)) (and_left (branch_ok k r.branch) (rows_ok k rs) h) rest

found_ok : (k : Known) (rows : List Row) (p : ℕ) (r : Row) → rows_ok k rows ≡ true → find_row rows p ≡ Some r → branch_ok k r.branch ≡ true
found_ok k [] p r h i = absurd (cc (i))
found_ok k (w ∷ rs) p r h i = go (w.branch.peer.node == p) refl (found_ok k rs p r (and_right (branch_ok k w.branch) (rows_ok k rs) h))
  where
    eq : (b : Bool) → (w.branch.peer.node == p) ≡ b → find_row (w ∷ rs) p ≡ (if b then Some w else find_row rs p)
    eq b j = ap (λ (v : Bool). if v then Some w else find_row rs p) j

    some_row : (a b : Row) → Some a ≡ Some b → a ≡ b
    some_row a b j = cc (j)

    go : (b : Bool) → (w.branch.peer.node == p) ≡ b → (find_row rs p ≡ Some r → branch_ok k r.branch ≡ true) → branch_ok k r.branch ≡ true
    go true j rest = ap (λ (v : Row). branch_ok k v.branch) (sym (some_row w r (sym (eq true j) ∙ i))) ∙ and_left (branch_ok k w.branch) (rows_ok k rs) h
    go false j rest = rest (sym (eq false j) ∙ i)

with_ok : (k : Known) (t : Transaction) (q : ℕ) (f : Row → Row) → ((r : Row) → branch_ok k r.branch ≡ true → branch_ok k (f r).branch ≡ true) → IsOk k t → IsOk k (with_row t q f)
with_ok k t q f keeps h = go (find_row t.rows q) refl
  where
    go : (o : Option Row) → find_row t.rows q ≡ o → IsOk k (with_row t q f)
    go None i = subst (λ (v : Transaction). IsOk k v) (sym (ap (λ (v : Option Row). elim v as (λ _. Transaction) [ None ↦ t | Some r ↦ record t { rows = put_row t.rows (f r) } ]) i)) h
    go (Some r) i =
        subst (λ (v : Transaction). IsOk k v) (sym (ap (λ (v : Option Row). elim v as (λ _. Transaction) [ None ↦ t | Some r ↦ record t { rows = put_row t.rows (f r) } ]) i))
        (record { rows = put_ok k t.rows (f r) h.rows (keeps r (found_ok k t.rows q r h.rows i)); decision = h.decision; own = h.own })

lost_ok : (k : Known) (t : Transaction) (q : ℕ) → IsOk k t → IsOk k (with_arc_lost t q)
lost_ok k t q h = go (is_under_at t.key q)
  where
    go : (b : Bool) → IsOk k (if b then record t { up = false; up_ends = false } else with_row t q (λ r. record r { live = false; ends = false }))
    go true = record { rows = h.rows; decision = h.decision; own = h.own }
    go false = with_ok k t q (λ r. record r { live = false; ends = false }) (λ r i. i) h

prepared_ok : (k : Known) (rows : List Row) → rows_ok k rows ≡ true → rows_ok k (all_prepared rows) ≡ true
prepared_ok k [] h = refl
prepared_ok k (r ∷ rs) h = both_true (branch_ok k r.branch) (rows_ok k (all_prepared rs)) (and_left (branch_ok k r.branch) (rows_ok k rs) h) (prepared_ok k rs (and_right (branch_ok k r.branch) (rows_ok k rs) h))

-- ---- rules

caused_same : (k : Known) (t u : Transaction) (outs : List TxOut) → (IsOk k t → IsOk k u) → asks_tell (is_bad k) outs ≡ false → IsCaused k t (turn outs u)
caused_same k t u outs ok tells h = record { ok = ok h; tells = tells }

caused_then : (k : Known) (t : Transaction) (a : Turn) (f : Transaction → Turn) → IsCaused k t a → IsCaused k a.next (f a.next) → IsCaused k t (and_then a f)
caused_then k t a f one two h =
    let x : Caused k a = one h in
    let y : Caused k (f a.next) = two x.ok in
    record { ok = y.ok; tells = (untold (is_bad k)).more a.outs (f a.next).outs x.tells y.tells }

caused_first : (k : Known) (t u : Transaction) (outs : List TxOut) (a : Turn) → IsCaused k t (turn outs u) → IsCaused k u a → IsCaused k t (before outs a)
caused_first k t u outs a one two h =
    let x : Caused k (turn outs u) = one h in
    let y : Caused k a = two x.ok in
    record { ok = y.ok; tells = (untold (is_bad k)).more outs a.outs x.tells y.tells }

not_outcome : (k : Known) (i : Indication) → is_outcome_told i ≡ false → is_bad k i ≡ false
not_outcome k (Indication.CommitComplete r) h = absurd (cc (h))
not_outcome k (Indication.RollbackComplete r) h = absurd (cc (h))
not_outcome k _ h = refl

one_told : (k : Known) (i : Indication) → is_bad k i ≡ false → asks_tell (is_bad k) (TxOut.Tell i ∷ []) ≡ false
one_told k i h = ap (λ (b : Bool). b || false) h

no_cause : (b : Bool) → b ≡ true → not b ≡ false
no_cause true h = refl
no_cause false h = absurd (cc (h))

caused_row : (k : Known) (t : Transaction) (outs : List TxOut) (q : ℕ) (f : Row → Row) → ((r : Row) → branch_ok k r.branch ≡ true → branch_ok k (f r).branch ≡ true) → asks_tell (is_bad k) outs ≡ false → IsCaused k t (turn outs (with_row t q f))
caused_row k t outs q f keeps tells = caused_same k t (with_row t q f) outs (with_ok k t q f keeps) tells

caused_end : (k : Known) (q : ℕ) (r : Report) (t : Transaction) → may_hear k r ≡ true → IsCaused k t (end_branch q r t)
unfolding end_branch
caused_end k q r t heard = caused_row k t _ q _ (λ w i. both_true (may_hear k r) (not w.branch.given_up || k.gave) heard (and_right (may_hear k w.branch.report) (not w.branch.given_up || k.gave) i)) (joined_report (IsUntold (is_bad k)) (untold (is_bad k)) q r refl)

caused_count : (k : Known) (q : ℕ) (t : Transaction) → IsCaused k t (count_branch q t)
unfolding count_branch
caused_count k q t = caused_row k t _ q _ (λ w i. i) refl

caused_left : (k : Known) (q : ℕ) (t : Transaction) → IsCaused k t (branch_left q t)
unfolding branch_left
caused_left k q t = caused_row k t _ q _ (λ w i. i) refl

caused_given : (k : Known) (q : ℕ) (r : Row) (t : Transaction) → k.gave ≡ true → IsCaused k t (shut_given_up q r t)
caused_given k q r t gave = caused_row k t _ q _ (λ w i. both_true (may_hear k w.branch.report) (false || k.gave) (and_left (may_hear k w.branch.report) (not w.branch.given_up || k.gave) i) gave) (shuts r.live)
  where
    shuts : (b : Bool) → asks_tell (is_bad k) (if b then TxOut.Shut q ∷ [] else []) ≡ false
    shuts true = refl
    shuts false = refl

caused_ask : (k : Known) (t : Transaction) → IsCaused k t (ask_commit t)
unfolding ask_commit
caused_ask k t = caused_same k t _ _ (λ h. record { rows = prepared_ok k t.rows h.rows; decision = h.decision; own = h.own }) (joined_prepare (IsUntold (is_bad k)) (untold (is_bad k)) t.rows (λ p. refl))

caused_vote : (k : Known) (t : Transaction) → IsCaused k t (vote t)
caused_vote k t h = record { ok = record { rows = h.rows; decision = h.decision; own = h.own }; tells = joined_up (IsUntold (is_bad k)) (untold (is_bad k)) t DialogueRecord.Ready (λ p. refl) }

caused_order : (k : Known) (t : Transaction) → IsCaused k t (order t)
unfolding order
caused_order k t h = record { ok = record { rows = h.rows; decision = h.decision; own = h.own }; tells = joined_order (IsUntold (is_bad k)) (untold (is_bad k)) t refl (λ p. refl) }

caused_leave : (k : Known) (t : Transaction) → IsCaused k t (leave t)
unfolding leave
caused_leave k t h = record { ok = record { rows = h.rows; decision = h.decision; own = h.own }; tells = joined_leaves (IsUntold (is_bad k)) (untold (is_bad k)) t (λ p. refl) (λ p. refl) (λ p. refl) }

caused_decide : (k : Known) (t : Transaction) (o : Outcome) → k.decides o ≡ true → IsCaused k t (decide o t)
caused_decide k t o d h = record { ok = record { rows = h.rows; decision = d; own = h.own }; tells = refl }

caused_rolling : (k : Known) (asked : Bool) (t : Transaction) → IsCaused k t (begin_rolling asked t)
unfolding begin_rolling
caused_rolling k asked t h = record {
  ok = record { rows = h.rows; decision = refl; own = own (is_own_commit t) refl };
  tells = joined_rolls (IsUntold (is_bad k)) (untold (is_bad k)) asked t refl (λ p. refl);
}
  where
    decided : is_own_commit t ≡ true → k.decides Outcome.Commit ≡ true
    decided i = go t.decision h.decision (and_right (is_ready t.phase) (elim t.decision as (λ _. Bool) [ None ↦ false | Some o ↦ elim o as (λ _. Bool) [ Outcome.Commit ↦ true | Outcome.Rollback ↦ false ] ]) i)
      where
        go : (o : Option Outcome) → decision_ok k o ≡ true → elim o as (λ _. Bool) [ None ↦ false | Some u ↦ elim u as (λ _. Bool) [ Outcome.Commit ↦ true | Outcome.Rollback ↦ false ] ] ≡ true → k.decides Outcome.Commit ≡ true
        go None d j = absurd (cc (j))
        go (Some Outcome.Commit) d j = d
        go (Some Outcome.Rollback) d j = absurd (cc (j))

    own : (b : Bool) → is_own_commit t ≡ b → own_ok k (if b then Report.Mix else t.own) ≡ true
    own true i = decided i
    own false i = h.own

caused_commit : (k : Known) (t : Transaction) → IsCaused k t (complete_commit t)
unfolding complete_commit
caused_commit k t h = go (not t.owes && all_done t.rows) refl
  where
    P : List TxOut → Type 0
    P = IsUntold (is_bad k)

    r : Report
    r = join (own_damage t.decision) (reports_of t.rows)

    cause : has_cause k Outcome.Rollback r ≡ true
    cause = join_cause k Outcome.Rollback (own_damage t.decision) (reports_of t.rows) (damage_cause k t.decision h.decision) (rows_come k t.rows h.rows)

    tells : asks_tell (is_bad k) (forgets (aaid_of t.key) t.rows ++ done_up t r ++ (TxOut.Tell (Indication.CommitComplete r) ∷ []) ++ ends_down t.rows ++ end_up t) ≡ false
    tells =
        joined_commit P (untold (is_bad k)) t r (joined_forgets P (untold (is_bad k)) (aaid_of t.key) t.rows (λ z b. refl)) (joined_done P (untold (is_bad k)) t r (λ p. refl) (λ a b s i. refl))
        (one_told k (Indication.CommitComplete r) (no_cause (has_cause k Outcome.Rollback r) cause)) (λ p. refl)

    go : (b : Bool) → (not t.owes && all_done t.rows) ≡ b → Caused k (complete_commit t)
    go true i = rw (i, complete_commit) (record { ok = record { rows = h.rows; decision = h.decision; own = h.own }; tells = tells })
    go false i = rw (i, complete_commit) (record { ok = h; tells = refl })

caused_rollback : (k : Known) (t : Transaction) → IsCaused k t (complete_rollback t)
unfolding complete_rollback
caused_rollback k t h = go (not t.owes && all_rolled_back t.rows && (t.superior_rolled || not t.up)) refl
  where
    P : List TxOut → Type 0
    P = IsUntold (is_bad k)

    r : Report
    r = join t.own (reports_of t.rows)

    cause : has_cause k Outcome.Commit r ≡ true
    cause = join_cause k Outcome.Commit t.own (reports_of t.rows) (own_cause k t.own h.own) (rows_come k t.rows h.rows)

    tells : asks_tell (is_bad k) (carry_up t (DialogueRecord.RolledBack r) ++ (TxOut.Tell (Indication.RollbackComplete r) ∷ [])) ≡ false
    tells =
        (untold (is_bad k)).more (carry_up t (DialogueRecord.RolledBack r)) (TxOut.Tell (Indication.RollbackComplete r) ∷ []) (joined_up P (untold (is_bad k)) t (DialogueRecord.RolledBack r) (λ p. refl))
        (one_told k (Indication.RollbackComplete r) (no_cause (has_cause k Outcome.Commit r) cause))

    go : (b : Bool) → (not t.owes && all_rolled_back t.rows && (t.superior_rolled || not t.up)) ≡ b → Caused k (complete_rollback t)
    go true i = rw (i, complete_rollback) (record { ok = record { rows = h.rows; decision = h.decision; own = h.own }; tells = tells })
    go false i = rw (i, complete_rollback) (record { ok = h; tells = refl })

-- ---- every event

caused_turns : (k : Known) (e : TxEvent) (s : Transaction) → Adds k e s → Turns e s (IsCaused k)
caused_turns k e s adds = record {
  still = λ t. caused_same k t t [] (λ h. h) refl;
  first = λ t u outs a one two. caused_first k t u outs a one two;
  chain = λ t a f one two none. caused_then k t a f one two;
  tells = λ t i n. caused_same k t t _ (λ h. h) (one_told k i (not_outcome k i n));
  notes_prepare = λ pr cl. caused_same k s _ _ (λ h. record { rows = h.rows; decision = h.decision; own = h.own }) refl;
  notes_done = λ is. caused_same k s _ _ (λ h. record { rows = h.rows; decision = h.decision; own = h.own }) refl;
  notes_end = λ q is. caused_same k s _ _ (λ h. record { rows = h.rows; decision = h.decision; own = h.own }) refl;
  notes_rollback = λ ro cl. caused_same k s _ _ (λ h. record { rows = h.rows; decision = h.decision; own = h.own }) refl;
  defers_end = λ q is. caused_row k s _ q _ (λ w i. i) refl;
  defers_grant = λ q is. caused_same k s _ _ (λ h. h) refl;
  prepares = λ q. caused_row k s _ q _ (λ w i. i) refl;
  asks = λ is act asked told. caused_ask k s;
  asks_again = caused_same k s _ _ (λ h. h) (joined_retried (IsUntold (is_bad k)) (untold (is_bad k)) s refl (λ a b z i. refl) (λ i. joined_ask (IsUntold (is_bad k)) (untold (is_bad k)) (aaid_of s.key) s.rows (λ z b. refl)));
  decides = λ o is ready. caused_decide k s o (adds.decides o is);
  aborts = λ q is. caused_same k s _ _ (lost_ok k s q) refl;
  loses_arc = λ q gone. caused_same k s _ _ (lost_ok k s q) refl;
  closes_left = λ q is. caused_row k s _ q _ (λ w i. i) refl;
  gives_up = λ q r is c found. caused_given k q r s (adds.gives q is);
  counts = λ q is act row. caused_count k q s;
  ends_done = λ q r is c row. caused_end k q r s (adds.done q r is c row);
  ends_replied = λ b w r is found o. caused_end k w.branch.peer.node r s (adds.replied b w r is found o);
  ends_rolled = λ q r is c row. caused_end k q r s (adds.rolled q r is c row);
  leaves_below = λ q w t is left at act. caused_left k q t;
  leaves_rolling = λ q w t is left at c. caused_end k q _ t refl;
  votes = λ t act asked all under. caused_vote k t;
  orders_root = λ t act asked all root. caused_order k t;
  orders_ready = λ ready is. caused_order k s;
  rolls = λ t asked f may. caused_rolling k asked t;
  completes_commit = λ t c. caused_commit k t;
  completes_rollback = λ t c. caused_rollback k t;
  leaves = λ is act under asked all. caused_leave k s;
}

pub caused_turn : (k : Known) (e : TxEvent) (s : Transaction) → Adds k e s → IsPut e s → IsCaused k s (transacted e s)
caused_turn k e s adds put = every_turn e s (IsCaused k) (caused_turns k e s adds) put
