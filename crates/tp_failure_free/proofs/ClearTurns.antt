-- A transaction whose branches reported nothing, by every event that is no failure and brings no report: it stays so, and its
-- commitment is complete with no report.
use Rattle.std.proofs.Common.{if◌then◌else◌, ◌≡◌, ℕ, Bool, true, false, refl, ap, sym, ◌∙◌, arith, Option, Some, None, List, [], ◌∷◌, ◌++◌, ◌&&◌, ◌||◌, not}
use Rattle.tp_names.specs.declared.identifiers.BranchId.{BranchId}
use Rattle.tp_names.specs.declared.outcome.Outcome.{Outcome}
use Rattle.tp_names.specs.declared.outcome.Report.{Report}
use Rattle.tp_names.specs.Reports.{join, is_report_none}
use Rattle.tp_records.specs.declared.indication.Indication.{Indication}
use Rattle.tp_records.specs.declared.dialogue.DialogueRecord.{DialogueRecord}
use Rattle.tp_records.specs.declared.peer.RecState.{RecState}
use Rattle.tp_model.specs.declared.arc.Phase.{Phase}
use Rattle.tp_model.specs.declared.transaction.TxEvent.{TxEvent}
use Rattle.tp_model.specs.declared.transaction.TxOut.{TxOut}
use Rattle.tp_model.specs.Parts.{Branch}
use Rattle.tp_model.specs.Dialogues.{is_nil, is_active, is_ready, is_committing, is_rolling}
use Rattle.tp_model.specs.Transactions.{Row, Transaction, Turn, turn, and_then, before, row_holds, find_row, find_row_by_id, is_open_in_commit, put_row, with_row, with_arc_lost, is_under_at, all_done, all_rolled_back, reports_of, report_of_branch, own_damage, carry_up, tell_report, all_prepared, complete_commit, complete_rollback, begin_rolling, order, ask_commit, leave, count_branch, end_branch, branch_left, transacted}
use Rattle.std.specs.Prelude.{is_some}
use Rattle.tp_steps.specs.Turns.{Turns, is_outcome_told, vote, row_dead}
use Rattle.tp_steps.specs.Moves.{IsPut}
use Rattle.tp_steps.specs.Passages.{asks_tell}
use Rattle.tp_steps.specs.Clearing.{is_complete_none}
use Rattle.tp_steps.proofs.every.EveryTurn.{every_turn}
use Rattle.tp_steps.proofs.words.Fair.{row_phase}
use Rattle.tp_steps.proofs.lemmas.Phases.{tell_append, still_up, still_prepare, IsUntold, untold}
use Rattle.tp_failure_free.proofs.Calm.{is_calm, is_given, retried_untold, completion_tells}
use Rattle.tp_steps.proofs.log.TurnLog.{row_decision}
use Rattle.tp_steps.proofs.lemmas.Joined.{joined_rolls, joined_order, joined_leaves}

abbrev pub is_complete : Indication → Bool
is_complete (Indication.CommitComplete r) = true
is_complete _ = false

-- no branch that is open in a commitment ends with a report by the event
abbrev pub brings_none : TxEvent → Transaction → Bool
brings_none (TxEvent.Took p (DialogueRecord.Done r)) s = is_report_none r || not (is_committing s.phase && row_holds s.rows p (λ b. not b.ended && not b.left))
brings_none (TxEvent.Reply b (RecState.Done r)) s = is_report_none r || not (elim (find_row_by_id s.rows b) [ None ↦ false | Some w ↦ is_open_in_commit s w.branch ])
brings_none _ s = true

abbrev pub is_clear_branch : Branch → Bool
is_clear_branch b = is_report_none b.report && not b.given_up

abbrev pub clear_rows : List Row → Bool
clear_rows [] = true
clear_rows (r ∷ rs) = is_clear_branch r.branch && clear_rows rs

-- it rolls or is over, or it decided nothing and no branch reported anything
abbrev pub is_clear : Transaction → Bool
is_clear t = is_rolling t.phase || is_nil t.phase || (not (is_some t.decision) && clear_rows t.rows)

record IsClearing (t : Transaction) (a : Turn) : Type 0 where
  clear : is_clear t ≡ true → is_clear a.next ≡ true
  tells : is_clear t ≡ true → asks_tell is_complete a.outs ≡ true → asks_tell is_complete_none a.outs ≡ true

-- a rule that tells of no completion
quiet : (t : Transaction) (a : Turn) → asks_tell is_complete a.outs ≡ false → (is_clear t ≡ true → is_clear a.next ≡ true) → IsClearing t a
quiet t a none clear = record { clear = clear; tells = λ c h. absurd (cc (none, h)) }

-- ---- rows

clear_put : (rows : List Row) (n : Row) → is_clear_branch n.branch ≡ true → clear_rows rows ≡ true → clear_rows (put_row rows n) ≡ true
clear_put [] n one all = refl
clear_put (r ∷ rs) n one all = grind (arith, one, all, clear_put rs n)

clear_found : (rows : List Row) (q : ℕ) (r : Row) → find_row rows q ≡ Some r → clear_rows rows ≡ true → is_clear_branch r.branch ≡ true
clear_found [] q r found all = absurd (cc (found))
clear_found (w ∷ rs) q r found all = grind (arith, found, all, clear_found rs q r)

clear_row : (t : Transaction) (q : ℕ) (f : Row → Row) → ((r : Row) → is_clear_branch r.branch ≡ true → is_clear_branch (f r).branch ≡ true) → clear_rows t.rows ≡ true → clear_rows (with_row t q f).rows ≡ true
clear_row t q f keeps all = go (find_row t.rows q) refl
  where
    go : (o : Option Row) → find_row t.rows q ≡ o → clear_rows (elim o as (λ _. Transaction) [ None ↦ t | Some r ↦ record t { rows = put_row t.rows (f r) } ]).rows ≡ true
    go None i = all
    go (Some r) i = clear_put t.rows (f r) (keeps r (clear_found t.rows q r i all)) all

is_with : (t : Transaction) (q : ℕ) (f : Row → Row) → ((r : Row) → is_clear_branch r.branch ≡ true → is_clear_branch (f r).branch ≡ true) → is_clear t ≡ true → is_clear (with_row t q f) ≡ true
is_with t q f keeps h = go (is_rolling t.phase || is_nil t.phase) refl
  where
    phase : (with_row t q f).phase ≡ t.phase
    phase = row_phase t q f

    go : (b : Bool) → (is_rolling t.phase || is_nil t.phase) ≡ b → is_clear (with_row t q f) ≡ true
    go true i = let same : (is_rolling (with_row t q f).phase || is_nil (with_row t q f).phase) ≡ true = ap (λ (x : Phase). is_rolling x || is_nil x) phase ∙ i in grind (arith, same)
    go false i =
        let rows : clear_rows (with_row t q f).rows ≡ true = clear_row t q f keeps (grind (arith, h, i)) in
        let free : is_some (with_row t q f).decision ≡ false = ap is_some (row_decision t q f) ∙ grind (arith, h, i) in
        grind (arith, rows, free)

with_quiet : (t : Transaction) (outs : List TxOut) (q : ℕ) (f : Row → Row) → asks_tell is_complete outs ≡ false → ((r : Row) → is_clear_branch r.branch ≡ true → is_clear_branch (f r).branch ≡ true) → IsClearing t (turn outs (with_row t q f))
with_quiet t outs q f none keeps = quiet t (turn outs (with_row t q f)) none (is_with t q f keeps)

lost_quiet : (t : Transaction) (outs : List TxOut) (q : ℕ) → asks_tell is_complete outs ≡ false → IsClearing t (turn outs (with_arc_lost t q))
lost_quiet t outs q none = quiet t (turn outs (with_arc_lost t q)) none (go (is_under_at t.key q))
  where
    go : (b : Bool) → is_clear t ≡ true → is_clear (if b then record t { up = false; up_ends = false } else with_row t q row_dead) ≡ true
    go true h = h
    go false h = is_with t q row_dead (λ r k. k) h

prepared_clear : (rows : List Row) → clear_rows (all_prepared rows) ≡ clear_rows rows
prepared_clear [] = refl
prepared_clear (r ∷ rs) = ap (λ v. is_clear_branch r.branch && v) (prepared_clear rs)

-- ---- rules

joined : (t : Transaction) (a b m : Turn) → m.outs ≡ a.outs ++ b.outs → m.next ≡ b.next → IsClearing t a → IsClearing a.next b → IsClearing t m
joined t a b m outs next one two = record {
  clear = λ h. ap is_clear next ∙ two.clear (one.clear h);
  tells = λ h told. ap (asks_tell is_complete_none) outs ∙ tell_append is_complete_none a.outs b.outs ∙ go h (asks_tell is_complete a.outs) refl (sym (tell_append is_complete a.outs b.outs) ∙ ap (asks_tell is_complete) (sym outs) ∙ told);
}
  where
    go : is_clear t ≡ true → (v : Bool) → asks_tell is_complete a.outs ≡ v → (asks_tell is_complete a.outs || asks_tell is_complete b.outs) ≡ true → (asks_tell is_complete_none a.outs || asks_tell is_complete_none b.outs) ≡ true
    go h true i told = rw (one.tells h i) refl
    go h false i told = let second : asks_tell is_complete b.outs ≡ true = grind (arith, told, i) in let k = two.tells (one.clear h) second in grind (arith, k)

ask_clear : (t : Transaction) → IsClearing t (ask_commit t)
unfolding ask_commit
ask_clear t = quiet t (ask_commit t) ((still_prepare t.rows).1 is_complete) (λ h. ap (λ v. is_rolling t.phase || is_nil t.phase || (not (is_some t.decision) && v)) (prepared_clear t.rows) ∙ h)

count_clear : (t : Transaction) (q : ℕ) → IsClearing t (count_branch q t)
unfolding count_branch
count_clear t q = with_quiet t (TxOut.Tell (Indication.Ready q) ∷ []) q (λ r. record r { branch = record r.branch { counted = true } }) refl (λ r k. k)

left_clear : (t : Transaction) (q : ℕ) → IsClearing t (branch_left q t)
unfolding branch_left
left_clear t q = with_quiet t (TxOut.Tell (Indication.Left q) ∷ []) q (λ r. record r { branch = record r.branch { left = true } }) refl (λ r k. k)

report_quiet : (q : ℕ) (r : Report) → asks_tell is_complete (tell_report q r) ≡ false
report_quiet q r = grind arith

-- with no report
end_clear : (t : Transaction) (q : ℕ) (r : Report) → is_report_none r ≡ true → IsClearing t (end_branch q r t)
unfolding end_branch
end_clear t q x none = with_quiet t (tell_report q x) q (λ r. record r { branch = record r.branch { ended = true; report = x } }) (report_quiet q x) (λ r k. grind (arith, k, none))

-- in rolling, with any
end_rolling : (t : Transaction) (q : ℕ) (r : Report) → is_rolling t.phase ≡ true → IsClearing t (end_branch q r t)
unfolding end_branch
end_rolling t q x rolls =
    let f = λ (r : Row). record r { branch = record r.branch { ended = true; report = x } } in
    quiet t (turn (tell_report q x) (with_row t q f)) (report_quiet q x) (λ h. let now : is_rolling (with_row t q f).phase ≡ true = ap is_rolling (row_phase t q f) ∙ rolls in rw now refl)

order_clear : (t : Transaction) → (is_active t.phase || is_ready t.phase) ≡ true → IsClearing t (order t)
unfolding order
order_clear t early =
    quiet t (order t) (joined_order (IsUntold is_complete) (untold is_complete) t refl (λ p. refl)) (λ h. grind (arith, h, early))

rolling_clear : (asked : Bool) (t : Transaction) → IsClearing t (begin_rolling asked t)
unfolding begin_rolling
rolling_clear asked t = quiet t (begin_rolling asked t) (joined_rolls (IsUntold is_complete) (untold is_complete) asked t refl (λ p. refl)) (λ h. refl)

none_joined : (rows : List Row) → clear_rows rows ≡ true → is_report_none (reports_of rows) ≡ true
none_joined [] h = refl
none_joined (r ∷ rs) h = both (report_of_branch r.branch) (reports_of rs) (grind (arith, h)) (none_joined rs (grind (arith, h)))
  where
    both : (x y : Report) → is_report_none x ≡ true → is_report_none y ≡ true → is_report_none (join x y) ≡ true
    both Report.None Report.None i j = refl
    both Report.None Report.Hazard i j = absurd (cc (j))
    both Report.None Report.Mix i j = absurd (cc (j))
    both Report.Hazard y i j = absurd (cc (i))
    both Report.Mix y i j = absurd (cc (i))

none_damage : (o : Option Outcome) (r : Report) → is_some o ≡ false → is_report_none r ≡ true → is_report_none (join (own_damage o) r) ≡ true
none_damage None Report.None h i = refl
none_damage (Some o) r h i = absurd (cc (h))
none_damage None _ h i = absurd (cc (i))

commit_clear : (t : Transaction) → is_committing t.phase ≡ true → IsClearing t (complete_commit t)
unfolding complete_commit
commit_clear t c = go (not t.owes && all_done t.rows) refl
  where
    none : is_clear t ≡ true → is_report_none (join (own_damage t.decision) (reports_of t.rows)) ≡ true
    none h = none_damage t.decision (reports_of t.rows) (grind (arith, h, c)) (none_joined t.rows (grind (arith, h, c)))

    go : (b : Bool) → (not t.owes && all_done t.rows) ≡ b → IsClearing t (complete_commit t)
    go true i = rw (i, complete_commit) (record { clear = λ h. refl; tells = λ h told. completion_tells is_complete_none t (join (own_damage t.decision) (reports_of t.rows)) ∙ none h })
    go false i = rw (i, complete_commit) (quiet t (turn [] t) refl (λ h. h))

rollback_clear : (t : Transaction) → IsClearing t (complete_rollback t)
unfolding complete_rollback
rollback_clear t = go (not t.owes && all_rolled_back t.rows && (t.superior_rolled || not t.up)) refl
  where
    over : Report → Turn
    over r = turn (carry_up t (DialogueRecord.RolledBack r) ++ (TxOut.Tell (Indication.RollbackComplete r) ∷ [])) (record t { phase = Phase.Nil })

    none : (r : Report) → asks_tell is_complete (over r).outs ≡ false
    none r = tell_append is_complete (carry_up t (DialogueRecord.RolledBack r)) (TxOut.Tell (Indication.RollbackComplete r) ∷ []) ∙ rw ((still_up t (DialogueRecord.RolledBack r) refl).1 is_complete) refl

    go : (b : Bool) → (not t.owes && all_rolled_back t.rows && (t.superior_rolled || not t.up)) ≡ b → IsClearing t (complete_rollback t)
    go true i = rw (i, complete_rollback) (quiet t (over (join t.own (reports_of t.rows))) (none (join t.own (reports_of t.rows))) (λ h. refl))
    go false i = rw (i, complete_rollback) (quiet t (turn [] t) refl (λ h. h))

leave_clear : (t : Transaction) → IsClearing t (leave t)
unfolding leave
leave_clear t = quiet t (leave t) (joined_leaves (IsUntold is_complete) (untold is_complete) t (λ p. refl) (λ p. refl) (λ p. refl)) (λ h. refl)

unfinished : (i : Indication) → is_outcome_told i ≡ false → is_complete i ≡ false
unfinished (Indication.CommitComplete r) h = absurd (cc (h))
unfinished i h = refl

vote_clear : (t : Transaction) → is_active t.phase ≡ true → IsClearing t (vote t)
vote_clear t act = quiet t (vote t) ((still_up t DialogueRecord.Ready refl).1 is_complete) (λ h. grind (arith, h, act))

none_said : (e : TxEvent) (s : Transaction) (q : ℕ) (r : Report) → e ≡ TxEvent.Took q (DialogueRecord.Done r) → is_committing s.phase ≡ true → row_holds s.rows q (λ b. not b.ended && not b.left) ≡ true → brings_none e s ≡ true → is_report_none r ≡ true
none_said e s q r is c row h =
    let one : brings_none (TxEvent.Took q (DialogueRecord.Done r)) s ≡ true = ap (λ (f : TxEvent). brings_none f s) (sym is) ∙ h in
    free (is_report_none r) (is_committing s.phase) (row_holds s.rows q (λ b. not b.ended && not b.left)) c row one
  where
    free : (x y z : Bool) → y ≡ true → z ≡ true → (x || not (y && z)) ≡ true → x ≡ true
    free true y z i j k = refl
    free false true true i j k = absurd (cc (k))
    free false false z i j k = absurd (cc (i))
    free false true false i j k = absurd (cc (j))

none_replied : (e : TxEvent) (s : Transaction) (b : BranchId) (w : Row) (r : Report) → e ≡ TxEvent.Reply b (RecState.Done r) → find_row_by_id s.rows b ≡ Some w → is_open_in_commit s w.branch ≡ true → brings_none e s ≡ true → is_report_none r ≡ true
none_replied e s b w r is found now h =
    let one : brings_none (TxEvent.Reply b (RecState.Done r)) s ≡ true = ap (λ (f : TxEvent). brings_none f s) (sym is) ∙ h in
    let there : (is_report_none r || not (is_open_in_commit s w.branch)) ≡ true = rw found at one in
    free (is_report_none r) (is_open_in_commit s w.branch) now there
  where
    free : (x y : Bool) → y ≡ true → (x || not y) ≡ true → x ≡ true
    free true y i k = refl
    free false true i k = absurd (cc (k))
    free false false i k = absurd (cc (i))

pub wild : (e f : TxEvent) → e ≡ f → is_calm e ≡ true → is_calm f ≡ false → ⊥
wild e f is calm off = cc (ap is_calm is, calm, off)

clearing_turns : (e : TxEvent) (s : Transaction) → is_given e ≡ false → brings_none e s ≡ true → Turns e s IsClearing
clearing_turns e s bare none = record {
  still = λ t. quiet t (turn [] t) refl (λ h. h);
  first = λ t u outs a one two. joined t (turn outs u) a (before outs a) refl refl one two;
  chain = λ t a f one two q. joined t a (f a.next) (and_then a f) refl refl one two;
  tells = λ t i n. quiet t (turn (TxOut.Tell i ∷ []) t) (rw (unfinished i n) refl) (λ h. h);
  notes_prepare = λ pr c. quiet s _ refl (λ h. h);
  notes_done = λ is. quiet s _ refl (λ h. h);
  notes_end = λ q is. quiet s _ refl (λ h. h);
  notes_rollback = λ ro c. quiet s _ refl (λ h. h);
  defers_end = λ q is. with_quiet s (TxOut.Carry q DialogueRecord.DeferEnd ∷ []) q (λ r. record r { ends = true }) refl (λ r k. k);
  defers_grant = λ q is. quiet s _ refl (λ h. h);
  prepares = λ q. with_quiet s (TxOut.Carry q DialogueRecord.Prepare ∷ []) q (λ r. record r { branch = record r.branch { prepared = true } }) refl (λ r k. k);
  asks = λ is act n told. ask_clear s;
  asks_again = quiet s _ (retried_untold is_complete refl s) (λ h. h);
  decides = λ o is ready. absurd (cc (ap is_given is, bare));
  aborts = λ q is. lost_quiet s (TxOut.Carry q DialogueRecord.UAbort ∷ TxOut.Close q ∷ []) q refl;
  loses_arc = λ q l. lost_quiet s [] q refl;
  closes_left = λ q is. with_quiet s (TxOut.Close q ∷ []) q row_dead refl (λ r k. k);
  gives_up = λ q r is c found. absurd (cc (ap is_given is, bare));
  counts = λ q is act h. count_clear s q;
  ends_done = λ q x is c h. end_clear s q x (none_said e s q x is c h none);
  ends_replied = λ b w x is found now. end_clear s w.branch.peer.node x (none_replied e s b w x is found now none);
  ends_rolled = λ q x is rolls h. end_rolling s q x rolls;
  leaves_below = λ q w t is left at act. left_clear t q;
  leaves_rolling = λ q w t is left at act. end_clear t q Report.None refl;
  votes = λ t act asked all under. vote_clear t act;
  orders_root = λ t act asked all under. order_clear t (rw act refl);
  orders_ready = λ ready is. order_clear s (rw ready (grind arith));
  rolls = λ t asked fall ok. rolling_clear asked t;
  completes_commit = λ t c. commit_clear t c;
  completes_rollback = λ t c. rollback_clear t;
  leaves = λ is act under asked all. leave_clear s;
}

pub clears : (e : TxEvent) (s : Transaction) → IsPut e s → is_given e ≡ false → brings_none e s ≡ true → is_clear s ≡ true
    → (is_clear (transacted e s).next ≡ true) × (asks_tell is_complete (transacted e s).outs ≡ true → asks_tell is_complete_none (transacted e s).outs ≡ true)
clears e s put bare none h = let k = every_turn e s IsClearing (clearing_turns e s bare none) put in (k.clear h, k.tells h)
