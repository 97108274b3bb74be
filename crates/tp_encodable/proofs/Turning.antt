-- What a turn of a transaction logs is shaped as a text asks: an instance of the steps of a turn.
use Rattle.std.proofs.Common.{if◌then◌else◌, ◌≡◌, ◌≤◌, ℕ, suc, Bool, true, false, refl, ap, sym, subst, ◌∙◌, arith, Option, Some, None, List, [], ◌∷◌, ◌++◌, length, not, ◌&&◌}
use Rattle.tp_names.specs.declared.children.Child.{Child}
use Rattle.tp_names.specs.declared.outcome.Outcome.{Outcome}
use Rattle.tp_names.specs.declared.outcome.Report.{Report}
use Rattle.tp_names.specs.Reports.{join, is_report_none}
use Rattle.tp_records.specs.declared.indication.Indication.{Indication}
use Rattle.tp_logrec.specs.declared.record.LogRec.{LogRec}
use Rattle.tp_logrec.specs.declared.record.LogVersion.{LogVersion}
use Rattle.tp_model.specs.declared.arc.Phase.{Phase}
use Rattle.tp_model.specs.declared.transaction.TxEvent.{TxEvent}
use Rattle.tp_model.specs.declared.transaction.TxOut.{TxOut}
use Rattle.tp_model.specs.Parts.{Key, Root, Under}
use Rattle.tp_model.specs.Dialogues.{is_active, is_ready}
use Rattle.tp_model.specs.Transactions.{Row, Transaction, Turn, and_then, with_row, with_arc_lost, is_under, node_key, superior_of, child_of, children_of, owed_of, all_done, own_damage, reports_of, forgets, done_up, ends_down, end_up, aaid_of, is_own_commit, log_damage, log_end, complete_commit, complete_rollback, begin_rolling, order, ask_commit, leave, count_branch, end_branch, branch_left, transacted, completion_of, no_completion}
use Rattle.tp_steps.specs.Turns.{Turns, row_dead, vote}
use Rattle.tp_steps.specs.Moves.{IsPut}
use Rattle.tp_steps.proofs.every.EveryTurn.{every_turn}
use Rattle.tp_steps.proofs.words.Fair.{row_phase}
use Rattle.tp_steps.proofs.lemmas.Phases.{lost_key}
use Rattle.tp_steps.proofs.every.EveryTurn.{phase_lost}
use Rattle.tp_steps.proofs.log.KinTurns.{kids, IsKin, kin_turns}
use Rattle.tp_texts.specs.Texts.{most_children}
use Rattle.tp_texts.specs.Shapes.{has_branch, has_superior, IsShaped}

abbrev pub IsShapedOption : LogVersion → Option LogRec → Type 0
IsShapedOption ver None = Unit {0}
IsShapedOption ver (Some r) = IsShaped ver r

-- a ready transaction came from a superior, and there are no more branches than a record counts
pub record IsFit (ver : LogVersion) (t : Transaction) : Type 0 where
  pub under : is_ready t.phase ≡ true → is_under t.key ≡ true
  pub few : length (kids t.rows) ≤ most_children ver

pub record Logs (ver : LogVersion) (t : Transaction) (a : Turn) : Type 0 where
  pub next : IsFit ver t → IsFit ver a.next
  -- what is active was so
  pub active : is_active a.next.phase ≡ true → is_active t.phase ≡ true
  pub rec : IsFit ver t → IsShapedOption ver a.rec

-- ---- what the records say

key_under : (k : Key) → is_under k ≡ true → has_branch (node_key k) ≡ true
key_under (Root t) h = absurd (cc (h))
key_under (Under t b a) h = refl

key_superior : (k : Key) → has_superior (superior_of k) ≡ has_branch (node_key k)
key_superior (Root t) = refl
key_superior (Under t b a) = refl

few_children : (rows : List Row) → length (children_of rows) ≤ length (kids rows)
few_children [] = omega arith
few_children (r ∷ rs) = go r.branch.left (few_children rs)
  where
    go : (b : Bool) → length (children_of rs) ≤ length (kids rs) → length (if b then children_of rs else child_of r.branch ∷ children_of rs) ≤ suc (length (kids rs))
    go true h = omega (arith, h)
    go false h = omega (arith, h)

few_owed : (rows : List Row) → length (owed_of rows) ≤ length (kids rows)
few_owed [] = omega arith
few_owed (r ∷ rs) = grind (arith, few_owed rs)

at_most : (a b n : ℕ) → a ≤ b → b ≤ n → a ≤ n
at_most a b n h i = omega (arith, h, i)

-- ---- steps that log nothing

quiet : (ver : LogVersion) (t : Transaction) (a : Turn) → a.rec ≡ None → a.next.key ≡ t.key → a.next.phase ≡ t.phase → IsKin t a → Logs ver t a
quiet ver t a none key phase kin = record {
  next = λ f. record { under = λ r. ap is_under key ∙ f.under (ap is_ready (sym phase) ∙ r); few = subst (λ (cs : List Child). length cs ≤ most_children ver) (sym kin) f.few };
  active = λ h. ap is_active (sym phase) ∙ h;
  rec = λ f. subst (IsShapedOption ver) (sym none) tt;
}

row_key : (t : Transaction) (p : ℕ) (f : Row → Row) → (with_row t p f).key ≡ t.key
row_key t p f = grind arith

row : (ver : LogVersion) (e : TxEvent) (s t : Transaction) (p : ℕ) (f : Row → Row) (outs : List TxOut) → IsKin t (record { rec = None; outs = outs; completion = no_completion outs; next = with_row t p f }) → Logs ver t (record { rec = None; outs = outs; completion = no_completion outs; next = with_row t p f })
row ver e s t p f outs kin = quiet ver t (record { rec = None; outs = outs; completion = no_completion outs; next = with_row t p f }) refl (row_key t p f) (row_phase t p f) kin

lost : (ver : LogVersion) (t : Transaction) (p : ℕ) (outs : List TxOut) → IsKin t (record { rec = None; outs = outs; completion = no_completion outs; next = with_arc_lost t p }) → Logs ver t (record { rec = None; outs = outs; completion = no_completion outs; next = with_arc_lost t p })
lost ver t p outs kin = quiet ver t (record { rec = None; outs = outs; completion = no_completion outs; next = with_arc_lost t p }) refl (lost_key t p) (phase_lost t p) kin

-- ---- those that log

logs_order : (ver : LogVersion) (t : Transaction) → Logs ver t (order t)
unfolding order
logs_order ver t = record {
  next = λ f. record { under = λ r. absurd (cc (r)); few = f.few };
  active = λ h. absurd (cc (h));
  rec = λ f. (key_superior t.key, at_most _ _ _ (few_children t.rows) f.few);
}

logs_vote : (ver : LogVersion) (t : Transaction) → is_under t.key ≡ true → Logs ver t (vote t)
logs_vote ver t u = record { next = λ f. record { under = λ r. u; few = f.few }; active = λ h. absurd (cc (h)); rec = λ f. go t.key u f }
  where
    go : (k : Key) → is_under k ≡ true → IsFit ver t → IsShapedOption ver (elim k as (λ _. Option LogRec) [ Root a ↦ None | Under a b s ↦ Some (LogRec.Ready t.node (node_key k) s (children_of t.rows)) ])
    go (Root a) h f = absurd (cc (h))
    go (Under a b s) h f = (refl, at_most _ _ _ (few_children t.rows) f.few)

logs_rolls : (ver : LogVersion) (asked : Bool) (t : Transaction) → Logs ver t (begin_rolling asked t)
unfolding begin_rolling
logs_rolls ver asked t = record { next = λ f. record { under = λ r. absurd (cc (r)); few = f.few }; active = λ h. absurd (cc (h)); rec = λ f. go (is_ready t.phase) (is_own_commit t) }
  where
    go : (a b : Bool) → IsShapedOption ver (if not a then None else if b then Some (log_damage t Outcome.Rollback Report.Mix []) else Some (log_end t Outcome.Rollback))
    go false b = tt
    go true true = (key_superior t.key, refl, omega arith)
    go true false = tt

logs_commit : (ver : LogVersion) (t : Transaction) → Logs ver t (complete_commit t)
unfolding complete_commit
logs_commit ver t = go (not t.owes && all_done t.rows)
  where
    r : Report
    r = join (own_damage t.decision) (reports_of t.rows)

    rec : IsFit ver t → (b : Bool) → is_report_none r ≡ b → IsShaped ver (if b then log_end t Outcome.Commit else log_damage t Outcome.Commit r (owed_of t.rows))
    rec f true i = tt
    rec f false i = (key_superior t.key, i, at_most _ _ _ (few_owed t.rows) f.few)

    go : (b : Bool) → Logs ver t (if b then (record {
      rec = Some (if is_report_none r then log_end t Outcome.Commit else log_damage t Outcome.Commit r (owed_of t.rows));
      outs = forgets (aaid_of t.key) t.rows ++ done_up t r ++ (TxOut.Tell (Indication.CommitComplete r) ∷ []) ++ ends_down t.rows ++ end_up t;
      completion = completion_of t r;
      next = record t { phase = Phase.Nil };
    }) else (record { rec = None; outs = []; completion = no_completion []; next = t }))
    go true = record { next = λ f. record { under = λ h. absurd (cc (h)); few = f.few }; active = λ h. absurd (cc (h)); rec = λ f. rec f (is_report_none r) refl }
    go false = record { next = λ f. f; active = λ h. h; rec = λ f. tt }

logs_rollback : (ver : LogVersion) (t : Transaction) → Logs ver t (complete_rollback t)
unfolding complete_rollback
logs_rollback ver t = record { next = λ f. next f; active = λ h. grind (arith, h); rec = λ f. subst (IsShapedOption ver) (sym none) tt }
  where
    none : (complete_rollback t).rec ≡ None
    none = grind arith

    key : (complete_rollback t).next.key ≡ t.key
    key = grind arith

    rows : (complete_rollback t).next.rows ≡ t.rows
    rows = grind arith

    phase : is_ready (complete_rollback t).next.phase ≡ true → is_ready t.phase ≡ true
    phase h = grind (arith, h)

    next : IsFit ver t → IsFit ver (complete_rollback t).next
    next f = record { under = λ h. ap is_under key ∙ f.under (phase h); few = subst (λ (rs : List Row). length (kids rs) ≤ most_children ver) (sym rows) f.few }

logs_leave : (ver : LogVersion) (t : Transaction) → Logs ver t (leave t)
unfolding leave
logs_leave ver t = record { next = λ f. record { under = λ h. absurd (cc (h)); few = f.few }; active = λ h. absurd (cc (h)); rec = λ f. tt }

logs_ask : (ver : LogVersion) (t : Transaction) → IsKin t (ask_commit t) → Logs ver t (ask_commit t)
unfolding ask_commit
logs_ask ver t kin = quiet ver t (ask_commit t) refl refl refl kin

logs_chain : (ver : LogVersion) (t : Transaction) (a : Turn) (f : Transaction → Turn) → Logs ver t a → Logs ver a.next (f a.next) → Logs ver t (and_then a f)
logs_chain ver t a f one two = record { next = λ h. two.next (one.next h); active = λ h. one.active (two.active h); rec = λ h. go (f a.next).rec (two.rec (one.next h)) (one.rec h) }
  where
    go : (o : Option LogRec) → IsShapedOption ver o → IsShapedOption ver a.rec → IsShapedOption ver (elim o as (λ _. Option LogRec) [ None ↦ a.rec | Some r ↦ Some r ])
    go None x y = y
    go (Some r) x y = x

logs_turns : (ver : LogVersion) (e : TxEvent) (s : Transaction) → Turns e s (Logs ver)
unfolding count_branch end_branch branch_left
logs_turns ver e s =
    let k = kin_turns e s in
    record {
      still = λ t. record { next = λ f. f; active = λ h. h; rec = λ f. tt };
      first = λ t u outs a one two. record { next = λ f. two.next (one.next f); active = λ h. one.active (two.active h); rec = λ f. two.rec (one.next f) };
      chain = λ t a f one two none. logs_chain ver t a f one two;
      tells = λ t i n. record { next = λ f. f; active = λ h. h; rec = λ f. tt };
      notes_prepare = λ pr h. record { next = λ f. record { under = f.under; few = f.few }; active = λ h. h; rec = λ f. tt };
      notes_done = λ is. record { next = λ f. record { under = f.under; few = f.few }; active = λ h. h; rec = λ f. tt };
      notes_end = λ q is. record { next = λ f. record { under = f.under; few = f.few }; active = λ h. h; rec = λ f. tt };
      notes_rollback = λ ro h. record { next = λ f. record { under = f.under; few = f.few }; active = λ h. h; rec = λ f. tt };
      defers_end = λ q is. row ver e s s q _ _ (k.defers_end q is);
      defers_grant = λ q is. record { next = λ f. f; active = λ h. h; rec = λ f. tt };
      prepares = λ q. row ver e s s q _ _ (k.prepares q);
      asks = λ is act asked told. logs_ask ver s (k.asks is act asked told);
      asks_again = record { next = λ f. f; active = λ h. h; rec = λ f. tt };
      decides = λ o is ready. record { next = λ f. record { under = f.under; few = f.few }; active = λ h. h; rec = λ f. key_under s.key (f.under ready) };
      aborts = λ q is. lost ver s q _ (k.aborts q is);
      loses_arc = λ q gone. lost ver s q _ (k.loses_arc q gone);
      closes_left = λ q is. row ver e s s q row_dead _ (k.closes_left q is);
      gives_up = λ q r is c found. row ver e s s q _ _ (k.gives_up q r is c found);
      counts = λ q is act at. row ver e s s q _ _ (k.counts q is act at);
      ends_done = λ q r is c at. row ver e s s q _ _ (k.ends_done q r is c at);
      ends_replied = λ b w r is found o. row ver e s s w.branch.peer.node _ _ (k.ends_replied b w r is found o);
      ends_rolled = λ q r is c at. row ver e s s q _ _ (k.ends_rolled q r is c at);
      leaves_below = λ q w t is left at act. row ver e s t q _ _ (k.leaves_below q w t is left at act);
      leaves_rolling = λ q w t is left at c. row ver e s t q _ _ (k.leaves_rolling q w t is left at c);
      votes = λ t act asked all under. logs_vote ver t under;
      orders_root = λ t act asked all root. logs_order ver t;
      orders_ready = λ ready is. logs_order ver s;
      rolls = λ t asked f ok. logs_rolls ver asked t;
      completes_commit = λ t c. logs_commit ver t;
      completes_rollback = λ t c. logs_rollback ver t;
      leaves = λ is act under asked all. logs_leave ver s;
    }

pub logs_turn : (ver : LogVersion) (e : TxEvent) (s : Transaction) → IsPut e s → Logs ver s (transacted e s)
logs_turn ver e s put = every_turn e s (Logs ver) (logs_turns ver e s) put
