-- Every event of a transaction forces a record that may stand at its stage, or none, and goes on in a phase that fits the next stage.
use Rattle.std.proofs.Common.{if◌then◌else◌, ◌≡◌, ◌⊎◌, inl, inr, ℕ, Bool, true, false, refl, ap, sym, ◌∙◌, arith, Option, Some, None, List, [], ◌&&◌, ◌||◌}
use Rattle.std.specs.Prelude.{not}
use Rattle.tp_names.specs.declared.identifiers.NodeKey.{NodeKey}
use Rattle.tp_names.specs.declared.outcome.Outcome.{Outcome}
use Rattle.tp_names.specs.declared.outcome.Report.{Report}
use Rattle.tp_names.specs.Reports.{join, is_report_none}
use Rattle.tp_logrec.specs.declared.record.LogRec.{LogRec}
use Rattle.tp_model.specs.declared.arc.Phase.{Phase}
use Rattle.tp_model.specs.declared.transaction.TxEvent.{TxEvent}
use Rattle.tp_model.specs.declared.transaction.TxOut.{TxOut}
use Rattle.tp_model.specs.Parts.{Key, Root, Under}
use Rattle.tp_model.specs.Dialogues.{is_active, is_ready, is_committing, is_rolling}
use Rattle.tp_model.specs.Transactions.{Row, Transaction, Turn, turn, and_then, before, node_key, is_under, children_of, owed_of, all_done, own_damage, reports_of, all_rolled_back, with_row, with_arc_lost, log_ready, log_commit, log_end, log_damage, log_heuristic, rollback_rec, complete_commit, complete_rollback, begin_rolling, ask_commit, order, leave, count_branch, end_branch, branch_left, transacted, refused_tx}
use Rattle.std.specs.Prelude.{is_some}
use Rattle.tp_steps.specs.Turns.{Turns, vote, decide}
use Rattle.tp_steps.specs.Moves.{IsPut, is_took}
use Rattle.tp_forced.specs.TreeLog.{Stage, when, after_record}
use Rattle.tp_steps.proofs.every.EveryTurn.{every_turn}
use Rattle.tp_steps.proofs.log.Passed.{later_rec}
use Rattle.tp_steps.proofs.words.Fair.{row_phase}
use Rattle.tp_steps.proofs.words.FairTurns.{lost_phase}
use Rattle.tp_steps.proofs.lemmas.Phases.{lost_key}
use Rattle.tp_steps.proofs.lemmas.Options.{some_same}
use Rattle.tp_steps.proofs.lemmas.Equality.{or_case}
use Rattle.tp_forced.proofs.Stages.{fits, own_stage, own_key, keyed, root_key, VotedAs, Undecided, By_itself, active_stage, ready_stage, ordered_stage, rolling_stage, blank_away, is_away, is_voted, outcome_self}

-- from a transaction with the key u, at the stage g
pub record Staged (k : NodeKey) (u : Key) (g : Stage) (a : Turn) : Type 0 where
  pub next : Stage
  pub steps : own_stage k g a.rec ≡ Some next
  pub key : a.next.key ≡ u
  pub fit : fits a.next.phase a.next.decision next ≡ true

abbrev pub IsStaged : NodeKey → Transaction → Turn → Type 0
IsStaged k t a = (g : Stage) → node_key t.key ≡ k → fits t.phase t.decision g ≡ true → Staged k t.key g a

staged_same : (k : NodeKey) (t u : Transaction) (outs : List TxOut) → u.key ≡ t.key → u.phase ≡ t.phase → u.decision ≡ t.decision → IsStaged k t (turn outs u)
staged_same k t u outs key phase decision g own f = record {
  next = g;
  steps = refl;
  key = key;
  fit = ap (λ (p : Phase). fits p u.decision g) phase ∙ ap (λ (o : Option Outcome). fits t.phase o g) decision ∙ f;
}

row_key : (t : Transaction) (q : ℕ) (f : Row → Row) → (with_row t q f).key ≡ t.key
row_key t q f = grind arith

row_decision : (t : Transaction) (q : ℕ) (f : Row → Row) → (with_row t q f).decision ≡ t.decision
row_decision t q f = grind arith

lost_decision : (t : Transaction) (q : ℕ) → (with_arc_lost t q).decision ≡ t.decision
lost_decision t q = grind (arith, row_decision)

staged_row : (k : NodeKey) (t : Transaction) (outs : List TxOut) (q : ℕ) (f : Row → Row) → IsStaged k t (turn outs (with_row t q f))
staged_row k t outs q f = staged_same k t (with_row t q f) outs (row_key t q f) (row_phase t q f) (row_decision t q f)

staged_lost : (k : NodeKey) (t : Transaction) (outs : List TxOut) (q : ℕ) → IsStaged k t (turn outs (with_arc_lost t q))
staged_lost k t outs q = staged_same k t (with_arc_lost t q) outs (lost_key t q) (lost_phase t q) (lost_decision t q)

staged_then : (k : NodeKey) (t : Transaction) (a : Turn) (f : Transaction → Turn) → IsStaged k t a → IsStaged k a.next (f a.next) → (a.rec ≡ None) ⊎ ((f a.next).rec ≡ None) → IsStaged k t (and_then a f)
staged_then k t a f one two quiet g own fit = go (later_rec a.rec (f a.next).rec quiet)
  where
    x : Staged k t.key g a
    x = one g own fit

    y : Staged k a.next.key x.next (f a.next)
    y = two x.next (ap node_key x.key ∙ own) x.fit

    go : (a.rec ≡ None) × ((and_then a f).rec ≡ (f a.next).rec) ⊎ ((f a.next).rec ≡ None) × ((and_then a f).rec ≡ a.rec) → Staged k t.key g (and_then a f)
    go (inl i) =
        let same : x.next ≡ g = sym (some_same g x.next (sym (ap (own_stage k g) i.0) ∙ x.steps)) in
        record { next = y.next; steps = ap (own_stage k g) i.1 ∙ ap (λ (v : Stage). own_stage k v (f a.next).rec) (sym same) ∙ y.steps; key = y.key ∙ x.key; fit = y.fit }
    go (inr i) =
        let same : x.next ≡ y.next = some_same x.next y.next (sym (ap (own_stage k x.next) i.0) ∙ y.steps) in
        record { next = y.next; steps = ap (own_stage k g) i.1 ∙ x.steps ∙ ap (λ (v : Stage). Some v) same; key = y.key ∙ x.key; fit = y.fit }

staged_first : (k : NodeKey) (t u : Transaction) (outs : List TxOut) (a : Turn) → IsStaged k t (turn outs u) → IsStaged k u a → IsStaged k t (before outs a)
staged_first k t u outs a one two g own fit =
    let x : Staged k t.key g (turn outs u) = one g own fit in
    let y : Staged k u.key x.next a = two x.next (ap node_key x.key ∙ own) x.fit in
    let same : x.next ≡ g = sym (some_same g x.next x.steps) in
    record { next = y.next; steps = ap (λ (v : Stage). own_stage k v a.rec) (sym same) ∙ y.steps; key = y.key ∙ x.key; fit = y.fit }

-- ---- passages

staged_vote : (k : NodeKey) (t : Transaction) → is_active t.phase ≡ true → is_under t.key ≡ true → IsStaged k t (vote t)
staged_vote k t act under g own fit = go t.key refl
  where
    s : (g ≡ Stage.Blank) × (t.decision ≡ None)
    s = active_stage t.phase t.decision g act fit

    branch : when (not (not (is_under t.key))) Stage.Voted ≡ Some Stage.Voted
    branch = ap (λ (b : Bool). when (not (not b)) Stage.Voted) under

    of_key : (v : Key) → t.key ≡ v → (own_stage k g (log_ready t) ≡ Some Stage.Voted)
    of_key (Root a) i = absurd (cc (under, ap is_under i))
    of_key (Under a b z) i =
        let r : LogRec = LogRec.Ready t.node (node_key t.key) z (children_of t.rows) in
        let made : log_ready t ≡ Some r = ap (λ (v : Key). elim v as (λ _. Option LogRec) [ Root a ↦ None | Under a b z ↦ Some (LogRec.Ready t.node (node_key t.key) z (children_of t.rows)) ]) i in
        let after : after_record k g r ≡ Some Stage.Voted = ap (λ (v : Stage). after_record k v r) s.0 ∙ ap (λ (j : NodeKey). after_record j Stage.Blank r) (sym own) ∙ ap (λ (b : Bool). when (not b) Stage.Voted) (root_key t.key) ∙ branch in
        ap (own_stage k g) made ∙ keyed k g r (Some Stage.Voted) (own_key (node_key t.key) k own) after

    go : (v : Key) → t.key ≡ v → Staged k t.key g (vote t)
    go v i = record { next = Stage.Voted; steps = of_key v i; key = refl; fit = ap (λ (o : Option Outcome). is_voted o Stage.Voted) s.1 }

staged_order : (k : NodeKey) (t : Transaction) → ((g : Stage) → node_key t.key ≡ k → fits t.phase t.decision g ≡ true → after_record k g (log_commit t) ≡ Some Stage.Ordered) → IsStaged k t (order t)
unfolding order
staged_order k t may g own fit = record {
  next = Stage.Ordered;
  steps = keyed k g (log_commit t) (Some Stage.Ordered) (own_key (node_key t.key) k own) (may g own fit);
  key = refl;
  fit = refl;
}

may_root : (k : NodeKey) (t : Transaction) → is_active t.phase ≡ true → is_under t.key ≡ false → (g : Stage) → node_key t.key ≡ k → fits t.phase t.decision g ≡ true → after_record k g (log_commit t) ≡ Some Stage.Ordered
may_root k t act root g own fit =
    let s = active_stage t.phase t.decision g act fit in
    ap (λ (v : Stage). after_record k v (log_commit t)) s.0 ∙ ap (λ (j : NodeKey). after_record j Stage.Blank (log_commit t)) (sym own) ∙ ap (λ (b : Bool). when b Stage.Ordered) (root_key t.key) ∙ ap (λ (b : Bool). when (not b) Stage.Ordered) root

may_ready : (k : NodeKey) (t : Transaction) → is_ready t.phase ≡ true → (g : Stage) → node_key t.key ≡ k → fits t.phase t.decision g ≡ true → after_record k g (log_commit t) ≡ Some Stage.Ordered
may_ready k t ready g own fit = go (ready_stage t.phase t.decision g ready fit)
  where
    go : VotedAs t.decision g → after_record k g (log_commit t) ≡ Some Stage.Ordered
    go (Undecided i j) = ap (λ (v : Stage). after_record k v (log_commit t)) j
    go (By_itself o i j) = ap (λ (v : Stage). after_record k v (log_commit t)) j

staged_decide : (k : NodeKey) (e : TxEvent) (s : Transaction) (o : Outcome) → IsPut e s → e ≡ TxEvent.Heur o → is_ready s.phase ≡ true → IsStaged k s (decide o s)
unfolding refused_tx
staged_decide k e s o put is ready g own fit = go (ready_stage s.phase s.decision g ready fit)
  where
    free : refused_tx (TxEvent.Heur o) s ≡ None
    free = ap (λ (f : TxEvent). refused_tx f s) (sym is) ∙ put.ok (ap is_took is)

    undecided : is_some s.decision ≡ false
    undecided = grind (arith, free, ready)

    go : VotedAs s.decision g → Staged k s.key g (decide o s)
    go (Undecided i j) = record {
      next = Stage.Decided o;
      steps = keyed k g (log_heuristic s o) (Some (Stage.Decided o)) (own_key (node_key s.key) k own) (ap (λ (v : Stage). after_record k v (log_heuristic s o)) j);
      key = refl;
      fit = decided s.phase ready;
    }
      where
        decided : (p : Phase) → is_ready p ≡ true → fits p (Some o) (Stage.Decided o) ≡ true
        decided Phase.Ready h = outcome_self o
        decided _ h = absurd (cc (h))
    go (By_itself u i j) = absurd (cc (undecided, ap is_some i))

staged_rolling : (k : NodeKey) (asked : Bool) (t : Transaction) → (is_active t.phase || is_ready t.phase) ≡ true → IsStaged k t (begin_rolling asked t)
unfolding begin_rolling
staged_rolling k asked t may g own fit = elim (or_case (is_active t.phase) (is_ready t.phase) may) [ inl act ↦ from_active act | inr ready ↦ from_ready ready ]
  where
    rec_is : (o : Option LogRec) (u : Stage) → rollback_rec t ≡ o → own_stage k g o ≡ Some u → is_away u ≡ true → Staged k t.key g (begin_rolling asked t)
    rec_is o u i j away = record { next = u; steps = ap (own_stage k g) i ∙ j; key = refl; fit = away }

    from_active : is_active t.phase ≡ true → Staged k t.key g (begin_rolling asked t)
    from_active act =
        let s = active_stage t.phase t.decision g act fit in
        rec_is None g (none t.phase act) refl (blank_away g s.0)
      where
        none : (p : Phase) → is_active p ≡ true → rollback_rec (record t { phase = p }) ≡ None
        none Phase.Active h = refl
        none _ h = absurd (cc (h))

    ends : LogRec
    ends = log_end t Outcome.Rollback

    harms : LogRec
    harms = log_damage t Outcome.Rollback Report.Mix []

    logs_end : (p : Phase) (u : Option Outcome) → is_ready p ≡ true → (u ≡ None) ⊎ (u ≡ Some Outcome.Rollback) → rollback_rec (record t { phase = p; decision = u }) ≡ Some ends
    logs_end Phase.Ready None h i = refl
    logs_end Phase.Ready (Some Outcome.Rollback) h i = refl
    logs_end Phase.Ready (Some Outcome.Commit) h (inl i) = absurd (cc (i))
    logs_end Phase.Ready (Some Outcome.Commit) h (inr i) = absurd (cc (i))
    logs_end _ u h i = absurd (cc (h))

    logs_harm : (p : Phase) (u : Option Outcome) → is_ready p ≡ true → u ≡ Some Outcome.Commit → rollback_rec (record t { phase = p; decision = u }) ≡ Some harms
    logs_harm Phase.Ready (Some Outcome.Commit) h i = refl
    logs_harm Phase.Ready (Some Outcome.Rollback) h i = absurd (cc (i))
    logs_harm Phase.Ready None h i = absurd (cc (i))
    logs_harm _ u h i = absurd (cc (h))

    from_ready : is_ready t.phase ≡ true → Staged k t.key g (begin_rolling asked t)
    from_ready ready = go (ready_stage t.phase t.decision g ready fit)
      where
        go : VotedAs t.decision g → Staged k t.key g (begin_rolling asked t)
        go (Undecided i j) = rec_is (Some ends) Stage.Over (logs_end t.phase t.decision ready (inl i)) (keyed k g ends (Some Stage.Over) (own_key (node_key t.key) k own) (ap (λ (v : Stage). after_record k v ends) j)) refl
        go (By_itself Outcome.Rollback i j) = rec_is (Some ends) Stage.Over (logs_end t.phase t.decision ready (inr i)) (keyed k g ends (Some Stage.Over) (own_key (node_key t.key) k own) (ap (λ (v : Stage). after_record k v ends) j)) refl
        go (By_itself Outcome.Commit i j) = rec_is (Some harms) Stage.Backed (logs_harm t.phase t.decision ready i) (keyed k g harms (Some Stage.Backed) (own_key (node_key t.key) k own) (ap (λ (v : Stage). after_record k v harms) j)) refl

staged_commit : (k : NodeKey) (t : Transaction) → is_committing t.phase ≡ true → IsStaged k t (complete_commit t)
unfolding complete_commit
staged_commit k t c g own fit = go (not t.owes && all_done t.rows) refl
  where
    at : g ≡ Stage.Ordered
    at = ordered_stage t.phase t.decision g c fit

    report : Report
    report = join (own_damage t.decision) (reports_of t.rows)

    over : LogRec
    over = log_end t Outcome.Commit

    harm : LogRec
    harm = log_damage t Outcome.Commit report (owed_of t.rows)

    ends : (b : Bool) → own_stage k g (Some (if b then over else harm)) ≡ Some (if b then Stage.Over else Stage.Damaged)
    ends true = keyed k g over (Some Stage.Over) (own_key (node_key t.key) k own) (ap (λ (v : Stage). after_record k v over) at)
    ends false = keyed k g harm (Some Stage.Damaged) (own_key (node_key t.key) k own) (ap (λ (v : Stage). after_record k v harm) at)

    away : (b : Bool) → is_away (if b then Stage.Over else Stage.Damaged) ≡ true
    away true = refl
    away false = refl

    go : (b : Bool) → (not t.owes && all_done t.rows) ≡ b → Staged k t.key g (complete_commit t)
    go true i = rw (i, complete_commit) (record { next = if is_report_none report then Stage.Over else Stage.Damaged; steps = ends (is_report_none report); key = refl; fit = away (is_report_none report) })
    go false i = rw (i, complete_commit) (staged_same k t t [] refl refl refl g own fit)

staged_rollback : (k : NodeKey) (t : Transaction) → is_rolling t.phase ≡ true → IsStaged k t (complete_rollback t)
unfolding complete_rollback
staged_rollback k t r g own fit = go (not t.owes && all_rolled_back t.rows && (t.superior_rolled || not t.up)) refl
  where
    go : (b : Bool) → (not t.owes && all_rolled_back t.rows && (t.superior_rolled || not t.up)) ≡ b → Staged k t.key g (complete_rollback t)
    go true i = rw (i, complete_rollback) (record { next = g; steps = refl; key = refl; fit = rolling_stage t.phase t.decision g r fit })
    go false i = rw (i, complete_rollback) (staged_same k t t [] refl refl refl g own fit)

staged_leave : (k : NodeKey) (t : Transaction) → is_active t.phase ≡ true → IsStaged k t (leave t)
unfolding leave
staged_leave k t act g own fit = record { next = g; steps = refl; key = refl; fit = blank_away g (active_stage t.phase t.decision g act fit).0 }

staged_ask : (k : NodeKey) (t : Transaction) → IsStaged k t (ask_commit t)
unfolding ask_commit
staged_ask k t = staged_same k t _ _ refl refl refl

staged_count : (k : NodeKey) (q : ℕ) (t : Transaction) → IsStaged k t (count_branch q t)
unfolding count_branch
staged_count k q t = staged_row k t _ q _

staged_end : (k : NodeKey) (q : ℕ) (r : Report) (t : Transaction) → IsStaged k t (end_branch q r t)
unfolding end_branch
staged_end k q r t = staged_row k t _ q _

staged_left : (k : NodeKey) (q : ℕ) (t : Transaction) → IsStaged k t (branch_left q t)
unfolding branch_left
staged_left k q t = staged_row k t _ q _

-- ---- every event

staged_turns : (k : NodeKey) (e : TxEvent) (s : Transaction) → IsPut e s → Turns e s (IsStaged k)
staged_turns k e s put = record {
  still = λ t. staged_same k t t [] refl refl refl;
  first = λ t u outs a one two. staged_first k t u outs a one two;
  chain = λ t a f one two none. staged_then k t a f one two none;
  tells = λ t i n. staged_same k t t _ refl refl refl;
  notes_prepare = λ pr cl. staged_same k s _ _ refl refl refl;
  notes_done = λ is. staged_same k s _ _ refl refl refl;
  notes_end = λ q is. staged_same k s _ _ refl refl refl;
  notes_rollback = λ ro cl. staged_same k s _ _ refl refl refl;
  defers_end = λ q is. staged_row k s _ q _;
  defers_grant = λ q is. staged_same k s _ _ refl refl refl;
  prepares = λ q. staged_row k s _ q _;
  asks = λ is act asked told. staged_ask k s;
  asks_again = staged_same k s _ _ refl refl refl;
  decides = λ o is ready. staged_decide k e s o put is ready;
  aborts = λ q is. staged_lost k s _ q;
  loses_arc = λ q gone. staged_lost k s _ q;
  closes_left = λ q is. staged_row k s _ q _;
  gives_up = λ q r is c found. staged_row k s _ q _;
  counts = λ q is act row. staged_count k q s;
  ends_done = λ q r is c row. staged_end k q r s;
  ends_replied = λ b w r is found o. staged_end k w.branch.peer.node r s;
  ends_rolled = λ q r is c row. staged_end k q r s;
  leaves_below = λ q w t is left at act. staged_left k q t;
  leaves_rolling = λ q w t is left at c. staged_end k q _ t;
  votes = λ t act asked all under. staged_vote k t act under;
  orders_root = λ t act asked all root. staged_order k t (may_root k t act root);
  orders_ready = λ ready is. staged_order k s (may_ready k s ready);
  rolls = λ t asked f may. staged_rolling k asked t may;
  completes_commit = λ t c. staged_commit k t c;
  completes_rollback = λ t c. staged_rollback k t c;
  leaves = λ is act under asked all. staged_leave k s act;
}

pub staged_turn : (k : NodeKey) (e : TxEvent) (s : Transaction) → IsPut e s → IsStaged k s (transacted e s)
staged_turn k e s put = every_turn e s (IsStaged k) (staged_turns k e s put) put
