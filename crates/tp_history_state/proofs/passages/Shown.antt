-- How an event of a transaction leaves active and ready: it logs Ready or Commit, rolls, or its user leaves; and which of its
-- passages clear control and handshakes.
use Rattle.tp_history_state.proofs.Vocabulary.{◌≡◌, ◌⊎◌, inl, inr, ℕ, Bool, true, false, refl, ap, arith, Option, Some, None, List, ◌||◌, Report, Request, LogRec, Phase, TxEvent, TxOut, is_nil, is_active, is_ready, is_committing, is_rolling, Row, Transaction, Turn, turn, and_then, before, is_under, with_row, with_arc_lost, log_ready, ask_commit, leave, order, begin_rolling, count_branch, end_branch, branch_left, remaining, is_leaving, Passage, Stays, Enters, Falls, Falls_at_once, Commits, Rolls_back, Leaves, passage, logs_ready_or_commit, falls, row_dead, Turns, may_move, IsLogged}

abbrev pub is_early : Phase → Bool
is_early p = is_active p || is_ready p

-- ---- a turn leaves active or ready where it logs, rolls or leaves

abbrev pub IsShown : TxEvent → Transaction → Transaction → Turn → Type 0
IsShown e s t a = is_early t.phase ≡ true → (a.next.phase ≡ t.phase) ⊎ ((logs_ready_or_commit a.rec || falls e s || is_leaving e) ≡ true)

pub logs_joined : (x y : Option LogRec) → (x ≡ None) ⊎ (y ≡ None) → logs_ready_or_commit (elim y as (λ _. Option LogRec) [ None ↦ x | Some r ↦ Some r ]) ≡ (logs_ready_or_commit x || logs_ready_or_commit y)
logs_joined x y h1 = grind arith

shown_chain : (e : TxEvent) (s t : Transaction) (a : Turn) (f : Transaction → Turn) → IsShown e s t a → IsShown e s a.next (f a.next) → (a.rec ≡ None) ⊎ ((f a.next).rec ≡ None) → IsShown e s t (and_then a f)
shown_chain e s t a f one two none early = grind (arith, logs_joined)

shown_first : (e : TxEvent) (s t u : Transaction) (outs : List TxOut) (a : Turn) → IsShown e s t (turn outs u) → IsShown e s u a → IsShown e s t (before outs a)
shown_first e s t u outs a one two early = grind arith

pub shown_row : (t : Transaction) (q : ℕ) (f : Row → Row) → (with_row t q f).phase ≡ t.phase
shown_row t q f = grind arith

pub shown_lost : (t : Transaction) (q : ℕ) → (with_arc_lost t q).phase ≡ t.phase
shown_lost t q = grind (arith, shown_row)

logs_up : (t : Transaction) → is_under t.key ≡ true → logs_ready_or_commit (log_ready t) ≡ true
logs_up t h = grind (arith, h)

late_early : (p : Phase) → is_committing p ≡ true → is_early p ≡ true → ⊥
late_early p h i = grind (arith, h, i)

rolling_early : (p : Phase) → is_rolling p ≡ true → is_early p ≡ true → ⊥
rolling_early p h i = grind (arith, h, i)

pub shown_turns : (e : TxEvent) (s : Transaction) → Turns e s (IsShown e s)
unfolding ask_commit leave order begin_rolling count_branch end_branch branch_left
shown_turns e s = record {
  still = λ t h. inl refl;
  first = λ t u outs a one two. shown_first e s t u outs a one two;
  chain = λ t a f one two none. shown_chain e s t a f one two none;
  tells = λ t i n h. inl refl;
  notes_prepare = λ pr g h. inl refl;
  notes_done = λ is h. inl refl;
  notes_end = λ q is h. inl refl;
  notes_rollback = λ ro g h. inl refl;
  defers_end = λ q is h. inl (shown_row s q (λ r. record r { ends = true }));
  defers_grant = λ q is h. inl refl;
  prepares = λ q h. inl (shown_row s q (λ r. record r { branch = record r.branch { prepared = true } }));
  asks = λ is act asked told h. inl refl;
  asks_again = λ h. inl refl;
  decides = λ o is ready h. inl refl;
  aborts = λ q is h. inl (shown_lost s q);
  loses_arc = λ q gone h. inl (shown_lost s q);
  closes_left = λ q is h. inl (shown_row s q row_dead);
  gives_up = λ q r is c found h. inl (shown_row s q (λ w. record w { branch = record w.branch { given_up = true }; live = false; ends = false }));
  counts = λ q is act row h. inl (shown_row s q (λ r. record r { branch = record r.branch { counted = true } }));
  ends_done = λ q r is c row h. inl (shown_row s q (λ w. record w { branch = record w.branch { ended = true; report = r } }));
  ends_replied = λ b w r is found o h. inl (shown_row s w.branch.peer.node (λ v. record v { branch = record v.branch { ended = true; report = r } }));
  ends_rolled = λ q r is c row h. inl (shown_row s q (λ w. record w { branch = record w.branch { ended = true; report = r } }));
  leaves_below = λ q w t is left at act h. inl (shown_row t q (λ v. record v { branch = record v.branch { left = true } }));
  leaves_rolling = λ q w t is left at c h. inl (shown_row t q (λ v. record v { branch = record v.branch { ended = true; report = Report.None } }));
  votes = λ t act asked all under h. inr (rw (logs_up t under) refl);
  orders_root = λ t act asked all root h. inr refl;
  orders_ready = λ ready is h. inr refl;
  rolls = λ t asked f ok h. inr (fallen (begin_rolling asked t).rec f);
  completes_commit = λ t c h. absurd (late_early t.phase c h);
  completes_rollback = λ t c h. absurd (rolling_early t.phase c h);
  leaves = λ is act under asked all h. inr (leaving is);
}
  where
    fallen : (r : Option LogRec) → falls e s ≡ true → (logs_ready_or_commit r || falls e s || is_leaving e) ≡ true
    fallen r f = go (logs_ready_or_commit r)
      where
        go : (x : Bool) → (x || falls e s || is_leaving e) ≡ true
        go true = refl
        go false = rw f refl

    leaving : e ≡ TxEvent.User Request.Unchanged → (false || falls e s || is_leaving e) ≡ true
    leaving is = let on : is_leaving e ≡ true = ap is_leaving is in go (falls e s) on
      where
        go : (x : Bool) → is_leaving e ≡ true → (false || x || is_leaving e) ≡ true
        go true on = refl
        go false on = on

-- ---- passages that clear

abbrev pub clears : Passage → Bool
clears Stays = false
clears Enters = true
clears Falls = true
clears Falls_at_once = true
clears Commits = false
clears Rolls_back = false
clears Leaves = false

pub clears_early : (p q : Phase) → clears (passage false p q) ≡ true → (is_early p ≡ true) × (q ≡ p → ⊥)
clears_early p q h1 = grind arith

pub clears_down : (p q : Phase) → is_early p ≡ true → (is_rolling q || is_nil q) ≡ true → clears (passage false p q) ≡ true
clears_down p q h1 h2 = grind arith

pub clears_vote : (p q : Phase) → is_active p ≡ true → may_move Phase.Ready q ≡ true → clears (passage false p q) ≡ true
clears_vote Phase.Active Phase.Active h i = absurd (cc (i))
clears_vote Phase.Active _ h i = refl
clears_vote p q h i = absurd (grind (arith, h))

pub clears_order : (p q : Phase) → is_early p ≡ true → may_move Phase.Committing q ≡ true → clears (passage false p q) ≡ true
clears_order p q h1 h2 = grind arith

pub rolling_left : (t : Transaction) → is_rolling (elim (remaining t) as (λ _. Phase) [ None ↦ Phase.Nil | Some c ↦ c.phase ]) ≡ is_rolling t.phase
rolling_left t = grind arith

pub logs_clear : (t u : Transaction) (r : Option LogRec) → logs_ready_or_commit r ≡ true → IsLogged t r u → clears (passage false t.phase u.phase) ≡ true
logs_clear t u r h1 h2 = grind (arith, clears_order, clears_vote)
