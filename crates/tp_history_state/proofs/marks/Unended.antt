-- In every legal history a branch of the current transaction that has not ended has no report.
use Rattle.tp_history_state.proofs.Vocabulary.{Bool, List, None, Option, Some, [], ap, arith, false, if◌then◌else◌, not, refl, subst, sym, true, ℕ, ◌&&◌, ◌==◌, ◌||◌, ◌∙◌, ◌∷◌, ◌≡◌, Addr, Report, rank, Branch, Current, Digest, Entry, Event, Origin, Under, IsLegal, Row, Transaction, Turn, ask_commit, begin_rolling, branch_left, count_branch, end_branch, find_row, leave, order, put_row, row_holds, turn, transacted, with_row, TxEvent, TxOut, digest, fresh_current, seen, seen_rows, is_crash, Turns, asks_tell, prelude, row_dead, Entered, Begun, Crashed, Plain, before_it, crash_next, late_law, some_same, started_again, every_turn}
use Rattle.tp_histories.proofs.trees.Entered.{entered}
use Rattle.tp_history_state.proofs.orders.Told.{IsRaised, none_told, raised_event}
use Rattle.tp_history_state.proofs.marks.Marked.{again_marked}
use Rattle.tp_history_state.specs.Reaching.{marked}
use Rattle.tp_history_state.proofs.marks.BranchMark.{left_marked, lost_same, more_same, prepared_same, row_put, row_same, rows_completed, rows_unrolled, seen_marked}

abbrev pub is_unclean : Branch → Bool
is_unclean b = not b.ended && not (rank b.report == 0)

abbrev pub IsClean : Current → Type 0
IsClean c = (p : ℕ) → marked is_unclean p c ≡ false

-- ---- a turn

IsCleanTurn : Transaction → Turn → Type 0
IsCleanTurn t a = (p : ℕ) → row_holds t.rows p is_unclean ≡ false → row_holds a.next.rows p is_unclean ≡ false

clean_put : (t : Transaction) (q : ℕ) (f : Row → Row) (outs : List TxOut) → ((r : Row) → (f r).branch.peer.node ≡ r.branch.peer.node) → ((r : Row) → is_unclean (f r).branch ≡ false) → IsCleanTurn t (turn outs (with_row t q f))
unfolding IsCleanTurn
clean_put t q f outs peer k p h = go (find_row t.rows q) refl
  where
    go : (v : Option Row) → find_row t.rows q ≡ v → row_holds (with_row t q f).rows p is_unclean ≡ false
    go None i = ap (λ (v : Option Row). row_holds (elim v as (λ _. Transaction) [ None ↦ t | Some x ↦ record t { rows = put_row t.rows (f x) } ]).rows p is_unclean) i ∙ h
    go (Some r) i = row_put is_unclean p t q f peer r i ∙ on (q == p)
      where
        on : (b : Bool) → (if b then is_unclean (f r).branch else row_holds t.rows p is_unclean) ≡ false
        on true = k r
        on false = h

clean_turns : (e : TxEvent) (s : Transaction) → Turns e s IsCleanTurn
unfolding IsCleanTurn ask_commit leave count_branch end_branch branch_left order begin_rolling
clean_turns e s = record {
  still = λ t p h. h;
  first = λ t u outs a one two p h. two p (one p h);
  chain = λ t a f one two none p h. two p (one p h);
  tells = λ t i n p h. h;
  notes_prepare = λ pr i p h. h;
  notes_done = λ is p h. h;
  notes_end = λ q is p h. h;
  notes_rollback = λ ro i p h. h;
  defers_end = λ q is p h. row_same is_unclean p s q (λ r. record r { ends = true }) (λ r. refl) (λ r j. refl) ∙ h;
  defers_grant = λ q is p h. h;
  prepares = λ q p h. row_same is_unclean p s q (λ r. record r { branch = record r.branch { prepared = true } }) (λ r. refl) (λ r j. refl) ∙ h;
  asks = λ is act asked told p h. prepared_same is_unclean p (λ b. refl) s.rows ∙ h;
  asks_again = λ p h. h;
  decides = λ o is ready p h. h;
  aborts = λ q is p h. lost_same is_unclean p s q ∙ h;
  loses_arc = λ q gone p h. lost_same is_unclean p s q ∙ h;
  closes_left = λ q is p h. row_same is_unclean p s q row_dead (λ r. refl) (λ r j. refl) ∙ h;
  gives_up = λ q r is c found p h. row_same is_unclean p s q (λ x. record x { branch = record x.branch { given_up = true }; live = false; ends = false }) (λ r. refl) (λ x j. refl) ∙ h;
  counts = λ q is act row p h. row_same is_unclean p s q (λ r. record r { branch = record r.branch { counted = true } }) (λ r. refl) (λ x j. refl) ∙ h;
  ends_done = λ q r is c row p h. clean_put s q (λ x. record x { branch = record x.branch { ended = true; report = r } }) [] (λ r. refl) (λ r. refl) p h;
  ends_replied = λ b v r is found o p h. clean_put s v.branch.peer.node (λ x. record x { branch = record x.branch { ended = true; report = r } }) [] (λ r. refl) (λ r. refl) p h;
  ends_rolled = λ q r is c row p h. clean_put s q (λ x. record x { branch = record x.branch { ended = true; report = r } }) [] (λ r. refl) (λ r. refl) p h;
  leaves_below = λ q v t is left at act p h. row_same is_unclean p t q (λ x. record x { branch = record x.branch { left = true } }) (λ r. refl) (λ x j. refl) ∙ h;
  leaves_rolling = λ q v t is left at c p h. clean_put t q (λ x. record x { branch = record x.branch { ended = true; report = Report.None } }) [] (λ r. refl) (λ r. refl) p h;
  votes = λ t act asked all under p h. h;
  orders_root = λ t act asked all root p h. h;
  orders_ready = λ ready is p h. h;
  rolls = λ t asked f ok p h. h;
  completes_commit = λ t c p h. ap (λ (rows : List Row). row_holds rows p is_unclean) (rows_completed t) ∙ h;
  completes_rollback = λ t c p h. ap (λ (rows : List Row). row_holds rows p is_unclean) (rows_unrolled t) ∙ h;
  leaves = λ is act under asked all p h. h;
}

-- ---- an event

abbrev no_flag : Current → Bool
no_flag c = false

clean_event : (e : Event) → IsRaised none_told no_flag IsClean e true
unfolding IsCleanTurn
clean_event e = record {
  fresh = λ k. (refl, λ p. refl);
  begun = λ who arcs c u child inv is. (refl, λ p. left_marked is_unclean p (transacted (TxEvent.Begun (child ∷ [])) (seen who arcs c)).next u is ∙ more_same is_unclean p (λ x. refl) (seen_rows arcs c.branches) child ∙ seen_marked is_unclean p who arcs c ∙ inv p);
  turn = λ who arcs c u f inv asked put is.
      let t : Transaction = seen who arcs c in
      (sym (flat (asks_tell none_told (transacted f t).outs) (silent (transacted f t).outs)), λ p. left_marked is_unclean p (transacted f t).next u is ∙ every_turn f t IsCleanTurn (clean_turns f t) put p (seen_marked is_unclean p who arcs c ∙ inv p));
  tells = λ who arcs c f inv asked put told. refl;
  spoken = λ i h. refl;
}
  where
    silent : (outs : List TxOut) → asks_tell none_told outs ≡ false
    silent [] = refl
    silent (o ∷ outs) = let rest = silent outs in grind (arith, rest)

    flat : (b : Bool) → b ≡ false → (b || false) ≡ false
    flat false i = refl
    flat true i = i

-- ---- every legal history

pub clean_law : (o : Origin) (up : Option Addr) (h : List Entry) → IsLegal o up h → (c : Current) → (digest o h).current ≡ Some c → IsClean c
clean_law o up [] legal c is = λ p. again_marked is_unclean p (λ x. refl) (digest o []).current c (started_again o up c legal is)
clean_law o up (e ∷ h) legal u is = go (is_crash e.event) refl (clean_law o up h (before_it o up e h legal))
  where
    d : Digest
    d = digest o h

    go : (v : Bool) → is_crash e.event ≡ v → ((c : Current) → d.current ≡ Some c → IsClean c) → IsClean u
    go true i was = λ p. again_marked is_unclean p (λ x. refl) d.current u (sym (crash_next o e h i) ∙ is)
    go false i was = ((raised_event none_told no_flag IsClean o.who d e.event true (clean_event e.event) (late_law o up h legal.grown.3) legal.grown.0 (λ c j. start (entered o e h legal.grown.0) c j)).from u is).1
      where
        start : Entered o e h → (c : Current) → (prelude o.who d e.event).current ≡ Some c → IsClean c
        start (Crashed j) c k = absurd (let on : is_crash e.event ≡ true = ap is_crash j in cc (on, i))
        start (Begun from t b a begun v cur nil quiet sent) c k = subst IsClean (some_same (fresh_current (Under t b a.peer)) c (sym cur ∙ k)) (λ p. refl)
        start (Plain v begun same) c k = was c (sym same ∙ k)
