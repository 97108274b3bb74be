-- In every legal history a branch of an active transaction that has answered was told to prepare, and none has ended.
use Rattle.tp_history_state.proofs.Vocabulary.{if◌then◌else◌, ◌≡◌, ◌⊎◌, inl, inr, ℕ, Bool, true, false, refl, ap, sym, subst, ◌∙◌, arith, Option, Some, None, List, [], ◌∷◌, ◌&&◌, ◌||◌, ◌==◌, not, Addr, Report, Indication, DialogueRecord, TxEvent, TxOut, Origin, Event, Entry, Branch, Current, Digest, Under, Sight, Acts, Nothing_happens, Out_of_phase, is_active, is_committing, is_rolling, Row, Transaction, Turn, turn, find_row, put_row, row_holds, with_row, with_arc_lost, all_prepared, takes, transacted, sight_of_tx, ask_commit, begin_rolling, branch_left, complete_commit, complete_rollback, count_branch, end_branch, leave, order, digest, fresh_current, seen, seen_rows, is_crash, Turns, IsPut, asks_tell, is_left_word, row_dead, shut_given_up, prelude, IsLegal, Entered, Begun, Crashed, Plain, before_it, crash_next, late_law, left_is, row_phase, some_same, started_again, every_turn}
use Rattle.tp_histories.proofs.trees.Entered.{entered}
use Rattle.tp_history_state.proofs.orders.Told.{IsRaised, none_told, raised_event}
use Rattle.tp_history_state.proofs.marks.Marked.{again_marked}
use Rattle.tp_history_state.specs.Reaching.{is_hasty, IsProper}
use Rattle.tp_history_state.proofs.marks.BranchMark.{left_marked, lost_same, more_same, row_put, row_same, seen_marked}

-- ---- a turn

IsProperTurn : Transaction → Turn → Type 0
IsProperTurn t a = is_active a.next.phase ≡ true → (is_active t.phase ≡ true) × ((p : ℕ) → row_holds t.rows p is_hasty ≡ false → row_holds a.next.rows p is_hasty ≡ false)

proper_same : (t : Transaction) (a : Turn) → a.next.phase ≡ t.phase → ((p : ℕ) → row_holds a.next.rows p is_hasty ≡ row_holds t.rows p is_hasty) → IsProperTurn t a
unfolding IsProperTurn
proper_same t a phase rows act = (ap is_active (sym phase) ∙ act, λ p h. rows p ∙ h)

proper_over : (t : Transaction) (a : Turn) → is_active a.next.phase ≡ false → IsProperTurn t a
unfolding IsProperTurn
proper_over t a off act = absurd (cc (off, act))

-- a row is put in place of another, which may be so only where it is not hasty
proper_put : (t : Transaction) (q : ℕ) (f : Row → Row) (outs : List TxOut) → ((r : Row) → (f r).branch.peer.node ≡ r.branch.peer.node) → ((r : Row) → find_row t.rows q ≡ Some r → is_hasty (f r).branch ≡ false) → IsProperTurn t (turn outs (with_row t q f))
unfolding IsProperTurn
proper_put t q f outs peer k act = (ap is_active (sym (row_phase t q f)) ∙ act, λ p h. go p h (find_row t.rows q) refl)
  where
    go : (p : ℕ) → row_holds t.rows p is_hasty ≡ false → (v : Option Row) → find_row t.rows q ≡ v → row_holds (with_row t q f).rows p is_hasty ≡ false
    go p h None i = ap (λ (v : Option Row). row_holds (elim v as (λ _. Transaction) [ None ↦ t | Some x ↦ record t { rows = put_row t.rows (f x) } ]).rows p is_hasty) i ∙ h
    go p h (Some r) i = row_put is_hasty p t q f peer r i ∙ on (q == p)
      where
        on : (b : Bool) → (if b then is_hasty (f r).branch else row_holds t.rows p is_hasty) ≡ false
        on true = k r i
        on false = h

prepared_all : (p : ℕ) (rows : List Row) → row_holds (all_prepared rows) p is_hasty ≡ false
prepared_all p [] = refl
prepared_all p (r ∷ rows) = go (r.branch.peer.node == p) (prepared_all p rows)
  where
    x : Row
    x = record r { branch = record r.branch { prepared = true } }

    never : (b : Bool) → (b && false) ≡ false
    never true = refl
    never false = refl

    go : (b : Bool) → row_holds (all_prepared rows) p is_hasty ≡ false → elim (if b then Some x else find_row (all_prepared rows) p) as (λ _. Bool) [ None ↦ false | Some y ↦ is_hasty y.branch ] ≡ false
    go true rest = never (r.branch.counted || r.branch.left || r.branch.ended)
    go false rest = rest

lost_phase : (t : Transaction) (q : ℕ) → (with_arc_lost t q).phase ≡ t.phase
lost_phase t q = grind (arith, row_phase)

over_ended : (t : Transaction) (q : ℕ) (r : Report) → is_active t.phase ≡ false → is_active (end_branch q r t).next.phase ≡ false
unfolding end_branch
over_ended t q r off = ap is_active (row_phase t q (λ x. record x { branch = record x.branch { ended = true; report = r } })) ∙ off

over_committed : (t : Transaction) → is_committing t.phase ≡ true → is_active (complete_commit t).next.phase ≡ false
unfolding complete_commit
over_committed t c = grind (arith, c)

over_rolled : (t : Transaction) → is_rolling t.phase ≡ true → is_active (complete_rollback t).next.phase ≡ false
unfolding complete_rollback
over_rolled t c = grind (arith, c)

no_active_committing : (t : Transaction) → is_committing t.phase ≡ true → is_active t.phase ≡ false
no_active_committing t c = grind (arith, c)

no_active_rolling : (t : Transaction) → is_rolling t.phase ≡ true → is_active t.phase ≡ false
no_active_rolling t c = grind (arith, c)

row_so : (t : Transaction) (q : ℕ) (w : Branch → Bool) (r : Row) → find_row t.rows q ≡ Some r → row_holds t.rows q w ≡ true → w r.branch ≡ true
row_so t q w r found h = sym (ap (λ (v : Option Row). elim v as (λ _. Bool) [ None ↦ false | Some x ↦ w x.branch ]) found) ∙ h

-- a leaving acts in active on a branch that was told to prepare
abbrev IsLeavingTold : TxEvent → Transaction → Type 0
IsLeavingTold e s = (p : ℕ) (w : DialogueRecord) → e ≡ TxEvent.Took p w → is_left_word w ≡ true → is_active s.phase ≡ true → row_holds s.rows p (λ b. b.prepared) ≡ true

proper_turns : (e : TxEvent) (s : Transaction) → IsLeavingTold e s → Turns e s IsProperTurn
unfolding IsProperTurn ask_commit leave count_branch branch_left order begin_rolling
proper_turns e s told = record {
  still = λ t act. (act, λ p h. h);
  first = λ t u outs a one two act. let y = two act in let x = one y.0 in (x.0, λ p h. y.1 p (x.1 p h));
  chain = λ t a f one two none act. let y = two act in let x = one y.0 in (x.0, λ p h. y.1 p (x.1 p h));
  tells = λ t i n act. (act, λ p h. h);
  notes_prepare = λ pr i act. (act, λ p h. h);
  notes_done = λ is act. (act, λ p h. h);
  notes_end = λ q is act. (act, λ p h. h);
  notes_rollback = λ ro i act. (act, λ p h. h);
  defers_end = λ q is. proper_same s (turn (TxOut.Carry q DialogueRecord.DeferEnd ∷ []) (with_row s q (λ r. record r { ends = true }))) (row_phase s q (λ r. record r { ends = true })) (λ p. row_same is_hasty p s q (λ r. record r { ends = true }) (λ r. refl) (λ r j. refl));
  defers_grant = λ q is act. (act, λ p h. h);
  prepares = λ q. proper_put s q (λ r. record r { branch = record r.branch { prepared = true } }) (TxOut.Carry q DialogueRecord.Prepare ∷ []) (λ r. refl) (λ r found. never (r.branch.counted || r.branch.left || r.branch.ended));
  asks = λ is act asked ok on. (on, λ p h. prepared_all p s.rows);
  asks_again = λ act. (act, λ p h. h);
  decides = λ o is ready act. (act, λ p h. h);
  aborts = λ q is. proper_same s (turn (TxOut.Carry q DialogueRecord.UAbort ∷ TxOut.Close q ∷ []) (with_arc_lost s q)) (lost_phase s q) (λ p. lost_same is_hasty p s q);
  loses_arc = λ q gone. proper_same s (turn [] (with_arc_lost s q)) (lost_phase s q) (λ p. lost_same is_hasty p s q);
  closes_left = λ q is. proper_same s (turn (TxOut.Close q ∷ []) (with_row s q row_dead)) (row_phase s q row_dead) (λ p. row_same is_hasty p s q row_dead (λ r. refl) (λ r j. refl));
  gives_up = λ q r is c found. proper_over s (shut_given_up q r s) (ap is_active (row_phase s q (λ x. record x { branch = record x.branch { given_up = true }; live = false; ends = false })) ∙ no_active_committing s c);
  counts = λ q is act row. proper_put s q (λ r. record r { branch = record r.branch { counted = true } }) (TxOut.Tell (Indication.Ready q) ∷ []) (λ r. refl) (λ r found. asked_of r.branch (row_so s q (λ b. b.prepared && not b.counted) r found row));
  ends_done = λ q r is c row. proper_over s (end_branch q r s) (over_ended s q r (no_active_committing s c));
  ends_replied = λ b w r is found o. proper_over s (end_branch w.branch.peer.node r s) (over_ended s w.branch.peer.node r (no_active_committing s (open_commits (is_committing s.phase) (not w.branch.ended) (not w.branch.left) o)));
  ends_rolled = λ q r is c row. proper_over s (end_branch q r s) (over_ended s q r (no_active_rolling s c));
  leaves_below = λ q w t is left at act.
      proper_put t q (λ r. record r { branch = record r.branch { left = true } }) (TxOut.Tell (Indication.Left q) ∷ []) (λ r. refl)
      (λ r found. told_of r.branch (row_so t q (λ b. b.prepared) r found (rows_at q w t is left at act)));
  leaves_rolling = λ q w t is left at c. proper_over t (end_branch q Report.None t) (over_ended t q Report.None (no_active_rolling t c));
  votes = λ t act asked all under on. absurd (cc (on));
  orders_root = λ t act asked all root on. absurd (cc (on));
  orders_ready = λ ready is on. absurd (cc (on));
  rolls = λ t asked f ok on. absurd (cc (on));
  completes_commit = λ t c. proper_over t (complete_commit t) (over_committed t c);
  completes_rollback = λ t c. proper_over t (complete_rollback t) (over_rolled t c);
  leaves = λ is act under asked all on. absurd (cc (on));
}
  where
    never : (b : Bool) → (b && false) ≡ false
    never true = refl
    never false = refl

    asked_of : (b : Branch) → (b.prepared && not b.counted) ≡ true → is_hasty (record b { counted = true }) ≡ false
    asked_of b h = grind (arith, h)

    told_of : (b : Branch) → b.prepared ≡ true → is_hasty (record b { left = true }) ≡ false
    told_of b h = grind (arith, h)

    open_commits : (a b c : Bool) → (a && b && c) ≡ true → a ≡ true
    open_commits a b c h = grind (arith, h)

    rows_at : (q : ℕ) (w : DialogueRecord) (t : Transaction) → e ≡ TxEvent.Took q w → is_left_word w ≡ true → (t ≡ s) ⊎ (t ≡ with_row s q row_dead) → is_active t.phase ≡ true → row_holds t.rows q (λ b. b.prepared) ≡ true
    rows_at q w t is left (inl i) act = subst (λ (u : Transaction). row_holds u.rows q (λ b. b.prepared) ≡ true) (sym i) (told q w is left (ap (λ (u : Transaction). is_active u.phase) (sym i) ∙ act))
    rows_at q w t is left (inr i) act =
        subst (λ (u : Transaction). row_holds u.rows q (λ b. b.prepared) ≡ true) (sym i)
        (row_same (λ b. b.prepared) q s q row_dead (λ r. refl) (λ r j. refl) ∙ told q w is left (ap is_active (sym (row_phase s q row_dead)) ∙ ap (λ (u : Transaction). is_active u.phase) (sym i) ∙ act))

left_told : (s : Transaction) (p : ℕ) (w : DialogueRecord) → is_left_word w ≡ true → sight_of_tx s p w ≡ Acts → is_active s.phase ≡ true → row_holds s.rows p (λ b. b.prepared) ≡ true
unfolding sight_of_tx
left_told s p DialogueRecord.Left word acts act = grind (arith, acts, act)
left_told s p DialogueRecord.LeftEnd word acts act = grind (arith, acts, act)
left_told s p w word acts act = absurd (cc (word))

proper_turn : (e : TxEvent) (s : Transaction) → IsPut e s → IsProperTurn s (transacted e s)
proper_turn (TxEvent.Took p r) s put = go (sight_of_tx s p r) refl
  where
    a : Sight → Turn
    a v = elim v as (λ _. Turn) [ Acts ↦ takes p r s | Nothing_happens ↦ turn [] s | Out_of_phase ↦ turn [] s ]

    same : (v : Sight) → sight_of_tx s p r ≡ v → transacted (TxEvent.Took p r) s ≡ a v
    same v i = ap a i

    go : (v : Sight) → sight_of_tx s p r ≡ v → IsProperTurn s (transacted (TxEvent.Took p r) s)
    go Acts i = every_turn (TxEvent.Took p r) s IsProperTurn (proper_turns (TxEvent.Took p r) s (λ q w is word act. told q w is word act)) put
      where
        told : (q : ℕ) (w : DialogueRecord) → TxEvent.Took p r ≡ TxEvent.Took q w → is_left_word w ≡ true → is_active s.phase ≡ true → row_holds s.rows q (λ b. b.prepared) ≡ true
        told q w is word act =
            let at : p ≡ q = cc (is) in
            let one : r ≡ w = cc (is) in
            left_told s q w word (ap (λ (n : ℕ). sight_of_tx s n w) (sym at) ∙ ap (sight_of_tx s p) (sym one) ∙ i) act
    go Nothing_happens i = subst (IsProperTurn s) (sym (same Nothing_happens i)) (proper_same s (turn [] s) refl (λ p. refl))
    go Out_of_phase i = subst (IsProperTurn s) (sym (same Out_of_phase i)) (proper_same s (turn [] s) refl (λ p. refl))
proper_turn e s put = every_turn e s IsProperTurn (proper_turns e s (λ p w is word act. absurd (cc (is)))) put

-- ---- an event

abbrev no_flag : Current → Bool
no_flag c = false

proper_event : (e : Event) → IsRaised none_told no_flag IsProper e true
unfolding IsProperTurn
proper_event e = record {
  fresh = λ k. (refl, λ act p. refl);
  begun = λ who arcs c u child inv is. let t : Transaction = (transacted (TxEvent.Begun (child ∷ [])) (seen who arcs c)).next in
      (refl, λ act p. left_marked is_hasty p t u is ∙ more_same is_hasty p (λ x. refl) (seen_rows arcs c.branches) child ∙ seen_marked is_hasty p who arcs c ∙ inv (ap is_active (sym (left_is t u is).1) ∙ act) p);
  turn = λ who arcs c u f inv asked put is.
      let t : Transaction = seen who arcs c in (
        sym (flat (asks_tell none_told (transacted f t).outs) (silent (transacted f t).outs)),
        λ act p.
            let k = proper_turn f t put (ap is_active (sym (left_is (transacted f t).next u is).1) ∙ act) in
            left_marked is_hasty p (transacted f t).next u is ∙ k.1 p (seen_marked is_hasty p who arcs c ∙ inv k.0 p),
      );
  tells = λ who arcs c f inv asked put told. refl;
  spoken = λ i h. refl;
}
  where
    silent : (outs : List TxOut) → asks_tell none_told outs ≡ false
    silent [] = refl
    silent (o ∷ outs) = let rest = silent outs in grind (arith, rest)

    flat : (b : Bool) → b ≡ false → (b || false) ≡ false
    flat false i = refl
    flat true i = i

-- ---- every legal history

pub proper_law : (o : Origin) (up : Option Addr) (h : List Entry) → IsLegal o up h → (c : Current) → (digest o h).current ≡ Some c → IsProper c
proper_law o up [] legal c is = λ act p. again_marked is_hasty p (λ x. refl) (digest o []).current c (started_again o up c legal is)
proper_law o up (e ∷ h) legal u is = go (is_crash e.event) refl (proper_law o up h (before_it o up e h legal))
  where
    d : Digest
    d = digest o h

    go : (v : Bool) → is_crash e.event ≡ v → ((c : Current) → d.current ≡ Some c → IsProper c) → IsProper u
    go true i was = λ act p. again_marked is_hasty p (λ x. refl) d.current u (sym (crash_next o e h i) ∙ is)
    go false i was = ((raised_event none_told no_flag IsProper o.who d e.event true (proper_event e.event) (late_law o up h legal.grown.3) legal.grown.0 (λ c j. start (entered o e h legal.grown.0) c j)).from u is).1
      where
        start : Entered o e h → (c : Current) → (prelude o.who d e.event).current ≡ Some c → IsProper c
        start (Crashed j) c k = absurd (let on : is_crash e.event ≡ true = ap is_crash j in cc (on, i))
        start (Begun from t b a begun v cur nil quiet sent) c k = subst IsProper (some_same (fresh_current (Under t b a.peer)) c (sym cur ∙ k)) (λ act p. refl)
        start (Plain v begun same) c k = was c (sym same ∙ k)
