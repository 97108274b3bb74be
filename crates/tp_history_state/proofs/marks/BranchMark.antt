-- A mark of the branch with a peer: false where the branch is new, and touched by some events of the transaction alone.
use Rattle.tp_history_state.proofs.Vocabulary.{Bool, List, None, Option, Some, [], ap, arith, false, if◌then◌else◌, refl, sym, true, ℕ, ◌++◌, ◌==◌, ◌||◌, ◌∙◌, ◌∷◌, ◌≡◌, nat_tests, BranchId, Child, Report, DialogueRecord, PeerRecord, RecState, Arc, Branch, Current, Event, Who, Row, Transaction, Turn, all_prepared, ask_commit, begin_rolling, branch_left, complete_commit, complete_rollback, count_branch, end_branch, find_row, fresh_branch, fresh_rows, leave, order, put_row, row_holds, settle, transacted, with_arc_lost, with_row, TxEvent, TxOut, remaining, seen, seen_rows, named_again, IsAsked, Turns, asks_tell, find_branch, is_left_word, row_dead, find_put, row_is, every_turn}
use Rattle.tp_history_state.specs.Reaching.{marked}
use Rattle.tp_history_state.proofs.orders.Told.{IsRaised, always, none_told}
use Rattle.tp_steps.proofs.words.HeardTurned.{left_find}
use Rattle.tp_control.proofs.LedEvents.{seen_holds}

-- the mark w of the branch with p stays as it is, but where the event is one of these
pub record IsMarking (w : Branch → Bool) (p : ℕ) (hits : TxEvent → Bool) : Type 0 where
  pub fresh : (c : Child) → w (fresh_branch c) ≡ false
  pub prepared : (b : Branch) → w (record b { prepared = true }) ≡ w b
  pub done : (q : ℕ) (r : Report) (b : Branch) → hits (TxEvent.Took q (DialogueRecord.Done r)) ≡ false → (q == p) ≡ true → w (record b { ended = true; report = r }) ≡ w b
  pub rolled : (q : ℕ) (r : Report) (b : Branch) → hits (TxEvent.Took q (DialogueRecord.RolledBack r)) ≡ false → (q == p) ≡ true → w (record b { ended = true; report = r }) ≡ w b
  pub left_late : (q : ℕ) (r : DialogueRecord) (b : Branch) → is_left_word r ≡ true → hits (TxEvent.Took q r) ≡ false → (q == p) ≡ true → w (record b { ended = true; report = Report.None }) ≡ w b
  pub replied : (i : BranchId) (r : Report) (b : Branch) → hits (TxEvent.Reply i (RecState.Done r)) ≡ false → w (record b { ended = true; report = r }) ≡ w b
  pub given_up : (q : ℕ) (b : Branch) → hits (TxEvent.GiveUp q) ≡ false → (q == p) ≡ true → w (record b { given_up = true }) ≡ w b
  pub counted : (q : ℕ) (b : Branch) → hits (TxEvent.Took q DialogueRecord.Ready) ≡ false → (q == p) ≡ true → w (record b { counted = true }) ≡ w b
  pub left : (q : ℕ) (r : DialogueRecord) (b : Branch) → is_left_word r ≡ true → hits (TxEvent.Took q r) ≡ false → (q == p) ≡ true → w (record b { left = true }) ≡ w b

-- ---- a turn

abbrev IsSame : (Branch → Bool) → ℕ → Transaction → Turn → Type 0
IsSame w p t a = row_holds a.next.rows p w ≡ row_holds t.rows p w

-- a row is put in place of another
pub row_put : (w : Branch → Bool) (p : ℕ) (t : Transaction) (q : ℕ) (f : Row → Row) → ((r : Row) → (f r).branch.peer.node ≡ r.branch.peer.node) → (r : Row) → find_row t.rows q ≡ Some r → row_holds (with_row t q f).rows p w ≡ (if q == p then w (f r).branch else row_holds t.rows p w)
row_put w p t q f peer r found =
    ap (λ (v : Option Row). row_holds (elim v as (λ _. Transaction) [ None ↦ t | Some x ↦ record t { rows = put_row t.rows (f x) } ]).rows p w) found
    ∙ ap (λ (v : Option Row). elim v as (λ _. Bool) [ None ↦ false | Some x ↦ w x.branch ]) (find_put t.rows q r (f r) p found (peer r ∙ row_is t.rows q r found)) ∙ go (q == p)
  where
    go : (b : Bool) → elim (if b then Some (f r) else find_row t.rows p) as (λ _. Bool) [ None ↦ false | Some x ↦ w x.branch ] ≡ (if b then w (f r).branch else row_holds t.rows p w)
    go true = refl
    go false = refl

pub row_same : (w : Branch → Bool) (p : ℕ) (t : Transaction) (q : ℕ) (f : Row → Row) → ((r : Row) → (f r).branch.peer.node ≡ r.branch.peer.node) → ((r : Row) → (q == p) ≡ true → w (f r).branch ≡ w r.branch) → row_holds (with_row t q f).rows p w ≡ row_holds t.rows p w
row_same w p t q f peer same = go (find_row t.rows q) refl
  where
    go : (v : Option Row) → find_row t.rows q ≡ v → row_holds (with_row t q f).rows p w ≡ row_holds t.rows p w
    go None i = ap (λ (v : Option Row). row_holds (elim v as (λ _. Transaction) [ None ↦ t | Some x ↦ record t { rows = put_row t.rows (f x) } ]).rows p w) i
    go (Some r) i = row_put w p t q f peer r i ∙ on (q == p) refl
      where
        on : (b : Bool) → (q == p) ≡ b → (if b then w (f r).branch else row_holds t.rows p w) ≡ row_holds t.rows p w
        on false j = refl
        on true j = same r j ∙ sym (ap (λ (v : Option Row). elim v as (λ _. Bool) [ None ↦ false | Some x ↦ w x.branch ]) (at (grind (arith, nat_tests, j)) i))
          where
            at : q ≡ p → find_row t.rows q ≡ Some r → find_row t.rows p ≡ Some r
            at k l = ap (find_row t.rows) (sym k) ∙ l

pub lost_same : (w : Branch → Bool) (p : ℕ) (t : Transaction) (q : ℕ) → row_holds (with_arc_lost t q).rows p w ≡ row_holds t.rows p w
lost_same w p t q = grind (arith, row_same)

pub prepared_same : (w : Branch → Bool) (p : ℕ) → ((b : Branch) → w (record b { prepared = true }) ≡ w b) → (rows : List Row) → row_holds (all_prepared rows) p w ≡ row_holds rows p w
prepared_same w p k [] = refl
prepared_same w p k (r ∷ rows) = go (r.branch.peer.node == p) (prepared_same w p k rows)
  where
    x : Row
    x = record r { branch = record r.branch { prepared = true } }

    go : (b : Bool) → row_holds (all_prepared rows) p w ≡ row_holds rows p w
        → elim (if b then Some x else find_row (all_prepared rows) p) as (λ _. Bool) [ None ↦ false | Some y ↦ w y.branch ] ≡ elim (if b then Some r else find_row rows p) as (λ _. Bool) [ None ↦ false | Some y ↦ w y.branch ]
    go true rest = k r.branch
    go false rest = rest

same_order : (w : Branch → Bool) (p : ℕ) (t : Transaction) → IsSame w p t (order t)
unfolding order
same_order w p t = refl

same_rolls : (w : Branch → Bool) (p : ℕ) (asked : Bool) (t : Transaction) → IsSame w p t (begin_rolling asked t)
unfolding begin_rolling
same_rolls w p asked t = refl

pub rows_completed : (t : Transaction) → (complete_commit t).next.rows ≡ t.rows
unfolding complete_commit
rows_completed t = grind arith

pub rows_unrolled : (t : Transaction) → (complete_rollback t).next.rows ≡ t.rows
unfolding complete_rollback
rows_unrolled t = grind arith

pub rows_settled : (t : Transaction) → (settle t).next.rows ≡ t.rows
unfolding settle order
rows_settled t = grind arith

same_turns : (w : Branch → Bool) (p : ℕ) (hits : TxEvent → Bool) → IsMarking w p hits → (e : TxEvent) (s : Transaction) → hits e ≡ false → Turns e s (IsSame w p)
unfolding ask_commit leave count_branch end_branch branch_left
same_turns w p hits k e s off = record {
  still = λ t. refl;
  first = λ t u outs a one two. two ∙ one;
  chain = λ t a f one two none. two ∙ one;
  tells = λ t i n. refl;
  notes_prepare = λ pr h. refl;
  notes_done = λ is. refl;
  notes_end = λ q is. refl;
  notes_rollback = λ ro h. refl;
  defers_end = λ q is. row_same w p s q (λ r. record r { ends = true }) (λ r. refl) (λ r j. refl);
  defers_grant = λ q is. refl;
  prepares = λ q. row_same w p s q (λ r. record r { branch = record r.branch { prepared = true } }) (λ r. refl) (λ r j. k.prepared r.branch);
  asks = λ is act asked told. prepared_same w p k.prepared s.rows;
  asks_again = refl;
  decides = λ o is ready. refl;
  aborts = λ q is. lost_same w p s q;
  loses_arc = λ q gone. lost_same w p s q;
  closes_left = λ q is. row_same w p s q row_dead (λ r. refl) (λ r j. refl);
  gives_up = λ q r is c found. row_same w p s q (λ x. record x { branch = record x.branch { given_up = true }; live = false; ends = false }) (λ r. refl) (λ x j. k.given_up q x.branch (sym (ap hits is) ∙ off) j);
  counts = λ q is act row. row_same w p s q (λ r. record r { branch = record r.branch { counted = true } }) (λ r. refl) (λ x j. k.counted q x.branch (sym (ap hits is) ∙ off) j);
  ends_done = λ q r is c row. row_same w p s q (λ x. record x { branch = record x.branch { ended = true; report = r } }) (λ r. refl) (λ x j. k.done q r x.branch (sym (ap hits is) ∙ off) j);
  ends_replied = λ b v r is found o. row_same w p s v.branch.peer.node (λ x. record x { branch = record x.branch { ended = true; report = r } }) (λ r. refl) (λ x j. k.replied b r x.branch (sym (ap hits is) ∙ off));
  ends_rolled = λ q r is c row. row_same w p s q (λ x. record x { branch = record x.branch { ended = true; report = r } }) (λ r. refl) (λ x j. k.rolled q r x.branch (sym (ap hits is) ∙ off) j);
  leaves_below = λ q v t is left at act. row_same w p t q (λ x. record x { branch = record x.branch { left = true } }) (λ r. refl) (λ x j. k.left q v x.branch left (sym (ap hits is) ∙ off) j);
  leaves_rolling = λ q v t is left at c. row_same w p t q (λ x. record x { branch = record x.branch { ended = true; report = Report.None } }) (λ r. refl) (λ x j. k.left_late q v x.branch left (sym (ap hits is) ∙ off) j);
  votes = λ t act asked all under. refl;
  orders_root = λ t act asked all root. same_order w p t;
  orders_ready = λ ready is. same_order w p s;
  rolls = λ t asked f ok. same_rolls w p asked t;
  completes_commit = λ t c. ap (λ (rows : List Row). row_holds rows p w) (rows_completed t);
  completes_rollback = λ t c. ap (λ (rows : List Row). row_holds rows p w) (rows_unrolled t);
  leaves = λ is act under asked all. refl;
}

-- ---- of what is known of a node

pub left_marked : (w : Branch → Bool) (p : ℕ) (t : Transaction) (u : Current) → remaining t ≡ Some u → marked w p u ≡ row_holds t.rows p w
left_marked w p t u i = grind (arith, left_find, marked)

-- one more branch
pub more_same : (w : Branch → Bool) (p : ℕ) → ((c : Child) → w (fresh_branch c) ≡ false) → (rows : List Row) (c : Child) → row_holds (rows ++ fresh_rows (c ∷ [])) p w ≡ row_holds rows p w
more_same w p k [] c = go (c.addr.node == p)
  where
    x : Row
    x = record { branch = fresh_branch c; live = true; ends = false }

    go : (b : Bool) → elim (if b then Some x else None) as (λ _. Bool) [ None ↦ false | Some y ↦ w y.branch ] ≡ false
    go true = k c
    go false = refl
more_same w p k (r ∷ rows) c = go (r.branch.peer.node == p) (more_same w p k rows c)
  where
    go : (b : Bool) → row_holds (rows ++ fresh_rows (c ∷ [])) p w ≡ row_holds rows p w
        → elim (if b then Some r else find_row (rows ++ fresh_rows (c ∷ [])) p) as (λ _. Bool) [ None ↦ false | Some y ↦ w y.branch ] ≡ elim (if b then Some r else find_row rows p) as (λ _. Bool) [ None ↦ false | Some y ↦ w y.branch ]
    go true rest = refl
    go false rest = rest

-- a start names them again, as new ones
pub again_same : (w : Branch → Bool) (p : ℕ) → ((c : Child) → w (fresh_branch c) ≡ false) → (bs : List Branch) → elim (find_branch (named_again bs) p) as (λ _. Bool) [ None ↦ false | Some b ↦ w b ] ≡ false
again_same w p k [] = refl
again_same w p k (b ∷ bs) = go b.left (again_same w p k bs)
  where
    x : Branch
    x = fresh_branch (record { addr = b.peer; branch = b.id })

    on : (v : Bool) → elim (find_branch (named_again bs) p) as (λ _. Bool) [ None ↦ false | Some y ↦ w y ] ≡ false → elim (if v then Some x else find_branch (named_again bs) p) as (λ _. Bool) [ None ↦ false | Some y ↦ w y ] ≡ false
    on true rest = k (record { addr = b.peer; branch = b.id })
    on false rest = rest

    go : (v : Bool) → elim (find_branch (named_again bs) p) as (λ _. Bool) [ None ↦ false | Some y ↦ w y ] ≡ false → elim (find_branch (if v then named_again bs else x ∷ named_again bs) p) as (λ _. Bool) [ None ↦ false | Some y ↦ w y ] ≡ false
    go true rest = rest
    go false rest = on (b.peer.node == p) rest

-- ---- an event in which it is not touched

-- the event of the transaction that it asks for is one of these
abbrev pub hit_by : (TxEvent → Bool) → Event → Bool
hit_by hits (Event.Declare s) = false
hit_by hits (Event.Do r) = hits (TxEvent.User r)
hit_by hits (Event.Arrive from (PeerRecord.ShutAssoc x y)) = hits (TxEvent.Lost from.node)
hit_by hits (Event.Arrive from (PeerRecord.OnAssoc x y q r)) = hits (TxEvent.Took from.node r)
hit_by hits (Event.Arrive from (PeerRecord.RecCommit t b)) = hits TxEvent.Ordered
hit_by hits (Event.Arrive from (PeerRecord.RecReply t b s)) = hits (TxEvent.Reply b s)
hit_by hits (Event.Arrive from r) = false
hit_by hits (Event.Break from r) = hits (TxEvent.Lost from.node)
hit_by hits (Event.Lose p) = hits (TxEvent.Lost p)
hit_by hits (Event.Heur o) = hits (TxEvent.Heur o)
hit_by hits (Event.GiveUp p) = hits (TxEvent.GiveUp p)
hit_by hits Event.Retry = hits TxEvent.Retry
hit_by hits Event.Purge = false
hit_by hits Event.Crash = false

pub hits_so : (hits : TxEvent → Bool) (e : Event) (c : Current) (f : TxEvent) → IsAsked e c f → hit_by hits e ≡ false → hits f ≡ false
hits_so hits e c f h1 h2 = grind arith

pub seen_marked : (w : Branch → Bool) (p : ℕ) (who : Who) (arcs : List Arc) (c : Current) → row_holds (seen who arcs c).rows p w ≡ marked w p c
seen_marked w p who arcs c = seen_holds arcs c.branches p w

pub unmarked : (w : Branch → Bool) (p : ℕ) (hits : TxEvent → Bool) → IsMarking w p hits → (e : Event) → hit_by hits e ≡ false → IsRaised none_told (marked w p) always e true
unmarked w p hits k e off = record {
  fresh = λ key. (refl, tt);
  begun = λ who arcs c u child inv is. (left_marked w p (transacted (TxEvent.Begun (child ∷ [])) (seen who arcs c)).next u is ∙ more_same w p k.fresh (seen_rows arcs c.branches) child ∙ seen_marked w p who arcs c, tt);
  turn = λ who arcs c u f inv asked put is.
      let t : Transaction = seen who arcs c in
      (left_marked w p (transacted f t).next u is ∙ every_turn f t (IsSame w p) (same_turns w p hits k f t (hits_so hits e c f asked off)) put ∙ seen_marked w p who arcs c ∙ sym (ap (λ (b : Bool). b || marked w p c) (silent (transacted f t).outs)), tt);
  tells = λ who arcs c f inv asked put told. refl;
  spoken = λ i h. refl;
}
  where
    silent : (outs : List TxOut) → asks_tell none_told outs ≡ false
    silent [] = refl
    silent (o ∷ outs) = let rest = silent outs in grind (arith, rest)
