-- What a transaction takes is heeded, and what is noted of a branch stays: the second is an instance of the steps of a turn.
use Rattle.std.proofs.Common.{if◌then◌else◌, ◌≡◌, ℕ, Bool, true, false, refl, ap, sym, ◌∙◌, arith, Option, Some, None, List, [], ◌&&◌, ◌||◌, ◌==◌, not}
use Rattle.std.proofs.lemmas.Bool.Decides.{nat_tests}
use Rattle.tp_names.specs.declared.identifiers.BranchId.{BranchId}
use Rattle.tp_names.specs.declared.outcome.Report.{Report}
use Rattle.tp_records.specs.declared.dialogue.DialogueRecord.{DialogueRecord}
use Rattle.tp_records.specs.declared.peer.RecState.{RecState}
use Rattle.tp_model.specs.declared.transaction.TxEvent.{TxEvent}
use Rattle.tp_model.specs.Parts.{Branch}
use Rattle.tp_model.specs.Dialogues.{is_active, is_ready, is_committing, is_rolling, Sight, Acts, Nothing_happens, Out_of_phase}
use Rattle.tp_model.specs.Transactions.{Row, Transaction, Turn, turn, and_then, is_under_at, find_row, find_row_by_id, row_holds, with_row, with_arc_lost, complete_commit, complete_rollback, begin_rolling, order, settle, ask_commit, leave, count_branch, end_branch, branch_left, takes_left, takes, sight_of_tx, refused_tx, is_open_in_commit, transacted}
use Rattle.tp_steps.specs.Turns.{Turns, row_dead}
use Rattle.tp_steps.specs.Moves.{IsPut}
use Rattle.tp_steps.specs.Heeding.{is_answer, has_answered, has_ended, IsHeeding}
use Rattle.tp_steps.proofs.words.Fair.{row_phase, row_with}
use Rattle.tp_steps.proofs.words.Leaves.{prepare_row}
use Rattle.tp_steps.proofs.every.EveryTurn.{every_turn}

-- ---- what is noted of a branch stays

-- no rule takes it back
record IsLasting (f : Branch → Bool) : Type 0 where
  prepared : (b : Branch) → f b ≡ true → f (record b { prepared = true }) ≡ true
  counted : (b : Branch) → f b ≡ true → f (record b { counted = true }) ≡ true
  left : (b : Branch) → f b ≡ true → f (record b { left = true }) ≡ true
  ended : (r : Report) (b : Branch) → f b ≡ true → f (record b { ended = true; report = r }) ≡ true
  given_up : (b : Branch) → f b ≡ true → f (record b { given_up = true }) ≡ true

abbrev Grows : (Branch → Bool) → Transaction → Transaction → Type 0
Grows f t u = (p : ℕ) → row_holds t.rows p f ≡ true → row_holds u.rows p f ≡ true

grows_same : (f : Branch → Bool) (t u : Transaction) → u.rows ≡ t.rows → Grows f t u
grows_same f t u same p h = ap (λ (rs : List Row). row_holds rs p f) same ∙ h

grows_row : (f : Branch → Bool) (t : Transaction) (q : ℕ) (g : Row → Row) → ((r : Row) → (g r).branch.peer.node ≡ r.branch.peer.node) → ((r : Row) → f r.branch ≡ true → f (g r).branch ≡ true)
    → Grows f t (with_row t q g)
grows_row f t q g peer keeps p h = go (q == p) refl (find_row t.rows p) refl
  where
    now : row_holds (with_row t q g).rows p f ≡ elim (if q == p then elim (find_row t.rows p) as (λ _. Option Row) [ None ↦ None | Some r ↦ Some (g r) ] else find_row t.rows p) as (λ _. Bool) [ None ↦ false | Some r ↦ f r.branch ]
    now = ap (λ (o : Option Row). elim o as (λ _. Bool) [ None ↦ false | Some r ↦ f r.branch ]) (row_with t q g p peer)

    go : (b : Bool) → (q == p) ≡ b → (o : Option Row) → find_row t.rows p ≡ o → row_holds (with_row t q g).rows p f ≡ true
    go b i None j = absurd (grind (arith, h, j))
    go false i (Some r) j = now ∙ rw (i) h
    go true i (Some r) j = let was : f r.branch ≡ true = rw (j, row_holds) at h in now ∙ rw (i, j) (keeps r was)

grows_lost : (f : Branch → Bool) (t : Transaction) (q : ℕ) → Grows f t (with_arc_lost t q)
grows_lost f t q = go (is_under_at t.key q) refl
  where
    go : (b : Bool) → is_under_at t.key q ≡ b → Grows f t (with_arc_lost t q)
    go true i = grows_same f t (with_arc_lost t q) (rw (i, with_arc_lost) refl)
    go false i = rw (i, with_arc_lost) (grows_row f t q row_dead (λ r. refl) (λ r h. h))

grows_ask : (f : Branch → Bool) → IsLasting f → (t : Transaction) → Grows f t (ask_commit t).next
unfolding ask_commit
grows_ask f k t p h = go (find_row t.rows p) refl
  where
    go : (o : Option Row) → find_row t.rows p ≡ o → row_holds (ask_commit t).next.rows p f ≡ true
    go None i = absurd (grind (arith, h, i))
    go (Some r) i =
        let was : f r.branch ≡ true = rw (i, row_holds) at h in
        let now : find_row (ask_commit t).next.rows p ≡ Some (record r { branch = record r.branch { prepared = true } }) = prepare_row p t.rows ∙ rw i refl in
        ap (λ (o : Option Row). elim o as (λ _. Bool) [ None ↦ false | Some w ↦ f w.branch ]) now ∙ k.prepared r.branch was

grows_count : (f : Branch → Bool) → IsLasting f → (t : Transaction) (q : ℕ) → Grows f t (count_branch q t).next
unfolding count_branch
grows_count f k t q = grows_row f t q (λ r. record r { branch = record r.branch { counted = true } }) (λ r. refl) (λ r. k.counted r.branch)

grows_end : (f : Branch → Bool) → IsLasting f → (t : Transaction) (q : ℕ) (x : Report) → Grows f t (end_branch q x t).next
unfolding end_branch
grows_end f k t q x = grows_row f t q (λ r. record r { branch = record r.branch { ended = true; report = x } }) (λ r. refl) (λ r. k.ended x r.branch)

grows_left : (f : Branch → Bool) → IsLasting f → (t : Transaction) (q : ℕ) → Grows f t (branch_left q t).next
unfolding branch_left
grows_left f k t q = grows_row f t q (λ r. record r { branch = record r.branch { left = true } }) (λ r. refl) (λ r. k.left r.branch)

rows_order : (t : Transaction) → (order t).next.rows ≡ t.rows
unfolding order
rows_order t = refl

rows_rolling : (asked : Bool) (t : Transaction) → (begin_rolling asked t).next.rows ≡ t.rows
unfolding begin_rolling
rows_rolling asked t = refl

rows_commit : (t : Transaction) → (complete_commit t).next.rows ≡ t.rows
unfolding complete_commit
rows_commit t = grind arith

pub rows_rollback : (t : Transaction) → (complete_rollback t).next.rows ≡ t.rows
unfolding complete_rollback
rows_rollback t = grind arith

rows_leave : (t : Transaction) → (leave t).next.rows ≡ t.rows
unfolding leave
rows_leave t = refl

pub rows_settle : (t : Transaction) → (settle t).next.rows ≡ t.rows
unfolding settle order
rows_settle t = grind arith

grows_turns : (f : Branch → Bool) → IsLasting f → (e : TxEvent) (s : Transaction) → Turns e s (λ t a. Grows f t a.next)
grows_turns f k e s = record {
  still = λ t p h. h;
  first = λ t u outs a one two p h. two p (one p h);
  chain = λ t a g one two quiet p h. two p (one p h);
  tells = λ t i n p h. h;
  notes_prepare = λ pr c p h. h;
  notes_done = λ is p h. h;
  notes_end = λ q is p h. h;
  notes_rollback = λ ro c p h. h;
  defers_end = λ q is. grows_row f s q (λ r. record r { ends = true }) (λ r. refl) (λ r h. h);
  defers_grant = λ q is p h. h;
  prepares = λ q. grows_row f s q (λ r. record r { branch = record r.branch { prepared = true } }) (λ r. refl) (λ r. k.prepared r.branch);
  asks = λ is act n told. grows_ask f k s;
  asks_again = λ p h. h;
  decides = λ o is ready p h. h;
  aborts = λ q is. grows_lost f s q;
  loses_arc = λ q l. grows_lost f s q;
  closes_left = λ q is. grows_row f s q row_dead (λ r. refl) (λ r h. h);
  gives_up = λ q r is c found. grows_row f s q (λ w. record w { branch = record w.branch { given_up = true }; live = false; ends = false }) (λ w. refl) (λ w. k.given_up w.branch);
  counts = λ q is act h. grows_count f k s q;
  ends_done = λ q x is c h. grows_end f k s q x;
  ends_replied = λ b w x is found open_now. grows_end f k s w.branch.peer.node x;
  ends_rolled = λ q x is c h. grows_end f k s q x;
  leaves_below = λ q w t is left at act. grows_left f k t q;
  leaves_rolling = λ q w t is left at act. grows_end f k t q Report.None;
  votes = λ t act asked all under p h. h;
  orders_root = λ t act asked all under. grows_same f t (order t).next (rows_order t);
  orders_ready = λ ready is. grows_same f s (order s).next (rows_order s);
  rolls = λ t asked fall ok. grows_same f t (begin_rolling asked t).next (rows_rolling asked t);
  completes_commit = λ t c. grows_same f t (complete_commit t).next (rows_commit t);
  completes_rollback = λ t c. grows_same f t (complete_rollback t).next (rows_rollback t);
  leaves = λ is act under asked all. grows_same f s (leave s).next (rows_leave s);
}

answer_lasts : IsLasting has_answered
answer_lasts = record { prepared = λ b h. h; counted = λ b h. refl; left = λ b h. grind arith; ended = λ r b h. h; given_up = λ b h. h }

end_lasts : IsLasting has_ended
end_lasts = record { prepared = λ b h. h; counted = λ b h. h; left = λ b h. grind arith; ended = λ r b h. refl; given_up = λ b h. h }

-- ---- what is taken

-- a row that is there, changed in its branch
pub marked : (f : Branch → Bool) (t : Transaction) (p : ℕ) (g : Row → Row) → ((r : Row) → (g r).branch.peer.node ≡ r.branch.peer.node) → ((r : Row) → f (g r).branch ≡ true)
    → row_holds t.rows p (λ b. true) ≡ true → row_holds (with_row t p g).rows p f ≡ true
marked f t p g peer is there = go (find_row t.rows p) refl
  where
    same : (p == p) ≡ true
    same = grind (arith, nat_tests)

    go : (o : Option Row) → find_row t.rows p ≡ o → row_holds (with_row t p g).rows p f ≡ true
    go None i = absurd (grind (arith, there, i))
    go (Some r) i =
        let now : find_row (with_row t p g).rows p ≡ Some (g r) = row_with t p g p peer ∙ rw (same, i) refl in
        ap (λ (o : Option Row). elim o as (λ _. Bool) [ None ↦ false | Some w ↦ f w.branch ]) now ∙ is r

counts_it : (t : Transaction) (p : ℕ) → row_holds t.rows p (λ b. true) ≡ true → row_holds (count_branch p t).next.rows p has_answered ≡ true
unfolding count_branch
counts_it t p there = marked has_answered t p (λ r. record r { branch = record r.branch { counted = true } }) (λ r. refl) (λ r. refl) there

lets_it_leave : (t : Transaction) (p : ℕ) → row_holds t.rows p (λ b. true) ≡ true → row_holds (branch_left p t).next.rows p has_answered ≡ true
unfolding branch_left
lets_it_leave t p there = marked has_answered t p (λ r. record r { branch = record r.branch { left = true } }) (λ r. refl) (λ r. grind arith) there

ends_it : (t : Transaction) (p : ℕ) (x : Report) → row_holds t.rows p (λ b. true) ≡ true → row_holds (end_branch p x t).next.rows p has_ended ≡ true
unfolding end_branch
ends_it t p x there = marked has_ended t p (λ r. record r { branch = record r.branch { ended = true; report = x } }) (λ r. refl) (λ r. refl) there

pub some_there : (rows : List Row) (p : ℕ) (f : Branch → Bool) → row_holds rows p f ≡ true → row_holds rows p (λ b. true) ≡ true
some_there rows p f h = go (find_row rows p) refl
  where
    go : (o : Option Row) → find_row rows p ≡ o → row_holds rows p (λ b. true) ≡ true
    go None i = absurd (grind (arith, h, i))
    go (Some r) i = rw (i, row_holds) refl

takes_it : (s : Transaction) (p : ℕ) (w : DialogueRecord) → sight_of_tx s p w ≡ Acts → transacted (TxEvent.Took p w) s ≡ takes p w s
takes_it s p w h = ap (λ (g : Sight). elim g as (λ _. Turn) [ Acts ↦ takes p w s | Nothing_happens ↦ turn [] s | Out_of_phase ↦ turn [] s ]) h

abbrev Heeded : Transaction → ℕ → Turn → Type 0
Heeded s p a = (is_active s.phase ≡ true) × (row_holds a.next.rows p has_answered ≡ true)

left_next : (t : Transaction) (p : ℕ) → is_active t.phase ≡ true → row_holds t.rows p (λ b. true) ≡ true → row_holds (takes_left p t).next.rows p has_answered ≡ true
left_next t p act there =
    let same : takes_left p t ≡ and_then (branch_left p t) settle = rw (act, takes_left) refl in
    ap (λ (a : Turn). row_holds a.next.rows p has_answered) same ∙ ap (λ (rs : List Row). row_holds rs p has_answered) (rows_settle (branch_left p t).next) ∙ lets_it_leave t p there

heeds_answer : (s : Transaction) (p : ℕ) (w : DialogueRecord) → is_answer w ≡ true → refused_tx (TxEvent.Took p w) s ≡ None → is_rolling s.phase ≡ false → Heeded s p (transacted (TxEvent.Took p w) s)
unfolding refused_tx sight_of_tx
heeds_answer s p DialogueRecord.Ready is ok still =
    let act : is_active s.phase ≡ true = grind (arith, ok, still) in
    let row : row_holds s.rows p (λ b. b.prepared && not b.counted) ≡ true = grind (arith, ok, still) in
    let acts : sight_of_tx s p DialogueRecord.Ready ≡ Acts = grind (arith, act, row) in
    (act, ap (λ (a : Turn). row_holds a.next.rows p has_answered) (takes_it s p DialogueRecord.Ready acts) ∙ ap (λ (rs : List Row). row_holds rs p has_answered) (rows_settle (count_branch p s).next) ∙ counts_it s p (some_there s.rows p _ row))
heeds_answer s p DialogueRecord.Left is ok still =
    let row : row_holds s.rows p (λ b. is_active s.phase && b.prepared && not b.counted && not b.left || is_rolling s.phase && not b.ended && not b.left) ≡ true = grind (arith, ok) in
    let act : is_active s.phase ≡ true = grind (arith, row, still) in
    let acts : sight_of_tx s p DialogueRecord.Left ≡ Acts = grind (arith, row) in
    (act, ap (λ (a : Turn). row_holds a.next.rows p has_answered) (takes_it s p DialogueRecord.Left acts) ∙ left_next s p act (some_there s.rows p _ row))
heeds_answer s p DialogueRecord.LeftEnd is ok still =
    let row : row_holds s.rows p (λ b. is_active s.phase && b.prepared && not b.counted && not b.left || is_rolling s.phase && not b.ended && not b.left) ≡ true = grind (arith, ok) in
    let act : is_active s.phase ≡ true = grind (arith, row, still) in
    let acts : sight_of_tx s p DialogueRecord.LeftEnd ≡ Acts = grind (arith, row) in
    let t : Transaction = with_row s p row_dead in
    let there : row_holds t.rows p (λ b. true) ≡ true = marked (λ b. true) s p row_dead (λ r. refl) (λ r. refl) (some_there s.rows p _ row) in
    (act, ap (λ (a : Turn). row_holds a.next.rows p has_answered) (takes_it s p DialogueRecord.LeftEnd acts) ∙ left_next t p (ap is_active (row_phase s p row_dead) ∙ act) there)
heeds_answer s p w is ok still = absurd (cc (is))

heeds_order : (s : Transaction) (p : ℕ) → refused_tx (TxEvent.Took p DialogueRecord.Commit) s ≡ None → is_under_at s.key p ≡ true → (is_active s.phase || is_ready s.phase) ≡ true
    → (is_ready s.phase ≡ true) × (is_committing (transacted (TxEvent.Took p DialogueRecord.Commit) s).next.phase ≡ true)
unfolding refused_tx sight_of_tx order
heeds_order s p ok under early =
    let ready : is_ready s.phase ≡ true = grind (arith, ok, under, early) in
    let acts : sight_of_tx s p DialogueRecord.Commit ≡ Acts = grind (arith, ready, under) in
    (ready, ap (λ (a : Turn). is_committing a.next.phase) (takes_it s p DialogueRecord.Commit acts))

closed_there : (rows : List Row) (p : ℕ) → row_holds rows p (λ b. true) ≡ true → row_holds rows p (λ b. not b.ended && not b.left) ≡ false → row_holds rows p has_ended ≡ true
closed_there rows p there h = go (find_row rows p) refl
  where
    go : (o : Option Row) → find_row rows p ≡ o → row_holds rows p has_ended ≡ true
    go None i = absurd (grind (arith, there, i))
    go (Some r) i = grind (arith, h, i)

heeds_done : (s : Transaction) (p : ℕ) (r : Report) → is_committing s.phase ≡ true → row_holds s.rows p (λ b. true) ≡ true → row_holds (transacted (TxEvent.Took p (DialogueRecord.Done r)) s).next.rows p has_ended ≡ true
unfolding sight_of_tx
heeds_done s p r c there = go (row_holds s.rows p (λ b. not b.ended && not b.left)) refl
  where
    go : (b : Bool) → row_holds s.rows p (λ b. not b.ended && not b.left) ≡ b → row_holds (transacted (TxEvent.Took p (DialogueRecord.Done r)) s).next.rows p has_ended ≡ true
    go true i =
        let acts : sight_of_tx s p (DialogueRecord.Done r) ≡ Acts = grind (arith, c, i) in
        ap (λ (a : Turn). row_holds a.next.rows p has_ended) (takes_it s p (DialogueRecord.Done r) acts) ∙ ap (λ (rs : List Row). row_holds rs p has_ended) (rows_commit (end_branch p r s).next) ∙ ends_it s p r there
    go false i =
        let quiet : sight_of_tx s p (DialogueRecord.Done r) ≡ Nothing_happens = grind (arith, c, i) in
        ap (λ (g : Sight). row_holds (elim g as (λ _. Turn) [ Acts ↦ takes p (DialogueRecord.Done r) s | Nothing_happens ↦ turn [] s | Out_of_phase ↦ turn [] s ]).next.rows p has_ended) quiet ∙ closed_there s.rows p there i

heeds_reply : (s : Transaction) (b : BranchId) (r : Report) (w : Row) → is_committing s.phase ≡ true → find_row_by_id s.rows b ≡ Some w → find_row s.rows w.branch.peer.node ≡ Some w
    → row_holds (transacted (TxEvent.Reply b (RecState.Done r)) s).next.rows w.branch.peer.node has_ended ≡ true
heeds_reply s b r w c found at = go (is_open_in_commit s w.branch) refl
  where
    p : ℕ
    p = w.branch.peer.node

    there : row_holds s.rows p (λ x. true) ≡ true
    there = rw (at, row_holds) refl

    is : (v : Bool) → is_open_in_commit s w.branch ≡ v → transacted (TxEvent.Reply b (RecState.Done r)) s ≡ (if v then and_then (end_branch p r s) complete_commit else turn [] s)
    is v i =
        ap (λ (o : Option Row). elim o as (λ _. Turn) [ None ↦ turn [] s | Some x ↦ if is_open_in_commit s x.branch then and_then (end_branch x.branch.peer.node r s) complete_commit else turn [] s ]) found
        ∙ ap (λ (u : Bool). if u then and_then (end_branch p r s) complete_commit else turn [] s) i

    go : (v : Bool) → is_open_in_commit s w.branch ≡ v → row_holds (transacted (TxEvent.Reply b (RecState.Done r)) s).next.rows p has_ended ≡ true
    go true i =
        ap (λ (a : Turn). row_holds a.next.rows p has_ended) (is true i) ∙ ap (λ (rs : List Row). row_holds rs p has_ended) (rows_commit (end_branch p r s).next) ∙ ends_it s p r there
    go false i =
        let over : has_ended w.branch ≡ true = grind (arith, i, c) in
        let stays : row_holds s.rows p has_ended ≡ true = rw (at, row_holds) over in
        ap (λ (a : Turn). row_holds a.next.rows p has_ended) (is false i) ∙ stays

-- ---- every event

pub heeding_event : (e : TxEvent) (s : Transaction) → IsPut e s → IsHeeding e s (transacted e s)
heeding_event e s put = record {
  answers = λ p w is word ok still. let same = is in rw same (heeds_answer s p w word (ap (λ (f : TxEvent). refused_tx f s) (sym same) ∙ ok) still);
  orders = λ p is ok under early. let same = is in rw same (heeds_order s p (ap (λ (f : TxEvent). refused_tx f s) (sym same) ∙ ok) under early);
  ends = λ p r is c there. let same = is in rw same (heeds_done s p r c there);
  replies = λ b r w is c found at. let same = is in rw same (heeds_reply s b r w c found at);
  answered = every_turn e s (λ t a. Grows has_answered t a.next) (grows_turns has_answered answer_lasts e s) put;
  ended = every_turn e s (λ t a. Grows has_ended t a.next) (grows_turns has_ended end_lasts e s) put;
}
