-- What a rollback waits for stays linked, in every event that ends no association: by the steps of a turn, and of a node.
use Rattle.tp_history_state.proofs.Vocabulary.{if◌then◌else◌, ◌≡◌, ℕ, Bool, true, false, refl, ap, sym, ◌∙◌, arith, Option, Some, None, List, [], ◌∷◌, ◌&&◌, ◌||◌, ◌==◌, not, and-false, nat_tests, Request, TxEvent, TxOut, Phase, Who, Event, Arc, Key, Root, Under, Branch, Current, Digest, is_nil, is_active, is_rolling, is_live, find_arc, link_with, is_live_with_peer, with_dialogue, with_mark_drawn, performed, Row, Transaction, Turn, is_under_at, find_row, put_row, with_row, with_arc_lost, all_prepared, transacted, leave, order, ask_commit, count_branch, branch_left, end_branch, begin_rolling, complete_commit, complete_rollback, settled, Move, perform, may_begin_on, fresh_current, seen, seen_row, seen_rows, branches_of, remaining, turned, keep, begin_on, try_start, entered, passage, is_leaving, Passage, Steps, IsPut, Turns, are_apart, closes_at, asks_tell, count_to, left_is, left_branches, apart_spoken, apart_turn, link_dialogue, link_entered, settled_spoken, step_start, every_turn, whole_turn, row_is, row_dead}
use Rattle.tp_model.specs.Node.{is_up_live}
use Rattle.tp_model.specs.Transactions.{all_rolled_back}
use Rattle.tp_steps.specs.Steps.{next_tree}
use Rattle.tp_steps.specs.Undone.{may_roll_back}
use Rattle.tp_steps.proofs.lemmas.Options.{some_same}
use Rattle.tp_steps.proofs.branches.Undone.{prompt_event}
use Rattle.tp_history_state.proofs.passages.Passage.{is_committed_told, ends, passage_turn}
use Rattle.tp_history_state.proofs.prepares.Pending.{more_live}
use Rattle.tp_history_state.proofs.links.Shuts.{shuts_in, shuts_performed, shuts_played, ends_at, closes_by, closing_turn}
use Rattle.tp_history_state.proofs.links.Linked.{closes_so, unshut_said, unshut_settled}
use Rattle.tp_history_state.proofs.lemmas.Begins.{next_child, begun_over, begins_so}
use Rattle.tp_finishing.specs.Waiting.{has_open_at, is_awaited, WaitsFor, Waits}

-- ---- a peer that is awaited, and linked, holds a rollback back

open_blocks : (xs : List Arc) (bs : List Branch) (p : ℕ) → is_live_with_peer xs p ≡ true → has_open_at bs p ≡ true → all_rolled_back (seen_rows xs bs) ≡ false
open_blocks xs [] p live h = absurd (cc (h))
open_blocks xs (b ∷ bs) p live h = go ((b.peer.node == p) && not (b.ended || b.left)) refl h (open_blocks xs bs p live)
  where
    here : (e l v r : Bool) → (e || l) ≡ false → v ≡ true → ((e || l || not (v && not (e || l))) && r) ≡ false
    here e l v r i j = grind (arith, i, j)

    go : (k : Bool) → ((b.peer.node == p) && not (b.ended || b.left)) ≡ k → (k || has_open_at bs p) ≡ true → (has_open_at bs p ≡ true → all_rolled_back (seen_rows xs bs) ≡ false) → all_rolled_back (seen_rows xs (b ∷ bs)) ≡ false
    go true i k rest =
        let at : p ≡ b.peer.node = grind (arith, nat_tests, i) in
        here b.ended b.left (is_live_with_peer xs b.peer.node) (all_rolled_back (seen_rows xs bs)) (grind (arith, i)) (ap (is_live_with_peer xs) (sym at) ∙ live)
    go false i k rest = rw (rest k) (and-false (b.ended || b.left || not (seen_row xs b).live))

pub awaited_blocks : (who : Who) (xs : List Arc) (c : Current) (p : ℕ) → is_live_with_peer xs p ≡ true → is_awaited c p ≡ true → may_roll_back (seen who xs c) ≡ false
awaited_blocks who xs c p live h = go (has_open_at c.branches p) refl h
  where
    by_rows : (x y r s : Bool) → r ≡ false → (x && y && r && s) ≡ false
    by_rows x y r s i = grind (arith, i)

    by_up : (x y r s u : Bool) → s ≡ false → u ≡ true → (x && y && r && (s || not u)) ≡ false
    by_up x y r s u i j = grind (arith, i, j)

    up : (k : Key) → is_under_at k p ≡ true → is_up_live xs k ≡ true
    up (Root t) i = absurd (cc (i))
    up (Under t b a) i = let at : p ≡ a.node = grind (arith, nat_tests, i) in ap (is_live_with_peer xs) (sym at) ∙ live

    go : (b : Bool) → has_open_at c.branches p ≡ b → (b || (is_under_at c.key p && not c.superior_rolled)) ≡ true → may_roll_back (seen who xs c) ≡ false
    go true i k = by_rows (is_rolling c.phase) (not c.owes) (all_rolled_back (seen_rows xs c.branches)) (c.superior_rolled || not (is_up_live xs c.key)) (open_blocks xs c.branches p live i)
    go false i k = by_up (is_rolling c.phase) (not c.owes) (all_rolled_back (seen_rows xs c.branches)) c.superior_rolled (is_up_live xs c.key) (grind (arith, k)) (up c.key (grind (arith, k)))

-- ---- rows that are open, and live

abbrev pub is_linked : Row → Bool
is_linked r = r.live && not (r.branch.ended || r.branch.left)

abbrev pub any_live : ℕ → List Row → Bool
any_live p [] = false
any_live p (r ∷ rs) = ((r.branch.peer.node == p) && is_linked r) || any_live p rs

-- a rollback that is not complete has one
waiting_row : (rows : List Row) → all_rolled_back rows ≡ false → (p : ℕ) × (any_live p rows ≡ true) × (has_open_at (branches_of rows) p ≡ true)
waiting_row [] h = absurd (cc (h))
waiting_row (r ∷ rs) h = go (r.branch.ended || r.branch.left || not r.live) refl h (waiting_row rs)
  where
    self : (r.branch.peer.node == r.branch.peer.node) ≡ true
    self = grind (arith, nat_tests)

    live : (a e l v s : Bool) → a ≡ true → (e || l || not v) ≡ false → (((a && (v && not (e || l))) || s) ≡ true) × (((a && not (e || l)) || s) ≡ true)
    live a e l v s i j = (grind (arith, i, j), grind (arith, i, j))

    or_rest : (a s : Bool) → s ≡ true → (a || s) ≡ true
    or_rest a s i = grind (arith, i)

    go : (b : Bool) → (r.branch.ended || r.branch.left || not r.live) ≡ b → (b && all_rolled_back rs) ≡ false
        → (all_rolled_back rs ≡ false → (p : ℕ) × (any_live p rs ≡ true) × (has_open_at (branches_of rs) p ≡ true)) → (p : ℕ) × (any_live p (r ∷ rs) ≡ true) × (has_open_at (branches_of (r ∷ rs)) p ≡ true)
    go false i k rest = (
      r.branch.peer.node,
      (live (r.branch.peer.node == r.branch.peer.node) r.branch.ended r.branch.left r.live (any_live r.branch.peer.node rs) self i).0,
      (live (r.branch.peer.node == r.branch.peer.node) r.branch.ended r.branch.left r.live (has_open_at (branches_of rs) r.branch.peer.node) self i).1,
    )
    go true i k rest =
        let w = rest k in
        (w.0, or_rest ((r.branch.peer.node == w.0) && is_linked r) (any_live w.0 rs) w.1, or_rest ((r.branch.peer.node == w.0) && not (r.branch.ended || r.branch.left)) (has_open_at (branches_of rs) w.0) w.2)

pub seen_live : (arcs : List Arc) (bs : List Branch) (p : ℕ) → any_live p (seen_rows arcs bs) ≡ true → is_live_with_peer arcs p ≡ true
seen_live arcs [] p h = absurd (cc (h))
seen_live arcs (b ∷ bs) p h = go ((b.peer.node == p) && is_linked (seen_row arcs b)) refl h (seen_live arcs bs p)
  where
    go : (k : Bool) → ((b.peer.node == p) && is_linked (seen_row arcs b)) ≡ k → (k || any_live p (seen_rows arcs bs)) ≡ true → (any_live p (seen_rows arcs bs) ≡ true → is_live_with_peer arcs p ≡ true) → is_live_with_peer arcs p ≡ true
    go true i k rest =
        let at : b.peer.node ≡ p = grind (arith, nat_tests, i) in
        let live : is_live_with_peer arcs b.peer.node ≡ true = grind (arith, i) in
        ap (is_live_with_peer arcs) (sym at) ∙ live
    go false i k rest = rest k

-- ---- rows lose that alone

put_live : (p : ℕ) (rows : List Row) (q : ℕ) (r n : Row) → find_row rows q ≡ Some r → n.branch.peer.node ≡ r.branch.peer.node → (is_linked n ≡ true → is_linked r ≡ true) → any_live p (put_row rows n) ≡ true → any_live p rows ≡ true
put_live p [] q r n found peer less h = absurd (cc (h))
put_live p (w ∷ rows) q r n found peer less h = go (w.branch.peer.node == n.branch.peer.node) refl (w.branch.peer.node == q) refl h (put_live p rows q r n)
  where
    at_row : r.branch.peer.node ≡ q
    at_row = row_is (w ∷ rows) q r found

    front : (a x y s : Bool) → (x ≡ true → y ≡ true) → ((a && x) || s) ≡ true → ((a && y) || s) ≡ true
    front a true y s i k = rw (i refl) k
    front a false y true i k = grind arith
    front a false y false i k = absurd (grind (arith, k))

    behind : (a s t : Bool) → (s ≡ true → t ≡ true) → (a || s) ≡ true → (a || t) ≡ true
    behind true s t i k = refl
    behind false s t i k = i k

    go : (u : Bool) → (w.branch.peer.node == n.branch.peer.node) ≡ u → (v : Bool) → (w.branch.peer.node == q) ≡ v → any_live p (if u then n ∷ rows else w ∷ put_row rows n) ≡ true
        → (find_row rows q ≡ Some r → n.branch.peer.node ≡ r.branch.peer.node → (is_linked n ≡ true → is_linked r ≡ true) → any_live p (put_row rows n) ≡ true → any_live p rows ≡ true)
        → any_live p (w ∷ rows) ≡ true
    go true i true j k rest =
        let same : w ≡ r = some_same w r (rw j at found) in
        let peer_w : n.branch.peer.node ≡ w.branch.peer.node = peer ∙ ap (λ (x : Row). x.branch.peer.node) (sym same) in
        front (w.branch.peer.node == p) (is_linked n) (is_linked w) (any_live p rows) (λ l. ap is_linked same ∙ less l) (ap (λ (m : ℕ). ((m == p) && is_linked n) || any_live p rows) (sym peer_w) ∙ k)
    go true i false j k rest = absurd (let on : (w.branch.peer.node == q) ≡ true = ap (λ (m : ℕ). w.branch.peer.node == m) (sym at_row ∙ sym peer) ∙ i in cc (on, j))
    go false i true j k rest = absurd (let on : (w.branch.peer.node == n.branch.peer.node) ≡ true = ap (λ (m : ℕ). w.branch.peer.node == m) (peer ∙ at_row) ∙ j in cc (on, i))
    go false i false j k rest = behind ((w.branch.peer.node == p) && is_linked w) (any_live p (put_row rows n)) (any_live p rows) (rest (rw j at found) peer less) k

-- what a rule leaves of a transaction: its key, and no more links than there were
pub record Fewer (t u : Transaction) : Type 0 where
  pub key : u.key ≡ t.key
  pub up : u.up ≡ true → t.up ≡ true
  pub rows : (p : ℕ) → any_live p u.rows ≡ true → any_live p t.rows ≡ true

fewer_same : (t u : Transaction) → u.key ≡ t.key → u.up ≡ t.up → u.rows ≡ t.rows → Fewer t u
fewer_same t u key up rows = record { key = key; up = λ h. sym up ∙ h; rows = λ p h. ap (any_live p) (sym rows) ∙ h }

pub fewer_then : (t u v : Transaction) → Fewer t u → Fewer u v → Fewer t v
fewer_then t u v one two = record { key = two.key ∙ one.key; up = λ h. one.up (two.up h); rows = λ p h. one.rows p (two.rows p h) }

fewer_row : (t : Transaction) (q : ℕ) (f : Row → Row) → ((r : Row) → (f r).branch.peer.node ≡ r.branch.peer.node) → ((r : Row) → is_linked (f r) ≡ true → is_linked r ≡ true) → Fewer t (with_row t q f)
fewer_row t q f peer less = go (find_row t.rows q) refl
  where
    go : (o : Option Row) → find_row t.rows q ≡ o → Fewer t (elim o as (λ _. Transaction) [ None ↦ t | Some r ↦ record t { rows = put_row t.rows (f r) } ])
    go None i = fewer_same t t refl refl refl
    go (Some r) i = record { key = refl; up = λ h. h; rows = λ p h. put_live p t.rows q r (f r) i (peer r) (less r) h }

fewer_lost : (t : Transaction) (q : ℕ) → Fewer t (with_arc_lost t q)
fewer_lost t q = go (is_under_at t.key q)
  where
    dead : (b : Bool) → (false && b) ≡ true → ⊥
    dead b i = cc (i)

    go : (b : Bool) → Fewer t (if b then record t { up = false; up_ends = false } else with_row t q row_dead)
    go true = record { key = refl; up = λ h. absurd (cc (h)); rows = λ p h. h }
    go false = fewer_row t q row_dead (λ r. refl) (λ r h. absurd (dead (not (r.branch.ended || r.branch.left)) h))

prepared_live : (p : ℕ) (rows : List Row) → any_live p (all_prepared rows) ≡ any_live p rows
prepared_live p [] = refl
prepared_live p (r ∷ rows) = ap (λ (b : Bool). ((r.branch.peer.node == p) && is_linked r) || b) (prepared_live p rows)

pub fewer_rolls : (asked : Bool) (t : Transaction) → Fewer t (begin_rolling asked t).next
unfolding begin_rolling
fewer_rolls asked t = fewer_same t (begin_rolling asked t).next refl refl refl

pub fewer_unrolled : (t : Transaction) → Fewer t (complete_rollback t).next
unfolding complete_rollback
fewer_unrolled t = fewer_same t (complete_rollback t).next (grind arith) (grind arith) (grind arith)

fewer_ordered : (t : Transaction) → Fewer t (order t).next
unfolding order
fewer_ordered t = fewer_same t (order t).next refl refl refl

fewer_committed : (t : Transaction) → Fewer t (complete_commit t).next
unfolding complete_commit
fewer_committed t = fewer_same t (complete_commit t).next (grind arith) (grind arith) (grind arith)

pub fewer_ended : (p : ℕ) (r : _) (t : Transaction) → Fewer t (end_branch p r t).next
unfolding end_branch
fewer_ended p r t = fewer_row t p (λ w. record w { branch = record w.branch { ended = true; report = r } }) (λ w. refl) (λ w h. absurd (off w.live w.branch.left h))
  where
    off : (v l : Bool) → (v && not (true || l)) ≡ true → ⊥
    off v l i = absurd (grind (arith, i))

fewer_turns : (e : TxEvent) (s : Transaction) → Turns e s (λ t a. Fewer t a.next)
unfolding ask_commit leave count_branch branch_left
fewer_turns e s = record {
  still = λ t. fewer_same t t refl refl refl;
  first = λ t u outs a one two. fewer_then t u a.next one two;
  chain = λ t a f one two none. fewer_then t a.next (f a.next).next one two;
  tells = λ t i n. fewer_same t _ refl refl refl;
  notes_prepare = λ pr h. fewer_same s _ refl refl refl;
  notes_done = λ is. fewer_same s _ refl refl refl;
  notes_end = λ q is. fewer_same s _ refl refl refl;
  notes_rollback = λ ro h. fewer_same s _ refl refl refl;
  defers_end = λ q is. fewer_row s q (λ r. record r { ends = true }) (λ r. refl) (λ r h. h);
  defers_grant = λ q is. fewer_same s _ refl refl refl;
  prepares = λ q. fewer_row s q (λ r. record r { branch = record r.branch { prepared = true } }) (λ r. refl) (λ r h. h);
  asks = λ is act asked told. record { key = refl; up = λ h. h; rows = λ p h. sym (prepared_live p s.rows) ∙ h };
  asks_again = fewer_same s _ refl refl refl;
  decides = λ o is ready. fewer_same s _ refl refl refl;
  aborts = λ q is. fewer_lost s q;
  loses_arc = λ q gone. fewer_lost s q;
  closes_left = λ q is. fewer_row s q row_dead (λ r. refl) (λ r h. absurd (dead (not (r.branch.ended || r.branch.left)) h));
  gives_up = λ q r is c found. fewer_row s q (λ w. record w { branch = record w.branch { given_up = true }; live = false; ends = false }) (λ w. refl) (λ w h. absurd (dead (not (w.branch.ended || w.branch.left)) h));
  counts = λ q is act row. fewer_row s q (λ r. record r { branch = record r.branch { counted = true } }) (λ r. refl) (λ r h. h);
  ends_done = λ q r is c row. fewer_ended q r s;
  ends_replied = λ b w r is found o. fewer_ended w.branch.peer.node r s;
  ends_rolled = λ q r is c row. fewer_ended q r s;
  leaves_below = λ q w t is left at act. fewer_row t q (λ r. record r { branch = record r.branch { left = true } }) (λ r. refl) (λ r h. absurd (gone r.live r.branch.ended h));
  leaves_rolling = λ q w t is left at c. fewer_ended q _ t;
  votes = λ t act asked all under. fewer_same t _ refl refl refl;
  orders_root = λ t act asked all root. fewer_ordered t;
  orders_ready = λ ready is. fewer_ordered s;
  rolls = λ t asked f ok. fewer_rolls asked t;
  completes_commit = λ t c. fewer_committed t;
  completes_rollback = λ t c. fewer_unrolled t;
  leaves = λ is act under asked all. fewer_same s _ refl refl refl;
}
  where
    dead : (b : Bool) → (false && b) ≡ true → ⊥
    dead b i = cc (i)

    gone : (v e : Bool) → (v && not (e || true)) ≡ true → ⊥
    gone v e i = absurd (grind (arith, i))

pub fewer_turn : (f : TxEvent) (s : Transaction) → IsPut f s → Fewer s (transacted f s).next
fewer_turn f s put = every_turn f s (λ t a. Fewer t a.next) (fewer_turns f s) put

-- ---- a turn

left_over : (f : TxEvent) (s : Transaction) → is_leaving f ≡ true → is_rolling (transacted f s).next.phase ≡ false
unfolding leave
left_over (TxEvent.User Request.Unchanged) s h = refl
left_over f s h = absurd (cc (h))

-- while it rolls back, it ends no association of itself
unshut : (f : TxEvent) (s : Transaction) (p : ℕ) → IsPut f s → closes_by f p ≡ false → is_rolling (transacted f s).next.phase ≡ true → shuts_in p (transacted f s).outs ≡ false
unshut f s p put off rolls = leaving (is_leaving f) refl
  where
    a : Turn
    a = transacted f s

    unended : (b : Bool) (q r : Phase) → is_rolling r ≡ true → ends (passage b q r) ≡ false
    unended b q r i = grind (arith, i)

    leaving : (v : Bool) → is_leaving f ≡ v → shuts_in p a.outs ≡ false
    leaving true i = absurd (let no : is_rolling a.next.phase ≡ false = left_over f s i in cc (rolls, no))
    leaving false i =
        let untold : asks_tell is_committed_told a.outs ≡ false = sym (passage_turn f s i put).ended ∙ unended (is_leaving f) s.phase a.next.phase rolls in
        closing_turn p f s i off put ∙ ap (λ (v : Bool). ends_at p s && v) untold ∙ and-false (ends_at p s)

-- a peer whose association the event ends is not waited for after it
abbrev pub IsClosed : TxEvent → Turn → Type 0
IsClosed f a = (p : ℕ) → closes_by f p ≡ true → is_rolling a.next.phase ≡ true → (any_live p a.next.rows ≡ false) × ((is_under_at a.next.key p && a.next.up) ≡ false)

pub turned_waits : (who : Who) (f : TxEvent) (d : Digest) (c : Current) → IsPut f (seen who d.arcs c) → IsClosed f (transacted f (seen who d.arcs c)) → may_roll_back (transacted f (seen who d.arcs c)).next ≡ false → Waits (turned who f d c).next
turned_waits who f d c put closed prompt u is rolls owes = go (all_rolled_back n.rows) refl
  where
    s : Transaction
    s = seen who d.arcs c

    a : Turn
    a = transacted f s

    n : Transaction
    n = a.next

    w : Passage
    w = passage (is_leaving f) s.phase n.phase

    later : List Arc
    later = (turned who f d c).next.arcs

    fewer : Fewer s n
    fewer = fewer_turn f s put

    fields : (u.phase ≡ n.phase) × (u.owes ≡ n.owes) × (u.superior_rolled ≡ n.superior_rolled)
    fields = by (is_nil n.phase) refl
      where
        by : (b : Bool) → is_nil n.phase ≡ b → (u.phase ≡ n.phase) × (u.owes ≡ n.owes) × (u.superior_rolled ≡ n.superior_rolled)
        by true j = let no : None ≡ Some u = rw (j, remaining) at is in absurd (cc (no))
        by false j = (grind (arith, is, j), grind (arith, is, j), grind (arith, is, j))

    rolls_n : is_rolling n.phase ≡ true
    rolls_n = ap is_rolling (sym fields.0) ∙ rolls

    owes_n : n.owes ≡ false
    owes_n = sym fields.1 ∙ owes

    key : u.key ≡ n.key
    key = (left_is n u is).0

    -- it was linked, and is not shut
    stays : (p : ℕ) → is_live_with_peer d.arcs p ≡ true → closes_by f p ≡ false → is_live_with_peer later p ≡ true
    stays p live off =
        ap is_live (shuts_played d s w a (whole_turn f s) (entered s w d.arcs) p (apart_turn f s put) ∙ rw (unshut f s p put off rolls_n, link_entered s w d.arcs p) refl)
        ∙ more_live (count_to p (turned who f d c).outs) (link_with d.arcs p) live

    rest : (r x : Bool) → (true && not false && r && x) ≡ false → r ≡ true → x ≡ false
    rest r x i j = grind (arith, i, j)

    prompt_so : (true && not false && all_rolled_back n.rows && (n.superior_rolled || not n.up)) ≡ false
    prompt_so = rw (rolls_n, owes_n) at prompt

    by_row : (p : ℕ) → any_live p n.rows ≡ true → has_open_at (branches_of n.rows) p ≡ true → (b : Bool) → closes_by f p ≡ b → WaitsFor later u
    by_row p live here true i = absurd (let off : any_live p n.rows ≡ false = (closed p i rolls_n).0 in cc (live, off))
    by_row p live here false i = record {
      peer = p;
      linked = stays p (seen_live d.arcs c.branches p (fewer.rows p live)) i;
      awaited = ap (λ (bs : List Branch). has_open_at bs p || (is_under_at u.key p && not u.superior_rolled)) (left_branches n u is) ∙ rw here refl;
    }

    by_up : (k : Key) → n.key ≡ k → (n.superior_rolled || not n.up) ≡ false → WaitsFor later u
    by_up (Root t) i h = absurd (cc (root_up, up_n))
      where
        up_n : n.up ≡ true
        up_n = grind (arith, h)

        root_up : n.up ≡ false
        root_up = no (is_up_live d.arcs c.key) refl
          where
            no : (b : Bool) → is_up_live d.arcs c.key ≡ b → n.up ≡ false
            no true j = absurd (let k : is_up_live d.arcs c.key ≡ false = ap (is_up_live d.arcs) (sym fewer.key ∙ i) in cc (j, k))
            no false j = absurd (let k : is_up_live d.arcs c.key ≡ true = fewer.up up_n in cc (j, k))
    by_up (Under t b x) i h = on (closes_by f x.node) refl
      where
        up_n : n.up ≡ true
        up_n = grind (arith, h)

        unrolled : n.superior_rolled ≡ false
        unrolled = grind (arith, h)

        self : (x.node == x.node) ≡ true
        self = grind (arith, nat_tests)

        under : is_under_at n.key x.node ≡ true
        under = ap (λ (k : Key). is_under_at k x.node) i ∙ self

        live : is_live_with_peer d.arcs x.node ≡ true
        live = ap (is_up_live d.arcs) (sym i ∙ fewer.key) ∙ fewer.up up_n

        both : (o v r : Bool) → v ≡ true → r ≡ false → (o || (v && not r)) ≡ true
        both o v r j k = grind (arith, j, k)

        on : (v : Bool) → closes_by f x.node ≡ v → WaitsFor later u
        on true j = absurd (let off : (is_under_at n.key x.node && n.up) ≡ false = (closed x.node j rolls_n).1 in let no : (true && true) ≡ false = rw (under, up_n) at off in cc (no))
        on false j = record {
          peer = x.node;
          linked = stays x.node live j;
          awaited = both (has_open_at u.branches x.node) (is_under_at u.key x.node) u.superior_rolled (ap (λ (k : Key). is_under_at k x.node) key ∙ under) (fields.2 ∙ unrolled);
        }

    go : (b : Bool) → all_rolled_back n.rows ≡ b → WaitsFor later u
    go false i = let r = waiting_row n.rows i in by_row r.0 r.1 r.2 (closes_by f r.0) refl
    go true i = by_up n.key refl (rest (all_rolled_back n.rows) (n.superior_rolled || not n.up) prompt_so i)

-- ---- the steps of a node

-- the transaction stays, and what it waits for stays linked
pub linked_waits : (d n : Digest) → n.current ≡ d.current → ((c : Current) (p : ℕ) → d.current ≡ Some c → is_rolling c.phase ≡ true → is_awaited c p ≡ true → is_live_with_peer d.arcs p ≡ true → is_live_with_peer n.arcs p ≡ true) → Waits d → Waits n
linked_waits d n same live old c is rolls owes =
    let w = old c (sym same ∙ is) rolls owes in
    record { peer = w.peer; linked = live c w.peer (sym same ∙ is) rolls w.awaited w.linked; awaited = w.awaited }

pub performed_live : (arcs : List Arc) (outs : List TxOut) (p : ℕ) → are_apart outs ≡ true → shuts_in p outs ≡ false → is_live_with_peer arcs p ≡ true → is_live_with_peer (performed arcs outs).0 p ≡ true
performed_live arcs outs p apart shuts live = ap is_live (shuts_performed arcs outs p apart ∙ rw shuts refl) ∙ more_live (count_to p (performed arcs outs).1) (link_with arcs p) live

-- it is not one that rolls back
pub not_rolling : (d : Digest) → ((c : Current) → d.current ≡ Some c → is_rolling c.phase ≡ false) → Waits d
not_rolling d off c is rolls owes = absurd (let no = off c is in cc (rolls, no))

begins_waits : (who : Who) (q : ℕ) (d : Digest) → Waits d → Waits (begin_on who q d).next
begins_waits who q d old = begins_so (λ (m : Move). Waits m.next) who q d old on
  where
    on : (c : Current) → d.current ≡ Some c → (a : Arc) → find_arc d.arcs q ≡ Some a → not (may_begin_on who d a) ≡ false → Waits (begun_over who q d c a).next
    on c now a found may = not_rolling (begun_over who q d c a).next (λ u is. sunk u.phase (ap is_active (left_is (transacted (TxEvent.Begun (next_child who d a ∷ [])) (seen who d.arcs c)).next u is).1 ∙ act))
      where
        act : is_active c.phase ≡ true
        act = grind (arith, may, now)

        sunk : (v : Phase) → is_active v ≡ true → is_rolling v ≡ false
        sunk v i = grind (arith, i)

pub waits_steps : (who : Who) (e : Event) (s : Digest) → ((p : ℕ) → closes_at e p ≡ false) → Steps who e s (λ d m. Waits d → Waits m.next)
waits_steps who e s off = record {
  still = λ d old. old;
  chain = λ d a f one two none old. two (one old);
  speaks = λ d outs h own said last old. linked_waits d (perform outs d).next refl (λ c p is rolls wait live. performed_live d.arcs outs p (apart_spoken outs h) (unshut_said e p outs (off p) said) live) old;
  changes_dialogue = λ d q f m by one old. one (linked_waits d (record d { arcs = with_dialogue d.arcs q f }) refl (λ c p is rolls wait live. ap is_live (link_dialogue d.arcs q f p) ∙ live) old);
  drops_arc = λ d q m at one old. absurd (let no = off q in cc (at, no));
  notes_kept = λ d ks m held by one old. one old;
  keeps = λ d k f held old. linked_waits d (keep (settled k f) d).next refl (λ c p is rolls wait live. performed_live d.arcs (settled k f).outs p (apart_spoken (settled k f).outs (settled_spoken k f)) (unshut_settled p k f) live) old;
  turns = λ d c f now at asked put gone drawn alike old.
      turned_waits who f d c put (λ p on. absurd (let no : closes_by f p ≡ false = closes_so e c f p asked (off p) in cc (on, no))) ((prompt_event f (seen who d.arcs c) put).rolls_back (before who d c now old));
  begins = λ d q may old. begins_waits who q d old;
  roots = λ d m nil may says one old. one (not_rolling (record (with_mark_drawn d) { current = Some (fresh_current (Root (next_tree who d))) }) (λ u is. let same = some_same (fresh_current (Root (next_tree who d))) u is in ap (λ (v : Current). is_rolling v.phase) (sym same)));
}
  where
    before : (who : Who) (d : Digest) (c : Current) → d.current ≡ Some c → Waits d → may_roll_back (seen who d.arcs c) ≡ false
    before who d c now old = on (is_rolling c.phase) refl c.owes refl
      where
        loose : (p o r x : Bool) → (p && not o) ≡ false → (p && not o && r && x) ≡ false
        loose p o r x i = grind (arith, i)

        on : (p : Bool) → is_rolling c.phase ≡ p → (o : Bool) → c.owes ≡ o → may_roll_back (seen who d.arcs c) ≡ false
        on true i false j = let w = old c now i j in awaited_blocks who d.arcs c w.peer w.linked w.awaited
        on true i true j = loose (is_rolling c.phase) c.owes (all_rolled_back (seen_rows d.arcs c.branches)) (c.superior_rolled || not (is_up_live d.arcs c.key)) (rw (i, j) refl)
        on false i o j = loose (is_rolling c.phase) c.owes (all_rolled_back (seen_rows d.arcs c.branches)) (c.superior_rolled || not (is_up_live d.arcs c.key)) (rw i refl)

pub start_waits : (who : Who) (d : Digest) → Waits d → Waits (try_start who d).next
start_waits who d old = step_start who Event.Purge d (λ g m. Waits g → Waits m.next) (waits_steps who Event.Purge d (λ p. refl)) d old
