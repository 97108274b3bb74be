-- In every legal history a rollback waits for a peer that is linked: an event that ends an association completes the rollback where it
-- was the last such peer, or that association was none of the transaction's.
use Rattle.tp_history_state.proofs.Vocabulary.{if◌then◌else◌, ◌≡◌, ℕ, Bool, true, false, refl, ap, sym, subst, ◌∙◌, arith, Option, Some, None, List, [], ◌∷◌, ◌&&◌, ◌||◌, ◌==◌, not, nat_tests, Mark, Addr, Report, Request, Indication, DialogueRecord, PeerRecord, TxEvent, TxOut, Who, Origin, Event, Entry, Link, Idle, Live, Arc, Key, Root, Under, Branch, Current, Digest, is_nil, is_active, is_rolling, is_live, with_one_taken, Sight, Acts, Nothing_happens, Out_of_phase, cleared, find_arc, link_with, is_live_with_peer, without_arc, with_dialogue, Row, Transaction, Turn, turn, and_then, is_under_at, find_row, put_row, row_holds, with_row, with_arc_lost, begin_rolling, complete_rollback, complete_commit, roll, settle, order, branch_left, end_branch, takes, transacted, sight_of_tx, situation_of, refused_tx, has_branch_at, Move, move, followed, perform, situation_at, seen, seen_row, seen_rows, turned, transact, fresh_current, refused_request, refused_on_arc, abort, reject, sight_at, take_record, take_abort, take_on, lose, break_off, broken_pair, refused_arrival, refusal, action, after_crash, recovered_current, digest, IsGrown, IsLate, IsPut, closes_at, prelude, plain_request, plain_arrival, plain_give_up, abort_sight, abort_active, seen_branch, late_law, row_phase, row_dead, row_is, some_same, step_move, link_without, Entered, Begun, Crashed, Plain}
unfoldable use Rattle.tp_model.specs.Dialogues.{arrived}
use Rattle.tp_model.specs.AmongArcs.{are_distinct}
use Rattle.tp_model.specs.Legal.{is_start}
use Rattle.tp_model.specs.Arrivals.{take_shut}
use Rattle.tp_model.specs.Node.{is_up_live}
use Rattle.tp_model.specs.Transactions.{give_up, is_waited_for, all_rolled_back}
unfoldable use Rattle.tp_model.specs.Transactions.{lost_arc}
use Rattle.tp_steps.specs.Undone.{may_roll_back}
use Rattle.tp_histories.proofs.order.InOrderLaw.{among_law, empty_apart}
use Rattle.tp_histories.proofs.trees.Entered.{entered}
use Rattle.tp_histories.proofs.trees.Knowing.{current_none}
use Rattle.tp_histories.proofs.worlds.Good.{good_run}
use Rattle.tp_history_state.proofs.orders.Rolled.{nothing_there}
use Rattle.tp_history_state.proofs.links.Shuts.{closes_by}
use Rattle.tp_history_state.proofs.marks.Taken.{no_acting, same_sight, sight_now}
use Rattle.tp_history_state.proofs.deferral.Deferral.{counted}
use Rattle.tp_history_state.proofs.links.Link.{counted_link, IsRefused, refused_link, transact_so}
use Rattle.tp_history_state.proofs.links.LinkBy.{live_kept}
use Rattle.tp_model.specs.World.{number_of}
use Rattle.tp_finishing.specs.Waiting.{has_open_at, is_awaited, Waits, RollbacksWait}
use Rattle.tp_finishing.proofs.Waiting.{is_linked, any_live, seen_live, Fewer, fewer_then, fewer_turn, fewer_rolls, fewer_unrolled, fewer_ended, IsClosed, turned_waits, linked_waits, performed_live, not_rolling, waits_steps, start_waits}
use Rattle.tp_history_state.proofs.prepares.Closed.{offered_dead, in_phase, end_out}

-- ---- a rule that completes the rollback leaves nothing to complete

prompt_rollback : (t : Transaction) → may_roll_back (complete_rollback t).next ≡ false
unfolding complete_rollback
prompt_rollback t = go (not t.owes && all_rolled_back t.rows && (t.superior_rolled || not t.up)) refl
  where
    go : (b : Bool) → (not t.owes && all_rolled_back t.rows && (t.superior_rolled || not t.up)) ≡ b → may_roll_back (complete_rollback t).next ≡ false
    go true i = rw (i, complete_rollback) refl
    go false i = let same : (complete_rollback t).next ≡ t = grind (arith, i) in ap may_roll_back same ∙ off (is_rolling t.phase) (not t.owes) (all_rolled_back t.rows) (t.superior_rolled || not t.up) i
      where
        off : (p o r s : Bool) → (o && r && s) ≡ false → (p && o && r && s) ≡ false
        off p o r s j = grind (arith, j)

-- the transaction does not roll back
calm : (u : Transaction) → is_rolling u.phase ≡ false → may_roll_back u ≡ false
calm u h = rw h refl

lost_phase : (t : Transaction) (q : ℕ) → (with_arc_lost t q).phase ≡ t.phase
lost_phase t q = grind (arith, row_phase)

prompt_lost : (p : ℕ) (t : Transaction) → may_roll_back (lost_arc p t).next ≡ false
unfolding lost_arc
prompt_lost p t = go (is_active t.phase && (is_under_at t.key p || row_holds t.rows p is_waited_for)) (is_rolling t.phase) refl
  where
    gone : Transaction
    gone = with_arc_lost t p

    go : (a c : Bool) → is_rolling t.phase ≡ c → may_roll_back (if a then roll false gone else if c then complete_rollback gone else turn [] gone).next ≡ false
    go true c i = prompt_rollback (begin_rolling false gone).next
    go false true i = prompt_rollback gone
    go false false i = calm gone (ap is_rolling (lost_phase t p) ∙ i)

settled_calm : (t : Transaction) → is_active t.phase ≡ true → is_rolling (settle t).next.phase ≡ false
unfolding settle order
settled_calm t act = grind (arith, act)

-- ---- rows of one peer

none_seen : (arcs : List Arc) (bs : List Branch) (p : ℕ) → has_branch_at bs p ≡ false → any_live p (seen_rows arcs bs) ≡ false
none_seen arcs [] p h = refl
none_seen arcs (b ∷ bs) p h = let rest = none_seen arcs bs p (grind (arith, h)) in grind (arith, h, rest)

dead_seen : (arcs : List Arc) (bs : List Branch) (p : ℕ) (r : Row) → are_distinct bs ≡ true → find_row (seen_rows arcs bs) p ≡ Some r → any_live p (put_row (seen_rows arcs bs) (row_dead r)) ≡ false
dead_seen arcs [] p r h found = absurd (cc (found))
dead_seen arcs (b ∷ bs) p r h found = go (b.peer.node == p) refl (b.peer.node == r.branch.peer.node) refl (dead_seen arcs bs p r (grind (arith, h)))
  where
    at_row : r.branch.peer.node ≡ p
    at_row = row_is (seen_rows arcs (b ∷ bs)) p r found

    off : (a x s : Bool) → s ≡ false → ((a && (false && x)) || s) ≡ false
    off a x s i = grind (arith, i)

    other : (a x s : Bool) → a ≡ false → s ≡ false → ((a && x) || s) ≡ false
    other a x s i j = grind (arith, i, j)

    go : (u : Bool) → (b.peer.node == p) ≡ u → (v : Bool) → (b.peer.node == r.branch.peer.node) ≡ v → (find_row (seen_rows arcs bs) p ≡ Some r → any_live p (put_row (seen_rows arcs bs) (row_dead r)) ≡ false)
        → any_live p (if v then row_dead r ∷ seen_rows arcs bs else seen_row arcs b ∷ put_row (seen_rows arcs bs) (row_dead r)) ≡ false
    go true i true j rest =
        let at : b.peer.node ≡ p = grind (arith, nat_tests, i) in
        let none : has_branch_at bs b.peer.node ≡ false = grind (arith, h) in
        off (r.branch.peer.node == p) (not (r.branch.ended || r.branch.left)) (any_live p (seen_rows arcs bs)) (none_seen arcs bs p (ap (has_branch_at bs) (sym at) ∙ none))
    go true i false j rest = absurd (let on : (b.peer.node == r.branch.peer.node) ≡ true = ap (λ (m : ℕ). b.peer.node == m) at_row ∙ i in cc (on, j))
    go false i true j rest = absurd (let on : (b.peer.node == p) ≡ true = ap (λ (m : ℕ). b.peer.node == m) (sym at_row) ∙ j in cc (on, i))
    go false i false j rest = other (b.peer.node == p) (is_linked (seen_row arcs b)) (any_live p (put_row (seen_rows arcs bs) (row_dead r))) i (rest (rw (i, find_row) at found))

-- the branches of a transaction in order: no two with one peer, and the superior is none of them
record IsApart (c : Current) : Type 0 where
  distinct : are_distinct c.branches ≡ true
  above : (p : ℕ) → is_under_at c.key p ≡ true → has_branch_at c.branches p ≡ false

-- no open row with the peer is live, nor is the superior there
abbrev IsCutOff : ℕ → Transaction → Type 0
IsCutOff p t = (any_live p t.rows ≡ false) × ((is_under_at t.key p && t.up) ≡ false)

none_up : (a b : Bool) → a ≡ false → (a && b) ≡ false
none_up a b i = grind (arith, i)

up_none : (a b : Bool) → b ≡ false → (a && b) ≡ false
up_none a b i = grind (arith, i)

row_cut : (who : Who) (arcs : List Arc) (c : Current) (p : ℕ) → IsApart c → is_under_at c.key p ≡ false → IsCutOff p (with_row (seen who arcs c) p row_dead)
row_cut who arcs c p k off = go (find_row (seen_rows arcs c.branches) p) refl
  where
    t : Transaction
    t = seen who arcs c

    missing : (bs : List Branch) → find_row (seen_rows arcs bs) p ≡ None → has_branch_at bs p ≡ false
    missing [] i = refl
    missing (b ∷ bs) i = on (b.peer.node == p) i (missing bs)
      where
        on : (v : Bool) → (if v then Some (seen_row arcs b) else find_row (seen_rows arcs bs) p) ≡ None → (find_row (seen_rows arcs bs) p ≡ None → has_branch_at bs p ≡ false) → (v || has_branch_at bs p) ≡ false
        on true j rest = absurd (cc (j))
        on false j rest = rest j

    go : (o : Option Row) → find_row t.rows p ≡ o → IsCutOff p (elim o as (λ _. Transaction) [ None ↦ t | Some r ↦ record t { rows = put_row t.rows (row_dead r) } ])
    go None i = (none_seen arcs c.branches p (missing c.branches i), none_up (is_under_at c.key p) t.up off)
    go (Some r) i = (dead_seen arcs c.branches p r k.distinct i, none_up (is_under_at c.key p) t.up off)

lost_cut : (who : Who) (arcs : List Arc) (c : Current) (p : ℕ) → IsApart c → IsCutOff p (with_arc_lost (seen who arcs c) p)
lost_cut who arcs c p k = go (is_under_at c.key p) refl
  where
    t : Transaction
    t = seen who arcs c

    go : (b : Bool) → is_under_at c.key p ≡ b → IsCutOff p (if b then record t { up = false; up_ends = false } else with_row t p row_dead)
    go true i = (none_seen arcs c.branches p (k.above p i), up_none (is_under_at c.key p) false refl)
    go false i = row_cut who arcs c p k i

fewer_cut : (p : ℕ) (t u : Transaction) → Fewer t u → IsCutOff p t → IsCutOff p u
fewer_cut p t u k cut = (rows (any_live p u.rows) refl, up (is_under_at u.key p) refl u.up refl)
  where
    rows : (b : Bool) → any_live p u.rows ≡ b → b ≡ false
    rows false i = refl
    rows true i = absurd (let on = k.rows p i in let off = cut.0 in cc (on, off))

    up : (x : Bool) → is_under_at u.key p ≡ x → (y : Bool) → u.up ≡ y → (x && y) ≡ false
    up false i y j = refl
    up true i false j = refl
    up true i true j = absurd (let under : is_under_at t.key p ≡ true = ap (λ (v : _). is_under_at v p) (sym k.key) ∙ i in let on : t.up ≡ true = k.up j in let off : (true && true) ≡ false = rw (under, on) at cut.1 in cc (off))

-- ---- at the node

number_is : (m n : ℕ) → (m == n) ≡ true → m ≡ n
number_is m n h = grind (arith, nat_tests, h)

none_waits : (d : Digest) → d.current ≡ None → Waits d
none_waits d none = not_rolling d (λ c is. absurd (let no : None ≡ Some c = sym none ∙ is in cc (no)))

transact_waits : (who : Who) (f : TxEvent) (g : Digest) (c : Current) → g.current ≡ Some c → IsPut f (seen who g.arcs c) → IsClosed f (transacted f (seen who g.arcs c)) → may_roll_back (transacted f (seen who g.arcs c)).next ≡ false → Waits (transact who f g).next
transact_waits who f g c now put closed prompt = transact_so (λ m. Waits m.next) who f g c now here (start_waits who (turned who f g c).next here)
  where
    here : Waits (turned who f g c).next
    here = turned_waits who f g c put closed prompt

-- the association is gone already
gone_cut : (who : Who) (arcs : List Arc) (c : Current) (p : ℕ) → is_live_with_peer arcs p ≡ false → IsCutOff p (seen who arcs c)
gone_cut who arcs c p dead = (rows (any_live p (seen_rows arcs c.branches)) refl, up c.key refl)
  where
    rows : (b : Bool) → any_live p (seen_rows arcs c.branches) ≡ b → b ≡ false
    rows false i = refl
    rows true i = absurd (let live = seen_live arcs c.branches p i in cc (live, dead))

    up : (k : Key) → c.key ≡ k → (is_under_at k p && is_up_live arcs k) ≡ false
    up (Root t) i = refl
    up (Under t b a) i = on (a.node == p) refl
      where
        on : (v : Bool) → (a.node == p) ≡ v → (v && is_live_with_peer arcs a.node) ≡ false
        on false j = refl
        on true j = ap (is_live_with_peer arcs) (number_is a.node p j) ∙ dead

without_dead : (arcs : List Arc) (p : ℕ) → is_live_with_peer (without_arc arcs p) p ≡ false
without_dead arcs p = let self : (p == p) ≡ true = grind (arith, nat_tests) in ap is_live (link_without arcs p p) ∙ ap (λ (b : Bool). is_live (if b then Idle else link_with arcs p)) self

-- an event at one peer, where that peer is cut off
closed_at : (f : TxEvent) (a : Turn) (p : ℕ) → ((q : ℕ) → closes_by f q ≡ true → p ≡ q) → IsCutOff p a.next → IsClosed f a
closed_at f a p only cut q on rolls = subst (λ (n : ℕ). IsCutOff n a.next) (only q on) cut

waits_lost : (who : Who) (p : ℕ) (d : Digest) → IsLate d → Waits (lose who p d).next
unfolding lose refused_tx
waits_lost who p d late = go d.current refl
  where
    gone : Digest
    gone = record d { arcs = without_arc d.arcs p }

    go : (o : Option Current) → d.current ≡ o → Waits (elim o as (λ _. Move) [ None ↦ perform (TxOut.Tell (Indication.PAbort p) ∷ []) gone | Some c ↦ transact who (TxEvent.Lost p) gone ]).next
    go None i = none_waits gone i
    go (Some c) i = transact_waits who (TxEvent.Lost p) gone c i put (closed_at (TxEvent.Lost p) a p (λ q on. number_is p q on) (fewer_cut p s a.next (fewer_turn (TxEvent.Lost p) s put) (gone_cut who gone.arcs c p (without_dead d.arcs p)))) (prompt_lost p s)
      where
        s : Transaction
        s = seen who gone.arcs c

        a : Turn
        a = transacted (TxEvent.Lost p) s

        put : IsPut (TxEvent.Lost p) s
        put = record { late = late c i; ok = λ h. refl; abort = λ q h. cc (h); ordered = λ h. cc (h); not_begun = λ arcs h. cc (h) }

took_put : (p : ℕ) (r : DialogueRecord) (s : Transaction) → is_nil s.phase ≡ false → IsPut (TxEvent.Took p r) s
took_put p r s late = record { late = late; ok = λ h. absurd (cc (h)); abort = λ q h. cc (h); ordered = λ h. cc (h); not_begun = λ arcs h. cc (h) }

waits_aborted : (who : Who) (p : ℕ) (d : Digest) → IsLate d → Waits (take_abort who p d).next
unfolding take_abort sight_of_tx
waits_aborted who p d late = go d.current refl
  where
    gone : Digest
    gone = record d { arcs = without_arc d.arcs p }

    go : (o : Option Current) → d.current ≡ o → Waits (elim o as (λ _. Move) [ None ↦ perform (TxOut.Tell (Indication.UAbort p) ∷ []) gone | Some c ↦ transact who (TxEvent.Took p DialogueRecord.UAbort) gone ]).next
    go None i = none_waits gone i
    go (Some c) i = transact_waits who f gone c i put (closed_at f (transacted f s) p (λ q on. number_is p q on) (fewer_cut p s (transacted f s).next (fewer_turn f s put) (gone_cut who gone.arcs c p (without_dead d.arcs p)))) (prompt_lost p s)
      where
        f : TxEvent
        f = TxEvent.Took p DialogueRecord.UAbort

        s : Transaction
        s = seen who gone.arcs c

        put : IsPut f s
        put = took_put p DialogueRecord.UAbort s (late c i)

-- ---- whom a transaction waits for is a peer of its own

open_is : (bs : List Branch) (p : ℕ) → has_open_at bs p ≡ true → has_branch_at bs p ≡ true
open_is [] p h = absurd (cc (h))
open_is (b ∷ bs) p h = go (b.peer.node == p) refl h (open_is bs p)
  where
    go : (v : Bool) → (b.peer.node == p) ≡ v → ((v && not (b.ended || b.left)) || has_open_at bs p) ≡ true → (has_open_at bs p ≡ true → has_branch_at bs p ≡ true) → (v || has_branch_at bs p) ≡ true
    go true i k rest = refl
    go false i k rest = rest k

-- its row is not done, and has not left
none_holds : (arcs : List Arc) (bs : List Branch) (p : ℕ) (w : Branch → Bool) → has_branch_at bs p ≡ false → row_holds (seen_rows arcs bs) p w ≡ false
none_holds arcs [] p w h = refl
none_holds arcs (b ∷ bs) p w h = go (b.peer.node == p) h (none_holds arcs bs p w)
  where
    go : (v : Bool) → (v || has_branch_at bs p) ≡ false → (has_branch_at bs p ≡ false → row_holds (seen_rows arcs bs) p w ≡ false) → elim (if v then Some (seen_row arcs b) else find_row (seen_rows arcs bs) p) as (λ _. Bool) [ None ↦ false | Some r ↦ w r.branch ] ≡ false
    go true i rest = absurd (cc (i))
    go false i rest = rest i

open_holds : (arcs : List Arc) (bs : List Branch) (p : ℕ) (w : Branch → Bool) → ((b : Branch) → (b.ended || b.left) ≡ false → w b ≡ false) → are_distinct bs ≡ true → has_open_at bs p ≡ true → row_holds (seen_rows arcs bs) p w ≡ false
open_holds arcs [] p w k h is = absurd (cc (is))
open_holds arcs (b ∷ bs) p w k h is = go (b.peer.node == p) refl is (open_holds arcs bs p w k (grind (arith, h)))
  where
    opened : (x s : Bool) → s ≡ false → (not x || s) ≡ true → x ≡ false
    opened x s i j = grind (arith, i, j)

    shut : (v : Bool) → has_open_at bs p ≡ v → has_branch_at bs p ≡ false → v ≡ false
    shut false i none = refl
    shut true i none = absurd (let on = open_is bs p i in cc (on, none))

    go : (v : Bool) → (b.peer.node == p) ≡ v → ((v && not (b.ended || b.left)) || has_open_at bs p) ≡ true → (has_open_at bs p ≡ true → row_holds (seen_rows arcs bs) p w ≡ false)
        → elim (if v then Some (seen_row arcs b) else find_row (seen_rows arcs bs) p) as (λ _. Bool) [ None ↦ false | Some r ↦ w r.branch ] ≡ false
    go true i j rest =
        let none : has_branch_at bs p ≡ false = ap (has_branch_at bs) (sym (number_is b.peer.node p i)) ∙ grind (arith, h) in
        k b (opened (b.ended || b.left) (has_open_at bs p) (shut (has_open_at bs p) refl none) j)
    go false i j rest = rest j

-- so its arc is a branch that is neither done nor left
member : (who : Who) (d : Digest) (c : Current) (p : ℕ) → d.current ≡ Some c → IsApart c → is_awaited c p ≡ true → ((situation_at who d p).branch ≡ true) × ((situation_at who d p).done ≡ false) × ((situation_at who d p).left ≡ false)
unfolding situation_of
member who d c p now apart wait = rw (now, situation_at) (go (has_open_at c.branches p) refl wait)
  where
    s : Transaction
    s = seen who d.arcs c

    under : (a b : Bool) → a ≡ true → (a || b) ≡ true
    under a b i = grind (arith, i)

    among : (a b : Bool) → b ≡ true → (a || b) ≡ true
    among a b i = grind (arith, i)

    go : (v : Bool) → has_open_at c.branches p ≡ v → (v || (is_under_at c.key p && not c.superior_rolled)) ≡ true
        → ((is_under_at c.key p || row_holds s.rows p (λ b. true)) ≡ true) × (row_holds s.rows p (λ b. b.ended) ≡ false) × (row_holds s.rows p (λ b. b.left) ≡ false)
    go true i k = (
      among (is_under_at c.key p) (row_holds s.rows p (λ b. true)) (seen_branch d.arcs c.branches p ∙ open_is c.branches p i),
      open_holds d.arcs c.branches p (λ b. b.ended) (λ b j. grind (arith, j)) apart.distinct i,
      open_holds d.arcs c.branches p (λ b. b.left) (λ b j. grind (arith, j)) apart.distinct i,
    )
    go false i k =
        let up : is_under_at c.key p ≡ true = grind (arith, k) in
        (under (is_under_at c.key p) (row_holds s.rows p (λ b. true)) up, none_holds d.arcs c.branches p (λ b. b.ended) (apart.above p up), none_holds d.arcs c.branches p (λ b. b.left) (apart.above p up))

abbrev AreApart : Digest → Type 0
AreApart d = (c : Current) → d.current ≡ Some c → IsApart c

-- ---- requests that end an association

-- of an arc that is none of the transaction's
waits_closed : (who : Who) (d : Digest) (p : ℕ) (r : DialogueRecord) → AreApart d → (situation_at who d p).branch ≡ false → Waits d → Waits (perform (TxOut.Carry p r ∷ TxOut.Close p ∷ []) d).next
waits_closed who d p r apart off old = linked_waits d (perform (TxOut.Carry p r ∷ TxOut.Close p ∷ []) d).next refl (λ c q is rolls wait live. performed_live d.arcs (TxOut.Carry p r ∷ TxOut.Close p ∷ []) q refl (other c q is wait (p == q) refl) live) old
  where
    other : (c : Current) (q : ℕ) → d.current ≡ Some c → is_awaited c q ≡ true → (v : Bool) → (p == q) ≡ v → (v || false) ≡ false
    other c q is wait false i = refl
    other c q is wait true i = absurd (let on = (member who d c q is (apart c is) wait).0 in let no : (situation_at who d q).branch ≡ false = ap (λ (n : ℕ). (situation_at who d n).branch) (sym (number_is p q i)) ∙ off in cc (on, no))

end_free : (who : Who) (d : Digest) (p : ℕ) → refused_request who d (Request.EndDialogue p) ≡ None → (situation_at who d p).branch ≡ false
unfolding refused_request refused_on_arc
end_free who d p ok = go (find_arc d.arcs p) refl
  where
    go : (o : Option Arc) → find_arc d.arcs p ≡ o → (situation_at who d p).branch ≡ false
    go None i = absurd (grind (arith, ok, i))
    go (Some a) i = grind (arith, ok, i)

waits_abort : (who : Who) (d : Digest) (p : ℕ) → refused_request who d (Request.UAbort p) ≡ None → IsLate d → AreApart d → Waits d → Waits (abort who p d).next
unfolding abort refused_tx
waits_abort who d p ok late apart old = go (situation_at who d p).branch refl
  where
    f : TxEvent
    f = TxEvent.User (Request.UAbort p)

    on : (situation_at who d p).branch ≡ true → (o : Option Current) → d.current ≡ o → Waits (transact who f d).next
    on b None i = none_waits (transact who f d).next (nothing_there who f d i)
    on b (Some c) i = transact_waits who f d c i put (closed_at f (transacted f s) p (λ q on. number_is p q on) (fewer_cut p gone (roll true gone).next (fewer_then gone (begin_rolling true gone).next (complete_rollback (begin_rolling true gone).next).next (fewer_rolls true gone) (fewer_unrolled (begin_rolling true gone).next)) (lost_cut who d.arcs c p (apart c i)))) (prompt_rollback (begin_rolling true gone).next)
      where
        s : Transaction
        s = seen who d.arcs c

        gone : Transaction
        gone = with_arc_lost s p

        put : IsPut f s
        put = record { late = late c i; ok = λ h. refl; abort = λ q h. abort_active who d p c ok b i (late c i); ordered = λ h. cc (h); not_begun = λ arcs h. cc (h) }

    go : (b : Bool) → (situation_at who d p).branch ≡ b → Waits (if b then transact who f d else perform (TxOut.Carry p DialogueRecord.UAbort ∷ TxOut.Close p ∷ []) d).next
    go true i = on i d.current refl
    go false i = waits_closed who d p DialogueRecord.UAbort apart i old

reject_current : (d : Digest) → (reject d).next.current ≡ d.current
unfolding reject
reject_current d = grind arith

waits_rejected : (who : Who) (d : Digest) → refusal who d (Event.Do Request.Reject) ≡ None → Waits d → Waits (reject d).next
waits_rejected who d ok old = linked_waits d (reject d).next (reject_current d) (λ c p is rolls wait live. stays p live (refused_link who d p ok)) old
  where
    stays : (p : ℕ) → is_live_with_peer d.arcs p ≡ true → IsRefused who d p → is_live_with_peer (reject d).next.arcs p ≡ true
    stays p live k = go (k.top.node == p) refl
      where
        go : (b : Bool) → (k.top.node == p) ≡ b → is_live_with_peer (reject d).next.arcs p ≡ true
        go true i = absurd (let dead : is_live_with_peer d.arcs p ≡ false = ap (is_live_with_peer d.arcs) (sym (number_is k.top.node p i)) ∙ offered_dead who d k.top (plain_request who d Request.Reject ok) k.superior in cc (live, dead))
        go false i = ap is_live (k.link ∙ rw i refl) ∙ live

-- a branch that is given up is one of a commitment
uncommitted : (t : Transaction) → is_rolling t.phase ≡ false → is_rolling (complete_commit t).next.phase ≡ false
unfolding complete_commit
uncommitted t off = grind (arith, off)

given_calm : (p : ℕ) (t : Transaction) → refused_tx (TxEvent.GiveUp p) t ≡ None → is_rolling (give_up p t).next.phase ≡ false
unfolding refused_tx
given_calm p t ok = go (find_row t.rows p)
  where
    f : Row → Row
    f q = record q { branch = record q.branch { given_up = true }; live = false; ends = false }

    late : is_rolling t.phase ≡ false
    late = grind (arith, ok)

    go : (o : Option Row) → is_rolling (elim o as (λ _. Turn) [ None ↦ turn [] t | Some r ↦ and_then (turn (if r.live then TxOut.Shut p ∷ [] else []) (with_row t p f)) complete_commit ]).next.phase ≡ false
    go None = late
    go (Some r) = uncommitted (with_row t p f) (ap is_rolling (row_phase t p f) ∙ late)

waits_given : (who : Who) (d : Digest) (p : ℕ) → refusal who d (Event.GiveUp p) ≡ None → IsLate d → Waits (transact who (TxEvent.GiveUp p) d).next
waits_given who d p ok late = go d.current refl
  where
    f : TxEvent
    f = TxEvent.GiveUp p

    go : (o : Option Current) → d.current ≡ o → Waits (transact who f d).next
    go None i = none_waits (transact who f d).next (nothing_there who f d i)
    go (Some c) i = transact_waits who f d c i put (λ q on rolls. absurd (cc (rolls, off))) (calm (transacted f s).next off)
      where
        s : Transaction
        s = seen who d.arcs c

        put : IsPut f s
        put = record { late = late c i; ok = λ h. plain_give_up who d p c ok i; abort = λ q h. cc (h); ordered = λ h. cc (h); not_begun = λ arcs h. cc (h) }

        off : is_rolling (give_up p s).next.phase ≡ false
        off = given_calm p s (plain_give_up who d p c ok i)

-- ---- records that end an association

opening_dead : (who : Who) (d : Digest) (from : Addr) (x : Mark) → refused_arrival who d from (PeerRecord.ShutAssoc x None) ≡ None → is_live_with_peer d.arcs from.node ≡ false
unfolding refused_arrival
opening_dead who d from x ok = go (find_arc d.arcs from.node) refl
  where
    on : (a : Arc) → find_arc d.arcs from.node ≡ Some a → (l : Link) → a.link ≡ l → is_live l ≡ false
    on a i (Live z w s t) j = absurd (grind (arith, ok, i, j))
    on a i l j = refl

    go : (o : Option Arc) → find_arc d.arcs from.node ≡ o → is_live_with_peer d.arcs from.node ≡ false
    go None i = rw (i, link_with) refl
    go (Some a) i = rw (i, link_with) (on a i a.link refl)

waits_shut : (who : Who) (d : Digest) (p : ℕ) → is_live_with_peer d.arcs p ≡ false → Waits d → Waits (take_shut who p None d).next
waits_shut who d p dead old = linked_waits d (take_shut who p None d).next refl (λ c q is rolls wait live. performed_live d.arcs (TxOut.Close p ∷ TxOut.Tell (Indication.Rejected p) ∷ []) q refl (other q live (p == q) refl) live) old
  where
    other : (q : ℕ) → is_live_with_peer d.arcs q ≡ true → (v : Bool) → (p == q) ≡ v → (v || false) ≡ false
    other q live false i = refl
    other q live true i = absurd (let off : is_live_with_peer d.arcs q ≡ false = ap (is_live_with_peer d.arcs) (sym (number_is p q i)) ∙ dead in cc (live, off))

counted_current : (r : DialogueRecord) (n : ℕ) (d : Digest) → (counted r n d).current ≡ d.current
counted_current r n d = grind arith

live_taken : (l : Link) → is_live l ≡ true → is_live (with_one_taken l) ≡ true
live_taken Link.Idle h = h
live_taken _ h = h

counted_live : (r : DialogueRecord) (n p : ℕ) (d : Digest) → is_live_with_peer d.arcs p ≡ true → is_live_with_peer (counted r n d).arcs p ≡ true
counted_live r n p d live = ap is_live (counted_link r n p d) ∙ go (n == p)
  where
    go : (b : Bool) → is_live (if b then with_one_taken (link_with d.arcs p) else link_with d.arcs p) ≡ true
    go true = live_taken (link_with d.arcs p) live
    go false = live

waits_counted : (r : DialogueRecord) (n : ℕ) (d : Digest) → Waits d → Waits (counted r n d)
waits_counted r n d old = linked_waits d (counted r n d) (counted_current r n d) (λ c p is rolls wait live. counted_live r n p d live) old

-- the end of a dialogue is out of phase on an arc that is waited for
waits_ended : (who : Who) (d : Digest) (a : Arc) → (sight_at who d a DialogueRecord.EndDialogue ≡ Out_of_phase → ⊥) → AreApart d → Waits d → Waits (take_on who a DialogueRecord.EndDialogue d).next
waits_ended who d a ok apart old = go (sight_at who d a DialogueRecord.EndDialogue)
  where
    n : ℕ
    n = a.peer.node

    g : Digest
    g = counted DialogueRecord.EndDialogue n d

    other : (c : Current) (p : ℕ) → d.current ≡ Some c → is_awaited c p ≡ true → (v : Bool) → (n == p) ≡ v → (v || false) ≡ false
    other c p is wait false i = refl
    other c p is wait true i = let k = member who d c n is (apart c is) (ap (is_awaited c) (number_is n p i) ∙ wait) in absurd (ok (end_out who d a k.0 k.1 k.2))

    go : (v : Sight) → Waits (elim v as (λ _. Move) [ Acts ↦ take_record who a DialogueRecord.EndDialogue g | Nothing_happens ↦ move [] g | Out_of_phase ↦ move [] g ]).next
    go Acts = linked_waits g (take_record who a DialogueRecord.EndDialogue g).next refl (λ c p is rolls wait live. performed_live g.arcs (TxOut.Tell (Indication.EndDialogue n) ∷ TxOut.Close n ∷ []) p refl (other c p (sym (counted_current DialogueRecord.EndDialogue n d) ∙ is) wait (n == p) refl) live) (waits_counted DialogueRecord.EndDialogue n d old)
    go Nothing_happens = waits_counted DialogueRecord.EndDialogue n d old
    go Out_of_phase = waits_counted DialogueRecord.EndDialogue n d old

waits_took_abort : (who : Who) (d : Digest) (a : Arc) → IsLate d → Waits (take_on who a DialogueRecord.UAbort d).next
waits_took_abort who d a late =
    subst (λ (v : Sight). Waits (elim v as (λ _. Move) [ Acts ↦ take_record who a DialogueRecord.UAbort g | Nothing_happens ↦ move [] g | Out_of_phase ↦ move [] g ]).next) (sym (abort_sight who d a))
    (waits_aborted who a.peer.node g (λ c is. late c (sym (counted_current DialogueRecord.UAbort a.peer.node d) ∙ is)))
  where
    g : Digest
    g = counted DialogueRecord.UAbort a.peer.node d

left_active : (p : ℕ) (t : Transaction) → is_active t.phase ≡ true → is_active (branch_left p t).next.phase ≡ true
unfolding branch_left
left_active p t act = ap is_active (row_phase t p (λ r. record r { branch = record r.branch { left = true } })) ∙ act

-- what leaves is a branch
left_row : (t : Transaction) (p : ℕ) → sight_of_tx t p DialogueRecord.LeftEnd ≡ Acts → row_holds t.rows p (λ b. true) ≡ false → ⊥
unfolding sight_of_tx
left_row t p acts none = go (find_row t.rows p) refl
  where
    go : (o : Option Row) → find_row t.rows p ≡ o → ⊥
    go None i = absurd (grind (arith, acts, i))
    go (Some r) i = absurd (grind (arith, none, i))

-- a branch that leaves a rollback, and whose association goes with it
left_closed : (who : Who) (arcs : List Arc) (c : Current) (p : ℕ) → IsApart c → sight_of_tx (seen who arcs c) p DialogueRecord.LeftEnd ≡ Acts
    → (may_roll_back (transacted (TxEvent.Took p DialogueRecord.LeftEnd) (seen who arcs c)).next ≡ false) × IsClosed (TxEvent.Took p DialogueRecord.LeftEnd) (transacted (TxEvent.Took p DialogueRecord.LeftEnd) (seen who arcs c))
left_closed who arcs c p apart acts = subst (λ (v : Sight). Fits (elim v as (λ _. Turn) [ Acts ↦ takes p DialogueRecord.LeftEnd s | Nothing_happens ↦ turn [] s | Out_of_phase ↦ turn [] s ])) (sym acts) (go (is_active w.phase) refl)
  where
    f : TxEvent
    f = TxEvent.Took p DialogueRecord.LeftEnd

    s : Transaction
    s = seen who arcs c

    w : Transaction
    w = with_row s p row_dead

    Fits : Turn → Type 0
    Fits a = (may_roll_back a.next ≡ false) × IsClosed f a

    below : is_under_at c.key p ≡ false
    below = on (is_under_at c.key p) refl
      where
        on : (b : Bool) → is_under_at c.key p ≡ b → b ≡ false
        on false i = refl
        on true i = absurd (left_row s p acts (none_holds arcs c.branches p (λ b. true) (apart.above p i)))

    go : (b : Bool) → is_active w.phase ≡ b → Fits (if b then and_then (branch_left p w) settle else and_then (end_branch p Report.None w) complete_rollback)
    go true i = let off : is_rolling (settle (branch_left p w).next).next.phase ≡ false = settled_calm (branch_left p w).next (left_active p w i) in (calm (settle (branch_left p w).next).next off, λ q on rolls. absurd (cc (rolls, off)))
    go false i = (
      prompt_rollback (end_branch p Report.None w).next,
      closed_at f (and_then (end_branch p Report.None w) complete_rollback) p (λ q on. number_is p q on) (fewer_cut p w (complete_rollback (end_branch p Report.None w).next).next (fewer_then w (end_branch p Report.None w).next (complete_rollback (end_branch p Report.None w).next).next (fewer_ended p Report.None w) (fewer_unrolled (end_branch p Report.None w).next)) (row_cut who arcs c p apart below)),
    )

waits_left : (who : Who) (d : Digest) (a : Arc) → IsLate d → AreApart d → Waits d → Waits (take_on who a DialogueRecord.LeftEnd d).next
waits_left who d a late apart old = go (sight_at who d a DialogueRecord.LeftEnd) refl
  where
    n : ℕ
    n = a.peer.node

    g : Digest
    g = counted DialogueRecord.LeftEnd n d

    h : Digest
    h = record g { arcs = with_dialogue g.arcs n cleared }

    f : TxEvent
    f = TxEvent.Took n DialogueRecord.LeftEnd

    acted : sight_at who d a DialogueRecord.LeftEnd ≡ Acts → (o : Option Current) → d.current ≡ o → Waits (transact who f h).next
    acted i None j = absurd (no_acting who d a DialogueRecord.LeftEnd refl j i)
    acted i (Some c) j =
        let k = left_closed who h.arcs c n (apart c j) (same_sight who h.arcs d.arcs c n DialogueRecord.LeftEnd refl ∙ sight_now who d a c DialogueRecord.LeftEnd refl j i) in
        transact_waits who f h c (counted_current DialogueRecord.LeftEnd n d ∙ j) (took_put n DialogueRecord.LeftEnd (seen who h.arcs c) (late c j)) k.1 k.0

    go : (v : Sight) → sight_at who d a DialogueRecord.LeftEnd ≡ v → Waits (elim v as (λ _. Move) [ Acts ↦ take_record who a DialogueRecord.LeftEnd g | Nothing_happens ↦ move [] g | Out_of_phase ↦ move [] g ]).next
    go Acts i = acted i d.current refl
    go Nothing_happens i = waits_counted DialogueRecord.LeftEnd n d old
    go Out_of_phase i = waits_counted DialogueRecord.LeftEnd n d old

waits_broken : (who : Who) (d : Digest) (from : Addr) (r : PeerRecord) → IsLate d → Waits d → Waits (break_off who from r d).next
unfolding break_off
waits_broken who d from r late old = go (broken_pair r)
  where
    go : (o : Option (Mark × Mark)) → Waits (elim o as (λ _. Move) [ None ↦ move [] d | Some xy ↦ followed (perform (TxOut.Recovery from (PeerRecord.ShutAssoc xy.0 (Some xy.1)) ∷ []) d) (lose who from.node) ]).next
    go None = old
    go (Some xy) = waits_lost who from.node d late

waits_taken : (who : Who) (d : Digest) (from : Addr) (r : DialogueRecord) → ((a : Arc) → find_arc d.arcs from.node ≡ Some a → Waits (take_on who a r d).next) → Waits d → Waits (elim (find_arc d.arcs from.node) as (λ _. Move) [ None ↦ move [] d | Some a ↦ take_on who a r d ]).next
waits_taken who d from r on old = go (find_arc d.arcs from.node) refl
  where
    go : (o : Option Arc) → find_arc d.arcs from.node ≡ o → Waits (elim o as (λ _. Move) [ None ↦ move [] d | Some a ↦ take_on who a r d ]).next
    go None i = old
    go (Some a) i = on a i

-- ---- every event

-- it may end an association
data Closing (who : Who) (d : Digest) (e : Event) : Type 0 where
  Ends : Waits (action who d e).next → Closing who d e
  Ends_none : ((p : ℕ) → closes_at e p ≡ false) → Closing who d e

closing_event : (who : Who) (d : Digest) (e : Event) → refusal who d e ≡ None → IsLate d → AreApart d → Waits d → Closing who d e
closing_event who d (Event.Do (Request.EndDialogue p)) ok late apart old = Ends (waits_closed who d p DialogueRecord.EndDialogue apart (end_free who d p (plain_request who d (Request.EndDialogue p) ok)) old)
closing_event who d (Event.Do (Request.UAbort p)) ok late apart old = Ends (waits_abort who d p (plain_request who d (Request.UAbort p) ok) late apart old)
closing_event who d (Event.Do Request.Reject) ok late apart old = Ends (waits_rejected who d ok old)
closing_event who d (Event.Arrive from (PeerRecord.ShutAssoc x None)) ok late apart old = Ends (waits_shut who d from.node (opening_dead who d from x (plain_arrival who d from (PeerRecord.ShutAssoc x None) ok)) old)
closing_event who d (Event.Arrive from (PeerRecord.ShutAssoc x (Some y))) ok late apart old = Ends (waits_lost who from.node d late)
closing_event who d (Event.Arrive from (PeerRecord.OnAssoc x y q DialogueRecord.EndDialogue)) ok late apart old =
    Ends (waits_taken who d from DialogueRecord.EndDialogue (λ a i. waits_ended who d a (in_phase who d from x y q DialogueRecord.EndDialogue a (plain_arrival who d from (PeerRecord.OnAssoc x y q DialogueRecord.EndDialogue) ok) i) apart old) old)
closing_event who d (Event.Arrive from (PeerRecord.OnAssoc x y q DialogueRecord.UAbort)) ok late apart old = Ends (waits_taken who d from DialogueRecord.UAbort (λ a i. waits_took_abort who d a late) old)
closing_event who d (Event.Arrive from (PeerRecord.OnAssoc x y q DialogueRecord.LeftEnd)) ok late apart old = Ends (waits_taken who d from DialogueRecord.LeftEnd (λ a i. waits_left who d a late apart old) old)
closing_event who d (Event.Break from r) ok late apart old = Ends (waits_broken who d from r late old)
closing_event who d (Event.Lose p) ok late apart old = Ends (waits_lost who p d late)
closing_event who d (Event.GiveUp p) ok late apart old = Ends (waits_given who d p ok late)
closing_event who d e ok late apart old = Ends_none (λ p. refl)

-- a start gives back no transaction that rolls back
dormant : (v : Option Current) (c : Current) → recovered_current v ≡ Some c → is_rolling c.phase ≡ false
dormant None c is = absurd (cc (is))
dormant (Some x) c is = grind (arith, is)

fresh_start : (o : Origin) → o.start.records ≡ [] → is_start o ≡ true
fresh_start o h = rw (h, is_start) refl

waits_entry : (o : Origin) (up : Option Addr) (e : Entry) (h : List Entry) → o.start.records ≡ [] → IsGrown o up (e ∷ h) → Waits (digest o h) → Waits (digest o (e ∷ h))
unfolding after_crash
waits_entry o up e h empty legal old = go (entered o e h legal.0) (closing_event o.who d e.event legal.0 late apart old)
  where
    d : Digest
    d = digest o h

    s : Digest
    s = prelude o.who d e.event

    late : IsLate d
    late = late_law o up h legal.3

    apart : AreApart d
    apart c is = let k = among_law o up h c (record { start = fresh_start o empty; grown = legal.3 }) (empty_apart o empty) is in record { distinct = k.distinct; above = k.apart }

    on : ((p : ℕ) → closes_at e.event p ≡ false) → Waits s → Waits (action o.who d e.event).next
    on off first = step_move o.who d e.event (λ g m. Waits g → Waits m.next) (waits_steps o.who e.event s off) late legal.0 first

    go : Entered o e h → Closing o.who d e.event → Waits (action o.who d e.event).next
    go (Crashed i) k = subst (λ (v : Event). Waits (action o.who d v).next) (sym i) (not_rolling (after_crash d) (λ u is. dormant d.current u is))
    go x (Ends k) = k
    go (Begun from t n a begun c cur nil quiet sent) (Ends_none off) = on off (not_rolling s (λ u is. let same = some_same (fresh_current (Under t n a.peer)) u (sym cur ∙ is) in ap (λ (v : Current). is_rolling v.phase) (sym same)))
    go (Plain c begun same) (Ends_none off) = on off (linked_waits d s same (λ u p is rolls wait live. live_kept o.who d e.event p legal.0 c live) old)

pub waits_law : (o : Origin) (up : Option Addr) (h : List Entry) → o.start.records ≡ [] → IsGrown o up h → Waits (digest o h)
waits_law o up [] empty legal = none_waits (digest o []) (current_none o empty)
waits_law o up (e ∷ h) empty legal = waits_entry o up e h empty legal (waits_law o up h empty legal.3)

pub rollbacks_wait : RollbacksWait
rollbacks_wait es x here = waits_law x.origin x.superior x.history ((good_run es).fresh (number_of x) x here) ((good_run es).legal (number_of x) x here)
