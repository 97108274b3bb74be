-- In every legal history the arc of a branch that has not answered is live while its transaction is active: an event that ends
-- the association rolls the transaction back, or the branch has left.
use Rattle.tp_history_state.proofs.Vocabulary.{if◌then◌else◌, ◌≡◌, ℕ, Bool, true, false, refl, ap, sym, subst, ◌∙◌, arith, Option, Some, None, List, [], ◌∷◌, ◌&&◌, ◌||◌, ◌==◌, not, nat_tests, Mark, Addr, Report, Request, Indication, DialogueRecord, PeerRecord, TxEvent, TxOut, Phase, Who, Origin, Event, Entry, Link, Idle, Arc, Under, Current, Digest, is_active, is_rolling, is_live, with_one_taken, Sight, Acts, Nothing_happens, Out_of_phase, cleared, find_arc, link_with, is_live_with_peer, without_arc, with_dialogue, Row, Transaction, Turn, turn, and_then, is_under_at, find_row, put_row, row_holds, with_row, with_arc_lost, begin_rolling, complete_rollback, complete_commit, roll, settle, branch_left, end_branch, takes, takes_left, transacted, sight_of_tx, situation_of, refused_tx, Move, move, followed, perform, situation_at, seen, turned, transact, fresh_current, refused_request, refused_on_arc, abort, reject, sight_at, sight_of, arrived, take_record, take_abort, take_on, lose, break_off, broken_pair, refused_arrival, refusal, action, after_crash, recovered_current, digest, IsLegal, IsLate, closes_at, prelude, plain_request, plain_arrival, plain_give_up, abort_sight, find_arc_is, late_law, left_is, row_phase, some_same, step_move, started_again, Entered, Begun, Crashed, Plain}
use Rattle.tp_model.specs.Transactions.{give_up, is_waited_for}
unfoldable use Rattle.tp_model.specs.Transactions.{lost_arc}
use Rattle.tp_histories.proofs.trees.Entered.{entered}
use Rattle.tp_history_state.proofs.orders.Rolled.{nothing_there}
use Rattle.tp_history_state.specs.Reaching.{is_pending, marked, IsReached}
use Rattle.tp_history_state.proofs.marks.BranchMark.{left_marked, lost_same, row_put, rows_settled, seen_marked}
use Rattle.tp_history_state.proofs.marks.Taken.{no_acting, same_sight, sight_now}
use Rattle.tp_history_state.proofs.deferral.Deferral.{counted}
use Rattle.tp_history_state.proofs.links.Link.{counted_link, IsRefused, refused_link, transact_so}
use Rattle.tp_history_state.proofs.links.LinkBy.{live_kept}
use Rattle.tp_history_state.proofs.prepares.Pending.{reached_start, reached_steps}

-- ---- a turn

gone_roll : (asked : Bool) (t : Transaction) → is_active (roll asked t).next.phase ≡ false
unfolding begin_rolling complete_rollback
gone_roll asked t = grind arith

narrow : (rows : List Row) (p : ℕ) → row_holds rows p is_waited_for ≡ false → row_holds rows p is_pending ≡ false
narrow rows p h = go (find_row rows p) h
  where
    go : (o : Option Row) → elim o as (λ _. Bool) [ None ↦ false | Some r ↦ is_waited_for r.branch ] ≡ false → elim o as (λ _. Bool) [ None ↦ false | Some r ↦ is_pending r.branch ] ≡ false
    go None h = refl
    go (Some r) h = grind (arith, h)

unrolled : (t : Transaction) → is_active t.phase ≡ false → is_active (complete_rollback t).next.phase ≡ false
unfolding complete_rollback
unrolled t off = grind (arith, off)

uncommitted : (t : Transaction) → is_active t.phase ≡ false → is_active (complete_commit t).next.phase ≡ false
unfolding complete_commit
uncommitted t off = grind (arith, off)

lost_phase : (t : Transaction) (q : ℕ) → (with_arc_lost t q).phase ≡ t.phase
lost_phase t q = grind (arith, row_phase)

-- no branch with the peer is left that has not answered, where the transaction is active
abbrev IsGone : ℕ → Turn → Type 0
IsGone p a = is_active a.next.phase ≡ true → row_holds a.next.rows p is_pending ≡ false

gone_lost : (p : ℕ) (t : Transaction) → IsGone p (lost_arc p t)
unfolding lost_arc
gone_lost p t = go (is_active t.phase) refl (is_under_at t.key p || row_holds t.rows p is_waited_for) refl (is_rolling t.phase) refl
  where
    gone : Transaction
    gone = with_arc_lost t p

    either : (a b : Bool) → (a || b) ≡ false → b ≡ false
    either a b h = grind (arith, h)

    sunk : (q : Phase) → is_rolling q ≡ true → is_active q ≡ false
    sunk q h = grind (arith, h)

    go : (a : Bool) → is_active t.phase ≡ a → (b : Bool) → (is_under_at t.key p || row_holds t.rows p is_waited_for) ≡ b → (c : Bool) → is_rolling t.phase ≡ c → IsGone p (if a && b then roll false gone else if c then complete_rollback gone else turn [] gone)
    go true i true j c k act = absurd (let off = gone_roll false gone in cc (act, off))
    go true i false j true k act = absurd (let off : is_active (complete_rollback gone).next.phase ≡ false = unrolled gone (ap is_active (lost_phase t p) ∙ sunk t.phase k) in cc (act, off))
    go true i false j false k act = lost_same is_pending p t p ∙ narrow t.rows p (either (is_under_at t.key p) (row_holds t.rows p is_waited_for) j)
    go false i b j true k act = absurd (let off : is_active (complete_rollback gone).next.phase ≡ false = unrolled gone (ap is_active (lost_phase t p) ∙ i) in cc (act, off))
    go false i b j false k act = absurd (let off : is_active gone.phase ≡ false = ap is_active (lost_phase t p) ∙ i in cc (act, off))

put_off : (t : Transaction) (p : ℕ) (f : Row → Row) → ((r : Row) → (f r).branch.peer.node ≡ r.branch.peer.node) → ((r : Row) → is_pending (f r).branch ≡ false) → row_holds (with_row t p f).rows p is_pending ≡ false
put_off t p f peer k = go (find_row t.rows p) refl
  where
    self : (p == p) ≡ true
    self = grind (arith, nat_tests)

    go : (v : Option Row) → find_row t.rows p ≡ v → row_holds (with_row t p f).rows p is_pending ≡ false
    go None i =
        ap (λ (v : Option Row). row_holds (elim v as (λ _. Transaction) [ None ↦ t | Some x ↦ record t { rows = put_row t.rows (f x) } ]).rows p is_pending) i
        ∙ ap (λ (v : Option Row). elim v as (λ _. Bool) [ None ↦ false | Some x ↦ is_pending x.branch ]) i
    go (Some r) i = row_put is_pending p t p f peer r i ∙ ap (λ (b : Bool). if b then is_pending (f r).branch else row_holds t.rows p is_pending) self ∙ k r

gone_left : (p : ℕ) (t : Transaction) → IsGone p (takes_left p t)
unfolding branch_left end_branch
gone_left p t = go (is_active t.phase) refl
  where
    leaves : Row → Row
    leaves r = record r { branch = record r.branch { left = true } }

    never : (a b c : Bool) → not (a || true || c) ≡ false
    never a b c = grind arith

    go : (b : Bool) → is_active t.phase ≡ b → IsGone p (if b then and_then (branch_left p t) settle else and_then (end_branch p Report.None t) complete_rollback)
    go true i act = ap (λ (rows : List Row). row_holds rows p is_pending) (rows_settled (branch_left p t).next) ∙ put_off t p leaves (λ r. refl) (λ r. never r.branch.counted false r.branch.ended)
    go false i act =
        absurd (let off : is_active (complete_rollback (end_branch p Report.None t).next).next.phase ≡ false = unrolled (end_branch p Report.None t).next (ap is_active (row_phase t p (λ r. record r { branch = record r.branch { ended = true; report = Report.None } })) ∙ i) in cc (act, off))

gone_given : (p : ℕ) (t : Transaction) → refused_tx (TxEvent.GiveUp p) t ≡ None → IsGone p (give_up p t)
unfolding refused_tx
gone_given p t ok = go (find_row t.rows p)
  where
    f : Row → Row
    f q = record q { branch = record q.branch { given_up = true }; live = false; ends = false }

    late : is_active t.phase ≡ false
    late = grind (arith, ok)

    go : (o : Option Row) → IsGone p (elim o as (λ _. Turn) [ None ↦ turn [] t | Some r ↦ and_then (turn (if r.live then TxOut.Shut p ∷ [] else []) (with_row t p f)) complete_commit ])
    go None act = absurd (cc (act, late))
    go (Some r) act = absurd (let off : is_active (complete_commit (with_row t p f)).next.phase ≡ false = uncommitted (with_row t p f) (ap is_active (row_phase t p f) ∙ late) in cc (act, off))

gone_aborted : (p : ℕ) (t : Transaction) → IsGone p (transacted (TxEvent.Took p DialogueRecord.UAbort) t)
unfolding sight_of_tx
gone_aborted p t = gone_lost p t

gone_closed : (p : ℕ) (t : Transaction) → sight_of_tx t p DialogueRecord.LeftEnd ≡ Acts → IsGone p (transacted (TxEvent.Took p DialogueRecord.LeftEnd) t)
gone_closed p t acts =
    subst (λ (v : Sight). IsGone p (elim v as (λ _. Turn) [ Acts ↦ takes p DialogueRecord.LeftEnd t | Nothing_happens ↦ turn [] t | Out_of_phase ↦ turn [] t ])) (sym acts)
    (gone_left p (with_row t p (λ r. record r { live = false; ends = false })))

-- ---- at the node

reached_gone : (who : Who) (f : TxEvent) (g : Digest) (c : Current) (p : ℕ) → g.current ≡ Some c → IsGone p (transacted f (seen who g.arcs c)) → IsReached p (transact who f g).next
reached_gone who f g c p now gone = transact_so (λ m. IsReached p m.next) who f g c now here (reached_start who p (turned who f g c).next here)
  where
    a : Turn
    a = transacted f (seen who g.arcs c)

    here : IsReached p (turned who f g c).next
    here u is act wait =
        absurd (let on : row_holds a.next.rows p is_pending ≡ true = sym (left_marked is_pending p a.next u is) ∙ wait in let off : row_holds a.next.rows p is_pending ≡ false = gone (ap is_active (sym (left_is a.next u is).1) ∙ act) in cc (on, off))

reached_none : (p : ℕ) (d : Digest) → d.current ≡ None → IsReached p d
reached_none p d none u is act wait = absurd (let no : None ≡ Some u = sym none ∙ is in cc (no))

reached_lost : (who : Who) (p : ℕ) (d : Digest) → IsReached p (lose who p d).next
unfolding lose
reached_lost who p d = go d.current refl
  where
    gone : Digest
    gone = record d { arcs = without_arc d.arcs p }

    go : (o : Option Current) → d.current ≡ o → IsReached p (elim o as (λ _. Move) [ None ↦ perform (TxOut.Tell (Indication.PAbort p) ∷ []) gone | Some c ↦ transact who (TxEvent.Lost p) gone ]).next
    go None i = reached_none p gone i
    go (Some c) i = reached_gone who (TxEvent.Lost p) gone c p i (gone_lost p (seen who gone.arcs c))

-- a branch that has not answered makes its arc one of the transaction's
is_branch : (who : Who) (d : Digest) (c : Current) (p : ℕ) → d.current ≡ Some c → marked is_pending p c ≡ true → ((situation_at who d p).branch ≡ true) × ((situation_at who d p).done ≡ false) × ((situation_at who d p).left ≡ false)
unfolding situation_of
is_branch who d c p now wait = rw (now, situation_at) (go (find_row (seen who d.arcs c).rows p) (seen_marked is_pending p who d.arcs c ∙ wait))
  where
    go : (o : Option Row) → elim o as (λ _. Bool) [ None ↦ false | Some r ↦ is_pending r.branch ] ≡ true
        → ((is_under_at c.key p || elim o as (λ _. Bool) [ None ↦ false | Some r ↦ true ]) ≡ true) × (elim o as (λ _. Bool) [ None ↦ false | Some r ↦ r.branch.ended ] ≡ false) × (elim o as (λ _. Bool) [ None ↦ false | Some r ↦ r.branch.left ] ≡ false)
    go None h = absurd (cc (h))
    go (Some r) h = (grind arith, grind (arith, h), grind (arith, h))

no_end : (who : Who) (d : Digest) (p : ℕ) → refused_request who d (Request.EndDialogue p) ≡ None → (situation_at who d p).branch ≡ true → ⊥
unfolding refused_request refused_on_arc
no_end who d p ok branch = go (find_arc d.arcs p) refl
  where
    go : (o : Option Arc) → find_arc d.arcs p ≡ o → ⊥
    go None i = absurd (grind (arith, ok, i))
    go (Some a) i = absurd (grind (arith, ok, i, branch))

reject_current : (d : Digest) → (reject d).next.current ≡ d.current
unfolding reject
reject_current d = grind arith

pub offered_dead : (who : Who) (d : Digest) (a : Addr) → refused_request who d Request.Reject ≡ None → d.superior ≡ Some a → is_live_with_peer d.arcs a.node ≡ false
unfolding refused_request
offered_dead who d a ok up = grind (arith, ok, up)

reached_rejected : (who : Who) (d : Digest) (p : ℕ) → refusal who d (Event.Do Request.Reject) ≡ None → IsReached p d → IsReached p (reject d).next
reached_rejected who d p ok old u is act wait = go (k.top.node == p) refl
  where
    k : IsRefused who d p
    k = refused_link who d p ok

    live : is_live_with_peer d.arcs p ≡ true
    live = old u (sym (reject_current d) ∙ is) act wait

    go : (b : Bool) → (k.top.node == p) ≡ b → is_live_with_peer (reject d).next.arcs p ≡ true
    go true i =
        absurd (let at : k.top.node ≡ p = grind (arith, nat_tests, i) in
        let dead : is_live_with_peer d.arcs p ≡ false = ap (is_live_with_peer d.arcs) (sym at) ∙ offered_dead who d k.top (plain_request who d Request.Reject ok) k.superior in
        cc (live, dead))
    go false i = ap is_live (k.link ∙ rw i refl) ∙ live

opening_dead : (who : Who) (d : Digest) (from : Addr) (x : Mark) → refused_arrival who d from (PeerRecord.ShutAssoc x None) ≡ None → is_live_with_peer d.arcs from.node ≡ false
unfolding refused_arrival
opening_dead who d from x ok = go (find_arc d.arcs from.node) refl
  where
    on : (a : Arc) → find_arc d.arcs from.node ≡ Some a → (l : Link) → a.link ≡ l → is_live l ≡ false
    on a i (Link.Live z w s t) j = absurd (grind (arith, ok, i, j))
    on a i l j = refl

    go : (o : Option Arc) → find_arc d.arcs from.node ≡ o → is_live_with_peer d.arcs from.node ≡ false
    go None i = rw (i, link_with) refl
    go (Some a) i = rw (i, link_with) (on a i a.link refl)

-- ---- records on the association

live_taken : (l : Link) → is_live l ≡ true → is_live (with_one_taken l) ≡ true
live_taken Idle h = h
live_taken _ h = h

counted_current : (r : DialogueRecord) (n : ℕ) (d : Digest) → (counted r n d).current ≡ d.current
counted_current r n d = grind arith

reached_counted : (r : DialogueRecord) (n p : ℕ) (d : Digest) → IsReached p d → IsReached p (counted r n d)
reached_counted r n p d old u is act wait = ap is_live (counted_link r n p d) ∙ go (n == p) (old u (sym (counted_current r n d) ∙ is) act wait)
  where
    go : (b : Bool) → is_live_with_peer d.arcs p ≡ true → is_live (if b then with_one_taken (link_with d.arcs p) else link_with d.arcs p) ≡ true
    go true h = live_taken (link_with d.arcs p) h
    go false h = h

pub in_phase : (who : Who) (d : Digest) (from : Addr) (x y : Mark) (q : ℕ) (r : DialogueRecord) (a : Arc) → refused_arrival who d from (PeerRecord.OnAssoc x y q r) ≡ None → find_arc d.arcs from.node ≡ Some a → sight_at who d a r ≡ Out_of_phase → ⊥
unfolding refused_arrival
in_phase who d from x y q r a ok found out = absurd (grind (arith, ok, found, out))

pub end_out : (who : Who) (d : Digest) (a : Arc) → (situation_at who d a.peer.node).branch ≡ true → (situation_at who d a.peer.node).done ≡ false → (situation_at who d a.peer.node).left ≡ false → sight_at who d a DialogueRecord.EndDialogue ≡ Out_of_phase
unfolding sight_of arrived
end_out who d a b n l = grind (arith, b, n, l)

reached_end : (who : Who) (d : Digest) (from : Addr) (x y : Mark) (q : ℕ) (a : Arc) (p : ℕ) → refused_arrival who d from (PeerRecord.OnAssoc x y q DialogueRecord.EndDialogue) ≡ None → find_arc d.arcs from.node ≡ Some a → a.peer.node ≡ p → IsReached p (take_on who a DialogueRecord.EndDialogue d).next
reached_end who d from x y q a p ok found at u is act wait =
    let k = is_branch who d u a.peer.node (sym same ∙ is) (ap (λ (n : ℕ). marked is_pending n u) at ∙ wait) in
    absurd (in_phase who d from x y q DialogueRecord.EndDialogue a ok found (end_out who d a k.0 k.1 k.2))
  where
    go : (v : Sight) → (elim v as (λ _. Move) [ Acts ↦ take_record who a DialogueRecord.EndDialogue (counted DialogueRecord.EndDialogue a.peer.node d) | Nothing_happens ↦ move [] (counted DialogueRecord.EndDialogue a.peer.node d) | Out_of_phase ↦ move [] (counted DialogueRecord.EndDialogue a.peer.node d) ]).next.current ≡ d.current
    go Acts = counted_current DialogueRecord.EndDialogue a.peer.node d
    go Nothing_happens = counted_current DialogueRecord.EndDialogue a.peer.node d
    go Out_of_phase = counted_current DialogueRecord.EndDialogue a.peer.node d

    same : (take_on who a DialogueRecord.EndDialogue d).next.current ≡ d.current
    same = go (sight_at who d a DialogueRecord.EndDialogue)

reached_abort : (who : Who) (n : ℕ) (g : Digest) → IsReached n (take_abort who n g).next
unfolding take_abort
reached_abort who n g = go g.current refl
  where
    gone : Digest
    gone = record g { arcs = without_arc g.arcs n }

    go : (o : Option Current) → g.current ≡ o → IsReached n (elim o as (λ _. Move) [ None ↦ perform (TxOut.Tell (Indication.UAbort n) ∷ []) gone | Some c ↦ transact who (TxEvent.Took n DialogueRecord.UAbort) gone ]).next
    go None i = reached_none n gone i
    go (Some c) i = reached_gone who (TxEvent.Took n DialogueRecord.UAbort) gone c n i (gone_aborted n (seen who gone.arcs c))

reached_aborted : (who : Who) (d : Digest) (a : Arc) (p : ℕ) → a.peer.node ≡ p → IsReached p (take_on who a DialogueRecord.UAbort d).next
reached_aborted who d a p at =
    subst (λ (n : ℕ). IsReached n (take_on who a DialogueRecord.UAbort d).next) at
    (subst (λ (v : Sight). IsReached a.peer.node (elim v as (λ _. Move) [ Acts ↦ take_record who a DialogueRecord.UAbort g | Nothing_happens ↦ move [] g | Out_of_phase ↦ move [] g ]).next) (sym (abort_sight who d a)) (reached_abort who a.peer.node g))
  where
    g : Digest
    g = counted DialogueRecord.UAbort a.peer.node d

reached_left : (who : Who) (d : Digest) (a : Arc) (p : ℕ) → a.peer.node ≡ p → IsReached p d → IsReached p (take_on who a DialogueRecord.LeftEnd d).next
reached_left who d a p at old = go (sight_at who d a DialogueRecord.LeftEnd) refl
  where
    g : Digest
    g = counted DialogueRecord.LeftEnd a.peer.node d

    h : Digest
    h = record g { arcs = with_dialogue g.arcs a.peer.node cleared }

    acted : sight_at who d a DialogueRecord.LeftEnd ≡ Acts → (o : Option Current) → d.current ≡ o → IsReached a.peer.node (transact who (TxEvent.Took a.peer.node DialogueRecord.LeftEnd) h).next
    acted i None j = absurd (no_acting who d a DialogueRecord.LeftEnd refl j i)
    acted i (Some c) j =
        reached_gone who (TxEvent.Took a.peer.node DialogueRecord.LeftEnd) h c a.peer.node (counted_current DialogueRecord.LeftEnd a.peer.node d ∙ j)
        (gone_closed a.peer.node (seen who h.arcs c) (same_sight who h.arcs d.arcs c a.peer.node DialogueRecord.LeftEnd refl ∙ sight_now who d a c DialogueRecord.LeftEnd refl j i))

    go : (v : Sight) → sight_at who d a DialogueRecord.LeftEnd ≡ v → IsReached p (elim v as (λ _. Move) [ Acts ↦ take_record who a DialogueRecord.LeftEnd g | Nothing_happens ↦ move [] g | Out_of_phase ↦ move [] g ]).next
    go Acts i = subst (λ (n : ℕ). IsReached n (transact who (TxEvent.Took a.peer.node DialogueRecord.LeftEnd) h).next) at (acted i d.current refl)
    go Nothing_happens i = reached_counted DialogueRecord.LeftEnd a.peer.node p d old
    go Out_of_phase i = reached_counted DialogueRecord.LeftEnd a.peer.node p d old

-- ---- every event that ends the association

number_is : (m n : ℕ) → (m == n) ≡ true → m ≡ n
number_is m n h = grind (arith, nat_tests, h)

reached_user_abort : (who : Who) (d : Digest) (p : ℕ) → IsReached p (abort who p d).next
unfolding abort
reached_user_abort who d p = go (situation_at who d p).branch refl
  where
    other : Digest
    other = (perform (TxOut.Carry p DialogueRecord.UAbort ∷ TxOut.Close p ∷ []) d).next

    on : (o : Option Current) → d.current ≡ o → IsReached p (transact who (TxEvent.User (Request.UAbort p)) d).next
    on None i = reached_none p (transact who (TxEvent.User (Request.UAbort p)) d).next (nothing_there who (TxEvent.User (Request.UAbort p)) d i)
    on (Some c) i = reached_gone who (TxEvent.User (Request.UAbort p)) d c p i (λ act. absurd (let off = gone_roll true (with_arc_lost (seen who d.arcs c) p) in cc (act, off)))

    go : (b : Bool) → (situation_at who d p).branch ≡ b → IsReached p (if b then transact who (TxEvent.User (Request.UAbort p)) d else perform (TxOut.Carry p DialogueRecord.UAbort ∷ TxOut.Close p ∷ []) d).next
    go true i = on d.current refl
    go false i = λ u is act wait. absurd (let on : (situation_at who d p).branch ≡ true = (is_branch who d u p is wait).0 in cc (on, i))

reached_given : (who : Who) (d : Digest) (p : ℕ) → refusal who d (Event.GiveUp p) ≡ None → IsReached p (transact who (TxEvent.GiveUp p) d).next
reached_given who d p ok = go d.current refl
  where
    go : (o : Option Current) → d.current ≡ o → IsReached p (transact who (TxEvent.GiveUp p) d).next
    go None i = reached_none p (transact who (TxEvent.GiveUp p) d).next (nothing_there who (TxEvent.GiveUp p) d i)
    go (Some c) i = reached_gone who (TxEvent.GiveUp p) d c p i (gone_given p (seen who d.arcs c) (plain_give_up who d p c ok i))

reached_broken : (who : Who) (d : Digest) (from : Addr) (r : PeerRecord) → IsReached from.node d → IsReached from.node (break_off who from r d).next
unfolding break_off
reached_broken who d from r old = go (broken_pair r)
  where
    go : (o : Option (Mark × Mark)) → IsReached from.node (elim o as (λ _. Move) [ None ↦ move [] d | Some xy ↦ followed (perform (TxOut.Recovery from (PeerRecord.ShutAssoc xy.0 (Some xy.1)) ∷ []) d) (lose who from.node) ]).next
    go None = old
    go (Some xy) = reached_lost who from.node d

reached_taken : (who : Who) (d : Digest) (from : Addr) (r : DialogueRecord) (p : ℕ) → ((a : Arc) → find_arc d.arcs from.node ≡ Some a → IsReached p (take_on who a r d).next) → IsReached p d → IsReached p (elim (find_arc d.arcs from.node) as (λ _. Move) [ None ↦ move [] d | Some a ↦ take_on who a r d ]).next
reached_taken who d from r p on old = go (find_arc d.arcs from.node) refl
  where
    go : (o : Option Arc) → find_arc d.arcs from.node ≡ o → IsReached p (elim o as (λ _. Move) [ None ↦ move [] d | Some a ↦ take_on who a r d ]).next
    go None i = old
    go (Some a) i = on a i

reached_closed : (who : Who) (d : Digest) (e : Event) (p : ℕ) → refusal who d e ≡ None → closes_at e p ≡ true → IsReached p d → IsReached p (action who d e).next
reached_closed who d (Event.Do (Request.EndDialogue q)) p ok at old = λ u is act wait.
    absurd (no_end who d q (plain_request who d (Request.EndDialogue q) ok) (is_branch who d u q is (ap (λ (n : ℕ). marked is_pending n u) (number_is q p at) ∙ wait)).0)
reached_closed who d (Event.Do (Request.UAbort q)) p ok at old = subst (λ (n : ℕ). IsReached n (abort who q d).next) (number_is q p at) (reached_user_abort who d q)
reached_closed who d (Event.Do Request.Reject) p ok at old = reached_rejected who d p ok old
reached_closed who d (Event.Arrive from (PeerRecord.ShutAssoc x None)) p ok at old = λ u is act wait.
    absurd (let live : is_live_with_peer d.arcs p ≡ true = old u is act wait in
    let dead : is_live_with_peer d.arcs p ≡ false = ap (is_live_with_peer d.arcs) (sym (number_is from.node p at)) ∙ opening_dead who d from x (plain_arrival who d from (PeerRecord.ShutAssoc x None) ok) in
    cc (live, dead))
reached_closed who d (Event.Arrive from (PeerRecord.ShutAssoc x (Some y))) p ok at old = subst (λ (n : ℕ). IsReached n (lose who from.node d).next) (number_is from.node p at) (reached_lost who from.node d)
reached_closed who d (Event.Arrive from (PeerRecord.OnAssoc x y q DialogueRecord.EndDialogue)) p ok at old =
    reached_taken who d from DialogueRecord.EndDialogue p (λ a i. reached_end who d from x y q a p (plain_arrival who d from (PeerRecord.OnAssoc x y q DialogueRecord.EndDialogue) ok) i (find_arc_is d.arcs from.node a i ∙ number_is from.node p at)) old
reached_closed who d (Event.Arrive from (PeerRecord.OnAssoc x y q DialogueRecord.UAbort)) p ok at old =
    reached_taken who d from DialogueRecord.UAbort p (λ a i. reached_aborted who d a p (find_arc_is d.arcs from.node a i ∙ number_is from.node p at)) old
reached_closed who d (Event.Arrive from (PeerRecord.OnAssoc x y q DialogueRecord.LeftEnd)) p ok at old =
    reached_taken who d from DialogueRecord.LeftEnd p (λ a i. reached_left who d a p (find_arc_is d.arcs from.node a i ∙ number_is from.node p at) old) old
reached_closed who d (Event.Break from r) p ok at old = subst (λ (n : ℕ). IsReached n (break_off who from r d).next) (number_is from.node p at) (reached_broken who d from r (subst (λ (n : ℕ). IsReached n d) (sym (number_is from.node p at)) old))
reached_closed who d (Event.Lose q) p ok at old = subst (λ (n : ℕ). IsReached n (lose who q d).next) (number_is q p at) (reached_lost who q d)
reached_closed who d (Event.GiveUp q) p ok at old = subst (λ (n : ℕ). IsReached n (transact who (TxEvent.GiveUp q) d).next) (number_is q p at) (reached_given who d q ok)
reached_closed who d e p ok at old = absurd (cc (at))

-- ---- every legal history

-- a start gives back no active transaction
dormant : (v : Option Current) (c : Current) → recovered_current v ≡ Some c → is_active c.phase ≡ true → ⊥
dormant None c is act = absurd (cc (is))
dormant (Some x) c is act = absurd (grind (arith, is, act))

reached_entry : (o : Origin) (up : Option Addr) (e : Entry) (h : List Entry) (p : ℕ) → IsLegal o up (e ∷ h) → IsReached p (digest o h) → IsReached p (digest o (e ∷ h))
unfolding after_crash
reached_entry o up e h p legal old = go (entered o e h legal.grown.0) (closes_at e.event p) refl
  where
    d : Digest
    d = digest o h

    s : Digest
    s = prelude o.who d e.event

    late : IsLate d
    late = late_law o up h legal.grown.3

    on : closes_at e.event p ≡ false → IsReached p s → IsReached p (action o.who d e.event).next
    on off first = step_move o.who d e.event (λ g m. IsReached p g → IsReached p m.next) (reached_steps o.who e.event s p off) late legal.grown.0 first

    go : Entered o e h → (b : Bool) → closes_at e.event p ≡ b → IsReached p (action o.who d e.event).next
    go (Crashed i) b j = subst (λ (v : Event). IsReached p (action o.who d v).next) (sym i) (λ u is act wait. absurd (dormant d.current u is act))
    go (Begun from t n a begun c cur nil quiet sent) true j = reached_closed o.who d e.event p legal.grown.0 j old
    go (Begun from t n a begun c cur nil quiet sent) false j = on j (λ u is act wait. absurd (let same = some_same (fresh_current (Under t n a.peer)) u (sym cur ∙ is) in let no : marked is_pending p u ≡ false = ap (marked is_pending p) (sym same) in cc (no, wait)))
    go (Plain c begun same) true j = reached_closed o.who d e.event p legal.grown.0 j old
    go (Plain c begun same) false j = on j (λ u is act wait. live_kept o.who d e.event p legal.grown.0 c (old u (sym same ∙ is) act wait))

pub reached_law : (o : Origin) (up : Option Addr) (h : List Entry) (p : ℕ) → IsLegal o up h → IsReached p (digest o h)
reached_law o up [] p legal = λ u is act wait. absurd (dormant (digest o []).current u (started_again o up u legal is) act)
reached_law o up (e ∷ h) p legal = reached_entry o up e h p legal (reached_law o up h p (record { start = legal.start; grown = legal.grown.3 }))
