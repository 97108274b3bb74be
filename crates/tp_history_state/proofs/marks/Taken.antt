-- In every legal history a branch of the current transaction was counted if its Ready acted since the key was begun, and left
-- if its leaving acted while the key was active.
use Rattle.tp_history_state.proofs.Vocabulary.{Bool, List, None, Option, Some, [], ap, arith, false, if◌then◌else◌, inl, inr, not, refl, subst, sym, true, ℕ, ◌&&◌, ◌==◌, ◌||◌, ◌∙◌, ◌∷◌, ◌≡◌, ◌≤◌, nat_tests, Addr, Mark, NodeKey, Report, DialogueRecord, PeerRecord, Acts, Nothing_happens, Out_of_phase, Sight, acts_nothing_or_out, acts_or_nothing, acts_or_out, cleared, is_active, is_committing, is_rolling, Arc, Branch, Current, Digest, Entry, Event, Key, Origin, Who, IsGrown, IsLegal, Move, move, seen, seen_rows, transact, turned, Row, Transaction, Turn, acts, count_branch, find_row, row_holds, sight_of_tx, takes, turn, transacted, with_row, and_then, branch_left, complete_rollback, end_branch, node_key, put_row, settle, takes_left, TxEvent, acting_from, is_record, is_left_record, action, refusal, digest, find_arc, with_dialogue, with_link, is_ready_record, is_active_in, left_in, sight_at, sight_of, take_on, take_record, woken_by, with_one_taken, Phase, IsPut, prelude, counted_agrees, left_agrees, is_left_word, row_dead, IsStep, find_arc_is, on_none, the, late_law, left_is, passed_turn, plain_arrival, before_it, key_law, key_self, find_put, row_is, row_phase}
use Rattle.tp_history_state.proofs.marks.Marked.{IsBranchMark, each_law, marked_law}
use Rattle.tp_history_state.specs.Reaching.{marked}
use Rattle.tp_history_state.proofs.marks.BranchMark.{IsMarking, hit_by, left_marked, row_put, rows_settled, unmarked, row_same, rows_unrolled, seen_marked}
use Rattle.tp_history_state.proofs.handshakes.TouchedEntry.{acting_is}
use Rattle.tp_history_state.proofs.orders.Told.{least, started_from}
use Rattle.tp_control.proofs.LedEvents.{seen_holds}
use Rattle.tp_histories.proofs.known.KnownPhase.{phase_at}

-- records of a branch that its transaction takes
abbrev pub is_taken : DialogueRecord → Bool
is_taken DialogueRecord.Ready = true
is_taken (DialogueRecord.Done r) = true
is_taken (DialogueRecord.RolledBack r) = true
is_taken DialogueRecord.Left = true
is_taken DialogueRecord.LeftEnd = true
is_taken _ = false

-- whether it acts is the same at all arcs
same_holds : (arcs later : List Arc) (c : Current) (p : ℕ) (f : Branch → Bool) → row_holds (seen_rows arcs c.branches) p f ≡ row_holds (seen_rows later c.branches) p f
same_holds arcs later c p f = seen_holds arcs c.branches p f ∙ sym (seen_holds later c.branches p f)

pub same_sight : (who : Who) (arcs later : List Arc) (c : Current) (p : ℕ) (r : DialogueRecord) → is_taken r ≡ true → sight_of_tx (seen who arcs c) p r ≡ sight_of_tx (seen who later c) p r
unfolding sight_of_tx
same_sight who arcs later c p DialogueRecord.Ready k = ap (λ (v : Bool). acts_nothing_or_out (is_active c.phase && v) (is_rolling c.phase)) (same_holds arcs later c p (λ b. b.prepared && not b.counted))
same_sight who arcs later c p (DialogueRecord.Done r) k = ap (λ (v : Bool). acts_or_nothing (is_committing c.phase && v)) (same_holds arcs later c p (λ b. not b.ended && not b.left))
same_sight who arcs later c p (DialogueRecord.RolledBack r) k = ap (λ (v : Bool). acts_or_nothing (is_rolling c.phase && v)) (same_holds arcs later c p (λ b. not b.ended && not b.left))
same_sight who arcs later c p DialogueRecord.Left k = ap acts_or_out (same_holds arcs later c p (λ b. is_active c.phase && b.prepared && not b.counted && not b.left || is_rolling c.phase && not b.ended && not b.left))
same_sight who arcs later c p DialogueRecord.LeftEnd k = ap acts_or_out (same_holds arcs later c p (λ b. is_active c.phase && b.prepared && not b.counted && not b.left || is_rolling c.phase && not b.ended && not b.left))
same_sight who arcs later c p r k = absurd (cc (k))

pub sight_now : (who : Who) (d : Digest) (a : Arc) (c : Current) (r : DialogueRecord) → is_taken r ≡ true → d.current ≡ Some c → sight_at who d a r ≡ Acts → sight_of_tx (seen who d.arcs c) a.peer.node r ≡ Acts
unfolding sight_of
sight_now who d a c r h1 h2 h3 = grind arith

pub no_acting : (who : Who) (d : Digest) (a : Arc) (r : DialogueRecord) → is_taken r ≡ true → d.current ≡ None → sight_at who d a r ≡ Acts → ⊥
unfolding sight_of
no_acting who d a r h1 h2 h3 = grind arith

-- the transaction takes it, over arcs that may have changed
record Taken (who : Who) (a : Arc) (r : DialogueRecord) (g : Digest) : Type 0 where
  after : Digest
  is : take_record who a r g ≡ transact who (TxEvent.Took a.peer.node r) after
  current : after.current ≡ g.current
  boot : after.boot ≡ g.boot
  drawn : after.drawn ≡ g.drawn

taken_by : (who : Who) (a : Arc) (r : DialogueRecord) (g : Digest) → is_taken r ≡ true → Taken who a r g
taken_by who a DialogueRecord.Ready g k = record { after = g; is = refl; current = refl; boot = refl; drawn = refl }
taken_by who a (DialogueRecord.Done r) g k = record { after = g; is = refl; current = refl; boot = refl; drawn = refl }
taken_by who a (DialogueRecord.RolledBack r) g k = record { after = g; is = refl; current = refl; boot = refl; drawn = refl }
taken_by who a DialogueRecord.Left g k = record { after = record g { arcs = with_dialogue g.arcs a.peer.node cleared }; is = refl; current = refl; boot = refl; drawn = refl }
taken_by who a DialogueRecord.LeftEnd g k = record { after = record g { arcs = with_dialogue g.arcs a.peer.node cleared }; is = refl; current = refl; boot = refl; drawn = refl }
taken_by who a r g k = absurd (cc (k))

woken_same : (r : DialogueRecord) (n : ℕ) (d : Digest) → is_taken r ≡ true → (woken_by r n d).current ≡ d.current × (woken_by r n d).boot ≡ d.boot × (woken_by r n d).drawn ≡ d.drawn
woken_same r n d h1 = grind arith

-- the mark of p after a record that arrives: raised by v where it acts, and else as it was
pub taken_mark : (w : Branch → Bool) (p : ℕ) (hits : TxEvent → Bool) → IsMarking w p hits → (r : DialogueRecord) → is_taken r ≡ true → (o : Origin) (up : Option Addr) (h : List Entry) (from : Addr) (x y : Mark) (q : ℕ) → IsGrown o up h
    → refusal o.who (digest o h) (the from x y q r) ≡ None → (u : Current) → (action o.who (digest o h) (the from x y q r)).next.current ≡ Some u → (v : Key → Bool) → (acting_from o from.node (the from x y q r) h ≡ None → (k : Key) → v k ≡ false)
    → ((c : Current) → (digest o h).current ≡ Some c → acting_from o from.node (the from x y q r) h ≡ Some r → (arcs : List Arc) → sight_of_tx (seen o.who arcs c) from.node r ≡ Acts → row_holds (takes from.node r (seen o.who arcs c)).next.rows p w ≡ (v c.key || marked w p c))
    → IsStep (marked w p) o.who (digest o h) (v u.key) u
taken_mark w p hits m r k o up h from x y q legal ok u is v off on = some (find_arc d.arcs from.node) refl
  where
    d : Digest
    d = digest o h

    e : Event
    e = the from x y q r

    self : (n : ℕ) → (n == n) ≡ true
    self n = grind (arith, nat_tests)

    there : (a : Arc) → find_arc d.arcs from.node ≡ Some a → IsStep (marked w p) o.who d (v u.key) u
    there a found = acted (sight_at o.who d a r) refl
      where
        n : ℕ
        n = a.peer.node

        at : n ≡ from.node
        at = find_arc_is d.arcs from.node a found

        g : Digest
        g = woken_by r n (record d { arcs = with_link d.arcs n with_one_taken })

        woken : (g.current ≡ d.current) × (g.boot ≡ d.boot) × (g.drawn ≡ d.drawn)
        woken = woken_same r n (record d { arcs = with_link d.arcs n with_one_taken }) k

        acting : (s : Sight) → sight_at o.who d a r ≡ s → acting_from o from.node e h ≡ (if acts s then Some r else None)
        acting s j = rw (self from.node, acting_from) (rw (found, j) refl)

        is_on : action o.who d e ≡ take_on o.who a r d
        is_on = ap (λ (z : Option Arc). elim z as (λ _. Move) [ None ↦ move [] d | Some b ↦ take_on o.who b r d ]) found

        taken : (s : Sight) → sight_at o.who d a r ≡ s → action o.who d e ≡ elim s as (λ _. Move) [ Acts ↦ take_record o.who a r g | Nothing_happens ↦ move [] g | Out_of_phase ↦ move [] g ]
        taken s j = is_on ∙ ap (λ (z : Sight). elim z as (λ _. Move) [ Acts ↦ take_record o.who a r g | Nothing_happens ↦ move [] g | Out_of_phase ↦ move [] g ]) j

        still : action o.who d e ≡ move [] g → acting_from o from.node e h ≡ None → IsStep (marked w p) o.who d (v u.key) u
        still same none = inl (u, sym woken.0 ∙ sym (ap (λ (z : Move). z.next.current) same) ∙ is, refl, sym (ap (λ (b : Bool). b || marked w p u) (off none u.key)))

        heard : (c : Current) → d.current ≡ Some c → sight_at o.who d a r ≡ Acts → IsStep (marked w p) o.who d (v u.key) u
        heard c now j =
            elim (started_from (marked w p) (unmarked w p hits m Event.Crash refl) o.who d z c (TxEvent.Took n r) (v c.key || marked w p c) (by.current ∙ woken.0 ∙ now) (by.boot ∙ woken.1, subst (λ (i : ℕ). d.drawn ≤ i) (sym (by.drawn ∙ woken.2)) (least d.drawn)) (λ x i. (at_key x i, at_mark x i)) u
            (sym (ap (λ (f : Move). f.next.current) (taken Acts j ∙ by.is)) ∙ is)) [
              | inl s ↦ inl (c, now, s.0, s.1 ∙ ap (λ (key : Key). v key || marked w p c) (sym s.0))
              | inr s ↦ inr (s.0, s.1)
            ]
          where
            by : Taken o.who a r g
            by = taken_by o.who a r g k

            z : Digest
            z = by.after

            t : Transaction
            t = seen o.who z.arcs c

            sight : sight_of_tx t n r ≡ Acts
            sight = same_sight o.who z.arcs d.arcs c n r k ∙ sight_now o.who d a c r k now j

            put : IsPut (TxEvent.Took n r) t
            put = record { late = late_law o up h legal c now; ok = λ h. cc (h); abort = λ n h. cc (h); ordered = λ h. cc (h); not_begun = λ arcs h. cc (h) }

            at_key : (x : Current) → (turned o.who (TxEvent.Took n r) z c).next.current ≡ Some x → x.key ≡ c.key
            at_key x i = (left_is (transacted (TxEvent.Took n r) t).next x i).0 ∙ (passed_turn (TxEvent.Took n r) t put).key

            made : transacted (TxEvent.Took n r) t ≡ takes n r t
            made = ap (λ (s : Sight). elim s as (λ _. Turn) [ Acts ↦ takes n r t | Nothing_happens ↦ turn [] t | Out_of_phase ↦ turn [] t ]) sight

            at_mark : (x : Current) → (turned o.who (TxEvent.Took n r) z c).next.current ≡ Some x → marked w p x ≡ (v c.key || marked w p c)
            at_mark x i =
                left_marked w p (transacted (TxEvent.Took n r) t).next x i ∙ ap (λ (a : Turn). row_holds a.next.rows p w) made ∙ ap (λ (i : ℕ). row_holds (takes i r t).next.rows p w) at
                ∙ on c now (acting Acts j) z.arcs (ap (λ (i : ℕ). sight_of_tx t i r) (sym at) ∙ sight)

        acted : (s : Sight) → sight_at o.who d a r ≡ s → IsStep (marked w p) o.who d (v u.key) u
        acted Acts j = current d.current refl
          where
            current : (c : Option Current) → d.current ≡ c → IsStep (marked w p) o.who d (v u.key) u
            current None i = absurd (no_acting o.who d a r k i j)
            current (Some c) i = heard c i j
        acted Nothing_happens j = still (taken Nothing_happens j) (acting Nothing_happens j)
        acted Out_of_phase j = still (taken Out_of_phase j) (acting Out_of_phase j)

    some : (s : Option Arc) → find_arc d.arcs from.node ≡ s → IsStep (marked w p) o.who d (v u.key) u
    some None i = absurd (on_none o.who d from x y q r (plain_arrival o.who d from (PeerRecord.OnAssoc x y q r) ok) i)
    some (Some a) i = there a i

-- a row that holds something is there
pub held_row : (rows : List Row) (p : ℕ) (f : Branch → Bool) → row_holds rows p f ≡ true → (r : Row) × (find_row rows p ≡ Some r) × (f r.branch ≡ true)
held_row rows p f h = grind arith

-- ---- counted

abbrev counts : ℕ → TxEvent → Bool
counts p (TxEvent.Took q DialogueRecord.Ready) = q == p
counts p _ = false

abbrev counted_by : ℕ → Origin → NodeKey → Entry → List Entry → Bool
counted_by p o k e h = is_record is_ready_record (acting_from o p e.event h)

counted_marking : (p : ℕ) → IsMarking (λ b. b.counted) p (counts p)
counted_marking p = record {
  fresh = λ c. refl;
  prepared = λ b. refl;
  done = λ q r b off at. refl;
  rolled = λ q r b off at. refl;
  left_late = λ q v b word off at. refl;
  replied = λ i r b off. refl;
  given_up = λ q b off at. refl;
  counted = λ q b off at. absurd (cc (off, at));
  left = λ q r b word off at. refl;
}

ready_row : (t : Transaction) (p : ℕ) → sight_of_tx t p DialogueRecord.Ready ≡ Acts → row_holds t.rows p (λ b. b.prepared && not b.counted) ≡ true
unfolding sight_of_tx
ready_row t p h = grind (arith, h)

counted_turn : (t : Transaction) (p : ℕ) → sight_of_tx t p DialogueRecord.Ready ≡ Acts → row_holds (takes p DialogueRecord.Ready t).next.rows p (λ b. b.counted) ≡ true
unfolding count_branch
counted_turn t p h =
    let row = held_row t.rows p (λ b. b.prepared && not b.counted) (ready_row t p h) in
    let self : (p == p) ≡ true = grind (arith, nat_tests) in
    let f : Row → Row = λ r. record r { branch = record r.branch { counted = true } } in
    ap (λ (rows : List Row). row_holds rows p (λ b. b.counted)) (rows_settled (with_row t p f)) ∙ row_put (λ b. b.counted) p t p f (λ r. refl) row.0 row.1 ∙ ap (λ (b : Bool). if b then true else row_holds t.rows p (λ b. b.counted)) self

counted_mark : (p : ℕ) → IsBranchMark (λ b. b.counted) p (counts p) (counted_by p)
counted_mark p = record {
  marking = counted_marking p;
  hit = λ o up e h legal on u is. heard o up e h e.event refl legal on u is;
  calm = λ o k e h off. calm o h e.event off (is_record is_ready_record (acting_from o p e.event h)) refl;
  begin = λ n t b k. refl;
}
  where
    w : Branch → Bool
    w = λ b. b.counted

    calm : (o : Origin) (h : List Entry) (v : Event) → hit_by (counts p) v ≡ false → (b : Bool) → is_record is_ready_record (acting_from o p v h) ≡ b → is_record is_ready_record (acting_from o p v h) ≡ false
    calm o h v off false i = i
    calm o h v off true i = absurd (let k = acting_is is_ready_record o p h v i in let on : hit_by (counts p) v ≡ true = ap (hit_by (counts p)) k.5 ∙ hit k.0 k.1 k.2 k.3 k.4 k.6 k.7 in cc (on, off))
      where
        hit : (from : Addr) (x y : Mark) (q : ℕ) (r : DialogueRecord) → from.node ≡ p → is_ready_record r ≡ true → hit_by (counts p) (the from x y q r) ≡ true
        hit from x y q DialogueRecord.Ready at j = grind (arith, nat_tests, at)
        hit from x y q r at j = absurd (cc (j))

    heard : (o : Origin) (up : Option Addr) (e : Entry) (h : List Entry) (v : Event) → e.event ≡ v → IsLegal o up (e ∷ h) → hit_by (counts p) v ≡ true → (u : Current) → (action o.who (digest o h) v).next.current ≡ Some u → IsStep (marked w p) o.who (prelude o.who (digest o h) v) (is_record is_ready_record (acting_from o p v h)) u
    heard o up e h (Event.Arrive from (PeerRecord.OnAssoc x y q DialogueRecord.Ready)) same legal on u is = first step
      where
        r : DialogueRecord
        r = DialogueRecord.Ready

        at : from.node ≡ p
        at = grind (arith, nat_tests, on)

        ready : Option DialogueRecord → Bool
        ready = is_record is_ready_record

        step : IsStep (marked w p) o.who (digest o h) (ready (acting_from o p (the from x y q r) h)) u
        step =
            taken_mark w p (counts p) (counted_marking p) r refl o up h from x y q legal.grown.3 (ap (refusal o.who (digest o h)) (sym same) ∙ legal.grown.0) u is (λ key. ready (acting_from o p (the from x y q r) h))
            (λ none key. ap (λ (n : ℕ). ready (acting_from o n (the from x y q r) h)) (sym at) ∙ ap ready none)
            (λ c now acting arcs sight.
            let set : ready (acting_from o p (the from x y q r) h) ≡ true = ap (λ (n : ℕ). ready (acting_from o n (the from x y q r) h)) (sym at) ∙ ap ready acting in
            ap (λ (n : ℕ). row_holds (takes from.node r (seen o.who arcs c)).next.rows n w) (sym at) ∙ counted_turn (seen o.who arcs c) from.node sight ∙ sym (ap (λ (b : Bool). b || marked w p c) set))

        first : IsStep (marked w p) o.who (digest o h) (ready (acting_from o p (the from x y q r) h)) u → IsStep (marked w p) o.who (prelude o.who (digest o h) (the from x y q r)) (ready (acting_from o p (the from x y q r) h)) u
        first (inl z) = inl (z.0, z.1, z.2, z.3)
        first (inr z) = inr z
    heard o up e h _ same legal on u is = absurd (cc (on))

pub counted_law : (o : Origin) (up : Option Addr) (h : List Entry) → IsLegal o up h → counted_agrees o h ≡ true
counted_law = each_law (λ b. b.counted) counted_by (λ o up h legal p c is. marked_law (λ b. b.counted) p (counts p) (counted_by p) (counted_mark p) o up h legal c is)

-- ---- left

abbrev leaves : ℕ → TxEvent → Bool
leaves p (TxEvent.Took q DialogueRecord.Left) = q == p
leaves p (TxEvent.Took q DialogueRecord.LeftEnd) = q == p
leaves p _ = false

abbrev left_by : ℕ → Origin → NodeKey → Entry → List Entry → Bool
left_by p o k e h = is_record is_left_record (acting_from o p e.event h) && is_active_in o k h

left_marking : (p : ℕ) → IsMarking (λ b. b.left) p (leaves p)
left_marking p = record {
  fresh = λ c. refl;
  prepared = λ b. refl;
  done = λ q r b off at. refl;
  rolled = λ q r b off at. refl;
  left_late = λ q v b word off at. refl;
  replied = λ i r b off. refl;
  given_up = λ q b off at. refl;
  counted = λ q b off at. refl;
  left = λ q r b word off at. absurd (left q r word off at);
}
  where
    left : (q : ℕ) (r : DialogueRecord) → is_left_word r ≡ true → leaves p (TxEvent.Took q r) ≡ false → (q == p) ≡ true → ⊥
    left q DialogueRecord.Left word off at = cc (off, at)
    left q DialogueRecord.LeftEnd word off at = cc (off, at)
    left q r word off at = cc (word)

-- it is noted in active, and in rolling the branch has ended
pub left_noted : (t : Transaction) (p : ℕ) (row : Row) → find_row t.rows p ≡ Some row → row_holds (takes_left p t).next.rows p (λ b. b.left) ≡ (is_active t.phase || row_holds t.rows p (λ b. b.left))
unfolding branch_left end_branch
left_noted t p row found = go (is_active t.phase)
  where
    w : Branch → Bool
    w = λ b. b.left

    f : Row → Row
    f r = record r { branch = record r.branch { left = true } }

    g : Row → Row
    g r = record r { branch = record r.branch { ended = true; report = Report.None } }

    self : (p == p) ≡ true
    self = grind (arith, nat_tests)

    go : (b : Bool) → row_holds (if b then and_then (branch_left p t) settle else and_then (end_branch p Report.None t) complete_rollback).next.rows p w ≡ (b || row_holds t.rows p w)
    go true = ap (λ (rows : List Row). row_holds rows p w) (rows_settled (with_row t p f)) ∙ row_put w p t p f (λ r. refl) row found ∙ ap (λ (b : Bool). if b then true else row_holds t.rows p w) self
    go false = ap (λ (rows : List Row). row_holds rows p w) (rows_unrolled (with_row t p g)) ∙ row_same w p t p g (λ r. refl) (λ r j. refl)

pub left_row : (t : Transaction) (p : ℕ) (r : DialogueRecord) → is_left_record r ≡ true → sight_of_tx t p r ≡ Acts → (row : Row) × (find_row t.rows p ≡ Some row)
unfolding sight_of_tx
left_row t p r h1 h2 = grind arith

left_turn : (t : Transaction) (p : ℕ) (r : DialogueRecord) → is_left_record r ≡ true → sight_of_tx t p r ≡ Acts → row_holds (takes p r t).next.rows p (λ b. b.left) ≡ (is_active t.phase || row_holds t.rows p (λ b. b.left))
left_turn t p DialogueRecord.Left k h = let row = left_row t p DialogueRecord.Left k h in left_noted t p row.0 row.1
left_turn t p DialogueRecord.LeftEnd k h =
    let row = left_row t p DialogueRecord.LeftEnd k h in
    let self : (p == p) ≡ true = grind (arith, nat_tests) in
    let dead : Transaction = with_row t p row_dead in
    let there : find_row dead.rows p ≡ Some (row_dead row.0) =
    ap (λ (v : Option Row). find_row (elim v as (λ _. Transaction) [ None ↦ t | Some x ↦ record t { rows = put_row t.rows (row_dead x) } ]).rows p) row.1 ∙ find_put t.rows p row.0 (row_dead row.0) p row.1 (row_is t.rows p row.0 row.1)
    ∙ ap (λ (b : Bool). if b then Some (row_dead row.0) else find_row t.rows p) self in
    left_noted dead p (row_dead row.0) there ∙ ap (λ (x : Phase). is_active x || row_holds dead.rows p (λ b. b.left)) (row_phase t p row_dead) ∙ ap (λ (b : Bool). is_active t.phase || b) (row_same (λ b. b.left) p t p row_dead (λ r. refl) (λ r j. refl))
left_turn t p r k h = absurd (cc (k))

pub active_key : (o : Origin) (up : Option Addr) (h : List Entry) (c : Current) → IsLegal o up h → (digest o h).current ≡ Some c → is_active_in o (node_key c.key) h ≡ is_active c.phase
active_key o up h c legal now = (key_law o up h (node_key c.key) legal).active ∙ ap (λ (v : Option Current). is_active (phase_at v (node_key c.key))) now ∙ ap (λ (b : Bool). is_active (if b then c.phase else Phase.Nil)) (key_self (node_key c.key))

left_step : (p : ℕ) (r : DialogueRecord) → is_left_record r ≡ true → is_taken r ≡ true → (o : Origin) (up : Option Addr) (h : List Entry) (from : Addr) (x y : Mark) (q : ℕ) → IsLegal o up h → from.node ≡ p → refusal o.who (digest o h) (the from x y q r) ≡ None → (u : Current)
    → (action o.who (digest o h) (the from x y q r)).next.current ≡ Some u → IsStep (marked (λ b. b.left) p) o.who (digest o h) (is_record is_left_record (acting_from o p (the from x y q r) h) && is_active_in o (node_key u.key) h) u
left_step p r k taken o up h from x y q legal at ok u is =
    taken_mark w p (leaves p) (left_marking p) r taken o up h from x y q legal.grown ok u is (λ key. left (acting_from o p (the from x y q r) h) && is_active_in o (node_key key) h)
    (λ none key. ap (λ (b : Bool). b && is_active_in o (node_key key) h) (ap (λ (n : ℕ). left (acting_from o n (the from x y q r) h)) (sym at) ∙ ap left none))
    (λ c now acting arcs sight.
    let set : left (acting_from o p (the from x y q r) h) ≡ true = ap (λ (n : ℕ). left (acting_from o n (the from x y q r) h)) (sym at) ∙ ap left acting ∙ k in
    ap (λ (n : ℕ). row_holds (takes from.node r (seen o.who arcs c)).next.rows n w) (sym at) ∙ left_turn (seen o.who arcs c) from.node r k sight
    ∙ ap (λ (b : Bool). is_active c.phase || b) (ap (λ (n : ℕ). row_holds (seen_rows arcs c.branches) n w) at ∙ seen_marked w p o.who arcs c)
    ∙ sym (ap (λ (b : Bool). (b && is_active_in o (node_key c.key) h) || marked w p c) set ∙ ap (λ (b : Bool). b || marked w p c) (active_key o up h c legal now)))
  where
    w : Branch → Bool
    w = λ b. b.left

    left : Option DialogueRecord → Bool
    left = is_record is_left_record

left_mark : (p : ℕ) → IsBranchMark (λ b. b.left) p (leaves p) (left_by p)
left_mark p = record {
  marking = left_marking p;
  hit = λ o up e h legal on u is. heard o up e h e.event refl legal on u is;
  calm = λ o k e h off. ap (λ (b : Bool). b && is_active_in o k h) (calm o h e.event off (is_record is_left_record (acting_from o p e.event h)) refl);
  begin = λ n t b k. refl;
}
  where
    w : Branch → Bool
    w = λ b. b.left

    calm : (o : Origin) (h : List Entry) (v : Event) → hit_by (leaves p) v ≡ false → (b : Bool) → is_record is_left_record (acting_from o p v h) ≡ b → is_record is_left_record (acting_from o p v h) ≡ false
    calm o h v off false i = i
    calm o h v off true i = absurd (let k = acting_is is_left_record o p h v i in let on : hit_by (leaves p) v ≡ true = ap (hit_by (leaves p)) k.5 ∙ hit k.0 k.1 k.2 k.3 k.4 k.6 k.7 in cc (on, off))
      where
        hit : (from : Addr) (x y : Mark) (q : ℕ) (r : DialogueRecord) → from.node ≡ p → is_left_record r ≡ true → hit_by (leaves p) (the from x y q r) ≡ true
        hit from x y q DialogueRecord.Left at j = grind (arith, nat_tests, at)
        hit from x y q DialogueRecord.LeftEnd at j = grind (arith, nat_tests, at)
        hit from x y q r at j = absurd (cc (j))

    IsSo : Origin → List Entry → Event → Current → Type 0
    IsSo o h v u = IsStep (marked w p) o.who (prelude o.who (digest o h) v) (is_record is_left_record (acting_from o p v h) && is_active_in o (node_key u.key) h) u

    heard : (o : Origin) (up : Option Addr) (e : Entry) (h : List Entry) (v : Event) → e.event ≡ v → IsLegal o up (e ∷ h) → hit_by (leaves p) v ≡ true → (u : Current) → (action o.who (digest o h) v).next.current ≡ Some u → IsSo o h v u
    heard o up e h (Event.Arrive from (PeerRecord.OnAssoc x y q DialogueRecord.Left)) same legal on u is =
        first (left_step p DialogueRecord.Left refl refl o up h from x y q (before_it o up e h legal) (grind (arith, nat_tests, on)) (ap (refusal o.who (digest o h)) (sym same) ∙ legal.grown.0) u is)
      where
        first : IsStep (marked w p) o.who (digest o h) (is_record is_left_record (acting_from o p (the from x y q DialogueRecord.Left) h) && is_active_in o (node_key u.key) h) u → IsSo o h (the from x y q DialogueRecord.Left) u
        first (inl z) = inl (z.0, z.1, z.2, z.3)
        first (inr z) = inr z
    heard o up e h (Event.Arrive from (PeerRecord.OnAssoc x y q DialogueRecord.LeftEnd)) same legal on u is =
        first (left_step p DialogueRecord.LeftEnd refl refl o up h from x y q (before_it o up e h legal) (grind (arith, nat_tests, on)) (ap (refusal o.who (digest o h)) (sym same) ∙ legal.grown.0) u is)
      where
        first : IsStep (marked w p) o.who (digest o h) (is_record is_left_record (acting_from o p (the from x y q DialogueRecord.LeftEnd) h) && is_active_in o (node_key u.key) h) u → IsSo o h (the from x y q DialogueRecord.LeftEnd) u
        first (inl z) = inl (z.0, z.1, z.2, z.3)
        first (inr z) = inr z
    heard o up e h _ same legal on u is = absurd (cc (on))

pub left_since : (p : ℕ) (o : Origin) (up : Option Addr) (h : List Entry) → IsLegal o up h → (c : Current) → (digest o h).current ≡ Some c → marked (λ b. b.left) p c ≡ left_in o (node_key c.key) p h
left_since p o up h legal c is = marked_law (λ b. b.left) p (leaves p) (left_by p) (left_mark p) o up h legal c is

pub left_law : (o : Origin) (up : Option Addr) (h : List Entry) → IsLegal o up h → left_agrees o h ≡ true
left_law = each_law (λ b. b.left) left_by (λ o up h legal p c is. marked_law (λ b. b.left) p (leaves p) (left_by p) (left_mark p) o up h legal c is)
