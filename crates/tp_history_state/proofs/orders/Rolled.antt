-- In every legal history the superior has rolled the current transaction if its Rollback was taken since the key was begun, or
-- the reply that it knows of nothing, at the ready key, and since the last crash.
use Rattle.tp_history_state.proofs.Vocabulary.{if◌then◌else◌, ◌≡◌, ◌⊎◌, inl, inr, ℕ, Bool, true, false, refl, ap, sym, subst, ◌∙◌, arith, Option, Some, None, List, [], ◌∷◌, ◌||◌, ◌&&◌, ◌==◌, and-false, and-true, nat_tests, Mark, Aaid, BranchId, Addr, NodeKey, is_key, DialogueRecord, PeerRecord, RecState, LogRec, TxEvent, TxOut, Who, Origin, Event, Entry, Out, Arc, Key, Current, Digest, is_rolling, Sight, Acts, Nothing_happens, Out_of_phase, with_one_taken, find_arc, is_live_with_peer, with_link, Row, Transaction, Turn, node_key, is_under_at, find_row, row_holds, acts, sight_of_tx, complete_rollback, begin_rolling, roll, turn, superior_rolls, transacted, has_branch_at, Move, move, is_superior, seen, seen_rows, remaining, passed, transact, turned, branch_key, named_by_key, is_current_ready, sight_of, sight_at, take_record, woken_by, take_on, acting_from, is_record, is_up, takes_begin, is_rollback_record, is_current_key, superior_rolled_by, superior_rolled_in, digest, refusal, action, same_bool, IsGrown, IsLegal, hears_rollback, IsAsked, prelude, asks_tell, out_tells, superior_rolled_agrees, every_turn, seen_branch, the, find_arc_is, on_none, on_live, plain_arrival, ready_named, no_begin, sight_rollback, late_law, left_is, key_self, IsNew, IsStep, IsFlag, flag_law, bool_self, started_next}
use Rattle.tp_history_state.proofs.orders.Faced.{faced_live}
use Rattle.tp_history_state.proofs.orders.Told.{none_told, always, least, IsRaised, raised_event, raised_step, started_from}
use Rattle.tp_history_state.proofs.handshakes.TouchedEntry.{acting_is}
use Rattle.tp_runs.proofs.FlagTurns.{IsFlagTurn, flag_turns, kept_rolls, kept_unrolls}

abbrev rolled_up : Current → Bool
rolled_up c = c.superior_rolled

left_rolled : (t : Transaction) (u : Current) → remaining t ≡ Some u → u.superior_rolled ≡ t.superior_rolled
left_rolled t u i = grind arith

-- ---- an event in which it is not heard

-- a Rollback, or the reply that the superior knows of nothing
abbrev is_rolling_event : Event → Bool
is_rolling_event (Event.Arrive from (PeerRecord.OnAssoc x y q DialogueRecord.Rollback)) = true
is_rolling_event (Event.Arrive from (PeerRecord.RecReply t b RecState.Unknown)) = true
is_rolling_event _ = false

took_rollback : (from : Addr) (x y : Mark) (q p : ℕ) (r : DialogueRecord) (t : Transaction) → hears_rollback (TxEvent.Took p r) t ≡ true → is_rolling_event (Event.Arrive from (PeerRecord.OnAssoc x y q r)) ≡ true
took_rollback from x y q p DialogueRecord.Rollback t h = refl
took_rollback from x y q p r t h = absurd (cc (h))

rolls_hear : (e : Event) (c : Current) (f : TxEvent) (t : Transaction) → IsAsked e c f → hears_rollback f t ≡ true → is_rolling_event e ≡ true
rolls_hear e c f t h1 h2 = grind (arith, took_rollback)

raised : (e : Event) → is_rolling_event e ≡ false → IsRaised none_told rolled_up always e true
raised e off = record {
  fresh = λ k. (refl, tt);
  begun = λ who arcs c u child inv is. (left_rolled (transacted (TxEvent.Begun (child ∷ [])) (seen who arcs c)).next u is, tt);
  turn = λ who arcs c u f inv asked put is.
      let t : Transaction = seen who arcs c in
      (left_rolled (transacted f t).next u is ∙ (every_turn f t (IsFlagTurn f t) (flag_turns f t) put).1 (quiet f t c asked (hears_rollback f t) refl) ∙ sym (ap (λ (b : Bool). b || c.superior_rolled) (silent (transacted f t).outs)), tt);
  tells = λ who arcs c f inv asked put told. refl;
  spoken = λ i h. refl;
}
  where
    quiet : (f : TxEvent) (t : Transaction) (c : Current) → IsAsked e c f → (b : Bool) → hears_rollback f t ≡ b → hears_rollback f t ≡ false
    quiet f t c asked true i = absurd (let on : is_rolling_event e ≡ true = rolls_hear e c f t asked i in cc (on, off))
    quiet f t c asked false i = i

    silent : (outs : List TxOut) → asks_tell none_told outs ≡ false
    silent [] = refl
    silent (o ∷ outs) = let rest = silent outs in grind (arith, rest)

-- ---- where it is heard

rolls_noted : (t : Transaction) (asked : Bool) → ((roll asked t).next.superior_rolled ≡ t.superior_rolled) × ((roll asked t).next.key ≡ t.key)
unfolding begin_rolling complete_rollback
rolls_noted t asked = ((kept_unrolls (begin_rolling asked t).next).1 ∙ (kept_rolls asked t).1, grind arith)

unrolled_key : (t : Transaction) → (complete_rollback t).next.key ≡ t.key
unfolding complete_rollback
unrolled_key t = grind arith

superior_noted : (t : Transaction) → ((superior_rolls t).next.superior_rolled ≡ true) × ((superior_rolls t).next.key ≡ t.key)
superior_noted t = go (is_rolling t.phase)
  where
    u : Transaction
    u = record t { superior_rolled = true }

    go : (b : Bool) → ((if b then complete_rollback u else roll false u).next.superior_rolled ≡ true) × ((if b then complete_rollback u else roll false u).next.key ≡ t.key)
    go true = ((kept_unrolls u).1, unrolled_key u)
    go false = rolls_noted u false

-- the superior's Rollback notes it, and a branch's does not
rollback_turn : (t : Transaction) (p : ℕ) (b : Bool) → is_under_at t.key p ≡ b → (b ≡ true → sight_of_tx t p DialogueRecord.Rollback ≡ Acts)
    → ((transacted (TxEvent.Took p DialogueRecord.Rollback) t).next.superior_rolled ≡ (b || t.superior_rolled)) × ((transacted (TxEvent.Took p DialogueRecord.Rollback) t).next.key ≡ t.key)
rollback_turn t p b h1 h2 = grind (arith, rolls_noted, superior_noted)

-- whether it acts is the same at all arcs, where it is the superior's
same_sight : (who : Who) (arcs later : List Arc) (c : Current) (p : ℕ) → is_under_at c.key p ≡ true → sight_of_tx (seen who arcs c) p DialogueRecord.Rollback ≡ sight_of_tx (seen who later c) p DialogueRecord.Rollback
unfolding sight_of_tx
same_sight who arcs later c p i = rw i refl

from_turned : (who : Who) (d : Digest) (c : Current) (f : TxEvent) (v : Bool) → ((transacted f (seen who d.arcs c)).next.superior_rolled ≡ v) × ((transacted f (seen who d.arcs c)).next.key ≡ c.key) → (u : Current) → (turned who f d c).next.current ≡ Some u → (u.key ≡ c.key) × (rolled_up u ≡ v)
from_turned who d c f v k u is = let t : Transaction = (transacted f (seen who d.arcs c)).next in ((left_is t u is).0 ∙ k.1, left_rolled t u is ∙ k.0)

-- a row of that peer is a branch
row_branch : (who : Who) (d : Digest) (a : Arc) (c : Current) → d.current ≡ Some c → sight_at who d a DialogueRecord.Rollback ≡ Acts → is_under_at c.key a.peer.node ≡ false → has_branch_at c.branches a.peer.node ≡ true
unfolding sight_of sight_of_tx
row_branch who d a c now acts off = sym (seen_branch d.arcs c.branches a.peer.node) ∙ go (find_row (seen_rows d.arcs c.branches) a.peer.node) refl
  where
    go : (v : Option Row) → find_row (seen_rows d.arcs c.branches) a.peer.node ≡ v → row_holds (seen_rows d.arcs c.branches) a.peer.node (λ b. true) ≡ true
    go None i = absurd (grind (arith, acts, now, off, i))
    go (Some r) i = rw (i, row_holds) refl

sight_now : (who : Who) (d : Digest) (a : Arc) (c : Current) → d.current ≡ Some c → sight_at who d a DialogueRecord.Rollback ≡ Acts → sight_of_tx (seen who d.arcs c) a.peer.node DialogueRecord.Rollback ≡ Acts
sight_now who d a c now acts = sym (sight_rollback who d a c now) ∙ acts

no_acting : (who : Who) (d : Digest) (a : Arc) → d.current ≡ None → sight_at who d a DialogueRecord.Rollback ≡ Acts → ⊥
unfolding sight_of
no_acting who d a none acts = absurd (grind (arith, none, acts))

-- the Rollback of p, which is the superior, acts
abbrev hears_up : Origin → ℕ → Event → List Entry → Bool
hears_up o p e h = is_up o p h && is_record is_rollback_record (acting_from o p e h)

rollback_step : (o : Origin) (up : Option Addr) (h : List Entry) (from : Addr) (x y : Mark) (q : ℕ) → IsGrown o up h → refusal o.who (digest o h) (the from x y q DialogueRecord.Rollback) ≡ None → (u : Current) → (action o.who (digest o h) (the from x y q DialogueRecord.Rollback)).next.current ≡ Some u
    → IsStep rolled_up o.who (digest o h) (hears_up o from.node (the from x y q DialogueRecord.Rollback) h) u
rollback_step o up h from x y q legal ok u is = some (find_arc d.arcs from.node) refl
  where
    d : Digest
    d = digest o h

    r : DialogueRecord
    r = DialogueRecord.Rollback

    e : Event
    e = the from x y q r

    self : (n : ℕ) → (n == n) ≡ true
    self n = grind (arith, nat_tests)

    there : (a : Arc) → find_arc d.arcs from.node ≡ Some a → IsStep rolled_up o.who d (hears_up o from.node e h) u
    there a found = on (sight_at o.who d a r) refl
      where
        n : ℕ
        n = a.peer.node

        at : n ≡ from.node
        at = find_arc_is d.arcs from.node a found

        live : is_live_with_peer d.arcs from.node ≡ true
        live = on_live o.who d from x y q r (plain_arrival o.who d from (PeerRecord.OnAssoc x y q r) ok)

        g : Digest
        g = woken_by r n (record d { arcs = with_link d.arcs n with_one_taken })

        acting : (v : Sight) → sight_at o.who d a r ≡ v → acting_from o from.node e h ≡ (if acts v then Some r else None)
        acting v j = rw (self from.node, acting_from) (rw (found, j) refl)

        is_on : action o.who d e ≡ take_on o.who a r d
        is_on = ap (λ (v : Option Arc). elim v as (λ _. Move) [ None ↦ move [] d | Some z ↦ take_on o.who z r d ]) found

        taken : (v : Sight) → sight_at o.who d a r ≡ v → action o.who d e ≡ elim v as (λ _. Move) [ Acts ↦ take_record o.who a r g | Nothing_happens ↦ move [] g | Out_of_phase ↦ move [] g ]
        taken v j = is_on ∙ ap (λ (s : Sight). elim s as (λ _. Move) [ Acts ↦ take_record o.who a r g | Nothing_happens ↦ move [] g | Out_of_phase ↦ move [] g ]) j

        still : action o.who d e ≡ move [] g → acting_from o from.node e h ≡ None → IsStep rolled_up o.who d (hears_up o from.node e h) u
        still same none =
            let off : hears_up o from.node e h ≡ false = rw none (and-false (is_up o from.node h)) in
            inl (u, sym (ap (λ (m : Move). m.next.current) same) ∙ is, refl, sym (ap (λ (b : Bool). b || rolled_up u) off))

        heard : (c : Current) → d.current ≡ Some c → sight_at o.who d a r ≡ Acts → action o.who d e ≡ transact o.who (TxEvent.Took n r) g → IsStep rolled_up o.who d (hears_up o from.node e h) u
        heard c now j same = go (is_under_at c.key n) refl
          where
            facing : (is_under_at c.key from.node ≡ true → is_superior d from.node ≡ true) × (is_superior d from.node ≡ true → has_branch_at c.branches from.node ≡ false)
            facing = faced_live o up h c from.node legal now live

            asked : hears_up o from.node e h ≡ is_superior d from.node
            asked = rw (acting Acts j) (and-true (is_superior d from.node))

            end : (b v : Bool) → hears_up o from.node e h ≡ b → ((transacted (TxEvent.Took n r) (seen o.who g.arcs c)).next.superior_rolled ≡ (b || c.superior_rolled)) × ((transacted (TxEvent.Took n r) (seen o.who g.arcs c)).next.key ≡ c.key) → IsStep rolled_up o.who d (hears_up o from.node e h) u
            end b v is_b k =
                elim (started_from rolled_up (raised Event.Crash refl) o.who d g c (TxEvent.Took n r) (b || c.superior_rolled) now (refl, least d.drawn) (from_turned o.who g c (TxEvent.Took n r) (b || c.superior_rolled) k) u (ap (λ (m : Move). m.next.current) (sym same) ∙ is)) [
                  | inl w ↦ inl (c, now, w.0, w.1 ∙ ap (λ (z : Bool). z || c.superior_rolled) (sym is_b))
                  | inr w ↦ inr (w.0, w.1)
                ]

            go : (b : Bool) → is_under_at c.key n ≡ b → IsStep rolled_up o.who d (hears_up o from.node e h) u
            go true i =
                let under : is_under_at c.key from.node ≡ true = ap (is_under_at c.key) (sym at) ∙ i in
                end true true (asked ∙ facing.0 under) (rollback_turn (seen o.who g.arcs c) n true i (λ h. same_sight o.who g.arcs d.arcs c n i ∙ sight_now o.who d a c now j))
            go false i =
                let branch : has_branch_at c.branches from.node ≡ true = ap (has_branch_at c.branches) (sym at) ∙ row_branch o.who d a c now j i in
                end false false (asked ∙ below (is_superior d from.node) refl branch) (rollback_turn (seen o.who g.arcs c) n false i (λ h. cc (h)))
              where
                below : (b : Bool) → is_superior d from.node ≡ b → has_branch_at c.branches from.node ≡ true → is_superior d from.node ≡ false
                below false k branch = k
                below true k branch = absurd (let off : has_branch_at c.branches from.node ≡ false = facing.1 k in cc (branch, off))

        acted : (v : Option Current) → d.current ≡ v → sight_at o.who d a r ≡ Acts → IsStep rolled_up o.who d (hears_up o from.node e h) u
        acted None i j = absurd (no_acting o.who d a i j)
        acted (Some c) i j = heard c i j (taken Acts j)

        on : (v : Sight) → sight_at o.who d a r ≡ v → IsStep rolled_up o.who d (hears_up o from.node e h) u
        on Acts j = acted d.current refl j
        on Nothing_happens j = still (taken Nothing_happens j) (acting Nothing_happens j)
        on Out_of_phase j = still (taken Out_of_phase j) (acting Out_of_phase j)

    some : (v : Option Arc) → find_arc d.arcs from.node ≡ v → IsStep rolled_up o.who d (hears_up o from.node e h) u
    some None i = absurd (on_none o.who d from x y q r (plain_arrival o.who d from (PeerRecord.OnAssoc x y q r) ok) i)
    some (Some a) i = there a i

pub nothing_there : (who : Who) (f : TxEvent) (d : Digest) → d.current ≡ None → (transact who f d).next.current ≡ None
unfolding transact
nothing_there who f d i = ap (λ (o : Option Current). (elim o as (λ _. Move) [ None ↦ move [] d | Some c ↦ started_next who (passed who f d c) (turned who f d c) ]).next.current) i ∙ i

-- the reply that the superior knows of nothing, at the ready key
unknown_step : (o : Origin) (h : List Entry) (from : Addr) (t : Aaid) (b : BranchId) (u : Current) → (action o.who (digest o h) (Event.Arrive from (PeerRecord.RecReply t b RecState.Unknown))).next.current ≡ Some u
    → ((c : Current) × ((digest o h).current ≡ Some c) × (u.key ≡ c.key) × (rolled_up u ≡ (is_key (node_key c.key) (branch_key t b) && is_current_ready (named_by_key (digest o h) (branch_key t b)) || rolled_up c))) ⊎ IsNew o.who (digest o h) u × (rolled_up u ≡ false)
unknown_step o h from t b u is = go (is_current_ready (named_by_key d k)) refl is
  where
    d : Digest
    d = digest o h

    k : NodeKey
    k = branch_key t b

    f : TxEvent
    f = TxEvent.Reply b RecState.Unknown

    IsSo : Bool → Type 0
    IsSo ready = ((c : Current) × (d.current ≡ Some c) × (u.key ≡ c.key) × (rolled_up u ≡ (is_key (node_key c.key) k && ready || rolled_up c))) ⊎ IsNew o.who d u × (rolled_up u ≡ false)

    heard : is_current_ready (named_by_key d k) ≡ true → (c : Current) → d.current ≡ Some c → ((transacted f (seen o.who d.arcs c)).next.superior_rolled ≡ true) × ((transacted f (seen o.who d.arcs c)).next.key ≡ c.key) × (is_key (node_key c.key) k ≡ true)
    heard i c now =
        let n = ready_named d t b c i now in
        let is_rolls : transacted f (seen o.who d.arcs c) ≡ superior_rolls (seen o.who d.arcs c) = ap (λ (v : Bool). if v then superior_rolls (seen o.who d.arcs c) else turn [] (seen o.who d.arcs c)) n.1 in
        let z = superior_noted (seen o.who d.arcs c) in
        (ap (λ (a : Turn). a.next.superior_rolled) is_rolls ∙ z.0, ap (λ (a : Turn). a.next.key) is_rolls ∙ z.1, n.0)

    rolled : (v : Option Current) → d.current ≡ v → is_current_ready (named_by_key d k) ≡ true → (transact o.who f d).next.current ≡ Some u → IsSo true
    rolled None i ready now = absurd (let same : (transact o.who f d).next.current ≡ None = nothing_there o.who f d i in let no : None ≡ Some u = sym same ∙ now in cc (no))
    rolled (Some c) i ready now = on (heard ready c i) (started_from rolled_up (raised Event.Crash refl) o.who d d c f true i (refl, least d.drawn) (from_turned o.who d c f true ((heard ready c i).0, (heard ready c i).1)) u now)
      where
        on : ((transacted f (seen o.who d.arcs c)).next.superior_rolled ≡ true) × ((transacted f (seen o.who d.arcs c)).next.key ≡ c.key) × (is_key (node_key c.key) k ≡ true) → (u.key ≡ c.key) × (rolled_up u ≡ true) ⊎ IsNew o.who d u × (rolled_up u ≡ false) → IsSo true
        on z (inl w) = let raise : (is_key (node_key c.key) k && true || rolled_up c) ≡ true = rw (z.2) refl in inl (c, i, w.0, w.1 ∙ sym raise)
        on z (inr n) = inr n

    go : (v : Bool) → is_current_ready (named_by_key d k) ≡ v → (if v then transact o.who f d else move [] d).next.current ≡ Some u → IsSo v
    go true i now = rolled d.current refl i now
    go false i now = inl (u, now, refl, sym (ap (λ (e : Bool). e || rolled_up u) (and-false (is_key (node_key u.key) k))))

-- ---- every legal history

none_heard : (o : Origin) (k : NodeKey) (e : Entry) (h : List Entry) → is_rolling_event e.event ≡ false → superior_rolled_by o k e h ≡ false
none_heard o k e h off = grind (arith, acting_is)

rolled_flag : IsFlag rolled_up superior_rolled_by
rolled_flag = record {
  fresh = λ k. refl;
  again = λ k p bs u. refl;
  step = λ o up e h legal calm u is. step o up e h legal u is (is_rolling_event e.event) refl;
  taken = λ o up e h legal k j begun. none_heard o k e h (taken o h e.event e.rec e.outs j begun);
}
  where
    taken : (o : Origin) (h : List Entry) (ev : Event) (rec : Option LogRec) (outs : List Out) (j : NodeKey) → takes_begin o (record { event = ev; rec = rec; outs = outs }) h ≡ Some j → is_rolling_event ev ≡ false
    taken o h (Event.Arrive from (PeerRecord.OnAssoc x y q DialogueRecord.Rollback)) rec outs j begun =
        absurd (let none : takes_begin o (record { event = the from x y q DialogueRecord.Rollback; rec = rec; outs = outs }) h ≡ None = no_begin o h from x y q DialogueRecord.Rollback rec outs (λ t b k i. cc (i)) in let no : None ≡ Some j = sym none ∙ begun in cc (no))
    taken o h (Event.Arrive from (PeerRecord.RecReply t b RecState.Unknown)) rec outs j begun = absurd (cc (begun))
    taken o h ev rec outs j begun = refl

    -- by the event alone
    heard : (o : Origin) (up : Option Addr) (h : List Entry) (ev : Event) (rec : Option LogRec) (outs : List Out) → IsGrown o up h → refusal o.who (digest o h) ev ≡ None → is_rolling_event ev ≡ true → (u : Current) → (action o.who (digest o h) ev).next.current ≡ Some u
        → IsStep rolled_up o.who (prelude o.who (digest o h) ev) (superior_rolled_by o (node_key u.key) (record { event = ev; rec = rec; outs = outs }) h) u
    heard o up h (Event.Arrive from (PeerRecord.OnAssoc x y q DialogueRecord.Rollback)) rec outs legal ok on u is = from_digest (rollback_step o up h from x y q legal ok u is)
      where
        flat : (b : Bool) → b ≡ (b || false)
        flat true = refl
        flat false = refl

        e : Event
        e = the from x y q DialogueRecord.Rollback

        from_digest : IsStep rolled_up o.who (digest o h) (hears_up o from.node e h) u → IsStep rolled_up o.who (prelude o.who (digest o h) e) (superior_rolled_by o (node_key u.key) (record { event = e; rec = rec; outs = outs }) h) u
        from_digest (inl w) = inl (w.0, w.1, w.2, w.3 ∙ ap (λ (b : Bool). b || rolled_up w.0) (flat (hears_up o from.node e h)))
        from_digest (inr n) = inr n
    heard o up h (Event.Arrive from (PeerRecord.RecReply t b RecState.Unknown)) rec outs legal ok on u is = from_digest (unknown_step o h from t b u is)
      where
        e : Event
        e = Event.Arrive from (PeerRecord.RecReply t b RecState.Unknown)

        d : Digest
        d = digest o h

        sender : (is_up o from.node h && is_record is_rollback_record (acting_from o from.node e h)) ≡ false
        sender = and-false (is_up o from.node h)

        now_by : (c : Current) → d.current ≡ Some c → u.key ≡ c.key → (is_key (node_key c.key) (branch_key t b) && is_current_ready (named_by_key d (branch_key t b))) ≡ superior_rolled_by o (node_key u.key) (record { event = e; rec = rec; outs = outs }) h
        now_by c i key =
            sym (ap (λ (k : Key). superior_rolled_by o (node_key k) (record { event = e; rec = rec; outs = outs }) h) key
            ∙ ap (λ (v : Bool). v || (is_key (node_key c.key) (branch_key t b) && (is_current_ready (named_by_key d (branch_key t b)) && is_current_key o (node_key c.key) h))) sender
            ∙ ap (λ (v : Bool). is_key (node_key c.key) (branch_key t b) && (is_current_ready (named_by_key d (branch_key t b)) && v)) mine
            ∙ ap (λ (v : Bool). is_key (node_key c.key) (branch_key t b) && v) (and-true (is_current_ready (named_by_key d (branch_key t b)))))
          where
            mine : is_current_key o (node_key c.key) h ≡ true
            mine = ap (λ (v : Option Current). elim v as (λ _. Bool) [ None ↦ false | Some x ↦ is_key (node_key c.key) (node_key x.key) ]) i ∙ key_self (node_key c.key)

        from_digest : ((c : Current) × (d.current ≡ Some c) × (u.key ≡ c.key) × (rolled_up u ≡ (is_key (node_key c.key) (branch_key t b) && is_current_ready (named_by_key d (branch_key t b)) || rolled_up c))) ⊎ IsNew o.who d u × (rolled_up u ≡ false)
            → IsStep rolled_up o.who d (superior_rolled_by o (node_key u.key) (record { event = e; rec = rec; outs = outs }) h) u
        from_digest (inr n) = inr n
        from_digest (inl w) = inl (w.0, w.1, w.2, w.3 ∙ ap (λ (v : Bool). v || rolled_up w.0) (now_by w.0 w.1 w.2))
    heard o up h ev rec outs legal ok on u is = absurd (cc (on))

    step : (o : Origin) (up : Option Addr) (e : Entry) (h : List Entry) → IsLegal o up (e ∷ h) → (u : Current) → (action o.who (digest o h) e.event).next.current ≡ Some u → (b : Bool) → is_rolling_event e.event ≡ b
        → IsStep rolled_up o.who (prelude o.who (digest o h) e.event) (superior_rolled_by o (node_key u.key) e h) u
    step o up e h legal u is true on = heard o up h e.event e.rec e.outs legal.grown.3 legal.grown.0 on u is
    step o up e h legal u is false off =
        subst (λ (b : Bool). IsStep rolled_up o.who (prelude o.who (digest o h) e.event) b u) (silent (action o.who (digest o h) e.event).outs ∙ sym (none_heard o (node_key u.key) e h off))
        (raised_step none_told rolled_up always true o.who (prelude o.who (digest o h) e.event) (action o.who (digest o h) e.event) (raised_event none_told rolled_up always o.who (digest o h) e.event true (raised e.event off) (late_law o up h legal.grown.3) legal.grown.0 (λ c i. tt)) u is)
      where
        silent : (outs : List Out) → out_tells none_told outs ≡ false
        silent [] = refl
        silent (Out.Tell i ∷ outs) = silent outs
        silent (Out.Send a r ∷ outs) = silent outs

pub superior_rolled_agrees_law : (o : Origin) (up : Option Addr) (h : List Entry) → IsLegal o up h → superior_rolled_agrees o h ≡ true
superior_rolled_agrees_law o up h legal = go (digest o h).current refl
  where
    go : (v : Option Current) → (digest o h).current ≡ v → elim v as (λ _. Bool) [ None ↦ true | Some c ↦ same_bool c.superior_rolled (superior_rolled_in o (node_key c.key) h) ] ≡ true
    go None i = refl
    go (Some c) i = bool_self c.superior_rolled (superior_rolled_in o (node_key c.key) h) (flag_law rolled_up superior_rolled_by rolled_flag o up h legal c i)
