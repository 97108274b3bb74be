-- What an accepted event makes of the dialogue with one peer, and when it clears control and handshakes there.
use Rattle.tp_history_state.proofs.Vocabulary.{if◌then◌else◌, ◌≡◌, inl, inr, ℕ, Bool, true, false, refl, ap, sym, subst, ◌∙◌, arith, Option, Some, None, List, [], ◌∷◌, ◌&&◌, ◌||◌, ◌==◌, or-true, and_parts, or_right, nat_tests, Mark, Addr, DialogueRecord, PeerRecord, LogRec, Phase, TxEvent, Who, Origin, Event, Entry, Idle, Arc, Branch, Current, Digest, with_one_taken, Sight, Acts, Nothing_happens, Out_of_phase, is_active, is_ready, is_rolling, cleared, woken, find_arc, link_with, is_live_with_peer, with_dialogue, with_link, Row, situation_of, sight_of_tx, acts, row_holds, Move, move, is_superior, phase_of, transact, sight_of, sight_at, refused_arrival, take_record, woken_by, take_on, refusal, action, after_crash, digest, rolls, acting_from, is_record, is_left_record, logs_ready_or_commit, enters, was_branch, clears_handshakes, is_at, IsGrown, loses, IsLate, prelude, counted_in, left_by, wakes, plain_steps, ends_dialogue, step_transact, seen_branch, the, find_arc_is, on_none, woken_at, cleared_off, woken_off, every_move, plain_arrival, tells_rolled, Entered, Crashed, Begun, Plain, rolls_so, rolls_from, IsDownMove, down_event, IsPlaced, IsHeaded, headed_first, headed_law, superior_at, under_headed, live_back, IsLinked, linked_moves, late_law}
use Rattle.tp_histories.proofs.trees.Entered.{entered}
use Rattle.tp_history_state.proofs.passages.Shown.{is_early}
use Rattle.tp_history_state.proofs.handshakes.Touches.{Touch, Waking, Taking_left, Entering, Falling, Resting, some_touch, is_passing, is_resting, FitTouches, IsMade, made_dialogue}
use Rattle.tp_history_state.proofs.handshakes.TouchedMoves.{IsTouched, Touched, IsGiven, is_arc_in, touched_first_so, touched_moves, said_left, IsLed}
use Rattle.tp_runs.proofs.SeenRolled.{rolls_stays}

-- ---- an event that rolls

pub rolls_current : (who : Who) (d : Digest) (e : Event) → rolls who d e ≡ true → (prelude who d e).current ≡ d.current
unfolding after_crash
rolls_current who d e h1 = grind arith

pub given_of : (who : Who) (d : Digest) (e : Event) (p : ℕ) → refusal who d e ≡ None → IsLed (prelude who d e) p → IsGiven who e (prelude who d e) p (rolls who d e)
given_of who d e p ok led = record {
  early = λ h c at.
      let same : d.current ≡ Some c = sym (rolls_current who d e h) ∙ at in
      ap (λ (o : Option Current). is_early (elim o as (λ _. Phase) [ None ↦ Phase.Nil | Some x ↦ x.phase ])) (sym same) ∙ rolls_from who d e h;
  stays = λ h. rolls_stays who d e h;
  led = led;
  falls_so = λ c f arcs at asked h. rolls_so who d e ok c f arcs at asked h;
}

-- ---- a Left that is taken

left_acts : (who : Who) (d : Digest) (from : Addr) (x y : Mark) (q : ℕ) (r : DialogueRecord) (a : Arc) → is_left_record r ≡ true → refused_arrival who d from (PeerRecord.OnAssoc x y q r) ≡ None → find_arc d.arcs from.node ≡ Some a → (v : Sight) → sight_at who d a r ≡ v → v ≡ Acts
unfolding refused_arrival sight_of sight_of_tx
left_acts who d from x y q r a h1 h2 h3 v h4 = grind arith

-- from where the dialogue is cleared
abbrev cleared_at : ℕ → Digest → Digest
cleared_at p d = record d { arcs = with_dialogue d.arcs p cleared }

left_action : (who : Who) (d : Digest) (from : Addr) (x y : Mark) (q : ℕ) (r : DialogueRecord) → is_left_record r ≡ true → refused_arrival who d from (PeerRecord.OnAssoc x y q r) ≡ None → (o : Option Arc) → find_arc d.arcs from.node ≡ o
    → elim o as (λ _. Move) [ None ↦ move [] d | Some a ↦ take_on who a r d ] ≡ transact who (TxEvent.Took from.node r) (cleared_at from.node (woken_at from.node (counted_in d from)))
left_action who d from x y q r left ok None i = absurd (on_none who d from x y q r ok i)
left_action who d from x y q r left ok (Some a) i = go r left refl (left_acts who d from x y q r a left ok i (sight_at who d a r) refl)
  where
    at : a.peer.node ≡ from.node
    at = find_arc_is d.arcs from.node a i

    g : Digest
    g = record d { arcs = with_link d.arcs a.peer.node with_one_taken }

    on : (w : DialogueRecord) → sight_at who d a w ≡ Acts → take_on who a w d ≡ take_record who a w (woken_by w a.peer.node g)
    on w acts = ap (λ (v : Sight). elim v as (λ _. Move) [ Acts ↦ take_record who a w (woken_by w a.peer.node g) | Nothing_happens ↦ move [] (woken_by w a.peer.node g) | Out_of_phase ↦ move [] (woken_by w a.peer.node g) ]) acts

    moved : (w : DialogueRecord) → transact who (TxEvent.Took a.peer.node w) (cleared_at a.peer.node (woken_at a.peer.node g)) ≡ transact who (TxEvent.Took from.node w) (cleared_at from.node (woken_at from.node (counted_in d from)))
    moved w = ap (λ (n : ℕ). transact who (TxEvent.Took n w) (cleared_at n (woken_at n (record d { arcs = with_link d.arcs n with_one_taken })))) at

    go : (w : DialogueRecord) → is_left_record w ≡ true → r ≡ w → sight_at who d a r ≡ Acts → take_on who a r d ≡ transact who (TxEvent.Took from.node r) (cleared_at from.node (woken_at from.node (counted_in d from)))
    go DialogueRecord.Left l same acts = subst (λ (w : DialogueRecord). sight_at who d a w ≡ Acts → take_on who a w d ≡ transact who (TxEvent.Took from.node w) (cleared_at from.node (woken_at from.node (counted_in d from)))) (sym same) (λ k. on DialogueRecord.Left k ∙ moved DialogueRecord.Left) acts
    go DialogueRecord.LeftEnd l same acts = subst (λ (w : DialogueRecord). sight_at who d a w ≡ Acts → take_on who a w d ≡ transact who (TxEvent.Took from.node w) (cleared_at from.node (woken_at from.node (counted_in d from)))) (sym same) (λ k. on DialogueRecord.LeftEnd k ∙ moved DialogueRecord.LeftEnd) acts
    go w l same acts = absurd (cc (l))

abbrev pub is_taking_left : Touch → Bool
is_taking_left Taking_left = true
is_taking_left _ = false

-- its record is a Left of that peer
abbrev is_left_from : Event → ℕ → Bool
is_left_from e p = elim (left_by e) [ None ↦ false | Some n ↦ n == p ]

pub record EntryTouched (p : ℕ) (branch fall up : Bool) (e : Event) (d : Digest) (m : Move) : Type 0 where
  pub here : IsTouched p branch fall up e d m
  pub left : is_left_from e p ≡ true → some_touch is_taking_left here.touches ≡ true

touched_left : (who : Who) (d : Digest) (from : Addr) (x y : Mark) (q : ℕ) (r : DialogueRecord) (p : ℕ) (fall : Bool) → is_left_record r ≡ true → refusal who d (the from x y q r) ≡ None → IsLate d → IsGiven who (the from x y q r) (counted_in d from) p fall → from.node ≡ p
    → is_live_with_peer (action who d (the from x y q r)).next.arcs p ≡ true → EntryTouched p (is_arc_in d.current p) fall (is_superior d p) (the from x y q r) (counted_in d from) (action who d (the from x y q r))
touched_left who d from x y q r p fall left ok late given at live = record { here = two.0; left = λ h. ap (some_touch is_taking_left) two.1 ∙ ap (λ (ts : List Touch). some_touch is_taking_left (Waking ∷ ts)) one.1 }
  where
    e : Event
    e = the from x y q r

    s : Digest
    s = counted_in d from

    g : Digest
    g = woken_at from.node s

    v : Digest
    v = cleared_at from.node g

    m : Move
    m = action who d e

    is : m ≡ transact who (TxEvent.Took from.node r) v
    is = left_action who d from x y q r left (plain_arrival who d from (PeerRecord.OnAssoc x y q r) ok) (find_arc d.arcs from.node) refl

    moved : Touched p (is_arc_in d.current p) fall (is_superior d p) e s v m
    moved =
        subst (λ (k : Move). Touched p (is_arc_in d.current p) fall (is_superior d p) e s v k) (sym is)
        (step_transact who e s (Touched p (is_arc_in d.current p) fall (is_superior d p) e s) (plain_steps who e s _ (touched_moves who p fall e s given)) (TxEvent.Took from.node r) v (refl, refl, λ n off. ends_dialogue g.arcs from.node cleared n (λ z i. cleared_off z) ∙ ends_dialogue s.arcs from.node woken n (λ z i. woken_off z)) (λ c j. refl)
        (λ c j. record { late = late c j; ok = λ h. cc (h); abort = λ n h. cc (h); ordered = λ h. cc (h); not_begun = λ arcs h. cc (h) }) (none r left))
      where
        none : (w : DialogueRecord) → is_left_record w ≡ true → (n : ℕ) → loses (TxEvent.Took from.node w) n ≡ true → link_with v.arcs n ≡ Idle
        none DialogueRecord.Left l n h = absurd (cc (h))
        none DialogueRecord.LeftEnd l n h = absurd (cc (h))
        none w l n h = absurd (cc (l))

    self : (from.node == p) ≡ true
    self = grind (arith, nat_tests, at)

    by : left_by e ≡ Some p
    by = go r left
      where
        go : (w : DialogueRecord) → is_left_record w ≡ true → left_by (the from x y q w) ≡ Some p
        go DialogueRecord.Left l = ap (λ (n : ℕ). Some n) at
        go DialogueRecord.LeftEnd l = ap (λ (n : ℕ). Some n) at
        go w l = absurd (cc (l))

    wake : wakes e p ≡ true
    wake = go r left
      where
        go : (w : DialogueRecord) → is_left_record w ≡ true → wakes (the from x y q w) p ≡ true
        go DialogueRecord.Left l = rw self refl
        go DialogueRecord.LeftEnd l = rw self refl
        go w l = absurd (cc (l))

    x0 : IsTouched p (is_arc_in d.current p) fall (is_superior d p) e v m
    x0 = moved.1 refl live

    one : (z : IsTouched p (is_arc_in d.current p) fall (is_superior d p) e g m) × (z.touches ≡ Taking_left ∷ x0.touches)
    one = touched_first_so p (is_arc_in d.current p) fall (is_superior d p) e g v m (Taking_left ∷ []) (subst (λ (b : Bool). IsMade p g.arcs v.arcs (if b then Taking_left ∷ [] else [])) self (made_dialogue p g.arcs from.node cleared Taking_left (λ z. refl))) (by, tt) refl (λ h. h) x0

    two : (z : IsTouched p (is_arc_in d.current p) fall (is_superior d p) e s m) × (z.touches ≡ Waking ∷ one.0.touches)
    two = touched_first_so p (is_arc_in d.current p) fall (is_superior d p) e s g m (Waking ∷ []) (subst (λ (b : Bool). IsMade p s.arcs g.arcs (if b then Waking ∷ [] else [])) self (made_dialogue p s.arcs from.node woken Waking (λ z. refl))) (wake, tt) refl (λ h. h) one.0

-- every accepted event
pub touched_event : (who : Who) (d : Digest) (e : Event) (p : ℕ) → IsLate d → refusal who d e ≡ None → IsLed (prelude who d e) p → is_live_with_peer (action who d e).next.arcs p ≡ true
    → EntryTouched p (is_arc_in (prelude who d e).current p) (rolls who d e) (is_superior (prelude who d e) p) e (prelude who d e) (action who d e)
touched_event who d e p late ok led live = go (is_left_from e p) refl
  where
    s : Digest
    s = prelude who d e

    branch : Bool
    branch = is_arc_in s.current p

    moved : Touched p branch (rolls who d e) (is_superior s p) e s s (action who d e)
    moved = every_move who d e (Touched p branch (rolls who d e) (is_superior s p) e s) (touched_moves who p (rolls who d e) e s (given_of who d e p ok led)) late ok

    left : (v : Event) → is_left_from v p ≡ true → refusal who d v ≡ None → IsLed (prelude who d v) p → is_live_with_peer (action who d v).next.arcs p ≡ true → EntryTouched p (is_arc_in (prelude who d v).current p) (rolls who d v) (is_superior (prelude who d v) p) v (prelude who d v) (action who d v)
    left (Event.Arrive from (PeerRecord.OnAssoc x y q DialogueRecord.Left)) h ok led live = let at : from.node ≡ p = grind (arith, nat_tests, h) in touched_left who d from x y q DialogueRecord.Left p false refl ok late (given_of who d (the from x y q DialogueRecord.Left) p ok led) at live
    left (Event.Arrive from (PeerRecord.OnAssoc x y q DialogueRecord.LeftEnd)) h ok led live = let at : from.node ≡ p = grind (arith, nat_tests, h) in touched_left who d from x y q DialogueRecord.LeftEnd p false refl ok late (given_of who d (the from x y q DialogueRecord.LeftEnd) p ok led) at live
    left v h ok led live = absurd (cc (h))

    go : (b : Bool) → is_left_from e p ≡ b → EntryTouched p branch (rolls who d e) (is_superior s p) e s (action who d e)
    go true i = left e i ok led live
    go false i = record { here = moved.1 refl live; left = λ h. absurd (cc (h, i)) }

-- who leaves is under the node's superior, where an arc to it is live
pub led_law : (o : Origin) (up : Option Addr) (e : Entry) (h : List Entry) (p : ℕ) → IsGrown o up (e ∷ h) → is_live_with_peer (action o.who (digest o h) e.event).next.arcs p ≡ true → IsLed (prelude o.who (digest o h) e.event) p
led_law o up e h p legal live c now act under = go first.0
  where
    s : Digest
    s = prelude o.who (digest o h) e.event

    first : IsPlaced up s × IsHeaded up s.current
    first = headed_first o up e h legal (headed_law o up h legal.3)

    there : is_live_with_peer s.arcs p ≡ true
    there = live_back p s (action o.who (digest o h) e.event) (every_move o.who (digest o h) e.event (IsLinked p) (linked_moves o.who e.event s p) (late_law o up h legal.3) legal.0) live

    go : IsPlaced up s → is_superior s p ≡ true
    go (inl i) = superior_at s p ∙ ap (λ (v : Option Addr). is_at v p) i ∙ under_headed up c.key p (first.1 c now act).0 under
    go (inr n) = absurd (let off : is_live_with_peer s.arcs p ≡ false = n p in cc (there, off))

-- ---- control and handshakes are cleared there where the questions say so

abbrev pub is_clearing : Touch → Bool
is_clearing Entering = true
is_clearing Falling = true
is_clearing Taking_left = true
is_clearing Resting = true
is_clearing _ = false

some_clearing : (ts : List Touch) → some_touch is_clearing ts ≡ (some_touch is_passing ts || (some_touch is_resting ts || some_touch is_taking_left ts))
some_clearing [] = refl
some_clearing (t ∷ ts) = rw (some_clearing ts, one t) (turn (is_passing t) (is_resting t) (is_taking_left t) (some_touch is_passing ts) (some_touch is_resting ts) (some_touch is_taking_left ts))
  where
    one : (t : Touch) → is_clearing t ≡ (is_passing t || (is_resting t || is_taking_left t))
    one t = grind arith

    turn : (a b c u v w : Bool) → ((a || (b || c)) || (u || (v || w))) ≡ ((a || u) || ((b || v) || (c || w)))
    turn a b c u v w = grind arith

fit_left : (e : Event) (p : ℕ) (up : Bool) (ts : List Touch) → FitTouches e p up ts → some_touch is_taking_left ts ≡ true → left_by e ≡ Some p
fit_left e p up [] fits h = absurd (cc (h))
fit_left e p up (Taking_left ∷ ts) fits h = fits.0
fit_left e p up (t ∷ ts) fits h = fit_left e p up ts fits.1 h

pub was_arc : (o : Origin) (p : ℕ) (h : List Entry) → was_branch o p h ≡ is_arc_in (digest o h).current p
unfolding situation_of
was_arc o p h = grind (arith, seen_branch)

row_there : (rows : List Row) (n : ℕ) (f : Branch → Bool) → row_holds rows n f ≡ true → row_holds rows n (λ b. true) ≡ true
row_there rows n f h = grind (arith, h)

-- a Left that acts is of a branch
left_branch : (who : Who) (d : Digest) (a : Arc) (r : DialogueRecord) → is_left_record r ≡ true → sight_at who d a r ≡ Acts → (v : Option Current) → d.current ≡ v → is_arc_in v a.peer.node ≡ true
unfolding sight_of sight_of_tx
left_branch who d a r h1 h2 v h3 = grind (arith, or_right, row_there, seen_branch)

left_taken : (o : Origin) (p : ℕ) (h : List Entry) (e : Event) → refusal o.who (digest o h) e ≡ None → is_left_from e p ≡ true → (was_branch o p h && is_record is_left_record (acting_from o p e h)) ≡ true
left_taken o p h (Event.Arrive from (PeerRecord.OnAssoc x y q r)) ok l = go r ok l
  where
    self : (n : ℕ) → n ≡ p → (n == p) ≡ true
    self n i = grind (arith, nat_tests, i)

    found : (w : DialogueRecord) → is_left_record w ≡ true → from.node ≡ p → refused_arrival o.who (digest o h) from (PeerRecord.OnAssoc x y q w) ≡ None → (v : Option Arc) → find_arc (digest o h).arcs from.node ≡ v
        → (was_branch o p h && is_record is_left_record (acting_from o p (the from x y q w) h)) ≡ true
    found w left at plain None i = absurd (on_none o.who (digest o h) from x y q w plain i)
    found w left at plain (Some a) i =
        let acting : sight_at o.who (digest o h) a w ≡ Acts = left_acts o.who (digest o h) from x y q w a left plain i (sight_at o.who (digest o h) a w) refl in
        let peer : a.peer.node ≡ p = find_arc_is (digest o h).arcs from.node a i ∙ at in
        let branch : was_branch o p h ≡ true = was_arc o p h ∙ subst (λ (n : ℕ). is_arc_in (digest o h).current n ≡ true) peer (left_branch o.who (digest o h) a w left acting (digest o h).current refl) in
        let here : find_arc (digest o h).arcs p ≡ Some a = ap (find_arc (digest o h).arcs) (sym at) ∙ i in
        let on : acts (sight_at o.who (digest o h) a w) ≡ true = ap acts acting in
        rw (branch, self from.node at, acting_from) (rw (here, on) left)

    go : (w : DialogueRecord) → refusal o.who (digest o h) (the from x y q w) ≡ None → is_left_from (the from x y q w) p ≡ true → (was_branch o p h && is_record is_left_record (acting_from o p (the from x y q w) h)) ≡ true
    go DialogueRecord.Left k j = found DialogueRecord.Left refl (grind (arith, nat_tests, j)) (plain_arrival o.who (digest o h) from _ k) (find_arc (digest o h).arcs from.node) refl
    go DialogueRecord.LeftEnd k j = found DialogueRecord.LeftEnd refl (grind (arith, nat_tests, j)) (plain_arrival o.who (digest o h) from _ k) (find_arc (digest o h).arcs from.node) refl
    go w k j = absurd (cc (j))
left_taken o p h e ok l = absurd (cc (l))

-- what acts is a record that arrives
pub acting_is : (f : DialogueRecord → Bool) (o : Origin) (p : ℕ) (h : List Entry) (e : Event) → is_record f (acting_from o p e h) ≡ true → (from : Addr) × (x : Mark) × (y : Mark) × (q : ℕ) × (r : DialogueRecord) × (e ≡ the from x y q r) × (from.node ≡ p) × (f r ≡ true)
acting_is f o p h e h1 = grind (arith, nat_tests)

left_from : (o : Origin) (p : ℕ) (h : List Entry) (e : Event) → is_record is_left_record (acting_from o p e h) ≡ true → is_left_from e p ≡ true
left_from o p h e i = grind (arith, nat_tests, acting_is)

same_truth : (u v : Bool) → (u ≡ true → v ≡ true) → (v ≡ true → u ≡ true) → u ≡ v
same_truth true v f k = sym (f refl)
same_truth false true f k = k refl
same_truth false false f k = refl

pub clears_law : (o : Origin) (up : Option Addr) (e : Entry) (h : List Entry) (p : ℕ) → IsGrown o up (e ∷ h) → is_live_with_peer (action o.who (digest o h) e.event).next.arcs p ≡ true
    → (x : EntryTouched p (is_arc_in (prelude o.who (digest o h) e.event).current p) (rolls o.who (digest o h) e.event) (is_superior (prelude o.who (digest o h) e.event) p) e.event (prelude o.who (digest o h) e.event) (action o.who (digest o h) e.event))
    → some_touch is_clearing x.here.touches ≡ clears_handshakes o p e h
unfolding after_crash
clears_law o up e h p legal live x = some_clearing ts ∙ rw (passes (entered o e h legal.0), rests, takes) refl
  where
    d : Digest
    d = digest o h

    s : Digest
    s = prelude o.who d e.event

    m : Move
    m = action o.who d e.event

    ts : List Touch
    ts = x.here.touches

    rec : m.rec ≡ e.rec
    rec = ap (λ (f : Entry). f.rec) legal.1

    rests : some_touch is_resting ts ≡ said_left p e.outs
    rests = x.here.rests ∙ ap (λ (f : Entry). said_left p f.outs) legal.1

    takes : some_touch is_taking_left ts ≡ (was_branch o p h && is_record is_left_record (acting_from o p e.event h))
    takes =
        same_truth _ _
        (λ i. left_taken o p h e.event legal.0 (let by : left_by e.event ≡ Some p = fit_left e.event p (is_superior s p) ts x.here.fits i in from_by e.event by))
        (λ i. x.left (left_from o p h e.event (last (was_branch o p h) i)))
      where
        from_by : (v : Event) → left_by v ≡ Some p → is_left_from v p ≡ true
        from_by v by = ap (λ (w : Option ℕ). elim w as (λ _. Bool) [ None ↦ false | Some n ↦ n == p ]) by ∙ self p
          where
            self : (n : ℕ) → (n == n) ≡ true
            self n = grind (arith, nat_tests)

        last : (b : Bool) {c : Bool} → (b && c) ≡ true → c ≡ true
        last true i = i
        last false i = absurd (cc (i))

    same_enters : enters o e h ≡ (logs_ready_or_commit m.rec || rolls o.who d e.event)
    same_enters = ap (λ (r : Option LogRec). logs_ready_or_commit r || rolls o.who d e.event) (sym rec)

    passes : Entered o e h → some_touch is_passing ts ≡ (enters o e h && was_branch o p h)
    passes (Crashed i) = absurd (let off : is_live_with_peer s.arcs p ≡ false = ap (λ (v : Event). is_live_with_peer (prelude o.who d v).arcs p) i in let on : is_live_with_peer s.arcs p ≡ true = x.here.live in cc (on, off))
    passes (Begun from t b a begun calm cur nil quiet sent) =
        let none : (logs_ready_or_commit m.rec || rolls o.who d e.event) ≡ false = rw (quiet.2, quiet.0) refl in
        same_truth _ _
        (λ i. absurd (let k = and_parts _ (logs_ready_or_commit m.rec || rolls o.who d e.event) (x.here.passing i) in let on : (logs_ready_or_commit m.rec || rolls o.who d e.event) ≡ true = k.1 in cc (on, none)))
        (λ i. absurd (let k = and_parts (enters o e h) (was_branch o p h) i in let on : (logs_ready_or_commit m.rec || rolls o.who d e.event) ≡ true = sym same_enters ∙ k.0 in cc (on, none)))
    passes (Plain calm begun same) =
        same_truth _ _
        (λ i. let k = and_parts (is_arc_in s.current p) (logs_ready_or_commit m.rec || rolls o.who d e.event) (x.here.passing i) in rw (same_enters ∙ k.1, was_arc o p h ∙ sym arc ∙ k.0) refl)
        (λ i. let k = and_parts (enters o e h) (was_branch o p h) i in back (logs_ready_or_commit m.rec) refl (arc ∙ sym (was_arc o p h) ∙ k.1) (sym same_enters ∙ k.0))
      where
        arc : is_arc_in s.current p ≡ is_arc_in d.current p
        arc = ap (λ (c : Option Current). is_arc_in c p) same

        fell : is_arc_in s.current p ≡ true → rolls o.who d e.event ≡ true → (v : Option Current) → d.current ≡ v → some_touch is_passing ts ≡ true
        fell b r None i = absurd (let no : is_arc_in s.current p ≡ false = arc ∙ ap (λ (c : Option Current). is_arc_in c p) i in cc (b, no))
        fell b r (Some c) i = x.here.rolled b r off (down (down_event o.who d e.event c legal.0 r i))
          where
            phase : phase_of s ≡ phase_of d
            phase = ap (λ (v : Option Current). elim v as (λ _. Phase) [ None ↦ Phase.Nil | Some z ↦ z.phase ]) same

            early : (q : Phase) → (is_active q || is_ready q) ≡ true → is_rolling q ≡ false
            early q j = grind (arith, j)

            off : is_rolling (phase_of s) ≡ false
            off = ap is_rolling phase ∙ early (phase_of d) (rolls_from o.who d e.event r)

            down : IsDownMove m → (is_rolling (phase_of m.next) || tells_rolled m) ≡ true
            down (inl k) = rw k (or-true (is_rolling (phase_of m.next)))
            down (inr k) = let on : is_rolling (phase_of m.next) ≡ true = ap (λ (v : Option Current). is_rolling (elim v as (λ _. Phase) [ None ↦ Phase.Nil | Some z ↦ z.phase ])) k.1 ∙ k.2 in rw on refl

        back : (b : Bool) → logs_ready_or_commit m.rec ≡ b → is_arc_in s.current p ≡ true → (b || rolls o.who d e.event) ≡ true → some_touch is_passing ts ≡ true
        back true i br k = x.here.logged br i
        back false i br k = fell br k d.current refl
