-- In every legal history a live arc rests if its end left, and no record but a response came since.
use Rattle.tp_history_state.proofs.Vocabulary.{if◌then◌else◌, ◌≡◌, ◌⊎◌, inl, inr, ℕ, Bool, true, false, refl, ap, sym, subst, ◌∙◌, arith, Option, Some, None, List, [], ◌∷◌, ◌&&◌, ◌||◌, ◌==◌, not, and-false, or_parts, or_from, false_from_ne_true, nat_tests, Mark, Addr, Request, DialogueRecord, PeerRecord, Who, Origin, Event, Entry, Out, Dialogue, Arc, Digest, is_live, said, heard, begun_by, cleared, woken, rested, completed, find_arc, link_with, is_live_with_peer, Move, is_superior, is_response, refusal, action, started, digest, said_to, has_said, heard_from, is_left_record, is_left_only, is_left_end, rests_in, is_at, is_unchanged, rolls, IsGrown, IsLegal, IsLate, wakes, Moves, prelude, rests_agrees, first_part, all_found, part_at, part_dialogue, part_none, part_same, plain_steps, plain_arrival, the, woken_at, begin_wakes, woken_on_begin, woken_on_other, IsPlaced, superior_at, headed_first, headed_law, late_law, takes_next, separate_law, bool_self}
use Rattle.tp_history_state.proofs.handshakes.Touches.{Touch, Waking, Taking_begin, Resting, Beginning, touched, run, some_touch, is_resting, FitsTouch, FitTouches}
use Rattle.tp_history_state.proofs.handshakes.TouchedMoves.{IsTouched, Touched, IsLed, is_arc_in, touched_moves}
use Rattle.tp_history_state.proofs.handshakes.TouchedEntry.{EntryTouched, given_of, led_law, touched_event}
use Rattle.tp_history_state.proofs.handshakes.Handshakes.{part_live}

abbrev rests : Dialogue → Bool
rests x = x.rests

abbrev said_only : ℕ → List Out → Bool
said_only p outs = has_said is_left_only (said_to p outs)

-- ---- what the touches of an event make of it

abbrev is_rousing : Touch → Bool
is_rousing Waking = true
is_rousing (Taking_begin h) = true
is_rousing (Beginning h) = true
is_rousing _ = false

rest_touched : (t : Touch) (x : Dialogue) → rests (touched t x) ≡ (is_resting t || (not (is_rousing t) && rests x))
unfolding said heard begun_by cleared woken rested completed
rest_touched t x = grind arith

-- no end leaves
rest_off : (ts : List Touch) → some_touch is_resting ts ≡ false → (x : Dialogue) → rests x ≡ false → rests (run ts x) ≡ false
rest_off [] none x h = h
rest_off (t ∷ ts) none x h =
    let n = or_parts (is_resting t) (some_touch is_resting ts) none in
    rest_off ts n.1 (touched t x) (rest_touched t x ∙ ap (λ (b : Bool). b || (not (is_rousing t) && rests x)) n.0 ∙ ap (λ (b : Bool). not (is_rousing t) && b) h ∙ and-false (not (is_rousing t)))

-- no record wakes it, and the arc leads to the superior
rest_on : (e : Event) (p : ℕ) → wakes e p ≡ false → (ts : List Touch) → FitTouches e p true ts → (x : Dialogue) → rests (run ts x) ≡ (some_touch is_resting ts || rests x)
rest_on e p off [] fits x = refl
rest_on e p off (t ∷ ts) fits x =
    let one : rests (touched t x) ≡ (is_resting t || rests x) = rest_touched t x ∙ ap (λ (b : Bool). is_resting t || (not b && rests x)) (calm t fits.0) in
    rest_on e p off ts fits.1 (touched t x) ∙ ap (λ (b : Bool). some_touch is_resting ts || b) one ∙ turn (is_resting t) (some_touch is_resting ts) (rests x)
  where
    calm : (t : Touch) → FitsTouch e p true t → is_rousing t ≡ false
    calm Waking f = absurd (cc (f, off))
    calm (Taking_begin h) f = absurd (let on : wakes e p ≡ true = begin_wakes e p h f in cc (on, off))
    calm (Beginning h) f = absurd (cc (f))
    calm t f = refl

    turn : (a b c : Bool) → (b || (a || c)) ≡ ((a || b) || c)
    turn a b c = grind arith

-- an end leaves by its user alone, to the superior
rest_up : (e : Event) (p : ℕ) (up : Bool) (ts : List Touch) → FitTouches e p up ts → some_touch is_resting ts ≡ true → (is_unchanged e ≡ true) × (up ≡ true)
rest_up e p up [] fits h = absurd (cc (h))
rest_up e p up (Resting ∷ ts) fits h = fits.0
rest_up e p up (t ∷ ts) fits h = rest_up e p up ts fits.1 h

-- Left is said, where the association goes on
left_only : (rs : List DialogueRecord) → has_said is_left_end rs ≡ false → has_said is_left_record rs ≡ has_said is_left_only rs
left_only [] h = refl
left_only (DialogueRecord.Left ∷ rs) h = refl
left_only (DialogueRecord.LeftEnd ∷ rs) h = absurd (cc (h))
left_only (r ∷ rs) h = left_only rs h

part_less : (f : Dialogue → Bool) → ((x : Dialogue) → rests x ≡ false → f x ≡ false) → (p : ℕ) (arcs : List Arc) → part_at rests p arcs ≡ false → part_at f p arcs ≡ false
part_less f k p arcs = grind arith

part_or : (b : Bool) (f : Dialogue → Bool) → ((x : Dialogue) → f x ≡ (b || rests x)) → (p : ℕ) (arcs : List Arc) → is_live_with_peer arcs p ≡ true → part_at f p arcs ≡ (b || part_at rests p arcs)
part_or true f k p arcs live = part_same f (λ x. true) p arcs k ∙ part_live p arcs live
part_or false f k p arcs live = part_same f rests p arcs k

-- ---- an event

-- from where the dialogue is woken
woken_move : (who : Who) (d : Digest) (from : Addr) (x y : Mark) (q : ℕ) (r : DialogueRecord) (R : Digest → Move → Type 0) → Moves who (the from x y q r) (prelude who d (the from x y q r)) R → IsLate d → is_response r ≡ false → refusal who d (the from x y q r) ≡ None
    → R (woken_at from.node (prelude who d (the from x y q r))) (action who d (the from x y q r))
woken_move who d from x y q (DialogueRecord.Begin t b h) R k late plain ok = woken_on_begin who d from x y q t b h R (plain_steps who _ _ R k) (plain_arrival who d from _ ok) (find_arc d.arcs from.node) refl
woken_move who d from x y q r R k late plain ok = woken_on_other who d from x y q r R (plain_steps who _ _ R k) late (λ t b h i. cc (i)) plain (plain_arrival who d from _ ok)

pub unchanged_first : (who : Who) (d : Digest) (e : Event) → is_unchanged e ≡ true → prelude who d e ≡ d
unchanged_first who d (Event.Do Request.Unchanged) h = refl
unchanged_first who d e h = absurd (grind (arith, h))

record IsRest (o : Origin) (up : Option Addr) (h : List Entry) : Type 0 where
  is : (p : ℕ) → is_live_with_peer (digest o h).arcs p ≡ true → part_at rests p (digest o h).arcs ≡ rests_in o p h
  above : (p : ℕ) → is_at up p ≡ false → is_live_with_peer (digest o h).arcs p ≡ true → part_at rests p (digest o h).arcs ≡ false

same_response : (r : DialogueRecord) → is_response r ≡ is_response r
same_response DialogueRecord.Response = refl
same_response r = refl

-- what is heard does not end the rest, or does
unheard : (p : ℕ) (e : Event) (b : Bool) → wakes e p ≡ false → elim (heard_from p e) as (λ _. Bool) [ None ↦ b | Some r ↦ if is_response r then b else false ] ≡ b
unheard p e b h1 = grind (arith, same_response)

awake : (p : ℕ) (e : Event) (b : Bool) → wakes e p ≡ true → elim (heard_from p e) as (λ _. Bool) [ None ↦ b | Some r ↦ if is_response r then b else false ] ≡ false
awake p e b h1 = grind (arith, same_response)

answers : (o : Origin) (p : ℕ) (e : Entry) (h : List Entry) (v : Bool) → is_live_with_peer (digest o h).arcs p ≡ true → elim (heard_from p e.event) as (λ _. Bool) [ None ↦ rests_in o p h | Some r ↦ if is_response r then rests_in o p h else false ] ≡ v
    → rests_in o p (e ∷ h) ≡ (said_only p e.outs || v)
answers o p e h v live heard = grind arith

abbrev IsRestAt : Origin → Option Addr → ℕ → Entry → List Entry → Type 0
IsRestAt o up p e h = (part_at rests p (action o.who (digest o h) e.event).next.arcs ≡ rests_in o p (e ∷ h)) × (is_at up p ≡ false → part_at rests p (action o.who (digest o h) e.event).next.arcs ≡ false)

-- what woke in an event that no user makes does not rest after it
rest_woken : (x : Dialogue) → rests (woken x) ≡ false
unfolding woken
rest_woken x = refl

woken_rests : (who : Who) (d : Digest) (v : Event) (p : ℕ) → wakes v p ≡ true → IsLate d → refusal who d v ≡ None → IsLed (prelude who d v) p → is_live_with_peer (action who d v).next.arcs p ≡ true
    → (part_at rests p (action who d v).next.arcs ≡ false) × (said_only p (action who d v).outs ≡ false) × (is_live_with_peer d.arcs p ≡ true)
woken_rests who d (Event.Arrive from (PeerRecord.OnAssoc x y q r)) p w late ok led live = (
  z.made rests ∙ part_less (λ k. rests (run z.touches k)) (rest_off z.touches none) p (woken_at p s).arcs off,
  sym (left_only (said_to p m.outs) z.open_end) ∙ sym z.rests ∙ none,
  ap is_live (ap (link_with d.arcs) (sym at) ∙ (takes_next who d from x y q r ok).live),
)
  where
    v : Event
    v = the from x y q r

    s : Digest
    s = prelude who d v

    m : Move
    m = action who d v

    R : Digest → Move → Type 0
    R = Touched p (is_arc_in s.current p) (rolls who d v) (is_superior s p) v s

    at : from.node ≡ p
    at = grind (arith, nat_tests, w)

    plain : is_response r ≡ false
    plain = grind (arith, w)

    moved : R (woken_at p s) m
    moved = subst (λ (n : ℕ). R (woken_at n s) m) at (woken_move who d from x y q r R (touched_moves who p (rolls who d v) v s (given_of who d v p ok led)) late plain ok)

    z : IsTouched p (is_arc_in s.current p) (rolls who d v) (is_superior s p) v (woken_at p s) m
    z = moved.1 refl live

    none : some_touch is_resting z.touches ≡ false
    none = false_from_ne_true (some_touch is_resting z.touches) (λ h. let on : is_unchanged v ≡ true = (rest_up v p (is_superior s p) z.touches z.fits h).0 in cc (on))

    off : part_at rests p (woken_at p s).arcs ≡ false
    off = let self : (p == p) ≡ true = grind (arith, nat_tests) in part_dialogue rests p s.arcs p woken ∙ rw self (part_none (λ x. rests (woken x)) p s.arcs rest_woken)
woken_rests who d v p w late ok led live = absurd (cc (w))

rest_step : (o : Origin) (up : Option Addr) (e : Entry) (h : List Entry) (p : ℕ) → IsGrown o up (e ∷ h) → IsRest o up h → is_live_with_peer (action o.who (digest o h) e.event).next.arcs p ≡ true → IsRestAt o up p e h
rest_step o up e h p legal was live = go (wakes e.event p) refl
  where
    d : Digest
    d = digest o h

    s : Digest
    s = prelude o.who d e.event

    m : Move
    m = action o.who d e.event

    late : IsLate d
    late = late_law o up h legal.3

    outs : said_only p m.outs ≡ said_only p e.outs
    outs = ap (λ (x : Entry). said_only p x.outs) legal.1

    x : EntryTouched p (is_arc_in s.current p) (rolls o.who d e.event) (is_superior s p) e.event s m
    x = touched_event o.who d e.event p late legal.0 (led_law o up e h p legal live) live

    ts : List Touch
    ts = x.here.touches

    said : some_touch is_resting ts ≡ said_only p e.outs
    said = x.here.rests ∙ left_only (said_to p m.outs) x.here.open_end ∙ outs

    side : is_superior s p ≡ is_at up p
    side = on (headed_first o up e h legal (headed_law o up h legal.3)).0
      where
        on : IsPlaced up s → is_superior s p ≡ is_at up p
        on (inl i) = superior_at s p ∙ ap (λ (v : Option Addr). is_at v p) i
        on (inr n) = absurd (let off : is_live_with_peer s.arcs p ≡ false = n p in let on : is_live_with_peer s.arcs p ≡ true = x.here.live in cc (on, off))

    left : some_touch is_resting ts ≡ true → (is_unchanged e.event ≡ true) × (is_superior s p ≡ true)
    left i = rest_up e.event p (is_superior s p) ts x.here.fits i

    -- nothing leaves on an arc that does not rest
    off_at : some_touch is_resting ts ≡ false → part_at rests p s.arcs ≡ false → part_at rests p m.next.arcs ≡ false
    off_at none first = x.here.made rests ∙ part_less (λ z. rests (run ts z)) (rest_off ts none) p s.arcs first

    none_below : is_at up p ≡ false → some_touch is_resting ts ≡ false
    none_below under = false_from_ne_true (some_touch is_resting ts) (λ i. let on : is_at up p ≡ true = sym side ∙ (left i).1 in cc (on, under))

    -- no record ends the rest
    quiet : wakes e.event p ≡ false → IsRestAt o up p e h
    quiet off = on (first_part o.who rests p d e.event legal.0 (λ v x. refl) x.here.live)
      where
        moved : (b : Bool) → is_at up p ≡ b → (is_at up p ≡ false → part_at rests p s.arcs ≡ false) → part_at rests p m.next.arcs ≡ (said_only p e.outs || part_at rests p s.arcs)
        moved true i above =
            x.here.made rests ∙ part_or (some_touch is_resting ts) (λ z. rests (run ts z)) (rest_on e.event p off ts (subst (λ (b : Bool). FitTouches e.event p b ts) (side ∙ i) x.here.fits)) p s.arcs x.here.live
            ∙ ap (λ (b : Bool). b || part_at rests p s.arcs) said
        moved false i above = off_at (none_below i) (above i) ∙ sym (or_from (said_only p e.outs) (part_at rests p s.arcs) (sym said ∙ none_below i) (above i))

        on : ((is_live_with_peer d.arcs p ≡ true) × (part_at rests p s.arcs ≡ part_at rests p d.arcs)) ⊎ ((is_live_with_peer d.arcs p ≡ false) × (part_at rests p s.arcs ≡ false)) → IsRestAt o up p e h
        on (inl f) =
            let above : is_at up p ≡ false → part_at rests p s.arcs ≡ false = λ under. f.1 ∙ was.above p under f.0 in (
              moved (is_at up p) refl above ∙ ap (λ (b : Bool). said_only p e.outs || b) (f.1 ∙ was.is p f.0) ∙ sym (answers o p e h (rests_in o p h) f.0 (unheard p e.event (rests_in o p h) off)),
              λ under. off_at (none_below under) (above under),
            )
        on (inr f) =
            let none : some_touch is_resting ts ≡ false = false_from_ne_true (some_touch is_resting ts) (λ i. let on : is_live_with_peer d.arcs p ≡ true = ap (λ (g : Digest). is_live_with_peer g.arcs p) (sym (unchanged_first o.who d e.event (left i).0)) ∙ x.here.live in cc (on, f.0)) in
            let dead : is_live_with_peer d.arcs p ≡ false = f.0 in
            let after : part_at rests p m.next.arcs ≡ false = off_at none f.1 in
            let asked : rests_in o p (e ∷ h) ≡ false = rw (dead, rests_in) refl in
            (after ∙ sym asked, λ under. after)

    go : (b : Bool) → wakes e.event p ≡ b → IsRestAt o up p e h
    go true w =
        let k = woken_rests o.who d e.event p w late legal.0 (led_law o up e h p legal live) live in
        let none : said_only p e.outs ≡ false = sym outs ∙ k.1 in
        (k.0 ∙ sym (answers o p e h false k.2 (awake p e.event (rests_in o p h) w) ∙ rw none refl), λ under. k.0)
    go false w = quiet w

rest_law : (o : Origin) (up : Option Addr) (h : List Entry) → IsGrown o up h → IsRest o up h
unfolding started
rest_law o up [] legal = record { is = λ p live. absurd (cc (live)); above = λ p off live. absurd (cc (live)) }
rest_law o up (e ∷ h) legal = record { is = λ p live. (rest_step o up e h p legal (rest_law o up h legal.3) live).0; above = λ p off live. (rest_step o up e h p legal (rest_law o up h legal.3) live).1 off }

-- ---- of all arcs

pub rests_law : (o : Origin) (up : Option Addr) (h : List Entry) → IsLegal o up h → rests_agrees o h ≡ true
rests_law o up h legal = grind (arith, all_found, bool_self, rest_law, separate_law)
