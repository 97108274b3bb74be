-- In every legal history the response that is owed on a live arc gives control if the handshake that asks for it was the last
-- word on control there.
use Rattle.tp_history_state.proofs.Vocabulary.{if◌then◌else◌, ◌≡◌, ◌⊎◌, inl, inr, ℕ, Bool, true, false, refl, ap, sym, subst, ◌∙◌, arith, Option, Some, None, List, [], ◌∷◌, ◌++◌, ◌&&◌, ◌||◌, ◌==◌, not, Addr, DialogueRecord, Holder, PeerRecord, Side, Who, Origin, Event, Entry, Due, No_response, Response_due, Response_with_control, Dialogue, Arc, Digest, is_live, Acts, Heard, Hear_handshake_grant, is_due, is_polarized, gives_control, without_control, said, heard, begun_by, cleared, woken, rested, completed, fresh_dialogue, arrived, find_arc, link_of, is_live_with_peer, sight_of, sight_at, Move, is_superior, refusal, action, started, digest, rolls, Cause, Begun_by, Granted_away, Granted_here, Handshake_granted_here, Left_transaction, Completed_below, said_to, has_said, acting_from, is_record, is_handshake_record, is_handshake_grant_record, is_at, cause_by, last_cause, is_granting_cause, clears_handshakes, owes_response_in, due_in, number_of_due, IsGrown, IsLegal, prelude, due_agrees, part_at, part_same, all_found, first_dialogue, on_live, plain_arrival, sight_acts, number_self, late_law, separate_law, is_response}
use Rattle.tp_model.specs.Questions.{Entered}
use Rattle.tp_history_state.proofs.handshakes.Talks.{says_none, hears_none, Tells, TalkSo, Talk, Speaks_there, Hears_there, Silent, talk_of}
use Rattle.tp_history_state.proofs.handshakes.Touches.{Touch, Waking, Saying, Hearing, touched, run, FitTouches, when}
use Rattle.tp_history_state.proofs.handshakes.TouchedMoves.{is_arc_in}
use Rattle.tp_history_state.proofs.handshakes.TouchedEntry.{EntryTouched, touched_event, acting_is, led_law}
use Rattle.tp_history_state.proofs.handshakes.Handshakes.{is_talking, talks_not, unshaken, owes, owes_response_law}
use Rattle.tp_history_state.proofs.control.Law.{control_known}
use Rattle.tp_history_state.proofs.control.Arcs.{control_at, control_of, waits, made_ruled, parts_of}
use Rattle.tp_history_state.proofs.control.Causes.{by_cause, side_of_end, last_some, last_dead, last_on}
use Rattle.tp_history_state.proofs.control.Heard.{awake, acted}

-- ---- a live dialogue stays polarized, or not

polarized_kept : (t : Touch) (x : Dialogue) → is_polarized (touched t x) ≡ is_polarized x
unfolding said heard begun_by cleared woken rested completed
polarized_kept t x = grind arith

run_polarized : (ts : List Touch) (x : Dialogue) → is_polarized (run ts x) ≡ is_polarized x
run_polarized [] x = refl
run_polarized (t ∷ ts) x = run_polarized ts (touched t x) ∙ polarized_kept t x

polarized_step : (o : Origin) (up : Option Addr) (e : Entry) (h : List Entry) (p : ℕ) → IsGrown o up (e ∷ h) → is_live_with_peer (digest o h).arcs p ≡ true → is_live_with_peer (action o.who (digest o h) e.event).next.arcs p ≡ true
    → part_at is_polarized p (action o.who (digest o h) e.event).next.arcs ≡ part_at is_polarized p (digest o h).arcs
polarized_step o up e h p legal was live = x.here.made is_polarized ∙ part_same (λ y. is_polarized (run x.here.touches y)) is_polarized p s.arcs (run_polarized x.here.touches) ∙ go (first_dialogue o.who is_polarized p d e.event legal.0 x.here.live)
  where
    d : Digest
    d = digest o h

    s : Digest
    s = prelude o.who d e.event

    x : EntryTouched p (is_arc_in s.current p) (rolls o.who d e.event) (is_superior s p) e.event s (action o.who d e.event)
    x = touched_event o.who d e.event p (late_law o up h legal.3) legal.0 (led_law o up e h p legal live) live

    go : ((is_live_with_peer d.arcs p ≡ true) × (part_at is_polarized p s.arcs ≡ part_at is_polarized p d.arcs)) ⊎ ((is_live_with_peer d.arcs p ≡ false) × ((v : ℕ) × (z : Side) × (part_at is_polarized p s.arcs ≡ is_polarized (fresh_dialogue v z))))
        → part_at is_polarized p s.arcs ≡ part_at is_polarized p d.arcs
    go (inl k) = k.1
    go (inr k) = absurd (let off = k.0 in cc (was, off))

-- ---- a record that acts

acted_at : (f : DialogueRecord → Bool) (o : Origin) (p : ℕ) (h : List Entry) (e : Event) → is_record f (acting_from o p e h) ≡ true → (a : Arc) × (r : DialogueRecord) × (find_arc (digest o h).arcs p ≡ Some a) × (sight_at o.who (digest o h) a r ≡ Acts) × (f r ≡ true)
acted_at f o p h e is = grind (arith, sight_acts)

handing_is : (r : DialogueRecord) → is_handshake_grant_record r ≡ true → r ≡ DialogueRecord.HandshakeGrant
handing_is DialogueRecord.HandshakeGrant h = refl
handing_is r h = absurd (cc (h))

shake_is : (r : DialogueRecord) → is_handshake_record r ≡ true → r ≡ DialogueRecord.Handshake
shake_is DialogueRecord.Handshake h = refl
shake_is r h = absurd (cc (h))

-- a handshake that gives control acts on a polarized dialogue
heard_polarized : (who : Who) (d : Digest) (a : Arc) → sight_at who d a DialogueRecord.HandshakeGrant ≡ Acts → is_polarized a.dialogue ≡ true
unfolding sight_of arrived
heard_polarized who d a h = grind (arith, acted, awake)

-- and any handshake where this end holds no control
heard_unheld : (who : Who) (d : Digest) (a : Arc) → sight_at who d a DialogueRecord.Handshake ≡ Acts → a.dialogue.holds ≡ false
unfolding sight_of arrived
heard_unheld who d a h = let k = (acted _ _ (awake who d a DialogueRecord.Handshake h)).1 in grind (arith, k)

handed_polarized : (o : Origin) (p : ℕ) (h : List Entry) (e : Event) → is_record is_handshake_grant_record (acting_from o p e h) ≡ true → part_at is_polarized p (digest o h).arcs ≡ true
handed_polarized o p h e is =
    let k = acted_at is_handshake_grant_record o p h e is in
    let on : is_polarized k.0.dialogue ≡ true = heard_polarized o.who (digest o h) k.0 (ap (sight_at o.who (digest o h) k.0) (sym (handing_is k.1 k.4)) ∙ k.3) in
    ap (λ (v : Option Arc). elim v as (λ _. Bool) [ None ↦ false | Some a ↦ is_polarized a.dialogue ]) k.2 ∙ on

-- ---- on a dialogue that is not polarized no response gives control

part_less : (f g : Dialogue → Bool) (p : ℕ) (arcs : List Arc) → ((x : Dialogue) → g x ≡ false → f x ≡ false) → part_at g p arcs ≡ false → part_at f p arcs ≡ false
part_less f g p arcs less = grind arith

-- no handshake with control is heard
abbrev is_tame : Touch → Bool
is_tame (Hearing Hear_handshake_grant) = false
is_tame _ = true

gives_less : (u : Due) → gives_control (without_control u) ≡ false
gives_less No_response = refl
gives_less _ = refl

tame_kept : (t : Touch) → is_tame t ≡ true → (x : Dialogue) → waits x ≡ false → waits (touched t x) ≡ false
unfolding said heard begun_by cleared woken rested completed
tame_kept t tame x h = grind (arith, tame, h, gives_less)

abbrev AllTame : List Touch → Type 0
AllTame [] = Unit {0}
AllTame (t ∷ ts) = (is_tame t ≡ true) × AllTame ts

tame_run : (ts : List Touch) → AllTame ts → (x : Dialogue) → waits x ≡ false → waits (run ts x) ≡ false
tame_run [] all x h = h
tame_run (t ∷ ts) all x h = tame_run ts all.1 (touched t x) (tame_kept t all.0 x h)

fits_tame : (e : Event) (p : ℕ) (up : Bool) → says_none e p ≡ true → hears_none e p ≡ true → (ts : List Touch) → FitTouches e p up ts → AllTame ts
fits_tame e p up s h [] fits = tt
fits_tame e p up s h (t ∷ ts) fits = (go t (talks_not e p up s h t fits.0), fits_tame e p up s h ts fits.1)
  where
    go : (t : Touch) → is_talking t ≡ false → is_tame t ≡ true
    go (Hearing Hear_handshake_grant) i = absurd (cc (i))
    go _ i = refl

told_tame : (j : Heard) (w b : Bool) → (b ≡ true → j ≡ Hear_handshake_grant → ⊥) → AllTame (when w (Waking ∷ []) ++ when b (Hearing j ∷ []))
told_tame j w b off = grind arith

fresh_waits : (v : ℕ) (z : Side) → waits (fresh_dialogue v z) ≡ false
fresh_waits v z = refl

plain_step : (o : Origin) (up : Option Addr) (e : Entry) (h : List Entry) (p : ℕ) → IsGrown o up (e ∷ h) → (is_live_with_peer (digest o h).arcs p ≡ true → part_at is_polarized p (digest o h).arcs ≡ false → part_at waits p (digest o h).arcs ≡ false)
    → is_live_with_peer (action o.who (digest o h) e.event).next.arcs p ≡ true → part_at is_polarized p (action o.who (digest o h) e.event).next.arcs ≡ false → part_at waits p (action o.who (digest o h) e.event).next.arcs ≡ false
plain_step o up e h p legal was live plain = go (talk_of o p h e.event legal.0 live)
  where
    d : Digest
    d = digest o h

    s : Digest
    s = prelude o.who d e.event

    m : Move
    m = action o.who d e.event

    before : is_live_with_peer d.arcs p ≡ true → part_at is_polarized p d.arcs ≡ false
    before here = sym (polarized_step o up e h p legal here live) ∙ plain

    talked : (ts : List Touch) (v : Option DialogueRecord) (rs : List DialogueRecord) → AllTame ts → TalkSo o p h e.event m ts v rs → part_at waits p m.next.arcs ≡ false
    talked ts v rs tame t = t.made waits ∙ part_less (λ x. waits (run ts x)) waits p d.arcs (tame_run ts tame) (was t.live (before t.live))

    quiet : says_none e.event p ≡ true → hears_none e.event p ≡ true → part_at waits p m.next.arcs ≡ false
    quiet sn hn = x.here.made waits ∙ part_less (λ y. waits (run x.here.touches y)) waits p s.arcs (tame_run x.here.touches (fits_tame e.event p (is_superior s p) sn hn x.here.touches x.here.fits)) (first (first_dialogue o.who waits p d e.event legal.0 x.here.live))
      where
        x : EntryTouched p (is_arc_in s.current p) (rolls o.who d e.event) (is_superior s p) e.event s m
        x = touched_event o.who d e.event p (late_law o up h legal.3) legal.0 (led_law o up e h p legal live) live

        first : ((is_live_with_peer d.arcs p ≡ true) × (part_at waits p s.arcs ≡ part_at waits p d.arcs)) ⊎ ((is_live_with_peer d.arcs p ≡ false) × ((v : ℕ) × (z : Side) × (part_at waits p s.arcs ≡ waits (fresh_dialogue v z)))) → part_at waits p s.arcs ≡ false
        first (inl k) = k.1 ∙ was k.0 (before k.0)
        first (inr k) = k.1.2 ∙ fresh_waits k.1.0 k.1.1

    go : Talk o p h e.event m → part_at waits p m.next.arcs ≡ false
    go (Speaks_there a r sp by t) = talked (Saying a ∷ []) None (r ∷ []) (refl, tt) t
    go (Hears_there j r w b tl by t) = talked (when w (Waking ∷ []) ++ when b (Hearing j ∷ [])) (if b then Some r else None) [] (told_tame j w b (λ i l. off i l t.acting t.live)) t
      where
        off : b ≡ true → j ≡ Hear_handshake_grant → acting_from o p e.event h ≡ (if b then Some r else None) → is_live_with_peer d.arcs p ≡ true → ⊥
        off i l acting here =
            let told : r ≡ DialogueRecord.HandshakeGrant = subst (λ (k : Heard). Tells k r) l tl in
            let heard_it : is_record is_handshake_grant_record (acting_from o p e.event h) ≡ true = ap (is_record is_handshake_grant_record) (acting ∙ ap (λ (v : Bool). if v then Some r else None) i) ∙ ap is_handshake_grant_record told in
            let on : part_at is_polarized p d.arcs ≡ true = handed_polarized o p h e.event heard_it in
            let none : part_at is_polarized p d.arcs ≡ false = before here in
            cc (on, none)
    go (Silent sn hn) = quiet sn hn

pub plain_law : (o : Origin) (up : Option Addr) (h : List Entry) (p : ℕ) → IsGrown o up h → is_live_with_peer (digest o h).arcs p ≡ true → part_at is_polarized p (digest o h).arcs ≡ false → part_at waits p (digest o h).arcs ≡ false
unfolding started
plain_law o up [] p legal live plain = absurd (cc (live))
plain_law o up (e ∷ h) p legal live plain = plain_step o up e h p legal (plain_law o up h p legal.3) live plain

-- ---- the last cause, from entry to entry

granted_pick : (k : Option Holder) (a b c x y z : Bool) → ◌≡◌ {A = Option Cause} (elim k as (λ _. Option Cause) [ Some j ↦ Some (Begun_by j) | None ↦ if a then Some Granted_away else if b then Some Granted_here else if c then Some Handshake_granted_here else if x then Some Completed_below else if y then Some Entered else if z then Some Left_transaction else None ]) (Some Handshake_granted_here) → c ≡ true
granted_pick k a b c x y z h1 = grind arith

none_pick : (k : Option Holder) (a b c x y z : Bool) → ◌≡◌ {A = Option Cause} (elim k as (λ _. Option Cause) [ Some j ↦ Some (Begun_by j) | None ↦ if a then Some Granted_away else if b then Some Granted_here else if c then Some Handshake_granted_here else if x then Some Completed_below else if y then Some Entered else if z then Some Left_transaction else None ]) None → c ≡ false
none_pick None false false false x y z h = refl
none_pick _ _ _ _ x y z h = absurd (cc (h))

granted_acting : (o : Origin) (p : ℕ) (e : Entry) (h : List Entry) → cause_by o p e h ≡ Some Handshake_granted_here → is_record is_handshake_grant_record (acting_from o p e.event h) ≡ true
granted_acting o p e h is = granted_pick _ _ _ (is_record is_handshake_grant_record (acting_from o p e.event h)) _ _ _ is

none_acting : (o : Origin) (p : ℕ) (e : Entry) (h : List Entry) → cause_by o p e h ≡ None → is_record is_handshake_grant_record (acting_from o p e.event h) ≡ false
none_acting o p e h is = none_pick _ _ _ (is_record is_handshake_grant_record (acting_from o p e.event h)) _ _ _ is

granting_is : (c : Cause) → is_granting_cause c ≡ true → c ≡ Handshake_granted_here
granting_is Handshake_granted_here h = refl
granting_is c h = absurd (cc (h))

-- it is this handshake by the entry, or it was before, and no other cause came
abbrev IsGranted : Origin → ℕ → Entry → List Entry → Type 0
IsGranted o p e h = ((cause_by o p e h ≡ Some Handshake_granted_here) × ((last_cause o p false (e ∷ h)).1 ≡ false))
    ⊎ ((cause_by o p e h ≡ None) × (is_live_with_peer (digest o h).arcs p ≡ true) × (is_granting_cause (last_cause o p false h).0 ≡ true) × ((last_cause o p false (e ∷ h)).1 ≡ (has_said is_response (said_to p e.outs) || (last_cause o p false h).1)))

granted_so : (o : Origin) (p : ℕ) (e : Entry) (h : List Entry) → is_granting_cause (last_cause o p false (e ∷ h)).0 ≡ true → IsGranted o p e h
granted_so o p e h is = grind (arith, granting_is, last_dead, last_on, last_some)

-- what acts comes on a live link
acting_live : (o : Origin) (p : ℕ) (h : List Entry) (e : Event) (f : DialogueRecord → Bool) → refusal o.who (digest o h) e ≡ None → is_record f (acting_from o p e h) ≡ true → is_live_with_peer (digest o h).arcs p ≡ true
acting_live o p h e f ok is =
    let k = acting_is f o p h e is in
    ap (is_live_with_peer (digest o h).arcs) (sym k.6)
    ∙ on_live o.who (digest o h) k.0 k.1 k.2 k.3 k.4 (plain_arrival o.who (digest o h) k.0 (PeerRecord.OnAssoc k.1 k.2 k.3 k.4) (subst (λ (v : Event). refusal o.who (digest o h) v ≡ None) k.5 ok))

-- such a dialogue is polarized
pub granted_polarized : (o : Origin) (up : Option Addr) (h : List Entry) (p : ℕ) → IsGrown o up h → is_live_with_peer (digest o h).arcs p ≡ true → is_granting_cause (last_cause o p false h).0 ≡ true → part_at is_polarized p (digest o h).arcs ≡ true
unfolding started
granted_polarized o up [] p legal live is = absurd (cc (live))
granted_polarized o up (e ∷ h) p legal live is = go (granted_so o p e h is) (granted_polarized o up h p legal.3)
  where
    go : IsGranted o p e h → (is_live_with_peer (digest o h).arcs p ≡ true → is_granting_cause (last_cause o p false h).0 ≡ true → part_at is_polarized p (digest o h).arcs ≡ true) → part_at is_polarized p (digest o (e ∷ h)).arcs ≡ true
    go (inl k) was =
        let heard_it = granted_acting o p e h k.0 in
        polarized_step o up e h p legal (acting_live o p h e.event is_handshake_grant_record legal.0 heard_it) live ∙ handed_polarized o p h e.event heard_it
    go (inr k) was = polarized_step o up e h p legal k.1 live ∙ was k.1 k.2

-- ---- control there, where a handshake gave it last

granted_control : (o : Origin) (up : Option Addr) (h : List Entry) (p : ℕ) → IsGrown o up h → is_live_with_peer (digest o h).arcs p ≡ true → is_granting_cause (last_cause o p false h).0 ≡ true → control_at p (digest o h).arcs ≡ ((last_cause o p false h).1, not (last_cause o p false h).1)
granted_control o up h p legal live is =
    (control_known o up h p legal).is (made_ruled p (digest o h).arcs live (granted_polarized o up h p legal live is))
    ∙ ap (λ (c : Cause). by_cause (side_of_end (is_at up p)) c (last_cause o p false h).1) (granting_is (last_cause o p false h).0 is)

-- no handshake acts where this end holds control
unshaken_held : (o : Origin) (p : ℕ) (h : List Entry) (e : Event) → is_record is_handshake_record (acting_from o p e h) ≡ true → (control_at p (digest o h).arcs).0 ≡ false
unshaken_held o p h e is =
    let k = acted_at is_handshake_record o p h e is in
    ap (λ (v : Option Arc). (control_of v).0) k.2 ∙ heard_unheld o.who (digest o h) k.0 (ap (sight_at o.who (digest o h) k.0) (sym (shake_is k.1 k.4)) ∙ k.3)

-- and the entry that hears one says no response
shaken_unsaid : (o : Origin) (p : ℕ) (e : Entry) (h : List Entry) → Talk o p h e.event (action o.who (digest o h) e.event) → said_to p e.outs ≡ said_to p (action o.who (digest o h) e.event).outs → is_record is_handshake_record (acting_from o p e.event h) ≡ true
    → has_said is_response (said_to p e.outs) ≡ false
shaken_unsaid o p e h h1 h2 h3 = grind (arith, unshaken)

-- what was answered is owed no more
pub answered_law : (o : Origin) (up : Option Addr) (h : List Entry) (p : ℕ) → IsGrown o up h → is_live_with_peer (digest o h).arcs p ≡ true → is_granting_cause (last_cause o p false h).0 ≡ true → (last_cause o p false h).1 ≡ true → owes_response_in o p h ≡ false
unfolding started
answered_law o up [] p legal live is said_it = absurd (cc (live))
answered_law o up (e ∷ h) p legal live is said_it = go (granted_so o p e h is) (answered_law o up h p legal.3)
  where
    outs : said_to p e.outs ≡ said_to p (action o.who (digest o h) e.event).outs
    outs = ap (λ (f : Entry). said_to p f.outs) (sym legal.1)

    or_last : (a b : Bool) → (a || b) ≡ true → a ≡ false → b ≡ true
    or_last true b i j = absurd (cc (j))
    or_last false b i j = i

    pick : (s g c a b : Bool) → s ≡ false → g ≡ false → (a ≡ false → b ≡ false) → (if s || g then true else if c || a then false else b) ≡ false
    pick s g true a b i j k = rw (i, j) refl
    pick s g false true b i j k = rw (i, j) refl
    pick s g false false b i j k = rw (i, j) (k refl)

    go : IsGranted o p e h → (is_live_with_peer (digest o h).arcs p ≡ true → is_granting_cause (last_cause o p false h).0 ≡ true → (last_cause o p false h).1 ≡ true → owes_response_in o p h ≡ false) → owes_response_in o p (e ∷ h) ≡ false
    go (inl k) was = absurd (let off = k.1 in cc (off, said_it))
    go (inr k) was =
        rw (k.1, owes_response_in)
        (pick (is_record is_handshake_record (acting_from o p e.event h)) (is_record is_handshake_grant_record (acting_from o p e.event h)) (clears_handshakes o p e h) (has_said is_response (said_to p e.outs)) (owes_response_in o p h) (unshaken_now (is_record is_handshake_record (acting_from o p e.event h)) refl) (none_acting o p e h k.0) (λ i. was k.1 k.2 (last i)))
      where
        last : has_said is_response (said_to p e.outs) ≡ false → (last_cause o p false h).1 ≡ true
        last i = or_last (has_said is_response (said_to p e.outs)) (last_cause o p false h).1 (sym k.3 ∙ said_it) i

        unshaken_now : (b : Bool) → is_record is_handshake_record (acting_from o p e.event h) ≡ b → b ≡ false
        unshaken_now false i = refl
        unshaken_now true i =
            let answered : (last_cause o p false h).1 ≡ true = last (shaken_unsaid o p e h (talk_of o p h e.event legal.0 live) outs i) in
            let held_it : (control_at p (digest o h).arcs).0 ≡ true = ap (λ (v : Bool × Bool). v.0) (granted_control o up h p legal.3 k.1 k.2) ∙ answered in
            absurd (let off = unshaken_held o p h e.event i in cc (off, held_it))

-- ---- of all arcs

made_due : (u : Due) (b c : Bool) → is_due u ≡ b → (b ≡ true → gives_control u ≡ c) → number_of_due u ≡ number_of_due (if not b then No_response else if c then Response_with_control else Response_due)
made_due u b c h1 h2 = grind arith

-- a response that is owed gives control if the last cause is the handshake
gives_law : (o : Origin) (up : Option Addr) (h : List Entry) (p : ℕ) → IsGrown o up h → is_live_with_peer (digest o h).arcs p ≡ true → owes_response_in o p h ≡ true → (control_at p (digest o h).arcs).1 ≡ is_granting_cause (last_cause o p false h).0
gives_law o up h p legal live owed = go (is_granting_cause (last_cause o p false h).0) refl (last_cause o p false h).1 refl (part_at is_polarized p (digest o h).arcs) refl
  where
    flat : (b : Bool) → (false && b) ≡ false
    flat b = refl

    go : (b : Bool) → is_granting_cause (last_cause o p false h).0 ≡ b → (c : Bool) → (last_cause o p false h).1 ≡ c → (r : Bool) → part_at is_polarized p (digest o h).arcs ≡ r → (control_at p (digest o h).arcs).1 ≡ b
    go true i true j r l = absurd (let off = answered_law o up h p legal live i j in cc (off, owed))
    go true i false j r l = ap (λ (v : Bool × Bool). v.1) (granted_control o up h p legal live i) ∙ rw j refl
    go false i c j true l = ap (λ (v : Bool × Bool). v.1) ((control_known o up h p legal).is (made_ruled p (digest o h).arcs live l)) ∙ rw i refl
    go false i c j false l = ap (λ (v : Bool × Bool). v.1) (parts_of p (digest o h).arcs) ∙ plain_law o up h p legal live l

pub due_law : (o : Origin) (up : Option Addr) (h : List Entry) → IsLegal o up h → due_agrees o h ≡ true
due_law o up h legal = all_found _ (digest o h).arcs (separate_law o up h legal.grown) (λ a found. go a found (is_live a.link) refl)
  where
    go : (a : Arc) → find_arc (digest o h).arcs a.peer.node ≡ Some a → (b : Bool) → is_live a.link ≡ b → (not b || (number_of_due a.dialogue.due == number_of_due (due_in o a.peer.node h))) ≡ true
    go a found true i =
        let p : ℕ = a.peer.node in
        let live : is_live_with_peer (digest o h).arcs p ≡ true = ap (λ (v : Option Arc). is_live (link_of v)) found ∙ i in
        let owed : is_due a.dialogue.due ≡ owes_response_in o p h = sym (ap (λ (v : Option Arc). elim v as (λ _. Bool) [ None ↦ false | Some x ↦ owes x.dialogue ]) found) ∙ owes_response_law o up h legal.grown p live in
        let gives : owes_response_in o p h ≡ true → gives_control a.dialogue.due ≡ is_granting_cause (last_cause o p false h).0 = λ j. sym (ap (λ (v : Option Arc). (control_of v).1) found) ∙ gives_law o up h p legal.grown live j in
        number_self (number_of_due a.dialogue.due) (number_of_due (due_in o p h)) (made_due a.dialogue.due (owes_response_in o p h) (is_granting_cause (last_cause o p false h).0) owed gives)
    go a found false i = refl
