-- In every legal history a live arc waits for a response, or owes one, if a handshake went out on it, or came, and nothing
-- answered or cleared it since.
use Rattle.tp_history_state.proofs.Vocabulary.{if◌then◌else◌, ◌≡◌, ◌⊎◌, inl, inr, ℕ, Bool, true, false, refl, ap, sym, ◌∙◌, arith, Option, Some, None, List, [], ◌∷◌, ◌++◌, ◌||◌, not, or_parts, nat_tests, Mark, Addr, DialogueRecord, Side, Origin, Event, Entry, Due, No_response, Dialogue, Arc, Digest, is_live, Asked, Ask_end, Ask_data, Ask_abort, Ask_handshake, Ask_respond, Ask_handshake_grant, Ask_begin, Ask_defer_end, Ask_defer_grant, Ask_prepare, Heard, Hear_end, Hear_data, Hear_handshake, Hear_handshake_grant, Hear_response, Hear_defer_end, Hear_defer_grant, is_due, said, heard, begun_by, cleared, woken, rested, completed, fresh_dialogue, without_control, find_arc, link_of, is_live_with_peer, Move, is_superior, action, started, digest, rolls, said_to, has_said, acting_from, is_record, is_left_record, is_handshake_record, is_handshake_grant_record, clears_handshakes, awaits_in, owes_response_in, same_bool, IsGrown, IsLegal, prelude, awaits_agrees, part_at, part_none, part_same, all_found, first_part, the, bool_self, late_law, separate_law, is_response}
use Rattle.tp_history_state.proofs.handshakes.Talks.{is_put_off_ask, is_put_off_heard, says_none, hears_none, Speaks, Tells, TalkSo, Talk, Speaks_there, Hears_there, Silent, talk_of}
use Rattle.tp_history_state.proofs.handshakes.Touches.{Touch, Waking, Saying, Hearing, touched, run, some_touch, FitsTouch, FitTouches, when}
use Rattle.tp_history_state.proofs.handshakes.TouchedMoves.{is_shaking, said_shaking, shakes, is_arc_in}
use Rattle.tp_history_state.proofs.handshakes.TouchedEntry.{EntryTouched, touched_event, is_clearing, acting_is, clears_law, led_law}

-- ---- properties that a clearing takes away, and that nothing else changes but talk

abbrev pub is_talking : Touch → Bool
is_talking (Saying a) = not (is_put_off_ask a)
is_talking (Hearing k) = not (is_put_off_heard k)
is_talking _ = false

pub record IsShake (g : Dialogue → Bool) (ss us : Asked → Bool) (sh uh : Heard → Bool) : Type 0 where
  pub fresh : (v : ℕ) (s : Side) → g (fresh_dialogue v s) ≡ false
  pub clears : (t : Touch) → is_clearing t ≡ true → (x : Dialogue) → g (touched t x) ≡ false
  pub keeps : (t : Touch) → is_clearing t ≡ false → is_talking t ≡ false → (x : Dialogue) → g (touched t x) ≡ g x
  pub says : (a : Asked) (x : Dialogue) → g (said a x) ≡ (if ss a then true else if us a then false else g x)
  pub hears : (k : Heard) (x : Dialogue) → g (heard k x) ≡ (if sh k then true else if uh k then false else g x)

-- the touches of an event that talks not
pub talks_not : (e : Event) (p : ℕ) (up : Bool) → says_none e p ≡ true → hears_none e p ≡ true → (t : Touch) → FitsTouch e p up t → is_talking t ≡ false
talks_not e p up h1 h2 t h3 = grind (arith, nat_tests)

run_kept : (g : Dialogue → Bool) (ss us : Asked → Bool) (sh uh : Heard → Bool) → IsShake g ss us sh uh → (e : Event) (p : ℕ) (up : Bool) → says_none e p ≡ true → hears_none e p ≡ true → (ts : List Touch) → FitTouches e p up ts → some_touch is_clearing ts ≡ false → (x : Dialogue) → g (run ts x) ≡ g x
run_kept g ss us sh uh k e p up s h [] fits none x = refl
run_kept g ss us sh uh k e p up s h (t ∷ ts) fits none x =
    let n = or_parts (is_clearing t) (some_touch is_clearing ts) none in
    run_kept g ss us sh uh k e p up s h ts fits.1 n.1 (touched t x) ∙ k.keeps t n.0 (talks_not e p up s h t fits.0) x

run_off : (g : Dialogue → Bool) (ss us : Asked → Bool) (sh uh : Heard → Bool) → IsShake g ss us sh uh → (e : Event) (p : ℕ) (up : Bool) → says_none e p ≡ true → hears_none e p ≡ true → (ts : List Touch) → FitTouches e p up ts → some_touch is_clearing ts ≡ true → (x : Dialogue) → g (run ts x) ≡ false
run_off g ss us sh uh k e p up s h [] fits some x = absurd (cc (some))
run_off g ss us sh uh k e p up s h (t ∷ ts) fits some x = go (some_touch is_clearing ts) refl (run_off g ss us sh uh k e p up s h ts fits.1)
  where
    left : (u : Bool) → (u || false) ≡ true → u ≡ true
    left true i = refl
    left false i = absurd (cc (i))

    go : (b : Bool) → some_touch is_clearing ts ≡ b → (some_touch is_clearing ts ≡ true → (y : Dialogue) → g (run ts y) ≡ false) → g (run ts (touched t x)) ≡ false
    go true i rest = rest i (touched t x)
    go false i rest = let all : (is_clearing t || some_touch is_clearing ts) ≡ true = some in run_kept g ss us sh uh k e p up s h ts fits.1 i (touched t x) ∙ k.clears t (left (is_clearing t) (rw i at all)) x

-- ---- the questions

pub record IsShakeQuestion (q : Origin → ℕ → List Entry → Bool) (ss us : Asked → Bool) (sh uh : Heard → Bool) : Type 0 where
  pub dead : (o : Origin) (p : ℕ) (e : Entry) (h : List Entry) → is_live_with_peer (digest o h).arcs p ≡ false → q o p (e ∷ h) ≡ false
  pub speaks : (o : Origin) (p : ℕ) (e : Entry) (h : List Entry) (a : Asked) (r : DialogueRecord) → is_live_with_peer (digest o h).arcs p ≡ true → Speaks a r → said_to p e.outs ≡ r ∷ [] → acting_from o p e.event h ≡ None → clears_handshakes o p e h ≡ false
      → q o p (e ∷ h) ≡ (if ss a then true else if us a then false else q o p h)
  pub hears : (o : Origin) (p : ℕ) (e : Entry) (h : List Entry) (k : Heard) (r : DialogueRecord) → is_live_with_peer (digest o h).arcs p ≡ true → Tells k r → said_to p e.outs ≡ [] → acting_from o p e.event h ≡ Some r → clears_handshakes o p e h ≡ false
      → q o p (e ∷ h) ≡ (if sh k then true else if uh k then false else q o p h)
  pub silent : (o : Origin) (p : ℕ) (e : Entry) (h : List Entry) → is_live_with_peer (digest o h).arcs p ≡ true → said_shaking p e.outs ≡ false → is_record is_shaking (acting_from o p e.event h) ≡ false
      → q o p (e ∷ h) ≡ (if clears_handshakes o p e h then false else q o p h)

-- ---- one entry

-- talk clears nothing
pub talk_clears : (o : Origin) (p : ℕ) (e : Entry) (h : List Entry) → e.rec ≡ None → rolls o.who (digest o h) e.event ≡ false → has_said is_left_record (said_to p e.outs) ≡ false → is_record is_left_record (acting_from o p e.event h) ≡ false → clears_handshakes o p e h ≡ false
talk_clears o p e h quiet stays said acting = grind arith

no_left_said : (a : Asked) (r : DialogueRecord) → Speaks a r → has_said is_left_record (r ∷ []) ≡ false
no_left_said a r h1 = grind arith

no_left_told : (k : Heard) (r : DialogueRecord) → Tells k r → is_left_record r ≡ false
no_left_told k r h1 = grind arith

pub part_live : (p : ℕ) (arcs : List Arc) → is_live_with_peer arcs p ≡ true → part_at (λ x. true) p arcs ≡ true
part_live p arcs live = grind arith

part_choice : (f g : Dialogue → Bool) (b c : Bool) (p : ℕ) (arcs : List Arc) → is_live_with_peer arcs p ≡ true → ((x : Dialogue) → f x ≡ (if b then true else if c then false else g x)) → part_at f p arcs ≡ (if b then true else if c then false else part_at g p arcs)
part_choice f g true c p arcs live is = part_same f (λ x. true) p arcs is ∙ part_live p arcs live
part_choice f g false true p arcs live is = part_none f p arcs is
part_choice f g false false p arcs live is = part_same f g p arcs is

shakes_none : (e : Event) (p : ℕ) → says_none e p ≡ true → shakes e p ≡ false
shakes_none e p h1 = grind arith

hears_shaking : (from : Addr) (x y : Mark) (q : ℕ) (r : DialogueRecord) (p : ℕ) → from.node ≡ p → is_shaking r ≡ true → hears_none (the from x y q r) p ≡ false
hears_shaking from x y q r p h1 h2 = grind (arith, nat_tests)

pub unshaken : (o : Origin) (p : ℕ) (h : List Entry) (e : Event) → hears_none e p ≡ true → (b : Bool) → is_record is_shaking (acting_from o p e h) ≡ b → is_record is_shaking (acting_from o p e h) ≡ false
unshaken o p h e none false i = i
unshaken o p h e none true i =
    let k = acting_is is_shaking o p h e i in
    absurd (let off : hears_none e p ≡ false = ap (λ (v : Event). hears_none v p) k.5 ∙ hears_shaking k.0 k.1 k.2 k.3 k.4 p k.6 k.7 in cc (none, off))

shake_step : (g : Dialogue → Bool) (q : Origin → ℕ → List Entry → Bool) (ss us : Asked → Bool) (sh uh : Heard → Bool) → IsShake g ss us sh uh → IsShakeQuestion q ss us sh uh → (o : Origin) (up : Option Addr) (e : Entry) (h : List Entry) (p : ℕ) → IsGrown o up (e ∷ h)
    → (is_live_with_peer (digest o h).arcs p ≡ true → part_at g p (digest o h).arcs ≡ q o p h) → is_live_with_peer (action o.who (digest o h) e.event).next.arcs p ≡ true → part_at g p (action o.who (digest o h) e.event).next.arcs ≡ q o p (e ∷ h)
shake_step g q ss us sh uh k a o up e h p legal was live = go (talk_of o p h e.event legal.0 live)
  where
    d : Digest
    d = digest o h

    s : Digest
    s = prelude o.who d e.event

    m : Move
    m = action o.who d e.event

    rec : e.rec ≡ m.rec
    rec = ap (λ (f : Entry). f.rec) (sym legal.1)

    outs : said_to p e.outs ≡ said_to p m.outs
    outs = ap (λ (f : Entry). said_to p f.outs) (sym legal.1)

    choice : (b c : Bool) (u v : Bool) → u ≡ v → (if b then true else if c then false else u) ≡ (if b then true else if c then false else v)
    choice b c u v i = ap (λ (w : Bool). if b then true else if c then false else w) i

    spoke : (x : Asked) (r : DialogueRecord) → Speaks x r → TalkSo o p h e.event m (Saying x ∷ []) None (r ∷ []) → part_at g p m.next.arcs ≡ q o p (e ∷ h)
    spoke x r sp t =
        let none : clears_handshakes o p e h ≡ false = talk_clears o p e h (rec ∙ t.quiet) t.stays (ap (has_said is_left_record) (outs ∙ t.says) ∙ no_left_said x r sp) (ap (is_record is_left_record) t.acting) in
        t.made g ∙ part_choice (λ y. g (said x y)) g (ss x) (us x) p d.arcs t.live (k.says x) ∙ choice (ss x) (us x) (part_at g p d.arcs) (q o p h) (was t.live) ∙ sym (a.speaks o p e h x r t.live sp (outs ∙ t.says) t.acting none)

    woke : (w : Bool) (f : Dialogue → Bool) → ((x : Dialogue) → f (woken x) ≡ f x) → (x : Dialogue) → f (run (when w (Waking ∷ [])) x) ≡ f x
    woke true f i x = i x
    woke false f i x = refl

    wakes_not : (x : Dialogue) → g (woken x) ≡ g x
    wakes_not x = k.keeps Waking refl refl x

    told : (j : Heard) (r : DialogueRecord) (w b : Bool) → Tells j r → TalkSo o p h e.event m (when w (Waking ∷ []) ++ when b (Hearing j ∷ [])) (if b then Some r else None) [] → part_at g p m.next.arcs ≡ q o p (e ∷ h)
    told j r w true tl t =
        let none : clears_handshakes o p e h ≡ false = talk_clears o p e h (rec ∙ t.quiet) t.stays (ap (has_said is_left_record) (outs ∙ t.says)) (ap (is_record is_left_record) t.acting ∙ no_left_told j r tl) in
        t.made g ∙ part_choice (λ y. g (run (when w (Waking ∷ []) ++ (Hearing j ∷ [])) y)) g (sh j) (uh j) p d.arcs t.live (hear w) ∙ choice (sh j) (uh j) (part_at g p d.arcs) (q o p h) (was t.live) ∙ sym (a.hears o p e h j r t.live tl (outs ∙ t.says) t.acting none)
      where
        hear : (w : Bool) (x : Dialogue) → g (run (when w (Waking ∷ []) ++ (Hearing j ∷ [])) x) ≡ (if sh j then true else if uh j then false else g x)
        hear true x = k.hears j (woken x) ∙ choice (sh j) (uh j) (g (woken x)) (g x) (wakes_not x)
        hear false x = k.hears j x
    told j r w false tl t =
        let none : clears_handshakes o p e h ≡ false = talk_clears o p e h (rec ∙ t.quiet) t.stays (ap (has_said is_left_record) (outs ∙ t.says)) (ap (is_record is_left_record) t.acting) in
        t.made g ∙ part_same (λ y. g (run (when w (Waking ∷ []) ++ []) y)) g p d.arcs (still w) ∙ was t.live ∙ sym (a.silent o p e h t.live (ap (has_said is_shaking) (outs ∙ t.says)) (ap (is_record is_shaking) t.acting) ∙ rw none refl)
      where
        still : (w : Bool) (x : Dialogue) → g (run (when w (Waking ∷ []) ++ []) x) ≡ g x
        still true x = wakes_not x
        still false x = refl

    quiet : says_none e.event p ≡ true → hears_none e.event p ≡ true → part_at g p m.next.arcs ≡ q o p (e ∷ h)
    quiet sn hn = on (first_part o.who g p d e.event legal.0 k.fresh x.here.live) (some_touch is_clearing ts) refl
      where
        x : EntryTouched p (is_arc_in s.current p) (rolls o.who d e.event) (is_superior s p) e.event s m
        x = touched_event o.who d e.event p (late_law o up h legal.3) legal.0 (led_law o up e h p legal live) live

        ts : List Touch
        ts = x.here.touches

        clear : some_touch is_clearing ts ≡ clears_handshakes o p e h
        clear = clears_law o up e h p legal live x

        asked : is_live_with_peer d.arcs p ≡ true → q o p (e ∷ h) ≡ (if clears_handshakes o p e h then false else q o p h)
        asked here = a.silent o p e h here (ap (has_said is_shaking) outs ∙ x.here.words (shakes_none e.event p sn)) (unshaken o p h e.event hn (is_record is_shaking (acting_from o p e.event h)) refl)

        gone : some_touch is_clearing ts ≡ true → part_at g p m.next.arcs ≡ false
        gone i = x.here.made g ∙ part_none (λ y. g (run ts y)) p s.arcs (run_off g ss us sh uh k e.event p (is_superior s p) sn hn ts x.here.fits i)

        stays : some_touch is_clearing ts ≡ false → part_at g p m.next.arcs ≡ part_at g p s.arcs
        stays i = x.here.made g ∙ part_same (λ y. g (run ts y)) g p s.arcs (run_kept g ss us sh uh k e.event p (is_superior s p) sn hn ts x.here.fits i)

        on : ((is_live_with_peer d.arcs p ≡ true) × (part_at g p s.arcs ≡ part_at g p d.arcs)) ⊎ ((is_live_with_peer d.arcs p ≡ false) × (part_at g p s.arcs ≡ false)) → (b : Bool) → some_touch is_clearing ts ≡ b → part_at g p m.next.arcs ≡ q o p (e ∷ h)
        on (inl f) true i = gone i ∙ sym (asked f.0 ∙ rw (sym clear ∙ i) refl)
        on (inl f) false i = stays i ∙ f.1 ∙ was f.0 ∙ sym (asked f.0 ∙ rw (sym clear ∙ i) refl)
        on (inr f) true i = gone i ∙ sym (a.dead o p e h f.0)
        on (inr f) false i = stays i ∙ f.1 ∙ sym (a.dead o p e h f.0)

    go : Talk o p h e.event m → part_at g p m.next.arcs ≡ q o p (e ∷ h)
    go (Speaks_there x r sp by t) = spoke x r sp t
    go (Hears_there j r w b tl by t) = told j r w b tl t
    go (Silent sn hn) = quiet sn hn

pub shake_law : (g : Dialogue → Bool) (q : Origin → ℕ → List Entry → Bool) (ss us : Asked → Bool) (sh uh : Heard → Bool) → IsShake g ss us sh uh → IsShakeQuestion q ss us sh uh → (o : Origin) (up : Option Addr) (h : List Entry) → IsGrown o up h
    → (p : ℕ) → is_live_with_peer (digest o h).arcs p ≡ true → part_at g p (digest o h).arcs ≡ q o p h
unfolding started
shake_law g q ss us sh uh k a o up [] legal p live = absurd (cc (live))
shake_law g q ss us sh uh k a o up (e ∷ h) legal p live = shake_step g q ss us sh uh k a o up e h p legal (shake_law g q ss us sh uh k a o up h legal.3 p) live

-- ---- who awaits a response

abbrev awaits : Dialogue → Bool
awaits x = x.awaits

abbrev asks_shake : Asked → Bool
asks_shake Ask_handshake = true
asks_shake Ask_handshake_grant = true
asks_shake _ = false

abbrev no_ask : Asked → Bool
no_ask a = false

abbrev no_heard : Heard → Bool
no_heard k = false

abbrev hears_response : Heard → Bool
hears_response Hear_response = true
hears_response _ = false

awaits_shake : IsShake awaits asks_shake no_ask no_heard hears_response
unfolding said heard begun_by cleared woken rested completed
awaits_shake = record {
  fresh = λ v s. refl;
  clears = λ t i x. grind (arith, i);
  keeps = λ t i j x. grind (arith, i, j);
  says = λ a x. grind arith;
  hears = λ k x. grind arith;
}

-- the answer to such a question, by its four tests
abbrev pick : Bool → Bool → Bool → Bool → Bool → Bool
pick one two cleared answered before = if one || two then true else if cleared || answered then false else before

picked : (a b c d u v w x y : Bool) → a ≡ u → b ≡ v → c ≡ w → d ≡ x → pick a b c d y ≡ pick u v w x y
picked a b c d u v w x y i j k l = rw (i, j, k, l) refl

awaits_on : (o : Origin) (p : ℕ) (e : Entry) (h : List Entry) → is_live_with_peer (digest o h).arcs p ≡ true
    → awaits_in o p (e ∷ h) ≡ pick (has_said is_handshake_record (said_to p e.outs)) (has_said is_handshake_grant_record (said_to p e.outs)) (clears_handshakes o p e h) (is_record is_response (acting_from o p e.event h)) (awaits_in o p h)
awaits_on o p e h live = rw (live, awaits_in) refl

owes_on : (o : Origin) (p : ℕ) (e : Entry) (h : List Entry) → is_live_with_peer (digest o h).arcs p ≡ true
    → owes_response_in o p (e ∷ h) ≡ pick (is_record is_handshake_record (acting_from o p e.event h)) (is_record is_handshake_grant_record (acting_from o p e.event h)) (clears_handshakes o p e h) (has_said is_response (said_to p e.outs)) (owes_response_in o p h)
owes_on o p e h live = rw (live, owes_response_in) refl

-- of a word that is no shaking
none_shaking : (g : DialogueRecord → Bool) → ((r : DialogueRecord) → g r ≡ true → is_shaking r ≡ true) → (rs : List DialogueRecord) → has_said is_shaking rs ≡ false → has_said g rs ≡ false
none_shaking g less [] h = refl
none_shaking g less (r ∷ rs) h = let k = or_parts (is_shaking r) (has_said is_shaking rs) h in go (g r) refl k.0 (none_shaking g less rs k.1)
  where
    go : (b : Bool) → g r ≡ b → is_shaking r ≡ false → has_said g rs ≡ false → (b || has_said g rs) ≡ false
    go true i off rest = absurd (let on : is_shaking r ≡ true = less r i in cc (on, off))
    go false i off rest = rest

none_acting : (g : DialogueRecord → Bool) → ((r : DialogueRecord) → g r ≡ true → is_shaking r ≡ true) → (v : Option DialogueRecord) → is_record is_shaking v ≡ false → is_record g v ≡ false
none_acting g h1 v h2 = grind arith

shaking_one : (r : DialogueRecord) → is_handshake_record r ≡ true → is_shaking r ≡ true
shaking_one r h = grind (arith, h)

shaking_two : (r : DialogueRecord) → is_handshake_grant_record r ≡ true → is_shaking r ≡ true
shaking_two r h = grind (arith, h)

shaking_three : (r : DialogueRecord) → is_response r ≡ true → is_shaking r ≡ true
shaking_three r h = grind (arith, h)

last_pick : (c b : Bool) → pick false false c false b ≡ (if c then false else b)
last_pick true b = refl
last_pick false b = refl

awaits_question : IsShakeQuestion awaits_in asks_shake no_ask no_heard hears_response
awaits_question = record {
  dead = λ o p e h dead. rw (dead, awaits_in) refl;
  speaks = λ o p e h a r live s says acting none.
      awaits_on o p e h live ∙ picked _ _ _ _ (has_said is_handshake_record (r ∷ [])) (has_said is_handshake_grant_record (r ∷ [])) false false (awaits_in o p h) (ap (has_said is_handshake_record) says) (ap (has_said is_handshake_grant_record) says) none (ap (is_record is_response) acting) ∙ speaks a r s (awaits_in o p h);
  hears = λ o p e h k r live t says acting none.
      awaits_on o p e h live ∙ picked _ _ _ _ false false false (is_response r) (awaits_in o p h) (ap (has_said is_handshake_record) says) (ap (has_said is_handshake_grant_record) says) none (ap (is_record is_response) acting) ∙ hears k r t (awaits_in o p h);
  silent = λ o p e h live says acting.
      awaits_on o p e h live ∙ picked _ _ _ _ false false (clears_handshakes o p e h) false (awaits_in o p h) (none_shaking is_handshake_record shaking_one (said_to p e.outs) says) (none_shaking is_handshake_grant_record shaking_two (said_to p e.outs) says) refl (none_acting is_response shaking_three (acting_from o p e.event h) acting) ∙ last_pick (clears_handshakes o p e h) (awaits_in o p h);
}
  where
    speaks : (a : Asked) (r : DialogueRecord) → Speaks a r → (b : Bool) → pick (has_said is_handshake_record (r ∷ [])) (has_said is_handshake_grant_record (r ∷ [])) false false b ≡ (if asks_shake a then true else if no_ask a then false else b)
    speaks Ask_data r s b = rw (s.1) refl
    speaks Ask_end r s b = absurd s
    speaks Ask_abort r s b = absurd s
    speaks Ask_begin r s b = absurd s
    speaks Ask_defer_end r s b = absurd s
    speaks Ask_defer_grant r s b = absurd s
    speaks Ask_prepare r s b = absurd s
    speaks _ r s b = rw s refl

    hears : (k : Heard) (r : DialogueRecord) → Tells k r → (b : Bool) → pick false false false (is_response r) b ≡ (if no_heard k then true else if hears_response k then false else b)
    hears Hear_data r s b = rw (s.1) refl
    hears Hear_end r s b = absurd s
    hears Hear_defer_end r s b = absurd s
    hears Hear_defer_grant r s b = absurd s
    hears _ r s b = rw s refl

-- ---- who owes one

abbrev pub owes : Dialogue → Bool
owes x = is_due x.due

abbrev says_response : Asked → Bool
says_response Ask_respond = true
says_response _ = false

abbrev hears_shake : Heard → Bool
hears_shake Hear_handshake = true
hears_shake Hear_handshake_grant = true
hears_shake _ = false

due_less : (u : Due) → is_due (without_control u) ≡ is_due u
due_less No_response = refl
due_less _ = refl

owes_shake : IsShake owes no_ask says_response hears_shake no_heard
unfolding said heard begun_by cleared woken rested completed
owes_shake = record {
  fresh = λ v s. refl;
  clears = λ t i x. grind (arith, i);
  keeps = λ t i j x. grind (arith, i, j, due_less);
  says = λ a x. grind arith;
  hears = λ k x. grind (arith, due_less);
}

owes_question : IsShakeQuestion owes_response_in no_ask says_response hears_shake no_heard
owes_question = record {
  dead = λ o p e h dead. rw (dead, owes_response_in) refl;
  speaks = λ o p e h a r live s says acting none.
      owes_on o p e h live ∙ picked _ _ _ _ false false false (has_said is_response (r ∷ [])) (owes_response_in o p h) (ap (is_record is_handshake_record) acting) (ap (is_record is_handshake_grant_record) acting) none (ap (has_said is_response) says) ∙ speaks a r s (owes_response_in o p h);
  hears = λ o p e h k r live t says acting none.
      owes_on o p e h live ∙ picked _ _ _ _ (is_handshake_record r) (is_handshake_grant_record r) false false (owes_response_in o p h) (ap (is_record is_handshake_record) acting) (ap (is_record is_handshake_grant_record) acting) none (ap (has_said is_response) says) ∙ hears k r t (owes_response_in o p h);
  silent = λ o p e h live says acting.
      owes_on o p e h live ∙ picked _ _ _ _ false false (clears_handshakes o p e h) false (owes_response_in o p h) (none_acting is_handshake_record shaking_one (acting_from o p e.event h) acting) (none_acting is_handshake_grant_record shaking_two (acting_from o p e.event h) acting) refl (none_shaking is_response shaking_three (said_to p e.outs) says) ∙ last_pick (clears_handshakes o p e h) (owes_response_in o p h);
}
  where
    speaks : (a : Asked) (r : DialogueRecord) → Speaks a r → (b : Bool) → pick false false false (has_said is_response (r ∷ [])) b ≡ (if no_ask a then true else if says_response a then false else b)
    speaks Ask_data r s b = rw (s.1) refl
    speaks Ask_end r s b = absurd s
    speaks Ask_abort r s b = absurd s
    speaks Ask_begin r s b = absurd s
    speaks Ask_defer_end r s b = absurd s
    speaks Ask_defer_grant r s b = absurd s
    speaks Ask_prepare r s b = absurd s
    speaks _ r s b = rw s refl

    hears : (k : Heard) (r : DialogueRecord) → Tells k r → (b : Bool) → pick (is_handshake_record r) (is_handshake_grant_record r) false false b ≡ (if hears_shake k then true else if no_heard k then false else b)
    hears Hear_data r s b = rw (s.1) refl
    hears Hear_end r s b = absurd s
    hears Hear_defer_end r s b = absurd s
    hears Hear_defer_grant r s b = absurd s
    hears _ r s b = rw s refl

pub owes_response_law : (o : Origin) (up : Option Addr) (h : List Entry) → IsGrown o up h → (p : ℕ) → is_live_with_peer (digest o h).arcs p ≡ true → part_at owes p (digest o h).arcs ≡ owes_response_in o p h
owes_response_law = shake_law owes owes_response_in no_ask says_response hears_shake no_heard owes_shake owes_question

-- ---- of all arcs

pub awaits_law : (o : Origin) (up : Option Addr) (h : List Entry) → IsLegal o up h → awaits_agrees o h ≡ true
awaits_law o up h legal = all_found _ (digest o h).arcs (separate_law o up h legal.grown) (λ a found. go a found (is_live a.link) refl)
  where
    go : (a : Arc) → find_arc (digest o h).arcs a.peer.node ≡ Some a → (b : Bool) → is_live a.link ≡ b → (not b || same_bool a.dialogue.awaits (awaits_in o a.peer.node h)) ≡ true
    go a found true i =
        let live : is_live_with_peer (digest o h).arcs a.peer.node ≡ true = ap (λ (v : Option Arc). is_live (link_of v)) found ∙ i in
        let part : part_at awaits a.peer.node (digest o h).arcs ≡ a.dialogue.awaits = ap (λ (v : Option Arc). elim v as (λ _. Bool) [ None ↦ false | Some x ↦ awaits x.dialogue ]) found in
        bool_self a.dialogue.awaits (awaits_in o a.peer.node h) (sym part ∙ shake_law awaits awaits_in asks_shake no_ask no_heard hears_response awaits_shake awaits_question o up h legal.grown a.peer.node live)
    go a found false i = refl
