-- In a legal history control on the arc with a peer is as its last cause says, after an event that makes no change of its own
-- to that dialogue.
use Rattle.tp_history_state.proofs.Vocabulary.{Bool, List, None, Option, Some, ap, arith, false, inl, inr, refl, subst, sym, true, ℕ, ◌&&◌, ◌==◌, ◌||◌, ◌∙◌, ◌∷◌, ◌≡◌, ◌⊎◌, or-true, nat_tests, Aaid, Addr, BranchId, DialogueRecord, Holder, PeerRecord, Request, Cause, cause_by, last_cause, is_up, is_at, Who, Origin, Event, Entry, Digest, Current, Dialogue, Link, Idle, rolls, is_fatal, is_unchanged, digest, entry_of, IsUnder, IsGrown, refusal, verdict, action, after_crash, Move, phase_of, situation_at, is_current_ready, named_by_key, branch_key, situation_of, Asked, Heard, said, heard, woken, is_active, is_rolling, Ask_grant, Ask_handshake_grant, Ask_respond, Hear_grant, Hear_handshake, Hear_handshake_grant, Phase, is_idle, is_live, is_live_with_peer, link_with, IsChange, By_waking, By_saying, By_hearing, By_beginning, By_leaving, said_by, heard_by, left_by, begun_by_record, gives_to, responds_to, prelude, IsLinked, traced_law, down_event, IsPlaced, headed_first, headed_law, placed_law, superior_at, and_left, every_move, late_law, late_prelude, linked_moves, seen_branch, separate_law, separate_prelude, tells_rolled}
use Rattle.tp_history_state.proofs.control.Moves.{IsWell, Stands, IsPast, IsBareAt, is_branch_at}
use Rattle.tp_history_state.proofs.control.Steps.{IsQuietAt}
use Rattle.tp_history_state.proofs.control.First.{Before}
use Rattle.tp_history_state.proofs.control.Causes.{by_cause, side_of_end, cause_of, Tells, effect_cause, last_some}
use Rattle.tp_history_state.proofs.control.Signs.{Signs, effect}
use Rattle.tp_history_state.proofs.control.Arcs.{is_ruled, control_at, Alike}
use Rattle.tp_histories.proofs.trees.Above.{undeclared_idle}
use Rattle.tp_history_state.proofs.passages.Shown.{is_early}

-- ---- what holds after a history, and after one more event

abbrev pub cause_at : Origin → Option Addr → ℕ → List Entry → Bool × Bool
cause_at o up p h = by_cause (side_of_end (is_at up p)) (last_cause o p false h).0 (last_cause o p false h).1

pub record IsControl (o : Origin) (up : Option Addr) (h : List Entry) (p : ℕ) : Type 0 where
  pub is : is_ruled p (digest o h).arcs ≡ true → control_at p (digest o h).arcs ≡ cause_at o up p h
  pub past : IsPast up p (digest o h)
  pub bare : IsBareAt up p (digest o h)

-- the event is accepted
pub record Grows (o : Origin) (up : Option Addr) (h : List Entry) (e : Event) : Type 0 where
  pub ok : refusal o.who (digest o h) e ≡ None
  pub under : IsUnder up e
  pub grown : IsGrown o up h

abbrev pub IsControlBy : Origin → Option Addr → List Entry → Event → ℕ → Type 0
IsControlBy o up h e p = IsControl o up (entry_of o h e ∷ h) p

abbrev pub grown_by : (o : Origin) (up : Option Addr) (h : List Entry) (e : Event) → Grows o up h e → IsGrown o up (entry_of o h e ∷ h)
grown_by o up h e g = (g.ok, refl, g.under, g.grown)

pub before_it : (o : Origin) (up : Option Addr) (h : List Entry) (p : ℕ) → IsGrown o up h → IsControl o up h p → Before o.who up p (digest o h)
before_it o up h p legal was = record { late = late_law o up h legal; past = was.past; bare = was.bare; own = (traced_law o up h legal).own; under = (traced_law o up h legal).under }

pub well_first : (o : Origin) (up : Option Addr) (h : List Entry) (e : Event) → Grows o up h e → IsWell up (prelude o.who (digest o h) e)
well_first o up h e g = (
  separate_prelude o.who (digest o h) e g.ok (separate_law o up h g.grown),
  late_prelude o.who (digest o h) e (late_law o up h g.grown),
  (headed_first o up (entry_of o h e) h (grown_by o up h e g) (headed_law o up h g.grown)).0,
)

-- ---- the peer is the superior

idle_dead : (l : Link) → is_idle l ≡ true → is_live l ≡ false
idle_dead Idle h = refl
idle_dead _ h = absurd (cc (h))

pub undeclared : (who : Who) (d : Digest) (s : Option Addr) → refusal who d (Event.Declare s) ≡ None → d.declared ≡ false
unfolding refusal verdict
undeclared who d s ok = grind arith

pub same_superior : (who : Who) (d : Digest) (e : Event) → (prelude who d e).superior ≡ d.superior ⊎ ((s : Option Addr) × (e ≡ Event.Declare s)) ⊎ (e ≡ Event.Crash)
same_superior who d e = grind arith

crash_dead : (who : Who) (d : Digest) (p : ℕ) → is_live_with_peer (action who d Event.Crash).next.arcs p ≡ false
unfolding after_crash
crash_dead who d p = refl

pub up_is : (o : Origin) (up : Option Addr) (h : List Entry) (e : Event) (p : ℕ) → Grows o up h e → is_live_with_peer (action o.who (digest o h) e).next.arcs p ≡ true → is_up o p h ≡ is_at up p
up_is o up h e p g live = go (same_superior o.who d e)
  where
    d : Digest
    d = digest o h

    m : Move
    m = action o.who d e

    link : IsLinked p (prelude o.who d e) m
    link = every_move o.who d e (IsLinked p) (linked_moves o.who e (prelude o.who d e) p) (late_law o up h g.grown) g.ok

    placed : IsPlaced up m.next → m.next.superior ≡ up
    placed (inl i) = i
    placed (inr k) = absurd (let dead : is_live_with_peer m.next.arcs p ≡ false = k p in cc (live, dead))

    top : m.next.superior ≡ up
    top = placed (placed_law o up (entry_of o h e ∷ h) (grown_by o up h e g))

    go : (prelude o.who d e).superior ≡ d.superior ⊎ ((s : Option Addr) × (e ≡ Event.Declare s)) ⊎ (e ≡ Event.Crash) → is_up o p h ≡ is_at up p
    go (inl i) = superior_at d p ∙ ap (λ (v : Option Addr). is_at v p) (sym i ∙ sym link.superior ∙ top)
    go (inr (inl i)) =
        absurd (let none : d.declared ≡ false = undeclared o.who d i.0 (subst (λ (v : Event). refusal o.who d v ≡ None) i.1 g.ok) in
        let dead : is_live_with_peer d.arcs p ≡ false = idle_dead (link_with d.arcs p) (undeclared_idle o up h g.grown p none) in
        let here : is_live_with_peer d.arcs p ≡ true = subst (λ (v : Event). is_live_with_peer (action o.who d v).next.arcs p ≡ true) i.1 live in
        cc (dead, here))
    go (inr (inr i)) = absurd (let here : is_live_with_peer (action o.who d Event.Crash).next.arcs p ≡ true = subst (λ (v : Event). is_live_with_peer (action o.who d v).next.arcs p ≡ true) i live in let dead = crash_dead o.who d p in cc (dead, here))

-- ---- the branch, and what rolls

pub branch_seen : (who : Who) (d : Digest) (p : ℕ) → (situation_at who d p).branch ≡ is_branch_at d.current p
unfolding situation_of
branch_seen who d p = grind (arith, seen_branch)

fatal_active : (d : Digest) (p : ℕ) → is_fatal d p ≡ true → is_early (phase_of d) ≡ true
fatal_active d p h = grind arith

reply_ready : (d : Digest) (u : Aaid) (b : BranchId) → is_current_ready (named_by_key d (branch_key u b)) ≡ true → is_early (phase_of d) ≡ true
reply_ready d u b h = grind arith

active_early : (q : Phase) → is_active q ≡ true → is_early q ≡ true
active_early Phase.Active h = refl
active_early q h = absurd (grind (arith, h))

pub rolls_early : (who : Who) (d : Digest) (e : Event) → rolls who d e ≡ true → is_early (phase_of d) ≡ true
rolls_early who d e h1 = grind (arith, active_early, and_left, fatal_active, reply_ready)

pub fell_so : (who : Who) (d : Digest) (e : Event) → refusal who d e ≡ None → rolls who d e ≡ true → (is_rolling (phase_of (action who d e).next) || tells_rolled (action who d e)) ≡ true
fell_so who d e ok h = go d.current refl
  where
    m : Move
    m = action who d e

    down : (c : Current) → d.current ≡ Some c → (tells_rolled m ≡ true) ⊎ ((u : Current) × (m.next.current ≡ Some u) × (is_rolling u.phase ≡ true)) → (is_rolling (phase_of m.next) || tells_rolled m) ≡ true
    down c i (inl told) = rw told (or-true (is_rolling (phase_of m.next)))
    down c i (inr k) = let on : is_rolling (phase_of m.next) ≡ true = ap (λ (o : Option Current). is_rolling (elim o as (λ _. Phase) [ None ↦ Phase.Nil | Some y ↦ y.phase ])) k.1 ∙ k.2 in rw on refl

    go : (o : Option Current) → d.current ≡ o → (is_rolling (phase_of m.next) || tells_rolled m) ≡ true
    go None i = absurd (let on : is_early (phase_of d) ≡ true = rolls_early who d e h in let off : is_early (phase_of d) ≡ false = rw (i, phase_of) refl in cc (on, off))
    go (Some c) i = down c i (down_event who d e c ok h i)

-- ---- from what stands after an event to its or-true cause

pub conclude : (o : Origin) (up : Option Addr) (h : List Entry) (e : Event) (p : ℕ) (branch fall left : Bool) (old : Bool × Bool) (s : Digest) (x : Signs) → Stands up p branch fall old s x (action o.who (digest o h) e).next
    → cause_by o p (entry_of o h e) h ≡ cause_of (is_at up p) branch fall left x → (fall ≡ true → (is_rolling (phase_of (action o.who (digest o h) e).next) || x.rolled) ≡ true) → (left ≡ true → old ≡ (false, false))
    → (is_ruled p s.arcs ≡ true → cause_by o p (entry_of o h e) h ≡ None → old ≡ cause_at o up p (entry_of o h e ∷ h))
    → is_ruled p (action o.who (digest o h) e).next.arcs ≡ true → control_at p (action o.who (digest o h) e).next.arcs ≡ cause_at o up p (entry_of o h e ∷ h)
conclude o up h e p branch fall left old s x st cause fell leaves start ruled = k.1 ∙ go (cause_of (is_at up p) branch fall left x) refl (effect_cause (is_at up p) branch fall left old (is_rolling (phase_of (action o.who (digest o h) e).next)) x (λ j i. (st.begun j i).1) fell leaves)
  where
    k : (is_ruled p s.arcs ≡ true) × (control_at p (action o.who (digest o h) e).next.arcs ≡ effect (is_at up p) branch fall old (is_rolling (phase_of (action o.who (digest o h) e).next)) x)
    k = st.state ruled

    go : (v : Option Cause) → cause_of (is_at up p) branch fall left x ≡ v → Tells v (side_of_end (is_at up p)) old (effect (is_at up p) branch fall old (is_rolling (phase_of (action o.who (digest o h) e).next)) x)
        → effect (is_at up p) branch fall old (is_rolling (phase_of (action o.who (digest o h) e).next)) x ≡ cause_at o up p (entry_of o h e ∷ h)
    go None i t = t ∙ start k.0 (cause ∙ i)
    go (Some c) i t = t ∙ sym (ap (λ (z : Cause × Bool). by_cause (side_of_end (is_at up p)) z.0 z.1) (last_some o p (entry_of o h e) h c (cause ∙ i)))

-- ---- events that make no change of their own

abbrev pub is_meddling : DialogueRecord → Bool
is_meddling DialogueRecord.Grant = true
is_meddling DialogueRecord.Handshake = true
is_meddling DialogueRecord.HandshakeGrant = true
is_meddling (DialogueRecord.Begin t b h) = true
is_meddling DialogueRecord.Left = true
is_meddling DialogueRecord.LeftEnd = true
is_meddling _ = false

abbrev pub meddles : Event → ℕ → Bool
meddles (Event.Do (Request.Grant q)) p = q == p
meddles (Event.Do (Request.HandshakeGrant q)) p = q == p
meddles (Event.Do (Request.Respond q)) p = q == p
meddles (Event.Do Request.Unchanged) p = true
meddles (Event.Arrive from (PeerRecord.OnAssoc x y q r)) p = (from.node == p) && is_meddling r
meddles Event.Crash p = true
meddles _ p = false

unmeddled : (e : Event) (p : ℕ) → meddles e p ≡ false → (gives_to e p ≡ false) × (responds_to e p ≡ false) × (is_unchanged e ≡ false)
unmeddled e p h1 = grind arith

abbrev is_plain_asked : Asked → Bool
is_plain_asked Ask_grant = false
is_plain_asked Ask_respond = false
is_plain_asked Ask_handshake_grant = false
is_plain_asked _ = true

abbrev is_plain_heard : Heard → Bool
is_plain_heard Hear_grant = false
is_plain_heard Hear_handshake = false
is_plain_heard Hear_handshake_grant = false
is_plain_heard _ = true

said_alike : (a : Asked) (x : Dialogue) → is_plain_asked a ≡ true → Alike x (said a x)
unfolding said
said_alike a x h1 = grind arith

heard_alike : (a : Heard) (x : Dialogue) → is_plain_heard a ≡ true → Alike x (heard a x)
unfolding heard
heard_alike a x h1 = grind arith

pub woken_alike : (x : Dialogue) → Alike x (woken x)
unfolding woken
woken_alike x = (refl, refl, refl)

same_number : (n q : ℕ) → n ≡ q → (n == q) ≡ false → ⊥
same_number n q h i = grind (arith, nat_tests, h, i)

said_plain : (e : Event) (q : ℕ) (a : Asked) → said_by e ≡ Some (q, a) → meddles e q ≡ false → is_plain_asked a ≡ true
said_plain e q a h1 h2 = grind (arith, same_number)

heard_plain : (e : Event) (q : ℕ) (a : Heard) → heard_by e ≡ Some (q, a) → meddles e q ≡ false → is_plain_heard a ≡ true
heard_plain e q a h1 h2 = grind (arith, nat_tests)

no_begin : (e : Event) (q : ℕ) (k : Holder) → begun_by_record e ≡ Some (q, k) → meddles e q ≡ false → ⊥
no_begin (Event.Arrive from (PeerRecord.OnAssoc x y n (DialogueRecord.Begin t b j))) q k by h =
    let at : from.node ≡ q = ap (λ (o : Option (ℕ × Holder)). elim o as (λ _. ℕ) [ None ↦ q | Some v ↦ v.0 ]) by in
    grind (arith, nat_tests, at, h)
no_begin e q k by h = cc (by)

no_left : (e : Event) (q : ℕ) → left_by e ≡ Some q → meddles e q ≡ false → ⊥
no_left (Event.Arrive from (PeerRecord.OnAssoc x y n DialogueRecord.Left)) q by h = let at : from.node ≡ q = cc (by) in grind (arith, nat_tests, at, h)
no_left (Event.Arrive from (PeerRecord.OnAssoc x y n DialogueRecord.LeftEnd)) q by h = let at : from.node ≡ q = cc (by) in grind (arith, nat_tests, at, h)
no_left e q by h = cc (by)

pub quiet_at : (e : Event) (p : ℕ) → meddles e p ≡ false → IsQuietAt e p
quiet_at e p h = record { gives = (unmeddled e p h).0; responds = (unmeddled e p h).1; same = same }
  where
    there : (q : ℕ) → (q == p) ≡ true → meddles e q ≡ false
    there q at = let is : q ≡ p = grind (arith, nat_tests, at) in ap (meddles e) is ∙ h

    same : (d : Digest) (q : ℕ) (f : Dialogue → Dialogue) → IsChange e d q f → (q == p) ≡ true → (x : Dialogue) → Alike x (f x)
    same d q f (By_waking w i) at x = subst (λ (g : Dialogue → Dialogue). Alike x (g x)) (sym i) (woken_alike x)
    same d q f (By_saying a by i off) at x = subst (λ (g : Dialogue → Dialogue). Alike x (g x)) (sym i) (said_alike a x (said_plain e q a by (there q at)))
    same d q f (By_hearing a by i off) at x = subst (λ (g : Dialogue → Dialogue). Alike x (g x)) (sym i) (heard_alike a x (heard_plain e q a by (there q at)))
    same d q f (By_beginning k by i) at x = absurd (no_begin e q k by (there q at))
    same d q f (By_leaving by i) at x = absurd (no_left e q by (there q at))
