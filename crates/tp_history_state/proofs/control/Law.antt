-- In every legal history who holds control of a live polarized arc is told by the last of its causes.
use Rattle.tp_history_state.proofs.Vocabulary.{Bool, List, Option, Some, [], ap, arith, false, inl, inr, not, refl, subst, sym, true, ℕ, ◌==◌, ◌||◌, ◌∙◌, ◌∷◌, ◌≡◌, and_parts, nat_tests, Addr, Mark, has_bit, DialogueRecord, PeerRecord, Request, holds_in, last_cause, is_at, is_up, holds_by, Origin, Event, Entry, Arc, digest, IsGrown, IsLegal, started, after_crash, same_bool, find_arc, is_live_with_peer, is_live, control_agrees, the, IsPlaced, placed_law, superior_at, all_found, bool_self, separate_law}
use Rattle.tp_history_state.proofs.control.Quiet.{IsControl, IsControlBy, Grows, meddles, is_meddling}
use Rattle.tp_history_state.proofs.control.Events.{quiet_control}
use Rattle.tp_history_state.proofs.control.Said.{grant_control, handing_control, respond_control}
use Rattle.tp_history_state.proofs.control.Heard.{heard_control}
use Rattle.tp_history_state.proofs.control.Begun.{begun_control}
use Rattle.tp_history_state.proofs.control.Left.{left_control}
use Rattle.tp_history_state.proofs.control.Leaves.{leaving_control}
use Rattle.tp_history_state.proofs.control.Causes.{side_of_end}
use Rattle.tp_history_state.proofs.control.Arcs.{is_ruled, control_of, ruled_of, ruled_live}

-- a crash leaves no arc
crash_control : (o : Origin) (up : Option Addr) (h : List Entry) (p : ℕ) → Grows o up h Event.Crash → IsControl o up h p → IsControlBy o up h Event.Crash p
unfolding after_crash
crash_control o up h p g was = record { is = λ ruled. absurd (cc (ruled)); past = λ top c is under late ruled. absurd (cc (ruled)); bare = λ top c is live. absurd (cc (live)) }

pub event_control : (o : Origin) (up : Option Addr) (h : List Entry) (e : Event) (p : ℕ) → Grows o up h e → IsControl o up h p → IsControlBy o up h e p
event_control o up h e p g was = go (meddles e p) refl
  where
    same : (q : ℕ) → (q == p) ≡ true → q ≡ p
    same q i = grind (arith, nat_tests, i)

    taken : (from : Addr) (x y : Mark) (n : ℕ) (r : DialogueRecord) → is_meddling r ≡ true → Grows o up h (the from x y n r) → IsControl o up h from.node → IsControlBy o up h (the from x y n r) from.node
    taken from x y n DialogueRecord.Grant i g was = heard_control o up h from x y n DialogueRecord.Grant (inl refl) g was
    taken from x y n DialogueRecord.Handshake i g was = heard_control o up h from x y n DialogueRecord.Handshake (inr (inl refl)) g was
    taken from x y n DialogueRecord.HandshakeGrant i g was = heard_control o up h from x y n DialogueRecord.HandshakeGrant (inr (inr refl)) g was
    taken from x y n (DialogueRecord.Begin t b k) i g was = begun_control o up h from x y n t b k g was
    taken from x y n DialogueRecord.Left i g was = left_control o up h from x y n DialogueRecord.Left refl g was
    taken from x y n DialogueRecord.LeftEnd i g was = left_control o up h from x y n DialogueRecord.LeftEnd refl g was
    taken from x y n r i g was = absurd (cc (i))

    stirred : (e : Event) → meddles e p ≡ true → Grows o up h e → IsControlBy o up h e p
    stirred (Event.Do (Request.Grant q)) i g = subst (λ (n : ℕ). IsControlBy o up h (Event.Do (Request.Grant n)) p) (sym (same q i)) (grant_control o up h p (subst (λ (n : ℕ). Grows o up h (Event.Do (Request.Grant n))) (same q i) g) was)
    stirred (Event.Do (Request.HandshakeGrant q)) i g = subst (λ (n : ℕ). IsControlBy o up h (Event.Do (Request.HandshakeGrant n)) p) (sym (same q i)) (handing_control o up h p (subst (λ (n : ℕ). Grows o up h (Event.Do (Request.HandshakeGrant n))) (same q i) g) was)
    stirred (Event.Do (Request.Respond q)) i g = subst (λ (n : ℕ). IsControlBy o up h (Event.Do (Request.Respond n)) p) (sym (same q i)) (respond_control o up h p (subst (λ (n : ℕ). Grows o up h (Event.Do (Request.Respond n))) (same q i) g) was)
    stirred (Event.Do Request.Unchanged) i g = leaving_control o up h p g was
    stirred (Event.Arrive from (PeerRecord.OnAssoc x y n r)) i g =
        let k = and_parts (from.node == p) (is_meddling r) i in
        let at : from.node ≡ p = same from.node k.0 in
        subst (λ (q : ℕ). IsControlBy o up h (the from x y n r) q) at (taken from x y n r k.1 g (subst (λ (q : ℕ). IsControl o up h q) (sym at) was))
    stirred Event.Crash i g = crash_control o up h p g was
    stirred e i g = absurd (cc (i))

    go : (b : Bool) → meddles e p ≡ b → IsControlBy o up h e p
    go true i = stirred e i g
    go false i = quiet_control o up h e p g was i

pub control_known : (o : Origin) (up : Option Addr) (h : List Entry) (p : ℕ) → IsGrown o up h → IsControl o up h p
unfolding started
control_known o up [] p legal = record { is = λ ruled. absurd (cc (ruled)); past = λ top c is under late ruled. absurd (cc (ruled)); bare = λ top c is live. absurd (cc (live)) }
control_known o up (e ∷ h) p legal =
    subst (λ (x : Entry). IsControl o up (x ∷ h) p) legal.1
    (event_control o up h e.event p (record { ok = legal.0; under = legal.2; grown = legal.3 }) (control_known o up h p legal.3))

-- ---- of all arcs

pub control_law : (o : Origin) (up : Option Addr) (h : List Entry) → IsLegal o up h → control_agrees o h ≡ true
control_law o up h legal = all_found _ (digest o h).arcs (separate_law o up h legal.grown) (λ a found. go a found (is_live a.link) refl (has_bit a.dialogue.units 2) refl)
  where
    go : (a : Arc) → find_arc (digest o h).arcs a.peer.node ≡ Some a → (b : Bool) → is_live a.link ≡ b → (c : Bool) → has_bit a.dialogue.units 2 ≡ c → (not b || (not c || same_bool a.dialogue.holds (holds_in o a.peer.node h))) ≡ true
    go a found true i true j =
        let p : ℕ = a.peer.node in
        let ruled : is_ruled p (digest o h).arcs ≡ true = ap ruled_of found ∙ rw (i, j) refl in
        let side : is_up o p h ≡ is_at up p = placed_side (placed_law o up h legal.grown) (ruled_live p (digest o h).arcs ruled) in
        let known : a.dialogue.holds ≡ holds_by (side_of_end (is_at up p)) (last_cause o p false h).0 (last_cause o p false h).1 =
        ap (λ (v : Option Arc). (control_of v).0) (sym found) ∙ ap (λ (v : Bool × Bool). v.0) ((control_known o up h p legal.grown).is ruled) in
        bool_self a.dialogue.holds (holds_in o p h) (known ∙ ap (λ (b : Bool). holds_by (side_of_end b) (last_cause o p false h).0 (last_cause o p false h).1) (sym side))
      where
        placed_side : IsPlaced up (digest o h) → is_live_with_peer (digest o h).arcs a.peer.node ≡ true → is_up o a.peer.node h ≡ is_at up a.peer.node
        placed_side (inl s) live = superior_at (digest o h) a.peer.node ∙ ap (λ (v : Option Addr). is_at v a.peer.node) s
        placed_side (inr k) live = absurd (let dead : is_live_with_peer (digest o h).arcs a.peer.node ≡ false = k a.peer.node in cc (live, dead))
    go a found true i false j = refl
    go a found false i c j = refl
