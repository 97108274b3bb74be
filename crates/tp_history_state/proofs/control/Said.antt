-- After a request that gives control to a peer, or answers its handshake, control is as its last cause says.
use Rattle.tp_history_state.proofs.Vocabulary.{Bool, List, None, Option, Some, ap, arith, false, refl, sym, true, ℕ, ◌&&◌, ◌||◌, ◌∙◌, ◌∷◌, ◌≡◌, and-false, Addr, DialogueRecord, Request, Cause, Granted_away, cause_by, last_cause, has_said, said_to, is_left_record, was_branch, is_up, is_at, Who, Origin, Event, Entry, Digest, Arc, Dialogue, Ask_grant, Ask_respond, Ask_handshake_grant, said, is_polarized, gives_control, refused_on_arc, refusal, action, refused_request, Move, digest, entry_of, find_arc, plain_request, is_response}
use Rattle.tp_history_state.proofs.control.Events.{Spoken, speaks_so, spoken_control}
use Rattle.tp_history_state.proofs.control.Causes.{by_cause, by_response, side_of_end, cause_of, cause_shown, last_some, last_on}
use Rattle.tp_history_state.proofs.control.Arcs.{is_ruled, control_at, control_of, control_from, ruled_live}
use Rattle.tp_history_state.proofs.control.Quiet.{Grows, IsControl, IsControlBy, cause_at}
use Rattle.tp_history_state.proofs.control.Signs.{signs}

-- no response is owed that gives control, where one gives it away
grant_due : (who : Who) (d : Digest) (p : ℕ) (a : Arc) → refusal who d (Event.Do (Request.Grant p)) ≡ None → find_arc d.arcs p ≡ Some a → gives_control a.dialogue.due ≡ false
unfolding refused_request refused_on_arc
grant_due who d p a ok i = let plain : refused_request who d (Request.Grant p) ≡ None = plain_request who d (Request.Grant p) ok in grind (arith, i, plain)

handing_due : (who : Who) (d : Digest) (p : ℕ) (a : Arc) → refusal who d (Event.Do (Request.HandshakeGrant p)) ≡ None → find_arc d.arcs p ≡ Some a → gives_control a.dialogue.due ≡ false
unfolding refused_request refused_on_arc
handing_due who d p a ok i = let plain : refused_request who d (Request.HandshakeGrant p) ≡ None = plain_request who d (Request.HandshakeGrant p) ok in grind (arith, i, plain)

given_away : (x : Dialogue) → gives_control x.due ≡ false → (is_polarized (said Ask_grant x) ≡ is_polarized x) × (control_from (said Ask_grant x) ≡ (false, false)) × (is_polarized (said Ask_handshake_grant x) ≡ is_polarized x) × (control_from (said Ask_handshake_grant x) ≡ (false, false))
unfolding said
given_away x h = (refl, rw h refl, refl, rw h refl)

units_said : (x : Dialogue) → (is_polarized (said Ask_grant x) ≡ is_polarized x) × (is_polarized (said Ask_handshake_grant x) ≡ is_polarized x) × (is_polarized (said Ask_respond x) ≡ is_polarized x)
unfolding said
units_said x = (refl, refl, refl)

responded : (x : Dialogue) → control_from (said Ask_respond x) ≡ (x.holds || gives_control x.due, false)
unfolding said
responded x = refl

pub grant_control : (o : Origin) (up : Option Addr) (h : List Entry) (p : ℕ) → Grows o up h (Event.Do (Request.Grant p)) → IsControl o up h p → IsControlBy o up h (Event.Do (Request.Grant p)) p
grant_control o up h p g was =
    spoken_control o up h e p DialogueRecord.Grant (said Ask_grant) (false, false) g was refl (λ ruled a i. let k = given_away a.dialogue (grant_due o.who (digest o h) p a g.ok i) in (k.0, λ pol. k.1)) (λ a. (units_said a.dialogue).0) (λ past ruled top c now under late. refl)
    (λ ruled. sym (ap (λ (z : Cause × Bool). by_cause (side_of_end (is_at up p)) z.0 z.1) (last_some o p (entry_of o h e) h Granted_away (cause ruled))))
  where
    e : Event
    e = Event.Do (Request.Grant p)

    m : Move
    m = action o.who (digest o h) e

    cause : is_ruled p (digest o h).arcs ≡ true → cause_by o p (entry_of o h e) h ≡ Some Granted_away
    cause ruled =
        let s : Spoken p DialogueRecord.Grant (digest o h) m = speaks_so p DialogueRecord.Grant (said Ask_grant) (digest o h) (ruled_live p (digest o h).arcs ruled) in
        cause_shown o p (entry_of o h e) h (is_up o p h) (was_branch o p h) false _ (signs p m) (λ r i. absurd (cc (i))) refl refl refl refl refl refl refl refl refl
        ∙ ap (cause_of (is_up o p h) (was_branch o p h) false _) s.signs

pub handing_control : (o : Origin) (up : Option Addr) (h : List Entry) (p : ℕ) → Grows o up h (Event.Do (Request.HandshakeGrant p)) → IsControl o up h p → IsControlBy o up h (Event.Do (Request.HandshakeGrant p)) p
handing_control o up h p g was =
    spoken_control o up h e p DialogueRecord.HandshakeGrant (said Ask_handshake_grant) (false, false) g was refl (λ ruled a i. let k = given_away a.dialogue (handing_due o.who (digest o h) p a g.ok i) in (k.2, λ pol. k.3)) (λ a. (units_said a.dialogue).1) (λ past ruled top c now under late. refl)
    (λ ruled. sym (ap (λ (z : Cause × Bool). by_cause (side_of_end (is_at up p)) z.0 z.1) (last_some o p (entry_of o h e) h Granted_away (cause ruled))))
  where
    e : Event
    e = Event.Do (Request.HandshakeGrant p)

    m : Move
    m = action o.who (digest o h) e

    cause : is_ruled p (digest o h).arcs ≡ true → cause_by o p (entry_of o h e) h ≡ Some Granted_away
    cause ruled =
        let s : Spoken p DialogueRecord.HandshakeGrant (digest o h) m = speaks_so p DialogueRecord.HandshakeGrant (said Ask_handshake_grant) (digest o h) (ruled_live p (digest o h).arcs ruled) in
        cause_shown o p (entry_of o h e) h (is_up o p h) (was_branch o p h) false _ (signs p m) (λ r i. absurd (cc (i))) refl refl refl refl refl refl refl refl refl
        ∙ ap (cause_of (is_up o p h) (was_branch o p h) false _) s.signs

pub respond_control : (o : Origin) (up : Option Addr) (h : List Entry) (p : ℕ) → Grows o up h (Event.Do (Request.Respond p)) → IsControl o up h p → IsControlBy o up h (Event.Do (Request.Respond p)) p
respond_control o up h p g was =
    spoken_control o up h e p DialogueRecord.Response (said Ask_respond) (after old) g was refl
    (λ ruled a i. ((units_said a.dialogue).2, λ pol. responded a.dialogue ∙ sym (ap (λ (v : Option Arc). after (control_of v)) i)))
    (λ a. (units_said a.dialogue).2) (λ past ruled top c now under late. ap after (past top c now under late ruled)) tells
  where
    e : Event
    e = Event.Do (Request.Respond p)

    m : Move
    m = action o.who (digest o h) e

    after : Bool × Bool → Bool × Bool
    after v = (v.0 || v.1, false)

    old : Bool × Bool
    old = control_at p (digest o h).arcs

    c : Cause × Bool
    c = last_cause o p false h

    tells : is_ruled p (digest o h).arcs ≡ true → after old ≡ cause_at o up p (entry_of o h e ∷ h)
    tells ruled =
        let live = ruled_live p (digest o h).arcs ruled in
        let s : Spoken p DialogueRecord.Response (digest o h) m = speaks_so p DialogueRecord.Response (said Ask_respond) (digest o h) live in
        let unleft : (has_said is_left_record (said_to p m.outs) || (was_branch o p h && false)) ≡ false = rw s.said (and-false (was_branch o p h)) in
        let cause : cause_by o p (entry_of o h e) h ≡ None =
        cause_shown o p (entry_of o h e) h (is_up o p h) (was_branch o p h) false false (signs p m) (λ r i. absurd (cc (i))) refl refl refl refl refl refl refl refl unleft
        ∙ ap (cause_of (is_up o p h) (was_branch o p h) false false) s.signs in
        ap after (was.is ruled) ∙ by_response (side_of_end (is_at up p)) c.0 c.1
        ∙ sym (ap (λ (z : Cause × Bool). by_cause (side_of_end (is_at up p)) z.0 z.1) (last_on o p (entry_of o h e) h true cause live (ap (has_said is_response) s.said)))
