-- After an event that makes no change of its own to the dialogue with a peer, and after a request that gives control there
-- or answers a handshake, control is as its last cause says.
use Rattle.tp_history_state.proofs.Vocabulary.{Bool, List, None, Option, Some, [], ap, append-nil, arith, false, inl, inr, refl, sym, true, ℕ, ◌&&◌, ◌++◌, ◌==◌, ◌||◌, ◌∙◌, ◌∷◌, ◌≡◌, ◌≤◌, and-false, nat_tests, Addr, DialogueRecord, Request, Cause, cause_by, has_said, said_to, is_left_record, is_record, acting_from, was_branch, is_at, heard_from, Who, Origin, Event, Entry, Digest, Current, Arc, Dialogue, Under, rolls, is_unchanged, digest, entry_of, refusal, action, Move, perform, phase_of, situation_at, fresh_current, is_under_at, find_arc, is_live_with_peer, with_dialogue, performed, carried, is_polarized, is_rolling, is_late, Phase, TxOut, has_branch_at, is_live, prelude, IsLate, Came, As_it_was, By_begin, By_crash, came_by, find_arc_is, is_rolled_told, keeps_performed, said_carried, late_law, link_dialogue, said_append, means_of, step_move, told_performed, nothing_late}
use Rattle.tp_history_state.proofs.control.Quiet.{IsControl, Grows, IsControlBy, before_it, well_first, up_is, branch_seen, rolls_early, fell_so, conclude, is_meddling, meddles, quiet_at, cause_at}
use Rattle.tp_history_state.proofs.control.Moves.{Stands, Controls, IsPast, IsBareAt, is_branch_at}
use Rattle.tp_history_state.proofs.control.Steps.{IsGiven, controls_steps}
use Rattle.tp_history_state.proofs.control.First.{First, first_control}
use Rattle.tp_history_state.proofs.control.Causes.{by_cause, side_of_end, cause_of, IsMoot, is_moot, cause_shown, last_dead, last_on}
use Rattle.tp_history_state.proofs.control.Signs.{no_signs, signs, signs_of, effect}
use Rattle.tp_history_state.proofs.control.Arcs.{is_ruled, control_at, control_of, control_from, ruled_live, same_performed, dialogue_gets, found_dialogue}
use Rattle.tp_history_state.proofs.orders.OverTold.{is_over_told}
use Rattle.tp_history_state.proofs.passages.Shown.{is_early}

-- ---- the record that acts

pub acting_is : (o : Origin) (p : ℕ) (e : Event) (h : List Entry) (r : DialogueRecord) → acting_from o p e h ≡ Some r → heard_from p e ≡ Some r
acting_is o p e h r is = grind arith

heard_meddles : (p : ℕ) (e : Event) (r : DialogueRecord) → heard_from p e ≡ Some r → meddles e p ≡ false → is_meddling r ≡ false
heard_meddles p e r h1 h2 = grind arith

pub moot_is : (r : DialogueRecord) → is_meddling r ≡ false → (is_moot r ≡ true) × (is_left_record r ≡ false)
moot_is r h1 = grind arith

-- ---- an event that makes no change of its own

pub early_at : (who : Who) (d : Digest) (e : Event) (c : Current) → d.current ≡ Some c → rolls who d e ≡ true → is_early c.phase ≡ true
early_at who d e c i f = ap (λ (o : Option Current). is_early (elim o as (λ _. Phase) [ None ↦ Phase.Nil | Some y ↦ y.phase ])) (sym i) ∙ rolls_early who d e f

pub given_here : (who : Who) (d : Digest) (e : Event) (p : ℕ) → refusal who d e ≡ None → is_unchanged e ≡ false → (prelude who d e).current ≡ d.current → IsGiven who e (prelude who d e) p (situation_at who d p).branch (rolls who d e)
given_here who d e p ok stays i = record {
  is_branch = λ c at. ap (λ (o : Option Current). is_branch_at o p) (sym at ∙ i) ∙ sym (branch_seen who d p);
  early = λ f c at. early_at who d e c (sym i ∙ at) f;
  falls_so = λ c f arcs at asked fall. (means_of who d e ok).falls_so c f arcs at asked fall;
  stays = stays;
}

quiet_given : (who : Who) (d : Digest) (e : Event) (p : ℕ) → IsLate d → refusal who d e ≡ None → meddles e p ≡ false → is_unchanged e ≡ false → Came who d e → IsGiven who e (prelude who d e) p (situation_at who d p).branch (rolls who d e)
quiet_given who d e p late ok calm stays (As_it_was i) = given_here who d e p ok stays i
quiet_given who d e p late ok calm stays (By_crash is cur) = absurd (let on : meddles e p ≡ true = ap (λ (v : Event). meddles v p) is in cc (calm, on))
quiet_given who d e p late ok calm stays (By_begin from x y q t b k a is found cur nil above) = record {
  is_branch = λ c at. let same : fresh_current (Under t b a.peer) ≡ c = cc (sym cur ∙ at) in ap (λ (y : Current). is_under_at y.key p || has_branch_at y.branches p) (sym same) ∙ rw off refl ∙ sym none;
  early = λ f c at. absurd (let no : rolls who d e ≡ false = ap (rolls who d) is in cc (f, no));
  falls_so = λ c f arcs at asked fall. (means_of who d e ok).falls_so c f arcs at asked fall;
  stays = stays;
}
  where
    none : (situation_at who d p).branch ≡ false
    none = branch_seen who d p ∙ ap (λ (o : Option Current). is_branch_at o p) (nothing_late d late nil)

    off : (a.peer.node == p) ≡ false
    off = ap (λ (n : ℕ). n == p) (find_arc_is d.arcs from.node a found) ∙ plain (from.node == p) (sym (ap (λ (v : Event). meddles v p) is) ∙ calm)
      where
        plain : (b : Bool) → (b && true) ≡ false → b ≡ false
        plain true h = absurd (cc (h))
        plain false h = refl

unchanged_meddles : (e : Event) (p : ℕ) → meddles e p ≡ false → is_unchanged e ≡ false
unchanged_meddles (Event.Do Request.Unchanged) p h = absurd (cc (h))
unchanged_meddles e p h = refl

-- what stands where the steps begin, with control as given
pub stands_with : (up : Option Addr) (p : ℕ) (branch fall : Bool) (old : Bool × Bool) (s : Digest) → (fall ≡ true → is_rolling (phase_of s) ≡ false) → (is_ruled p s.arcs ≡ true → control_at p s.arcs ≡ old) → IsPast up p s → IsBareAt up p s → Stands up p branch fall old s no_signs s
stands_with up p branch fall old s calm is past bare = record {
  drawn = self s.drawn;
  state = λ h. (h, is h ∙ go fall refl);
  past = past;
  bare = bare;
  begun = λ k is. absurd (cc (is));
  calm = λ i j. refl;
  unsaid = (refl, refl);
}
  where
    self : (n : ℕ) → n ≤ n
    self n = omega arith

    go : (b : Bool) → fall ≡ b → old ≡ effect (is_at up p) branch fall old (is_rolling (phase_of s)) no_signs
    go false i = rw i refl
    go true i = rw (i, calm i) refl

pub early_calm : (q : Phase) → is_early q ≡ true → is_rolling q ≡ false
early_calm q h = grind (arith, h)

pub quiet_control : (o : Origin) (up : Option Addr) (h : List Entry) (e : Event) (p : ℕ) → Grows o up h e → IsControl o up h p → meddles e p ≡ false → IsControlBy o up h e p
quiet_control o up h e p g was calm = record { is = is; past = st.past; bare = st.bare }
  where
    d : Digest
    d = digest o h

    s : Digest
    s = prelude o.who d e

    m : Move
    m = action o.who d e

    branch : Bool
    branch = was_branch o p h

    fall : Bool
    fall = rolls o.who d e

    late : IsLate d
    late = late_law o up h g.grown

    first : First up p d s
    first = first_control o.who up p d e (before_it o up h p g.grown was) g.ok

    stays : is_unchanged e ≡ false
    stays = unchanged_meddles e p calm

    given : IsGiven o.who e s p branch fall
    given = quiet_given o.who d e p late g.ok calm stays (came_by o.who d e g.ok)

    start : Stands up p branch fall (control_at p s.arcs) s no_signs s
    start = stands_with up p branch fall (control_at p s.arcs) s (λ f. go s.current refl f) (λ h. refl) first.past first.bare
      where
        go : (v : Option Current) → s.current ≡ v → fall ≡ true → is_rolling (phase_of s) ≡ false
        go None i f = rw (i, phase_of) refl
        go (Some c) i f = rw (i, phase_of) (early_calm c.phase (given.early f c i))

    st : Stands up p branch fall (control_at p s.arcs) s (signs p m) m.next
    st = (step_move o.who d e (Controls up p branch fall (control_at p s.arcs) s) (controls_steps up p branch fall (control_at p s.arcs) o.who e s given (quiet_at e p calm)) late g.ok).3 no_signs (well_first o up h e g) start

    moot : IsMoot (acting_from o p e h)
    moot r i = (moot_is r (heard_meddles p e r (acting_is o p e h r i) calm)).0

    unleft : (has_said is_left_record (said_to p m.outs) || (branch && is_record is_left_record (acting_from o p e h))) ≡ false
    unleft = rw (st.unsaid.0, go (acting_from o p e h) refl) (and-false branch)
      where
        go : (v : Option DialogueRecord) → acting_from o p e h ≡ v → is_record is_left_record (acting_from o p e h) ≡ false
        go None i = rw i refl
        go (Some r) i = rw i (moot_is r (heard_meddles p e r (acting_is o p e h r i) calm)).1

    is : is_ruled p m.next.arcs ≡ true → control_at p m.next.arcs ≡ cause_at o up p (entry_of o h e ∷ h)
    is ruled = conclude o up h e p branch fall false (control_at p s.arcs) s (signs p m) st cause (fell_so o.who d e g.ok) (λ l. absurd (cc (l))) begin ruled
      where
        cause : cause_by o p (entry_of o h e) h ≡ cause_of (is_at up p) branch fall false (signs p m)
        cause = cause_shown o p (entry_of o h e) h (is_at up p) branch fall false (signs p m) moot stays refl refl refl refl (up_is o up h e p g (ruled_live p m.next.arcs ruled)) refl refl unleft

        begin : is_ruled p s.arcs ≡ true → cause_by o p (entry_of o h e) h ≡ None → control_at p s.arcs ≡ cause_at o up p (entry_of o h e ∷ h)
        begin r none = elim (first.control r) [
          | inl k ↦ k.2 ∙ was.is k.1 ∙ sym (ap (λ (z : Cause × Bool). by_cause (side_of_end (is_at up p)) z.0 z.1) (last_on o p (entry_of o h e) h false none k.0 st.unsaid.1))
          | inr k ↦ k.1 ∙ sym (ap (λ (z : Cause × Bool). by_cause (side_of_end (is_at up p)) z.0 z.1) (last_dead o p (entry_of o h e) h none k.0))
        ]

-- ---- a request that speaks of control

pub record Spoken (p : ℕ) (r : DialogueRecord) (d : Digest) (m : Move) : Type 0 where
  pub said : said_to p m.outs ≡ r ∷ []
  pub signs : signs p m ≡ signs_of (r ∷ []) false false false

pub speaks_so : (p : ℕ) (r : DialogueRecord) (f : Dialogue → Dialogue) (d : Digest) → is_live_with_peer d.arcs p ≡ true → Spoken p r d (perform (TxOut.Carry p r ∷ []) (record d { arcs = with_dialogue d.arcs p f }))
speaks_so p r f d live = record { said = one; signs = rw (one, told_performed is_over_told xs (TxOut.Carry p r ∷ []), told_performed is_rolled_told xs (TxOut.Carry p r ∷ [])) refl }
  where
    xs : List Arc
    xs = with_dialogue d.arcs p f

    here : is_live_with_peer xs p ≡ true
    here = ap is_live (link_dialogue d.arcs p f p) ∙ live

    self : (p == p) ≡ true
    self = grind (arith, nat_tests)

    one : said_to p ((carried xs p r).1 ++ []) ≡ r ∷ []
    one = said_append p (carried xs p r).1 [] ∙ append-nil (said_to p (carried xs p r).1) ∙ said_carried p xs p r ∙ rw (self, here) refl

-- what a request makes of what stands: the current transaction stays, and the arc gets control as given
pub spoken_control : (o : Origin) (up : Option Addr) (h : List Entry) (e : Event) (p : ℕ) (r : DialogueRecord) (f : Dialogue → Dialogue) (v : Bool × Bool) → Grows o up h e → IsControl o up h p → action o.who (digest o h) e ≡ perform (TxOut.Carry p r ∷ []) (record (digest o h) { arcs = with_dialogue (digest o h).arcs p f })
    → (is_ruled p (digest o h).arcs ≡ true → (a : Arc) → find_arc (digest o h).arcs p ≡ Some a → (is_polarized (f a.dialogue) ≡ is_polarized a.dialogue) × (is_polarized a.dialogue ≡ true → control_from (f a.dialogue) ≡ v))
    → ((a : Arc) → is_polarized (f a.dialogue) ≡ is_polarized a.dialogue)
    → (IsPast up p (digest o h) → is_ruled p (digest o h).arcs ≡ true → is_at up p ≡ true → (c : Current) → (digest o h).current ≡ Some c → is_under_at c.key p ≡ true → is_late c.phase ≡ true → v ≡ (false, false))
    → (is_ruled p (digest o h).arcs ≡ true → v ≡ cause_at o up p (entry_of o h e ∷ h)) → IsControlBy o up h e p
spoken_control o up h e p r f v g was is gets units quiet tells = record {
  is = λ ruled. let k = moved ruled in k.1 ∙ tells k.0;
  past = λ top c now under late ruled. let k = moved ruled in k.1 ∙ quiet was.past k.0 top c (sym (ap (λ (z : Move). z.next.current) is) ∙ now) under late;
  bare = λ top c now live. was.bare top c (sym (ap (λ (z : Move). z.next.current) is) ∙ now) (back live);
}
  where
    d : Digest
    d = digest o h

    xs : List Arc
    xs = with_dialogue d.arcs p f

    m : Move
    m = action o.who d e

    arcs : m.next.arcs ≡ (performed xs (TxOut.Carry p r ∷ [])).0
    arcs = ap (λ (z : Move). z.next.arcs) is

    back : is_live_with_peer m.next.arcs p ≡ true → is_live_with_peer d.arcs p ≡ true
    back live = sym (ap is_live (link_dialogue d.arcs p f p)) ∙ (keeps_performed is_polarized p xs (TxOut.Carry p r ∷ []) (ap (λ (ys : List Arc). is_live_with_peer ys p) (sym arcs) ∙ live)).0

    moved : is_ruled p m.next.arcs ≡ true → (is_ruled p d.arcs ≡ true) × (control_at p m.next.arcs ≡ v)
    moved ruled =
        let one = same_performed p xs (TxOut.Carry p r ∷ []) (ap (is_ruled p) (sym arcs) ∙ ruled) in
        let before : is_ruled p d.arcs ≡ true = (dialogue_gets d.arcs f p (control_at p xs) (λ a i. (units a, λ pol. ap control_of (sym (got a i)))) one.0).0 in
        let two = dialogue_gets d.arcs f p v (gets before) one.0 in
        (before, ap (control_at p) arcs ∙ one.1 ∙ two.1)
      where
        got : (a : Arc) → find_arc d.arcs p ≡ Some a → find_arc xs p ≡ Some (record a { dialogue = f a.dialogue })
        got a i = found_dialogue d.arcs p f p a i ∙ rw self refl
          where
            self : (p == p) ≡ true
            self = grind (arith, nat_tests)
