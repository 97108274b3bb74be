-- After a Begin of the superior, control is as the Begin says.
use Rattle.tp_history_state.proofs.Vocabulary.{Bool, List, None, Option, Some, [], ap, arith, false, inl, inr, refl, subst, sym, true, ℕ, ◌==◌, ◌∙◌, ◌∷◌, ◌≡◌, nat_tests, Aaid, Addr, BranchId, Mark, DialogueRecord, Holder, Indication, PeerRecord, Cause, Begun_by, cause_by, said_to, holder_in, acting_from, was_branch, is_up, is_at, completes, enters, Who, Origin, Event, Entry, Digest, Arc, Dialogue, Current, Under, Sight, Acts, Nothing_happens, Out_of_phase, begun_by, woken, is_polarized, is_holder, is_late, is_rolling, action, sight_at, take_on, take_record, take_begin, woken_by, refused_arrival, Move, move, followed, perform, phase_of, fresh_current, begin_on, begin_each, begin_chained, chained_peers, find_arc, is_live_with_peer, with_dialogue, with_link, with_one_taken, is_live, Side, TxOut, digest, has_branch_at, Steps, the, find_arc_is, on_none, begin_acts, begin_seen, is_rolled_told, late_fresh, link_dialogue, placed_arcs, placed_law, plain_arrival, quiet_each, step_chained, separate_law, thins_dialogue, thins_taken, told_performed, traced_law, said_none}
use Rattle.tp_history_state.proofs.control.Heard.{acting_took, counted_woken, live_woken}
use Rattle.tp_history_state.proofs.control.Causes.{by_cause, side_of_end, cause_from, cause_is, last_some}
use Rattle.tp_history_state.proofs.control.Moves.{IsWell, Stands, Controls, is_branch_at, IsBareAt, IsPast}
use Rattle.tp_history_state.proofs.control.Signs.{Signs, no_signs, signs, plus, effect, signs_then}
use Rattle.tp_history_state.proofs.control.Steps.{still_steps}
use Rattle.tp_history_state.proofs.control.Events.{stands_with}
use Rattle.tp_history_state.proofs.control.Quiet.{Grows, IsControl, IsControlBy, cause_at}
use Rattle.tp_history_state.proofs.control.Arcs.{control_at, control_from, dialogue_gets, is_gift, is_ruled}
use Rattle.tp_history_state.proofs.orders.OverTold.{is_over_told}
use Rattle.tp_histories.proofs.worlds.Unique.{superior_is}
use Rattle.tp_history_state.proofs.lemmas.Begins.{begin_word, begin_arcs, begins_so}

-- ---- a Begin that goes out is the only sign that it gives

abbrev pub Begins : Signs → Type 0
Begins y = (y.given ≡ false) × (y.over ≡ false) × (y.rolled ≡ false) × (y.logged ≡ false)

pub begins_then : (x y : Signs) → Begins x → Begins y → Begins (plus x y)
begins_then x y h i = (rw (h.0, i.0) refl, rw (h.1, i.1) refl, rw (h.2, i.2) refl, rw (h.3, i.3) refl)

begin_signs : (p : ℕ) (who : Who) (q : ℕ) (d : Digest) → Begins (signs p (begin_on who q d))
begin_signs p who q d =
    begins_so (λ m. Begins (signs p m)) who q d (refl, refl, refl, refl)
    (λ c i a found may.
    let xs : List Arc = begin_arcs q d a in
    let outs : List TxOut = TxOut.Carry q (begin_word who d c a) ∷ [] in
    (said_none is_gift p xs outs refl, told_performed is_over_told xs outs, told_performed is_rolled_told xs outs, refl))

pub each_signs : (p : ℕ) (who : Who) (qs : List ℕ) (d : Digest) → Begins (signs p (begin_each who qs d))
each_signs p who [] d = (refl, refl, refl, refl)
each_signs p who (q ∷ qs) d =
    subst Begins (sym (signs_then p (begin_on who q d) (begin_each who qs) (inr (quiet_each who qs (begin_on who q d).next))))
    (begins_then (signs p (begin_on who q d)) (signs p (begin_each who qs (begin_on who q d).next)) (begin_signs p who q d) (each_signs p who qs (begin_on who q d).next))

pub effect_none : (above branch : Bool) (old : Bool × Bool) (rolling : Bool) (y : Signs) → y.begun ≡ None → Begins y → effect above branch false old rolling y ≡ old
effect_none above branch old rolling y h i = rw (h, i.0, i.1, i.3) refl

-- ---- the Begin that is taken

begins_below : (k : Holder) (x : Dialogue) → (is_polarized (begun_by k Side.Subordinate x) ≡ is_polarized x) × (is_polarized x ≡ true → control_from (begun_by k Side.Subordinate x) ≡ (is_holder k Side.Subordinate, false))
unfolding begun_by
begins_below k x = grind arith

begin_cause : (t : Aaid) (b : BranchId) (k : Holder) (rs : List DialogueRecord) (c v u n : Bool) → holder_in rs ≡ None → cause_from (Some (DialogueRecord.Begin t b k)) rs c v u n ≡ Some (Begun_by k)
begin_cause t b k rs c v u n i = grind arith

pub dead_back : (xs ys : List Arc) (q : ℕ) → (is_live_with_peer ys q ≡ true → is_live_with_peer xs q ≡ true) → is_live_with_peer xs q ≡ false → is_live_with_peer ys q ≡ false
dead_back xs ys q k dead = grind arith

pub begun_control : (o : Origin) (up : Option Addr) (h : List Entry) (from : Addr) (x y : Mark) (q : ℕ) (t : Aaid) (b : BranchId) (k : Holder) → Grows o up h (the from x y q (DialogueRecord.Begin t b k)) → IsControl o up h from.node
    → IsControlBy o up h (the from x y q (DialogueRecord.Begin t b k)) from.node
unfolding take_begin
begun_control o up h from x y q t b k g was = go (find_arc d.arcs from.node) refl
  where
    d : Digest
    d = digest o h

    r : DialogueRecord
    r = DialogueRecord.Begin t b k

    e : Event
    e = the from x y q r

    plain : refused_arrival o.who d from (PeerRecord.OnAssoc x y q r) ≡ None
    plain = plain_arrival o.who d from (PeerRecord.OnAssoc x y q r) g.ok

    on : (a : Arc) → find_arc d.arcs from.node ≡ Some a → IsControlBy o up h e a.peer.node
    on a found = made (subst (λ (m : Move). Holds m) (sym is) (state, st.past, st.bare))
      where
        n : ℕ
        n = a.peer.node

        at : n ≡ from.node
        at = find_arc_is d.arcs from.node a found

        seen : sight_at o.who d a r ≡ Acts
        seen = begin_acts o.who d from x y q t b k a plain found (sight_at o.who d a r) refl

        u : Digest
        u = counted_woken n d

        v : Digest
        v = record u { arcs = with_dialogue u.arcs n (begun_by k Side.Subordinate); current = Some (fresh_current (Under t b a.peer)) }

        outs : List TxOut
        outs = TxOut.Tell (Indication.BeginTransaction n t) ∷ []

        first : Move
        first = perform outs v

        m : Move
        m = followed first (begin_chained o.who)

        is : action o.who d e ≡ m
        is =
            ap (λ (z : Option Arc). elim z as (λ _. Move) [ None ↦ move [] d | Some c ↦ take_on o.who c r d ]) found
            ∙ ap (λ (w : Sight). elim w as (λ _. Move) [ Acts ↦ take_record o.who a r (woken_by r n (record d { arcs = with_link d.arcs n with_one_taken })) | Nothing_happens ↦ move [] (woken_by r n (record d { arcs = with_link d.arcs n with_one_taken })) | Out_of_phase ↦ move [] (woken_by r n (record d { arcs = with_link d.arcs n with_one_taken })) ]) seen

        Holds : Move → Type 0
        Holds z = (is_ruled n z.next.arcs ≡ true → control_at n z.next.arcs ≡ cause_at o up n (record { event = e; rec = z.rec; outs = z.outs } ∷ h)) × IsPast up n z.next × IsBareAt up n z.next

        made : Holds (action o.who d e) → IsControlBy o up h e n
        made w = record { is = w.0; past = w.1; bare = w.2 }

        top : is_at up n ≡ true
        top = let s = superior_is d up n (traced_law o up h g.grown).under (begin_seen o.who d from x y q t b k a g.ok found).1 in rw s.1 (self s.0.node n s.2)
          where
            self : (i j : ℕ) → i ≡ j → (i == j) ≡ true
            self i j w = grind (arith, nat_tests, w)

        branch : Bool
        branch = is_branch_at v.current n

        old : Bool × Bool
        old = control_at n v.arcs

        live_v : (z : ℕ) → is_live_with_peer v.arcs z ≡ true → is_live_with_peer d.arcs z ≡ true
        live_v z live = live_woken z n d (sym (ap is_live (link_dialogue u.arcs n (begun_by k Side.Subordinate) z)) ∙ live)

        well : IsWell up v
        well = (
          (thins_dialogue u.arcs n (begun_by k Side.Subordinate)).apart ((thins_dialogue (with_link d.arcs n with_one_taken) n woken).apart ((thins_taken d.arcs n).apart (separate_law o up h g.grown))),
          late_fresh (Under t b a.peer),
          placed_arcs up d v.arcs (λ z. dead_back d.arcs v.arcs z (live_v z)) (placed_law o up h g.grown),
        )

        fresh_is : (c : Current) → v.current ≡ Some c → fresh_current (Under t b a.peer) ≡ c
        fresh_is c i = cc (i)

        start : Stands up n branch false old v no_signs v
        start =
            stands_with up n branch false old v (λ f. absurd (cc (f))) (λ i. refl)
            (λ top c is under late ruled. absurd (let off : is_late c.phase ≡ false = ap (λ (z : Current). is_late z.phase) (sym (fresh_is c is)) in cc (late, off)))
            (λ top c is live. ap (λ (z : Current). has_branch_at z.branches n) (sym (fresh_is c is)))

        steps : Steps o.who Event.Retry v (Controls up n branch false old v)
        steps = still_steps up n branch false old o.who v refl (λ f. absurd (cc (f)))

        moved : Controls up n branch false old v v m
        moved = steps.chain v first (begin_chained o.who) (steps.speaks v outs refl (λ u h. absurd (cc (h)), λ z r h. absurd h) refl refl) (step_chained o.who Event.Retry v (Controls up n branch false old v) steps first.next) (inl refl)

        st : Stands up n branch false old v (signs n m) m.next
        st = moved.3 no_signs well start

        bare_signs : Begins (signs n m)
        bare_signs =
            subst Begins (sym (signs_then n first (begin_chained o.who) (inl refl)))
            (begins_then (signs n first) (signs n (begin_chained o.who first.next)) (refl, refl, refl, refl) (each_signs n o.who (chained_peers o.who first.next) first.next))

        unbegun : holder_in (said_to n m.outs) ≡ None
        unbegun = one (holder_in (said_to n m.outs)) refl
          where
            one : (z : Option Holder) → holder_in (said_to n m.outs) ≡ z → holder_in (said_to n m.outs) ≡ None
            one None i = i
            one (Some j) i = absurd (let off : is_at up n ≡ false = (st.begun j i).1 in cc (top, off))

        entry : Entry
        entry = record { event = e; rec = m.rec; outs = m.outs }

        acting : acting_from o n e h ≡ Some r
        acting = ap (λ (z : ℕ). acting_from o z e h) at ∙ acting_took o h from x y q r a Acts found seen

        cause : cause_by o n entry h ≡ Some (Begun_by k)
        cause =
            cause_is o n entry h ∙ ap (λ (w : Option DialogueRecord). cause_from w (said_to n m.outs) (completes entry) (was_branch o n h) (is_up o n h) (enters o entry h)) acting
            ∙ begin_cause t b k (said_to n m.outs) (completes entry) (was_branch o n h) (is_up o n h) (enters o entry h) unbegun

        gets : is_ruled n v.arcs ≡ true → old ≡ (is_holder k Side.Subordinate, false)
        gets ruled = (dialogue_gets u.arcs (begun_by k Side.Subordinate) n (is_holder k Side.Subordinate, false) (λ c i. begins_below k c.dialogue) ruled).1

        state : is_ruled n m.next.arcs ≡ true → control_at n m.next.arcs ≡ cause_at o up n (entry ∷ h)
        state ruled =
            let s = st.state ruled in
            s.1 ∙ effect_none (is_at up n) branch old (is_rolling (phase_of m.next)) (signs n m) unbegun bare_signs ∙ gets s.0 ∙ ap (λ (w : Bool). by_cause (side_of_end w) (Begun_by k) false) (sym top)
            ∙ sym (ap (λ (z : Cause × Bool). by_cause (side_of_end (is_at up n)) z.0 z.1) (last_some o n entry h (Begun_by k) cause))

    go : (z : Option Arc) → find_arc d.arcs from.node ≡ z → IsControlBy o up h e from.node
    go None i = absurd (on_none o.who d from x y q r plain i)
    go (Some a) i = subst (λ (z : ℕ). IsControlBy o up h e z) (find_arc_is d.arcs from.node a i) (on a i)
