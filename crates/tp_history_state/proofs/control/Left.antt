-- After the leaving of a branch, control is as its last cause says.
use Rattle.tp_history_state.proofs.Vocabulary.{Bool, List, None, Option, Some, [], ap, arith, false, if◌then◌else◌, not, refl, subst, sym, true, ℕ, ◌&&◌, ◌||◌, ◌∙◌, ◌∷◌, ◌≡◌, or-true, Addr, Mark, DialogueRecord, PeerRecord, cause_by, has_said, said_to, is_left_record, is_record, acting_from, is_at, Who, Origin, Event, Entry, Digest, Arc, Current, Branch, Sight, Acts, Nothing_happens, Out_of_phase, acts_or_out, cleared, is_rolling, is_active, woken, action, sight_in_tx, from_subordinate, sight_at, sight_of, take_on, take_record, woken_by, refused_arrival, is_superior, Move, move, transact, seen, seen_rows, sight_of_tx, row_holds, is_under_at, Row, Transaction, find_arc, is_live_with_peer, with_dialogue, with_link, with_one_taken, is_live, TxEvent, has_branch_at, rolls, digest, entry_of, falls, is_left_word, loses, IsLate, the, find_arc_is, on_none, late_law, link_dialogue, placed_arcs, placed_law, plain_arrival, seen_branch, separate_law, thins_dialogue, thins_taken}
use Rattle.tp_history_state.proofs.control.Heard.{acting_took, counted_woken, live_woken}
use Rattle.tp_history_state.proofs.control.Causes.{cause_of, cause_shown, is_moot}
use Rattle.tp_history_state.proofs.control.Moves.{IsWell, Stands, Controls, is_branch_at}
use Rattle.tp_history_state.proofs.control.Signs.{Signs, no_signs, signs}
use Rattle.tp_history_state.proofs.control.Steps.{IsGiven, controls_transact}
use Rattle.tp_history_state.proofs.control.Events.{stands_with}
use Rattle.tp_history_state.proofs.control.Quiet.{conclude, Grows, IsControl, IsControlBy, up_is, branch_seen, cause_at}
use Rattle.tp_history_state.proofs.control.Turned.{cleared_gets}
use Rattle.tp_history_state.proofs.control.Arcs.{control_at, dialogue_gets, is_ruled, ruled_live}
use Rattle.tp_history_state.proofs.control.Begun.{dead_back}

left_acts : (who : Who) (d : Digest) (from : Addr) (x y : Mark) (q : ℕ) (a : Arc) → refused_arrival who d from (PeerRecord.OnAssoc x y q DialogueRecord.Left) ≡ None → find_arc d.arcs from.node ≡ Some a → (v : Sight) → sight_at who d a DialogueRecord.Left ≡ v → v ≡ Acts
unfolding refused_arrival sight_of sight_of_tx
left_acts who d from x y q a ok i Acts j = refl
left_acts who d from x y q a ok i Nothing_happens j = absurd (grind (arith, j))
left_acts who d from x y q a ok i Out_of_phase j = absurd (grind (arith, ok, i, j))

ended_acts : (who : Who) (d : Digest) (from : Addr) (x y : Mark) (q : ℕ) (a : Arc) → refused_arrival who d from (PeerRecord.OnAssoc x y q DialogueRecord.LeftEnd) ≡ None → find_arc d.arcs from.node ≡ Some a → (v : Sight) → sight_at who d a DialogueRecord.LeftEnd ≡ v → v ≡ Acts
unfolding refused_arrival sight_of sight_of_tx
ended_acts who d from x y q a ok i Acts j = refl
ended_acts who d from x y q a ok i Nothing_happens j = absurd (grind (arith, j))
ended_acts who d from x y q a ok i Out_of_phase j = absurd (grind (arith, ok, i, j))

row_there : (rows : List Row) (p : ℕ) (f : Branch → Bool) → row_holds rows p f ≡ true → row_holds rows p (λ b. true) ≡ true
row_there rows p f h = grind arith

acted_so : (b : Bool) → acts_or_out b ≡ Acts → b ≡ true
acted_so true h = refl
acted_so false h = absurd (cc (h))

below_it : (b : Bool) (s : Sight) → (if b then Out_of_phase else s) ≡ Acts → s ≡ Acts
below_it true s h = absurd (cc (h))
below_it false s h = h

awake_left : (b : Bool) (s : Sight) → (if b && false then Nothing_happens else s) ≡ Acts → s ≡ Acts
awake_left true s h = h
awake_left false s h = h

-- a leaving that acts is that of a branch
left_branch : (who : Who) (d : Digest) (a : Arc) (r : DialogueRecord) → is_left_word r ≡ true → sight_at who d a r ≡ Acts → is_branch_at d.current a.peer.node ≡ true
unfolding sight_of sight_of_tx
left_branch who d a r word h = go d.current refl
  where
    there : (c : Current) (f : Branch → Bool) → row_holds (seen_rows d.arcs c.branches) a.peer.node f ≡ true → is_branch_at (Some c) a.peer.node ≡ true
    there c f i = let on : has_branch_at c.branches a.peer.node ≡ true = sym (seen_branch d.arcs c.branches a.peer.node) ∙ row_there (seen_rows d.arcs c.branches) a.peer.node f i in rw on (or-true (is_under_at c.key a.peer.node))

    on : (c : Current) → d.current ≡ Some c → (q : DialogueRecord) → r ≡ q → is_branch_at (Some c) a.peer.node ≡ true
    on c i DialogueRecord.Left j =
        let one : sight_at who d a DialogueRecord.Left ≡ Acts = ap (sight_at who d a) (sym j) ∙ h in
        let two : sight_in_tx who d a DialogueRecord.Left Out_of_phase ≡ Acts = below_it (is_superior d a.peer.node) (sight_in_tx who d a DialogueRecord.Left Out_of_phase) (awake_left a.dialogue.rests (from_subordinate d a (sight_in_tx who d a DialogueRecord.Left Out_of_phase)) one) in
        let three : acts_or_out (row_holds (seen_rows d.arcs c.branches) a.peer.node (λ b. is_active c.phase && b.prepared && not b.counted && not b.left || is_rolling c.phase && not b.ended && not b.left)) ≡ Acts = rw i at two in
        there c (λ b. is_active c.phase && b.prepared && not b.counted && not b.left || is_rolling c.phase && not b.ended && not b.left) (acted_so _ three)
    on c i DialogueRecord.LeftEnd j =
        let one : sight_at who d a DialogueRecord.LeftEnd ≡ Acts = ap (sight_at who d a) (sym j) ∙ h in
        let two : sight_in_tx who d a DialogueRecord.LeftEnd Out_of_phase ≡ Acts = below_it (is_superior d a.peer.node) (sight_in_tx who d a DialogueRecord.LeftEnd Out_of_phase) (awake_left a.dialogue.rests (from_subordinate d a (sight_in_tx who d a DialogueRecord.LeftEnd Out_of_phase)) one) in
        let three : acts_or_out (row_holds (seen_rows d.arcs c.branches) a.peer.node (λ b. is_active c.phase && b.prepared && not b.counted && not b.left || is_rolling c.phase && not b.ended && not b.left)) ≡ Acts = rw i at two in
        there c (λ b. is_active c.phase && b.prepared && not b.counted && not b.left || is_rolling c.phase && not b.ended && not b.left) (acted_so _ three)
    on c i q j = absurd (let no : is_left_word q ≡ true = ap is_left_word (sym j) ∙ word in cc (no))

    none : d.current ≡ None → (q : DialogueRecord) → r ≡ q → ⊥
    none i DialogueRecord.Left j =
        let one : sight_at who d a DialogueRecord.Left ≡ Acts = ap (sight_at who d a) (sym j) ∙ h in
        let two : sight_in_tx who d a DialogueRecord.Left Out_of_phase ≡ Acts = below_it (is_superior d a.peer.node) (sight_in_tx who d a DialogueRecord.Left Out_of_phase) (awake_left a.dialogue.rests (from_subordinate d a (sight_in_tx who d a DialogueRecord.Left Out_of_phase)) one) in
        let three : Out_of_phase ≡ Acts = rw i at two in
        cc (three)
    none i DialogueRecord.LeftEnd j =
        let one : sight_at who d a DialogueRecord.LeftEnd ≡ Acts = ap (sight_at who d a) (sym j) ∙ h in
        let two : sight_in_tx who d a DialogueRecord.LeftEnd Out_of_phase ≡ Acts = below_it (is_superior d a.peer.node) (sight_in_tx who d a DialogueRecord.LeftEnd Out_of_phase) (awake_left a.dialogue.rests (from_subordinate d a (sight_in_tx who d a DialogueRecord.LeftEnd Out_of_phase)) one) in
        let three : Out_of_phase ≡ Acts = rw i at two in
        cc (three)
    none i q j = let no : is_left_word q ≡ true = ap is_left_word (sym j) ∙ word in cc (no)

    go : (v : Option Current) → d.current ≡ v → is_branch_at v a.peer.node ≡ true
    go None i = absurd (none i r refl)
    go (Some c) i = on c i r refl

-- where a leaving is heard there is a cause
always_some : (above branch fall : Bool) (x : Signs) → cause_of above branch fall true x ≡ None → ⊥
always_some above branch fall x h = grind arith

left_falls : (p : ℕ) (r : DialogueRecord) (t : Transaction) → is_left_word r ≡ true → falls (TxEvent.Took p r) t ≡ false
left_falls p DialogueRecord.Left t h = refl
left_falls p DialogueRecord.LeftEnd t h = refl
left_falls p r t h = absurd (cc (h))

left_loses : (p : ℕ) (r : DialogueRecord) (q : ℕ) → is_left_word r ≡ true → loses (TxEvent.Took p r) q ≡ true → ⊥
left_loses p DialogueRecord.Left q h i = cc (i)
left_loses p DialogueRecord.LeftEnd q h i = cc (i)
left_loses p r q h i = cc (h)

left_record : (r : DialogueRecord) → is_left_word r ≡ true → (is_left_record r ≡ true) × (is_moot r ≡ true)
left_record DialogueRecord.Left h = (refl, refl)
left_record DialogueRecord.LeftEnd h = (refl, refl)
left_record r h = absurd (cc (h))

left_rolls : (who : Who) (d : Digest) (from : Addr) (x y : Mark) (q : ℕ) (r : DialogueRecord) → is_left_word r ≡ true → rolls who d (the from x y q r) ≡ false
left_rolls who d from x y q DialogueRecord.Left h = refl
left_rolls who d from x y q DialogueRecord.LeftEnd h = refl
left_rolls who d from x y q r h = absurd (cc (h))

pub left_control : (o : Origin) (up : Option Addr) (h : List Entry) (from : Addr) (x y : Mark) (q : ℕ) (r : DialogueRecord) → is_left_word r ≡ true → Grows o up h (the from x y q r) → IsControl o up h from.node → IsControlBy o up h (the from x y q r) from.node
left_control o up h from x y q r word g was = go (find_arc d.arcs from.node) refl
  where
    d : Digest
    d = digest o h

    e : Event
    e = the from x y q r

    plain : refused_arrival o.who d from (PeerRecord.OnAssoc x y q r) ≡ None
    plain = plain_arrival o.who d from (PeerRecord.OnAssoc x y q r) g.ok

    acts_so : (a : Arc) → find_arc d.arcs from.node ≡ Some a → (w : DialogueRecord) → r ≡ w → sight_at o.who d a w ≡ Acts
    acts_so a i DialogueRecord.Left j = left_acts o.who d from x y q a (ap (λ (z : DialogueRecord). refused_arrival o.who d from (PeerRecord.OnAssoc x y q z)) (sym j) ∙ plain) i (sight_at o.who d a DialogueRecord.Left) refl
    acts_so a i DialogueRecord.LeftEnd j = ended_acts o.who d from x y q a (ap (λ (z : DialogueRecord). refused_arrival o.who d from (PeerRecord.OnAssoc x y q z)) (sym j) ∙ plain) i (sight_at o.who d a DialogueRecord.LeftEnd) refl
    acts_so a i w j = absurd (let no : is_left_word w ≡ true = ap is_left_word (sym j) ∙ word in cc (no))

    on : (a : Arc) → find_arc d.arcs from.node ≡ Some a → IsControl o up h a.peer.node → IsControlBy o up h e a.peer.node
    on a found was = record { is = is; past = st.past; bare = st.bare }
      where
        n : ℕ
        n = a.peer.node

        at : n ≡ from.node
        at = find_arc_is d.arcs from.node a found

        seen_so : sight_at o.who d a r ≡ Acts
        seen_so = acts_so a found r refl

        u : Digest
        u = counted_woken n d

        v : Digest
        v = record u { arcs = with_dialogue u.arcs n cleared }

        f : TxEvent
        f = TxEvent.Took n r

        m : Move
        m = transact o.who f v

        taken : (w : DialogueRecord) → r ≡ w → take_record o.who a w (woken_by w n (record d { arcs = with_link d.arcs n with_one_taken })) ≡ transact o.who (TxEvent.Took n w) v
        taken DialogueRecord.Left j = refl
        taken DialogueRecord.LeftEnd j = refl
        taken w j = absurd (let no : is_left_word w ≡ true = ap is_left_word (sym j) ∙ word in cc (no))

        action_is : action o.who d e ≡ m
        action_is =
            ap (λ (z : Option Arc). elim z as (λ _. Move) [ None ↦ move [] d | Some c ↦ take_on o.who c r d ]) found
            ∙ ap (λ (w : Sight). elim w as (λ _. Move) [ Acts ↦ take_record o.who a r (woken_by r n (record d { arcs = with_link d.arcs n with_one_taken })) | Nothing_happens ↦ move [] (woken_by r n (record d { arcs = with_link d.arcs n with_one_taken })) | Out_of_phase ↦ move [] (woken_by r n (record d { arcs = with_link d.arcs n with_one_taken })) ]) seen_so
            ∙ taken r refl

        there : is_branch_at d.current n ≡ true
        there = left_branch o.who d a r word seen_so

        live_v : (z : ℕ) → is_live_with_peer v.arcs z ≡ true → is_live_with_peer d.arcs z ≡ true
        live_v z live = live_woken z n d (sym (ap is_live (link_dialogue u.arcs n cleared z)) ∙ live)

        late : IsLate d
        late = late_law o up h g.grown

        well : IsWell up v
        well = (
          (thins_dialogue u.arcs n cleared).apart ((thins_dialogue (with_link d.arcs n with_one_taken) n woken).apart ((thins_taken d.arcs n).apart (separate_law o up h g.grown))),
          late,
          placed_arcs up d v.arcs (λ z. dead_back d.arcs v.arcs z (live_v z)) (placed_law o up h g.grown),
        )

        none_left : is_ruled n v.arcs ≡ true → control_at n v.arcs ≡ (false, false)
        none_left ruled = (dialogue_gets u.arcs cleared n (false, false) (λ c i. cleared_gets c.dialogue) ruled).1

        start : Stands up n true false (false, false) v no_signs v
        start = stands_with up n true false (false, false) v (λ i. absurd (cc (i))) none_left (λ top c now under past ruled. none_left ruled) (λ top c now live. was.bare top c now (live_v n live))

        current : (c : Current) × (d.current ≡ Some c)
        current = one d.current refl
          where
            one : (z : Option Current) → d.current ≡ z → (c : Current) × (d.current ≡ Some c)
            one None i = absurd (let off : is_branch_at d.current n ≡ false = ap (λ (w : Option Current). is_branch_at w n) i in cc (there, off))
            one (Some c) i = (c, i)

        given : IsGiven o.who e v n true false
        given = record {
          is_branch = λ c i. ap (λ (w : Option Current). is_branch_at w n) (sym i) ∙ there;
          early = λ i. absurd (cc (i));
          falls_so = λ c k arcs i asked fell. absurd (let no : falls k (seen o.who arcs c) ≡ false = ap (λ (w : TxEvent). falls w (seen o.who arcs c)) asked ∙ left_falls from.node r (seen o.who arcs c) word in cc (no, fell));
          stays = refl;
        }

        moved : Controls up n true false (false, false) v v m
        moved =
            controls_transact up n true false (false, false) o.who e v current.0 f given current.1 (ap (λ (z : ℕ). TxEvent.Took z r) at)
            (record { late = late current.0 current.1; ok = λ i. absurd (cc (i)); abort = λ z i. absurd (cc (i)); ordered = λ i. absurd (cc (i)); not_begun = λ arcs i. absurd (cc (i)) })
            (λ z i. absurd (left_loses n r z word i))

        st : Stands up n true false (false, false) v (signs n (action o.who d e)) (action o.who d e).next
        st = subst (λ (z : Move). Stands up n true false (false, false) v (signs n z) z.next) (sym action_is) (moved.3 no_signs well start)

        acting : acting_from o n e h ≡ Some r
        acting = ap (λ (z : ℕ). acting_from o z e h) at ∙ acting_took o h from x y q r a Acts found seen_so

        leaves : (has_said is_left_record (said_to n (action o.who d e).outs) || (true && is_record is_left_record (acting_from o n e h))) ≡ true
        leaves = rw (st.unsaid.0, acting) (left_record r word).0

        is : is_ruled n (action o.who d e).next.arcs ≡ true → control_at n (action o.who d e).next.arcs ≡ cause_at o up n (entry_of o h e ∷ h)
        is ruled = conclude o up h e n true false true (false, false) v (signs n (action o.who d e)) st cause (λ i. absurd (cc (i))) (λ i. refl) (λ i none. absurd (always_some (is_at up n) true false (signs n (action o.who d e)) (sym cause ∙ none))) ruled
          where
            cause : cause_by o n (entry_of o h e) h ≡ cause_of (is_at up n) true false true (signs n (action o.who d e))
            cause =
                cause_shown o n (entry_of o h e) h (is_at up n) true false true (signs n (action o.who d e)) (λ w i. let same : r ≡ w = cc (sym acting ∙ i) in ap is_moot (sym same) ∙ (left_record r word).1) refl refl refl refl refl
                (up_is o up h e n g (ruled_live n (action o.who d e).next.arcs ruled)) (branch_seen o.who d n ∙ there) (left_rolls o.who d from x y q r word) leaves

    go : (z : Option Arc) → find_arc d.arcs from.node ≡ z → IsControlBy o up h e from.node
    go None i = absurd (on_none o.who d from x y q r plain i)
    go (Some a) i = let at : a.peer.node ≡ from.node = find_arc_is d.arcs from.node a i in subst (λ (z : ℕ). IsControlBy o up h e z) at (on a i (subst (λ (z : ℕ). IsControl o up h z) (sym at) was))
