-- After a Grant, a handshake or both from a peer, control is as its last cause says.
use Rattle.tp_history_state.proofs.Vocabulary.{Bool, List, None, Option, Some, [], ap, arith, false, if◌then◌else◌, inl, inr, not, refl, subst, sym, true, ℕ, ◌&&◌, ◌==◌, ◌||◌, ◌∙◌, ◌∷◌, ◌≡◌, ◌⊎◌, and-false, nat_tests, Addr, Mark, DialogueRecord, Indication, PeerRecord, Cause, Granted_here, Handshake_granted_here, cause_by, has_said, said_to, is_left_record, is_record, acting_from, was_branch, is_up, is_at, completes, enters, Who, Origin, Event, Entry, Digest, Arc, Dialogue, Current, Branch, Sight, Acts, Nothing_happens, Out_of_phase, acts_or_out, Heard, Hear_grant, Hear_handshake, Hear_handshake_grant, heard, woken, is_polarized, gives_control, is_silenced, is_late, arrived, action, sight_at, sight_of, take_on, take_record, woken_by, Move, move, perform, situation_at, acts, is_under_at, find_arc, is_live_with_peer, with_dialogue, with_link, with_one_taken, is_live, TxOut, digest, entry_of, has_branch_at, rolls, is_unchanged, IsLate, find_branch, the, find_arc_is, on_none, is_rolled_told, keeps_taken, late_law, link_dialogue, plain_arrival, is_response}
use Rattle.tp_control.proofs.HoldingEvents.{silenced}
use Rattle.tp_history_state.proofs.control.Causes.{by_cause, side_of_end, cause_of, cause_from, cause_is, cause_shown, last_some, last_on, is_moot, IsMoot}
use Rattle.tp_history_state.proofs.control.Arcs.{is_ruled, control_at, control_of, control_from, ruled_live, same_dialogue, same_taken, same_then, dialogue_gets, Same}
use Rattle.tp_history_state.proofs.control.Quiet.{Grows, IsControl, IsControlBy, cause_at, woken_alike}
use Rattle.tp_history_state.proofs.control.Moves.{IsBareAt}
use Rattle.tp_history_state.proofs.orders.OverTold.{is_over_told}
use Rattle.tp_history_state.proofs.control.Signs.{no_signs, signs}

-- the record acts or not, by the sight of it
pub acting_took : (o : Origin) (h : List Entry) (from : Addr) (x y : Mark) (n : ℕ) (r : DialogueRecord) (a : Arc) (v : Sight) → find_arc (digest o h).arcs from.node ≡ Some a → sight_at o.who (digest o h) a r ≡ v
    → acting_from o from.node (the from x y n r) h ≡ (if acts v then Some r else None)
acting_took o h from x y n r a v found seen = grind (arith, nat_tests)

-- what is known where the record is counted and the arc woken
abbrev pub counted_woken : ℕ → Digest → Digest
counted_woken n d = record d { arcs = with_dialogue (with_link d.arcs n with_one_taken) n woken }

pub same_woken : (p n : ℕ) (d : Digest) → Same p d.arcs (counted_woken n d).arcs
same_woken p n d = same_then p d.arcs (with_link d.arcs n with_one_taken) (counted_woken n d).arcs (same_taken p d.arcs n) (same_dialogue p (with_link d.arcs n with_one_taken) n woken (λ at x. woken_alike x))

pub live_woken : (p n : ℕ) (d : Digest) → is_live_with_peer (counted_woken n d).arcs p ≡ true → is_live_with_peer d.arcs p ≡ true
live_woken p n d live = (keeps_taken is_polarized p d.arcs n (sym (ap is_live (link_dialogue (with_link d.arcs n with_one_taken) n woken p)) ∙ live)).0

-- what a record leaves, that is heard or not
record Took (o : Origin) (h : List Entry) (p : ℕ) (v : Bool × Bool) (m : Move) : Type 0 where
  said : said_to p m.outs ≡ []
  signs : signs p m ≡ no_signs
  current : m.next.current ≡ (digest o h).current
  control : is_ruled p m.next.arcs ≡ true → (is_ruled p (digest o h).arcs ≡ true) × (control_at p m.next.arcs ≡ v)
  back : is_live_with_peer m.next.arcs p ≡ true → is_live_with_peer (digest o h).arcs p ≡ true

took_nothing : (o : Origin) (h : List Entry) (p n : ℕ) → Took o h p (control_at p (digest o h).arcs) (move [] (counted_woken n (digest o h)))
took_nothing o h p n = record { said = refl; signs = refl; current = refl; control = same_woken p n (digest o h); back = live_woken p n (digest o h) }

took_hear : (o : Origin) (h : List Entry) (p : ℕ) (k : Heard) (i : Indication) (f : Bool × Bool → Bool × Bool) → is_over_told i ≡ false → is_rolled_told i ≡ false → ((x : Dialogue) → (is_polarized (heard k x) ≡ is_polarized x) × (control_from (heard k x) ≡ f (control_from x)))
    → Took o h p (f (control_at p (digest o h).arcs)) (perform (TxOut.Tell i ∷ []) (record (counted_woken p (digest o h)) { arcs = with_dialogue (counted_woken p (digest o h)).arcs p (heard k) }))
took_hear o h p k i f none unrolled gets = record {
  said = refl;
  signs = rw (none, unrolled) refl;
  current = refl;
  control = λ ruled.
      let one = dialogue_gets u.arcs (heard k) p (f (control_at p u.arcs)) (λ a found. ((gets a.dialogue).0, λ pol. (gets a.dialogue).1 ∙ ap (λ (v : Option Arc). f (control_of v)) (sym found))) ruled in
      let two = same_woken p p (digest o h) one.0 in
      (two.0, one.1 ∙ ap f two.1);
  back = λ live. live_woken p p (digest o h) (sym (ap is_live (link_dialogue u.arcs p (heard k) p)) ∙ live);
}
  where
    u : Digest
    u = counted_woken p (digest o h)

hears_grant : (x : Dialogue) → (is_polarized (heard Hear_grant x) ≡ is_polarized x) × (control_from (heard Hear_grant x) ≡ (true, false))
unfolding heard
hears_grant x = grind arith

hears_handshake : (x : Dialogue) → (is_polarized (heard Hear_handshake x) ≡ is_polarized x) × (control_from (heard Hear_handshake x) ≡ (x.holds, false))
unfolding heard
hears_handshake x = (refl, refl)

hears_handing : (x : Dialogue) → (is_polarized (heard Hear_handshake_grant x) ≡ is_polarized x) × (control_from (heard Hear_handshake_grant x) ≡ (x.holds, true))
unfolding heard
hears_handing x = (refl, refl)

-- ---- what is heard where

pub awake : (who : Who) (d : Digest) (a : Arc) (r : DialogueRecord) → sight_at who d a r ≡ Acts → sight_of who d a r ≡ Acts
awake who d a r h = grind arith

pub acted : (b c : Bool) → (if b then Nothing_happens else acts_or_out (not c)) ≡ Acts → (b ≡ false) × (c ≡ false)
acted true c h = absurd (cc (h))
acted false true h = absurd (cc (h))
acted false false h = (refl, refl)

heard_grant : (who : Who) (d : Digest) (a : Arc) → sight_at who d a DialogueRecord.Grant ≡ Acts → is_silenced (situation_at who d a.peer.node) ≡ false
unfolding sight_of arrived
heard_grant who d a h = (acted _ _ (awake who d a DialogueRecord.Grant h)).0

heard_handing : (who : Who) (d : Digest) (a : Arc) → sight_at who d a DialogueRecord.HandshakeGrant ≡ Acts → (is_silenced (situation_at who d a.peer.node) ≡ false) × (a.dialogue.holds ≡ false)
unfolding sight_of arrived
heard_handing who d a h = let k = acted _ _ (awake who d a DialogueRecord.HandshakeGrant h) in (k.0, grind (arith, k))

heard_handshake : (who : Who) (d : Digest) (a : Arc) → sight_at who d a DialogueRecord.Handshake ≡ Acts → gives_control a.dialogue.due ≡ false
unfolding sight_of arrived
heard_handshake who d a h = grind (arith, acted, awake)

-- past work nothing of the superior's is heard
bare_found : (bs : List Branch) (p : ℕ) → has_branch_at bs p ≡ false → find_branch bs p ≡ None
bare_found [] p h = refl
bare_found (b ∷ bs) p h = go (b.peer.node == p) h (bare_found bs p)
  where
    go : (v : Bool) → (v || has_branch_at bs p) ≡ false → (has_branch_at bs p ≡ false → find_branch bs p ≡ None) → (if v then Some b else find_branch bs p) ≡ None
    go true h rest = absurd (cc (h))
    go false h rest = rest h

unheard : (who : Who) (up : Option Addr) (d : Digest) (p : ℕ) (c : Current) → IsLate d → IsBareAt up p d → is_at up p ≡ true → is_live_with_peer d.arcs p ≡ true → d.current ≡ Some c → is_under_at c.key p ≡ true → is_late c.phase ≡ true → is_silenced (situation_at who d p) ≡ false → ⊥
unheard who up d p c late bare top live now under past open_arc = grind (arith, bare_found, silenced)

-- ---- a record, where it is taken

-- from what it leaves to its last cause
took_control : (o : Origin) (up : Option Addr) (h : List Entry) (e : Event) (p : ℕ) (v : Bool × Bool) → IsControl o up h p → Took o h p v (action o.who (digest o h) e)
    → (is_ruled p (digest o h).arcs ≡ true → v ≡ cause_at o up p (entry_of o h e ∷ h))
    → ((c : Current) → is_at up p ≡ true → is_ruled p (digest o h).arcs ≡ true → (digest o h).current ≡ Some c → is_under_at c.key p ≡ true → is_late c.phase ≡ true → v ≡ (false, false)) → IsControlBy o up h e p
took_control o up h e p v was t tells past = record {
  is = λ ruled. let k = t.control ruled in k.1 ∙ tells k.0;
  past = λ top c is under late ruled. let k = t.control ruled in k.1 ∙ past c top k.0 (sym t.current ∙ is) under late;
  bare = λ top c is live. was.bare top c (sym t.current ∙ is) (t.back live);
}

-- no cause
untold : (o : Origin) (up : Option Addr) (h : List Entry) (e : Event) (p : ℕ) (v : Bool × Bool) → IsControl o up h p → Took o h p v (action o.who (digest o h) e) → IsMoot (acting_from o p e h) → is_unchanged e ≡ false → rolls o.who (digest o h) e ≡ false → is_record is_left_record (acting_from o p e h) ≡ false
    → v ≡ control_at p (digest o h).arcs → IsControlBy o up h e p
untold o up h e p v was t moot stays still unleft same =
    took_control o up h e p v was t
    (λ ruled. same ∙ was.is ruled ∙ sym (ap (λ (z : Cause × Bool). by_cause (side_of_end (is_at up p)) z.0 z.1) (last_on o p (entry_of o h e) h false cause (ruled_live p (digest o h).arcs ruled) (ap (has_said is_response) t.said))))
    (λ c top ruled is under late. same ∙ was.past top c is under late ruled)
  where
    m : Move
    m = action o.who (digest o h) e

    none : (has_said is_left_record (said_to p m.outs) || (was_branch o p h && is_record is_left_record (acting_from o p e h))) ≡ false
    none = rw (t.said, unleft) (and-false (was_branch o p h))

    cause : cause_by o p (entry_of o h e) h ≡ None
    cause =
        cause_shown o p (entry_of o h e) h (is_up o p h) (was_branch o p h) false false (signs p m) moot stays refl refl refl refl refl refl still none
        ∙ ap (cause_of (is_up o p h) (was_branch o p h) false false) t.signs

pub heard_control : (o : Origin) (up : Option Addr) (h : List Entry) (from : Addr) (x y : Mark) (n : ℕ) (r : DialogueRecord) → (r ≡ DialogueRecord.Grant) ⊎ (r ≡ DialogueRecord.Handshake) ⊎ (r ≡ DialogueRecord.HandshakeGrant) → Grows o up h (the from x y n r) → IsControl o up h from.node
    → IsControlBy o up h (the from x y n r) from.node
heard_control o up h from x y n r kind g was = go (find_arc d.arcs from.node) refl
  where
    d : Digest
    d = digest o h

    p : ℕ
    p = from.node

    e : Event
    e = the from x y n r

    late : IsLate d
    late = late_law o up h g.grown

    live_here : is_ruled p d.arcs ≡ true → is_live_with_peer d.arcs p ≡ true
    live_here = ruled_live p d.arcs

    on : (a : Arc) → find_arc d.arcs p ≡ Some a → (v : Sight) → sight_at o.who d a r ≡ v → (q : DialogueRecord) → r ≡ q → (q ≡ DialogueRecord.Grant) ⊎ (q ≡ DialogueRecord.Handshake) ⊎ (q ≡ DialogueRecord.HandshakeGrant) → IsControlBy o up h (the from x y n q) p
    on a found v seen q same k = by v (ap (sight_at o.who d a) (sym same) ∙ seen) q k refl
      where
        at : a.peer.node ≡ p
        at = find_arc_is d.arcs p a found

        taken : (q : DialogueRecord) (v : Sight) → sight_at o.who d a q ≡ v → action o.who d (the from x y n q) ≡ elim v as (λ _. Move) [ Acts ↦ take_record o.who a q (woken_by q p (record d { arcs = with_link d.arcs p with_one_taken })) | Nothing_happens ↦ move [] (woken_by q p (record d { arcs = with_link d.arcs p with_one_taken })) | Out_of_phase ↦ move [] (woken_by q p (record d { arcs = with_link d.arcs p with_one_taken })) ]
        taken q v s =
            ap (λ (z : Option Arc). elim z as (λ _. Move) [ None ↦ move [] d | Some b ↦ take_on o.who b q d ]) found
            ∙ ap (λ (w : Sight). elim w as (λ _. Move) [ Acts ↦ take_record o.who a q (woken_by q a.peer.node (record d { arcs = with_link d.arcs a.peer.node with_one_taken })) | Nothing_happens ↦ move [] (woken_by q a.peer.node (record d { arcs = with_link d.arcs a.peer.node with_one_taken })) | Out_of_phase ↦ move [] (woken_by q a.peer.node (record d { arcs = with_link d.arcs a.peer.node with_one_taken })) ]) s
            ∙ ap (λ (m : ℕ). elim v as (λ _. Move) [ Acts ↦ take_record o.who a q (woken_by q m (record d { arcs = with_link d.arcs m with_one_taken })) | Nothing_happens ↦ move [] (woken_by q m (record d { arcs = with_link d.arcs m with_one_taken })) | Out_of_phase ↦ move [] (woken_by q m (record d { arcs = with_link d.arcs m with_one_taken })) ]) at

        idle : (q : DialogueRecord) (v : Sight) → acts v ≡ false → sight_at o.who d a q ≡ v → action o.who d (the from x y n q) ≡ move [] (counted_woken p d) → rolls o.who d (the from x y n q) ≡ false → IsControlBy o up h (the from x y n q) p
        idle q v off s is still =
            let none : acting_from o p (the from x y n q) h ≡ None = acting_took o h from x y n q a v found s ∙ rw off refl in
            untold o up h (the from x y n q) p (control_at p d.arcs) was (subst (λ (m : Move). Took o h p (control_at p d.arcs) m) (sym is) (took_nothing o h p p))
            (λ z i. absurd (let no : None ≡ Some z = sym none ∙ i in cc (no))) refl still (ap (is_record is_left_record) none) refl

        acting : (q : DialogueRecord) → sight_at o.who d a q ≡ Acts → acting_from o p (the from x y n q) h ≡ Some q
        acting q s = acting_took o h from x y n q a Acts found s

        heard_here : (q : DialogueRecord) (k : Heard) (i : Indication) → sight_at o.who d a q ≡ Acts → action o.who d (the from x y n q) ≡ perform (TxOut.Tell i ∷ []) (record (counted_woken p d) { arcs = with_dialogue (counted_woken p d).arcs a.peer.node (heard k) }) → action o.who d (the from x y n q) ≡ perform (TxOut.Tell i ∷ []) (record (counted_woken p d) { arcs = with_dialogue (counted_woken p d).arcs p (heard k) })
        heard_here q k i s is = is ∙ ap (λ (m : ℕ). perform (TxOut.Tell i ∷ []) (record (counted_woken p d) { arcs = with_dialogue (counted_woken p d).arcs m (heard k) })) at

        caused : (q : DialogueRecord) (v : Bool × Bool) (c : Cause) → Took o h p v (action o.who d (the from x y n q)) → cause_by o p (entry_of o h (the from x y n q)) h ≡ Some c → v ≡ by_cause (side_of_end (is_at up p)) c false
            → ((c : Current) → is_at up p ≡ true → is_ruled p d.arcs ≡ true → d.current ≡ Some c → is_under_at c.key p ≡ true → is_late c.phase ≡ true → v ≡ (false, false)) → IsControlBy o up h (the from x y n q) p
        caused q v c t i j past = took_control o up h (the from x y n q) p v was t (λ ruled. j ∙ sym (ap (λ (z : Cause × Bool). by_cause (side_of_end (is_at up p)) z.0 z.1) (last_some o p (entry_of o h (the from x y n q)) h c i))) past

        -- where it is heard
        granted : sight_at o.who d a DialogueRecord.Grant ≡ Acts → IsControlBy o up h (the from x y n DialogueRecord.Grant) p
        granted s =
            let q : DialogueRecord = DialogueRecord.Grant in
            let t : Took o h p (true, false) (action o.who d (the from x y n q)) =
            subst (λ (m : Move). Took o h p (true, false) m) (sym (heard_here q Hear_grant (Indication.Grant a.peer.node) s (taken q Acts s))) (took_hear o h p Hear_grant (Indication.Grant a.peer.node) (λ v. (true, false)) refl refl hears_grant) in
            caused q (true, false) Granted_here t
            (cause_is o p (entry_of o h (the from x y n q)) h ∙ ap (λ (w : Option DialogueRecord). cause_from w (said_to p (action o.who d (the from x y n q)).outs) (completes (entry_of o h (the from x y n q))) (was_branch o p h) (is_up o p h) (enters o (entry_of o h (the from x y n q)) h)) (acting q s)
            ∙ ap (λ (rs : List DialogueRecord). cause_from (Some q) rs (completes (entry_of o h (the from x y n q))) (was_branch o p h) (is_up o p h) (enters o (entry_of o h (the from x y n q)) h)) t.said)
            refl
            (λ c top ruled now under past. absurd (unheard o.who up d p c late was.bare top (live_here ruled) now under past (ap (λ (m : ℕ). is_silenced (situation_at o.who d m)) (sym at) ∙ heard_grant o.who d a s)))

        handed : sight_at o.who d a DialogueRecord.HandshakeGrant ≡ Acts → IsControlBy o up h (the from x y n DialogueRecord.HandshakeGrant) p
        handed s =
            let q : DialogueRecord = DialogueRecord.HandshakeGrant in
            let holds : (control_at p d.arcs).0 ≡ false = ap (λ (z : Option Arc). (control_of z).0) found ∙ (heard_handing o.who d a s).1 in
            let t : Took o h p ((control_at p d.arcs).0, true) (action o.who d (the from x y n q)) =
            subst (λ (m : Move). Took o h p ((control_at p d.arcs).0, true) m) (sym (heard_here q Hear_handshake_grant (Indication.HandshakeGrant a.peer.node) s (taken q Acts s))) (took_hear o h p Hear_handshake_grant (Indication.HandshakeGrant a.peer.node) (λ v. (v.0, true)) refl refl hears_handing) in
            caused q ((control_at p d.arcs).0, true) Handshake_granted_here t
            (cause_is o p (entry_of o h (the from x y n q)) h ∙ ap (λ (w : Option DialogueRecord). cause_from w (said_to p (action o.who d (the from x y n q)).outs) (completes (entry_of o h (the from x y n q))) (was_branch o p h) (is_up o p h) (enters o (entry_of o h (the from x y n q)) h)) (acting q s)
            ∙ ap (λ (rs : List DialogueRecord). cause_from (Some q) rs (completes (entry_of o h (the from x y n q))) (was_branch o p h) (is_up o p h) (enters o (entry_of o h (the from x y n q)) h)) t.said)
            (rw holds refl)
            (λ c top ruled now under past. absurd (unheard o.who up d p c late was.bare top (live_here ruled) now under past (ap (λ (m : ℕ). is_silenced (situation_at o.who d m)) (sym at) ∙ (heard_handing o.who d a s).0)))

        shaken : sight_at o.who d a DialogueRecord.Handshake ≡ Acts → IsControlBy o up h (the from x y n DialogueRecord.Handshake) p
        shaken s =
            let q : DialogueRecord = DialogueRecord.Handshake in
            let due : (control_at p d.arcs).1 ≡ false = ap (λ (z : Option Arc). (control_of z).1) found ∙ heard_handshake o.who d a s in
            let t : Took o h p ((control_at p d.arcs).0, false) (action o.who d (the from x y n q)) =
            subst (λ (m : Move). Took o h p ((control_at p d.arcs).0, false) m) (sym (heard_here q Hear_handshake (Indication.Handshake a.peer.node) s (taken q Acts s))) (took_hear o h p Hear_handshake (Indication.Handshake a.peer.node) (λ v. (v.0, false)) refl refl hears_handshake) in
            untold o up h (the from x y n q) p ((control_at p d.arcs).0, false) was t
            (λ z i. let same : q ≡ z = cc (sym (acting q s) ∙ i) in ap is_moot (sym same)) refl refl (ap (is_record is_left_record) (acting q s)) (rw (sym due) refl)

        by : (v : Sight) → sight_at o.who d a q ≡ v → (w : DialogueRecord) → (w ≡ DialogueRecord.Grant) ⊎ (w ≡ DialogueRecord.Handshake) ⊎ (w ≡ DialogueRecord.HandshakeGrant) → w ≡ q → IsControlBy o up h (the from x y n q) p
        by Acts s w (inl i) j = let same : DialogueRecord.Grant ≡ q = sym i ∙ j in subst (λ (z : DialogueRecord). IsControlBy o up h (the from x y n z) p) same (granted (ap (sight_at o.who d a) same ∙ s))
        by Acts s w (inr (inl i)) j = let same : DialogueRecord.Handshake ≡ q = sym i ∙ j in subst (λ (z : DialogueRecord). IsControlBy o up h (the from x y n z) p) same (shaken (ap (sight_at o.who d a) same ∙ s))
        by Acts s w (inr (inr i)) j = let same : DialogueRecord.HandshakeGrant ≡ q = sym i ∙ j in subst (λ (z : DialogueRecord). IsControlBy o up h (the from x y n z) p) same (handed (ap (sight_at o.who d a) same ∙ s))
        by Nothing_happens s w (inl i) j = let same : DialogueRecord.Grant ≡ q = sym i ∙ j in subst (λ (z : DialogueRecord). IsControlBy o up h (the from x y n z) p) same (idle DialogueRecord.Grant Nothing_happens refl (ap (sight_at o.who d a) same ∙ s) (taken DialogueRecord.Grant Nothing_happens (ap (sight_at o.who d a) same ∙ s)) refl)
        by Nothing_happens s w (inr (inl i)) j = let same : DialogueRecord.Handshake ≡ q = sym i ∙ j in subst (λ (z : DialogueRecord). IsControlBy o up h (the from x y n z) p) same (idle DialogueRecord.Handshake Nothing_happens refl (ap (sight_at o.who d a) same ∙ s) (taken DialogueRecord.Handshake Nothing_happens (ap (sight_at o.who d a) same ∙ s)) refl)
        by Nothing_happens s w (inr (inr i)) j = let same : DialogueRecord.HandshakeGrant ≡ q = sym i ∙ j in subst (λ (z : DialogueRecord). IsControlBy o up h (the from x y n z) p) same (idle DialogueRecord.HandshakeGrant Nothing_happens refl (ap (sight_at o.who d a) same ∙ s) (taken DialogueRecord.HandshakeGrant Nothing_happens (ap (sight_at o.who d a) same ∙ s)) refl)
        by Out_of_phase s w (inl i) j = let same : DialogueRecord.Grant ≡ q = sym i ∙ j in subst (λ (z : DialogueRecord). IsControlBy o up h (the from x y n z) p) same (idle DialogueRecord.Grant Out_of_phase refl (ap (sight_at o.who d a) same ∙ s) (taken DialogueRecord.Grant Out_of_phase (ap (sight_at o.who d a) same ∙ s)) refl)
        by Out_of_phase s w (inr (inl i)) j = let same : DialogueRecord.Handshake ≡ q = sym i ∙ j in subst (λ (z : DialogueRecord). IsControlBy o up h (the from x y n z) p) same (idle DialogueRecord.Handshake Out_of_phase refl (ap (sight_at o.who d a) same ∙ s) (taken DialogueRecord.Handshake Out_of_phase (ap (sight_at o.who d a) same ∙ s)) refl)
        by Out_of_phase s w (inr (inr i)) j = let same : DialogueRecord.HandshakeGrant ≡ q = sym i ∙ j in subst (λ (z : DialogueRecord). IsControlBy o up h (the from x y n z) p) same (idle DialogueRecord.HandshakeGrant Out_of_phase refl (ap (sight_at o.who d a) same ∙ s) (taken DialogueRecord.HandshakeGrant Out_of_phase (ap (sight_at o.who d a) same ∙ s)) refl)

    go : (v : Option Arc) → find_arc d.arcs from.node ≡ v → IsControlBy o up h e p
    go None i = absurd (on_none o.who d from x y n r (plain_arrival o.who d from (PeerRecord.OnAssoc x y n r) g.ok) i)
    go (Some a) i = on a i (sight_at o.who d a r) refl r refl kind
