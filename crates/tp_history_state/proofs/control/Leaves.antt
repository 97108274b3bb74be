-- After the leaving of the node itself, control is as its last cause says.
use Rattle.tp_history_state.proofs.Vocabulary.{Bool, List, None, Option, Some, [], ap, append-nil, arith, false, if◌then◌else◌, inl, inr, not, refl, subst, sym, true, ℕ, ◌&&◌, ◌++◌, ◌==◌, ◌||◌, ◌∙◌, ◌∷◌, ◌≡◌, and-false, or-true, nat_tests, Addr, Outcome, DialogueRecord, Holder, Indication, Request, LogRec, Cause, Left_transaction, Completed_below, Granted_away, Begun_by, cause_by, holder_in, has_said, said_to, is_left_record, was_branch, is_up, is_at, completes, enters, tells_commit_complete, tells_rollback_complete, logs_ready_or_commit, Who, Origin, Event, Entry, Digest, Arc, Dialogue, Current, Key, Root, Under, completed, rested, cleared, is_polarized, is_nil, is_active, is_rolling, refusal, action, refused_request, has_branch_at, Move, move, followed, phase_of, transact, is_over, seen, turned, entered, played, left_arcs, is_arc_below, is_end_deferred_at, try_start, start_root, begin_each, begin_chained, chained_peers, with_mark_drawn, fresh_current, has_none, may_root, next_mark, Transaction, leave, row_holds, is_under_at, is_live_with_peer, performed, carried, without_arc, with_dialogues, Phase, Side, TxEvent, TxOut, digest, is_live, IsLate, out_tells, left_active, IsPlaced, headed_law, placed_law, under_headed, is_rolled_told, keeps_performed, said_both, said_carried, late_law, link_left, link_without, said_append, plain_request, quiet_each, seen_branch, step_start, separate_law, thins_turned, tells_rolled, told_performed, is_response}
use Rattle.tp_model.specs.declared.refusal.Refusal.{Refusal}
use Rattle.tp_model.specs.Questions.{Entered}
use Rattle.tp_history_state.proofs.control.Arcs.{is_ruled, control_at, control_from, ruled_live, same_performed, same_dialogues, dialogues_get, is_gift}
use Rattle.tp_history_state.proofs.control.Turned.{completed_above}
use Rattle.tp_history_state.proofs.control.Causes.{by_cause, side_of_end, moot_cause, cause_is, last_some, last_on}
use Rattle.tp_history_state.proofs.control.Moves.{IsWell, Stands, Controls, IsPast, IsBareAt, is_branch_at}
use Rattle.tp_history_state.proofs.control.Signs.{Signs, no_signs, signs, signs_then, effect}
use Rattle.tp_history_state.proofs.control.Steps.{still_steps}
use Rattle.tp_history_state.proofs.control.Events.{stands_with}
use Rattle.tp_history_state.proofs.control.Begun.{Begins, each_signs, effect_none, begins_then, dead_back}
use Rattle.tp_history_state.proofs.control.Quiet.{Grows, IsControl, IsControlBy, cause_at, up_is, branch_seen}
use Rattle.tp_history_state.proofs.orders.OverTold.{is_over_told}
use Rattle.tp_history_state.proofs.passages.Shown.{logs_joined}

-- ---- the arcs of a node that leaves

rested_gets : (x : Dialogue) → (is_polarized (rested x) ≡ is_polarized x) × (is_polarized x ≡ true → control_from (rested x) ≡ (false, false))
unfolding rested cleared
rested_gets x = (refl, λ pol. refl)

abbrev Behind : Bool → Bool → Bool × Bool → Bool × Bool
Behind under below v = if under then (false, false) else if below then (true, false) else v

behind_left : (p : ℕ) (t : Transaction) (xs : List Arc) → is_ruled p (left_arcs t xs) ≡ true → (is_ruled p xs ≡ true) × (control_at p (left_arcs t xs) ≡ Behind (is_under_at t.key p) (row_holds t.rows p (λ b. true)) (control_at p xs))
behind_left p t xs ruled = go (is_under_at t.key p) refl (row_holds t.rows p (λ b. true)) refl
  where
    mid : List Arc
    mid = with_dialogues xs (is_arc_below t) (λ a. completed Outcome.Rollback Side.Superior a.dialogue)

    aside : (w : Bool) → is_under_at t.key p ≡ false → row_holds t.rows p (λ b. true) ≡ w → is_ruled p mid ≡ true → (is_ruled p xs ≡ true) × (control_at p mid ≡ (if w then (true, false) else control_at p xs))
    aside true off i r = dialogues_get p xs (is_arc_below t) (λ a. completed Outcome.Rollback Side.Superior a.dialogue) (true, false) (λ a found at. let k = completed_above Outcome.Rollback a.dialogue in (rw (ap (is_under_at t.key) at ∙ off, ap (λ (n : ℕ). row_holds t.rows n (λ b. true)) at ∙ i) refl, k.0, k.1)) r
    aside false off i r = same_dialogues p xs (is_arc_below t) (λ a. completed Outcome.Rollback Side.Superior a.dialogue) (λ a at is. absurd (no (is_under_at t.key a.peer.node) (row_holds t.rows a.peer.node (λ b. true)) is (ap (λ (n : ℕ). row_holds t.rows n (λ b. true)) at ∙ i))) r
      where
        no : (x y : Bool) → (not x && y) ≡ true → y ≡ false → ⊥
        no true y h i = cc (h)
        no false y h i = cc (h, i)

    over : is_under_at t.key p ≡ true → is_ruled p mid ≡ true → is_ruled p xs ≡ true
    over on r = (same_dialogues p xs (is_arc_below t) (λ a. completed Outcome.Rollback Side.Superior a.dialogue) (λ a at is. absurd (no (is_under_at t.key a.peer.node) (row_holds t.rows a.peer.node (λ b. true)) is (ap (is_under_at t.key) at ∙ on))) r).0
      where
        no : (x y : Bool) → (not x && y) ≡ true → x ≡ true → ⊥
        no true y h i = cc (h)
        no false y h i = cc (i)

    go : (u : Bool) → is_under_at t.key p ≡ u → (w : Bool) → row_holds t.rows p (λ b. true) ≡ w → (is_ruled p xs ≡ true) × (control_at p (left_arcs t xs) ≡ Behind u w (control_at p xs))
    go true i w j =
        let k = dialogues_get p mid (λ a. is_under_at t.key a.peer.node) (λ a. rested a.dialogue) (false, false) (λ a found at. let w = rested_gets a.dialogue in (ap (is_under_at t.key) at ∙ i, w.0, w.1)) ruled in
        (over i k.0, k.1)
    go false i w j =
        let k = same_dialogues p mid (λ a. is_under_at t.key a.peer.node) (λ a. rested a.dialogue) (λ a at is. absurd (let off : is_under_at t.key a.peer.node ≡ false = ap (is_under_at t.key) at ∙ i in cc (is, off))) ruled in
        let l = aside w i j k.0 in
        (l.0, k.1 ∙ l.1)

-- ---- what a node says that leaves

abbrev leaving_outs : Bool → Bool → Key → List TxOut
leaving_outs ending up (Root t) = if ending then [] ++ [] else []
leaving_outs ending up (Under t b s) =
    if ending then (if up then TxOut.Carry s.node DialogueRecord.LeftEnd ∷ [] else []) ++ (if ending then TxOut.Close s.node ∷ [] else [])
    else (if up then TxOut.Carry s.node DialogueRecord.Left ∷ [] else [])

gone_from : (p : ℕ) (arcs : List Arc) (q : ℕ) → (q == p) ≡ true → is_live_with_peer (without_arc arcs q) p ≡ false
gone_from p arcs q i = ap is_live (link_without arcs q p) ∙ rw i refl

said_one : (p : ℕ) (arcs : List Arc) (q : ℕ) (r : DialogueRecord) → said_to p (performed arcs (TxOut.Carry q r ∷ [])).1 ≡ (if (q == p) && is_live_with_peer arcs q then r ∷ [] else [])
said_one p arcs q r = said_append p (carried arcs q r).1 [] ∙ append-nil (said_to p (carried arcs q r).1) ∙ said_carried p arcs q r

-- Left to the superior, on an arc that is live after it, and nothing else
leaving_says : (p : ℕ) (arcs : List Arc) (k : Key) (ending up : Bool) → (is_under_at k p ≡ true → up ≡ is_live_with_peer arcs p) → is_live_with_peer (performed arcs (leaving_outs ending up k)).0 p ≡ true
    → said_to p (performed arcs (leaving_outs ending up k)).1 ≡ (if is_under_at k p then DialogueRecord.Left ∷ [] else [])
leaving_says p arcs k ending up h1 h2 = grind (arith, nat_tests, gone_from, said_carried, said_one)

-- ---- the node, where its transaction is over

record Left (who : Who) (p : ℕ) (d : Digest) (c : Current) (m : Move) : Type 0 where
  over : m.next.current ≡ None
  superior : m.next.superior ≡ d.superior
  back : is_live_with_peer m.next.arcs p ≡ true → is_live_with_peer d.arcs p ≡ true
  control : is_ruled p m.next.arcs ≡ true → (is_ruled p d.arcs ≡ true) × (control_at p m.next.arcs ≡ Behind (is_under_at c.key p) (has_branch_at c.branches p) (control_at p d.arcs))
  said : is_live_with_peer m.next.arcs p ≡ true → said_to p m.outs ≡ (if is_under_at c.key p then DialogueRecord.Left ∷ [] else [])
  untold : (out_tells is_over_told m.outs ≡ false) × (tells_rolled m ≡ false) × (m.rec ≡ None)

untells : (f : Indication → Bool) (arcs : List Arc) (ending up : Bool) (k : Key) → out_tells f (performed arcs (leaving_outs ending up k)).1 ≡ false
untells f arcs ending up k = grind (arith, told_performed)

leaves_node : (who : Who) (p : ℕ) (d : Digest) (c : Current) → is_active c.phase ≡ true → Left who p d c (turned who (TxEvent.User Request.Unchanged) d c)
unfolding leave entered played
leaves_node who p d c act = go c.key c.phase act
  where
    at_key : Key → Current
    at_key k = record c { key = k; phase = Phase.Active }

    made : (k : Key) (ending up : Bool) (m : Move) → (is_under_at k p ≡ true → up ≡ is_live_with_peer d.arcs p) → m.next.current ≡ None → m.next.superior ≡ d.superior → m.rec ≡ None
        → m.next.arcs ≡ left_arcs (seen who d.arcs (at_key k)) (performed d.arcs (leaving_outs ending up k)).0 → m.outs ≡ (performed d.arcs (leaving_outs ending up k)).1 → Left who p d (at_key k) m
    made k ending up m is over top none arcs outs = record {
      over = over;
      superior = top;
      back = λ live. (keeps_performed is_polarized p d.arcs outs_k (live_xs live)).0;
      control = λ ruled.
          let one = behind_left p (seen who d.arcs (at_key k)) xs (ap (is_ruled p) (sym arcs) ∙ ruled) in
          let two = same_performed p d.arcs outs_k one.0 in
          (two.0, ap (control_at p) arcs ∙ one.1 ∙ ap (λ (b : Bool). Behind (is_under_at k p) b (control_at p xs)) (seen_branch d.arcs c.branches p) ∙ ap (Behind (is_under_at k p) (has_branch_at c.branches p)) two.1);
      said = λ live. ap (said_to p) outs ∙ leaving_says p d.arcs k ending up is (live_xs live);
      untold = (ap (out_tells is_over_told) outs ∙ untells is_over_told d.arcs ending up k, ap (out_tells is_rolled_told) outs ∙ untells is_rolled_told d.arcs ending up k, none);
    }
      where
        outs_k : List TxOut
        outs_k = leaving_outs ending up k

        xs : List Arc
        xs = (performed d.arcs outs_k).0

        live_xs : is_live_with_peer m.next.arcs p ≡ true → is_live_with_peer xs p ≡ true
        live_xs live = sym (ap is_live (link_left (seen who d.arcs (at_key k)) xs p)) ∙ ap (λ (ys : List Arc). is_live_with_peer ys p) (sym arcs) ∙ live

    go : (k : Key) (q : Phase) → is_active q ≡ true → Left who p d (record c { key = k; phase = q }) (turned who (TxEvent.User Request.Unchanged) d (record c { key = k; phase = q }))
    go (Root u) Phase.Active a = made (Root u) false false (turned who (TxEvent.User Request.Unchanged) d (at_key (Root u))) (λ i. absurd (cc (i))) refl refl refl refl refl
    go (Under u b s) Phase.Active a =
        made (Under u b s) (is_end_deferred_at d.arcs s.node) (is_live_with_peer d.arcs s.node) (turned who (TxEvent.User Request.Unchanged) d (at_key (Under u b s)))
        (λ i. let at : s.node ≡ p = grind (arith, nat_tests, i) in ap (is_live_with_peer d.arcs) at) refl refl refl refl refl
    go k _ a = absurd (cc (a))

-- ---- the start after it

root_signs : (p : ℕ) (who : Who) (named : List ℕ) (d : Digest) → Begins (signs p (start_root who named d))
unfolding start_root
root_signs p who named d =
    let g : Digest = record (with_mark_drawn d) { current = Some (fresh_current (Root (record { owner = who.site; mark = next_mark who d }))) } in
    let a : Move = begin_each who named g in
    subst Begins (sym (signs_then p a (begin_chained who) (inr (quiet_each who (chained_peers who a.next) a.next))))
    (begins_then (signs p a) (signs p (begin_chained who a.next)) (each_signs p who named g) (each_signs p who (chained_peers who a.next) a.next))

start_signs : (p : ℕ) (who : Who) (d : Digest) → Begins (signs p (try_start who d))
unfolding try_start
start_signs p who d = go (is_nil (phase_of d) && may_root d && not (has_none (chained_peers who d)))
  where
    go : (b : Bool) → Begins (signs p (if b then start_root who [] d else move [] d))
    go true = root_signs p who [] d
    go false = (refl, refl, refl, refl)

-- ---- the event

leaving_is_over : (who : Who) (d : Digest) (c : Current) → d.current ≡ Some c → is_active c.phase ≡ true → transact who (TxEvent.User Request.Unchanged) d ≡ followed (turned who (TxEvent.User Request.Unchanged) d c) (try_start who)
unfolding transact leave
leaving_is_over who d c now act = grind (arith, is_over, turned)

some_current : (who : Who) (d : Digest) → refusal who d (Event.Do Request.Unchanged) ≡ None → d.current ≡ None → ⊥
unfolding refused_request
some_current who d ok none = let plain : refused_request who d Request.Unchanged ≡ None = plain_request who d Request.Unchanged ok in let six : Some Refusal.NoTransaction ≡ None = rw none at plain in cc (six)

-- whose cause it is, by where the arc stands
cause_so : (k : Option Holder) (gift under below above branch left entered over : Bool) → gift ≡ false → over ≡ true → entered ≡ false → left ≡ under → branch ≡ (under || below) → (under ≡ true → above ≡ true) → (above ≡ true → branch ≡ true → under ≡ true)
    → elim k as (λ _. Option Cause) [
      | Some j ↦ Some (Begun_by j)
      | None ↦ if gift then Some Granted_away else if over && branch && not above then Some Completed_below else if entered && branch then Some Entered else if left then Some Left_transaction else None
    ] ≡ elim k as (λ _. Option Cause) [
      | Some j ↦ Some (Begun_by j)
      | None ↦ if under then Some Left_transaction else if below then Some Completed_below else None
    ]
cause_so k gift under below above branch left entered over h1 h2 h3 h4 h5 h6 h7 = grind arith

pub leaving_control : (o : Origin) (up : Option Addr) (h : List Entry) (p : ℕ) → Grows o up h (Event.Do Request.Unchanged) → IsControl o up h p → IsControlBy o up h (Event.Do Request.Unchanged) p
leaving_control o up h p g was = go (digest o h).current refl
  where
    d : Digest
    d = digest o h

    e : Event
    e = Event.Do Request.Unchanged

    late : IsLate d
    late = late_law o up h g.grown

    on : (c : Current) → d.current ≡ Some c → IsControlBy o up h e p
    on c now = made (subst (λ (z : Move). Holds z) (sym is) (state, st.past, st.bare))
      where
        act : is_active c.phase ≡ true
        act = left_active o.who d c g.ok now (late c now)

        one : Move
        one = turned o.who (TxEvent.User Request.Unchanged) d c

        l : Left o.who p d c one
        l = leaves_node o.who p d c act

        s : Digest
        s = one.next

        two : Move
        two = try_start o.who s

        m : Move
        m = followed one (try_start o.who)

        is : action o.who d e ≡ m
        is = leaving_is_over o.who d c now act

        Holds : Move → Type 0
        Holds z = (is_ruled p z.next.arcs ≡ true → control_at p z.next.arcs ≡ cause_at o up p (record { event = e; rec = z.rec; outs = z.outs } ∷ h)) × IsPast up p z.next × IsBareAt up p z.next

        made : Holds (action o.who d e) → IsControlBy o up h e p
        made w = record { is = w.0; past = w.1; bare = w.2 }

        old : Bool × Bool
        old = control_at p s.arcs

        nothing : (v : Current) → s.current ≡ Some v → ⊥
        nothing v i = let no : None ≡ Some v = sym l.over ∙ i in cc (no)

        well : IsWell up s
        well = (
          (thins_turned o.who (TxEvent.User Request.Unchanged) d c).apart (separate_law o up h g.grown),
          λ v i. absurd (nothing v i),
          placed (placed_law o up h g.grown),
        )
          where
            placed : IsPlaced up d → IsPlaced up s
            placed (inl i) = inl (l.superior ∙ i)
            placed (inr k) = inr (λ q. dead_back d.arcs s.arcs q (λ live. (leaves_node o.who q d c act).back live) (k q))

        branch_none : is_branch_at s.current p ≡ false
        branch_none = ap (λ (v : Option Current). is_branch_at v p) l.over

        start : Stands up p false false old s no_signs s
        start = stands_with up p false false old s (λ f. absurd (cc (f))) (λ i. refl) (λ top v i under past ruled. absurd (nothing v i)) (λ top v i live. absurd (nothing v i))

        moved : Controls up p false false old s s two
        moved = step_start o.who Event.Retry s (Controls up p false false old s) (still_steps up p false false old o.who s branch_none (λ f. absurd (cc (f)))) s

        st : Stands up p false false old s (signs p two) two.next
        st = moved.3 no_signs well start

        begun : Begins (signs p two)
        begun = start_signs p o.who s

        under : Bool
        under = is_under_at c.key p

        below : Bool
        below = has_branch_at c.branches p

        entry : Entry
        entry = record { event = e; rec = m.rec; outs = m.outs }

        state : is_ruled p two.next.arcs ≡ true → control_at p two.next.arcs ≡ cause_at o up p (entry ∷ h)
        state ruled = answer (holder_in (said_to p two.outs)) refl under refl below refl
          where
            k : (is_ruled p s.arcs ≡ true) × (control_at p two.next.arcs ≡ effect (is_at up p) false false old (is_rolling (phase_of two.next)) (signs p two))
            k = st.state ruled

            c0 : (is_ruled p d.arcs ≡ true) × (control_at p s.arcs ≡ Behind under below (control_at p d.arcs))
            c0 = l.control k.0

            live : is_live_with_peer d.arcs p ≡ true
            live = ruled_live p d.arcs c0.0

            said_first : said_to p one.outs ≡ (if under then DialogueRecord.Left ∷ [] else [])
            said_first = l.said (ruled_live p s.arcs k.0)

            said_all : said_to p m.outs ≡ said_to p one.outs ++ said_to p two.outs
            said_all = said_append p one.outs two.outs

            holder : holder_in (said_to p m.outs) ≡ holder_in (said_to p two.outs)
            holder = ap holder_in (said_all ∙ ap (λ (rs : List DialogueRecord). rs ++ said_to p two.outs) said_first) ∙ first under
              where
                first : (u : Bool) → holder_in ((if u then DialogueRecord.Left ∷ [] else []) ++ said_to p two.outs) ≡ holder_in (said_to p two.outs)
                first true = refl
                first false = refl

            said_so : (f : DialogueRecord → Bool) → has_said f (said_to p two.outs) ≡ false → has_said f (said_to p m.outs) ≡ (under && f DialogueRecord.Left)
            said_so f off = said_both f p one.outs two.outs ∙ ap (λ (rs : List DialogueRecord). has_said f rs || has_said f (said_to p two.outs)) said_first ∙ rw off (first under (f DialogueRecord.Left) refl)
              where
                first : (u v : Bool) → f DialogueRecord.Left ≡ v → (has_said f (if u then DialogueRecord.Left ∷ [] else []) || false) ≡ (u && v)
                first true true i = rw i refl
                first true false i = rw i refl
                first false v i = refl

            gift : has_said is_gift (said_to p m.outs) ≡ false
            gift = said_so is_gift begun.0 ∙ and-false under

            unanswered : has_said is_response (said_to p m.outs) ≡ false
            unanswered = said_so is_response st.unsaid.1 ∙ and-false under

            left_said : (has_said is_left_record (said_to p m.outs) || (was_branch o p h && false)) ≡ under
            left_said = rw (said_so is_left_record st.unsaid.0) (flat under (was_branch o p h))
              where
                flat : (b v : Bool) → ((b && true) || (v && false)) ≡ b
                flat true v = refl
                flat false true = refl
                flat false false = refl

            over : completes entry ≡ true
            over = or-true (tells_commit_complete m.outs || tells_rollback_complete m.outs)

            unentered : enters o entry h ≡ false
            unentered = ap (λ (b : Bool). b || false) logged
              where
                logged : logs_ready_or_commit m.rec ≡ false
                logged = logs_joined one.rec two.rec (inl l.untold.2) ∙ ap (λ (v : Option LogRec). logs_ready_or_commit v || logs_ready_or_commit two.rec) l.untold.2 ∙ begun.3

            above : Bool
            above = is_at up p

            up_here : is_up o p h ≡ above
            up_here = up_is o up h e p g (subst (λ (z : Move). is_live_with_peer z.next.arcs p ≡ true) (sym is) (ruled_live p two.next.arcs ruled))

            branch_is : was_branch o p h ≡ (under || below)
            branch_is = branch_seen o.who d p ∙ ap (λ (v : Option Current). is_branch_at v p) now

            top : under ≡ true → is_up o p h ≡ true
            top i = up_here ∙ under_headed up c.key p (headed_law o up h g.grown c now act).0 i

            only : is_up o p h ≡ true → was_branch o p h ≡ true → under ≡ true
            only i j = one_of under below (sym branch_is ∙ j) (was.bare (sym up_here ∙ i) c now live)
              where
                one_of : (x y : Bool) → (x || y) ≡ true → y ≡ false → x ≡ true
                one_of true y h i = refl
                one_of false y h i = absurd (cc (h, i))

            cause : cause_by o p entry h ≡ elim (holder_in (said_to p two.outs)) as (λ _. Option Cause) [
              | Some j ↦ Some (Begun_by j)
              | None ↦ if under then Some Left_transaction else if below then Some Completed_below else None
            ]
            cause =
                cause_is o p entry h ∙ moot_cause None (said_to p m.outs) (completes entry) (was_branch o p h) (is_up o p h) (enters o entry h) under (λ r i. absurd (cc (i))) left_said
                ∙ cause_so (holder_in (said_to p m.outs)) (has_said is_gift (said_to p m.outs)) under below (is_up o p h) (was_branch o p h) under (enters o entry h) (completes entry) gift over unentered refl branch_is top only
                ∙ ap (λ (z : Option Holder). elim z as (λ _. Option Cause) [ Some j ↦ Some (Begun_by j) | None ↦ if under then Some Left_transaction else if below then Some Completed_below else None ]) holder

            told : (v : Cause) → cause_by o p entry h ≡ Some v → by_cause (side_of_end above) v false ≡ cause_at o up p (entry ∷ h)
            told v i = sym (ap (λ (z : Cause × Bool). by_cause (side_of_end above) z.0 z.1) (last_some o p entry h v i))

            answer : (v : Option Holder) → holder_in (said_to p two.outs) ≡ v → (u : Bool) → under ≡ u → (w : Bool) → below ≡ w → control_at p two.next.arcs ≡ cause_at o up p (entry ∷ h)
            answer (Some j) i u iu w iw =
                let off : above ≡ false = (st.begun j i).1 in
                k.1 ∙ begins_so above (is_rolling (phase_of two.next)) (signs p two) j i off ∙ told (Begun_by j) (cause ∙ rw i refl)
              where
                begins_so : (b : Bool) (r : Bool) (y : Signs) (j : Holder) → y.begun ≡ Some j → b ≡ false → effect b false false old r y ≡ by_cause (side_of_end b) (Begun_by j) false
                begins_so b r y j i off = rw (i, off) refl
            answer None i u iu w iw = k.1 ∙ effect_none above false old (is_rolling (phase_of two.next)) (signs p two) i begun ∙ c0.1 ∙ rest u w iu iw
              where
                rest : (u w : Bool) → under ≡ u → below ≡ w → Behind under below (control_at p d.arcs) ≡ cause_at o up p (entry ∷ h)
                rest true w iu iw = rw iu (told Left_transaction (cause ∙ rw (i, iu) refl))
                rest false true iu iw = rw (iu, iw) (told Completed_below (cause ∙ rw (i, iu, iw) refl))
                rest false false iu iw =
                    rw (iu, iw) (was.is c0.0)
                    ∙ sym (ap (λ (z : Cause × Bool). by_cause (side_of_end above) z.0 z.1) (last_on o p entry h false (cause ∙ rw (i, iu, iw) refl) live unanswered))

    go : (v : Option Current) → d.current ≡ v → IsControlBy o up h e p
    go None i = absurd (some_current o.who d g.ok i)
    go (Some c) i = on c i
