-- In every legal history what is deferred on a live arc was said or taken last, and nothing ended it since.
use Rattle.tp_history_state.proofs.Vocabulary.{if◌then◌else◌, ◌≡◌, ◌⊎◌, inl, inr, ℕ, Bool, true, false, refl, ap, sym, subst, ◌∙◌, arith, Option, Some, None, List, [], ◌∷◌, ◌++◌, ◌&&◌, ◌||◌, ◌==◌, not, nat_tests, Mark, Aaid, BranchId, Addr, Outcome, has_bit, Request, Indication, DialogueRecord, Holder, PeerRecord, LogRec, Phase, Side, Deferral, TxEvent, TxOut, Who, Origin, Event, Entry, Out, Dialogue, Arc, Under, Current, Digest, is_live, with_one_taken, is_nil, is_active, is_ready, is_rolling, is_late, is_end_deferred, is_grant_deferred, Sight, Acts, Nothing_happens, Out_of_phase, Asked, Ask_defer_end, Ask_defer_grant, Heard, Hear_defer_end, Hear_defer_grant, arrived, refused_on_arc, said, heard, begun_by, cleared, woken, rested, completed, find_arc, link_of, is_live_with_peer, with_dialogue, with_dialogues, with_link, performed, Transaction, is_under, is_under_at, row_holds, transacted, acts, sight_of_tx, leave, situation_of, has_branch_at, refused_request, Move, move, followed, phase_of, seen, situation_at, Passage, Leaves, passage, entered, played, is_arc_below, left_arcs, passed, turned, try_start, transact, begin_chained, fresh_current, sight_at, sight_of, take_begin, take_record, woken_by, is_response, take_on, refusal, action, after_crash, started, digest, said_to, has_said, acting_from, is_record, is_begin, is_at, is_up, was_branch, units_before, is_defer_end_record, is_defer_grant_record, tells_commit_complete, tells_rollback_complete, ends_deferral, set_deferral, deferral_in, rolls_by_record, rolls, is_unchanged, number_of_deferral, IsGrown, IsLegal, IsLate, prelude, puts_off_at, out_tells, deferral_agrees, first_part, all_found, part_at, Keeps, part_dialogue, part_none, keeps_dialogues, keeps_taken, keeps_performed, said_both, carries_none, none_more, said_carried, said_none, live_back, plain_steps, every_start, step_chained, seen_branch, every_move, plain_arrival, plain_request, find_arc_is, the, on_none, on_live, begin_acts, Came, As_it_was, By_begin, By_crash, came_by, rolled_tells, late_law, rolls_so, rolls_from, phase_at, IsDownMove, down_event, is_headed_by, are_below, headed_law, placed_law, superior_at, link_left, separate_law, is_rolled_told, told_append, told_performed, row_phase, nothing_late, started_next}
use Rattle.tp_history_state.proofs.deferral.Silent.{still_transact}
use Rattle.tp_history_state.proofs.passages.Passage.{is_committed_told}
use Rattle.tp_history_state.proofs.deferral.Defers.{put, loose, at_arc, dropped_part, put_completed, loose_completed, put_woken, put_begun, same_part, begins_at, live_dialogue, said_begin, told_rolled, told_committed, IsDeferring, Defers, defers_moves, IsGiven, IsAside, is_defer, Undefers, undefers_moves}
use Rattle.tp_history_state.proofs.lemmas.Tells.{leave_tells}

-- ---- what the questions ask, by what is known

pub branch_now : (o : Origin) (p : ℕ) (h : List Entry) (c : Current) → (digest o h).current ≡ Some c → was_branch o p h ≡ (is_under_at c.key p || has_branch_at c.branches p)
unfolding situation_of
branch_now o p h c i =
    ap (λ (v : Option Current). (situation_at o.who (record (digest o h) { current = v }) p).branch) i
    ∙ ap (λ (v : Bool). is_under_at c.key p || v) (seen_branch (digest o h).arcs c.branches p)

pub branch_none : (o : Origin) (p : ℕ) (h : List Entry) → (digest o h).current ≡ None → was_branch o p h ≡ false
branch_none o p h i = ap (λ (v : Option Current). (situation_at o.who (record (digest o h) { current = v }) p).branch) i

units_loose : (o : Origin) (p : ℕ) (h : List Entry) → has_bit (units_before o p h) 32 ≡ part_at loose p (digest o h).arcs
units_loose o p h = grind arith

pub committed_tells : (outs : List Out) → tells_commit_complete outs ≡ told_committed outs
committed_tells [] = refl
committed_tells (Out.Tell (Indication.CommitComplete r) ∷ outs) = refl
committed_tells (o ∷ outs) = let rest = committed_tells outs in grind (arith, rest)

-- a record that is taken there and acts
pub acting_plain : (g : DialogueRecord → Bool) (o : Origin) (p : ℕ) (e : Event) (h : List Entry) → ((a : Addr) (x y : Mark) (q : ℕ) (r : DialogueRecord) → e ≡ the a x y q r → (a.node == p) ≡ true → g r ≡ false) → is_record g (acting_from o p e h) ≡ false
acting_plain g o p e h h1 = grind arith

no_begin : (o : Origin) (p : ℕ) (e : Event) (h : List Entry) → begins_at e p ≡ false → is_record is_begin (acting_from o p e h) ≡ false
no_begin o p e h off = grind (arith, acting_plain)

no_defer : (o : Origin) (p : ℕ) (e : Event) (h : List Entry) → puts_off_at e p ≡ false → is_record is_defer (acting_from o p e h) ≡ false
no_defer o p e h off = grind (arith, acting_plain)

either_said : (xs : List DialogueRecord) → has_said is_defer xs ≡ false → (has_said is_defer_end_record xs ≡ false) × (has_said is_defer_grant_record xs ≡ false)
either_said [] h = (refl, refl)
either_said (r ∷ xs) h = let rest = either_said xs (right r (has_said is_defer xs) h) in (rw rest.0 (end_off r h), rw rest.1 (grant_off r h))
  where
    right : (r : DialogueRecord) (y : Bool) → (is_defer r || y) ≡ false → y ≡ false
    right r y h = flat (is_defer r) y h
      where
        flat : (x y : Bool) → (x || y) ≡ false → y ≡ false
        flat x y h = grind (arith, h)

    end_off : (r : DialogueRecord) → (is_defer r || has_said is_defer xs) ≡ false → (is_defer_end_record r || false) ≡ false
    end_off DialogueRecord.DeferEnd h = absurd (cc (h))
    end_off r h = refl

    grant_off : (r : DialogueRecord) → (is_defer r || has_said is_defer xs) ≡ false → (is_defer_grant_record r || false) ≡ false
    grant_off DialogueRecord.DeferGrant h = absurd (cc (h))
    grant_off r h = refl

either_record : (v : Option DialogueRecord) → is_record is_defer v ≡ false → (is_record is_defer_end_record v ≡ false) × (is_record is_defer_grant_record v ≡ false)
either_record v h1 = grind arith

-- neither said nor taken there
set_same : (o : Origin) (p : ℕ) (e : Entry) (h : List Entry) (f : Deferral) → has_said is_defer (said_to p e.outs) ≡ false → is_record is_defer (acting_from o p e.event h) ≡ false → set_deferral o p e h f ≡ f
set_same o p e h f said acts =
    let s = either_said (said_to p e.outs) said in
    let a = either_record (acting_from o p e.event h) acts in
    rw (s.0, s.1, a.0, a.1) refl

-- ---- a move, and the question of its entry

pub answer_live : (o : Origin) (p : ℕ) (e : Entry) (h : List Entry) → is_live_with_peer (digest o h).arcs p ≡ true → deferral_in o p (e ∷ h) ≡ (if ends_deferral o p e h then Deferral.None else set_deferral o p e h (deferral_in o p h))
answer_live o p e h live = rw (live, deferral_in) refl

pub answer_dead : (o : Origin) (p : ℕ) (e : Entry) (h : List Entry) → is_live_with_peer (digest o h).arcs p ≡ false → deferral_in o p (e ∷ h) ≡ Deferral.None
answer_dead o p e h dead = rw (dead, deferral_in) refl

-- what ends it, of an event that is no leaving and begins nothing there
ends_is : (o : Origin) (p : ℕ) (e : Entry) (h : List Entry) (outs : List Out) → e.outs ≡ outs → is_unchanged e.event ≡ false → is_record is_begin (acting_from o p e.event h) ≡ false
    → ends_deferral o p e h ≡ (was_branch o p h && (rolls o.who (digest o h) e.event || told_rolled outs || (told_committed outs && part_at loose p (digest o h).arcs)) || said_begin p outs)
ends_is o p e h outs same stays calm =
    rw (stays, calm)
    (alg (was_branch o p h) (rolls o.who (digest o h) e.event) (tells_rollback_complete e.outs) (not (is_up o p h)) (tells_commit_complete e.outs) (has_bit (units_before o p h) 32) (has_said is_begin (said_to p e.outs))
    ∙ rw (rolled_tells e.outs, committed_tells e.outs, units_loose o p h, same) refl)
  where
    alg : (b f r v c l s : Bool) → (b && (f || r || (false && v) || (c && l)) || s || false) ≡ (b && (f || r || (c && l)) || s)
    alg b f r v c l s = grind arith

-- what becomes of it, by what ends it
ended : (k : Deferral → Bool) (p : ℕ) (branch fall : Bool) (d : Digest) (m : Move) (l : Bool) → IsDeferring k p branch fall d m → (part_at (put k) p d.arcs ≡ true → part_at loose p d.arcs ≡ l) → (branch ≡ true → fall ≡ true → part_at (put k) p m.next.arcs ≡ false) → (v : Bool)
    → (branch && (fall || told_rolled m.outs || (told_committed m.outs && l)) || said_begin p m.outs) ≡ v → part_at (put k) p m.next.arcs ≡ (not v && part_at (put k) p d.arcs)
ended k p branch fall d m l h1 h2 h3 v h4 = grind arith

answers : (k : Deferral → Bool) → k Deferral.None ≡ false → (v x y : Bool) (f : Deferral) → y ≡ (not v && x) → x ≡ k f → y ≡ k (if v then Deferral.None else f)
answers k none true x y f h i = h ∙ sym none
answers k none false x y f h i = h ∙ i

both_part : (g h : Dialogue → Bool) (p : ℕ) (arcs : List Arc) → part_at (λ x. g x && h x) p arcs ≡ (part_at g p arcs && part_at h p arcs)
both_part g h p arcs = grind arith

-- the arc keeps its units in what comes first, if something is deferred there
units_first : (k : Deferral → Bool) → k Deferral.None ≡ false → (who : Who) (p : ℕ) (d : Digest) (e : Event) → refusal who d e ≡ None → is_live_with_peer (prelude who d e).arcs p ≡ true → is_live_with_peer d.arcs p ≡ true → part_at (put k) p (prelude who d e).arcs ≡ part_at (put k) p d.arcs
    → part_at (put k) p (prelude who d e).arcs ≡ true → part_at loose p (prelude who d e).arcs ≡ part_at loose p d.arcs
units_first k none who p d e ok live was same on = go (first_part who (λ x. put k x && loose x) p d e ok (λ v x. rw none refl) live)
  where
    s : Digest
    s = prelude who d e

    flat : (x y z w : Bool) → (x && y) ≡ (z && w) → x ≡ true → z ≡ true → y ≡ w
    flat x y z w h i j = sym (ap (λ (v : Bool). v && y) i) ∙ h ∙ ap (λ (v : Bool). v && w) j

    go : ((is_live_with_peer d.arcs p ≡ true) × (part_at (λ x. put k x && loose x) p s.arcs ≡ part_at (λ x. put k x && loose x) p d.arcs)) ⊎ ((is_live_with_peer d.arcs p ≡ false) × (part_at (λ x. put k x && loose x) p s.arcs ≡ false)) → part_at loose p s.arcs ≡ part_at loose p d.arcs
    go (inl f) = flat (part_at (put k) p s.arcs) (part_at loose p s.arcs) (part_at (put k) p d.arcs) (part_at loose p d.arcs) (sym (both_part (put k) loose p s.arcs) ∙ f.1 ∙ both_part (put k) loose p d.arcs) on (sym same ∙ on)
    go (inr f) = absurd (let off = f.0 in cc (was, off))

abbrev IsKnown : (Deferral → Bool) → Origin → List Entry → Type 0
IsKnown k o h = (p : ℕ) → is_live_with_peer (digest o h).arcs p ≡ true → part_at (put k) p (digest o h).arcs ≡ k (deferral_in o p h)

-- ---- events that put nothing off there, begin nothing there, and are no leaving

given_by : (o : Origin) (up : Option Addr) (e : Entry) (h : List Entry) (p : ℕ) → IsGrown o up (e ∷ h) → IsAside e.event p → (e.event ≡ Event.Crash → ⊥) → IsGiven o.who e.event (prelude o.who (digest o h) e.event) p (was_branch o p h) (rolls o.who (digest o h) e.event)
given_by o up e h p legal aside calm = record {
  is_branch = go (came_by o.who d e.event legal.0);
  falls_so = λ c f arcs at asked fall. rolls_so o.who d e.event legal.0 c f arcs at asked fall;
}
  where
    d : Digest
    d = digest o h

    go : Came o.who d e.event → (c : Current) → (prelude o.who d e.event).current ≡ Some c → (is_under_at c.key p || has_branch_at c.branches p) ≡ was_branch o p h
    go (As_it_was i) c at = sym (branch_now o p h c (sym i ∙ at))
    go (By_begin from x y q t b g a is found cur nil above) c at =
        let same : fresh_current (Under t b a.peer) ≡ c = ap (λ (v : Option Current). elim v as (λ _. Current) [ None ↦ fresh_current (Under t b a.peer) | Some z ↦ z ]) (sym cur ∙ at) in
        let off : (from.node == p) ≡ false = sym (ap (λ (f : Event). begins_at f p) is) ∙ aside.begun in
        let node : a.peer.node ≡ from.node = find_arc_is d.arcs from.node a found in
        subst (λ (z : Current). (is_under_at z.key p || has_branch_at z.branches p) ≡ was_branch o p h) same (rw (node, off) (sym (branch_none o p h (nothing_late d (late_law o up h legal.3) nil))))
    go (By_crash is cur) c at = absurd (calm is)

aside_step : (k : Deferral → Bool) → k Deferral.None ≡ false → (o : Origin) (up : Option Addr) (e : Entry) (h : List Entry) (p : ℕ) → IsGrown o up (e ∷ h) → IsKnown k o h → IsAside e.event p → (e.event ≡ Event.Crash → ⊥) → is_live_with_peer (action o.who (digest o h) e.event).next.arcs p ≡ true
    → part_at (put k) p (action o.who (digest o h) e.event).next.arcs ≡ k (deferral_in o p (e ∷ h))
aside_step k none o up e h p legal was aside calm live = on (first_part o.who (put k) p d e.event legal.0 (λ v x. none) first)
  where
    d : Digest
    d = digest o h

    s : Digest
    s = prelude o.who d e.event

    m : Move
    m = action o.who d e.event

    late : IsLate d
    late = late_law o up h legal.3

    branch : Bool
    branch = was_branch o p h

    fall : Bool
    fall = rolls o.who d e.event

    given : IsGiven o.who e.event s p branch fall
    given = given_by o up e h p legal aside calm

    outs : e.outs ≡ m.outs
    outs = ap (λ (x : Entry). x.outs) (sym legal.1)

    moved : Defers k p branch fall s m
    moved = every_move o.who d e.event (Defers k p branch fall) (defers_moves k none o.who p branch fall e.event s given aside) late legal.0

    quiet : Undefers p s m
    quiet = every_move o.who d e.event (Undefers p) (undefers_moves o.who p e.event s aside) late legal.0

    first : is_live_with_peer s.arcs p ≡ true
    first = live_back p s m moved.0 live

    x : IsDeferring k p branch fall s m
    x = moved.1 live

    set : (f : Deferral) → set_deferral o p e h f ≡ f
    set f = set_same o p e h f (ap (λ (xs : List Out). has_said is_defer (said_to p xs)) outs ∙ quiet) (no_defer o p e.event h aside.deferral)

    early : (is_active (phase_of d) || is_ready (phase_of d)) ≡ true → is_rolling (phase_of d) ≡ false
    early i = apart (phase_of d) i
      where
        apart : (q : Phase) → (is_active q || is_ready q) ≡ true → is_rolling q ≡ false
        apart q i = grind (arith, i)

    flat : fall ≡ true → is_rolling (phase_of s) ≡ false
    flat f = go (came_by o.who d e.event legal.0)
      where
        dead : (q : Phase) → (is_active q || is_ready q) ≡ true → is_nil q ≡ true → ⊥
        dead q i j = grind (arith, i, j)

        go : Came o.who d e.event → is_rolling (phase_of s) ≡ false
        go (As_it_was i) = ap (λ (v : Option Current). is_rolling (elim v as (λ _. Phase) [ None ↦ Phase.Nil | Some c ↦ c.phase ])) i ∙ early (rolls_from o.who d e.event f)
        go (By_begin from y z q t b g a is found cur nil above) = absurd (dead (phase_of d) (rolls_from o.who d e.event f) nil)
        go (By_crash is cur) = absurd (calm is)

    down : branch ≡ true → fall ≡ true → part_at (put k) p m.next.arcs ≡ false
    down b f = go d.current refl
      where
        told : IsDownMove m → part_at (put k) p m.next.arcs ≡ false
        told (inl i) = x.unrolled b i
        told (inr i) = x.rolled b (flat f) (ap is_rolling (phase_at m.next i.0 i.1) ∙ i.2)

        go : (v : Option Current) → d.current ≡ v → part_at (put k) p m.next.arcs ≡ false
        go None i = absurd (let off : branch ≡ false = branch_none o p h i in cc (b, off))
        go (Some c) i = told (down_event o.who d e.event c legal.0 f i)

    on : ((is_live_with_peer d.arcs p ≡ true) × (part_at (put k) p s.arcs ≡ part_at (put k) p d.arcs)) ⊎ ((is_live_with_peer d.arcs p ≡ false) × (part_at (put k) p s.arcs ≡ false)) → part_at (put k) p m.next.arcs ≡ k (deferral_in o p (e ∷ h))
    on (inl f) =
        let is : ends_deferral o p e h ≡ (branch && (fall || told_rolled m.outs || (told_committed m.outs && part_at loose p d.arcs)) || said_begin p m.outs) = ends_is o p e h m.outs outs aside.stays (no_begin o p e.event h aside.begun) in
        answers k none (ends_deferral o p e h) (part_at (put k) p s.arcs) (part_at (put k) p m.next.arcs) (deferral_in o p h)
        (ended k p branch fall s m (part_at loose p d.arcs) x (units_first k none o.who p d e.event legal.0 first f.0 f.1) down (ends_deferral o p e h) (sym is))
        (f.1 ∙ was p f.0)
        ∙ ap k (ap (λ (v : Deferral). if ends_deferral o p e h then Deferral.None else v) (sym (set (deferral_in o p h))) ∙ sym (answer_live o p e h f.0))
    on (inr f) =
        let off : part_at (put k) p m.next.arcs ≡ false = elim x.kept [ inl i ↦ i ∙ f.1 | inr i ↦ i.0 ] in
        off ∙ sym (ap k (answer_dead o p e h f.0) ∙ none)

-- ---- the user defers something there

-- what a request that defers something says, and what it defers
record IsPutting (r : Request) (p : ℕ) (a : Asked) (w : DialogueRecord) (v : Deferral) : Type 0 where
  does : (who : Who) (d : Digest) → action who d (Event.Do r) ≡ transact who (TxEvent.User r) (record d { arcs = with_dialogue d.arcs p (said a) })
  says : (t : Transaction) → (transacted (TxEvent.User r) t).outs ≡ TxOut.Carry p w ∷ []
  stays : (t : Transaction) → (transacted (TxEvent.User r) t).next.phase ≡ t.phase
  puts : (x : Dialogue) → (said a x).deferral ≡ v
  rolls_not : (who : Who) (d : Digest) → rolls who d (Event.Do r) ≡ false
  changed : is_unchanged (Event.Do r) ≡ false
  begins_not : is_begin w ≡ false
  means : (f : Deferral) → (if is_defer_end_record w then Deferral.End else if is_defer_grant_record w then Deferral.Grant else f) ≡ v

one_said : (g : DialogueRecord → Bool) (p : ℕ) (arcs : List Arc) (r : DialogueRecord) → is_live_with_peer arcs p ≡ true → has_said g (said_to p (performed arcs (TxOut.Carry p r ∷ [])).1) ≡ g r
one_said g p arcs r live = grind (arith, nat_tests, said_both, said_carried)

part_dialogue_here : (k : Deferral → Bool) (p : ℕ) (arcs : List Arc) (f : Dialogue → Dialogue) (v : Deferral) → ((x : Dialogue) → (f x).deferral ≡ v) → is_live_with_peer arcs p ≡ true → part_at (put k) p (with_dialogue arcs p f) ≡ k v
part_dialogue_here k p arcs f v is live = grind (arith, nat_tests, part_dialogue)

-- the entry ends nothing, and puts v off
put_now : (k : Deferral → Bool) (o : Origin) (p : ℕ) (e : Entry) (h : List Entry) (v : Deferral) → is_live_with_peer (digest o h).arcs p ≡ true → is_unchanged e.event ≡ false → is_record is_begin (acting_from o p e.event h) ≡ false
    → rolls o.who (digest o h) e.event ≡ false → told_rolled e.outs ≡ false → told_committed e.outs ≡ false → said_begin p e.outs ≡ false → set_deferral o p e h (deferral_in o p h) ≡ v → deferral_in o p (e ∷ h) ≡ v
put_now k o p e h v live stays calm flat unrolled uncommitted unbegun set =
    let off : ends_deferral o p e h ≡ false = ends_is o p e h e.outs refl stays calm ∙ rw (flat, unrolled, uncommitted, unbegun) (none (was_branch o p h)) in
    answer_live o p e h live ∙ rw off set
  where
    none : (b : Bool) → (b && false || false) ≡ false
    none true = refl
    none false = refl

asks_step : (k : Deferral → Bool) → k Deferral.None ≡ false → (o : Origin) (up : Option Addr) (h : List Entry) (p : ℕ) (r : Request) (a : Asked) (w : DialogueRecord) (v : Deferral) (rec : Option LogRec) (outs : List Out) → IsPutting r p a w v
    → IsGrown o up (record { event = Event.Do r; rec = rec; outs = outs } ∷ h) → is_live_with_peer (digest o h).arcs p ≡ true → (c : Current) → (digest o h).current ≡ Some c → is_live_with_peer (action o.who (digest o h) (Event.Do r)).next.arcs p ≡ true
    → part_at (put k) p (action o.who (digest o h) (Event.Do r)).next.arcs ≡ k (deferral_in o p (record { event = Event.Do r; rec = rec; outs = outs } ∷ h))
asks_step k none o up h p r a w v rec outs is legal was c now live =
    now_put ∙ sym (ap k (put_now k o p e h v was is.changed refl (is.rolls_not o.who d) (ap told_rolled said_is ∙ told_performed is_rolled_told g.arcs (TxOut.Carry p w ∷ [])) (ap told_committed said_is ∙ told_performed is_committed_told g.arcs (TxOut.Carry p w ∷ []))
    (ap (said_begin p) said_is ∙ one_said is_begin p g.arcs w up_there ∙ is.begins_not) set))
  where
    d : Digest
    d = digest o h

    e : Entry
    e = record { event = Event.Do r; rec = rec; outs = outs }

    g : Digest
    g = record d { arcs = with_dialogue d.arcs p (said a) }

    up_there : is_live_with_peer g.arcs p ≡ true
    up_there = live_dialogue d.arcs p (said a) p ∙ was

    t : Transaction
    t = seen o.who g.arcs c

    m : Move
    m = action o.who d (Event.Do r)

    sent : Move
    sent = transact o.who (TxEvent.User r) g

    moved : (sent.next.arcs ≡ (performed g.arcs (transacted (TxEvent.User r) t).outs).0) × (sent.outs ≡ (performed g.arcs (transacted (TxEvent.User r) t).outs).1)
    moved = still_transact o.who (TxEvent.User r) g c now (is.stays t)

    arcs_is : m.next.arcs ≡ (performed g.arcs (TxOut.Carry p w ∷ [])).0
    arcs_is = ap (λ (n : Move). n.next.arcs) (is.does o.who d) ∙ moved.0 ∙ ap (λ (os : List TxOut). (performed g.arcs os).0) (is.says t)

    said_is : outs ≡ (performed g.arcs (TxOut.Carry p w ∷ [])).1
    said_is = ap (λ (x : Entry). x.outs) (sym legal.1) ∙ ap (λ (n : Move). n.outs) (is.does o.who d) ∙ moved.1 ∙ ap (λ (os : List TxOut). (performed g.arcs os).1) (is.says t)

    now_put : part_at (put k) p m.next.arcs ≡ k v
    now_put =
        let lived : is_live_with_peer (performed g.arcs (TxOut.Carry p w ∷ [])).0 p ≡ true = ap (λ (xs : List Arc). is_live_with_peer xs p) (sym arcs_is) ∙ live in
        ap (part_at (put k) p) arcs_is ∙ (keeps_performed (put k) p g.arcs (TxOut.Carry p w ∷ []) lived).1 ∙ part_dialogue_here k p d.arcs (said a) v is.puts was

    set : set_deferral o p e h (deferral_in o p h) ≡ v
    set =
        let one : has_said is_defer_end_record (said_to p outs) ≡ is_defer_end_record w = ap (λ (xs : List Out). has_said is_defer_end_record (said_to p xs)) said_is ∙ one_said is_defer_end_record p g.arcs w up_there in
        let two : has_said is_defer_grant_record (said_to p outs) ≡ is_defer_grant_record w = ap (λ (xs : List Out). has_said is_defer_grant_record (said_to p xs)) said_is ∙ one_said is_defer_grant_record p g.arcs w up_there in
        rw (one, two) (flat (is_defer_end_record w) (is_defer_grant_record w) (deferral_in o p h)) ∙ is.means (deferral_in o p h)
      where
        flat : (x y : Bool) (f : Deferral) → (if x || false then Deferral.End else if y || false then Deferral.Grant else f) ≡ (if x then Deferral.End else if y then Deferral.Grant else f)
        flat true y f = refl
        flat false true f = refl
        flat false false f = refl

putting_end : (p : ℕ) → IsPutting (Request.DeferEnd p) p Ask_defer_end DialogueRecord.DeferEnd Deferral.End
unfolding said
putting_end p = record {
  does = λ who d. refl;
  says = λ t. refl;
  stays = λ t. row_phase t p (λ r. record r { ends = true });
  puts = λ x. refl;
  rolls_not = λ who d. refl;
  changed = refl;
  begins_not = refl;
  means = λ f. refl;
}

putting_grant : (p : ℕ) → IsPutting (Request.DeferGrant p) p Ask_defer_grant DialogueRecord.DeferGrant Deferral.Grant
unfolding said
putting_grant p = record {
  does = λ who d. refl;
  says = λ t. refl;
  stays = λ t. refl;
  puts = λ x. refl;
  rolls_not = λ who d. refl;
  changed = refl;
  begins_not = refl;
  means = λ f. refl;
}

-- it is asked on a live arc, while a transaction is there
asked_end : (who : Who) (d : Digest) (p : ℕ) → refused_request who d (Request.DeferEnd p) ≡ None → (is_live_with_peer d.arcs p ≡ true) × (d.current ≡ None → ⊥)
unfolding refused_request refused_on_arc situation_of
asked_end who d p ok = grind arith

asked_grant : (who : Who) (d : Digest) (p : ℕ) → refused_request who d (Request.DeferGrant p) ≡ None → (is_live_with_peer d.arcs p ≡ true) × (d.current ≡ None → ⊥)
unfolding refused_request refused_on_arc situation_of
asked_grant who d p ok = grind arith

pub now_some : (o : Option Current) → (o ≡ None → ⊥) → (c : Current) × (o ≡ Some c)
now_some None never = absurd (never refl)
now_some (Some c) never = (c, refl)

-- ---- a record defers something there

-- what a record that defers something tells, and what it defers
record IsHearing (r : DialogueRecord) (a : Heard) (i : ℕ → Indication) (v : Deferral) : Type 0 where
  does : (who : Who) (b : Arc) (d : Digest) → take_record who b r d ≡ transact who (TxEvent.Took b.peer.node r) (record d { arcs = with_dialogue d.arcs b.peer.node (heard a) })
  tells : (n : ℕ) (t : Transaction) → (transacted (TxEvent.Took n r) t).outs ≡ TxOut.Tell (i n) ∷ []
  stays : (n : ℕ) (t : Transaction) → (transacted (TxEvent.Took n r) t).next.phase ≡ t.phase
  plain : (n : ℕ) → (is_rolled_told (i n) ≡ false) × (is_committed_told (i n) ≡ false)
  puts : (x : Dialogue) → (heard a x).deferral ≡ v
  rolls_not : (who : Who) (d : Digest) (n : ℕ) → rolls_by_record who d n r ≡ false
  response : is_response r ≡ false
  begins_not : is_begin r ≡ false
  means : (f : Deferral) → (if is_defer_end_record r then Deferral.End else if is_defer_grant_record r then Deferral.Grant else f) ≡ v
  acting : (who : Who) (d : Digest) (b : Arc) → sight_at who d b r ≡ Acts → d.current ≡ None → ⊥

acts_end : (who : Who) (d : Digest) (b : Arc) → sight_at who d b DialogueRecord.DeferEnd ≡ Acts → d.current ≡ None → ⊥
unfolding sight_of arrived situation_of
acts_end who d b h i = absurd (grind (arith, h, i))

acts_grant : (who : Who) (d : Digest) (b : Arc) → sight_at who d b DialogueRecord.DeferGrant ≡ Acts → d.current ≡ None → ⊥
unfolding sight_of arrived situation_of
acts_grant who d b h i = absurd (grind (arith, h, i))

hearing_end : IsHearing DialogueRecord.DeferEnd Hear_defer_end (λ n. Indication.DeferEnd n) Deferral.End
unfolding heard sight_of_tx
hearing_end = record {
  does = λ who b d. refl;
  tells = λ n t. refl;
  stays = λ n t. refl;
  plain = λ n. (refl, refl);
  puts = λ x. refl;
  rolls_not = λ who d n. refl;
  response = refl;
  begins_not = refl;
  means = λ f. refl;
  acting = acts_end;
}

hearing_grant : IsHearing DialogueRecord.DeferGrant Hear_defer_grant (λ n. Indication.DeferGrant n) Deferral.Grant
unfolding heard sight_of_tx
hearing_grant = record {
  does = λ who b d. refl;
  tells = λ n t. refl;
  stays = λ n t. refl;
  plain = λ n. (refl, refl);
  puts = λ x. refl;
  rolls_not = λ who d n. refl;
  response = refl;
  begins_not = refl;
  means = λ f. refl;
  acting = acts_grant;
}

-- what the node knows with the record counted
abbrev pub counted : DialogueRecord → ℕ → Digest → Digest
counted r n d = woken_by r n (record d { arcs = with_link d.arcs n with_one_taken })

counted_keeps : (k : Deferral → Bool) (r : DialogueRecord) (n p : ℕ) (d : Digest) → is_response r ≡ false → Keeps (put k) p d.arcs (counted r n d).arcs
counted_keeps k r n p d plain live =
    let xs : List Arc = with_link d.arcs n with_one_taken in
    let is : (counted r n d).arcs ≡ with_dialogue xs n woken = rw (plain, woken_by) refl in
    let lived : is_live_with_peer xs p ≡ true = sym (live_dialogue xs n woken p) ∙ ap (λ (ys : List Arc). is_live_with_peer ys p) (sym is) ∙ live in
    let w = keeps_taken (put k) p d.arcs n lived in
    (w.0, ap (part_at (put k) p) is ∙ same_part (put k) p n woken xs (λ at. put_woken k) ∙ w.1)

-- the arc on which a record is taken, and the record that acts there
pub taken_arc : (who : Who) (d : Digest) (from : Addr) (x y : Mark) (q : ℕ) (r : DialogueRecord) → refusal who d (the from x y q r) ≡ None → (b : Arc) × (find_arc d.arcs from.node ≡ Some b) × (b.peer.node ≡ from.node) × (action who d (the from x y q r) ≡ take_on who b r d)
taken_arc who d from x y q r ok = go (find_arc d.arcs from.node) refl
  where
    go : (v : Option Arc) → find_arc d.arcs from.node ≡ v → (b : Arc) × (find_arc d.arcs from.node ≡ Some b) × (b.peer.node ≡ from.node) × (action who d (the from x y q r) ≡ take_on who b r d)
    go None i = absurd (on_none who d from x y q r (plain_arrival who d from _ ok) i)
    go (Some b) i = (b, i, find_arc_is d.arcs from.node b i, ap (λ (v : Option Arc). elim v as (λ _. Move) [ None ↦ move [] d | Some a ↦ take_on who a r d ]) i)

pub acting_is : (o : Origin) (p : ℕ) (from : Addr) (x y : Mark) (q : ℕ) (r : DialogueRecord) (h : List Entry) (b : Arc) → from.node ≡ p → find_arc (digest o h).arcs from.node ≡ Some b → acting_from o p (the from x y q r) h ≡ (if acts (sight_at o.who (digest o h) b r) then Some r else None)
acting_is o p from x y q r h b at found =
    let here : (from.node == p) ≡ true = grind (arith, nat_tests, at) in
    let there : find_arc (digest o h).arcs p ≡ Some b = ap (find_arc (digest o h).arcs) (sym at) ∙ found in
    rw (here, there, acting_from) refl

hears_step : (k : Deferral → Bool) → k Deferral.None ≡ false → (o : Origin) (up : Option Addr) (h : List Entry) (p : ℕ) (from : Addr) (x y : Mark) (q : ℕ) (r : DialogueRecord) (a : Heard) (i : ℕ → Indication) (v : Deferral) (rec : Option LogRec) (outs : List Out) → IsHearing r a i v → from.node ≡ p
    → IsGrown o up (record { event = the from x y q r; rec = rec; outs = outs } ∷ h) → IsKnown k o h → is_live_with_peer (action o.who (digest o h) (the from x y q r)).next.arcs p ≡ true
    → part_at (put k) p (action o.who (digest o h) (the from x y q r)).next.arcs ≡ k (deferral_in o p (record { event = the from x y q r; rec = rec; outs = outs } ∷ h))
hears_step k none o up h p from x y q r a i v rec outs is at legal known live = go (sight_at o.who d b r) refl
  where
    d : Digest
    d = digest o h

    e : Entry
    e = record { event = the from x y q r; rec = rec; outs = outs }

    m : Move
    m = action o.who d e.event

    arc : (b : Arc) × (find_arc d.arcs from.node ≡ Some b) × (b.peer.node ≡ from.node) × (m ≡ take_on o.who b r d)
    arc = taken_arc o.who d from x y q r legal.0

    b : Arc
    b = arc.0

    n : ℕ
    n = b.peer.node

    here : n ≡ p
    here = arc.2 ∙ at

    was : is_live_with_peer d.arcs p ≡ true
    was = ap (is_live_with_peer d.arcs) (sym at) ∙ on_live o.who d from x y q r (plain_arrival o.who d from _ legal.0)

    said_is : outs ≡ m.outs
    said_is = ap (λ (z : Entry). z.outs) (sym legal.1)

    acting : acting_from o p e.event h ≡ (if acts (sight_at o.who d b r) then Some r else None)
    acting = acting_is o p from x y q r h b at arc.1

    calm : (w : Bool) → is_record is_begin (if w then Some r else None) ≡ false
    calm true = is.begins_not
    calm false = refl

    none_begins : is_record is_begin (acting_from o p e.event h) ≡ false
    none_begins = ap (is_record is_begin) acting ∙ calm (acts (sight_at o.who d b r))

    -- nothing is told or said but this
    ends_not : (w : Deferral) (os : List Out) → outs ≡ os → told_rolled os ≡ false → told_committed os ≡ false → said_begin p os ≡ false → set_deferral o p e h (deferral_in o p h) ≡ w → deferral_in o p (e ∷ h) ≡ w
    ends_not w os same unrolled uncommitted unbegun set = put_now k o p e h w was refl none_begins (is.rolls_not o.who d from.node) (ap told_rolled same ∙ unrolled) (ap told_committed same ∙ uncommitted) (ap (said_begin p) same ∙ unbegun) set

    silent : (w : Sight) → sight_at o.who d b r ≡ w → m ≡ move [] (counted r n d) → acts w ≡ false → part_at (put k) p m.next.arcs ≡ k (deferral_in o p (e ∷ h))
    silent w j moved off =
        let arcs : m.next.arcs ≡ (counted r n d).arcs = ap (λ (z : Move). z.next.arcs) moved in
        let nothing : outs ≡ [] = said_is ∙ ap (λ (z : Move). z.outs) moved in
        let no : acting_from o p e.event h ≡ None = acting ∙ rw (ap acts j ∙ off) refl in
        let set : set_deferral o p e h (deferral_in o p h) ≡ deferral_in o p h = set_same o p e h (deferral_in o p h) (ap (λ (xs : List Out). has_said is_defer (said_to p xs)) nothing) (ap (is_record is_defer) no) in
        ap (part_at (put k) p) arcs ∙ (counted_keeps k r n p d is.response (ap (λ (xs : List Arc). is_live_with_peer xs p) (sym arcs) ∙ live)).1 ∙ known p was ∙ sym (ap k (ends_not (deferral_in o p h) [] nothing refl refl refl set))

    g : Digest
    g = record (counted r n d) { arcs = with_dialogue (counted r n d).arcs n (heard a) }

    heard_now : m ≡ transact o.who (TxEvent.Took n r) g → acts (sight_at o.who d b r) ≡ true → (c : Current) → g.current ≡ Some c → part_at (put k) p m.next.arcs ≡ k (deferral_in o p (e ∷ h))
    heard_now moved on c now =
        let t : Transaction = seen o.who g.arcs c in
        let one = still_transact o.who (TxEvent.Took n r) g c now (is.stays n t) in
        let arcs : m.next.arcs ≡ g.arcs = ap (λ (z : Move). z.next.arcs) moved ∙ one.0 ∙ ap (λ (os : List TxOut). (performed g.arcs os).0) (is.tells n t) in
        let said : outs ≡ Out.Tell (i n) ∷ [] = said_is ∙ ap (λ (z : Move). z.outs) moved ∙ one.1 ∙ ap (λ (os : List TxOut). (performed g.arcs os).1) (is.tells n t) in
        let lived : is_live_with_peer (counted r n d).arcs n ≡ true = sym (live_dialogue (counted r n d).arcs n (heard a) n) ∙ ap (is_live_with_peer g.arcs) here ∙ ap (λ (xs : List Arc). is_live_with_peer xs p) (sym arcs) ∙ live in
        let put_here : part_at (put k) n g.arcs ≡ k v = part_dialogue_here k n (counted r n d).arcs (heard a) v is.puts lived in
        let some : acting_from o p e.event h ≡ Some r = acting ∙ rw on refl in
        let set : set_deferral o p e h (deferral_in o p h) ≡ v = rw (said, some) (is.means (deferral_in o p h)) in
        let unrolled : told_rolled (Out.Tell (i n) ∷ []) ≡ false = let off = (is.plain n).0 in rw off refl in
        let uncommitted : told_committed (Out.Tell (i n) ∷ []) ≡ false = let off = (is.plain n).1 in rw off refl in
        ap (part_at (put k) p) arcs ∙ ap (λ (z : ℕ). part_at (put k) z g.arcs) (sym here) ∙ put_here ∙ sym (ap k (ends_not v (Out.Tell (i n) ∷ []) said unrolled uncommitted refl set))

    taken : (w : Sight) → sight_at o.who d b r ≡ w → m ≡ elim w as (λ _. Move) [ Acts ↦ take_record o.who b r (counted r n d) | Nothing_happens ↦ move [] (counted r n d) | Out_of_phase ↦ move [] (counted r n d) ]
    taken w j = arc.3 ∙ ap (λ (z : Sight). elim z as (λ _. Move) [ Acts ↦ take_record o.who b r (counted r n d) | Nothing_happens ↦ move [] (counted r n d) | Out_of_phase ↦ move [] (counted r n d) ]) j

    go : (w : Sight) → sight_at o.who d b r ≡ w → part_at (put k) p m.next.arcs ≡ k (deferral_in o p (e ∷ h))
    go Acts j =
        let c = now_some d.current (is.acting o.who d b j) in
        let same : g.current ≡ d.current = grind arith in
        heard_now (taken Acts j ∙ is.does o.who b (counted r n d)) (ap acts j) c.0 (same ∙ c.1)
    go Nothing_happens j = silent Nothing_happens j (taken Nothing_happens j) refl
    go Out_of_phase j = silent Out_of_phase j (taken Out_of_phase j) refl

-- ---- a record begins a transaction there

aside_purge : (p : ℕ) → IsAside Event.Purge p
aside_purge p = record { deferral = refl; begun = refl; stays = refl }

-- where nothing is current at first
given_purge : (who : Who) (d : Digest) (p : ℕ) (branch fall : Bool) → IsGiven who Event.Purge (record d { current = None }) p branch fall
given_purge who d p branch fall = record { is_branch = λ c i. absurd (cc (i)); falls_so = λ c f arcs i. absurd (cc (i)) }

start_defers : (k : Deferral → Bool) → k Deferral.None ≡ false → (who : Who) (p : ℕ) (branch fall : Bool) (d : Digest) → Defers k p branch fall d (try_start who d)
start_defers k none who p branch fall d = every_start who Event.Purge (record d { current = None }) (Defers k p branch fall) (defers_moves k none who p branch fall Event.Purge (record d { current = None }) (given_purge who d p branch fall) (aside_purge p)) d

start_undefers : (who : Who) (p : ℕ) (d : Digest) → Undefers p d (try_start who d)
start_undefers who p d = every_start who Event.Purge (record d { current = None }) (Undefers p) (undefers_moves who p Event.Purge (record d { current = None }) (aside_purge p)) d

chained_defers : (k : Deferral → Bool) → k Deferral.None ≡ false → (who : Who) (p : ℕ) (branch fall : Bool) (d : Digest) → Defers k p branch fall d (begin_chained who d)
chained_defers k none who p branch fall d =
    let s : Digest = record d { current = None } in
    step_chained who Event.Purge s (Defers k p branch fall) (plain_steps who Event.Purge s (Defers k p branch fall) (defers_moves k none who p branch fall Event.Purge s (given_purge who d p branch fall) (aside_purge p))) d

begun_off : (k : Deferral → Bool) → k Deferral.None ≡ false → (who : Who) (b : Arc) (t : Aaid) (i : BranchId) (v : Holder) (d : Digest) (p : ℕ) → b.peer.node ≡ p → is_live_with_peer (take_begin who b t i v d).next.arcs p ≡ true → part_at (put k) p (take_begin who b t i v d).next.arcs ≡ false
unfolding take_begin
begun_off k none who b t i v d p at live = elim x.kept [ inl w ↦ w ∙ off | inr w ↦ w.0 ]
  where
    n : ℕ
    n = b.peer.node

    g : Digest
    g = record d { arcs = with_dialogue d.arcs n (begun_by v Side.Subordinate); current = Some (fresh_current (Under t i b.peer)) }

    moved : Defers k p false false g (begin_chained who g)
    moved = chained_defers k none who p false false g

    x : IsDeferring k p false false g (begin_chained who g)
    x = moved.1 live

    here : (n == p) ≡ true
    here = grind (arith, nat_tests, at)

    off : part_at (put k) p g.arcs ≡ false
    off = part_dialogue (put k) p d.arcs n (begun_by v Side.Subordinate) ∙ rw here (part_none (λ z. put k (begun_by v Side.Subordinate z)) p d.arcs (put_begun k none v Side.Subordinate))

begins_step : (k : Deferral → Bool) → k Deferral.None ≡ false → (o : Origin) (up : Option Addr) (h : List Entry) (p : ℕ) (from : Addr) (x y : Mark) (q : ℕ) (t : Aaid) (i : BranchId) (v : Holder) (rec : Option LogRec) (outs : List Out) → from.node ≡ p
    → IsGrown o up (record { event = the from x y q (DialogueRecord.Begin t i v); rec = rec; outs = outs } ∷ h) → is_live_with_peer (action o.who (digest o h) (the from x y q (DialogueRecord.Begin t i v))).next.arcs p ≡ true
    → part_at (put k) p (action o.who (digest o h) (the from x y q (DialogueRecord.Begin t i v))).next.arcs ≡ k (deferral_in o p (record { event = the from x y q (DialogueRecord.Begin t i v); rec = rec; outs = outs } ∷ h))
begins_step k none o up h p from x y q t i v rec outs at legal live = ap (λ (z : Move). part_at (put k) p z.next.arcs) moved ∙ off ∙ sym (ap k asked ∙ none)
  where
    d : Digest
    d = digest o h

    r : DialogueRecord
    r = DialogueRecord.Begin t i v

    e : Entry
    e = record { event = the from x y q r; rec = rec; outs = outs }

    m : Move
    m = action o.who d e.event

    arc : (b : Arc) × (find_arc d.arcs from.node ≡ Some b) × (b.peer.node ≡ from.node) × (m ≡ take_on o.who b r d)
    arc = taken_arc o.who d from x y q r legal.0

    b : Arc
    b = arc.0

    acts_so : sight_at o.who d b r ≡ Acts
    acts_so = begin_acts o.who d from x y q t i v b (plain_arrival o.who d from _ legal.0) arc.1 (sight_at o.who d b r) refl

    moved : m ≡ take_begin o.who b t i v (counted r b.peer.node d)
    moved = arc.3 ∙ ap (λ (z : Sight). elim z as (λ _. Move) [ Acts ↦ take_record o.who b r (counted r b.peer.node d) | Nothing_happens ↦ move [] (counted r b.peer.node d) | Out_of_phase ↦ move [] (counted r b.peer.node d) ]) acts_so

    off : part_at (put k) p (take_begin o.who b t i v (counted r b.peer.node d)).next.arcs ≡ false
    off = begun_off k none o.who b t i v (counted r b.peer.node d) p (arc.2 ∙ at) (ap (λ (z : Move). is_live_with_peer z.next.arcs p) (sym moved) ∙ live)

    was : is_live_with_peer d.arcs p ≡ true
    was = ap (is_live_with_peer d.arcs) (sym at) ∙ on_live o.who d from x y q r (plain_arrival o.who d from _ legal.0)

    begins : is_record is_begin (acting_from o p e.event h) ≡ true
    begins = ap (is_record is_begin) (acting_is o p from x y q r h b at arc.1) ∙ rw acts_so refl

    last : (u w z : Bool) → z ≡ true → (u || w || z) ≡ true
    last u w z i = grind (arith, i)

    ends : ends_deferral o p e h ≡ true
    ends =
        last (was_branch o p h && (rolls o.who d e.event || tells_rollback_complete outs || (is_unchanged e.event && not (is_up o p h)) || (tells_commit_complete outs && has_bit (units_before o p h) 32)))
        (has_said is_begin (said_to p outs)) (is_record is_begin (acting_from o p e.event h)) begins

    asked : deferral_in o p (e ∷ h) ≡ Deferral.None
    asked = answer_live o p e h was ∙ rw ends refl

-- ---- the user leaves

left_arc : (t : Transaction) (p : ℕ) (a : Arc) → a.peer.node ≡ p → is_arc_below t a ≡ (not (is_under_at t.key p) && row_holds t.rows p (λ b. true))
left_arc t p a at = ap (λ (n : ℕ). not (is_under_at t.key n) && row_holds t.rows n (λ b. true)) at

put_rested : (k : Deferral → Bool) (x : Dialogue) → put k (rested x) ≡ put k x
unfolding rested cleared
put_rested k x = refl

loose_rested : (x : Dialogue) → loose (rested x) ≡ loose x
unfolding rested cleared
loose_rested x = refl

left_part : (k : Deferral → Bool) → k Deferral.None ≡ false → (t : Transaction) (p : ℕ) (arcs : List Arc) (b : Bool) → (not (is_under_at t.key p) && row_holds t.rows p (λ b. true)) ≡ b → is_live_with_peer (left_arcs t arcs) p ≡ true
    → (part_at (put k) p (left_arcs t arcs) ≡ (not b && part_at (put k) p arcs)) × (part_at loose p (left_arcs t arcs) ≡ part_at loose p arcs)
left_part k none t p arcs b below live =
    let mid : List Arc = with_dialogues arcs (is_arc_below t) (λ a. completed Outcome.Rollback Side.Superior a.dialogue) in
    let one = keeps_dialogues (put k) p mid (λ a. is_under_at t.key a.peer.node) (λ a. rested a.dialogue) (λ a at is. put_rested k a.dialogue) live in
    let two = keeps_dialogues loose p mid (λ a. is_under_at t.key a.peer.node) (λ a. rested a.dialogue) (λ a at is. loose_rested a.dialogue) live in
    let three = keeps_dialogues loose p arcs (is_arc_below t) (λ a. completed Outcome.Rollback Side.Superior a.dialogue) (λ a at is. loose_completed Outcome.Rollback Side.Superior a.dialogue) one.0 in (
      one.1 ∙ dropped_part k p arcs (is_arc_below t) (λ a. completed Outcome.Rollback Side.Superior a.dialogue) b (λ a at. left_arc t p a at ∙ below) (λ a. put_completed k none Side.Superior a.dialogue),
      two.1 ∙ three.1,
    )

active_is : (p : Phase) → is_active p ≡ true → p ≡ Phase.Active
active_is Phase.Active h = refl
active_is _ h = absurd (cc (h))

-- what a leaving makes of the arcs, and what it says
pub left_turned : (who : Who) (d : Digest) (c : Current) → is_active c.phase ≡ true
    → ((turned who (TxEvent.User Request.Unchanged) d c).next.arcs ≡ left_arcs (seen who d.arcs c) (performed d.arcs (leave (seen who d.arcs c)).outs).0) × ((turned who (TxEvent.User Request.Unchanged) d c).outs ≡ (performed d.arcs (leave (seen who d.arcs c)).outs).1)
    × (passed who (TxEvent.User Request.Unchanged) d c ≡ Leaves)
unfolding entered played leave
left_turned who d c act =
    let t : Transaction = seen who d.arcs c in
    let is : passage true c.phase Phase.Nil ≡ Leaves = ap (λ (p : Phase). passage true p Phase.Nil) (active_is c.phase act) in
    (ap (λ (w : Passage). (played d t w (leave t) (entered t w d.arcs)).0) is, ap (λ (w : Passage). (played d t w (leave t) (entered t w d.arcs)).1) is, is)

-- who may leave: the user of an active transaction with a superior
pub may_leave : (who : Who) (d : Digest) → IsLate d → refused_request who d Request.Unchanged ≡ None → (c : Current) × (d.current ≡ Some c) × (is_active c.phase ≡ true) × (is_under c.key ≡ true)
unfolding refused_request
may_leave who d late ok = go d.current refl
  where
    flat : (p : Phase) → is_nil p ≡ false → is_late p ≡ false → is_active p ≡ true
    flat Phase.Nil h i = absurd (cc (h))
    flat Phase.Active h i = refl
    flat _ h i = absurd (cc (i))

    on : (c : Current) → d.current ≡ Some c → (is_late c.phase ≡ false) × (is_under c.key ≡ true)
    on c i = (grind (arith, ok, i), grind (arith, ok, i))

    go : (o : Option Current) → d.current ≡ o → (c : Current) × (d.current ≡ Some c) × (is_active c.phase ≡ true) × (is_under c.key ≡ true)
    go None i = absurd (grind (arith, ok, i))
    go (Some c) i = let w = on c i in (c, i, flat c.phase (late c i) w.0, w.1)

leave_carries : (t : Transaction) (g : DialogueRecord → Bool) → g DialogueRecord.Left ≡ false → g DialogueRecord.LeftEnd ≡ false → carries_none g (leave t).outs ≡ true
unfolding leave
leave_carries t g h i = grind (arith, none_more, h, i)

-- the superior's arc, and those of branches
pub above_is : (up : Option Addr) (c : Current) (p : ℕ) → is_under c.key ≡ true → is_headed_by up c.key ≡ true → is_under_at c.key p ≡ is_at up p
above_is up c p under head = grind (arith, nat_tests)

leaves_step : (k : Deferral → Bool) → k Deferral.None ≡ false → (o : Origin) (up : Option Addr) (h : List Entry) (p : ℕ) (rec : Option LogRec) (outs : List Out) → IsGrown o up (record { event = Event.Do Request.Unchanged; rec = rec; outs = outs } ∷ h) → IsKnown k o h
    → is_live_with_peer (action o.who (digest o h) (Event.Do Request.Unchanged)).next.arcs p ≡ true
    → part_at (put k) p (action o.who (digest o h) (Event.Do Request.Unchanged)).next.arcs ≡ k (deferral_in o p (record { event = Event.Do Request.Unchanged; rec = rec; outs = outs } ∷ h))
unfolding transact
leaves_step k none o up h p rec outs legal known live =
    ap (λ (z : Move). part_at (put k) p z.next.arcs) moved
    ∙ answers k none (ends_deferral o p e h) (part_at (put k) p d.arcs) (part_at (put k) p st.next.arcs) (deferral_in o p h) all (known p was)
    ∙ ap k (ap (λ (v : Deferral). if ends_deferral o p e h then Deferral.None else v) (sym set) ∙ sym (answer_live o p e h was))
  where
    d : Digest
    d = digest o h

    late : IsLate d
    late = late_law o up h legal.3

    e : Entry
    e = record { event = Event.Do Request.Unchanged; rec = rec; outs = outs }

    m : Move
    m = action o.who d e.event

    may : (c : Current) × (d.current ≡ Some c) × (is_active c.phase ≡ true) × (is_under c.key ≡ true)
    may = may_leave o.who d late (plain_request o.who d Request.Unchanged legal.0)

    c : Current
    c = may.0

    t : Transaction
    t = seen o.who d.arcs c

    one : Move
    one = turned o.who (TxEvent.User Request.Unchanged) d c

    g : Digest
    g = one.next

    st : Move
    st = try_start o.who g

    left : (g.arcs ≡ left_arcs t (performed d.arcs (leave t).outs).0) × (one.outs ≡ (performed d.arcs (leave t).outs).1) × (passed o.who (TxEvent.User Request.Unchanged) d c ≡ Leaves)
    left = left_turned o.who d c may.2

    moved : m ≡ followed one (try_start o.who)
    moved = ap (λ (v : Option Current). elim v as (λ _. Move) [ None ↦ move [] d | Some x ↦ started_next o.who (passed o.who (TxEvent.User Request.Unchanged) d x) (turned o.who (TxEvent.User Request.Unchanged) d x) ]) may.1 ∙ ap (λ (w : Passage). started_next o.who w one) left.2

    lived : is_live_with_peer st.next.arcs p ≡ true
    lived = ap (λ (z : Move). is_live_with_peer z.next.arcs p) (sym moved) ∙ live

    both : Defers k p (was_branch o p h) false g st
    both = start_defers k none o.who p (was_branch o p h) false g

    x : IsDeferring k p (was_branch o p h) false g st
    x = both.1 lived

    xs : List Arc
    xs = (performed d.arcs (leave t).outs).0

    live_left : is_live_with_peer (left_arcs t xs) p ≡ true
    live_left = ap (λ (ys : List Arc). is_live_with_peer ys p) (sym left.0) ∙ x.live

    live_xs : is_live_with_peer xs p ≡ true
    live_xs = ap is_live (sym (link_left t xs p)) ∙ live_left

    was : is_live_with_peer d.arcs p ≡ true
    was = (keeps_performed (put k) p d.arcs (leave t).outs live_xs).0

    below : Bool
    below = not (is_under_at c.key p) && row_holds t.rows p (λ b. true)

    parts : (part_at (put k) p (left_arcs t xs) ≡ (not below && part_at (put k) p xs)) × (part_at loose p (left_arcs t xs) ≡ part_at loose p xs)
    parts = left_part k none t p xs below refl live_left

    put_left : part_at (put k) p g.arcs ≡ (not below && part_at (put k) p d.arcs)
    put_left = ap (part_at (put k) p) left.0 ∙ parts.0 ∙ ap (λ (v : Bool). not below && v) (keeps_performed (put k) p d.arcs (leave t).outs live_xs).1

    units : part_at loose p g.arcs ≡ part_at loose p d.arcs
    units = ap (part_at loose p) left.0 ∙ parts.1 ∙ (keeps_performed loose p d.arcs (leave t).outs live_xs).1

    said_is : outs ≡ one.outs ++ st.outs
    said_is = ap (λ (z : Entry). z.outs) (sym legal.1) ∙ ap (λ (z : Move). z.outs) moved

    told : (f : Indication → Bool) → out_tells f outs ≡ out_tells f st.outs
    told f = ap (out_tells f) said_is ∙ told_append f one.outs st.outs ∙ rw (ap (out_tells f) left.1 ∙ told_performed f d.arcs (leave t).outs ∙ leave_tells f t) refl

    spoken : (f : DialogueRecord → Bool) → f DialogueRecord.Left ≡ false → f DialogueRecord.LeftEnd ≡ false → has_said f (said_to p outs) ≡ has_said f (said_to p st.outs)
    spoken f i j = ap (λ (ys : List Out). has_said f (said_to p ys)) said_is ∙ said_both f p one.outs st.outs ∙ rw (ap (λ (ys : List Out). has_said f (said_to p ys)) left.1 ∙ said_none f p d.arcs (leave t).outs (leave_carries t f i j)) refl

    set : set_deferral o p e h (deferral_in o p h) ≡ deferral_in o p h
    set = set_same o p e h (deferral_in o p h) (spoken is_defer refl refl ∙ start_undefers o.who p g) refl

    head : (is_headed_by up c.key ≡ true) × (are_below up c.branches ≡ true)
    head = headed_law o up h legal.3 c may.1 may.2

    above : is_under_at c.key p ≡ is_at up p
    above = above_is up c p may.3 head.0

    at_top : is_up o p h ≡ is_at up p
    at_top = elim (placed_law o up h legal.3) [
      | inl i ↦ superior_at d p ∙ ap (λ (v : Option Addr). is_at v p) i
      | inr n ↦ absurd (let off = n p in cc (was, off))
    ]

    branches : (was_branch o p h && not (is_up o p h)) ≡ below
    branches = rw (branch_now o p h c may.1, at_top, above, seen_branch d.arcs c.branches p) (go (is_at up p) refl (has_branch_at c.branches p) refl)
      where
        go : (v : Bool) → is_at up p ≡ v → (w : Bool) → has_branch_at c.branches p ≡ w → ((v || w) && not v) ≡ (not v && w)
        go true i w j = refl
        go false i true j = refl
        go false i false j = refl

    rest : Bool
    rest = was_branch o p h && (false || told_rolled st.outs || (told_committed st.outs && part_at loose p d.arcs)) || said_begin p st.outs

    ends_so : ends_deferral o p e h ≡ (below || rest)
    ends_so =
        alg (was_branch o p h) (tells_rollback_complete outs) (not (is_up o p h)) (tells_commit_complete outs) (has_bit (units_before o p h) 32) (has_said is_begin (said_to p outs))
        ∙ rw (branches, rolled_tells outs, committed_tells outs, units_loose o p h, told is_rolled_told, told is_committed_told, spoken is_begin refl refl) refl
      where
        alg : (b r v c l s : Bool) → (b && (false || r || (true && v) || (c && l)) || s || false) ≡ ((b && v) || (b && (false || r || (c && l)) || s))
        alg b r v c l s = grind arith

    behind : part_at (put k) p st.next.arcs ≡ (not rest && part_at (put k) p g.arcs)
    behind = ended k p (was_branch o p h) false g st (part_at loose p d.arcs) x (λ i. units) (λ b f. absurd (cc (f))) rest refl

    all : part_at (put k) p st.next.arcs ≡ (not (ends_deferral o p e h) && part_at (put k) p d.arcs)
    all = behind ∙ ap (λ (v : Bool). not rest && v) put_left ∙ flat rest below (part_at (put k) p d.arcs) ∙ ap (λ (v : Bool). not v && part_at (put k) p d.arcs) (sym ends_so)
      where
        flat : (x y z : Bool) → (not x && (not y && z)) ≡ (not (y || x) && z)
        flat true true z = refl
        flat true false z = refl
        flat false true z = refl
        flat false false z = refl

-- ---- every legal history

-- which of these the event is
data Kind (e : Event) (p : ℕ) : Type 0 where
  Aside : IsAside e p → (e ≡ Event.Crash → ⊥) → Kind e p
  Asks_end : e ≡ Event.Do (Request.DeferEnd p) → Kind e p
  Asks_grant : e ≡ Event.Do (Request.DeferGrant p) → Kind e p
  Hears_end : (from : Addr) (x y : Mark) (q : ℕ) → from.node ≡ p → e ≡ the from x y q DialogueRecord.DeferEnd → Kind e p
  Hears_grant : (from : Addr) (x y : Mark) (q : ℕ) → from.node ≡ p → e ≡ the from x y q DialogueRecord.DeferGrant → Kind e p
  Begins : (from : Addr) (x y : Mark) (q : ℕ) (t : Aaid) (b : BranchId) (v : Holder) → from.node ≡ p → e ≡ the from x y q (DialogueRecord.Begin t b v) → Kind e p
  Leaving : e ≡ Event.Do Request.Unchanged → Kind e p
  Crashes : e ≡ Event.Crash → Kind e p

kind_of : (e : Event) (p : ℕ) → Kind e p
kind_of (Event.Do (Request.DeferEnd q)) p = go (q == p) refl
  where
    go : (b : Bool) → (q == p) ≡ b → Kind (Event.Do (Request.DeferEnd q)) p
    go true i = let same : q ≡ p = grind (arith, nat_tests, i) in Asks_end (ap (λ (n : ℕ). Event.Do (Request.DeferEnd n)) same)
    go false i = Aside (record { deferral = rw i refl; begun = refl; stays = refl }) (λ c. cc (c))
kind_of (Event.Do (Request.DeferGrant q)) p = go (q == p) refl
  where
    go : (b : Bool) → (q == p) ≡ b → Kind (Event.Do (Request.DeferGrant q)) p
    go true i = let same : q ≡ p = grind (arith, nat_tests, i) in Asks_grant (ap (λ (n : ℕ). Event.Do (Request.DeferGrant n)) same)
    go false i = Aside (record { deferral = rw i refl; begun = refl; stays = refl }) (λ c. cc (c))
kind_of (Event.Do Request.Unchanged) p = Leaving refl
kind_of (Event.Do r) p = Aside (record { deferral = grind arith; begun = refl; stays = refl }) (λ c. cc (c))
kind_of (Event.Arrive from (PeerRecord.OnAssoc x y q DialogueRecord.DeferEnd)) p = go (from.node == p) refl
  where
    go : (b : Bool) → (from.node == p) ≡ b → Kind (the from x y q DialogueRecord.DeferEnd) p
    go true i = Hears_end from x y q (grind (arith, nat_tests, i)) refl
    go false i = Aside (record { deferral = rw i refl; begun = refl; stays = refl }) (λ c. cc (c))
kind_of (Event.Arrive from (PeerRecord.OnAssoc x y q DialogueRecord.DeferGrant)) p = go (from.node == p) refl
  where
    go : (b : Bool) → (from.node == p) ≡ b → Kind (the from x y q DialogueRecord.DeferGrant) p
    go true i = Hears_grant from x y q (grind (arith, nat_tests, i)) refl
    go false i = Aside (record { deferral = rw i refl; begun = refl; stays = refl }) (λ c. cc (c))
kind_of (Event.Arrive from (PeerRecord.OnAssoc x y q (DialogueRecord.Begin t b v))) p = go (from.node == p) refl
  where
    go : (u : Bool) → (from.node == p) ≡ u → Kind (the from x y q (DialogueRecord.Begin t b v)) p
    go true i = Begins from x y q t b v (grind (arith, nat_tests, i)) refl
    go false i = Aside (record { deferral = refl; begun = i; stays = refl }) (λ c. cc (c))
kind_of (Event.Arrive from (PeerRecord.OnAssoc x y q r)) p = Aside (record { deferral = grind arith; begun = refl; stays = refl }) (λ c. cc (c))
kind_of (Event.Arrive from r) p = Aside (record { deferral = refl; begun = refl; stays = refl }) (λ c. cc (c))
kind_of Event.Crash p = Crashes refl
kind_of e p = Aside (record { deferral = refl; begun = refl; stays = refl }) (λ c. cc (c))

known_step : (k : Deferral → Bool) → k Deferral.None ≡ false → (o : Origin) (up : Option Addr) (v : Event) (rec : Option LogRec) (outs : List Out) (h : List Entry) (p : ℕ) → IsGrown o up (record { event = v; rec = rec; outs = outs } ∷ h) → IsKnown k o h → is_live_with_peer (action o.who (digest o h) v).next.arcs p ≡ true
    → part_at (put k) p (action o.who (digest o h) v).next.arcs ≡ k (deferral_in o p (record { event = v; rec = rec; outs = outs } ∷ h))
unfolding after_crash
known_step k none o up v rec outs h p = go (kind_of v p)
  where
    IsStep : Event → Type 0
    IsStep v =
        IsGrown o up (record { event = v; rec = rec; outs = outs } ∷ h) → IsKnown k o h → is_live_with_peer (action o.who (digest o h) v).next.arcs p ≡ true
        → part_at (put k) p (action o.who (digest o h) v).next.arcs ≡ k (deferral_in o p (record { event = v; rec = rec; outs = outs } ∷ h))

    d : Digest
    d = digest o h

    go : Kind v p → IsStep v
    go (Aside aside calm) = λ legal known live. aside_step k none o up (record { event = v; rec = rec; outs = outs }) h p legal known aside calm live
    go (Asks_end is) = subst IsStep (sym is) (λ legal known live.
        let asked = asked_end o.who d p (plain_request o.who d (Request.DeferEnd p) legal.0) in
        let now = now_some d.current asked.1 in
        asks_step k none o up h p (Request.DeferEnd p) Ask_defer_end DialogueRecord.DeferEnd Deferral.End rec outs (putting_end p) legal asked.0 now.0 now.1 live)
    go (Asks_grant is) = subst IsStep (sym is) (λ legal known live.
        let asked = asked_grant o.who d p (plain_request o.who d (Request.DeferGrant p) legal.0) in
        let now = now_some d.current asked.1 in
        asks_step k none o up h p (Request.DeferGrant p) Ask_defer_grant DialogueRecord.DeferGrant Deferral.Grant rec outs (putting_grant p) legal asked.0 now.0 now.1 live)
    go (Hears_end from x y q at is) = subst IsStep (sym is) (λ legal known live. hears_step k none o up h p from x y q DialogueRecord.DeferEnd Hear_defer_end (λ n. Indication.DeferEnd n) Deferral.End rec outs hearing_end at legal known live)
    go (Hears_grant from x y q at is) = subst IsStep (sym is) (λ legal known live. hears_step k none o up h p from x y q DialogueRecord.DeferGrant Hear_defer_grant (λ n. Indication.DeferGrant n) Deferral.Grant rec outs hearing_grant at legal known live)
    go (Begins from x y q t b w at is) = subst IsStep (sym is) (λ legal known live. begins_step k none o up h p from x y q t b w rec outs at legal live)
    go (Leaving is) = subst IsStep (sym is) (λ legal known live. leaves_step k none o up h p rec outs legal known live)
    go (Crashes is) = subst IsStep (sym is) (λ legal known live. absurd (cc (live)))

pub known_law : (k : Deferral → Bool) → k Deferral.None ≡ false → (o : Origin) (up : Option Addr) (h : List Entry) → IsGrown o up h → IsKnown k o h
unfolding started
known_law k none o up [] legal p live = absurd (cc (live))
known_law k none o up (e ∷ h) legal p live = known_step k none o up e.event e.rec e.outs h p legal (known_law k none o up h legal.3) live

-- ---- of all arcs

two_kinds : (x y : Deferral) → is_end_deferred x ≡ is_end_deferred y → is_grant_deferred x ≡ is_grant_deferred y → (number_of_deferral x == number_of_deferral y) ≡ true
two_kinds x y h1 h2 = grind arith

pub deferral_law : (o : Origin) (up : Option Addr) (h : List Entry) → IsLegal o up h → deferral_agrees o h ≡ true
deferral_law o up h legal = all_found _ (digest o h).arcs (separate_law o up h legal.grown) (λ a found. go a found (is_live a.link) refl)
  where
    go : (a : Arc) → find_arc (digest o h).arcs a.peer.node ≡ Some a → (b : Bool) → is_live a.link ≡ b → (not b || (number_of_deferral a.dialogue.deferral == number_of_deferral (deferral_in o a.peer.node h))) ≡ true
    go a found true i =
        let live : is_live_with_peer (digest o h).arcs a.peer.node ≡ true = ap (λ (v : Option Arc). is_live (link_of v)) found ∙ i in
        let part : (k : Deferral → Bool) → part_at (put k) a.peer.node (digest o h).arcs ≡ k a.dialogue.deferral = λ k. ap (at_arc (λ x. put k x.dialogue)) found in
        two_kinds a.dialogue.deferral (deferral_in o a.peer.node h) (sym (part is_end_deferred) ∙ known_law is_end_deferred refl o up h legal.grown a.peer.node live) (sym (part is_grant_deferred) ∙ known_law is_grant_deferred refl o up h legal.grown a.peer.node live)
    go a found false i = refl
