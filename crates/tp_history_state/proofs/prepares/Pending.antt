-- The arc of a branch that has not answered stays live while its transaction is active, by every event that does not end its
-- association by itself: an instance of the steps of a node.
use Rattle.tp_history_state.proofs.Vocabulary.{if◌then◌else◌, ◌≡◌, ℕ, Bool, true, false, refl, ap, sym, subst, ◌∙◌, arith, Option, Some, None, List, [], ◌∷◌, ◌++◌, ◌&&◌, ◌||◌, ◌==◌, not, and-false, nat_tests, Child, Request, TxEvent, TxOut, Phase, Side, Who, Event, Link, Idle, Arc, Root, Branch, Current, Digest, is_active, is_live, find_arc, link_with, is_live_with_peer, performed, Row, Transaction, Turn, fresh_rows, find_row, row_holds, transacted, leave, settled, Move, perform, may_begin_on, begun_by, named_holder, fresh_current, seen, seen_rows, turned, keep, begin_on, try_start, entered, passage, is_leaving, Passage, Steps, IsPut, are_spoken, closes_at, asks_tell, may_move, sent_more, count_to, left_is, apart_spoken, apart_turn, link_dialogue, link_without, link_entered, find_arc_is, settled_spoken, passed_turn, step_start, some_same, whole_turn}
use Rattle.tp_steps.specs.Branches.{IsMoved}
use Rattle.tp_steps.specs.Heeding.{has_answered, has_ended}
use Rattle.tp_steps.proofs.branches.Heeding.{heeding_event}
use Rattle.tp_steps.proofs.branches.Rowed.{rowed_turn}
use Rattle.tp_history_state.specs.Reaching.{is_pending, marked, IsReached}
use Rattle.tp_history_state.proofs.marks.BranchMark.{left_marked, seen_marked}
use Rattle.tp_history_state.proofs.passages.Passage.{is_committed_told, ends, passage_turn}
use Rattle.tp_history_state.proofs.links.Shuts.{shuts_in, over_link, shuts_performed, shuts_played, ends_at, closes_by, closing_turn}
use Rattle.tp_history_state.proofs.links.Linked.{closes_so, unshut_said, unshut_settled}
use Rattle.tp_history_state.proofs.lemmas.Begins.{begin_word, begin_arcs, next_child, begun_over, begins_so}

pub more_live : (n : ℕ) (l : Link) → is_live l ≡ true → is_live (sent_more n l) ≡ true
more_live n Idle h = h
more_live n _ h = h

-- ---- an event of the transaction

was_pending : (f : TxEvent) (s : Transaction) (p : ℕ) → IsPut f s → row_holds (transacted f s).next.rows p is_pending ≡ true → row_holds s.rows p is_pending ≡ true
was_pending f s p put h = go (find_row (transacted f s).next.rows p) refl
  where
    off : (b : Branch) → is_pending b ≡ true → (has_answered b ≡ false) × (has_ended b ≡ false)
    off b k = (grind (arith, k), grind (arith, k))

    still : (b : Branch) → has_answered b ≡ false → has_ended b ≡ false → is_pending b ≡ true
    still b k l = grind (arith, k, l)

    go : (o : Option Row) → find_row (transacted f s).next.rows p ≡ o → row_holds s.rows p is_pending ≡ true
    go None i = absurd (grind (arith, h, i))
    go (Some n) i = on was.0 was.1 (has_answered was.0.branch) refl (has_ended was.0.branch) refl
      where
        was : (r : Row) × (find_row s.rows p ≡ Some r) × IsMoved f s p r.branch n.branch
        was = (rowed_turn f s put).rows p n i

        now : is_pending n.branch ≡ true
        now = sym (ap (λ (o : Option Row). elim o as (λ _. Bool) [ None ↦ false | Some r ↦ is_pending r.branch ]) i) ∙ h

        later : (w : Branch → Bool) → row_holds (transacted f s).next.rows p w ≡ w n.branch
        later w = ap (λ (o : Option Row). elim o as (λ _. Bool) [ None ↦ false | Some r ↦ w r.branch ]) i

        before : (w : Branch → Bool) (r : Row) → find_row s.rows p ≡ Some r → row_holds s.rows p w ≡ w r.branch
        before w r k = ap (λ (o : Option Row). elim o as (λ _. Bool) [ None ↦ false | Some x ↦ w x.branch ]) k

        on : (r : Row) → find_row s.rows p ≡ Some r → (v : Bool) → has_answered r.branch ≡ v → (w : Bool) → has_ended r.branch ≡ w → row_holds s.rows p is_pending ≡ true
        on r k false a false b = before is_pending r k ∙ still r.branch a b
        on r k true a w b = absurd (let on : has_answered n.branch ≡ true = sym (later has_answered) ∙ (heeding_event f s put).answered p (before has_answered r k ∙ a) in let no : has_answered n.branch ≡ false = (off n.branch now).0 in cc (on, no))
        on r k false a true b = absurd (let on : has_ended n.branch ≡ true = sym (later has_ended) ∙ (heeding_event f s put).ended p (before has_ended r k ∙ b) in let no : has_ended n.branch ≡ false = (off n.branch now).1 in cc (on, no))

was_active : (p q : Phase) → may_move p q ≡ true → is_active q ≡ true → is_active p ≡ true
was_active p q h i = grind (arith, h, i)

left_over : (f : TxEvent) (s : Transaction) → is_leaving f ≡ true → is_active (transacted f s).next.phase ≡ false
unfolding leave
left_over (TxEvent.User Request.Unchanged) s h = refl
left_over f s h = absurd (cc (h))

unshut : (f : TxEvent) (s : Transaction) (p : ℕ) → IsPut f s → closes_by f p ≡ false → is_active s.phase ≡ true → is_active (transacted f s).next.phase ≡ true → shuts_in p (transacted f s).outs ≡ false
unshut f s p put off was act = leaving (is_leaving f) refl
  where
    a : Turn
    a = transacted f s

    unended : (b : Bool) (q r : Phase) → is_active q ≡ true → is_active r ≡ true → ends (passage b q r) ≡ false
    unended b q r h i = grind (arith, h, i)

    untold : is_leaving f ≡ false → asks_tell is_committed_told a.outs ≡ false
    untold i = sym (passage_turn f s i put).ended ∙ unended (is_leaving f) s.phase a.next.phase was act

    leaving : (v : Bool) → is_leaving f ≡ v → shuts_in p a.outs ≡ false
    leaving true i = absurd (let no : is_active a.next.phase ≡ false = left_over f s i in cc (act, no))
    leaving false i = closing_turn p f s i off put ∙ ap (λ (v : Bool). ends_at p s && v) (untold i) ∙ and-false (ends_at p s)

pub reached_turned : (who : Who) (f : TxEvent) (d : Digest) (c : Current) (p : ℕ) → d.current ≡ Some c → IsPut f (seen who d.arcs c) → closes_by f p ≡ false → IsReached p d → IsReached p (turned who f d c).next
reached_turned who f d c p now put off old u is act wait =
    ap is_live (shuts_played d s w a (whole_turn f s) (entered s w d.arcs) p (apart_turn f s put) ∙ rw (unshut f s p put off was next_active, link_entered s w d.arcs p) refl)
    ∙ more_live (count_to p (turned who f d c).outs) (link_with d.arcs p) (old c now was before)
  where
    s : Transaction
    s = seen who d.arcs c

    a : Turn
    a = transacted f s

    w : Passage
    w = passage (is_leaving f) s.phase a.next.phase

    next_active : is_active a.next.phase ≡ true
    next_active = ap is_active (sym (left_is a.next u is).1) ∙ act

    was : is_active c.phase ≡ true
    was = was_active s.phase a.next.phase (passed_turn f s put).moves next_active

    before : marked is_pending p c ≡ true
    before = sym (seen_marked is_pending p who d.arcs c) ∙ was_pending f s p put (sym (left_marked is_pending p a.next u is) ∙ wait)

-- ---- transactions begin

more_pending : (rows : List Row) (c : Child) (p : ℕ) → row_holds (rows ++ fresh_rows (c ∷ [])) p is_pending ≡ true → (row_holds rows p is_pending || (c.addr.node == p)) ≡ true
more_pending [] c p h = grind (arith, h)
more_pending (r ∷ rows) c p h = go (r.branch.peer.node == p) h (more_pending rows c p)
  where
    go : (b : Bool) → elim (if b then Some r else find_row (rows ++ fresh_rows (c ∷ [])) p) as (λ _. Bool) [ None ↦ false | Some x ↦ is_pending x.branch ] ≡ true
        → (row_holds (rows ++ fresh_rows (c ∷ [])) p is_pending ≡ true → (row_holds rows p is_pending || (c.addr.node == p)) ≡ true)
        → (elim (if b then Some r else find_row rows p) as (λ _. Bool) [ None ↦ false | Some x ↦ is_pending x.branch ] || (c.addr.node == p)) ≡ true
    go true h rest = rw h refl
    go false h rest = rest h

reached_begins : (who : Who) (p q : ℕ) (d : Digest) → IsReached p d → IsReached p (begin_on who q d).next
reached_begins who p q d old = begins_so (λ (m : Move). IsReached p m.next) who q d old on
  where
    on : (c : Current) → d.current ≡ Some c → (a : Arc) → find_arc d.arcs q ≡ Some a → not (may_begin_on who d a) ≡ false → IsReached p (begun_over who q d c a).next
    on c now a found may u is act wait =
        ap is_live (shuts_performed xs outs p refl ∙ ap (over_link false (count_to p (performed xs outs).1)) (link_dialogue d.arcs q (begun_by (named_holder a.dialogue) Side.Superior) p))
        ∙ more_live (count_to p (performed xs outs).1) (link_with d.arcs p) (before (marked is_pending p c) refl)
      where
        xs : List Arc
        xs = begin_arcs q d a

        outs : List TxOut
        outs = TxOut.Carry q (begin_word who d c a) ∷ []

        t : Transaction
        t = (transacted (TxEvent.Begun (next_child who d a ∷ [])) (seen who d.arcs c)).next

        phase : is_active c.phase ≡ true
        phase = ap is_active (sym (left_is t u is).1) ∙ act

        at : a.peer.node ≡ q
        at = find_arc_is d.arcs q a found

        live : is_live a.link ≡ true
        live = grind (arith, may)

        either : (marked is_pending p c || (a.peer.node == p)) ≡ true
        either = ap (λ (v : Bool). v || (a.peer.node == p)) (sym (seen_marked is_pending p who d.arcs c)) ∙ more_pending (seen_rows d.arcs c.branches) (next_child who d a) p (sym (left_marked is_pending p t u is) ∙ wait)

        before : (v : Bool) → marked is_pending p c ≡ v → is_live_with_peer d.arcs p ≡ true
        before true i = old c now phase i
        before false i =
            let here : (a.peer.node == p) ≡ true = rw i at either in
            let same : q ≡ p = sym at ∙ grind (arith, nat_tests, here) in
            subst (λ (n : ℕ). is_live_with_peer d.arcs n ≡ true) same (rw (found, link_with) live)

-- ---- the steps

performed_reached : (p : ℕ) (d : Digest) (outs : List TxOut) (n : Digest) → n.current ≡ d.current → n.arcs ≡ (performed d.arcs outs).0 → are_spoken outs ≡ true → shuts_in p outs ≡ false → IsReached p d → IsReached p n
performed_reached p d outs n same arcs spoken shuts old u is act wait =
    ap (λ (xs : List Arc). is_live (link_with xs p)) arcs ∙ ap is_live (shuts_performed d.arcs outs p (apart_spoken outs spoken) ∙ rw shuts refl)
    ∙ more_live (count_to p (performed d.arcs outs).1) (link_with d.arcs p) (old u (sym same ∙ is) act wait)

pub reached_steps : (who : Who) (e : Event) (s : Digest) (p : ℕ) → closes_at e p ≡ false → Steps who e s (λ d m. IsReached p d → IsReached p m.next)
reached_steps who e s p off = record {
  still = λ d old. old;
  chain = λ d a f one two none old. two (one old);
  speaks = λ d outs h own said last old. performed_reached p d outs (perform outs d).next refl refl h (unshut_said e p outs off said) old;
  changes_dialogue = λ d q f m by one old. one (λ u is act wait. ap is_live (link_dialogue d.arcs q f p) ∙ old u is act wait);
  drops_arc = λ d q m at one old. one (λ u is act wait. ap is_live (link_without d.arcs q p ∙ rw (elsewhere q at) refl) ∙ old u is act wait);
  notes_kept = λ d ks m held by one old. one old;
  keeps = λ d k f held old. performed_reached p d (settled k f).outs (keep (settled k f) d).next refl refl (settled_spoken k f) (unshut_settled p k f) old;
  turns = λ d c f now at asked put gone drawn alike old. reached_turned who f d c p now put (closes_so e c f p asked off) old;
  begins = λ d q may old. reached_begins who p q d old;
  roots = λ d m nil may says one old. one (λ u is act wait. let same = some_same (fresh_current (Root _)) u is in absurd (let no : marked is_pending p u ≡ false = ap (marked is_pending p) (sym same) in cc (no, wait)));
}
  where
    elsewhere : (q : ℕ) → closes_at e q ≡ true → (q == p) ≡ false
    elsewhere q at = go (q == p) refl
      where
        go : (v : Bool) → (q == p) ≡ v → v ≡ false
        go false i = refl
        go true i = let same : q ≡ p = grind (arith, nat_tests, i) in absurd (let on : closes_at e p ≡ true = ap (closes_at e) (sym same) ∙ at in cc (on, off))

-- the next transaction starts on live arcs
pub reached_start : (who : Who) (p : ℕ) (d : Digest) → IsReached p d → IsReached p (try_start who d).next
reached_start who p d old = step_start who Event.Purge d (λ g m. IsReached p g → IsReached p m.next) (reached_steps who Event.Purge d p refl) d old
