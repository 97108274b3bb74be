-- What becomes in an event of the link with a peer that the event does not end by itself, and that an end is deferred on live
-- arcs alone: instances of the steps of a node.
use Rattle.tp_history_state.proofs.Vocabulary.{◌≡◌, ℕ, Bool, true, false, refl, ap, sym, subst, ◌∙◌, arith, Option, Some, None, List, [], ◌∷◌, ◌&&◌, ◌||◌, ◌==◌, nat_tests, Mark, Addr, Request, DialogueRecord, PeerRecord, Side, TxEvent, TxOut, Kept, KeptEvent, Who, Origin, Event, Entry, Out, Link, Opening, Offered, Live, Dialogue, Arc, Current, Digest, Asked, Ask_defer_end, Heard, Hear_defer_end, said, heard, begun_by, cleared, woken, named_holder, fresh_dialogue, find_arc, link_with, is_live_with_peer, without_arc, with_dialogue, performed, Transaction, Turn, is_under_at, transacted, has_branch_at, settled, Move, move, followed, perform, next_mark, superior_arc, is_end_deferred_at, seen, begin_on, is_leaving, Passage, passage, entered, turned, keep, try_start, begin_chained, after_crash, started, digest, sent_more, is_unchanged, IsGrown, IsPut, IsAsked, IsChange, By_waking, By_saying, By_hearing, By_beginning, By_leaving, closes_at, is_said, are_said, are_spoken, may_put_off, prelude, accepted_by, accepted_on, linked, counted_in, Moves, puts_off_at, AreAlike, Steps, asks_tell, count_to, apart_spoken, apart_turn, leaves_so, and_left, and_right, step_start, step_chained, every_move, settled_spoken, late_law, count_append, more_none, link_dialogue, link_without, link_entered, told_append, told_performed, told_played, whole_turn}
use Rattle.tp_steps.proofs.lemmas.Alike.{ends_other, live_same}
use Rattle.tp_steps.proofs.links.Fading.{Keeps, Fades, fades_self, fades_then, fades_dialogue, fades_taken, fades_put, fades_front, fades_back, fades_without, fades_performed, keeps_said, keeps_heard, keeps_woken, keeps_cleared, keeps_begun}
use Rattle.tp_steps.proofs.order.InOrder.{live_stays, fades_turned}
use Rattle.tp_history_state.proofs.passages.Passage.{is_committed_told}
use Rattle.tp_history_state.proofs.deferral.Defers.{told_committed, plain_committed}
use Rattle.tp_history_state.proofs.links.Shuts.{shuts_in, over_link, over_then, shuts_performed, shuts_played, ends_at, closes_by, closing_turn, seen_ends}
use Rattle.tp_history_state.proofs.lemmas.Begins.{begin_word, begin_arcs, begun_over, begins_so}
use Rattle.tp_history_state.proofs.lemmas.Spoken.{spoken_untold}
use Rattle.tp_steps.proofs.every.Preludes.{begun_arcs}

-- ---- the link with a peer, from d on; `b`: it is a branch whose end is deferred at first

abbrev pub IsOver : ℕ → Bool → Digest → Move → Type 0
IsOver p b d m = link_with m.next.arcs p ≡ over_link (b && told_committed m.outs) (count_to p m.outs) (link_with d.arcs p)

over_quiet : (p : ℕ) (b : Bool) (d : Digest) (m : Move) → told_committed m.outs ≡ false → link_with m.next.arcs p ≡ sent_more (count_to p m.outs) (link_with d.arcs p) → IsOver p b d m
over_quiet p b d m untold is = grind arith

over_chain : (p : ℕ) (b : Bool) (d : Digest) (a : Move) (f : Digest → Move) → IsOver p b d a → IsOver p b a.next (f a.next) → IsOver p b d (followed a f)
over_chain p b d a f one two = grind (arith, count_append, over_then, told_append)

-- outputs of a list that ends no association with the peer, and tells of no commitment
over_performed : (p : ℕ) (b : Bool) (d : Digest) (outs : List TxOut) (m : Move) → m.next.arcs ≡ (performed d.arcs outs).0 → m.outs ≡ (performed d.arcs outs).1 → are_spoken outs ≡ true → shuts_in p outs ≡ false → IsOver p b d m
over_performed p b d outs m arcs said spoken shuts =
    over_quiet p b d m (ap told_committed said ∙ told_performed is_committed_told d.arcs outs ∙ spoken_untold is_committed_told plain_committed outs spoken)
    (ap (λ (xs : List Arc). link_with xs p) arcs ∙ shuts_performed d.arcs outs p (apart_spoken outs spoken) ∙ rw shuts refl ∙ ap (λ (os : List Out). sent_more (count_to p os) (link_with d.arcs p)) (sym said))

pub unshut_said : (e : Event) (p : ℕ) (outs : List TxOut) → closes_at e p ≡ false → are_said e outs ≡ true → shuts_in p outs ≡ false
unshut_said e p [] off h = refl
unshut_said e p (TxOut.Tell i ∷ outs) off h = unshut_said e p outs off h
unshut_said e p (TxOut.Carry q r ∷ outs) off h = unshut_said e p outs off (and_right (is_said e (TxOut.Carry q r)) (are_said e outs) h)
unshut_said e p (TxOut.Shut q ∷ outs) off h = absurd (cc (h))
unshut_said e p (TxOut.Recovery a r ∷ outs) off h = unshut_said e p outs off h
unshut_said e p (TxOut.Close q ∷ outs) off h = go (q == p) refl (unshut_said e p outs off (and_right (closes_at e q) (are_said e outs) h))
  where
    go : (b : Bool) → (q == p) ≡ b → shuts_in p outs ≡ false → (b || shuts_in p outs) ≡ false
    go true i rest = absurd (let same : q ≡ p = grind (arith, nat_tests, i) in let on : closes_at e p ≡ true = ap (closes_at e) (sym same) ∙ and_left (closes_at e q) (are_said e outs) h in cc (on, off))
    go false i rest = rest

pub unshut_settled : (p : ℕ) (k : Kept) (f : KeptEvent) → shuts_in p (settled k f).outs ≡ false
unfolding settled
unshut_settled p k (KeptEvent.Done a b r) = grind arith
unshut_settled p k _ = refl

-- ---- an event of the transaction

-- it ends no association that the event of the node does not end
pub closes_so : (e : Event) (c : Current) (f : TxEvent) (p : ℕ) → IsAsked e c f → closes_at e p ≡ false → closes_by f p ≡ false
closes_so e c f p h1 h2 = grind arith

-- an event that defers something completes nothing
puts_tell : (e : Event) (c : Current) (f : TxEvent) (p : ℕ) (t : Transaction) → IsAsked e c f → puts_off_at e p ≡ true → asks_tell is_committed_told (transacted f t).outs ≡ false
puts_tell e c f p t h1 h2 = grind arith

over_turned : (who : Who) (e : Event) (s d : Digest) (c : Current) (f : TxEvent) (p : ℕ) (branch : Bool) → (is_under_at c.key p || has_branch_at c.branches p) ≡ branch → closes_at e p ≡ false → is_leaving f ≡ false → IsAsked e c f → IsPut f (seen who d.arcs c) → AreAlike e d s
    → IsOver p (branch && is_end_deferred_at s.arcs p) d (turned who f d c)
over_turned who e s d c f p branch is off stays asked fits alike =
    shuts_played d t w a (whole_turn f t) (entered t w d.arcs) p (apart_turn f t fits)
    ∙ joined (shuts_in p a.outs) (b && told_committed m.outs) (count_to p m.outs) (link_with (entered t w d.arcs) p) (link_with d.arcs p) shut (link_entered t w d.arcs p)
  where
    t : Transaction
    t = seen who d.arcs c

    a : Turn
    a = transacted f t

    w : Passage
    w = passage (is_leaving f) t.phase a.next.phase

    m : Move
    m = turned who f d c

    b : Bool
    b = branch && is_end_deferred_at s.arcs p

    told : told_committed m.outs ≡ asks_tell is_committed_told a.outs
    told = told_played is_committed_told d t w a (whole_turn f t) (entered t w d.arcs)

    joined : (x y : Bool) (n : ℕ) (l k : Link) → x ≡ y → l ≡ k → over_link x n l ≡ over_link y n k
    joined x y n l k i j = rw (i, j) refl

    none_and : (x y : Bool) → (x && false) ≡ (y && false)
    none_and true true = refl
    none_and true false = refl
    none_and false true = refl
    none_and false false = refl

    -- what is seen is as it was at first, where a commitment is complete
    same : (v : Bool) → asks_tell is_committed_told a.outs ≡ v → (ends_at p t && v) ≡ (b && v)
    same false i = none_and (ends_at p t) b
    same true i = ap (λ (x : Bool). x && true) (seen_ends who d.arcs c p ∙ ap (λ (x : Bool). x && is_end_deferred_at d.arcs p) is ∙ ap (λ (x : Bool). branch && x) (alike p (quiet (puts_off_at e p) refl)))
      where
        quiet : (u : Bool) → puts_off_at e p ≡ u → (puts_off_at e p || closes_at e p) ≡ false
        quiet true j = absurd (let no : asks_tell is_committed_told a.outs ≡ false = puts_tell e c f p t asked j in cc (no, i))
        quiet false j = rw (j, off) refl

    shut : shuts_in p a.outs ≡ (b && told_committed m.outs)
    shut = closing_turn p f t stays (closes_so e c f p asked off) fits ∙ same (asks_tell is_committed_told a.outs) refl ∙ ap (λ (x : Bool). b && x) (sym told)

over_begins : (who : Who) (p q : ℕ) (b : Bool) (d : Digest) → IsOver p b d (begin_on who q d)
over_begins who p q b d =
    begins_so (IsOver p b d) who q d (over_quiet p b d (move [] d) refl (sym (more_none (link_with d.arcs p))))
    (λ c i a found may.
    let xs : List Arc = begin_arcs q d a in
    let outs : List TxOut = TxOut.Carry q (begin_word who d c a) ∷ [] in
    over_quiet p b d (begun_over who q d c a) (told_performed is_committed_told xs outs)
    (shuts_performed xs outs p refl ∙ ap (sent_more (count_to p (performed xs outs).1)) (link_dialogue d.arcs q (begun_by (named_holder a.dialogue) Side.Superior) p)))

pub over_steps : (who : Who) (e : Event) (s : Digest) (p : ℕ) (branch : Bool) → ((c : Current) → s.current ≡ Some c → (is_under_at c.key p || has_branch_at c.branches p) ≡ branch) → closes_at e p ≡ false → is_unchanged e ≡ false → Steps who e s (IsOver p (branch && is_end_deferred_at s.arcs p))
over_steps who e s p branch is off stays = record {
  still = λ d. over_quiet p b d (move [] d) refl (sym (more_none (link_with d.arcs p)));
  chain = λ d a f one two none. over_chain p b d a f one two;
  speaks = λ d outs h own said last. over_performed p b d outs (perform outs d) refl refl h (unshut_said e p outs off said);
  changes_dialogue = λ d q f m by one. one ∙ ap (over_link (b && told_committed m.outs) (count_to p m.outs)) (link_dialogue d.arcs q f p);
  drops_arc = λ d q m at one. one ∙ ap (over_link (b && told_committed m.outs) (count_to p m.outs)) (link_without d.arcs q p ∙ rw (elsewhere q at) refl);
  notes_kept = λ d ks m held noted one. one;
  keeps = λ d k f held. over_performed p b d (settled k f).outs (keep (settled k f) d) refl refl (settled_spoken k f) (unshut_settled p k f);
  turns = λ d c f now at asked fits gone like alike. over_turned who e s d c f p branch (is c at) off (staying c f asked (is_leaving f) refl) asked fits alike;
  begins = λ d q may. over_begins who p q b d;
  roots = λ d m nil may says one. one;
}
  where
    b : Bool
    b = branch && is_end_deferred_at s.arcs p

    elsewhere : (q : ℕ) → closes_at e q ≡ true → (q == p) ≡ false
    elsewhere q at = go (q == p) refl
      where
        go : (v : Bool) → (q == p) ≡ v → v ≡ false
        go false i = refl
        go true i = let same : q ≡ p = grind (arith, nat_tests, i) in absurd (let on : closes_at e p ≡ true = ap (closes_at e) (sym same) ∙ at in cc (on, off))

    staying : (c : Current) (f : TxEvent) → IsAsked e c f → (v : Bool) → is_leaving f ≡ v → is_leaving f ≡ false
    staying c f asked false i = i
    staying c f asked true i = absurd (let on : is_unchanged e ≡ true = leaves_so e c f asked i in cc (on, stays))

-- a start sends what the link counts, and tells of no commitment
pub start_over : (who : Who) (p : ℕ) (d : Digest) → IsOver p false d (try_start who d)
start_over who p d = step_start who Event.Purge s (IsOver p false) (over_steps who Event.Purge s p false (λ c i. absurd (cc (i))) refl refl) d
  where
    s : Digest
    s = record d { current = None }

-- and so does the passing on of a transaction
pub chained_over : (who : Who) (p : ℕ) (d : Digest) → IsOver p false d (begin_chained who d)
chained_over who p d = step_chained who Event.Purge s (IsOver p false) (over_steps who Event.Purge s p false (λ c i. absurd (cc (i))) refl refl) d
  where
    s : Digest
    s = record d { current = None }

begun_untold : (who : Who) (q : ℕ) (d : Digest) → told_committed (begin_on who q d).outs ≡ false
begun_untold who q d = begins_so (λ m. told_committed m.outs ≡ false) who q d refl (λ c i a found may. told_performed is_committed_told (begin_arcs q d a) (TxOut.Carry q (begin_word who d c a) ∷ []))

start_untold : (who : Who) (d : Digest) → Steps who Event.Purge (record d { current = None }) (λ g m. told_committed m.outs ≡ false)
start_untold who d = record {
  still = λ g. refl;
  chain = λ g a f one two none. told_append is_committed_told a.outs (f a.next).outs ∙ rw (one, two) refl;
  speaks = λ g outs h own said last. told_performed is_committed_told g.arcs outs ∙ spoken_untold is_committed_told plain_committed outs h;
  changes_dialogue = λ g q f m by one. one;
  drops_arc = λ g q m at one. one;
  notes_kept = λ g ks m held noted one. one;
  keeps = λ g k f held. told_performed is_committed_told g.arcs (settled k f).outs ∙ spoken_untold is_committed_told plain_committed (settled k f).outs (settled_spoken k f);
  turns = λ g c f now at asked fits gone like alike. absurd (cc (at));
  begins = λ g q may. begun_untold who q g;
  roots = λ g m nil may says one. one;
}

pub start_tells : (who : Who) (d : Digest) → told_committed (try_start who d).outs ≡ false
start_tells who d = step_start who Event.Purge (record d { current = None }) (λ g m. told_committed m.outs ≡ false) (start_untold who d) d

-- ---- an end is deferred on live arcs alone

abbrev pub AreOn : List Arc → Type 0
AreOn arcs = (p : ℕ) → is_end_deferred_at arcs p ≡ true → is_live_with_peer arcs p ≡ true

on_put_off : (p : ℕ) (f : Dialogue → Dialogue) (arcs : List Arc) → is_live_with_peer arcs p ≡ true → AreOn arcs → AreOn (with_dialogue arcs p f)
on_put_off p f arcs up on q off = grind (arith, nat_tests, ends_other, live_same)

on_change : (e : Event) (d : Digest) (p : ℕ) (f : Dialogue → Dialogue) → IsChange e d p f → AreOn d.arcs → AreOn (with_dialogue d.arcs p f)
on_change e d p f by on = go by
  where
    kept : (g : Dialogue → Dialogue) → f ≡ g → Keeps g → AreOn (with_dialogue d.arcs p f)
    kept g is k = live_stays d.arcs (with_dialogue d.arcs p f) (fades_dialogue d.arcs p f (subst Keeps (sym is) k)) on

    live : may_put_off d p ≡ true → is_live_with_peer d.arcs p ≡ true
    live may = grind (arith, may)

    on_said : (a : Asked) → f ≡ said a → (a ≡ Ask_defer_end → may_put_off d p ≡ true) → AreOn (with_dialogue d.arcs p f)
    on_said Ask_defer_end is off = on_put_off p f d.arcs (live (off refl)) on
    on_said a is off = kept (said a) is (keeps_said a refl)

    on_heard : (h : Heard) → f ≡ heard h → (h ≡ Hear_defer_end → may_put_off d p ≡ true) → AreOn (with_dialogue d.arcs p f)
    on_heard Hear_defer_end is off = on_put_off p f d.arcs (live (off refl)) on
    on_heard h is off = kept (heard h) is (keeps_heard h refl)

    go : IsChange e d p f → AreOn (with_dialogue d.arcs p f)
    go (By_waking w is) = kept woken is keeps_woken
    go (By_saying a at is off) = on_said a is off
    go (By_hearing h at is off) = on_heard h is off
    go (By_beginning h at is) = kept (begun_by h Side.Subordinate) is (keeps_begun h Side.Subordinate)
    go (By_leaving at is) = kept cleared is keeps_cleared

fades_begins : (who : Who) (q : ℕ) (d : Digest) → Fades d.arcs (begin_on who q d).next.arcs
fades_begins who q d =
    begins_so (λ m. Fades d.arcs m.next.arcs) who q d (fades_self d.arcs)
    (λ c i a found may. fades_then d.arcs (begin_arcs q d a) (begun_over who q d c a).next.arcs (fades_dialogue d.arcs q (begun_by (named_holder a.dialogue) Side.Superior) (keeps_begun (named_holder a.dialogue) Side.Superior)) (fades_performed (begin_arcs q d a) (TxOut.Carry q (begin_word who d c a) ∷ [])))

on_moves : (who : Who) (e : Event) (s : Digest) → Moves who e s (λ d m. AreOn d.arcs → AreOn m.next.arcs)
on_moves who e s = record {
  still = λ d on. on;
  chain = λ d a f one two none on. two (one on);
  speaks = λ d outs h own said on. live_stays d.arcs (performed d.arcs outs).0 (fades_performed d.arcs outs) on;
  changes_dialogue = λ d p f m by one on. one (on_change e d p f by on);
  drops_arc = λ d p m at one on. one (live_stays d.arcs (without_arc d.arcs p) (fades_without d.arcs p) on);
  notes_kept = λ d ks m held one on. one on;
  keeps = λ d k f held on. live_stays d.arcs (performed d.arcs (settled k f).outs).0 (fades_performed d.arcs (settled k f).outs) on;
  turns = λ d c f now at asked fits gone on. live_stays d.arcs (turned who f d c).next.arcs (fades_turned who f d c) on;
  begins = λ d q may on. live_stays d.arcs (begin_on who q d).next.arcs (fades_begins who q d) on;
  roots = λ d m nil may one on. one on;
}

fades_accepted : (who : Who) (d : Digest) (u : ℕ) (o : Option Arc) → Fades d.arcs (accepted_by who u o d).arcs
fades_accepted who d u None = fades_self d.arcs
fades_accepted who d u (Some a) = on a.link
  where
    on : (l : Link) → Fades d.arcs (accepted_on who u a l d).arcs
    on (Offered x) = fades_put d.arcs (record a { link = Live x (next_mark who d) 0 0; dialogue = fresh_dialogue u Side.Subordinate }) refl
    on _ = fades_self d.arcs

fades_confirmed : (d : Digest) (o : Option Arc) (x y : Mark) (u : ℕ) → Fades d.arcs (linked o x y u d).arcs
fades_confirmed d None x y u = fades_self d.arcs
fades_confirmed d (Some a) x y u = fades_put d.arcs (record a { link = Live x y 0 0; dialogue = fresh_dialogue u Side.Superior }) refl

pub on_prelude : (who : Who) (d : Digest) (e : Event) → AreOn d.arcs → AreOn (prelude who d e).arcs
unfolding after_crash
on_prelude who d (Event.Do (Request.BeginDialogue a u)) on = live_stays d.arcs _ (fades_back d.arcs (record { peer = a; link = Opening (next_mark who d); dialogue = fresh_dialogue u Side.Superior }) refl) on
on_prelude who d (Event.Do (Request.Accept u)) on = live_stays d.arcs _ (fades_accepted who d u (superior_arc d)) on
on_prelude who d (Event.Do r) on = on
on_prelude who d (Event.Arrive from (PeerRecord.OpenAssoc x u)) on = live_stays d.arcs _ (fades_front d.arcs (record { peer = from; link = Offered x; dialogue = fresh_dialogue u Side.Subordinate }) refl) on
on_prelude who d (Event.Arrive from (PeerRecord.AcceptAssoc x y u)) on = live_stays d.arcs _ (fades_confirmed d (find_arc d.arcs from.node) x y u) on
on_prelude who d (Event.Arrive from (PeerRecord.OnAssoc x y q (DialogueRecord.Begin t b h))) on = subst AreOn (sym (begun_arcs (find_arc d.arcs from.node) t b (counted_in d from))) (live_stays d.arcs _ (fades_taken d.arcs from.node) on)
on_prelude who d (Event.Arrive from (PeerRecord.OnAssoc x y q r)) on = live_stays d.arcs _ (fades_taken d.arcs from.node) on
on_prelude who d Event.Crash on = λ p off. absurd (cc (off))
on_prelude who d e on = on

pub on_law : (o : Origin) (up : Option Addr) (h : List Entry) → IsGrown o up h → AreOn (digest o h).arcs
unfolding started
on_law o up [] legal = λ p off. absurd (cc (off))
on_law o up (e ∷ h) legal =
    let d : Digest = digest o h in
    every_move o.who d e.event (λ g m. AreOn g.arcs → AreOn m.next.arcs) (on_moves o.who e.event (prelude o.who d e.event)) (late_law o up h legal.3) legal.0 (on_prelude o.who d e.event (on_law o up h legal.3))
