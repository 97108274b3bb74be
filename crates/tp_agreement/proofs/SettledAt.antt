-- In every legal history each branch on a live association is counted, has left or has ended, once its node is past the
-- active phase.
use Rattle.std.proofs.Common.{◌≡◌, ℕ, Bool, true, false, refl, ap, sym, ◌∙◌, arith, Option, Some, None, List, [], ◌∷◌, ◌||◌, not}
use Rattle.tp_names.specs.declared.identifiers.Addr.{Addr}
use Rattle.tp_model.specs.declared.arc.Phase.{Phase}
use Rattle.tp_model.specs.declared.transaction.TxEvent.{TxEvent}
use Rattle.tp_model.specs.declared.transaction.TxOut.{TxOut}
use Rattle.tp_model.specs.declared.recovery.Kept.{Kept}
use Rattle.tp_model.specs.declared.recovery.KeptEvent.{KeptEvent}
use Rattle.tp_model.specs.Parts.{Who, Origin, Event, Entry, Arc, Link, Idle, Branch, Under, Current, Digest}
use Rattle.tp_model.specs.Links.{is_live}
use Rattle.tp_model.specs.Dialogues.{is_nil, is_active}
use Rattle.tp_model.specs.Arcs.{find_arc, link_with}
use Rattle.tp_model.specs.Recovery.{settled}
use Rattle.tp_model.specs.Transactions.{Row, Transaction, Turn, aaid_of, is_under_at, find_row, transacted}
use Rattle.tp_model.specs.Node.{Move, perform, keep, next_mark, with_mark_drawn, seen_row, seen, phase_of, passed, turned, remaining, fresh_current, may_begin_on, begin_on}
use Rattle.tp_model.specs.Events.{after_crash}
use Rattle.tp_model.specs.History.{digest}
use Rattle.tp_model.specs.Legal.{IsGrown}
use Rattle.tp_steps.specs.Turns.{loses}
use Rattle.tp_steps.specs.Moves.{IsPut, prelude, Moves, are_spoken}
use Rattle.tp_steps.specs.Facts.{sees_row, stays, find_branch, key_at, Facts}
use Rattle.tp_steps.proofs.every.EveryEvent.{every_move}
use Rattle.tp_steps.proofs.links.Apart.{apart_turn, apart_spoken}
use Rattle.tp_steps.proofs.words.Hushed.{settled_spoken, stays_back}
use Rattle.tp_steps.proofs.links.Wrapped.{Agrees, agrees_played, agrees_performed}
use Rattle.tp_steps.proofs.links.Links.{link_dialogue}
use Rattle.tp_steps.proofs.words.FairTurns.{fair_turn}
use Rattle.tp_steps.proofs.words.HeardTurned.{seen_find, branch_is, seen_sees}
use Rattle.tp_steps.proofs.words.Heard.{dropped_live}
use Rattle.tp_steps.proofs.branches.Branched.{row_left}
use Rattle.tp_histories.proofs.trees.Late.{late_law}
use Rattle.tp_steps.proofs.every.Preludes.{Prelinked, As_before, Now_idle, Now_called, Now_offered, Now_accepted, Now_confirmed, Took_one}
use Rattle.tp_steps.proofs.branches.Rolls.{phase_at}
use Rattle.tp_steps.proofs.lemmas.Equality.{and_left, and_right}
use Rattle.tp_histories.proofs.trees.Knowing.{Came, As_it_was, By_begin, By_crash, came_by, current_none}
use Rattle.tp_histories.proofs.pairs.PairedSteps.{paired_law, told_entry}
use Rattle.tp_agreement.proofs.Settled.{is_settled, is_bound_phase, Settled, settled_turn}
use Rattle.tp_steps.proofs.every.BeginCases.{begun_over, begin_cases}
use Rattle.tp_steps.proofs.lemmas.Options.{some_same}
use Rattle.tp_steps.proofs.links.Whole.{whole_turn}

abbrev pub SettledAt : Digest → Type 0
SettledAt d = (c : Current) → d.current ≡ Some c → is_bound_phase c.phase ≡ true → (p : ℕ) (b : Branch) → find_branch c.branches p ≡ Some b → is_live (link_with d.arcs p) ≡ true → is_settled b ≡ true

abbrev Keeps : Digest → Move → Type 0
Keeps d m = SettledAt d → SettledAt m.next

-- nothing changes but associations that go
keeps_arcs : (d : Digest) (m : Move) → m.next.current ≡ d.current → ((p : ℕ) → is_live (link_with m.next.arcs p) ≡ true → is_live (link_with d.arcs p) ≡ true) → Keeps d m
keeps_arcs d m same live old c at bound p b found l = old c (sym same ∙ at) bound p b found (live p l)

keeps_perform : (d : Digest) (outs : List TxOut) → are_spoken outs ≡ true → Keeps d (perform outs d)
keeps_perform d outs h = keeps_arcs d (perform outs d) refl (λ p l. let a = agrees_performed d.arcs outs p (apart_spoken outs h) in stays_back (is_live (link_with d.arcs p)) p outs (sym a.live ∙ l))

keeps_keep : (d : Digest) (k : Kept) (f : KeptEvent) → Keeps d (keep (settled k f) d)
keeps_keep d k f =
    keeps_arcs d (keep (settled k f) d) refl
    (λ p l. let a = agrees_performed d.arcs (settled k f).outs p (apart_spoken (settled k f).outs (settled_spoken k f)) in stays_back (is_live (link_with d.arcs p)) p (settled k f).outs (sym a.live ∙ l))

pub phase_left : (u : Transaction) (c : Current) → remaining u ≡ Some c → u.phase ≡ c.phase
phase_left u c is = go (is_nil u.phase) refl
  where
    go : (b : Bool) → is_nil u.phase ≡ b → u.phase ≡ c.phase
    go true i = absurd (grind (arith, is, i))
    go false i = grind (arith, is, i)

-- what is seen of a settled node
seen_settled : (who : Who) (d : Digest) (c : Current) → d.current ≡ Some c → SettledAt d → Settled (seen who d.arcs c)
seen_settled who d c now old bound p r found live = go (find_branch c.branches p) refl
  where
    at : elim (find_branch c.branches p) as (λ _. Option Row) [ None ↦ None | Some b ↦ Some (seen_row d.arcs b) ] ≡ Some r
    at = sym (seen_find d.arcs c.branches p) ∙ found

    go : (o : Option Branch) → find_branch c.branches p ≡ o → is_settled r.branch ≡ true
    go None i = let none : None ≡ Some r = rw i at at in absurd (cc (none))
    go (Some b) i =
        let one : Some (seen_row d.arcs b) ≡ Some r = rw i at at in
        let same = some_same (seen_row d.arcs b) r one in
        let on : is_live (link_with d.arcs b.peer.node) ≡ true = and_left (is_live (link_with d.arcs b.peer.node)) (not (b.ended || b.left)) (ap (λ (v : Row). v.live) same ∙ live) in
        ap (λ (v : Row). is_settled v.branch) (sym same) ∙ old c now bound p b i (ap (λ (n : ℕ). is_live (link_with d.arcs n)) (sym (branch_is c.branches p b i)) ∙ on)

keeps_turned : (who : Who) (f : TxEvent) (d : Digest) (c : Current) → d.current ≡ Some c → IsPut f (seen who d.arcs c) → ((n : ℕ) → loses f n ≡ true → link_with d.arcs n ≡ Idle) → Keeps d (turned who f d c)
keeps_turned who f d c now put gone old u at bound p b found live = ap is_settled (sym w.2) ∙ go (w.0.live) refl
  where
    t : Transaction
    t = seen who d.arcs c

    a : Turn
    a = transacted f t

    w : (r : Row) × (find_row a.next.rows p ≡ Some r) × (r.branch ≡ b)
    w = row_left a.next p u b at found

    agrees : Agrees p (is_live (link_with d.arcs p)) a.outs (turned who f d c).outs (is_live (link_with (turned who f d c).next.arcs p))
    agrees = agrees_played d t (passed who f d c) a (whole_turn f t) d.arcs p (apart_turn f t put)

    was : is_live (link_with d.arcs p) ≡ true
    was = stays_back (is_live (link_with d.arcs p)) p a.outs (sym agrees.live ∙ live)

    stayed : stays true p a.outs ≡ true
    stayed = ap (λ (v : Bool). stays v p a.outs) (sym was) ∙ sym agrees.live ∙ live

    kept : (v : Bool) → loses f p ≡ v → loses f p ≡ false
    kept false i = i
    kept true i = absurd (cc (was, ap is_live (gone p i)))

    saw : sees_row (find_row a.next.rows p) ≡ true
    saw = let x : Facts f t p t a = (fair_turn f t p put).facts (seen_sees who d.arcs c p was) (kept (loses f p) refl) in and_right (not (is_under_at a.next.key p) || a.next.up) (sees_row (find_row a.next.rows p)) (x.seen_after stayed)

    go : (v : Bool) → w.0.live ≡ v → is_settled w.0.branch ≡ true
    go true i = settled_turn f t put (seen_settled who d c now old) (ap is_bound_phase (phase_left a.next u at) ∙ bound) p w.0 w.1 i
    go false i =
        let one : sees_row (Some w.0) ≡ true = ap sees_row (sym w.1) ∙ saw in
        grind (arith, one, i)

keeps_begins : (who : Who) (q : ℕ) (d : Digest) → Keeps d (begin_on who q d)
keeps_begins who q d = begin_cases (Keeps d) who q d (λ old. old) on
  where
    on : (c : Current) (a : Arc) → d.current ≡ Some c → find_arc d.arcs q ≡ Some a → may_begin_on who d a ≡ true → Keeps d (begun_over who q d c a)
    on c a now found_so may = λ old u at bound p b found live.
        let act : is_active (phase_of d) ≡ true = grind (arith, may) in
        let phase : is_active c.phase ≡ true = rw (now, phase_of) at act in
        let same = phase_left (transacted (TxEvent.Begun ((record { addr = a.peer; branch = record { superior = who.site; mark = next_mark who d } }) ∷ [])) (seen who (with_mark_drawn d).arcs c)).next u at in
        let clash : is_bound_phase c.phase ≡ true = ap is_bound_phase same ∙ bound in
        absurd (active_bound c.phase phase clash)
      where
        active_bound : (v : Phase) → is_active v ≡ true → is_bound_phase v ≡ true → ⊥
        active_bound v h k = grind (arith, h, k)

keeps_moves : (who : Who) (e : Event) (s : Digest) → Moves who e s Keeps
keeps_moves who e s = record {
  still = λ d old. old;
  chain = λ d a f one two quiet old. two (one old);
  speaks = λ d outs h own said. keeps_perform d outs h;
  changes_dialogue = λ d q f m by one old. one (λ c at bound p b found live. old c at bound p b found (ap is_live (sym (link_dialogue d.arcs q f p)) ∙ live));
  drops_arc = λ d q m at one old. one (λ c at bound p b found live. old c at bound p b found (dropped_live d.arcs q p live));
  notes_kept = λ d ks m held one old. one old;
  keeps = λ d k f held. keeps_keep d k f;
  turns = λ d c f now at asked put gone. keeps_turned who f d c now put gone;
  begins = λ d q free. keeps_begins who q d;
  roots = λ d m nil may one old. one (λ c at bound p b found live. absurd (fresh _ c at bound));
}
  where
    fresh : (k : _) (c : Current) → Some (fresh_current k) ≡ Some c → is_bound_phase c.phase ≡ true → ⊥
    fresh k c at bound = let same = some_same (fresh_current k) c at in cc (ap (λ (u : Current). is_bound_phase u.phase) same ∙ bound)

-- ---- every legal history

settled_prelude : (o : Origin) (up : Option Addr) (e : Entry) (h : List Entry) → o.start.records ≡ [] → IsGrown o up (e ∷ h) → SettledAt (digest o h) → SettledAt (prelude o.who (digest o h) e.event)
unfolding after_crash
settled_prelude o up e h empty legal old c at bound p b found live = go (came_by o.who d e.event legal.0)
  where
    d : Digest
    d = digest o h

    s : Digest
    s = prelude o.who d e.event

    nil_bound : (v : Phase) → is_bound_phase v ≡ true → is_nil v ≡ true → ⊥
    nil_bound v h k = grind (arith, h, k)

    late_bound : (v : Phase) → is_bound_phase v ≡ true → is_nil v ≡ false
    late_bound v h = grind (arith, h)

    was : d.current ≡ Some c → (l : Link) → link_with s.arcs p ≡ l → Prelinked o.who up p d e.event l → is_live (link_with d.arcs p) ≡ true
    was now l i (As_before j none) = ap is_live (sym (i ∙ j)) ∙ live
    was now l i (Now_idle j none) = absurd (cc (live, ap is_live (i ∙ j)))
    was now l i (Now_called j down n none below apart) = absurd (cc (live, ap is_live (i ∙ j)))
    was now l i (Now_offered z j u none) = absurd (cc (live, ap is_live (i ∙ j)))
    was now l i (Now_accepted z j u n none nil) = absurd (nil_bound c.phase bound (ap is_nil (sym (phase_at d c now)) ∙ nil))
    was now l i (Now_confirmed z w op j none) =
        let closed = (paired_law o up h empty legal.3).closed p z op in
        let off = late_bound c.phase bound in
        let key : key_at d.current p ≡ Some (aaid_of c.key, b.id) = rw (now, key_at) (rw (off, found) refl) in
        absurd (cc (closed, key))
    was now l i (Took_one a z w v u r j k node ev) = ap is_live j

    go : Came o.who d e.event → is_settled b ≡ true
    go (As_it_was i) = let now : d.current ≡ Some c = sym i ∙ at in old c now bound p b found (was now (link_with s.arcs p) refl (told_entry o up e h legal p).pre)
    go (By_begin from x y q t k g a is f cur nil above) = let same = some_same (fresh_current (Under t k a.peer)) c (sym cur ∙ at) in absurd (cc (ap (λ (u : Current). is_bound_phase u.phase) same ∙ bound))
    go (By_crash is cur) = let idle : link_with s.arcs p ≡ Idle = ap (λ (f : Event). link_with (prelude o.who d f).arcs p) is in absurd (cc (live, ap is_live idle))

pub settled_law : (o : Origin) (up : Option Addr) (h : List Entry) → o.start.records ≡ [] → IsGrown o up h → SettledAt (digest o h)
settled_law o up [] empty legal = λ c at bound p b found live. absurd (cc (current_none o empty, at))
settled_law o up (e ∷ h) empty legal =
    every_move o.who (digest o h) e.event Keeps (keeps_moves o.who e.event (prelude o.who (digest o h) e.event)) (late_law o up h legal.3) legal.0 (settled_prelude o up e h empty legal (settled_law o up h empty legal.3))

-- after the prelude too
pub settled_behind : (o : Origin) (up : Option Addr) (e : Entry) (h : List Entry) → o.start.records ≡ [] → IsGrown o up (e ∷ h) → SettledAt (prelude o.who (digest o h) e.event)
settled_behind o up e h empty legal = settled_prelude o up e h empty legal (settled_law o up h empty legal.3)
