-- Every event of a node leaves its current transaction in order among its arcs: an instance of the steps of a node.
use Rattle.std.proofs.Common.{◌≡◌, ℕ, Bool, true, false, refl, ap, sym, subst, ◌∙◌, arith, Option, Some, None, List, [], ◌∷◌, ◌==◌}
use Rattle.std.proofs.lemmas.Bool.Decides.{nat_tests}
use Rattle.tp_names.specs.declared.identifiers.Mark.{Mark}
use Rattle.tp_names.specs.declared.identifiers.Aaid.{Aaid}
use Rattle.tp_names.specs.declared.identifiers.BranchId.{BranchId}
use Rattle.tp_records.specs.declared.request.Request.{Request}
use Rattle.tp_records.specs.declared.dialogue.DialogueRecord.{DialogueRecord}
use Rattle.tp_records.specs.declared.peer.PeerRecord.{PeerRecord}
use Rattle.tp_model.specs.declared.arc.Side.{Side}
use Rattle.tp_model.specs.Parts.{Who, Event, Link, Idle, Opening, Offered, Live, Dialogue, Arc, Key, Root, Under, Branch, Current, Digest}
use Rattle.tp_model.specs.Dialogues.{is_nil, is_active, is_rolling, Asked, Ask_defer_end, Heard, Hear_defer_end, said, heard, cleared, woken, begun_by, fresh_dialogue}
use Rattle.tp_model.specs.Arcs.{find_arc, is_live_with_peer, without_arc, with_dialogue}
use Rattle.tp_model.specs.Transactions.{is_under_at}
use Rattle.tp_model.specs.Recovery.{settled}
use Rattle.tp_model.specs.Requests.{has_branch_at}
use Rattle.tp_model.specs.Node.{perform, next_mark, with_mark_drawn, superior_arc, phase_of, is_end_deferred_at, fresh_current, keep}
use Rattle.tp_model.specs.Events.{named_again, recovered_current, after_crash, action, refusal}
use Rattle.tp_model.specs.AmongArcs.{are_distinct, IsAmongArcs}
use Rattle.tp_steps.specs.Moves.{IsChange, By_waking, By_saying, By_hearing, By_beginning, By_leaving, may_put_off, prelude, called, accepted_by, accepted_on, linked, begun_in, counted_in, Moves}
use Rattle.tp_steps.proofs.every.EveryEvent.{every_move}
use Rattle.tp_steps.proofs.links.Fading.{fades_self, Keeps, fades_dialogue, keeps_said, keeps_heard, keeps_cleared, keeps_woken, keeps_begun, fades_taken, fades_put, fades_front, fades_back, fades_without, fades_performed}
use Rattle.tp_steps.proofs.branches.Rolls.{phase_at}
use Rattle.tp_steps.proofs.lemmas.Alike.{ends_other, live_same}
use Rattle.tp_steps.proofs.order.InOrder.{IsInOrder, fade, not_both, turned_in_order, fresh_in_order, begin_in_order}

-- ---- changes of a dialogue

-- an end is deferred: on a live arc, while the transaction is active
put_off_in_order : (p : ℕ) (f : Dialogue → Dialogue) (d : Digest) → may_put_off d p ≡ true → IsInOrder d → IsInOrder (record d { arcs = with_dialogue d.arcs p f })
put_off_in_order p f d may o = record { live = live; now = among }
  where
    later : List Arc
    later = with_dialogue d.arcs p f

    up : is_live_with_peer d.arcs p ≡ true
    up = grind (arith, may)

    active : (c : Current) → d.current ≡ Some c → is_active c.phase ≡ true
    active c i = let on : is_active (phase_of d) ≡ true = grind (arith, may) in ap is_active (sym (phase_at d c i)) ∙ on

    live : (q : ℕ) → is_end_deferred_at later q ≡ true → is_live_with_peer later q ≡ true
    live q off = go (q == p) refl
      where
        go : (b : Bool) → (q == p) ≡ b → is_live_with_peer later q ≡ true
        go true i = let at : p ≡ q = grind (arith, nat_tests, i) in subst (λ (n : ℕ). is_live_with_peer later n ≡ true) at (live_same d.arcs p f p ∙ up)
        go false i = live_same d.arcs p f q ∙ o.live q (sym (ends_other d.arcs p f q i) ∙ off)

    among : (c : Current) → d.current ≡ Some c → IsAmongArcs later c
    among c i = let k : IsAmongArcs d.arcs c = o.now c i in record {
      current = k.current;
      distinct = k.distinct;
      apart = k.apart;
      put_off = λ q h off. live q off;
      forgotten = λ rolls q h. absurd (not_both c.phase (active c i) rolls);
    }

-- any other change defers no end
change_in_order : (e : Event) (d : Digest) (p : ℕ) (f : Dialogue → Dialogue) → IsChange e d p f → IsInOrder d → IsInOrder (record d { arcs = with_dialogue d.arcs p f })
change_in_order e d p f by o = go by
  where
    kept : (g : Dialogue → Dialogue) → f ≡ g → Keeps g → IsInOrder (record d { arcs = with_dialogue d.arcs p f })
    kept g is k = fade d (record d { arcs = with_dialogue d.arcs p f }) refl (fades_dialogue d.arcs p f (subst Keeps (sym is) k)) o

    on_said : (a : Asked) → f ≡ said a → (a ≡ Ask_defer_end → may_put_off d p ≡ true) → IsInOrder (record d { arcs = with_dialogue d.arcs p f })
    on_said Ask_defer_end is off = put_off_in_order p f d (off refl) o
    on_said a is off = kept (said a) is (keeps_said a refl)

    on_heard : (h : Heard) → f ≡ heard h → (h ≡ Hear_defer_end → may_put_off d p ≡ true) → IsInOrder (record d { arcs = with_dialogue d.arcs p f })
    on_heard Hear_defer_end is off = put_off_in_order p f d (off refl) o
    on_heard h is off = kept (heard h) is (keeps_heard h refl)

    go : IsChange e d p f → IsInOrder (record d { arcs = with_dialogue d.arcs p f })
    go (By_waking w is) = kept woken is keeps_woken
    go (By_saying a at is off) = on_said a is off
    go (By_hearing h at is off) = on_heard h is off
    go (By_beginning h at is) = kept (begun_by h Side.Subordinate) is (keeps_begun h Side.Subordinate)
    go (By_leaving at is) = kept cleared is keeps_cleared

-- ---- the steps

in_order_moves : (who : Who) (e : Event) (s : Digest) → Moves who e s (λ d m. IsInOrder d → IsInOrder m.next)
in_order_moves who e s = record {
  still = λ d o. o;
  chain = λ d a f one two quiet o. two (one o);
  speaks = λ d outs spoken own said o. fade d (perform outs d).next refl (fades_performed d.arcs outs) o;
  changes_dialogue = λ d p f m by one o. one (change_in_order e d p f by o);
  drops_arc = λ d p m at one o. one (fade d (record d { arcs = without_arc d.arcs p }) refl (fades_without d.arcs p) o);
  notes_kept = λ d ks m held one o. one (fade d (record d { kept = ks }) refl (fades_self d.arcs) o);
  keeps = λ d k f held o. fade d (keep (settled k f) d).next refl (fades_performed d.arcs (settled k f).outs) o;
  turns = λ d c f now at asked put gone o. turned_in_order who f d c now put o;
  begins = λ d p free o. begin_in_order who p d o;
  roots = λ d m nil may one o.
      let k : Key = Root (record { owner = who.site; mark = next_mark who d }) in
      one (fresh_in_order d (record (with_mark_drawn d) { current = Some (fresh_current k) }) k refl (fades_self d.arcs) o);
}

-- ---- the prelude

accepted_in_order : (who : Who) (d : Digest) (u : ℕ) (o : Option Arc) → IsInOrder d → IsInOrder (accepted_by who u o d)
accepted_in_order who d u None k = k
accepted_in_order who d u (Some a) k = on a.link
  where
    on : (l : Link) → IsInOrder (accepted_on who u a l d)
    on Idle = k
    on (Opening x) = k
    on (Offered x) = fade d (accepted_on who u a (Offered x) d) refl (fades_put d.arcs (record a { link = Live x (next_mark who d) 0 0; dialogue = fresh_dialogue u Side.Subordinate }) refl) k
    on (Live x y s t) = k

linked_in_order : (d : Digest) (o : Option Arc) (x y : Mark) (u : ℕ) → IsInOrder d → IsInOrder (linked o x y u d)
linked_in_order d None x y u k = k
linked_in_order d (Some a) x y u k = fade d (linked (Some a) x y u d) refl (fades_put d.arcs (record a { link = Live x y 0 0; dialogue = fresh_dialogue u Side.Superior }) refl) k

begun_in_order : (o : Option Arc) (t : Aaid) (b : BranchId) (d : Digest) → IsInOrder d → IsInOrder (begun_in o t b d)
begun_in_order None t b d k = k
begun_in_order (Some a) t b d k = fresh_in_order d (begun_in (Some a) t b d) (Under t b a.peer) refl (fades_self d.arcs) k

named_has : (bs : List Branch) (p : ℕ) → has_branch_at bs p ≡ false → has_branch_at (named_again bs) p ≡ false
named_has [] p h = refl
named_has (b ∷ bs) p h = grind (arith, h, named_has bs p)

named_differ : (bs : List Branch) → are_distinct bs ≡ true → are_distinct (named_again bs) ≡ true
named_differ [] h = refl
named_differ (b ∷ bs) h =
    let rest : are_distinct (named_again bs) ≡ true = named_differ bs (grind (arith, h)) in
    let mine : has_branch_at (named_again bs) b.peer.node ≡ false = named_has bs b.peer.node (grind (arith, h)) in
    grind (arith, rest, mine)

pub crash_in_order : (d : Digest) → IsInOrder d → IsInOrder (after_crash d)
unfolding after_crash
crash_in_order d o = record { live = λ p off. absurd (cc (off)); now = λ c is. among d.current refl c is }
  where
    kept : (u : Current) → d.current ≡ Some u → (c : Current) → recovered_current (Some u) ≡ Some c → IsAmongArcs [] c
    kept u i c is =
        let k : IsAmongArcs d.arcs u = o.now u i in
        let key : c.key ≡ u.key = grind (arith, is) in
        let branches : c.branches ≡ named_again u.branches = grind (arith, is) in
        let phase : (is_nil c.phase ≡ false) × (is_rolling c.phase ≡ false) = (grind (arith, is), grind (arith, is)) in
        record {
          current = phase.0;
          distinct = ap are_distinct branches ∙ named_differ u.branches k.distinct;
          apart = λ p h. ap (λ bs. has_branch_at bs p) branches ∙ named_has u.branches p (k.apart p (sym (ap (λ x. is_under_at x p) key) ∙ h));
          put_off = λ p h off. absurd (cc (off));
          forgotten = λ rolls. absurd (cc (rolls, phase.1));
        }

    among : (v : Option Current) → d.current ≡ v → (c : Current) → recovered_current v ≡ Some c → IsAmongArcs [] c
    among None i c is = absurd (cc (is))
    among (Some u) i c is = kept u i c is

prelude_in_order : (who : Who) (d : Digest) (e : Event) → IsInOrder d → IsInOrder (prelude who d e)
prelude_in_order who d (Event.Declare s) o = fade d (record d { declared = true; superior = s }) refl (fades_self d.arcs) o
prelude_in_order who d (Event.Do (Request.BeginDialogue a u)) o = fade d (called who a u d) refl (fades_back d.arcs (record { peer = a; link = Opening (next_mark who d); dialogue = fresh_dialogue u Side.Superior }) refl) o
prelude_in_order who d (Event.Do (Request.Accept u)) o = accepted_in_order who d u (superior_arc d) o
prelude_in_order who d (Event.Arrive from (PeerRecord.OpenAssoc x u)) o =
    let arc : Arc = record { peer = from; link = Offered x; dialogue = fresh_dialogue u Side.Subordinate } in
    fade d (record d { arcs = arc ∷ d.arcs }) refl (fades_front d.arcs arc refl) o
prelude_in_order who d (Event.Arrive from (PeerRecord.AcceptAssoc x y u)) o = linked_in_order d (find_arc d.arcs from.node) x y u o
prelude_in_order who d (Event.Arrive from (PeerRecord.OnAssoc x y q (DialogueRecord.Begin t b h))) o =
    begun_in_order (find_arc d.arcs from.node) t b (counted_in d from) (fade d (counted_in d from) refl (fades_taken d.arcs from.node) o)
prelude_in_order who d (Event.Arrive from (PeerRecord.OnAssoc x y q r)) o = fade d (counted_in d from) refl (fades_taken d.arcs from.node) o
prelude_in_order who d Event.Crash o = crash_in_order d o
prelude_in_order who d _ o = o

-- ---- every event

pub event_in_order : (who : Who) (d : Digest) (e : Event) → refusal who d e ≡ None → IsInOrder d → IsInOrder (action who d e).next
event_in_order who d e ok o =
    every_move who d e (λ g m. IsInOrder g → IsInOrder m.next) (in_order_moves who e (prelude who d e)) (λ c i. (o.now c i).current) ok (prelude_in_order who d e o)
