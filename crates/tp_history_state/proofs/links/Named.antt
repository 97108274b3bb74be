-- In every legal history an arc has the address and the units that the questions answer.
use Rattle.tp_history_state.proofs.Vocabulary.{if◌then◌else◌, ◌≡◌, ℕ, Bool, true, false, refl, ap, sym, ◌∙◌, arith, Option, Some, None, List, [], ◌∷◌, ◌++◌, ◌==◌, nat_tests, Mark, Addr, Request, DialogueRecord, PeerRecord, Side, Who, Origin, Event, Entry, Link, Idle, Opening, Offered, Live, Arc, Digest, fresh_dialogue, find_arc, put_arc, superior_arc, next_mark, refused_request, refusal, action, after_crash, started, digest, superior_in, IsGrown, prelude, called, accepted_by, accepted_on, linked, counted_in, plain_request, superior_found, every_move, late_law, plain_law, find_arc_is, with_one_taken}
use Rattle.tp_steps.proofs.lemmas.Options.{some_same}
use Rattle.tp_history_state.specs.Named.{address_in, address_then, units_in, units_then}
use Rattle.tp_history_state.proofs.links.Kin.{IsKin, kin_link, kin_moves}
use Rattle.tp_history_state.proofs.links.LinkBy.{call_free}
use Rattle.tp_steps.proofs.every.Preludes.{begun_arcs}

-- ---- arcs in lists

found_end : (arcs : List Arc) (n : Arc) (p : ℕ) → find_arc (arcs ++ (n ∷ [])) p ≡ elim (find_arc arcs p) as (λ _. Option Arc) [ None ↦ if n.peer.node == p then Some n else None | Some b ↦ Some b ]
found_end [] n p = refl
found_end (a ∷ arcs) n p = go (a.peer.node == p) (found_end arcs n p)
  where
    go : (b : Bool) → find_arc (arcs ++ (n ∷ [])) p ≡ elim (find_arc arcs p) as (λ _. Option Arc) [ None ↦ if n.peer.node == p then Some n else None | Some x ↦ Some x ]
        → (if b then Some a else find_arc (arcs ++ (n ∷ [])) p) ≡ elim (if b then Some a else find_arc arcs p) as (λ _. Option Arc) [ None ↦ if n.peer.node == p then Some n else None | Some x ↦ Some x ]
    go true rest = refl
    go false rest = rest

pub found_put : (arcs : List Arc) (n x : Arc) (p : ℕ) → find_arc arcs n.peer.node ≡ Some x → find_arc (put_arc arcs n) p ≡ (if n.peer.node == p then Some n else find_arc arcs p)
found_put [] n x p h = absurd (cc (h))
found_put (a ∷ arcs) n x p h = grind (arith, nat_tests, found_put arcs n x p, h)

-- ---- the prelude of an event

abbrev IsNamed : Option Addr → ℕ → Arc → Type 0
IsNamed q u a = (q ≡ Some a.peer) × (u ≡ a.dialogue.units)

abbrev AreNamed : Origin → ℕ → List Entry → Type 0
AreNamed o p h = (a : Arc) → find_arc (digest o h).arcs p ≡ Some a → IsNamed (address_in p h) (units_in p h) a

-- an arc takes the place of another one with its peer, and has other units
named_put : (o : Origin) (h : List Entry) (p : ℕ) (n x a : Arc) (u : ℕ) → AreNamed o p h → find_arc (digest o h).arcs n.peer.node ≡ Some x → n.peer ≡ x.peer → n.dialogue.units ≡ u → find_arc (put_arc (digest o h).arcs n) p ≡ Some a
    → IsNamed (address_in p h) (if n.peer.node == p then u else units_in p h) a
named_put o h p n x a u old found peer units i = go (n.peer.node == p) refl (sym (found_put (digest o h).arcs n x p found) ∙ i)
  where
    go : (b : Bool) → (n.peer.node == p) ≡ b → (if b then Some n else find_arc (digest o h).arcs p) ≡ Some a → IsNamed (address_in p h) (if b then u else units_in p h) a
    go true j k =
        let at : n.peer.node ≡ p = grind (arith, nat_tests, j) in
        let one : n ≡ a = some_same n a k in
        ((old x (ap (find_arc (digest o h).arcs) (sym at) ∙ found)).0 ∙ ap (λ (v : Addr). Some v) (sym peer) ∙ ap (λ (v : Arc). Some v.peer) one, sym units ∙ ap (λ (v : Arc). v.dialogue.units) one)
    go false j k = old a k

named_called : (o : Origin) (h : List Entry) (p : ℕ) (b : Addr) (u : ℕ) (a : Arc) → refusal o.who (digest o h) (Event.Do (Request.BeginDialogue b u)) ≡ None → AreNamed o p h → find_arc (called o.who b u (digest o h)).arcs p ≡ Some a
    → IsNamed (if b.node == p then Some b else address_in p h) (if b.node == p then u else units_in p h) a
named_called o h p b u a ok old i = go (find_arc d.arcs p) refl (b.node == p) refl (sym (found_end d.arcs n p) ∙ i)
  where
    d : Digest
    d = digest o h

    n : Arc
    n = record { peer = b; link = Opening (next_mark o.who d); dialogue = fresh_dialogue u Side.Superior }

    go : (v : Option Arc) → find_arc d.arcs p ≡ v → (w : Bool) → (b.node == p) ≡ w → elim v as (λ _. Option Arc) [ None ↦ if w then Some n else None | Some x ↦ Some x ] ≡ Some a
        → IsNamed (if w then Some b else address_in p h) (if w then u else units_in p h) a
    go None j true k m = let one : n ≡ a = some_same n a m in (ap (λ (x : Arc). Some x.peer) one, ap (λ (x : Arc). x.dialogue.units) one)
    go None j false k m = absurd (cc (m))
    go (Some x) j true k m =
        absurd (let at : b.node ≡ p = grind (arith, nat_tests, k) in
        let no : None ≡ Some x = sym (call_free o.who d b u ok) ∙ ap (find_arc d.arcs) at ∙ j in
        cc (no))
    go (Some x) j false k m = old a (j ∙ m)

not_offered : (who : Who) (d : Digest) (u : ℕ) (x : Arc) (l : Link) → refused_request who d (Request.Accept u) ≡ None → superior_arc d ≡ Some x → x.link ≡ l → (l ≡ Idle → ⊥) × ((m : Mark) → l ≡ Opening m → ⊥) × ((m n : Mark) (s t : ℕ) → l ≡ Live m n s t → ⊥)
unfolding refused_request
not_offered who d u x l ok i j = (λ k. absurd (grind (arith, ok, i, j, k)), λ m k. absurd (grind (arith, ok, i, j, k)), λ m n s t k. absurd (grind (arith, ok, i, j, k)))

unaccepted : (who : Who) (d : Digest) (u : ℕ) → refused_request who d (Request.Accept u) ≡ None → superior_arc d ≡ None → ⊥
unfolding refused_request
unaccepted who d u ok j = absurd (grind (arith, ok, j))

named_accepted : (o : Origin) (h : List Entry) (p : ℕ) (u : ℕ) (a : Arc) → refusal o.who (digest o h) (Event.Do (Request.Accept u)) ≡ None → (digest o h).superior ≡ superior_in h → AreNamed o p h
    → find_arc (accepted_by o.who u (superior_arc (digest o h)) (digest o h)).arcs p ≡ Some a → IsNamed (address_in p h) (units_then p (superior_in h) (Event.Do (Request.Accept u)) (units_in p h)) a
named_accepted o h p u a ok up old i = go (superior_arc d) refl i
  where
    d : Digest
    d = digest o h

    plain : refused_request o.who d (Request.Accept u) ≡ None
    plain = plain_request o.who d (Request.Accept u) ok

    on : (x : Arc) (l : Link) → superior_arc d ≡ Some x → x.link ≡ l → find_arc (accepted_on o.who u x l d).arcs p ≡ Some a → IsNamed (address_in p h) (units_then p (superior_in h) (Event.Do (Request.Accept u)) (units_in p h)) a
    on x Idle j k m = absurd ((not_offered o.who d u x Idle plain j k).0 refl)
    on x (Opening z) j k m = absurd ((not_offered o.who d u x (Opening z) plain j k).1 z refl)
    on x (Live z y s t) j k m = absurd ((not_offered o.who d u x (Live z y s t) plain j k).2 z y s t refl)
    on x (Offered z) j k m =
        let s = superior_found d x j in
        let at : x.peer.node ≡ s.0.node = find_arc_is d.arcs s.0.node x s.2 in
        let n : Arc = record x { link = Live z (next_mark o.who d) 0 0; dialogue = fresh_dialogue u Side.Subordinate } in
        let top : superior_in h ≡ Some s.0 = sym up ∙ s.1 in
        let put = named_put o h p n x a u old (ap (find_arc d.arcs) at ∙ s.2) refl refl m in
        let same : units_then p (superior_in h) (Event.Do (Request.Accept u)) (units_in p h) ≡ (if x.peer.node == p then u else units_in p h) = ap (λ (q : Option Addr). units_then p q (Event.Do (Request.Accept u)) (units_in p h)) top ∙ ap (λ (q : ℕ). if q == p then u else units_in p h) (sym at) in
        (put.0, same ∙ put.1)

    go : (v : Option Arc) → superior_arc d ≡ v → find_arc (accepted_by o.who u v d).arcs p ≡ Some a → IsNamed (address_in p h) (units_then p (superior_in h) (Event.Do (Request.Accept u)) (units_in p h)) a
    go None j m = absurd (unaccepted o.who d u plain j)
    go (Some x) j m = on x x.link j refl m

named_linked : (o : Origin) (h : List Entry) (p : ℕ) (from : Addr) (x y : Mark) (u : ℕ) (a : Arc) → AreNamed o p h → find_arc (linked (find_arc (digest o h).arcs from.node) x y u (digest o h)).arcs p ≡ Some a → IsNamed (address_in p h) (if from.node == p then u else units_in p h) a
named_linked o h p from x y u a old i = go (find_arc d.arcs from.node) refl i
  where
    d : Digest
    d = digest o h

    go : (v : Option Arc) → find_arc d.arcs from.node ≡ v → find_arc (linked v x y u d).arcs p ≡ Some a → IsNamed (address_in p h) (if from.node == p then u else units_in p h) a
    go None j m = on (from.node == p) refl
      where
        on : (b : Bool) → (from.node == p) ≡ b → IsNamed (address_in p h) (if b then u else units_in p h) a
        on true k = absurd (let at : from.node ≡ p = grind (arith, nat_tests, k) in let no : None ≡ Some a = sym j ∙ ap (find_arc d.arcs) at ∙ m in cc (no))
        on false k = old a m
    go (Some z) j m =
        let at : z.peer.node ≡ from.node = find_arc_is d.arcs from.node z j in
        let put = named_put o h p (record z { link = Live x y 0 0; dialogue = fresh_dialogue u Side.Superior }) z a u old (ap (find_arc d.arcs) at ∙ j) refl refl m in
        (put.0, ap (λ (q : ℕ). if q == p then u else units_in p h) (sym at) ∙ put.1)

named_offered : (o : Origin) (h : List Entry) (p : ℕ) (from : Addr) (x : Mark) (u : ℕ) (a : Arc) → AreNamed o p h → find_arc (record { peer = from; link = Offered x; dialogue = fresh_dialogue u Side.Subordinate } ∷ (digest o h).arcs) p ≡ Some a
    → IsNamed (if from.node == p then Some from else address_in p h) (if from.node == p then u else units_in p h) a
named_offered o h p from x u a old i = go (from.node == p) i
  where
    n : Arc
    n = record { peer = from; link = Offered x; dialogue = fresh_dialogue u Side.Subordinate }

    go : (b : Bool) → (if b then Some n else find_arc (digest o h).arcs p) ≡ Some a → IsNamed (if b then Some from else address_in p h) (if b then u else units_in p h) a
    go true m = let one : n ≡ a = some_same n a m in (ap (λ (z : Arc). Some z.peer) one, ap (λ (z : Arc). z.dialogue.units) one)
    go false m = old a m

-- a record on the association is counted
named_counted : (o : Origin) (h : List Entry) (p : ℕ) (from : Addr) (a : Arc) → AreNamed o p h → find_arc (counted_in (digest o h) from).arcs p ≡ Some a → IsNamed (address_in p h) (units_in p h) a
named_counted o h p from a old i = let k = kin_link p from.node with_one_taken (digest o h).arcs a i in let z = old k.0 k.1 in (z.0 ∙ ap (λ (v : Addr). Some v) (sym k.2), z.1 ∙ sym k.3)

named_first : (o : Origin) (h : List Entry) (p : ℕ) (v : Event) → refusal o.who (digest o h) v ≡ None → (digest o h).superior ≡ superior_in h → AreNamed o p h → (a : Arc) → find_arc (prelude o.who (digest o h) v).arcs p ≡ Some a
    → IsNamed (address_then p v (address_in p h)) (units_then p (superior_in h) v (units_in p h)) a
unfolding after_crash
named_first o h p (Event.Do (Request.BeginDialogue b u)) ok up old a i = named_called o h p b u a ok old i
named_first o h p (Event.Do (Request.Accept u)) ok up old a i = named_accepted o h p u a ok up old i
named_first o h p (Event.Do r) ok up old a i = old a i
named_first o h p (Event.Arrive from (PeerRecord.OpenAssoc x u)) ok up old a i = named_offered o h p from x u a old i
named_first o h p (Event.Arrive from (PeerRecord.AcceptAssoc x y u)) ok up old a i = named_linked o h p from x y u a old i
named_first o h p (Event.Arrive from (PeerRecord.OnAssoc x y q (DialogueRecord.Begin t b k))) ok up old a i =
    named_counted o h p from a old (ap (λ (arcs : List Arc). find_arc arcs p) (sym (begun_arcs (find_arc (digest o h).arcs from.node) t b (counted_in (digest o h) from))) ∙ i)
named_first o h p (Event.Arrive from (PeerRecord.OnAssoc x y q r)) ok up old a i = named_counted o h p from a old i
named_first o h p (Event.Arrive from r) ok up old a i = old a i
named_first o h p Event.Crash ok up old a i = absurd (cc (i))
named_first o h p _ ok up old a i = old a i

-- ---- every legal history

pub named_law : (o : Origin) (up : Option Addr) (h : List Entry) (p : ℕ) → IsGrown o up h → (a : Arc) → find_arc (digest o h).arcs p ≡ Some a → (address_in p h ≡ Some a.peer) × (units_in p h ≡ a.dialogue.units)
unfolding started
named_law o up [] p legal a i = absurd (cc (i))
named_law o up (e ∷ h) p legal a i =
    let d : Digest = digest o h in
    let kin : IsKin p (prelude o.who d e.event).arcs (action o.who d e.event).next.arcs = every_move o.who d e.event (λ g m. IsKin p g.arcs m.next.arcs) (kin_moves o.who e.event (prelude o.who d e.event) p) (late_law o up h legal.3) legal.0 in
    let k = kin a i in
    let z = named_first o h p e.event legal.0 (plain_law o up h legal.3).superior (named_law o up h p legal.3) k.0 k.1 in
    (z.0 ∙ ap (λ (v : Addr). Some v) (sym k.2), z.1 ∙ sym k.3)
