-- Of a legal history: only a declared node has arcs, and the key of its transaction is its own tree's or its superior's.
use Rattle.std.proofs.Common.{◌≡◌, inl, inr, ℕ, Bool, true, false, refl, ap, sym, subst, ◌∙◌, arith, Option, Some, None, List, [], ◌∷◌}
use Rattle.std.proofs.lemmas.Bool.Decides.{nat_tests}
use Rattle.tp_names.specs.declared.identifiers.Addr.{Addr}
use Rattle.tp_records.specs.declared.request.Request.{Request}
use Rattle.tp_records.specs.declared.peer.PeerRecord.{PeerRecord}
use Rattle.tp_model.specs.Parts.{Who, Origin, Event, Entry, Link, Idle, Opening, Offered, Live, Arc, Key, Root, Under, Current, Digest}
use Rattle.tp_model.specs.Links.{is_idle}
use Rattle.tp_model.specs.Arcs.{link_of, link_with}
use Rattle.tp_model.specs.Node.{superior_arc, fresh_current}
use Rattle.tp_model.specs.Requests.{refused_request}
use Rattle.tp_model.specs.Arrivals.{refused_arrival}
use Rattle.tp_model.specs.Events.{refusal, verdict, action, after_crash, recovered_current, started}
use Rattle.tp_model.specs.History.{digest}
use Rattle.tp_model.specs.Questions.{is_at, sent_more}
use Rattle.tp_model.specs.Legal.{IsGrown}
use Rattle.tp_steps.specs.Moves.{prelude}
use Rattle.tp_steps.specs.Keyed.{HasKeyFrom, IsKeyedMove}
use Rattle.tp_steps.proofs.every.EveryEvent.{every_move}
use Rattle.tp_histories.proofs.trees.Late.{late_law}
use Rattle.tp_steps.proofs.every.Preludes.{superior_found}
use Rattle.tp_histories.proofs.marks.Traced.{Told, told, traced_law}
use Rattle.tp_steps.proofs.log.Keyed.{keyed_moves}
use Rattle.tp_histories.proofs.trees.Knowing.{Came, As_it_was, By_begin, By_crash, came_by}
use Rattle.tp_histories.proofs.worlds.Unique.{superior_is}

-- ---- arcs of a declared node

idle_more : (n : ℕ) (l : Link) → is_idle l ≡ true → is_idle (sent_more n l) ≡ true
idle_more n Idle h = refl
idle_more n _ h = absurd cc

offered_arc : (who : Who) (d : Digest) (u : ℕ) → refusal who d (Event.Do (Request.Accept u)) ≡ None → (p : ℕ) × (is_idle (link_with d.arcs p) ≡ false)
unfolding refusal verdict refused_request
offered_arc who d u ok = go (superior_arc d) refl
  where
    go : (o : Option Arc) → superior_arc d ≡ o → (p : ℕ) × (is_idle (link_with d.arcs p) ≡ false)
    go None i = absurd (grind (arith, ok, i))
    go (Some a) i = let s = superior_found d a i in (s.0.node, ap is_idle (ap link_of s.2) ∙ on a.link refl)
      where
        on : (l : Link) → a.link ≡ l → is_idle a.link ≡ false
        on Idle j = absurd (grind (arith, ok, i, j))
        on (Opening x) j = ap is_idle j
        on (Offered x) j = ap is_idle j
        on (Live x y v w) j = ap is_idle j

-- after the prelude of an accepted event
pub declared_prelude : (who : Who) (d : Digest) (e : Event) → refusal who d e ≡ None → ((p : ℕ) → d.declared ≡ false → is_idle (link_with d.arcs p) ≡ true) → (p : ℕ) → (prelude who d e).declared ≡ false → is_idle (link_with (prelude who d e).arcs p) ≡ true
unfolding refusal verdict refused_request refused_arrival after_crash
declared_prelude who d (Event.Declare s) ok old p h = absurd cc
declared_prelude who d (Event.Do (Request.BeginDialogue a u)) ok old p h = absurd (grind (arith, ok, h))
declared_prelude who d (Event.Do (Request.Accept u)) ok old p h = absurd (clash (d.declared) refl)
  where
    same : (prelude who d (Event.Do (Request.Accept u))).declared ≡ d.declared
    same = grind arith

    clash : (b : Bool) → d.declared ≡ b → ⊥
    clash true i = absurd (cc (same, h, i))
    clash false i = let a = offered_arc who d u ok in absurd (cc (a.1, old a.0 i))
declared_prelude who d (Event.Do r) ok old p h = old p h
declared_prelude who d (Event.Arrive from (PeerRecord.OpenAssoc x u)) ok old p h = absurd (grind (arith, ok, h))
declared_prelude who d (Event.Arrive from (PeerRecord.AcceptAssoc x y u)) ok old p h = absurd (grind (arith, ok, h))
declared_prelude who d (Event.Arrive from (PeerRecord.OnAssoc x y q r)) ok old p h = absurd (grind (arith, ok, h))
declared_prelude who d (Event.Arrive from r) ok old p h = old p h
declared_prelude who d (Event.Break from r) ok old p h = old p h
declared_prelude who d (Event.Lose q) ok old p h = old p h
declared_prelude who d (Event.Heur o) ok old p h = old p h
declared_prelude who d (Event.GiveUp q) ok old p h = old p h
declared_prelude who d Event.Retry ok old p h = old p h
declared_prelude who d Event.Purge ok old p h = old p h
declared_prelude who d Event.Crash ok old p h = refl

pub undeclared_idle : (o : Origin) (up : Option Addr) (h : List Entry) → IsGrown o up h → (p : ℕ) → (digest o h).declared ≡ false → is_idle (link_with (digest o h).arcs p) ≡ true
unfolding started
undeclared_idle o up [] legal p i = refl
undeclared_idle o up (e ∷ h) legal p i =
    let d : Digest = digest o h in
    let traced = traced_law o up h legal.3 in
    let k : Told o.who up p d e.event = told o.who up p d e.event (late_law o up h legal.3) traced.under traced.declared legal.0 in
    let pre = declared_prelude o.who d e.event legal.0 (undeclared_idle o up h legal.3) p (sym k.linked.declared ∙ i) in
    elim k.linked.over.link [
      | inl j ↦ ap is_idle j ∙ idle_more _ (link_with (prelude o.who d e.event).arcs p) pre
      | inr j ↦ ap is_idle j
    ]

-- ---- the key

-- it is of a tree of the node's, or came from its superior
abbrev pub IsKeyOf : Who → Option Addr → Key → Type 0
IsKeyOf who up (Root t) = (t.owner ≡ who.site) × (t.mark.node ≡ who.node)
IsKeyOf who up (Under t b a) = is_at up a.node ≡ true

pub recovered_key : (o : Option Current) (u : Current) → recovered_current o ≡ Some u → (c : Current) × (o ≡ Some c) × (u.key ≡ c.key)
recovered_key None u h = absurd cc
recovered_key (Some c) u h = (c, refl, grind (arith, h))

key_given : (who : Who) (up : Option Addr) (u : Current) (c : Current) → u.key ≡ c.key → IsKeyOf who up c.key → IsKeyOf who up u.key
key_given who up u c same k = subst (λ (v : Key). IsKeyOf who up v) (sym same) k

pub key_law : (o : Origin) (up : Option Addr) (h : List Entry) (u : Current) → o.start.records ≡ [] → IsGrown o up h → (digest o h).current ≡ Some u → IsKeyOf o.who up u.key
unfolding started
key_law o up [] u empty legal i = absurd (cc (rw empty at i))
key_law o up (e ∷ h) u empty legal i = go (moves.keys u i) (λ c j. key_law o up h c empty legal.3 j)
  where
    d : Digest
    d = digest o h

    s : Digest
    s = prelude o.who d e.event

    moves : IsKeyedMove o.who e.event s s (action o.who d e.event)
    moves = every_move o.who d e.event (IsKeyedMove o.who e.event s) (keyed_moves o.who e.event s) (late_law o up h legal.3) legal.0

    before : (c : Current) → s.current ≡ Some c → ((b : Current) → d.current ≡ Some b → IsKeyOf o.who up b.key) → Came o.who d e.event → IsKeyOf o.who up c.key
    before c j rest (As_it_was k) = rest c (sym k ∙ j)
    before c j rest (By_begin from x y q t b g a is found cur nil above) =
        let same : fresh_current (Under t b a.peer) ≡ c = cc (sym cur ∙ j) in
        let sup = superior_is d up a.peer.node (traced_law o up h legal.3).under above in
        let at : is_at up a.peer.node ≡ true = rw (sup.1) (grind (arith, nat_tests, sup.2)) in
        subst (λ (v : Current). IsKeyOf o.who up v.key) same at
    before c j rest (By_crash is cur) =
        let r = recovered_key d.current c (sym cur ∙ j) in
        key_given o.who up c r.0 r.2 (rest r.0 r.1)

    go : HasKeyFrom o.who s u → ((b : Current) → d.current ≡ Some b → IsKeyOf o.who up b.key) → IsKeyOf o.who up u.key
    go (inl k) rest = key_given o.who up u k.0 k.2 (before k.0 k.1 rest (came_by o.who d e.event legal.0))
    go (inr k) rest = subst (λ (v : Key). IsKeyOf o.who up v) (sym k.1) (k.2, k.3)
