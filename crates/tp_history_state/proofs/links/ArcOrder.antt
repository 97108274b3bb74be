-- In every legal history the arcs below stand in the order in which their dialogues were asked for, as the questions answer.
use Rattle.tp_history_state.proofs.Vocabulary.{Bool, List, None, Option, Some, [], ap, arith, false, if◌then◌else◌, not, refl, sym, true, ℕ, ◌&&◌, ◌++◌, ◌==◌, ◌||◌, ◌∙◌, ◌∷◌, ◌≡◌, subst, or-false, nat_tests, Addr, Mark, DialogueRecord, PeerRecord, Request, is_at, link_in, Origin, Entry, Digest, Arc, Event, Idle, Link, Live, Offered, Opening, Who, digest, entry_of, peers_in, agrees_order, agrees_up, asked_for, is_number, not_idle, same_list, is_superior, Move, next_mark, superior_arc, with_mark_drawn, find_arc, link_with, is_idle, IsGrown, IsLegal, Side, action, after_crash, refusal, verdict, started, call, refused_request, fresh_dialogue, refused_arrival, with_an_arc, below_as_asked, is_there, are_separate, IsLinked, accepted_by, accepted_on, begun_in, counted_in, linked, prelude, numbers, busy_there, Thins, separate_law, thins_moves, thins_put, thins_self, thins_taken, thins_then, superior_at, every_move, late_law, linked_moves, without_peer, peers_below}
use Rattle.tp_history_state.proofs.links.Link.{link_law}
use Rattle.tp_control.specs.Leading.{opens}
use Rattle.tp_history_state.proofs.control.Quiet.{Grows, undeclared}
use Rattle.tp_histories.proofs.trees.Above.{undeclared_idle}

-- ---- numbers that are not the superior's

abbrev beneath : Option Addr → List ℕ → List ℕ
beneath s [] = []
beneath s (p ∷ ps) = if is_at s p then beneath s ps else p ∷ beneath s ps

below_is : (d : Digest) (arcs : List Arc) → peers_below d arcs ≡ beneath d.superior (numbers arcs)
below_is d [] = refl
below_is d (a ∷ arcs) = go (is_superior d a.peer.node) refl (below_is d arcs)
  where
    go : (b : Bool) → is_superior d a.peer.node ≡ b → peers_below d arcs ≡ beneath d.superior (numbers arcs) → (if b then peers_below d arcs else a.peer.node ∷ peers_below d arcs) ≡ beneath d.superior (a.peer.node ∷ numbers arcs)
    go true i rest = let at : is_at d.superior a.peer.node ≡ true = sym (superior_at d a.peer.node) ∙ i in rw (at, beneath) rest
    go false i rest = let at : is_at d.superior a.peer.node ≡ false = sym (superior_at d a.peer.node) ∙ i in rw (at, beneath, rest) refl

beneath_those : (s : Option Addr) (arcs : List Arc) (ps : List ℕ) → beneath s (with_an_arc arcs ps) ≡ with_an_arc arcs (beneath s ps)
beneath_those s arcs [] = refl
beneath_those s arcs (p ∷ ps) = go (is_there p arcs) refl (is_at s p) refl (beneath_those s arcs ps)
  where
    go : (b : Bool) → is_there p arcs ≡ b → (c : Bool) → is_at s p ≡ c → beneath s (with_an_arc arcs ps) ≡ with_an_arc arcs (beneath s ps) → beneath s (if b then p ∷ with_an_arc arcs ps else with_an_arc arcs ps) ≡ with_an_arc arcs (if c then beneath s ps else p ∷ beneath s ps)
    go true i true j rest = rw (j, rest) refl
    go true i false j rest = rw (i, j, rest) refl
    go false i true j rest = rest
    go false i false j rest = rw (i, rest) refl

-- ---- who was asked

abbrev pub is_in : ℕ → List ℕ → Bool
is_in p [] = false
is_in p (q ∷ qs) = (q == p) || is_in p qs

abbrev pub are_single : List ℕ → Bool
are_single [] = true
are_single (q ∷ qs) = not (is_in q qs) && are_single qs

in_append : (p : ℕ) (xs ys : List ℕ) → is_in p (xs ++ ys) ≡ (is_in p xs || is_in p ys)
in_append p [] ys = refl
in_append p (x ∷ xs) ys = go (x == p) (in_append p xs ys)
  where
    go : (b : Bool) → is_in p (xs ++ ys) ≡ (is_in p xs || is_in p ys) → (b || is_in p (xs ++ ys)) ≡ ((b || is_in p xs) || is_in p ys)
    go true rest = refl
    go false rest = rest

in_without : (p q : ℕ) (qs : List ℕ) → is_in q qs ≡ false → is_in q (without_peer p qs) ≡ false
in_without p q [] h = refl
in_without p q (r ∷ qs) h = go (r == p) (in_without p q qs (grind (arith, h)))
  where
    go : (b : Bool) → is_in q (without_peer p qs) ≡ false → is_in q (if b then qs else r ∷ without_peer p qs) ≡ false
    go true rest = grind (arith, h)
    go false rest = let off : (r == q) ≡ false = grind (arith, h) in rw (off, rest) refl

gone_without : (p : ℕ) (qs : List ℕ) → are_single qs ≡ true → is_in p (without_peer p qs) ≡ false
gone_without p [] h = refl
gone_without p (r ∷ qs) h = go (r == p) refl (gone_without p qs (grind (arith, h)))
  where
    go : (b : Bool) → (r == p) ≡ b → is_in p (without_peer p qs) ≡ false → is_in p (if b then qs else r ∷ without_peer p qs) ≡ false
    go true i rest = let at : r ≡ p = grind (arith, nat_tests, i) in ap (λ (n : ℕ). is_in n qs) (sym at) ∙ grind (arith, h)
    go false i rest = rw (i, rest) refl

single_without : (p : ℕ) (qs : List ℕ) → are_single qs ≡ true → are_single (without_peer p qs) ≡ true
single_without p [] h = refl
single_without p (r ∷ qs) h = go (r == p) (single_without p qs (grind (arith, h)))
  where
    go : (b : Bool) → are_single (without_peer p qs) ≡ true → are_single (if b then qs else r ∷ without_peer p qs) ≡ true
    go true rest = grind (arith, h)
    go false rest = let off : is_in r (without_peer p qs) ≡ false = in_without p r qs (grind (arith, h)) in rw (off, rest) refl

single_end : (p : ℕ) (qs : List ℕ) → are_single qs ≡ true → is_in p qs ≡ false → are_single (qs ++ p ∷ []) ≡ true
single_end p [] h off = refl
single_end p (r ∷ qs) h off =
    let other : (r == p) ≡ false = grind (arith, off) in
    let mine : (p == r) ≡ false = grind (arith, nat_tests, other) in
    let gone : is_in r qs ≡ false = grind (arith, h) in
    let rest : are_single (qs ++ p ∷ []) ≡ true = single_end p qs (grind (arith, h)) (grind (arith, off)) in
    let new : is_in r (qs ++ p ∷ []) ≡ false = in_append r qs (p ∷ []) ∙ rw (gone, mine) refl in
    rw (new, rest) refl

those_append : (arcs : List Arc) (xs ys : List ℕ) → with_an_arc arcs (xs ++ ys) ≡ with_an_arc arcs xs ++ with_an_arc arcs ys
those_append arcs [] ys = refl
those_append arcs (x ∷ xs) ys = go (is_there x arcs) (those_append arcs xs ys)
  where
    go : (b : Bool) → with_an_arc arcs (xs ++ ys) ≡ with_an_arc arcs xs ++ with_an_arc arcs ys → (if b then x ∷ with_an_arc arcs (xs ++ ys) else with_an_arc arcs (xs ++ ys)) ≡ (if b then x ∷ with_an_arc arcs xs else with_an_arc arcs xs) ++ with_an_arc arcs ys
    go true rest = rw rest refl
    go false rest = rest

-- of the numbers in the list
those_in : (xs ys : List Arc) (ps : List ℕ) → ((p : ℕ) → is_in p ps ≡ true → is_there p xs ≡ false → is_there p ys ≡ false) → with_an_arc ys (with_an_arc xs ps) ≡ with_an_arc ys ps
those_in xs ys [] k = refl
those_in xs ys (p ∷ ps) k = go (is_there p xs) refl (is_there p ys) refl (those_in xs ys ps (λ q i. k q (more q (p == q) i)))
  where
    more : (q : ℕ) (b : Bool) → is_in q ps ≡ true → (b || is_in q ps) ≡ true
    more q true i = refl
    more q false i = i

    self : (p == p) ≡ true
    self = grind (arith, nat_tests)

    go : (b : Bool) → is_there p xs ≡ b → (c : Bool) → is_there p ys ≡ c → with_an_arc ys (with_an_arc xs ps) ≡ with_an_arc ys ps → with_an_arc ys (if b then p ∷ with_an_arc xs ps else with_an_arc xs ps) ≡ (if c then p ∷ with_an_arc ys ps else with_an_arc ys ps)
    go true i true j rest = rw (j, rest) refl
    go true i false j rest = rw (j, rest) refl
    go false i true j rest = absurd (let off : is_there p ys ≡ false = k p (rw self refl) i in cc (off, j))
    go false i false j rest = rest

-- after a call the number stands at the end
those_called : (xs ys : List Arc) (n : ℕ) (ps : List ℕ) → are_single ps ≡ true → is_there n xs ≡ false → ((p : ℕ) → (p == n) ≡ false → is_there p xs ≡ false → is_there p ys ≡ false) → with_an_arc ys (with_an_arc xs ps) ≡ with_an_arc ys (without_peer n ps)
those_called xs ys n [] h off k = refl
those_called xs ys n (p ∷ ps) h off k = go (p == n) refl (is_there p xs) refl (is_there p ys) refl (those_called xs ys n ps (grind (arith, h)) off k)
  where
    go : (a : Bool) → (p == n) ≡ a → (b : Bool) → is_there p xs ≡ b → (c : Bool) → is_there p ys ≡ c → with_an_arc ys (with_an_arc xs ps) ≡ with_an_arc ys (without_peer n ps)
        → with_an_arc ys (if b then p ∷ with_an_arc xs ps else with_an_arc xs ps) ≡ with_an_arc ys (if a then ps else p ∷ without_peer n ps)
    go true i true j c l rest = absurd (let at : p ≡ n = grind (arith, nat_tests, i) in let no : is_there p xs ≡ false = ap (λ (m : ℕ). is_there m xs) at ∙ off in cc (j, no))
    go true i false j c l rest = those_in xs ys ps (λ q at gone. k q (apart q at) gone)
      where
        apart : (q : ℕ) → is_in q ps ≡ true → (q == n) ≡ false
        apart q at = one (q == n) refl
          where
            one : (b : Bool) → (q == n) ≡ b → (q == n) ≡ false
            one false w = w
            one true w =
                absurd (let same : p ≡ q = grind (arith, nat_tests, i, w) in let alone : is_in p ps ≡ false = grind (arith, h) in let here : is_in p ps ≡ true = ap (λ (m : ℕ). is_in m ps) same ∙ at in cc (alone, here))
    go false i false j true l rest = absurd (let no : is_there p ys ≡ false = k p i j in cc (no, l))
    go false i _ j _ l rest = rw (l, rest) refl

-- ---- the history

pub record IsOrder (o : Origin) (h : List Entry) : Type 0 where
  pub order : peers_below (digest o h) (digest o h).arcs ≡ with_an_arc (digest o h).arcs (peers_in h)
  pub apart : (p : ℕ) → is_in p (peers_in h) ≡ true → is_at (digest o h).superior p ≡ false
  pub single : are_single (peers_in h) ≡ true
  pub idle : (digest o h).declared ≡ false → peers_in h ≡ []

-- no arc where none is linked
no_arcs : (arcs : List Arc) → are_separate arcs ≡ true → ((p : ℕ) → is_idle (link_with arcs p) ≡ true) → arcs ≡ []
no_arcs [] h k = refl
no_arcs (a ∷ arcs) h k = absurd (let busy : is_idle (link_with (a ∷ arcs) a.peer.node) ≡ false = busy_there a.peer.node (a ∷ arcs) h (let self : (a.peer.node == a.peer.node) ≡ true = grind (arith, nat_tests) in rw self refl) in let off = k a.peer.node in cc (busy, off))

there_found : (p : ℕ) (arcs : List Arc) → find_arc arcs p ≡ None → is_there p arcs ≡ false
there_found p [] h = refl
there_found p (a ∷ arcs) h = go (a.peer.node == p) h (there_found p arcs)
  where
    go : (b : Bool) → (if b then Some a else find_arc arcs p) ≡ None → (find_arc arcs p ≡ None → is_there p arcs ≡ false) → (b || is_there p arcs) ≡ false
    go true h rest = absurd (cc (h))
    go false h rest = rest h

found_none : (p : ℕ) (arcs : List Arc) → is_there p arcs ≡ false → find_arc arcs p ≡ None
found_none p [] h = refl
found_none p (a ∷ arcs) h = go (a.peer.node == p) h (found_none p arcs)
  where
    go : (b : Bool) → (b || is_there p arcs) ≡ false → (is_there p arcs ≡ false → find_arc arcs p ≡ None) → (if b then Some a else find_arc arcs p) ≡ None
    go true h rest = absurd (cc (h))
    go false h rest = rest h

-- the arcs after an event are fewer, and nobody new is asked
pub order_same : (o : Origin) (h : List Entry) (n : Digest) (ps : List ℕ) → IsOrder o h → are_separate (digest o h).arcs ≡ true → numbers n.arcs ≡ with_an_arc n.arcs (numbers (digest o h).arcs) → ((p : ℕ) → is_in p (peers_in h) ≡ true → is_there p (digest o h).arcs ≡ false → is_there p n.arcs ≡ false)
    → n.superior ≡ (digest o h).superior → ps ≡ peers_in h → peers_below n n.arcs ≡ with_an_arc n.arcs ps
order_same o h n ps was apart fewer none same asked =
    below_is n n.arcs ∙ ap (λ (s : Option Addr). beneath s (numbers n.arcs)) same ∙ ap (beneath (digest o h).superior) fewer ∙ beneath_those (digest o h).superior n.arcs (numbers (digest o h).arcs)
    ∙ ap (with_an_arc n.arcs) (sym (below_is (digest o h) (digest o h).arcs) ∙ was.order) ∙ those_in (digest o h).arcs n.arcs (peers_in h) none ∙ sym (ap (with_an_arc n.arcs) asked)

-- of events that ask nobody, and make no arc
prelude_thins : (who : Who) (d : Digest) (e : Event) → ((a : Addr) (u : ℕ) → e ≡ Event.Do (Request.BeginDialogue a u) → ⊥) → ((from : Addr) (x : Mark) (u : ℕ) → e ≡ Event.Arrive from (PeerRecord.OpenAssoc x u) → ⊥) → Thins d.arcs (prelude who d e).arcs
unfolding after_crash
prelude_thins who d (Event.Do (Request.BeginDialogue a u)) calls opens = absurd (calls a u refl)
prelude_thins who d (Event.Do (Request.Accept u)) calls opens = go (superior_arc d)
  where
    on : (a : Arc) (l : Link) → Thins d.arcs (accepted_on who u a l d).arcs
    on a Idle = thins_self d.arcs
    on a (Opening x) = thins_self d.arcs
    on a (Offered x) = thins_put d.arcs (record a { link = Live x (next_mark who d) 0 0; dialogue = fresh_dialogue u Side.Subordinate }) refl
    on a (Live x y s t) = thins_self d.arcs

    go : (o : Option Arc) → Thins d.arcs (accepted_by who u o d).arcs
    go None = thins_self d.arcs
    go (Some a) = on a a.link
prelude_thins who d (Event.Arrive from (PeerRecord.OpenAssoc x u)) calls opens = absurd (opens from x u refl)
prelude_thins who d (Event.Arrive from (PeerRecord.AcceptAssoc x y u)) calls opens = go (find_arc d.arcs from.node)
  where
    go : (o : Option Arc) → Thins d.arcs (linked o x y u d).arcs
    go None = thins_self d.arcs
    go (Some a) = thins_put d.arcs (record a { link = Live x y 0 0; dialogue = fresh_dialogue u Side.Superior }) refl
prelude_thins who d (Event.Arrive from (PeerRecord.OnAssoc x y q (DialogueRecord.Begin t b k))) calls opens = go (find_arc d.arcs from.node)
  where
    go : (o : Option Arc) → Thins d.arcs (begun_in o t b (counted_in d from)).arcs
    go None = thins_taken d.arcs from.node
    go (Some a) = thins_taken d.arcs from.node
prelude_thins who d (Event.Arrive from (PeerRecord.OnAssoc x y q r)) calls opens = thins_taken d.arcs from.node
prelude_thins who d Event.Crash calls opens = record { none = λ p h. refl; apart = λ h. refl; order = λ h. sym (none_of (numbers d.arcs)) }
  where
    none_of : (ps : List ℕ) → with_an_arc [] ps ≡ []
    none_of [] = refl
    none_of (p ∷ ps) = none_of ps
prelude_thins who d _ calls opens = thins_self d.arcs

abbrev IsOrderBy : Origin → List Entry → Event → Type 0
IsOrderBy o h e = IsOrder o (entry_of o h e ∷ h)

order_plain : (o : Origin) (up : Option Addr) (h : List Entry) (e : Event) → Grows o up h e → IsOrder o h → Thins (digest o h).arcs (prelude o.who (digest o h) e).arcs → (prelude o.who (digest o h) e).superior ≡ (digest o h).superior → (prelude o.who (digest o h) e).declared ≡ (digest o h).declared
    → asked_for e (peers_in h) ≡ peers_in h → IsOrderBy o h e
order_plain o up h e g was thin top same asked = record {
  order = order_same o h m.next (asked_for e (peers_in h)) was apart (all.order apart) (λ p at. all.none p) (link.superior ∙ top) asked;
  apart = λ p at. ap (λ (s : Option Addr). is_at s p) (link.superior ∙ top) ∙ was.apart p (ap (is_in p) (sym asked) ∙ at);
  single = ap are_single asked ∙ was.single;
  idle = λ off. asked ∙ was.idle (sym (link.declared ∙ same) ∙ off);
}
  where
    d : Digest
    d = digest o h

    s : Digest
    s = prelude o.who d e

    m : Move
    m = action o.who d e

    apart : are_separate d.arcs ≡ true
    apart = separate_law o up h g.grown

    link : IsLinked 0 s m
    link = every_move o.who d e (IsLinked 0) (linked_moves o.who e s 0) (late_law o up h g.grown) g.ok

    all : Thins d.arcs m.next.arcs
    all = thins_then d.arcs s.arcs m.next.arcs thin (every_move o.who d e (λ a b. Thins a.arcs b.next.arcs) (thins_moves o.who e s) (late_law o up h g.grown) g.ok)

-- a dialogue is asked for
below_end : (d : Digest) (arcs : List Arc) (a : Arc) → is_superior d a.peer.node ≡ false → peers_below d (arcs ++ a ∷ []) ≡ peers_below d arcs ++ a.peer.node ∷ []
below_end d [] a off = rw off refl
below_end d (b ∷ arcs) a off = go (is_superior d b.peer.node) (below_end d arcs a off)
  where
    go : (v : Bool) → peers_below d (arcs ++ a ∷ []) ≡ peers_below d arcs ++ a.peer.node ∷ [] → (if v then peers_below d (arcs ++ a ∷ []) else b.peer.node ∷ peers_below d (arcs ++ a ∷ [])) ≡ (if v then peers_below d arcs else b.peer.node ∷ peers_below d arcs) ++ a.peer.node ∷ []
    go true rest = rest
    go false rest = rw rest refl

there_end : (p : ℕ) (arcs : List Arc) (a : Arc) → is_there p (arcs ++ a ∷ []) ≡ (is_there p arcs || (a.peer.node == p))
there_end p [] a = or-false (a.peer.node == p)
there_end p (b ∷ arcs) a = go (b.peer.node == p) (there_end p arcs a)
  where
    go : (v : Bool) → is_there p (arcs ++ a ∷ []) ≡ (is_there p arcs || (a.peer.node == p)) → (v || is_there p (arcs ++ a ∷ [])) ≡ ((v || is_there p arcs) || (a.peer.node == p))
    go true rest = refl
    go false rest = rest

those_more : (xs ys : List Arc) (ps : List ℕ) → ((p : ℕ) → is_there p xs ≡ true → is_there p ys ≡ true) → with_an_arc ys (with_an_arc xs ps) ≡ with_an_arc xs ps
those_more xs ys [] k = refl
those_more xs ys (p ∷ ps) k = go (is_there p xs) refl (those_more xs ys ps k)
  where
    go : (b : Bool) → is_there p xs ≡ b → with_an_arc ys (with_an_arc xs ps) ≡ with_an_arc xs ps → with_an_arc ys (if b then p ∷ with_an_arc xs ps else with_an_arc xs ps) ≡ (if b then p ∷ with_an_arc xs ps else with_an_arc xs ps)
    go true i rest = rw (k p i, rest) refl
    go false i rest = rest

-- why a call is not refused
record Called (d : Digest) (n : ℕ) : Type 0 where
  below : is_superior d n ≡ false
  new : find_arc d.arcs n ≡ None
  declared : d.declared ≡ true

called_so : (who : Who) (d : Digest) (a : Addr) (u : ℕ) → refusal who d (Event.Do (Request.BeginDialogue a u)) ≡ None → Called d a.node
unfolding refusal verdict refused_request
called_so who d a u ok = grind (arith, peers_below)

order_called : (o : Origin) (up : Option Addr) (h : List Entry) (a : Addr) (u : ℕ) → Grows o up h (Event.Do (Request.BeginDialogue a u)) → IsOrder o h → IsOrderBy o h (Event.Do (Request.BeginDialogue a u))
unfolding call
order_called o up h a u g was = record { order = order; apart = apart; single = single_end a.node (without_peer a.node (peers_in h)) (single_without a.node (peers_in h) was.single) (gone_without a.node (peers_in h) was.single); idle = λ off. absurd (cc (off, k.declared)) }
  where
    d : Digest
    d = digest o h

    new : Arc
    new = record { peer = a; link = Opening (next_mark o.who d); dialogue = fresh_dialogue u Side.Superior }

    xs : List Arc
    xs = d.arcs ++ new ∷ []

    k : Called d a.node
    k = called_so o.who d a u g.ok

    gone : is_there a.node d.arcs ≡ false
    gone = there_found a.node d.arcs k.new

    self : (a.node == a.node) ≡ true
    self = grind (arith, nat_tests)

    here : is_there a.node xs ≡ true
    here = there_end a.node d.arcs new ∙ rw (gone, self) refl

    order : peers_below (record (with_mark_drawn d) { arcs = xs }) xs ≡ with_an_arc xs (without_peer a.node (peers_in h) ++ a.node ∷ [])
    order =
        below_end d d.arcs new k.below ∙ ap (λ (ps : List ℕ). ps ++ a.node ∷ []) (was.order ∙ sym (those_more d.arcs xs (peers_in h) (λ p i. there_end p d.arcs new ∙ rw i refl)) ∙ those_called d.arcs xs a.node (peers_in h) was.single gone (λ p i j. there_end p d.arcs new ∙ rw (j, other p i) refl))
        ∙ sym (those_append xs (without_peer a.node (peers_in h)) (a.node ∷ []) ∙ rw here refl)
      where
        other : (p : ℕ) → (p == a.node) ≡ false → (a.node == p) ≡ false
        other p i = grind (arith, nat_tests, i)

    apart : (p : ℕ) → is_in p (without_peer a.node (peers_in h) ++ a.node ∷ []) ≡ true → is_at d.superior p ≡ false
    apart p at = either (is_in p (without_peer a.node (peers_in h))) refl (a.node == p) refl (sym (in_append p (without_peer a.node (peers_in h)) (a.node ∷ [])) ∙ at)
      where
        either : (v : Bool) → is_in p (without_peer a.node (peers_in h)) ≡ v → (w : Bool) → (a.node == p) ≡ w → (v || (w || false)) ≡ true → is_at d.superior p ≡ false
        either true i w j e = was.apart p (old (is_in p (peers_in h)) refl)
          where
            old : (b : Bool) → is_in p (peers_in h) ≡ b → is_in p (peers_in h) ≡ true
            old true z = z
            old false z = absurd (let off : is_in p (without_peer a.node (peers_in h)) ≡ false = in_without a.node p (peers_in h) z in cc (i, off))
        either false i true j e = let same : a.node ≡ p = grind (arith, nat_tests, j) in ap (is_at d.superior) (sym same) ∙ sym (superior_at d a.node) ∙ k.below
        either false i false j e = absurd (cc (e))

-- the superior's offer stands before the others
those_front : (b : Arc) (arcs : List Arc) (ps : List ℕ) → is_in b.peer.node ps ≡ false → with_an_arc (b ∷ arcs) ps ≡ with_an_arc arcs ps
those_front b arcs [] h = refl
those_front b arcs (p ∷ ps) h =
    let other : (p == b.peer.node) ≡ false = grind (arith, h) in
    let mine : (b.peer.node == p) ≡ false = grind (arith, nat_tests, other) in
    let rest : with_an_arc (b ∷ arcs) ps ≡ with_an_arc arcs ps = those_front b arcs ps (grind (arith, h)) in
    rw (mine, rest) refl

offered_so : (who : Who) (d : Digest) (from : Addr) (x : Mark) (u : ℕ) → refusal who d (Event.Arrive from (PeerRecord.OpenAssoc x u)) ≡ None → is_superior d from.node ≡ true
unfolding refusal verdict refused_arrival
offered_so who d from x u ok = grind arith

order_offered : (o : Origin) (up : Option Addr) (h : List Entry) (from : Addr) (x : Mark) (u : ℕ) → Grows o up h (Event.Arrive from (PeerRecord.OpenAssoc x u)) → IsOrder o h → IsOrderBy o h (Event.Arrive from (PeerRecord.OpenAssoc x u))
order_offered o up h from x u g was = grind (arith, peers_below, offered_so, superior_at, those_front)

-- a declaration
order_declared : (o : Origin) (up : Option Addr) (h : List Entry) (s : Option Addr) → Grows o up h (Event.Declare s) → IsOrder o h → IsOrderBy o h (Event.Declare s)
order_declared o up h s g was = grind (arith, no_arcs, separate_law, undeclared, undeclared_idle)

order_crashed : (o : Origin) (h : List Entry) → IsOrderBy o h Event.Crash
unfolding after_crash
order_crashed o h = record { order = refl; apart = λ p at. absurd (cc (at)); single = refl; idle = λ off. refl }

order_event : (o : Origin) (up : Option Addr) (h : List Entry) (e : Event) → Grows o up h e → IsOrder o h → IsOrderBy o h e
order_event o up h (Event.Declare s) g was = order_declared o up h s g was
order_event o up h (Event.Do (Request.BeginDialogue a u)) g was = order_called o up h a u g was
order_event o up h (Event.Do r) g was = order_plain o up h (Event.Do r) g was (prelude_thins o.who (digest o h) (Event.Do r) (λ a u i. cc (i)) (λ from x u i. cc (i))) (grind arith) (grind arith) refl
order_event o up h (Event.Arrive from (PeerRecord.OpenAssoc x u)) g was = order_offered o up h from x u g was
order_event o up h (Event.Arrive from r) g was = order_plain o up h (Event.Arrive from r) g was (prelude_thins o.who (digest o h) (Event.Arrive from r) (λ a u i. cc (i)) (λ f x u i. cc (i))) (grind arith) (grind arith) refl
order_event o up h (Event.Break from r) g was = order_plain o up h (Event.Break from r) g was (thins_self (digest o h).arcs) refl refl refl
order_event o up h (Event.Lose p) g was = order_plain o up h (Event.Lose p) g was (thins_self (digest o h).arcs) refl refl refl
order_event o up h (Event.Heur v) g was = order_plain o up h (Event.Heur v) g was (thins_self (digest o h).arcs) refl refl refl
order_event o up h (Event.GiveUp p) g was = order_plain o up h (Event.GiveUp p) g was (thins_self (digest o h).arcs) refl refl refl
order_event o up h Event.Retry g was = order_plain o up h Event.Retry g was (thins_self (digest o h).arcs) refl refl refl
order_event o up h Event.Purge g was = order_plain o up h Event.Purge g was (thins_self (digest o h).arcs) refl refl refl
order_event o up h Event.Crash g was = order_crashed o h

pub order_known : (o : Origin) (up : Option Addr) (h : List Entry) → IsGrown o up h → IsOrder o h
unfolding started
order_known o up [] legal = record { order = refl; apart = λ p at. absurd (cc (at)); single = refl; idle = λ off. refl }
order_known o up (e ∷ h) legal = subst (λ (x : Entry). IsOrder o (x ∷ h)) legal.1 (order_event o up h e.event (record { ok = legal.0; under = legal.2; grown = legal.3 }) (order_known o up h legal.3))

-- ---- by the questions of links

same_numbers : (ps : List ℕ) → same_list is_number ps ps ≡ true
same_numbers [] = refl
same_numbers (p ∷ ps) = let self : (p == p) ≡ true = grind (arith, nat_tests) in rw (self, same_numbers ps) refl

idle_there : (p : ℕ) (arcs : List Arc) → are_separate arcs ≡ true → is_idle (link_with arcs p) ≡ not (is_there p arcs)
idle_there p arcs apart = grind (arith, busy_there, found_none, is_there)

-- whether a link is idle is what the questions answer
abbrev AreIdle : Origin → List Entry → Type 0
AreIdle o h = (p : ℕ) → is_idle (link_in o p h) ≡ is_idle (link_with (digest o h).arcs p)

busy_those : (o : Origin) (h : List Entry) → are_separate (digest o h).arcs ≡ true → AreIdle o h → (ps : List ℕ) → not_idle o h ps ≡ with_an_arc (digest o h).arcs ps
busy_those o h apart links [] = refl
busy_those o h apart links (p ∷ ps) = rw (links p ∙ idle_there p (digest o h).arcs apart, busy_those o h apart links ps) (go (is_there p (digest o h).arcs))
  where
    go : (b : Bool) → (if not b then with_an_arc (digest o h).arcs ps else p ∷ with_an_arc (digest o h).arcs ps) ≡ (if b then p ∷ with_an_arc (digest o h).arcs ps else with_an_arc (digest o h).arcs ps)
    go true = refl
    go false = refl

up_agrees : (o : Origin) (h : List Entry) → AreIdle o h → agrees_up o h ≡ true
up_agrees o h links = grind arith

pub asked_law : (o : Origin) (up : Option Addr) (h : List Entry) → IsLegal o up h → below_as_asked o h ≡ true
asked_law o up h legal =
    let k : IsOrder o h = order_known o up h legal.grown in
    ap (same_list is_number (peers_below (digest o h) (digest o h).arcs)) (sym k.order) ∙ same_numbers (peers_below (digest o h) (digest o h).arcs)

pub order_law : (o : Origin) (up : Option Addr) (h : List Entry) → IsLegal o up h → agrees_order o h ≡ true
order_law o up h legal =
    let links : AreIdle o h = λ p. sym (ap is_idle (link_law o up h legal.grown p)) in
    let k : IsOrder o h = order_known o up h legal.grown in
    let all : same_list is_number (peers_below (digest o h) (digest o h).arcs) (not_idle o h (peers_in h)) ≡ true =
    ap (same_list is_number (peers_below (digest o h) (digest o h).arcs)) (busy_those o h (separate_law o up h legal.grown) links (peers_in h) ∙ sym k.order) ∙ same_numbers (peers_below (digest o h) (digest o h).arcs) in
    rw (all, up_agrees o h links) refl
