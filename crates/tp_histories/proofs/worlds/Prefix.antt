-- In every run, what one end took with a pair of marks is the beginning of what the other end sent with it.
use Rattle.std.proofs.Common.{◌≡◌, ◌+◌, ◌⊎◌, inl, inr, ℕ, zero, suc, Bool, true, false, refl, ap, sym, subst, ◌∙◌, arith, Option, Some, None, List, [], ◌∷◌, ◌++◌, ◌&&◌, ◌==◌, length, slice_get}
use Rattle.std.proofs.lemmas.Bool.Decides.{nat_tests}
use Rattle.std.proofs.lemmas.List.{append-nil}
use Rattle.tp_names.specs.declared.identifiers.Mark.{Mark}
use Rattle.tp_names.specs.declared.identifiers.Addr.{Addr}
use Rattle.tp_names.specs.Same.{is_mark}
use Rattle.tp_records.specs.declared.dialogue.DialogueRecord.{DialogueRecord}
use Rattle.tp_records.specs.declared.peer.PeerRecord.{PeerRecord}
use Rattle.tp_model.specs.Parts.{Origin, Event, Out, Entry, Link, Live, Digest}
use Rattle.tp_model.specs.Arcs.{link_with}
use Rattle.tp_model.specs.Events.{refusal, action}
use Rattle.tp_model.specs.History.{digest}
use Rattle.tp_model.specs.World.{Node, Frame, find_node}
use Rattle.tp_model.specs.Legal.{IsGrown}
use Rattle.tp_steps.specs.Histories.{brought}
use Rattle.tp_histories.specs.Histories.{IsSentIn, HasSent, HasBrought}
use Rattle.tp_histories.specs.Worlds.{IsGood}
use Rattle.tp_steps.specs.Moves.{prelude}
use Rattle.tp_steps.specs.Traces.{is_next, sent_one, fits, sent_of, took_of}
use Rattle.tp_histories.specs.Traces.{sent_on, IsTraced, history_at, accepted_on}
use Rattle.tp_steps.proofs.links.Links.{mark_same}
use Rattle.tp_histories.proofs.trees.Late.{late_law}
use Rattle.tp_steps.proofs.every.Preludes.{marks_same, takes_next}
use Rattle.tp_histories.proofs.marks.Traced.{Told, told, traced_law, long_of}
use Rattle.tp_histories.proofs.worlds.Good.{was_sent}

-- ---- what is sent stands at its number

pub record IsPlaced (l : Link) (p : ℕ) (outs : List Out) (x y : Mark) (s : ℕ) (r : DialogueRecord) : Type 0 where
  pub first : ℕ
  pub taken : ℕ
  pub place : ℕ
  pub link : l ≡ Live x y first taken
  pub number : s ≡ first + place
  pub stands : slice_get (sent_of x y p outs) place ≡ Some r

record NextIs (l : Link) (z w : Mark) (q : ℕ) : Type 0 where
  taken : ℕ
  is : l ≡ Live z w q taken

live_same : (z z' w w' : Mark) (s s' t : ℕ) → z ≡ z' → w ≡ w' → s ≡ s' → Live z w s t ≡ Live z' w' s' t
live_same z z' w w' s s' t e f g = rw (e, f, g) refl

next_is : (l : Link) (z w : Mark) (q : ℕ) → is_next l z w q ≡ true → NextIs l z w q
next_is (Live a b s t) z w q h =
    let ea = marks_same a z (grind arith) in
    let eb = marks_same b w (grind arith) in
    let es : s ≡ q = grind (arith, nat_tests) in
    record { taken = t; is = live_same a z b w s q t ea eb es }
next_is _ z w q h = absurd cc

head_is : (x y z w : Mark) (p q s : ℕ) (b a : Addr) (u r : DialogueRecord) (outs : List Out) → b ≡ a → a.node ≡ p → PeerRecord.OnAssoc z w q u ≡ PeerRecord.OnAssoc x y s r
    → sent_of x y p (Out.Send b (PeerRecord.OnAssoc z w q u) ∷ outs) ≡ r ∷ sent_of x y p outs
head_is x y z w p q s b a u r outs same at is =
    let ez : z ≡ x = cc (is) in
    let ew : w ≡ y = cc (is) in
    let eu : u ≡ r = cc (is) in
    rw (same, at, ez, ew, eu) (grind (arith, nat_tests, mark_same x, mark_same y))

-- the link has moved on by one
moved_on : (l : Link) (z w : Mark) (q : ℕ) (x y : Mark) (f t : ℕ) → is_next l z w q ≡ true → sent_one l ≡ Live x y f t → (l ≡ Live x y q t) × (suc q ≡ f) × (z ≡ x) × (w ≡ y)
moved_on l z w q x y f t n h =
    let k = next_is l z w q n in
    let one : Live z w (suc q) k.taken ≡ Live x y f t = sym (ap sent_one k.is) ∙ h in
    let ez : z ≡ x = cc (one) in
    let ew : w ≡ y = cc (one) in
    let et : k.taken ≡ t = cc (one) in
    let ef : suc q ≡ f = cc (one) in
    (k.is ∙ rest z x w y q k.taken t ez ew et, ef, ez, ew)
  where
    rest : (z x w y : Mark) (q a t : ℕ) → z ≡ x → w ≡ y → a ≡ t → Live z w q a ≡ Live x y q t
    rest z x w y q a t e f g = rw (e, f, g) refl

pub fits_place : (p : ℕ) (l : Link) (outs : List Out) (a : Addr) (x y : Mark) (s : ℕ) (r : DialogueRecord) → fits p l outs ≡ true → a.node ≡ p → IsSentIn outs a (PeerRecord.OnAssoc x y s r)
    → IsPlaced l p outs x y s r
fits_place p l [] a x y s r h at k = absurd k
fits_place p l (Out.Tell i ∷ outs) a x y s r h at k =
    let g = fits_place p l outs a x y s r h at k in
    record { first = g.first; taken = g.taken; place = g.place; link = g.link; number = g.number; stands = g.stands }
fits_place p l (Out.Send b (PeerRecord.OnAssoc z w q u) ∷ outs) a x y s r h at (inl k) =
    let node : b.node ≡ p = ap (λ (c : Addr). c.node) k.0 ∙ at in
    let next : is_next l z w q ≡ true = grind (arith, nat_tests, h, node) in
    let n = next_is l z w q next in
    let ez : z ≡ x = cc (k.1) in
    let ew : w ≡ y = cc (k.1) in
    let es : q ≡ s = cc (k.1) in
    record {
      first = q;
      taken = n.taken;
      place = 0;
      link = n.is ∙ live_same z x w y q q n.taken ez ew refl;
      number = omega (arith, es);
      stands = ap (λ (xs : List DialogueRecord). slice_get xs 0) (head_is x y z w p q s b a u r outs k.0 at k.1);
    }
fits_place p l (Out.Send b (PeerRecord.OnAssoc z w q u) ∷ outs) a x y s r h at (inr k) =
    go (b.node == p) refl (λ i. fits_place p (sent_one l) outs a x y s r i at k) (λ i. fits_place p l outs a x y s r i at k)
  where
    all : List Out
    all = Out.Send b (PeerRecord.OnAssoc z w q u) ∷ outs

    go : (c : Bool) → (b.node == p) ≡ c → (fits p (sent_one l) outs ≡ true → IsPlaced (sent_one l) p outs x y s r) → (fits p l outs ≡ true → IsPlaced l p outs x y s r) → IsPlaced l p all x y s r
    go false i one two =
        let g = two (grind (arith, h, i)) in
        let same : sent_of x y p all ≡ sent_of x y p outs = grind (arith, i) in
        record { first = g.first; taken = g.taken; place = g.place; link = g.link; number = g.number; stands = ap (λ (xs : List DialogueRecord). slice_get xs g.place) same ∙ g.stands }
    go true i one two =
        let g = one (grind (arith, h, i)) in
        let m = moved_on l z w q x y g.first g.taken (grind (arith, h, i)) g.link in
        let mx : is_mark x z ≡ true = rw m.2 (mark_same x) in
        let my : is_mark y w ≡ true = rw m.3 (mark_same y) in
        let same : sent_of x y p all ≡ u ∷ sent_of x y p outs = grind (arith, i, mx, my) in
        record {
          first = q;
          taken = g.taken;
          place = suc g.place;
          link = m.0;
          number = omega (arith, g.number, m.1);
          stands = ap (λ (xs : List DialogueRecord). slice_get xs (suc g.place)) same ∙ g.stands;
        }
fits_place p l _ a x y s r h at (inl k) = absurd (cc (k.1))
fits_place p l (Out.Send b _ ∷ outs) a x y s r h at (inr k) =
    let g = fits_place p l outs a x y s r h at k in
    record { first = g.first; taken = g.taken; place = g.place; link = g.link; number = g.number; stands = g.stands }

get_before : (xs ys : List DialogueRecord) (k : ℕ) (r : DialogueRecord) → slice_get xs k ≡ Some r → slice_get (xs ++ ys) k ≡ Some r
get_before [] ys k r h = absurd cc
get_before (x ∷ xs) ys zero r h = h
get_before (x ∷ xs) ys (suc k) r h = get_before xs ys k r h

get_behind : (xs ys : List DialogueRecord) (k n : ℕ) (r : DialogueRecord) → length xs ≡ n → slice_get ys k ≡ Some r → slice_get (xs ++ ys) (n + k) ≡ Some r
get_behind [] ys k n r e h = let z : n + k ≡ k = omega arith in rw z h
get_behind (x ∷ xs) ys k n r e h =
    let m : n + k ≡ suc (length xs + k) = omega arith in
    rw m (get_behind xs ys k (length xs) r refl h)

-- in a legal history each record stands at its number
pub sent_at : (o : Origin) (up : Option Addr) (h : List Entry) (a : Addr) (x y : Mark) (s : ℕ) (r : DialogueRecord) → IsGrown o up h → HasSent h a (PeerRecord.OnAssoc x y s r)
    → slice_get (sent_on x y a.node h) s ≡ Some r
sent_at o up [] a x y s r legal h = absurd h
sent_at o up (e ∷ h) a x y s r legal (inr k) = get_before (sent_on x y a.node h) (sent_of x y a.node e.outs) s r (sent_at o up h a x y s r legal.3 k)
sent_at o up (e ∷ h) a x y s r legal (inl k) =
    let d : Digest = digest o h in
    let traced = traced_law o up h legal.3 in
    let t : Told o.who up a.node d e.event = told o.who up a.node d e.event (late_law o up h legal.3) traced.under traced.declared legal.0 in
    let outs : e.outs ≡ (action o.who d e.event).outs = ap (λ (f : Entry). f.outs) (sym legal.1) in
    let now : IsSentIn (action o.who d e.event).outs a (PeerRecord.OnAssoc x y s r) = subst (λ (os : List Out). IsSentIn os a (PeerRecord.OnAssoc x y s r)) outs k in
    let p = fits_place a.node (link_with (prelude o.who d e.event).arcs a.node) (action o.who d e.event).outs a x y s r t.linked.over.numbered refl now in
    let long = long_of o.who up d e.event h traced a.node (link_with (prelude o.who d e.event).arcs a.node) t.pre x y p.first p.taken p.link in
    let stands : slice_get (sent_of x y a.node e.outs) p.place ≡ Some r = subst (λ (os : List Out). slice_get (sent_of x y a.node os) p.place ≡ Some r) (sym outs) p.stands in
    subst (λ (n : ℕ). slice_get (sent_on x y a.node h ++ sent_of x y a.node e.outs) n ≡ Some r) (sym p.number)
    (get_behind (sent_on x y a.node h) (sent_of x y a.node e.outs) p.place p.first r long.0 stands)

-- ---- what is taken has its place as its number

pub get_last : (xs : List DialogueRecord) (y : DialogueRecord) (k : ℕ) (r : DialogueRecord) → slice_get (xs ++ y ∷ []) k ≡ Some r
    → (slice_get xs k ≡ Some r) ⊎ (k ≡ length xs) × (y ≡ r)
get_last [] y zero r h = inr (refl, cc (h))
get_last [] y (suc k) r h = absurd cc
get_last (x ∷ xs) y zero r h = inl h
get_last (x ∷ xs) y (suc k) r h = elim (get_last xs y k r h) [ inl i ↦ inl i | inr i ↦ inr (ap suc i.0, i.1) ]

pub took_place : (o : Origin) (up : Option Addr) (h : List Entry) (a : Addr) (x y : Mark) (q : ℕ) (r : DialogueRecord) → IsTraced o.who up (digest o h) h
    → refusal o.who (digest o h) (Event.Arrive a (PeerRecord.OnAssoc x y q r)) ≡ None → length (accepted_on x y a.node h) ≡ q
took_place o up h a x y q r traced ok =
    let t = takes_next o.who (digest o h) a x y q r ok in
    (traced.live a.node x y t.sent q t.live).1

pub record CameFrom (h : List Entry) (p : ℕ) (x y : Mark) (k : ℕ) (r : DialogueRecord) : Type 0 where
  pub from : Addr
  pub at : from.node ≡ p
  pub taken : HasBrought h from (PeerRecord.OnAssoc x y k r)

came_by : (o : Origin) (up : Option Addr) (e : Event) (h : List Entry) (p : ℕ) (x y : Mark) (k : ℕ) (r : DialogueRecord) → IsTraced o.who up (digest o h) h
    → refusal o.who (digest o h) e ≡ None → slice_get (accepted_on x y p h ++ took_of x y p e) k ≡ Some r
    → (slice_get (accepted_on x y p h) k ≡ Some r) ⊎ (a : Addr) × (a.node ≡ p) × (e ≡ Event.Arrive a (PeerRecord.OnAssoc x y k r))
came_by o up (Event.Arrive a (PeerRecord.OnAssoc z w q s)) h p x y k r traced ok is = go (a.node == p) (is_mark x z && is_mark y w) refl refl
  where
    f : Event
    f = Event.Arrive a (PeerRecord.OnAssoc z w q s)

    go : (b c : Bool) → (a.node == p) ≡ b → (is_mark x z && is_mark y w) ≡ c
        → (slice_get (accepted_on x y p h) k ≡ Some r) ⊎ (a' : Addr) × (a'.node ≡ p) × (f ≡ Event.Arrive a' (PeerRecord.OnAssoc x y k r))
    go true true b c =
        let one : took_of x y p f ≡ s ∷ [] = grind arith in
        let at : a.node ≡ p = grind (arith, nat_tests) in
        let mx : is_mark x z ≡ true = grind arith in
        let my : is_mark y w ≡ true = grind arith in
        let ex = marks_same x z mx in
        let ey = marks_same y w my in
        let place : length (accepted_on x y p h) ≡ q = rw (ex, ey, ← at) (took_place o up h a z w q s traced ok) in
        elim (get_last (accepted_on x y p h) s k r (rw one at is)) [
          | inl i ↦ inl i
          | inr i ↦ inr (a, at, cc (i.0, i.1, place, ex, ey))
        ]
    go true false b c = let none : took_of x y p f ≡ [] = grind arith in inl (rw (none, append-nil) at is)
    go false c b e = let none : took_of x y p f ≡ [] = grind arith in inl (rw (none, append-nil) at is)
came_by o up e h p x y k r traced ok is = inl (rw append-nil at is)

pub came : (o : Origin) (up : Option Addr) (h : List Entry) (p : ℕ) (x y : Mark) (k : ℕ) (r : DialogueRecord) → IsGrown o up h → slice_get (accepted_on x y p h) k ≡ Some r → CameFrom h p x y k r
came o up [] p x y k r legal is = absurd cc
came o up (e ∷ h) p x y k r legal is =
    go (came_by o up e.event h p x y k r (traced_law o up h legal.3) legal.0 is) (came o up h p x y k r legal.3)
  where
    go : (slice_get (accepted_on x y p h) k ≡ Some r) ⊎ (a : Addr) × (a.node ≡ p) × (e.event ≡ Event.Arrive a (PeerRecord.OnAssoc x y k r))
        → (slice_get (accepted_on x y p h) k ≡ Some r → CameFrom h p x y k r) → CameFrom (e ∷ h) p x y k r
    go (inl i) rest = let c = rest i in record { from = c.from; at = c.at; taken = inr c.taken }
    go (inr i) rest = record { from = i.0; at = i.1; taken = inl (ap brought i.2) }

-- ---- both ends

pub prefix_at : (ns : List Node) (fs : List Frame) → IsGood ns fs → (n p : ℕ) (x y : Mark) (k : ℕ) (r : DialogueRecord) → slice_get (accepted_on x y p (history_at ns n)) k ≡ Some r
    → slice_get (sent_on x y n (history_at ns p)) k ≡ Some r
prefix_at ns fs good n p x y k r is = go (find_node ns n) refl
  where
    go : (o : Option Node) → find_node ns n ≡ o → slice_get (sent_on x y n (history_at ns p)) k ≡ Some r
    go None i = let none : slice_get (accepted_on x y p []) k ≡ Some r = rw (i, history_at) at is in absurd (cc (none))
    go (Some v) i =
        let taken : slice_get (accepted_on x y p v.history) k ≡ Some r = rw (i, history_at) at is in
        let c = came v.origin v.superior v.history p x y k r (good.legal n v i) taken in
        let frame = good.taken n v c.from (PeerRecord.OnAssoc x y k r) i c.taken in
        let s = was_sent ns fs c.from n (PeerRecord.OnAssoc x y k r) good.sent frame in
        let at = sent_at s.node.origin s.node.superior s.node.history s.to x y k r (good.legal c.from.node s.node s.found) s.sent in
        let here : find_node ns p ≡ Some s.node = ap (find_node ns) (sym c.at) ∙ s.found in
        let there : slice_get (sent_on x y n s.node.history) k ≡ Some r = subst (λ (m : ℕ). slice_get (sent_on x y m s.node.history) k ≡ Some r) s.at at in
        rw (here, history_at) there

cons_same : (x y : DialogueRecord) (ys zs : List DialogueRecord) → y ≡ x → ys ≡ zs → y ∷ ys ≡ x ∷ zs
cons_same x y ys zs e f = rw (e, f) refl

pub begins_with : (xs ys : List DialogueRecord) → ((k : ℕ) (r : DialogueRecord) → slice_get xs k ≡ Some r → slice_get ys k ≡ Some r) → (more : List DialogueRecord) × (ys ≡ xs ++ more)
begins_with [] ys h = (ys, refl)
begins_with (x ∷ xs) [] h = absurd (cc (h 0 x refl))
begins_with (x ∷ xs) (y ∷ ys) h =
    let same : y ≡ x = cc (h 0 x refl) in
    let rest = begins_with xs ys (λ k r i. h (suc k) r i) in
    (rest.0, cons_same x y ys (xs ++ rest.0) same rest.1)

-- the records that one end took are the beginning of those that the other end sent
pub prefix_list : (ns : List Node) (fs : List Frame) → IsGood ns fs → (n p : ℕ) (x y : Mark)
    → (more : List DialogueRecord) × (sent_on x y n (history_at ns p) ≡ accepted_on x y p (history_at ns n) ++ more)
prefix_list ns fs good n p x y = begins_with (accepted_on x y p (history_at ns n)) (sent_on x y n (history_at ns p)) (prefix_at ns fs good n p x y)
