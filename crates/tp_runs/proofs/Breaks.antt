-- In every run, what one end took, with the records that it answered out of phase, is the beginning of what the other end
-- sent: such a record stands at its number too, and its association is over.
use Rattle.std.proofs.Common.{if◌then◌else◌, ◌≡◌, ◌⊎◌, inl, inr, ℕ, suc, Bool, true, false, refl, ap, sym, subst, ◌∙◌, arith, Option, Some, None, List, [], ◌∷◌, ◌++◌, ◌&&◌, ◌||◌, ◌==◌, length, slice_get}
use Rattle.std.proofs.lemmas.Bool.Decides.{nat_tests}
use Rattle.std.proofs.lemmas.List.{append-nil}
use Rattle.tp_names.specs.declared.identifiers.Mark.{Mark}
use Rattle.tp_names.specs.declared.identifiers.Addr.{Addr}
use Rattle.tp_names.specs.Same.{is_mark}
use Rattle.tp_records.specs.declared.dialogue.DialogueRecord.{DialogueRecord}
use Rattle.tp_records.specs.declared.indication.Indication.{Indication}
use Rattle.tp_records.specs.declared.peer.PeerRecord.{PeerRecord}
use Rattle.tp_model.specs.declared.transaction.TxEvent.{TxEvent}
use Rattle.tp_model.specs.declared.transaction.TxOut.{TxOut}
use Rattle.tp_model.specs.Parts.{Who, Origin, Event, Out, Entry, Link, Idle, Opening, Offered, Live, Current, Arc, Digest}
use Rattle.tp_model.specs.Arcs.{find_arc, link_of, link_with, without_arc}
use Rattle.tp_model.specs.Node.{Move, perform, transact, next_mark}
use Rattle.tp_model.specs.Transactions.{refused_tx}
use Rattle.tp_model.specs.Arrivals.{lose, break_off, refused_arrival}
use Rattle.tp_model.specs.Events.{refusal, verdict, action, after, started}
use Rattle.tp_model.specs.History.{digest}
use Rattle.tp_model.specs.Questions.{sent_more}
use Rattle.tp_model.specs.World.{Node, Frame, number_of, find_node}
use Rattle.tp_model.specs.Happenings.{Happening, run}
use Rattle.tp_model.specs.Promises.{PrefixTaken}
use Rattle.tp_model.specs.Traces as model
use Rattle.tp_model.specs.Legal.{IsGrown}
use Rattle.tp_steps.specs.Histories.{brought}
use Rattle.tp_histories.specs.Worlds.{IsGood}
use Rattle.tp_steps.specs.Moves.{prelude, IsLate, IsAsked}
use Rattle.tp_steps.specs.Traces.{count_to, IsLinked, sent_of, took_of, is_old}
use Rattle.tp_histories.specs.Traces.{sent_on, own_mark, own_old, IsTraced, accepted_on}
use Rattle.tp_runs.specs.Breaks.{is_broken_by, has_broken, AreBreaks}
use Rattle.tp_steps.proofs.every.EveryMove.{put_plain, every_transact}
use Rattle.tp_steps.proofs.links.Links.{link_without}
use Rattle.tp_steps.proofs.links.Linked.{linked_moves}
use Rattle.tp_histories.proofs.trees.Late.{late_law}
use Rattle.tp_steps.proofs.every.Preludes.{Prelinked, As_before, Now_idle, Now_called, Now_offered, Now_accepted, Now_confirmed, Took_one, Taken, takes_next, marks_same}
use Rattle.tp_steps.proofs.links.Marks.{old_stays, new_mark}
use Rattle.tp_histories.proofs.marks.Traced.{Told, told, live_before, opening_more, traced_law}
use Rattle.tp_histories.proofs.worlds.Prefix.{CameFrom, get_last, begins_with, sent_at}
use Rattle.tp_histories.proofs.worlds.Good.{good_run, was_sent}

-- ---- a record that is answered out of phase

-- it is the next one of its live link
pub breaks_next : (who : Who) (d : Digest) (from : Addr) (x y : Mark) (seq : ℕ) (r : DialogueRecord) → refusal who d (Event.Break from (PeerRecord.OnAssoc x y seq r)) ≡ None → Taken d from x y seq
unfolding refusal verdict refused_arrival
breaks_next who d from x y seq r ok = go (find_arc d.arcs from.node) refl
  where
    on : (a : Arc) (l : Link) → find_arc d.arcs from.node ≡ Some a → a.link ≡ l → Taken d from x y seq
    on a Idle i j = absurd (grind (arith, ok, i, j))
    on a (Opening z) i j = absurd (grind (arith, ok, i, j))
    on a (Offered z) i j = absurd (grind (arith, ok, i, j))
    on a (Live z w s t) i j =
        let mx : is_mark z x ≡ true = grind (arith, ok, i, j) in
        let my : is_mark w y ≡ true = grind (arith, ok, i, j) in
        let n : seq ≡ t = grind (arith, nat_tests, ok, i, j) in
        record { sent = s; live = ap link_of i ∙ j ∙ live_same z x w y s t seq (marks_same z x mx) (marks_same w y my) (sym n) }
      where
        live_same : (z x w y : Mark) (s t q : ℕ) → z ≡ x → w ≡ y → t ≡ q → Live z w s t ≡ Live x y s q
        live_same z x w y s t q e f g = rw (e, f, g) refl

    go : (o : Option Arc) → find_arc d.arcs from.node ≡ o → Taken d from x y seq
    go None i = absurd (grind (arith, ok, i))
    go (Some a) i = on a a.link i refl

-- its association is over
pub lost_idle : (who : Who) (e : Event) (d : Digest) → IsLate d → (p : ℕ) → ((c : Current) → IsAsked e c (TxEvent.Lost p)) → link_with (lose who p d).next.arcs p ≡ Idle
unfolding lose refused_tx
lost_idle who e d late p asked = stays (lose who p d) (go d.current refl)
  where
    g : Digest
    g = record d { arcs = without_arc d.arcs p }

    idle : (n : ℕ) → p ≡ n → link_with g.arcs n ≡ Idle
    idle n same = link_without d.arcs p n ∙ grind (arith, nat_tests, same)

    go : (o : Option Current) → d.current ≡ o → IsLinked p g (elim o as (λ _. Move) [ None ↦ perform (TxOut.Tell (Indication.PAbort p) ∷ []) g | Some c ↦ transact who (TxEvent.Lost p) g ])
    go None i = (linked_moves who e d p).speaks g (TxOut.Tell (Indication.PAbort p) ∷ []) refl (λ u h. absurd (cc (h)), λ z r h. absurd h) refl
    go (Some c) i =
        every_transact who e d (IsLinked p) (linked_moves who e d p) (TxEvent.Lost p) g refl (λ b j. asked b)
        (λ b j. put_plain who g b (TxEvent.Lost p) (late b j) (λ t. refl) (λ q h. cc (h)) (λ h. cc (h)) (λ arcs h. cc (h)))
        (λ n i. idle n (grind (arith, nat_tests, i)))

    stays : (m : Move) → IsLinked p g m → link_with m.next.arcs p ≡ Idle
    stays m k = elim k.over.link [
      | inl i ↦ i ∙ ap (sent_more (count_to p m.outs)) (idle p refl)
      | inr i ↦ i
    ]

broken_idle : (who : Who) (d : Digest) (from : Addr) (x y : Mark) (q : ℕ) (r : DialogueRecord) → IsLate d → link_with (action who d (Event.Break from (PeerRecord.OnAssoc x y q r))).next.arcs from.node ≡ Idle
unfolding break_off
broken_idle who d from x y q r late =
    lost_idle who (Event.Break from (PeerRecord.OnAssoc x y q r)) (perform (TxOut.Recovery from (PeerRecord.ShutAssoc x (Some y)) ∷ []) d).next late from.node (λ c. refl)

-- ---- in a legal history

record Broke (who : Who) (d : Digest) (e : Event) (p : ℕ) (x y : Mark) : Type 0 where
  sent : ℕ
  taken : ℕ
  was : link_with d.arcs p ≡ Live x y sent taken
  idle : link_with (after who d e).arcs p ≡ Idle

broke : (who : Who) (d : Digest) (e : Event) (p : ℕ) (x y : Mark) → IsLate d → refusal who d e ≡ None → is_broken_by x y p e ≡ true → Broke who d e p x y
broke who d (Event.Break a (PeerRecord.OnAssoc z w q r)) p x y late ok h =
    let at : a.node ≡ p = grind (arith, nat_tests, h) in
    let ex = marks_same x z (grind (arith, h)) in
    let ey = marks_same y w (grind (arith, h)) in
    let t = breaks_next who d a z w q r ok in
    let live : Live z w t.sent q ≡ Live x y t.sent q = same z x w y t.sent q (sym ex) (sym ey) in
    record { sent = t.sent; taken = q; was = ap (link_with d.arcs) (sym at) ∙ t.live ∙ live; idle = ap (link_with (after who d (Event.Break a (PeerRecord.OnAssoc z w q r))).arcs) (sym at) ∙ broken_idle who d a z w q r late }
  where
    same : (z x w y : Mark) (s q : ℕ) → z ≡ x → w ≡ y → Live z w s q ≡ Live x y s q
    same z x w y s q e f = rw (e, f) refl
broke who d e p x y late ok h = absurd (cc (h))

neither : (a b : Bool) → (a ≡ true → ⊥) → (b ≡ true → ⊥) → (a || b) ≡ false
neither false false h i = refl
neither true b h i = absurd (h refl)
neither false true h i = absurd (i refl)

live_parts : (x y z w : Mark) (s t u v : ℕ) → Live x y s t ≡ Live z w u v → (x ≡ z) × (y ≡ w)
live_parts x y z w s t u v h = (cc (h), cc (h))

breaks_step : (o : Origin) (up : Option Addr) (e : Entry) (h : List Entry) → IsGrown o up (e ∷ h) → AreBreaks o.who up (digest o h) h → AreBreaks o.who up (digest o (e ∷ h)) (e ∷ h)
breaks_step o up e h legal b = record {
  old = λ p x y i. old p x y (is_broken_by x y p e.event) refl i;
  live = λ p x y s t is. neither (is_broken_by x y p e.event) (has_broken x y p h) (not_now p x y (λ z. cc (z, is))) (live p x y s t is);
  opening = λ p x y is. neither (is_broken_by x y p e.event) (has_broken x y p h) (not_now p x y (λ z. cc (z, is))) (opening p x y is);
}
  where
    d : Digest
    d = digest o h

    late : IsLate d
    late = late_law o up h legal.3

    traced : IsTraced o.who up d h
    traced = traced_law o up h legal.3

    k : (p : ℕ) → Told o.who up p d e.event
    k p = told o.who up p d e.event late traced.under traced.declared legal.0

    not_now : (p : ℕ) (x y : Mark) → (link_with (after o.who d e.event).arcs p ≡ Idle → ⊥) → is_broken_by x y p e.event ≡ true → ⊥
    not_now p x y other i = other (broke o.who d e.event p x y late legal.0 i).idle

    old : (p : ℕ) (x y : Mark) (c : Bool) → is_broken_by x y p e.event ≡ c → (is_broken_by x y p e.event || has_broken x y p h) ≡ true → is_old o.who (after o.who d e.event) (own_mark up p x y) ≡ true
    old p x y true i j =
        let was = broke o.who d e.event p x y late legal.0 i in
        old_stays o.who d (after o.who d e.event) (own_mark up p x y) (k p).drawn (ap (own_old o.who d up p) (sym was.was) ∙ traced.own p)
    old p x y false i j = old_stays o.who d (after o.who d e.event) (own_mark up p x y) (k p).drawn (b.old p x y (rw i at j))

    live : (p : ℕ) (x y : Mark) (s t : ℕ) → link_with (after o.who d e.event).arcs p ≡ Live x y s t → has_broken x y p h ≡ true → ⊥
    live p x y s t is i =
        let was = live_before p (link_with (prelude o.who d e.event).arcs p) (link_with (after o.who d e.event).arcs p) (action o.who d e.event).outs x y s t (k p).linked.over is in
        go (link_with (prelude o.who d e.event).arcs p) (k p).pre was.sent was.is
      where
        go : (l : Link) → Prelinked o.who up p d e.event l → (u : ℕ) → l ≡ Live x y u t → ⊥
        go l (As_before m none) u n = cc (b.live p x y u t (sym m ∙ n), i)
        go l (Now_idle m none) u n = absurd (cc (m, n))
        go l (Now_called m down w none below calls) u n = absurd (cc (m, n))
        go l (Now_offered z m under none) u n = absurd (cc (m, n))
        go l (Now_accepted z m under w none nil) u n =
            let f = live_parts z (next_mark o.who d) x y 0 0 u t (sym m ∙ n) in
            let own : own_mark up p x y ≡ y = rw under refl in
            let young : is_old o.who d (own_mark up p x y) ≡ false = ap (is_old o.who d) own ∙ ap (is_old o.who d) (sym f.1) ∙ new_mark o.who d in
            cc (young, b.old p x y i)
        go l (Now_confirmed z w v m none) u n =
            let f = live_parts z w x y 0 0 u t (sym m ∙ n) in
            cc (b.opening p x y (v ∙ ap (λ (q : Mark). Opening q) f.0), i)
        go l (Took_one a z w v q r m j at ev) u n =
            let f = live_parts z w x y v (suc q) u t (sym j ∙ n) in
            cc (b.live p x y v q (m ∙ same z x w y v q f.0 f.1), i)
          where
            same : (z x w y : Mark) (s q : ℕ) → z ≡ x → w ≡ y → Live z w s q ≡ Live x y s q
            same z x w y s q e f = rw (e, f) refl

    opening : (p : ℕ) (x y : Mark) → link_with (after o.who d e.event).arcs p ≡ Opening x → has_broken x y p h ≡ true → ⊥
    opening p x y is i = go (link_with (prelude o.who d e.event).arcs p) (k p).pre pre
      where
        pre : link_with (prelude o.who d e.event).arcs p ≡ Opening x
        pre = elim (k p).linked.over.link [
          | inl j ↦ opening_more (count_to p (action o.who d e.event).outs) (link_with (prelude o.who d e.event).arcs p) x (sym j ∙ is)
          | inr j ↦ absurd (cc (j, is))
        ]

        opening_part : (m n : Mark) → Opening m ≡ Opening n → m ≡ n
        opening_part m n q = cc (q)

        go : (l : Link) → Prelinked o.who up p d e.event l → l ≡ Opening x → ⊥
        go l (As_before m none) n = cc (b.opening p x y (sym m ∙ n), i)
        go l (Now_idle m none) n = absurd (cc (m, n))
        go l (Now_called m down w none below calls) n =
            let own : own_mark up p x y ≡ x = rw down refl in
            let young : is_old o.who d (own_mark up p x y) ≡ false = ap (is_old o.who d) own ∙ ap (is_old o.who d) (sym (opening_part (next_mark o.who d) x (sym m ∙ n))) ∙ new_mark o.who d in
            cc (young, b.old p x y i)
        go l (Now_offered z m under none) n = absurd (cc (m, n))
        go l (Now_accepted z m under w none nil) n = absurd (cc (m, n))
        go l (Now_confirmed z w v m none) n = absurd (cc (m, n))
        go l (Took_one a z w s t r m j at ev) n = absurd (cc (j, n))

pub breaks_law : (o : Origin) (up : Option Addr) (h : List Entry) → IsGrown o up h → AreBreaks o.who up (digest o h) h
unfolding started
breaks_law o up [] legal = record { old = λ p x y i. absurd (cc (i)); live = λ p x y s t i. refl; opening = λ p x y i. refl }
breaks_law o up (e ∷ h) legal = breaks_step o up e h legal (breaks_law o up h legal.3)

-- ---- the traces of the definitions

same_sent : (x y : Mark) (p : ℕ) (outs : List Out) → model.sent_by x y p outs ≡ sent_of x y p outs
same_sent x y p [] = refl
same_sent x y p (Out.Tell i ∷ outs) = same_sent x y p outs
same_sent x y p (Out.Send a (PeerRecord.OnAssoc z w s r) ∷ outs) = go ((a.node == p) && is_mark x z && is_mark y w) (same_sent x y p outs)
  where
    go : (b : Bool) → model.sent_by x y p outs ≡ sent_of x y p outs
        → elim b as (λ _. List DialogueRecord) [ true ↦ r ∷ [] | false ↦ [] ] ++ model.sent_by x y p outs ≡ (if b then r ∷ sent_of x y p outs else sent_of x y p outs)
    go true h = ap (λ (rs : List DialogueRecord). r ∷ rs) h
    go false h = h
same_sent x y p (Out.Send a (PeerRecord.OpenAssoc z u) ∷ outs) = same_sent x y p outs
same_sent x y p (Out.Send a (PeerRecord.AcceptAssoc z w u) ∷ outs) = same_sent x y p outs
same_sent x y p (Out.Send a (PeerRecord.ShutAssoc z w) ∷ outs) = same_sent x y p outs
same_sent x y p (Out.Send a (PeerRecord.RecReady t b) ∷ outs) = same_sent x y p outs
same_sent x y p (Out.Send a (PeerRecord.RecCommit t b) ∷ outs) = same_sent x y p outs
same_sent x y p (Out.Send a (PeerRecord.RecReply t b s) ∷ outs) = same_sent x y p outs
same_sent x y p (Out.Send a (PeerRecord.Forget t b) ∷ outs) = same_sent x y p outs

pub all_sent : (x y : Mark) (p : ℕ) (h : List Entry) → model.sent_on x y p h ≡ sent_on x y p h
all_sent x y p [] = refl
all_sent x y p (e ∷ h) = rw (all_sent x y p h, same_sent x y p e.outs) refl

one_of : (b : Bool) (r : DialogueRecord) → elim b as (λ _. List DialogueRecord) [ true ↦ r ∷ [] | false ↦ [] ] ≡ (if b then r ∷ [] else [])
one_of true r = refl
one_of false r = refl

same_took : (x y : Mark) (p : ℕ) (e : Event) → is_broken_by x y p e ≡ false → model.taken_by x y p e ≡ took_of x y p e
same_took x y p (Event.Arrive a (PeerRecord.OnAssoc z w s r)) h = one_of ((a.node == p) && is_mark x z && is_mark y w) r
same_took x y p (Event.Break a (PeerRecord.OnAssoc z w s r)) h = one_of ((a.node == p) && is_mark x z && is_mark y w) r ∙ rw h refl
same_took x y p _ h = refl

pub all_taken : (x y : Mark) (p : ℕ) (h : List Entry) → has_broken x y p h ≡ false → model.taken_on x y p h ≡ accepted_on x y p h
all_taken x y p [] i = refl
all_taken x y p (e ∷ h) i = rw (all_taken x y p h (grind (arith, i)), same_took x y p e.event (grind (arith, i))) refl

-- ---- what is taken has its place as its number

-- the event brought the record with that number
abbrev Brings : Event → ℕ → Mark → Mark → ℕ → DialogueRecord → Type 0
Brings e p x y k r = (a : Addr) × (a.node ≡ p) × (brought e ≡ Some (a, PeerRecord.OnAssoc x y k r))

at_last : (xs : List DialogueRecord) (s r : DialogueRecord) (e : Event) (p : ℕ) (x y z w : Mark) (k q : ℕ) (a : Addr) → length xs ≡ q → a.node ≡ p → x ≡ z → y ≡ w → brought e ≡ Some (a, PeerRecord.OnAssoc z w q s)
    → slice_get (xs ++ s ∷ []) k ≡ Some r → (slice_get xs k ≡ Some r) ⊎ Brings e p x y k r
at_last xs s r e p x y z w k q a long at ex ey is h = elim (get_last xs s k r h) [
  | inl i ↦ inl i
  | inr i ↦ inr (a, at, is ∙ cc (i.0, i.1, long, ex, ey))
]

-- the live link that takes it has so many taken
long_at : (o : Origin) (up : Option Addr) (h : List Entry) (a : Addr) (p : ℕ) (x y z w : Mark) (q : ℕ) → Taken (digest o h) a z w q → IsGrown o up h → a.node ≡ p → x ≡ z → y ≡ w → length (model.taken_on x y p h) ≡ q
long_at o up h a p x y z w q t legal at ex ey =
    let live : link_with (digest o h).arcs p ≡ Live x y t.sent q = ap (link_with (digest o h).arcs) (sym at) ∙ t.live ∙ same z x w y t.sent q (sym ex) (sym ey) in
    ap length (all_taken x y p h ((breaks_law o up h legal).live p x y t.sent q live)) ∙ ((traced_law o up h legal).live p x y t.sent q live).1
  where
    same : (z x w y : Mark) (s q : ℕ) → z ≡ x → w ≡ y → Live z w s q ≡ Live x y s q
    same z x w y s q e f = rw (e, f) refl

nothing_more : (rs : List DialogueRecord) (k : ℕ) (r : DialogueRecord) → slice_get (rs ++ []) k ≡ Some r → slice_get rs k ≡ Some r
nothing_more rs k r h = subst (λ (xs : List DialogueRecord). slice_get xs k ≡ Some r) (append-nil rs) h

brings_by : (o : Origin) (up : Option Addr) (e : Event) (h : List Entry) (p : ℕ) (x y : Mark) (k : ℕ) (r : DialogueRecord) → IsGrown o up h → refusal o.who (digest o h) e ≡ None
    → slice_get (model.taken_on x y p h ++ model.taken_by x y p e) k ≡ Some r → (slice_get (model.taken_on x y p h) k ≡ Some r) ⊎ Brings e p x y k r
brings_by o up (Event.Arrive a (PeerRecord.OnAssoc z w q s)) h p x y k r legal ok is = go (a.node == p) (is_mark x z && is_mark y w) refl refl
  where
    f : Event
    f = Event.Arrive a (PeerRecord.OnAssoc z w q s)

    go : (b c : Bool) → (a.node == p) ≡ b → (is_mark x z && is_mark y w) ≡ c → (slice_get (model.taken_on x y p h) k ≡ Some r) ⊎ Brings f p x y k r
    go true true b c =
        let one : model.taken_by x y p f ≡ s ∷ [] = grind (arith, b, c) in
        let at : a.node ≡ p = grind (arith, nat_tests, b) in
        let ex = marks_same x z (grind (arith, c)) in
        let ey = marks_same y w (grind (arith, c)) in
        at_last (model.taken_on x y p h) s r f p x y z w k q a (long_at o up h a p x y z w q (takes_next o.who (digest o h) a z w q s ok) legal at ex ey) at ex ey refl (rw one at is)
    go true false b c = let none : model.taken_by x y p f ≡ [] = grind (arith, b, c) in inl (rw (none, append-nil) at is)
    go false c b e = let none : model.taken_by x y p f ≡ [] = grind (arith, b) in inl (rw (none, append-nil) at is)
brings_by o up (Event.Break a (PeerRecord.OnAssoc z w q s)) h p x y k r legal ok is = go (a.node == p) (is_mark x z && is_mark y w) refl refl
  where
    f : Event
    f = Event.Break a (PeerRecord.OnAssoc z w q s)

    go : (b c : Bool) → (a.node == p) ≡ b → (is_mark x z && is_mark y w) ≡ c → (slice_get (model.taken_on x y p h) k ≡ Some r) ⊎ Brings f p x y k r
    go true true b c =
        let one : model.taken_by x y p f ≡ s ∷ [] = grind (arith, b, c) in
        let at : a.node ≡ p = grind (arith, nat_tests, b) in
        let ex = marks_same x z (grind (arith, c)) in
        let ey = marks_same y w (grind (arith, c)) in
        at_last (model.taken_on x y p h) s r f p x y z w k q a (long_at o up h a p x y z w q (breaks_next o.who (digest o h) a z w q s ok) legal at ex ey) at ex ey refl (rw one at is)
    go true false b c = let none : model.taken_by x y p f ≡ [] = grind (arith, b, c) in inl (rw (none, append-nil) at is)
    go false c b e = let none : model.taken_by x y p f ≡ [] = grind (arith, b) in inl (rw (none, append-nil) at is)
brings_by o up _ h p x y k r legal ok is = inl (nothing_more (model.taken_on x y p h) k r is)

pub brings : (o : Origin) (up : Option Addr) (h : List Entry) (p : ℕ) (x y : Mark) (k : ℕ) (r : DialogueRecord) → IsGrown o up h → slice_get (model.taken_on x y p h) k ≡ Some r → CameFrom h p x y k r
brings o up [] p x y k r legal is = absurd cc
brings o up (e ∷ h) p x y k r legal is = go (brings_by o up e.event h p x y k r legal.3 legal.0 is) (brings o up h p x y k r legal.3)
  where
    go : (slice_get (model.taken_on x y p h) k ≡ Some r) ⊎ Brings e.event p x y k r → (slice_get (model.taken_on x y p h) k ≡ Some r → CameFrom h p x y k r) → CameFrom (e ∷ h) p x y k r
    go (inl i) rest = let c = rest i in record { from = c.from; at = c.at; taken = inr c.taken }
    go (inr i) rest = record { from = i.0; at = i.1; taken = inl i.2 }

-- ---- both ends

stands_at : (ns : List Node) (fs : List Frame) → IsGood ns fs → (n m : Node) (x y : Mark) → find_node ns (number_of n) ≡ Some n → find_node ns (number_of m) ≡ Some m → (k : ℕ) (r : DialogueRecord)
    → slice_get (model.taken_on x y (number_of n) m.history) k ≡ Some r → slice_get (model.sent_on x y (number_of m) n.history) k ≡ Some r
stands_at ns fs good n m x y here there k r is =
    let c = brings m.origin m.superior m.history (number_of n) x y k r (good.legal (number_of m) m there) is in
    let frame = good.taken (number_of m) m c.from (PeerRecord.OnAssoc x y k r) there c.taken in
    let s = was_sent ns fs c.from (number_of m) (PeerRecord.OnAssoc x y k r) good.sent frame in
    let at = sent_at s.node.origin s.node.superior s.node.history s.to x y k r (good.legal c.from.node s.node s.found) s.sent in
    let one : Some s.node ≡ Some n = sym s.found ∙ ap (find_node ns) c.at ∙ here in
    let same : s.node ≡ n = cc (one) in
    let sent : slice_get (sent_on x y (number_of m) s.node.history) k ≡ Some r = subst (λ (q : ℕ). slice_get (sent_on x y q s.node.history) k ≡ Some r) s.at at in
    let mine : slice_get (sent_on x y (number_of m) n.history) k ≡ Some r = subst (λ (v : Node). slice_get (sent_on x y (number_of m) v.history) k ≡ Some r) same sent in
    ap (λ (rs : List DialogueRecord). slice_get rs k) (all_sent x y (number_of m) n.history) ∙ mine

pub associations : (es : List Happening) → PrefixTaken (run es)
associations es n m x y here there =
    begins_with (model.taken_on x y (number_of n) m.history) (model.sent_on x y (number_of m) n.history)
    (stands_at (run es).nodes (run es).frames (good_run es) n m x y here there)
