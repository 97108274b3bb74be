-- The link of an arc after an entry that does not end it by itself is what the questions answer.
use Rattle.tp_history_state.proofs.Vocabulary.{is_crash, if◌then◌else◌, ◌≡◌, ◌⊎◌, inl, inr, ℕ, suc, Bool, true, false, refl, ap, sym, ◌∙◌, arith, Option, Some, None, List, [], ◌∷◌, ◌&&◌, ◌||◌, ◌==◌, not, length, nat_tests, Mark, Addr, Request, DialogueRecord, PeerRecord, LogRec, Side, Deferral, TxOut, Who, Origin, Event, Entry, Out, Link, Idle, Opening, Offered, Live, Arc, Current, Digest, is_live, is_idle, with_one_taken, is_end_deferred, fresh_dialogue, find_arc, link_of, link_with, is_live_with_peer, put_arc, is_under_at, has_branch_at, refused_request, call, accept, Move, move, perform, next_mark, with_mark_drawn, superior_arc, is_end_deferred_at, refused_arrival, refusal, verdict, action, after_crash, started, digest, said_to, acting_from, is_record, is_abort, is_end_dialogue, is_left_end, is_at, is_up, was_branch, superior_in, sent_more, link_by, deferral_in, closes_by_deferral, link_in, is_unchanged, IsGrown, closes_at, prelude, called, accepted_by, accepted_on, linked, counted_in, count_to, IsLinked, first_part, every_move, step_move, find_arc_is, the, plain_law, late_law, linked_moves, link_append, link_put, link_counted, superior_found}
use Rattle.tp_model.specs.Questions as asks
use Rattle.tp_history_state.proofs.deferral.Defers.{put, told_committed}
use Rattle.tp_history_state.proofs.deferral.Deferral.{committed_tells, acting_plain, answer_dead, known_law}
use Rattle.tp_history_state.proofs.links.Shuts.{over_link}
use Rattle.tp_history_state.proofs.links.Linked.{IsOver, over_steps, on_prelude, on_law}
use Rattle.tp_steps.proofs.every.Preludes.{begun_arcs}

-- ---- what an accepted event opens

pub call_free : (who : Who) (d : Digest) (a : Addr) (u : ℕ) → refusal who d (Event.Do (Request.BeginDialogue a u)) ≡ None → find_arc d.arcs a.node ≡ None
unfolding refusal verdict refused_request
call_free who d a u ok = grind (arith, ok)

call_outs : (who : Who) (d : Digest) (a : Addr) (u : ℕ) → (action who d (Event.Do (Request.BeginDialogue a u))).outs ≡ Out.Send a (PeerRecord.OpenAssoc (next_mark who d) u) ∷ []
unfolding call
call_outs who d a u = refl

called_link : (who : Who) (d : Digest) (a : Addr) (u p : ℕ) → refusal who d (Event.Do (Request.BeginDialogue a u)) ≡ None → link_with (called who a u d).arcs p ≡ (if a.node == p then Opening (next_mark who d) else link_with d.arcs p)
called_link who d a u p ok = link_append d.arcs (record { peer = a; link = Opening (next_mark who d); dialogue = fresh_dialogue u Side.Superior }) p (call_free who d a u ok)

record IsAccepted (who : Who) (d : Digest) (u p : ℕ) : Type 0 where
  mark : Mark
  top : Addr
  to : Addr
  superior : d.superior ≡ Some top
  link : link_with (accepted_by who u (superior_arc d) d).arcs p ≡ (if top.node == p then Live mark (next_mark who d) 0 0 else link_with d.arcs p)
  outs : (action who d (Event.Do (Request.Accept u))).outs ≡ Out.Send to (PeerRecord.AcceptAssoc mark (next_mark who d) u) ∷ []

accepted_link : (who : Who) (d : Digest) (u p : ℕ) → refusal who d (Event.Do (Request.Accept u)) ≡ None → IsAccepted who d u p
unfolding refusal verdict refused_request accept
accepted_link who d u p ok = go (superior_arc d) refl
  where
    answered : Arc → Link → Move
    answered a l = elim l as (λ _. Move) [
      | Idle ↦ move [] d
      | Opening x ↦ move [] d
      | Offered x ↦
          (let y : Mark = next_mark who d in
          perform
          (TxOut.Recovery a.peer (PeerRecord.AcceptAssoc x y u) ∷ [])
          (record (with_mark_drawn d) { arcs = put_arc d.arcs (record a { link = Live x y 0 0; dialogue = fresh_dialogue u Side.Subordinate }) }))
      | Live x y sent taken ↦ move [] d
    ]

    on : (a : Arc) (l : Link) → superior_arc d ≡ Some a → a.link ≡ l → IsAccepted who d u p
    on a (Offered x) i j =
        let s = superior_found d a i in
        let at : a.peer.node ≡ s.0.node = find_arc_is d.arcs s.0.node a s.2 in
        let b : Arc = record a { link = Live x (next_mark who d) 0 0; dialogue = fresh_dialogue u Side.Subordinate } in
        let found : find_arc d.arcs b.peer.node ≡ Some a = ap (find_arc d.arcs) at ∙ s.2 in
        record {
          mark = x;
          top = s.0;
          to = a.peer;
          superior = s.1;
          link =
              ap (λ (o : Option Arc). link_with (accepted_by who u o d).arcs p) i ∙ ap (λ (l : Link). link_with (accepted_on who u a l d).arcs p) j
              ∙ link_put d.arcs a b p found ∙ ap (λ (n : ℕ). if n == p then Live x (next_mark who d) 0 0 else link_with d.arcs p) at;
          outs = ap (λ (o : Option Arc). (elim o as (λ _. Move) [ None ↦ move [] d | Some z ↦ answered z z.link ]).outs) i ∙ ap (λ (l : Link). (answered a l).outs) j;
        }
    on a _ i j = absurd (grind (arith, ok, i, j))

    go : (o : Option Arc) → superior_arc d ≡ o → IsAccepted who d u p
    go None i = absurd (grind (arith, ok, i))
    go (Some a) i = on a a.link i refl

offer_idle : (who : Who) (d : Digest) (from : Addr) (x : Mark) (u : ℕ) → refusal who d (Event.Arrive from (PeerRecord.OpenAssoc x u)) ≡ None → is_idle (link_with d.arcs from.node) ≡ true
unfolding refusal verdict refused_arrival
offer_idle who d from x u ok = grind (arith, ok)

record IsConfirmed (who : Who) (d : Digest) (from : Addr) (x y : Mark) (u p : ℕ) : Type 0 where
  was : link_with d.arcs from.node ≡ Idle → ⊥
  link : link_with (linked (find_arc d.arcs from.node) x y u d).arcs p ≡ (if from.node == p then Live x y 0 0 else link_with d.arcs p)

confirmed_link : (who : Who) (d : Digest) (from : Addr) (x y : Mark) (u p : ℕ) → refusal who d (Event.Arrive from (PeerRecord.AcceptAssoc x y u)) ≡ None → IsConfirmed who d from x y u p
unfolding refusal verdict refused_arrival
confirmed_link who d from x y u p ok = go (find_arc d.arcs from.node) refl
  where
    on : (a : Arc) (l : Link) → find_arc d.arcs from.node ≡ Some a → a.link ≡ l → IsConfirmed who d from x y u p
    on a (Opening z) i j =
        let at : a.peer.node ≡ from.node = find_arc_is d.arcs from.node a i in
        let b : Arc = record a { link = Live x y 0 0; dialogue = fresh_dialogue u Side.Superior } in
        record {
          was = λ idle. let no : Opening z ≡ Idle = sym j ∙ ap link_of (sym i) ∙ idle in cc (no);
          link = rw (i, linked) (link_put d.arcs a b p (ap (find_arc d.arcs) at ∙ i) ∙ ap (λ (n : ℕ). if n == p then Live x y 0 0 else link_with d.arcs p) at);
        }
    on a _ i j = absurd (grind (arith, ok, i, j))

    go : (o : Option Arc) → find_arc d.arcs from.node ≡ o → IsConfirmed who d from x y u p
    go None i = absurd (grind (arith, ok, i))
    go (Some a) i = on a a.link i refl

pub taken_link : (who : Who) (d : Digest) (from : Addr) (x y : Mark) (q : ℕ) (r : DialogueRecord) (p : ℕ) → link_with (prelude who d (the from x y q r)).arcs p ≡ (if from.node == p then with_one_taken (link_with d.arcs p) else link_with d.arcs p)
taken_link who d from x y q (DialogueRecord.Begin t b h) p = ap (λ (xs : List Arc). link_with xs p) (begun_arcs (find_arc d.arcs from.node) t b (counted_in d from)) ∙ link_counted d.arcs from.node p
taken_link who d from x y q r p = link_counted d.arcs from.node p

pub took_same : (l : Link) → with_one_taken l ≡ with_one_taken l
took_same _ = refl

-- ---- what comes first is what the entry says of the link, where it does not end it

plain_three : (from : Addr) (x y : Mark) (q : ℕ) (r : DialogueRecord) (p : ℕ) → closes_at (the from x y q r) p ≡ false → (from.node == p) ≡ true → (is_abort r ≡ false) × (is_end_dialogue r ≡ false) × (is_left_end r ≡ false)
plain_three from x y q r p h1 h2 = grind arith

pub no_acting : (g : DialogueRecord → Bool) (o : Origin) (p : ℕ) (from : Addr) (x y : Mark) (q : ℕ) (r : DialogueRecord) (h : List Entry) → g r ≡ false → is_record g (acting_from o p (the from x y q r) h) ≡ false
no_acting g o p from x y q r h off = grind (arith, acting_plain)

abbrev IsFirstLink : Origin → ℕ → Event → Option LogRec → List Out → List Entry → Type 0
IsFirstLink o p v rec outs h = link_with (prelude o.who (digest o h) v).arcs p ≡ link_by o p (record { event = v; rec = rec; outs = outs }) h (link_with (digest o h).arcs p)

first_call : (o : Origin) (up : Option Addr) (a : Addr) (u : ℕ) (rec : Option LogRec) (outs : List Out) (h : List Entry) (p : ℕ) → IsGrown o up (record { event = Event.Do (Request.BeginDialogue a u); rec = rec; outs = outs } ∷ h) → IsFirstLink o p (Event.Do (Request.BeginDialogue a u)) rec outs h
first_call o up a u rec outs h p legal = grind (arith, call_outs, called_link)

first_accept : (o : Origin) (up : Option Addr) (u : ℕ) (rec : Option LogRec) (outs : List Out) (h : List Entry) (p : ℕ) → IsGrown o up (record { event = Event.Do (Request.Accept u); rec = rec; outs = outs } ∷ h) → IsFirstLink o p (Event.Do (Request.Accept u)) rec outs h
first_accept o up u rec outs h p legal = k.link ∙ go (k.top.node == p) ∙ ap (λ (v : Option Addr). if is_at v p then asks.accepted_by outs else link_with d.arcs p) above
  where
    d : Digest
    d = digest o h

    k : IsAccepted o.who d u p
    k = accepted_link o.who d u p legal.0

    above : Some k.top ≡ superior_in h
    above = sym k.superior ∙ (plain_law o up h legal.3).superior

    said : outs ≡ Out.Send k.to (PeerRecord.AcceptAssoc k.mark (next_mark o.who d) u) ∷ []
    said = ap (λ (e : Entry). e.outs) (sym legal.1) ∙ k.outs

    go : (b : Bool) → (if b then Live k.mark (next_mark o.who d) 0 0 else link_with d.arcs p) ≡ (if b then asks.accepted_by outs else link_with d.arcs p)
    go true = sym (ap asks.accepted_by said)
    go false = refl

first_taken : (o : Origin) (from : Addr) (x y : Mark) (q : ℕ) (r : DialogueRecord) (rec : Option LogRec) (outs : List Out) (h : List Entry) (p : ℕ) → closes_at (the from x y q r) p ≡ false → IsFirstLink o p (the from x y q r) rec outs h
first_taken o from x y q r rec outs h p off = taken_link o.who d from x y q r p ∙ go (from.node == p) refl
  where
    d : Digest
    d = digest o h

    go : (b : Bool) → (from.node == p) ≡ b
        → (if b then with_one_taken (link_with d.arcs p) else link_with d.arcs p) ≡ (if not b then link_with d.arcs p
        else if is_record is_abort (Some r) || is_record is_end_dialogue (acting_from o p (the from x y q r) h) || is_record is_left_end (acting_from o p (the from x y q r) h) then Idle else with_one_taken (link_with d.arcs p))
    go true i =
        let k = plain_three from x y q r p off i in
        let a : is_record is_end_dialogue (acting_from o p (the from x y q r) h) ≡ false = no_acting is_end_dialogue o p from x y q r h k.1 in
        let b : is_record is_left_end (acting_from o p (the from x y q r) h) ≡ false = no_acting is_left_end o p from x y q r h k.2 in
        took_same (link_with d.arcs p) ∙ sym (rw (k.0, a, b) refl)
    go false i = refl

either_way : (b : Bool) (l : Link) → l ≡ (if not b then l else l)
either_way true l = refl
either_way false l = refl

not_here : (b : Bool) (l k : Link) → b ≡ false → l ≡ (if b then k else l)
not_here b l k i = rw i refl

not_from : (b : Bool) (l k : Link) → b ≡ false → l ≡ (if not b then l else k)
not_from b l k i = rw i refl

link_first : (o : Origin) (up : Option Addr) (v : Event) (rec : Option LogRec) (outs : List Out) (h : List Entry) (p : ℕ) → IsGrown o up (record { event = v; rec = rec; outs = outs } ∷ h) → closes_at v p ≡ false → IsFirstLink o p v rec outs h
unfolding after_crash
link_first o up (Event.Do (Request.BeginDialogue a u)) rec outs h p legal off = first_call o up a u rec outs h p legal
link_first o up (Event.Do (Request.Accept u)) rec outs h p legal off = first_accept o up u rec outs h p legal
link_first o up (Event.Do Request.Reject) rec outs h p legal off = absurd (cc (off))
link_first o up (Event.Do (Request.EndDialogue q)) rec outs h p legal off = not_here (q == p) (link_with (digest o h).arcs p) Idle off
link_first o up (Event.Do (Request.UAbort q)) rec outs h p legal off = not_here (q == p) (link_with (digest o h).arcs p) Idle off
link_first o up (Event.Arrive from (PeerRecord.OpenAssoc x u)) rec outs h p legal off = go (from.node == p) refl
  where
    go : (b : Bool) → (from.node == p) ≡ b → link_of (if b then Some (record { peer = from; link = Offered x; dialogue = fresh_dialogue u Side.Subordinate }) else find_arc (digest o h).arcs p) ≡ (if not b then link_with (digest o h).arcs p else Offered x)
    go true i = refl
    go false i = refl
link_first o up (Event.Arrive from (PeerRecord.AcceptAssoc x y u)) rec outs h p legal off = (confirmed_link o.who (digest o h) from x y u p legal.0).link ∙ go (from.node == p)
  where
    go : (b : Bool) → (if b then Live x y 0 0 else link_with (digest o h).arcs p) ≡ (if not b then link_with (digest o h).arcs p else Live x y 0 0)
    go true = refl
    go false = refl
link_first o up (Event.Arrive from (PeerRecord.ShutAssoc x y)) rec outs h p legal off = not_from (from.node == p) (link_with (digest o h).arcs p) Idle off
link_first o up (Event.Arrive from (PeerRecord.OnAssoc x y q r)) rec outs h p legal off = first_taken o from x y q r rec outs h p off
link_first o up (Event.Arrive from r) rec outs h p legal off = either_way (from.node == p) (link_with (digest o h).arcs p)
link_first o up (Event.Break from r) rec outs h p legal off = not_here (from.node == p) (link_with (digest o h).arcs p) Idle off
link_first o up (Event.Lose q) rec outs h p legal off = not_here (q == p) (link_with (digest o h).arcs p) Idle off
link_first o up (Event.GiveUp q) rec outs h p legal off = not_here ((q == p) && asks.shuts_to p outs) (link_with (digest o h).arcs p) Idle (rw off refl)
link_first o up _ rec outs h p legal off = refl

-- ---- a link that was live is live or idle after it

live_taken : (l : Link) → is_live l ≡ true → is_live (with_one_taken l) ≡ true
live_taken Idle h = h
live_taken _ h = h

-- one that was live is live as long as the node does not crash
pub live_kept : (who : Who) (d : Digest) (e : Event) (p : ℕ) → refusal who d e ≡ None → is_crash e ≡ false → is_live_with_peer d.arcs p ≡ true → is_live_with_peer (prelude who d e).arcs p ≡ true
live_kept who d (Event.Do (Request.BeginDialogue a u)) p ok off live = go (a.node == p) refl
  where
    is : link_with (called who a u d).arcs p ≡ (if a.node == p then Opening (next_mark who d) else link_with d.arcs p)
    is = called_link who d a u p ok

    go : (b : Bool) → (a.node == p) ≡ b → is_live_with_peer (called who a u d).arcs p ≡ true
    go true i = absurd (let at : a.node ≡ p = grind (arith, nat_tests, i) in let none : link_with d.arcs p ≡ Idle = ap link_of (ap (find_arc d.arcs) (sym at) ∙ call_free who d a u ok) in let off : is_live_with_peer d.arcs p ≡ false = ap is_live none in cc (live, off))
    go false i = ap is_live (is ∙ rw i refl) ∙ live
live_kept who d (Event.Do (Request.Accept u)) p ok off live = go (k.top.node == p) refl
  where
    k : IsAccepted who d u p
    k = accepted_link who d u p ok

    go : (b : Bool) → (k.top.node == p) ≡ b → is_live_with_peer (accepted_by who u (superior_arc d) d).arcs p ≡ true
    go true i = let now : link_with (accepted_by who u (superior_arc d) d).arcs p ≡ Live k.mark (next_mark who d) 0 0 = k.link ∙ rw i refl in ap is_live now
    go false i = let now : link_with (accepted_by who u (superior_arc d) d).arcs p ≡ link_with d.arcs p = k.link ∙ rw i refl in ap is_live now ∙ live
live_kept who d (Event.Do r) p ok off live = live
live_kept who d (Event.Arrive from (PeerRecord.OpenAssoc x u)) p ok off live = go (from.node == p) refl
  where
    new : Arc
    new = record { peer = from; link = Offered x; dialogue = fresh_dialogue u Side.Subordinate }

    dead : (l : Link) → is_idle l ≡ true → is_live l ≡ true → ⊥
    dead l h i = grind (arith, h, i)

    go : (b : Bool) → (from.node == p) ≡ b → is_live (link_of (if b then Some new else find_arc d.arcs p)) ≡ true
    go true i = absurd (let at : from.node ≡ p = grind (arith, nat_tests, i) in dead (link_with d.arcs p) (ap (λ (n : ℕ). is_idle (link_with d.arcs n)) (sym at) ∙ offer_idle who d from x u ok) live)
    go false i = live
live_kept who d (Event.Arrive from (PeerRecord.AcceptAssoc x y u)) p ok off live = go (from.node == p) refl
  where
    k : IsConfirmed who d from x y u p
    k = confirmed_link who d from x y u p ok

    go : (b : Bool) → (from.node == p) ≡ b → is_live_with_peer (linked (find_arc d.arcs from.node) x y u d).arcs p ≡ true
    go true i = let now : link_with (linked (find_arc d.arcs from.node) x y u d).arcs p ≡ Live x y 0 0 = k.link ∙ rw i refl in ap is_live now
    go false i = let now : link_with (linked (find_arc d.arcs from.node) x y u d).arcs p ≡ link_with d.arcs p = k.link ∙ rw i refl in ap is_live now ∙ live
live_kept who d (Event.Arrive from (PeerRecord.OnAssoc x y q r)) p ok off live = go (from.node == p) refl
  where
    is : link_with (prelude who d (the from x y q r)).arcs p ≡ (if from.node == p then with_one_taken (link_with d.arcs p) else link_with d.arcs p)
    is = taken_link who d from x y q r p

    go : (b : Bool) → (from.node == p) ≡ b → is_live_with_peer (prelude who d (the from x y q r)).arcs p ≡ true
    go true i = ap is_live (is ∙ rw i refl) ∙ live_taken (link_with d.arcs p) live
    go false i = ap is_live (is ∙ rw i refl) ∙ live
live_kept who d Event.Crash p ok off live = absurd (cc (off))
live_kept who d e p ok off live = live

live_first : (who : Who) (d : Digest) (e : Event) (p : ℕ) → refusal who d e ≡ None → is_live_with_peer d.arcs p ≡ true → (is_live_with_peer (prelude who d e).arcs p ≡ true) ⊎ (link_with (prelude who d e).arcs p ≡ Idle)
unfolding after_crash
live_first who d Event.Crash p ok live = inr refl
live_first who d e p ok live = inl (live_kept who d e p ok refl live)

more_live : (n : ℕ) (l : Link) → is_live l ≡ true → is_live (sent_more n l) ≡ true
more_live n Idle h = h
more_live n _ h = h

same_end : (f : Deferral) → is_end_deferred f ≡ is_end_deferred f
same_end _ = refl

-- where an end is deferred by the questions, and the link is not live any more, it is idle
pub stale_idle : (o : Origin) (up : Option Addr) (h : List Entry) (p : ℕ) → IsGrown o up h → is_live_with_peer (digest o h).arcs p ≡ false → is_end_deferred (deferral_in o p h) ≡ true → link_with (digest o h).arcs p ≡ Idle
unfolding started
stale_idle o up [] p legal dead off = absurd (cc (off))
stale_idle o up (e ∷ h) p legal dead off = go (is_live_with_peer (digest o h).arcs p) refl
  where
    d : Digest
    d = digest o h

    s : Digest
    s = prelude o.who d e.event

    m : Move
    m = action o.who d e.event

    moved : IsLinked p s m
    moved = every_move o.who d e.event (IsLinked p) (linked_moves o.who e.event s p) (late_law o up h legal.3) legal.0

    on : (is_live_with_peer s.arcs p ≡ true) ⊎ (link_with s.arcs p ≡ Idle) → (link_with m.next.arcs p ≡ sent_more (count_to p m.outs) (link_with s.arcs p)) ⊎ (link_with m.next.arcs p ≡ Idle) → link_with m.next.arcs p ≡ Idle
    on k (inr i) = i
    on (inl live) (inl i) = absurd (let up : is_live (link_with m.next.arcs p) ≡ true = ap is_live i ∙ more_live (count_to p m.outs) (link_with s.arcs p) live in cc (up, dead))
    on (inr idle) (inl i) = i ∙ ap (sent_more (count_to p m.outs)) idle

    go : (b : Bool) → is_live_with_peer d.arcs p ≡ b → link_with m.next.arcs p ≡ Idle
    go true i = on (live_first o.who d e.event p legal.0 i) moved.over.link
    go false i = absurd (let no : is_end_deferred (deferral_in o p (e ∷ h)) ≡ false = ap is_end_deferred (answer_dead o p e h i) in cc (off, no))

-- ---- the question of one entry

pub count_is : (rs : List DialogueRecord) → length rs ≡ length rs
count_is [] = refl
count_is (r ∷ rs) = ap (λ (n : ℕ). suc n) (count_is rs)

abbrev pub IsLinkKnown : Origin → List Entry → Type 0
IsLinkKnown o h = (p : ℕ) → link_with (digest o h).arcs p ≡ link_in o p h

-- with what is known before the entry
pub link_asks : (o : Origin) (p : ℕ) (e : Entry) (h : List Entry) → IsLinkKnown o h → link_in o p (e ∷ h) ≡ (if closes_by_deferral o p e h then Idle else sent_more (count_to p e.outs) (link_by o p e h (link_with (digest o h).arcs p)))
link_asks o p e h known = ap (λ (l : Link). if closes_by_deferral o p e h then Idle else sent_more (length (said_to p e.outs)) (link_by o p e h l)) (sym (known p)) ∙ ap (λ (n : ℕ). if closes_by_deferral o p e h then Idle else sent_more n (link_by o p e h (link_with (digest o h).arcs p))) (count_is (said_to p e.outs))

-- an entry that ends the link
pub closed_asks : (o : Origin) (p : ℕ) (e : Entry) (h : List Entry) → IsLinkKnown o h → link_by o p e h (link_with (digest o h).arcs p) ≡ Idle → link_in o p (e ∷ h) ≡ Idle
closed_asks o p e h known idle = link_asks o p e h known ∙ ap (λ (l : Link). if closes_by_deferral o p e h then Idle else sent_more (count_to p e.outs) l) idle ∙ go (closes_by_deferral o p e h)
  where
    go : (b : Bool) → (if b then Idle else Idle) ≡ Idle
    go true = refl
    go false = refl

-- what is deferred, as the question has it, is what is known of a live arc
pub end_is : (o : Origin) (up : Option Addr) (h : List Entry) (p : ℕ) → IsGrown o up h → is_live_with_peer (digest o h).arcs p ≡ true → is_end_deferred (deferral_in o p h) ≡ is_end_deferred_at (digest o h).arcs p
end_is o up h p legal live = same_end (deferral_in o p h) ∙ sym (known_law is_end_deferred refl o up h legal p live)

pub off_when_dead : (o : Origin) (up : Option Addr) (h : List Entry) (p : ℕ) → IsGrown o up h → is_live_with_peer (digest o h).arcs p ≡ false → is_end_deferred_at (digest o h).arcs p ≡ false
off_when_dead o up h p legal dead = go (is_end_deferred_at (digest o h).arcs p) refl
  where
    go : (b : Bool) → is_end_deferred_at (digest o h).arcs p ≡ b → b ≡ false
    go false i = refl
    go true i = absurd (let live : is_live_with_peer (digest o h).arcs p ≡ true = on_law o up h legal p i in cc (live, dead))

-- ---- events that do not end the link by themselves, and are no leaving

-- what is deferred is not changed by what comes first; on a link that comes to be live nothing is
end_first : (o : Origin) (up : Option Addr) (v : Event) (h : List Entry) (p : ℕ) → IsGrown o up h → refusal o.who (digest o h) v ≡ None → is_live_with_peer (digest o h).arcs p ≡ true → (is_live_with_peer (prelude o.who (digest o h) v).arcs p ≡ true) → is_end_deferred_at (prelude o.who (digest o h) v).arcs p ≡ is_end_deferred_at (digest o h).arcs p
end_first o up v h p legal ok was live = elim (first_part o.who (put is_end_deferred) p (digest o h) v ok (λ u s. refl) live) [
  | inl f ↦ f.1
  | inr f ↦ absurd (let off = f.0 in cc (was, off))
]

off_first : (o : Origin) (up : Option Addr) (v : Event) (h : List Entry) (p : ℕ) → IsGrown o up h → refusal o.who (digest o h) v ≡ None → is_live_with_peer (digest o h).arcs p ≡ false → is_end_deferred_at (prelude o.who (digest o h) v).arcs p ≡ false
off_first o up v h p legal ok dead = go (is_end_deferred_at s.arcs p) refl
  where
    s : Digest
    s = prelude o.who (digest o h) v

    go : (b : Bool) → is_end_deferred_at s.arcs p ≡ b → b ≡ false
    go false i = refl
    go true i = elim (first_part o.who (put is_end_deferred) p (digest o h) v ok (λ u t. refl) (on_prelude o.who (digest o h) v (on_law o up h legal) p i)) [
      | inl f ↦ absurd (let live = f.0 in cc (live, dead))
      | inr f ↦ absurd (let off : is_end_deferred_at s.arcs p ≡ false = f.1 in cc (i, off))
    ]

-- an entry that completes a commitment opens no link
idle_by : (o : Origin) (up : Option Addr) (v : Event) (rec : Option LogRec) (outs : List Out) (h : List Entry) (p : ℕ) → IsGrown o up (record { event = v; rec = rec; outs = outs } ∷ h) → link_with (digest o h).arcs p ≡ Idle → told_committed outs ≡ true → link_by o p (record { event = v; rec = rec; outs = outs }) h Idle ≡ Idle
idle_by o up (Event.Do (Request.BeginDialogue a u)) rec outs h p legal idle told = absurd (let no : told_committed outs ≡ false = ap told_committed (ap (λ (e : Entry). e.outs) (sym legal.1) ∙ call_outs o.who (digest o h) a u) in cc (told, no))
idle_by o up (Event.Do (Request.Accept u)) rec outs h p legal idle told = absurd (let no : told_committed outs ≡ false = ap told_committed (ap (λ (e : Entry). e.outs) (sym legal.1) ∙ (accepted_link o.who (digest o h) u p legal.0).outs) in cc (told, no))
idle_by o up (Event.Arrive from (PeerRecord.OpenAssoc x u)) rec outs h p legal idle told = absurd (let no : told_committed outs ≡ false = ap told_committed (ap (λ (e : Entry). e.outs) (sym legal.1)) in cc (told, no))
idle_by o up (Event.Arrive from (PeerRecord.AcceptAssoc x y u)) rec outs h p legal idle told = go (from.node == p) refl
  where
    go : (b : Bool) → (from.node == p) ≡ b → (if not b then Idle else Live x y 0 0) ≡ Idle
    go false i = refl
    go true i = let at : from.node ≡ p = grind (arith, nat_tests, i) in absurd ((confirmed_link o.who (digest o h) from x y u p legal.0).was (ap (link_with (digest o h).arcs) at ∙ idle))
idle_by o up (Event.Arrive from (PeerRecord.OnAssoc x y q r)) rec outs h p legal idle told = go (from.node == p) (is_record is_abort (Some r) || is_record is_end_dialogue (acting_from o p (the from x y q r) h) || is_record is_left_end (acting_from o p (the from x y q r) h))
  where
    go : (b c : Bool) → (if not b then Idle else if c then Idle else Idle) ≡ Idle
    go true true = refl
    go true false = refl
    go false c = refl
idle_by o up _ rec outs h p legal idle told = grind arith

pub aside_link : (o : Origin) (up : Option Addr) (v : Event) (rec : Option LogRec) (outs : List Out) (h : List Entry) (p : ℕ) → IsGrown o up (record { event = v; rec = rec; outs = outs } ∷ h) → IsLinkKnown o h → closes_at v p ≡ false → is_unchanged v ≡ false → ((c : Current) → (prelude o.who (digest o h) v).current ≡ Some c → (is_under_at c.key p || has_branch_at c.branches p) ≡ was_branch o p h)
    → link_with (action o.who (digest o h) v).next.arcs p ≡ link_in o p (record { event = v; rec = rec; outs = outs } ∷ h)
aside_link o up v rec outs h p legal known off stays is = go (is_live_with_peer d.arcs p) refl ∙ sym (link_asks o p e h known)
  where
    d : Digest
    d = digest o h

    s : Digest
    s = prelude o.who d v

    m : Move
    m = action o.who d v

    e : Entry
    e = record { event = v; rec = rec; outs = outs }

    branch : Bool
    branch = was_branch o p h

    said : m.outs ≡ outs
    said = ap (λ (x : Entry). x.outs) legal.1

    over : IsOver p (branch && is_end_deferred_at s.arcs p) s m
    over = step_move o.who d v (IsOver p (branch && is_end_deferred_at s.arcs p)) (over_steps o.who v s p branch is off stays) (late_law o up h legal.3) legal.0

    first : link_with s.arcs p ≡ link_by o p e h (link_with d.arcs p)
    first = link_first o up v rec outs h p legal off

    moved : link_with m.next.arcs p ≡ over_link ((branch && is_end_deferred_at s.arcs p) && told_committed outs) (count_to p outs) (link_by o p e h (link_with d.arcs p))
    moved = over ∙ joined (told_committed m.outs) (told_committed outs) (count_to p m.outs) (count_to p outs) (link_with s.arcs p) (link_by o p e h (link_with d.arcs p)) (ap told_committed said) (ap (count_to p) said) first
      where
        joined : (x y : Bool) (n k : ℕ) (l j : Link) → x ≡ y → n ≡ k → l ≡ j → over_link ((branch && is_end_deferred_at s.arcs p) && x) n l ≡ over_link ((branch && is_end_deferred_at s.arcs p) && y) k j
        joined x y n k l j a b c = rw (a, b, c) refl

    closes : closes_by_deferral o p e h ≡ ((branch && is_end_deferred (deferral_in o p h)) && told_committed outs)
    closes = rw (stays, committed_tells outs) (alg branch (is_end_deferred (deferral_in o p h)) (told_committed outs) (is_up o p h))
      where
        alg : (b f c u : Bool) → (b && f && (c || (false && u))) ≡ ((b && f) && c)
        alg b f c u = grind arith

    idle_over : (b : Bool) (n : ℕ) → over_link b n Idle ≡ Idle
    idle_over true n = refl
    idle_over false n = refl

    -- on a link that is not live nothing is deferred; by the question, it may be on one that has become idle
    dead : is_live_with_peer d.arcs p ≡ false → (b : Bool) → closes_by_deferral o p e h ≡ b → over_link ((branch && is_end_deferred_at s.arcs p) && told_committed outs) (count_to p outs) (link_by o p e h (link_with d.arcs p)) ≡ (if b then Idle else sent_more (count_to p outs) (link_by o p e h (link_with d.arcs p)))
    dead i true j =
        let all = three branch (is_end_deferred (deferral_in o p h)) (told_committed outs) (sym closes ∙ j) in
        let idle : link_with d.arcs p ≡ Idle = stale_idle o up h p legal.3 i all.0 in
        ap (over_link ((branch && is_end_deferred_at s.arcs p) && told_committed outs) (count_to p outs)) (ap (link_by o p e h) idle ∙ idle_by o up v rec outs h p legal idle all.1) ∙ idle_over _ (count_to p outs)
      where
        three : (x y z : Bool) → ((x && y) && z) ≡ true → (y ≡ true) × (z ≡ true)
        three x y z h = (grind (arith, h), grind (arith, h))
    dead i false j = rw (off_first o up v h p legal.3 legal.0 i) (none branch (told_committed outs))
      where
        none : (x y : Bool) → over_link ((x && false) && y) (count_to p outs) (link_by o p e h (link_with d.arcs p)) ≡ sent_more (count_to p outs) (link_by o p e h (link_with d.arcs p))
        none true y = refl
        none false y = refl

    alive : is_live_with_peer d.arcs p ≡ true → (is_live_with_peer s.arcs p ≡ true) ⊎ (link_with s.arcs p ≡ Idle) → over_link ((branch && is_end_deferred_at s.arcs p) && told_committed outs) (count_to p outs) (link_by o p e h (link_with d.arcs p)) ≡ (if closes_by_deferral o p e h then Idle else sent_more (count_to p outs) (link_by o p e h (link_with d.arcs p)))
    alive i (inl live) = ap (λ (b : Bool). over_link b (count_to p outs) (link_by o p e h (link_with d.arcs p))) (ap (λ (b : Bool). (branch && b) && told_committed outs) (end_first o up v h p legal.3 legal.0 i live ∙ sym (end_is o up h p legal.3 i)) ∙ sym closes)
    alive i (inr idle) =
        let by : link_by o p e h (link_with d.arcs p) ≡ Idle = sym first ∙ idle in
        ap (over_link _ (count_to p outs)) by ∙ idle_over _ (count_to p outs) ∙ sym (ap (over_link (closes_by_deferral o p e h) (count_to p outs)) by ∙ idle_over (closes_by_deferral o p e h) (count_to p outs))

    go : (b : Bool) → is_live_with_peer d.arcs p ≡ b → link_with m.next.arcs p ≡ (if closes_by_deferral o p e h then Idle else sent_more (count_to p outs) (link_by o p e h (link_with d.arcs p)))
    go true i = moved ∙ alive i (live_first o.who d v p legal.0 i)
    go false i = moved ∙ dead i (closes_by_deferral o p e h) refl
