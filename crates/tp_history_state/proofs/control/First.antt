-- Control on the arc with a peer after what comes first in an event: as it was, or a link that becomes live has the superior
-- side hold it.
use Rattle.tp_history_state.proofs.Vocabulary.{Bool, List, None, Option, Some, [], ap, arith, false, if◌then◌else◌, inl, inr, not, refl, sym, true, ℕ, ◌&&◌, ◌++◌, ◌==◌, ◌∙◌, ◌∷◌, ◌≡◌, ◌⊎◌, nat_tests, Addr, Mark, has_bit, DialogueRecord, PeerRecord, Request, is_late, is_nil, is_polarized, is_superior_side, first, fresh_dialogue, Link, Opening, Offered, Live, Who, Event, Digest, Arc, Current, Under, refusal, verdict, after_crash, refused_request, has_branch_at, refused_arrival, next_mark, superior_arc, phase_of, fresh_current, find_arc, link_of, link_with, is_live_with_peer, put_arc, with_link, Side, is_at, is_live, with_one_taken, IsLate, prelude, called, accepted_by, accepted_on, linked, counted_in, begun_in, find_arc_is, keeps_append, keeps_front, keeps_taken, plain_request, superior_found, nothing_late}
use Rattle.tp_histories.specs.Traces.{own_old}
use Rattle.tp_history_state.proofs.control.Moves.{IsBareAt, IsPast}
use Rattle.tp_history_state.proofs.control.Arcs.{Same, control_at, control_from, control_of, held, is_ruled, ruled_live, ruled_of, same_keeps, same_self, same_taken, waits}
use Rattle.tp_runs.proofs.AtPeer.{find_put}
use Rattle.tp_model.specs.declared.refusal.Refusal.{Refusal}

abbrev pub side_with : Option Addr → ℕ → Side
side_with up p = if is_at up p then Side.Subordinate else Side.Superior

-- from d on to s
pub record First (up : Option Addr) (p : ℕ) (d s : Digest) : Type 0 where
  pub control : is_ruled p s.arcs ≡ true
      → ((is_live_with_peer d.arcs p ≡ true) × (is_ruled p d.arcs ≡ true) × (control_at p s.arcs ≡ control_at p d.arcs))
      ⊎ ((is_live_with_peer d.arcs p ≡ false) × (control_at p s.arcs ≡ (is_superior_side (side_with up p), false)))
  pub past : IsPast up p s
  pub bare : IsBareAt up p s

-- what is known, and of whom a link tells
pub record Before (who : Who) (up : Option Addr) (p : ℕ) (d : Digest) : Type 0 where
  pub late : IsLate d
  pub past : IsPast up p d
  pub bare : IsBareAt up p d
  pub own : (q : ℕ) → own_old who d up q (link_with d.arcs q) ≡ true
  pub under : (a : Addr) → d.superior ≡ Some a → up ≡ Some a

first_same : (who : Who) (up : Option Addr) (p : ℕ) (d s : Digest) → Before who up p d → s.current ≡ d.current → Same p d.arcs s.arcs → (is_live_with_peer s.arcs p ≡ true → is_live_with_peer d.arcs p ≡ true) → First up p d s
first_same who up p d s was now same live = record {
  control = λ h. let k = same h in inl (ruled_live p d.arcs k.0, k.0, k.1);
  past = λ top c is under late h. let k = same h in k.1 ∙ was.past top c (sym now ∙ is) under late k.0;
  bare = λ top c is l. was.bare top c (sym now ∙ is) (live l);
}

same_append : (p : ℕ) (arcs : List Arc) (a : Arc) → is_live a.link ≡ false → Same p arcs (arcs ++ a ∷ [])
same_append p arcs a off = same_keeps p arcs (arcs ++ a ∷ []) (keeps_append is_polarized p arcs a off) (keeps_append held p arcs a off) (keeps_append waits p arcs a off)

same_front : (p : ℕ) (arcs : List Arc) (a : Arc) → is_live a.link ≡ false → Same p arcs (a ∷ arcs)
same_front p arcs a off = same_keeps p arcs (a ∷ arcs) (keeps_front is_polarized p arcs a off) (keeps_front held p arcs a off) (keeps_front waits p arcs a off)

-- the link with a peer becomes live
first_put : (who : Who) (up : Option Addr) (p : ℕ) (d s : Digest) (a : Arc) (x y : Mark) (u : ℕ) (side : Side) → Before who up p d → s.current ≡ d.current → s.arcs ≡ put_arc d.arcs (record a { link = Live x y 0 0; dialogue = fresh_dialogue u side })
    → find_arc d.arcs a.peer.node ≡ Some a → is_live a.link ≡ false → (a.peer.node ≡ p → side ≡ side_with up p) → (a.peer.node ≡ p → is_at up p ≡ true → d.current ≡ None) → First up p d s
first_put who up p d s a x y u side was now arcs found dead sided alone = go (a.peer.node == p) refl
  where
    b : Arc
    b = record a { link = Live x y 0 0; dialogue = fresh_dialogue u side }

    is : find_arc s.arcs p ≡ (if a.peer.node == p then Some b else find_arc d.arcs p)
    is = ap (λ (xs : List Arc). find_arc xs p) arcs ∙ find_put d.arcs a b p found

    go : (v : Bool) → (a.peer.node == p) ≡ v → First up p d s
    go false i =
        let same : find_arc s.arcs p ≡ find_arc d.arcs p = is ∙ rw i refl in
        first_same who up p d s was now (λ h. (sym (ap ruled_of same) ∙ h, ap control_of same)) (λ h. sym (ap (λ (o : Option Arc). is_live (link_of o)) same) ∙ h)
    go true i = record {
      control = λ h. inr (ap (λ (o : Option Arc). is_live (link_of o)) was_arc ∙ dead, ap control_of new ∙ fresh side (has (sym (ap ruled_of new) ∙ h)) ∙ ap (λ (z : Side). (is_superior_side z, false)) (sided at));
      past = λ top c is under late h. absurd (let none : d.current ≡ None = alone at top in let some : d.current ≡ Some c = sym now ∙ is in let no : None ≡ Some c = sym none ∙ some in cc (no));
      bare = λ top c is l. absurd (let none : d.current ≡ None = alone at top in let some : d.current ≡ Some c = sym now ∙ is in let no : None ≡ Some c = sym none ∙ some in cc (no));
    }
      where
        at : a.peer.node ≡ p
        at = grind (arith, nat_tests, i)

        was_arc : find_arc d.arcs p ≡ Some a
        was_arc = ap (find_arc d.arcs) (sym at) ∙ found

        new : find_arc s.arcs p ≡ Some b
        new = is ∙ rw i refl

        has : ruled_of (Some b) ≡ true → has_bit u 2 ≡ true
        has h = h

        fresh : (z : Side) → has_bit u 2 ≡ true → control_from (fresh_dialogue u z) ≡ (is_superior_side z, false)
        fresh z h = rw h refl

accept_nil : (who : Who) (d : Digest) (u : ℕ) → refusal who d (Event.Do (Request.Accept u)) ≡ None → is_nil (phase_of d) ≡ true
unfolding refused_request
accept_nil who d u ok = third _ _ (is_nil (phase_of d)) Refusal.NoDialogue Refusal.UnitAbsent Refusal.TransactionOpen (plain_request who d (Request.Accept u) ok)
  where
    third : (a b c : Bool) (k l n : Refusal) → first ((a, k) ∷ (b, l) ∷ (not c, n) ∷ []) ≡ None → c ≡ true
    third false false true k l n h = refl
    third _ _ _ k l n h = absurd (cc (h))

first_accept : (who : Who) (up : Option Addr) (p : ℕ) (d : Digest) (u : ℕ) → Before who up p d → refusal who d (Event.Do (Request.Accept u)) ≡ None → First up p d (accepted_by who u (superior_arc d) d)
first_accept who up p d u was ok = go (superior_arc d) refl
  where
    still : First up p d d
    still = first_same who up p d d was refl (same_self p d.arcs) (λ h. h)

    on : (a : Arc) → superior_arc d ≡ Some a → (l : Link) → a.link ≡ l → First up p d (accepted_on who u a l d)
    on a i (Offered x) j =
        let s = superior_found d a i in
        let at : a.peer.node ≡ s.0.node = find_arc_is d.arcs s.0.node a s.2 in
        let top : is_at up s.0.node ≡ true = ap (λ (o : Option Addr). is_at o s.0.node) (was.under s.0 s.1) ∙ self s.0.node in
        first_put who up p d (accepted_on who u a (Offered x) d) a x (next_mark who d) u Side.Subordinate was refl refl (ap (find_arc d.arcs) at ∙ s.2) (ap is_live j)
        (λ here. let on : is_at up p ≡ true = ap (is_at up) (sym here ∙ at) ∙ top in rw on refl)
        (λ here above. nothing_late d was.late (accept_nil who d u ok))
      where
        self : (n : ℕ) → (n == n) ≡ true
        self n = grind (arith, nat_tests)
    on a i _ j = still

    go : (o : Option Arc) → superior_arc d ≡ o → First up p d (accepted_by who u o d)
    go None i = still
    go (Some a) i = on a i a.link refl

first_confirm : (who : Who) (up : Option Addr) (p : ℕ) (d : Digest) (from : Addr) (x y : Mark) (u : ℕ) → Before who up p d → refusal who d (Event.Arrive from (PeerRecord.AcceptAssoc x y u)) ≡ None → First up p d (linked (find_arc d.arcs from.node) x y u d)
unfolding refusal verdict refused_arrival
first_confirm who up p d from x y u was ok = go (find_arc d.arcs from.node) refl
  where
    opening : (a : Arc) (l : Link) → find_arc d.arcs from.node ≡ Some a → a.link ≡ l → (z : Mark) × (a.link ≡ Opening z)
    opening a (Opening z) i j = (z, j)
    opening a _ i j = absurd (grind (arith, ok, i, j))

    go : (o : Option Arc) → find_arc d.arcs from.node ≡ o → First up p d (linked o x y u d)
    go None i = first_same who up p d d was refl (same_self p d.arcs) (λ h. h)
    go (Some a) i =
        let at : a.peer.node ≡ from.node = find_arc_is d.arcs from.node a i in
        let z = opening a a.link i refl in
        let open_link : link_with d.arcs from.node ≡ Opening z.0 = ap link_of i ∙ z.1 in
        let own : own_old who d up from.node (Opening z.0) ≡ true = ap (own_old who d up from.node) (sym open_link) ∙ was.own from.node in
        let down : is_at up from.node ≡ false = below (is_at up from.node) _ own in
        first_put who up p d (linked (Some a) x y u d) a x y u Side.Superior was refl refl (ap (find_arc d.arcs) at ∙ i) (ap is_live z.1)
        (λ here. let off : is_at up p ≡ false = ap (is_at up) (sym here ∙ at) ∙ down in rw off refl)
        (λ here above. absurd (let off : is_at up p ≡ false = ap (is_at up) (sym here ∙ at) ∙ down in cc (above, off)))
      where
        below : (b c : Bool) → (c && not b) ≡ true → b ≡ false
        below true true h = absurd (cc (h))
        below true false h = absurd (cc (h))
        below false c h = refl

pub first_control : (who : Who) (up : Option Addr) (p : ℕ) (d : Digest) (e : Event) → Before who up p d → refusal who d e ≡ None → First up p d (prelude who d e)
unfolding after_crash
first_control who up p d (Event.Do (Request.BeginDialogue a u)) was ok =
    let new : Arc = record { peer = a; link = Opening (next_mark who d); dialogue = fresh_dialogue u Side.Superior } in
    first_same who up p d (called who a u d) was refl (same_append p d.arcs new refl) (λ h. (keeps_append is_polarized p d.arcs new refl h).0)
first_control who up p d (Event.Do (Request.Accept u)) was ok = first_accept who up p d u was ok
first_control who up p d (Event.Do r) was ok = first_same who up p d d was refl (same_self p d.arcs) (λ h. h)
first_control who up p d (Event.Arrive from (PeerRecord.OpenAssoc x u)) was ok =
    let new : Arc = record { peer = from; link = Offered x; dialogue = fresh_dialogue u Side.Subordinate } in
    first_same who up p d (record d { arcs = new ∷ d.arcs }) was refl (same_front p d.arcs new refl) (λ h. (keeps_front is_polarized p d.arcs new refl h).0)
first_control who up p d (Event.Arrive from (PeerRecord.AcceptAssoc x y u)) was ok = first_confirm who up p d from x y u was ok
first_control who up p d (Event.Arrive from (PeerRecord.OnAssoc x y q (DialogueRecord.Begin t b h))) was ok = go (find_arc d.arcs from.node)
  where
    xs : List Arc
    xs = with_link d.arcs from.node with_one_taken

    go : (o : Option Arc) → First up p d (begun_in o t b (counted_in d from))
    go None = first_same who up p d (counted_in d from) was refl (same_taken p d.arcs from.node) (λ l. (keeps_taken is_polarized p d.arcs from.node l).0)
    go (Some a) = record {
      control = λ r. let k = same_taken p d.arcs from.node r in inl (ruled_live p d.arcs k.0, k.0, k.1);
      past = λ top c is under late r. let same : fresh_current (Under t b a.peer) ≡ c = cc (is) in absurd (let off : is_late c.phase ≡ false = ap (λ (z : Current). is_late z.phase) (sym same) in cc (late, off));
      bare = λ top c is l. let same : fresh_current (Under t b a.peer) ≡ c = cc (is) in ap (λ (z : Current). has_branch_at z.branches p) (sym same);
    }
first_control who up p d (Event.Arrive from (PeerRecord.OnAssoc x y q r)) was ok = first_same who up p d (counted_in d from) was refl (same_taken p d.arcs from.node) (λ l. (keeps_taken is_polarized p d.arcs from.node l).0)
first_control who up p d (Event.Declare s) was ok = record { control = λ h. inl (ruled_live p d.arcs h, h, refl); past = was.past; bare = was.bare }
first_control who up p d Event.Crash was ok = record { control = λ h. absurd (cc (h)); past = λ top c is under late h. absurd (cc (h)); bare = λ top c is l. absurd (cc (l)) }
first_control who up p d e was ok = first_same who up p d d was refl (same_self p d.arcs) (λ h. h)
