-- A branch that is given up: its association is shut where it is live, and nothing else shuts one.
use Rattle.tp_history_state.proofs.Vocabulary.{if◌then◌else◌, ◌≡◌, ℕ, Bool, true, false, refl, ap, sym, ◌∙◌, arith, Option, Some, None, List, [], ◌∷◌, ◌++◌, ◌&&◌, ◌||◌, ◌==◌, not, nat_tests, Aaid, Report, DialogueRecord, PeerRecord, TxEvent, TxOut, Who, Event, Out, Link, Idle, Arc, Root, Branch, Current, Digest, is_live_with_peer, carried_on, carried, performed_one, performed, Row, Transaction, Turn, turn, and_then, aaid_of, find_row, row_holds, with_row, forgets, done_up, ends_down, end_up, complete_commit, transacted, refused_tx, Move, next_mark, with_mark_drawn, is_end_deferred_at, seen, seen_rows, begin_on, begin_each, chained_peers, begin_chained, start_root, try_start, fresh_current, committed_arcs, grants, Passage, Commits, played, refusal, verdict, shuts_to, and_left, and_right, plain_give_up, find_arc_is, around_grants, IsWhole}
use Rattle.tp_history_state.proofs.lemmas.Begins.{begin_word, begin_arcs, begins_so}

-- ---- the branch

-- the branch that may be given up, as the transaction sees it
pub record IsGivenUp (who : Who) (d : Digest) (c : Current) (p : ℕ) : Type 0 where
  pub row : Row
  pub found : find_row (seen_rows d.arcs c.branches) p ≡ Some row
  pub live : row.live ≡ is_live_with_peer d.arcs p
  pub ends : row.ends ≡ is_end_deferred_at d.arcs p

found_seen : (arcs : List Arc) (bs : List Branch) (p : ℕ) (r : Row) → find_row (seen_rows arcs bs) p ≡ Some r → (r.live ≡ (is_live_with_peer arcs p && not (r.branch.ended || r.branch.left))) × (r.ends ≡ is_end_deferred_at arcs p)
found_seen arcs [] p r h = absurd cc
found_seen arcs (b ∷ bs) p r h = go (b.peer.node == p) refl (found_seen arcs bs p r)
  where
    go : (v : Bool) → (b.peer.node == p) ≡ v → (find_row (seen_rows arcs bs) p ≡ Some r → (r.live ≡ (is_live_with_peer arcs p && not (r.branch.ended || r.branch.left))) × (r.ends ≡ is_end_deferred_at arcs p))
        → (r.live ≡ (is_live_with_peer arcs p && not (r.branch.ended || r.branch.left))) × (r.ends ≡ is_end_deferred_at arcs p)
    go false i rest = rest (rw i at h)
    go true i rest =
        let at : b.peer.node ≡ p = grind (arith, nat_tests, i) in
        let w : Row = record { branch = b; live = is_live_with_peer arcs b.peer.node && not (b.ended || b.left); ends = is_end_deferred_at arcs b.peer.node } in
        let same : w ≡ r = cc (rw i at h) in (
          ap (λ (v : Row). v.live) (sym same) ∙ ap (λ (n : ℕ). is_live_with_peer arcs n && not (b.ended || b.left)) at ∙ ap (λ (v : Row). is_live_with_peer arcs p && not (v.branch.ended || v.branch.left)) same,
          ap (λ (v : Row). v.ends) (sym same) ∙ ap (is_end_deferred_at arcs) at,
        )

may_so : (t : Transaction) (p : ℕ) → refused_tx (TxEvent.GiveUp p) t ≡ None → row_holds t.rows p (λ b. not b.ended && not b.left && not b.given_up) ≡ true
unfolding refused_tx
may_so t p ok = grind (arith, ok)

pub no_give_up : (who : Who) (d : Digest) (p : ℕ) → refusal who d (Event.GiveUp p) ≡ None → d.current ≡ None → ⊥
unfolding refusal verdict
no_give_up who d p ok none = absurd (grind (arith, ok, none))

pub given_up : (who : Who) (d : Digest) (c : Current) (p : ℕ) → refusal who d (Event.GiveUp p) ≡ None → d.current ≡ Some c → IsGivenUp who d c p
given_up who d c p ok now = go (find_row (seen_rows d.arcs c.branches) p) refl
  where
    holds : row_holds (seen_rows d.arcs c.branches) p (λ b. not b.ended && not b.left && not b.given_up) ≡ true
    holds = may_so (seen who d.arcs c) p (plain_give_up who d p c ok now)

    open_row : (x y z u : Bool) → (not x && not y && z) ≡ true → (u && not (x || y)) ≡ u
    open_row x y z u h = grind (arith, h)

    go : (o : Option Row) → find_row (seen_rows d.arcs c.branches) p ≡ o → IsGivenUp who d c p
    go None i = absurd (cc (ap (λ (o : Option Row). elim o as (λ _. Bool) [ None ↦ false | Some r ↦ not r.branch.ended && not r.branch.left && not r.branch.given_up ]) (sym i) ∙ holds))
    go (Some r) i =
        let k = found_seen d.arcs c.branches p r i in
        let it : (not r.branch.ended && not r.branch.left && not r.branch.given_up) ≡ true = ap (λ (o : Option Row). elim o as (λ _. Bool) [ None ↦ false | Some r ↦ not r.branch.ended && not r.branch.left && not r.branch.given_up ]) (sym i) ∙ holds in
        record { row = r; found = i; live = k.0 ∙ open_row r.branch.ended r.branch.left (not r.branch.given_up) (is_live_with_peer d.arcs p) it; ends = k.1 }

abbrev pub given_row : Row → Row
given_row q = record q { branch = record q.branch { given_up = true }; live = false; ends = false }

-- what giving it up asks for
pub given_outs : (t : Transaction) (p : ℕ) (r : Row) → find_row t.rows p ≡ Some r → (transacted (TxEvent.GiveUp p) t).outs ≡ (if r.live then TxOut.Shut p ∷ [] else []) ++ (complete_commit (with_row t p given_row)).outs
given_outs t p r h = ap (λ (o : Option Row). (elim o as (λ _. Turn) [ None ↦ turn [] t | Some w ↦ and_then (turn (if w.live then TxOut.Shut p ∷ [] else []) (with_row t p given_row)) complete_commit ]).outs) h

-- and where its association is live
pub given_turn : (t : Transaction) (p : ℕ) (r : Row) → find_row t.rows p ≡ Some r → r.live ≡ true → transacted (TxEvent.GiveUp p) t ≡ and_then (turn (TxOut.Shut p ∷ []) (with_row t p given_row)) complete_commit
given_turn t p r h live = ap found h ∙ ap shut live
  where
    shut : Bool → Turn
    shut b = and_then (turn (if b then TxOut.Shut p ∷ [] else []) (with_row t p given_row)) complete_commit

    found : Option Row → Turn
    found o = elim o as (λ _. Turn) [ None ↦ turn [] t | Some w ↦ shut w.live ]

-- ---- outputs that shut an association with the peer

pub shuts_to_append : (p : ℕ) (xs ys : List Out) → shuts_to p (xs ++ ys) ≡ (shuts_to p xs || shuts_to p ys)
shuts_to_append p [] ys = refl
shuts_to_append p (Out.Tell i ∷ xs) ys = shuts_to_append p xs ys
shuts_to_append p (Out.Send a (PeerRecord.ShutAssoc x y) ∷ xs) ys = let rest = shuts_to_append p xs ys in grind (arith, rest)
shuts_to_append p (Out.Send a r ∷ xs) ys = let rest = shuts_to_append p xs ys in grind (arith, rest)

abbrev is_shut : PeerRecord → Bool
is_shut (PeerRecord.ShutAssoc x y) = true
is_shut _ = false

abbrev keeps_shut : ℕ → TxOut → Bool
keeps_shut p (TxOut.Tell i) = true
keeps_shut p (TxOut.Carry q r) = true
keeps_shut p (TxOut.Shut q) = not (q == p)
keeps_shut p (TxOut.Recovery a r) = not (is_shut r)
keeps_shut p (TxOut.Close q) = true

abbrev pub keep_shut : ℕ → List TxOut → Bool
keep_shut p [] = true
keep_shut p (o ∷ outs) = keeps_shut p o && keep_shut p outs

keep_append : (p : ℕ) (xs ys : List TxOut) → keep_shut p (xs ++ ys) ≡ (keep_shut p xs && keep_shut p ys)
keep_append p [] ys = refl
keep_append p (x ∷ xs) ys = grind (arith, keep_append p xs ys)

unshut_carried : (p : ℕ) (arcs : List Arc) (q : ℕ) (r : DialogueRecord) → shuts_to p (carried arcs q r).1 ≡ false
unshut_carried p [] q r = refl
unshut_carried p (a ∷ arcs) q r = go (a.peer.node == q) (unshut_carried p arcs q r)
  where
    on : (l : Link) → shuts_to p (carried_on (record a { link = l }) r).1 ≡ false
    on Idle = refl
    on _ = refl

    go : (b : Bool) → shuts_to p (carried arcs q r).1 ≡ false → shuts_to p (if◌then◌else◌ {A = List Arc × List Out} b (let s = carried_on a r in (s.0 ∷ arcs, s.1)) (let s = carried arcs q r in (a ∷ s.0, s.1))).1 ≡ false
    go true rest = on a.link
    go false rest = rest

unshut_one : (p : ℕ) (arcs : List Arc) (o : TxOut) → keeps_shut p o ≡ true → shuts_to p (performed_one arcs o).1 ≡ false
unshut_one p arcs o h1 = grind (arith, nat_tests, find_arc_is, unshut_carried)

unshut_performed : (p : ℕ) (arcs : List Arc) (outs : List TxOut) → keep_shut p outs ≡ true → shuts_to p (performed arcs outs).1 ≡ false
unshut_performed p arcs [] h = refl
unshut_performed p arcs (o ∷ outs) h =
    let next : List Arc = (performed_one arcs o).0 in
    shuts_to_append p (performed_one arcs o).1 (performed next outs).1
    ∙ rw (unshut_one p arcs o (and_left (keeps_shut p o) (keep_shut p outs) h), unshut_performed p next outs (and_right (keeps_shut p o) (keep_shut p outs) h)) refl

keep_grants : (p : ℕ) (t : Transaction) (arcs : List Arc) → keep_shut p (grants t arcs) ≡ true
keep_grants p t [] = refl
keep_grants p t (a ∷ arcs) = grind (arith, keep_grants p t arcs)

pub unshut_played : (d : Digest) (t : Transaction) (w : Passage) (asks : Turn) → IsWhole asks → (arcs : List Arc) (p : ℕ) → keep_shut p asks.outs ≡ true → shuts_to p (played d t w asks arcs).1 ≡ false
unfolding played
unshut_played d t Commits asks whole arcs p h =
    let s = around_grants asks in
    let both : (keep_shut p s.0 && keep_shut p s.1) ≡ true = sym (keep_append p s.0 s.1) ∙ ap (keep_shut p) whole ∙ h in
    let one = performed arcs s.0 in
    let two = performed (committed_arcs d t one.0) (grants t one.0) in
    let three = performed two.0 s.1 in
    shuts_to_append p (one.1 ++ two.1) three.1
    ∙ rw (shuts_to_append p one.1 two.1, unshut_performed p arcs s.0 (and_left (keep_shut p s.0) (keep_shut p s.1) both), unshut_performed p (committed_arcs d t one.0) (grants t one.0) (keep_grants p t one.0), unshut_performed p two.0 s.1 (and_right (keep_shut p s.0) (keep_shut p s.1) both)) refl
unshut_played d t _ asks whole arcs p h = unshut_performed p arcs asks.outs h

keep_forgets : (p : ℕ) (a : Aaid) (rows : List Row) → keep_shut p (forgets a rows) ≡ true
keep_forgets p a [] = refl
keep_forgets p a (w ∷ rows) = grind (arith, keep_forgets p a rows)

keep_ends : (p : ℕ) (rows : List Row) → keep_shut p (ends_down rows) ≡ true
keep_ends p [] = refl
keep_ends p (w ∷ rows) = grind (arith, keep_ends p rows)

-- the completion of a commitment shuts none
pub keep_commit : (p : ℕ) (t : Transaction) → keep_shut p (complete_commit t).outs ≡ true
unfolding complete_commit
keep_commit p t =
    let f = keep_forgets p (aaid_of t.key) t.rows in
    let e = keep_ends p t.rows in
    let u : keep_shut p (end_up t) ≡ true = grind arith in
    let d : (r : Report) → keep_shut p (done_up t r) ≡ true = λ r. grind arith in
    grind (arith, keep_append, f, e, u, d)

-- nor does a start
unshut_begin : (who : Who) (p q : ℕ) (d : Digest) → shuts_to p (begin_on who q d).outs ≡ false
unshut_begin who p q d = begins_so (λ m. shuts_to p m.outs ≡ false) who q d refl (λ c i a found may. unshut_performed p (begin_arcs q d a) (TxOut.Carry q (begin_word who d c a) ∷ []) refl)

unshut_each : (who : Who) (p : ℕ) (qs : List ℕ) (d : Digest) → shuts_to p (begin_each who qs d).outs ≡ false
unshut_each who p [] d = refl
unshut_each who p (q ∷ qs) d =
    let a : Move = begin_on who q d in
    shuts_to_append p a.outs (begin_each who qs a.next).outs ∙ rw (unshut_begin who p q d, unshut_each who p qs a.next) refl

unshut_root : (who : Who) (p : ℕ) (named : List ℕ) (d : Digest) → shuts_to p (start_root who named d).outs ≡ false
unfolding start_root
unshut_root who p named d =
    let g : Digest = record (with_mark_drawn d) { current = Some (fresh_current (Root (record { owner = who.site; mark = next_mark who d }))) } in
    let a : Move = begin_each who named g in
    shuts_to_append p a.outs (begin_chained who a.next).outs ∙ rw (unshut_each who p named g, unshut_each who p (chained_peers who a.next) a.next) refl

pub unshut_start : (who : Who) (p : ℕ) (d : Digest) → shuts_to p (try_start who d).outs ≡ false
unfolding try_start
unshut_start who p d = grind (arith, unshut_root)

-- ---- a live association is shut

first_shut : (p : ℕ) (arcs : List Arc) (outs : List TxOut) → is_live_with_peer arcs p ≡ true → shuts_to p (performed arcs (TxOut.Shut p ∷ outs)).1 ≡ true
first_shut p arcs outs live = grind (arith, nat_tests, find_arc_is, shuts_to_append)

pub shut_played : (d : Digest) (t u : Transaction) (w : Passage) (f : Transaction → Turn) (arcs : List Arc) (p : ℕ) → is_live_with_peer arcs p ≡ true → shuts_to p (played d t w (and_then (turn (TxOut.Shut p ∷ []) u) f) arcs).1 ≡ true
unfolding played
shut_played d t u Commits f arcs p live =
    let s = around_grants (and_then (turn (TxOut.Shut p ∷ []) u) f) in
    let c = (f u).completion in
    let one = performed arcs s.0 in
    let two = performed (committed_arcs d t one.0) (grants t one.0) in
    let three = performed two.0 s.1 in
    shuts_to_append p (one.1 ++ two.1) three.1 ∙ rw (shuts_to_append p one.1 two.1, first_shut p arcs (c.before ++ c.forgets ++ c.done) live) refl
shut_played d t u _ f arcs p live = first_shut p arcs (f u).outs live
