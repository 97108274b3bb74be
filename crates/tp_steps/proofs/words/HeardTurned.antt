-- What the node says of its transaction to a peer is what the transaction says.
use Rattle.std.proofs.Common.{◌≡◌, ◌≤◌, ◌+◌, ℕ, Bool, true, false, refl, ap, sym, subst, ◌∙◌, arith, Option, Some, None, List, [], ◌∷◌, ◌||◌, ◌==◌, not, slice_get}
use Rattle.std.proofs.lemmas.Bool.Decides.{nat_tests}
use Rattle.tp_names.specs.declared.identifiers.Aaid.{Aaid}
use Rattle.tp_names.specs.declared.identifiers.BranchId.{BranchId}
use Rattle.tp_records.specs.declared.dialogue.DialogueRecord.{DialogueRecord}
use Rattle.tp_model.specs.declared.transaction.TxEvent.{TxEvent}
use Rattle.tp_model.specs.Parts.{Who, Event, Idle, Arc, Key, Root, Under, Branch, Current, Digest}
use Rattle.tp_model.specs.Links.{is_live}
use Rattle.tp_model.specs.Dialogues.{is_nil}
use Rattle.tp_model.specs.Arcs.{link_with, is_live_with_peer}
use Rattle.tp_model.specs.Transactions.{Row, Transaction, Turn, aaid_of, is_under_at, find_row, transacted}
use Rattle.tp_model.specs.Node.{Move, seen_row, seen_rows, is_up_live, seen, branches_of, remaining, passage, Passage, is_leaving}
use Rattle.tp_steps.specs.Turns.{loses}
use Rattle.tp_model.specs.Node.{turned}
use Rattle.tp_steps.specs.Moves.{IsAsked, IsPut}
use Rattle.tp_steps.specs.Facts.{spoken, stays, ends_in, BranchKey, last_from, under_now, open_now, id_at, sees_row, sees, HasPlace, Knows, Facts, IsFair, find_branch, under_at, open_at, key_at, HasPlaceAt, KnowsAt, words_to, IsHeard, Reads}
use Rattle.tp_steps.proofs.links.Apart.{apart_turn}
use Rattle.tp_steps.proofs.lemmas.Words.{dead_spoken, dead_stays, none_last, none_begun}
use Rattle.tp_steps.proofs.words.Fair.{place_then}
use Rattle.tp_steps.proofs.words.FairTurns.{fair_turn}
use Rattle.tp_steps.proofs.links.Wrapped.{Agrees, agrees_played}
use Rattle.tp_steps.proofs.words.Hushed.{none_least}
use Rattle.tp_steps.proofs.links.Whole.{whole_turn}

-- ---- a transaction, as its node sees it

pub seen_find : (arcs : List Arc) (bs : List Branch) (p : ℕ) → find_row (seen_rows arcs bs) p ≡ elim (find_branch bs p) as (λ _. Option Row) [ None ↦ None | Some b ↦ Some (seen_row arcs b) ]
seen_find arcs [] p = refl
seen_find arcs (b ∷ bs) p = grind (arith, seen_find arcs bs p)

pub left_find : (rows : List Row) (p : ℕ) → find_branch (branches_of rows) p ≡ elim (find_row rows p) as (λ _. Option Branch) [ None ↦ None | Some r ↦ Some r.branch ]
left_find [] p = refl
left_find (r ∷ rows) p = grind (arith, left_find rows p)

pub branch_is : (bs : List Branch) (p : ℕ) (b : Branch) → find_branch bs p ≡ Some b → b.peer.node ≡ p
branch_is [] p b h = absurd cc
branch_is (x ∷ bs) p b h = grind (arith, nat_tests, branch_is bs p b)

pub open_seen : (who : Who) (arcs : List Arc) (c : Current) (p : ℕ) → open_now (seen who arcs c) p ≡ open_at (Some c) p
open_seen who arcs c p = let f = seen_find arcs c.branches p in grind (arith, f)

pub id_seen : (who : Who) (arcs : List Arc) (c : Current) (p : ℕ) (b : BranchId) → is_nil c.phase ≡ false → id_at (seen who arcs c) p ≡ Some b → key_at (Some c) p ≡ Some (aaid_of c.key, b)
id_seen who arcs c p b late h = go (find_branch c.branches p) refl
  where
    go : (o : Option Branch) → find_branch c.branches p ≡ o → key_at (Some c) p ≡ Some (aaid_of c.key, b)
    go None i = let f : find_row (seen_rows arcs c.branches) p ≡ None = seen_find arcs c.branches p ∙ rw i refl in absurd (cc (rw (f, id_at) at h))
    go (Some x) i =
        let f : find_row (seen_rows arcs c.branches) p ≡ Some (seen_row arcs x) = seen_find arcs c.branches p ∙ rw i refl in
        let one : Some x.id ≡ Some b = rw (f, id_at) at h in
        let same : x.id ≡ b = cc (one) in
        rw (late, i, key_at) (ap (λ (y : BranchId). Some (aaid_of c.key, y)) same)

pub under_left : (t : Transaction) (p : ℕ) → under_at (remaining t) p ≡ under_now t p
under_left t p = grind arith

pub open_left : (t : Transaction) (p : ℕ) → open_at (remaining t) p ≡ open_now t p
open_left t p = let f = left_find t.rows p in grind (arith, f)

pub key_left : (t : Transaction) (p : ℕ) (v : BranchKey) → key_at (remaining t) p ≡ Some v → (id_at t p ≡ Some v.1) × (v.0 ≡ aaid_of t.key)
key_left t p v h = go (is_nil t.phase) refl (find_row t.rows p) refl
  where
    go : (b : Bool) → is_nil t.phase ≡ b → (o : Option Row) → find_row t.rows p ≡ o → (id_at t p ≡ Some v.1) × (v.0 ≡ aaid_of t.key)
    go true i o j = let none : None ≡ Some v = rw (i, remaining) at h in absurd (cc (none))
    go false i None j =
        let f : find_branch (branches_of t.rows) p ≡ None = left_find t.rows p ∙ rw j refl in
        absurd (grind (arith, h, i, f))
    go false i (Some r) j =
        let f : find_branch (branches_of t.rows) p ≡ Some r.branch = left_find t.rows p ∙ rw j refl in
        let one : ◌≡◌ {A = Option BranchKey} (Some (aaid_of t.key, r.branch.id)) (Some v) = grind (arith, h, i, f) in
        let two : ◌≡◌ {A = BranchKey} (aaid_of t.key, r.branch.id) v = cc (one) in
        (rw (j, id_at) (ap (λ (u : BranchKey). Some u.1) two), sym (ap (λ (u : BranchKey). u.0) two))

-- where the peer is no branch it stays none
key_none : (who : Who) (arcs : List Arc) (c : Current) (u : Transaction) (p : ℕ) → is_nil c.phase ≡ false → id_at u p ≡ id_at (seen who arcs c) p → key_at (Some c) p ≡ None → key_at (remaining u) p ≡ None
key_none who arcs c u p late ids k = side (key_at (remaining u) p) refl
  where
    side : (o : Option BranchKey) → key_at (remaining u) p ≡ o → key_at (remaining u) p ≡ None
    side None z = z
    side (Some v) z =
        let left = key_left u p v z in
        absurd (cc (k, id_seen who arcs c p v.1 late (sym ids ∙ left.0)))

pub seen_sees : (who : Who) (arcs : List Arc) (c : Current) (p : ℕ) → is_live (link_with arcs p) ≡ true → sees (seen who arcs c) p ≡ true
seen_sees who arcs c p live = both_up (up_ok c.key) (row_ok (find_branch c.branches p) refl)
  where
    both_up : (not (is_under_at c.key p) || is_up_live arcs c.key) ≡ true → sees_row (find_row (seen_rows arcs c.branches) p) ≡ true → sees (seen who arcs c) p ≡ true
    both_up h i = rw (h, i, sees) refl

    up_ok : (k : Key) → (not (is_under_at k p) || is_up_live arcs k) ≡ true
    up_ok (Root t) = refl
    up_ok (Under t b a) = on (a.node == p) refl
      where
        on : (v : Bool) → (a.node == p) ≡ v → (not (a.node == p) || is_live_with_peer arcs a.node) ≡ true
        on false i = rw i refl
        on true i =
            let same : a.node ≡ p = grind (arith, nat_tests, i) in
            let l : is_live_with_peer arcs a.node ≡ true = ap (λ (n : ℕ). is_live (link_with arcs n)) same ∙ live in
            rw (i, l) refl

    row_ok : (o : Option Branch) → find_branch c.branches p ≡ o → sees_row (find_row (seen_rows arcs c.branches) p) ≡ true
    row_ok None i = ap sees_row (seen_find arcs c.branches p) ∙ rw i refl
    row_ok (Some b) i =
        let same : b.peer.node ≡ p = branch_is c.branches p b i in
        let l : is_live_with_peer arcs b.peer.node ≡ true = ap (λ (n : ℕ). is_live (link_with arcs n)) same ∙ live in
        ap sees_row (seen_find arcs c.branches p) ∙ rw i (grind (arith, l))

-- ---- an event of the transaction

pub heard_turned : (who : Who) (e : Event) (f : TxEvent) (d s : Digest) (c : Current) (p : ℕ) (sup fall : Bool) (shut : ℕ) → Reads who e p sup fall shut s → d.current ≡ Some c → s.current ≡ Some c → IsAsked e c f
    → IsPut f (seen who d.arcs c) → ((n : ℕ) → loses f n ≡ true → link_with d.arcs n ≡ Idle) → IsHeard p sup fall shut s d (turned who f d c)
heard_turned who e f d s c p sup fall shut reads now at asked put gone = go (is_live (link_with d.arcs p)) refl
  where
    t : Transaction
    t = seen who d.arcs c

    a : Turn
    a = transacted f t

    w : Passage
    w = passage (is_leaving f) t.phase a.next.phase

    m : Move
    m = turned who f d c

    agrees : Agrees p (is_live (link_with d.arcs p)) a.outs m.outs (is_live (link_with m.next.arcs p))
    agrees = agrees_played d t w a (whole_turn f t) d.arcs p (apart_turn f t put)

    fair : IsFair f t p t a
    fair = fair_turn f t p put

    late : is_nil c.phase ≡ false
    late = put.late

    kept : (b : Bool) → loses f p ≡ b → is_live (link_with d.arcs p) ≡ true → loses f p ≡ false
    kept false i l = i
    kept true i l = absurd (cc (l, ap is_live (gone p i)))

    open_before : open_at d.current p ≡ open_now t p
    open_before = ap (λ (o : Option Current). open_at o p) now ∙ sym (open_seen who d.arcs c p)

    under_before : under_at d.current p ≡ under_now t p
    under_before = ap (λ (o : Option Current). under_at o p) now

    knows_it : (k : Option BranchKey) → KnowsAt k d.current p → Knows k t p
    knows_it k kn b h = kn (aaid_of c.key, b) (ap (λ (o : Option Current). key_at o p) now ∙ id_seen who d.arcs c p b late h)

    place_it : (ks : List BranchKey) (n : ℕ) → HasPlaceAt ks n d.current p → HasPlace ks n t p
    place_it ks n h x y z l key u = h c x y z now l key u

    go : (b : Bool) → is_live (link_with d.arcs p) ≡ b → IsHeard p sup fall shut s d m
    go false i =
        let none : words_to p m.outs ≡ [] = agrees.words ∙ ap (λ (v : Bool). spoken v p a.outs) i ∙ dead_spoken p a.outs in
        let off : is_live (link_with m.next.arcs p) ≡ false = agrees.live ∙ ap (λ (v : Bool). stays v p a.outs) i ∙ dead_stays p a.outs in
        record {
          superior = refl;
          dead = λ h. none;
          back = λ h. absurd (cc (h, off));
          dead_rows = λ h k. key_none who d.arcs c a.next p late fair.same.ids (ap (λ (o : Option Current). key_at o p) (sym now) ∙ k);
          upward = λ h. rw none refl;
          balance = λ h. absurd (cc (h, off));
          places = λ ks n h. absurd (cc (h, off));
          opens = λ z h. absurd (cc (h, off));
          votes = λ ks rs n h. rw none refl;
          orders = λ k rs kn. rw none refl;
          knows = λ k h. absurd (cc (h, off));
          rollbacks = λ k g kn u v. rw none refl;
        }
    go true i =
        let x : Facts f t p t a = fair.facts (seen_sees who d.arcs c p i) (kept (loses f p) refl i) in
        let words : words_to p m.outs ≡ spoken true p a.outs = agrees.words ∙ ap (λ (v : Bool). spoken v p a.outs) i in
        let live : is_live (link_with m.next.arcs p) ≡ stays true p a.outs = agrees.live ∙ ap (λ (v : Bool). stays v p a.outs) i in
        let last : (k : Option BranchKey) → last_from k (words_to p m.outs) ≡ k = λ k. ap (last_from k) words ∙ none_last k (spoken true p a.outs) x.begins in
        record {
          superior = refl;
          dead = λ h. absurd (cc (h, i));
          back = λ h. i;
          dead_rows = λ h. absurd (cc (h, i));
          upward = λ h. rw words x.begins;
          balance = λ h. rw (words, under_before) (ap (λ (v : ℕ). ends_in (spoken true p a.outs) + v) (under_left a.next p) ∙ x.balance (sym live ∙ h));
          places = λ ks n h q. subst (λ (v : ℕ). HasPlaceAt ks v m.next.current p) (ap (λ (l : List DialogueRecord). ends_in l + n) (sym words)) (place_left ks (ends_in (spoken true p a.outs) + n) (place_next ks n (x.balance (sym live ∙ h)) (place_it ks n q)));
          opens = λ z h. rw (words, none_begun (spoken true p a.outs) x.begins) (none_least (open_at d.current p) (open_at m.next.current p) (opened (x.opens (reads.closes_so c f d.arcs at asked z) (sym live ∙ h))));
          votes = λ ks rs n h. rw words (x.votes ks rs n (place_it ks n h));
          orders = λ k rs kn. rw words (x.orders k rs (knows_it k kn));
          knows = λ k h kn v q.
              let left = key_left a.next p v q in
              let id : id_at t p ≡ Some v.1 = sym fair.same.ids ∙ left.0 in
              last k ∙ knows_it k kn v.1 id ∙ pair_of v (aaid_of c.key) (left.1 ∙ ap aaid_of fair.same.key);
          rollbacks = λ k g kn u v. rw words (x.rollbacks k g (knows_it k kn) (λ h. u (reads.under_superior c at h)) (λ h. v (reads.falls_so c f d.arcs at asked h) c at));
        }
      where
        pair_of : (v : BranchKey) (b : Aaid) → v.0 ≡ b → Some (b, v.1) ≡ Some v
        pair_of v b h = ap (λ (y : Aaid). Some (y, v.1)) (sym h)

        opened : open_now t p ≤ open_now a.next p → open_at d.current p ≤ open_at m.next.current p
        opened h = rw (open_before, open_left a.next p) h

        -- the key at its place, of what remains
        place_left : (ks : List BranchKey) (n : ℕ) → HasPlace ks n a.next p → HasPlaceAt ks n m.next.current p
        place_left ks n h y b z k is l key u = on (is_nil a.next.phase) refl
          where
            on : (v : Bool) → is_nil a.next.phase ≡ v → slice_get ks n ≡ Some (b, z)
            on true j = let none : None ≡ Some y = rw (j, remaining) at is in absurd (cc (none))
            on false j =
                let same_key : a.next.key ≡ y.key = grind (arith, is, j) in
                h b z k j (same_key ∙ key) (ap (λ (q : Key). is_under_at q p) same_key ∙ u)

        place_next : (ks : List BranchKey) (n : ℕ) → ends_in (spoken true p a.outs) + under_now a.next p ≡ under_now t p → HasPlace ks n t p → HasPlace ks (ends_in (spoken true p a.outs) + n) a.next p
        place_next ks n bal h = place_then ks n p t a.next (ends_in (spoken true p a.outs)) fair.same.key bal h
