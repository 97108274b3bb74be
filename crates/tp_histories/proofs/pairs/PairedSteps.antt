-- The pairing of records with transactions, from one entry of a history to the next.
use Rattle.std.proofs.Common.{◌≡◌, ◌+◌, ◌⊎◌, inl, inr, ℕ, Bool, true, false, refl, ap, sym, subst, ◌∙◌, arith, Option, Some, None, List, [], ◌∷◌, ◌++◌, ◌&&◌, ◌||◌, length, slice_get}
use Rattle.std.proofs.lemmas.Bool.Decides.{nat_tests}
use Rattle.std.proofs.lemmas.List.{append-nil}
use Rattle.tp_names.specs.declared.identifiers.Mark.{Mark}
use Rattle.tp_names.specs.declared.identifiers.Addr.{Addr}
use Rattle.tp_records.specs.declared.dialogue.DialogueRecord.{DialogueRecord}
use Rattle.tp_logrec.specs.declared.record.LogRec.{LogRec}
use Rattle.tp_model.specs.Parts.{Who, Origin, Event, Entry, Link, Idle, Opening, Offered, Live, Key, Root, Under, Branch, Current, Digest}
use Rattle.tp_model.specs.Links.{is_idle, is_live}
use Rattle.tp_model.specs.Arcs.{link_with}
use Rattle.tp_model.specs.Transactions.{aaid_of, is_under_at}
use Rattle.tp_model.specs.Node.{is_superior, fresh_current}
use Rattle.tp_model.specs.Requests.{has_branch_at, is_branch_below}
use Rattle.tp_model.specs.Events.{refusal, action, started, recovered_current}
use Rattle.tp_model.specs.History.{digest, with_rec, records}
use Rattle.tp_model.specs.Outcomes.{is_now, rolls, is_crash_in_active, rolled}
use Rattle.tp_model.specs.Questions.{said_to, is_at}
use Rattle.tp_model.specs.Legal.{IsGrown}
use Rattle.tp_steps.specs.Moves.{prelude}
use Rattle.tp_steps.specs.Traces.{fits, sent_of, took_of}
use Rattle.tp_histories.specs.Traces.{sent_on, accepted_on}
use Rattle.tp_steps.specs.Facts.{is_order, is_rollback, ends_in, BranchKey, begun_keys, last_from, each_under, each_vote, has_ready_of, is_voted, is_ordered, is_rolled, find_branch, under_at, key_at, HasPlaceAt, KnowsAt, words_to, IsHeard, Reads}
use Rattle.tp_histories.specs.Pairs.{IsPaired}
use Rattle.tp_histories.proofs.trees.Late.{late_law}
use Rattle.tp_steps.proofs.every.Preludes.{Prelinked, As_before, Now_idle, Now_called, Now_offered, Now_accepted, Now_confirmed, Took_one, marks_same}
use Rattle.tp_steps.proofs.links.Marks.{sent_is_said, has_pair, sent_none}
use Rattle.tp_histories.proofs.marks.Traced.{Told, told, traced_law, live_before, opening_more, superior_pre}
use Rattle.tp_steps.proofs.lemmas.Words.{ends_append, last_append, keys_append, under_append, under_weaker, vote_append, vote_weaker, none_last, ordered_more, ready_more, both}
use Rattle.tp_steps.proofs.words.Heard.{heard_event}
use Rattle.tp_steps.proofs.words.Leaves.{aaid_same}
use Rattle.tp_histories.proofs.trees.Knowing.{Came, As_it_was, By_begin, By_crash, came_by}
use Rattle.tp_steps.proofs.branches.Rolls.{rolls_so}
use Rattle.tp_names.specs.Same.{is_mark}
use Rattle.tp_histories.proofs.trees.Above.{declared_prelude, undeclared_idle, key_law, IsKeyOf}
use Rattle.tp_histories.proofs.worlds.Unique.{superior_is}
use Rattle.tp_steps.proofs.lemmas.Equality.{and_left, and_right}
use Rattle.tp_steps.proofs.lemmas.Folds.{words_ends, words_last, words_under, words_vote, quiet_order, quiet_rollback, key_before}
use Rattle.tp_histories.proofs.pairs.Paired.{Stands, Stays, Begins_there, stands, at_prelude}

-- ---- what the event asks of the transaction

-- after the prelude, the node has its superior where it has an arc, and its key is its own tree's or its superior's
pub record Placed (o : Origin) (up : Option Addr) (s : Digest) (p : ℕ) : Type 0 where
  pub above : is_at up p ≡ true → is_live (link_with s.arcs p) ≡ true → is_superior s p ≡ true
  pub keyed : (c : Current) → s.current ≡ Some c → IsKeyOf o.who up c.key

under_above : (who : Who) (up : Option Addr) (p : ℕ) (k : Key) → IsKeyOf who up k → is_under_at k p ≡ true → is_at up p ≡ true
under_above who up p (Root t) f under = absurd cc
under_above who up p (Under t b a) f under = let eq : a.node ≡ p = grind (arith, nat_tests, under) in subst (λ (q : ℕ). is_at up q ≡ true) eq f

pub reads_event : (o : Origin) (up : Option Addr) (e : Event) (h : List Entry) (p : ℕ) → refusal o.who (digest o h) e ≡ None → Placed o up (prelude o.who (digest o h) e) p
    → Reads o.who e p (is_at up p) (rolls o.who (digest o h) e) 1 (prelude o.who (digest o h) e)
reads_event o up e h p ok placed = record {
  falls_so = λ c f arcs at asked fall. rolls_so o.who (digest o h) e ok c f arcs at asked fall;
  closes_so = λ c f arcs at asked none. absurd (cc (none));
  under_superior = λ c at under. under_above o.who up p c.key (placed.keyed c at) under;
  is_superior_so = λ sup live. placed.above sup live;
}

superior_of_up : (s : Digest) (up : Option Addr) (p : ℕ) → s.superior ≡ up → is_at up p ≡ true → is_superior s p ≡ true
superior_of_up s None p i h = absurd cc
superior_of_up s (Some a) p i h = rw (i, is_superior) h

recovered_key : (who : Who) (up : Option Addr) (v : Option Current) (c : Current) → recovered_current v ≡ Some c → ((b : Current) → v ≡ Some b → IsKeyOf who up b.key) → IsKeyOf who up c.key
recovered_key who up None c i f = absurd cc
recovered_key who up (Some b) c i f = let same : b.key ≡ c.key = grind (arith, i) in subst (λ (k : Key). IsKeyOf who up k) same (f b refl)

pub placed_event : (o : Origin) (up : Option Addr) (e : Entry) (h : List Entry) (p : ℕ) → o.start.records ≡ [] → IsGrown o up (e ∷ h) → Placed o up (prelude o.who (digest o h) e.event) p
placed_event o up e h p empty legal = record {
  above = λ sup live. superior_of_up s up p (declared_up (s.declared) refl live) sup;
  keyed = λ c i. keyed c i (came_by o.who d e.event legal.0);
}
  where
    d : Digest
    d = digest o h

    s : Digest
    s = prelude o.who d e.event

    -- the superior that the prelude leaves
    behind : ((a : Addr) → s.superior ≡ Some a → up ≡ Some a) × (s.declared ≡ true → s.superior ≡ up)
    behind = let traced = traced_law o up h legal.3 in superior_pre o.who up d e.event legal.2 traced.under traced.declared

    declared_up : (b : Bool) → s.declared ≡ b → is_live (link_with s.arcs p) ≡ true → s.superior ≡ up
    declared_up true i live = behind.1 i
    declared_up false i live =
        let idle = declared_prelude o.who d e.event legal.0 (undeclared_idle o up h legal.3) p i in
        absurd (clash (link_with s.arcs p) idle live)
      where
        clash : (l : Link) → is_idle l ≡ true → is_live l ≡ true → ⊥
        clash Idle a b = cc (b)
        clash (Opening x) a b = cc (a)
        clash (Offered x) a b = cc (a)
        clash (Live x y v w) a b = cc (a)

    keyed : (c : Current) → s.current ≡ Some c → Came o.who d e.event → IsKeyOf o.who up c.key
    keyed c i (As_it_was k) = key_law o up h c empty legal.3 (sym k ∙ i)
    keyed c i (By_begin from x y q t b g a is found cur nil above) =
        let same : fresh_current (Under t b a.peer) ≡ c = cc (sym cur ∙ i) in
        let sup = superior_is d up a.peer.node (traced_law o up h legal.3).under above in
        let at : is_at up a.peer.node ≡ true = rw (sup.1) (grind (arith, nat_tests, sup.2)) in
        subst (λ (v : Current). IsKeyOf o.who up v.key) same at
    keyed c i (By_crash is cur) = recovered_key o.who up d.current c (sym cur ∙ i) (λ b j. key_law o up h b empty legal.3 j)

pub heard_entry : (o : Origin) (up : Option Addr) (e : Entry) (h : List Entry) (p : ℕ) → o.start.records ≡ [] → IsGrown o up (e ∷ h)
    → IsHeard p (is_at up p) (rolls o.who (digest o h) e.event) 1 (prelude o.who (digest o h) e.event) (prelude o.who (digest o h) e.event) (action o.who (digest o h) e.event)
heard_entry o up e h p empty legal =
    heard_event o.who (digest o h) e.event p (is_at up p) (rolls o.who (digest o h) e.event) 1 (late_law o up h legal.3) legal.0 (reads_event o up e.event h p legal.0 (placed_event o up e h p empty legal))

-- an event that rolls what is current after its prelude
pub fallen_rolled : (o : Origin) (up : Option Addr) (e : Entry) (h : List Entry) → IsGrown o up (e ∷ h) → rolls o.who (digest o h) e.event ≡ true → (c : Current) → (prelude o.who (digest o h) e.event).current ≡ Some c
    → rolled o (aaid_of c.key) (e ∷ h) ≡ true
fallen_rolled o up e h legal r c at = go (came_by o.who d e.event legal.0)
  where
    d : Digest
    d = digest o h

    go : Came o.who d e.event → rolled o (aaid_of c.key) (e ∷ h) ≡ true
    go (As_it_was i) =
        let now : is_now (aaid_of c.key) d.current ≡ true = ap (is_now (aaid_of c.key)) (sym i ∙ at) ∙ aaid_same (aaid_of c.key) in
        here (is_now (aaid_of c.key) d.current) (rolls o.who d e.event) (is_crash_in_active d e.event) (rolled o (aaid_of c.key) h) now r
      where
        here : (w x y z : Bool) → w ≡ true → x ≡ true → ((w && (x || y)) || z) ≡ true
        here w x y z i j = rw (i, j) refl
    go (By_begin from x y q t b g a is found cur nil above) = absurd (cc (r, ap (rolls o.who d) is))
    go (By_crash is cur) = absurd (cc (r, ap (rolls o.who d) is))

-- ---- numbers

sums : (a b c v w : ℕ) → a ≡ b + v → c + w ≡ v → a ≡ b + c + w
sums a b c v w h i = omega (arith, h, i)

swap : (a b : ℕ) → a + b ≡ b + a
swap a b = omega arith

pub find_none : (bs : List Branch) (p : ℕ) → has_branch_at bs p ≡ false → find_branch bs p ≡ None
find_none [] p h = refl
find_none (b ∷ bs) p h = grind (arith, h, find_none bs p)

none_in : (c : Current) (p : ℕ) → has_branch_at c.branches p ≡ false → key_at (Some c) p ≡ None
none_in c p h = let f = find_none c.branches p h in grind (arith, f)

-- ---- what goes out

pub told_entry : (o : Origin) (up : Option Addr) (e : Entry) (h : List Entry) → IsGrown o up (e ∷ h) → (p : ℕ) → Told o.who up p (digest o h) e.event
told_entry o up e h legal p = let traced = traced_law o up h legal.3 in told o.who up p (digest o h) e.event (late_law o up h legal.3) traced.under traced.declared legal.0

-- over a live link goes what is said to the peer
pub sent_said : (o : Origin) (up : Option Addr) (e : Entry) (h : List Entry) → IsGrown o up (e ∷ h) → (p : ℕ) (x y : Mark) (v k : ℕ) → link_with (prelude o.who (digest o h) e.event).arcs p ≡ Live x y v k
    → sent_of x y p e.outs ≡ said_to p (action o.who (digest o h) e.event).outs
sent_said o up e h legal p x y v k is =
    let d : Digest = digest o h in
    let fit : fits p (Live x y v k) (action o.who d e.event).outs ≡ true = subst (λ (m : Link). fits p m (action o.who d e.event).outs ≡ true) is (told_entry o up e h legal p).linked.over.numbered in
    ap (sent_of x y p) (ap (λ (f : Entry). f.outs) (sym legal.1)) ∙ sent_is_said x y p v k (action o.who d e.event).outs fit

-- on a pair that the link has not nothing goes out
pub sent_over : (o : Origin) (up : Option Addr) (e : Entry) (h : List Entry) → IsGrown o up (e ∷ h) → (p : ℕ) (x y : Mark) → (sent_of x y p e.outs ≡ []) ⊎ (v : ℕ) × (k : ℕ) × (link_with (prelude o.who (digest o h) e.event).arcs p ≡ Live x y v k)
sent_over o up e h legal p x y = go l refl (has_pair l x y) refl
  where
    l : Link
    l = link_with (prelude o.who (digest o h) e.event).arcs p

    go : (m : Link) → l ≡ m → (b : Bool) → has_pair l x y ≡ b → (sent_of x y p e.outs ≡ []) ⊎ (v : ℕ) × (k : ℕ) × (l ≡ Live x y v k)
    go m i false j = inl (ap (sent_of x y p) (ap (λ (f : Entry). f.outs) (sym legal.1)) ∙ sent_none x y p l (action o.who (digest o h) e.event).outs (told_entry o up e h legal p).linked.over.numbered j)
    go (Live z w v k) i true j =
        let pair : (is_mark x z && is_mark y w) ≡ true = sym (ap (λ (m : Link). has_pair m x y) i) ∙ j in
        let ez = marks_same x z (and_left (is_mark x z) (is_mark y w) pair) in
        let ew = marks_same y w (and_right (is_mark x z) (is_mark y w) pair) in
        inr (v, k, i ∙ made z x w y v k (sym ez) (sym ew))
      where
        made : (z x w y : Mark) (v k : ℕ) → z ≡ x → w ≡ y → Live z w v k ≡ Live x y v k
        made z x w y v k a b = rw (a, b) refl
    go Idle i true j = absurd (cc (ap (λ (m : Link). has_pair m x y) i, j))
    go (Opening z) i true j = absurd (cc (ap (λ (m : Link). has_pair m x y) i, j))
    go (Offered z) i true j = absurd (cc (ap (λ (m : Link). has_pair m x y) i, j))

-- ---- the step

pub paired_step : (o : Origin) (up : Option Addr) (e : Entry) (h : List Entry) → o.start.records ≡ [] → IsGrown o up (e ∷ h) → IsPaired o up h → IsPaired o up (e ∷ h)
paired_step o up e h empty legal paired = record {
  balance = λ p x y v k live.
      let w = live_before p (l p) (link_with next.arcs p) (action o.who d e.event).outs x y v k (k_of p).linked.over live in
      let pre = at_prelude o up e.event h p x y w.sent k empty paired legal.3 legal.0 w.is (l p) refl (k_of p).pre in
      sums (length (begun_keys (accepted_on x y p h ++ took_of x y p e.event))) (ends_in (sent_on x y p h)) (ends_in (words p)) (under_at s.current p) (under_at next.current p) pre.balance ((heard p).balance (ap is_live live))
      ∙ ap (λ (n : ℕ). n + under_at next.current p) (sym (sent_ends p x y w.sent k w.is));
  places = λ p x y v k live.
      let w = live_before p (l p) (link_with next.arcs p) (action o.who d e.event).outs x y v k (k_of p).linked.over live in
      let pre = at_prelude o up e.event h p x y w.sent k empty paired legal.3 legal.0 w.is (l p) refl (k_of p).pre in
      let ks : List BranchKey = begun_keys (accepted_on x y p h ++ took_of x y p e.event) in
      subst (λ (n : ℕ). HasPlaceAt ks n next.current p) (swap (ends_in (words p)) (ends_in (sent_on x y p h)) ∙ sym (sent_ends p x y w.sent k w.is)) ((heard p).places ks (ends_in (sent_on x y p h)) (ap is_live live) pre.places);
  rows = λ p x y v k live.
      let w = live_before p (l p) (link_with next.arcs p) (action o.who d e.event).outs x y v k (k_of p).linked.over live in
      let pre = at_prelude o up e.event h p x y w.sent k empty paired legal.3 legal.0 w.is (l p) refl (k_of p).pre in
      subst (λ (j : Option BranchKey). KnowsAt j next.current p) (sym (sent_last p x y w.sent k w.is)) ((heard p).knows (last_from None (sent_on x y p h)) (ap is_live live) pre.rows);
  closed = λ p x is. closed_now p x is;
  upward = λ p x y sup. elim (sent_is p x y) [
    | inl none ↦ ap (λ (rs : List DialogueRecord). last_from None (sent_on x y p h ++ rs)) none ∙ ap (last_from None) (append-nil (sent_on x y p h)) ∙ paired.upward p x y sup
    | inr w ↦ sent_last p x y w.0 w.1 w.2 ∙ none_last (last_from None (sent_on x y p h)) (words p) ((heard p).upward sup) ∙ paired.upward p x y sup
  ];
  orders = λ p x y.
      under_append is_order (is_ordered (records o (e ∷ h))) None (sent_on x y p h) (sent_of x y p e.outs)
      ∙ both (each_under is_order (is_ordered (records o (e ∷ h))) None (sent_on x y p h)) (each_under is_order (is_ordered (records o (e ∷ h))) (last_from None (sent_on x y p h)) (sent_of x y p e.outs))
      (under_weaker is_order (is_ordered (records o h)) (is_ordered (records o (e ∷ h))) (ordered_more e.rec (records o h)) None (sent_on x y p h) (paired.orders p x y))
      (elim (sent_is p x y) [
        | inl none ↦ ap (each_under is_order (is_ordered (records o (e ∷ h))) (last_from None (sent_on x y p h))) none
        | inr w ↦
            (let pre = at_prelude o up e.event h p x y w.0 w.1 empty paired legal.3 legal.0 w.2 (l p) refl (k_of p).pre in
            let new = (heard p).orders (last_from None (sent_on x y p h)) (records o h) pre.rows in
            ap (each_under is_order (is_ordered (records o (e ∷ h))) (last_from None (sent_on x y p h))) (said p x y w.0 w.1 w.2)
            ∙ words_under is_order (is_ordered (records o (e ∷ h))) quiet_order (last_from None (sent_on x y p h)) (said_to p (action o.who d e.event).outs)
            (subst (λ (r : Option LogRec). each_under is_order (is_ordered (with_rec r (records o h))) (last_from None (sent_on x y p h)) (words p) ≡ true) (sym recs) new))
      ]);
  votes = λ p x y.
      let ks : List BranchKey = begun_keys (accepted_on x y p h ++ took_of x y p e.event) in
      vote_append (is_voted ks (records o (e ∷ h))) 0 (sent_on x y p h) (sent_of x y p e.outs)
      ∙ both (each_vote (is_voted ks (records o (e ∷ h))) 0 (sent_on x y p h)) (each_vote (is_voted ks (records o (e ∷ h))) (ends_in (sent_on x y p h) + 0) (sent_of x y p e.outs))
      (vote_weaker (is_voted (begun_keys (accepted_on x y p h)) (records o h)) (is_voted ks (records o (e ∷ h))) (λ n v. voted_wider n x y p v) 0 (sent_on x y p h) (paired.votes p x y))
      (subst (λ (n : ℕ). each_vote (is_voted ks (records o (e ∷ h))) n (sent_of x y p e.outs) ≡ true) (sym (no_more (ends_in (sent_on x y p h))))
      (elim (sent_is p x y) [
        | inl none ↦ ap (each_vote (is_voted ks (records o (e ∷ h))) (ends_in (sent_on x y p h))) none
        | inr w ↦
            (let pre = at_prelude o up e.event h p x y w.0 w.1 empty paired legal.3 legal.0 w.2 (l p) refl (k_of p).pre in
            let new = (heard p).votes ks (records o h) (ends_in (sent_on x y p h)) pre.places in
            ap (each_vote (is_voted ks (records o (e ∷ h))) (ends_in (sent_on x y p h))) (said p x y w.0 w.1 w.2)
            ∙ words_vote (is_voted ks (records o (e ∷ h))) (ends_in (sent_on x y p h)) (said_to p (action o.who d e.event).outs)
            (subst (λ (r : Option LogRec). each_vote (is_voted ks (with_rec r (records o h))) (ends_in (sent_on x y p h)) (words p) ≡ true) (sym recs) new))
      ]));
  rollbacks = λ p x y.
      under_append is_rollback (is_rolled (λ t. rolled o t (e ∷ h))) None (sent_on x y p h) (sent_of x y p e.outs)
      ∙ both (each_under is_rollback (is_rolled (λ t. rolled o t (e ∷ h))) None (sent_on x y p h)) (each_under is_rollback (is_rolled (λ t. rolled o t (e ∷ h))) (last_from None (sent_on x y p h)) (sent_of x y p e.outs))
      (under_weaker is_rollback (is_rolled (λ t. rolled o t h)) (is_rolled (λ t. rolled o t (e ∷ h))) rolled_wider None (sent_on x y p h) (paired.rollbacks p x y))
      (elim (sent_is p x y) [
        | inl none ↦ ap (each_under is_rollback (is_rolled (λ t. rolled o t (e ∷ h))) (last_from None (sent_on x y p h))) none
        | inr w ↦
            (let pre = at_prelude o up e.event h p x y w.0 w.1 empty paired legal.3 legal.0 w.2 (l p) refl (k_of p).pre in
            let new = (heard p).rollbacks (last_from None (sent_on x y p h)) (λ t. rolled o t (e ∷ h)) pre.rows (λ sup. paired.upward p x y sup) fallen in
            ap (each_under is_rollback (is_rolled (λ t. rolled o t (e ∷ h))) (last_from None (sent_on x y p h))) (said p x y w.0 w.1 w.2)
            ∙ words_under is_rollback (is_rolled (λ t. rolled o t (e ∷ h))) quiet_rollback (last_from None (sent_on x y p h)) (said_to p (action o.who d e.event).outs) new)
      ]);
}
  where
    d : Digest
    d = digest o h

    s : Digest
    s = prelude o.who d e.event

    next : Digest
    next = digest o (e ∷ h)

    l : ℕ → Link
    l p = link_with s.arcs p

    k_of : (p : ℕ) → Told o.who up p d e.event
    k_of p = told_entry o up e h legal p

    heard : (p : ℕ) → IsHeard p (is_at up p) (rolls o.who d e.event) 1 s s (action o.who d e.event)
    heard p = heard_entry o up e h p empty legal

    words : ℕ → List DialogueRecord
    words p = words_to p (action o.who d e.event).outs

    recs : e.rec ≡ (action o.who d e.event).rec
    recs = ap (λ (f : Entry). f.rec) (sym legal.1)

    said : (p : ℕ) (x y : Mark) (v k : ℕ) → l p ≡ Live x y v k → sent_of x y p e.outs ≡ said_to p (action o.who d e.event).outs
    said p x y v k is = sent_said o up e h legal p x y v k is

    sent_ends : (p : ℕ) (x y : Mark) (v k : ℕ) → l p ≡ Live x y v k → ends_in (sent_on x y p h ++ sent_of x y p e.outs) ≡ ends_in (sent_on x y p h) + ends_in (words p)
    sent_ends p x y v k is =
        ends_append (sent_on x y p h) (sent_of x y p e.outs) ∙ ap (λ (rs : List DialogueRecord). ends_in (sent_on x y p h) + ends_in rs) (said p x y v k is)
        ∙ ap (λ (n : ℕ). ends_in (sent_on x y p h) + n) (sym (words_ends (said_to p (action o.who d e.event).outs)))

    sent_last : (p : ℕ) (x y : Mark) (v k : ℕ) → l p ≡ Live x y v k → last_from None (sent_on x y p h ++ sent_of x y p e.outs) ≡ last_from (last_from None (sent_on x y p h)) (words p)
    sent_last p x y v k is =
        last_append None (sent_on x y p h) (sent_of x y p e.outs) ∙ ap (last_from (last_from None (sent_on x y p h))) (said p x y v k is)
        ∙ sym (words_last (last_from None (sent_on x y p h)) (said_to p (action o.who d e.event).outs))

    sent_is : (p : ℕ) (x y : Mark) → (sent_of x y p e.outs ≡ []) ⊎ (v : ℕ) × (k : ℕ) × (l p ≡ Live x y v k)
    sent_is p x y = sent_over o up e h legal p x y

    no_more : (n : ℕ) → n + 0 ≡ n
    no_more n = omega arith

    voted_wider : (n : ℕ) (x y : Mark) (p : ℕ) → is_voted (begun_keys (accepted_on x y p h)) (records o h) n ≡ true → is_voted (begun_keys (accepted_on x y p h ++ took_of x y p e.event)) (records o (e ∷ h)) n ≡ true
    voted_wider n x y p v = go (slice_get (begun_keys (accepted_on x y p h)) n) refl
      where
        go : (b : Option BranchKey) → slice_get (begun_keys (accepted_on x y p h)) n ≡ b → is_voted (begun_keys (accepted_on x y p h ++ took_of x y p e.event)) (records o (e ∷ h)) n ≡ true
        go None i = absurd (cc (rw (i, is_voted) at v))
        go (Some b) i =
            let one : has_ready_of b (records o h) ≡ true = rw (i, is_voted) at v in
            let wide : slice_get (begun_keys (accepted_on x y p h ++ took_of x y p e.event)) n ≡ Some b =
            ap (λ (ks : List BranchKey). slice_get ks n) (keys_append (accepted_on x y p h) (took_of x y p e.event)) ∙ key_before (begun_keys (accepted_on x y p h)) (begun_keys (took_of x y p e.event)) n b i in
            rw (wide, is_voted) (ready_more b e.rec (records o h) one)

    rolled_wider : (k : Option BranchKey) → is_rolled (λ t. rolled o t h) k ≡ true → is_rolled (λ t. rolled o t (e ∷ h)) k ≡ true
    rolled_wider None i = refl
    rolled_wider (Some k) i = let r : rolled o k.0 h ≡ true = i in rw r (grind arith)

    fallen : rolls o.who d e.event ≡ true → (c : Current) → s.current ≡ Some c → rolled o (aaid_of c.key) (e ∷ h) ≡ true
    fallen r c at = fallen_rolled o up e h legal r c at

    closed_now : (p : ℕ) (x : Mark) → link_with next.arcs p ≡ Opening x → key_at next.current p ≡ None
    closed_now p x is = (heard p).dead_rows (ap is_live pre) (key_s (l p) pre (k_of p).pre)
      where
        pre : l p ≡ Opening x
        pre = elim (k_of p).linked.over.link [
          | inl i ↦ opening_more _ (l p) x (sym i ∙ is)
          | inr i ↦ absurd (cc (i, is))
        ]

        at : Stands d s p → key_at d.current p ≡ None → key_at s.current p ≡ None
        at (Stays i) k = ap (λ (v : Option Current). key_at v p) i ∙ k
        at (Begins_there u n z) k = n

        key_s : (m : Link) → m ≡ Opening x → Prelinked o.who up p d e.event m → key_at s.current p ≡ None
        key_s m i (As_before j none) = at (stands o.who d e.event p x x (late_law o up h legal.3) legal.0 none (inr (x, pre))) (paired.closed p x (sym j ∙ i))
        key_s m i (Now_idle j none) = absurd (cc (i, j))
        key_s m i (Now_called j down n none below calls) = at (stands o.who d e.event p x x (late_law o up h legal.3) legal.0 none (inr (x, pre))) (no_branch d.current refl below)
          where
            no_branch : (v : Option Current) → d.current ≡ v → is_branch_below d p ≡ false → key_at d.current p ≡ None
            no_branch None k b = ap (λ (u : Option Current). key_at u p) k
            no_branch (Some c) k b = ap (λ (u : Option Current). key_at u p) k ∙ none_in c p (rw (k, is_branch_below) at b)
        key_s m i (Now_offered z j u none) = absurd (cc (i, j))
        key_s m i (Now_accepted z j u n none nil) = absurd (cc (i, j))
        key_s m i (Now_confirmed z w op j none) = absurd (cc (i, j))
        key_s m i (Took_one a z w v u r j k node ev) = absurd (cc (i, k))

pub paired_law : (o : Origin) (up : Option Addr) (h : List Entry) → o.start.records ≡ [] → IsGrown o up h → IsPaired o up h
unfolding started
paired_law o up [] empty legal = record {
  balance = λ p x y s k i. absurd (cc (i));
  places = λ p x y s k i. absurd (cc (i));
  rows = λ p x y s k i. absurd (cc (i));
  closed = λ p x i. absurd (cc (i));
  upward = λ p x y i. refl;
  orders = λ p x y. refl;
  votes = λ p x y. refl;
  rollbacks = λ p x y. refl;
}
paired_law o up (e ∷ h) empty legal = paired_step o up e h empty legal (paired_law o up h empty legal.3)
