-- The facts of words and branches, of every small step of a transaction.
use Rattle.std.proofs.Common.{if◌then◌else◌, ◌≡◌, ◌≤◌, ◌+◌, ◌⊎◌, inl, inr, ℕ, suc, Bool, true, false, refl, ap, sym, subst, ◌∙◌, arith, Option, Some, None, List, [], ◌∷◌, ◌++◌, ◌==◌, slice_get}
use Rattle.std.proofs.lemmas.Bool.Decides.{nat_tests}
use Rattle.tp_names.specs.declared.identifiers.BranchId.{BranchId}
use Rattle.tp_logrec.specs.declared.record.LogRec.{LogRec}
use Rattle.tp_model.specs.declared.transaction.TxEvent.{TxEvent}
use Rattle.tp_model.specs.declared.transaction.TxOut.{TxOut}
use Rattle.tp_model.specs.Parts.{Key, Under}
use Rattle.tp_model.specs.Dialogues.{is_nil}
use Rattle.tp_model.specs.Transactions.{Row, Transaction, Turn, turn, aaid_of, is_under_at, find_row, put_row, with_row, part_by_part}
use Rattle.tp_model.specs.History.{with_rec}
use Rattle.tp_model.specs.Questions.{is_begin}
use Rattle.tp_steps.specs.Facts.{spoken, stays, is_order, is_rollback, ends_in, none_of, BranchKey, last_from, each_under, each_vote, is_voted, is_ordered, is_rolled, under_now, is_open, open_now, id_at, sees_row, sees, closes, HasPlace, Knows, SameKey, Facts, IsFair}
use Rattle.tp_steps.proofs.lemmas.Words.{spoken_append, stays_append, dead_spoken, dead_stays, ends_append, none_append, under_append, under_weaker, vote_append, vote_weaker, none_last, ordered_more, voted_more, both}

-- ---- numbers

pub sums : (a b u v w : ℕ) → a + v ≡ u → b + w ≡ v → a + b + w ≡ u
sums a b u v w h i = omega (arith, h, i)

pub at_most_same : (a b : ℕ) → a ≡ b → a ≤ b
at_most_same a b h = omega (arith, h)

pub at_most_none : (a c : ℕ) → a ≡ 0 → a ≤ c
at_most_none a c h = omega (arith, h)

pub at_most_then : (a b c : ℕ) → a ≤ b → b ≤ c → a ≤ c
at_most_then a b c h i = omega (arith, h, i)

pub none_left : (a b : ℕ) → a ≡ b → 0 + a ≡ b
none_left a b h = omega (arith, h)

-- ---- steps that say no word to the peer

pub mute : (e : TxEvent) (s : Transaction) (p : ℕ) (t : Transaction) (a : Turn) → spoken true p a.outs ≡ [] → (stays true p a.outs ≡ true → sees a.next p ≡ true)
    → (stays true p a.outs ≡ true → under_now a.next p ≡ under_now t p) → (closes e s p ≡ 0 → stays true p a.outs ≡ true → open_now t p ≤ open_now a.next p) → Facts e s p t a
mute e s p t a none seen under open_least = record {
  begins = rw none refl;
  seen_after = seen;
  balance = λ st. rw none (none_left (under_now a.next p) (under_now t p) (under st));
  opens = open_least;
  votes = λ ks rs n h. rw none refl;
  orders = λ k rs h. rw none refl;
  rollbacks = λ k g h u f. rw none refl;
}

-- the transaction stays as it is for the peer
pub fair_mute : (e : TxEvent) (s : Transaction) (p : ℕ) (t : Transaction) (a : Turn) → spoken true p a.outs ≡ [] → a.next.key ≡ t.key → is_nil a.next.phase ≡ is_nil t.phase → a.next.up ≡ t.up
    → find_row a.next.rows p ≡ find_row t.rows p → IsFair e s p t a
fair_mute e s p t a none key phase up row = record {
  same = record { key = key; ids = rw (row, id_at) refl };
  facts = λ seen kept. mute e s p t a none (λ st. rw (key, up, row) seen) (λ st. rw (phase, key) refl) (λ c st. at_most_same (open_now t p) (open_now a.next p) (rw (phase, row) refl));
}

pub fair_outs : (e : TxEvent) (s : Transaction) (p : ℕ) (t : Transaction) (outs : List TxOut) → spoken true p outs ≡ [] → IsFair e s p t (turn outs t)
fair_outs e s p t outs none = fair_mute e s p t (turn outs t) none refl refl refl refl

-- ---- rows

pub find_put : (rows : List Row) (q : ℕ) (r n : Row) (p : ℕ) → find_row rows q ≡ Some r → n.branch.peer.node ≡ q → find_row (put_row rows n) p ≡ (if q == p then Some n else find_row rows p)
find_put [] q r n p h i = absurd cc
find_put (w ∷ rows) q r n p h i = grind (arith, nat_tests, find_put rows q r n p)

pub row_is : (rows : List Row) (q : ℕ) (r : Row) → find_row rows q ≡ Some r → r.branch.peer.node ≡ q
row_is [] q r h = absurd cc
row_is (w ∷ rows) q r h = grind (arith, nat_tests, row_is rows q r)

pub row_key : (t : Transaction) (q : ℕ) (f : Row → Row) → (with_row t q f).key ≡ t.key
row_key t q f = grind arith

pub row_phase : (t : Transaction) (q : ℕ) (f : Row → Row) → (with_row t q f).phase ≡ t.phase
row_phase t q f = grind arith

pub row_up : (t : Transaction) (q : ℕ) (f : Row → Row) → (with_row t q f).up ≡ t.up
row_up t q f = grind arith

-- what a change of the row with q makes of the row with p
pub row_with : (t : Transaction) (q : ℕ) (f : Row → Row) (p : ℕ) → ((r : Row) → (f r).branch.peer.node ≡ r.branch.peer.node)
    → find_row (with_row t q f).rows p ≡ (if q == p then elim (find_row t.rows p) as (λ _. Option Row) [ None ↦ None | Some r ↦ Some (f r) ] else find_row t.rows p)
row_with t q f p peer = go (find_row t.rows q) refl (q == p) refl
  where
    here : (o : Option Row) → find_row t.rows q ≡ o → q ≡ p → find_row t.rows p ≡ o
    here o i same = subst (λ (n : ℕ). find_row t.rows n ≡ o) same i

    go : (o : Option Row) → find_row t.rows q ≡ o → (b : Bool) → (q == p) ≡ b
        → find_row (with_row t q f).rows p ≡ (if q == p then elim (find_row t.rows p) as (λ _. Option Row) [ None ↦ None | Some r ↦ Some (f r) ] else find_row t.rows p)
    go None i true j = let at : find_row t.rows p ≡ None = here None i (grind (arith, nat_tests, j)) in rw (i, j, with_row) (at ∙ rw at refl)
    go None i false j = rw (i, j, with_row) refl
    go (Some r) i b j =
        let put = find_put t.rows q r (f r) p i (peer r ∙ row_is t.rows q r i) in
        on b j put
      where
        on : (b : Bool) → (q == p) ≡ b → find_row (put_row t.rows (f r)) p ≡ (if q == p then Some (f r) else find_row t.rows p)
            → find_row (with_row t q f).rows p ≡ (if q == p then elim (find_row t.rows p) as (λ _. Option Row) [ None ↦ None | Some w ↦ Some (f w) ] else find_row t.rows p)
        on true k put = let at : find_row t.rows p ≡ Some r = here (Some r) i (grind (arith, nat_tests, k)) in rw (i, k, with_row) (put ∙ rw (k, at) refl)
        on false k put = rw (i, k, with_row) (put ∙ rw k refl)

-- of an Option that is changed within
within : {A : Type 0} → (h : Option Row → A) → (f : Row → Row) → ((r : Row) → h (Some (f r)) ≡ h (Some r)) → (o : Option Row) → h (elim o as (λ _. Option Row) [ None ↦ None | Some r ↦ Some (f r) ]) ≡ h o
within h f same None = refl
within h f same (Some r) = same r

-- a question to the row with p that the change keeps
pub row_keeps : {A : Type 0} → (h : Option Row → A) → (t : Transaction) (q : ℕ) (f : Row → Row) (p : ℕ) → ((r : Row) → (f r).branch.peer.node ≡ r.branch.peer.node) → ((r : Row) → h (Some (f r)) ≡ h (Some r))
    → h (find_row (with_row t q f).rows p) ≡ h (find_row t.rows p)
row_keeps h t q f p peer same = ap h (row_with t q f p peer) ∙ go (q == p)
  where
    go : (b : Bool) → h (if b then elim (find_row t.rows p) as (λ _. Option Row) [ None ↦ None | Some r ↦ Some (f r) ] else find_row t.rows p) ≡ h (find_row t.rows p)
    go true = within h f same (find_row t.rows p)
    go false = refl

abbrev pub row_id : Option Row → Option BranchId
row_id None = None
row_id (Some r) = Some r.branch.id

abbrev pub row_open : Option Row → ℕ
row_open None = 0
row_open (Some r) = if is_open r.branch then 1 else 0

pub id_is : (t : Transaction) (p : ℕ) → id_at t p ≡ row_id (find_row t.rows p)
id_is t p = grind arith

pub open_is : (t : Transaction) (p : ℕ) → open_now t p ≡ (if is_nil t.phase then 0 else row_open (find_row t.rows p))
open_is t p = grind arith

-- rows with the same answers at p
pub fair_rows : (e : TxEvent) (s : Transaction) (p : ℕ) (t : Transaction) (a : Turn) → spoken true p a.outs ≡ [] → a.next.key ≡ t.key → is_nil a.next.phase ≡ is_nil t.phase → a.next.up ≡ t.up
    → row_id (find_row a.next.rows p) ≡ row_id (find_row t.rows p) → (stays true p a.outs ≡ true → sees_row (find_row t.rows p) ≡ true → sees_row (find_row a.next.rows p) ≡ true)
    → (stays true p a.outs ≡ true → sees_row (find_row t.rows p) ≡ true → closes e s p ≡ 0 → row_open (find_row t.rows p) ≤ row_open (find_row a.next.rows p)) → IsFair e s p t a
fair_rows e s p t a none key phase up ids seen opens = record {
  same = record { key = key; ids = id_is a.next p ∙ ids ∙ sym (id_is t p) };
  facts = λ saw kept.
      let row : sees_row (find_row t.rows p) ≡ true = grind (arith, saw) in
      mute e s p t a none
      (λ st. let later = seen st row in rw (key, up, later) (grind (arith, saw)))
      (λ st. rw (phase, key) refl)
      (λ c st. nil_open (is_nil t.phase) refl (opens st row c));
}
  where
    nil_open : (b : Bool) → is_nil t.phase ≡ b → row_open (find_row t.rows p) ≤ row_open (find_row a.next.rows p) → open_now t p ≤ open_now a.next p
    nil_open true i h = at_most_none (open_now t p) (open_now a.next p) (open_is t p ∙ rw i refl)
    nil_open false i h = rw (open_is t p, open_is a.next p, phase, i) h

-- a change of one row that keeps its answers
pub fair_row : (e : TxEvent) (s : Transaction) (p : ℕ) (t : Transaction) (outs : List TxOut) (q : ℕ) (f : Row → Row) → spoken true p outs ≡ [] → ((r : Row) → (f r).branch.peer.node ≡ r.branch.peer.node)
    → ((r : Row) → row_id (Some (f r)) ≡ row_id (Some r)) → ((r : Row) → sees_row (Some (f r)) ≡ sees_row (Some r)) → ((r : Row) → row_open (Some (f r)) ≡ row_open (Some r)) → IsFair e s p t (turn outs (with_row t q f))
fair_row e s p t outs q f none peer id seen open_same =
    fair_rows e s p t (turn outs (with_row t q f)) none (row_key t q f) (ap is_nil (row_phase t q f)) (row_up t q f) (row_keeps row_id t q f p peer id)
    (λ st saw. row_keeps sees_row t q f p peer seen ∙ saw)
    (λ st saw c. at_most_same (row_open (find_row t.rows p)) (row_open (find_row (with_row t q f).rows p)) (sym (row_keeps row_open t q f p peer open_same)))

-- ---- chains

-- the record of a chain is that of the one part which logs
abbrev pub IsLater : Option LogRec → Option LogRec → Option LogRec → Type 0
IsLater a b r = (a ≡ None) × (r ≡ b) ⊎ (b ≡ None) × (r ≡ a)

pub place_then : (ks : List BranchKey) (n : ℕ) (p : ℕ) (t u : Transaction) (m : ℕ) → u.key ≡ t.key → m + under_now u p ≡ under_now t p → HasPlace ks n t p → HasPlace ks (m + n) u p
place_then ks n p t u m key balance h a b s late is at =
    let k : t.key ≡ Under a b s = sym key ∙ is in
    let under : is_under_at t.key p ≡ true = ap (λ (j : Key). is_under_at j p) (sym key) ∙ at in
    let one : under_now u p ≡ 1 = rw (late, at) refl in
    let two : under_now t p ≡ suc m = sym balance ∙ rw one (omega arith) in
    let zero_m : m ≡ 0 = go (is_nil t.phase) refl under two in
    let nil : is_nil t.phase ≡ false = alive (is_nil t.phase) refl two in
    subst (λ (v : ℕ). slice_get ks v ≡ Some (a, b)) (sum_zero m zero_m) (h a b s nil k under)
  where
    sum_zero : (v : ℕ) → v ≡ 0 → n ≡ v + n
    sum_zero v z = omega (arith, z)

    go : (v : Bool) → is_nil t.phase ≡ v → is_under_at t.key p ≡ true → under_now t p ≡ suc m → m ≡ 0
    go true i u h = absurd (cc (rw (i, under_now) at h))
    go false i u h = let one : 1 ≡ suc m = rw (i, u, under_now) at h in omega (arith, one)

    alive : (v : Bool) → is_nil t.phase ≡ v → under_now t p ≡ suc m → is_nil t.phase ≡ false
    alive false i h = i
    alive true i h = absurd (cc (rw (i, under_now) at h))

pub facts_then : (e : TxEvent) (s : Transaction) (p : ℕ) (t : Transaction) (a b : Turn) (r : Option LogRec) → SameKey p t a → Facts e s p t a → (sees a.next p ≡ true → Facts e s p a.next b) → IsLater a.rec b.rec r
    → Facts e s p t (record { rec = r; outs = a.outs ++ b.outs; completion = part_by_part a.completion b.completion; next = b.next })
facts_then e s p t a b r same one two later = go (stays true p a.outs) refl
  where
    m : Turn
    m = record { rec = r; outs = a.outs ++ b.outs; completion = part_by_part a.completion b.completion; next = b.next }

    knows : (k : Option BranchKey) → Knows k t p → Knows k a.next p
    knows k kn v h = kn v (sym same.ids ∙ h) ∙ ap (λ (j : Key). Some (aaid_of j, v)) (sym same.key)

    first_order : (k : Option BranchKey) (rs : List LogRec) → Knows k t p → each_under is_order (is_ordered (with_rec r rs)) k (spoken true p a.outs) ≡ true
    first_order k rs kn = elim later [
      | inl i ↦ under_weaker is_order (is_ordered rs) (is_ordered (with_rec r rs)) (ordered_more r rs) k (spoken true p a.outs) (subst (λ (q : Option LogRec). each_under is_order (is_ordered (with_rec q rs)) k (spoken true p a.outs) ≡ true) i.0 (one.orders k rs kn))
      | inr i ↦ rw i.1 (one.orders k rs kn)
    ]

    first_vote : (ks : List BranchKey) (rs : List LogRec) (n : ℕ) → HasPlace ks n t p → each_vote (is_voted ks (with_rec r rs)) n (spoken true p a.outs) ≡ true
    first_vote ks rs n h = elim later [
      | inl i ↦ vote_weaker (is_voted ks rs) (is_voted ks (with_rec r rs)) (voted_more r ks rs) n (spoken true p a.outs) (subst (λ (q : Option LogRec). each_vote (is_voted ks (with_rec q rs)) n (spoken true p a.outs) ≡ true) i.0 (one.votes ks rs n h))
      | inr i ↦ rw i.1 (one.votes ks rs n h)
    ]

    second_order : (k : Option BranchKey) (rs : List LogRec) → Knows k t p → Facts e s p a.next b → each_under is_order (is_ordered (with_rec r rs)) k (spoken true p b.outs) ≡ true
    second_order k rs kn f = elim later [
      | inl i ↦ rw i.1 (f.orders k rs (knows k kn))
      | inr i ↦ rw i.1 (subst (λ (q : Option LogRec). each_under is_order (is_ordered (with_rec q (with_rec a.rec rs))) k (spoken true p b.outs) ≡ true) i.0 (f.orders k (with_rec a.rec rs) (knows k kn)))
    ]

    second_vote : (ks : List BranchKey) (rs : List LogRec) (n : ℕ) → HasPlace ks n a.next p → Facts e s p a.next b → each_vote (is_voted ks (with_rec r rs)) n (spoken true p b.outs) ≡ true
    second_vote ks rs n h f = elim later [
      | inl i ↦ rw i.1 (f.votes ks rs n h)
      | inr i ↦ rw i.1 (subst (λ (q : Option LogRec). each_vote (is_voted ks (with_rec q (with_rec a.rec rs))) n (spoken true p b.outs) ≡ true) i.0 (f.votes ks (with_rec a.rec rs) n h))
    ]

    go : (c : Bool) → stays true p a.outs ≡ c → Facts e s p t m
    go false i =
        let words : spoken true p m.outs ≡ spoken true p a.outs ++ [] = spoken_append true p a.outs b.outs ∙ rw (i, dead_spoken p b.outs) refl in
        let gone : stays true p m.outs ≡ false = stays_append true p a.outs b.outs ∙ rw i (dead_stays p b.outs) in
        record {
          begins = rw (words, none_append is_begin (spoken true p a.outs) []) (both (none_of is_begin (spoken true p a.outs)) true one.begins refl);
          seen_after = λ st. absurd (cc (gone, st));
          balance = λ st. absurd (cc (gone, st));
          opens = λ c st. absurd (cc (gone, st));
          votes = λ ks rs n h. rw (words, vote_append (is_voted ks (with_rec r rs)) n (spoken true p a.outs) []) (both (each_vote (is_voted ks (with_rec r rs)) n (spoken true p a.outs)) true (first_vote ks rs n h) refl);
          orders = λ k rs kn. rw (words, under_append is_order (is_ordered (with_rec r rs)) k (spoken true p a.outs) []) (both (each_under is_order (is_ordered (with_rec r rs)) k (spoken true p a.outs)) true (first_order k rs kn) refl);
          rollbacks = λ k g kn u f. rw (words, under_append is_rollback (is_rolled g) k (spoken true p a.outs) []) (both (each_under is_rollback (is_rolled g) k (spoken true p a.outs)) true (one.rollbacks k g kn u f) refl);
        }
    go true i =
        let f : Facts e s p a.next b = two (one.seen_after i) in
        let words : spoken true p m.outs ≡ spoken true p a.outs ++ spoken true p b.outs = spoken_append true p a.outs b.outs ∙ rw i refl in
        let live : stays true p m.outs ≡ stays true p b.outs = stays_append true p a.outs b.outs ∙ rw i refl in
        let last : (k : Option BranchKey) → last_from k (spoken true p a.outs) ≡ k = λ k. none_last k (spoken true p a.outs) one.begins in
        record {
          begins = rw (words, none_append is_begin (spoken true p a.outs) (spoken true p b.outs)) (both (none_of is_begin (spoken true p a.outs)) (none_of is_begin (spoken true p b.outs)) one.begins f.begins);
          seen_after = λ st. f.seen_after (sym live ∙ st);
          balance = λ st. rw (words, ends_append (spoken true p a.outs) (spoken true p b.outs)) (sums (ends_in (spoken true p a.outs)) (ends_in (spoken true p b.outs)) (under_now t p) (under_now a.next p) (under_now b.next p) (one.balance i) (f.balance (sym live ∙ st)));
          opens = λ c st. at_most_then (open_now t p) (open_now a.next p) (open_now b.next p) (one.opens c i) (f.opens c (sym live ∙ st));
          votes = λ ks rs n h. rw (words, vote_append (is_voted ks (with_rec r rs)) n (spoken true p a.outs) (spoken true p b.outs)) (both (each_vote (is_voted ks (with_rec r rs)) n (spoken true p a.outs)) (each_vote (is_voted ks (with_rec r rs)) (ends_in (spoken true p a.outs) + n) (spoken true p b.outs)) (first_vote ks rs n h) (second_vote ks rs (ends_in (spoken true p a.outs) + n) (place_then ks n p t a.next (ends_in (spoken true p a.outs)) same.key (one.balance i) h) f));
          orders = λ k rs kn. rw (words, under_append is_order (is_ordered (with_rec r rs)) k (spoken true p a.outs) (spoken true p b.outs), last k) (both (each_under is_order (is_ordered (with_rec r rs)) k (spoken true p a.outs)) (each_under is_order (is_ordered (with_rec r rs)) k (spoken true p b.outs)) (first_order k rs kn) (second_order k rs kn f));
          rollbacks = λ k g kn u g1. rw (words, under_append is_rollback (is_rolled g) k (spoken true p a.outs) (spoken true p b.outs), last k) (both (each_under is_rollback (is_rolled g) k (spoken true p a.outs)) (each_under is_rollback (is_rolled g) k (spoken true p b.outs)) (one.rollbacks k g kn u g1) (f.rollbacks k g (knows k kn) (λ v. u (ap (λ (j : Key). is_under_at j p) (sym same.key) ∙ v)) (λ v. ap (λ (j : Key). g (aaid_of j)) same.key ∙ g1 v)));
        }
