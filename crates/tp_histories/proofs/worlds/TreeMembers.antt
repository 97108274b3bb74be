-- One history and one tree: how the node came to know it, and that its Begin goes to a peer once.
use Rattle.std.proofs.Common.{if◌then◌else◌, ◌≡◌, ◌≤◌, ◌+◌, ◌⊎◌, inl, inr, ℕ, suc, Bool, true, false, refl, ap, sym, subst, ◌∙◌, arith, Option, Some, None, List, [], ◌∷◌, ◌&&◌, ◌||◌, ◌==◌}
use Rattle.std.proofs.lemmas.Bool.Decides.{nat_tests}
use Rattle.tp_names.specs.declared.identifiers.Mark.{Mark}
use Rattle.tp_names.specs.declared.identifiers.Aaid.{Aaid}
use Rattle.tp_names.specs.declared.identifiers.BranchId.{BranchId}
use Rattle.tp_names.specs.declared.identifiers.Addr.{Addr}
use Rattle.tp_records.specs.declared.dialogue.DialogueRecord.{DialogueRecord}
use Rattle.tp_records.specs.declared.dialogue.Holder.{Holder}
use Rattle.tp_records.specs.declared.peer.PeerRecord.{PeerRecord}
use Rattle.tp_model.specs.declared.arc.Phase.{Phase}
use Rattle.tp_model.specs.Parts.{Origin, Out, Entry, Current, Digest}
use Rattle.tp_model.specs.Dialogues.{is_active}
use Rattle.tp_model.specs.Node.{phase_of}
use Rattle.tp_model.specs.Events.{action, recovered_current}
use Rattle.tp_model.specs.History.{digest}
use Rattle.tp_model.specs.Outcomes.{is_now}
use Rattle.tp_model.specs.Questions.{said_to}
use Rattle.tp_model.specs.Legal.{IsGrown}
use Rattle.tp_histories.specs.Histories.{IsSentIn, HasSent}
use Rattle.tp_steps.specs.Moves.{IsLate, prelude}
use Rattle.tp_steps.specs.Traces.{is_old}
use Rattle.tp_steps.specs.Facts.{only_words, key_at, words_to}
use Rattle.tp_steps.specs.Trees.{begins_of, branch_of_tree, IsDrawn, IsOld, IsTreed}
use Rattle.tp_histories.specs.Members.{is_begun_by, has_taken_begin, is_own, is_known, IsOnce}
use Rattle.tp_histories.proofs.trees.Late.{late_law, late_prelude}
use Rattle.tp_steps.proofs.words.Leaves.{aaid_same}
use Rattle.tp_steps.proofs.lemmas.Phases.{was_active}
use Rattle.tp_steps.proofs.lemmas.Equality.{or_case, and_left, and_right}
use Rattle.tp_steps.proofs.words.Treed.{drawn_new}
use Rattle.tp_histories.proofs.trees.Knowing.{Came, As_it_was, By_begin, By_crash, came_by, old_prelude, foreign_old, treed_event, nil_now, now_prelude, known_more, known_drawn, known_begun, now_known}

-- a Begin among outputs is a word to its peer
pub sent_counts : (t : Aaid) (p : ℕ) (outs : List Out) (a : Addr) (x y : Mark) (q : ℕ) (b : BranchId) (i : Holder) → a.node ≡ p → IsSentIn outs a (PeerRecord.OnAssoc x y q (DialogueRecord.Begin t b i)) → suc 0 ≤ begins_of t (words_to p outs)
sent_counts t p [] a x y q b i at s = absurd s
sent_counts t p (Out.Tell j ∷ outs) a x y q b i at s = sent_counts t p outs a x y q b i at s
sent_counts t p (Out.Send c (PeerRecord.OnAssoc z w n r) ∷ outs) a x y q b i at (inl s) =
    let node : c.node ≡ p = ap (λ (u : Addr). u.node) s.0 ∙ at in
    let is : r ≡ DialogueRecord.Begin t b i = cc (s.1) in
    let words : words_to p (Out.Send c (PeerRecord.OnAssoc z w n r) ∷ outs) ≡ DialogueRecord.Begin t b i ∷ words_to p outs = rw (node, is) (grind (arith, nat_tests)) in
    let same = aaid_same t in
    rw words (grind (arith, same))
sent_counts t p (Out.Send c (PeerRecord.OnAssoc z w n r) ∷ outs) a x y q b i at (inr s) = more (c.node == p) r (sent_counts t p outs a x y q b i at s)
  where
    more : (v : Bool) (r : DialogueRecord) → suc 0 ≤ begins_of t (words_to p outs) → suc 0 ≤ begins_of t (only_words (if v then r ∷ said_to p outs else said_to p outs))
    more false r h = h
    more true r h = grind (arith, h)
sent_counts t p _ a x y q b i at (inl s) = absurd (cc (s.1))
sent_counts t p (Out.Send c _ ∷ outs) a x y q b i at (inr s) = sent_counts t p outs a x y q b i at s

-- a Begin that was sent is of a tree that is known
pub sent_known : (o : Origin) (up : Option Addr) (h : List Entry) (a : Addr) (x y : Mark) (q : ℕ) (t : Aaid) (b : BranchId) (i : Holder) → o.start.records ≡ [] → IsGrown o up h
    → HasSent h a (PeerRecord.OnAssoc x y q (DialogueRecord.Begin t b i)) → is_known o t h ≡ true
sent_known o up [] a x y q t b i empty legal s = absurd s
sent_known o up (e ∷ h) a x y q t b i empty legal (inr s) = known_more o up e h t legal (sent_known o up h a x y q t b i empty legal.3 s)
sent_known o up (e ∷ h) a x y q t b i empty legal (inl s) =
    let d : Digest = digest o h in
    let late = late_law o up h legal.3 in
    let k = treed_event o.who d e.event t a.node late legal.0 in
    let outs : IsSentIn (action o.who d e.event).outs a (PeerRecord.OnAssoc x y q (DialogueRecord.Begin t b i)) = subst (λ (f : Entry). IsSentIn f.outs a (PeerRecord.OnAssoc x y q (DialogueRecord.Begin t b i))) (sym legal.1) s in
    elim (k.born (late_prelude o.who d e.event late) (sent_counts t a.node (action o.who d e.event).outs a x y q b i refl outs)) [
      | inl n ↦ elim (now_prelude o.who d e.event t legal.0 n) [
        | inl j ↦ known_more o up e h t legal (now_known o up h t empty legal.3 j)
        | inr j ↦ known_begun o e h t j
      ]
      | inr z ↦ known_drawn o e h t (treed_event o.who d e.event t 0 late legal.0) z
    ]

-- no Begin of the node's own trees was taken
pub own_untaken : (o : Origin) (t : Aaid) (h : List Entry) → IsOnce o h → is_own o.who t ≡ true → has_taken_begin t h ≡ false
own_untaken o t [] once i = refl
own_untaken o t (e ∷ h) once i = on (is_begun_by t e.event) refl (own_untaken o t h once.1 i)
  where
    on : (b : Bool) → is_begun_by t e.event ≡ b → has_taken_begin t h ≡ false → (is_begun_by t e.event || has_taken_begin t h) ≡ false
    on true j rest = absurd (cc (i, (once.0 t j).0))
    on false j rest = rw (j, rest) refl

-- a current tree is drawn no more
pub now_old : (o : Origin) (up : Option Addr) (h : List Entry) (t : Aaid) → o.start.records ≡ [] → IsGrown o up h → IsOnce o h → is_now t (digest o h).current ≡ true → is_old o.who (digest o h) t.mark ≡ true
now_old o up h t empty legal once n = go (is_own o.who t) refl
  where
    go : (b : Bool) → is_own o.who t ≡ b → is_old o.who (digest o h) t.mark ≡ true
    go false i = foreign_old o.who (digest o h) t i
    go true i = elim (or_case (is_own o.who t && is_old o.who (digest o h) t.mark) (has_taken_begin t h) (now_known o up h t empty legal n)) [
      | inl j ↦ and_right (is_own o.who t) (is_old o.who (digest o h) t.mark) j
      | inr j ↦ absurd (cc (j, own_untaken o t h once i))
    ]

-- so it is after the prelude of an event
pub prelude_old : (o : Origin) (up : Option Addr) (e : Entry) (h : List Entry) (t : Aaid) → o.start.records ≡ [] → IsGrown o up (e ∷ h) → IsOnce o (e ∷ h) → IsOld o.who t (prelude o.who (digest o h) e.event)
prelude_old o up e h t empty legal once n = elim (now_prelude o.who (digest o h) e.event t legal.0 n) [
  | inl i ↦ old_prelude o.who (digest o h) e.event t.mark (now_old o up h t empty legal.3 once.1 i)
  | inr i ↦ foreign_old o.who (prelude o.who (digest o h) e.event) t ((once.0 t i).0)
]

-- a tree that was known and is current now was current before
pub now_before : (o : Origin) (up : Option Addr) (e : Entry) (h : List Entry) (t : Aaid) → o.start.records ≡ [] → IsGrown o up (e ∷ h) → IsOnce o (e ∷ h) → is_known o t h ≡ true
    → is_now t (prelude o.who (digest o h) e.event).current ≡ true → is_now t (digest o h).current ≡ true
now_before o up e h t empty legal once known n = elim (now_prelude o.who (digest o h) e.event t legal.0 n) [
  | inl i ↦ i
  | inr i ↦ elim (or_case (is_own o.who t && is_old o.who (digest o h) t.mark) (has_taken_begin t h) known) [
    | inl j ↦ absurd (cc ((once.0 t i).0, and_left (is_own o.who t) (is_old o.who (digest o h) t.mark) j))
    | inr j ↦ absurd (cc ((once.0 t i).1, j))
  ]
]

-- what is known is drawn no more
pub known_old : (o : Origin) (h : List Entry) (t : Aaid) → IsOnce o h → is_known o t h ≡ true → is_old o.who (digest o h) t.mark ≡ true
known_old o h t once k = go (is_own o.who t) refl (or_case (is_own o.who t && is_old o.who (digest o h) t.mark) (has_taken_begin t h) k)
  where
    go : (b : Bool) → is_own o.who t ≡ b → ((is_own o.who t && is_old o.who (digest o h) t.mark) ≡ true) ⊎ (has_taken_begin t h ≡ true) → is_old o.who (digest o h) t.mark ≡ true
    go b i (inl j) = and_right (is_own o.who t) (is_old o.who (digest o h) t.mark) j
    go false i (inr j) = foreign_old o.who (digest o h) t i
    go true i (inr j) = absurd (cc (j, own_untaken o t h once i))

pub now_then : (o : Origin) (up : Option Addr) (e : Entry) (h : List Entry) (t : Aaid) → o.start.records ≡ [] → IsGrown o up (e ∷ h) → IsOnce o (e ∷ h) → is_known o t h ≡ true
    → is_now t (digest o (e ∷ h)).current ≡ true → is_now t (digest o h).current ≡ true
now_then o up e h t empty legal once known n =
    let d : Digest = digest o h in
    let late = late_law o up h legal.3 in
    let k = treed_event o.who d e.event t 0 late legal.0 in
    elim (k.enters (late_prelude o.who d e.event late) n) [
      | inl i ↦ now_before o up e h t empty legal once known i
      | inr x ↦ absurd (drawn_new o.who (prelude o.who d e.event) (action o.who d e.event).next t x (old_prelude o.who d e.event t.mark (known_old o h t once.1 known)))
    ]

-- ---- while the tree is current and active, the branch that was begun stands

no_sum : (a b n : ℕ) → suc 0 ≤ a → suc 0 ≤ b → a + b ≤ n → n ≤ 1 → ⊥
no_sum a b n h i j k = absurd (omega (arith, h, i, j, k))

pub at_least : (a b n : ℕ) → suc 0 ≤ a → a + b ≤ n → suc 0 ≤ n
at_least a b n h i = omega (arith, h, i)

pub at_least_right : (a b n : ℕ) → suc 0 ≤ b → a + b ≤ n → suc 0 ≤ n
at_least_right a b n h i = omega (arith, h, i)

active_not : (o : Option Current) (t : Aaid) → is_now t (recovered_current o) ≡ true → is_active (elim (recovered_current o) as (λ _. Phase) [ None ↦ Phase.Nil | Some c ↦ c.phase ]) ≡ false
active_not None t h = absurd cc
active_not (Some c) t h = grind (arith, h)

phase_same : (d e : Digest) → d.current ≡ e.current → phase_of d ≡ phase_of e
phase_same d e h = ap (λ (o : Option Current). elim o as (λ _. Phase) [ None ↦ Phase.Nil | Some c ↦ c.phase ]) h

pub sent_row : (o : Origin) (up : Option Addr) (h : List Entry) (a : Addr) (x y : Mark) (q : ℕ) (t : Aaid) (b : BranchId) (i : Holder) → o.start.records ≡ [] → IsGrown o up h → IsOnce o h
    → HasSent h a (PeerRecord.OnAssoc x y q (DialogueRecord.Begin t b i)) → is_now t (digest o h).current ≡ true → is_active (phase_of (digest o h)) ≡ true → suc 0 ≤ branch_of_tree t (key_at (digest o h).current a.node)
sent_row o up [] a x y q t b i empty legal once s n act = absurd s
sent_row o up (e ∷ h) a x y q t b i empty legal once s n act = go s (sent_row o up h a x y q t b i empty legal.3 once.1)
  where
    d : Digest
    d = digest o h

    w : Digest
    w = prelude o.who d e.event

    late : IsLate w
    late = late_prelude o.who d e.event (late_law o up h legal.3)

    k : IsTreed o.who w true t a.node w (action o.who d e.event)
    k = treed_event o.who d e.event t a.node (late_law o up h legal.3) legal.0

    old : IsOld o.who t w
    old = prelude_old o up e h t empty legal once

    more : begins_of t (words_to a.node (action o.who d e.event).outs) + branch_of_tree t (key_at w.current a.node) ≤ branch_of_tree t (key_at (digest o (e ∷ h)).current a.node)
    more = k.more late old n

    go : IsSentIn e.outs a (PeerRecord.OnAssoc x y q (DialogueRecord.Begin t b i)) ⊎ HasSent h a (PeerRecord.OnAssoc x y q (DialogueRecord.Begin t b i))
        → (HasSent h a (PeerRecord.OnAssoc x y q (DialogueRecord.Begin t b i)) → is_now t d.current ≡ true → is_active (phase_of d) ≡ true → suc 0 ≤ branch_of_tree t (key_at d.current a.node))
        → suc 0 ≤ branch_of_tree t (key_at (digest o (e ∷ h)).current a.node)
    go (inl s) rest =
        let outs : IsSentIn (action o.who d e.event).outs a (PeerRecord.OnAssoc x y q (DialogueRecord.Begin t b i)) = subst (λ (f : Entry). IsSentIn f.outs a (PeerRecord.OnAssoc x y q (DialogueRecord.Begin t b i))) (sym legal.1) s in
        at_least (begins_of t (words_to a.node (action o.who d e.event).outs)) (branch_of_tree t (key_at w.current a.node)) (branch_of_tree t (key_at (digest o (e ∷ h)).current a.node))
        (sent_counts t a.node (action o.who d e.event).outs a x y q b i refl outs) more
    go (inr s) rest =
        let known = sent_known o up h a x y q t b i empty legal.3 s in
        let before = now_then o up e h t empty legal once known n in
        at before (came_by o.who d e.event legal.0) (mid known)
      where
        -- the tree is current after the prelude too
        mid : is_known o t h ≡ true → is_now t w.current ≡ true
        mid known = elim (k.enters late n) [
          | inl j ↦ j
          | inr z ↦ absurd (drawn_new o.who w (action o.who d e.event).next t z (old_prelude o.who d e.event t.mark (known_old o h t once.1 known)))
        ]

        was : is_now t w.current ≡ true → is_active (phase_of w) ≡ true
        was m = was_active (phase_of w) (phase_of (digest o (e ∷ h))) (k.moves late old m n) act

        at : is_now t d.current ≡ true → Came o.who d e.event → is_now t w.current ≡ true → suc 0 ≤ branch_of_tree t (key_at (digest o (e ∷ h)).current a.node)
        at before (As_it_was cur) m =
            let row = rest s before (ap is_active (sym (phase_same w d cur)) ∙ was m) in
            at_least_right (begins_of t (words_to a.node (action o.who d e.event).outs)) (branch_of_tree t (key_at w.current a.node)) (branch_of_tree t (key_at (digest o (e ∷ h)).current a.node))
            (subst (λ (u : Option Current). suc 0 ≤ branch_of_tree t (key_at u a.node)) (sym cur) row) more
        at before (By_begin from z v r u c j g is found cur nil above) m = absurd (cc (before, nil_now d t (late_law o up h legal.3) nil))
        at before (By_crash is cur) m =
            let still : is_now t (recovered_current d.current) ≡ true = ap (is_now t) (sym cur) ∙ m in
            let no : is_active (phase_of w) ≡ false = ap (λ (u : Option Current). is_active (elim u as (λ _. Phase) [ None ↦ Phase.Nil | Some c ↦ c.phase ])) cur ∙ active_not d.current t still in
            absurd (cc (was m, no))

-- ---- a tree's Begin goes to a peer once

abbrev pub SamePlace : Mark → Mark → ℕ → Mark → Mark → ℕ → Type 0
SamePlace x y q z w r = (x ≡ z) × (y ≡ w) × (q ≡ r)

two_begins : (t : Aaid) (p : ℕ) (outs : List Out) (e : Addr) (m : PeerRecord) (a : Addr) (x y : Mark) (q : ℕ) (b : BranchId) (i : Holder) → begins_of t (words_to p (Out.Send e m ∷ outs)) ≤ 1 → a.node ≡ p
    → (e ≡ a) × (m ≡ PeerRecord.OnAssoc x y q (DialogueRecord.Begin t b i)) → suc 0 ≤ begins_of t (words_to p outs) → ⊥
two_begins t p outs e m a x y q b i most at s more =
    let node : e.node ≡ p = ap (λ (u : Addr). u.node) s.0 ∙ at in
    let words : words_to p (Out.Send e m ∷ outs) ≡ DialogueRecord.Begin t b i ∷ words_to p outs = ap (λ (r : PeerRecord). words_to p (Out.Send e r ∷ outs)) s.1 ∙ rw node (grind (arith, nat_tests)) in
    let same = aaid_same t in
    let count : begins_of t (words_to p (Out.Send e m ∷ outs)) ≡ suc (begins_of t (words_to p outs)) = ap (begins_of t) words ∙ grind (arith, same) in
    absurd (omega (arith, most, more, count))

one_begin : (t : Aaid) (p : ℕ) (outs : List Out) (a c : Addr) (x y z w : Mark) (q r : ℕ) (b k : BranchId) (i j : Holder) → begins_of t (words_to p outs) ≤ 1 → a.node ≡ p → c.node ≡ p
    → IsSentIn outs a (PeerRecord.OnAssoc x y q (DialogueRecord.Begin t b i)) → IsSentIn outs c (PeerRecord.OnAssoc z w r (DialogueRecord.Begin t k j)) → SamePlace x y q z w r
one_begin t p [] a c x y z w q r b k i j most at to s u = absurd s
one_begin t p (Out.Tell g ∷ outs) a c x y z w q r b k i j most at to s u = one_begin t p outs a c x y z w q r b k i j most at to s u
one_begin t p (Out.Send e m ∷ outs) a c x y z w q r b k i j most at to (inl s) (inl u) =
    let same : PeerRecord.OnAssoc x y q (DialogueRecord.Begin t b i) ≡ PeerRecord.OnAssoc z w r (DialogueRecord.Begin t k j) = sym s.1 ∙ u.1 in
    (cc (same), cc (same), cc (same))
one_begin t p (Out.Send e m ∷ outs) a c x y z w q r b k i j most at to (inr s) (inr u) = one_begin t p outs a c x y z w q r b k i j (fewer m) at to s u
  where
    fewer : (m : PeerRecord) → begins_of t (words_to p outs) ≤ 1
    fewer v = rest m most
      where
        on : (v : Bool) (n : DialogueRecord) → begins_of t (only_words (if v then n ∷ said_to p outs else said_to p outs)) ≤ 1 → begins_of t (words_to p outs) ≤ 1
        on false n h = h
        on true n h = grind (arith, h)

        rest : (m : PeerRecord) → begins_of t (words_to p (Out.Send e m ∷ outs)) ≤ 1 → begins_of t (words_to p outs) ≤ 1
        rest (PeerRecord.OnAssoc f g l n) h = on (e.node == p) n h
        rest (PeerRecord.OpenAssoc f g) h = h
        rest (PeerRecord.AcceptAssoc f g l) h = h
        rest (PeerRecord.ShutAssoc f g) h = h
        rest (PeerRecord.RecReady f g) h = h
        rest (PeerRecord.RecCommit f g) h = h
        rest (PeerRecord.RecReply f g l) h = h
        rest (PeerRecord.Forget f g) h = h
one_begin t p (Out.Send e m ∷ outs) a c x y z w q r b k i j most at to (inl s) (inr u) =
    absurd (two_begins t p outs e m a x y q b i most at s (sent_counts t p outs c z w r k j to u))
one_begin t p (Out.Send e m ∷ outs) a c x y z w q r b k i j most at to (inr s) (inl u) =
    absurd (two_begins t p outs e m c z w r k j most to u (sent_counts t p outs a x y q b i at s))

at_most_one : (a b : ℕ) → a + b ≤ 1 → a ≤ 1
at_most_one a b h = omega (arith, h)

-- one Begin now, and an older one
never_again : (o : Origin) (up : Option Addr) (e : Entry) (h : List Entry) (a c : Addr) (x y z w : Mark) (q r : ℕ) (t : Aaid) (b k : BranchId) (i j : Holder) → o.start.records ≡ [] → IsGrown o up (e ∷ h) → IsOnce o (e ∷ h)
    → a.node ≡ c.node → IsSentIn e.outs a (PeerRecord.OnAssoc x y q (DialogueRecord.Begin t b i)) → HasSent h c (PeerRecord.OnAssoc z w r (DialogueRecord.Begin t k j)) → ⊥
never_again o up e h a c x y z w q r t b k i j empty legal once same new old = at (treed.born late some)
  where
    d : Digest
    d = digest o h

    p : Digest
    p = prelude o.who d e.event

    late : IsLate p
    late = late_prelude o.who d e.event (late_law o up h legal.3)

    treed : IsTreed o.who p true t c.node p (action o.who d e.event)
    treed = treed_event o.who d e.event t c.node (late_law o up h legal.3) legal.0

    was_old : IsOld o.who t p
    was_old = prelude_old o up e h t empty legal once

    some : suc 0 ≤ begins_of t (words_to c.node (action o.who d e.event).outs)
    some = sent_counts t c.node (action o.who d e.event).outs a x y q b i same (subst (λ (f : Entry). IsSentIn f.outs a (PeerRecord.OnAssoc x y q (DialogueRecord.Begin t b i))) (sym legal.1) new)

    known : is_known o t h ≡ true
    known = sent_known o up h c z w r t k j empty legal.3 old

    most : begins_of t (words_to c.node (action o.who d e.event).outs) + branch_of_tree t (key_at p.current c.node) ≤ 1
    most = treed.once late was_old

    row : is_now t p.current ≡ true → Came o.who d e.event → suc 0 ≤ branch_of_tree t (key_at p.current c.node)
    row n (As_it_was cur) =
        let before : is_now t d.current ≡ true = ap (is_now t) (sym cur) ∙ n in
        let act : is_active (phase_of d) ≡ true = ap is_active (sym (phase_same p d cur)) ∙ treed.active late was_old some n in
        subst (λ (u : Option Current). suc 0 ≤ branch_of_tree t (key_at u c.node)) (sym cur) (sent_row o up h c z w r t k j empty legal.3 once.1 old before act)
    row n (By_begin from f g l u v s arc is found cur nil above) = absurd (cc (now_before o up e h t empty legal once known n, nil_now d t (late_law o up h legal.3) nil))
    row n (By_crash is cur) =
        let still : is_now t (recovered_current d.current) ≡ true = ap (is_now t) (sym cur) ∙ n in
        let no : is_active (phase_of p) ≡ false = ap (λ (u : Option Current). is_active (elim u as (λ _. Phase) [ None ↦ Phase.Nil | Some c ↦ c.phase ])) cur ∙ active_not d.current t still in
        absurd (cc (treed.active late was_old some n, no))

    at : (is_now t p.current ≡ true) ⊎ IsDrawn o.who p (action o.who d e.event).next t → ⊥
    at (inl n) = no_sum (begins_of t (words_to c.node (action o.who d e.event).outs)) (branch_of_tree t (key_at p.current c.node)) 1 some (row n (came_by o.who d e.event legal.0)) most (one_one)
      where
        one_one : 1 ≤ 1
        one_one = omega arith
    at (inr v) = drawn_new o.who p (action o.who d e.event).next t v (old_prelude o.who d e.event t.mark (known_old o h t once.1 known))

pub begin_once : (o : Origin) (up : Option Addr) (h : List Entry) (a c : Addr) (x y z w : Mark) (q r : ℕ) (t : Aaid) (b k : BranchId) (i j : Holder) → o.start.records ≡ [] → IsGrown o up h → IsOnce o h → a.node ≡ c.node
    → HasSent h a (PeerRecord.OnAssoc x y q (DialogueRecord.Begin t b i)) → HasSent h c (PeerRecord.OnAssoc z w r (DialogueRecord.Begin t k j)) → SamePlace x y q z w r
begin_once o up [] a c x y z w q r t b k i j empty legal once same s u = absurd s
begin_once o up (e ∷ h) a c x y z w q r t b k i j empty legal once same (inr s) (inr u) = begin_once o up h a c x y z w q r t b k i j empty legal.3 once.1 same s u
begin_once o up (e ∷ h) a c x y z w q r t b k i j empty legal once same (inl s) (inr u) = absurd (never_again o up e h a c x y z w q r t b k i j empty legal once same s u)
begin_once o up (e ∷ h) a c x y z w q r t b k i j empty legal once same (inr s) (inl u) = absurd (never_again o up e h c a z w x y r q t k b j i empty legal once (sym same) u s)
begin_once o up (e ∷ h) a c x y z w q r t b k i j empty legal once same (inl s) (inl u) =
    let d : Digest = digest o h in
    let p : Digest = prelude o.who d e.event in
    let treed = treed_event o.who d e.event t c.node (late_law o up h legal.3) legal.0 in
    let most = treed.once (late_prelude o.who d e.event (late_law o up h legal.3)) (prelude_old o up e h t empty legal once) in
    let outs : e.outs ≡ (action o.who d e.event).outs = ap (λ (f : Entry). f.outs) (sym legal.1) in
    one_begin t c.node e.outs a c x y z w q r b k i j (subst (λ (v : List Out). begins_of t (words_to c.node v) ≤ 1) (sym outs) (at_most_one (begins_of t (words_to c.node (action o.who d e.event).outs)) (branch_of_tree t (key_at p.current c.node)) most)) same refl s u
