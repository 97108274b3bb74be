-- Who the two ends of an association are: the marks of a pair tell the nodes that drew them, and a mark that a node drew
-- for an association of its own is used with one peer alone.
use Rattle.std.proofs.Common.{◌≡◌, ◌⊎◌, inl, inr, ℕ, Bool, true, false, refl, ap, sym, ◌∙◌, arith, Option, Some, None, List, [], ◌∷◌, ◌==◌}
use Rattle.std.proofs.lemmas.Bool.Decides.{nat_tests}
use Rattle.tp_names.specs.declared.identifiers.Mark.{Mark}
use Rattle.tp_names.specs.declared.identifiers.Addr.{Addr}
use Rattle.tp_model.specs.Parts.{Who, Origin, Event, Entry, Link, Idle, Opening, Offered, Live, Digest}
use Rattle.tp_model.specs.Arcs.{link_with}
use Rattle.tp_model.specs.Node.{next_mark}
use Rattle.tp_model.specs.Events.{action, after, started}
use Rattle.tp_model.specs.History.{digest}
use Rattle.tp_model.specs.Questions.{sent_more, is_at}
use Rattle.tp_model.specs.Legal.{IsGrown}
use Rattle.tp_steps.specs.Moves.{prelude}
use Rattle.tp_steps.specs.Traces.{count_to, sent_of, is_old}
use Rattle.tp_histories.specs.Traces.{sent_on, own_mark, own_old, IsTraced}
use Rattle.tp_histories.specs.Ends.{own_is, opened, IsAlone}
use Rattle.tp_histories.proofs.trees.Late.{late_law}
use Rattle.tp_steps.proofs.every.Preludes.{Prelinked, As_before, Now_idle, Now_called, Now_offered, Now_accepted, Now_confirmed, Took_one, called_at, marks_same}
use Rattle.tp_steps.proofs.links.Marks.{has_pair, new_mark}
use Rattle.tp_histories.proofs.marks.Traced.{Told, told, traced_law, quiet_step, both}
use Rattle.tp_steps.proofs.lemmas.Options.{some_same}

-- ---- the marks of a link

own_more : (who : Who) (up : Option Addr) (p n : ℕ) (l : Link) → own_is who up p (sent_more n l) ≡ own_is who up p l
own_more who up p n Idle = refl
own_more who up p n (Opening x) = refl
own_more who up p n (Offered x) = refl
own_more who up p n (Live x y s t) = refl

opened_more : (n : ℕ) (l : Link) → opened (sent_more n l) ≡ opened l
opened_more n Idle = refl
opened_more n (Opening x) = refl
opened_more n (Offered x) = refl
opened_more n (Live x y s t) = refl

own_next : (who : Who) (d : Digest) → ((next_mark who d).node == who.node) ≡ true
own_next who d = grind (arith, nat_tests)

-- ---- one event

own_pre : (who : Who) (up : Option Addr) (d : Digest) (e : Event) (p : ℕ) (l : Link) → Prelinked who up p d e l → own_old who d up p (link_with d.arcs p) ≡ true → own_is who up p (link_with d.arcs p) ≡ true
    → own_is who up p l ≡ true
own_pre who up d e p l (As_before i none) old own = ap (own_is who up p) i ∙ own
own_pre who up d e p l (Now_idle i none) old own = ap (own_is who up p) i
own_pre who up d e p l (Now_called i down n none below calls) old own = ap (own_is who up p) i ∙ own_next who d
own_pre who up d e p l (Now_offered x i u none) old own = ap (own_is who up p) i
own_pre who up d e p l (Now_accepted x i u n none nil) old own = ap (own_is who up p) i ∙ rw u (own_next who d)
own_pre who up d e p l (Now_confirmed x y o i none) old own =
    let was : own_old who d up p (Opening x) ≡ true = ap (own_old who d up p) (sym o) ∙ old in
    let down : is_at up p ≡ false = grind (arith, was) in
    let mine : own_is who up p (Opening x) ≡ true = ap (own_is who up p) (sym o) ∙ own in
    ap (own_is who up p) i ∙ rw down mine
own_pre who up d e p l (Took_one a x y s t r i j at ev) old own =
    let was : own_is who up p (Live x y s t) ≡ true = ap (own_is who up p) (sym i) ∙ own in
    ap (own_is who up p) j ∙ was

-- what was opened was so before, or is opened now
data Opens (who : Who) (d : Digest) (e : Event) (p : ℕ) (x : Mark) : Type 0 where
  Before : opened (link_with d.arcs p) ≡ Some x → Opens who d e p x
  Now : next_mark who d ≡ x → called_at e ≡ Some p → Opens who d e p x

opens_pre : (who : Who) (up : Option Addr) (d : Digest) (e : Event) (p : ℕ) (x : Mark) (l : Link) → Prelinked who up p d e l → is_at up p ≡ false → opened l ≡ Some x → Opens who d e p x
opens_pre who up d e p x l (As_before i none) below is = Before (ap opened (sym i) ∙ is)
opens_pre who up d e p x l (Now_idle i none) below is = let no : None ≡ Some x = ap opened (sym i) ∙ is in absurd (cc (no))
opens_pre who up d e p x l (Now_called i down n none branch calls) below is = Now (some_same (next_mark who d) x (ap opened (sym i) ∙ is)) calls
opens_pre who up d e p x l (Now_offered z i u none) below is = let no : None ≡ Some x = ap opened (sym i) ∙ is in absurd (cc (no))
opens_pre who up d e p x l (Now_accepted z i u n none nil) below is = absurd (cc (u, below))
opens_pre who up d e p x l (Now_confirmed z w o i none) below is = let same : Some z ≡ Some x = ap opened (sym i) ∙ is in Before (ap opened o ∙ same)
opens_pre who up d e p x l (Took_one a z w s t r i j at ev) below is = let same : Some z ≡ Some x = ap opened (sym j) ∙ is in Before (ap opened i ∙ same)

-- ---- the law

-- a mark that is drawn now is on no link of before
not_new : (who : Who) (up : Option Addr) (d : Digest) (h : List Entry) → IsTraced who up d h → (p : ℕ) (x : Mark) → is_at up p ≡ false → opened (link_with d.arcs p) ≡ Some x → next_mark who d ≡ x → ⊥
not_new who up d h traced p x below is new = go (link_with d.arcs p) (traced.own p) is
  where
    young : is_old who d x ≡ false
    young = ap (is_old who d) (sym new) ∙ new_mark who d

    go : (l : Link) → own_old who d up p l ≡ true → opened l ≡ Some x → ⊥
    go Idle old i = absurd (cc (i))
    go (Offered z) old i = absurd (cc (i))
    go (Opening z) old i = let same = some_same z x i in let aged : is_old who d z ≡ true = grind (arith, old) in cc (same, young, aged)
    go (Live z w s t) old i =
        let same = some_same z x i in
        let mine : own_mark up p z w ≡ z = rw below refl in
        let aged : is_old who d z ≡ true = ap (is_old who d) (sym mine) ∙ old in
        cc (same, young, aged)

alone_pre : (who : Who) (up : Option Addr) (d : Digest) (e : Event) (h : List Entry) → IsTraced who up d h → IsAlone who up d h → ((p : ℕ) → Told who up p d e) → (p q : ℕ) (x : Mark) → is_at up p ≡ false → is_at up q ≡ false
    → opened (link_with (prelude who d e).arcs p) ≡ Some x → opened (link_with (prelude who d e).arcs q) ≡ Some x → p ≡ q
alone_pre who up d e h traced alone k p q x one two i j =
    go (opens_pre who up d e p x (link_with (prelude who d e).arcs p) (k p).pre one i) (opens_pre who up d e q x (link_with (prelude who d e).arcs q) (k q).pre two j)
  where
    go : Opens who d e p x → Opens who d e q x → p ≡ q
    go (Before a) (Before b) = alone.apart p q x one two a b
    go (Before a) (Now n b) = absurd (not_new who up d h traced p x one a n)
    go (Now n a) (Before b) = absurd (not_new who up d h traced q x two b n)
    go (Now n a) (Now m b) = let same : Some p ≡ Some q = sym a ∙ b in cc (same)

-- what is opened after the event was opened in its prelude
opened_after : (who : Who) (up : Option Addr) (d : Digest) (e : Event) (p : ℕ) (x : Mark) → Told who up p d e → opened (link_with (after who d e).arcs p) ≡ Some x → opened (link_with (prelude who d e).arcs p) ≡ Some x
opened_after who up d e p x k is = elim k.linked.over.link [
  | inl i ↦ sym (opened_more (count_to p (action who d e).outs) (link_with (prelude who d e).arcs p)) ∙ ap opened (sym i) ∙ is
  | inr i ↦ let no : None ≡ Some x = ap opened (sym i) ∙ is in absurd (cc (no))
]

own_after : (who : Who) (up : Option Addr) (d : Digest) (e : Event) (p : ℕ) → Told who up p d e → own_is who up p (link_with (prelude who d e).arcs p) ≡ true → own_is who up p (link_with (after who d e).arcs p) ≡ true
own_after who up d e p k pre = elim k.linked.over.link [
  | inl i ↦ ap (own_is who up p) i ∙ own_more who up p (count_to p (action who d e).outs) (link_with (prelude who d e).arcs p) ∙ pre
  | inr i ↦ ap (own_is who up p) i
]

-- a link that has the pair opened with its first mark, and its own mark is this node's
pair_opened : (l : Link) (x y : Mark) → has_pair l x y ≡ true → opened l ≡ Some x
pair_opened (Live z w s t) x y h = let same = marks_same x z (grind (arith, h)) in ap (λ (m : Mark). Some m) (sym same)
pair_opened _ x y h = absurd cc

pair_own : (who : Who) (up : Option Addr) (p : ℕ) (l : Link) (x y : Mark) → has_pair l x y ≡ true → own_is who up p l ≡ true → (own_mark up p x y).node ≡ who.node
pair_own who up p (Live z w s t) x y h own =
    let ez = marks_same x z (grind (arith, h)) in
    let ew = marks_same y w (grind (arith, h)) in
    let mine : (own_mark up p z w).node ≡ who.node = grind (arith, nat_tests, own) in
    rw (ez, ew) mine
pair_own who up p _ x y h own = absurd cc

alone_said : (who : Who) (up : Option Addr) (d : Digest) (e : Entry) (h : List Entry) → IsAlone who up d h → (p : ℕ) → Told who up p d e.event → own_is who up p (link_with (prelude who d e.event).arcs p) ≡ true
    → e.outs ≡ (action who d e.event).outs → (x y : Mark) → (sent_on x y p (e ∷ h) ≡ []) ⊎ ((own_mark up p x y).node ≡ who.node)
alone_said who up d e h alone p k own outs x y = go (has_pair (link_with (prelude who d e.event).arcs p) x y) refl
  where
    go : (b : Bool) → has_pair (link_with (prelude who d e.event).arcs p) x y ≡ b → (sent_on x y p (e ∷ h) ≡ []) ⊎ ((own_mark up p x y).node ≡ who.node)
    go true i = inr (pair_own who up p (link_with (prelude who d e.event).arcs p) x y i own)
    go false i =
        let step : sent_of x y p e.outs ≡ [] = ap (sent_of x y p) outs ∙ (quiet_step who up d e.event p x y k i).0 in
        elim (alone.said p x y) [ inl none ↦ inl (both (sent_on x y p h) (sent_of x y p e.outs) none step) | inr mine ↦ inr mine ]

alone_quiet : (who : Who) (up : Option Addr) (d : Digest) (e : Entry) (h : List Entry) → IsTraced who up d h → IsAlone who up d h → ((p : ℕ) → Told who up p d e.event) → e.outs ≡ (action who d e.event).outs
    → (p q : ℕ) (x y : Mark) → is_at up p ≡ false → is_at up q ≡ false → opened (link_with (prelude who d e.event).arcs p) ≡ Some x → (sent_on x y q (e ∷ h) ≡ []) ⊎ (p ≡ q)
alone_quiet who up d e h traced alone k outs p q x y one two is = go (has_pair (link_with (prelude who d e.event).arcs q) x y) refl
  where
    old : Opens who d e.event p x → (sent_on x y q h ≡ []) ⊎ (p ≡ q)
    old (Before a) = alone.quiet p q x y one two a
    old (Now n a) =
        let mine : own_mark up q x y ≡ x = rw two refl in
        let young : is_old who d (own_mark up q x y) ≡ false = ap (is_old who d) mine ∙ ap (is_old who d) (sym n) ∙ new_mark who d in
        inl (traced.fresh q x y young).0

    go : (b : Bool) → has_pair (link_with (prelude who d e.event).arcs q) x y ≡ b → (sent_on x y q (e ∷ h) ≡ []) ⊎ (p ≡ q)
    go true i = inr (alone_pre who up d e.event h traced alone k p q x one two is (pair_opened (link_with (prelude who d e.event).arcs q) x y i))
    go false i =
        let step : sent_of x y q e.outs ≡ [] = ap (sent_of x y q) outs ∙ (quiet_step who up d e.event q x y (k q) i).0 in
        elim (old (opens_pre who up d e.event p x (link_with (prelude who d e.event).arcs p) (k p).pre one is)) [
          | inl none ↦ inl (both (sent_on x y q h) (sent_of x y q e.outs) none step)
          | inr same ↦ inr same
        ]

pub alone_law : (o : Origin) (up : Option Addr) (h : List Entry) → IsGrown o up h → IsAlone o.who up (digest o h) h
unfolding started
alone_law o up [] legal = record {
  own = λ p. refl;
  said = λ p x y. inl refl;
  apart = λ p q x one two i j. absurd (cc (i));
  quiet = λ p q x y one two i. inl refl;
}
alone_law o up (e ∷ h) legal =
    let d : Digest = digest o h in
    let traced = traced_law o up h legal.3 in
    let alone = alone_law o up h legal.3 in
    let k : (p : ℕ) → Told o.who up p d e.event = λ p. told o.who up p d e.event (late_law o up h legal.3) traced.under traced.declared legal.0 in
    let outs : e.outs ≡ (action o.who d e.event).outs = ap (λ (f : Entry). f.outs) (sym legal.1) in
    let pre : (p : ℕ) → own_is o.who up p (link_with (prelude o.who d e.event).arcs p) ≡ true = λ p. own_pre o.who up d e.event p (link_with (prelude o.who d e.event).arcs p) (k p).pre (traced.own p) (alone.own p) in
    record {
      own = λ p. own_after o.who up d e.event p (k p) (pre p);
      said = λ p x y. alone_said o.who up d e h alone p (k p) (pre p) outs x y;
      apart = λ p q x one two i j. alone_pre o.who up d e.event h traced alone k p q x one two (opened_after o.who up d e.event p x (k p) i) (opened_after o.who up d e.event q x (k q) j);
      quiet = λ p q x y one two i. alone_quiet o.who up d e h traced alone k outs p q x y one two (opened_after o.who up d e.event p x (k p) i);
    }
