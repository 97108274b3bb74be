-- What goes out on a pair of marks, and which marks are drawn.
use Rattle.std.proofs.Common.{◌≡◌, ◌≤◌, ◌⊎◌, inl, inr, ℕ, suc, Bool, true, false, refl, subst, ◌∙◌, arith, List, [], ◌∷◌, ◌&&◌, ◌==◌}
use Rattle.std.proofs.lemmas.Bool.Decides.{nat_tests}
use Rattle.tp_names.specs.declared.identifiers.Mark.{Mark}
use Rattle.tp_names.specs.Same.{is_mark}
use Rattle.tp_records.specs.declared.peer.PeerRecord.{PeerRecord}
use Rattle.tp_model.specs.Parts.{Who, Event, Out, Link, Idle, Opening, Offered, Live, Digest}
use Rattle.tp_model.specs.Node.{next_mark}
use Rattle.tp_model.specs.Events.{after_crash}
use Rattle.tp_model.specs.Questions.{said_to}
use Rattle.tp_steps.specs.Moves.{prelude}
use Rattle.tp_steps.specs.Traces.{is_next, sent_one, fits, sent_of, is_old}
use Rattle.tp_steps.proofs.links.Links.{mark_same}
use Rattle.tp_steps.proofs.every.Preludes.{marks_same}

-- ---- what goes out on a pair

-- over a live link goes what is said to the peer
pub sent_is_said : (x y : Mark) (p s t : ℕ) (outs : List Out) → fits p (Live x y s t) outs ≡ true → sent_of x y p outs ≡ said_to p outs
sent_is_said x y p s t [] h = refl
sent_is_said x y p s t (Out.Tell i ∷ outs) h = sent_is_said x y p s t outs h
sent_is_said x y p s t (Out.Send a (PeerRecord.OnAssoc z w q r) ∷ outs) h = go (a.node == p) refl (sent_is_said x y p (suc s) t outs) (sent_is_said x y p s t outs)
  where
    go : (b : Bool) → (a.node == p) ≡ b → (fits p (Live x y (suc s) t) outs ≡ true → sent_of x y p outs ≡ said_to p outs) → (fits p (Live x y s t) outs ≡ true → sent_of x y p outs ≡ said_to p outs)
        → sent_of x y p (Out.Send a (PeerRecord.OnAssoc z w q r) ∷ outs) ≡ said_to p (Out.Send a (PeerRecord.OnAssoc z w q r) ∷ outs)
    go true i one two =
        let mx : is_mark x z ≡ true = grind (arith, h, i) in
        let my : is_mark y w ≡ true = grind (arith, h, i) in
        let rest : sent_of x y p outs ≡ said_to p outs = one (grind (arith, h, i)) in
        grind (arith, i, mx, my, rest)
    go false i one two =
        let rest : sent_of x y p outs ≡ said_to p outs = two (grind (arith, h, i)) in
        grind (arith, i, rest)
sent_is_said x y p s t (Out.Send a _ ∷ outs) h = sent_is_said x y p s t outs h

-- the link has the pair
abbrev pub has_pair : Link → Mark → Mark → Bool
has_pair Idle x y = false
has_pair (Opening z) x y = false
has_pair (Offered z) x y = false
has_pair (Live z w s t) x y = is_mark x z && is_mark y w

pair_stays : (l : Link) (x y : Mark) → has_pair (sent_one l) x y ≡ has_pair l x y
pair_stays Idle x y = refl
pair_stays (Opening z) x y = refl
pair_stays (Offered z) x y = refl
pair_stays (Live z w s t) x y = refl

next_pair : (l : Link) (x y z w : Mark) (q : ℕ) → is_next l z w q ≡ true → has_pair l x y ≡ false → (is_mark x z && is_mark y w) ≡ false
next_pair (Live a b s t) x y z w q h i =
    let ea = marks_same a z (mark_swap z a (grind (arith, h))) in
    let eb = marks_same b w (mark_swap w b (grind (arith, h))) in
    rw (← ea, ← eb) i
  where
    mark_swap : (m n : Mark) → (is_mark n m ≡ true) ⊎ (is_mark m n ≡ true) → is_mark n m ≡ true
    mark_swap m n (inl k) = k
    mark_swap m n (inr k) = let same = marks_same m n k in subst (λ (u : Mark). is_mark u m ≡ true) same (mark_same m)
next_pair _ x y z w q h i = absurd cc

pub sent_none : (x y : Mark) (p : ℕ) (l : Link) (outs : List Out) → fits p l outs ≡ true → has_pair l x y ≡ false → sent_of x y p outs ≡ []
sent_none x y p l [] h i = refl
sent_none x y p l (Out.Tell j ∷ outs) h i = sent_none x y p l outs h i
sent_none x y p l (Out.Send a (PeerRecord.OnAssoc z w q r) ∷ outs) h i = go (a.node == p) refl (sent_none x y p (sent_one l) outs) (sent_none x y p l outs)
  where
    go : (b : Bool) → (a.node == p) ≡ b → (fits p (sent_one l) outs ≡ true → has_pair (sent_one l) x y ≡ false → sent_of x y p outs ≡ []) → (fits p l outs ≡ true → has_pair l x y ≡ false → sent_of x y p outs ≡ [])
        → sent_of x y p (Out.Send a (PeerRecord.OnAssoc z w q r) ∷ outs) ≡ []
    go true j one two =
        let other = next_pair l x y z w q (grind (arith, h, j)) i in
        let rest : sent_of x y p outs ≡ [] = one (grind (arith, h, j)) (pair_stays l x y ∙ i) in
        grind (arith, j, other, rest)
    go false j one two =
        let rest : sent_of x y p outs ≡ [] = two (grind (arith, h, j)) i in
        grind (arith, j, rest)
sent_none x y p l (Out.Send a _ ∷ outs) h i = sent_none x y p l outs h i

-- ---- marks

-- the node has drawn at least as far
pub data Drawn (d e : Digest) : Type 0 where
  Same_boot : e.boot ≡ d.boot → d.drawn ≤ e.drawn → Drawn d e
  Later_boot : suc d.boot ≤ e.boot → Drawn d e

pub old_stays : (who : Who) (d e : Digest) (m : Mark) → Drawn d e → is_old who d m ≡ true → is_old who e m ≡ true
old_stays who d e m (Same_boot b n) h = grind (arith, nat_tests, b, n, h)
old_stays who d e m (Later_boot b) h = grind (arith, nat_tests, b, h)

pub new_mark : (who : Who) (d : Digest) → is_old who d (next_mark who d) ≡ false
new_mark who d = grind (arith, nat_tests)

pub drawn_old : (who : Who) (d e : Digest) → e.boot ≡ d.boot → suc d.drawn ≤ e.drawn → is_old who e (next_mark who d) ≡ true
drawn_old who d e b n = grind (arith, nat_tests, b, n)

pub prelude_drawn : (who : Who) (d : Digest) (e : Event) → ((prelude who d e).boot ≡ d.boot) × (d.drawn ≤ (prelude who d e).drawn) ⊎ (suc d.boot ≤ (prelude who d e).boot)
unfolding after_crash
prelude_drawn who d (Event.Do r) = inl (grind arith, grind arith)
prelude_drawn who d (Event.Arrive from r) = inl (grind arith, grind arith)
prelude_drawn who d Event.Crash = inr (omega arith)
prelude_drawn who d _ = inl (refl, omega arith)
