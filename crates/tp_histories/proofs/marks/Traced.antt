-- In every legal history marks are drawn once, and the counts of a live link are those of the history.
use Rattle.std.proofs.Common.{◌≡◌, ◌≤◌, ◌+◌, ◌⊎◌, inl, inr, ℕ, suc, Bool, true, false, refl, ap, sym, subst, ◌∙◌, arith, Option, Some, None, List, [], ◌∷◌, ◌++◌, ◌&&◌, length, length-append}
use Rattle.std.proofs.lemmas.Bool.Decides.{nat_tests}
use Rattle.std.proofs.lemmas.List.{append-nil}
use Rattle.tp_names.specs.declared.identifiers.Mark.{Mark}
use Rattle.tp_names.specs.declared.identifiers.Addr.{Addr}
use Rattle.tp_names.specs.Same.{is_mark}
use Rattle.tp_records.specs.declared.dialogue.DialogueRecord.{DialogueRecord}
use Rattle.tp_records.specs.declared.peer.PeerRecord.{PeerRecord}
use Rattle.tp_model.specs.Parts.{Who, Origin, Event, Out, Entry, Link, Idle, Opening, Offered, Live, Digest}
use Rattle.tp_model.specs.Arcs.{link_with}
use Rattle.tp_model.specs.Node.{next_mark}
use Rattle.tp_model.specs.Events.{refusal, action, after, after_crash, started}
use Rattle.tp_model.specs.History.{digest, entry_of}
use Rattle.tp_model.specs.Questions.{said_to, sent_more, is_at}
use Rattle.tp_model.specs.Legal.{IsGrown, IsUnder}
use Rattle.tp_steps.specs.Moves.{prelude}
use Rattle.tp_steps.specs.Traces.{fits, count_to, IsSaidOver, IsLinked, sent_of, took_of, is_old}
use Rattle.tp_histories.specs.Traces.{sent_on, own_mark, own_old, IsQuiet, IsTraced, accepted_on}
use Rattle.tp_steps.specs.Moves.{IsLate}
use Rattle.tp_steps.proofs.every.EveryEvent.{every_move}
use Rattle.tp_steps.proofs.links.Links.{mark_same}
use Rattle.tp_steps.proofs.links.Linked.{linked_moves}
use Rattle.tp_histories.proofs.trees.Late.{late_law}
use Rattle.tp_steps.proofs.every.Preludes.{Prelinked, As_before, Now_idle, Now_called, Now_offered, Now_accepted, Now_confirmed, Took_one, prelinked, marks_same}
use Rattle.tp_steps.proofs.links.Marks.{sent_is_said, has_pair, sent_none, Drawn, Same_boot, Later_boot, old_stays, new_mark, drawn_old, prelude_drawn}
use Rattle.tp_steps.proofs.words.Fair.{at_most_then}

-- ---- one event

-- what one accepted event is, for the link with a peer
pub record Told (who : Who) (up : Option Addr) (p : ℕ) (d : Digest) (e : Event) : Type 0 where
  pub pre : Prelinked who up p d e (link_with (prelude who d e).arcs p)
  pub linked : IsLinked p (prelude who d e) (action who d e)
  pub drawn : Drawn d (after who d e)

pub told : (who : Who) (up : Option Addr) (p : ℕ) (d : Digest) (e : Event) → IsLate d → ((a : Addr) → d.superior ≡ Some a → up ≡ Some a) → (d.declared ≡ true → d.superior ≡ up) → refusal who d e ≡ None
    → Told who up p d e
told who up p d e late under here ok =
    let linked : IsLinked p (prelude who d e) (action who d e) = every_move who d e (IsLinked p) (linked_moves who e (prelude who d e) p) late ok in
    record {
      pre = prelinked who up p d e under here ok;
      linked = linked;
      drawn = elim (prelude_drawn who d e) [
        | inl i ↦ Same_boot (linked.boot ∙ i.0) (at_most_then d.drawn (prelude who d e).drawn (after who d e).drawn i.1 linked.drawn)
        | inr i ↦ Later_boot (subst (λ (n : ℕ). suc d.boot ≤ n) (sym linked.boot) i)
      ];
    }

-- the live link after an event was live in the prelude, with fewer records sent
pub record WasLive (l : Link) (n : ℕ) (x y : Mark) (s t : ℕ) : Type 0 where
  pub sent : ℕ
  pub is : l ≡ Live x y sent t
  pub more : sent + n ≡ s

live_parts : (x y x' y' : Mark) (s t s' t' : ℕ) → Live x y s t ≡ Live x' y' s' t' → (x ≡ x') × (y ≡ y') × (s ≡ s') × (t ≡ t')
live_parts x y x' y' s t s' t' h = (cc (h), cc (h), cc (h), cc (h))

live_made : (x y x' y' : Mark) (s t t' : ℕ) → x ≡ x' → y ≡ y' → t ≡ t' → Live x y s t ≡ Live x' y' s t'
live_made x y x' y' s t t' e f g = rw (e, f, g) refl

pub was_live : (l : Link) (n : ℕ) (x y : Mark) (s t : ℕ) → sent_more n l ≡ Live x y s t → WasLive l n x y s t
was_live (Live z w v u) n x y s t h =
    let e = live_parts z w x y (v + n) u s t h in
    record { sent = v; is = live_made z w x y v u t e.0 e.1 e.3; more = e.2 }
was_live _ n x y s t h = absurd cc

pub live_before : (p : ℕ) (l m : Link) (outs : List Out) (x y : Mark) (s t : ℕ) → IsSaidOver p l outs m → m ≡ Live x y s t → WasLive l (count_to p outs) x y s t
live_before p l m outs x y s t over is = elim over.link [
  | inl i ↦ was_live l (count_to p outs) x y s t (sym i ∙ is)
  | inr i ↦ absurd (cc (i, is))
]

-- so long are the traces with the event's taken record, before what it sends
abbrev AreLong : Mark → Mark → ℕ → ℕ → ℕ → Event → List Entry → Type 0
AreLong x y p s t e h = (length (sent_on x y p h) ≡ s) × (length (accepted_on x y p h ++ took_of x y p e) ≡ t)

long_kept : (x y : Mark) (p s t : ℕ) (e : Event) (h : List Entry) → (length (sent_on x y p h) ≡ s) × (length (accepted_on x y p h) ≡ t) → took_of x y p e ≡ [] → AreLong x y p s t e h
long_kept x y p s t e h old none = (old.0, rw (none, append-nil (accepted_on x y p h)) old.1)

long_new : (x y : Mark) (p s t : ℕ) (e : Event) (h : List Entry) → IsQuiet x y p h → 0 ≡ s → 0 ≡ t → took_of x y p e ≡ [] → AreLong x y p s t e h
long_new x y p s t e h quiet zs zt none = (rw (quiet.0) zs, rw (quiet.1, none) zt)

pub long_of : (who : Who) (up : Option Addr) (d : Digest) (e : Event) (h : List Entry) → IsTraced who up d h → (p : ℕ) (l : Link) → Prelinked who up p d e l → (x y : Mark) (s t : ℕ) → l ≡ Live x y s t → AreLong x y p s t e h
long_of who up d e h traced p l (As_before i none) x y s t is = long_kept x y p s t e h (traced.live p x y s t (sym i ∙ is)) (none x y)
long_of who up d e h traced p l (Now_idle i none) x y s t is = absurd (cc (i, is))
long_of who up d e h traced p l (Now_called i down n none below calls) x y s t is = absurd (cc (i, is))
long_of who up d e h traced p l (Now_offered z i u none) x y s t is = absurd (cc (i, is))
long_of who up d e h traced p l (Now_accepted z i u n none nil) x y s t is =
    let f = live_parts z (next_mark who d) x y 0 0 s t (sym i ∙ is) in
    let own : own_mark up p x y ≡ y = rw u refl in
    let young : is_old who d (own_mark up p x y) ≡ false = ap (is_old who d) own ∙ ap (is_old who d) (sym f.1) ∙ new_mark who d in
    long_new x y p s t e h (traced.fresh p x y young) f.2 f.3 (none x y)
long_of who up d e h traced p l (Now_confirmed z w o i none) x y s t is =
    let f = live_parts z w x y 0 0 s t (sym i ∙ is) in
    long_new x y p s t e h (traced.opening p x y (o ∙ ap (λ (m : Mark). Opening m) f.0)) f.2 f.3 (none x y)
long_of who up d e h traced p l (Took_one a z w v u r i j at ev) x y s t is =
    let f = live_parts z w x y v (suc u) s t (sym j ∙ is) in
    let old = traced.live p z w v u i in
    let one : took_of z w p e ≡ r ∷ [] = ap (took_of z w p) ev ∙ took_it a z w u r at in
    let long : AreLong z w p v (suc u) e h = (old.0, rw one (length-append (accepted_on z w p h) (r ∷ []) ∙ plus_one (length (accepted_on z w p h)) u old.1)) in
    let two : AreLong x y p v (suc u) e h = subst (λ (m : Mark). AreLong x m p v (suc u) e h) f.1 (subst (λ (m : Mark). AreLong m w p v (suc u) e h) f.0 long) in
    (two.0 ∙ f.2, two.1 ∙ f.3)
  where
    plus_one : (a b : ℕ) → a ≡ b → a + 1 ≡ suc b
    plus_one a b h = omega (arith, h)

    took_it : (a : Addr) (z w : Mark) (u : ℕ) (r : DialogueRecord) → a.node ≡ p → took_of z w p (Event.Arrive a (PeerRecord.OnAssoc z w u r)) ≡ r ∷ []
    took_it a z w u r at = grind (arith, nat_tests, at, mark_same z, mark_same w)

live_after : (who : Who) (up : Option Addr) (o : Origin) (e : Event) (h : List Entry) → o.who ≡ who → IsTraced who up (digest o h) h → (p : ℕ) → Told who up p (digest o h) e
    → (x y : Mark) (s t : ℕ) → link_with (after who (digest o h) e).arcs p ≡ Live x y s t → (length (sent_on x y p h ++ sent_of x y p (action who (digest o h) e).outs) ≡ s) × (length (accepted_on x y p h ++ took_of x y p e) ≡ t)
live_after who up o e h same traced p k x y s t is =
    let d : Digest = digest o h in
    let l : Link = link_with (prelude who d e).arcs p in
    let outs : List Out = (action who d e).outs in
    let was = live_before p l (link_with (after who d e).arcs p) outs x y s t k.linked.over is in
    let long = long_of who up d e h traced p l k.pre x y was.sent t was.is in
    let fit : fits p (Live x y was.sent t) outs ≡ true = subst (λ (m : Link). fits p m outs ≡ true) was.is k.linked.over.numbered in
    let said : sent_of x y p outs ≡ said_to p outs = sent_is_said x y p was.sent t outs fit in
    (length-append (sent_on x y p h) (sent_of x y p outs) ∙ add (length (sent_on x y p h)) was.sent (length (sent_of x y p outs)) (count_to p outs) s long.0 (ap length said) was.more, long.1)
  where
    add : (a b c n s : ℕ) → a ≡ b → c ≡ n → b + n ≡ s → a + c ≡ s
    add a b c n s h i j = omega (arith, h, i, j)

-- ---- own marks

own_more : (who : Who) (d : Digest) (up : Option Addr) (p n : ℕ) (l : Link) → own_old who d up p l ≡ true → own_old who d up p (sent_more n l) ≡ true
own_more who d up p n Idle h = h
own_more who d up p n (Opening x) h = h
own_more who d up p n (Offered x) h = h
own_more who d up p n (Live x y s t) h = h

own_stays : (who : Who) (d e : Digest) (up : Option Addr) (p : ℕ) (l : Link) → Drawn d e → own_old who d up p l ≡ true → own_old who e up p l ≡ true
own_stays who d e up p (Opening x) g h = let old = old_stays who d e x g (grind (arith, h)) in grind (arith, h, old)
own_stays who d e up p (Live x y s t) g h = old_stays who d e (own_mark up p x y) g h
own_stays who d e up p _ g h = h

-- the link of the prelude, seen from after the event
own_pre : (who : Who) (up : Option Addr) (d : Digest) (e : Event) (g : Digest) (p : ℕ) (l : Link) → Prelinked who up p d e l → own_old who d up p (link_with d.arcs p) ≡ true → Drawn d g
    → ((suc d.drawn ≤ (prelude who d e).drawn) → is_old who g (next_mark who d) ≡ true) → own_old who g up p l ≡ true
own_pre who up d e g p l (As_before i none) own grown new = own_stays who d g up p l grown (ap (own_old who d up p) i ∙ own)
own_pre who up d e g p l (Now_idle i none) own grown new = ap (own_old who g up p) i
own_pre who up d e g p l (Now_called i down n none below calls) own grown new = ap (own_old who g up p) i ∙ rw (new n, down) refl
own_pre who up d e g p l (Now_offered x i u none) own grown new = ap (own_old who g up p) i ∙ u
own_pre who up d e g p l (Now_accepted x i u n none nil) own grown new = ap (own_old who g up p) i ∙ rw u (new n)
own_pre who up d e g p l (Now_confirmed x y o i none) own grown new =
    let was : own_old who d up p (Opening x) ≡ true = ap (own_old who d up p) (sym o) ∙ own in
    let down : is_at up p ≡ false = grind (arith, was) in
    let old : is_old who d x ≡ true = grind (arith, was) in
    ap (own_old who g up p) i ∙ rw down (old_stays who d g x grown old)
own_pre who up d e g p l (Took_one a x y s t r i j at ev) own grown new =
    let was : own_old who d up p (Live x y s t) ≡ true = ap (own_old who d up p) (sym i) ∙ own in
    ap (own_old who g up p) j ∙ old_stays who d g (own_mark up p x y) grown was

own_after : (who : Who) (up : Option Addr) (d : Digest) (e : Event) (p : ℕ) → own_old who d up p (link_with d.arcs p) ≡ true → Told who up p d e → own_old who (after who d e) up p (link_with (after who d e).arcs p) ≡ true
own_after who up d e p own k =
    let g : Digest = after who d e in
    let l : Link = link_with (prelude who d e).arcs p in
    let pre : own_old who g up p l ≡ true = own_pre who up d e g p l k.pre own k.drawn (λ n. new n (prelude_drawn who d e)) in
    elim k.linked.over.link [
      | inl i ↦ ap (own_old who g up p) i ∙ own_more who g up p (count_to p (action who d e).outs) l pre
      | inr i ↦ ap (own_old who g up p) i
    ]
  where
    new : suc d.drawn ≤ (prelude who d e).drawn → ((prelude who d e).boot ≡ d.boot) × (d.drawn ≤ (prelude who d e).drawn) ⊎ (suc d.boot ≤ (prelude who d e).boot) → is_old who (after who d e) (next_mark who d) ≡ true
    new n (inl b) = drawn_old who d (after who d e) (k.linked.boot ∙ b.0) (at_most_then (suc d.drawn) (prelude who d e).drawn (after who d e).drawn n k.linked.drawn)
    new n (inr b) = later (subst (λ (m : ℕ). suc d.boot ≤ m) (sym k.linked.boot) b)
      where
        later : suc d.boot ≤ (after who d e).boot → is_old who (after who d e) (next_mark who d) ≡ true
        later c = grind (arith, nat_tests, c)

-- ---- fresh marks

-- a link whose own mark is old has no pair whose own mark is young
young_pair : (who : Who) (d : Digest) (up : Option Addr) (p : ℕ) (x y : Mark) (l : Link) → own_old who d up p l ≡ true → is_old who d (own_mark up p x y) ≡ false → has_pair l x y ≡ false
young_pair who d up p x y (Live z w s t) own young = go (is_mark x z && is_mark y w) refl
  where
    go : (b : Bool) → (is_mark x z && is_mark y w) ≡ b → b ≡ false
    go false i = refl
    go true i =
        let ez = marks_same x z (grind (arith, i)) in
        let ew = marks_same y w (grind (arith, i)) in
        absurd (cc (own, young, ez, ew))
young_pair who d up p x y _ own young = refl

-- an event sends and takes nothing on a pair that the link of its prelude has not
pub quiet_step : (who : Who) (up : Option Addr) (d : Digest) (e : Event) (p : ℕ) (x y : Mark) → Told who up p d e → has_pair (link_with (prelude who d e).arcs p) x y ≡ false
    → (sent_of x y p (action who d e).outs ≡ []) × (took_of x y p e ≡ [])
quiet_step who up d e p x y k other = (
  sent_none x y p (link_with (prelude who d e).arcs p) (action who d e).outs k.linked.over.numbered other,
  took (link_with (prelude who d e).arcs p) k.pre other,
)
  where
    took : (l : Link) → Prelinked who up p d e l → has_pair l x y ≡ false → took_of x y p e ≡ []
    took l (As_before i none) n = none x y
    took l (Now_idle i none) n = none x y
    took l (Now_called i down m none below calls) n = none x y
    took l (Now_offered z i u none) n = none x y
    took l (Now_accepted z i u m none nil) n = none x y
    took l (Now_confirmed z w o i none) n = none x y
    took l (Took_one a z w s t r i j at ev) n =
        let pair : (is_mark x z && is_mark y w) ≡ false = ap (λ (m : Link). has_pair m x y) (sym j) ∙ n in
        ap (took_of x y p) ev ∙ grind (arith, pair)

fresh_after : (who : Who) (up : Option Addr) (d : Digest) (e : Event) (h : List Entry) → IsTraced who up d h → (p : ℕ) → Told who up p d e → (x y : Mark) → is_old who (after who d e) (own_mark up p x y) ≡ false
    → IsQuiet x y p h × (sent_of x y p (action who d e).outs ≡ []) × (took_of x y p e ≡ [])
fresh_after who up d e h traced p k x y young =
    let step = quiet_step who up d e p x y k (pre_none (link_with (prelude who d e).arcs p) k.pre) in
    (traced.fresh p x y (before (is_old who d (own_mark up p x y)) refl), step.0, step.1)
  where
    before : (b : Bool) → is_old who d (own_mark up p x y) ≡ b → is_old who d (own_mark up p x y) ≡ false
    before false i = i
    before true i = absurd (cc (young, old_stays who d (after who d e) (own_mark up p x y) k.drawn i))

    -- seen from after the event, the own mark of the prelude's link is old
    old_now : suc d.drawn ≤ (prelude who d e).drawn → is_old who (after who d e) (next_mark who d) ≡ true
    old_now n = go (prelude_drawn who d e)
      where
        go : ((prelude who d e).boot ≡ d.boot) × (d.drawn ≤ (prelude who d e).drawn) ⊎ (suc d.boot ≤ (prelude who d e).boot) → is_old who (after who d e) (next_mark who d) ≡ true
        go (inl b) = drawn_old who d (after who d e) (k.linked.boot ∙ b.0) (at_most_then (suc d.drawn) (prelude who d e).drawn (after who d e).drawn n k.linked.drawn)
        go (inr b) = let c : suc d.boot ≤ (after who d e).boot = subst (λ (m : ℕ). suc d.boot ≤ m) (sym k.linked.boot) b in grind (arith, nat_tests, c)

    pre_none : (l : Link) → Prelinked who up p d e l → has_pair l x y ≡ false
    pre_none l pre = young_pair who (after who d e) up p x y l (own_pre who up d e (after who d e) p l pre (traced.own p) k.drawn old_now) young

-- ---- opening

pub opening_more : (n : ℕ) (l : Link) (x : Mark) → sent_more n l ≡ Opening x → l ≡ Opening x
opening_more n (Opening z) x h = h
opening_more n _ x h = absurd cc

opening_after : (who : Who) (up : Option Addr) (d : Digest) (e : Event) (h : List Entry) → IsTraced who up d h → (p : ℕ) → Told who up p d e → (x y : Mark) → link_with (after who d e).arcs p ≡ Opening x
    → IsQuiet x y p h × (sent_of x y p (action who d e).outs ≡ []) × (took_of x y p e ≡ [])
opening_after who up d e h traced p k x y is =
    let step = quiet_step who up d e p x y k (ap (λ (l : Link). has_pair l x y) pre) in
    (quiet (link_with (prelude who d e).arcs p) k.pre pre, step.0, step.1)
  where
    pre : link_with (prelude who d e).arcs p ≡ Opening x
    pre = elim k.linked.over.link [
      | inl i ↦ opening_more (count_to p (action who d e).outs) (link_with (prelude who d e).arcs p) x (sym i ∙ is)
      | inr i ↦ absurd (cc (i, is))
    ]

    opening_part : (m n : Mark) → Opening m ≡ Opening n → m ≡ n
    opening_part m n o = cc (o)

    quiet : (l : Link) → Prelinked who up p d e l → l ≡ Opening x → IsQuiet x y p h
    quiet l (As_before i none) o = traced.opening p x y (sym i ∙ o)
    quiet l (Now_idle i none) o = absurd (cc (i, o))
    quiet l (Now_called i down n none below calls) o =
        let m : next_mark who d ≡ x = opening_part (next_mark who d) x (sym i ∙ o) in
        let own : own_mark up p x y ≡ x = rw down refl in
        traced.fresh p x y (ap (is_old who d) own ∙ ap (is_old who d) (sym m) ∙ new_mark who d)
    quiet l (Now_offered z i u none) o = absurd (cc (i, o))
    quiet l (Now_accepted z i u n none nil) o = absurd (cc (i, o))
    quiet l (Now_confirmed z w b i none) o = absurd (cc (i, o))
    quiet l (Took_one a z w s t r i j at ev) o = absurd (cc (j, o))

pub both : (xs ys : List DialogueRecord) → xs ≡ [] → ys ≡ [] → xs ++ ys ≡ []
both xs ys h i = rw (h, i) refl

quiet_entry : (x y : Mark) (p : ℕ) (e : Entry) (h : List Entry) → IsQuiet x y p h × (sent_of x y p e.outs ≡ []) × (took_of x y p e.event ≡ []) → IsQuiet x y p (e ∷ h)
quiet_entry x y p e h q = (both (sent_on x y p h) (sent_of x y p e.outs) q.0.0 q.1, both (accepted_on x y p h) (took_of x y p e.event) q.0.1 q.2)

-- ---- the superior

pub superior_pre : (who : Who) (up : Option Addr) (d : Digest) (e : Event) → IsUnder up e → ((a : Addr) → d.superior ≡ Some a → up ≡ Some a) → (d.declared ≡ true → d.superior ≡ up)
    → ((a : Addr) → (prelude who d e).superior ≡ Some a → up ≡ Some a) × ((prelude who d e).declared ≡ true → (prelude who d e).superior ≡ up)
unfolding after_crash
superior_pre who up d (Event.Declare s) u under here = (λ a h. sym u ∙ h, λ t. u)
superior_pre who up d (Event.Do r) u under here =
    let s : (prelude who d (Event.Do r)).superior ≡ d.superior = grind arith in
    let c : (prelude who d (Event.Do r)).declared ≡ d.declared = grind arith in
    (λ a h. under a (sym s ∙ h), λ t. s ∙ here (sym c ∙ t))
superior_pre who up d (Event.Arrive from r) u under here =
    let s : (prelude who d (Event.Arrive from r)).superior ≡ d.superior = grind arith in
    let c : (prelude who d (Event.Arrive from r)).declared ≡ d.declared = grind arith in
    (λ a h. under a (sym s ∙ h), λ t. s ∙ here (sym c ∙ t))
superior_pre who up d Event.Crash u under here = (λ a h. absurd (cc (h)), λ t. absurd (cc (t)))
superior_pre who up d _ u under here = (under, here)

-- ---- every legal history

traced_step : (o : Origin) (up : Option Addr) (e : Event) (h : List Entry) → IsLate (digest o h) → IsTraced o.who up (digest o h) h → refusal o.who (digest o h) e ≡ None → IsUnder up e
    → IsTraced o.who up (after o.who (digest o h) e) (entry_of o h e ∷ h)
traced_step o up e h late traced ok under =
    let d : Digest = digest o h in
    let k : (p : ℕ) → Told o.who up p d e = λ p. told o.who up p d e late traced.under traced.declared ok in
    let pre = superior_pre o.who up d e under traced.under traced.declared in
    record {
      live = λ p x y s t is. live_after o.who up o e h refl traced p (k p) x y s t is;
      own = λ p. own_after o.who up d e p (traced.own p) (k p);
      fresh = λ p x y young. quiet_entry x y p (entry_of o h e) h (fresh_after o.who up d e h traced p (k p) x y young);
      opening = λ p x y is. quiet_entry x y p (entry_of o h e) h (opening_after o.who up d e h traced p (k p) x y is);
      under = λ a i. pre.0 a (sym (k 0).linked.superior ∙ i);
      declared = λ t. (k 0).linked.superior ∙ pre.1 (sym (k 0).linked.declared ∙ t);
    }

traced_start : (o : Origin) (up : Option Addr) → IsTraced o.who up (digest o []) []
unfolding started
traced_start o up = record {
  live = λ p x y s t is. absurd (cc (is));
  own = λ p. refl;
  fresh = λ p x y young. (refl, refl);
  opening = λ p x y is. absurd (cc (is));
  under = λ a i. absurd (cc (i));
  declared = λ t. absurd (cc (t));
}

pub traced_law : (o : Origin) (up : Option Addr) (h : List Entry) → IsGrown o up h → IsTraced o.who up (digest o h) h
traced_law o up [] legal = traced_start o up
traced_law o up (e ∷ h) legal =
    let step = traced_step o up e.event h (late_law o up h legal.3) (traced_law o up h legal.3) legal.0 legal.2 in
    subst (λ (f : Entry). IsTraced o.who up (after o.who (digest o h) e.event) (f ∷ h)) legal.1 step
