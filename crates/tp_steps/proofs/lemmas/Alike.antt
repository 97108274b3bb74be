-- How arcs look to a transaction when an event has come to its own arc: an arc that is counted, or wakes, looks as it did; one
-- that is lost is gone; and a deferral stands where it was put.
use Rattle.std.proofs.Common.{if◌then◌else◌, ◌≡◌, ℕ, Bool, true, false, refl, ap, sym, ◌∙◌, arith, Option, Some, None, List, [], ◌∷◌, ◌==◌}
use Rattle.std.proofs.lemmas.Bool.Decides.{nat_tests}
use Rattle.tp_model.specs.Parts.{Link, Idle, Opening, Offered, Live, Dialogue, Arc}
use Rattle.tp_model.specs.Links.{is_live, with_one_taken}
use Rattle.tp_model.specs.Dialogues.{is_end_deferred, Ask_defer_end, Ask_defer_grant, said, Hear_defer_end, Hear_defer_grant, heard, cleared, woken}
use Rattle.tp_model.specs.Arcs.{find_arc, is_live_with_peer, without_arc, with_dialogue, with_link}
use Rattle.tp_model.specs.Node.{is_end_deferred_at}
use Rattle.tp_model.specs.AmongArcs.{AreAlike, IsCut, IsPutOff}
use Rattle.tp_steps.specs.Puts.{counted_arcs}
use Rattle.tp_steps.proofs.links.Links.{link_dialogue}
use Rattle.tp_steps.proofs.links.Fading.{ends_without, live_without}

pub alike_self : (arcs : List Arc) → AreAlike arcs arcs
alike_self arcs p = record { live = refl; ends = refl }

pub alike_then : (xs ys zs : List Arc) → AreAlike xs ys → AreAlike ys zs → AreAlike xs zs
alike_then xs ys zs one two p = record { live = (two p).live ∙ (one p).live; ends = (two p).ends ∙ (one p).ends }

-- ---- one dialogue

pub ends_other : (arcs : List Arc) (p : ℕ) (f : Dialogue → Dialogue) (q : ℕ) → (q == p) ≡ false → is_end_deferred_at (with_dialogue arcs p f) q ≡ is_end_deferred_at arcs q
ends_other [] p f q other = refl
ends_other (a ∷ arcs) p f q other = grind (arith, nat_tests, other, ends_other arcs p f q other)

ends_here : (arcs : List Arc) (p : ℕ) (f : Dialogue → Dialogue) → is_end_deferred_at (with_dialogue arcs p f) p ≡ elim (find_arc arcs p) as (λ _. Bool) [ None ↦ false | Some a ↦ is_end_deferred (f a.dialogue).deferral ]
ends_here [] p f = refl
ends_here (a ∷ arcs) p f = grind (arith, nat_tests, ends_here arcs p f)

pub live_same : (arcs : List Arc) (p : ℕ) (f : Dialogue → Dialogue) (q : ℕ) → is_live_with_peer (with_dialogue arcs p f) q ≡ is_live_with_peer arcs q
live_same arcs p f q = ap is_live (link_dialogue arcs p f q)

-- a change that defers no end and takes none back, of the dialogue that stands there
changed_alike : (arcs : List Arc) (p : ℕ) (f : Dialogue → Dialogue) → elim (find_arc arcs p) as (λ _. Bool) [ None ↦ false | Some a ↦ is_end_deferred (f a.dialogue).deferral ] ≡ is_end_deferred_at arcs p → AreAlike arcs (with_dialogue arcs p f)
changed_alike arcs p f same q = record { live = live_same arcs p f q; ends = go (q == p) refl }
  where
    go : (b : Bool) → (q == p) ≡ b → is_end_deferred_at (with_dialogue arcs p f) q ≡ is_end_deferred_at arcs q
    go true i =
        let at : q ≡ p = grind (arith, nat_tests, i) in
        ap (is_end_deferred_at (with_dialogue arcs p f)) at ∙ ends_here arcs p f ∙ same ∙ sym (ap (is_end_deferred_at arcs) at)
    go false i = ends_other arcs p f q i

keeps_alike : (arcs : List Arc) (p : ℕ) (f : Dialogue → Dialogue) → ((x : Dialogue) → is_end_deferred (f x).deferral ≡ is_end_deferred x.deferral) → AreAlike arcs (with_dialogue arcs p f)
keeps_alike arcs p f same = changed_alike arcs p f (go (find_arc arcs p))
  where
    go : (o : Option Arc) → elim o as (λ _. Bool) [ None ↦ false | Some a ↦ is_end_deferred (f a.dialogue).deferral ] ≡ elim o as (λ _. Bool) [ None ↦ false | Some a ↦ is_end_deferred a.dialogue.deferral ]
    go None = refl
    go (Some a) = same a.dialogue

pub cleared_alike : (arcs : List Arc) (p : ℕ) → AreAlike arcs (with_dialogue arcs p cleared)
unfolding cleared
cleared_alike arcs p = keeps_alike arcs p cleared (λ x. refl)

woken_alike : (arcs : List Arc) (p : ℕ) → AreAlike arcs (with_dialogue arcs p woken)
unfolding woken
woken_alike arcs p = keeps_alike arcs p woken (λ x. refl)

-- a deferred grant, where no end is deferred
granted_alike : (arcs : List Arc) (p : ℕ) (f : Dialogue → Dialogue) → ((x : Dialogue) → is_end_deferred (f x).deferral ≡ false) → is_end_deferred_at arcs p ≡ false → AreAlike arcs (with_dialogue arcs p f)
granted_alike arcs p f none off = changed_alike arcs p f (go (find_arc arcs p) ∙ sym off)
  where
    go : (o : Option Arc) → elim o as (λ _. Bool) [ None ↦ false | Some a ↦ is_end_deferred (f a.dialogue).deferral ] ≡ false
    go None = refl
    go (Some a) = none a.dialogue

pub grant_said_alike : (arcs : List Arc) (p : ℕ) → is_end_deferred_at arcs p ≡ false → AreAlike arcs (with_dialogue arcs p (said Ask_defer_grant))
unfolding said
grant_said_alike arcs p off = granted_alike arcs p (said Ask_defer_grant) (λ x. refl) off

pub grant_heard_alike : (arcs : List Arc) (p : ℕ) → is_end_deferred_at arcs p ≡ false → AreAlike arcs (with_dialogue arcs p (heard Hear_defer_grant))
unfolding heard
grant_heard_alike arcs p off = granted_alike arcs p (heard Hear_defer_grant) (λ x. refl) off

-- ---- a record that is taken

live_taken : (l : Link) → is_live (with_one_taken l) ≡ is_live l
live_taken Idle = refl
live_taken (Opening x) = refl
live_taken (Offered x) = refl
live_taken (Live x y s t) = refl

pub taken_alike : (arcs : List Arc) (p : ℕ) → AreAlike arcs (with_link arcs p with_one_taken)
taken_alike [] p q = record { live = refl; ends = refl }
taken_alike (a ∷ arcs) p q =
    let rest = taken_alike arcs p q in
    record { live = grind (arith, nat_tests, live_taken a.link, rest.live); ends = grind (arith, nat_tests, rest.ends) }

pub counted_alike : (arcs : List Arc) (p : ℕ) → AreAlike arcs (counted_arcs arcs p)
counted_alike arcs p =
    let taken : List Arc = with_link arcs p with_one_taken in
    alike_then arcs taken (with_dialogue taken p woken) (taken_alike arcs p) (woken_alike taken p)

-- ---- an arc that is lost, and an end that is deferred, where the arcs looked so before

other_way : (p q : ℕ) → (q == p) ≡ false → (p == q) ≡ false
other_way p q h = grind (arith, nat_tests, h)

pub same_way : (p : ℕ) → (p == p) ≡ true
same_way p = grind (arith, nat_tests)

pub cut_from : (arcs mid : List Arc) (p : ℕ) → AreAlike arcs mid → IsCut p arcs (without_arc mid p)
cut_from arcs mid p k = record {
  live = live_without mid p p ∙ ap (λ (b : Bool). if b then false else is_live_with_peer mid p) (same_way p);
  ends = ends_without mid p p ∙ ap (λ (b : Bool). if b then false else is_end_deferred_at mid p) (same_way p);
  others = λ q other. record {
    live = live_without mid p q ∙ ap (λ (b : Bool). if b then false else is_live_with_peer mid q) (other_way p q other) ∙ (k q).live;
    ends = ends_without mid p q ∙ ap (λ (b : Bool). if b then false else is_end_deferred_at mid q) (other_way p q other) ∙ (k q).ends;
  };
}

put_off_from : (arcs mid : List Arc) (p : ℕ) (f : Dialogue → Dialogue) → ((x : Dialogue) → is_end_deferred (f x).deferral ≡ true) → AreAlike arcs mid → is_live_with_peer arcs p ≡ true → IsPutOff p arcs (with_dialogue mid p f)
put_off_from arcs mid p f ends k live = record {
  before = live;
  live = live_same mid p f p ∙ (k p).live ∙ live;
  ends = ends_here mid p f ∙ go (find_arc mid p) refl;
  others = λ q other. record { live = live_same mid p f q ∙ (k q).live; ends = ends_other mid p f q other ∙ (k q).ends };
}
  where
    there : is_live_with_peer mid p ≡ true
    there = (k p).live ∙ live

    go : (o : Option Arc) → find_arc mid p ≡ o → elim o as (λ _. Bool) [ None ↦ false | Some a ↦ is_end_deferred (f a.dialogue).deferral ] ≡ true
    go None i = let dead : is_live_with_peer mid p ≡ false = rw (i, is_live_with_peer) refl in absurd (cc (there, dead))
    go (Some a) i = ends a.dialogue

pub end_said_from : (arcs mid : List Arc) (p : ℕ) → AreAlike arcs mid → is_live_with_peer arcs p ≡ true → IsPutOff p arcs (with_dialogue mid p (said Ask_defer_end))
unfolding said
end_said_from arcs mid p k live = put_off_from arcs mid p (said Ask_defer_end) (λ x. refl) k live

pub end_heard_from : (arcs mid : List Arc) (p : ℕ) → AreAlike arcs mid → is_live_with_peer arcs p ≡ true → IsPutOff p arcs (with_dialogue mid p (heard Hear_defer_end))
unfolding heard
end_heard_from arcs mid p k live = put_off_from arcs mid p (heard Hear_defer_end) (λ x. refl) k live
