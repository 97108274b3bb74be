-- What an event does to its own arc before it is put to the transaction, and what a Begin does.
use Rattle.std.proofs.Common.{◌≡◌, ℕ, Bool, true, false, refl, ap, sym, subst, ◌∙◌, arith, Option, Some, None, List, [], ◌∷◌, ◌&&◌, ◌==◌, not, if◌then◌else◌}
use Rattle.std.proofs.lemmas.Bool.Decides.{nat_tests}
use Rattle.tp_records.specs.declared.dialogue.DialogueRecord.{DialogueRecord}
use Rattle.tp_records.specs.declared.dialogue.Holder.{Holder}
use Rattle.tp_model.specs.declared.arc.Phase.{Phase}
use Rattle.tp_model.specs.declared.arc.Side.{Side}
use Rattle.tp_model.specs.declared.transaction.TxEvent.{TxEvent}
use Rattle.tp_model.specs.declared.transaction.TxOut.{TxOut}
use Rattle.tp_model.specs.Parts.{Who, Link, Idle, Opening, Offered, Live, Dialogue, Arc, Current, Digest}
use Rattle.tp_model.specs.Links.{is_live, with_one_taken}
use Rattle.tp_model.specs.Dialogues.{is_nil, is_active, is_rolling, is_end_deferred, Ask_defer_end, Ask_defer_grant, said, Hear_defer_end, Hear_defer_grant, heard, cleared, woken, begun_by, named_holder}
use Rattle.tp_model.specs.Arcs.{find_arc, link_of, is_live_with_peer, with_dialogue, with_link, carried}
use Rattle.tp_model.specs.Transactions.{Transaction, aaid_of, situation_of, transacted}
use Rattle.tp_model.specs.Node.{Move, move, perform, is_end_deferred_at, is_superior, with_mark_drawn, seen, remaining, with_begun, may_begin_on, begin_on}
use Rattle.tp_commit.specs.Branch.{standing}
use Rattle.tp_model.specs.AmongArcs.{is_peer, IsAmongArcs, IsAlike, AreAlike, IsPutOff, AreNew}
use Rattle.tp_commit.specs.Standing.{child_on}
use Rattle.tp_commit.proofs.Arcs.{alike, alike_then, alike_carried}
use Rattle.tp_commit.proofs.Passages.{peer_of}
use Rattle.tp_commit.proofs.Among.{left_of, begun_among, among_alike}
use Rattle.tp_commit.proofs.Shown.{peer_is, begun_shown}
use Rattle.tp_commit.proofs.Reached.{seen_alike}

-- ---- one dialogue, or one link

abbrev look_live : Option Arc → Bool
look_live o = is_live (link_of o)

abbrev look_ends : Option Arc → Bool
look_ends o = elim o [ None ↦ false | Some a ↦ is_end_deferred a.dialogue.deferral ]

found_with : (arcs : List Arc) (p : ℕ) (f : Dialogue → Dialogue) → find_arc (with_dialogue arcs p f) p ≡ elim (find_arc arcs p) as (λ _. Option Arc) [ None ↦ None | Some a ↦ Some (record a { dialogue = f a.dialogue }) ]
found_with [] p f = refl
found_with (a ∷ arcs) p f = grind (arith, nat_tests, found_with arcs p f)

others_with : (arcs : List Arc) (p q : ℕ) (f : Dialogue → Dialogue) → (q == p) ≡ false → find_arc (with_dialogue arcs p f) q ≡ find_arc arcs q
others_with [] p q f other = refl
others_with (a ∷ arcs) p q f other = grind (arith, nat_tests, other, others_with arcs p q f other)

pub alike_with : (arcs : List Arc) (p q : ℕ) (f : Dialogue → Dialogue) → (q == p) ≡ false → IsAlike q arcs (with_dialogue arcs p f)
alike_with arcs p q f other = record { live = ap look_live (others_with arcs p q f other); ends = ap look_ends (others_with arcs p q f other) }

live_with : (arcs : List Arc) (p : ℕ) (f : Dialogue → Dialogue) → is_live_with_peer (with_dialogue arcs p f) p ≡ is_live_with_peer arcs p
live_with arcs p f = ap look_live (found_with arcs p f) ∙ go (find_arc arcs p)
  where
    go : (o : Option Arc) → look_live (elim o as (λ _. Option Arc) [ None ↦ None | Some a ↦ Some (record a { dialogue = f a.dialogue }) ]) ≡ look_live o
    go None = refl
    go (Some a) = refl

ends_with : (arcs : List Arc) (p : ℕ) (f : Dialogue → Dialogue) → is_end_deferred_at (with_dialogue arcs p f) p ≡ elim (find_arc arcs p) as (λ _. Bool) [ None ↦ false | Some a ↦ is_end_deferred (f a.dialogue).deferral ]
ends_with arcs p f = ap look_ends (found_with arcs p f) ∙ go (find_arc arcs p)
  where
    go : (o : Option Arc) → look_ends (elim o as (λ _. Option Arc) [ None ↦ None | Some a ↦ Some (record a { dialogue = f a.dialogue }) ])
        ≡ elim o as (λ _. Bool) [ None ↦ false | Some a ↦ is_end_deferred (f a.dialogue).deferral ]
    go None = refl
    go (Some a) = refl

-- a change that defers no end and takes none back
pub keeps_alike : (arcs : List Arc) (p : ℕ) (f : Dialogue → Dialogue) → ((x : Dialogue) → is_end_deferred (f x).deferral ≡ is_end_deferred x.deferral) → AreAlike arcs (with_dialogue arcs p f)
keeps_alike arcs p f same q = go (q == p) refl
  where
    ends : (o : Option Arc) → elim o as (λ _. Bool) [ None ↦ false | Some a ↦ is_end_deferred (f a.dialogue).deferral ] ≡ look_ends o
    ends None = refl
    ends (Some a) = same a.dialogue

    go : (b : Bool) → (q == p) ≡ b → IsAlike q arcs (with_dialogue arcs p f)
    go true i =
        let here : q ≡ p = grind (arith, nat_tests, i) in
        record {
          live = ap (is_live_with_peer (with_dialogue arcs p f)) here ∙ live_with arcs p f ∙ sym (ap (is_live_with_peer arcs) here);
          ends = ap (is_end_deferred_at (with_dialogue arcs p f)) here ∙ ends_with arcs p f ∙ ends (find_arc arcs p) ∙ sym (ap (is_end_deferred_at arcs) here);
        }
    go false i = alike_with arcs p q f i

pub cleared_alike : (arcs : List Arc) (p : ℕ) → AreAlike arcs (with_dialogue arcs p cleared)
unfolding cleared
cleared_alike arcs p = keeps_alike arcs p cleared (λ x. refl)

pub woken_alike : (arcs : List Arc) (p : ℕ) → AreAlike arcs (with_dialogue arcs p woken)
unfolding woken
woken_alike arcs p = keeps_alike arcs p woken (λ x. refl)

-- a record that was taken is counted
live_counted : (l : Link) → is_live (with_one_taken l) ≡ is_live l
live_counted Idle = refl
live_counted (Opening x) = refl
live_counted (Offered x) = refl
live_counted (Live x y s t) = refl

pub counted_alike : (arcs : List Arc) (p : ℕ) → AreAlike arcs (with_link arcs p with_one_taken)
counted_alike [] p q = alike q []
counted_alike (a ∷ arcs) p q =
    let rest = counted_alike arcs p q in
    record {
      live = grind (arith, nat_tests, live_counted a.link, rest.live);
      ends = grind (arith, nat_tests, rest.ends);
    }

-- an end is deferred
puts_off : (arcs : List Arc) (p : ℕ) (f : Dialogue → Dialogue) → ((x : Dialogue) → is_end_deferred (f x).deferral ≡ true) → is_live_with_peer arcs p ≡ true → IsPutOff p arcs (with_dialogue arcs p f)
puts_off arcs p f off live = record {
  before = live;
  live = live_with arcs p f ∙ live;
  ends = ends_with arcs p f ∙ go (find_arc arcs p) live;
  others = λ q other. alike_with arcs p q f other;
}
  where
    go : (o : Option Arc) → look_live o ≡ true → elim o as (λ _. Bool) [ None ↦ false | Some a ↦ is_end_deferred (f a.dialogue).deferral ] ≡ true
    go None h = absurd cc
    go (Some a) h = off a.dialogue

pub said_off : (arcs : List Arc) (p : ℕ) → is_live_with_peer arcs p ≡ true → IsPutOff p arcs (with_dialogue arcs p (said Ask_defer_end))
unfolding said
said_off arcs p live = puts_off arcs p (said Ask_defer_end) (λ x. refl) live

pub heard_off : (arcs : List Arc) (p : ℕ) → is_live_with_peer arcs p ≡ true → IsPutOff p arcs (with_dialogue arcs p (heard Hear_defer_end))
unfolding heard
heard_off arcs p live = puts_off arcs p (heard Hear_defer_end) (λ x. refl) live

-- a grant is deferred, where no end is
grant_off : (arcs : List Arc) (p : ℕ) (f : Dialogue → Dialogue) → ((x : Dialogue) → is_end_deferred (f x).deferral ≡ false) → is_end_deferred_at arcs p ≡ false → AreAlike arcs (with_dialogue arcs p f)
grant_off arcs p f off none q = go (q == p) refl
  where
    ends : (o : Option Arc) → elim o as (λ _. Bool) [ None ↦ false | Some a ↦ is_end_deferred (f a.dialogue).deferral ] ≡ false
    ends None = refl
    ends (Some a) = off a.dialogue

    go : (b : Bool) → (q == p) ≡ b → IsAlike q arcs (with_dialogue arcs p f)
    go true i =
        let here : q ≡ p = grind (arith, nat_tests, i) in
        record {
          live = ap (is_live_with_peer (with_dialogue arcs p f)) here ∙ live_with arcs p f ∙ sym (ap (is_live_with_peer arcs) here);
          ends = ap (is_end_deferred_at (with_dialogue arcs p f)) here ∙ ends_with arcs p f ∙ ends (find_arc arcs p) ∙ sym (ap (is_end_deferred_at arcs) here ∙ none);
        }
    go false i = alike_with arcs p q f i

pub said_grant : (arcs : List Arc) (p : ℕ) → is_end_deferred_at arcs p ≡ false → AreAlike arcs (with_dialogue arcs p (said Ask_defer_grant))
unfolding said
said_grant arcs p none = grant_off arcs p (said Ask_defer_grant) (λ x. refl) none

pub heard_grant : (arcs : List Arc) (p : ℕ) → is_end_deferred_at arcs p ≡ false → AreAlike arcs (with_dialogue arcs p (heard Hear_defer_grant))
unfolding heard
heard_grant arcs p none = grant_off arcs p (heard Hear_defer_grant) (λ x. refl) none

-- ---- a branch begins

found_peer : (arcs : List Arc) (p : ℕ) (a : Arc) → find_arc arcs p ≡ Some a → a.peer.node ≡ p
found_peer [] p a h = absurd cc
found_peer (x ∷ arcs) p a h = grind (arith, nat_tests, found_peer arcs p a)

begun_none : (h : Holder) (x : Dialogue) → is_end_deferred (begun_by h Side.Superior x).deferral ≡ false
unfolding begun_by
begun_none h x = refl

abbrev begun_move : Who → ℕ → Digest → Current → Arc → Move
begun_move who p d c a =
    perform
    (TxOut.Carry p (DialogueRecord.Begin (aaid_of c.key) (child_on who d a).branch (named_holder a.dialogue)) ∷ [])
    (record (with_begun who (with_mark_drawn d) c (child_on who d a)) { arcs = with_dialogue d.arcs p (begun_by (named_holder a.dialogue) Side.Superior) })

begun_is : (who : Who) (p : ℕ) (d : Digest) (c : Current) (a : Arc) → d.current ≡ Some c → find_arc d.arcs p ≡ Some a → may_begin_on who d a ≡ true → begin_on who p d ≡ begun_move who p d c a
unfolding begin_on
begun_is who p d c a now found may =
    ap (λ o. with_both o (find_arc d.arcs p)) now ∙ ap (with_both (Some c)) found ∙ ap (λ b. if not b then move [] d else begun_move who p d c a) may
  where
    with_both : Option Current → Option Arc → Move
    with_both o v = elim o [ None ↦ move [] d | Some x ↦ elim v [ None ↦ move [] d | Some y ↦ if not (may_begin_on who d y) then move [] d else begun_move who p d x y ] ]

-- such an arc was no branch, it is live, and the transaction is active
pub record MayBegin (who : Who) (d : Digest) (c : Current) (a : Arc) : Type 0 where
  pub live : is_live a.link ≡ true
  pub active : is_active c.phase ≡ true
  pub none : is_peer c a.peer.node ≡ false

may_is : (who : Who) (d : Digest) (c : Current) (a : Arc) → d.current ≡ Some c → may_begin_on who d a ≡ true → MayBegin who d c a
unfolding situation_of
may_is who d c a now may =
    let all : may_begin_on who (record d { current = Some c }) a ≡ true = ap (λ o. may_begin_on who (record d { current = o }) a) (sym now) ∙ may in
    let peer : peer_of (seen who d.arcs c) a.peer.node ≡ is_peer c a.peer.node = peer_is who d.arcs c a.peer.node in
    let all_three = parts (is_live a.link) (not (is_superior d a.peer.node)) (is_active c.phase) (peer_of (seen who d.arcs c) a.peer.node) all in
    record { live = all_three.0; active = all_three.1; none = sym peer ∙ all_three.2 }
  where
    parts : (x y z w : Bool) → (x && y && z && not w) ≡ true → (x ≡ true) × (z ≡ true) × (w ≡ false)
    parts true true true false h = (refl, refl, refl)
    parts true true true true h = absurd cc
    parts true true false w h = absurd cc
    parts true false z w h = absurd cc
    parts false y z w h = absurd cc

active_late : (p : Phase) → is_active p ≡ true → (is_nil p ≡ false) × (is_rolling p ≡ false)
active_late Phase.Nil h = absurd cc
active_late Phase.Active h = (refl, refl)
active_late Phase.Ready h = absurd cc
active_late Phase.Committing h = absurd cc
active_late Phase.Rolling h = absurd cc

-- after a Begin a Branch stands for what the node then knows, in order among the arcs where it was so before
pub record IsBegunAt (who : Who) (p : ℕ) (d : Digest) (c u : Current) (a : Arc) : Type 0 where
  pub stands : standing (transacted (TxEvent.Begun (child_on who d a ∷ [])) (seen who d.arcs c)).next ≡ seen who (begin_on who p d).next.arcs u
  pub among : IsAmongArcs d.arcs c → IsAmongArcs (begin_on who p d).next.arcs u

pub begins_behind : (who : Who) (p : ℕ) (d : Digest) (c u : Current) (a : Arc) → d.current ≡ Some c → find_arc d.arcs p ≡ Some a → may_begin_on who d a ≡ true → (begin_on who p d).next.current ≡ Some u → IsBegunAt who p d c u a
begins_behind who p d c u a now found may h = record {
  stands =
      ap (λ (t : Transaction). standing (transacted (TxEvent.Begun (child_on who d a ∷ [])) t).next) same
      ∙ begun_shown who later c (child_on who d a ∷ []) phase.1 new
      ∙ ap (λ (t : Transaction). seen who later (left_of (transacted (TxEvent.Begun (child_on who d a ∷ [])) t).next)) (sym same)
      ∙ ap (seen who later) left
      ∙ ap (λ (m : Move). seen who m.next.arcs u) (sym moved);
  among = λ among. subst (λ (m : Move). IsAmongArcs m.next.arcs u) (sym moved) (subst (IsAmongArcs later) (ap (λ (t : Transaction). left_of (transacted (TxEvent.Begun (child_on who d a ∷ [])) t).next) (sym same) ∙ left)
      (begun_among who later c (child_on who d a ∷ []) (among_alike d.arcs later c among (λ q peer. others q peer (q == p) refl)) phase.1 new));
}
  where
    moved : begin_on who p d ≡ begun_move who p d c a
    moved = begun_is who p d c a now found may

    f : Dialogue → Dialogue
    f = begun_by (named_holder a.dialogue) Side.Superior

    r : DialogueRecord
    r = DialogueRecord.Begin (aaid_of c.key) (child_on who d a).branch (named_holder a.dialogue)

    later : List Arc
    later = (carried (with_dialogue d.arcs p f) p r).0

    can : MayBegin who d c a
    can = may_is who d c a now may

    here : a.peer.node ≡ p
    here = found_peer d.arcs p a found

    phase : (is_nil c.phase ≡ false) × (is_rolling c.phase ≡ false)
    phase = active_late c.phase can.active

    others : (q : ℕ) → is_peer c q ≡ true → (b : Bool) → (q == p) ≡ b → IsAlike q d.arcs later
    others q h true i =
        let at : q ≡ p = grind (arith, nat_tests, i) in
        absurd (cc (sym h ∙ ap (is_peer c) (at ∙ sym here), can.none))
    others q h false i = alike_then q d.arcs (with_dialogue d.arcs p f) later (alike_with d.arcs p q f i) (alike_carried q p (with_dialogue d.arcs p f) r)

    same : seen who d.arcs c ≡ seen who later c
    same = seen_alike who d.arcs later c (λ q h. others q h (q == p) refl)

    carried_same : IsAlike p (with_dialogue d.arcs p f) later
    carried_same = alike_carried p p (with_dialogue d.arcs p f) r

    live : is_live_with_peer later p ≡ true
    live = carried_same.live ∙ live_with d.arcs p f ∙ ap look_live found ∙ can.live

    none : is_end_deferred_at later p ≡ false
    none = carried_same.ends ∙ ends_with d.arcs p f ∙ ap (λ o. elim o as (λ _. Bool) [ None ↦ false | Some x ↦ is_end_deferred (f x.dialogue).deferral ]) found ∙ begun_none (named_holder a.dialogue) a.dialogue

    new : AreNew (child_on who d a ∷ []) later c
    new = (ap (is_live_with_peer later) here ∙ live, ap (is_end_deferred_at later) here ∙ none, can.none, refl, tt)

    next : Transaction
    next = (transacted (TxEvent.Begun (child_on who d a ∷ [])) (seen who d.arcs c)).next

    some : remaining next ≡ Some u
    some = ap (λ (m : Move). m.next.current) (sym moved) ∙ h

    left : left_of next ≡ u
    left = let both : Some (left_of next) ≡ Some u = rw (phase.0, remaining) at some in cc (both)
