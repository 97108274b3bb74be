-- How a node came to know a tree.
use Rattle.std.proofs.Common.{◌≡◌, ◌⊎◌, inl, inr, ℕ, Bool, true, false, refl, ap, sym, ◌∙◌, arith, Option, Some, None, List, [], ◌∷◌, ◌&&◌, ◌||◌}
use Rattle.std.proofs.lemmas.Bool.Decides.{nat_tests}
use Rattle.tp_names.specs.declared.identifiers.Mark.{Mark}
use Rattle.tp_names.specs.declared.identifiers.Aaid.{Aaid}
use Rattle.tp_names.specs.declared.identifiers.BranchId.{BranchId}
use Rattle.tp_names.specs.declared.identifiers.Addr.{Addr}
use Rattle.tp_names.specs.Same.{is_aaid}
use Rattle.tp_records.specs.declared.dialogue.DialogueRecord.{DialogueRecord}
use Rattle.tp_records.specs.declared.dialogue.Holder.{Holder}
use Rattle.tp_records.specs.declared.peer.PeerRecord.{PeerRecord}
use Rattle.tp_model.specs.Parts.{Who, Origin, Event, Entry, Arc, Under, Current, Digest}
use Rattle.tp_model.specs.Dialogues.{is_nil}
use Rattle.tp_model.specs.Arcs.{find_arc}
use Rattle.tp_model.specs.Node.{phase_of, is_superior, fresh_current}
use Rattle.tp_model.specs.Arrivals.{refused_arrival, sight_of}
use Rattle.tp_model.specs.Events.{refusal, verdict, action, after, after_crash, recovered_current, started}
use Rattle.tp_model.specs.History.{digest}
use Rattle.tp_model.specs.Outcomes.{is_now}
use Rattle.tp_model.specs.Legal.{IsGrown}
use Rattle.tp_steps.specs.Moves.{IsLate, prelude, begun_in, counted_in}
use Rattle.tp_steps.specs.Traces.{is_old}
use Rattle.tp_steps.specs.Trees.{IsDrawn, IsTreed}
use Rattle.tp_histories.specs.Members.{is_begun_by, has_taken_begin, is_own, is_known}
use Rattle.tp_steps.proofs.every.EveryEvent.{every_move}
use Rattle.tp_histories.proofs.trees.Late.{late_law, late_prelude}
use Rattle.tp_steps.proofs.links.Marks.{prelude_drawn, old_stays, Same_boot, Later_boot}
use Rattle.tp_histories.proofs.marks.Traced.{told, traced_law}
use Rattle.tp_steps.proofs.lemmas.Equality.{or_case, and_left, and_right}
use Rattle.tp_steps.proofs.words.Treed.{now_some, drawn_old}
use Rattle.tp_histories.proofs.trees.TreedMoves.{treed_moves}

-- ---- the prelude

-- what is current after it
pub data Came (who : Who) (d : Digest) (e : Event) : Type 0 where
  As_it_was : (prelude who d e).current ≡ d.current → Came who d e
  By_begin : (from : Addr) (x y : Mark) (q : ℕ) (t : Aaid) (b : BranchId) (h : Holder) (a : Arc) → e ≡ Event.Arrive from (PeerRecord.OnAssoc x y q (DialogueRecord.Begin t b h)) → find_arc d.arcs from.node ≡ Some a
      → (prelude who d e).current ≡ Some (fresh_current (Under t b a.peer)) → is_nil (phase_of d) ≡ true → is_superior d a.peer.node ≡ true → Came who d e
  By_crash : e ≡ Event.Crash → (prelude who d e).current ≡ recovered_current d.current → Came who d e

pub begin_seen : (who : Who) (d : Digest) (from : Addr) (x y : Mark) (q : ℕ) (t : Aaid) (b : BranchId) (h : Holder) (a : Arc) → refusal who d (Event.Arrive from (PeerRecord.OnAssoc x y q (DialogueRecord.Begin t b h))) ≡ None
    → find_arc d.arcs from.node ≡ Some a → (is_nil (phase_of d) ≡ true) × (is_superior d a.peer.node ≡ true)
unfolding refusal verdict refused_arrival sight_of
begin_seen who d from x y q t b h a ok i = (grind (arith, ok, i), grind (arith, ok, i))

pub begin_arc : (who : Who) (d : Digest) (from : Addr) (x y : Mark) (q : ℕ) (t : Aaid) (b : BranchId) (h : Holder) → refusal who d (Event.Arrive from (PeerRecord.OnAssoc x y q (DialogueRecord.Begin t b h))) ≡ None
    → find_arc d.arcs from.node ≡ None → ⊥
unfolding refusal verdict refused_arrival
begin_arc who d from x y q t b h ok i = absurd (grind (arith, ok, i))

pub came_by : (who : Who) (d : Digest) (e : Event) → refusal who d e ≡ None → Came who d e
unfolding after_crash
came_by who d (Event.Do r) ok = As_it_was (grind arith)
came_by who d (Event.Arrive from (PeerRecord.OnAssoc x y q (DialogueRecord.Begin t b h))) ok = go (find_arc d.arcs from.node) refl
  where
    go : (o : Option Arc) → find_arc d.arcs from.node ≡ o → Came who d (Event.Arrive from (PeerRecord.OnAssoc x y q (DialogueRecord.Begin t b h)))
    go None i = absurd (begin_arc who d from x y q t b h ok i)
    go (Some a) i = let k = begin_seen who d from x y q t b h a ok i in By_begin from x y q t b h a refl i (ap (λ (o : Option Arc). (begun_in o t b (counted_in d from)).current) i) k.0 k.1
came_by who d (Event.Arrive from r) ok = As_it_was (grind arith)
came_by who d Event.Crash ok = By_crash refl refl
came_by who d _ ok = As_it_was refl

pub old_prelude : (who : Who) (d : Digest) (e : Event) (m : Mark) → is_old who d m ≡ true → is_old who (prelude who d e) m ≡ true
old_prelude who d e m h = elim (prelude_drawn who d e) [
  | inl i ↦ old_stays who d (prelude who d e) m (Same_boot i.0 i.1) h
  | inr i ↦ old_stays who d (prelude who d e) m (Later_boot i) h
]

-- a foreign mark is drawn by no event
pub foreign_old : (who : Who) (d : Digest) (t : Aaid) → is_own who t ≡ false → is_old who d t.mark ≡ true
foreign_old who d t h = grind (arith, h)

-- ---- an event

pub treed_event : (who : Who) (d : Digest) (e : Event) (t : Aaid) (p : ℕ) → IsLate d → refusal who d e ≡ None → IsTreed who (prelude who d e) true t p (prelude who d e) (action who d e)
treed_event who d e t p late ok = every_move who d e (IsTreed who (prelude who d e) true t p) (treed_moves who e (prelude who d e) true t p (λ c f arcs at asked h. refl)) late ok

pub nil_now : (d : Digest) (t : Aaid) → IsLate d → is_nil (phase_of d) ≡ true → is_now t d.current ≡ false
nil_now d t late nil = go (is_now t d.current) refl
  where
    go : (b : Bool) → is_now t d.current ≡ b → is_now t d.current ≡ false
    go false i = i
    go true i =
        let c = now_some t d.current i in
        let young = late c.0 c.1 in
        let old : is_nil c.0.phase ≡ true = rw (c.1, phase_of) at nil in
        absurd (cc (young, old))

pub recovered_now : (t : Aaid) (o : Option Current) → is_now t (recovered_current o) ≡ true → is_now t o ≡ true
recovered_now t None h = h
recovered_now t (Some c) h = grind (arith, h)

pub begun_is : (t u : Aaid) (from : Addr) (x y : Mark) (q : ℕ) (b : BranchId) (h : Holder) (e : Event) → e ≡ Event.Arrive from (PeerRecord.OnAssoc x y q (DialogueRecord.Begin u b h)) → is_aaid t u ≡ true → is_begun_by t e ≡ true
begun_is t u from x y q b h e is same = ap (is_begun_by t) is ∙ same

-- a tree that is current after the prelude was so, or its Begin is taken
pub now_prelude : (who : Who) (d : Digest) (e : Event) (t : Aaid) → refusal who d e ≡ None → is_now t (prelude who d e).current ≡ true → (is_now t d.current ≡ true) ⊎ (is_begun_by t e ≡ true)
now_prelude who d e t ok h = go (came_by who d e ok)
  where
    go : Came who d e → (is_now t d.current ≡ true) ⊎ (is_begun_by t e ≡ true)
    go (As_it_was i) = inl (ap (is_now t) (sym i) ∙ h)
    go (By_begin from x y q u b k a is found cur nil up) = let same : is_aaid t u ≡ true = ap (is_now t) (sym cur) ∙ h in inr (begun_is t u from x y q b k e is same)
    go (By_crash is cur) = inl (recovered_now t d.current (ap (is_now t) (sym cur) ∙ h))

own_drawn : (who : Who) (d e : Digest) (t : Aaid) → IsDrawn who d e t → is_own who t ≡ true
own_drawn who d e t x = ap (is_own who) x.is ∙ grind (arith, nat_tests)

own_or : (a b c : Bool) → a ≡ true → b ≡ true → ((a && b) || c) ≡ true
own_or a b c h i = rw (h, i) refl

-- what the node knows it goes on to know
pub known_more : (o : Origin) (up : Option Addr) (e : Entry) (h : List Entry) (t : Aaid) → IsGrown o up (e ∷ h) → is_known o t h ≡ true → is_known o t (e ∷ h) ≡ true
known_more o up e h t legal k = elim (or_case (is_own o.who t && is_old o.who (digest o h) t.mark) (has_taken_begin t h) k) [
  | inl i ↦ (let own = and_left (is_own o.who t) (is_old o.who (digest o h) t.mark) i in let old : is_old o.who (digest o (e ∷ h)) t.mark ≡ true = stays (and_right (is_own o.who t) (is_old o.who (digest o h) t.mark) i) in own_or (is_own o.who t) (is_old o.who (digest o (e ∷ h)) t.mark) (has_taken_begin t (e ∷ h)) own old)
  | inr i ↦ rw i (grind arith)
]
  where
    d : Digest
    d = digest o h

    stays : is_old o.who d t.mark ≡ true → is_old o.who (after o.who d e.event) t.mark ≡ true
    stays i =
        let traced = traced_law o up h legal.3 in
        old_stays o.who d (after o.who d e.event) t.mark (told o.who up 0 d e.event (late_law o up h legal.3) traced.under traced.declared legal.0).drawn i

-- a tree that is or was current is known
pub known_drawn : (o : Origin) (e : Entry) (h : List Entry) (t : Aaid) → IsTreed o.who (prelude o.who (digest o h) e.event) true t 0 (prelude o.who (digest o h) e.event) (action o.who (digest o h) e.event)
    → IsDrawn o.who (prelude o.who (digest o h) e.event) (digest o (e ∷ h)) t → is_known o t (e ∷ h) ≡ true
known_drawn o e h t k x =
    let own = own_drawn o.who (prelude o.who (digest o h) e.event) (digest o (e ∷ h)) t x in
    let old = drawn_old o.who (prelude o.who (digest o h) e.event) (digest o (e ∷ h)) t k.boot x in
    own_or (is_own o.who t) (is_old o.who (digest o (e ∷ h)) t.mark) (has_taken_begin t (e ∷ h)) own old

pub known_begun : (o : Origin) (e : Entry) (h : List Entry) (t : Aaid) → is_begun_by t e.event ≡ true → is_known o t (e ∷ h) ≡ true
known_begun o e h t i = rw i (grind arith)

pub current_none : (o : Origin) → o.start.records ≡ [] → (digest o []).current ≡ None
unfolding started
current_none o empty = rw empty refl

pub now_known : (o : Origin) (up : Option Addr) (h : List Entry) (t : Aaid) → o.start.records ≡ [] → IsGrown o up h → is_now t (digest o h).current ≡ true → is_known o t h ≡ true
now_known o up [] t empty legal n = absurd (cc (ap (is_now t) (current_none o empty), n))
now_known o up (e ∷ h) t empty legal n =
    let d : Digest = digest o h in
    let late = late_law o up h legal.3 in
    let k = treed_event o.who d e.event t 0 late legal.0 in
    go k (k.enters (late_prelude o.who d e.event late) n) (now_known o up h t empty legal.3)
  where
    go : IsTreed o.who (prelude o.who (digest o h) e.event) true t 0 (prelude o.who (digest o h) e.event) (action o.who (digest o h) e.event)
        → (is_now t (prelude o.who (digest o h) e.event).current ≡ true) ⊎ IsDrawn o.who (prelude o.who (digest o h) e.event) (digest o (e ∷ h)) t → (is_now t (digest o h).current ≡ true → is_known o t h ≡ true) → is_known o t (e ∷ h) ≡ true
    go k (inr x) rest = known_drawn o e h t k x
    go k (inl i) rest = elim (now_prelude o.who (digest o h) e.event t legal.0 i) [
      | inl j ↦ known_more o up e h t legal (rest j)
      | inr j ↦ known_begun o e h t j
    ]
