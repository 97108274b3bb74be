-- What a passage does to the arcs, kept and as the definitions have it.
use Rattle.std.proofs.Common.{◌≡◌, ℕ, Bool, true, false, ◌&&◌, Option, Some, None, List, [], ◌∷◌, map, refl, ap, sym, ◌∙◌}
use Rattle.std.specs.Prelude.{◌||◌, ◌==◌, not, cond, if◌then◌else◌}
use Rattle.tp_names.specs.declared.identifiers.Addr.{Addr}
use Rattle.tp_model.specs.declared.arc.Side.{Side}
use Rattle.tp_names.specs.declared.outcome.Outcome.{Outcome}
use Rattle.tp_model.specs.Parts.{Arc, Dialogue, Digest}
use Rattle.tp_model.specs.Dialogues.{cleared, completed, rested}
use Rattle.tp_model.specs.Arcs.{with_dialogues}
use Rattle.tp_model.specs.Transactions.{Transaction, is_under_at, row_holds}
use Rattle.tp_model.specs.Node.{side_at, is_arc_of, without_deferral, completed_arcs, committed_dialogue, committed_arcs, left_arcs}
use Rattle.tp_tree.specs.declared.tie.Tie.{Tie}
use Rattle.tp_tree.specs.Tie.{arc_of}
use Rattle.tp_tree.specs.Invocation.{Invocation, arcs_of}
use Rattle.tp_node_state.specs.declared.arc_step.ArcStep.{ArcStep}
use Rattle.tp_node_state.specs.Arcs.{side_with, is_on, all_on, is_on_option, is_absent, is_apart, is_sided}
use Rattle.tp_node_state.specs.ArcStep.{stepped, stepped_arcs, stepped_tie, stepped_ties, stepped_above, stepped_tree}
use Rattle.tp_node_state.proofs.Sides.{on_side}

stepped_on : (st : ArcStep) (t : Transaction) (side : Side) (s : Option Addr) (ts : List Tie) → all_on side s (stepped_ties st t ts) ≡ all_on side s ts
stepped_on st t side s [] = refl
stepped_on st t side s (x ∷ ts) = ap (λ b. is_on side s x && b) (stepped_on st t side s ts)

on_above : (st : ArcStep) (t : Transaction) (s : Option Addr) (o : Option Tie) → is_on_option Side.Subordinate s (stepped_above st t o) ≡ is_on_option Side.Subordinate s o
on_above st t s None = refl
on_above st t s (Some x) = refl

stepped_absent : (st : ArcStep) (t : Transaction) (ts : List Tie) (p : ℕ) → is_absent (stepped_ties st t ts) p ≡ is_absent ts p
stepped_absent st t [] p = refl
stepped_absent st t (x ∷ ts) p = ap (λ b. if x.addr.node == p then false else b) (stepped_absent st t ts p)

stepped_apart : (st : ArcStep) (t : Transaction) (ts : List Tie) → is_apart (stepped_ties st t ts) ≡ is_apart ts
stepped_apart st t [] = refl
stepped_apart st t (x ∷ ts) = (λ i. stepped_absent st t ts x.addr.node i && stepped_apart st t ts i)

pub stepped_sided : (st : ArcStep) (t : Transaction) (v : Invocation) → is_sided v ≡ true → is_sided (stepped_tree st t v) ≡ true
stepped_sided st t v h = (λ i. on_above st t v.superior v.above i && (stepped_on st t Side.Superior v.superior v.below i && stepped_apart st t v.below i)) ∙ h

both_hold : (a b : Bool) → (a && b) ≡ true → (a ≡ true) × (b ≡ true)
both_hold true true e = (refl, refl)
both_hold true false e = absurd (let clash : false ≡ true = e in cc)
both_hold false b e = absurd (let clash : false ≡ true = e in cc)

one_stepped : (st : ArcStep) (t : Transaction) (side : Side) (s : Option Addr) (x : Tie) → is_on side s x ≡ true → arc_of (stepped_tie st t x) ≡ (let a : Arc = arc_of x in record a { dialogue = stepped st (side_with s a.peer.node) t a })
one_stepped st t side s x h = ap (λ (d : Side). let a : Arc = arc_of x in record a { dialogue = stepped st d t a }) (on_side side s x h)

below_stepped : (st : ArcStep) (t : Transaction) (side : Side) (s : Option Addr) (ts : List Tie) → all_on side s ts ≡ true → map arc_of (stepped_ties st t ts) ≡ stepped_arcs st s t (map arc_of ts)
below_stepped st t side s [] h = refl
below_stepped st t side s (x ∷ ts) h =
    let p = both_hold (is_on side s x) (all_on side s ts) h in
    λ i. one_stepped st t side s x p.0 i ∷ below_stepped st t side s ts p.1 i

pub stepped_all : (st : ArcStep) (t : Transaction) (v : Invocation) → is_sided v ≡ true → arcs_of (stepped_tree st t v) ≡ stepped_arcs st v.superior t (arcs_of v)
stepped_all st t v h = go v.above refl
  where
    parts : (is_on_option Side.Subordinate v.superior v.above ≡ true) × (all_on Side.Superior v.superior v.below ≡ true)
    parts = let p = both_hold (is_on_option Side.Subordinate v.superior v.above) (all_on Side.Superior v.superior v.below && is_apart v.below) h in (p.0, (both_hold (all_on Side.Superior v.superior v.below) (is_apart v.below) p.1).0)

    arcs_with : Option Tie → List Tie → List Arc
    arcs_with o ts = map arc_of (elim o as (λ _. List Tie) [ None ↦ ts | Some x ↦ x ∷ ts ])

    with_above : (o : Option Tie) → is_on_option Side.Subordinate v.superior o ≡ true → arcs_with (stepped_above st t o) (stepped_ties st t v.below) ≡ stepped_arcs st v.superior t (arcs_with o v.below)
    with_above None e = below_stepped st t Side.Superior v.superior v.below parts.1
    with_above (Some x) e = λ i. one_stepped st t Side.Subordinate v.superior x e i ∷ below_stepped st t Side.Superior v.superior v.below parts.1 i

    go : (o : Option Tie) → v.above ≡ o → arcs_of (stepped_tree st t v) ≡ stepped_arcs st v.superior t (arcs_of v)
    go o e = with_above v.above parts.0

-- ---- as the definitions have it

steps_where : (arcs : List Arc) (test : Arc → Bool) (f : Arc → Dialogue) → with_dialogues arcs (λ a. true) (λ a. cond (test a) (f a) a.dialogue) ≡ with_dialogues arcs test f
steps_where [] test f = refl
steps_where (a ∷ arcs) test f = λ i. one (test a) i ∷ steps_where arcs test f i
  where
    one : (b : Bool) → (record a { dialogue = cond b (f a) a.dialogue }) ≡ cond b (record a { dialogue = f a }) a
    one true = refl
    one false = refl

pub entered_arcs : (s : Option Addr) (t : Transaction) (arcs : List Arc) → stepped_arcs ArcStep.Enter s t arcs ≡ with_dialogues arcs (is_arc_of t) (λ a. cleared a.dialogue)
entered_arcs s t arcs = steps_where arcs (is_arc_of t) (λ a. cleared a.dialogue)

pub fallen_arcs : (s : Option Addr) (t : Transaction) (arcs : List Arc) → stepped_arcs ArcStep.Fall s t arcs ≡ with_dialogues arcs (is_arc_of t) (λ a. without_deferral (cleared a.dialogue))
fallen_arcs s t arcs = steps_where arcs (is_arc_of t) (λ a. without_deferral (cleared a.dialogue))

pub rolled_arcs : (d : Digest) (t : Transaction) (arcs : List Arc) → stepped_arcs ArcStep.RollBack d.superior t arcs ≡ completed_arcs d t Outcome.Rollback arcs
rolled_arcs d t arcs = steps_where arcs (is_arc_of t) (λ a. completed Outcome.Rollback (side_at d a.peer.node) a.dialogue)

pub done_arcs : (d : Digest) (t : Transaction) (arcs : List Arc) → stepped_arcs ArcStep.Commit d.superior t arcs ≡ committed_arcs d t arcs
done_arcs d t arcs = steps_where arcs (is_arc_of t) (committed_dialogue d t)

pub gone_arcs : (s : Option Addr) (t : Transaction) (arcs : List Arc) → stepped_arcs ArcStep.Leave s t arcs ≡ left_arcs t arcs
gone_arcs s t [] = refl
gone_arcs s t (a ∷ arcs) = λ i. one (is_under_at t.key a.peer.node) (row_holds t.rows a.peer.node (λ b. true)) refl i ∷ gone_arcs s t arcs i
  where
    over : Dialogue
    over = completed Outcome.Rollback Side.Superior a.dialogue

    one : (u r : Bool) → is_under_at t.key a.peer.node ≡ u
        → (record a { dialogue = cond (u || r) (cond u (rested a.dialogue) over) a.dialogue })
        ≡ (let b : Arc = cond (not u && r) (record a { dialogue = over }) a in cond (is_under_at t.key b.peer.node) (record b { dialogue = rested b.dialogue }) b)
    one true r e = ap (λ (w : Bool). cond w (record a { dialogue = rested a.dialogue }) a) (sym e)
    one false true e = ap (λ (w : Bool). cond w (record a { dialogue = rested over }) (record a { dialogue = over })) (sym e)
    one false false e = ap (λ (w : Bool). cond w (record a { dialogue = rested a.dialogue }) a) (sym e)
