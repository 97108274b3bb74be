-- A record that is taken on an arc.
use Rattle.std.proofs.Common.{◌≡◌, ◌==◌, ℕ, Bool, true, false, Option, Some, None, List, [], ◌∷◌, refl, ap, sym, ◌∙◌, arith}
use Rattle.std.specs.Prelude.{not, if◌then◌else◌}
use Rattle.std.proofs.lemmas.Bool.Decides.{nat_tests}
use Rattle.std.specs.Option.{option_map}
use Rattle.tp_names.specs.declared.identifiers.Addr.{Addr}
use Rattle.tp_names.specs.declared.identifiers.Mark.{Mark}
use Rattle.tp_records.specs.declared.dialogue.DialogueRecord.{DialogueRecord}
use Rattle.tp_model.specs.Dialogues.{woken}
use Rattle.tp_model.specs.Links.{dropped_by, with_one_taken}
use Rattle.tp_model.specs.Parts.{Link, Idle, Dialogue, Arc, Digest}
use Rattle.tp_model.specs.Arcs.{find_arc, put_arc, link_with, with_dialogue, with_link}
use Rattle.tp_model.specs.Arrivals.{is_response, woken_by}
use Rattle.tp_link.specs.Link.{with_one_sent}
use Rattle.tp_tree.specs.declared.tie.Tie.{Tie}
use Rattle.tp_tree.specs.Tie.{arc_of}
use Rattle.tp_tree.specs.Invocation.{Invocation, arcs_of, with_tie}
use Rattle.tp_node_state.specs.Arcs.{Arcs, value_of, side_with, fits_link}
use Rattle.tp_node_state.specs.SharedArcs.{Stands, taken_in, woken_if}
use Rattle.tp_node_state.proofs.Sides.{with_link_none, with_dialogue_none, written}
use Rattle.tp_node_state.proofs.Linked.{fits_sent, fits_taken}
use Rattle.tp_node_state.proofs.Shares.{found_number}

none_counted : (arcs : List Arc) (p : ℕ) (f : Link → Link) → find_arc arcs p ≡ None → find_arc (with_link arcs p f) p ≡ None
none_counted arcs p f none = ap (λ (l : List Arc). find_arc l p) (with_link_none arcs p f none) ∙ none

-- there is no such arc
pub none_taken : (w : Bool) (arcs : List Arc) (p : ℕ) → find_arc arcs p ≡ None → taken_in w p arcs ≡ arcs
none_taken false arcs p none = with_link_none arcs p with_one_taken none
none_taken true arcs p none = with_dialogue_none (with_link arcs p with_one_taken) p woken (none_counted arcs p with_one_taken none) ∙ with_link_none arcs p with_one_taken none

-- its number is the next one
pub number_there : (arcs : List Arc) (p : ℕ) (a : Arc) (x y : Mark) (q : ℕ) → find_arc arcs p ≡ Some a → dropped_by (link_with arcs p) x y q ≡ None → dropped_by a.link x y q ≡ None
number_there arcs p a x y q found ok = sym (ap (λ (o : Option Arc). dropped_by (elim o as (λ _. Link) [ None ↦ Idle | Some b ↦ b.link ]) x y q) found) ∙ ok

put_taken_woken : (arcs : List Arc) (p : ℕ) (a : Arc) → find_arc arcs p ≡ Some a → put_arc arcs (record a { link = with_one_taken a.link; dialogue = woken a.dialogue }) ≡ with_dialogue (with_link arcs p with_one_taken) p woken
put_taken_woken [] p a h = refl
put_taken_woken (c ∷ arcs) p a h = go (c.peer.node == p) refl (put_taken_woken arcs p a)
  where
    number : a.peer.node ≡ p
    number = found_number (c ∷ arcs) p a h

    go : (v : Bool) → (c.peer.node == p) ≡ v
        → (find_arc arcs p ≡ Some a → put_arc arcs (record a { link = with_one_taken a.link; dialogue = woken a.dialogue }) ≡ with_dialogue (with_link arcs p with_one_taken) p woken)
        → put_arc (c ∷ arcs) (record a { link = with_one_taken a.link; dialogue = woken a.dialogue }) ≡ with_dialogue (with_link (c ∷ arcs) p with_one_taken) p woken
    go true e rest =
        let first : find_arc (c ∷ arcs) p ≡ Some c = grind (arith, e) in
        let same : Some c ≡ Some a = sym first ∙ h in
        grind (arith, nat_tests, e, number, same)
    go false e rest =
        let first : find_arc (c ∷ arcs) p ≡ find_arc arcs p = grind (arith, e) in
        let tail = rest (sym first ∙ h) in
        grind (arith, nat_tests, e, number, tail)

put_taken_only : (arcs : List Arc) (p : ℕ) (a : Arc) → find_arc arcs p ≡ Some a → put_arc arcs (record a { link = with_one_taken a.link }) ≡ with_link arcs p with_one_taken
put_taken_only [] p a h = refl
put_taken_only (c ∷ arcs) p a h = go (c.peer.node == p) refl (put_taken_only arcs p a)
  where
    number : a.peer.node ≡ p
    number = found_number (c ∷ arcs) p a h

    go : (v : Bool) → (c.peer.node == p) ≡ v → (find_arc arcs p ≡ Some a → put_arc arcs (record a { link = with_one_taken a.link }) ≡ with_link arcs p with_one_taken)
        → put_arc (c ∷ arcs) (record a { link = with_one_taken a.link }) ≡ with_link (c ∷ arcs) p with_one_taken
    go true e rest =
        let first : find_arc (c ∷ arcs) p ≡ Some c = grind (arith, e) in
        let same : Some c ≡ Some a = sym first ∙ h in
        grind (arith, nat_tests, e, number, same)
    go false e rest =
        let first : find_arc (c ∷ arcs) p ≡ find_arc arcs p = grind (arith, e) in
        let tail = rest (sym first ∙ h) in
        grind (arith, nat_tests, e, number, tail)

pub put_taken : (w : Bool) (arcs : List Arc) (p : ℕ) (a : Arc) → find_arc arcs p ≡ Some a → put_arc arcs (record a { link = with_one_taken a.link; dialogue = woken_if w a.dialogue }) ≡ taken_in w p arcs
put_taken true arcs p a h = put_taken_woken arcs p a h
put_taken false arcs p a h = put_taken_only arcs p a h

-- a record that wakes the arc, or does not
pub woken_so : (r : DialogueRecord) (p : ℕ) (d : Digest) → woken_by r p (record d { arcs = with_link d.arcs p with_one_taken }) ≡ record d { arcs = taken_in (not (is_response r)) p d.arcs }
woken_so r p d = go (is_response r)
  where
    go : (b : Bool) → (let e : Digest = record d { arcs = with_link d.arcs p with_one_taken } in if b then e else record e { arcs = with_dialogue e.arcs p woken }) ≡ record d { arcs = taken_in (not b) p d.arcs }
    go true = refl
    go false = refl

-- the arc, as the record leaves it
pub arc_taken : (w : Bool) (t u : Tie) → u.addr ≡ t.addr → u.link ≡ with_one_taken t.link → u.dialogue.dialogue ≡ woken_if w t.dialogue.dialogue → arc_of u ≡ record (arc_of t) { link = with_one_taken t.link; dialogue = woken_if w t.dialogue.dialogue }
arc_taken w t u addr link dialogue =
    let made : Addr → Link → Dialogue → Arc = λ a l d. record { peer = a; link = l; dialogue = d } in
    ap (λ (a : Addr). made a u.link u.dialogue.dialogue) addr
    ∙ ap (λ (l : Link). made t.addr l u.dialogue.dialogue) link
    ∙ ap (made t.addr (with_one_taken t.link)) dialogue

pub stands_taken : (v : Arcs) (p : ℕ) (t u : Tie) → Some (arc_of t) ≡ find_arc v.arcs p → u.addr ≡ t.addr → u.link ≡ with_one_taken t.link → u.dialogue.side ≡ side_with v.superior p → fits_link (side_with v.superior p) t.link ≡ true → Stands v u
stands_taken v p t u found addr link side fits =
    let at : u.addr.node ≡ p = ap (λ (a : Addr). a.node) addr ∙ found_number v.arcs p (arc_of t) (sym found) in
    record {
      there = ap (option_map (λ (a : Arc). a.peer)) (ap (find_arc v.arcs) at ∙ sym found) ∙ ap (λ (a : Addr). Some a) (sym addr);
      side = side ∙ sym (ap (side_with v.superior) at);
      link = ap (λ (q : ℕ). fits_link (side_with v.superior q) u.link) at ∙ ap (fits_link (side_with v.superior p)) link ∙ fits_taken (side_with v.superior p) t.link ∙ fits;
    }

-- it is taken on an arc where it stands
pub taken_written : (v : Invocation) (d : Arcs) (w : Bool) (p : ℕ) (t u : Tie)
    → ((x : Tie) → (arc_of x).peer.node ≡ p → arcs_of (with_tie v p x) ≡ put_arc (arcs_of v) (arc_of x)) → find_arc (arcs_of v) p ≡ Some (arc_of t)
    → u.addr ≡ t.addr → u.link ≡ with_one_taken t.link → u.dialogue.dialogue ≡ woken_if w t.dialogue.dialogue → value_of (record { tree = v }) ≡ d
    → value_of (record { tree = with_tie v p u }) ≡ record d { arcs = taken_in w p d.arcs }
taken_written v d w p t u puts found addr link dialogue is =
    let at : u.addr.node ≡ p = ap (λ (a : Addr). a.node) addr ∙ found_number (arcs_of v) p (arc_of t) found in
    let put : arcs_of (with_tie v p u) ≡ taken_in w p (arcs_of v) = puts u at ∙ ap (put_arc (arcs_of v)) (arc_taken w t u addr link dialogue) ∙ put_taken w (arcs_of v) p (arc_of t) found in
    written v d p u (taken_in w p d.arcs) (put ∙ ap (λ (x : Arcs). taken_in w p x.arcs) is) is

-- one that is numbered there
pub stands_numbered : (v : Arcs) (p : ℕ) (t u : Tie) → Some (arc_of t) ≡ find_arc v.arcs p → u.addr ≡ t.addr → u.link ≡ with_one_sent t.link → u.dialogue.side ≡ side_with v.superior p → fits_link (side_with v.superior p) t.link ≡ true → Stands v u
stands_numbered v p t u found addr link side fits =
    let at : u.addr.node ≡ p = ap (λ (a : Addr). a.node) addr ∙ found_number v.arcs p (arc_of t) (sym found) in
    record {
      there = ap (option_map (λ (a : Arc). a.peer)) (ap (find_arc v.arcs) at ∙ sym found) ∙ ap (λ (a : Addr). Some a) (sym addr);
      side = side ∙ sym (ap (side_with v.superior) at);
      link = ap (λ (q : ℕ). fits_link (side_with v.superior q) u.link) at ∙ ap (fits_link (side_with v.superior p)) link ∙ fits_sent (side_with v.superior p) t.link ∙ fits;
    }
