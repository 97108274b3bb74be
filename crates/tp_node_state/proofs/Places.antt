-- A place for one arc more.
use Rattle.std.proofs.Common.{◌≡◌, ℕ, Bool, true, false, Option, Some, None, List, [], ◌∷◌, ◌++◌, map, refl, ap, sym, ◌∙◌, arith}
use Rattle.std.specs.Prelude.{◌==◌, nat_lt, cond}
use Rattle.std.specs.Cmp.{unsigned_Decides}
use Rattle.std.proofs.lemmas.Grind.{common_steps}
use Rattle.tp_names.specs.declared.identifiers.Addr.{Addr}
use Rattle.tp_model.specs.declared.arc.Side.{Side}
use Rattle.tp_model.specs.Parts.{Link, Dialogue, Arc}
use Rattle.tp_model.specs.Arcs.{find_arc, with_link, with_dialogue, put_arc}
use Rattle.tp_tree.specs.declared.tie.Tie.{Tie}
use Rattle.tp_tree.specs.Tie.{arc_of, fresh_arc}
use Rattle.tp_tree.specs.Invocation.{Invocation, arcs_of, has_room, with_arc}
use Rattle.tp_node_state.specs.Arcs.{side_with, is_on, is_sided, has_place, new_arc}
use Rattle.tp_node_state.proofs.Sides.{count_sided, on_side, on_itself}

at_side : (n p : ℕ) → Side.Subordinate ≡ cond (n == p) Side.Subordinate Side.Superior → n ≡ p
at_side n p is = go (n == p) refl
  where
    is_below : Side → Bool
    is_below Side.Superior = false
    is_below Side.Subordinate = true

    go : (b : Bool) → (n == p) ≡ b → n ≡ p
    go true e = (unsigned_Decides n p).0 e
    go false e = absurd (let clash : true ≡ false = ap is_below is ∙ ap (λ b. is_below (cond b Side.Subordinate Side.Superior)) e in cc)

same_superior : (s : Option Addr) (p q : ℕ) → Side.Subordinate ≡ side_with s p → Side.Subordinate ≡ side_with s q → p ≡ q
same_superior None p q is at = absurd (cc is)
same_superior (Some a) p q is at = sym (at_side a.node p is) ∙ at_side a.node q at

above_sided : (v : Invocation) (t : Tie) → is_sided v ≡ true → v.above ≡ Some t → is_on Side.Subordinate v.superior t ≡ true
above_sided v t h e = grind (arith, common_steps, h, e)

-- the superior's arc is found by the superior's number
pub none_above : (v : Invocation) (p : ℕ) → is_sided v ≡ true → Side.Subordinate ≡ side_with v.superior p → find_arc (arcs_of v) p ≡ None → v.above ≡ None
none_above v p h is none = go v.above refl
  where
    go : (o : Option Tie) → v.above ≡ o → v.above ≡ None
    go None e = e
    go (Some t) e =
        let side : t.dialogue.side ≡ side_with v.superior t.addr.node = on_side Side.Subordinate v.superior t (above_sided v t h e) in
        let below : t.dialogue.side ≡ Side.Subordinate = on_itself Side.Subordinate v.superior t (above_sided v t h e) in
        let at : t.addr.node ≡ p = same_superior v.superior t.addr.node p (sym below ∙ side) is in
        let here : (t.addr.node == p) ≡ true = (unsigned_Decides t.addr.node p).1 at in
        absurd (let clash : None ≡ Some (arc_of t) = sym none ∙ ap (λ (x : Option Tie). find_arc (map arc_of (elim x as (λ _. List Tie) [ None ↦ v.below | Some u ↦ u ∷ v.below ])) p) e ∙ ap (λ b. cond b (Some (arc_of t)) (find_arc (map arc_of v.below) p)) here in cc)

pub place_for : (v : Invocation) (a : Addr) (side : Side) → is_sided v ≡ true → find_arc (arcs_of v) a.node ≡ None → side ≡ side_with v.superior a.node → has_place side (record { superior = v.superior; room = v.room; arcs = arcs_of v }) ≡ true → has_room side v ≡ true
place_for v a Side.Superior h none is place = ap (λ n. nat_lt n v.room) (count_sided v h) ∙ place
place_for v a Side.Subordinate h none is place = ap (λ (o : Option Tie). elim o as (λ _. Bool) [ None ↦ true | Some t ↦ false ]) (none_above v a.node h is none)

pub link_added : (arcs : List Arc) (a : Addr) (units : ℕ) (side : Side) (l : Link) → find_arc arcs a.node ≡ None → with_link (with_arc side (fresh_arc a units side) arcs) a.node (λ _. l) ≡ with_arc side (new_arc a units side l) arcs
link_added arcs a units Side.Subordinate l none = let here : (a.node == a.node) ≡ true = (unsigned_Decides a.node a.node).1 refl in grind (arith, here)
link_added arcs a units Side.Superior l none = behind arcs none
  where
    behind : (bs : List Arc) → find_arc bs a.node ≡ None → with_link (bs ++ fresh_arc a units Side.Superior ∷ []) a.node (λ _. l) ≡ bs ++ new_arc a units Side.Superior l ∷ []
    behind [] e = let here : (a.node == a.node) ≡ true = (unsigned_Decides a.node a.node).1 refl in grind (arith, here)
    behind (b ∷ bs) e = go (b.peer.node == a.node) refl (behind bs)
      where
        go : (t : Bool) → (b.peer.node == a.node) ≡ t → (find_arc bs a.node ≡ None → with_link (bs ++ fresh_arc a units Side.Superior ∷ []) a.node (λ _. l) ≡ bs ++ new_arc a units Side.Superior l ∷ [])
            → with_link ((b ∷ bs) ++ fresh_arc a units Side.Superior ∷ []) a.node (λ _. l) ≡ (b ∷ bs) ++ new_arc a units Side.Superior l ∷ []
        go true f rest = grind (arith, f, e)
        go false f rest = grind (arith, f, e, rest)

-- of an arc that is there both parts are put anew
pub put_again : (arcs : List Arc) (a : Arc) (e : Dialogue) (l : Link) → find_arc arcs a.peer.node ≡ Some a → with_link (with_dialogue arcs a.peer.node (λ _. e)) a.peer.node (λ _. l) ≡ put_arc arcs (record a { link = l; dialogue = e })
put_again [] a e l found = refl
put_again (b ∷ bs) a e l found = go (b.peer.node == a.peer.node) refl (put_again bs a e l)
  where
    first : Option Arc → Arc
    first None = b
    first (Some x) = x

    go : (t : Bool) → (b.peer.node == a.peer.node) ≡ t → (find_arc bs a.peer.node ≡ Some a → with_link (with_dialogue bs a.peer.node (λ _. e)) a.peer.node (λ _. l) ≡ put_arc bs (record a { link = l; dialogue = e }))
        → with_link (with_dialogue (b ∷ bs) a.peer.node (λ _. e)) a.peer.node (λ _. l) ≡ put_arc (b ∷ bs) (record a { link = l; dialogue = e })
    go true f rest =
        let same : b ≡ a = ap first (sym (ap (λ t. cond t (Some b) (find_arc bs a.peer.node)) f) ∙ found) in
        grind (arith, f, same)
    go false f rest = grind (arith, f, found, rest)

-- a change of the link that is there
pub link_put : (arcs : List Arc) (p : ℕ) (a : Arc) (f : Link → Link) → find_arc arcs p ≡ Some a → with_link arcs p (λ _. f a.link) ≡ with_link arcs p f
link_put [] p a f found = refl
link_put (b ∷ arcs) p a f found = go (b.peer.node == p) refl (link_put arcs p a f)
  where
    go : (t : Bool) → (b.peer.node == p) ≡ t → (find_arc arcs p ≡ Some a → with_link arcs p (λ _. f a.link) ≡ with_link arcs p f) → with_link (b ∷ arcs) p (λ _. f a.link) ≡ with_link (b ∷ arcs) p f
    go true e rest = grind (arith, e, found)
    go false e rest = grind (arith, e, found, rest)
