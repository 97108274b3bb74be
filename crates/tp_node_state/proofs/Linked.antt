-- The associations of arcs: an end calls its subordinates, and answers its superior.
use Rattle.std.proofs.Common.{◌≡◌, ℕ, zero, suc, Bool, true, false, ◌&&◌, Option, Some, None, List, [], ◌∷◌, ◌++◌, map, slice_get, slice_set, refl, ap, sym, subst, ◌∙◌, arith}
use Rattle.std.specs.Prelude.{◌==◌, cond}
use Rattle.std.specs.Option.{option_map}
use Rattle.std.specs.Cmp.{unsigned_Decides}
use Rattle.std.proofs.lemmas.Bool.Decides.{nat_tests}
use Rattle.std.proofs.lemmas.Grind.{common_steps}
use Rattle.tp_names.specs.declared.identifiers.Addr.{Addr}
use Rattle.tp_model.specs.declared.arc.Side.{Side}
use Rattle.tp_model.specs.Parts.{Link, Idle, Opening, Offered, Live, Arc}
use Rattle.tp_model.specs.Arcs.{find_arc}
use Rattle.tp_model.specs.Transactions.{Transaction}
use Rattle.tp_names.specs.declared.identifiers.Mark.{Mark}
use Rattle.tp_model.specs.Links.{is_opening_with, with_one_taken}
use Rattle.tp_link.specs.Link.{bound_by, with_one_sent}
use Rattle.tp_tree.specs.declared.tie.Tie.{Tie}
use Rattle.tp_tree.specs.Tie.{arc_of, fresh_tie, is_with, find_tie, place_of, without_ties}
use Rattle.tp_tree.specs.Invocation.{Invocation, ties_of, arcs_of, with_tie, without_tie, with_added, with_arc, has_room}
use Rattle.tp_node_state.specs.declared.arc_step.ArcStep.{ArcStep}
use Rattle.tp_node_state.specs.ArcStep.{stepped_ties, stepped_tree}
use Rattle.tp_node_state.specs.Arcs.{side_with, is_on, all_on, is_sided, fits_link, all_fit, is_linked, Arcs, value_of}
use Rattle.tp_node_state.specs.SharedArcs.{Stands}
use Rattle.tp_node_state.proofs.Sides.{side_found, sided_with, on_side, on_itself, apart_added, near_found, tie_there}

-- ---- counting keeps it

pub fits_sent : (side : Side) (l : Link) → fits_link side (with_one_sent l) ≡ fits_link side l
fits_sent Side.Superior Idle = refl
fits_sent Side.Superior (Opening x) = refl
fits_sent Side.Superior (Offered x) = refl
fits_sent Side.Superior (Live x y s t) = refl
fits_sent Side.Subordinate Idle = refl
fits_sent Side.Subordinate (Opening x) = refl
fits_sent Side.Subordinate (Offered x) = refl
fits_sent Side.Subordinate (Live x y s t) = refl

pub fits_taken : (side : Side) (l : Link) → fits_link side (with_one_taken l) ≡ fits_link side l
fits_taken Side.Superior Idle = refl
fits_taken Side.Superior (Opening x) = refl
fits_taken Side.Superior (Offered x) = refl
fits_taken Side.Superior (Live x y s t) = refl
fits_taken Side.Subordinate Idle = refl
fits_taken Side.Subordinate (Opening x) = refl
fits_taken Side.Subordinate (Offered x) = refl
fits_taken Side.Subordinate (Live x y s t) = refl

-- ---- the arc that is found

find_fits : (ts : List Tie) (p : ℕ) (t : Tie) → all_fit Side.Superior ts ≡ true → find_tie ts p ≡ Some t → fits_link Side.Superior t.link ≡ true
find_fits [] p t h found = grind arith
find_fits (u ∷ ts) p t h found = go (u.addr.node == p) refl (fits_link Side.Superior u.link) refl (find_fits ts p t)
  where
    go : (b : Bool) → (u.addr.node == p) ≡ b → (c : Bool) → fits_link Side.Superior u.link ≡ c → (all_fit Side.Superior ts ≡ true → find_tie ts p ≡ Some t → fits_link Side.Superior t.link ≡ true) → fits_link Side.Superior t.link ≡ true
    go b e false f rest = absurd (let clash : false ≡ true = sym (ap (λ (x : Bool). x && all_fit Side.Superior ts) f) ∙ h in cc)
    go true e true f rest =
        let same : Some u ≡ Some t = sym (ap (λ (x : Bool). cond x (Some u) (find_tie ts p)) e) ∙ found in
        ap (λ (o : Option Tie). elim o as (λ _. Bool) [ None ↦ true | Some x ↦ fits_link Side.Superior x.link ]) (sym same) ∙ f
    go false e true f rest =
        rest (sym (ap (λ (x : Bool). x && all_fit Side.Superior ts) f) ∙ h) (sym (ap (λ (x : Bool). cond x (Some u) (find_tie ts p)) e) ∙ found)

-- ---- its side

sided_above : (v : Invocation) (t : Tie) → is_sided v ≡ true → v.above ≡ Some t → is_on Side.Subordinate v.superior t ≡ true
sided_above v t h e = grind (arith, common_steps, h, e)

above_side : (v : Invocation) (p : ℕ) → is_sided v ≡ true → is_with v.above p ≡ true → side_with v.superior p ≡ Side.Subordinate
above_side v p h with = go v.above refl
  where
    go : (o : Option Tie) → v.above ≡ o → side_with v.superior p ≡ Side.Subordinate
    go None e = absurd (let clash : false ≡ true = sym (ap (λ (x : Option Tie). is_with x p) e) ∙ with in cc)
    go (Some t) e =
        let at : t.addr.node ≡ p = (unsigned_Decides t.addr.node p).0 (sym (ap (λ (x : Option Tie). is_with x p) e) ∙ with) in
        let on : is_on Side.Subordinate v.superior t ≡ true = sided_above v t h e in
        ap (side_with v.superior) (sym at) ∙ sym (on_side Side.Subordinate v.superior t on) ∙ on_itself Side.Subordinate v.superior t on

find_below : (v : Invocation) (p : ℕ) (t : Tie) → is_with v.above p ≡ false → find_tie (ties_of v) p ≡ Some t → find_tie v.below p ≡ Some t
find_below v p t none found = go v.above refl
  where
    go : (o : Option Tie) → v.above ≡ o → find_tie v.below p ≡ Some t
    go None e = grind (arith, e, found)
    go (Some u) e = grind (arith, e, found, none)

below_on : (s : Option Addr) (ts : List Tie) (p : ℕ) (t : Tie) → all_on Side.Superior s ts ≡ true → find_tie ts p ≡ Some t → is_on Side.Superior s t ≡ true
below_on s [] p t h found = grind arith
below_on s (u ∷ ts) p t h found = grind (arith, nat_tests, below_on s ts p t)

sided_below : (v : Invocation) → is_sided v ≡ true → all_on Side.Superior v.superior v.below ≡ true
sided_below v h = grind (arith, common_steps, h)

below_side : (v : Invocation) (p : ℕ) (t : Tie) → is_sided v ≡ true → is_with v.above p ≡ false → find_tie (ties_of v) p ≡ Some t → side_with v.superior p ≡ Side.Superior
below_side v p t h none found =
    let on : is_on Side.Superior v.superior t ≡ true = below_on v.superior v.below p t (sided_below v h) (find_below v p t none found) in
    sym (side_found v p t h found) ∙ on_itself Side.Superior v.superior t on

-- its association is such as that side has
pub link_found : (v : Invocation) (p : ℕ) (t : Tie) → is_sided v ≡ true → is_linked v ≡ true → find_tie (ties_of v) p ≡ Some t → fits_link (side_with v.superior p) t.link ≡ true
link_found v p t h l found = go (is_with v.above p) refl
  where
    both : (a b : Bool) → (a && b) ≡ true → (a ≡ true) × (b ≡ true)
    both true true e = (refl, refl)
    both true false e = absurd (let clash : false ≡ true = e in cc)
    both false b e = absurd (let clash : false ≡ true = e in cc)

    parts : (elim v.above as (λ _. Bool) [ None ↦ true | Some u ↦ fits_link Side.Subordinate u.link ] ≡ true) × (all_fit Side.Superior v.below ≡ true)
    parts = both (elim v.above as (λ _. Bool) [ None ↦ true | Some u ↦ fits_link Side.Subordinate u.link ]) (all_fit Side.Superior v.below) l

    go : (b : Bool) → is_with v.above p ≡ b → fits_link (side_with v.superior p) t.link ≡ true
    go true e = ap (λ (d : Side). fits_link d t.link) (above_side v p h e) ∙ on v.above refl
      where
        on : (o : Option Tie) → v.above ≡ o → fits_link Side.Subordinate t.link ≡ true
        on None i = grind (arith, e, i)
        on (Some u) i = grind (arith, e, i, found, parts.0)
    go false e = ap (λ (d : Side). fits_link d t.link) (below_side v p t h e found) ∙ find_fits v.below p t parts.1 (find_below v p t e found)

-- ---- one arc changed, taken away, or stepped

set_fits : (ts : List Tie) (k : ℕ) (u : Tie) → all_fit Side.Superior ts ≡ true → fits_link Side.Superior u.link ≡ true → all_fit Side.Superior (slice_set ts k u) ≡ true
set_fits [] k u h n = refl
set_fits (t ∷ ts) zero u h n = grind (arith, common_steps, h, n)
set_fits (t ∷ ts) (suc k) u h n = grind (arith, common_steps, set_fits ts k u)

pub linked_with : (v : Invocation) (p : ℕ) (t u : Tie) → is_sided v ≡ true → is_linked v ≡ true → find_tie (ties_of v) p ≡ Some t → fits_link (side_with v.superior p) u.link ≡ true → is_linked (with_tie v p u) ≡ true
linked_with v p t u h l found fits = go (is_with v.above p) refl
  where
    go : (b : Bool) → is_with v.above p ≡ b → is_linked (with_tie v p u) ≡ true
    go true e = let now : fits_link Side.Subordinate u.link ≡ true = ap (λ (d : Side). fits_link d u.link) (sym (above_side v p h e)) ∙ fits in grind (arith, common_steps, e, l, now)
    go false e =
        let now : fits_link Side.Superior u.link ≡ true = ap (λ (d : Side). fits_link d u.link) (sym (below_side v p t h e found)) ∙ fits in
        grind (arith, common_steps, e, l, set_fits v.below (place_of v.below p) u, now)

without_fits : (ts : List Tie) (p : ℕ) → all_fit Side.Superior ts ≡ true → all_fit Side.Superior (without_ties ts p) ≡ true
without_fits [] p h = refl
without_fits (t ∷ ts) p h = grind (arith, common_steps, without_fits ts p)

pub linked_without : (v : Invocation) (p : ℕ) → is_linked v ≡ true → is_linked (without_tie v p) ≡ true
linked_without v p h = grind (arith, common_steps, without_fits v.below p)

stepped_fits : (st : ArcStep) (t : Transaction) (ts : List Tie) → all_fit Side.Superior (stepped_ties st t ts) ≡ all_fit Side.Superior ts
stepped_fits st t [] = refl
stepped_fits st t (x ∷ ts) = ap (λ b. fits_link Side.Superior x.link && b) (stepped_fits st t ts)

pub linked_stepped : (st : ArcStep) (t : Transaction) (v : Invocation) → is_linked v ≡ true → is_linked (stepped_tree st t v) ≡ true
linked_stepped st t v h = go v.above refl
  where
    go : (o : Option Tie) → v.above ≡ o → is_linked (stepped_tree st t v) ≡ true
    go None e = grind (arith, e, h, stepped_fits st t v.below)
    go (Some x) e = grind (arith, common_steps, e, h, stepped_fits st t v.below)

-- ---- one arc more, on an association of its own

is_none : Option Arc → Bool
is_none None = true
is_none (Some a) = false

set_behind : (ts : List Tie) (p : ℕ) (t u : Tie) → (t.addr.node == p) ≡ true → find_arc (map arc_of ts) p ≡ None → slice_set (ts ++ t ∷ []) (place_of (ts ++ t ∷ []) p) u ≡ ts ++ u ∷ []
set_behind [] p t u at none = ap (λ (b : Bool). slice_set (t ∷ []) (cond b 0 1) u) at
set_behind (x ∷ ts) p t u at none = go (x.addr.node == p) refl (set_behind ts p t u at)
  where
    go : (b : Bool) → (x.addr.node == p) ≡ b → (find_arc (map arc_of ts) p ≡ None → slice_set (ts ++ t ∷ []) (place_of (ts ++ t ∷ []) p) u ≡ ts ++ u ∷ []) → slice_set ((x ∷ ts) ++ t ∷ []) (place_of ((x ∷ ts) ++ t ∷ []) p) u ≡ (x ∷ ts) ++ u ∷ []
    go true e rest = absurd (let clash : Some (arc_of x) ≡ None = sym (ap (λ (b : Bool). cond b (Some (arc_of x)) (find_arc (map arc_of ts) p)) e) ∙ none in cc)
    go false e rest =
        let tail = rest (sym (ap (λ (b : Bool). cond b (Some (arc_of x)) (find_arc (map arc_of ts) p)) e) ∙ none) in
        ap (λ (b : Bool). slice_set (x ∷ (ts ++ t ∷ [])) (cond b 0 (suc (place_of (ts ++ t ∷ []) p))) u) e ∙ ap (λ (l : List Tie). x ∷ l) tail

not_above : (v : Invocation) (p : ℕ) → find_arc (arcs_of v) p ≡ None → (is_with v.above p ≡ false) × (find_arc (map arc_of v.below) p ≡ None)
not_above v p none = go v.above refl
  where
    go : (o : Option Tie) → v.above ≡ o → (is_with v.above p ≡ false) × (find_arc (map arc_of v.below) p ≡ None)
    go None e = (ap (λ (x : Option Tie). is_with x p) e, sym (ap (λ (x : Option Tie). find_arc (map arc_of (elim x as (λ _. List Tie) [ None ↦ v.below | Some u ↦ u ∷ v.below ])) p) e) ∙ none)
    go (Some t) e = on (t.addr.node == p) refl
      where
        here : find_arc (arc_of t ∷ map arc_of v.below) p ≡ None
        here = sym (ap (λ (x : Option Tie). find_arc (map arc_of (elim x as (λ _. List Tie) [ None ↦ v.below | Some u ↦ u ∷ v.below ])) p) e) ∙ none

        on : (b : Bool) → (t.addr.node == p) ≡ b → (is_with v.above p ≡ false) × (find_arc (map arc_of v.below) p ≡ None)
        on true i = absurd (let clash : Some (arc_of t) ≡ None = sym (ap (λ (b : Bool). cond b (Some (arc_of t)) (find_arc (map arc_of v.below) p)) i) ∙ here in cc)
        on false i = (ap (λ (x : Option Tie). is_with x p) e ∙ i, sym (ap (λ (b : Bool). cond b (Some (arc_of t)) (find_arc (map arc_of v.below) p)) i) ∙ here)

-- the arc that was added, changed
pub added_tie : (v : Invocation) (side : Side) (p : ℕ) (t u : Tie) → (t.addr.node == p) ≡ true → find_arc (arcs_of v) p ≡ None → with_tie (with_added side t v) p u ≡ with_added side u v
added_tie v Side.Subordinate p t u at none =
    let w : Invocation = record v { above = Some t } in
    ap (λ (b : Bool). cond b (record w { above = Some u }) (record w { below = slice_set v.below (place_of v.below p) u })) at
added_tie v Side.Superior p t u at none =
    let w : Invocation = record v { below = v.below ++ t ∷ [] } in
    ap (λ (b : Bool). cond b (record w { above = Some u }) (record w { below = slice_set w.below (place_of w.below p) u })) (not_above v p none).0
    ∙ ap (λ (l : List Tie). record v { below = l }) (set_behind v.below p t u at (not_above v p none).1)

fits_behind : (ts : List Tie) (u : Tie) → all_fit Side.Superior ts ≡ true → fits_link Side.Superior u.link ≡ true → all_fit Side.Superior (ts ++ u ∷ []) ≡ true
fits_behind [] u h n = ap (λ (b : Bool). b && true) n
fits_behind (t ∷ ts) u h n = grind (arith, common_steps, fits_behind ts u)

pub added_linked : (v : Invocation) (side : Side) (u : Tie) → is_linked v ≡ true → fits_link side u.link ≡ true → is_linked (with_added side u v) ≡ true
added_linked v Side.Subordinate u h n = grind (arith, common_steps, h, n)
added_linked v Side.Superior u h n = grind (arith, common_steps, h, fits_behind v.below u, n)

on_behind : (s : Option Addr) (ts : List Tie) (u : Tie) → all_on Side.Superior s ts ≡ true → is_on Side.Superior s u ≡ true → all_on Side.Superior s (ts ++ u ∷ []) ≡ true
on_behind s [] u h n = ap (λ (b : Bool). b && true) n
on_behind s (t ∷ ts) u h n = grind (arith, common_steps, on_behind s ts u)

pub added_on : (v : Invocation) (side : Side) (u : Tie) → is_sided v ≡ true → is_on side v.superior u ≡ true → find_arc (arcs_of v) u.addr.node ≡ None → is_sided (with_added side u v) ≡ true
added_on v Side.Subordinate u h n none = grind (arith, common_steps, h, n)
added_on v Side.Superior u h n none = let off = (not_above v u.addr.node none).1 in grind (arith, common_steps, h, on_behind v.superior v.below u, apart_added v.below u, n, off)

pub itself_on : (s : Option Addr) (side : Side) (u : Tie) → u.dialogue.side ≡ side → side ≡ side_with s u.addr.node → is_on side s u ≡ true
itself_on s Side.Superior u i j = grind (arith, i, j)
itself_on s Side.Subordinate u i j = grind (arith, i, j)

found_behind : (ts : List Tie) (p : ℕ) (t : Tie) → (t.addr.node == p) ≡ true → find_arc (map arc_of ts) p ≡ None → find_tie (ts ++ t ∷ []) p ≡ Some t
found_behind [] p t at none = ap (λ (b : Bool). cond b (Some t) None) at
found_behind (x ∷ ts) p t at none = go (x.addr.node == p) refl (found_behind ts p t at)
  where
    go : (b : Bool) → (x.addr.node == p) ≡ b → (find_arc (map arc_of ts) p ≡ None → find_tie (ts ++ t ∷ []) p ≡ Some t) → find_tie ((x ∷ ts) ++ t ∷ []) p ≡ Some t
    go true e rest = absurd (let clash : Some (arc_of x) ≡ None = sym (ap (λ (b : Bool). cond b (Some (arc_of x)) (find_arc (map arc_of ts) p)) e) ∙ none in cc)
    go false e rest = ap (λ (b : Bool). cond b (Some x) (find_tie (ts ++ t ∷ []) p)) e ∙ rest (sym (ap (λ (b : Bool). cond b (Some (arc_of x)) (find_arc (map arc_of ts) p)) e) ∙ none)

-- the arc that was added is found
pub added_found : (v : Invocation) (side : Side) (p : ℕ) (t : Tie) → (t.addr.node == p) ≡ true → find_arc (arcs_of v) p ≡ None → find_tie (ties_of (with_added side t v)) p ≡ Some t
added_found v Side.Subordinate p t at none = ap (λ (b : Bool). cond b (Some t) (find_tie v.below p)) at
added_found v Side.Superior p t at none = go v.above refl
  where
    behind : find_tie (v.below ++ t ∷ []) p ≡ Some t
    behind = found_behind v.below p t at (not_above v p none).1

    go : (o : Option Tie) → v.above ≡ o → find_tie (ties_of (with_added Side.Superior t v)) p ≡ Some t
    go None e = ap (λ (o : Option Tie). find_tie (elim o as (λ _. List Tie) [ None ↦ v.below ++ t ∷ [] | Some u ↦ u ∷ (v.below ++ t ∷ []) ]) p) e ∙ behind
    go (Some u) e =
        let off : (u.addr.node == p) ≡ false = sym (ap (λ (x : Option Tie). is_with x p) e) ∙ (not_above v p none).0 in
        ap (λ (o : Option Tie). find_tie (elim o as (λ _. List Tie) [ None ↦ v.below ++ t ∷ [] | Some x ↦ x ∷ (v.below ++ t ∷ []) ]) p) e
        ∙ ap (λ (b : Bool). cond b (Some u) (find_tie (v.below ++ t ∷ []) p)) off ∙ behind

-- ---- one arc more, as it is made: added with no association, and then put on its own

abbrev pub bound_tie : Addr → ℕ → Side → Link → Tie
bound_tie a units side l = record (fresh_tie a units side) { link = l }

numbered : (n : ℕ) → (n == n) ≡ true
numbered n = (unsigned_Decides n n).1 refl

abbrev the_tie : Tie → Option Tie → Tie
the_tie t None = t
the_tie t (Some x) = x

pub made_so : (v w : Invocation) (a : Addr) (units : ℕ) (side : Side) (l : Link) (t : Tie) → w ≡ with_added side (fresh_tie a units side) v → find_arc (arcs_of v) a.node ≡ None → Some t ≡ find_tie (ties_of w) a.node
    → with_tie w a.node (record t { link = l }) ≡ with_added side (bound_tie a units side l) v
made_so v w a units side l t is none found =
    let f : Tie = fresh_tie a units side in
    let at : Some t ≡ Some f = found ∙ ap (λ (x : Invocation). find_tie (ties_of x) a.node) is ∙ added_found v side a.node f (numbered a.node) none in
    let same : t ≡ f = ap (the_tie f) at in
    ap (λ (x : Invocation). with_tie x a.node (record t { link = l })) is
    ∙ ap (λ (x : Tie). with_tie (with_added side f v) a.node (record x { link = l })) same
    ∙ added_tie v side a.node f (bound_tie a units side l) (numbered a.node) none

pub made_there : (v w : Invocation) (a : Addr) (units : ℕ) (side : Side) → w ≡ with_added side (fresh_tie a units side) v → find_arc (arcs_of v) a.node ≡ None → None ≡ find_tie (ties_of w) a.node → ⊥
made_there v w a units side is none found =
    let clash : None ≡ Some (fresh_tie a units side) = found ∙ ap (λ (x : Invocation). find_tie (ties_of x) a.node) is ∙ added_found v side a.node (fresh_tie a units side) (numbered a.node) none in
    absurd (cc clash)

map_behind : (ts : List Tie) (u : Tie) → map arc_of (ts ++ u ∷ []) ≡ map arc_of ts ++ arc_of u ∷ []
map_behind [] u = refl
map_behind (t ∷ ts) u = ap (λ (l : List Arc). arc_of t ∷ l) (map_behind ts u)

-- the superior's arc is the only one above
pub added_arcs : (v : Invocation) (side : Side) (u : Tie) → has_room side v ≡ true → arcs_of (with_added side u v) ≡ with_arc side (arc_of u) (arcs_of v)
added_arcs v Side.Superior u room = go v.above refl
  where
    go : (o : Option Tie) → v.above ≡ o → arcs_of (with_added Side.Superior u v) ≡ with_arc Side.Superior (arc_of u) (arcs_of v)
    go None e = grind (arith, e, map_behind v.below u)
    go (Some t) e = grind (arith, e, map_behind v.below u)
added_arcs v Side.Subordinate u room = go v.above refl
  where
    go : (o : Option Tie) → v.above ≡ o → arcs_of (with_added Side.Subordinate u v) ≡ with_arc Side.Subordinate (arc_of u) (arcs_of v)
    go None e = grind (arith, e)
    go (Some t) e = absurd (let clash : false ≡ true = sym (ap (λ (x : Option Tie). elim x as (λ _. Bool) [ None ↦ true | Some y ↦ false ]) e) ∙ room in cc)

pub added_value : (v : Invocation) (side : Side) (u : Tie) → has_room side v ≡ true → value_of (record { tree = with_added side u v }) ≡ (let d : Arcs = value_of (record { tree = v }) in record d { arcs = with_arc side (arc_of u) d.arcs })
added_value v Side.Superior u room = ap (λ (l : List Arc). let d : Arcs = value_of (record { tree = v }) in record d { arcs = l }) (added_arcs v Side.Superior u room)
added_value v Side.Subordinate u room = ap (λ (l : List Arc). let d : Arcs = value_of (record { tree = v }) in record d { arcs = l }) (added_arcs v Side.Subordinate u room)

-- ---- a call is answered

pub calls_below : (side : Side) (l : Link) (x : Mark) → fits_link side l ≡ true → is_opening_with l x ≡ true → Side.Superior ≡ side
calls_below Side.Superior l x h o = refl
calls_below Side.Subordinate Idle x h o = absurd (let clash : false ≡ true = h in cc)
calls_below Side.Subordinate (Opening z) x h o = absurd (let clash : false ≡ true = h in cc)
calls_below Side.Subordinate (Offered z) x h o = absurd (let clash : false ≡ true = o in cc)
calls_below Side.Subordinate (Live z w s t) x h o = absurd (let clash : false ≡ true = o in cc)

pub bound_live : (l : Link) (x y : Mark) → is_opening_with l x ≡ true → bound_by l x y ≡ (None, Live x y 0 0)
bound_live l x y o = grind (arith, common_steps, o)

-- the arc at a place
pub near_fits : (v : Invocation) (i p : ℕ) (t : Tie) → is_sided v ≡ true → is_linked v ≡ true → Some t ≡ slice_get v.below i → t.addr.node ≡ p → (t.dialogue.side ≡ side_with v.superior p) × (fits_link (side_with v.superior p) t.link ≡ true)
near_fits v i p t h l at is =
    let found : find_tie (ties_of v) p ≡ Some t = ap (find_tie (ties_of v)) (sym is) ∙ near_found v i t h (sym at) in
    (side_found v p t h found, link_found v p t h l found)

-- ---- the whole arc in place

some_addr : (a b : Addr) → Some a ≡ Some b → a ≡ b
some_addr a b h = ap (λ (o : Option Addr). elim o as (λ _. Addr) [ None ↦ a | Some x ↦ x ]) h

pub stands_kept : (v : Invocation) (d : Arcs) (p : ℕ) (t u : Tie) → value_of (record { tree = v }) ≡ d → is_sided v ≡ true → is_linked v ≡ true → find_tie (ties_of v) p ≡ Some t → find_arc (arcs_of v) p ≡ Some (arc_of t)
    → u.addr.node ≡ p → Stands d u → (is_sided (with_tie v p u) ≡ true) × (is_linked (with_tie v p u) ≡ true)
stands_kept v d p t u is h l tie found at stands =
    let s : Stands (value_of (record { tree = v })) u = subst (λ (x : Arcs). Stands x u) (sym is) stands in
    let addr : u.addr ≡ t.addr = some_addr u.addr t.addr (sym s.there ∙ ap (λ (n : ℕ). option_map (λ (a : Arc). a.peer) (find_arc (arcs_of v) n)) at ∙ ap (option_map (λ (a : Arc). a.peer)) found) in
    let side : u.dialogue.side ≡ t.dialogue.side = s.side ∙ ap (side_with v.superior) at ∙ sym (side_found v p t h tie) in
    let fits : fits_link (side_with v.superior p) u.link ≡ true = sym (ap (λ (n : ℕ). fits_link (side_with v.superior n) u.link) at) ∙ s.link in (
      sided_with v p t u h tie addr side,
      linked_with v p t u h l tie fits,
    )

pub put_kept : (v : Invocation) (d : Arcs) (u : Tie) → value_of (record { tree = v }) ≡ d → is_sided v ≡ true → is_linked v ≡ true → Stands d u
    → (is_sided (with_tie v u.addr.node u) ≡ true) × (is_linked (with_tie v u.addr.node u) ≡ true)
put_kept v d u is h l stands =
    let s : Stands (value_of (record { tree = v })) u = subst (λ (x : Arcs). Stands x u) (sym is) stands in
    let found = tie_there v u.addr.node u.addr s.there in
    stands_kept v d u.addr.node found.0 u is h l found.1 found.2 refl stands
