-- Arcs that are kept with the node's side, and what goes out on them.
use Rattle.std.proofs.Common.{◌≡◌, ◌<◌, ℕ, zero, suc, Bool, true, false, Option, Some, None, List, [], ◌∷◌, ◌++◌, length, map, slice_set, slice_get, slice_index_or, Result, Ok, Err, IfOk, OnOk, OnErr, refl, ap, sym, ◌∙◌, arith}
use Rattle.std.specs.Prelude.{◌==◌}
use Rattle.std.specs.Option.{option_map}
use Rattle.std.proofs.lemmas.Bool.Decides.{nat_tests}
use Rattle.std.proofs.lemmas.Grind.{common_steps}
use Rattle.tp_names.specs.declared.identifiers.Addr.{Addr}
use Rattle.tp_names.specs.declared.identifiers.Mark.{Mark}
use Rattle.tp_names.specs.Same.{is_mark}
use Rattle.tp_records.specs.declared.dialogue.DialogueRecord.{DialogueRecord}
use Rattle.tp_model.specs.declared.arc.Side.{Side}
use Rattle.tp_model.specs.Parts.{Link, Dialogue, Idle, Opening, Offered, Live, Arc, Out}
use Rattle.tp_model.specs.Arcs.{find_arc, put_arc, with_dialogue, with_link, carried_on, carried, shut_says, shut_with, without_arc}
use Rattle.tp_model.specs.Events.{some_past_numbers}
use Rattle.tp_dialogue.specs.Dialogue.{End}
use Rattle.tp_link.specs.Link.{is_next, with_one_sent}
use Rattle.tp_tree.specs.declared.tie.Tie.{Tie}
use Rattle.tp_tree.specs.Tie.{arc_of, find_tie, place_of, is_at, without_ties}
use Rattle.tp_tree.specs.Invocation.{Invocation, ties_of, arcs_of, with_tie, without_tie, WritesLink, WritesDialogue}
use Rattle.tp_node_state.specs.declared.outs.Next.{Next}
use Rattle.tp_node_state.specs.Outs.{outs_with}
use Rattle.tp_node_state.specs.Arcs.{side_with, is_same_side, is_on, all_on, is_absent, is_apart, is_sided, count_subordinates_in, next_on, is_spent, outs_next, Arcs, value_of}

-- ---- sides

same_side : (a b : Side) → is_same_side a b ≡ true → a ≡ b
same_side Side.Superior Side.Superior h = refl
same_side Side.Subordinate Side.Subordinate h = refl
same_side Side.Superior Side.Subordinate h = grind arith
same_side Side.Subordinate Side.Superior h = grind arith

find_on : (side : Side) (s : Option Addr) (ts : List Tie) (p : ℕ) (t : Tie) → all_on side s ts ≡ true → find_tie ts p ≡ Some t → is_on side s t ≡ true
find_on side s [] p t h found = grind arith
find_on side s (u ∷ ts) p t h found = grind (arith, nat_tests, find_on side s ts p t)

find_number : (ts : List Tie) (p : ℕ) (t : Tie) → find_tie ts p ≡ Some t → t.addr.node ≡ p
find_number [] p t found = grind arith
find_number (u ∷ ts) p t found = grind (arith, nat_tests, find_number ts p t)

pub on_side : (side : Side) (s : Option Addr) (t : Tie) → is_on side s t ≡ true → t.dialogue.side ≡ side_with s t.addr.node
on_side side s t h = grind (arith, same_side t.dialogue.side side, same_side (side_with s t.addr.node) side)

pub side_found : (v : Invocation) (p : ℕ) (t : Tie) → is_sided v ≡ true → find_tie (ties_of v) p ≡ Some t → t.dialogue.side ≡ side_with v.superior p
side_found v p t h found = grind (arith, common_steps, nat_tests, find_on Side.Superior v.superior v.below p t, find_number (ties_of v) p t, on_side Side.Superior v.superior t, on_side Side.Subordinate v.superior t)

pub on_itself : (side : Side) (s : Option Addr) (t : Tie) → is_on side s t ≡ true → t.dialogue.side ≡ side
on_itself side s t h = grind (arith, same_side t.dialogue.side side, same_side (side_with s t.addr.node) side)

set_on : (side : Side) (s : Option Addr) (ts : List Tie) (k : ℕ) (u : Tie) → all_on side s ts ≡ true → is_on side s u ≡ true → all_on side s (slice_set ts k u) ≡ true
set_on side s [] k u h n = refl
set_on side s (t ∷ ts) zero u h n = grind (arith, common_steps)
set_on side s (t ∷ ts) (suc k) u h n = grind (arith, common_steps, set_on side s ts k u)

-- ---- each is with a peer of its own

set_absent : (ts : List Tie) (p q : ℕ) (t u : Tie) → find_tie ts p ≡ Some t → u.addr.node ≡ t.addr.node → is_absent (slice_set ts (place_of ts p) u) q ≡ is_absent ts q
set_absent [] p q t u found addr = refl
set_absent (x ∷ ts) p q t u found addr = go (x.addr.node == p) refl (set_absent ts p q t u)
  where
    go : (b : Bool) → (x.addr.node == p) ≡ b → (find_tie ts p ≡ Some t → u.addr.node ≡ t.addr.node → is_absent (slice_set ts (place_of ts p) u) q ≡ is_absent ts q) → is_absent (slice_set (x ∷ ts) (place_of (x ∷ ts) p) u) q ≡ is_absent (x ∷ ts) q
    go true e rest = let f : find_tie (x ∷ ts) p ≡ Some x = grind (arith, e) in let same : Some x ≡ Some t = sym f ∙ found in grind (arith, e, same, addr)
    go false e rest = let f : find_tie (x ∷ ts) p ≡ find_tie ts p = grind (arith, e) in let tail = rest (sym f ∙ found) addr in grind (arith, e, tail)

set_apart : (ts : List Tie) (p : ℕ) (t u : Tie) → find_tie ts p ≡ Some t → u.addr.node ≡ t.addr.node → is_apart (slice_set ts (place_of ts p) u) ≡ is_apart ts
set_apart [] p t u found addr = refl
set_apart (x ∷ ts) p t u found addr = go (x.addr.node == p) refl (set_apart ts p t u)
  where
    go : (b : Bool) → (x.addr.node == p) ≡ b → (find_tie ts p ≡ Some t → u.addr.node ≡ t.addr.node → is_apart (slice_set ts (place_of ts p) u) ≡ is_apart ts) → is_apart (slice_set (x ∷ ts) (place_of (x ∷ ts) p) u) ≡ is_apart (x ∷ ts)
    go true e rest = let f : find_tie (x ∷ ts) p ≡ Some x = grind (arith, e) in let same : Some x ≡ Some t = sym f ∙ found in grind (arith, e, same, addr)
    go false e rest = let f : find_tie (x ∷ ts) p ≡ find_tie ts p = grind (arith, e) in let tail = rest (sym f ∙ found) addr in let g = set_absent ts p x.addr.node t u (sym f ∙ found) addr in grind (arith, e, tail, g)

without_absent : (ts : List Tie) (p q : ℕ) → is_absent ts q ≡ true → is_absent (without_ties ts p) q ≡ true
without_absent [] p q h = refl
without_absent (t ∷ ts) p q h = grind (arith, nat_tests, without_absent ts p q)

without_apart : (ts : List Tie) (p : ℕ) → is_apart ts ≡ true → is_apart (without_ties ts p) ≡ true
without_apart [] p h = refl
without_apart (t ∷ ts) p h = grind (arith, common_steps, without_apart ts p, without_absent ts p t.addr.node)

absent_behind : (ts : List Tie) (u : Tie) (q : ℕ) → is_absent ts q ≡ true → (u.addr.node == q) ≡ false → is_absent (ts ++ u ∷ []) q ≡ true
absent_behind [] u q h n = grind (arith, n)
absent_behind (t ∷ ts) u q h n = grind (arith, h, n, absent_behind ts u q)

apart_behind : (ts : List Tie) (u : Tie) → is_apart ts ≡ true → is_absent ts u.addr.node ≡ true → is_apart (ts ++ u ∷ []) ≡ true
apart_behind [] u h n = refl
apart_behind (t ∷ ts) u h n = grind (arith, common_steps, nat_tests, apart_behind ts u, absent_behind ts u t.addr.node)

absent_none : (ts : List Tie) (p : ℕ) → find_arc (map arc_of ts) p ≡ None → is_absent ts p ≡ true
absent_none [] p h = refl
absent_none (t ∷ ts) p h = grind (arith, nat_tests, absent_none ts p)

-- an arc more stands apart
pub apart_added : (ts : List Tie) (u : Tie) → is_apart ts ≡ true → find_arc (map arc_of ts) u.addr.node ≡ None → is_apart (ts ++ u ∷ []) ≡ true
apart_added ts u h n = apart_behind ts u h (absent_none ts u.addr.node n)

absent_at : (ts : List Tie) (i p : ℕ) (t : Tie) → is_absent ts p ≡ true → slice_get ts i ≡ Some t → (t.addr.node == p) ≡ false
absent_at [] i p t h at = absurd (cc)
absent_at (x ∷ ts) zero p t h at = grind (arith, nat_tests, h, at)
absent_at (x ∷ ts) (suc i) p t h at = grind (arith, nat_tests, h, absent_at ts i p t, at)

apart_at : (ts : List Tie) (i : ℕ) (t : Tie) → is_apart ts ≡ true → slice_get ts i ≡ Some t → find_tie ts t.addr.node ≡ Some t
apart_at [] i t h at = absurd (cc)
apart_at (x ∷ ts) zero t h at = grind (arith, nat_tests, at)
apart_at (x ∷ ts) (suc i) t h at = grind (arith, common_steps, nat_tests, h, absent_at ts i x.addr.node t, apart_at ts i t, at)

-- the arc at a place is the one with its peer
pub near_found : (v : Invocation) (i : ℕ) (t : Tie) → is_sided v ≡ true → slice_get v.below i ≡ Some t → find_tie (ties_of v) t.addr.node ≡ Some t
near_found v i t h at = go v.above refl
  where
    below : find_tie v.below t.addr.node ≡ Some t
    below = grind (arith, common_steps, h, apart_at v.below i t, at)

    on : is_on Side.Superior v.superior t ≡ true
    on = grind (arith, common_steps, h, find_on Side.Superior v.superior v.below t.addr.node t, below)

    go : (o : Option Tie) → v.above ≡ o → find_tie (ties_of v) t.addr.node ≡ Some t
    go None e = grind (arith, e, below)
    go (Some u) e = grind (arith, common_steps, nat_tests, e, below, h, on, same_side (side_with v.superior t.addr.node) Side.Superior, same_side (side_with v.superior u.addr.node) Side.Subordinate)

found_arc : (ts : List Tie) (p : ℕ) (t : Tie) → find_tie ts p ≡ Some t → find_arc (map arc_of ts) p ≡ Some (arc_of t)
found_arc [] p t h = absurd (cc)
found_arc (x ∷ ts) p t h = go (x.addr.node == p) refl (found_arc ts p t)
  where
    go : (b : Bool) → (x.addr.node == p) ≡ b → (find_tie ts p ≡ Some t → find_arc (map arc_of ts) p ≡ Some (arc_of t)) → find_arc (map arc_of (x ∷ ts)) p ≡ Some (arc_of t)
    go true e rest = let f : find_tie (x ∷ ts) p ≡ Some x = grind (arith, e) in let same : Some x ≡ Some t = sym f ∙ h in grind (arith, e, same)
    go false e rest = let f : find_tie (x ∷ ts) p ≡ find_tie ts p = grind (arith, e) in let tail = rest (sym f ∙ h) in grind (arith, e, tail)

pub got : (ts : List Tie) (i : ℕ) (t : Tie) → i < length ts → t ≡ slice_index_or ts i t → Some t ≡ slice_get ts i
got [] i t h e = absurd (omega (arith, h))
got (x ∷ ts) zero t h e = ap Some e
got (x ∷ ts) (suc i) t h e = got ts i t (omega (arith, h)) e

pub near_arc : (v : Invocation) (i p : ℕ) (t : Tie) → is_sided v ≡ true → Some t ≡ slice_get v.below i → t.addr.node ≡ p → Some (arc_of t) ≡ find_arc (arcs_of v) p
near_arc v i p t h at is =
    sym (ap (find_arc (arcs_of v)) (sym is) ∙ found_arc (ties_of v) t.addr.node t (near_found v i t h (sym at)))

pub sided_with : (v : Invocation) (p : ℕ) (t u : Tie) → is_sided v ≡ true → find_tie (ties_of v) p ≡ Some t → u.addr ≡ t.addr → u.dialogue.side ≡ t.dialogue.side → is_sided (with_tie v p u) ≡ true
sided_with v p t u h found addr side = grind (arith, common_steps, nat_tests, find_on Side.Superior v.superior v.below p t, set_on Side.Superior v.superior v.below (place_of v.below p) u, set_apart v.below p t u)

without_on : (side : Side) (s : Option Addr) (ts : List Tie) (p : ℕ) → all_on side s ts ≡ true → all_on side s (without_ties ts p) ≡ true
without_on side s [] p h = refl
without_on side s (t ∷ ts) p h = grind (arith, without_on side s ts p)

pub sided_without : (v : Invocation) (p : ℕ) → is_sided v ≡ true → is_sided (without_tie v p) ≡ true
sided_without v p h = grind (arith, common_steps, without_on Side.Superior v.superior v.below p, without_apart v.below p)

count_below : (s : Option Addr) (ts : List Tie) → all_on Side.Superior s ts ≡ true → length ts ≡ count_subordinates_in s (map arc_of ts)
count_below s [] h = refl
count_below s (t ∷ ts) h = grind (arith, common_steps, nat_tests, count_below s ts)

pub count_sided : (v : Invocation) → is_sided v ≡ true → length v.below ≡ count_subordinates_in v.superior (arcs_of v)
count_sided v h = grind (arith, common_steps, nat_tests, count_below v.superior v.below)

-- ---- what goes out

pub carried_none : (arcs : List Arc) (p : ℕ) (r : DialogueRecord) → find_arc arcs p ≡ None → carried arcs p r ≡ (arcs, [])
carried_none [] p r found = refl
carried_none (a ∷ arcs) p r found = grind (arith, common_steps, carried_none arcs p r)

pub carried_next : (arcs : List Arc) (p : ℕ) (r : DialogueRecord) (a : Arc) → find_arc arcs p ≡ Some a → carried arcs p r ≡ (with_link arcs p (λ _. with_one_sent a.link), outs_next a.peer r (next_on a.link))
carried_next [] p r a found = grind arith
carried_next (b ∷ arcs) p r a found = grind (arith, common_steps, on_arc b r, carried_next arcs p r a)
  where
    on_arc : (c : Arc) (q : DialogueRecord) → carried_on c q ≡ (record c { link = with_one_sent c.link }, outs_next c.peer q (next_on c.link))
    on_arc c q = go c.link refl
      where
        go : (l : Link) → c.link ≡ l → carried_on c q ≡ (record c { link = with_one_sent c.link }, outs_next c.peer q (next_on c.link))
        go Idle e = grind arith
        go (Opening x) e = grind arith
        go (Offered x) e = grind arith
        go (Live x y s t) e = grind arith

same_mark : (x y : Mark) → is_mark x y ≡ true → x ≡ y
same_mark x y h = grind (arith, nat_tests)

pub next_is : (l : Link) (x y : Mark) (s : ℕ) → is_next l x y s ≡ true → Some (x, y, s) ≡ next_on l
next_is Idle x y s h = grind arith
next_is (Opening z) x y s h = grind arith
next_is (Offered z) x y s h = grind arith
next_is (Live z w n t) x y s h = grind (arith, nat_tests, same_mark z x, same_mark w y)

pub with_link_none : (arcs : List Arc) (p : ℕ) (f : Link → Link) → find_arc arcs p ≡ None → with_link arcs p f ≡ arcs
with_link_none [] p f found = refl
with_link_none (a ∷ arcs) p f found = grind (arith, common_steps, with_link_none arcs p f)

pub with_dialogue_none : (arcs : List Arc) (p : ℕ) (f : Dialogue → Dialogue) → find_arc arcs p ≡ None → with_dialogue arcs p f ≡ arcs
with_dialogue_none [] p f found = refl
with_dialogue_none (a ∷ arcs) p f found = grind (arith, common_steps, with_dialogue_none arcs p f)

pub shut_says_live : (arcs : List Arc) (p : ℕ) (a : Arc) → find_arc arcs p ≡ Some a → shut_with arcs p ≡ (without_arc arcs p, shut_says a.peer a.link)
shut_says_live arcs p a found = grind (arith, common_steps)

-- ---- what a caller of them knows

pub carry_leaves : (arcs : List Arc) (p : ℕ) (r : DialogueRecord) (a : Arc) (l : Link) → find_arc arcs p ≡ Some a → l ≡ with_one_sent a.link → with_link arcs p (λ _. l) ≡ (carried arcs p r).0
carry_leaves arcs p r a l found is = ap (λ (k : Link). with_link arcs p (λ _. k)) is ∙ sym (ap (λ (s : List Arc × List Out). s.0) (carried_next arcs p r a found))

pub carry_says : (arcs : List Arc) (p : ℕ) (r : DialogueRecord) (a : Arc) (n : Option (Mark × Mark × ℕ)) → find_arc arcs p ≡ Some a → n ≡ next_on a.link → outs_next a.peer r n ≡ (carried arcs p r).1
carry_says arcs p r a n found is = ap (outs_next a.peer r) is ∙ sym (ap (λ (s : List Arc × List Out). s.1) (carried_next arcs p r a found))

spent_says : (to : Addr) (r : DialogueRecord) (l : Link) → is_spent l ≡ true → some_past_numbers (outs_next to r (next_on l)) ≡ true
spent_says to r Idle h = grind arith
spent_says to r (Opening x) h = grind arith
spent_says to r (Offered x) h = grind arith
spent_says to r (Live x y s t) h = grind (arith, common_steps)

pub carry_spent : (arcs : List Arc) (p : ℕ) (r : DialogueRecord) (a : Arc) → find_arc arcs p ≡ Some a → is_spent a.link ≡ true → some_past_numbers (carried arcs p r).1 ≡ true
carry_spent arcs p r a found h = sym (ap some_past_numbers (carry_says arcs p r a (next_on a.link) found refl)) ∙ spent_says a.peer r a.link h

with_tie_superior : (v : Invocation) (p : ℕ) (u : Tie) → (with_tie v p u).superior ≡ v.superior
with_tie_superior v p u = grind (arith, common_steps)

with_tie_room : (v : Invocation) (p : ℕ) (u : Tie) → (with_tie v p u).room ≡ v.room
with_tie_room v p u = grind (arith, common_steps)

pub written : (v : Invocation) (d : Arcs) (p : ℕ) (u : Tie) (arcs : List Arc) → arcs_of (with_tie v p u) ≡ arcs → value_of (record { tree = v }) ≡ d → value_of (record { tree = with_tie v p u }) ≡ record d { arcs = arcs }
written v d p u arcs e is =
    let made : Option Addr → ℕ → List Arc → Arcs = λ s r l. record { superior = s; room = r; arcs = l } in
    ap (λ s. made s (with_tie v p u).room (arcs_of (with_tie v p u))) (with_tie_superior v p u)
    ∙ ap (λ n. made v.superior n (arcs_of (with_tie v p u))) (with_tie_room v p u)
    ∙ ap (made v.superior v.room) e
    ∙ ap (λ (x : Arcs). record x { arcs = arcs }) is

pub link_written : (v : Invocation) (d : Arcs) (p : ℕ) (t : Tie) (l : Link) → WritesLink v p → find_tie (ties_of v) p ≡ Some t → value_of (record { tree = v }) ≡ d → value_of (record { tree = with_tie v p (record t { link = l }) }) ≡ record d { arcs = with_link d.arcs p (λ _. l) }
link_written v d p t l w found is =
    written v d p (record t { link = l }) (with_link d.arcs p (λ _. l)) (w t (record t { link = l }) (λ _. l) found refl ∙ ap (λ (x : Arcs). with_link x.arcs p (λ _. l)) is) is

pub dialogue_written : (v : Invocation) (d : Arcs) (p : ℕ) (t : Tie) (e : End) → WritesDialogue v p → find_tie (ties_of v) p ≡ Some t → value_of (record { tree = v }) ≡ d → value_of (record { tree = with_tie v p (record t { dialogue = e }) }) ≡ record d { arcs = with_dialogue d.arcs p (λ _. e.dialogue) }
dialogue_written v d p t e w found is =
    written v d p (record t { dialogue = e }) (with_dialogue d.arcs p (λ _. e.dialogue)) (w t (record t { dialogue = e }) (λ _. e.dialogue) found refl ∙ ap (λ (x : Arcs). with_dialogue x.arcs p (λ _. e.dialogue)) is) is

-- ---- an arc written over the one with its peer

arc_found : (ts : List Tie) (p : ℕ) → find_arc (map arc_of ts) p ≡ option_map arc_of (find_tie ts p)
arc_found [] p = refl
arc_found (t ∷ ts) p = grind (arith, common_steps, arc_found ts p)

put_in : (ts : List Tie) (u : Tie) → map arc_of (slice_set ts (place_of ts u.addr.node) u) ≡ put_arc (map arc_of ts) (arc_of u)
put_in [] u = refl
put_in (t ∷ ts) u = grind (arith, common_steps, nat_tests, put_in ts u)

put_among : (v : Invocation) (u : Tie) → arcs_of (with_tie v u.addr.node u) ≡ put_arc (arcs_of v) (arc_of u)
put_among v u = grind (arith, common_steps, put_in v.below u)

pub put_written : (v : Invocation) (d : Arcs) (u : Tie) → value_of (record { tree = v }) ≡ d → value_of (record { tree = with_tie v u.addr.node u }) ≡ record d { arcs = put_arc d.arcs (arc_of u) }
put_written v d u is = written v d u.addr.node u (put_arc d.arcs (arc_of u)) (put_among v u ∙ ap (λ (x : Arcs). put_arc x.arcs (arc_of u)) is) is

-- it is there
pub tie_there : (v : Invocation) (p : ℕ) (a : Addr) → option_map (λ (x : Arc). x.peer) (find_arc (arcs_of v) p) ≡ Some a → (t : Tie) × (find_tie (ties_of v) p ≡ Some t) × (find_arc (arcs_of v) p ≡ Some (arc_of t))
tie_there v p a there = go (find_tie (ties_of v) p) refl
  where
    found : find_arc (arcs_of v) p ≡ option_map arc_of (find_tie (ties_of v) p)
    found = arc_found (ties_of v) p

    go : (o : Option Tie) → find_tie (ties_of v) p ≡ o → (t : Tie) × (find_tie (ties_of v) p ≡ Some t) × (find_arc (arcs_of v) p ≡ Some (arc_of t))
    go None e = absurd (let clash : None ≡ Some a = sym (ap (λ (o : Option Tie). option_map (λ (x : Arc). x.peer) (option_map arc_of o)) e) ∙ sym (ap (option_map (λ (x : Arc). x.peer)) found) ∙ there in cc (clash))
    go (Some t) e = (t, e, found ∙ ap (option_map arc_of) e)

-- ---- and looked for at a place

at_there : (ts : List Tie) (i p : ℕ) → is_at ts i p ≡ true → is_absent ts p ≡ false
at_there [] i p h = absurd (cc (h))
at_there (t ∷ ts) zero p h = grind (arith, h)
at_there (t ∷ ts) (suc i) p h = grind (arith, at_there ts i p, h)

place_at : (ts : List Tie) (i p : ℕ) → is_apart ts ≡ true → is_at ts i p ≡ true → place_of ts p ≡ i
place_at [] i p a h = absurd (cc (h))
place_at (t ∷ ts) zero p a h = grind (arith, h)
place_at (t ∷ ts) (suc i) p a h = grind (arith, common_steps, nat_tests, a, at_there ts i p, place_at ts i p, h)

-- so that no other than the first one is found there
pub first_at : (v : Invocation) (i p : ℕ) → is_sided v ≡ true → is_at v.below i p ≡ true → place_of v.below p ≡ i
first_at v i p h at = let apart : is_apart v.below ≡ true = grind (arith, common_steps, h) in place_at v.below i p apart at

set_none : (ts : List Tie) (p : ℕ) (t : Tie) → find_tie ts p ≡ None → slice_set ts (place_of ts p) t ≡ ts
set_none [] p t h = refl
set_none (x ∷ ts) p t h = grind (arith, set_none ts p t, h)

-- there is none
pub unwritten : (v : Invocation) (p : ℕ) (t : Tie) → None ≡ find_tie (ties_of v) p → v ≡ with_tie v p t
unwritten v p t h = grind (arith, common_steps, h, set_none v.below p t)

-- ---- and numbered where it stands

pub arc_numbered : (t u : Tie) → u.addr ≡ t.addr → u.dialogue ≡ t.dialogue → u.link ≡ with_one_sent t.link → arc_of u ≡ record (arc_of t) { link = with_one_sent t.link }
arc_numbered t u addr dialogue link =
    let made : Addr → Link → Dialogue → Arc = λ a l d. record { peer = a; link = l; dialogue = d } in
    ap (λ (a : Addr). made a u.link u.dialogue.dialogue) addr
    ∙ ap (λ (l : Link). made t.addr l u.dialogue.dialogue) link
    ∙ ap (λ (e : End). made t.addr (with_one_sent t.link) e.dialogue) dialogue

pub numbered_written : (v : Invocation) (d : Arcs) (p : ℕ) (r : DialogueRecord) (t u : Tie) → WritesLink v p → find_tie (ties_of v) p ≡ Some t → find_arc (arcs_of v) p ≡ Some (arc_of t)
    → u.addr ≡ t.addr → u.dialogue ≡ t.dialogue → u.link ≡ with_one_sent t.link → value_of (record { tree = v }) ≡ d
    → value_of (record { tree = with_tie v p u }) ≡ record d { arcs = (carried d.arcs p r).0 }
numbered_written v d p r t u w tie found addr dialogue link is =
    let put : arcs_of (with_tie v p u) ≡ (carried (arcs_of v) p r).0 =
    w t u (λ _. with_one_sent t.link) tie (arc_numbered t u addr dialogue link) ∙ carry_leaves (arcs_of v) p r (arc_of t) (with_one_sent t.link) found refl in
    written v d p u (carried d.arcs p r).0 (put ∙ ap (λ (x : Arcs). (carried x.arcs p r).0) is) is

put_same : (arcs : List Arc) (p : ℕ) (a : Arc) (l : Link) → find_arc arcs p ≡ Some a → l ≡ a.link → with_link arcs p (λ _. l) ≡ arcs
put_same [] p a l h is = refl
put_same (c ∷ arcs) p a l h is = grind (arith, common_steps, put_same arcs p a l, h, is)

-- where it is not, nothing is written
pub unnumbered : (v : Invocation) (d : Arcs) (p : ℕ) (t u : Tie) → WritesLink v p → find_tie (ties_of v) p ≡ Some t → find_arc (arcs_of v) p ≡ Some (arc_of t)
    → u ≡ t → value_of (record { tree = v }) ≡ d → value_of (record { tree = with_tie v p u }) ≡ d
unnumbered v d p t u w tie found same is =
    let put : arcs_of (with_tie v p t) ≡ arcs_of v = w t t (λ _. t.link) tie refl ∙ put_same (arcs_of v) p (arc_of t) t.link found refl in
    ap (λ (x : Tie). value_of (record { tree = with_tie v p x })) same
    ∙ written v d p t d.arcs (put ∙ ap (λ (x : Arcs). x.arcs) is) is

pub numbered_so : {E : Type 0} (o : Result (Option Next) E) (v : Invocation) (d : Arcs) (p : ℕ) (r : DialogueRecord) (t u : Tie) → WritesLink v p → find_tie (ties_of v) p ≡ Some t → find_arc (arcs_of v) p ≡ Some (arc_of t)
    → u.addr ≡ t.addr → u.dialogue ≡ t.dialogue → value_of (record { tree = v }) ≡ d → OnOk o (u.link ≡ with_one_sent t.link)
    → OnOk o (value_of (record { tree = with_tie v p u }) ≡ record d { arcs = (carried d.arcs p r).0 })
numbered_so (Ok n) v d p r t u w tie found addr dialogue is link = numbered_written v d p r t u w tie found addr dialogue link is
numbered_so (Err e) v d p r t u w tie found addr dialogue is link = tt

pub unnumbered_so : {E : Type 0} (o : Result (Option Next) E) (v : Invocation) (d : Arcs) (p : ℕ) (t u : Tie) → WritesLink v p → find_tie (ties_of v) p ≡ Some t → find_arc (arcs_of v) p ≡ Some (arc_of t)
    → value_of (record { tree = v }) ≡ d → OnErr o (u ≡ t) → OnErr o (value_of (record { tree = with_tie v p u }) ≡ d)
unnumbered_so (Ok n) v d p t u w tie found is same = tt
unnumbered_so (Err e) v d p t u w tie found is same = unnumbered v d p t u w tie found same is

pub numbered_says : {E : Type 0} (o : Result (Option Next) E) (v : Invocation) (d : Arcs) (p : ℕ) (r : DialogueRecord) (t : Tie) → find_arc (arcs_of v) p ≡ Some (arc_of t) → value_of (record { tree = v }) ≡ d
    → IfOk o (λ n. outs_with n r ≡ outs_next t.addr r (next_on t.link)) → IfOk o (λ n. outs_with n r ≡ (carried d.arcs p r).1)
numbered_says (Ok n) v d p r t found is says = says ∙ carry_says (arcs_of v) p r (arc_of t) (next_on t.link) found refl ∙ ap (λ (x : Arcs). (carried x.arcs p r).1) is
numbered_says (Err e) v d p r t found is says = tt

pub unnumbered_says : {E : Type 0} (o : Result (Option Next) E) (v : Invocation) (d : Arcs) (p : ℕ) (r : DialogueRecord) (t : Tie) → find_arc (arcs_of v) p ≡ Some (arc_of t) → value_of (record { tree = v }) ≡ d
    → OnErr o (is_spent t.link ≡ true) → OnErr o (some_past_numbers (carried d.arcs p r).1 ≡ true)
unnumbered_says (Ok n) v d p r t found is spent = tt
unnumbered_says (Err e) v d p r t found is spent = ap (λ (x : Arcs). some_past_numbers (carried x.arcs p r).1) (sym is) ∙ carry_spent (arcs_of v) p r (arc_of t) found spent
