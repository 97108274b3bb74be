-- Lists of arcs as the code keeps them, and the arcs of the definitions that they are.
use Rattle.std.proofs.Common.{◌≡◌, ℕ, zero, suc, ◌<◌, ◌≤◌, true, not, List, [], ◌∷◌, length, Option, None, Some, MutBor, slice_index_or, slice_set, map, refl, arith}
use Rattle.std.specs.Prelude.{◌==◌}
use Rattle.std.specs.List.{IsItemAtMut, filter}
use Rattle.std.specs.Option.{option_copied_mut, option_map}
use Rattle.std.proofs.lemmas.Bool.Decides.{nat_tests}
use Rattle.std.proofs.lemmas.Grind.{common_steps}
use Rattle.tp_model.specs.Parts.{Link, Dialogue}
use Rattle.tp_model.specs.Arcs.{find_arc, put_arc, without_arc, with_dialogue, with_link}
use Rattle.tp_tree.specs.declared.tie.Tie.{Tie}
use Rattle.tp_tree.specs.Tie.{arc_of, find_tie, place_of, is_at, without_ties}

-- the ties that are not with the peer
pub filter-without_ties : (p : ℕ) (ts : List Tie) → filter (λ t. not (t.addr.node == p)) ts ≡ without_ties ts p
filter-without_ties p [] = refl
filter-without_ties p (t ∷ ts) = grind (arith, common_steps, filter-without_ties p ts)

-- the first tie with the peer stands at its place, which is after the others where there is none
find_none : (ts : List Tie) (p : ℕ) → length ts ≤ place_of ts p → find_tie ts p ≡ None
find_none [] p h = refl
find_none (t ∷ ts) p h = grind (arith, nat_tests, find_none ts p)

find_some : (ts : List Tie) (p : ℕ) (d : Tie) → place_of ts p < length ts → find_tie ts p ≡ Some (slice_index_or ts (place_of ts p) d)
find_some [] p d h = grind arith
find_some (t ∷ ts) p d h = grind (arith, common_steps, nat_tests, find_some ts p d)

-- what is lent at that place is the first tie with the peer
pub found_mut : (ts : List Tie) (p : ℕ) (r : Option (MutBor Tie)) → IsItemAtMut ts (place_of ts p) r → option_copied_mut r ≡ find_tie ts p
found_mut ts p None h = grind (arith, find_none ts p)
found_mut ts p (Some x) h = grind (arith, find_some ts p x.now)

-- the one that stands at a place is there
pub at_place : (ts : List Tie) (i p : ℕ) (t : Tie) → i < length ts → t ≡ slice_index_or ts i t → t.addr.node ≡ p → is_at ts i p ≡ true
at_place [] i p t h e at = absurd (omega (arith, h))
at_place (x ∷ ts) zero p t h e at = grind (arith, nat_tests, e, at)
at_place (x ∷ ts) (suc i) p t h e at = at_place ts i p t (omega (arith, h)) e at

-- ---- the same of the arcs

pub find_arc_map : (ts : List Tie) (p : ℕ) → find_arc (map arc_of ts) p ≡ option_map arc_of (find_tie ts p)
find_arc_map [] p = refl
find_arc_map (t ∷ ts) p = grind (arith, common_steps, find_arc_map ts p)

pub without_arc_map : (ts : List Tie) (p : ℕ) → map arc_of (without_ties ts p) ≡ without_arc (map arc_of ts) p
without_arc_map [] p = refl
without_arc_map (t ∷ ts) p = grind (arith, common_steps, without_arc_map ts p)

pub put_arc_map : (ts : List Tie) (p : ℕ) (u : Tie) → u.addr.node ≡ p → map arc_of (slice_set ts (place_of ts p) u) ≡ put_arc (map arc_of ts) (arc_of u)
put_arc_map [] p u same = refl
put_arc_map (t ∷ ts) p u same = grind (arith, common_steps, nat_tests, put_arc_map ts p u)

pub with_dialogue_map : (ts : List Tie) (p : ℕ) (t u : Tie) (f : Dialogue → Dialogue) → find_tie ts p ≡ Some t → arc_of u ≡ record (arc_of t) { dialogue = f (arc_of t).dialogue } → map arc_of (slice_set ts (place_of ts p) u) ≡ with_dialogue (map arc_of ts) p f
with_dialogue_map [] p t u f found is = refl
with_dialogue_map (s ∷ ts) p t u f found is = grind (arith, common_steps, nat_tests, with_dialogue_map ts p t u f)

pub with_link_map : (ts : List Tie) (p : ℕ) (t u : Tie) (f : Link → Link) → find_tie ts p ≡ Some t → arc_of u ≡ record (arc_of t) { link = f (arc_of t).link } → map arc_of (slice_set ts (place_of ts p) u) ≡ with_link (map arc_of ts) p f
with_link_map [] p t u f found is = refl
with_link_map (s ∷ ts) p t u f found is = grind (arith, common_steps, nat_tests, with_link_map ts p t u f)
