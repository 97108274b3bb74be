-- An arc that is put in the place of the one with its peer.
use Rattle.std.proofs.Common.{◌≡◌, ◌≤◌, ℕ, zero, suc, Bool, true, false, Option, Some, None, List, [], ◌∷◌, length, map, slice_set, refl, ap, sym, subst, ◌∙◌, arith}
use Rattle.std.specs.Prelude.{◌==◌, not, cond}
use Rattle.std.specs.Option.{option_map}
use Rattle.std.specs.Cmp.{unsigned_Decides}
use Rattle.std.proofs.lemmas.Bool.Decides.{nat_tests}
use Rattle.tp_names.specs.declared.identifiers.Addr.{Addr}
use Rattle.tp_model.specs.Parts.{Link, Dialogue, Arc}
use Rattle.tp_model.specs.Arcs.{find_arc, put_arc, with_dialogue, with_link}
use Rattle.tp_tree.specs.declared.tie.Tie.{Tie}
use Rattle.tp_tree.specs.Tie.{arc_of, place_of}
use Rattle.tp_node_state.specs.Arcs.{Arcs, side_with, fits_link, count_subordinates_in}
use Rattle.tp_node_state.specs.SharedArcs.{Stands, StandsIn, changed, aside_at, is_other}

pub found_number : (arcs : List Arc) (p : ℕ) (a : Arc) → find_arc arcs p ≡ Some a → a.peer.node ≡ p
found_number [] p a h = grind (arith, h)
found_number (b ∷ arcs) p a h = grind (arith, nat_tests, found_number arcs p a, h)

-- it is found
pub put_found : (arcs : List Arc) (a b : Arc) (p : ℕ) → a.peer.node ≡ p → find_arc arcs p ≡ Some b → find_arc (put_arc arcs a) p ≡ Some a
put_found [] a b p at h = grind (arith, h)
put_found (c ∷ arcs) a b p at h = grind (arith, nat_tests, at, put_found arcs a b p, h)

-- and the others as before
pub put_others : (arcs : List Arc) (a : Arc) (p : ℕ) → (a.peer.node == p) ≡ false → find_arc (put_arc arcs a) p ≡ find_arc arcs p
put_others [] a p n = refl
put_others (c ∷ arcs) a p n = grind (arith, nat_tests, n, put_others arcs a p)

pub put_again : (arcs : List Arc) (a b : Arc) → b.peer.node ≡ a.peer.node → put_arc (put_arc arcs b) a ≡ put_arc arcs a
put_again [] a b same = refl
put_again (c ∷ arcs) a b same = grind (arith, nat_tests, same, put_again arcs a b)

pub count_put : (s : Option Addr) (arcs : List Arc) (a : Arc) → count_subordinates_in s (put_arc arcs a) ≡ count_subordinates_in s arcs
count_put s [] a = refl
count_put s (c ∷ arcs) a = go (c.peer.node == a.peer.node) refl (count_put s arcs a)
  where
    go : (b : Bool) → (c.peer.node == a.peer.node) ≡ b → count_subordinates_in s (put_arc arcs a) ≡ count_subordinates_in s arcs → count_subordinates_in s (put_arc (c ∷ arcs) a) ≡ count_subordinates_in s (c ∷ arcs)
    go true e rest = grind (arith, nat_tests, e)
    go false e rest = grind (arith, e, rest)

-- a link and a dialogue in place
pub link_put : (arcs : List Arc) (p : ℕ) (a b : Arc) (l : Link) → find_arc arcs p ≡ Some b → a ≡ record b { link = l } → put_arc arcs a ≡ with_link arcs p (λ _. l)
link_put [] p a b l h is = refl
link_put (c ∷ arcs) p a b l h is = go (c.peer.node == p) refl (link_put arcs p a b l)
  where
    number : a.peer.node ≡ p
    number = ap (λ (x : Arc). x.peer.node) is ∙ found_number (c ∷ arcs) p b h

    go : (v : Bool) → (c.peer.node == p) ≡ v → (find_arc arcs p ≡ Some b → a ≡ record b { link = l } → put_arc arcs a ≡ with_link arcs p (λ _. l)) → put_arc (c ∷ arcs) a ≡ with_link (c ∷ arcs) p (λ _. l)
    go true e rest =
        let first : find_arc (c ∷ arcs) p ≡ Some c = grind (arith, e) in
        let same : Some c ≡ Some b = sym first ∙ h in
        grind (arith, nat_tests, e, number, same, is)
    go false e rest =
        let first : find_arc (c ∷ arcs) p ≡ find_arc arcs p = grind (arith, e) in
        let tail = rest (sym first ∙ h) is in
        grind (arith, nat_tests, e, number, tail)

pub dialogue_put : (arcs : List Arc) (p : ℕ) (a b : Arc) (d : Dialogue) → find_arc arcs p ≡ Some b → a ≡ record b { dialogue = d } → put_arc arcs a ≡ with_dialogue arcs p (λ _. d)
dialogue_put [] p a b d h is = refl
dialogue_put (c ∷ arcs) p a b d h is = go (c.peer.node == p) refl (dialogue_put arcs p a b d)
  where
    number : a.peer.node ≡ p
    number = ap (λ (x : Arc). x.peer.node) is ∙ found_number (c ∷ arcs) p b h

    go : (v : Bool) → (c.peer.node == p) ≡ v → (find_arc arcs p ≡ Some b → a ≡ record b { dialogue = d } → put_arc arcs a ≡ with_dialogue arcs p (λ _. d)) → put_arc (c ∷ arcs) a ≡ with_dialogue (c ∷ arcs) p (λ _. d)
    go true e rest =
        let first : find_arc (c ∷ arcs) p ≡ Some c = grind (arith, e) in
        let same : Some c ≡ Some b = sym first ∙ h in
        grind (arith, nat_tests, e, number, same, is)
    go false e rest =
        let first : find_arc (c ∷ arcs) p ≡ find_arc arcs p = grind (arith, e) in
        let tail = rest (sym first ∙ h) is in
        grind (arith, nat_tests, e, number, tail)

-- ---- the arcs with the one that stands aside

pub aside_found : (v : Arcs) (t : Tie) (p : ℕ) → Stands v t → t.addr.node ≡ p → find_arc (put_arc v.arcs (arc_of t)) p ≡ Some (arc_of t)
aside_found v t p s at = go (find_arc v.arcs t.addr.node) refl s.there
  where
    go : (o : Option Arc) → find_arc v.arcs t.addr.node ≡ o → option_map (λ (a : Arc). a.peer) o ≡ Some t.addr → find_arc (put_arc v.arcs (arc_of t)) p ≡ Some (arc_of t)
    go None e h = absurd (cc)
    go (Some b) e h = put_found v.arcs (arc_of t) b p at (ap (find_arc v.arcs) (sym at) ∙ e)

pub others_found : (v : Arcs) (t : Tie) (p : ℕ) → (t.addr.node == p) ≡ false → find_arc (put_arc v.arcs (arc_of t)) p ≡ find_arc v.arcs p
others_found v t p n = put_others v.arcs (arc_of t) p n

-- what is found among the arcs with the change
pub found_in : (v : Arcs) (x : Option Tie) (p : ℕ) → StandsIn v x → find_arc (changed v x).arcs p ≡ elim (aside_at x p) as (λ _. Option Arc) [ None ↦ find_arc v.arcs p | Some t ↦ Some (arc_of t) ]
found_in v None p s = refl
found_in v (Some t) p s = go (t.addr.node == p) refl
  where
    go : (b : Bool) → (t.addr.node == p) ≡ b → find_arc (put_arc v.arcs (arc_of t)) p ≡ elim (cond (t.addr.node == p) (Some t) None) as (λ _. Option Arc) [ None ↦ find_arc v.arcs p | Some u ↦ Some (arc_of u) ]
    go true e =
        aside_found v t p s ((unsigned_Decides t.addr.node p).0 e)
        ∙ sym (ap (λ (b : Bool). elim (cond b (Some t) None) as (λ _. Option Arc) [ None ↦ find_arc v.arcs p | Some u ↦ Some (arc_of u) ]) e)
    go false e =
        others_found v t p e
        ∙ sym (ap (λ (b : Bool). elim (cond b (Some t) None) as (λ _. Option Arc) [ None ↦ find_arc v.arcs p | Some u ↦ Some (arc_of u) ]) e)

same_number : (a p : ℕ) → not (a == p) ≡ false → a ≡ p
same_number a p h = (unsigned_Decides a p).0 (go (a == p) h)
  where
    go : (b : Bool) → not b ≡ false → b ≡ true
    go true e = refl
    go false e = absurd (let clash : true ≡ false = e in cc)

-- another change of the arc that stands aside
pub set_changed : (v : Arcs) (x : Option Tie) (t : Tie) → is_other x t.addr.node ≡ false → changed v (Some t) ≡ (let w : Arcs = changed v x in record w { arcs = put_arc w.arcs (arc_of t) })
set_changed v None t h = refl
set_changed v (Some u) t h = ap (λ (arcs : List Arc). let w : Arcs = record v { arcs = arcs } in w) (sym (put_again v.arcs (arc_of t) (arc_of u) (same_number u.addr.node t.addr.node h)))

pub set_stands : (v : Arcs) (x : Option Tie) (t : Tie) → StandsIn v x → is_other x t.addr.node ≡ false → Stands (changed v x) t → Stands v t
set_stands v None t k h s = s
set_stands v (Some u) t k h s =
    let at : u.addr.node ≡ t.addr.node = same_number u.addr.node t.addr.node h in
    let addr : Some u.addr ≡ Some t.addr = sym (ap (option_map (λ (a : Arc). a.peer)) (aside_found v u t.addr.node k at)) ∙ s.there in
    record { there = sym (ap (λ (p : ℕ). option_map (λ (a : Arc). a.peer) (find_arc v.arcs p)) at) ∙ k.there ∙ addr; side = s.side; link = s.link }

-- an arc that was found, with another link or another dialogue
pub stands_link : (v : Arcs) (p : ℕ) (t : Tie) (l : Link) → Some (arc_of t) ≡ find_arc v.arcs p → t.dialogue.side ≡ side_with v.superior p → fits_link (side_with v.superior p) l ≡ true → Stands v (record t { link = l })
stands_link v p t l found side fits =
    let at : t.addr.node ≡ p = found_number v.arcs p (arc_of t) (sym found) in
    record {
      there = ap (option_map (λ (a : Arc). a.peer)) (ap (find_arc v.arcs) at ∙ sym found);
      side = side ∙ sym (ap (side_with v.superior) at);
      link = ap (λ (q : ℕ). fits_link (side_with v.superior q) l) at ∙ fits;
    }

pub stands_dialogue : (v : Arcs) (p : ℕ) (t u : Tie) → Some (arc_of t) ≡ find_arc v.arcs p → u.addr ≡ t.addr → u.link ≡ t.link → u.dialogue.side ≡ side_with v.superior p → fits_link (side_with v.superior p) t.link ≡ true → Stands v u
stands_dialogue v p t u found addr link side fits =
    let at : u.addr.node ≡ p = ap (λ (a : Addr). a.node) addr ∙ found_number v.arcs p (arc_of t) (sym found) in
    record {
      there = ap (option_map (λ (a : Arc). a.peer)) (ap (find_arc v.arcs) at ∙ sym found) ∙ ap (λ (a : Addr). Some a) (sym addr);
      side = side ∙ sym (ap (side_with v.superior) at);
      link = ap (λ (q : ℕ). fits_link (side_with v.superior q) u.link) at ∙ ap (fits_link (side_with v.superior p)) link ∙ fits;
    }

-- ---- in a list of arcs as they are kept

pub placed : (ts : List Tie) (t : Tie) → map arc_of (slice_set ts (place_of ts t.addr.node) t) ≡ put_arc (map arc_of ts) (arc_of t)
placed [] t = refl
placed (x ∷ ts) t = go (x.addr.node == t.addr.node) refl (placed ts t)
  where
    go : (b : Bool) → (x.addr.node == t.addr.node) ≡ b → map arc_of (slice_set ts (place_of ts t.addr.node) t) ≡ put_arc (map arc_of ts) (arc_of t)
        → map arc_of (slice_set (x ∷ ts) (place_of (x ∷ ts) t.addr.node) t) ≡ put_arc (map arc_of (x ∷ ts)) (arc_of t)
    go true e rest = grind (arith, e)
    go false e rest = grind (arith, e, rest)

pub set_past : (ts : List Tie) (k : ℕ) (t : Tie) → length ts ≤ k → slice_set ts k t ≡ ts
set_past [] k t h = refl
set_past (x ∷ ts) zero t h = absurd (omega (arith, h))
set_past (x ∷ ts) (suc k) t h = ap (λ (l : List Tie). x ∷ l) (set_past ts k t (omega (arith, h)))

pub unplaced : (ts : List Tie) (t : Tie) (k : ℕ) (a : Addr) → k ≡ place_of ts a.node → a ≡ t.addr → length ts ≤ k → map arc_of ts ≡ put_arc (map arc_of ts) (arc_of t)
unplaced ts t k a is addr h =
    let at : k ≡ place_of ts t.addr.node = is ∙ ap (λ (x : Addr). place_of ts x.node) addr in
    sym (ap (map arc_of) (set_past ts k t h)) ∙ ap (λ (n : ℕ). map arc_of (slice_set ts n t)) at ∙ placed ts t

-- there is memory for as many as before
pub still_fits : (v w : Arcs) (t : Tie) (n : ℕ) → w ≡ record v { arcs = put_arc v.arcs (arc_of t) } → count_subordinates_in v.superior v.arcs ≤ n → count_subordinates_in w.superior w.arcs ≤ n
still_fits v w t n is h = subst (λ (k : ℕ). k ≤ n) (sym (ap (λ (x : Arcs). count_subordinates_in x.superior x.arcs) is ∙ count_put v.superior v.arcs (arc_of t))) h
