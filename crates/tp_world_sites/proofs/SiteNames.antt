-- Sites found by their names, in the code and in the definitions.
use Rattle.std.proofs.Common.{◌≡◌, ◌≤◌, ◌<◌, ◌+◌, ◌++◌, ℕ, suc, Bool, true, false, cond, refl, ap, sym, ◌∙◌, arith, Some, None, List, [], ◌∷◌, length, drop, slice_set, slice_index_or}
use Rattle.std.proofs.lemmas.List.{drop_more}
use Rattle.tp_names.specs.Same.{is_name}
use Rattle.tp_names.proofs.Sames.{name_same, name_self}
use Rattle.tp_world_sites.specs.Sites.{find_site_slot, place_of_site}
use Rattle.tp_world_sites.specs.declared.site_slot.SiteSlot.{SiteSlot}

-- ---- at the place of the name

pub slot_found : (xs : List SiteSlot) (s : List ℕ) (d : SiteSlot) → place_of_site xs s < length xs → find_site_slot xs s ≡ Some (slice_index_or xs (place_of_site xs s) d)
slot_found [] s d h = absurd (omega arith)
slot_found (x ∷ xs) s d h = go (is_name x.site.nodes.site s) refl (slot_found xs s d)
  where
    go : (b : Bool) → is_name x.site.nodes.site s ≡ b → (place_of_site xs s < length xs → find_site_slot xs s ≡ Some (slice_index_or xs (place_of_site xs s) d))
        → find_site_slot (x ∷ xs) s ≡ Some (slice_index_or (x ∷ xs) (place_of_site (x ∷ xs) s) d)
    go true e rest = grind (arith, e)
    go false e rest = let one_more : place_of_site (x ∷ xs) s ≡ suc (place_of_site xs s) = grind (arith, e) in let tail = rest (omega (arith, one_more, h)) in grind (arith, e, tail)

pub slot_missing : (xs : List SiteSlot) (s : List ℕ) → length xs ≤ place_of_site xs s → find_site_slot xs s ≡ None
slot_missing [] s h = refl
slot_missing (x ∷ xs) s h = go (is_name x.site.nodes.site s) refl (slot_missing xs s)
  where
    go : (b : Bool) → is_name x.site.nodes.site s ≡ b → (length xs ≤ place_of_site xs s → find_site_slot xs s ≡ None) → find_site_slot (x ∷ xs) s ≡ None
    go true e rest = absurd (let zero_place : place_of_site (x ∷ xs) s ≡ 0 = grind (arith, e) in omega (arith, zero_place, h))
    go false e rest = let one_more : place_of_site (x ∷ xs) s ≡ suc (place_of_site xs s) = grind (arith, e) in let tail = rest (omega (arith, one_more, h)) in grind (arith, e, tail)

pub slot_within : (xs : List SiteSlot) (s : List ℕ) → place_of_site xs s < length xs → (x : SiteSlot) × (find_site_slot xs s ≡ Some x)
slot_within [] s h = absurd (omega arith)
slot_within (x ∷ xs) s h = (slice_index_or (x ∷ xs) (place_of_site (x ∷ xs) s) x, slot_found (x ∷ xs) s x h)

pub place_most : (xs : List SiteSlot) (s : List ℕ) → place_of_site xs s ≤ length xs
place_most [] s = omega arith
place_most (x ∷ xs) s = grind (arith, place_most xs s)

pub slot_there : (xs : List SiteSlot) (s : List ℕ) (x : SiteSlot) → find_site_slot xs s ≡ Some x → place_of_site xs s < length xs
slot_there [] s x h = absurd cc
slot_there (y ∷ xs) s x h = go (is_name y.site.nodes.site s) refl (slot_there xs s x)
  where
    go : (b : Bool) → is_name y.site.nodes.site s ≡ b → (find_site_slot xs s ≡ Some x → place_of_site xs s < length xs) → place_of_site (y ∷ xs) s < length (y ∷ xs)
    go true e rest = let zero_place : place_of_site (y ∷ xs) s ≡ 0 = grind (arith, e) in omega (arith, zero_place)
    go false e rest =
        let one_more : place_of_site (y ∷ xs) s ≡ suc (place_of_site xs s) = grind (arith, e) in
        let found : find_site_slot xs s ≡ Some x = grind (arith, e, h) in
        omega (arith, one_more, rest found)

pub slot_name : (xs : List SiteSlot) (s : List ℕ) (x : SiteSlot) → find_site_slot xs s ≡ Some x → x.site.nodes.site ≡ s
slot_name [] s x h = absurd cc
slot_name (y ∷ xs) s x h = go (is_name y.site.nodes.site s) refl (slot_name xs s x)
  where
    go : (b : Bool) → is_name y.site.nodes.site s ≡ b → (find_site_slot xs s ≡ Some x → x.site.nodes.site ≡ s) → x.site.nodes.site ≡ s
    go true e rest = let same : y ≡ x = grind (arith, e, h) in ap (λ (z : SiteSlot). z.site.nodes.site) (sym same) ∙ name_same y.site.nodes.site s e
    go false e rest = rest (grind (arith, e, h))

-- at an index: here, or further on
pub place_here : (xs : List SiteSlot) (s : List ℕ) (i : ℕ) (d : SiteSlot) → i < length xs → is_name (slice_index_or xs i d).site.nodes.site s ≡ true → place_of_site (drop i xs) s ≡ 0
place_here xs s i d h e = rw (drop_more xs i d h) (grind (arith, e))

pub place_next : (xs : List SiteSlot) (s : List ℕ) (i : ℕ) (d : SiteSlot) → i < length xs → is_name (slice_index_or xs i d).site.nodes.site s ≡ false → place_of_site (drop i xs) s ≡ suc (place_of_site (drop (i + 1) xs) s)
place_next xs s i d h e = rw (drop_more xs i d h) (grind (arith, e))

-- ---- another in its place, and one more

pub slot_put : (xs : List SiteSlot) (a : List ℕ) (y : SiteSlot) (s : List ℕ) → place_of_site xs a < length xs → y.site.nodes.site ≡ a
    → find_site_slot (slice_set xs (place_of_site xs a) y) s ≡ cond (is_name a s) (Some y) (find_site_slot xs s)
slot_put [] a y s h name = absurd (omega arith)
slot_put (x ∷ xs) a y s h name = go (is_name x.site.nodes.site a) refl (λ k. slot_put xs a y s k name)
  where
    named : is_name y.site.nodes.site s ≡ is_name a s
    named = ap (λ (n : List ℕ). is_name n s) name

    apart : is_name x.site.nodes.site a ≡ false → is_name x.site.nodes.site s ≡ true → is_name a s ≡ true → ⊥
    apart other here there =
        let one : x.site.nodes.site ≡ a = name_same x.site.nodes.site s here ∙ sym (name_same a s there) in
        let self : is_name x.site.nodes.site a ≡ true = ap (λ (n : List ℕ). is_name n a) one ∙ name_self a in
        absurd (cc (other, self))

    go : (b : Bool) → is_name x.site.nodes.site a ≡ b → (place_of_site xs a < length xs → find_site_slot (slice_set xs (place_of_site xs a) y) s ≡ cond (is_name a s) (Some y) (find_site_slot xs s))
        → find_site_slot (slice_set (x ∷ xs) (place_of_site (x ∷ xs) a) y) s ≡ cond (is_name a s) (Some y) (find_site_slot (x ∷ xs) s)
    go true e rest =
        let same : is_name x.site.nodes.site s ≡ is_name a s = ap (λ (n : List ℕ). is_name n s) (name_same x.site.nodes.site a e) in
        grind (arith, e, named, same)
    go false e rest =
        let one_more : place_of_site (x ∷ xs) a ≡ suc (place_of_site xs a) = grind (arith, e) in
        let tail = rest (omega (arith, one_more, h)) in
        grind (arith, e, tail, apart)

pub slot_push : (xs : List SiteSlot) (y : SiteSlot) (s : List ℕ) → find_site_slot xs y.site.nodes.site ≡ None
    → find_site_slot (xs ++ y ∷ []) s ≡ cond (is_name y.site.nodes.site s) (Some y) (find_site_slot xs s)
slot_push [] y s h = grind arith
slot_push (x ∷ xs) y s h = go (is_name x.site.nodes.site y.site.nodes.site) refl (slot_push xs y s)
  where
    apart : is_name x.site.nodes.site y.site.nodes.site ≡ false → is_name x.site.nodes.site s ≡ true → is_name y.site.nodes.site s ≡ true → ⊥
    apart other here there =
        let one : x.site.nodes.site ≡ y.site.nodes.site = name_same x.site.nodes.site s here ∙ sym (name_same y.site.nodes.site s there) in
        let self : is_name x.site.nodes.site y.site.nodes.site ≡ true = ap (λ (n : List ℕ). is_name n y.site.nodes.site) one ∙ name_self y.site.nodes.site in
        absurd (cc (other, self))

    go : (b : Bool) → is_name x.site.nodes.site y.site.nodes.site ≡ b → (find_site_slot xs y.site.nodes.site ≡ None → find_site_slot (xs ++ y ∷ []) s ≡ cond (is_name y.site.nodes.site s) (Some y) (find_site_slot xs s))
        → find_site_slot ((x ∷ xs) ++ y ∷ []) s ≡ cond (is_name y.site.nodes.site s) (Some y) (find_site_slot (x ∷ xs) s)
    go true e rest = absurd (let some : Some x ≡ None = grind (arith, e, h) in cc (some))
    go false e rest = let tail = rest (grind (arith, e, h)) in grind (arith, e, tail, apart)

pub place_push : (xs : List SiteSlot) (y : SiteSlot) → find_site_slot xs y.site.nodes.site ≡ None → place_of_site (xs ++ y ∷ []) y.site.nodes.site ≡ length xs
place_push [] y h = let self : is_name y.site.nodes.site y.site.nodes.site ≡ true = name_self y.site.nodes.site in grind (arith, self)
place_push (x ∷ xs) y h = go (is_name x.site.nodes.site y.site.nodes.site) refl (place_push xs y)
  where
    go : (b : Bool) → is_name x.site.nodes.site y.site.nodes.site ≡ b → (find_site_slot xs y.site.nodes.site ≡ None → place_of_site (xs ++ y ∷ []) y.site.nodes.site ≡ length xs)
        → place_of_site ((x ∷ xs) ++ y ∷ []) y.site.nodes.site ≡ length (x ∷ xs)
    go true e rest = absurd (let some : Some x ≡ None = grind (arith, e, h) in cc (some))
    go false e rest = let tail = rest (grind (arith, e, h)) in grind (arith, e, tail)
