-- The sites of the definitions beside those of the code: one of them is another, one more comes, and whether a log is full.
use Rattle.std.proofs.Common.{◌≡◌, ◌++◌, ◌||◌, ℕ, suc, Bool, true, false, refl, ap, sym, ◌∙◌, subst, arith, nat_lt, Option, Some, None, List, [], ◌∷◌, slice_set}
use Rattle.tp_names.specs.Same.{is_name}
use Rattle.tp_names.proofs.Sames.{name_same, name_self}
use Rattle.tp_model.specs.World.{Site, find_site, put_site}
use Rattle.tp_model.specs.Lines.{is_full, log_size, most_bytes}
use Rattle.tp_world_sites.specs.Sites.{IsSite, AreSites, find_site_slot, place_of_site}
use Rattle.tp_world_sites.specs.declared.site_slot.SiteSlot.{SiteSlot}

pub site_name : (ss : List Site) (a : List ℕ) (s : Site) → find_site ss a ≡ Some s → s.name ≡ a
site_name [] a s h = absurd cc
site_name (t ∷ ss) a s h = go (is_name t.name a) refl (site_name ss a s)
  where
    go : (b : Bool) → is_name t.name a ≡ b → (find_site ss a ≡ Some s → s.name ≡ a) → s.name ≡ a
    go true e rest = let same : t ≡ s = grind (arith, e, h) in ap (λ (z : Site). z.name) (sym same) ∙ name_same t.name a e
    go false e rest = rest (grind (arith, e, h))

-- ---- the same name on both sides

same_test : (s : Site) (x : SiteSlot) (a : List ℕ) → IsSite s x → is_name x.site.nodes.site a ≡ is_name s.name a
same_test s x a h = ap (λ (n : List ℕ). is_name n a) h.name

-- the slot of a name, where the definitions have a site of it
pub record IsFound (s : Site) (a : List ℕ) (xs : List SiteSlot) : Type 0 where
  pub slot : SiteSlot
  pub found : find_site_slot xs a ≡ Some slot
  pub site : IsSite s slot

pub both_found : (ss : List Site) (xs : List SiteSlot) (a : List ℕ) (s : Site) → AreSites ss xs → find_site ss a ≡ Some s → IsFound s a xs
both_found [] xs a s are h = absurd cc
both_found (t ∷ ss) [] a s are h = absurd are
both_found (t ∷ ss) (x ∷ xs) a s are h = go (is_name t.name a) refl (both_found ss xs a s are.1)
  where
    go : (b : Bool) → is_name t.name a ≡ b → (find_site ss a ≡ Some s → IsFound s a xs) → IsFound s a (x ∷ xs)
    go true e rest =
        let same : t ≡ s = grind (arith, e, h) in
        record { slot = x; found = ap (λ (b : Bool). elim b as (λ _. Option SiteSlot) [ true ↦ Some x | false ↦ find_site_slot xs a ]) (same_test t x a are.0 ∙ e); site = subst (λ (z : Site). IsSite z x) same are.0 }
    go false e rest =
        let tail : IsFound s a xs = rest (grind (arith, e, h)) in
        record { slot = tail.slot; found = ap (λ (b : Bool). elim b as (λ _. Option SiteSlot) [ true ↦ Some x | false ↦ find_site_slot xs a ]) (same_test t x a are.0 ∙ e) ∙ tail.found; site = tail.site }

pub both_missing : (ss : List Site) (xs : List SiteSlot) (a : List ℕ) → AreSites ss xs → find_site ss a ≡ None → find_site_slot xs a ≡ None
both_missing [] [] a are h = refl
both_missing [] (x ∷ xs) a are h = absurd are
both_missing (t ∷ ss) [] a are h = absurd are
both_missing (t ∷ ss) (x ∷ xs) a are h = go (is_name t.name a) refl (both_missing ss xs a are.1)
  where
    go : (b : Bool) → is_name t.name a ≡ b → (find_site ss a ≡ None → find_site_slot xs a ≡ None) → find_site_slot (x ∷ xs) a ≡ None
    go true e rest = absurd (let some : Some t ≡ None = grind (arith, e, h) in cc (some))
    go false e rest = let test = same_test t x a are.0 in let tail = rest (grind (arith, e, h)) in grind (arith, e, test, tail)

-- ---- another site in the place of one

pub are_put : (ss : List Site) (xs : List SiteSlot) (t : Site) (y : SiteSlot) → AreSites ss xs → IsSite t y → AreSites (put_site ss t) (slice_set xs (place_of_site xs t.name) y)
are_put [] [] t y are is = tt
are_put [] (x ∷ xs) t y are is = absurd are
are_put (s ∷ ss) [] t y are is = absurd are
are_put (s ∷ ss) (x ∷ xs) t y are is = go (is_name s.name t.name) refl (are_put ss xs t y are.1 is)
  where
    go : (b : Bool) → is_name s.name t.name ≡ b → AreSites (put_site ss t) (slice_set xs (place_of_site xs t.name) y) → AreSites (put_site (s ∷ ss) t) (slice_set (x ∷ xs) (place_of_site (x ∷ xs) t.name) y)
    go true e rest =
        let place : place_of_site (x ∷ xs) t.name ≡ 0 = let test = same_test s x t.name are.0 in grind (arith, e, test) in
        let sites : put_site (s ∷ ss) t ≡ t ∷ ss = grind (arith, e) in
        rw (place, sites) (is, are.1)
    go false e rest =
        let place : place_of_site (x ∷ xs) t.name ≡ suc (place_of_site xs t.name) = let test = same_test s x t.name are.0 in grind (arith, e, test) in
        let sites : put_site (s ∷ ss) t ≡ s ∷ put_site ss t = grind (arith, e) in
        rw (place, sites) (are.0, rest)

pub put_self : (ss : List Site) (a : List ℕ) (s : Site) → find_site ss a ≡ Some s → put_site ss s ≡ ss
put_self [] a s h = absurd cc
put_self (t ∷ ss) a s h = go (is_name t.name a) refl (put_self ss a s)
  where
    name : s.name ≡ a
    name = site_name (t ∷ ss) a s h

    test : is_name t.name s.name ≡ is_name t.name a
    test = ap (λ (n : List ℕ). is_name t.name n) name

    go : (b : Bool) → is_name t.name a ≡ b → (find_site ss a ≡ Some s → put_site ss s ≡ ss) → put_site (t ∷ ss) s ≡ t ∷ ss
    go true e rest = let same : t ≡ s = grind (arith, e, h) in grind (arith, e, test, same)
    go false e rest = let tail = rest (grind (arith, e, h)) in grind (arith, e, test, tail)

pub are_push : (ss : List Site) (xs : List SiteSlot) (t : Site) (y : SiteSlot) → AreSites ss xs → IsSite t y → AreSites (ss ++ t ∷ []) (xs ++ y ∷ [])
are_push [] [] t y are is = (is, tt)
are_push [] (x ∷ xs) t y are is = absurd are
are_push (s ∷ ss) [] t y are is = absurd are
are_push (s ∷ ss) (x ∷ xs) t y are is = (are.0, are_push ss xs t y are.1 is)

pub find_push : (ss : List Site) (t : Site) → find_site ss t.name ≡ None → find_site (ss ++ t ∷ []) t.name ≡ Some t
find_push [] t h = let self : is_name t.name t.name ≡ true = name_self t.name in grind (arith, self)
find_push (s ∷ ss) t h = go (is_name s.name t.name) refl (find_push ss t)
  where
    go : (b : Bool) → is_name s.name t.name ≡ b → (find_site ss t.name ≡ None → find_site (ss ++ t ∷ []) t.name ≡ Some t) → find_site ((s ∷ ss) ++ t ∷ []) t.name ≡ Some t
    go true e rest = absurd (let some : Some s ≡ None = grind (arith, e, h) in cc (some))
    go false e rest = let tail = rest (grind (arith, e, h)) in grind (arith, e, tail)

-- ---- full logs

or_true : (b : Bool) → (b || true) ≡ true
or_true true = refl
or_true false = refl

-- no log of sites that stand is full
pub none_full : (ss : List Site) (xs : List SiteSlot) → AreSites ss xs → is_full ss ≡ false
none_full [] xs are = refl
none_full (s ∷ ss) [] are = absurd are
none_full (s ∷ ss) (x ∷ xs) are = let room = are.0.log.room in let tail = none_full ss xs are.1 in grind (arith, room, tail)

pub full_put : (ss : List Site) (a : List ℕ) (s t : Site) → find_site ss a ≡ Some s → t.name ≡ a → nat_lt most_bytes (log_size t.disk.records) ≡ true → is_full (put_site ss t) ≡ true
full_put [] a s t h name over = absurd cc
full_put (u ∷ ss) a s t h name over = go (is_name u.name a) refl (λ k. full_put ss a s t k name over)
  where
    test : is_name u.name t.name ≡ is_name u.name a
    test = ap (λ (n : List ℕ). is_name u.name n) name

    go : (b : Bool) → is_name u.name a ≡ b → (find_site ss a ≡ Some s → is_full (put_site ss t) ≡ true) → is_full (put_site (u ∷ ss) t) ≡ true
    go true e rest = let sites : put_site (u ∷ ss) t ≡ t ∷ ss = grind (arith, e, test) in ap is_full sites ∙ ap (λ (b : Bool). b || is_full ss) over
    go false e rest =
        let sites : put_site (u ∷ ss) t ≡ u ∷ put_site ss t = grind (arith, e, test) in
        let tail = rest (grind (arith, e, h)) in
        ap is_full sites ∙ ap (λ (b : Bool). nat_lt most_bytes (log_size u.disk.records) || b) tail ∙ or_true (nat_lt most_bytes (log_size u.disk.records))
