-- A table as the list of its keys and values: what the table's calls do is done to the list.
use Rattle.std.proofs.Common.{◌≡◌, ℕ, suc, Bool, true, false, cond, Some, List, [], ◌∷◌, length, map, refl, ap}
use Rattle.std.specs.List.{AllByRecursion}
use Rattle.std.specs.List.Sorted.{IsStrictlySortedBy}
use Rattle.std.specs.declared.cmp.Ordering.{Ordering}
use Rattle.std.specs.declared.cmp.Ordering.TheVariants.{Less, Equal, Greater}
use Rattle.std.specs.Ordering.{match_ordering}
use Rattle.std.specs.Option.{option_map}
use Rattle.std.specs.Map.{keys_of, lookup, remove_entry}
use Rattle.std.specs.BTreeMap.{insert_entry}

module _ {K V X Y : Type 0} (f : K → X) (g : V → Y) where
  abbrev pub shown : List (K × V) → List (X × Y)
  shown es = map (λ e. (f e.0, g e.1)) es

  pub shown_length : (es : List (K × V)) → length (shown es) ≡ length es
  shown_length [] = refl
  shown_length (e ∷ es) = ap (λ (n : ℕ). suc n) (shown_length es)

  pub shown_keys : (es : List (K × V)) → keys_of (shown es) ≡ map f (keys_of es)
  shown_keys [] = refl
  shown_keys (e ∷ es) = ap (λ (l : List X). f e.0 ∷ l) (shown_keys es)

  pub shown_value : (test : X → Bool) (es : List (K × V)) → lookup test (shown es) ≡ option_map g (lookup (λ k. test (f k)) es)
  shown_value test [] = refl
  shown_value test (e ∷ es) = go (test (f e.0)) (shown_value test es)
    where
      go : (t : Bool) → lookup test (shown es) ≡ option_map g (lookup (λ k. test (f k)) es) → cond t (Some (g e.1)) (lookup test (shown es)) ≡ option_map g (cond t (Some e.1) (lookup (λ k. test (f k)) es))
      go true later = refl
      go false later = later

  pub shown_without : (test : X → Bool) (es : List (K × V)) → shown (remove_entry (λ k. test (f k)) es) ≡ remove_entry test (shown es)
  shown_without test [] = refl
  shown_without test (e ∷ es) = go (test (f e.0)) (shown_without test es)
    where
      go : (t : Bool) → shown (remove_entry (λ k. test (f k)) es) ≡ remove_entry test (shown es)
          → shown (cond t es (e ∷ remove_entry (λ k. test (f k)) es)) ≡ cond t (shown es) ((f e.0, g e.1) ∷ remove_entry test (shown es))
      go true later = refl
      go false later = ap (λ (l : List (X × Y)). (f e.0, g e.1) ∷ l) later

  pub shown_put : (compare : X → X → Ordering) (es : List (K × V)) (k : K) (v : V)
      → shown (insert_entry (λ x y. compare (f x) (f y)) es k v) ≡ insert_entry compare (shown es) (f k) (g v)
  shown_put compare [] k v = refl
  shown_put compare (e ∷ es) k v = go (compare (f k) (f e.0)) (shown_put compare es k v)
    where
      go : (r : Ordering) → shown (insert_entry (λ x y. compare (f x) (f y)) es k v) ≡ insert_entry compare (shown es) (f k) (g v)
          → shown (match_ordering r ((k, v) ∷ e ∷ es) ((e.0, v) ∷ es) (e ∷ insert_entry (λ x y. compare (f x) (f y)) es k v))
          ≡ match_ordering r ((f k, g v) ∷ (f e.0, g e.1) ∷ shown es) ((f e.0, g v) ∷ shown es) ((f e.0, g e.1) ∷ insert_entry compare (shown es) (f k) (g v))
      go Less later = refl
      go Equal later = refl
      go Greater later = ap (λ (l : List (X × Y)). (f e.0, g e.1) ∷ l) later

  all_shown : (P : X → Type 0) (ks : List K) → AllByRecursion (λ k. P (f k)) ks → AllByRecursion P (map f ks)
  all_shown P [] all = tt
  all_shown P (k ∷ ks) all = (all.0, all_shown P ks all.1)

  pub shown_in_order : (compare : X → X → Ordering) (ks : List K) → IsStrictlySortedBy (λ x y. compare (f x) (f y)) ks → IsStrictlySortedBy compare (map f ks)
  unfolding IsStrictlySortedBy
  shown_in_order compare [] sorted = tt
  shown_in_order compare (k ∷ ks) sorted = (all_shown (λ y. compare (f k) y ≡ Less) ks sorted.0, shown_in_order compare ks sorted.1)
