-- A table by trees, after a value is put at its tree.
use Rattle.std.proofs.Common.{◌≡◌, ℕ, Bool, true, false, refl, ap, sym, subst, ◌∙◌, Option, Some, None, List, slice_get}
use Rattle.std.specs.Prelude.{cond, is_some}
use Rattle.std.specs.Map.{lookup, set_value, values_of}
use Rattle.std.specs.Option.{IsSome, option_map}
use Rattle.std.proofs.lemmas.Option.{slice_get-map}
use Rattle.std.proofs.lemmas.Map.{lookup-set_value}
use Rattle.indexmap.specs.IndexMap.{IndexMap, IsUnique, set_value_at}
use Rattle.indexmap.proofs.CallerLemmas.{updates-with_value_at}
use Rattle.tp_names.specs.declared.identifiers.Aaid.{Aaid}
use Rattle.tp_names.specs.Same.{is_aaid}
use Rattle.tp_names.proofs.Sames.{aaid_same}
use Rattle.tp_network.specs.TreeKey.{is_tree, tree_of, tree_same, tree_self, tree_either, tree_equivalence, value_at}
use Rattle.tp_network.specs.declared.tree_key.Tree.{Tree}

module _ {A : Type 0} where
  abbrev or_none : A → Option A → A
  or_none none o = elim o as (λ _. A) [ None ↦ none | Some v ↦ v ]

  -- it has changed there, and nowhere else
  pub put_in : (none : A) (f : Aaid → A → A) (old new : List (Tree × A)) (a : Aaid) (v : A) → v ≡ f a (value_at none old a)
      → ((q : Tree) → lookup (is_tree q) new ≡ cond (is_tree (tree_of a) q) (Some v) (lookup (is_tree q) old)) → (t : Aaid) → value_at none new t ≡ cond (is_aaid t a) (f t (value_at none old t)) (value_at none old t)
  put_in none f old new a v is at t = go (is_aaid t a) refl
    where
      there : (b : Bool) → is_aaid t a ≡ b → lookup (is_tree (tree_of t)) new ≡ cond b (Some v) (lookup (is_tree (tree_of t)) old)
      there b i = at (tree_of t) ∙ ap (λ (c : Bool). cond c (Some v) (lookup (is_tree (tree_of t)) old)) (tree_either (tree_of a) (tree_of t) ∙ i)

      go : (b : Bool) → is_aaid t a ≡ b → value_at none new t ≡ cond b (f t (value_at none old t)) (value_at none old t)
      go true i = ap (or_none none) (there true i) ∙ is ∙ ap (λ (u : Aaid). f u (value_at none old u)) (sym (aaid_same t a i))
      go false i = ap (or_none none) (there false i)

  -- a value that is written where there was one
  pub written : (es new : List (Tree × A)) (a : Tree) (p q : A) → new ≡ set_value (is_tree a) es q → Some p ≡ lookup (is_tree a) es → (k : Tree) → lookup (is_tree k) new ≡ cond (is_tree a k) (Some q) (lookup (is_tree k) es)
  written es new a p q is there k =
      ap (λ (l : List (Tree × A)). lookup (is_tree k) l) is ∙ lookup-set_value tree_equivalence (is_tree a) (λ x y e. ap (λ z. is_tree z y) (tree_same a x e)) k q es (subst (λ (o : Option A). IsSome o) there refl)

  pub value_found : (none : A) (es : List (Tree × A)) (t : Aaid) (v : A) → Some v ≡ lookup (is_tree (tree_of t)) es → v ≡ value_at none es t
  value_found none es t v there = ap (or_none none) there

  -- ---- at a place

  -- the value of the tree that stands there
  pub value_there : (none : A) (es : List (Tree × A)) (a : Aaid) (k : Tree) (v : A) → is_aaid a k.aaid ≡ true → lookup (is_tree k) es ≡ Some v → v ≡ value_at none es a
  value_there none es a k v same found = ap (or_none none) (sym found ∙ ap (λ (q : Tree). lookup (is_tree q) es) (sym (tree_same (tree_of a) k same)))

  -- the tree that stands there, with its value
  pub stands : (none : A) (es : List (Tree × A)) (i : ℕ) (a : Aaid) (k : Tree) (v : A) → is_aaid a k.aaid ≡ true → Some (k, v) ≡ slice_get es i → lookup (is_tree k) es ≡ Some v → slice_get es i ≡ Some (tree_of a, value_at none es a)
  stands none es i a k v same at found =
      sym at ∙ ap (λ (q : Tree). Some (q, v)) (sym (tree_same (tree_of a) k same)) ∙ ap (λ (w : A). Some (tree_of a, w)) (value_there none es a k v same found)

  -- a value that is written there
  pub written_at : {S : Type 0} (none : A) (f : Aaid → A → A) (m : IndexMap Tree A S) (i : ℕ) (a : Aaid) (p v : A) → IsUnique is_tree m → slice_get m.entries i ≡ Some (tree_of a, value_at none m.entries a) → Some p ≡ slice_get (values_of m.entries) i → v ≡ f a p
      → (t : Aaid) → value_at none (set_value_at m.entries i v) t ≡ cond (is_aaid t a) (f t (value_at none m.entries t)) (value_at none m.entries t)
  written_at none f m i a p v unique at lent is t =
      let here : Some p ≡ Some (value_at none m.entries a) = lent ∙ slice_get-map (λ (e : Tree × A). e.1) m.entries i ∙ ap (option_map (λ (e : Tree × A). e.1)) at in
      let one : p ≡ value_at none m.entries a = cc (here) in
      put_in none f m.entries (set_value_at m.entries i v) a v (is ∙ ap (f a) one) (updates-with_value_at m i v tree_equivalence unique (tree_of a) (value_at none m.entries a) at).0 t

  -- ---- put at its tree

  -- the first value of a tree
  pub put_new : (none : A) (f : Aaid → A → A) (old new : List (Tree × A)) (a : Aaid) (v : A) → None ≡ lookup (is_tree (tree_of a)) old → v ≡ f a none
      → ((q : Tree) → lookup (is_tree q) new ≡ cond (is_tree (tree_of a) q) (Some v) (lookup (is_tree q) old)) → (t : Aaid) → value_at none new t ≡ cond (is_aaid t a) (f t (value_at none old t)) (value_at none old t)
  put_new none f old new a v missing is at = put_in none f old new a v (is ∙ ap (λ (o : Option A). f a (or_none none o)) missing) at

  -- another value of a tree that had one: what was put first does not count
  pub put_again : (none : A) (f : Aaid → A → A) (old mid new : List (Tree × A)) (a : Aaid) (p v w : A) → Some p ≡ lookup (is_tree (tree_of a)) old → w ≡ f a p
      → ((q : Tree) → lookup (is_tree q) mid ≡ cond (is_tree (tree_of a) q) (Some v) (lookup (is_tree q) old)) → ((t : Aaid) → value_at none new t ≡ cond (is_aaid t a) w (value_at none mid t))
      → (t : Aaid) → value_at none new t ≡ cond (is_aaid t a) (f t (value_at none old t)) (value_at none old t)
  put_again none f old mid new a p v w there is at again t =
      again t ∙ ap (λ (x : A). cond (is_aaid t a) w x) (put_in none (λ _ _. v) old mid a v refl at t) ∙ go (is_aaid t a) refl
    where
      go : (b : Bool) → is_aaid t a ≡ b → cond b w (cond b v (value_at none old t)) ≡ cond b (f t (value_at none old t)) (value_at none old t)
      go true i = is ∙ ap (f a) (value_found none old a p there) ∙ ap (λ (u : Aaid). f u (value_at none old u)) (sym (aaid_same t a i))
      go false i = refl

  -- the tree has a value then
  pub has_value : (old new : List (Tree × A)) (a : Aaid) (v : A) → ((q : Tree) → lookup (is_tree q) new ≡ cond (is_tree (tree_of a) q) (Some v) (lookup (is_tree q) old)) → is_some (lookup (is_tree (tree_of a)) new) ≡ true
  has_value old new a v at = ap is_some (at (tree_of a)) ∙ ap (λ (b : Bool). is_some (cond b (Some v) (lookup (is_tree (tree_of a)) old))) (tree_self (tree_of a))

  -- a value that is written where there was one
  pub written_over : (none : A) (es new : List (Tree × A)) (a : Aaid) (p v : A) → new ≡ set_value (is_tree (tree_of a)) es v → Some p ≡ lookup (is_tree (tree_of a)) es → (t : Aaid) → value_at none new t ≡ cond (is_aaid t a) v (value_at none es t)
  written_over none es new a p v is there = put_in none (λ _ _. v) es new a v refl (written es new (tree_of a) p v is there)
