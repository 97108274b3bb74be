-- What the calls of the table of a content say of the content.
use Rattle.std.proofs.Common.{◌≡◌, ℕ, zero, suc, Vec, Option, Some, List, [], ◌∷◌, map, get_or, sym, ap, subst, ◌∙◌}
use Rattle.std.specs.declared.alloc.Global.{Global}
use Rattle.std.specs.List.{slice_get}
use Rattle.std.specs.List.Sorted.{IsStrictlySortedBy}
use Rattle.std.specs.Option.{option_map}
use Rattle.std.specs.Ordering.{is_eq}
use Rattle.std.specs.Map.{keys_of, lookup, remove_entry}
use Rattle.std.specs.BTreeMap.{insert_entry}
use Rattle.tp_bound.specs.Content.{Content, compare, Ascends, value_of, put, without}
use Rattle.tp_bound.proofs.Shown.{shown, shown_keys, shown_value, shown_without, shown_put, shown_in_order}

abbrev pub Bytes : Type 0
Bytes = Vec ℕ Global

abbrev pub items : Bytes → List ℕ
items v = v.items

abbrev pub content_of : List (Bytes × Bytes) → Content
content_of es = shown items items es

pub value_is : (es : List (Bytes × Bytes)) (key : List ℕ) (found : Option Bytes) → found ≡ lookup (λ k. is_eq (compare key (items k))) es
    → value_of (content_of es) key ≡ option_map items found
value_is es key found is = shown_value items items (λ k. is_eq (compare key k)) es ∙ ap (option_map items) (sym is)

pub ascends : (es : List (Bytes × Bytes)) → IsStrictlySortedBy (λ x y. compare (items x) (items y)) (keys_of es) → Ascends (content_of es)
ascends es sorted = subst (λ (ks : List (List ℕ)). IsStrictlySortedBy compare ks) (sym (shown_keys items items es)) (shown_in_order items items compare (keys_of es) sorted)

pub taken_out : (es new : List (Bytes × Bytes)) (key : List ℕ) → new ≡ remove_entry (λ k. is_eq (compare key (items k))) es → content_of new ≡ without (content_of es) key
taken_out es new key is = ap content_of is ∙ shown_without items items (λ k. is_eq (compare key k)) es

pub added : (es new : List (Bytes × Bytes)) (key value : Bytes) → new ≡ insert_entry (λ x y. compare (items x) (items y)) es key value
    → content_of new ≡ put (content_of es) (items key) (items value)
added es new key value is = ap content_of is ∙ shown_put items items compare es key value

item_at : (ks : List Bytes) (i : ℕ) (k : Bytes) → Some k ≡ slice_get ks i → items k ≡ get_or (map items ks) i []
item_at [] i k is = absurd cc
item_at (x ∷ ks) zero k is = let same : k ≡ x = cc in ap items same
item_at (x ∷ ks) (suc i) k is = item_at ks i k is

pub key_is : (es : List (Bytes × Bytes)) (i : ℕ) (k : Bytes) → Some k ≡ slice_get (keys_of es) i → items k ≡ get_or (keys_of (content_of es)) i []
key_is es i k is = item_at (keys_of es) i k is ∙ ap (λ (l : List (List ℕ)). get_or l i []) (sym (shown_keys items items es))
