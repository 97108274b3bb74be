-- The test of two owners is equality, and so an equivalence.
use Rattle.std.specs.Prelude.{◌≡◌, ◌==◌, ◌&&◌, Bool, true, false}
use Rattle.std.specs.Cmp.{IsEquivalence, unsigned_Decides}
use Rattle.std.proofs.Common.{refl, sym, ◌∙◌, ap}
use Rattle.tp_names.proofs.Sames.{both, key_same, key_self}
use Rattle.tp_names.specs.Same.{is_key}
use Rattle.tp_logrec.specs.Order.{Owner, is_owner}

pub owner_same : (a b : Owner) → is_owner a b ≡ true → a ≡ b
owner_same a b e =
    let p = both (a.node == b.node) (is_key a.key b.key) e in
    ap (λ x. let w : Owner = record { node = x; key = a.key } in w) ((unsigned_Decides a.node b.node).0 p.0)
    ∙ ap (λ x. let w : Owner = record { node = b.node; key = x } in w) (key_same a.key b.key p.1)

pub owner_self : (a : Owner) → is_owner a a ≡ true
owner_self a = ap (λ t. t && is_key a.key a.key) ((unsigned_Decides a.node a.node).1 refl) ∙ key_self a.key

pub owner_either : (a b : Owner) → is_owner a b ≡ is_owner b a
owner_either a b = go (is_owner a b) (is_owner b a) refl refl
  where
    go : (x y : Bool) → is_owner a b ≡ x → is_owner b a ≡ y → is_owner a b ≡ is_owner b a
    go true y e f = ap (λ c. is_owner a c) (sym (owner_same a b e)) ∙ ap (λ c. is_owner c a) (owner_same a b e)
    go false true e f = ap (λ c. is_owner a c) (owner_same b a f) ∙ ap (λ c. is_owner c a) (sym (owner_same b a f))
    go false false e f = e ∙ sym f

pub owner_equivalence : IsEquivalence is_owner
owner_equivalence = record { refl = owner_self; symm = owner_either; congr = λ a b c e. ap (λ x. is_owner x c) (owner_same a b e) }
