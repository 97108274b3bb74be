-- A body is compared byte by byte, as the definitions compare names.
use Rattle.std.proofs.Common.{◌≡◌, ℕ, List, [], ◌∷◌, refl, ap}
use Rattle.std.specs.Prelude.{nat_eq, ◌&&◌, ◌==◌}
use Rattle.std.specs.Cmp.Lexicographic.{pointwise}
use Rattle.tp_names.specs.Same.{is_name}

pub pointwise_is : (xs ys : List ℕ) → pointwise nat_eq xs ys ≡ is_name xs ys
pointwise_is [] [] = refl
pointwise_is [] (y ∷ ys) = refl
pointwise_is (x ∷ xs) [] = refl
pointwise_is (x ∷ xs) (y ∷ ys) = ap (λ b. (x == y) && b) (pointwise_is xs ys)
