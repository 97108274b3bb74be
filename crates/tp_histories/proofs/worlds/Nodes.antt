-- Lists of nodes: finding, putting, and their order.
use Rattle.std.proofs.Common.{◌≡◌, ◌≤◌, ℕ, suc, Bool, true, false, cond, refl, ap, sym, ◌∙◌, arith, Option, Some, None, List, [], ◌∷◌, ◌++◌, ◌==◌}
use Rattle.std.proofs.lemmas.Bool.Decides.{nat_tests}
use Rattle.tp_model.specs.World.{Node, number_of, find_node, put_node}
use Rattle.tp_histories.specs.Worlds.{place, AreDistinct}

pub find_is : (ns : List Node) (n : ℕ) (x : Node) → find_node ns n ≡ Some x → number_of x ≡ n
find_is [] n x h = absurd cc
find_is (y ∷ ns) n x h = grind (arith, nat_tests, find_is ns n x)

pub find_put : (ns : List Node) (y old : Node) (m : ℕ) → find_node ns (number_of y) ≡ Some old
    → find_node (put_node ns y) m ≡ cond (number_of y == m) (Some y) (find_node ns m)
find_put [] y old m h = absurd cc
find_put (x ∷ ns) y old m h = grind (arith, nat_tests, find_put ns y old m)

pub find_append : (ns : List Node) (x : Node) (m : ℕ) → find_node ns (number_of x) ≡ None
    → find_node (ns ++ x ∷ []) m ≡ cond (number_of x == m) (Some x) (find_node ns m)
find_append [] x m h = grind (arith, nat_tests)
find_append (y ∷ ns) x m h = grind (arith, nat_tests, find_append ns x m)

pub find_behind : (ns more : List Node) (n : ℕ) → find_node ns n ≡ None → find_node (ns ++ more) n ≡ find_node more n
find_behind [] more n h = refl
find_behind (y ∷ ns) more n h = grind (arith, find_behind ns more n)

pub put_behind : (ns more : List Node) (y : Node) → find_node ns (number_of y) ≡ None → put_node (ns ++ more) y ≡ ns ++ put_node more y
put_behind [] more y h = refl
put_behind (x ∷ ns) more y h = grind (arith, put_behind ns more y)

pub find_first : (x : Node) (ns : List Node) → find_node (x ∷ ns) (number_of x) ≡ Some x
find_first x ns = grind (arith, nat_tests)

pub put_first : (x y : Node) (ns : List Node) → number_of x ≡ number_of y → put_node (x ∷ ns) y ≡ y ∷ ns
put_first x y ns h = grind (arith, nat_tests, h)

pub one_behind : (ns more : List Node) (x : Node) → (ns ++ x ∷ []) ++ more ≡ ns ++ x ∷ more
one_behind [] more x = refl
one_behind (y ∷ ns) more x = ap (λ (l : List Node). y ∷ l) (one_behind ns more x)

-- ---- the order of the declarations

pub place_put : (ns : List Node) (y : Node) (m : ℕ) → place (put_node ns y) m ≡ place ns m
place_put [] y m = refl
place_put (x ∷ ns) y m = grind (arith, nat_tests, place_put ns y m)

pub place_append : (ns : List Node) (x u : Node) (m : ℕ) → find_node ns m ≡ Some u → place (ns ++ x ∷ []) m ≡ place ns m
place_append [] x u m h = absurd cc
place_append (y ∷ ns) x u m h = grind (arith, nat_tests, place_append ns x u m)

pub place_last : (ns : List Node) (x u : Node) (m : ℕ) → find_node ns m ≡ Some u → find_node ns (number_of x) ≡ None → suc (place ns m) ≤ place (ns ++ x ∷ []) (number_of x)
place_last [] x u m h i = absurd cc
place_last (y ∷ ns) x u m h i = grind (arith, nat_tests, place_last ns x u m)

-- ---- one number, one node

pub distinct_append : (old ns : List Node) (x : Node) → AreDistinct old ns → find_node old (number_of x) ≡ None → find_node ns (number_of x) ≡ None → AreDistinct old (ns ++ x ∷ [])
distinct_append old [] x d h i = (h, tt)
distinct_append old (y ∷ ns) x d h i =
    let ne : (number_of y == number_of x) ≡ false = grind (arith, nat_tests) in
    let a : find_node (old ++ y ∷ []) (number_of x) ≡ None = find_behind old (y ∷ []) (number_of x) h ∙ grind (arith, ne) in
    let b : find_node ns (number_of x) ≡ None = grind (arith, ne, i) in
    (d.0, distinct_append (old ++ y ∷ []) ns x d.1 a b)

-- only which numbers are among the older nodes matters
pub distinct_over : (old now ns : List Node) → ((m : ℕ) → find_node old m ≡ None → find_node now m ≡ None) → AreDistinct old ns → AreDistinct now ns
distinct_over old now [] f d = tt
distinct_over old now (x ∷ ns) f d = (
  f (number_of x) d.0,
  distinct_over (old ++ x ∷ []) (now ++ x ∷ []) ns (λ m h. more m h (find_node old m) refl) d.1,
)
  where
    found_before : (xs : List Node) (m : ℕ) (u : Node) → find_node xs m ≡ Some u → find_node (xs ++ x ∷ []) m ≡ None → ⊥
    found_before [] m u i h = absurd cc
    found_before (y ∷ xs) m u i h = absurd (grind (arith, found_before xs m u))

    more : (m : ℕ) → find_node (old ++ x ∷ []) m ≡ None → (o : Option Node) → find_node old m ≡ o → find_node (now ++ x ∷ []) m ≡ None
    more m h None i =
        let rest : find_node (x ∷ []) m ≡ None = sym (find_behind old (x ∷ []) m i) ∙ h in
        find_behind now (x ∷ []) m (f m i) ∙ rest
    more m h (Some u) i = absurd (found_before old m u i h)

pub distinct_put : (old ns : List Node) (y : Node) → AreDistinct old ns → AreDistinct old (put_node ns y)
distinct_put old [] y d = tt
distinct_put old (x ∷ ns) y d = go (number_of x == number_of y) refl (distinct_put (old ++ x ∷ []) ns y d.1)
  where
    one : (xs : List Node) (m : ℕ) → number_of x ≡ number_of y → find_node (xs ++ x ∷ []) m ≡ None → find_node (xs ++ y ∷ []) m ≡ None
    one [] m same h = grind (arith, nat_tests, same, h)
    one (z ∷ xs) m same h = grind (arith, one xs m same)

    go : (b : Bool) → (number_of x == number_of y) ≡ b → AreDistinct (old ++ x ∷ []) (put_node ns y) → AreDistinct old (elim b [ true ↦ y ∷ ns | false ↦ x ∷ put_node ns y ])
    go true is rest =
        let same : number_of x ≡ number_of y = grind (arith, nat_tests) in
        (ap (find_node old) (sym same) ∙ d.0, distinct_over (old ++ x ∷ []) (old ++ y ∷ []) ns (λ m h. one old m same h) d.1)
    go false is rest = (d.0, rest)
