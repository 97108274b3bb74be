-- The nodes of a list of places: found by their numbers, and put.
use Rattle.std.proofs.Common.{◌≡◌, ◌==◌, ◌++◌, ℕ, Bool, true, false, cond, refl, ap, sym, ◌∙◌, subst, arith, Some, None, List, [], ◌∷◌, inl, inr}
use Rattle.std.specs.Prelude.{◌||◌}
use Rattle.std.proofs.lemmas.Bool.Decides.{nat_tests}
use Rattle.tp_model.specs.World.{Node, number_of, find_node, put_node}
use Rattle.tp_histories.proofs.worlds.Nodes.{find_append, find_behind, put_behind, put_first}
use Rattle.tp_deployments.specs.Deployments.{Deed, Place, has_number, IsAmong, AreArranged}
use Rattle.tp_deployments.specs.RunOf.{node_at, nodes_of}

-- ---- the nodes of places

number_is : (ds : List Deed) (q : Place) → number_of (node_at ds q) ≡ q.addr.node
number_is ds q = refl

or_false : (a b : Bool) → (a || b) ≡ false → (a ≡ false) × (b ≡ false)
or_false a b h = grind (arith, h)

pub find_none : (qs : List Place) (ds : List Deed) (n : ℕ) → has_number qs n ≡ false → find_node (nodes_of qs ds) n ≡ None
find_none [] ds n h = refl
find_none (q ∷ qs) ds n h =
    let p = or_false (q.addr.node == n) (has_number qs n) h in
    find_behind (nodes_of qs ds) (node_at ds q ∷ []) n (find_none qs ds n p.1) ∙ grind (arith, p.0)

pub has_its : (qs : List Place) (q : Place) → IsAmong q qs → has_number qs q.addr.node ≡ true
has_its [] q h = absurd h
has_its (r ∷ qs) q (inl same) = subst (λ (x : Place). has_number (r ∷ qs) x.addr.node ≡ true) same (grind (arith, nat_tests))
has_its (r ∷ qs) q (inr h) = grind (arith, has_its qs q h)

pub find_there : (qs : List Place) (ds : List Deed) (q : Place) → AreArranged qs → IsAmong q qs → find_node (nodes_of qs ds) q.addr.node ≡ Some (node_at ds q)
find_there [] ds q arr h = absurd h
find_there (r ∷ qs) ds q arr (inl same) =
    subst (λ (x : Place). find_node (nodes_of (r ∷ qs) ds) x.addr.node ≡ Some (node_at ds x)) same
    (find_behind (nodes_of qs ds) (node_at ds r ∷ []) r.addr.node (find_none qs ds r.addr.node arr.0) ∙ grind (arith, nat_tests))
find_there (r ∷ qs) ds q arr (inr h) =
    find_append (nodes_of qs ds) (node_at ds r) q.addr.node (find_none qs ds r.addr.node arr.0) ∙ ap (λ (b : Bool). cond b (Some (node_at ds r)) (find_node (nodes_of qs ds) q.addr.node)) (other (r.addr.node == q.addr.node) refl) ∙ find_there qs ds q arr.2 h
  where
    other : (b : Bool) → (r.addr.node == q.addr.node) ≡ b → (r.addr.node == q.addr.node) ≡ false
    other false i = i
    other true i = absurd (let same : r.addr.node ≡ q.addr.node = grind (arith, nat_tests, i) in let on : has_number qs r.addr.node ≡ true = ap (has_number qs) same ∙ has_its qs q h in cc (on, arr.0))

-- ---- one node is another

put_other : (ns : List Node) (x y : Node) → (number_of x == number_of y) ≡ false → put_node (ns ++ x ∷ []) y ≡ put_node ns y ++ x ∷ []
put_other [] x y off = grind (arith, off)
put_other (z ∷ ns) x y off = grind (arith, put_other ns x y off)

pub put_there : (qs : List Place) (ds es : List Deed) (q : Place) → AreArranged qs → IsAmong q qs → ((r : Place) → IsAmong r qs → (r.addr.node == q.addr.node) ≡ false → node_at es r ≡ node_at ds r)
    → put_node (nodes_of qs ds) (node_at es q) ≡ nodes_of qs es
put_there [] ds es q arr h others = absurd h
put_there (r ∷ qs) ds es q arr (inl same) others =
    put_behind (nodes_of qs ds) (node_at ds r ∷ []) (node_at es q) (ap (find_node (nodes_of qs ds)) number ∙ find_none qs ds r.addr.node arr.0)
    ∙ ap (λ (l : List Node). nodes_of qs ds ++ l) (put_first (node_at ds r) (node_at es q) [] (sym number) ∙ ap (λ (x : Place). node_at es x ∷ []) (sym same))
    ∙ ap (λ (l : List Node). l ++ node_at es r ∷ []) (rest qs (λ s i. i) arr.2)
  where
    number : q.addr.node ≡ r.addr.node
    number = ap (λ (x : Place). x.addr.node) (sym same)

    apart : (s : Place) → IsAmong s qs → (b : Bool) → (s.addr.node == q.addr.node) ≡ b → (s.addr.node == q.addr.node) ≡ false
    apart s i false k = k
    apart s i true k = absurd (let n : s.addr.node ≡ q.addr.node = grind (arith, nat_tests, k) in let on : has_number qs r.addr.node ≡ true = ap (has_number qs) (sym (n ∙ number)) ∙ has_its qs s i in cc (on, arr.0))

    rest : (ps : List Place) → ((s : Place) → IsAmong s ps → IsAmong s qs) → AreArranged ps → nodes_of ps ds ≡ nodes_of ps es
    rest [] part a = refl
    rest (p ∷ ps) part a =
        ap (λ (l : List Node). l ++ node_at ds p ∷ []) (rest ps (λ s i. part s (inr i)) a.2)
        ∙ ap (λ (x : Node). nodes_of ps es ++ x ∷ []) (sym (others p (inr (part p (inl refl))) (apart p (part p (inl refl)) (p.addr.node == q.addr.node) refl)))
put_there (r ∷ qs) ds es q arr (inr h) others =
    put_other (nodes_of qs ds) (node_at ds r) (node_at es q) (other (r.addr.node == q.addr.node) refl)
    ∙ ap (λ (l : List Node). l ++ node_at ds r ∷ []) (put_there qs ds es q arr.2 h (λ s i off. others s (inr i) off))
    ∙ ap (λ (x : Node). nodes_of qs es ++ x ∷ []) (sym (others r (inl refl) (other (r.addr.node == q.addr.node) refl)))
  where
    other : (b : Bool) → (r.addr.node == q.addr.node) ≡ b → (r.addr.node == q.addr.node) ≡ false
    other false i = i
    other true i = absurd (let same : r.addr.node ≡ q.addr.node = grind (arith, nat_tests, i) in let on : has_number qs r.addr.node ≡ true = ap (has_number qs) same ∙ has_its qs q h in cc (on, arr.0))
