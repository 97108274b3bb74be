-- A node of a deployment in the run that it is.
use Rattle.std.proofs.Common.{◌≡◌, ◌==◌, ◌++◌, ℕ, Bool, true, false, refl, ap, sym, ◌∙◌, subst, arith, Option, Some, None, List, [], ◌∷◌, inl, inr}
use Rattle.std.specs.Prelude.{◌||◌}
use Rattle.std.proofs.lemmas.Bool.Decides.{nat_tests}
use Rattle.tp_names.specs.declared.identifiers.Aaid.{Aaid}
use Rattle.tp_model.specs.World.{World, Node, number_of, find_node}
use Rattle.tp_model.specs.Promises.{IsIn, IsOf}
use Rattle.tp_deployments.specs.Deployments.{Deed, Place, IsAmong, AreArranged, has_number}
use Rattle.tp_deployments.specs.RunOf.{node_at, nodes_of}
use Rattle.tp_processes.specs.Deployed.{standing}

-- ---- what is said of the nodes of the run is said of those of the deployment

pub in_run : (qs : List Place) (ds : List Deed) (w : World) (x : Node) → w.nodes ≡ nodes_of qs ds → IsIn (standing qs ds) x → IsIn w x
in_run qs ds w x same here = ap (λ (ns : List Node). find_node ns (number_of x)) same ∙ here

pub of_run : (qs : List Place) (ds : List Deed) (w : World) (t : Aaid) (x : Node) → w.nodes ≡ nodes_of qs ds → IsOf (standing qs ds) t x → IsOf w t x
of_run qs ds w t x same is = record { here = in_run qs ds w x same is.here; of_tree = is.of_tree }

-- ---- each stands where its place is

skip : (ns : List Node) (y : Node) (n : ℕ) → (number_of y == n) ≡ false → find_node (ns ++ y ∷ []) n ≡ find_node ns n
skip [] y n other = rw (other, find_node) refl
skip (x ∷ ns) y n other = go (number_of x == n) refl (skip ns y n other)
  where
    go : (b : Bool) → (number_of x == n) ≡ b → find_node (ns ++ y ∷ []) n ≡ find_node ns n → find_node ((x ∷ ns) ++ y ∷ []) n ≡ find_node (x ∷ ns) n
    go true i rest = rw (i, find_node) refl
    go false i rest = rw (i, find_node) rest

find_last : (ns : List Node) (y : Node) (n : ℕ) → find_node ns n ≡ None → (number_of y == n) ≡ true → find_node (ns ++ y ∷ []) n ≡ Some y
find_last [] y n none here = rw (here, find_node) refl
find_last (x ∷ ns) y n none here = go (number_of x == n) refl none (λ rest. find_last ns y n rest here)
  where
    go : (b : Bool) → (number_of x == n) ≡ b → find_node (x ∷ ns) n ≡ None → (find_node ns n ≡ None → find_node (ns ++ y ∷ []) n ≡ Some y) → find_node ((x ∷ ns) ++ y ∷ []) n ≡ Some y
    go true i nothing rest = absurd (let clash : Some x ≡ None = sym (ap (λ (b : Bool). elim b as (λ _. Option Node) [ true ↦ Some x | false ↦ find_node ns n ]) i) ∙ nothing in cc (clash))
    go false i nothing rest = rw (i, find_node) (rest (sym (ap (λ (b : Bool). elim b as (λ _. Option Node) [ true ↦ Some x | false ↦ find_node ns n ]) i) ∙ nothing))

none_so : (qs : List Place) (ds : List Deed) (n : ℕ) → has_number qs n ≡ false → find_node (nodes_of qs ds) n ≡ None
none_so [] ds n none = refl
none_so (q ∷ qs) ds n none = go (q.addr.node == n) refl none (λ rest. none_so qs ds n rest)
  where
    go : (b : Bool) → (q.addr.node == n) ≡ b → (b || has_number qs n) ≡ false → (has_number qs n ≡ false → find_node (nodes_of qs ds) n ≡ None) → find_node (nodes_of (q ∷ qs) ds) n ≡ None
    go true i h rest = absurd (cc (h))
    go false i h rest = skip (nodes_of qs ds) (node_at ds q) n i ∙ rest h

its_number : (qs : List Place) (q : Place) → IsAmong q qs → has_number qs q.addr.node ≡ true
its_number [] q among = absurd among
its_number (p ∷ qs) q (inl here) = let itself : (p.addr.node == q.addr.node) ≡ true = subst (λ (r : Place). (p.addr.node == r.addr.node) ≡ true) here (grind (arith, nat_tests)) in ap (λ (b : Bool). b || has_number qs q.addr.node) itself
its_number (p ∷ qs) q (inr more) = go (p.addr.node == q.addr.node) (its_number qs q more)
  where
    go : (b : Bool) → has_number qs q.addr.node ≡ true → (b || has_number qs q.addr.node) ≡ true
    go true rest = refl
    go false rest = rest

pub found_there : (qs : List Place) (ds : List Deed) (q : Place) → AreArranged qs → IsAmong q qs → find_node (nodes_of qs ds) q.addr.node ≡ Some (node_at ds q)
found_there [] ds q arr among = absurd among
found_there (p ∷ qs) ds q arr (inl here) =
    subst (λ (r : Place). find_node (nodes_of (p ∷ qs) ds) r.addr.node ≡ Some (node_at ds r)) here
    (find_last (nodes_of qs ds) (node_at ds p) p.addr.node (none_so qs ds p.addr.node arr.0) (grind (arith, nat_tests)))
found_there (p ∷ qs) ds q arr (inr more) = skip (nodes_of qs ds) (node_at ds p) q.addr.node (apart (p.addr.node == q.addr.node) refl) ∙ found_there qs ds q arr.2 more
  where
    apart : (b : Bool) → (p.addr.node == q.addr.node) ≡ b → (p.addr.node == q.addr.node) ≡ false
    apart false i = i
    apart true i = absurd (let same : q.addr.node ≡ p.addr.node = grind (arith, nat_tests, i) in let on : has_number qs p.addr.node ≡ true = ap (has_number qs) (sym same) ∙ its_number qs q more in cc (on, arr.0))
