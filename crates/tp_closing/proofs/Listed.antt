-- The trees that the nodes of a run began are the trees of the run, each once.
use Rattle.std.proofs.Common.{◌≡◌, ◌≤◌, ◌+◌, ◌==◌, ◌++◌, inl, inr, ℕ, zero, suc, Bool, true, false, cond, refl, ap, sym, ◌∙◌, subst, arith, Option, Some, None, List, [], ◌∷◌, append_assoc, append-nil}
use Rattle.std.specs.Prelude.{◌||◌}
use Rattle.std.proofs.lemmas.Bool.Decides.{nat_tests}
use Rattle.tp_names.specs.declared.identifiers.Aaid.{Aaid}
use Rattle.tp_names.specs.Same.{is_name}
use Rattle.tp_model.specs.Happenings.{Happening, run}
use Rattle.tp_model.specs.World.{Node, number_of, site_of, find_node}
use Rattle.tp_model.specs.Promises.{IsIn, IsOf, is_root}
use Rattle.tp_histories.specs.Members.{has_taken_begin, IsOnce}
use Rattle.tp_histories.proofs.worlds.Nodes.{find_is, find_append, find_behind}
use Rattle.tp_histories.proofs.worlds.Starts.{all_legal}
use Rattle.tp_histories.proofs.worlds.Good.{good_run}
use Rattle.tp_histories.proofs.worlds.Unique.{unique_run}
use Rattle.tp_histories.proofs.worlds.TreeMembers.{own_untaken}
use Rattle.tp_steps.proofs.lemmas.Equality.{and_right}
use Rattle.tp_outcomes.specs.Starting.{starts, times_in}
use Rattle.tp_outcomes.proofs.Starting.{times_append, start_member, start_once, own_start, start_drew}
use Rattle.tp_outcomes.proofs.TreesListed.{listed_once}
use Rattle.tp_deployments.specs.Deployments.{Deed, Place, has_number, IsAmong, AreArranged}
use Rattle.tp_deployments.specs.RunOf.{node_at, nodes_of}
use Rattle.tp_closing.specs.Closing.{trees_begun}

abbrev begun_by : Aaid → Option Node → ℕ
begun_by t None = 0
begun_by t (Some x) = times_in t (starts x.origin x.history)

-- ---- the trees of a run, by the node of their number

root_number : (t : Aaid) (x : Node) → is_root t x ≡ true → t.mark.node ≡ number_of x
root_number t x root = let k = and_right (is_name t.owner (site_of x)) (t.mark.node == number_of x) root in grind (arith, nat_tests, k)

is_none : (n : ℕ) → (suc 0 ≤ n → ⊥) → n ≡ 0
is_none zero off = refl
is_none (suc n) off = absurd (off (omega arith))

is_one : (n : ℕ) → suc 0 ≤ n → n ≤ 1 → n ≡ 1
is_one n a b = omega (arith, a, b)

-- a node that is the tree's root began it
root_began : (es : List Happening) (t : Aaid) (x : Node) → IsOf (run es) t x → is_root t x ≡ true → suc 0 ≤ times_in t (starts x.origin x.history)
root_began es t x of root = elim (own_start x.origin x.superior x.history t ((good_run es).fresh (number_of x) x of.here) (all_legal es x of.here) once of.of_tree) [
  | inl i ↦ (let off : has_taken_begin t x.history ≡ false = own_untaken x.origin t x.history once (grind (arith, nat_tests, number)) in absurd (cc (i, off)))
  | inr n ↦ n
]
  where
    once : IsOnce x.origin x.history
    once = (unique_run es).once (number_of x) x of.here

    number : t.mark.node ≡ number_of x
    number = root_number t x root

listed_by : (es : List Happening) (t : Aaid) → times_in t (run es).trees ≡ begun_by t (find_node (run es).nodes t.mark.node)
listed_by es t = go (find_node (run es).nodes t.mark.node) refl
  where
    found : (o : Option Node) → find_node (run es).nodes t.mark.node ≡ o → suc 0 ≤ times_in t (run es).trees → (x : Node) × (o ≡ Some x) × (suc 0 ≤ times_in t (starts x.origin x.history))
    found o i n =
        let r = (listed_once es).rooted t n in
        (r.0, sym i ∙ ap (find_node (run es).nodes) (root_number t r.0 r.2) ∙ r.1.here, root_began es t r.0 r.1 r.2)

    at : (x : Node) → find_node (run es).nodes t.mark.node ≡ Some x → (k : ℕ) → times_in t (starts x.origin x.history) ≡ k → times_in t (run es).trees ≡ k
    at x i zero j = is_none (times_in t (run es).trees) (λ n.
        let f = found (Some x) i n in
        let same : Some x ≡ Some f.0 = f.1 in
        let node : x ≡ f.0 = cc (same) in
        let some : suc 0 ≤ times_in t (starts x.origin x.history) = subst (λ (y : Node). suc 0 ≤ times_in t (starts y.origin y.history)) (sym node) f.2 in
        omega (arith, some, j))
    at x i (suc k) j =
        let m : suc 0 ≤ times_in t (starts x.origin x.history) = omega (arith, j) in
        let number : number_of x ≡ t.mark.node = number_found x i in
        let here : IsIn (run es) x = ap (find_node (run es).nodes) number ∙ i in
        let most : times_in t (starts x.origin x.history) ≤ 1 = start_once x.origin x.superior x.history t ((good_run es).fresh (number_of x) x here) (all_legal es x here) ((unique_run es).once (number_of x) x here) in
        (listed_once es).once t x (record { here = here; of_tree = start_member x.origin x.superior x.history t (all_legal es x here) m }) ∙ sym (is_one (times_in t (starts x.origin x.history)) m most) ∙ j
      where
        number_found : (x : Node) → find_node (run es).nodes t.mark.node ≡ Some x → number_of x ≡ t.mark.node
        number_found x i = find_is (run es).nodes t.mark.node x i

    go : (o : Option Node) → find_node (run es).nodes t.mark.node ≡ o → times_in t (run es).trees ≡ begun_by t o
    go None i = is_none (times_in t (run es).trees) (λ n. let f = found None i n in let off = f.1 in cc (off))
    go (Some x) i = at x i (times_in t (starts x.origin x.history)) refl

-- ---- the trees that the nodes of places began

or_false : (a b : Bool) → (a || b) ≡ false → (a ≡ false) × (b ≡ false)
or_false a b h = grind (arith, h)

find_none : (qs : List Place) (ds : List Deed) (n : ℕ) → has_number qs n ≡ false → find_node (nodes_of qs ds) n ≡ None
find_none [] ds n h = refl
find_none (q ∷ qs) ds n h =
    let p = or_false (q.addr.node == n) (has_number qs n) h in
    find_behind (nodes_of qs ds) (node_at ds q ∷ []) n (find_none qs ds n p.1) ∙ grind (arith, p.0)

begun_append : (ns ms : List Node) → trees_begun (ns ++ ms) ≡ trees_begun ns ++ trees_begun ms
begun_append [] ms = refl
begun_append (n ∷ ns) ms = ap (λ (l : List Aaid). starts n.origin n.history ++ l) (begun_append ns ms) ∙ sym (append_assoc (starts n.origin n.history) (trees_begun ns) (trees_begun ms))

-- no node began a tree with the number of another
abbrev pub BeginOwn : List Place → List Deed → Aaid → Type 0
BeginOwn qs ds t = (q : Place) → IsAmong q qs → suc 0 ≤ times_in t (starts (node_at ds q).origin (node_at ds q).history) → t.mark.node ≡ q.addr.node

begun_times : (qs : List Place) (ds : List Deed) (t : Aaid) → AreArranged qs → BeginOwn qs ds t → times_in t (trees_begun (nodes_of qs ds)) ≡ begun_by t (find_node (nodes_of qs ds) t.mark.node)
begun_times [] ds t arr own = refl
begun_times (q ∷ qs) ds t arr own =
    ap (times_in t) (begun_append (nodes_of qs ds) (x ∷ []))
    ∙ times_append t (trees_begun (nodes_of qs ds)) (trees_begun (x ∷ []))
    ∙ ap (λ (l : List Aaid). times_in t (trees_begun (nodes_of qs ds)) + times_in t l) (append-nil mine)
    ∙ ap (λ (n : ℕ). n + times_in t mine) (begun_times qs ds t arr.2 (λ p h. own p (inr h)))
    ∙ go (q.addr.node == t.mark.node) refl
    ∙ sym (ap (begun_by t) (find_append (nodes_of qs ds) x t.mark.node (find_none qs ds q.addr.node arr.0)))
  where
    x : Node
    x = node_at ds q

    mine : List Aaid
    mine = starts x.origin x.history

    go : (b : Bool) → (q.addr.node == t.mark.node) ≡ b → begun_by t (find_node (nodes_of qs ds) t.mark.node) + times_in t mine ≡ begun_by t (cond (number_of x == t.mark.node) (Some x) (find_node (nodes_of qs ds) t.mark.node))
    go true i =
        let number : q.addr.node ≡ t.mark.node = grind (arith, nat_tests, i) in
        let none : find_node (nodes_of qs ds) t.mark.node ≡ None = ap (find_node (nodes_of qs ds)) (sym number) ∙ find_none qs ds q.addr.node arr.0 in
        ap (λ (o : Option Node). begun_by t o + times_in t mine) none ∙ none_more (times_in t mine) ∙ sym (ap (λ (b : Bool). begun_by t (cond b (Some x) (find_node (nodes_of qs ds) t.mark.node))) i)
      where
        none_more : (n : ℕ) → 0 + n ≡ n
        none_more n = omega arith
    go false i =
        let zero_times : times_in t mine ≡ 0 = is_none (times_in t mine) (λ n. let same : t.mark.node ≡ q.addr.node = own q (inl refl) n in let on : (q.addr.node == t.mark.node) ≡ true = grind (arith, nat_tests, same) in cc (on, i)) in
        ap (λ (n : ℕ). begun_by t (find_node (nodes_of qs ds) t.mark.node) + n) zero_times
        ∙ no_more (begun_by t (find_node (nodes_of qs ds) t.mark.node))
        ∙ sym (ap (λ (b : Bool). begun_by t (cond b (Some x) (find_node (nodes_of qs ds) t.mark.node))) i)
      where
        no_more : (n : ℕ) → n + 0 ≡ n
        no_more n = omega arith

-- ---- the nodes are those of the run

has_its : (qs : List Place) (q : Place) → IsAmong q qs → has_number qs q.addr.node ≡ true
has_its [] q h = absurd h
has_its (r ∷ qs) q (inl same) = subst (λ (x : Place). has_number (r ∷ qs) x.addr.node ≡ true) same (grind (arith, nat_tests))
has_its (r ∷ qs) q (inr h) = grind (arith, has_its qs q h)

pub find_there : (qs : List Place) (ds : List Deed) (q : Place) → AreArranged qs → IsAmong q qs → find_node (nodes_of qs ds) q.addr.node ≡ Some (node_at ds q)
find_there [] ds q arr h = absurd h
find_there (r ∷ qs) ds q arr (inl same) =
    subst (λ (x : Place). find_node (nodes_of (r ∷ qs) ds) x.addr.node ≡ Some (node_at ds x)) same
    (find_behind (nodes_of qs ds) (node_at ds r ∷ []) r.addr.node (find_none qs ds r.addr.node arr.0) ∙ grind (arith, nat_tests))
find_there (r ∷ qs) ds q arr (inr h) =
    find_append (nodes_of qs ds) (node_at ds r) q.addr.node (find_none qs ds r.addr.node arr.0) ∙ ap (λ (b : Bool). cond b (Some (node_at ds r)) (find_node (nodes_of qs ds) q.addr.node)) (other (r.addr.node == q.addr.node) refl) ∙ find_there qs ds q arr.2 h
  where
    other : (b : Bool) → (r.addr.node == q.addr.node) ≡ b → (r.addr.node == q.addr.node) ≡ false
    other false i = i
    other true i = absurd (let same : r.addr.node ≡ q.addr.node = grind (arith, nat_tests, i) in let on : has_number qs r.addr.node ≡ true = ap (has_number qs) same ∙ has_its qs q h in cc (on, arr.0))

pub each_listed : (qs : List Place) (ds : List Deed) (es : List Happening) (t : Aaid) → AreArranged qs → (run es).nodes ≡ nodes_of qs ds → times_in t (trees_begun (nodes_of qs ds)) ≡ times_in t (run es).trees
each_listed qs ds es t arr same = begun_times qs ds t arr own ∙ ap (λ (ns : List Node). begun_by t (find_node ns t.mark.node)) (sym same) ∙ sym (listed_by es t)
  where
    own : BeginOwn qs ds t
    own q h n =
        let here : IsIn (run es) (node_at ds q) = ap (λ (ns : List Node). find_node ns q.addr.node) same ∙ find_there qs ds q arr h in
        (start_drew (node_at ds q).origin (node_at ds q).superior (node_at ds q).history t (all_legal es (node_at ds q) here) n).1
