-- The nodes after an entry: its node's parts took the step, and the others are what they were.
use Rattle.std.proofs.Common.{◌≡◌, ◌==◌, ℕ, Bool, true, false, refl, ap, sym, subst, ◌∙◌, Option, Some, List, [], ◌∷◌}
use Rattle.tp_model.specs.Parts.{Entry}
use Rattle.tp_model.specs.History.{digest}
use Rattle.tp_model.specs.Legal.{IsLegal}
use Rattle.tp_model.specs.World.{Node, number_of, find_node, put_node}
use Rattle.tp_network.specs.TreeSummary.{summary_after}
use Rattle.tp_world_sites.specs.Summary.{change_of}
use Rattle.tp_network.specs.Nodes.{IsChanged, AreChanged}
use Rattle.tp_world_sites.specs.Standing.{IsNode, AreNodes}
use Rattle.tp_network.specs.declared.tree_summary.TreeChange.{TreeChange}
use Rattle.tp_network.specs.declared.nodes.NodeSlot.{NodeSlot}

abbrev pub with_entry : Node → Entry → Node
with_entry n e = record n { history = e ∷ n.history }

abbrev pub change_by : Node → Entry → TreeChange
change_by n e = change_of (digest n.origin n.history) e (digest n.origin (e ∷ n.history))

pub node_entered : (n : Node) (e : Entry) (x y : NodeSlot) → IsLegal n.origin n.superior (e ∷ n.history) → IsNode n x → IsChanged (change_by n e) x y → IsNode (with_entry n e) y
node_entered n e x y l h s = record {
  addr = s.addr ∙ h.addr;
  superior = s.superior ∙ h.superior;
  version = h.version;
  fresh = h.fresh;
  legal = l;
  summaries = λ t. s.summaries t ∙ ap (summary_after t (change_by n e)) (h.summaries t);
}

abbrev SteppedAt : Bool → ℕ → TreeChange → NodeSlot → NodeSlot → List NodeSlot → List NodeSlot → Type 0
SteppedAt b k s x y xs ys = elim b as (λ _. Type 0) [ true ↦ IsChanged s x y × (ys ≡ xs) | false ↦ (y ≡ x) × AreChanged k s xs ys ]

pub nodes_stepped : (ns : List Node) (xs ys : List NodeSlot) (n m : Node) (s : TreeChange) → number_of m ≡ number_of n → ((x y : NodeSlot) → IsNode n x → IsChanged s x y → IsNode m y)
    → find_node ns (number_of n) ≡ Some n → AreNodes ns xs → AreChanged (number_of n) s xs ys → AreNodes (put_node ns m) ys
nodes_stepped [] xs ys n m s same f found h t = absurd cc
nodes_stepped (z ∷ ns) [] ys n m s same f found h t = absurd h
nodes_stepped (z ∷ ns) (x ∷ xs) [] n m s same f found h t = absurd t
nodes_stepped (z ∷ ns) (x ∷ xs) (y ∷ ys) n m s same f found h t =
    let k : ℕ = number_of n in
    let at : (x.addr.node == k) ≡ (number_of z == k) = ap (λ (a : ℕ). a == k) (ap (λ a. a.node) h.0.addr) in
    let put : (number_of z == number_of m) ≡ (number_of z == k) = ap (λ (a : ℕ). number_of z == a) same in
    subst (λ (b : Bool). AreNodes (elim b as (λ _. List Node) [ true ↦ m ∷ ns | false ↦ z ∷ put_node ns m ]) (y ∷ ys)) (sym put)
    (go (number_of z == k) found (subst (λ (b : Bool). SteppedAt b k s x y xs ys) at t) (λ e u. nodes_stepped ns xs ys n m s same f e h.1 u))
  where
    go : (b : Bool) → elim b as (λ _. Option Node) [ true ↦ Some z | false ↦ find_node ns (number_of n) ] ≡ Some n → SteppedAt b (number_of n) s x y xs ys
        → (find_node ns (number_of n) ≡ Some n → AreChanged (number_of n) s xs ys → AreNodes (put_node ns m) ys)
        → AreNodes (elim b as (λ _. List Node) [ true ↦ m ∷ ns | false ↦ z ∷ put_node ns m ]) (y ∷ ys)
    go true e u rest =
        let is : z ≡ n = cc in
        (f x y (subst (λ (v : Node). IsNode v x) is h.0) u.0, subst (λ (l : List NodeSlot). AreNodes ns l) (sym u.1) h.1)
    go false e u rest = (subst (λ (v : NodeSlot). IsNode z v) (sym u.0) h.0, rest e u.1)

pub nodes_entered : (ns : List Node) (xs ys : List NodeSlot) (n : Node) (e : Entry) → IsLegal n.origin n.superior (e ∷ n.history) → find_node ns (number_of n) ≡ Some n → AreNodes ns xs
    → AreChanged (number_of n) (change_by n e) xs ys → AreNodes (put_node ns (with_entry n e)) ys
nodes_entered ns xs ys n e l found h t = nodes_stepped ns xs ys n (with_entry n e) (change_by n e) refl (λ x y i u. node_entered n e x y l i u) found h t

-- the node found is the code's
pub legal_found : (ns : List Node) (xs : List NodeSlot) (k : ℕ) (n : Node) → AreNodes ns xs → find_node ns k ≡ Some n → IsLegal n.origin n.superior n.history
legal_found [] xs k n h f = absurd cc
legal_found (z ∷ ns) [] k n h f = absurd h
legal_found (z ∷ ns) (x ∷ xs) k n h f = go (number_of z == k) f (λ e. legal_found ns xs k n h.1 e)
  where
    go : (b : Bool) → elim b as (λ _. Option Node) [ true ↦ Some z | false ↦ find_node ns k ] ≡ Some n → (find_node ns k ≡ Some n → IsLegal n.origin n.superior n.history) → IsLegal n.origin n.superior n.history
    go true e rest = let is : z ≡ n = cc in subst (λ (v : Node). IsLegal v.origin v.superior v.history) is h.0.legal
    go false e rest = rest e
