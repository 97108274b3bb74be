-- A node that comes: its history, and the nodes with it after the others.
use Rattle.std.proofs.Common.{◌≡◌, ◌==◌, ◌&&◌, ◌++◌, ℕ, Bool, true, false, refl, ap, sym, ◌∙◌, arith, Option, Some, None, List, [], ◌∷◌}
use Rattle.std.specs.List.{AllByRecursion}
use Rattle.std.specs.Option.{is_some}
use Rattle.std.proofs.lemmas.Bool.Decides.{nat_tests}
use Rattle.tp_names.specs.declared.identifiers.Aaid.{Aaid}
use Rattle.tp_names.specs.declared.identifiers.Addr.{Addr}
use Rattle.tp_names.proofs.Sames.{both}
use Rattle.tp_model.specs.Events.{refusal, verdict, started}
use Rattle.tp_model.specs.Legal.{IsLegal}
use Rattle.tp_model.specs.World.{World, Node, Site, Frame, number_of, find_node, find_site}
use Rattle.tp_model.specs.Happenings.{new_node, with_node}
use Rattle.tp_network.specs.TreeSummary.{no_summary}
use Rattle.tp_world_sites.specs.Summary.{summary}
use Rattle.tp_network.specs.Nodes.{IsDeclared}
use Rattle.tp_world_sites.specs.Standing.{IsNode, AreNodes, RestStands, is_free, are_apart, is_placed}
use Rattle.tp_network.specs.declared.nodes.NodeSlot.{NodeSlot}
use Rattle.tp_world_sites.proofs.Found.{AreThere, each_placed}

new_legal : (s : List ℕ) (k boot : ℕ) (up : Option Addr) → IsLegal (new_node s k boot up).origin up (new_node s k boot up).history
unfolding refusal verdict started
new_legal s k boot up = record { start = refl; grown = (refl, refl, refl, tt) }

-- it had to do with no tree
new_summary : (s : List ℕ) (k boot : ℕ) (up : Option Addr) (t : Aaid) → summary (new_node s k boot up).origin t (new_node s k boot up).history ≡ no_summary
unfolding refusal verdict started
new_summary s k boot up t = refl

new_is : (s : List ℕ) (k boot : ℕ) (up : Option Addr) (x : NodeSlot) → IsDeclared (record { site = s; node = k }) up x → IsNode (new_node s k boot up) x
new_is s k boot up x d = record {
  addr = d.addr;
  superior = d.superior;
  version = refl;
  fresh = refl;
  legal = new_legal s k boot up;
  summaries = λ t. d.summaries t ∙ sym (new_summary s k boot up t);
}

nodes_behind : (ns : List Node) (xs : List NodeSlot) (n : Node) (x : NodeSlot) → AreNodes ns xs → IsNode n x → AreNodes (ns ++ n ∷ []) (xs ++ x ∷ [])
nodes_behind [] [] n x h i = (i, tt)
nodes_behind [] (y ∷ xs) n x h i = absurd h
nodes_behind (m ∷ ns) [] n x h i = absurd h
nodes_behind (m ∷ ns) (y ∷ xs) n x h i = (h.0, nodes_behind ns xs n x h.1 i)

pub nodes_declared : (ns : List Node) (xs : List NodeSlot) (s : List ℕ) (k boot : ℕ) (up : Option Addr) (x : NodeSlot) → AreNodes ns xs → IsDeclared (record { site = s; node = k }) up x
    → AreNodes (ns ++ new_node s k boot up ∷ []) (xs ++ x ∷ [])
nodes_declared ns xs s k boot up x h d = nodes_behind ns xs (new_node s k boot up) x h (new_is s k boot up x d)

-- ---- its number is new

free_behind : (k : ℕ) (ns : List Node) (n : Node) → is_free k ns ≡ true → (number_of n == k) ≡ false → is_free k (ns ++ n ∷ []) ≡ true
free_behind k [] n h e = grind (arith, e)
free_behind k (x ∷ ns) n h e = grind (arith, nat_tests, free_behind k ns n)

find_none : (x : Node) (ns : List Node) (k : ℕ) → find_node (x ∷ ns) k ≡ None → ((number_of x == k) ≡ false) × (find_node ns k ≡ None)
find_none x ns k h = go (number_of x == k) refl h
  where
    go : (b : Bool) → (number_of x == k) ≡ b → elim b as (λ _. Option Node) [ true ↦ Some x | false ↦ find_node ns k ] ≡ None → ((number_of x == k) ≡ false) × (find_node ns k ≡ None)
    go true e f = absurd cc
    go false e f = (e, f)

pub apart_behind : (ns : List Node) (n : Node) → are_apart ns ≡ true → find_node ns (number_of n) ≡ None → are_apart (ns ++ n ∷ []) ≡ true
apart_behind [] n h none = refl
apart_behind (x ∷ ns) n h none =
    let parts = both (is_free (number_of x) ns) (are_apart ns) h in
    let rest = find_none x ns (number_of n) none in
    let other : (number_of n == number_of x) ≡ false = grind (arith, nat_tests, rest.0) in
    ap (λ (b : Bool). b && are_apart (ns ++ n ∷ [])) (free_behind (number_of x) ns n parts.0 other) ∙ apart_behind ns n parts.1 rest.1

-- ---- it stands after the others

pub node_behind : (ns : List Node) (n : Node) (k : ℕ) → is_some (find_node ns k) ≡ true → is_some (find_node (ns ++ n ∷ []) k) ≡ true
node_behind [] n k h = absurd cc
node_behind (x ∷ ns) n k h = grind (arith, nat_tests, node_behind ns n k)

pub site_behind : (ss : List Site) (x : Site) (s : List ℕ) → is_some (find_site ss s) ≡ true → is_some (find_site (ss ++ x ∷ []) s) ≡ true
site_behind [] x s h = absurd cc
site_behind (y ∷ ss) x s h = grind (arith, site_behind ss x s)

placed_behind : (w : World) (ns : List Node) (n : Node) → AllByRecursion (λ z. is_placed w z ≡ true) ns → is_placed w n ≡ true → AllByRecursion (λ z. is_placed w z ≡ true) (ns ++ n ∷ [])
placed_behind w [] n h p = (p, tt)
placed_behind w (x ∷ ns) n h p = (h.0, placed_behind w ns n h.1 p)

abbrev pub with_sites : World → List Site → World
with_sites w ss = record w { sites = ss }

there_now : (w : World) (ss : List Site) (n : Node) → ((s : List ℕ) → is_some (find_site w.sites s) ≡ true → is_some (find_site ss s) ≡ true) → AreThere w (with_node (with_sites w ss) n)
there_now w ss n sites = record { nodes = λ k h. node_behind w.nodes n k h; sites = sites }

-- with those sites in the place of the world's
pub rest_declared : (w : World) (ss : List Site) (s : List ℕ) (k boot : ℕ) (up : Option Addr) (x : NodeSlot) (xs : List NodeSlot) (fs : List Frame) (ts : List Aaid)
    → ((t : List ℕ) → is_some (find_site w.sites t) ≡ true → is_some (find_site ss t) ≡ true) → find_node w.nodes k ≡ None
    → is_placed (with_node (with_sites w ss) (new_node s k boot up)) (new_node s k boot up) ≡ true
    → RestStands w xs fs ts → IsDeclared (record { site = s; node = k }) up x → RestStands (with_node (with_sites w ss) (new_node s k boot up)) (xs ++ x ∷ []) fs ts
rest_declared w ss s k boot up x xs fs ts sites none placed r d =
    let n : Node = new_node s k boot up in
    let v : World = with_node (with_sites w ss) n in
    record {
      nodes = nodes_declared w.nodes xs s k boot up x r.nodes d;
      apart = apart_behind w.nodes n r.apart none;
      placed = placed_behind v w.nodes n (each_placed w v w.nodes (there_now w ss n sites) r.placed) placed;
      frames = r.frames;
      few = r.few;
      trees = r.trees;
      undriven = r.undriven;
    }
