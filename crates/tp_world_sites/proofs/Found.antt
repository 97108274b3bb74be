-- Nodes and sites of the definitions' world found, and put in one another's place.
use Rattle.std.proofs.Common.{◌≡◌, ◌==◌, ◌&&◌, ℕ, Bool, true, false, refl, ap, sym, ◌∙◌, arith, Option, Some, None, List, [], ◌∷◌}
use Rattle.std.specs.List.{AllByRecursion}
use Rattle.std.specs.Option.{is_some}
use Rattle.std.proofs.lemmas.Bool.Decides.{nat_tests}
use Rattle.tp_names.specs.declared.identifiers.Addr.{Addr}
use Rattle.tp_names.specs.Same.{is_name}
use Rattle.tp_names.proofs.Sames.{name_same, both}
use Rattle.tp_model.specs.Disk.{Disk}
use Rattle.tp_model.specs.World.{World, Node, Site, number_of, site_of, find_node, put_node, find_site, put_site, with_disk, is_node}
use Rattle.tp_world_sites.specs.Standing.{is_free, are_apart, is_placed}

pub find_is : (ns : List Node) (k : ℕ) (n : Node) → find_node ns k ≡ Some n → number_of n ≡ k
find_is [] k n h = absurd cc
find_is (x ∷ ns) k n h = grind (arith, nat_tests, find_is ns k n)

pub find_self : (ns : List Node) (k : ℕ) (n : Node) → find_node ns k ≡ Some n → find_node ns (number_of n) ≡ Some n
find_self ns k n h = ap (find_node ns) (find_is ns k n h) ∙ h

-- ---- a node in place of the one of its number

pub free_put : (k : ℕ) (ns : List Node) (m : Node) → is_free k (put_node ns m) ≡ is_free k ns
free_put k [] m = refl
free_put k (x ∷ ns) m = grind (arith, nat_tests, free_put k ns m)

pub apart_put : (ns : List Node) (m : Node) → are_apart (put_node ns m) ≡ are_apart ns
apart_put [] m = refl
apart_put (x ∷ ns) m = go (number_of x == number_of m) refl (free_put (number_of x) ns m) (apart_put ns m)
  where
    go : (b : Bool) → (number_of x == number_of m) ≡ b → is_free (number_of x) (put_node ns m) ≡ is_free (number_of x) ns → are_apart (put_node ns m) ≡ are_apart ns → are_apart (put_node (x ∷ ns) m) ≡ are_apart (x ∷ ns)
    go true e free rest = let same : number_of x ≡ number_of m = grind (arith, nat_tests, e) in grind (arith, e, same)
    go false e free rest = grind (arith, e, free, rest)

pub there_put : (ns : List Node) (m : Node) (k : ℕ) → is_some (find_node (put_node ns m) k) ≡ is_some (find_node ns k)
there_put [] m k = refl
there_put (x ∷ ns) m k = grind (arith, nat_tests, there_put ns m k)

pub node_there : (w : World) (k : ℕ) → is_node w k ≡ is_some (find_node w.nodes k)
node_there w k = go (find_node w.nodes k)
  where
    go : (o : Option Node) → elim o as (λ _. Bool) [ None ↦ false | Some x ↦ true ] ≡ is_some o
    go None = refl
    go (Some x) = refl

-- ---- a site in place of the one of its name

pub put_site_there : (ss : List Site) (y : Site) (t : List ℕ) → is_some (find_site (put_site ss y) t) ≡ is_some (find_site ss t)
put_site_there [] y t = refl
put_site_there (x ∷ ss) y t = go (is_name x.name y.name) refl (put_site_there ss y t)
  where
    go : (b : Bool) → is_name x.name y.name ≡ b → is_some (find_site (put_site ss y) t) ≡ is_some (find_site ss t) → is_some (find_site (put_site (x ∷ ss) y) t) ≡ is_some (find_site (x ∷ ss) t)
    go true e rest = let same : x.name ≡ y.name = name_same x.name y.name e in grind (arith, e, same)
    go false e rest = grind (arith, e, rest)

pub disk_there : (ss : List Site) (s : List ℕ) (f : Disk → Disk) (t : List ℕ) → is_some (find_site (with_disk ss s f) t) ≡ is_some (find_site ss t)
disk_there ss s f t = go (find_site ss s)
  where
    go : (o : Option Site) → is_some (find_site (elim o as (λ _. List Site) [ None ↦ ss | Some x ↦ put_site ss (record x { disk = f x.disk }) ]) t) ≡ is_some (find_site ss t)
    go None = refl
    go (Some x) = put_site_there ss (record x { disk = f x.disk }) t

-- ---- where nodes stand

abbrev has_superior : World → Option Addr → Bool
has_superior w up = elim up [ None ↦ true | Some a ↦ is_node w a.node ]

abbrev has_site : World → List ℕ → Bool
has_site w s = elim (find_site w.sites s) [ None ↦ false | Some x ↦ true ]

site_there : (w : World) (s : List ℕ) → has_site w s ≡ is_some (find_site w.sites s)
site_there w s = go (find_site w.sites s)
  where
    go : (o : Option Site) → elim o as (λ _. Bool) [ None ↦ false | Some x ↦ true ] ≡ is_some o
    go None = refl
    go (Some x) = refl

-- the nodes and the sites of the one world are there in the other
pub record AreThere (w v : World) : Type 0 where
  pub nodes : (k : ℕ) → is_some (find_node w.nodes k) ≡ true → is_some (find_node v.nodes k) ≡ true
  pub sites : (s : List ℕ) → is_some (find_site w.sites s) ≡ true → is_some (find_site v.sites s) ≡ true

superior_there : (w v : World) (up : Option Addr) → AreThere w v → has_superior w up ≡ true → has_superior v up ≡ true
superior_there w v None t h = refl
superior_there w v (Some a) t h = node_there v a.node ∙ t.nodes a.node (sym (node_there w a.node) ∙ h)

pub placed_there : (w v : World) (n : Node) → AreThere w v → is_placed w n ≡ true → is_placed v n ≡ true
placed_there w v n t h =
    let parts = both (has_site w (site_of n)) (has_superior w n.superior) h in
    let site : has_site v (site_of n) ≡ true = site_there v (site_of n) ∙ t.sites (site_of n) (sym (site_there w (site_of n)) ∙ parts.0) in
    ap (λ (b : Bool). b && has_superior v n.superior) site ∙ superior_there w v n.superior t parts.1

pub each_placed : (w v : World) (ns : List Node) → AreThere w v → AllByRecursion (λ n. is_placed w n ≡ true) ns → AllByRecursion (λ n. is_placed v n ≡ true) ns
each_placed w v [] t h = tt
each_placed w v (n ∷ ns) t h = (placed_there w v n t h.0, each_placed w v ns t h.1)

pub placed_put : (w : World) (ns : List Node) (m : Node) → is_placed w m ≡ true → AllByRecursion (λ n. is_placed w n ≡ true) ns → AllByRecursion (λ n. is_placed w n ≡ true) (put_node ns m)
placed_put w [] m p h = tt
placed_put w (x ∷ ns) m p h = go (number_of x == number_of m) (placed_put w ns m p h.1)
  where
    go : (b : Bool) → AllByRecursion (λ n. is_placed w n ≡ true) (put_node ns m) → AllByRecursion (λ n. is_placed w n ≡ true) (elim b as (λ _. List Node) [ true ↦ m ∷ ns | false ↦ x ∷ put_node ns m ])
    go true rest = (p, h.1)
    go false rest = (h.0, rest)

pub placed_found : (w : World) (ns : List Node) (k : ℕ) (n : Node) → find_node ns k ≡ Some n → AllByRecursion (λ x. is_placed w x ≡ true) ns → is_placed w n ≡ true
placed_found w [] k n f h = absurd cc
placed_found w (x ∷ ns) k n f h = go (number_of x == k) f (λ e. placed_found w ns k n e h.1)
  where
    go : (b : Bool) → elim b as (λ _. Option Node) [ true ↦ Some x | false ↦ find_node ns k ] ≡ Some n → (find_node ns k ≡ Some n → is_placed w n ≡ true) → is_placed w n ≡ true
    go true e rest = let same : x ≡ n = cc in ap (is_placed w) (sym same) ∙ h.0
    go false e rest = rest e
