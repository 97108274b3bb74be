-- A node that comes, in the code and in the definitions.
use Rattle.std.proofs.Common.{◌≡◌, ◌&&◌, ◌++◌, not, ℕ, suc, Bool, true, false, refl, ap, sym, subst, ◌∙◌, arith, Option, Some, None, List, [], ◌∷◌, length, Result, Ok, Err}
use Rattle.std.specs.Option.{is_some, option_map}
use Rattle.std.specs.Result.{OnOk}
use Rattle.tp_names.specs.declared.identifiers.Addr.{Addr}
use Rattle.tp_names.proofs.Sames.{name_self}
use Rattle.tp_model.specs.declared.out_line.OutLine.{OutLine}
use Rattle.tp_model.specs.declared.out_line.LogWords.{LogWords}
use Rattle.tp_model.specs.declared.verdict.What.{What}
use Rattle.tp_model.specs.World.{World, Node, Site, number_of, addr_of, addr_at, find_node, find_site, is_node}
use Rattle.tp_model.specs.Happenings.{Declare, happens, still, with_node, new_node, new_site, declared_at, WorldTurn}
use Rattle.tp_model.specs.Lines.{Fault, Over, if_named, node_limit, node_line, is_peer_node}
use Rattle.tp_network.specs.Nodes.{IsDeclared, address_at}
use Rattle.tp_world_sites.specs.Sites.{AreSites}
use Rattle.tp_world_sites.specs.Placing.{IsDeclaredAt, boot_lines}
use Rattle.tp_world.specs.Declares.{superior_at, has_superior, HasCome}
use Rattle.tp_world_sites.specs.Standing.{AreNodes, RestStands, is_free, is_placed}
use Rattle.tp_world.specs.World.{Mirrors, Gives}
use Rattle.tp_world_sites.specs.declared.fault.WorldFault.{WorldFault}
use Rattle.tp_network.specs.declared.nodes.NodeSlot.{NodeSlot}
use Rattle.tp_world_sites.specs.declared.site_slot.SiteSlot.{SiteSlot}
use Rattle.tp_world.specs.declared.world.World.{World as CodeWorld}
use Rattle.tp_world.proofs.Stood.{address_stood}
use Rattle.tp_world_sites.proofs.Found.{find_self, node_there}
use Rattle.tp_world_sites.proofs.Declared.{with_sites, rest_declared, node_behind, site_behind}
use Rattle.tp_world.proofs.Limits.{gives_ok, gives_limit}

-- ---- counts

are_as_many : (ss : List Site) (xs : List SiteSlot) → AreSites ss xs → length xs ≡ length ss
are_as_many [] [] h = refl
are_as_many [] (x ∷ xs) h = absurd h
are_as_many (s ∷ ss) [] h = absurd h
are_as_many (s ∷ ss) (x ∷ xs) h = ap (λ (n : ℕ). suc n) (are_as_many ss xs h.1)

pub sites_count : (w : World) (v : CodeWorld) → Mirrors w v → length v.sites.items ≡ length w.sites
sites_count w v h = are_as_many w.sites v.sites.items h.sites.sites

as_many_nodes : (ns : List Node) (xs : List NodeSlot) → AreNodes ns xs → length xs ≡ length ns
as_many_nodes [] [] h = refl
as_many_nodes [] (x ∷ xs) h = absurd h
as_many_nodes (n ∷ ns) [] h = absurd h
as_many_nodes (n ∷ ns) (x ∷ xs) h = ap (λ (k : ℕ). suc k) (as_many_nodes ns xs h.1)

pub nodes_count : (w : World) (v : CodeWorld) → Mirrors w v → length v.nodes ≡ length w.nodes
nodes_count w v h = as_many_nodes w.nodes v.nodes h.rest.nodes

-- ---- the number is new

absent : (w : World) (k : ℕ) → is_node w k ≡ false → find_node w.nodes k ≡ None
absent w k h = go (find_node w.nodes k) h
  where
    go : (o : Option Node) → elim o as (λ _. Bool) [ None ↦ false | Some x ↦ true ] ≡ false → o ≡ None
    go None i = refl
    go (Some x) i = absurd cc

free_absent : (ns : List Node) (k : ℕ) → find_node ns k ≡ None → is_free k ns ≡ true
free_absent [] k h = refl
free_absent (x ∷ ns) k h = grind (arith, free_absent ns k)

pub is_free_of : (w : World) (k : ℕ) → is_node w k ≡ false → is_free k w.nodes ≡ true
is_free_of w k h = free_absent w.nodes k (absent w k h)

-- ---- the site is there, and the superior

new_site_found : (ss : List Site) (s : List ℕ) → is_some (find_site (ss ++ new_site s ∷ []) s) ≡ true
new_site_found [] s = grind (arith, name_self s)
new_site_found (x ∷ ss) s = grind (arith, new_site_found ss s)

abbrev site_in : Option Site → Bool
site_in o = elim o [ None ↦ false | Some x ↦ true ]

site_known : (o : Option Site) → is_some o ≡ true → site_in o ≡ true
site_known None h = h
site_known (Some x) h = refl

superior_behind : (w v : World) (n : Node) (up : Option Addr) → v.nodes ≡ w.nodes ++ n ∷ [] → has_superior w up ≡ true → has_superior v up ≡ true
superior_behind w v n None e h = refl
superior_behind w v n (Some a) e h = node_there v a.node ∙ ap (λ (l : List Node). is_some (find_node l a.node)) e ∙ node_behind w.nodes n a.node (sym (node_there w a.node) ∙ h)

placed_new : (w : World) (ss : List Site) (s : List ℕ) (k boot : ℕ) (up : Option Addr) → is_some (find_site ss s) ≡ true → has_superior w up ≡ true
    → is_placed (with_node (with_sites w ss) (new_node s k boot up)) (new_node s k boot up) ≡ true
placed_new w ss s k boot up site h =
    let n : Node = new_node s k boot up in
    let v : World = with_node (with_sites w ss) n in
    ap (λ (b : Bool). b && has_superior v up) (site_known (find_site ss s) site) ∙ superior_behind w v n up refl h

-- ---- the rest of the world

abbrev declared_in : World → Addr → Option Addr → Option Site → WorldTurn
declared_in w a up o = elim o [
  | Some x ↦ still (with_node w (new_node a.site a.node x.boot up))
  | None ↦ record {
    world = with_node (record w { sites = w.sites ++ new_site a.site ∷ [] }) (new_node a.site a.node 1 up);
    lines = OutLine.Log a.site (LogWords.Boot 1) ∷ [];
    told = [];
  }
]

rest_come : (w : World) (a : Addr) (up : Option Addr) (x : NodeSlot) (xs : List NodeSlot) (old : CodeWorld) → Mirrors w old → is_node w a.node ≡ false → has_superior w up ≡ true → IsDeclared a up x → xs ≡ old.nodes ++ x ∷ []
    → RestStands (declared_at w a.node a.site up).world xs old.frames old.trees.items
rest_come w a up x xs old h none above d e = go (find_site w.sites a.site) refl
  where
    go : (o : Option Site) → find_site w.sites a.site ≡ o → RestStands (declared_in w a up o).world xs old.frames old.trees.items
    go (Some y) f =
        let there : is_some (find_site w.sites a.site) ≡ true = ap is_some f in
        subst (λ (l : List NodeSlot). RestStands (declared_in w a up (Some y)).world l old.frames old.trees.items) (sym e)
        (rest_declared w w.sites a.site a.node y.boot up x old.nodes old.frames old.trees.items (λ t i. i) (absent w a.node none) (placed_new w w.sites a.site a.node y.boot up there above) h.rest d)
    go None f =
        let ss : List Site = w.sites ++ new_site a.site ∷ [] in
        subst (λ (l : List NodeSlot). RestStands (declared_in w a up None).world l old.frames old.trees.items) (sym e)
        (rest_declared w ss a.site a.node 1 up x old.nodes old.frames old.trees.items (λ t i. site_behind w.sites (new_site a.site) t i) (absent w a.node none) (placed_new w ss a.site a.node 1 up (new_site_found w.sites a.site) above) h.rest d)

pub come : (w : World) (a : Addr) (up : Option Addr) (boot : Option ℕ) (x : NodeSlot) (before after : List OutLine) (old new : CodeWorld) → Mirrors w old → is_node w a.node ≡ false → has_superior w up ≡ true
    → IsDeclaredAt w a up boot new.sites.items → IsDeclared a up x → new.nodes ≡ old.nodes ++ x ∷ [] → new.frames ≡ old.frames → new.trees ≡ old.trees → after ≡ before ++ boot_lines a.site boot → HasCome w a up before after new
come w a up boot x before after old new h none above at d nodes frames trees lines =
    let r : RestStands (declared_at w a.node a.site up).world new.nodes old.frames old.trees.items = rest_come w a up x new.nodes old h none above d nodes in (
      lines ∙ ap (λ (l : List OutLine). before ++ l) (sym at.lines),
      record {
        sites = at.stands;
        rest = subst (λ fs. RestStands (declared_at w a.node a.site up).world new.nodes fs new.trees.items) (sym frames)
            (subst (λ ts. RestStands (declared_at w a.node a.site up).world new.nodes old.frames ts.items) (sym trees) r);
      },
    )

pub on_ok : {A E P Q : Type 0} (r : Result A E) → (P → Q) → OnOk r P → OnOk r Q
on_ok (Ok x) f h = f h
on_ok (Err e) f h = h

-- ---- the line

abbrev turn_found : World → ℕ → List ℕ → Option ℕ → Option Node → WorldTurn
turn_found w n s under o = elim o [
  | Some x ↦ still w
  | None ↦ elim under [ None ↦ declared_at w n s None | Some p ↦ elim (addr_at w p) [ None ↦ still w | Some a ↦ declared_at w n s (Some a) ] ]
]

turn_under : (w : World) (n : ℕ) (s : List ℕ) (under : Option ℕ) → is_peer_node w under ≡ true → turn_found w n s under None ≡ declared_at w n s (superior_at w under)
turn_under w n s None h = refl
turn_under w n s (Some p) h = go (find_node w.nodes p) refl h
  where
    go : (o : Option Node) → find_node w.nodes p ≡ o → elim o as (λ _. Bool) [ None ↦ false | Some x ↦ true ] ≡ true
        → elim (elim o as (λ _. Option Addr) [ None ↦ None | Some x ↦ Some (addr_of x) ]) as (λ _. WorldTurn) [ None ↦ still w | Some a ↦ declared_at w n s (Some a) ]
        ≡ declared_at w n s (elim o as (λ _. Option Addr) [ None ↦ None | Some x ↦ Some (addr_of x) ])
    go None e i = absurd cc
    go (Some x) e i = refl

pub superior_stood : (w : World) (v : CodeWorld) (p : ℕ) → Mirrors w v → address_at v.nodes p ≡ addr_at w p
superior_stood w v p h = address_stood w v p h ∙ go (find_node w.nodes p)
  where
    go : (o : Option Node) → option_map addr_of o ≡ elim o as (λ _. Option Addr) [ None ↦ None | Some x ↦ Some (addr_of x) ]
    go None = refl
    go (Some x) = refl

pub peer_there : (w : World) (under : Option ℕ) → is_peer_node w under ≡ true → has_superior w (superior_at w under) ≡ true
peer_there w None h = refl
peer_there w (Some p) h = go (find_node w.nodes p) refl h
  where
    go : (o : Option Node) → find_node w.nodes p ≡ o → elim o as (λ _. Bool) [ None ↦ false | Some x ↦ true ] ≡ true
        → has_superior w (elim o as (λ _. Option Addr) [ None ↦ None | Some x ↦ Some (addr_of x) ]) ≡ true
    go None e i = absurd cc
    go (Some x) e i = node_there w (number_of x) ∙ ap is_some (find_self w.nodes p x e)

abbrev line_of : World → ℕ → List ℕ → Option ℕ → Bool → Option What → Result WorldTurn Fault
line_of w n s under b o = if_named b (elim o [ Some what ↦ Err (Over what) | None ↦ Ok (happens w (Declare n s under)) ])

pub gives_node : (w : World) (n : ℕ) (s : List ℕ) (under : Option ℕ) (up : Option Addr) (before after : List OutLine) (u : Unit {0}) (v : CodeWorld) → is_node w n ≡ false → is_peer_node w under ≡ true → node_limit w s ≡ None
    → up ≡ superior_at w under → HasCome w (record { site = s; node = n }) up before after v → Gives (node_line w n s under) before (Ok u) after v
gives_node w n s under up before after u v none peer limit same h =
    let named : (not (is_node w n) && is_peer_node w under) ≡ true = grind (arith, none, peer) in
    let at : happens w (Declare n s under) ≡ declared_at w n s up = ap (turn_found w n s under) (absent w n none) ∙ turn_under w n s under peer ∙ ap (declared_at w n s) (sym same) in
    gives_ok (node_line w n s under) (declared_at w n s up) before after v u
    (ap (λ (b : Bool). line_of w n s under b (node_limit w s)) named ∙ ap (λ (o : Option What). line_of w n s under true o) limit ∙ ap (λ (t : WorldTurn). Ok t) at)
    h.0 h.1

pub gives_no_node : (w : World) (n : ℕ) (s : List ℕ) (under : Option ℕ) (what : What) (before after : List OutLine) (v : CodeWorld) → is_node w n ≡ false → is_peer_node w under ≡ true → node_limit w s ≡ Some what
    → Gives (node_line w n s under) before (Err (WorldFault.Limit what)) after v
gives_no_node w n s under what before after v none peer limit =
    let named : (not (is_node w n) && is_peer_node w under) ≡ true = grind (arith, none, peer) in
    gives_limit (node_line w n s under) what before after v
    (ap (λ (b : Bool). line_of w n s under b (node_limit w s)) named ∙ ap (λ (o : Option What). line_of w n s under true o) limit)
