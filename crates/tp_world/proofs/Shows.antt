-- The state of a node that is shown, in the code and in the definitions.
use Rattle.std.proofs.Common.{◌≡◌, ◌++◌, ℕ, true, refl, ap, sym, subst, ◌∙◌, Option, Some, None, List, [], ◌∷◌, Result, Ok, Err}
use Rattle.std.specs.Option.{option_map}
use Rattle.tp_names.specs.declared.identifiers.Addr.{Addr}
use Rattle.tp_model.specs.declared.out_line.OutLine.{OutLine}
use Rattle.tp_model.specs.Parts.{State}
use Rattle.tp_model.specs.History.{digest, state}
use Rattle.tp_model.specs.World.{World, Node, number_of, addr_of, find_node}
use Rattle.tp_model.specs.Happenings.{WorldTurn}
use Rattle.tp_model.specs.Lines.{Fault, Name, shows, state_line, show_line}
use Rattle.tp_site.specs.State.{state_of}
use Rattle.tp_node.specs.declared.state.NodeState.{NodeState}
use Rattle.tp_network.specs.Nodes.{address_at}
use Rattle.tp_world_sites.specs.Standing.{SitesStand, is_placed}
use Rattle.tp_world.specs.World.{Mirrors, Gives}
use Rattle.tp_world_sites.specs.declared.fault.WorldFault.{WorldFault}
use Rattle.tp_world_sites.specs.declared.site_slot.SiteSlot.{SiteSlot}
use Rattle.tp_world.specs.declared.world.World.{World as CodeWorld}
use Rattle.tp_world_sites.proofs.Found.{find_self, placed_found}
use Rattle.tp_world.proofs.Limits.{gives_ok, gives_name}
use Rattle.tp_world.proofs.Stood.{address_stood}

abbrev shown_of : World → ℕ → Option Node → Result WorldTurn Fault
shown_of w k o = elim o [ None ↦ Err Name | Some x ↦ Ok (shows w (state_line k (state (digest x.origin x.history)) ∷ [])) ]

-- there is no such node
pub shows_unknown : (w : World) (v : CodeWorld) (k : ℕ) (before after : List OutLine) (new : CodeWorld) → Mirrors w v → None ≡ address_at v.nodes k → Gives (show_line w k) before (Err WorldFault.Name) after new
shows_unknown w v k before after new h e = gives_name (show_line w k) before after new (go (find_node w.nodes k) (e ∙ address_stood w v k h))
  where
    go : (o : Option Node) → None ≡ option_map addr_of o → shown_of w k o ≡ Err Name
    go None i = refl
    go (Some n) i = absurd cc

-- the state of the node that is there
pub record IsShown (w : World) (k : ℕ) (r : Option NodeState) : Type 0 where
  pub node : Node
  pub found : find_node w.nodes k ≡ Some node
  pub shown : option_map state_of r ≡ Some (state (digest node.origin node.history))

pub is_shown : (w : World) (v : CodeWorld) (k : ℕ) (place : Addr) (r : Option NodeState) (lent : List SiteSlot) → Mirrors w v → Some place ≡ address_at v.nodes k → lent ≡ v.sites.items
    → ((n : Node) → SitesStand w lent → find_node w.nodes (number_of n) ≡ Some n → is_placed w n ≡ true → place ≡ addr_of n → option_map state_of r ≡ Some (state (digest n.origin n.history))) → IsShown w k r
is_shown w v k place r lent h there same f = go (find_node w.nodes k) refl (there ∙ address_stood w v k h)
  where
    go : (o : Option Node) → find_node w.nodes k ≡ o → Some place ≡ option_map addr_of o → IsShown w k r
    go None e i = absurd cc
    go (Some n) e i =
        let at : place ≡ addr_of n = cc (i) in
        record { node = n; found = e; shown = f n (subst (SitesStand w) (sym same) h.sites) (find_self w.nodes k n e) (placed_found w w.nodes k n e h.rest.placed) at }

pub shows_none : (w : World) (k : ℕ) (before after : List OutLine) (new : CodeWorld) → IsShown w k None → Gives (show_line w k) before (Err WorldFault.Name) after new
shows_none w k before after new s = absurd (let e = s.shown in cc (e))

pub shows_state : (w : World) (k : ℕ) (x : NodeState) (line : OutLine) (before after : List OutLine) (u : Unit {0}) (v : CodeWorld) → Mirrors w v → IsShown w k (Some x) → line ≡ state_line k (state_of x) → after ≡ before ++ line ∷ []
    → Gives (show_line w k) before (Ok u) after v
shows_state w k x line before after u v h s is lines =
    let at : state_of x ≡ state (digest s.node.origin s.node.history) = cc (s.shown) in
    gives_ok (show_line w k) (shows w (line ∷ [])) before after v u
    (ap (shown_of w k) s.found ∙ ap (λ (q : State). Ok (shows w (state_line k q ∷ []))) (sym at) ∙ ap (λ (l : OutLine). Ok (shows w (l ∷ []))) (sym is)) lines h
