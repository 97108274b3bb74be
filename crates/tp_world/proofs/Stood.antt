-- Nodes of a world found by their numbers, on both sides of what stands for what.
use Rattle.std.proofs.Common.{◌≡◌, ◌==◌, ℕ, Bool, true, false, refl, ap, arith, List, [], ◌∷◌}
use Rattle.std.specs.Option.{option_map, is_some}
use Rattle.tp_model.specs.World.{World, Node, addr_of, number_of, find_node, find_frame, is_node}
use Rattle.tp_network.specs.Nodes.{address_at}
use Rattle.tp_world_sites.specs.Standing.{AreNodes}
use Rattle.tp_world.specs.World.{Mirrors}
use Rattle.tp_network.specs.declared.nodes.NodeSlot.{NodeSlot}
use Rattle.tp_world.specs.declared.world.World.{World as CodeWorld}

pub address_same : (ns : List Node) (xs : List NodeSlot) (n : ℕ) → AreNodes ns xs → address_at xs n ≡ option_map addr_of (find_node ns n)
address_same [] [] n h = refl
address_same [] (x ∷ xs) n h = absurd h
address_same (m ∷ ns) [] n h = absurd h
address_same (m ∷ ns) (x ∷ xs) n h = go (number_of m == n) refl (address_same ns xs n h.1)
  where
    go : (b : Bool) → (number_of m == n) ≡ b → address_at xs n ≡ option_map addr_of (find_node ns n) → address_at (x ∷ xs) n ≡ option_map addr_of (find_node (m ∷ ns) n)
    go true e rest = let same = h.0.addr in grind (arith, e, same)
    go false e rest = let same = h.0.addr in grind (arith, e, same, rest)

pub node_same : (w : World) (v : CodeWorld) (n : ℕ) → Mirrors w v → is_some (address_at v.nodes n) ≡ is_node w n
node_same w v n h = let same = address_same w.nodes v.nodes n h.rest.nodes in grind (arith, same)

pub frame_same : (w : World) (v : CodeWorld) (k : ℕ) → Mirrors w v → find_frame v.frames k ≡ find_frame w.frames k
frame_same w v k h = ap (λ fs. find_frame fs k) h.rest.frames

pub address_stood : (w : World) (v : CodeWorld) (n : ℕ) → Mirrors w v → address_at v.nodes n ≡ option_map addr_of (find_node w.nodes n)
address_stood w v n h = address_same w.nodes v.nodes n h.rest.nodes
