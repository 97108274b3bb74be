-- A node that a site finds under its number.
use Rattle.std.proofs.Common.{Box, ◌≡◌, ℕ, nat_eq, Bool, true, false, Option, Some, None, refl, ap, if◌then◌else◌}
use Rattle.std.specs.Map.{lookup}
use Rattle.std.specs.Option.{option_map}
use Rattle.std.specs.declared.alloc.Global.{Global}
use Rattle.tp_model.specs.declared.arc.Phase.{Phase}
use Rattle.tp_model.specs.Parts.{Who, Digest}
use Rattle.tp_model.specs.Events.{started, is_no_node}
use Rattle.tp_model.specs.History.{state}
use Rattle.tp_site.specs.Site.{Site, state_at}
use Rattle.tp_node.specs.Node.{Node}
use Rattle.tp_node.specs.State.{tree_in}
use Rattle.tp_site.specs.Nodes.{Nodes, has_node, who_at, node_at, find_node, digest_at, unknown_start}

abbrev found_by : Nodes → ℕ → Option (Box Node Global) → Option Node
found_by v n o = elim o as (λ _. Option Node) [
  | None ↦ None
  | Some y ↦ Some (record { who = who_at v n; digest = elim o as (λ _. Digest) [ None ↦ started (unknown_start v) | Some x ↦ x.value.digest ] })
]

pub named : (v : Nodes) (n : ℕ) → ((k : ℕ) (x : Box Node Global) → lookup (nat_eq k) v.nodes ≡ Some x → x.value.who ≡ record { site = v.site; node = k }) → option_map (λ b. b.value) (lookup (nat_eq n) v.nodes) ≡ find_node v n
named v n each = go (lookup (nat_eq n) v.nodes) refl
  where
    go : (o : Option (Box Node Global)) → lookup (nat_eq n) v.nodes ≡ o → option_map (λ b. b.value) o ≡ found_by v n o
    go None is = refl
    go (Some x) is = ap (λ (w : Who). Some (record x.value { who = w })) (each n x is)

pub found : (v : Nodes) (n : ℕ) (x : Node) → Some x ≡ find_node v n → x ≡ node_at v n
found v n x is = go (lookup (nat_eq n) v.nodes) is
  where
    go : (o : Option (Box Node Global)) → Some x ≡ elim o as (λ _. Option Node) [ None ↦ None | Some y ↦ Some (node_at v n) ] → x ≡ node_at v n
    go None j = absurd (cc (j))
    go (Some y) j = cc (j)

pub unfound : (v : Nodes) (n : ℕ) → None ≡ find_node v n → digest_at v n ≡ started (unknown_start v)
unfound v n is = go (lookup (nat_eq n) v.nodes) refl is
  where
    go : (o : Option (Box Node Global)) → lookup (nat_eq n) v.nodes ≡ o → None ≡ elim o as (λ _. Option Node) [ None ↦ None | Some y ↦ Some (node_at v n) ] → digest_at v n ≡ started (unknown_start v)
    go None i j = rw (digest_at, i) refl
    go (Some y) i j = absurd (cc (j))

-- a node that the site has not had to do with is not declared and not known
pub unfound_missing : {K : Type 0} (s : Site K) (n : ℕ) → None ≡ find_node s.nodes n → state_at s n ≡ None
unfolding started
unfound_missing s n is = ap (λ (d : Digest). if is_no_node d then None else Some (state d)) (unfound s.nodes n is)

-- and is in no tree
pub unfound_treeless : (v : Nodes) (n : ℕ) → None ≡ find_node v n → tree_in (digest_at v n) ≡ None
unfolding started
unfound_treeless v n is = ap tree_in (unfound v n is)

-- a number that none has is in no tree
pub treeless : (v : Nodes) (n : ℕ) → false ≡ has_node v n → None ≡ tree_in (digest_at v n)
unfolding started
treeless v n is = go (lookup (nat_eq n) v.nodes) refl is
  where
    go : (o : Option (Box Node Global)) → lookup (nat_eq n) v.nodes ≡ o → false ≡ elim o as (λ _. Bool) [ None ↦ false | Some x ↦ true ] → None ≡ tree_in (digest_at v n)
    go None i j = rw (digest_at, i) refl
    go (Some y) i j = absurd (cc (j))

-- and shows nothing
pub unfound_shown : (v : Nodes) (n : ℕ) → None ≡ find_node v n → state (digest_at v n) ≡ record { phase = Phase.Nil; asked = false; owes = false; kept = 0 }
unfolding started
unfound_shown v n is = ap state (unfound v n is)
