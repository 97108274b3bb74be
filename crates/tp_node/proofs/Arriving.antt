-- The arc that a record is about, and the units that a peer chooses.
use Rattle.std.proofs.Common.{◌≡◌, ℕ, Bool, true, false, Option, Some, None, ap, sym}
use Rattle.std.specs.Prelude.{if◌then◌else◌}
use Rattle.tp_units.specs.Units.{bad_answer}
use Rattle.std.specs.Cmp.{unsigned_Decides}
use Rattle.tp_node.proofs.Beginnings.{peer_found}
use Rattle.tp_names.specs.declared.identifiers.Addr.{Addr}
use Rattle.tp_names.specs.Same.{is_addr}
use Rattle.tp_model.specs.Parts.{Link, Idle, Arc, Digest}
use Rattle.tp_model.specs.Arcs.{find_arc, units_of, link_from}
use Rattle.tp_model.specs.Arrivals.{is_bad_answer}

-- the arc that is found by its peer's number
pub at_peer : (d : Digest) (p : ℕ) (a : Arc) → find_arc d.arcs p ≡ Some a → p ≡ a.peer.node
at_peer d p a found = sym ((unsigned_Decides a.peer.node p).0 (peer_found d.arcs p a found))

-- ---- the units that the peer chooses

pub bad_there : (d : Digest) (from : Addr) (u : ℕ) (a : Arc) → find_arc d.arcs from.node ≡ Some a → is_bad_answer d from u ≡ elim (bad_answer a.dialogue.units u) as (λ _. Bool) [ None ↦ false | Some b ↦ true ]
bad_there d from u a found = ap (λ (o : Option Arc). elim (bad_answer (units_of o) u) as (λ _. Bool) [ None ↦ false | Some b ↦ true ]) found

pub bad_not : (d : Digest) (from : Addr) (u : ℕ) → find_arc d.arcs from.node ≡ None → is_bad_answer d from u ≡ elim (bad_answer 0 u) as (λ _. Bool) [ None ↦ false | Some b ↦ true ]
bad_not d from u found = ap (λ (o : Option Arc). elim (bad_answer (units_of o) u) as (λ _. Bool) [ None ↦ false | Some b ↦ true ]) found

-- ---- the association with an address

pub from_found : (d : Digest) (from : Addr) (a : Arc) → find_arc d.arcs from.node ≡ Some a → link_from d.arcs from ≡ (if is_addr a.peer from then a.link else Idle)
from_found d from a found = ap (λ (o : Option Arc). elim o as (λ _. Link) [ None ↦ Idle | Some b ↦ if is_addr b.peer from then b.link else Idle ]) found

pub from_none : (d : Digest) (from : Addr) → find_arc d.arcs from.node ≡ None → link_from d.arcs from ≡ Idle
from_none d from none = ap (λ (o : Option Arc). elim o as (λ _. Link) [ None ↦ Idle | Some b ↦ if is_addr b.peer from then b.link else Idle ]) none
