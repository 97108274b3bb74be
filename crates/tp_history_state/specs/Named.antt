-- Questions of an arc: at which address its peer was last asked for a dialogue, or offered one, and which functional units were
-- last proposed or agreed on it. Each is asked of the whole history.
use Rattle.std.specs.Prelude.{ℕ, ◌==◌, if◌then◌else◌, Option, Some, None, List, [], ◌∷◌}
use Rattle.tp_names.specs.declared.identifiers.Addr.{Addr}
use Rattle.tp_records.specs.declared.request.Request.{Request}
use Rattle.tp_records.specs.declared.peer.PeerRecord.{PeerRecord}
use Rattle.tp_model.specs.Parts.{Event, Do, Arrive, Entry}
use Rattle.tp_model.specs.Questions.{superior_in}

-- whom the event asks for a dialogue, or who offers one in it
abbrev pub dialogue_with : Event → Option Addr
dialogue_with (Do (Request.BeginDialogue a u)) = Some a
dialogue_with (Arrive a (PeerRecord.OpenAssoc x u)) = Some a
dialogue_with _ = None

-- and the units that are proposed or agreed with that node in the event, where the superior is at the address
abbrev pub units_with : Option Addr → Event → Option (ℕ × ℕ)
units_with s (Do (Request.BeginDialogue a u)) = Some (a.node, u)
units_with s (Do (Request.Accept u)) = elim s [ None ↦ None | Some a ↦ Some (a.node, u) ]
units_with s (Arrive a (PeerRecord.OpenAssoc x u)) = Some (a.node, u)
units_with s (Arrive a (PeerRecord.AcceptAssoc x y u)) = Some (a.node, u)
units_with s _ = None

abbrev pub address_then : ℕ → Event → Option Addr → Option Addr
address_then p e old = elim (dialogue_with e) [ None ↦ old | Some a ↦ if a.node == p then Some a else old ]

abbrev pub units_then : ℕ → Option Addr → Event → ℕ → ℕ
units_then p s e old = elim (units_with s e) [ None ↦ old | Some v ↦ if v.0 == p then v.1 else old ]

abbrev pub address_in : ℕ → List Entry → Option Addr
address_in p [] = None
address_in p (e ∷ h) = address_then p e.event (address_in p h)

abbrev pub units_in : ℕ → List Entry → ℕ
units_in p [] = 0
units_in p (e ∷ h) = units_then p (superior_in h) e.event (units_in p h)
