-- Histories of one node: which records of peers were brought, sent and taken in them.
use Rattle.std.specs.Prelude.{◌≡◌, Some, List, [], ◌∷◌, ◌⊎◌}
use Rattle.tp_names.specs.declared.identifiers.Addr.{Addr}
use Rattle.tp_records.specs.declared.peer.PeerRecord.{PeerRecord}
use Rattle.tp_model.specs.Parts.{Out, Entry}
use Rattle.tp_steps.specs.Histories.{brought}

-- ---- records of peers

abbrev pub IsSentIn : List Out → Addr → PeerRecord → Type 0
IsSentIn [] a r = ⊥
IsSentIn (Out.Tell i ∷ outs) a r = IsSentIn outs a r
IsSentIn (Out.Send b s ∷ outs) a r = (b ≡ a) × (s ≡ r) ⊎ IsSentIn outs a r

abbrev pub HasSent : List Entry → Addr → PeerRecord → Type 0
HasSent [] a r = ⊥
HasSent (e ∷ h) a r = IsSentIn e.outs a r ⊎ HasSent h a r

abbrev pub HasBrought : List Entry → Addr → PeerRecord → Type 0
HasBrought [] a r = ⊥
HasBrought (e ∷ h) a r = (brought e.event ≡ Some (a, r)) ⊎ HasBrought h a r
