-- Histories of one node: which records of peers were brought, sent and taken in them.
use Rattle.std.specs.Prelude.{Option, Some, None}
use Rattle.tp_names.specs.declared.identifiers.Addr.{Addr}
use Rattle.tp_records.specs.declared.peer.PeerRecord.{PeerRecord}
use Rattle.tp_model.specs.Parts.{Event}

-- the record that an event brings, and whether it is taken or only breaks its association
abbrev pub brought : Event → Option (Addr × PeerRecord)
brought (Event.Declare s) = None
brought (Event.Do r) = None
brought (Event.Arrive a r) = Some (a, r)
brought (Event.Break a r) = Some (a, r)
brought (Event.Lose p) = None
brought (Event.Heur u) = None
brought (Event.GiveUp p) = None
brought Event.Retry = None
brought Event.Purge = None
brought Event.Crash = None
