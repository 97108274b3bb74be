-- Which event of its current transaction an event of a node is, and at which arcs it is put to the transaction. An event of a
-- node puts one event to it at most, before the next transaction starts.
use Rattle.std.specs.Prelude.{ℕ, ◌≡◌, Bool, true, false, Some}
use Rattle.tp_records.specs.declared.request.Request.{Request}
use Rattle.tp_records.specs.declared.peer.PeerRecord.{PeerRecord}
use Rattle.tp_model.specs.Parts.{Who, Event, Current, Digest}
use Rattle.tp_model.specs.Node.{begin_on}
use Rattle.tp_model.specs.Events.{recovered_current, action}

-- ---- where none is put

-- a begin-transaction, and an arc that becomes live: it may be chained
abbrev pub may_begin_branch : Event → Bool
may_begin_branch (Event.Do (Request.BeginTransaction p)) = true
may_begin_branch (Event.Arrive from (PeerRecord.AcceptAssoc x y u)) = true
may_begin_branch _ = false

-- what is current stays as it is, or a branch of it begins, or a stop leaves what stands in the log
pub data IsLeftAlone (who : Who) (d : Digest) (e : Event) (c : Current) : Type 0 where
  Stays : (action who d e).next.current ≡ Some c → IsLeftAlone who d e c
  Begins : (p : ℕ) (g : Digest) → may_begin_branch e ≡ true → g.current ≡ Some c → (action who d e).next ≡ (begin_on who p g).next → IsLeftAlone who d e c
  Stops : e ≡ Event.Crash → (action who d e).next.current ≡ recovered_current (Some c) → IsLeftAlone who d e c
