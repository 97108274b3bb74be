-- Which event of its current transaction an event of a node is, and at which arcs it is put to the transaction. An event of a
-- node puts one event to it at most, before the next transaction starts.
use Rattle.std.specs.Prelude.{ℕ, ◌≡◌, Bool, false, if◌then◌else◌, Option, Some, None, List, [], ◌∷◌}
use Rattle.tp_names.specs.declared.identifiers.Aaid.{Aaid}
use Rattle.tp_names.specs.declared.identifiers.BranchId.{BranchId}
use Rattle.tp_names.specs.declared.identifiers.Addr.{Addr}
use Rattle.tp_records.specs.declared.request.Request.{Request}
use Rattle.tp_records.specs.declared.dialogue.DialogueRecord.{DialogueRecord}
use Rattle.tp_records.specs.declared.peer.PeerRecord.{PeerRecord}
use Rattle.tp_records.specs.declared.peer.RecState.{RecState}
use Rattle.tp_model.specs.declared.transaction.TxEvent.{TxEvent}
use Rattle.tp_model.specs.declared.transaction.TxOut.{TxOut}
use Rattle.tp_model.specs.Parts.{Who, Event, Arc, Current, Digest}
use Rattle.tp_model.specs.Links.{with_one_taken}
use Rattle.tp_model.specs.Dialogues.{is_committing, Ask_defer_end, Ask_defer_grant, Hear_defer_end, Hear_defer_grant, Acts, Nothing_happens, Out_of_phase, said, heard, cleared, woken}
use Rattle.tp_model.specs.Arcs.{find_arc, without_arc, with_dialogue, with_link}
use Rattle.tp_model.specs.Node.{Move, followed, perform, seen, situation_at, transact}
use Rattle.tp_model.specs.Arrivals.{branch_key, named_by_key, named_by_branch, is_current_ready, sight_at, broken_pair}
use Rattle.tp_model.specs.Events.{retry_each, action}
use Rattle.tp_model.specs.AmongArcs.{Reaches, IsTakenUp}

pub record Put : Type 0 where
  pub event : TxEvent
  pub arcs : List Arc

abbrev pub put : TxEvent → List Arc → Option Put
put f arcs = Some (record { event = f; arcs = arcs })

-- a deferral stands on its arc by then
abbrev pub put_by_request : Who → Digest → Request → Option Put
put_by_request who d (Request.BeginDialogue a u) = None
put_by_request who d (Request.Accept u) = None
put_by_request who d Request.Reject = None
put_by_request who d (Request.EndDialogue p) = None
put_by_request who d (Request.UserData p xs) = None
put_by_request who d (Request.UError p) = None
put_by_request who d (Request.UAbort p) = if (situation_at who d p).branch then put (TxEvent.User (Request.UAbort p)) d.arcs else None
put_by_request who d (Request.Grant p) = None
put_by_request who d (Request.AskControl p) = None
put_by_request who d (Request.Handshake p) = None
put_by_request who d (Request.Respond p) = None
put_by_request who d (Request.HandshakeGrant p) = None
put_by_request who d (Request.BeginTransaction p) = None
put_by_request who d (Request.DeferEnd p) = put (TxEvent.User (Request.DeferEnd p)) (with_dialogue d.arcs p (said Ask_defer_end))
put_by_request who d (Request.DeferGrant p) = put (TxEvent.User (Request.DeferGrant p)) (with_dialogue d.arcs p (said Ask_defer_grant))
put_by_request who d (Request.Prepare p) = put (TxEvent.User (Request.Prepare p)) d.arcs
put_by_request who d Request.Commit = put (TxEvent.User Request.Commit) d.arcs
put_by_request who d Request.Done = put (TxEvent.User Request.Done) d.arcs
put_by_request who d Request.Rollback = put (TxEvent.User Request.Rollback) d.arcs
put_by_request who d Request.Unchanged = put (TxEvent.User Request.Unchanged) d.arcs

-- a record that acts is counted, and has woken its arc
abbrev pub counted_arcs : List Arc → ℕ → List Arc
counted_arcs arcs p = with_dialogue (with_link arcs p with_one_taken) p woken

-- an arc that it ends is gone by then, and a deferral stands on it
abbrev pub put_by_record : ℕ → List Arc → DialogueRecord → Option Put
put_by_record p arcs DialogueRecord.EndDialogue = None
put_by_record p arcs (DialogueRecord.UserData xs) = None
put_by_record p arcs DialogueRecord.UError = None
put_by_record p arcs DialogueRecord.UAbort = put (TxEvent.Took p DialogueRecord.UAbort) (without_arc arcs p)
put_by_record p arcs DialogueRecord.Grant = None
put_by_record p arcs DialogueRecord.AskControl = None
put_by_record p arcs DialogueRecord.Handshake = None
put_by_record p arcs DialogueRecord.HandshakeGrant = None
put_by_record p arcs DialogueRecord.Response = None
put_by_record p arcs DialogueRecord.DeferEnd = put (TxEvent.Took p DialogueRecord.DeferEnd) (with_dialogue arcs p (heard Hear_defer_end))
put_by_record p arcs DialogueRecord.DeferGrant = put (TxEvent.Took p DialogueRecord.DeferGrant) (with_dialogue arcs p (heard Hear_defer_grant))
put_by_record p arcs (DialogueRecord.Begin t b h) = None
put_by_record p arcs DialogueRecord.Prepare = put (TxEvent.Took p DialogueRecord.Prepare) arcs
put_by_record p arcs DialogueRecord.Ready = put (TxEvent.Took p DialogueRecord.Ready) arcs
put_by_record p arcs DialogueRecord.Commit = put (TxEvent.Took p DialogueRecord.Commit) arcs
put_by_record p arcs (DialogueRecord.Done r) = put (TxEvent.Took p (DialogueRecord.Done r)) arcs
put_by_record p arcs DialogueRecord.Rollback = put (TxEvent.Took p DialogueRecord.Rollback) arcs
put_by_record p arcs (DialogueRecord.RolledBack r) = put (TxEvent.Took p (DialogueRecord.RolledBack r)) arcs
put_by_record p arcs DialogueRecord.Left = put (TxEvent.Took p DialogueRecord.Left) (with_dialogue arcs p cleared)
put_by_record p arcs DialogueRecord.LeftEnd = put (TxEvent.Took p DialogueRecord.LeftEnd) (with_dialogue arcs p cleared)

-- one that does nothing, or is out of phase, is put to nobody
abbrev pub put_on : Who → Digest → Arc → DialogueRecord → Option Put
put_on who d a r = elim (sight_at who d a r) [
  | Acts ↦ put_by_record a.peer.node (counted_arcs d.arcs a.peer.node) r
  | Nothing_happens ↦ None
  | Out_of_phase ↦ None
]

-- what is asked or replied by that key is for the transaction where it has the key, and is ready
abbrev pub put_where_ready : Digest → Aaid → BranchId → TxEvent → Option Put
put_where_ready d t b f = if is_current_ready (named_by_key d (branch_key t b)) then put f d.arcs else None

abbrev pub is_committing_named : Option Current → Bool
is_committing_named None = false
is_committing_named (Some c) = is_committing c.phase

abbrev pub put_by_peer : Who → Digest → Addr → PeerRecord → Option Put
put_by_peer who d from (PeerRecord.OpenAssoc x u) = None
put_by_peer who d from (PeerRecord.AcceptAssoc x y u) = None
put_by_peer who d from (PeerRecord.ShutAssoc x None) = None
put_by_peer who d from (PeerRecord.ShutAssoc x (Some y)) = put (TxEvent.Lost from.node) (without_arc d.arcs from.node)
put_by_peer who d from (PeerRecord.OnAssoc x y q r) = elim (find_arc d.arcs from.node) [ None ↦ None | Some a ↦ put_on who d a r ]
put_by_peer who d from (PeerRecord.RecReady t b) = None
put_by_peer who d from (PeerRecord.RecCommit t b) = put_where_ready d t b TxEvent.Ordered
put_by_peer who d from (PeerRecord.RecReply t b RecState.Commit) = put_where_ready d t b (TxEvent.Reply b RecState.Commit)
put_by_peer who d from (PeerRecord.RecReply t b (RecState.Done r)) =
    if is_committing_named (named_by_branch d t b).current then put (TxEvent.Reply b (RecState.Done r)) d.arcs else None
put_by_peer who d from (PeerRecord.RecReply t b RecState.Unknown) = put_where_ready d t b (TxEvent.Reply b RecState.Unknown)
put_by_peer who d from (PeerRecord.RecReply t b RecState.RetryLater) = put_where_ready d t b (TxEvent.Reply b RecState.RetryLater)
put_by_peer who d from (PeerRecord.Forget t b) = None

abbrev pub put_by : Who → Digest → Event → Option Put
put_by who d (Event.Declare s) = None
put_by who d (Event.Do r) = put_by_request who d r
put_by who d (Event.Arrive from r) = put_by_peer who d from r
put_by who d (Event.Break from r) = elim (broken_pair r) [ None ↦ None | Some xy ↦ put (TxEvent.Lost from.node) (without_arc d.arcs from.node) ]
put_by who d (Event.Lose p) = put (TxEvent.Lost p) (without_arc d.arcs p)
put_by who d (Event.Heur o) = put (TxEvent.Heur o) d.arcs
put_by who d (Event.GiveUp p) = put (TxEvent.GiveUp p) d.arcs
put_by who d Event.Retry = put TxEvent.Retry d.arcs
put_by who d Event.Purge = None
put_by who d Event.Crash = None

-- what else the event does: an association that breaks is shut first, and a retry goes on with the kept transactions
abbrev pub with_others : Digest → Event → Move → Move
with_others d (Event.Declare s) m = m
with_others d (Event.Do r) m = m
with_others d (Event.Arrive from r) m = m
with_others d (Event.Break from r) m =
    elim (broken_pair r) [ None ↦ m | Some xy ↦ followed (perform (TxOut.Recovery from (PeerRecord.ShutAssoc xy.0 (Some xy.1)) ∷ []) d) (λ g. m) ]
with_others d (Event.Lose p) m = m
with_others d (Event.Heur o) m = m
with_others d (Event.GiveUp p) m = m
with_others d Event.Retry m = followed m (λ g. retry_each g.kept g)
with_others d Event.Purge m = m
with_others d Event.Crash m = m

-- an event is put so to the current transaction
pub record IsPutTo (who : Who) (d : Digest) (e : Event) (c : Current) (x : Put) : Type 0 where
  -- the event of the node is that event of the transaction, and what goes with it
  pub acts : action who d e ≡ with_others d e (transact who x.event (record d { arcs = x.arcs }))
  -- it comes at arcs that it reaches from those before it
  pub reaches : Reaches x.event c d.arcs x.arcs
  pub taken : IsTakenUp x.event (seen who d.arcs c)
