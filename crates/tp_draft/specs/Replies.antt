-- A Done that comes as a reply, by the transaction that it speaks of.
use Rattle.std.specs.Prelude.{if◌then◌else◌, Some, None, []}
use Rattle.tp_names.specs.declared.identifiers.Aaid.{Aaid}
use Rattle.tp_names.specs.declared.identifiers.BranchId.{BranchId}
use Rattle.tp_names.specs.declared.identifiers.NodeKey.{NodeKey}
use Rattle.tp_names.specs.declared.identifiers.Addr.{Addr}
use Rattle.tp_names.specs.declared.outcome.Report.{Report}
use Rattle.tp_records.specs.declared.peer.RecState.{RecState}
use Rattle.tp_model.specs.declared.transaction.TxEvent.{TxEvent}
use Rattle.tp_model.specs.declared.recovery.KeptEvent.{KeptEvent}
use Rattle.tp_model.specs.Parts.{Who, Digest}
use Rattle.tp_model.specs.Recovery.{settled, forget_to}
use Rattle.tp_model.specs.Node.{Move, move, perform, transact, keep}
use Rattle.tp_model.specs.Arrivals.{Named, named_by_key, branch_key}
use Rattle.tp_node.specs.Replies.{is_current_committing}

-- of a branch in committing, of a kept transaction, or of one that is gone
abbrev pub done_with : Named → Addr → Aaid → BranchId → Report → Who → Digest → Move
done_with n from t b r who d =
    if is_current_committing n then transact who (TxEvent.Reply b (RecState.Done r)) d
    else elim n.kept [
      | Some k ↦ keep (settled k (KeptEvent.Done from b r)) d
      | None ↦ elim n.current [ Some c ↦ move [] d | None ↦ perform (forget_to from (branch_key t b) b r) d ]
    ]

abbrev pub done_of : NodeKey → Addr → Aaid → BranchId → Report → Who → Digest → Move
done_of k from t b r who d = done_with (named_by_key d k) from t b r who d
