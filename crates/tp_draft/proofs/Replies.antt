-- A Done that comes as a reply, of the transaction of a key.
use Rattle.std.proofs.Common.{◌≡◌, true, false, Option, Some, None, [], refl, arith}
use Rattle.std.specs.Option.{is_some}
use Rattle.tp_names.specs.declared.identifiers.Aaid.{Aaid}
use Rattle.tp_names.specs.declared.identifiers.BranchId.{BranchId}
use Rattle.tp_names.specs.declared.identifiers.NodeKey.{NodeKey}
use Rattle.tp_names.specs.declared.identifiers.Addr.{Addr}
use Rattle.tp_names.specs.declared.outcome.Report.{Report}
use Rattle.tp_records.specs.declared.peer.RecState.{RecState}
use Rattle.tp_model.specs.declared.transaction.TxEvent.{TxEvent}
use Rattle.tp_model.specs.declared.recovery.Kept.{Kept}
use Rattle.tp_model.specs.declared.recovery.KeptEvent.{KeptEvent}
use Rattle.tp_model.specs.Parts.{Who, Current, Digest}
use Rattle.tp_model.specs.Recovery.{settled, forget_to, find_kept}
use Rattle.tp_model.specs.Node.{move, perform, transact, keep}
use Rattle.tp_model.specs.Arrivals.{named_by_key, branch_key, current_with}
use Rattle.tp_node.specs.Replies.{is_current_committing}
use Rattle.tp_draft.specs.Replies.{done_of}

pub done_committing : (k : NodeKey) (from : Addr) (t : Aaid) (b : BranchId) (r : Report) (who : Who) (d : Digest) → is_current_committing (named_by_key d k) ≡ true → done_of k from t b r who d ≡ transact who (TxEvent.Reply b (RecState.Done r)) d
done_committing k from t b r who d e = grind (arith, e)

pub done_kept : (k : NodeKey) (from : Addr) (t : Aaid) (b : BranchId) (r : Report) (who : Who) (d : Digest) (x : Kept) → is_current_committing (named_by_key d k) ≡ false → find_kept d.kept k ≡ Some x → done_of k from t b r who d ≡ keep (settled x (KeptEvent.Done from b r)) d
done_kept k from t b r who d x e f = grind (arith, e, f)

pub done_current : (k : NodeKey) (from : Addr) (t : Aaid) (b : BranchId) (r : Report) (who : Who) (d : Digest) → is_current_committing (named_by_key d k) ≡ false → find_kept d.kept k ≡ None → is_some (current_with d k) ≡ true → done_of k from t b r who d ≡ move [] d
done_current k from t b r who d e f g = go (current_with d k) refl
  where
    go : (o : Option Current) → current_with d k ≡ o → done_of k from t b r who d ≡ move [] d
    go None i = absurd (grind (arith, g, i))
    go (Some c) i = grind (arith, e, f, i)

pub done_gone : (k : NodeKey) (from : Addr) (t : Aaid) (b : BranchId) (r : Report) (who : Who) (d : Digest) → find_kept d.kept k ≡ None → is_some (current_with d k) ≡ false → done_of k from t b r who d ≡ perform (forget_to from (branch_key t b) b r) d
done_gone k from t b r who d f g = go (current_with d k) refl
  where
    go : (o : Option Current) → current_with d k ≡ o → done_of k from t b r who d ≡ perform (forget_to from (branch_key t b) b r) d
    go None i = grind (arith, f, i)
    go (Some c) i = absurd (grind (arith, g, i))
