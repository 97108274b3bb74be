-- An event, and the same but for the branches that it begins.
use Rattle.std.proofs.Common.{◌≡◌, refl}
use Rattle.tp_model.specs.declared.transaction.TxEvent.{TxEvent}
use Rattle.tp_model.specs.Transactions.{Transaction, step_of, transacted}
use Rattle.tp_commit.specs.Branch.{with_begun}
use Rattle.tp_commit.specs.Rules.{set_off}

pub says_alike : (e : TxEvent) (t : Transaction) → step_of (set_off e t) ≡ step_of (transacted e t)
says_alike (TxEvent.Begun cs) t = refl
says_alike (TxEvent.User r) t = refl
says_alike (TxEvent.Took p r) t = refl
says_alike (TxEvent.Lost p) t = refl
says_alike (TxEvent.Heur o) t = refl
says_alike (TxEvent.GiveUp p) t = refl
says_alike TxEvent.Ordered t = refl
says_alike (TxEvent.Reply b s) t = refl
says_alike TxEvent.Retry t = refl

pub begins_after : (e : TxEvent) (t : Transaction) → (transacted e t).next ≡ record (set_off e t).next { rows = with_begun e (set_off e t).next.rows }
begins_after (TxEvent.Begun cs) t = refl
begins_after (TxEvent.User r) t = refl
begins_after (TxEvent.Took p r) t = refl
begins_after (TxEvent.Lost p) t = refl
begins_after (TxEvent.Heur o) t = refl
begins_after (TxEvent.GiveUp p) t = refl
begins_after TxEvent.Ordered t = refl
begins_after (TxEvent.Reply b s) t = refl
begins_after TxEvent.Retry t = refl
