-- What a turn leaves of the current transaction.
use Rattle.std.proofs.Common.{◌≡◌, Some, None, refl}
use Rattle.std.specs.Prelude.{cond}
use Rattle.tp_model.specs.Dialogues.{is_nil}
use Rattle.tp_model.specs.Transactions.{Transaction}
use Rattle.tp_model.specs.Node.{remaining}
use Rattle.tp_node.specs.Node.{current_of}

pub remains : (t : Transaction) → remaining t ≡ cond (is_nil t.phase) None (Some (current_of t))
remains t = refl
