-- What goes out for a Begin, and how the transaction of a root begins.
use Rattle.std.specs.Prelude.{ℕ, Option, Some, None, List, [], ◌∷◌}
use Rattle.tp_records.specs.declared.dialogue.DialogueRecord.{DialogueRecord}
use Rattle.tp_model.specs.declared.transaction.TxOut.{TxOut}
use Rattle.tp_model.specs.Parts.{Who, Root, Digest}
use Rattle.tp_model.specs.Node.{Move, move, followed, fresh_current, next_mark, with_mark_drawn, begin_each, begin_chained}

-- what is sent of it
abbrev pub carried_of : ℕ → Option DialogueRecord → List TxOut
carried_of p None = []
carried_of p (Some r) = TxOut.Carry p r ∷ []

-- ---- a root's transaction

-- it begins, with a new identifier and no branch
abbrev pub opened_root : Who → Digest → Move
opened_root who d = move [] (record (with_mark_drawn d) { current = Some (fresh_current (Root (record { owner = who.site; mark = next_mark who d }))) })

-- Begin on the arcs that are named, and then on the chained ones
abbrev pub named_begun : List ℕ → Who → Digest → Move
named_begun named who d = followed (begin_each who named d) (begin_chained who)
