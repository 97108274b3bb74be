-- What a node does with one arc before its transaction or its user hears of it: something is said or heard on its dialogue, or
-- it is gone.
use Rattle.std.specs.Prelude.{ℕ, [], ◌∷◌}
use Rattle.tp_records.specs.declared.indication.Indication.{Indication}
use Rattle.tp_records.specs.declared.dialogue.DialogueRecord.{DialogueRecord}
use Rattle.tp_model.specs.declared.transaction.TxEvent.{TxEvent}
use Rattle.tp_model.specs.declared.transaction.TxOut.{TxOut}
use Rattle.tp_model.specs.Parts.{Who, Digest}
use Rattle.tp_model.specs.Dialogues.{Asked, Heard, said, heard}
use Rattle.tp_model.specs.Arcs.{with_dialogue, without_arc}
use Rattle.tp_model.specs.Node.{Move, move, perform, transact}

abbrev pub losing : ℕ → Who → Digest → Move
losing p who d = move [] (record d { arcs = without_arc d.arcs p })

-- a record goes out that the dialogue has said
abbrev pub speaking_on : ℕ → Asked → DialogueRecord → Who → Digest → Move
speaking_on p a r who d = perform (TxOut.Carry p r ∷ []) (record d { arcs = with_dialogue d.arcs p (said a) })

-- the transaction takes up a deferral that stands on the arc
abbrev pub deferring : ℕ → Asked → TxEvent → Who → Digest → Move
deferring p a e who d = transact who e (record d { arcs = with_dialogue d.arcs p (said a) })

-- the user is told what the dialogue has heard
abbrev pub telling_heard : ℕ → Heard → Indication → Who → Digest → Move
telling_heard p h i who d = perform (TxOut.Tell i ∷ []) (record d { arcs = with_dialogue d.arcs p (heard h) })

abbrev pub taking_deferral : ℕ → Heard → TxEvent → Who → Digest → Move
taking_deferral p h e who d = transact who e (record d { arcs = with_dialogue d.arcs p (heard h) })
