-- Dialogues that are asked for and answered, and a superior's transaction that begins: what each makes of a node.
use Rattle.std.specs.Prelude.{ℕ, Some, [], ◌∷◌, ◌&&◌, not, if◌then◌else◌}
use Rattle.tp_names.specs.declared.identifiers.Addr.{Addr}
use Rattle.tp_names.specs.declared.identifiers.Aaid.{Aaid}
use Rattle.tp_names.specs.declared.identifiers.BranchId.{BranchId}
use Rattle.tp_names.specs.declared.identifiers.Mark.{Mark}
use Rattle.tp_records.specs.declared.dialogue.Holder.{Holder}
use Rattle.tp_records.specs.declared.indication.Indication.{Indication}
use Rattle.tp_records.specs.declared.peer.PeerRecord.{PeerRecord}
use Rattle.tp_model.specs.declared.transaction.TxOut.{TxOut}
use Rattle.tp_model.specs.declared.arc.Side.{Side}
use Rattle.tp_model.specs.Parts.{Who, Live, Arc, Digest}
use Rattle.tp_model.specs.Arrivals.{lose}
use Rattle.tp_model.specs.Dialogues.{is_nil, is_active, is_chained, fresh_dialogue}
use Rattle.tp_model.specs.Node.{Move, move, followed, perform, phase_of, has_asked, try_start, begin_on, next_mark, with_mark_drawn}
use Rattle.tp_node.specs.Calls.{answered, begun_under}

-- the offer of that mark on the arc is answered, with a new mark
abbrev pub answering : Arc → Mark → ℕ → Who → Digest → Move
answering a x units who d =
    perform (TxOut.Recovery a.peer (PeerRecord.AcceptAssoc x (next_mark who d) units) ∷ [])
    (answered a units Side.Subordinate (Live x (next_mark who d) 0 0) (with_mark_drawn d))

-- and its user is told
abbrev pub entering_tree : Addr → Aaid → BranchId → Holder → Who → Digest → Move
entering_tree superior t b h who d = perform (TxOut.Tell (Indication.BeginTransaction superior.node t) ∷ []) (begun_under superior t b h d)

-- ---- the association with that pair is shut, and the loss follows

abbrev pub breaking : Addr → Mark → Mark → Who → Digest → Move
breaking from x y who d = followed (perform (TxOut.Recovery from (PeerRecord.ShutAssoc x (Some y)) ∷ []) d) (lose who from.node)

-- ---- the peer answers the call on that arc, and the user is told

abbrev pub binding : Arc → Mark → Mark → ℕ → Who → Digest → Move
binding a x y units who d = perform (TxOut.Tell (Indication.BegunDialogue a.peer.node units) ∷ []) (answered a units Side.Superior (Live x y 0 0) d)

-- a chained arc that becomes live takes part at once
abbrev pub taking_part : ℕ → ℕ → Who → Digest → Move
taking_part p units who d =
    if not (is_chained (fresh_dialogue units Side.Superior)) then move [] d
    else if is_nil (phase_of d) then try_start who d
    else if is_active (phase_of d) && not (has_asked d) then begin_on who p d
    else move [] d
