-- Where a root's program stands with the current transaction of its node, by what is known of the node; and which calls are taken there.
use Rattle.std.specs.Prelude.{Bool, true, false, if◌then◌else◌}
use Rattle.tp_model.specs.declared.arc.Phase.{Phase}
use Rattle.tp_model.specs.Parts.{State, Digest}
use Rattle.tp_model.specs.History.{state}
use Rattle.tx_face.specs.declared.stand.Stand.{Stand}

abbrev pub stand_in : Phase → Bool → Bool → Stand
stand_in Phase.Nil asked owes = Stand.Idle
stand_in Phase.Active asked owes = if asked then Stand.Asked else Stand.Open
stand_in Phase.Ready asked owes = Stand.Closing
stand_in Phase.Committing asked owes = if owes then Stand.Owing else Stand.Closing
stand_in Phase.Rolling asked owes = if owes then Stand.Owing else Stand.Closing

abbrev pub stand_of : State → Stand
stand_of s = stand_in s.phase s.asked s.owes

abbrev pub stand : Digest → Stand
stand d = stand_of (state d)

-- ---- the calls that are taken

abbrev pub takes_begin : Stand → Bool
takes_begin Stand.Idle = true
takes_begin Stand.Open = true
takes_begin Stand.Asked = false
takes_begin Stand.Owing = false
takes_begin Stand.Closing = false

abbrev pub takes_commit : Stand → Bool
takes_commit Stand.Idle = false
takes_commit Stand.Open = true
takes_commit Stand.Asked = false
takes_commit Stand.Owing = false
takes_commit Stand.Closing = false

abbrev pub takes_rollback : Stand → Bool
takes_rollback Stand.Idle = false
takes_rollback Stand.Open = true
takes_rollback Stand.Asked = true
takes_rollback Stand.Owing = false
takes_rollback Stand.Closing = false

abbrev pub takes_finish : Stand → Bool
takes_finish Stand.Idle = false
takes_finish Stand.Open = false
takes_finish Stand.Asked = false
takes_finish Stand.Owing = true
takes_finish Stand.Closing = false
