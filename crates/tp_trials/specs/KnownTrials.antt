-- Histories of one node, for worked examples of what is known after them.
use Rattle.std.specs.Prelude.{ℕ, Bool, true, false, Some, None, List, [], ◌∷◌, codes}
use Rattle.tp_names.specs.declared.identifiers.Mark.{Mark}
use Rattle.tp_names.specs.declared.identifiers.Aaid.{Aaid}
use Rattle.tp_names.specs.declared.identifiers.BranchId.{BranchId}
use Rattle.tp_names.specs.declared.identifiers.Addr.{Addr}
use Rattle.tp_names.specs.declared.identifiers.NodeKey.{NodeKey}
use Rattle.tp_names.specs.declared.outcome.Outcome.{Outcome}
use Rattle.tp_names.specs.declared.outcome.Report.{Report}
use Rattle.tp_names.specs.declared.children.Child.{Child}
use Rattle.tp_records.specs.declared.request.Request.{Request}
use Rattle.tp_records.specs.declared.dialogue.DialogueRecord.{DialogueRecord}
use Rattle.tp_records.specs.declared.dialogue.Holder.{Holder}
use Rattle.tp_records.specs.declared.peer.PeerRecord.{PeerRecord}
use Rattle.tp_records.specs.declared.peer.RecState.{RecState}
use Rattle.tp_logrec.specs.declared.record.LogVersion.{LogVersion}
use Rattle.tp_logrec.specs.declared.record.LogRec.{LogRec}
use Rattle.tp_model.specs.Parts.{Origin, Event, Declare, Do, Arrive, Lose, Heur, GiveUp, Entry}
use Rattle.tp_model.specs.History.{grown, refuse}
use Rattle.tp_model.specs.Questions.{said_to, has_said}
use Rattle.tp_model.specs.Keys.{is_prepare_record}

-- a node in the middle, with a superior and one subordinate, that starts on those records
abbrev pub starting : ℕ → List LogRec → Origin
starting boot rs = record { who = record { site = codes "b"; node = 2 }; start = record { boot = boot; version = LogVersion.One; records = rs } }

abbrev pub middle : Origin
middle = starting 1 []

abbrev pub above : Addr
above = record { site = codes "a"; node = 1 }

abbrev pub below : Addr
below = record { site = codes "c"; node = 3 }

abbrev pub mark_of : ℕ → ℕ → Mark
mark_of n k = record { boot = 1; node = n; count = k }

abbrev pub grows : Origin → List Entry → List Event → List Entry
grows o h [] = h
grows o h (e ∷ es) = grows o (grown o h e) es

-- each event was accepted where it came
abbrev pub fits : Origin → List Entry → List Event → Bool
fits o h [] = true
fits o h (e ∷ es) = elim (refuse o h e) [ None ↦ fits o (grown o h e) es | Some n ↦ false ]

-- what the superior says on its association, and the subordinate on its own
abbrev pub from_above : ℕ → DialogueRecord → Event
from_above q r = Arrive above (PeerRecord.OnAssoc (mark_of 1 1) (mark_of 2 1) q r)

abbrev pub from_below : ℕ → DialogueRecord → Event
from_below q r = Arrive below (PeerRecord.OnAssoc (mark_of 2 2) (mark_of 3 1) q r)

-- both are linked
abbrev pub linked : List Event
linked =
    Declare (Some above)
    ∷ Arrive above (PeerRecord.OpenAssoc (mark_of 1 1) 41)
    ∷ Do (Request.Accept 41)
    ∷ Do (Request.BeginDialogue below 41)
    ∷ Arrive below (PeerRecord.AcceptAssoc (mark_of 2 2) (mark_of 3 1) 41)
    ∷ []

-- a dialogue with another node is asked for; the user breaks off the first, and asks for it again
abbrev pub beside : Addr
beside = record { site = codes "d"; node = 4 }

abbrev pub calling : List Event
calling = Do (Request.BeginDialogue beside 41) ∷ []

abbrev pub recalling : List Event
recalling = Do (Request.UAbort 3) ∷ Do (Request.BeginDialogue below 41) ∷ []

-- the superior begins a tree with a mark that this node has yet to draw, and the node passes it on
abbrev pub foretold : Aaid
foretold = record { owner = codes "b"; mark = mark_of 2 9 }

abbrev pub foretold_key : NodeKey
foretold_key = record { aaid = foretold; branch = Some (record { superior = codes "a"; mark = mark_of 1 2 }) }

abbrev pub foretelling : List Event
foretelling =
    from_above 0 (DialogueRecord.Begin foretold (record { superior = codes "a"; mark = mark_of 1 2 }) Holder.None)
    ∷ Do (Request.BeginTransaction 3)
    ∷ []

-- a start on a record of a tree of another node, ready, and of a tree of its own, whose record names a superior
abbrev pub elsewhere : Aaid
elsewhere = record { owner = codes "a"; mark = mark_of 1 2 }

abbrev pub of_above : BranchId
of_above = record { superior = codes "a"; mark = mark_of 1 3 }

abbrev pub of_middle : BranchId
of_middle = record { superior = codes "b"; mark = mark_of 2 3 }

abbrev pub branch_key : NodeKey
branch_key = record { aaid = elsewhere; branch = Some of_above }

abbrev pub root_key : NodeKey
root_key = record { aaid = foretold; branch = None }

abbrev pub one_child : List Child
one_child = record { addr = below; branch = of_middle } ∷ []

abbrev pub as_branch : Origin
as_branch = starting 2 (LogRec.Ready 2 branch_key above one_child ∷ [])

abbrev pub as_root : Origin
as_root = starting 2 (LogRec.Ready 2 root_key above one_child ∷ [])

-- a start on a damage of a branch that committed and is owed to one below it
abbrev pub as_damaged : Origin
as_damaged =
    starting 2
    (LogRec.Ready 2 branch_key above one_child
    ∷ LogRec.Commit 2 branch_key (Some above) one_child
    ∷ LogRec.Damage 2 branch_key (Some above) Outcome.Commit Report.Mix one_child
    ∷ [])

-- the superior forgets
abbrev pub forgetting : List Event
forgetting = Declare (Some above) ∷ Arrive above (PeerRecord.Forget elsewhere of_above) ∷ []

-- the node decides to commit
abbrev pub deciding : List Event
deciding = Heur Outcome.Commit ∷ []

-- the node without a superior begins a tree of its own, and its user asks for commitment
abbrev pub beginning : List Event
beginning =
    Declare None
    ∷ Do (Request.BeginDialogue below 41)
    ∷ Arrive below (PeerRecord.AcceptAssoc (mark_of 2 1) (mark_of 3 1) 41)
    ∷ Do (Request.BeginTransaction 3)
    ∷ []

abbrev pub asking : List Event
asking = Do Request.Commit ∷ []

abbrev pub own_key : NodeKey
own_key = record { aaid = record { owner = codes "b"; mark = mark_of 2 2 }; branch = None }

-- the superior asks to prepare
abbrev pub preparing : List Event
preparing = from_above 1 DialogueRecord.Prepare ∷ []

-- and the node leaves; then a response comes, or user data
abbrev pub leaving : List Event
leaving = from_above 0 (DialogueRecord.Begin foretold (record { superior = codes "a"; mark = mark_of 1 2 }) Holder.None) ∷ from_above 1
    DialogueRecord.Prepare ∷ Do Request.Unchanged ∷ []

abbrev pub responding : List Event
responding = from_above 2 DialogueRecord.Response ∷ []

abbrev pub speaking : List Event
speaking = from_above 2 DialogueRecord.UError ∷ []

-- both are linked with handshakes and control; a handshake goes out below, and is answered
abbrev pub polarized : List Event
polarized =
    Declare (Some above)
    ∷ Arrive above (PeerRecord.OpenAssoc (mark_of 1 1) 46)
    ∷ Do (Request.Accept 46)
    ∷ Do (Request.BeginDialogue below 46)
    ∷ Arrive below (PeerRecord.AcceptAssoc (mark_of 2 2) (mark_of 3 1) 46)
    ∷ []

abbrev pub shaking : List Event
shaking = Do (Request.Handshake 3) ∷ []

abbrev pub answering : List Event
answering = from_below 0 DialogueRecord.Response ∷ []

-- the reply to a ready branch orders its commitment, and its user is done; or the superior knows of nothing
abbrev pub ordering : List Event
ordering = Arrive above (PeerRecord.RecReply elsewhere of_above RecState.Commit) ∷ []

abbrev pub finishing : List Event
finishing = Do Request.Done ∷ []

abbrev pub unknowing : List Event
unknowing = Arrive above (PeerRecord.RecReply elsewhere of_above RecState.Unknown) ∷ []

-- the node defers the end of its branch; then the superior rolls back
abbrev pub deferring : List Event
deferring = Do (Request.DeferEnd 3) ∷ []

abbrev pub rolling : List Event
rolling = from_above 1 DialogueRecord.Rollback ∷ []

-- the root defers the end of its branch, and both commit; then the branch is done
abbrev pub from_branch : ℕ → DialogueRecord → Event
from_branch q r = Arrive below (PeerRecord.OnAssoc (mark_of 2 1) (mark_of 3 1) q r)

abbrev pub committing : List Event
committing = Do (Request.DeferEnd 3) ∷ Do Request.Commit ∷ from_branch 0 DialogueRecord.Ready ∷ Do Request.Done ∷ []

abbrev pub completing : List Event
completing = from_branch 1 (DialogueRecord.Done Report.None) ∷ []

-- the superior shakes hands and gives control with it; the node answers; or the superior grants control meanwhile
abbrev pub entrusting : List Event
entrusting = from_above 0 DialogueRecord.HandshakeGrant ∷ []

abbrev pub replying : List Event
replying = Do (Request.Respond 1) ∷ []

abbrev pub granting : List Event
granting = from_above 1 DialogueRecord.Grant ∷ []

-- the node gives control to the node below
abbrev pub handing : List Event
handing = Do (Request.Grant 3) ∷ []

-- the branch of the node's own tree is ready, and ends, or is given up, once it was ordered to commit; or it leaves
abbrev pub readying : List Event
readying = Arrive below (PeerRecord.OnAssoc (mark_of 2 1) (mark_of 3 1) 0 DialogueRecord.Ready) ∷ []

abbrev pub own_child : Child
own_child = record { addr = below; branch = record { superior = codes "b"; mark = mark_of 2 3 } }

abbrev pub ending_below : List Event
ending_below = Arrive below (PeerRecord.OnAssoc (mark_of 2 1) (mark_of 3 1) 1 (DialogueRecord.Done Report.Hazard)) ∷ []

abbrev pub giving_up : List Event
giving_up = GiveUp 3 ∷ []

abbrev pub leaving_below : List Event
leaving_below = Arrive below (PeerRecord.OnAssoc (mark_of 2 1) (mark_of 3 1) 0 DialogueRecord.Left) ∷ []

-- both are linked, and below with chained transactions; the superior begins a tree with the mark that the node draws after that of its
-- own branch, the branch leaves, and the user breaks off the superior
abbrev pub chained_below : List Event
chained_below =
    Declare (Some above)
    ∷ Arrive above (PeerRecord.OpenAssoc (mark_of 1 1) 41)
    ∷ Do (Request.Accept 41)
    ∷ Do (Request.BeginDialogue below 25)
    ∷ Arrive below (PeerRecord.AcceptAssoc (mark_of 2 2) (mark_of 3 1) 25)
    ∷ []

abbrev pub drawn_next : Aaid
drawn_next = record { owner = codes "b"; mark = mark_of 2 4 }

abbrev pub foretelling_next : List Event
foretelling_next =
    from_above 0 (DialogueRecord.Begin drawn_next (record { superior = codes "a"; mark = mark_of 1 2 }) Holder.None)
    ∷ Do (Request.Prepare 3)
    ∷ from_below 0 DialogueRecord.Left
    ∷ []

abbrev pub breaking_off : List Event
breaking_off = Do (Request.UAbort 1) ∷ []

-- the node's own tree has two branches; it tells the first one to prepare, or loses the other one
abbrev pub forking : List Event
forking =
    Declare None
    ∷ Do (Request.BeginDialogue below 41)
    ∷ Arrive below (PeerRecord.AcceptAssoc (mark_of 2 1) (mark_of 3 1) 41)
    ∷ Do (Request.BeginDialogue beside 41)
    ∷ Arrive beside (PeerRecord.AcceptAssoc (mark_of 2 2) (mark_of 4 1) 41)
    ∷ Do (Request.BeginTransaction 3)
    ∷ Do (Request.BeginTransaction 4)
    ∷ []

abbrev pub fork_key : NodeKey
fork_key = record { aaid = record { owner = codes "b"; mark = mark_of 2 3 }; branch = None }

abbrev pub telling_first : List Event
telling_first = Do (Request.Prepare 3) ∷ []

abbrev pub losing : List Event
losing = Lose 4 ∷ []

-- the newest entry says Prepare to the peer
abbrev pub tells_now : ℕ → List Entry → Bool
tells_now p [] = false
tells_now p (e ∷ h) = has_said is_prepare_record (said_to p e.outs)

-- the user breaks off the dialogue below, and asks for one with a node of that number at another site
abbrev pub moved : Addr
moved = record { site = codes "d"; node = 3 }

abbrev pub moving : List Event
moving = Do (Request.UAbort 3) ∷ Do (Request.BeginDialogue moved 25) ∷ []
