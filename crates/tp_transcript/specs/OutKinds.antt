-- The first words of transcript lines, of records and of indications as values, with their texts.
use Rattle.std.specs.Prelude.{ℕ, List, [], ◌∷◌, codes}
use Rattle.tp_transcript.specs.declared.out_kinds.LogKind.{LogKind}
use Rattle.tp_transcript.specs.declared.out_kinds.DialogueKind.{DialogueKind}
use Rattle.tp_transcript.specs.declared.out_kinds.StateKind.{StateKind}
use Rattle.tp_transcript.specs.declared.out_kinds.SentKind.{SentKind}
use Rattle.tp_transcript.specs.declared.out_kinds.PeerTold.{PeerTold}
use Rattle.tp_transcript.specs.declared.out_kinds.ToldKind.{ToldKind}
use Rattle.tp_transcript.specs.declared.out_kinds.TreeKind.{TreeKind}
use Rattle.tp_transcript.specs.declared.out_kinds.OutKind.{OutKind}

abbrev pub log_kind_text : LogKind → List ℕ
log_kind_text LogKind.Boot = codes "boot"
log_kind_text LogKind.Ready = codes "ready"
log_kind_text LogKind.Heuristic = codes "heuristic"
log_kind_text LogKind.Commit = codes "commit"
log_kind_text LogKind.Damage = codes "damage"
log_kind_text LogKind.End = codes "end"

abbrev pub log_kind_list : List LogKind
log_kind_list =
    LogKind.Boot
    ∷ LogKind.Ready
    ∷ LogKind.Heuristic
    ∷ LogKind.Commit
    ∷ LogKind.Damage
    ∷ LogKind.End
    ∷ []

abbrev pub dialogue_kind_text : DialogueKind → List ℕ
dialogue_kind_text DialogueKind.EndDialogue = codes "end-dialogue"
dialogue_kind_text DialogueKind.UserData = codes "user"
dialogue_kind_text DialogueKind.UError = codes "u-error"
dialogue_kind_text DialogueKind.UAbort = codes "u-abort"
dialogue_kind_text DialogueKind.Grant = codes "grant"
dialogue_kind_text DialogueKind.AskControl = codes "request-control"
dialogue_kind_text DialogueKind.Handshake = codes "handshake"
dialogue_kind_text DialogueKind.HandshakeGrant = codes "handshake-grant"
dialogue_kind_text DialogueKind.Response = codes "response"
dialogue_kind_text DialogueKind.DeferEnd = codes "deferred-end"
dialogue_kind_text DialogueKind.DeferGrant = codes "deferred-grant"
dialogue_kind_text DialogueKind.Begin = codes "begin"
dialogue_kind_text DialogueKind.Prepare = codes "prepare"
dialogue_kind_text DialogueKind.Ready = codes "ready"
dialogue_kind_text DialogueKind.Commit = codes "commit"
dialogue_kind_text DialogueKind.Done = codes "done"
dialogue_kind_text DialogueKind.Rollback = codes "rollback"
dialogue_kind_text DialogueKind.RolledBack = codes "rolled-back"
dialogue_kind_text DialogueKind.Left = codes "left"
dialogue_kind_text DialogueKind.LeftEnd = codes "left-end"

abbrev pub dialogue_kind_list : List DialogueKind
dialogue_kind_list =
    DialogueKind.EndDialogue
    ∷ DialogueKind.UserData
    ∷ DialogueKind.UError
    ∷ DialogueKind.UAbort
    ∷ DialogueKind.Grant
    ∷ DialogueKind.AskControl
    ∷ DialogueKind.Handshake
    ∷ DialogueKind.HandshakeGrant
    ∷ DialogueKind.Response
    ∷ DialogueKind.DeferEnd
    ∷ DialogueKind.DeferGrant
    ∷ DialogueKind.Begin
    ∷ DialogueKind.Prepare
    ∷ DialogueKind.Ready
    ∷ DialogueKind.Commit
    ∷ DialogueKind.Done
    ∷ DialogueKind.Rollback
    ∷ DialogueKind.RolledBack
    ∷ DialogueKind.Left
    ∷ DialogueKind.LeftEnd
    ∷ []

abbrev pub state_kind_text : StateKind → List ℕ
state_kind_text StateKind.Commit = codes "commit"
state_kind_text StateKind.Done = codes "done"
state_kind_text StateKind.Unknown = codes "unknown"
state_kind_text StateKind.RetryLater = codes "retry-later"

abbrev pub state_kind_list : List StateKind
state_kind_list =
    StateKind.Commit
    ∷ StateKind.Done
    ∷ StateKind.Unknown
    ∷ StateKind.RetryLater
    ∷ []

abbrev pub sent_kind_text : SentKind → List ℕ
sent_kind_text SentKind.OpenAssoc = codes "open"
sent_kind_text SentKind.AcceptAssoc = codes "accept"
sent_kind_text SentKind.ShutAssoc = codes "shut"
sent_kind_text SentKind.OnAssoc = codes "data"
sent_kind_text SentKind.RecReady = codes "rec-ready"
sent_kind_text SentKind.RecCommit = codes "rec-commit"
sent_kind_text SentKind.RecReply = codes "rec-reply"
sent_kind_text SentKind.Forget = codes "forget"

abbrev pub sent_kind_list : List SentKind
sent_kind_list =
    SentKind.OpenAssoc
    ∷ SentKind.AcceptAssoc
    ∷ SentKind.ShutAssoc
    ∷ SentKind.OnAssoc
    ∷ SentKind.RecReady
    ∷ SentKind.RecCommit
    ∷ SentKind.RecReply
    ∷ SentKind.Forget
    ∷ []

abbrev pub told_kind_text : ToldKind → List ℕ
told_kind_text ToldKind.BeginDialogue = codes "begin-dialogue"
told_kind_text ToldKind.BegunDialogue = codes "begun-dialogue"
told_kind_text (ToldKind.OfPeer PeerTold.Rejected) = codes "rejected"
told_kind_text (ToldKind.OfPeer PeerTold.EndDialogue) = codes "end-dialogue"
told_kind_text ToldKind.UserData = codes "data"
told_kind_text (ToldKind.OfPeer PeerTold.UError) = codes "u-error"
told_kind_text (ToldKind.OfPeer PeerTold.UAbort) = codes "u-abort"
told_kind_text (ToldKind.OfPeer PeerTold.PAbort) = codes "p-abort"
told_kind_text (ToldKind.OfPeer PeerTold.Grant) = codes "grant-control"
told_kind_text (ToldKind.OfPeer PeerTold.AskControl) = codes "request-control"
told_kind_text (ToldKind.OfPeer PeerTold.Handshake) = codes "handshake"
told_kind_text (ToldKind.OfPeer PeerTold.HandshakeConfirm) = codes "handshake-confirm"
told_kind_text (ToldKind.OfPeer PeerTold.HandshakeGrant) = codes "handshake-and-grant"
told_kind_text ToldKind.BeginTransaction = codes "begin-transaction"
told_kind_text (ToldKind.OfPeer PeerTold.DeferEnd) = codes "deferred-end"
told_kind_text (ToldKind.OfPeer PeerTold.DeferGrant) = codes "deferred-grant"
told_kind_text ToldKind.Prepare = codes "prepare"
told_kind_text (ToldKind.OfPeer PeerTold.Ready) = codes "ready"
told_kind_text ToldKind.Commit = codes "commit"
told_kind_text ToldKind.CommitComplete = codes "commit-complete"
told_kind_text ToldKind.Rollback = codes "rollback"
told_kind_text ToldKind.RollbackComplete = codes "rollback-complete"
told_kind_text ToldKind.HeuristicReport = codes "heuristic-report"
told_kind_text (ToldKind.OfPeer PeerTold.Left) = codes "left"

abbrev pub told_kind_list : List ToldKind
told_kind_list =
    ToldKind.BeginDialogue
    ∷ ToldKind.BegunDialogue
    ∷ ToldKind.OfPeer PeerTold.Rejected
    ∷ ToldKind.OfPeer PeerTold.EndDialogue
    ∷ ToldKind.UserData
    ∷ ToldKind.OfPeer PeerTold.UError
    ∷ ToldKind.OfPeer PeerTold.UAbort
    ∷ ToldKind.OfPeer PeerTold.PAbort
    ∷ ToldKind.OfPeer PeerTold.Grant
    ∷ ToldKind.OfPeer PeerTold.AskControl
    ∷ ToldKind.OfPeer PeerTold.Handshake
    ∷ ToldKind.OfPeer PeerTold.HandshakeConfirm
    ∷ ToldKind.OfPeer PeerTold.HandshakeGrant
    ∷ ToldKind.BeginTransaction
    ∷ ToldKind.OfPeer PeerTold.DeferEnd
    ∷ ToldKind.OfPeer PeerTold.DeferGrant
    ∷ ToldKind.Prepare
    ∷ ToldKind.OfPeer PeerTold.Ready
    ∷ ToldKind.Commit
    ∷ ToldKind.CommitComplete
    ∷ ToldKind.Rollback
    ∷ ToldKind.RollbackComplete
    ∷ ToldKind.HeuristicReport
    ∷ ToldKind.OfPeer PeerTold.Left
    ∷ []

abbrev pub tree_kind_text : TreeKind → List ℕ
tree_kind_text TreeKind.Agreed = codes "agreed"
tree_kind_text TreeKind.Mixed = codes "mixed"
tree_kind_text TreeKind.Open = codes "open"

abbrev pub tree_kind_list : List TreeKind
tree_kind_list =
    TreeKind.Agreed
    ∷ TreeKind.Mixed
    ∷ TreeKind.Open
    ∷ []

abbrev pub out_kind_text : OutKind → List ℕ
out_kind_text OutKind.Log = codes "log"
out_kind_text OutKind.Take = codes "take"
out_kind_text OutKind.Send = codes "send"
out_kind_text OutKind.Tell = codes "tell"
out_kind_text OutKind.Refused = codes "refused"
out_kind_text OutKind.Dropped = codes "dropped"
out_kind_text OutKind.Nothing = codes "nothing"
out_kind_text OutKind.Lost = codes "lost"
out_kind_text OutKind.Stopped = codes "stopped"
out_kind_text OutKind.State = codes "state"
out_kind_text OutKind.Image = codes "image"
out_kind_text OutKind.Tree = codes "tree"

abbrev pub out_kind_list : List OutKind
out_kind_list =
    OutKind.Log
    ∷ OutKind.Take
    ∷ OutKind.Send
    ∷ OutKind.Tell
    ∷ OutKind.Refused
    ∷ OutKind.Dropped
    ∷ OutKind.Nothing
    ∷ OutKind.Lost
    ∷ OutKind.Stopped
    ∷ OutKind.State
    ∷ OutKind.Image
    ∷ OutKind.Tree
    ∷ []
