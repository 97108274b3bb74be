-- The first words of lines and requests as values, and how what stands after each is read.
-- With their texts they are the tables of reading, entry for entry.
use Rattle.std.specs.Prelude.{ℕ, Option, Some, None, List, [], ◌∷◌, true, false, codes}
use Rattle.tp_names.specs.Same.{is_name}
use Rattle.tp_model.specs.declared.line.LineRequest.{LineRequest}
use Rattle.tp_model.specs.declared.line.Action.{Action}
use Rattle.tp_model.specs.declared.line.Line.{Line}
use Rattle.tp_model.specs.LineReading.{Form, Wrong, no_words, one_word, two_words, number, units, octets, outcome, site, do_from, node_from, crash_from}
use Rattle.tp_schedule.specs.declared.schedule_words.LineWord.{LineWord}
use Rattle.tp_schedule.specs.declared.schedule_words.ActionWord.{ActionWord}
use Rattle.tp_schedule.specs.declared.schedule_words.PeerRequest.{PeerRequest}
use Rattle.tp_schedule.specs.declared.schedule_words.RequestWord.{RequestWord}

-- the value of the first entry of a table whose text is w
abbrev pub found : {E K : Type 0} → List E → (E → List ℕ) → (E → K) → List ℕ → Option K
found [] text value w = None
found (e ∷ es) text value w = elim (is_name (text e) w) [ true ↦ Some (value e) | false ↦ found es text value w ]

-- the first of the values whose text is w
abbrev pub named : {K : Type 0} → (K → List ℕ) → List K → List ℕ → Option K
named text [] w = None
named text (k ∷ ks) w = elim (is_name (text k) w) [ true ↦ Some k | false ↦ named text ks w ]

-- the words after a first word; where that one is none, it is of a wrong form
abbrev pub behind : {K A : Type 0} → (K → List (List ℕ) → Form A) → Option K → List (List ℕ) → Form A
behind reader None ws = Wrong
behind reader (Some k) ws = reader k ws

-- ----

abbrev pub line_word_text : LineWord → List ℕ
line_word_text LineWord.Node = codes "node"
line_word_text LineWord.Do = codes "do"
line_word_text LineWord.Pass = codes "pass"
line_word_text LineWord.Skip = codes "skip"
line_word_text LineWord.Again = codes "again"
line_word_text LineWord.Drain = codes "drain"
line_word_text LineWord.Lose = codes "lose"
line_word_text LineWord.Heur = codes "heur"
line_word_text LineWord.GiveUp = codes "giveup"
line_word_text LineWord.Retry = codes "retry"
line_word_text LineWord.Purge = codes "purge"
line_word_text LineWord.Crash = codes "crash"
line_word_text LineWord.Show = codes "show"
line_word_text LineWord.Image = codes "image"
line_word_text LineWord.Auto = codes "auto"
line_word_text LineWord.Leave = codes "leave"

abbrev pub line_word_list : List LineWord
line_word_list =
    LineWord.Node
    ∷ LineWord.Do
    ∷ LineWord.Pass
    ∷ LineWord.Skip
    ∷ LineWord.Again
    ∷ LineWord.Drain
    ∷ LineWord.Lose
    ∷ LineWord.Heur
    ∷ LineWord.GiveUp
    ∷ LineWord.Retry
    ∷ LineWord.Purge
    ∷ LineWord.Crash
    ∷ LineWord.Show
    ∷ LineWord.Image
    ∷ LineWord.Auto
    ∷ LineWord.Leave
    ∷ []

abbrev pub line_reader : LineWord → List (List ℕ) → Form Line
line_reader LineWord.Node = node_from
line_reader LineWord.Do = do_from Line.Do
line_reader LineWord.Pass = two_words Line.Pass number number
line_reader LineWord.Skip = two_words Line.Skip number number
line_reader LineWord.Again = one_word Line.Again number
line_reader LineWord.Drain = no_words Line.Drain
line_reader LineWord.Lose = two_words Line.Lose number number
line_reader LineWord.Heur = two_words Line.Heur number outcome
line_reader LineWord.GiveUp = two_words Line.GiveUp number number
line_reader LineWord.Retry = one_word Line.Retry number
line_reader LineWord.Purge = one_word Line.Purge number
line_reader LineWord.Crash = crash_from
line_reader LineWord.Show = one_word Line.Show number
line_reader LineWord.Image = one_word Line.Image site
line_reader LineWord.Auto = two_words Line.Auto number number
line_reader LineWord.Leave = one_word Line.Leave number

-- ----

abbrev pub action_word_text : ActionWord → List ℕ
action_word_text ActionWord.Do = codes "do"
action_word_text ActionWord.Pass = codes "pass"
action_word_text ActionWord.Again = codes "again"
action_word_text ActionWord.Lose = codes "lose"
action_word_text ActionWord.Heur = codes "heur"
action_word_text ActionWord.GiveUp = codes "giveup"
action_word_text ActionWord.Retry = codes "retry"
action_word_text ActionWord.Purge = codes "purge"

abbrev pub action_word_list : List ActionWord
action_word_list =
    ActionWord.Do
    ∷ ActionWord.Pass
    ∷ ActionWord.Again
    ∷ ActionWord.Lose
    ∷ ActionWord.Heur
    ∷ ActionWord.GiveUp
    ∷ ActionWord.Retry
    ∷ ActionWord.Purge
    ∷ []

abbrev pub action_reader : ActionWord → List (List ℕ) → Form Action
action_reader ActionWord.Do = do_from Action.Do
action_reader ActionWord.Pass = two_words Action.Pass number number
action_reader ActionWord.Again = one_word Action.Again number
action_reader ActionWord.Lose = two_words Action.Lose number number
action_reader ActionWord.Heur = two_words Action.Heur number outcome
action_reader ActionWord.GiveUp = two_words Action.GiveUp number number
action_reader ActionWord.Retry = one_word Action.Retry number
action_reader ActionWord.Purge = one_word Action.Purge number

-- ----

abbrev pub request_word_text : RequestWord → List ℕ
request_word_text RequestWord.BeginDialogue = codes "begin-dialogue"
request_word_text RequestWord.Accept = codes "accept"
request_word_text RequestWord.Reject = codes "reject"
request_word_text (RequestWord.OfPeer PeerRequest.EndDialogue) = codes "end-dialogue"
request_word_text RequestWord.UserData = codes "data"
request_word_text (RequestWord.OfPeer PeerRequest.UError) = codes "u-error"
request_word_text (RequestWord.OfPeer PeerRequest.UAbort) = codes "u-abort"
request_word_text (RequestWord.OfPeer PeerRequest.Grant) = codes "grant-control"
request_word_text (RequestWord.OfPeer PeerRequest.AskControl) = codes "request-control"
request_word_text (RequestWord.OfPeer PeerRequest.Handshake) = codes "handshake"
request_word_text (RequestWord.OfPeer PeerRequest.Respond) = codes "respond"
request_word_text (RequestWord.OfPeer PeerRequest.HandshakeGrant) = codes "handshake-and-grant"
request_word_text (RequestWord.OfPeer PeerRequest.BeginTransaction) = codes "begin-transaction"
request_word_text (RequestWord.OfPeer PeerRequest.DeferEnd) = codes "deferred-end"
request_word_text (RequestWord.OfPeer PeerRequest.DeferGrant) = codes "deferred-grant"
request_word_text (RequestWord.OfPeer PeerRequest.Prepare) = codes "prepare"
request_word_text RequestWord.Commit = codes "commit"
request_word_text RequestWord.Done = codes "done"
request_word_text RequestWord.Rollback = codes "rollback"
request_word_text RequestWord.Unchanged = codes "unchanged"

abbrev pub request_word_list : List RequestWord
request_word_list =
    RequestWord.BeginDialogue
    ∷ RequestWord.Accept
    ∷ RequestWord.Reject
    ∷ RequestWord.OfPeer PeerRequest.EndDialogue
    ∷ RequestWord.UserData
    ∷ RequestWord.OfPeer PeerRequest.UError
    ∷ RequestWord.OfPeer PeerRequest.UAbort
    ∷ RequestWord.OfPeer PeerRequest.Grant
    ∷ RequestWord.OfPeer PeerRequest.AskControl
    ∷ RequestWord.OfPeer PeerRequest.Handshake
    ∷ RequestWord.OfPeer PeerRequest.Respond
    ∷ RequestWord.OfPeer PeerRequest.HandshakeGrant
    ∷ RequestWord.OfPeer PeerRequest.BeginTransaction
    ∷ RequestWord.OfPeer PeerRequest.DeferEnd
    ∷ RequestWord.OfPeer PeerRequest.DeferGrant
    ∷ RequestWord.OfPeer PeerRequest.Prepare
    ∷ RequestWord.Commit
    ∷ RequestWord.Done
    ∷ RequestWord.Rollback
    ∷ RequestWord.Unchanged
    ∷ []

abbrev pub request_of_peer : PeerRequest → ℕ → LineRequest
request_of_peer PeerRequest.EndDialogue = LineRequest.EndDialogue
request_of_peer PeerRequest.UError = LineRequest.UError
request_of_peer PeerRequest.UAbort = LineRequest.UAbort
request_of_peer PeerRequest.Grant = LineRequest.Grant
request_of_peer PeerRequest.AskControl = LineRequest.AskControl
request_of_peer PeerRequest.Handshake = LineRequest.Handshake
request_of_peer PeerRequest.Respond = LineRequest.Respond
request_of_peer PeerRequest.HandshakeGrant = LineRequest.HandshakeGrant
request_of_peer PeerRequest.BeginTransaction = LineRequest.BeginTransaction
request_of_peer PeerRequest.DeferEnd = LineRequest.DeferEnd
request_of_peer PeerRequest.DeferGrant = LineRequest.DeferGrant
request_of_peer PeerRequest.Prepare = LineRequest.Prepare

abbrev pub request_reader : RequestWord → List (List ℕ) → Form LineRequest
request_reader RequestWord.BeginDialogue = two_words LineRequest.BeginDialogue number units
request_reader RequestWord.Accept = one_word LineRequest.Accept units
request_reader RequestWord.Reject = no_words LineRequest.Reject
request_reader RequestWord.UserData = two_words LineRequest.UserData number octets
request_reader RequestWord.Commit = no_words LineRequest.Commit
request_reader RequestWord.Done = no_words LineRequest.Done
request_reader RequestWord.Rollback = no_words LineRequest.Rollback
request_reader RequestWord.Unchanged = no_words LineRequest.Unchanged
request_reader (RequestWord.OfPeer k) = one_word (request_of_peer k) number
