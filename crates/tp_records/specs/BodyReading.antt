-- How requests, indications, records and bodies are read from the front of bytes.
-- The table of a sort has a line for each code; a code that is in no table is in no text.
use Rattle.std.specs.Prelude.{ℕ, ◌&&◌, ◌||◌, nat_le, Bool, true, false, Option, Some, None, List, [], ◌∷◌}
use Rattle.tp_names.specs.Reading.{Reader, make, ◌and◌, that, read_byte, read_short, read_long, read_by_code, read_maybe, read_mark, read_aaid, read_branch, read_addr, read_outcome, read_report, read_octets}
use Rattle.tp_names.specs.Grammar.{Grammar}
use Rattle.tp_units.specs.Units.{is_permitted}
use Rattle.tp_records.specs.declared.request.Request.{Request}
use Rattle.tp_records.specs.declared.indication.Indication.{Indication}
use Rattle.tp_records.specs.declared.dialogue.DialogueRecord.{DialogueRecord}
use Rattle.tp_records.specs.declared.dialogue.Holder.{Holder}
use Rattle.tp_records.specs.declared.peer.PeerRecord.{PeerRecord}
use Rattle.tp_records.specs.declared.peer.RecState.{RecState}
use Rattle.tp_records.specs.declared.body.Event.{Event}
use Rattle.tp_records.specs.declared.body.Output.{Output}
use Rattle.tp_records.specs.declared.body.Body.{Body}
use Rattle.tp_records.specs.Bodies.{peer_bytes, body_bytes}

-- a permitted set
abbrev pub read_units : Reader ℕ
read_units = that is_permitted read_byte

-- a code, and a value with a peer's number
abbrev pub of_peer : {A : Type 0} → ℕ → (ℕ → A) → ℕ × Reader A
of_peer code f = (code, make f and read_short)

-- ---- requests and indications

abbrev pub request_kinds : List (ℕ × Reader Request)
request_kinds =
    (1, make (λ a u. Request.BeginDialogue a u) and read_addr and read_byte)
    ∷ (2, make (λ u. Request.Accept u) and read_byte)
    ∷ (3, make Request.Reject)
    ∷ of_peer 4 (λ p. Request.EndDialogue p)
    ∷ (5, make (λ p xs. Request.UserData p xs) and read_short and read_octets 2000)
    ∷ of_peer 6 (λ p. Request.UError p)
    ∷ of_peer 7 (λ p. Request.UAbort p)
    ∷ of_peer 8 (λ p. Request.Grant p)
    ∷ of_peer 9 (λ p. Request.AskControl p)
    ∷ of_peer 10 (λ p. Request.Handshake p)
    ∷ of_peer 11 (λ p. Request.Respond p)
    ∷ of_peer 12 (λ p. Request.HandshakeGrant p)
    ∷ of_peer 13 (λ p. Request.BeginTransaction p)
    ∷ of_peer 14 (λ p. Request.DeferEnd p)
    ∷ of_peer 15 (λ p. Request.DeferGrant p)
    ∷ of_peer 16 (λ p. Request.Prepare p)
    ∷ (17, make Request.Commit)
    ∷ (18, make Request.Done)
    ∷ (19, make Request.Rollback)
    ∷ (20, make Request.Unchanged)
    ∷ []

abbrev pub read_request : Reader Request
read_request = read_by_code request_kinds

abbrev pub indication_kinds : List (ℕ × Reader Indication)
indication_kinds =
    (1, make (λ p u. Indication.BeginDialogue p u) and read_short and read_units)
    ∷ (2, make (λ p u. Indication.BegunDialogue p u) and read_short and read_units)
    ∷ of_peer 3 (λ p. Indication.Rejected p)
    ∷ of_peer 4 (λ p. Indication.EndDialogue p)
    ∷ (5, make (λ p xs. Indication.UserData p xs) and read_short and read_octets 1024)
    ∷ of_peer 6 (λ p. Indication.UError p)
    ∷ of_peer 7 (λ p. Indication.UAbort p)
    ∷ of_peer 8 (λ p. Indication.PAbort p)
    ∷ of_peer 9 (λ p. Indication.Grant p)
    ∷ of_peer 10 (λ p. Indication.AskControl p)
    ∷ of_peer 11 (λ p. Indication.Handshake p)
    ∷ of_peer 12 (λ p. Indication.HandshakeConfirm p)
    ∷ of_peer 13 (λ p. Indication.HandshakeGrant p)
    ∷ (14, make (λ p a. Indication.BeginTransaction p a) and read_short and read_aaid)
    ∷ of_peer 15 (λ p. Indication.DeferEnd p)
    ∷ of_peer 16 (λ p. Indication.DeferGrant p)
    ∷ (17, make Indication.Prepare)
    ∷ of_peer 18 (λ p. Indication.Ready p)
    ∷ (19, make Indication.Commit)
    ∷ (20, make (λ r. Indication.CommitComplete r) and read_report)
    ∷ (21, make Indication.Rollback)
    ∷ (22, make (λ r. Indication.RollbackComplete r) and read_report)
    ∷ (23, make (λ p r. Indication.HeuristicReport p r) and read_short and read_report)
    ∷ of_peer 24 (λ p. Indication.Left p)
    ∷ []

abbrev pub read_indication : Reader Indication
read_indication = read_by_code indication_kinds

-- ---- records of dialogues and of peers

abbrev pub holder_kinds : List (ℕ × Reader Holder)
holder_kinds =
    (0, make Holder.None)
    ∷ (1, make Holder.Superior)
    ∷ (2, make Holder.Subordinate)
    ∷ []

abbrev pub read_holder : Reader Holder
read_holder = read_by_code holder_kinds

abbrev pub dialogue_kinds : List (ℕ × Reader DialogueRecord)
dialogue_kinds =
    (1, make DialogueRecord.EndDialogue)
    ∷ (2, make (λ xs. DialogueRecord.UserData xs) and read_octets 1024)
    ∷ (3, make DialogueRecord.UError)
    ∷ (4, make DialogueRecord.UAbort)
    ∷ (5, make DialogueRecord.Grant)
    ∷ (6, make DialogueRecord.AskControl)
    ∷ (7, make DialogueRecord.Handshake)
    ∷ (8, make DialogueRecord.HandshakeGrant)
    ∷ (9, make DialogueRecord.Response)
    ∷ (10, make DialogueRecord.DeferEnd)
    ∷ (11, make DialogueRecord.DeferGrant)
    ∷ (12, make (λ a b h. DialogueRecord.Begin a b h) and read_aaid and read_branch and read_holder)
    ∷ (13, make DialogueRecord.Prepare)
    ∷ (14, make DialogueRecord.Ready)
    ∷ (15, make DialogueRecord.Commit)
    ∷ (16, make (λ r. DialogueRecord.Done r) and read_report)
    ∷ (17, make DialogueRecord.Rollback)
    ∷ (18, make (λ r. DialogueRecord.RolledBack r) and read_report)
    ∷ (19, make DialogueRecord.Left)
    ∷ (20, make DialogueRecord.LeftEnd)
    ∷ []

abbrev pub read_dialogue : Reader DialogueRecord
read_dialogue = read_by_code dialogue_kinds

abbrev pub state_kinds : List (ℕ × Reader RecState)
state_kinds =
    (1, make RecState.Commit)
    ∷ (2, make (λ r. RecState.Done r) and read_report)
    ∷ (3, make RecState.Unknown)
    ∷ (4, make RecState.RetryLater)
    ∷ []

abbrev pub read_state : Reader RecState
read_state = read_by_code state_kinds

abbrev pub peer_kinds : List (ℕ × Reader PeerRecord)
peer_kinds =
    (1, make (λ x u. PeerRecord.OpenAssoc x u) and read_mark and read_units)
    ∷ (2, make (λ x y u. PeerRecord.AcceptAssoc x y u) and read_mark and read_mark and read_units)
    ∷ (3, make (λ x y. PeerRecord.ShutAssoc x y) and read_mark and read_maybe read_mark)
    ∷ (4, make (λ x y s r. PeerRecord.OnAssoc x y s r) and read_mark and read_mark and read_long and read_dialogue)
    ∷ (5, make (λ a b. PeerRecord.RecReady a b) and read_aaid and read_branch)
    ∷ (6, make (λ a b. PeerRecord.RecCommit a b) and read_aaid and read_branch)
    ∷ (7, make (λ a b s. PeerRecord.RecReply a b s) and read_aaid and read_branch and read_state)
    ∷ (8, make (λ a b. PeerRecord.Forget a b) and read_aaid and read_branch)
    ∷ []

abbrev pub read_peer : Reader PeerRecord
read_peer = read_by_code peer_kinds

-- ---- bodies

abbrev pub whole : {A : Type 0} → Option (A × List ℕ) → Option A
whole None = None
whole (Some p) = elim p.1 [ [] ↦ Some p.0 | b ∷ bytes ↦ None ]

-- the record of which these octets are the whole text
abbrev pub peer_in : List ℕ → Option PeerRecord
peer_in octets = whole (read_peer octets)

-- the octets of what is sent are the text of one record
abbrev pub is_peer_text : List ℕ → Bool
is_peer_text octets = elim (peer_in octets) [ None ↦ false | Some r ↦ true ]

-- 1 to 17, and 21 to 25
abbrev pub is_refusal : ℕ → Bool
is_refusal n = (nat_le 1 n && nat_le n 17) || (nat_le 21 n && nat_le n 25)

abbrev pub body_kinds : List (ℕ × Reader Body)
body_kinds =
    (1, make (λ n s. Body.Event (Event.Declare n s)) and read_short and read_maybe read_addr)
    ∷ (2, make (λ n r. Body.Event (Event.Do n r)) and read_short and read_request)
    ∷ (3, make (λ from to xs. Body.Event (Event.Arrive from to xs)) and read_addr and read_addr and read_octets 2000)
    ∷ (4, make (λ n p. Body.Event (Event.Lose n p)) and read_short and read_short)
    ∷ (5, make (λ n o. Body.Event (Event.Heur n o)) and read_short and read_outcome)
    ∷ (6, make (λ n p. Body.Event (Event.GiveUp n p)) and read_short and read_short)
    ∷ (7, make (λ n. Body.Event (Event.Retry n)) and read_short)
    ∷ (8, make (λ n. Body.Event (Event.Purge n)) and read_short)
    ∷ (16, make (λ n i. Body.Output (Output.Tell n i)) and read_short and read_indication)
    ∷ (17, make (λ from to xs. Body.Output (Output.Send from to xs)) and read_addr and read_addr and that is_peer_text (read_octets 2000))
    ∷ (18, make (λ k. Body.Output (Output.Refused k)) and that is_refusal read_byte)
    ∷ (19, make (Body.Output Output.Over))
    ∷ []

abbrev pub read_body : Reader Body
read_body = read_by_code body_kinds

-- the event of which these bytes are the whole text
abbrev pub event_of : Option Body → Option Event
event_of None = None
event_of (Some (Body.Event e)) = Some e
event_of (Some (Body.Output o)) = None

abbrev pub event_in : List ℕ → Option Event
event_in bytes = event_of (whole (read_body bytes))

-- ---- the two sorts of texts

abbrev pub peer_grammar : Grammar PeerRecord
peer_grammar = record { bytes = peer_bytes; reader = read_peer }

abbrev pub body_grammar : Grammar Body
body_grammar = record { bytes = body_bytes; reader = read_body }
