-- How the code reads requests, indications, records and bodies: the tables of BodyReading with scans in place of readers.
-- What a scan is, and what it means that it is right, stands beside the small values.
use Rattle.std.specs.Prelude.{ℕ, List, [], ◌∷◌}
use Rattle.tp_names.specs.Scanning.{Scan, scan_make, ◌with◌, scan_byte, scan_byte_that, scan_short, scan_long, scan_by_code, scan_maybe, scan_mark, scan_aaid, scan_branch, scan_addr, scan_report, scan_octets}
use Rattle.tp_units.specs.Units.{is_permitted}
use Rattle.tp_records.specs.declared.request.Request.{Request}
use Rattle.tp_records.specs.declared.indication.Indication.{Indication}
use Rattle.tp_records.specs.declared.dialogue.DialogueRecord.{DialogueRecord}
use Rattle.tp_records.specs.declared.dialogue.Holder.{Holder}
use Rattle.tp_records.specs.declared.peer.PeerRecord.{PeerRecord}
use Rattle.tp_records.specs.declared.peer.RecState.{RecState}

unfoldable pub scan_units : Scan ℕ
scan_units = scan_byte_that is_permitted

abbrev pub scan_of_peer : {A : Type 0} → ℕ → (ℕ → A) → ℕ × Scan A
scan_of_peer code f = (code, scan_make f with scan_short)

abbrev pub request_scans : List (ℕ × Scan Request)
request_scans =
    (1, scan_make (λ a u. Request.BeginDialogue a u) with scan_addr with scan_byte)
    ∷ (2, scan_make (λ u. Request.Accept u) with scan_byte)
    ∷ (3, scan_make Request.Reject)
    ∷ scan_of_peer 4 (λ p. Request.EndDialogue p)
    ∷ (5, scan_make (λ p xs. Request.UserData p xs) with scan_short with scan_octets 2000)
    ∷ scan_of_peer 6 (λ p. Request.UError p)
    ∷ scan_of_peer 7 (λ p. Request.UAbort p)
    ∷ scan_of_peer 8 (λ p. Request.Grant p)
    ∷ scan_of_peer 9 (λ p. Request.AskControl p)
    ∷ scan_of_peer 10 (λ p. Request.Handshake p)
    ∷ scan_of_peer 11 (λ p. Request.Respond p)
    ∷ scan_of_peer 12 (λ p. Request.HandshakeGrant p)
    ∷ scan_of_peer 13 (λ p. Request.BeginTransaction p)
    ∷ scan_of_peer 14 (λ p. Request.DeferEnd p)
    ∷ scan_of_peer 15 (λ p. Request.DeferGrant p)
    ∷ scan_of_peer 16 (λ p. Request.Prepare p)
    ∷ (17, scan_make Request.Commit)
    ∷ (18, scan_make Request.Done)
    ∷ (19, scan_make Request.Rollback)
    ∷ (20, scan_make Request.Unchanged)
    ∷ []

unfoldable pub scan_request : Scan Request
scan_request = scan_by_code request_scans

abbrev pub indication_scans : List (ℕ × Scan Indication)
indication_scans =
    (1, scan_make (λ p u. Indication.BeginDialogue p u) with scan_short with scan_units)
    ∷ (2, scan_make (λ p u. Indication.BegunDialogue p u) with scan_short with scan_units)
    ∷ scan_of_peer 3 (λ p. Indication.Rejected p)
    ∷ scan_of_peer 4 (λ p. Indication.EndDialogue p)
    ∷ (5, scan_make (λ p xs. Indication.UserData p xs) with scan_short with scan_octets 1024)
    ∷ scan_of_peer 6 (λ p. Indication.UError p)
    ∷ scan_of_peer 7 (λ p. Indication.UAbort p)
    ∷ scan_of_peer 8 (λ p. Indication.PAbort p)
    ∷ scan_of_peer 9 (λ p. Indication.Grant p)
    ∷ scan_of_peer 10 (λ p. Indication.AskControl p)
    ∷ scan_of_peer 11 (λ p. Indication.Handshake p)
    ∷ scan_of_peer 12 (λ p. Indication.HandshakeConfirm p)
    ∷ scan_of_peer 13 (λ p. Indication.HandshakeGrant p)
    ∷ (14, scan_make (λ p a. Indication.BeginTransaction p a) with scan_short with scan_aaid)
    ∷ scan_of_peer 15 (λ p. Indication.DeferEnd p)
    ∷ scan_of_peer 16 (λ p. Indication.DeferGrant p)
    ∷ (17, scan_make Indication.Prepare)
    ∷ scan_of_peer 18 (λ p. Indication.Ready p)
    ∷ (19, scan_make Indication.Commit)
    ∷ (20, scan_make (λ r. Indication.CommitComplete r) with scan_report)
    ∷ (21, scan_make Indication.Rollback)
    ∷ (22, scan_make (λ r. Indication.RollbackComplete r) with scan_report)
    ∷ (23, scan_make (λ p r. Indication.HeuristicReport p r) with scan_short with scan_report)
    ∷ scan_of_peer 24 (λ p. Indication.Left p)
    ∷ []

unfoldable pub scan_indication : Scan Indication
scan_indication = scan_by_code indication_scans

abbrev pub holder_scans : List (ℕ × Scan Holder)
holder_scans =
    (0, scan_make Holder.None)
    ∷ (1, scan_make Holder.Superior)
    ∷ (2, scan_make Holder.Subordinate)
    ∷ []

unfoldable pub scan_holder : Scan Holder
scan_holder = scan_by_code holder_scans

abbrev pub dialogue_scans : List (ℕ × Scan DialogueRecord)
dialogue_scans =
    (1, scan_make DialogueRecord.EndDialogue)
    ∷ (2, scan_make (λ xs. DialogueRecord.UserData xs) with scan_octets 1024)
    ∷ (3, scan_make DialogueRecord.UError)
    ∷ (4, scan_make DialogueRecord.UAbort)
    ∷ (5, scan_make DialogueRecord.Grant)
    ∷ (6, scan_make DialogueRecord.AskControl)
    ∷ (7, scan_make DialogueRecord.Handshake)
    ∷ (8, scan_make DialogueRecord.HandshakeGrant)
    ∷ (9, scan_make DialogueRecord.Response)
    ∷ (10, scan_make DialogueRecord.DeferEnd)
    ∷ (11, scan_make DialogueRecord.DeferGrant)
    ∷ (12, scan_make (λ a b h. DialogueRecord.Begin a b h) with scan_aaid with scan_branch with scan_holder)
    ∷ (13, scan_make DialogueRecord.Prepare)
    ∷ (14, scan_make DialogueRecord.Ready)
    ∷ (15, scan_make DialogueRecord.Commit)
    ∷ (16, scan_make (λ r. DialogueRecord.Done r) with scan_report)
    ∷ (17, scan_make DialogueRecord.Rollback)
    ∷ (18, scan_make (λ r. DialogueRecord.RolledBack r) with scan_report)
    ∷ (19, scan_make DialogueRecord.Left)
    ∷ (20, scan_make DialogueRecord.LeftEnd)
    ∷ []

unfoldable pub scan_dialogue : Scan DialogueRecord
scan_dialogue = scan_by_code dialogue_scans

abbrev pub state_scans : List (ℕ × Scan RecState)
state_scans =
    (1, scan_make RecState.Commit)
    ∷ (2, scan_make (λ r. RecState.Done r) with scan_report)
    ∷ (3, scan_make RecState.Unknown)
    ∷ (4, scan_make RecState.RetryLater)
    ∷ []

unfoldable pub scan_state : Scan RecState
scan_state = scan_by_code state_scans

abbrev pub peer_scans : List (ℕ × Scan PeerRecord)
peer_scans =
    (1, scan_make (λ x u. PeerRecord.OpenAssoc x u) with scan_mark with scan_units)
    ∷ (2, scan_make (λ x y u. PeerRecord.AcceptAssoc x y u) with scan_mark with scan_mark with scan_units)
    ∷ (3, scan_make (λ x y. PeerRecord.ShutAssoc x y) with scan_mark with scan_maybe scan_mark)
    ∷ (4, scan_make (λ x y s r. PeerRecord.OnAssoc x y s r) with scan_mark with scan_mark with scan_long with scan_dialogue)
    ∷ (5, scan_make (λ a b. PeerRecord.RecReady a b) with scan_aaid with scan_branch)
    ∷ (6, scan_make (λ a b. PeerRecord.RecCommit a b) with scan_aaid with scan_branch)
    ∷ (7, scan_make (λ a b s. PeerRecord.RecReply a b s) with scan_aaid with scan_branch with scan_state)
    ∷ (8, scan_make (λ a b. PeerRecord.Forget a b) with scan_aaid with scan_branch)
    ∷ []

unfoldable pub scan_peer : Scan PeerRecord
scan_peer = scan_by_code peer_scans
