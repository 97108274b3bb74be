-- How the words of a transcript's line are read: the one line that may have this text. It has it where it is written so.
use Rattle.std.specs.Prelude.{ℕ, ◌≡◌, ◌≢◌, ◌==◌, ◌&&◌, true, false, Option, Result, Ok, Err, List, [], ◌∷◌, codes}
use Rattle.tp_names.specs.declared.identifiers.Aaid.{Aaid}
use Rattle.tp_names.specs.declared.identifiers.BranchId.{BranchId}
use Rattle.tp_names.specs.declared.outcome.Outcome.{Outcome}
use Rattle.tp_names.specs.declared.outcome.Report.{Report}
use Rattle.tp_names.specs.Same.{is_name}
use Rattle.tp_records.specs.declared.dialogue.DialogueRecord.{DialogueRecord}
use Rattle.tp_records.specs.declared.indication.Indication.{Indication}
use Rattle.tp_records.specs.declared.peer.RecState.{RecState}
use Rattle.tp_model.specs.declared.out_line.LogWords.{LogWords}
use Rattle.tp_model.specs.declared.out_line.SentWords.{SentWords}
use Rattle.tp_model.specs.declared.out_line.PhaseWord.{PhaseWord}
use Rattle.tp_model.specs.declared.out_line.OutLine.{OutLine}
use Rattle.tp_model.specs.OutText.{out_text}
use Rattle.tp_model.specs.LineReading.{Form, Wrong, Outside, Well, form_of, with, both, no_words, one_word, two_words, number, outcome, site, hex_octets, words_in}
use Rattle.tp_schedule.specs.declared.line_fault.LineFault.{LineFault}
use Rattle.tp_transcript.specs.declared.out_kinds.LogKind.{LogKind}
use Rattle.tp_transcript.specs.declared.out_kinds.DialogueKind.{DialogueKind}
use Rattle.tp_transcript.specs.declared.out_kinds.StateKind.{StateKind}
use Rattle.tp_transcript.specs.declared.out_kinds.SentKind.{SentKind}
use Rattle.tp_transcript.specs.declared.out_kinds.PeerTold.{PeerTold}
use Rattle.tp_transcript.specs.declared.out_kinds.ToldKind.{ToldKind}
use Rattle.tp_transcript.specs.declared.out_kinds.TreeKind.{TreeKind}
use Rattle.tp_transcript.specs.declared.out_kinds.OutKind.{OutKind}
use Rattle.tp_schedule.specs.Answers.{pair, same}
use Rattle.tp_transcript.specs.OutHasText.{out_has_text}
use Rattle.tp_transcript.specs.OutKinds.{log_kind_text, log_kind_list, dialogue_kind_text, dialogue_kind_list, state_kind_text, state_kind_list, sent_kind_text, sent_kind_list, told_kind_text, told_kind_list, tree_kind_text, tree_kind_list, out_kind_text, out_kind_list}
use Rattle.tp_transcript.specs.OutWords.{any_short, small, long, mark, aaid, branch, maybe, key, made_key, permitted, all_octets, report, holder, phase, fate, numbers, by_kind, three_words, word_and}

-- ---- records and indications

abbrev pub trio : {A B C : Type 0} → A → B → C → (A × B) × C
trio a b c = ((a, b), c)

-- a node and its key, and what stands after them
abbrev pub keyed : {B : Type 0} → (List (List ℕ) → Form B) → List (List ℕ) → Form ((ℕ × (Aaid × Option BranchId)) × B)
keyed more [] = Wrong
keyed more (n ∷ []) = Wrong
keyed more (n ∷ a ∷ []) = Wrong
keyed more (n ∷ a ∷ b ∷ ws) = both pair (both pair (any_short n) (key a b)) (more ws)

abbrev pub log_reader : LogKind → List (List ℕ) → Form LogWords
log_reader LogKind.Boot = one_word LogWords.Boot long
log_reader LogKind.Ready = λ ws. with (λ (p : (ℕ × (Aaid × Option BranchId)) × Unit {0}). LogWords.Ready p.0.0 (made_key p.0.1)) (keyed (no_words tt) ws)
log_reader LogKind.Heuristic = λ ws. with (λ (p : (ℕ × (Aaid × Option BranchId)) × Outcome). LogWords.Heuristic p.0.0 (made_key p.0.1) p.1)
    (keyed (one_word same outcome) ws)
log_reader LogKind.Commit = λ ws. with (λ (p : (ℕ × (Aaid × Option BranchId)) × Unit {0}). LogWords.Commit p.0.0 (made_key p.0.1)) (keyed (no_words tt) ws)
log_reader LogKind.Damage = λ ws. with
    (λ (p : (ℕ × (Aaid × Option BranchId)) × (Outcome × Report)). LogWords.Damage p.0.0 (made_key p.0.1) p.1.0 p.1.1) (keyed (two_words pair outcome report) ws)
log_reader LogKind.End = λ ws. with (λ (p : (ℕ × (Aaid × Option BranchId)) × Outcome). LogWords.End p.0.0 (made_key p.0.1) p.1)
    (keyed (one_word same outcome) ws)

abbrev pub read_log : List (List ℕ) → Form LogWords
read_log ws = by_kind log_kind_text log_kind_list log_reader ws

abbrev pub dialogue_reader : DialogueKind → List (List ℕ) → Form DialogueRecord
dialogue_reader DialogueKind.EndDialogue = no_words DialogueRecord.EndDialogue
dialogue_reader DialogueKind.UserData = one_word DialogueRecord.UserData all_octets
dialogue_reader DialogueKind.UError = no_words DialogueRecord.UError
dialogue_reader DialogueKind.UAbort = no_words DialogueRecord.UAbort
dialogue_reader DialogueKind.Grant = no_words DialogueRecord.Grant
dialogue_reader DialogueKind.AskControl = no_words DialogueRecord.AskControl
dialogue_reader DialogueKind.Handshake = no_words DialogueRecord.Handshake
dialogue_reader DialogueKind.HandshakeGrant = no_words DialogueRecord.HandshakeGrant
dialogue_reader DialogueKind.Response = no_words DialogueRecord.Response
dialogue_reader DialogueKind.DeferEnd = no_words DialogueRecord.DeferEnd
dialogue_reader DialogueKind.DeferGrant = no_words DialogueRecord.DeferGrant
dialogue_reader DialogueKind.Begin = three_words DialogueRecord.Begin aaid branch holder
dialogue_reader DialogueKind.Prepare = no_words DialogueRecord.Prepare
dialogue_reader DialogueKind.Ready = no_words DialogueRecord.Ready
dialogue_reader DialogueKind.Commit = no_words DialogueRecord.Commit
dialogue_reader DialogueKind.Done = one_word DialogueRecord.Done report
dialogue_reader DialogueKind.Rollback = no_words DialogueRecord.Rollback
dialogue_reader DialogueKind.RolledBack = one_word DialogueRecord.RolledBack report
dialogue_reader DialogueKind.Left = no_words DialogueRecord.Left
dialogue_reader DialogueKind.LeftEnd = no_words DialogueRecord.LeftEnd

abbrev pub read_dialogue : List (List ℕ) → Form DialogueRecord
read_dialogue ws = by_kind dialogue_kind_text dialogue_kind_list dialogue_reader ws

abbrev pub state_reader : StateKind → List (List ℕ) → Form RecState
state_reader StateKind.Commit = no_words RecState.Commit
state_reader StateKind.Done = one_word RecState.Done report
state_reader StateKind.Unknown = no_words RecState.Unknown
state_reader StateKind.RetryLater = no_words RecState.RetryLater

abbrev pub read_state : List (List ℕ) → Form RecState
read_state ws = by_kind state_kind_text state_kind_list state_reader ws

abbrev pub sent_reader : SentKind → List (List ℕ) → Form SentWords
sent_reader SentKind.OpenAssoc = two_words SentWords.OpenAssoc mark permitted
sent_reader SentKind.AcceptAssoc = three_words SentWords.AcceptAssoc mark mark permitted
sent_reader SentKind.ShutAssoc = two_words SentWords.ShutAssoc mark (maybe mark)
sent_reader SentKind.OnAssoc = word_and SentWords.OnAssoc long read_dialogue
sent_reader SentKind.RecReady = two_words SentWords.RecReady aaid branch
sent_reader SentKind.RecCommit = two_words SentWords.RecCommit aaid branch
sent_reader SentKind.RecReply = word_and (λ (a : Aaid) (p : BranchId × RecState). SentWords.RecReply a p.0 p.1) aaid (word_and pair branch read_state)
sent_reader SentKind.Forget = two_words SentWords.Forget aaid branch

abbrev pub read_sent : List (List ℕ) → Form SentWords
read_sent ws = by_kind sent_kind_text sent_kind_list sent_reader ws

abbrev pub told_of_peer : PeerTold → ℕ → Indication
told_of_peer PeerTold.Rejected = Indication.Rejected
told_of_peer PeerTold.EndDialogue = Indication.EndDialogue
told_of_peer PeerTold.UError = Indication.UError
told_of_peer PeerTold.UAbort = Indication.UAbort
told_of_peer PeerTold.PAbort = Indication.PAbort
told_of_peer PeerTold.Grant = Indication.Grant
told_of_peer PeerTold.AskControl = Indication.AskControl
told_of_peer PeerTold.Handshake = Indication.Handshake
told_of_peer PeerTold.HandshakeConfirm = Indication.HandshakeConfirm
told_of_peer PeerTold.HandshakeGrant = Indication.HandshakeGrant
told_of_peer PeerTold.DeferEnd = Indication.DeferEnd
told_of_peer PeerTold.DeferGrant = Indication.DeferGrant
told_of_peer PeerTold.Ready = Indication.Ready
told_of_peer PeerTold.Left = Indication.Left

abbrev pub told_reader : ToldKind → List (List ℕ) → Form Indication
told_reader ToldKind.BeginDialogue = two_words Indication.BeginDialogue number permitted
told_reader ToldKind.BegunDialogue = two_words Indication.BegunDialogue number permitted
told_reader ToldKind.UserData = two_words Indication.UserData number all_octets
told_reader ToldKind.BeginTransaction = two_words Indication.BeginTransaction number aaid
told_reader ToldKind.Prepare = no_words Indication.Prepare
told_reader ToldKind.Commit = no_words Indication.Commit
told_reader ToldKind.CommitComplete = one_word Indication.CommitComplete report
told_reader ToldKind.Rollback = no_words Indication.Rollback
told_reader ToldKind.RollbackComplete = one_word Indication.RollbackComplete report
told_reader ToldKind.HeuristicReport = two_words Indication.HeuristicReport number report
told_reader (ToldKind.OfPeer k) = one_word (told_of_peer k) number

abbrev pub read_told : List (List ℕ) → Form Indication
read_told ws = by_kind told_kind_text told_kind_list told_reader ws

-- ---- lines

abbrev pub by_numbers : List (List ℕ) → Form (List ℕ)
by_numbers [] = Wrong
by_numbers (b ∷ []) = Wrong
by_numbers (b ∷ w ∷ []) = elim (is_name (codes "by") b) [ true ↦ numbers w | false ↦ Wrong ]
by_numbers (b ∷ w ∷ x ∷ ws) = Wrong

abbrev pub tree_reader : TreeKind → Aaid → List (List ℕ) → Form OutLine
tree_reader TreeKind.Agreed a ws = one_word (λ o. OutLine.Agreed a o) outcome ws
tree_reader TreeKind.Mixed a ws = with (λ ns. OutLine.Mixed a ns) (by_numbers ws)
tree_reader TreeKind.Open a ws = no_words (OutLine.Open a) ws

abbrev pub tree_words : Aaid → List (List ℕ) → Form OutLine
tree_words a ws = by_kind tree_kind_text tree_kind_list (λ k. tree_reader k a) ws

abbrev pub tree_of : Form Aaid → List (List ℕ) → Form OutLine
tree_of Wrong ws = Wrong
tree_of Outside ws = Wrong
tree_of (Well a) ws = tree_words a ws

abbrev pub read_tree : List (List ℕ) → Form OutLine
read_tree [] = Wrong
read_tree (a ∷ ws) = tree_of (aaid a) ws

abbrev pub hex_word : List ℕ → Form (List ℕ)
hex_word w = form_of (hex_octets w)

-- an image of no bytes has no digits
abbrev pub image_of : List ℕ → List (List ℕ) → Form OutLine
image_of s [] = with (λ (t : List ℕ). OutLine.Image t []) (site s)
image_of s (x ∷ ws) = both OutLine.Image (site s) (one_word same hex_word (x ∷ ws))

abbrev pub read_image : List (List ℕ) → Form OutLine
read_image [] = Wrong
read_image (s ∷ ws) = image_of s ws

abbrev pub read_state_line : List (List ℕ) → Form OutLine
read_state_line (n ∷ p ∷ k ∷ c ∷ []) = elim (is_name (codes "kept") k) [
  | true ↦ both (λ (q : ℕ × PhaseWord) m. OutLine.State q.0 q.1 m) (both pair (number n) (phase p)) (long c)
  | false ↦ Wrong
]
read_state_line _ = Wrong

abbrev pub read_send : List (List ℕ) → Form OutLine
read_send (k ∷ a ∷ b ∷ ws) = both (λ (q : (ℕ × ℕ) × ℕ) r. OutLine.Send q.0.0 q.0.1 q.1 r)
    (both pair (both pair (number k) (number a)) (number b)) (read_sent ws)
read_send _ = Wrong

abbrev pub out_reader : OutKind → List (List ℕ) → Form OutLine
out_reader OutKind.Log ws = word_and OutLine.Log site read_log ws
out_reader OutKind.Take ws = one_word OutLine.Take number ws
out_reader OutKind.Send ws = read_send ws
out_reader OutKind.Tell ws = word_and OutLine.Tell number read_told ws
out_reader OutKind.Refused ws = one_word OutLine.Refused small ws
out_reader OutKind.Dropped ws = one_word OutLine.Dropped small ws
out_reader OutKind.Nothing ws = no_words OutLine.Nothing ws
out_reader OutKind.Lost ws = one_word OutLine.Lost number ws
out_reader OutKind.Stopped ws = two_words OutLine.Stopped site fate ws
out_reader OutKind.State ws = read_state_line ws
out_reader OutKind.Image ws = read_image ws
out_reader OutKind.Tree ws = read_tree ws

abbrev pub candidate_in : List (List ℕ) → Form OutLine
candidate_in ws = by_kind out_kind_text out_kind_list out_reader ws

abbrev pub echo_of : List ℕ → Form OutLine
echo_of text = Well (OutLine.Echo text)

-- an echo is what stands after `> `
abbrev pub candidate : List ℕ → Form OutLine
candidate [] = candidate_in []
candidate (b ∷ []) = candidate_in (words_in (b ∷ []))
candidate (b ∷ c ∷ text) = elim ((b == 62) && (c == 32)) [ true ↦ echo_of text | false ↦ candidate_in (words_in (b ∷ c ∷ text)) ]

-- ---- what is answered

-- a text has no fault but that it is none
abbrev pub no_line : LineFault → LineFault
no_line LineFault.Long = LineFault.Word
no_line LineFault.Word = LineFault.Word
no_line LineFault.Number = LineFault.Word
no_line LineFault.NoMemory = LineFault.NoMemory

-- The line whose text the bytes are, or that they are the text of none; out of memory says nothing.
abbrev pub SaysOut : List ℕ → Result OutLine LineFault → Type 0
SaysOut bytes (Ok o) = (out_has_text o ≡ true) × (out_text o ≡ bytes)
SaysOut bytes (Err LineFault.Word) = (o : OutLine) → out_has_text o ≡ true → out_text o ≢ bytes
SaysOut bytes (Err LineFault.NoMemory) = Unit {0}
SaysOut bytes (Err LineFault.Long) = ⊥
SaysOut bytes (Err LineFault.Number) = ⊥
