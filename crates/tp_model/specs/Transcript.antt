-- From the bytes of a schedule to the bytes of its transcript, and how it ends.
-- Members' answers are handed in, in the order in which indications are put; where they run out there is none.
use Rattle.std.specs.Prelude.{ℕ, suc, ◌+◌, ◌==◌, ◌≡◌, nat_le, nat_lt, Bool, true, false, Option, Some, None, List, [], ◌∷◌, ◌++◌, length, Result, Ok, Err}
use Rattle.tp_records.specs.declared.request.Request.{Request}
use Rattle.tp_records.specs.declared.indication.Indication.{Indication}
use Rattle.tp_records.specs.Answers.{Answer}
use Rattle.tp_model.specs.declared.line.LineRequest.{LineRequest}
use Rattle.tp_model.specs.declared.line.Action.{Action}
use Rattle.tp_model.specs.declared.line.Line.{Line}
use Rattle.tp_model.specs.declared.out_line.OutLine.{OutLine}
use Rattle.tp_model.specs.declared.verdict.What.{What}
use Rattle.tp_model.specs.declared.verdict.Why.{Why}
use Rattle.tp_model.specs.OutText.{out_texts}
use Rattle.tp_model.specs.LineText.{line_text}
use Rattle.tp_model.specs.LineReading.{Blank, Faulty, Says, read_line}
use Rattle.tp_model.specs.World.{World, empty_world, driver_of}
use Rattle.tp_model.specs.Happenings.{Told, WorldTurn}
use Rattle.tp_model.specs.Lines.{Fault, Name, Over, is_named, action_line, line}
use Rattle.tp_model.specs.Trees.{closing}

-- ---- a schedule cut into lines

pub record RawLine : Type 0 where
  pub bytes : List ℕ
  -- a line's end stands after it
  pub ended : Bool

abbrev pub before_first : ℕ → List RawLine → List RawLine
before_first b [] = record { bytes = b ∷ []; ended = false } ∷ []
before_first b (l ∷ ls) = record { bytes = b ∷ l.bytes; ended = l.ended } ∷ ls

abbrev pub raw_lines : List ℕ → List RawLine
raw_lines [] = []
raw_lines (b ∷ bs) = elim (b == 10) [ true ↦ record { bytes = []; ended = true } ∷ raw_lines bs | false ↦ before_first b (raw_lines bs) ]

-- one carriage return before a line's end is no part of the line
abbrev pub without_return : List ℕ → List ℕ
without_return [] = []
without_return (b ∷ bs) = elim bs [ [] ↦ elim (b == 13) [ true ↦ [] | false ↦ b ∷ [] ] | c ∷ cs ↦ b ∷ without_return bs ]

abbrev pub content : RawLine → List ℕ
content l = elim l.ended [ true ↦ without_return l.bytes | false ↦ l.bytes ]

abbrev pub octets_taken : RawLine → ℕ
octets_taken l = elim l.ended [ true ↦ suc (length l.bytes) | false ↦ length l.bytes ]

-- ---- members

-- an indication that is put to a member
pub record Put : Type 0 where
  pub member : ℕ
  pub node : ℕ
  pub indication : Indication

-- those that are told to driven nodes
abbrev pub puts_of : World → List Told → List Put
puts_of w [] = []
puts_of w (t ∷ ts) = elim (driver_of w.drives t.node) [
  | None ↦ puts_of w ts
  | Some k ↦ record { member = k; node = t.node; indication = t.indication } ∷ puts_of w ts
]

-- an address in an answer is that of the peer's number
abbrev pub line_request : Request → LineRequest
line_request (Request.BeginDialogue a u) = LineRequest.BeginDialogue a.node u
line_request (Request.Accept u) = LineRequest.Accept u
line_request Request.Reject = LineRequest.Reject
line_request (Request.EndDialogue p) = LineRequest.EndDialogue p
line_request (Request.UserData p xs) = LineRequest.UserData p xs
line_request (Request.UError p) = LineRequest.UError p
line_request (Request.UAbort p) = LineRequest.UAbort p
line_request (Request.Grant p) = LineRequest.Grant p
line_request (Request.AskControl p) = LineRequest.AskControl p
line_request (Request.Handshake p) = LineRequest.Handshake p
line_request (Request.Respond p) = LineRequest.Respond p
line_request (Request.HandshakeGrant p) = LineRequest.HandshakeGrant p
line_request (Request.BeginTransaction p) = LineRequest.BeginTransaction p
line_request (Request.DeferEnd p) = LineRequest.DeferEnd p
line_request (Request.DeferGrant p) = LineRequest.DeferGrant p
line_request (Request.Prepare p) = LineRequest.Prepare p
line_request Request.Commit = LineRequest.Commit
line_request Request.Done = LineRequest.Done
line_request Request.Rollback = LineRequest.Rollback
line_request Request.Unchanged = LineRequest.Unchanged

-- a line with its answers: the world after, the lines shown, what was put, the answers that are left,
-- and the fault that ended the run in it, if there was one
pub record Play : Type 0 where
  pub world : World
  pub lines : List OutLine
  pub puts : List Put
  pub left : List (Option Request)
  pub fault : Option Fault

-- the run ends here; what was put so far was put
abbrev pub stopped : World → List (Option Request) → Fault → Play
stopped w left f = record { world = w; lines = []; puts = []; left = left; fault = Some f }

-- an answer is run as a line; so many were run before it
abbrev pub answer_turn : ℕ → World → ℕ → LineRequest → Result WorldTurn Fault
answer_turn before w n r = elim (is_named w (Action.Do n r)) [
  | false ↦ Err Name
  | true ↦ elim (nat_le 4096 before) [ true ↦ Err (Over What.Answers) | false ↦ action_line w (Action.Do n r) ]
]

abbrev pub with_put : Put → Play → Play
with_put q p = record p { puts = q ∷ p.puts }

abbrev pub with_lines : List OutLine → Play → Play
with_lines ls p = record p { lines = ls ++ p.lines }

-- the answers in their order, each to the indication that is the next one put
abbrev pub answered : List (Option Request) → ℕ → World → List Put → Play
answered [] before w qs = record { world = w; lines = []; puts = qs; left = []; fault = None }
answered (a ∷ answers) before w [] = record { world = w; lines = []; puts = []; left = a ∷ answers; fault = None }
answered (None ∷ answers) before w (q ∷ qs) = with_put q (answered answers before w qs)
answered (Some r ∷ answers) before w (q ∷ qs) = elim (answer_turn before w q.node (line_request r)) [
  | Err f ↦ with_put q (stopped w answers f)
  | Ok t ↦ with_put
      q
      (with_lines
      (OutLine.Echo (line_text (Line.Do q.node (line_request r))) ∷ t.lines)
      (answered answers (suc before) t.world (qs ++ puts_of t.world t.told)))
]

-- ---- which answers fit

-- what a member was asked and answered, of all that was put
abbrev pub answers_of : ℕ → List Put → List (Option Request) → List Answer
answers_of k [] answers = []
answers_of k (q ∷ qs) [] = []
answers_of k (q ∷ qs) (a ∷ answers) = elim (q.member == k) [
  | true ↦ record { node = q.node; indication = q.indication; request = a } ∷ answers_of k qs answers
  | false ↦ answers_of k qs answers
]

-- one answer for each indication that is put, and no other; each member may give its own in their order
pub record AreAllowed (may : ℕ → List Answer → Type 0) (puts : List Put) (answers : List (Option Request)) : Type 0 where
  pub each : length answers ≡ length puts
  pub own : (k : ℕ) → may k (answers_of k puts answers)

-- ---- a line

-- the line speaks of members, and nothing is shown of it
abbrev pub is_silent : Line → Bool
is_silent (Line.Auto n k) = true
is_silent (Line.Leave k) = true
is_silent _ = false

-- what is shown of the line itself
abbrev pub echo : Line → List OutLine
echo l = elim (is_silent l) [ true ↦ [] | false ↦ OutLine.Echo (line_text l) ∷ [] ]

abbrev pub line_played : ℕ → List (Option Request) → World → Line → Play
line_played members answers w l = elim (line members w l) [
  | Err f ↦ stopped w answers f
  | Ok t ↦ with_lines (echo l ++ t.lines) (answered answers 0 t.world (puts_of t.world t.told))
]

-- ---- the whole

pub data Ending : Type 0 where
  Done : Ending
  Bad_input : ℕ → Why → Ending
  At_limit : What → ℕ → Ending

pub record Transcript : Type 0 where
  pub written : List ℕ
  pub ending : Ending
  -- the world that the run leaves, and all that was put to members
  pub world : World
  pub puts : List Put

abbrev pub ends : World → Ending → Transcript
ends w e = record { written = []; ending = e; world = w; puts = [] }

abbrev pub closes : World → Transcript
closes w = record { written = out_texts (closing w); ending = Done; world = w; puts = [] }

abbrev pub fault_ending : ℕ → Fault → Ending
fault_ending at Name = Bad_input at Why.Name
fault_ending at (Over what) = At_limit what at

abbrev pub behind : Play → Transcript → Transcript
behind p rest = record {
  written = out_texts p.lines ++ rest.written;
  ending = rest.ending;
  world = rest.world;
  puts = p.puts ++ rest.puts;
}

-- a fault ends the run: nothing of its line is written, but what was put in it was put
abbrev pub breaks : ℕ → Fault → Play → Transcript
breaks at f p = record { written = []; ending = fault_ending at f; world = p.world; puts = p.puts }

-- the lines from the one with that number on, before which so many bytes stand
abbrev pub transcript_from : ℕ → ℕ → ℕ → List (Option Request) → World → List RawLine → Transcript
transcript_from members at before answers w [] = closes w
transcript_from members at before answers w (l ∷ ls) = elim (nat_lt 1048576 (before + octets_taken l)) [
  | true ↦ ends w (At_limit What.Schedule at)
  | false ↦ elim (read_line (content l)) [
    | Blank ↦ transcript_from members (suc at) (before + octets_taken l) answers w ls
    | Faulty why ↦ ends w (Bad_input at why)
    | Says x ↦
        (let p : Play = line_played members answers w x in
        elim p.fault [
          | Some f ↦ breaks at f p
          | None ↦ behind p (transcript_from members (suc at) (before + octets_taken l) p.left p.world ls)
        ])
  ]
]

-- with so many members
abbrev pub transcript_with : ℕ → List ℕ → List (Option Request) → Transcript
transcript_with members bytes answers = transcript_from members 1 0 answers empty_world (raw_lines bytes)

-- with the three members of the program
abbrev pub transcript : List ℕ → List (Option Request) → Transcript
transcript bytes answers = transcript_with 3 bytes answers
