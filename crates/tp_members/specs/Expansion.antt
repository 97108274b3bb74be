-- A schedule with members, against its expansion and against what may happen in a world.
-- Lines run one by one. A line that is shown does what it does, whether members are there or not; a line that speaks of
-- members (a member drives a node, a member is dropped) is not shown, and tells nobody a thing.
-- After each line, what it told driven nodes is put to their members, in the order in which it was told. Each takes the
-- next answer: no answer runs nothing; a request runs at once as a line of its own, and what that line tells driven nodes
-- is put after all that waits. Where the answers run out, no more is asked. A request that the node refuses is shown as
-- refused, and the run goes on; one that names a node which is not there ends the run, as a line does, and so does a
-- request after 4096 others of one line.
-- The events come in one order with members and in the expansion, so frames, marks and trees have the same numbers in both.
use Rattle.std.specs.Prelude.{ℕ, ◌≡◌, false, Option, None, List, [], ◌∷◌, ◌++◌, All}
use Rattle.tp_records.specs.declared.request.Request.{Request}
use Rattle.tp_model.specs.declared.line.Line.{Line}
use Rattle.tp_model.specs.OutText.{out_texts}
use Rattle.tp_model.specs.LineReading.{Blank, Faulty, Says, read_line}
use Rattle.tp_model.specs.World.{World, empty_world}
use Rattle.tp_model.specs.Happenings.{Happening, run}
use Rattle.tp_model.specs.Trees.{closing}
use Rattle.tp_model.specs.Transcript.{Play, is_silent, RawLine, Transcript, Done, content, raw_lines, transcript_with}
use Rattle.tp_model.specs.Expand.{played_all, expanded}

-- ---- against its expansion

-- the same world, but no member drives a node, and none was dropped
abbrev pub memberless : World → World
memberless w = record w { drives = []; dropped = [] }

-- where no line ends the run, the expansion leaves without members that world
abbrev pub LeavesItsWorld : ℕ → List Line → List (Option Request) → Type 0
LeavesItsWorld members ls answers =
    let p : Play = played_all members answers empty_world ls in
    p.fault ≡ None → (played_all 0 [] empty_world (expanded members ls answers)).world ≡ memberless p.world

-- and it has the same closing lines
abbrev pub ClosesAlike : ℕ → List Line → List (Option Request) → Type 0
ClosesAlike members ls answers =
    let p : Play = played_all members answers empty_world ls in
    p.fault ≡ None → closing (played_all 0 [] empty_world (expanded members ls answers)).world ≡ closing p.world

-- no line of the expansion speaks of members
abbrev pub SpeaksOfNone : ℕ → List Line → List (Option Request) → Type 0
SpeaksOfNone members ls answers = All (λ (l : Line). is_silent l ≡ false) (expanded members ls answers)

-- ---- in bytes

-- the lines that the bytes of a schedule say, up to the first that is at fault
abbrev pub lines_said : List RawLine → List Line
lines_said [] = []
lines_said (l ∷ ls) = elim (read_line (content l)) [ Blank ↦ lines_said ls | Faulty why ↦ [] | Says x ↦ x ∷ lines_said ls ]

abbrev pub lines_in : List ℕ → List Line
lines_in schedule = lines_said (raw_lines schedule)

-- the lines shown and the closing lines, as a transcript has them
abbrev pub written_by : Play → List ℕ
written_by p = out_texts p.lines ++ out_texts (closing p.world)

-- a transcript that comes to its end is what the expansion writes without members
abbrev pub IsWrittenOut : ℕ → List ℕ → List (Option Request) → Type 0
IsWrittenOut members schedule answers =
    let t : Transcript = transcript_with members schedule answers in
    t.ending ≡ Done → t.written ≡ written_by (played_all 0 [] empty_world (expanded members (lines_in schedule) answers))

-- ---- against what may happen

-- it is the world that some happenings leave
abbrev pub IsOfRun : World → Type 0
IsOfRun w = (es : List Happening) × (w ≡ run es)
