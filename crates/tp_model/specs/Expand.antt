-- A schedule with its members' answers written out: each request that a member answered stands as a line of its own.
-- What members do can be said by such a schedule, so what holds of all schedules without members holds with them.
use Rattle.std.specs.Prelude.{ℕ, ◌≡◌, true, false, Option, Some, None, List, [], ◌∷◌, ◌++◌}
use Rattle.tp_records.specs.declared.request.Request.{Request}
use Rattle.tp_model.specs.declared.line.Line.{Line}
use Rattle.tp_model.specs.declared.out_line.OutLine.{OutLine}
use Rattle.tp_model.specs.World.{World, empty_world}
use Rattle.tp_model.specs.Transcript.{Put, Play, line_request, is_silent, line_played}

-- ---- a list of lines

abbrev pub behind_play : Play → Play → Play
behind_play p q = record { world = q.world; lines = p.lines ++ q.lines; puts = p.puts ++ q.puts; left = q.left; fault = q.fault }

abbrev pub played_all : ℕ → List (Option Request) → World → List Line → Play
played_all members answers w [] = record { world = w; lines = []; puts = []; left = answers; fault = None }
played_all members answers w (l ∷ ls) =
    let p : Play = line_played members answers w l in
    elim p.fault [ Some f ↦ p | None ↦ behind_play p (played_all members p.left p.world ls) ]

-- ---- the expansion

-- the requests among the answers, as lines, in their order
abbrev pub answer_lines : List Put → List (Option Request) → List Line
answer_lines [] answers = []
answer_lines (q ∷ qs) [] = []
answer_lines (q ∷ qs) (None ∷ answers) = answer_lines qs answers
answer_lines (q ∷ qs) (Some r ∷ answers) = Line.Do q.node (line_request r) ∷ answer_lines qs answers

abbrev pub shown_line : Line → List Line
shown_line l = elim (is_silent l) [ true ↦ [] | false ↦ l ∷ [] ]

abbrev pub expanded_from : ℕ → List (Option Request) → World → List Line → List Line
expanded_from members answers w [] = []
expanded_from members answers w (l ∷ ls) =
    let p : Play = line_played members answers w l in
    shown_line l ++ answer_lines p.puts answers ++ elim p.fault [ Some f ↦ [] | None ↦ expanded_from members p.left p.world ls ]

abbrev pub expanded : ℕ → List Line → List (Option Request) → List Line
expanded members ls answers = expanded_from members answers empty_world ls

-- ---- what is to be proved of it

-- the lines shown, where no line ended the run
abbrev pub shown_of : Play → Option (List OutLine)
shown_of p = elim p.fault [ Some f ↦ None | None ↦ Some p.lines ]

-- where no line ends the run, the expansion shows the same lines without members
abbrev pub IsExpanded : ℕ → List Line → List (Option Request) → Type 0
IsExpanded members ls answers =
    (lines : List OutLine)
    → shown_of (played_all members answers empty_world ls) ≡ Some lines
    → shown_of (played_all 0 [] empty_world (expanded members ls answers)) ≡ Some lines
