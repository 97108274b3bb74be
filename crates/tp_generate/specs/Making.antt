-- A schedule while it is made: its bytes, and how many lines they are. Which lines those are is said by tp_model.
use Rattle.std.specs.Prelude.{◌≡◌, ℕ, ◌+◌, ◌-◌, List, [], ◌∷◌, ◌++◌, length}
use Rattle.tp_model.specs.declared.line.Line.{Line}
use Rattle.tp_model.specs.LineText.{line_text}
use Rattle.tp_model.specs.Generator.{from_on, node_lines, begin_lines, accept_lines, made, schedule}
use Rattle.tp_generate.specs.declared.schedule.Schedule.{Schedule}

pub record SoFar : Type 0 where
  pub text : List ℕ
  pub lines : ℕ

abbrev pub so_far : Schedule → SoFar
so_far s = record { text = s.text; lines = s.lines }

abbrev pub nothing : SoFar
nothing = record { text = []; lines = 0 }

-- with one line more
abbrev pub with_line : SoFar → Line → SoFar
with_line s l = record { text = s.text ++ (line_text l ++ 10 ∷ []); lines = s.lines + 1 }

-- and with so many, one after the other
abbrev pub with_lines : SoFar → List Line → SoFar
with_lines s [] = s
with_lines s (l ∷ ls) = with_lines (with_line s l) ls

-- the nodes and their dialogues
abbrev pub opening_lines : ℕ → List Line
opening_lines nodes =
    node_lines (from_on 1 nodes) ++ begin_lines (from_on 2 (nodes - 1)) ++ Line.Drain ∷ accept_lines (from_on 2 (nodes - 1)) ++ Line.Drain ∷ []

-- it is the schedule of this number, with so many nodes and rounds
pub record IsScheduleOf (number nodes rounds : ℕ) (s : Schedule) : Type 0 where
  pub text : s.text ≡ schedule number nodes rounds
  pub lines : s.lines ≡ length (made number nodes rounds)
