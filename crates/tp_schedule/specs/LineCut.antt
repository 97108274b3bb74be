-- The line at the front of the bytes at hand, as it is found.
use Rattle.std.specs.Prelude.{ℕ, ◌≡◌, ◌+◌, ◌<◌, ◌≤◌, Option, Some, None, Result, Ok, Err, List, [], ◌∷◌, ◌++◌, length, take, drop, IfSome}
use Rattle.tp_model.specs.Transcript.{RawLine, raw_lines, content, octets_taken}
use Rattle.tp_schedule.specs.declared.lines_fault.LinesFault.{LinesFault}
use Rattle.tp_schedule.specs.declared.lines.Cut.{Cut}
use Rattle.tp_schedule.specs.AtHand.{together, IsAtEnd}
use Rattle.tp_schedule.specs.LinesLeft.{first_of, fails, IsFor, IsAhead}

-- a line of that length, with its end, or the limit that it passes
abbrev pub IsCut : ℕ → ℕ → ℕ → Result (Option Cut) LinesFault → Type 0
IsCut before len taken (Ok None) = ⊥
IsCut before len taken (Ok (Some cut)) = (cut ≡ record { len = len; taken = taken }) × (len ≤ 8192) × (before + taken ≤ 1048576)
IsCut before len taken (Err (LinesFault.ReadFault n)) = ⊥
IsCut before len taken (Err LinesFault.Long) = (before + taken ≤ 1048576) × (8192 < len)
IsCut before len taken (Err LinesFault.Limit) = 1048576 < before + taken

-- the line that a cut takes from the front of the bytes at hand
pub record Takes (before : ℕ) (bytes : Option (List ℕ)) (held : List ℕ) (rest : Option (List ℕ)) (cut : Cut) : Type 0 where
  pub line : RawLine
  pub text : content line ≡ take cut.len held
  pub short : cut.len ≤ 8192
  pub inside : cut.len ≤ cut.taken
  pub taken : octets_taken line ≡ cut.taken
  pub within : cut.taken ≤ length held
  pub few : length held ≤ 12288
  pub under : before + cut.taken ≤ 1048576
  pub same : together held rest ≡ bytes
  pub first : IfSome rest (λ left. raw_lines (held ++ left) ≡ line ∷ raw_lines (drop cut.taken held ++ left))

-- what is found among bytes, of which these are then at hand and the others left
abbrev pub Sought : ℕ → Option (List ℕ) → List ℕ → Option (List ℕ) → Result (Option Cut) LinesFault → Type 0
Sought before bytes held rest (Ok None) = (held ≡ []) × IsAtEnd rest × (together held rest ≡ bytes)
Sought before bytes held rest (Ok (Some cut)) = Takes before bytes held rest cut
Sought before bytes held rest (Err f) = IsFor (λ all. first_of before (raw_lines all)) bytes (fails f) × IsAhead bytes rest (fails f)
