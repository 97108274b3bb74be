-- What is shown of a line itself, where it is shown.
use Rattle.std.proofs.Common.{◌≡◌, Bool, true, false, ap, List, [], ◌∷◌}
use Rattle.tp_model.specs.declared.line.Line.{Line}
use Rattle.tp_model.specs.declared.out_line.OutLine.{OutLine}
use Rattle.tp_model.specs.LineText.{line_text}
use Rattle.tp_model.specs.Transcript.{echo, is_silent}

pub echo_shown : (l : Line) → is_silent l ≡ false → echo l ≡ OutLine.Echo (line_text l) ∷ []
echo_shown l h = ap (λ (b : Bool). elim b as (λ _. List OutLine) [ true ↦ [] | false ↦ OutLine.Echo (line_text l) ∷ [] ]) h
