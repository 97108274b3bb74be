-- What is shown of a record that was forced.
use Rattle.std.specs.Prelude.{ℕ, Option, Some, None, List, [], ◌∷◌}
use Rattle.tp_model.specs.declared.out_line.LogWords.{LogWords}
use Rattle.tp_model.specs.declared.out_line.OutLine.{OutLine}

abbrev pub forced_lines : List ℕ → Option LogWords → List OutLine
forced_lines site None = []
forced_lines site (Some r) = OutLine.Log site r ∷ []
