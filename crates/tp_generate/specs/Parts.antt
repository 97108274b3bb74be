-- The parts of a made schedule in which each node has lines of one form, as one function of the part. That they are the lists of lines of
-- the definitions is a matter of proofs.
use Rattle.std.specs.Prelude.{ℕ, List, [], ◌∷◌, ◌++◌}
use Rattle.tp_model.specs.declared.line.LineRequest.{LineRequest}
use Rattle.tp_model.specs.declared.line.Line.{Line}
use Rattle.tp_model.specs.Generator.{node_line, superior_of}
use Rattle.tp_generate.specs.declared.part.Part.{Part}

abbrev pub part_line : Part → ℕ → Line
part_line Part.Declared i = node_line i
part_line Part.Opened i = Line.Do (superior_of i) (LineRequest.BeginDialogue i 41)
part_line Part.Accepted i = Line.Do i (LineRequest.Accept 41)
part_line Part.Begun i = Line.Do (superior_of i) (LineRequest.BeginTransaction i)
part_line Part.Done i = Line.Do i LineRequest.Done

-- the line of a node, and a drain where the part has one after each
abbrev pub node_lines_of : Part → ℕ → List Line
node_lines_of Part.Declared i = part_line Part.Declared i ∷ []
node_lines_of Part.Opened i = part_line Part.Opened i ∷ []
node_lines_of Part.Accepted i = part_line Part.Accepted i ∷ []
node_lines_of Part.Begun i = part_line Part.Begun i ∷ Line.Drain ∷ []
node_lines_of Part.Done i = part_line Part.Done i ∷ Line.Drain ∷ []

abbrev pub part_lines : Part → List ℕ → List Line
part_lines p [] = []
part_lines p (i ∷ ns) = node_lines_of p i ++ part_lines p ns
