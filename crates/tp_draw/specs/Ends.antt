-- Where a frame comes to its end: at the first line that says that it was taken or lost.
use Rattle.std.specs.Prelude.{ℕ, suc, ◌==◌, Bool, true, false, if◌then◌else◌, Option, Some, None, List, [], ◌∷◌, slice_index_or}
use Rattle.tp_model.specs.declared.out_line.OutLine.{OutLine}
use Rattle.tp_draw.specs.declared.end.End.{End}

-- the line in a row, counted from 0; `nothing` after the last
abbrev pub line_at : List OutLine → ℕ → OutLine
line_at os r = slice_index_or os r OutLine.Nothing

abbrev pub is_refusal : OutLine → Bool
is_refusal (OutLine.Refused n) = true
is_refusal (OutLine.Dropped n) = true
is_refusal _ = false

-- the line after that row says that what was taken there is dropped or refused
abbrev pub is_refused_after : List OutLine → ℕ → Bool
is_refused_after os r = is_refusal (line_at os (suc r))

-- the frame that ends at the line in that row of a transcript, and how
abbrev pub ended_at : List OutLine → ℕ → OutLine → Option (ℕ × End)
ended_at os r (OutLine.Take k) = Some (k, if is_refused_after os r then End.Refused r else End.Taken r)
ended_at os r (OutLine.Lost k) = Some (k, End.Lost r)
ended_at os r _ = None

-- of this frame; never, where it is another that ends
abbrev pub end_at : ℕ → Option (ℕ × End) → End
end_at k None = End.Never
end_at k (Some p) = if p.0 == k then p.1 else End.Never

-- the second, unless the first is an end
abbrev pub or_else : End → End → End
or_else End.Never e = e
or_else (End.Taken r) e = End.Taken r
or_else (End.Refused r) e = End.Refused r
or_else (End.Lost r) e = End.Lost r

-- the first end of the frame in these lines of a transcript, of which the first is in that row
abbrev pub end_in : List OutLine → ℕ → ℕ → List OutLine → End
end_in os k r [] = End.Never
end_in os k r (o ∷ more) = or_else (end_at k (ended_at os r o)) (end_in os k (suc r) more)

-- in a whole transcript
abbrev pub end_of : List OutLine → ℕ → End
end_of os k = end_in os k 0 os

-- it is in that row
abbrev pub is_in_row : ℕ → End → Bool
is_in_row r End.Never = false
is_in_row r (End.Taken q) = q == r
is_in_row r (End.Refused q) = q == r
is_in_row r (End.Lost q) = q == r
