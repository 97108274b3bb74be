use Rattle.std.proofs.Common.{◌≡◌, ℕ, ◌<◌, length, drop}
use Rattle.std.specs.Prelude.{slice_index_or}
use Rattle.tp_draw.specs.declared.end.End.{End}
use Rattle.tp_draw.specs.Ends.{end_in, or_else}
use Rattle.tp_draw.proofs.ends.note_ends.Given as goal

abbrev pub invariant-loop-row : goal.invariant-loop-row
invariant-loop-row l = record {
  many : length l.ends.items ≡ 65536;
  ends : (k : ℕ) → k < 65536 → or_else (slice_index_or l.ends.items k End.Never) (end_in l.lines k l.row (drop l.row l.lines)) ≡ or_else (slice_index_or l.fn.ends.items k End.Never) (end_in l.lines k 0 l.lines);
}
