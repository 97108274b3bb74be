use Rattle.std.proofs.Common.{◌≡◌, ℕ, length}
use Rattle.std.specs.Prelude.{slice_index_or}
use Rattle.tp_draw.specs.declared.end.End.{End}
use Rattle.tp_draw.proofs.ends.no_ends.Given as goal

abbrev pub invariant-loop-i : goal.invariant-loop-i
invariant-loop-i l = record {
  many : length l.ends.items ≡ l._i;
  never : (k : ℕ) → slice_index_or l.ends.items k End.Never ≡ End.Never;
}
