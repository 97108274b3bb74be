use Rattle.std.proofs.Common.{◌≡◌, ◌++◌, drop}
use Rattle.tp_model.specs.OutText.{out_texts}
use Rattle.tpunite.proofs.top.write_lines.Given as goal

-- those before, and those that are left
abbrev pub invariant-loop-line : goal.invariant-loop-line
invariant-loop-line l = l.fn.out ++ out_texts l.lines ≡ l.out ++ out_texts (drop l.line-index l.lines)
