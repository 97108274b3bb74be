use Rattle.std.proofs.Common.{◌≡◌, ◌++◌, drop}
use Rattle.tp_draw.specs.Page.{items}
use Rattle.tp_draw.proofs.page.write_items.Given as goal

abbrev pub invariant-loop-line : goal.invariant-loop-line
invariant-loop-line l = l.out ++ items (drop l.line-index l.lines) ≡ l.fn.out ++ items l.lines
