use Rattle.std.proofs.Common.{◌≡◌, drop}
use Rattle.tp_draw.specs.Chosen.{is_among}
use Rattle.tp_draw.proofs.chosen.is_among.Given as goal

abbrev pub invariant-loop-it : goal.invariant-loop-it
invariant-loop-it l = is_among l.number (drop l.it-index l.numbers) ≡ is_among l.number l.numbers
