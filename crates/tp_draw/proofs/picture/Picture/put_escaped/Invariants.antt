use Rattle.std.proofs.Common.{◌≡◌, ◌++◌, drop}
use Rattle.tp_draw.specs.Texts.{escaped}
use Rattle.tp_draw.proofs.picture.Picture.put_escaped.Given as goal

abbrev pub invariant-loop-octet : goal.invariant-loop-octet
invariant-loop-octet l = l.self ++ escaped (drop l.octet-index l.text) ≡ l.fn.self ++ escaped l.text
