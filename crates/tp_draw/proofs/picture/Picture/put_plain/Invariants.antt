use Rattle.std.proofs.Common.{◌≡◌, ◌++◌, drop}
use Rattle.tp_draw.specs.Texts.{plain}
use Rattle.tp_draw.proofs.picture.Picture.put_plain.Given as goal

abbrev pub invariant-loop-octet : goal.invariant-loop-octet
invariant-loop-octet l = l.self ++ plain (drop l.octet-index l.text) ≡ l.fn.self ++ plain l.text
