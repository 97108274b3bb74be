use Rattle.std.proofs.Common.{◌≡◌, ◌++◌, map, drop}
use Rattle.tp_draw.specs.Texts.{joined}
use Rattle.tp_draw.proofs.picture.Picture.put_all.Given as goal

abbrev pub invariant-loop-text : goal.invariant-loop-text
invariant-loop-text l = l.self ++ joined (map (λ t. t.now) (drop l.text-index l.texts)) ≡ l.fn.self ++ joined (map (λ t. t.now) l.texts)
