use Rattle.std.proofs.Common.{◌≡◌, Some, map, drop}
use Rattle.tpdraw.specs.Asked.{asked, asked_on}
use Rattle.tpdraw.proofs.top.asked.Given as goal

abbrev pub invariant-loop-word : goal.invariant-loop-word
invariant-loop-word l = asked_on (Some l.asking) (map (λ w. w.now) (drop l.word-index l.words)) ≡ asked (map (λ w. w.now) l.words)
