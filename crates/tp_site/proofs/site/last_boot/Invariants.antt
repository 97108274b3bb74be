use Rattle.std.proofs.Common.{◌≡◌, drop, map}
use Rattle.tp_logrec.specs.Order.{boots}
use Rattle.tp_site.proofs.Starting.{last_after}
use Rattle.tp_site.proofs.site.last_boot.Given as goal

-- the last of those before
abbrev pub invariant-loop-i : goal.invariant-loop-i
invariant-loop-i g l =
    last_after 0 (boots (map (λ r. r.rec) (g.K.Keeper.standing l.keeper).told))
    ≡ last_after l.last (boots (map (λ r. r.rec) (drop l.i (g.K.Keeper.standing l.keeper).told)))
