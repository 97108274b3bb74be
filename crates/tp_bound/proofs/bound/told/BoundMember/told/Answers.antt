use Rattle.tp_bound.specs.Says.{speaker}
use Rattle.tp_bound.proofs.Speaking.{if_ok_so}
use Rattle.tp_bound.proofs.bound.told.BoundMember.told.Goals as goal

-- and from then on nothing
pub returns-clause-alone : goal.returns-clause-alone
returns-clause-alone g c =
    let left = c.told.new.self in
    if_ok_so c.told.result _ _ c.told.ensures.says (λ a says. (speaker left, left.disk, says, c.told.ensures.shuts, tt))
