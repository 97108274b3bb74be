use Rattle.std.proofs.Common.{arith}
use Rattle.tp_world_members.proofs.Gave.{gave_put}
use Rattle.tp_world_members.proofs.members.Members.put.Goals as goal

pub returns-clause-gave : goal.returns-clause-gave
returns-clause-gave g c =
    gave_put _ c.args.self.now.slots.items c.args.member c.args.node c.args.indication.now c.tell.result c.index_mut.result.now c.tell.new.slot
    (let h = c.if-place-eq0.false in grind (arith, h))
    (let h = c.if-place-len.false in let l = c.len.ensures in grind (arith, h, l))
    c.index_mut.ensures.value
    c.tell.ensures.may
