use Rattle.std.proofs.Common.{arith}
use Rattle.tp_turns.proofs.Keeping.{may_join}
use Rattle.tp_turns.proofs.turns.Turns.join.Goals as goal

pub join_seat-requires : goal.join_seat-requires
join_seat-requires g c =
    let pass = c.args.pass.now in
    let other = c.args.other in
    (c.requires.pass, c.requires.other.0, c.requires.other.2, omega (arith, c.args.self.now.one_word), may_join g.T.Lists.list pass.id other.id pass.me.0 other.me.0 c.requires.other.1)
