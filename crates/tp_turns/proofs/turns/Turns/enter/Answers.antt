use Rattle.std.proofs.Common.{arith}
use Rattle.tp_turns.proofs.Keeping.{may_enter}
use Rattle.tp_turns.proofs.turns.Turns.enter.Goals as goal

pub load_new_seat-requires : goal.load_new_seat-requires
load_new_seat-requires g c =
    let log = c.args.self.now in
    (omega (arith, log.one_word), may_enter g.T.Lists.list log.table.shared.table_id.slots)
