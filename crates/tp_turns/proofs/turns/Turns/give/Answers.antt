use Rattle.std.proofs.Common.{arith, subst, sym}
use mathlib.Core.Option.{none}
use Rattle.atomic_table.specs.Table.{Allows, step}
use Rattle.tp_turns.specs.Turns.{Kept, gave}
use Rattle.tp_turns.proofs.Keeping.{may_give}
use Rattle.tp_turns.proofs.turns.Turns.give.Goals as goal

pub store-requires : goal.store-requires
store-requires g c =
    let list = g.T.Lists.list in
    let log = c.args.self.now in
    let slots = log.table.shared.table_id.slots in
    let id = c.args.pass.now.id in
    let (seen, more, first, others, x, is, me) = c.requires.has in (
      c.requires.id,
      omega (arith, log.one_word),
      subst (λ m. Allows (Kept list) slots id m 0 (λ _. 0) (λ _. gave list (step slots 0 0 0 none) m 0)) (sym me) (may_give list slots id seen more first others x is),
    )
