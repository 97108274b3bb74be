use Rattle.std.proofs.Common.{arith, subst, sym, ap, ◌∙◌, ◌==◌}
use mathlib.Core.Option.{none}
use prog.Atomic.{either}
use Rattle.atomic_table.specs.Table.{Allows, step}
use Rattle.tp_turns.specs.Turns.{Kept, took}
use Rattle.tp_turns.proofs.Keeping.{may_take}
use Rattle.tp_turns.proofs.turns.Turns.take.Goals as goal

pub compare_exchange-requires : goal.compare_exchange-requires
compare_exchange-requires g c =
    let list = g.T.Lists.list in
    let log = c.args.self.now in
    let slots = log.table.shared.table_id.slots in
    let me = c.loop.pass.me in
    let none_out = ap (λ m. m.1) c.loop.invariant.3 ∙ c.requires.1 in (
      c.loop.invariant.2 ∙ c.requires.0,
      omega (arith, log.one_word),
      subst (λ m. Allows (Kept list) slots c.loop.pass.id m 0 (λ n. either (n == 0) 1 n) (took list (step slots 0 0 1 none) m)) (λ i. (me.0, sym none_out i)) (may_take list slots c.loop.pass.id me.0),
    )
