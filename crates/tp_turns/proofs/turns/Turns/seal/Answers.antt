use Rattle.std.proofs.Common.{arith, subst, sym}
use mathlib.Core.Option.{none}
use Rattle.atomic_table.specs.Table.{Allows, step}
use Rattle.tp_turns.specs.Turns.{Kept, sealed, knows}
use Rattle.tp_turns.proofs.Keeping.{may_seal}
use Rattle.tp_turns.proofs.turns.Turns.seal.Goals as goal

pub store-requires : goal.store-requires
store-requires g c =
    let list = g.T.Lists.list in
    let log = c.args.self.now in
    let slots = log.table.shared.table_id.slots in
    let id = c.args.pass.now.id in
    let me = c.args.pass.now.me in
    let h = c.requires.has in (
      c.requires.id,
      omega (arith, log.one_word),
      subst (λ m. Allows (Kept list) slots id m 0 (λ _. 2) (λ _. sealed list (step slots 0 2 0 none) m 2)) (λ i. (knows (sym h.1 i) me.0.seen me.0.claims, sym h.3 i))
          (may_seal list slots id me.0.seen me.0.claims h.0 h.2),
    )
