use Rattle.std.proofs.Common.{ap, subst, ◌∙◌}
use Rattle.std.specs.Slots.{slots_items}
use Rattle.tp_turns.specs.Turns.{Covers, lists_of}
use Rattle.tp_turns.proofs.Keeping.{ends}
use Rattle.tp_turns.proofs.turns.Turns.into_claimed.Goals as goal

pub returns : goal.returns
returns g c =
    let list = g.T.Lists.list in
    let closed = c.close_with-closed.result in
    let pass = c.seal.new.pass in
    let sealed = c.seal.ensures.sealed in
    subst (λ ls. Covers (list c.take-value.result) ls) (ap (λ m. lists_of m.0.claims) sealed ∙ ap (λ m. lists_of m.0.claims) c.take-turn.ensures.has.1)
    (ends list (slots_items closed.words) (slots_items closed.slots) pass.id pass.me.0 c.take-value.result (ap (λ m. m.0.stage) sealed) c.close_with-closed.ensures.values.2 c.take-value.ensures.value)
