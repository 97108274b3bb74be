use Rattle.std.proofs.Common.{◌≡◌, ◌∙◌, ap, Bool, Err, Ok}
use Rattle.tp_model.specs.declared.arc.Phase.{Phase}
use Rattle.tp_model.specs.Transactions.{Transaction, transacted}
use Rattle.tp_model.specs.Node.{passage, is_leaving}
use Rattle.tp_commit.specs.Branch.{standing}
use Rattle.tp_node.specs.Passage.{passage_of}
use Rattle.tp_draft.specs.Passage.{passing}
use Rattle.tp_draft.proofs.Recorded.{turns_by}
use Rattle.tp_draft.proofs.draft.Draft.take_turn.Goals as goal

pub returns-in-Err-clause-turn : goal.returns-in-Err-clause-turn
returns-in-Err-clause-turn c =
    let a = c.args.self.now in
    let t = c.args.branch.now in
    let e = c.args.event.now in
    let u = c.plan.new.branch in
    let w = passage_of c.of-passage.result in
    let planned = c.in_ok-said.ensures {u = tt} in
    let leaves : u ≡ standing (transacted e t).next = planned.next in
    let passes : w ≡ passing t e =
    c.of-passage.ensures
    ∙ ap (λ (b : Bool). passage b c.phase-before.result c.phase.result) c.is_leaving.ensures
    ∙ ap (λ (p : Phase). passage (is_leaving e) p c.phase.result) c.phase-before.ensures
    ∙ ap (λ (p : Phase). passage (is_leaving e) t.phase p) (c.phase.ensures ∙ ap (λ (x : Transaction). x.phase) leaves) in
    turns_by (Err c.in-Err.halt) a c.plan.new.self c.speak.new.self t u e w c.as_slice.result.now c.requires passes planned.rec (c.as_slice.ensures ∙ planned.said) leaves (c.in-Err.ensures {u = tt})

pub returns-clause-turn : goal.returns-clause-turn
returns-clause-turn c =
    let a = c.args.self.now in
    let t = c.args.branch.now in
    let e = c.args.event.now in
    let u = c.plan.new.branch in
    let w = passage_of c.of-passage.result in
    let planned = c.in_ok-said.ensures {u = tt} in
    let leaves : u ≡ standing (transacted e t).next = planned.next in
    let passes : w ≡ passing t e =
    c.of-passage.ensures
    ∙ ap (λ (b : Bool). passage b c.phase-before.result c.phase.result) c.is_leaving.ensures
    ∙ ap (λ (p : Phase). passage (is_leaving e) p c.phase.result) c.phase-before.ensures
    ∙ ap (λ (p : Phase). passage (is_leaving e) t.phase p) (c.phase.ensures ∙ ap (λ (x : Transaction). x.phase) leaves) in
    c.put_said.ensures
    ∙ turns_by (Ok tt) a c.plan.new.self c.speak.new.self t u e w c.as_slice.result.now c.requires passes planned.rec (c.as_slice.ensures ∙ planned.said) leaves (c.in_default.ensures {u = tt})
