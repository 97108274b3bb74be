use Rattle.std.proofs.Common.{◌≡◌, ◌∙◌, sym, ap, subst}
use Rattle.tp_model.specs.Node.{begin_on}
use Rattle.tp_draft.specs.Draft.{Draft, Plays, later}
use Rattle.tp_node.specs.Node.{Node}
use Rattle.tp_draft.proofs.Beginnings.{begins_carried}
use Rattle.tp_draft.proofs.draft.Draft.begin_on.Goals as goal

pub returns : goal.returns
returns c =
    let v = c.self.inside in
    let drafted : Node → Draft = λ w. record { who = w.who; move = record { rec = later v.earlier v.step.rec; outs = v.outs; next = w.digest } } in
    let from : drafted c.deref_mut.result.now ≡ c.args.self.now = ap drafted c.deref_mut.ensures.value ∙ c.self.view_is in
    let made = c.in_ok-rec.ensures {u = tt} in
    subst (λ (a : Draft). Plays c.carry.result a c.carry.new.self (λ who. begin_on who c.args.peer)) from
    (begins_carried c.carry.result (drafted c.deref_mut.result.now) (drafted c.begin_branch.new.self) c.carry.new.self c.args.peer c.in-Some.rec (ap drafted made.node) (sym made.rec ∙ c.in-Some.is) c.carry.ensures)
