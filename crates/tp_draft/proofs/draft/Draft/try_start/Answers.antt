use Rattle.std.proofs.Common.{◌≡◌, ◌∙◌, sym, subst, true, [], ap}
use Rattle.tp_model.specs.Node.{start_root, try_start}
use Rattle.tp_node.specs.Node.{Node}
use Rattle.tp_draft.specs.Draft.{Draft, later}
use Rattle.tp_node.specs.Begins.{may_start}
use Rattle.tp_draft.proofs.Drafts.{plays_alike}
use Rattle.tp_draft.proofs.Beginnings.{starts_now}
use Rattle.tp_draft.proofs.draft.Draft.try_start.Goals as goal

pub returns : goal.returns
returns c =
    let a = c.args.self.now in
    let v = c.self.inside in
    let drafted : Node → Draft = λ w. record { who = w.who; move = record { rec = later v.earlier v.step.rec; outs = v.outs; next = w.digest } } in
    let from : drafted c.deref.result.now ≡ a = ap drafted c.deref.ensures ∙ c.self.view_is in
    let may : may_start a.who a.move.next ≡ true = subst (λ (x : Draft). may_start x.who x.move.next ≡ true) from (sym (c.in_ok-may_start.ensures {u = tt}) ∙ c.if-not-branch.false) in
    plays_alike c.start_root.result a a c.start_root.new.self try_start (λ who. start_root who []) (starts_now a may) c.start_root.ensures
