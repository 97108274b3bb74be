use Rattle.std.proofs.Common.{◌≡◌, ◌∙◌, sym, subst, Some, ap}
use Rattle.std.specs.List.{slice_get}
use Rattle.tp_node.specs.Node.{Node}
use Rattle.tp_draft.specs.Draft.{Draft, later}
use Rattle.tp_draft.proofs.Retries.{purge_oldest}
use Rattle.tp_model.specs.declared.recovery.KeptEvent.{KeptEvent}
use Rattle.tp_model.specs.Recovery.{settled}
use Rattle.tp_model.specs.Node.{keep}
use Rattle.tp_model.specs.Events.{purge}
use Rattle.tp_draft.proofs.Drafts.{plays_same_at}
use Rattle.tp_draft.proofs.draft.Draft.purge.Goals as goal

pub returns-in-Some : goal.returns-in-Some
returns-in-Some c =
    let a = c.args.self.now in
    let k = c.in-Some.one in
    let v = c.self.inside in
    let drafted : Node → Draft = λ w. record { who = w.who; move = record { rec = later v.earlier v.step.rec; outs = v.outs; next = w.digest } } in
    let from : drafted c.deref.result.now ≡ a = ap drafted c.deref.ensures ∙ c.self.view_is in
    let first : slice_get a.move.next.kept 0 ≡ Some k = subst (λ (x : Draft). slice_get x.move.next.kept 0 ≡ Some k) from (sym (c.in_ok-oldest.ensures {u = tt}) ∙ c.in-Some.is) in
    plays_same_at c.settle_by.result a c.settle_by.new.self (λ who. purge) (λ who. keep (settled k KeptEvent.Purge)) (purge_oldest a.move.next k first) c.settle_by.ensures
