use Rattle.std.proofs.Common.{◌≡◌, ◌∙◌, ap, sym, subst, [], ◌∷◌, ◌++◌}
use Rattle.tp_names.specs.declared.identifiers.Mark.{Mark}
use Rattle.tp_records.specs.declared.peer.PeerRecord.{PeerRecord}
use Rattle.tp_model.specs.declared.arc.Side.{Side}
use Rattle.tp_model.specs.declared.transaction.TxOut.{TxOut}
use Rattle.tp_model.specs.Parts.{Opening, Digest}
use Rattle.tp_model.specs.Node.{perform, with_mark_drawn}
use Rattle.tp_model.specs.Requests.{call}
use Rattle.tp_node_state.specs.Arcs.{new_arc}
use Rattle.tp_draft.specs.Draft.{Draft, Plays, later}
use Rattle.tp_node.specs.Node.{Node}
use Rattle.tp_draft.proofs.Drafts.{plays_from}
use Rattle.tp_draft.proofs.Calls.{call_is}
use Rattle.tp_draft.proofs.draft.Draft.call.Goals as goal

pub returns : goal.returns
returns c =
    let v = c.self.inside in
    let d = c.deref_mut.result.now.digest in
    let to = c.args.addr in
    let units = c.args.units in
    let x : Mark = c.in_ok-x.x in
    let drafted : Node → Draft = λ w. record { who = w.who; move = record { rec = later v.earlier v.step.rec; outs = v.outs; next = w.digest } } in
    let from : drafted c.deref_mut.result.now ≡ c.args.self.now = ap drafted c.deref_mut.ensures.value ∙ c.self.view_is in
    let made = c.in_ok-x.ensures {u = tt} in
    let behind : Mark → Digest = λ y. record (with_mark_drawn d) { arcs = d.arcs ++ new_arc to units Side.Superior (Opening y) ∷ [] } in
    let same = call_is c.deref_mut.result.now.who to units d ∙ ap (λ (y : Mark). perform (TxOut.Recovery to (PeerRecord.OpenAssoc y units) ∷ []) (behind y)) (sym made.mark) in
    subst (λ (a : Draft). Plays c.send.result a c.send.new.self (λ who. call who to units)) from
    (plays_from c.send.result (drafted c.deref_mut.result.now) (drafted c.call.new.self) c.send.new.self (behind x) (λ who. perform (TxOut.Recovery to (PeerRecord.OpenAssoc x units) ∷ [])) (λ who. call who to units) (ap drafted made.node) same c.send.ensures)
