use Rattle.std.proofs.Common.{◌≡◌, ◌∙◌, ◌+◌, true, ap, sym, Option, List, ℕ, arith}
use Rattle.tp_names.specs.declared.identifiers.Addr.{Addr}
use Rattle.tp_names.specs.declared.identifiers.BranchId.{BranchId}
use Rattle.tp_names.specs.declared.identifiers.Mark.{Mark}
use Rattle.tp_records.specs.declared.dialogue.DialogueRecord.{DialogueRecord}
use Rattle.tp_records.specs.declared.dialogue.Holder.{Holder}
use Rattle.tp_model.specs.Parts.{Out}
use Rattle.tp_model.specs.Dialogues.{named_holder}
use Rattle.tp_model.specs.Node.{may_begin_on}
use Rattle.tp_tree.specs.Tie.{arc_of}
use Rattle.tp_node.specs.Node.{Node}
use Rattle.tp_node_state.specs.Arcs.{outs_next}
use Rattle.tp_node.specs.Begins.{begun_sent, new_branch}
use Rattle.tp_node.proofs.Begun.{next_count, said_once, says}
use Rattle.tp_node.proofs.node.Node.plan_begin.Goals as goal

pub returns-clause-out : goal.returns-clause-out
returns-clause-out c =
    let v = c.args.self.now in
    let t = c.in-Some-Some.tie.now in
    let may : true ≡ may_begin_on v.who v.digest (arc_of t) = grind (arith, c.may_begin_on.ensures, c.if-not-may_begin_on.false) in
    let made : Addr → BranchId → Holder → Option (Mark × Mark × ℕ) → List Out = λ a b h n. outs_next a (DialogueRecord.Begin c.in-Some-Some.aaid b h) n in
    let own : BranchId = record { superior = c.self.inside.site; mark = record { boot = c.self.inside.boot; node = c.self.inside.number; count = c.self.inside.drawn + 1 } } in
    let id : own ≡ new_branch v.who v.digest =
    ap (λ (n : ℕ). let b : BranchId = record { superior = c.self.inside.site; mark = record { boot = c.self.inside.boot; node = c.self.inside.number; count = n } } in b) (next_count c.self.inside.drawn)
    ∙ ap (λ (n : Node). new_branch n.who n.digest) c.self.view_is in
    said_once c.sent.result (begun_sent v.who c.args.peer v.digest).1
    (c.sent.ensures
    ∙ ap (λ (a : Addr). made a own c.named_holder-holder.result c.in-Ok.next) c.addr.ensures
    ∙ ap (λ (b : BranchId). made (arc_of t).peer b c.named_holder-holder.result c.in-Ok.next) id
    ∙ ap (λ (h : Holder). made (arc_of t).peer (new_branch v.who v.digest) h c.in-Ok.next) c.named_holder-holder.ensures
    ∙ ap (made (arc_of t).peer (new_branch v.who v.digest) (named_holder (arc_of t).dialogue)) c.in-Ok.ensures.next
    ∙ sym (says v.who c.args.peer v.digest c.in-Some-Some.aaid (arc_of t) c.in-Some-Some.ensures c.in-Some-Some.ensures'.arc may))
