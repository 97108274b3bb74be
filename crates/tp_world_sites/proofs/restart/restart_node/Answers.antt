use Rattle.std.proofs.Common.{◌≡◌, suc, true, false, ap, sym, ◌∙◌, subst, arith, Ok, Err}
use Rattle.tp_names.specs.Same.{is_name}
use Rattle.tp_model.specs.Parts.{Event}
use Rattle.tp_model.specs.World.{site_of}
use Rattle.tp_world_sites.specs.Restarts.{RestartsTo}
use Rattle.tp_world_sites.specs.declared.fault.WorldFault.{WorldFault}
use Rattle.tp_world_sites.specs.Slots.{SlotPlays}
use Rattle.tp_world_sites.specs.NodeAnswers.{answer_told}
use Rattle.tp_world_sites.specs.declared.site_slot.Answer.{Answer}
use Rattle.tp_world_sites.proofs.Stopping.{IsSelf, at_self, is_here, node_never_refused, node_again, node_memory, next_apart}
use Rattle.tp_world_sites.proofs.Handed.{err_is}
use Rattle.tp_world_sites.proofs.Turned.{none_past}
use Rattle.tp_world_sites.proofs.restart.restart_node.Goals as goal

pub returns-then-place-count : goal.returns-then-place-count
returns-then-place-count c = λ ns first stop within to.
    none_past first.site.nodes.site c.args.place ns c.args.nodes.now to.nodes within (omega (arith, c.count.ensures, c.if-place-count.true))

pub returns-then-not-is_name : goal.returns-then-not-is_name
returns-then-not-is_name c = λ ns first stop within to.
    let x = c.at-node.result.now in
    let s : IsSelf ns c.args.place c.args.nodes.now x = at_self first.site.nodes.site ns c.args.place c.args.nodes.now x to.nodes within (sym (c.at-node.ensures x)) in
    let there : is_name (site_of s.node) first.site.nodes.site ≡ false = is_here ns c.args.place first c.args.nodes.now c.args.next.now x to s c.name.result false c.name.ensures (sym c.is_name.ensures ∙ c.if-not-is_name.true) in
    next_apart ns c.args.place first c.args.nodes.now c.args.next.now s.node to s.at there

pub returns-in-Refused : goal.returns-in-Refused
returns-in-Refused c = λ ns first stop within to.
    let x = c.at-node.result.now in
    let s : IsSelf ns c.args.place c.args.nodes.now x = at_self first.site.nodes.site ns c.args.place c.args.nodes.now x to.nodes within (sym (c.at-node.ensures x)) in
    let here : is_name (site_of s.node) first.site.nodes.site ≡ true = is_here ns c.args.place first c.args.nodes.now c.args.next.now x to s c.name.result true c.name.ensures (sym c.is_name.ensures ∙ c.if-not-is_name.false) in
    node_never_refused ns c.args.place first c.args.old.now c.args.lost.now c.args.nodes.now c.args.next.now x stop to s here c.in-Refused.field-0 c.play.new.self
    (subst (λ (a : Answer). SlotPlays c.args.next.now x.addr.node (Event.Declare x.superior) (Ok (answer_told a c.play.new.entry)) c.play.new.self) c.in-Refused.is (c.in_ok-answer.ensures {u = tt}))

pub returns-in_err-answer : goal.returns-in_err-answer
returns-in_err-answer c = λ ns first stop within to.
    let x = c.at-node.result.now in
    let f = c.in_err-answer.field-0.0 in
    let s : IsSelf ns c.args.place c.args.nodes.now x = at_self first.site.nodes.site ns c.args.place c.args.nodes.now x to.nodes within (sym (c.at-node.ensures x)) in
    let here : is_name (site_of s.node) first.site.nodes.site ≡ true = is_here ns c.args.place first c.args.nodes.now c.args.next.now x to s c.name.result true c.name.ensures (sym c.is_name.ensures ∙ c.if-not-is_name.false) in
    let memory : f ≡ WorldFault.NoMemory = node_memory ns c.args.place first c.args.old.now c.args.lost.now c.args.nodes.now c.args.next.now x stop to s here f c.play.new.self (c.in_err-answer.ensures {u = tt}) in
    subst (λ r. RestartsTo ns (suc c.args.place) first r c.change.new.self c.play.new.self) (sym (err_is c.from_residual-in_err-answer.result f c.from_residual-in_err-answer.ensures.1 ∙ ap (λ (g : WorldFault). Err g) memory)) tt

pub returns : goal.returns
returns c = λ ns first stop within to.
    let x = c.at-node.result.now in
    let s : IsSelf ns c.args.place c.args.nodes.now x = at_self first.site.nodes.site ns c.args.place c.args.nodes.now x to.nodes within (sym (c.at-node.ensures x)) in
    let here : is_name (site_of s.node) first.site.nodes.site ≡ true = is_here ns c.args.place first c.args.nodes.now c.args.next.now x to s c.name.result true c.name.ensures (sym c.is_name.ensures ∙ c.if-not-is_name.false) in
    node_again ns c.args.place first c.args.old.now c.args.lost.now c.args.nodes.now c.args.next.now x stop to s here c.tree_before.result c.tree.result c.in-Happened.refusal c.play.new.entry c.play.new.self c.change.new.self c.change-2.new.self
    c.tree_before.ensures c.tree.ensures (c.in_ok-change.ensures {u = tt}).changed (subst (λ (a : Answer). SlotPlays c.args.next.now x.addr.node (Event.Declare x.superior) (Ok (answer_told a c.play.new.entry)) c.play.new.self) c.in-Happened.is (c.in_ok-answer.ensures {u = tt}))
    (c.in_ok-change-2.ensures {u = tt}).changed
