use Rattle.std.proofs.Common.{◌≡◌, ◌∙◌, sym, ap, subst, Bool, true, false, Some, None, Ok, Err}
use Rattle.std.specs.Prelude.{cond}
use Rattle.std.specs.Option.{option_map}
use Rattle.tp_model.specs.Transactions.{Transaction}
use Rattle.tp_model.specs.Node.{Move, followed, seen, is_over, transact, try_start}
use Rattle.tp_node.specs.Node.{Node, unboxed}
use Rattle.tp_draft.specs.Draft.{Draft, later}
use Rattle.tp_draft.specs.Passage.{passing, turning_by}
use Rattle.tp_draft.proofs.Drafts.{perform_none, plays_then_at}
use Rattle.tp_draft.proofs.Turns.{transacts, transacts_none, transact_halts, settled_turn, halted_turn, without_current, taken_out, none_taken}
use Rattle.tp_draft.proofs.draft.Draft.transact.Goals as goal

pub returns-in_default : goal.returns-in_default
returns-in_default c =
    let a = c.args.self.now in
    let e = c.args.event.now in
    let v = c.self.inside in
    let drafted : Node → Draft = λ w. record { who = w.who; move = record { rec = later v.earlier v.step.rec; outs = v.outs; next = w.digest } } in
    let from : drafted c.deref_mut.result.now ≡ c.args.self.now = ap drafted c.deref_mut.ensures.value ∙ c.self.view_is in
    let is : drafted c.take_seen.new.self ≡ without_current a = ap drafted c.take_seen.ensures.node ∙ ap without_current from in
    let none : option_map (seen a.who a.move.next.arcs) a.move.next.current ≡ None = subst (λ (x : Draft). option_map (seen x.who x.move.next.arcs) x.move.next.current ≡ None) from (sym c.take_seen.ensures.branch ∙ ap unboxed c.in_default.is) in
    none_taken a (drafted c.take_seen.new.self) none is ∙ sym (perform_none a) ∙ sym (ap (λ (m : Move). record a { move = followed a.move (λ _. m) }) (transacts_none a e none))

pub returns-in-Err : goal.returns-in-Err
returns-in-Err c =
    let a = c.args.self.now in
    let e = c.args.event.now in
    let v = c.self.inside in
    let drafted : Node → Draft = λ w. record { who = w.who; move = record { rec = later v.earlier v.step.rec; outs = v.outs; next = w.digest } } in
    let from : drafted c.deref_mut.result.now ≡ c.args.self.now = ap drafted c.deref_mut.ensures.value ∙ c.self.view_is in
    let is : drafted c.take_seen.new.self ≡ without_current a = ap drafted c.take_seen.ensures.node ∙ ap without_current from in
    let t = c.deref_mut-2.result.now in
    let there : option_map (seen a.who a.move.next.arcs) a.move.next.current ≡ Some t = subst (λ (x : Draft). option_map (seen x.who x.move.next.arcs) x.move.next.current ≡ Some t) from (sym c.take_seen.ensures.branch ∙ ap unboxed c.in-Some.is ∙ sym (ap (λ (u : Transaction). Some u) c.deref_mut-2.ensures.value)) in
    let halts = halted_turn c.in-Err.halt (drafted c.take_seen.new.self) c.take_turn.new.self t e (c.in-Err.ensures {u = tt}).turn in
    transact_halts c.in-Err.halt a c.take_turn.new.self e t there (taken_out (Err c.in-Err.halt) a (drafted c.take_seen.new.self) c.take_turn.new.self t e is halts)

pub returns-in-Ok-false : goal.returns-in-Ok-false
returns-in-Ok-false c =
    let a = c.args.self.now in
    let e = c.args.event.now in
    let v = c.self.inside in
    let drafted : Node → Draft = λ w. record { who = w.who; move = record { rec = later v.earlier v.step.rec; outs = v.outs; next = w.digest } } in
    let from : drafted c.deref_mut.result.now ≡ c.args.self.now = ap drafted c.deref_mut.ensures.value ∙ c.self.view_is in
    let is : drafted c.take_seen.new.self ≡ without_current a = ap drafted c.take_seen.ensures.node ∙ ap without_current from in
    let t = c.deref_mut-2.result.now in
    let there : option_map (seen a.who a.move.next.arcs) a.move.next.current ≡ Some t = subst (λ (x : Draft). option_map (seen x.who x.move.next.arcs) x.move.next.current ≡ Some t) from (sym c.take_seen.ensures.branch ∙ ap unboxed c.in-Some.is ∙ sym (ap (λ (u : Transaction). Some u) c.deref_mut-2.ensures.value)) in
    let acts = c.in-Ok-false.ensures {u = tt} in
    let on : is_over (passing t e) ≡ false = sym acts.over ∙ c.in-Ok-false.field-0-test in
    let turns = settled_turn (drafted c.take_seen.new.self) c.take_turn.new.self c.settle-in-Ok-false.new.self t c.take_turn.new.branch e acts.turn acts.next c.settle-in-Ok-false.ensures in
    taken_out (Ok tt) a (drafted c.take_seen.new.self) c.settle-in-Ok-false.new.self t e is turns
    ∙ sym (ap (λ (m : Move). record a { move = followed a.move (λ _. m) }) (transacts a e t there ∙ ap (λ (w : Bool). cond w (followed (turning_by t e a.who a.move.next) (try_start a.who)) (turning_by t e a.who a.move.next)) on))

pub returns-in-Ok-true : goal.returns-in-Ok-true
returns-in-Ok-true c =
    let a = c.args.self.now in
    let e = c.args.event.now in
    let v = c.self.inside in
    let drafted : Node → Draft = λ w. record { who = w.who; move = record { rec = later v.earlier v.step.rec; outs = v.outs; next = w.digest } } in
    let from : drafted c.deref_mut.result.now ≡ c.args.self.now = ap drafted c.deref_mut.ensures.value ∙ c.self.view_is in
    let is : drafted c.take_seen.new.self ≡ without_current a = ap drafted c.take_seen.ensures.node ∙ ap without_current from in
    let t = c.deref_mut-2.result.now in
    let there : option_map (seen a.who a.move.next.arcs) a.move.next.current ≡ Some t = subst (λ (x : Draft). option_map (seen x.who x.move.next.arcs) x.move.next.current ≡ Some t) from (sym c.take_seen.ensures.branch ∙ ap unboxed c.in-Some.is ∙ sym (ap (λ (u : Transaction). Some u) c.deref_mut-2.ensures.value)) in
    let acts = c.in-Ok-true.ensures {u = tt} in
    let over : is_over (passing t e) ≡ true = sym acts.over ∙ c.in-Ok-true.field-0-test in
    let settled = c.settle in
    let turns = settled_turn (drafted c.take_seen.new.self) c.take_turn.new.self settled.new.self t c.take_turn.new.branch e acts.turn acts.next settled.ensures in
    plays_then_at c.try_start.result a settled.new.self c.try_start.new.self (turning_by t e) try_start (λ who. transact who e)
    (taken_out (Ok tt) a (drafted c.take_seen.new.self) settled.new.self t e is turns)
    (transacts a e t there ∙ ap (λ (w : Bool). cond w (followed (turning_by t e a.who a.move.next) (try_start a.who)) (turning_by t e a.who a.move.next)) over)
    c.try_start.ensures
