use Rattle.std.proofs.Common.{◌≡◌, ◌+◌, ◌-◌, ap, sym, ◌∙◌, arith, List, Some, length, map}
use Rattle.std.proofs.lemmas.List.{with_items_is}
use Rattle.tp_model.specs.World.{Frame as FrameValue, mark_handed, oldest_from}
use Rattle.tp_network.specs.Frames.{frame_of, is_between, leading}
use Rattle.tp_network.specs.declared.frames.Frame.{Frame}
use Rattle.tp_network.proofs.Waits.{first_between, number_there, numbered_handed}
use Rattle.tp_network.proofs.frames.Frames.hand_between.Goals as goal

pub overflow_sub-number : goal.overflow_sub-number
overflow_sub-number c = let there = number_there c.self.inside c.self.invariant c.args.from c.args.to c.in-Some.number c.in-Some.ensures.number in omega (arith, there.0)

pub invariant_of-self-in-Some : goal.invariant_of-self-in-Some
invariant_of-self-in-Some c =
    let v = c.self.inside in
    let n = c.in-Some.number in
    let there = number_there v c.self.invariant c.args.from c.args.to n c.in-Some.ensures.number in
    let number : n - 1 + 1 ≡ n = omega (arith, there.0) in
    let keeps : length c.mark_at.new.frames ≡ length v.items.items = c.mark_at.auto.frames ∙ ap (λ (fs : List Frame). length fs) c.as_mut_slice.ensures.value in
    let items = with_items_is v.items c.mark_at.new.frames (keeps ∙ sym v.items.ok.0) in
    numbered_handed v _ c.args.from c.args.to (Some n) c.self.invariant c.in-Some.ensures.number
    (ap (λ (fs : List Frame). map frame_of fs) items ∙ c.mark_at.ensures.marked ∙ ap (λ (fs : List Frame). mark_handed (map frame_of fs) (n - 1 + 1)) c.as_mut_slice.ensures.value ∙ ap (mark_handed (map frame_of v.items.items)) number)
    (c.first_unhanded-self-inside.ensures ∙ ap leading c.as_slice.ensures.value)
    (let were = ap leading c.as_mut_slice.ensures.value in let are = ap leading items in let leads = c.mark_at.ensures.leads in omega (arith, were, are, leads))
    (ap (λ (fs : List Frame). length fs) items ∙ keeps) c.in-Some.ensures.rest

pub returns-in-None-clause-number : goal.returns-in-None-clause-number
returns-in-None-clause-number c = c.in-None.ensures.number ∙ first_between c.self.inside c.self.invariant c.args.from c.args.to ∙ ap (λ (fs : List FrameValue). oldest_from 0 (is_between c.args.from c.args.to) fs) c.self.view_is

pub returns-in-Some-clause-number : goal.returns-in-Some-clause-number
returns-in-Some-clause-number c = c.in-Some.ensures.number ∙ first_between c.self.inside c.self.invariant c.args.from c.args.to ∙ ap (λ (fs : List FrameValue). oldest_from 0 (is_between c.args.from c.args.to) fs) c.self.view_is

pub returns-in-Some-clause-frames : goal.returns-in-Some-clause-frames
returns-in-Some-clause-frames c =
    let v = c.self.inside in
    let n = c.in-Some.number in
    let there = number_there v c.self.invariant c.args.from c.args.to n c.in-Some.ensures.number in
    let number : n - 1 + 1 ≡ n = omega (arith, there.0) in
    let keeps : length c.mark_at.new.frames ≡ length v.items.items = c.mark_at.auto.frames ∙ ap (λ (fs : List Frame). length fs) c.as_mut_slice.ensures.value in
    let items = with_items_is v.items c.mark_at.new.frames (keeps ∙ sym v.items.ok.0) in
    ap (λ (fs : List Frame). map frame_of fs) items ∙ c.mark_at.ensures.marked ∙ ap (λ (fs : List Frame). mark_handed (map frame_of fs) (n - 1 + 1)) c.as_mut_slice.ensures.value ∙ ap (mark_handed (map frame_of v.items.items)) number
    ∙ ap (λ (fs : List FrameValue). mark_handed fs n) c.self.view_is
