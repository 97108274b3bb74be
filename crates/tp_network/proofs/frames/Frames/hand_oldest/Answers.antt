use Rattle.std.proofs.Common.{◌≡◌, ◌<◌, ◌+◌, ap, sym, ◌∙◌, arith, List, length, map, refl, rules}
use Rattle.std.proofs.lemmas.List.{with_items_is}
use Rattle.tp_model.specs.World.{mark_handed}
use Rattle.tp_network.specs.Frames.{frame_of, leading}
use Rattle.tp_network.specs.declared.frames.Frame.{Frame}
use Rattle.tp_network.proofs.Waits.{numbered_first}
use Rattle.tp_network.proofs.frames.Frames.hand_oldest.Goals as goal

pub invariant_of-self : goal.invariant_of-self
invariant_of-self c =
    let v = c.self.inside in
    let within : v.first < length v.items.items = first_of (search rules, grind (arith, c.if-place-len.false)) in
    let keeps : length c.mark_at.new.frames ≡ length v.items.items = c.mark_at.auto.frames ∙ ap (λ (fs : List Frame). length fs) c.as_mut_slice.ensures.value in
    let items = with_items_is v.items c.mark_at.new.frames (keeps ∙ sym v.items.ok.0) in
    numbered_first v _ c.self.invariant
    (ap (λ (fs : List Frame). map frame_of fs) items ∙ c.mark_at.ensures.marked ∙ ap (λ (fs : List Frame). mark_handed (map frame_of fs) (v.first + 1)) c.as_mut_slice.ensures.value)
    (c.first_unhanded-self-inside.ensures ∙ ap leading c.as_slice.ensures.value)
    (let were = ap leading c.as_mut_slice.ensures.value in
    let many = ap (λ (fs : List Frame). length fs) c.as_mut_slice.ensures.value in
    let are = ap leading items in
    let front = c.self.invariant.first in
    let past = c.mark_at.ensures.past (omega (arith, were, front)) (omega (arith, many, within)) in
    omega (arith, are, past))
    (ap (λ (fs : List Frame). length fs) items ∙ keeps) (λ a b. refl)
