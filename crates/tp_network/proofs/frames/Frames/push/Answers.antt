use Rattle.std.proofs.Common.{◌≡◌, ◌≤◌, ◌+◌, ◌++◌, ◌∷◌, [], ap, sym, refl, ◌∙◌, arith, List, length, map}
use Rattle.std.proofs.lemmas.List.{length-map}
use Rattle.tp_model.specs.World.{Frame as FrameValue}
use Rattle.tp_network.specs.Frames.{frame_of}
use Rattle.tp_network.specs.declared.frames.Frame.{Frame}
use Rattle.tp_network.proofs.Oldest.{leading_most}
use Rattle.tp_network.proofs.Waits.{numbered_more}
use Rattle.tp_network.proofs.frames.Frames.push.Goals as goal

pub add-requires : goal.add-requires
add-requires c =
    let fs = c.self.inside.items.items in
    let front = c.self.invariant.first in
    let most = leading_most fs in
    let same : length (map frame_of fs) ≡ length fs = length-map fs frame_of in
    let number : c.args.number ≡ length (map frame_of fs) + 1 = c.requires.number ∙ ap (λ (l : List FrameValue). length l + 1) (sym c.self.view_is) in
    omega (arith, front, most, same, number)

pub invariant_of-self-2 : goal.invariant_of-self-2
invariant_of-self-2 c =
    let f = c.args.frame in
    let most : c.args.number ≤ 65535 = omega (arith, c.ranges.number.fits) in
    numbered_more c.self.inside _ f c.args.number c.self.invariant c.requires.fresh (c.requires.number ∙ ap (λ (fs : List FrameValue). length fs + 1) (sym c.self.view_is)) most
    (c.push_reserved.ensures.items ∙ ap (λ (l : List Frame). l ++ f ∷ []) c.in_ok-make_room.ensures.items) refl c.in_ok-add.ensures.ok
