use Rattle.std.proofs.Common.{◌≡◌, ◌≢◌, ◌<◌, ◌+◌, ◌%◌, ◌++◌, ◌∷◌, ℕ, [], take, drop, length, get_or, set, ap, sym, ◌∙◌, arith, rules}
use Rattle.std.proofs.lemmas.List.{take_more, get_or_read, get_or-set_other}
use Rattle.std.proofs.lemmas.Grind.{get_or-set_at}
use Rattle.tp_records.specs.declared.body.Event.{Event}
use Rattle.tp_model.specs.NodeRun.{node_of}
use Rattle.tp_model.specs.Lanes.{outputs_in}
use Rattle.tp_drive.proofs.Lanes.{outs_own, outs_apart}
use Rattle.tp_drive.proofs.outputs.by_event.Goals as goal

-- the outputs of one event more were the first of its lane
pub loop-k-preserved : goal.loop-k-preserved
loop-k-preserved g c =
    let before = c.loop-k.invariant in
    let lanes = length c.args.outs.now in
    let k = c.loop-k.k in
    let events = c.args.events.now in
    let none : Event = Event.Retry 0 in
    let lane = c.lane_of-own.result in
    let within : k < length events = omega arith in
    let within' : k < length g.whole = omega arith in
    let lane_is : lane ≡ node_of (get_or events k none) % lanes = c.lane_of-own.ensures ∙ ap (λ e. node_of e % lanes) (get_or_read events k c.index-events-k.result within c.index-events-k.is none) in
    let there : lane < length c.loop-k.outs = search rules in
    let rest = λ (i : ℕ). outputs_in i lanes (drop (k + 1) events) (drop (k + 1) g.whole) in
    let was = sym c.in-Some.ensures.items ∙ before.left lane c.index-outs-own.result there ∙ outs_own lane lanes events g.whole k none [] within within' lane_is in
    let out : c.in-Some.out ≡ get_or g.whole k [] = cc in
    let left : c.pop_front.new.self.items ≡ rest lane = cc in
    record {
      so_far = c.in_ok-push.ensures.ok ∙ ap (λ all. all ++ c.in-Some.out ∷ []) before.so_far ∙ ap (λ a. take k g.whole ++ a ∷ []) out ∙ sym (take_more g.whole k [] within');
      left = λ i d h.
          let now = set c.loop-k.outs lane c.pop_front.new.self in
          let same : i ≡ lane → (get_or now i d).items ≡ rest i =
          λ e. ap (λ o. o.items) (get_or-set_at c.loop-k.outs lane i c.pop_front.new.self d e there) ∙ left ∙ ap rest (sym e) in
          let other : i ≢ lane → (get_or now i d).items ≡ rest i =
          λ ne. ap (λ o. o.items) (get_or-set_other c.loop-k.outs lane i c.pop_front.new.self d ne) ∙ before.left i d (search rules) ∙ outs_apart i lanes events g.whole k none [] within within' (λ e. ne (e ∙ sym lane_is)) in
          grind (arith, same, other);
    }
