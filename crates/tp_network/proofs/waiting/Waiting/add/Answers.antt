use Rattle.std.proofs.Common.{◌≡◌, ◌<◌, ◌≤◌, ◌∙◌, ◌++◌, ◌∷◌, [], ℕ, ap, sym, subst, arith, List, length, rules}
use Rattle.std.specs.Prelude.{cond, slice_set}
use Rattle.tp_network.specs.Waiting.{above, is_pair, place_on, queue_at}
use Rattle.tp_network.specs.declared.waiting.Lane.{Lane}
use Rattle.tp_network.proofs.Changes.{then_err, then_ok}
use Rattle.tp_network.proofs.Lanes.{apart_step, placed_step, queue_begun, queue_changed, queue_kept, within_step}
use Rattle.tp_network.proofs.waiting.Waiting.add.Goals as goal

pub returns-then-place-len-clause-ok : goal.returns-then-place-len-clause-ok
returns-then-place-len-clause-ok c =
    let ls = c.self.inside.lanes.items in
    let a = c.args.from in
    let b = c.args.to in
    let n = c.args.number in
    let m = c.args.passed in
    let new = c.start.new.self in
    let p : place_on ls a b ≡ c.place-place.result = ap (λ (l : List Lane). place_on l a b) c.self.view_is ∙ sym c.place-place.ensures in
    let past : length ls ≤ c.place-place.result = first_of (search rules, grind (arith, c.if-place-len.true)) in
    then_ok c.start.result
    (λ h.
    subst (λ (l : List Lane). (s t : ℕ) → above m (queue_at new s t) ≡ cond (is_pair (a, b) (s, t)) (above m (queue_at l s t) ++ n ∷ []) (above m (queue_at l s t))) c.self.view_is
    (queue_begun m ls new a b n c.requires (omega (arith, past, p)) (λ s t. h s t ∙ ap (λ (l : List Lane). cond (is_pair (a, b) (s, t)) (n ∷ []) (queue_at l s t)) (sym c.self.view_is))))
    c.start.ensures.ok

pub invariant_of-self : goal.invariant_of-self
invariant_of-self c =
    let v = c.self.inside in
    let k = c.place-place.result in
    let x = c.index_mut.result.now in
    let y : Lane = record { from = x.from; to = x.to; queue = c.push.new.self } in
    let from = ap (λ (z : Lane). z.from) c.index_mut.ensures.value in
    let to = ap (λ (z : Lane). z.to) c.index_mut.ensures.value in
    record {
      place = placed_step v.lanes.items v.places.entries k y x from to c.self.invariant.place;
      within = within_step v.lanes.items v.places.entries k y c.self.invariant.within;
      apart = apart_step v.lanes.items k y x from to c.self.invariant.apart;
    }

pub returns-clause-ok : goal.returns-clause-ok
returns-clause-ok c =
    let ls = c.self.inside.lanes.items in
    let a = c.args.from in
    let b = c.args.to in
    let n = c.args.number in
    let m = c.args.passed in
    let k = c.place-place.result in
    let x = c.index_mut.result.now in
    let y : Lane = record { from = x.from; to = x.to; queue = c.push.new.self } in
    let p : place_on ls a b ≡ k = ap (λ (l : List Lane). place_on l a b) c.self.view_is ∙ sym c.place-place.ensures in
    let less : k < length ls = first_of (search rules, grind (arith, c.if-place-len.false)) in
    then_ok c.push.result
    (λ is.
    subst (λ (l : List Lane). (s t : ℕ) → above m (queue_at (slice_set ls k y) s t) ≡ cond (is_pair (a, b) (s, t)) (above m (queue_at l s t) ++ n ∷ []) (above m (queue_at l s t))) c.self.view_is
    (queue_changed (above m) (λ ns. ns ++ n ∷ []) ls a b x y k p less (ap (λ (z : Lane). z.from) c.index_mut.ensures.value) (ap (λ (z : Lane). z.to) c.index_mut.ensures.value)
    (is ∙ ap (λ (z : Lane). above m z.queue ++ n ∷ []) c.index_mut.ensures.value)))
    c.push.ensures.ok

pub returns-clause-err : goal.returns-clause-err
returns-clause-err c =
    let ls = c.self.inside.lanes.items in
    let a = c.args.from in
    let b = c.args.to in
    let m = c.args.passed in
    let k = c.place-place.result in
    let x = c.index_mut.result.now in
    let y : Lane = record { from = x.from; to = x.to; queue = c.push.new.self } in
    let p : place_on ls a b ≡ k = ap (λ (l : List Lane). place_on l a b) c.self.view_is ∙ sym c.place-place.ensures in
    let less : k < length ls = first_of (search rules, grind (arith, c.if-place-len.false)) in
    then_err c.push.result
    (λ is.
    subst (λ (l : List Lane). (s t : ℕ) → above m (queue_at (slice_set ls k y) s t) ≡ above m (queue_at l s t)) c.self.view_is
    (queue_kept (above m) ls a b x y k p less (ap (λ (z : Lane). z.from) c.index_mut.ensures.value) (ap (λ (z : Lane). z.to) c.index_mut.ensures.value)
    (is ∙ ap (λ (z : Lane). above m z.queue) c.index_mut.ensures.value)))
    c.push.ensures.err
