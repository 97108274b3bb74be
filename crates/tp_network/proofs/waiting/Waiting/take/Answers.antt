use Rattle.std.proofs.Common.{◌≡◌, ◌<◌, ◌≤◌, ◌∙◌, ℕ, refl, ap, sym, subst, arith, List, length, drop, rules}
use Rattle.std.specs.Prelude.{cond, slice_set}
use Rattle.tp_network.specs.Waiting.{above, first_of as oldest_of, is_pair, place_on, queue_at}
use Rattle.tp_network.specs.declared.waiting.Lane.{Lane}
use Rattle.tp_network.proofs.Lanes.{apart_step, placed_step, queue_changed, queue_empty, queue_found, queue_none, within_step}
use Rattle.tp_network.proofs.waiting.Waiting.take.Goals as goal

pub returns-then-place-len-clause-number : goal.returns-then-place-len-clause-number
returns-then-place-len-clause-number c =
    let ls = c.self.inside.lanes.items in
    let a = c.args.from in
    let b = c.args.to in
    let p : place_on ls a b ≡ c.place-place.result = ap (λ (l : List Lane). place_on l a b) c.self.view_is ∙ sym c.place-place.ensures in
    let past : length ls ≤ c.place-place.result = first_of (search rules, grind (arith, c.if-place-len.true)) in
    sym (ap (λ (ns : List ℕ). oldest_of (above c.args.passed ns)) (ap (λ (l : List Lane). queue_at l a b) (sym c.self.view_is) ∙ queue_none ls a b (omega (arith, past, p))))

pub returns-then-place-len-clause-rest : goal.returns-then-place-len-clause-rest
returns-then-place-len-clause-rest c =
    let ls = c.self.inside.lanes.items in
    let m = c.args.passed in
    let a = c.args.from in
    let b = c.args.to in
    let p : place_on ls a b ≡ c.place-place.result = ap (λ (l : List Lane). place_on l a b) c.self.view_is ∙ sym c.place-place.ensures in
    let past : length ls ≤ c.place-place.result = first_of (search rules, grind (arith, c.if-place-len.true)) in
    subst (λ (l : List Lane). (s t : ℕ) → above m (queue_at l s t) ≡ cond (is_pair (a, b) (s, t)) (drop 1 (above m (queue_at l s t))) (above m (queue_at l s t))) c.self.view_is
    (queue_empty (above m) (drop 1) ls a b refl (omega (arith, past, p)))

pub invariant_of-self : goal.invariant_of-self
invariant_of-self c =
    let v = c.self.inside in
    let k = c.place-place.result in
    let x = c.index_mut.result.now in
    let y : Lane = record { from = x.from; to = x.to; queue = c.pop.new.self } in
    let from = ap (λ (z : Lane). z.from) c.index_mut.ensures.value in
    let to = ap (λ (z : Lane). z.to) c.index_mut.ensures.value in
    record {
      place = placed_step v.lanes.items v.places.entries k y x from to c.self.invariant.place;
      within = within_step v.lanes.items v.places.entries k y c.self.invariant.within;
      apart = apart_step v.lanes.items k y x from to c.self.invariant.apart;
    }

pub returns-clause-number : goal.returns-clause-number
returns-clause-number c =
    let ls = c.self.inside.lanes.items in
    let a = c.args.from in
    let b = c.args.to in
    let k = c.place-place.result in
    let x = c.index_mut.result.now in
    let p : place_on ls a b ≡ k = ap (λ (l : List Lane). place_on l a b) c.self.view_is ∙ sym c.place-place.ensures in
    let less : k < length ls = first_of (search rules, grind (arith, c.if-place-len.false)) in
    c.pop.ensures.number ∙ ap (λ (ns : List ℕ). oldest_of (above c.args.passed ns)) (ap (λ (z : Lane). z.queue) c.index_mut.ensures.value ∙ sym (queue_found ls a b x k p less) ∙ ap (λ (l : List Lane). queue_at l a b) c.self.view_is)

pub returns-clause-rest : goal.returns-clause-rest
returns-clause-rest c =
    let ls = c.self.inside.lanes.items in
    let m = c.args.passed in
    let a = c.args.from in
    let b = c.args.to in
    let k = c.place-place.result in
    let x = c.index_mut.result.now in
    let y : Lane = record { from = x.from; to = x.to; queue = c.pop.new.self } in
    let p : place_on ls a b ≡ k = ap (λ (l : List Lane). place_on l a b) c.self.view_is ∙ sym c.place-place.ensures in
    let less : k < length ls = first_of (search rules, grind (arith, c.if-place-len.false)) in
    subst (λ (l : List Lane). (s t : ℕ) → above m (queue_at (slice_set ls k y) s t) ≡ cond (is_pair (a, b) (s, t)) (drop 1 (above m (queue_at l s t))) (above m (queue_at l s t))) c.self.view_is
    (queue_changed (above m) (drop 1) ls a b x y k p less (ap (λ (z : Lane). z.from) c.index_mut.ensures.value) (ap (λ (z : Lane). z.to) c.index_mut.ensures.value)
    (c.pop.ensures.rest ∙ ap (λ (z : Lane). drop 1 (above m z.queue)) c.index_mut.ensures.value))
