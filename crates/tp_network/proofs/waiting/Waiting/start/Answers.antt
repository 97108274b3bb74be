use Rattle.std.proofs.Common.{◌≡◌, ◌<◌, ◌∙◌, ◌++◌, ◌∷◌, [], ℕ, ap, sym, subst, arith, List, Some, length, rules}
use Rattle.std.specs.Prelude.{cond}
use Rattle.std.specs.Map.{lookup}
use Rattle.tp_network.specs.Waiting.{AreApart, is_pair, place_in, place_on, queue_at}
use Rattle.tp_network.specs.declared.waiting.Lane.{Lane}
use Rattle.tp_network.proofs.Lanes.{IsPut, apart_more, places_more, queue_new, within_more}
use Rattle.tp_network.proofs.waiting.Waiting.start.Goals as goal

pub invariant_of-self-2 : goal.invariant_of-self-2
invariant_of-self-2 c =
    let v = c.self.inside in
    let ls = v.lanes.items in
    let es = v.places.entries in
    let new = c.insert.new.self.entries in
    let x : Lane = record { from = c.args.from; to = c.args.to; queue = c.of-queue.result } in
    let items : c.push_reserved.new.self.items ≡ ls ++ x ∷ [] = c.push_reserved.ensures.items ∙ ap (λ (l : List Lane). l ++ x ∷ []) c.in_ok-reserve.ensures.items in
    let none : place_on ls x.from x.to ≡ length ls = ap (λ (l : List Lane). place_on l c.args.from c.args.to) c.self.view_is ∙ c.requires ∙ ap (λ (l : List Lane). length l) (sym c.self.view_is) in
    let here : c.len-place.result ≡ length ls = first_of (search rules, grind (arith, c.len-place.ensures)) in
    let put : IsPut es x (length ls) new = subst (λ (k : ℕ). IsPut es x k new) here c.in_ok-insert.ensures.updates.0 in
    record {
      place = subst (λ (l : List Lane). (a b : ℕ) → place_on l a b ≡ place_in new (length l) a b) (sym items) (places_more ls es new x none c.self.invariant.place c.self.invariant.within put);
      within = subst (λ (l : List Lane). (a b k : ℕ) → lookup (is_pair (a, b)) new ≡ Some k → k < length l) (sym items) (within_more ls es new x c.self.invariant.within put);
      apart = subst (λ (l : List Lane). AreApart l) (sym items) (apart_more ls x none c.self.invariant.apart);
    }

pub returns-clause-ok : goal.returns-clause-ok
returns-clause-ok c = λ s t.
    let ls = c.self.inside.lanes.items in
    let x : Lane = record { from = c.args.from; to = c.args.to; queue = c.of-queue.result } in
    let items : c.push_reserved.new.self.items ≡ ls ++ x ∷ [] = c.push_reserved.ensures.items ∙ ap (λ (l : List Lane). l ++ x ∷ []) c.in_ok-reserve.ensures.items in
    let none : place_on ls x.from x.to ≡ length ls = ap (λ (l : List Lane). place_on l c.args.from c.args.to) c.self.view_is ∙ c.requires ∙ ap (λ (l : List Lane). length l) (sym c.self.view_is) in
    ap (λ (l : List Lane). queue_at l s t) items
    ∙ queue_new ls x none s t
    ∙ ap (λ (q : List ℕ). cond (is_pair (c.args.from, c.args.to) (s, t)) q (queue_at ls s t)) c.of-queue.ensures
    ∙ ap (λ (l : List Lane). cond (is_pair (c.args.from, c.args.to) (s, t)) (c.args.number ∷ []) (queue_at l s t)) c.self.view_is
