use Rattle.std.proofs.Common.{List, ◌≡◌, ◌++◌, ◌∷◌, [], arith, map, subst, length, length-append, sym, ap, ◌∙◌}
use Rattle.std.specs.List.{All}
use Rattle.std.proofs.lemmas.List.{map-append}
use Rattle.std.proofs.lemmas.List.Elements.{All-head, All-tail}
use Rattle.std.proofs.lemmas.List.Sums.{sum_by_push}
use Rattle.tp_shared_log.specs.Shares.{Noted, Shared, stake_of}
use Rattle.tp_drive.specs.Crews.{outs_of, receipts_of, slip_of, stop_of, forced_by, stake_left}
use Rattle.tp_drive.specs.Works.{HasOnePart}
use Rattle.tp_drive.proofs.crew.close_lanes.Goals as goal

map_push : {A B : Type 0} (f : A → B) (xs : List A) (x : A) {ys : List B} {y : B} → map f xs ≡ ys → f x ≡ y → map f (xs ++ x ∷ []) ≡ ys ++ y ∷ []
map_push f xs x {ys} h e = map-append f xs (x ∷ []) ∙ ap (λ zs. zs ++ f x ∷ []) h ∙ ap (λ z. ys ++ z ∷ []) e

abbrev noted : Shared → Noted
noted s = record { of = s.of; receipts = s.receipts }

-- one lane more is taken apart
pub loop-lane-preserved : goal.loop-lane-preserved
loop-lane-preserved g c =
    let before = c.loop-lane.invariant in
    let lane = c.in-Some.lane in
    let all = subst (All HasOnePart) c.in-Some.ensures.steps.0 before.one_part in
    let one = All-head HasOnePart lane c.next.new.self.rest.items all in
    let out = c.close-out.ensures in
    let left = c.leave-one.ensures in
    let many = length-append c.loop-lane.yielded (lane ∷ []) in
    let forced = sum_by_push forced_by c.loop-lane.yielded lane in
    let stakes = sum_by_push stake_left c.loop-lane.yielded lane in
    record {
      one_part = All-tail HasOnePart lane c.next.new.self.rest.items all;
      room = (omega arith, omega arith, omega arith, omega arith);
      lengths = (omega arith, omega arith, omega arith, omega arith);
      outs = rw c.push_reserved.ensures.items (map_push _ c.loop-lane.left.outs.items c.close-out.result.0 before.outs out.outs ∙ sym (map-append outs_of c.loop-lane.yielded (lane ∷ [])));
      receipts = rw (c.push_reserved-in-loop-lane.ensures.items, map-append receipts_of) (ap (λ xs. xs ++ c.new.result ∷ []) before.receipts ∙ ap (λ x. map receipts_of c.loop-lane.yielded ++ x ∷ []) (c.new.ensures ∙ left.receipts ∙ ap (λ s. s.receipts) out.share));
      stops = rw (c.push_reserved-in-loop-lane-2.ensures.items, map-append stop_of) (ap (λ xs. xs ++ c.close-out.result.1 ∷ []) before.stops ∙ ap (λ x. map stop_of c.loop-lane.yielded ++ x ∷ []) out.stop);
      slips = rw (c.push_reserved-in-loop-lane-3.ensures.items, map-append slip_of) (ap (λ xs. xs ++ c.leave-one.result.3 ∷ []) before.slips ∙ ap (λ x. map slip_of c.loop-lane.yielded ++ x ∷ []) (left.slip ∙ ap noted out.share));
      parts = (omega (arith, one.part, left.part.0, ap (λ s. s.parts) out.share, c.merge.ensures.parts), omega (arith, one.stake, left.stake.0, ap (λ s. s.stake_parts) out.share, c.merge-in-loop-lane.ensures.parts));
      forced = omega (arith, left.part.1, ap (λ s. length s.receipts) out.share, c.merge.ensures.amount, forced);
      stakes = omega (arith, left.stake.1, ap (λ s. stake_of s.spent) out.share, c.merge-in-loop-lane.ensures.amount, stakes);
    }
