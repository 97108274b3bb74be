use Rattle.std.proofs.Common.{◌≡◌, ◌<◌, length, slice_index_or, arith, sym, ap, ◌∙◌}
use Rattle.std.proofs.lemmas.List.{get_or_default}
use Rattle.tp_journal.specs.Records.{wide_of, recs_of, first_place, placed}
use Rattle.tp_journal.proofs.RecordBodies.{wide_is, recs_is, places_long, place_at}
use Rattle.tp_journal.proofs.records.Records.place.Goals as goal

pub index-requires : goal.index-requires
index-requires c =
    let recs = c.self.inside.recs.items in
    let is : recs_of c.args.self.now ≡ recs = ap recs_of (sym c.self.view_is) ∙ recs_is c.self.inside.wide recs c.self.invariant.texts in
    let many : length c.self.inside.places.items ≡ length recs = ap length c.self.invariant.places_are ∙ places_long (first_place c.self.inside.wide) c.self.inside.wide recs in
    omega (arith, ap length is, many, c.self.inside.places.ok.0, c.requires)

pub returns : goal.returns
returns c d =
    let wide = c.self.inside.wide in
    let recs = c.self.inside.recs.items in
    let i = c.args.i in
    let is : recs_of c.args.self.now ≡ recs = ap recs_of (sym c.self.view_is) ∙ recs_is wide recs c.self.invariant.texts in
    let version : wide_of c.args.self.now ≡ wide = ap wide_of (sym c.self.view_is) ∙ wide_is wide recs in
    let below : i < length recs = omega (arith, ap length is, c.requires) in
    let many : length c.self.inside.places.items ≡ length recs = ap length c.self.invariant.places_are ∙ places_long (first_place wide) wide recs in
    let inside : i < length c.self.inside.places.items = omega arith in
    let at : c.index.result.now ≡ slice_index_or c.self.inside.places.items i 0 = c.index.ensures ∙ get_or_default c.self.inside.places.items i c.index.result.now 0 inside in
    at ∙ ap (λ l. slice_index_or l i 0) c.self.invariant.places_are ∙ place_at (first_place wide) wide recs i d below
    ∙ ap (λ w. (slice_index_or (placed w recs) i d).place) (sym version) ∙ ap (λ l. (slice_index_or (placed (wide_of c.args.self.now) l) i d).place) (sym is)
