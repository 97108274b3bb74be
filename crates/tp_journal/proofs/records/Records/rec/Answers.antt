use Rattle.std.proofs.Common.{◌≡◌, ◌<◌, length, slice_index_or, arith, sym, ap, ◌∙◌}
use Rattle.tp_journal.specs.Records.{wide_of, recs_of, first_place, placed}
use Rattle.tp_journal.proofs.RecordBodies.{wide_is, recs_is, rec_at}
use Rattle.tp_journal.proofs.records.Records.rec.Goals as goal

pub index-requires : goal.index-requires
index-requires c =
    let recs = c.self.inside.recs.items in
    let is : recs_of c.args.self.now ≡ recs = ap recs_of (sym c.self.view_is) ∙ recs_is c.self.inside.wide recs c.self.invariant.texts in
    omega (arith, ap length is, c.self.inside.recs.ok.0, c.requires)

pub returns : goal.returns
returns c d =
    let wide = c.self.inside.wide in
    let recs = c.self.inside.recs.items in
    let i = c.args.i in
    let is : recs_of c.args.self.now ≡ recs = ap recs_of (sym c.self.view_is) ∙ recs_is wide recs c.self.invariant.texts in
    let version : wide_of c.args.self.now ≡ wide = ap wide_of (sym c.self.view_is) ∙ wide_is wide recs in
    let below : i < length recs = omega (arith, ap length is, c.requires) in
    c.index.ensures ∙ rec_at (first_place wide) wide recs i d c.index.result.now below
    ∙ ap (λ w. (slice_index_or (placed w recs) i d).rec) (sym version) ∙ ap (λ l. (slice_index_or (placed (wide_of c.args.self.now) l) i d).rec) (sym is)
