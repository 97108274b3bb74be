use Rattle.std.proofs.Common.{◌≡◌, ◌++◌, [], ◌∷◌, sym, ap, ◌∙◌, subst}
use Rattle.tp_journal.specs.Log.{place_behind}
use Rattle.tp_journal.specs.Records.{HasText, text, wide_of, bodies_of, IsPlaced}
use Rattle.tp_journal.proofs.RecordBodies.{wide_is, bodies-push, placed_more}
use Rattle.tp_journal.proofs.records.RecordsShelf.put.Goals as goal

pub invariant_of-self-2 : goal.invariant_of-self-2
invariant_of-self-2 c =
    let wide = c.self.inside.wide in
    let recs = c.self.inside.recs.items in
    let rec = c.args.rec.now in
    let version : wide_of c.args.self.now ≡ wide = ap wide_of (sym c.self.view_is) ∙ wide_is wide recs in
    let has : HasText wide rec = subst (λ w. HasText w rec) version c.requires.says.0 in
    let more : c.push_reserved.new.self.items ≡ recs ++ rec ∷ [] = c.push_reserved.ensures.items ∙ ap (λ q. c.make_room-2.new.list.items ++ q ∷ []) c.in-Ok.ensures ∙ ap (λ l. l ++ rec ∷ []) c.make_room-2.ensures.items in
    let also : c.push_reserved-2.new.self.items ≡ c.self.inside.places.items ++ c.args.place ∷ [] = c.push_reserved-2.ensures.items ∙ ap (λ l. l ++ c.args.place ∷ []) c.make_room.ensures.items in
    subst (λ l. IsPlaced wide l c.push_reserved-2.new.self.items) (sym more)
    (subst (λ l. IsPlaced wide (recs ++ rec ∷ []) l) (sym also)
    (placed_more wide recs rec c.self.inside.places.items c.args.place c.self.invariant has (c.requires.place ∙ ap place_behind (sym c.self.view_is))))

pub returns-clause-ok : goal.returns-clause-ok
returns-clause-ok c =
    let wide = c.self.inside.wide in
    let recs = c.self.inside.recs.items in
    let rec = c.args.rec.now in
    let version : wide_of c.args.self.now ≡ wide = ap wide_of (sym c.self.view_is) ∙ wide_is wide recs in
    let more : c.push_reserved.new.self.items ≡ recs ++ rec ∷ [] = c.push_reserved.ensures.items ∙ ap (λ q. c.make_room-2.new.list.items ++ q ∷ []) c.in-Ok.ensures ∙ ap (λ l. l ++ rec ∷ []) c.make_room-2.ensures.items in
    ap (λ l. bodies_of wide l) more ∙ bodies-push wide recs rec ∙ ap (λ l. l ++ text wide rec ∷ []) c.self.view_is ∙ ap (λ w. c.args.self.now ++ text w rec ∷ []) (sym version) ∙ ap (λ b. c.args.self.now ++ b ∷ []) c.requires.says.1
