use Rattle.std.proofs.Common.{◌≡◌, ◌++◌, [], ◌∷◌, false, true, Some, None, refl, sym, ap, ◌∙◌, subst, length}
use Rattle.tp_journal.specs.Read.{Takes}
use Rattle.tp_journal.specs.Records.{HasText, text, wide_of, bodies_of, record_body, IsPlaced, ReadsText}
use Rattle.tp_journal.proofs.RecordBodies.{wide_is, read_passes, takes_mark, takes_none, placed_as_wide}
use Rattle.tp_journal.proofs.records.RecordsShelf.take.Goals as goal

pub invariant_of-self : goal.invariant_of-self
invariant_of-self c =
    let yes = (c.if-is_first_mark.ensures {u = tt}).yes refl in
    let recs = c.self.inside.recs.items in
    let places = c.self.inside.places.items in
    placed_as_wide recs places (ap length (sym c.deref.ensures.value) ∙ yes.1) (subst (λ w. IsPlaced w recs places) yes.0 c.self.invariant)

pub returns-then-is_first_mark-clause-taken : goal.returns-then-is_first_mark-clause-taken
returns-then-is_first_mark-clause-taken c =
    let yes = (c.if-is_first_mark.ensures {u = tt}).yes refl in
    let recs = c.self.inside.recs.items in
    let body = c.args.body.now in
    subst (λ b. Takes record_body b body (bodies_of true recs) true) c.self.view_is (takes_mark c.self.inside.wide recs body yes.0 (ap length (sym c.deref.ensures.value) ∙ yes.1) yes.2)

pub returns-in_default-found-clause-taken : goal.returns-in_default-found-clause-taken
returns-in_default-found-clause-taken c =
    let recs = c.self.inside.recs.items in
    let body = c.args.body.now in
    let reads : ReadsText c.self.inside.wide body None = subst (ReadsText c.self.inside.wide body) c.in_default-found.is (c.in-Ok.ensures {u = tt}) in
    subst (λ b. Takes record_body b body b false) c.self.view_is
    (takes_none c.self.inside.wide recs body (λ one none. (c.if-is_first_mark.ensures {u = tt}).no refl one (ap length c.deref.ensures.value ∙ none)) reads)

pub add-requires-clause-text : goal.add-requires-clause-text
add-requires-clause-text c =
    let wide = c.self.inside.wide in
    let rec = c.in-Some.rec in
    let reads : ReadsText wide c.args.body.now (Some rec) = subst (ReadsText wide c.args.body.now) c.in-Some.is (c.in-Ok.ensures {u = tt}) in
    let version : wide_of c.args.self.now ≡ wide = ap wide_of (sym c.self.view_is) ∙ wide_is wide c.self.inside.recs.items in
    subst (λ w. HasText w rec) (sym version) reads.0

pub returns-clause-taken : goal.returns-clause-taken
returns-clause-taken c =
    let wide = c.self.inside.wide in
    let rec = c.in-Some.rec in
    let body = c.args.body.now in
    let reads : ReadsText wide body (Some rec) = subst (ReadsText wide body) c.in-Some.is (c.in-Ok.ensures {u = tt}) in
    let version : wide_of c.args.self.now ≡ wide = ap wide_of (sym c.self.view_is) ∙ wide_is wide c.self.inside.recs.items in
    let says : text (wide_of c.args.self.now) rec ≡ body = ap (λ w. text w rec) version ∙ reads.1 in
    (subst (λ b. record_body b body ≡ true) c.self.view_is (read_passes wide c.self.inside.recs.items body rec reads), c.in_ok-add.ensures.ok ∙ ap (λ b. c.args.self.now ++ b ∷ []) says)
