use Rattle.std.proofs.Common.{◌≡◌, ◌<◌, ◌-◌, ℕ, length, take, rules, sym, ap, ◌∙◌, subst}
use Rattle.tp_journal.specs.Records.{bodies_of, IsPlaced}
use Rattle.tp_journal.proofs.RecordBodies.{split_last, placed_less, forgets_mark, forgets_record}
use Rattle.tp_journal.proofs.records.RecordsShelf.forget.Goals as goal

pub invariant_of-self-2 : goal.invariant_of-self-2
invariant_of-self-2 c =
    let wide = c.self.inside.wide in
    let recs = c.self.inside.recs.items in
    let places = c.self.inside.places.items in
    let long : c.len-kept.result ≡ length recs = c.len-kept.ensures ∙ c.self.inside.recs.ok.0 in
    let some : 0 < length recs = search rules in
    let last = split_last recs some in
    let less : c.truncate.new.self.items ≡ take (length recs - 1) recs = c.truncate.ensures.items ∙ ap (λ (n : ℕ). take (n - 1) recs) long in
    let also : c.truncate-2.new.self.items ≡ take (length recs - 1) places = c.truncate-2.ensures.items ∙ ap (λ (n : ℕ). take (n - 1) places) long in
    subst (λ l. IsPlaced wide l c.truncate-2.new.self.items) (sym less)
    (subst (λ l. IsPlaced wide (take (length recs - 1) recs) l) (sym also) (placed_less wide (take (length recs - 1) recs) recs last.0 places last.1 c.self.invariant))

pub returns-then-is_empty : goal.returns-then-is_empty
returns-then-is_empty c before body is =
    let empty : length c.self.inside.recs.items ≡ 0 = search rules in
    forgets_mark c.self.inside.wide c.self.inside.recs.items before body empty (c.self.view_is ∙ is)

pub returns : goal.returns
returns c before body is =
    let wide = c.self.inside.wide in
    let recs = c.self.inside.recs.items in
    let long : c.len-kept.result ≡ length recs = c.len-kept.ensures ∙ c.self.inside.recs.ok.0 in
    let some : 0 < length recs = search rules in
    let last = split_last recs some in
    let less : c.truncate.new.self.items ≡ take (length recs - 1) recs = c.truncate.ensures.items ∙ ap (λ (n : ℕ). take (n - 1) recs) long in
    ap (λ l. bodies_of wide l) less ∙ forgets_record wide (take (length recs - 1) recs) recs last.0 before body last.1 (c.self.view_is ∙ is)
