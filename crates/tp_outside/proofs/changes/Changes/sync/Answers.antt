use Rattle.std.proofs.Common.{◌≡◌, suc, ◌-◌, [], ◌∷◌, reverse, true, false, refl, ap, ◌∙◌, arith, length}
use Rattle.std.proofs.lemmas.Slice.{pushed}
use Rattle.tp_outside.specs.Changes.{story_from}
use Rattle.tp_outside.specs.declared.changes.Call.TheVariants.{Nothing}
use Rattle.tp_outside.proofs.Records.{marked, synced_alone}
use Rattle.tp_outside.proofs.changes.Changes.sync.Goals as goal

pub returns-then-not-index-clause-ok : goal.returns-then-not-index-clause-ok
returns-then-not-index-clause-ok c =
    let v = c.args.self.now.items in
    let is : suc (c.len-count.result - 1) ≡ length v.items = omega (arith, c.if-count-gt0.true, c.len-count.ensures, v.ok.0) in
    let none : c.index.result.now.synced ≡ false = grind (arith, c.if-not-index.true) in
    λ now. marked now c.args.self.now.lost.items v.items (c.len-count.result - 1) c.index_mut.result.now c.index.result.now is c.index.ensures none c.index_mut.ensures.value

pub returns-clause-ok : goal.returns-clause-ok
returns-clause-ok c = λ now.
    let lost = c.args.self.now.lost.items in
    let items = c.args.self.now.items.items in
    ap (λ l. story_from now lost (reverse l)) (pushed (record { call = Nothing; synced = true } ∷ []) refl c.in_ok-push.was c.push.ensures.items) ∙ synced_alone now lost items
