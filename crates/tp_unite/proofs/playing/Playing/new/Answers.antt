-- The first process has started, on a fresh log.
use Rattle.std.proofs.Common.{◌++◌, ◌∷◌, [], ◌∙◌, ap, List}
use Rattle.tp_weaving.specs.declared.step.Step.{Step}
use Rattle.tp_unite.proofs.Played.{first_played}
use Rattle.tp_unite.proofs.playing.Playing.new.Goals as goal

pub returns-clause-plays : goal.returns-clause-plays
returns-clause-plays c = λ qs.
    let added = c.in_ok-push.ensures in
    let blank = c.new-lane.ensures in
    let step = c.plain.result in
    let plain = c.plain.ensures in
    first_played qs c.args.name c.in_ok-fresh_log.field-0 c.push.new.self c.in_ok-site.site step c.args.at c.in_ok-fresh_log.ensures c.in_ok-site.ensures.starts (added.name ∙ blank.name) (added.taken ∙ blank.taken)
    (added.steps ∙ ap (λ (ts : List Step). ts ++ step ∷ []) blank.steps) (record { says = plain.says; needs = plain.needs }) plain.at
