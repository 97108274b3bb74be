use Rattle.std.proofs.Common.{[], ap, ◌∙◌}
use Rattle.tp_turns.specs.Turns.{knows, claim}
use Rattle.tp_shared_log.specs.Locks.{added}
use Rattle.tp_shared_log.proofs.Added.{more_after}
use Rattle.tp_shared_log.proofs.share.force_in_turn.Goals as goal

pub force_held-result-requires-clause-held : goal.force_held-result-requires-clause-held
force_held-result-requires-clause-held g c = let t = c.take-turn.ensures.has in (t.0, ap (λ m. m.1) t.1)

pub give-requires-clause-has : goal.give-requires-clause-has
give-requires-clause-has g c =
    let stood = g.L.Stood.stood in
    let t = c.take-turn.ensures.has in
    let p = c.requires.pass.1 in
    let held = c.force_held-result.ensures.held t.0 (ap (λ m. m.1) t.1) in
    let more = more_after stood t.0 held.0 c.force_held-result.result held.2 held.3 held.4 in
    let view = c.force_held-result.ensures.view.1 ∙ ap (λ m. m.0) t.1 ∙ ap (λ m. knows 1 (added stood t.0) m.0.claims) p.2 in
    (added stood t.0, more.0, claim p.0 p.1, [], held.0, more.1, λ i. (view i, held.1 i))
