use Rattle.std.proofs.Common.{◌≡◌, drop}
use Rattle.tp_model.specs.Events.{retry_each}
use Rattle.tp_draft.specs.Draft.{goes_on}
use Rattle.tp_draft.proofs.draft.Draft.retry_each.Given as goal

-- what is left, at what is reached, is the whole
abbrev pub invariant-loop-one : goal.invariant-loop-one
invariant-loop-one l = goes_on l.self (λ who. retry_each (drop l.one-index l.kept)) ≡ goes_on l.fn.self (λ who. retry_each l.kept)
