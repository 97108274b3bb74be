use Rattle.std.proofs.Common.{◌≡◌, drop}
use Rattle.tp_model.specs.Node.{perform}
use Rattle.tp_draft.specs.Draft.{goes_on}
use Rattle.tp_draft.proofs.draft.Draft.perform.Given as goal

-- what is left, at what is reached, is the whole
abbrev pub invariant-loop-out : goal.invariant-loop-out
invariant-loop-out l = goes_on l.self (λ who. perform (drop l.out-index l.outs)) ≡ goes_on l.fn.self (λ who. perform l.outs)
