use Rattle.std.proofs.Common.{◌≡◌, drop}
use Rattle.tp_model.specs.Node.{begin_each}
use Rattle.tp_draft.specs.Draft.{goes_on}
use Rattle.tp_draft.proofs.draft.Draft.begin_each.Given as goal

-- what is left, at what is reached, is the whole
abbrev pub invariant-loop-peer : goal.invariant-loop-peer
invariant-loop-peer l = goes_on l.self (λ who. begin_each who (drop l.peer-index l.peers)) ≡ goes_on l.fn.self (λ who. begin_each who l.peers)
