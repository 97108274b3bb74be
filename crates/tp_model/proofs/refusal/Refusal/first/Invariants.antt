use Rattle.std.proofs.Common.{◌≡◌, drop}
use Rattle.tp_model.specs.Dialogues.{first}
use Rattle.tp_model.proofs.refusal.Refusal.first.Given as goal

-- none of those before holds
abbrev pub invariant-loop-test : goal.invariant-loop-test
invariant-loop-test l = first l.tests ≡ first (drop l.test-index l.tests)
