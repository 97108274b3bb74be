use Rattle.std.proofs.Common.{◌≡◌, ◌++◌, drop}
use Rattle.tp_model.specs.Recovery.{ask_owed}
use Rattle.tp_recover.proofs.kept.ask_owed.Given as goal

-- what was asked, and what is still to be asked
abbrev pub invariant-loop-child : goal.invariant-loop-child
invariant-loop-child l = l.fn.outs ++ ask_owed l.aaid l.children ≡ l.outs ++ ask_owed l.aaid (drop l.child-index l.children)
