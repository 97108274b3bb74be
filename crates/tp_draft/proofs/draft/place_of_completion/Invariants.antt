use Rattle.std.proofs.Common.{◌≡◌, ◌+◌, drop}
use Rattle.tp_draft.specs.Passage.{place_of_completion}
use Rattle.tp_draft.proofs.draft.place_of_completion.Given as goal

abbrev pub invariant-loop-i : goal.invariant-loop-i
invariant-loop-i l = place_of_completion l.outs ≡ l.i + place_of_completion (drop l.i l.outs)
