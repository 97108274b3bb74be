-- The current transaction, as a recovery record finds it.
use Rattle.std.specs.Prelude.{Bool, false, Some, None}
use Rattle.tp_model.specs.Dialogues.{is_committing}
use Rattle.tp_model.specs.Arrivals.{Named}

abbrev pub is_current_committing : Named → Bool
is_current_committing n = elim n.current [ None ↦ false | Some c ↦ is_committing c.phase ]
