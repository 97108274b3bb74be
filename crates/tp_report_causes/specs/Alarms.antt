-- No report of a commitment is a false alarm: behind it stands a node at or below, which decided to roll back or gave up a branch.
use Rattle.std.specs.Prelude.{◌≡◌, ◌||◌, not, Bool, true, false, Some, List, [], ◌∷◌}
use Rattle.tp_names.specs.declared.identifiers.Aaid.{Aaid}
use Rattle.tp_names.specs.declared.outcome.Outcome.{Outcome}
use Rattle.tp_names.specs.Reports.{is_report_none}
use Rattle.tp_records.specs.declared.indication.Indication.{Indication}
use Rattle.tp_model.specs.Parts.{Out}
use Rattle.tp_model.specs.Outcomes.{decision}
use Rattle.tp_model.specs.World.{World, Node}
use Rattle.tp_model.specs.Promises.{IsIn, IsBelow, has_told_in}
use Rattle.tp_report_causes.specs.Causes.{has_given_up}

-- a commitment is complete with a report
abbrev pub tells_reported : List Out → Bool
tells_reported [] = false
tells_reported (Out.Tell (Indication.CommitComplete r) ∷ outs) = not (is_report_none r) || tells_reported outs
tells_reported (_ ∷ outs) = tells_reported outs

-- what a report begins with
pub data Begins (t : Aaid) (x : Node) : Type 0 where
  decided : decision x.origin t x.history ≡ Some Outcome.Rollback → Begins t x
  gave_up : has_given_up t x ≡ true → Begins t x

-- at a node, or at one below it
pub record HasCause (w : World) (t : Aaid) (x : Node) : Type 0 where
  pub node : Node
  pub below : IsBelow w t x node
  pub begins : Begins t node

abbrev pub NoFalseAlarm : World → Type 0
NoFalseAlarm w = (t : Aaid) (x : Node) → IsIn w x → has_told_in tells_reported x.origin t x.history ≡ true → HasCause w t x
