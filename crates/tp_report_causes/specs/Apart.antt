-- Mix apart from hazard, over the nodes of a tree: a completion that tells mix has behind it a decision against the outcome that it
-- tells, and one that tells hazard a branch that was given up.
use Rattle.std.specs.Prelude.{◌≡◌, true, Some}
use Rattle.tp_names.specs.declared.identifiers.Aaid.{Aaid}
use Rattle.tp_names.specs.declared.outcome.Outcome.{Outcome}
use Rattle.tp_names.specs.declared.outcome.Report.{Report}
use Rattle.tp_model.specs.Outcomes.{decision}
use Rattle.tp_model.specs.World.{World, Node}
use Rattle.tp_model.specs.Promises.{IsIn, IsBelow, has_told_in}
use Rattle.tp_report_causes.specs.Causes.{tells_committed, tells_rolled_back, has_given_up}

-- the node decided the other outcome by itself
abbrev pub HasOpposed : Outcome → Aaid → Node → Type 0
HasOpposed Outcome.Commit t x = decision x.origin t x.history ≡ Some Outcome.Rollback
HasOpposed Outcome.Rollback t x = decision x.origin t x.history ≡ Some Outcome.Commit

-- at a node, or at one below it
pub record Beneath (f : Node → Type 0) (w : World) (t : Aaid) (x : Node) : Type 0 where
  pub node : Node
  pub below : IsBelow w t x node
  pub is : f node

-- of a rollback: mix comes from a decision to commit, and hazard is never told
pub record RollbacksAreApart (w : World) : Type 0 where
  pub mixed : (t : Aaid) (x : Node) → IsIn w x → has_told_in (tells_rolled_back Report.Mix) x.origin t x.history ≡ true
      → Beneath (HasOpposed Outcome.Rollback t) w t x
  pub hazardous : (t : Aaid) (x : Node) → IsIn w x → has_told_in (tells_rolled_back Report.Hazard) x.origin t x.history ≡ true → ⊥

-- of a commitment: mix comes from a decision to roll back, and hazard from a branch that was given up
pub record CommitmentsAreApart (w : World) : Type 0 where
  pub mixed : (t : Aaid) (x : Node) → IsIn w x → has_told_in (tells_committed Report.Mix) x.origin t x.history ≡ true
      → Beneath (HasOpposed Outcome.Commit t) w t x
  pub hazardous : (t : Aaid) (x : Node) → IsIn w x → has_told_in (tells_committed Report.Hazard) x.origin t x.history ≡ true
      → Beneath (λ z. has_given_up t z ≡ true) w t x
