-- What stays of a node in a tree, whatever happens after it.
use Rattle.std.specs.Prelude.{◌≡◌, Bool, true, Some, List, ◌++◌}
use Rattle.tp_names.specs.declared.identifiers.Aaid.{Aaid}
use Rattle.tp_names.specs.declared.outcome.Outcome.{Outcome}
use Rattle.tp_model.specs.Parts.{Out, Entry}
use Rattle.tp_model.specs.Outcomes.{is_member, decided, decision, rolled, has_left, completed_none}
use Rattle.tp_model.specs.World.{Node, number_of}
use Rattle.tp_model.specs.Happenings.{Happening, run}
use Rattle.tp_model.specs.Promises.{IsIn, told_of, has_told_in}

-- the same node later: its history goes on
pub record GoesOn (x y : Node) : Type 0 where
  pub origin : y.origin ≡ x.origin
  pub superior : y.superior ≡ x.superior
  pub since : List Entry
  pub history : y.history ≡ since ++ x.history

-- what is so of x in the tree is so of y
pub record StaysSo (t : Aaid) (x y : Node) : Type 0 where
  -- its outcome, with the one that it decided by itself
  pub told : (o : Outcome) → told_of t x ≡ Some o → told_of t y ≡ Some o
  pub decides : (o : Outcome) → decision x.origin t x.history ≡ Some o → decision y.origin t y.history ≡ Some o
  -- that it logged Commit, rolled, left, was complete with no report, or is in the tree
  pub commits : decided x.origin t x.history ≡ true → decided y.origin t y.history ≡ true
  pub rolls : rolled x.origin t x.history ≡ true → rolled y.origin t y.history ≡ true
  pub leaves : has_left x.origin t x.history ≡ true → has_left y.origin t y.history ≡ true
  pub clears : completed_none x.origin t x.history ≡ true → completed_none y.origin t y.history ≡ true
  pub belongs : is_member x.origin t x.history ≡ true → is_member y.origin t y.history ≡ true
  -- that its user was told anything of the tree
  pub tells : (f : List Out → Bool) → has_told_in f x.origin t x.history ≡ true → has_told_in f y.origin t y.history ≡ true

-- a node is still there after more happenings, and is the one with its number
abbrev pub NodesStay : List Happening → List Happening → Type 0
NodesStay more es = (x : Node) → IsIn (run es) x → (y : Node) × IsIn (run (more ++ es)) y × GoesOn x y

abbrev pub OutcomesStay : List Happening → List Happening → Type 0
OutcomesStay more es = (t : Aaid) (x y : Node) → IsIn (run es) x → IsIn (run (more ++ es)) y → number_of y ≡ number_of x → StaysSo t x y
