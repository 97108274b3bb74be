-- What the users of one tree are told together.
use Rattle.std.specs.Prelude.{◌≡◌, ◌||◌, Bool, true, Some, None, List, [], ◌∷◌}
use Rattle.tp_names.specs.declared.identifiers.Aaid.{Aaid}
use Rattle.tp_model.specs.Parts.{Origin, Out, Entry, Current}
use Rattle.tp_model.specs.History.{digest}
use Rattle.tp_model.specs.Outcomes.{has_left}
use Rattle.tp_model.specs.World.{World, Node}
use Rattle.tp_model.specs.Promises.{IsIn, tells_commit, tells_rollback, has_told_in, told_of}

-- where one user is told commit, or that a commitment is complete, no user is told rollback, or that a rollback is complete, in
-- the same tree; what nodes decided by themselves is no matter
abbrev pub OneIsShown : World → Type 0
OneIsShown w =
    (t : Aaid) (x y : Node) → IsIn w x → IsIn w y → has_told_in tells_commit x.origin t x.history ≡ true
    → has_told_in tells_rollback y.origin t y.history ≡ true → ⊥

-- one of the four is told
abbrev pub tells_outcome : List Out → Bool
tells_outcome outs = tells_commit outs || tells_rollback outs

-- each entry that tells one comes while a transaction is current: it is told of that one's tree
abbrev pub IsToldOfATree : Origin → List Entry → Type 0
IsToldOfATree o [] = Unit {0}
IsToldOfATree o (e ∷ h) = (tells_outcome e.outs ≡ true → (c : Current) × ((digest o h).current ≡ Some c)) × IsToldOfATree o h

abbrev pub ToldOfTrees : World → Type 0
ToldOfTrees w = (x : Node) → IsIn w x → IsToldOfATree x.origin x.history

-- a node that left a tree has no outcome in it
abbrev pub LeftIsUntold : World → Type 0
LeftIsUntold w = (t : Aaid) (x : Node) → IsIn w x → has_left x.origin t x.history ≡ true → told_of t x ≡ None
