-- Where numbers or memory are wanting.
use Rattle.std.specs.Prelude.{◌≡◌, Result, Ok, Err}
use Rattle.tp_model.specs.Node.{with_mark_drawn}
use Rattle.tp_node.specs.declared.halt.Halt.{Halt}
use Rattle.tp_node.specs.Node.{Node}

-- where numbers are wanting, that is so
abbrev pub OnSpent : {A : Type 0} → Result A Halt → Type 0 → Type 0
OnSpent (Ok a) P = Unit {0}
OnSpent (Err Halt.NumbersSpent) P = P
OnSpent (Err Halt.NoMemory) P = Unit {0}

-- what a call leaves that draws a mark first: where the counter is spent the node as it was, and where memory runs out the node with
-- a mark drawn
abbrev pub IsHalted : {A : Type 0} → Result A Halt → Node → Node → Type 0
IsHalted (Ok a) old new = Unit {0}
IsHalted (Err Halt.NumbersSpent) old new = new ≡ old
IsHalted (Err Halt.NoMemory) old new = new ≡ record old { digest = with_mark_drawn old.digest }
