-- What an invocation is once a `&mut` to one of its arcs has ended.
use Rattle.std.specs.Prelude.{ℕ, Option, Some, List}
use Rattle.std.specs.Borrow.{Lends, LendsIf, MutBor, Fml, Array}
use Rattle.tp_tree.specs.declared.tie.Tie.{Tie}
use Rattle.tp_tree.specs.contracts.tie.Tie as tie
use Rattle.tp_tree.specs.contracts.invocation.Invocation as invocation
use Rattle.tp_tree.specs.Invocation.{Invocation, with_below, with_tie}

-- the arc with the peer is what was last written after r; at `None` nothing changes
abbrev pub LendsTie : MutBor Invocation → ℕ → Option (MutBor Tie) → Fml
LendsTie v p r = LendsIf invocation.the_row tie.the_row v r (with_tie v.now p) v.now

-- the arcs to subordinates are what was last written after r
abbrev pub LendsBelow : MutBor Invocation → MutBor (List Tie) → Fml
LendsBelow v r = Lends invocation.the_row (Array tie.the_row 0) v r (with_below v.now)

-- the arc to the superior is; at `None` nothing changes
abbrev pub LendsAbove : MutBor Invocation → Option (MutBor Tie) → Fml
LendsAbove v r = LendsIf invocation.the_row tie.the_row v r (λ t. record v.now { above = Some t }) v.now
