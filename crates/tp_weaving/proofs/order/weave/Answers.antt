-- The lanes begin with no step taken, and end where none goes on.
use Rattle.std.proofs.Common.{◌≡◌, false, sym, subst, arith}
use Rattle.tp_weaving.specs.Said.{is_said}
use Rattle.tp_weaving.specs.Weaving.{Ends}
use Rattle.tp_weaving.proofs.Lanes.{begins}
use Rattle.tp_weaving.proofs.Most.{ends_so}
use Rattle.tp_weaving.proofs.order.weave.Goals as goal

pub rounds-init : goal.rounds-init
rounds-init c = record { way = λ qs rs apart lanes. begins qs rs (is_said c.new-said.result) c.args.lanes.now apart lanes c.new-said.ensures }

pub returns-then-not-branch : goal.returns-then-not-branch
returns-then-not-branch c = λ qs rs apart lanes.
    let off : c.in_ok-go_round.field-0 ≡ false = grind (arith, c.if-not-branch.true) in
    subst (Ends qs rs) (sym c.woven_of.ensures)
    (ends_so qs rs (is_said c.go_round.new.said) c.go_round.new.lanes (c.in_ok-go_round.ensures.way qs rs (c.rounds.invariant.way qs rs apart lanes)) (c.in_ok-go_round.ensures.stuck off))
