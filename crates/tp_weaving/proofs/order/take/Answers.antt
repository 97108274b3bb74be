-- What is said and taken is one step more.
use Rattle.std.proofs.Common.{◌≡◌, true, sym, subst, arith}
use Rattle.std.specs.Prelude.{slice_index_or}
use Rattle.tp_weaving.specs.declared.lane.Lane.{Lane}
use Rattle.tp_weaving.specs.Weaving.{Advances}
use Rattle.tp_weaving.proofs.Lanes.{goes_on_at}
use Rattle.tp_weaving.proofs.order.take.Goals as goal

pub returns-clause-way : goal.returns-clause-way
returns-clause-way c = λ qs rs way.
    let old = c.args.said.now in
    let new = c.say_next.new.said in
    let lanes = c.args.lanes.now in
    let x = c.index-lanes-k.result in
    let on : c.in_ok-say_next.field-0 ≡ true = grind (arith, c.if-not-branch.false) in
    let next = subst (Advances old new (slice_index_or lanes c.args.k x)) on c.in_ok-say_next.ensures in
    goes_on_at qs rs old new lanes c.args.k x c.index-lanes-k-2.result c.index-lanes-k-3.result c.requires c.index-lanes-k.is way
    (subst (λ (y : Lane). Advances old new y true) (sym c.index-lanes-k.is) next)
