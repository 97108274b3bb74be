use Rattle.std.proofs.Common.{◌≡◌, ◌<◌, ◌∙◌, ap, sym, arith, List, length, rules}
use Rattle.std.specs.Prelude.{slice_index_or}
use Rattle.std.proofs.lemmas.Bool.Decides.{nat_tests}
use Rattle.tp_network.specs.Waiting.{place_on}
use Rattle.tp_network.specs.declared.waiting.Lane.{Lane}
use Rattle.tp_network.proofs.Lanes.{place_there}
use Rattle.tp_network.proofs.waiting.Waiting.is_at.Goals as goal

pub returns-then-lane-from : goal.returns-then-lane-from
returns-then-lane-from c = λ same.
    let ls = c.self.inside.lanes.items in
    let x = c.index-lane.result.now in
    let first : x.from ≡ c.args.from = grind (arith, nat_tests, c.if-lane-from.true) in
    let second : x.to ≡ c.args.to = grind (arith, nat_tests, same) in
    let less : c.args.place < length ls = first_of (search rules, grind (arith, c.if-place-len.false)) in
    let at : slice_index_or ls c.args.place x ≡ x = sym c.index-lane.ensures in
    ap (λ (l : List Lane). place_on l c.args.from c.args.to) (sym c.self.view_is)
    ∙ place_there ls c.args.place x c.args.from c.args.to c.self.invariant.apart less (ap (λ (l : Lane). l.from) at ∙ first) (ap (λ (l : Lane). l.to) at ∙ second)
