use Rattle.std.proofs.Common.{◌∙◌, ℕ, ap, sym, List}
use Rattle.tp_network.specs.Nodes.{place_of_number}
use Rattle.tp_network.specs.declared.nodes.NodeSlot.{NodeSlot}
use Rattle.tp_network.proofs.Runs.{run_place}
use Rattle.tp_network.proofs.nodes.Nodes.place_of.Goals as goal

pub returns-in-Some : goal.returns-in-Some
returns-in-Some c =
    let v = c.self.inside in
    let here = c.in-Some.ensures in
    sym (ap (λ (n : ℕ). place_of_number v.items.items n) (sym here.1) ∙ run_place v.run.count v.run.first c.in-Some.place v.items.items c.self.invariant.run here.0)
    ∙ ap (λ (l : List NodeSlot). place_of_number l c.args.number) c.self.view_is
