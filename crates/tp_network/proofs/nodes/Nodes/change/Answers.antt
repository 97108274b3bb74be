use Rattle.std.proofs.Common.{ap}
use Rattle.tp_network.specs.declared.nodes.NodeSlot.{NodeSlot}
use Rattle.tp_network.proofs.Numbers.{placed_step, within_step}
use Rattle.tp_network.proofs.Runs.{run_set}
use Rattle.tp_network.proofs.nodes.Nodes.change.Goals as goal

pub invariant_of-self : goal.invariant_of-self
invariant_of-self c =
    let v = c.self.inside in
    let x = c.index_mut.result.now in
    let y : NodeSlot = record { addr = x.addr; superior = x.superior; summaries = c.change.new.self } in
    record {
      place = placed_step v.items.items v.places.entries c.place_of-place.result y x (ap (λ (z : NodeSlot). z.addr.node) c.index_mut.ensures.value) c.self.invariant.place;
      within = within_step v.items.items v.places.entries c.place_of-place.result y c.self.invariant.within;
      run = run_set v.run.count v.run.first v.items.items c.place_of-place.result y x (ap (λ (z : NodeSlot). z.addr.node) c.index_mut.ensures.value) c.self.invariant.run;
    }
