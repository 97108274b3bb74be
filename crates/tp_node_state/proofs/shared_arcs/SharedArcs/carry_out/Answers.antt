use Rattle.std.proofs.Common.{◌≤◌, sym, subst, Some, None}
use Rattle.std.specs.Prelude.{vec_capacity}
use Rattle.std.specs.Arc.{arc_value}
use Rattle.tp_node_state.specs.Arcs.{Arcs, count_subordinates_in}
use Rattle.tp_node_state.specs.SharedArcs.{StandsIn}
use Rattle.tp_node_state.proofs.Shares.{still_fits}
use Rattle.tp_node_state.proofs.shared_arcs.SharedArcs.carry_out.Goals as goal

pub invariant_of-self-2 : goal.invariant_of-self-2
invariant_of-self-2 c =
    let v = c.self.inside in
    let held = subst (λ o. elim o as (λ _. Type 0) [ None ↦ Unit {0} | Some s ↦ StandsIn (arc_value s) v.change × (count_subordinates_in (arc_value s).superior (arc_value s).arcs ≤ vec_capacity v.spare) ]) c.in-Some.is c.self.invariant in
    let fits : count_subordinates_in c.in-Some-get_mut.all.now.superior c.in-Some-get_mut.all.now.arcs ≤ vec_capacity v.spare =
    subst (λ (a : Arcs). count_subordinates_in a.superior a.arcs ≤ vec_capacity v.spare) (sym (c.in-Some-get_mut.ensures {u = tt}).value) held.1 in
    (tt, still_fits c.in-Some-get_mut.all.now c.put.new.self c.in-Some-change.tie (vec_capacity v.spare) c.put.ensures fits)
