-- It stands after the others, and nothing happened to it.
use Rattle.std.proofs.Common.{refl, sym, subst, None, List, ◌++◌, ◌∷◌, []}
use Rattle.tp_deployments.specs.Deployments.{Place}
use Rattle.tp_network.specs.declared.nodes.NodeSlot.{NodeSlot}
use Rattle.tp_closing.specs.declared.trees.State.{State}
use Rattle.tp_closing.specs.Seen.{AreSeen, oldest_first}
use Rattle.tp_closing.proofs.SeenTo.{seen_more}
use Rattle.tp_closing.proofs.Placed.{placed_seen}
use Rattle.tp_closing.proofs.trees.Trees.place.Goals as goal

pub returns : goal.returns
returns c = λ ds qs none seen.
    let q : Place = record { addr = c.args.addr; superior = c.args.superior } in
    let x : NodeSlot = record { addr = c.args.addr; superior = c.args.superior; summaries = c.new.result } in
    let s : State = record { now = None; begun = c.new-2.result } in
    let ps = oldest_first qs in
    let xs = c.args.self.now.slots.items in
    let ss = c.args.self.now.states.items in
    let is = placed_seen ds q x s none refl refl c.new.ensures refl c.new-2.ensures.items in
    subst (λ (l : List NodeSlot). AreSeen ds (ps ++ q ∷ []) l c.push-2.new.self.items) (sym c.in_ok-push.ensures.items)
    (subst (λ (l : List State). AreSeen ds (ps ++ q ∷ []) (xs ++ x ∷ []) l) (sym c.in_ok-push-2.ensures.items) (seen_more ds ps xs ss q x s is seen))
