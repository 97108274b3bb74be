-- It is the node at that address, or another one.
use Rattle.std.proofs.Common.{◌≡◌, true, false, ap, sym, ◌∙◌, subst, arith, slice_index_or, slice_set}
use Rattle.tp_names.specs.Same.{is_addr}
use Rattle.tp_deployments.specs.RunOf.{node_at}
use Rattle.tp_network.specs.declared.nodes.NodeSlot.{NodeSlot}
use Rattle.tp_closing.specs.declared.trees.State.{State}
use Rattle.tp_closing.specs.Seen.{IsSeen}
use Rattle.tp_closing.proofs.SeenTo.{seen_set, seen_kept, same_at, one_more}
use Rattle.tp_closing.proofs.Turned.{entered_here, entered_there}
use Rattle.tp_closing.proofs.trees.Trees.enter_at.Goals as goal

pub returns-then-not-is_addr-clause-seen : goal.returns-then-not-is_addr-clause-seen
returns-then-not-is_addr-clause-seen c = λ ds es qs is seen.
    let xs = c.args.self.now.slots.items in
    let ss = c.args.self.now.states.items in
    let i = c.args.i in
    let at = c.args.at.now in
    let d = c.index.result.now in
    let off : c.is_addr.result ≡ false = grind (arith, c.if-not-is_addr.true) in
    let other : is_addr (slice_index_or xs i d).addr at ≡ false = ap (λ (x : NodeSlot). is_addr x.addr at) (sym c.index.ensures) ∙ sym c.is_addr.ensures ∙ off in
    one_more es ds i qs xs ss (seen_kept es ds i qs xs ss d c.requires.slot c.requires.state seen (λ q s h. entered_there ds es at c.args.shown.now (slice_index_or xs i d) s is other q h))

pub returns-clause-seen : goal.returns-clause-seen
returns-clause-seen c = λ ds es qs is seen.
    let xs = c.args.self.now.slots.items in
    let ss = c.args.self.now.states.items in
    let i = c.args.i in
    let at = c.args.at.now in
    let d = c.index.result.now in
    let x = c.index_mut.result.now in
    let s = c.index_mut-2.result.now in
    let on : c.is_addr.result ≡ true = grind (arith, c.if-not-is_addr.false) in
    let same : d ≡ x = c.index.ensures ∙ same_at xs i d x c.requires.slot ∙ sym c.index_mut.ensures.value in
    let here : is_addr x.addr at ≡ true = ap (λ (y : NodeSlot). is_addr y.addr at) (sym same) ∙ sym c.is_addr.ensures ∙ on in
    one_more es ds i qs (slice_set xs i c.turn.new.slot) (slice_set ss i c.turn.new.state)
    (seen_set es ds i qs xs ss x c.turn.new.slot s c.turn.new.state c.requires.slot c.requires.state seen (λ q h.
    entered_here ds es at c.args.shown.now x s c.turn.new.slot c.turn.new.state is here c.in_ok-turn.ensures q
    (subst (λ (y : NodeSlot). IsSeen (node_at ds q) y s) (sym c.index_mut.ensures.value) (subst (λ (r : State). IsSeen (node_at ds q) (slice_index_or xs i x) r) (sym c.index_mut-2.ensures.value) h))))
