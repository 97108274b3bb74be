-- It is a node of the site, or of another one.
use Rattle.std.proofs.Common.{◌≡◌, ℕ, None, true, false, refl, ap, sym, ◌∙◌, subst, arith, slice_index_or, slice_set}
use Rattle.tp_names.specs.Same.{is_name}
use Rattle.tp_node.specs.State.{tree_in}
use Rattle.tp_site.specs.Site.{known_at}
use Rattle.tp_deployments.specs.RunOf.{node_at}
use Rattle.tp_network.specs.declared.nodes.NodeSlot.{NodeSlot}
use Rattle.tp_closing.specs.declared.trees.State.{State}
use Rattle.tp_closing.specs.Seen.{IsSeen}
use Rattle.tp_closing.proofs.SeenTo.{seen_set, seen_kept, same_at, one_more}
use Rattle.tp_closing.proofs.Turned.{stopped_here, stopped_there}
use Rattle.tp_closing.proofs.trees.Trees.stop_at.Goals as goal

pub returns-then-not-is_name-clause-seen : goal.returns-then-not-is_name-clause-seen
returns-then-not-is_name-clause-seen c = λ ds es qs is seen.
    let xs = c.args.self.now.slots.items in
    let ss = c.args.self.now.states.items in
    let i = c.args.i in
    let site = c.args.site.now.nodes.site in
    let after = λ (n : ℕ). tree_in (known_at c.args.site.now n) in
    let d = c.index.result.now in
    let off : c.is_name.result ≡ false = grind (arith, c.if-not-is_name.true) in
    let other : is_name (slice_index_or xs i d).addr.site site ≡ false = ap (λ (x : NodeSlot). is_name x.addr.site site) (sym c.index.ensures) ∙ ap (is_name d.addr.site) (sym c.name.ensures) ∙ sym c.is_name.ensures ∙ off in
    one_more es ds i qs xs ss (seen_kept es ds i qs xs ss d c.requires.slot c.requires.state seen (λ q s h. stopped_there ds es site after (slice_index_or xs i d) s is other q h))

pub returns-clause-seen : goal.returns-clause-seen
returns-clause-seen c = λ ds es qs is seen.
    let xs = c.args.self.now.slots.items in
    let ss = c.args.self.now.states.items in
    let i = c.args.i in
    let site = c.args.site.now.nodes.site in
    let after = λ (n : ℕ). tree_in (known_at c.args.site.now n) in
    let d = c.index.result.now in
    let x = c.index_mut.result.now in
    let s = c.index_mut-2.result.now in
    let on : c.is_name.result ≡ true = grind (arith, c.if-not-is_name.false) in
    let same : d ≡ x = c.index.ensures ∙ same_at xs i d x c.requires.slot ∙ sym c.index_mut.ensures.value in
    let here : is_name x.addr.site site ≡ true = ap (λ (y : NodeSlot). is_name y.addr.site site) (sym same) ∙ ap (is_name d.addr.site) (sym c.name.ensures) ∙ sym c.is_name.ensures ∙ on in
    one_more es ds i qs (slice_set xs i c.turn.new.slot) (slice_set ss i c.turn.new.state)
    (seen_set es ds i qs xs ss x c.turn.new.slot s c.turn.new.state c.requires.slot c.requires.state seen (λ q h.
    stopped_here ds es site after (record { after = c.tree.result; leaves = false; rec = None }) x s c.turn.new.slot c.turn.new.state is here (c.tree.ensures ∙ ap (λ (y : NodeSlot). after y.addr.node) same) refl refl c.in_ok-turn.ensures q
    (subst (λ (y : NodeSlot). IsSeen (node_at ds q) y s) (sym c.index_mut.ensures.value) (subst (λ (r : State). IsSeen (node_at ds q) (slice_index_or xs i x) r) (sym c.index_mut-2.ensures.value) h))))
