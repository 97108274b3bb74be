use Rattle.std.proofs.Common.{◌≡◌, ℕ, slice_set, slice_index_or, subst, ap, sym, ◌∙◌}
use Rattle.tp_world_sites.specs.Placing.{IsDeclaredAt}
use Rattle.tp_world_sites.specs.Sites.{place_of_site}
use Rattle.tp_world_sites.proofs.Newcomers.{declared_in}
use Rattle.tp_world_sites.proofs.sites.declare_at.Goals as goal

pub returns : goal.returns
returns c w stand placed free =
    let xs = c.site_or_new.new.sites.items in
    let x = c.index_mut.result.now in
    let y = c.declare.new.self in
    let there = (c.in_ok-place.ensures {u = tt}).there w stand placed in
    let at = (c.in_ok-place.ensures {u = tt}).at in
    let is : slice_index_or xs (place_of_site xs c.args.at.now.site) x ≡ x = ap (λ (k : ℕ). slice_index_or xs k x) (sym at.is) ∙ sym c.index_mut.ensures.value in
    subst (λ (k : ℕ). IsDeclaredAt w c.args.at.now c.args.superior.now c.in_ok-place.boot (slice_set xs k y)) (sym at.is)
    (declared_in w c.args.at.now c.args.superior.now c.in_ok-place.boot xs x y there free is (c.in_ok-declare.ensures {u = tt}))
