use Rattle.std.proofs.Common.{◌≡◌, ℕ, Some, slice_index_or, ap, sym, ◌∙◌, arith}
use Rattle.tp_names.specs.declared.identifiers.Addr.{Addr}
use Rattle.tp_model.specs.History.{state}
use Rattle.tp_model.specs.World.{site_of}
use Rattle.tp_site.specs.Site.{known_at}
use Rattle.tp_world_sites.specs.Sites.{place_of_site}
use Rattle.tp_world_sites.proofs.Placed.{never_missing, known_home}
use Rattle.tp_world_sites.proofs.sites.state_at.Goals as goal

pub returns-then-place-sites : goal.returns-then-place-sites
returns-then-place-sites c w n stand found placed at =
    let xs = c.args.sites.now in
    let place : c.place_of-place.result ≡ place_of_site xs (site_of n) = c.place_of-place.ensures ∙ ap (λ (a : Addr). place_of_site xs a.site) at in
    absurd (never_missing w n xs stand found placed (omega (arith, place)))

pub returns : goal.returns
returns c w n stand found placed at =
    let xs = c.args.sites.now in
    let x = c.index-sites-place.result in
    let place : c.place_of-place.result ≡ place_of_site xs (site_of n) = c.place_of-place.ensures ∙ ap (λ (a : Addr). place_of_site xs a.site) at in
    let is : slice_index_or xs (place_of_site xs (site_of n)) x ≡ x = ap (λ (k : ℕ). slice_index_or xs k x) (sym place) ∙ sym c.index-sites-place.is in
    ap Some
    (c.shown.ensures
    ∙ ap (λ (a : Addr). state (known_at x.site a.node)) at
    ∙ ap state (known_home w n xs x stand found placed is))
