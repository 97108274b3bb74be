use Rattle.std.proofs.Common.{◌≡◌, ap, ◌∙◌, arith}
use Rattle.tp_names.specs.declared.identifiers.Addr.{Addr}
use Rattle.tp_model.specs.World.{site_of}
use Rattle.tp_site.specs.NodeEvent.{event_of}
use Rattle.tp_world_sites.specs.NodeAnswers.{result_told}
use Rattle.tp_world_sites.specs.Sites.{place_of_site}
use Rattle.tp_world_sites.proofs.Placed.{plays_sought, never_missing}
use Rattle.tp_world_sites.proofs.sites.play_at.Goals as goal

pub returns-then-place-sites : goal.returns-then-place-sites
returns-then-place-sites c w n stand apart found placed at =
    let xs = c.args.sites.now in
    let place : c.place_of-place.result ≡ place_of_site xs (site_of n) = c.place_of-place.ensures ∙ ap (λ (a : Addr). place_of_site xs a.site) at in
    never_missing w n xs stand found placed (omega (arith, place))

pub returns : goal.returns
returns c w n stand apart found placed at =
    plays_sought w n (event_of c.args.event.now) c.args.at.now c.place_of-place.result c.args.sites.now c.index-sites-place.result c.play.new.self (result_told c.play.result c.play.new.entry) stand found placed at c.place_of-place.ensures
    c.index-sites-place.is c.play.ensures
