use Rattle.std.proofs.Common.{arith, sym}
use Rattle.tp_world_sites.proofs.Newcomers.{is_there, not_there}
use Rattle.tp_world_sites.proofs.sites.site_place.Goals as goal

pub returns-then-place-sites-clause-there : goal.returns-then-place-sites-clause-there
returns-then-place-sites-clause-there c w stand =
    let place = c.place_of-place.ensures in sym (is_there w c.args.name.now c.args.sites.now stand (omega (arith, place)))

pub returns-else-place-sites-clause-there : goal.returns-else-place-sites-clause-there
returns-else-place-sites-clause-there c w stand =
    let place = c.place_of-place.ensures in sym (not_there w c.args.name.now c.args.sites.now stand (omega (arith, place)))
