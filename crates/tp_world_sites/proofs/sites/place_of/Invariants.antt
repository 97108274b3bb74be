use Rattle.std.proofs.Common.{◌≡◌, ◌+◌, drop}
use Rattle.tp_world_sites.specs.Sites.{place_of_site}
use Rattle.tp_world_sites.proofs.sites.place_of.Given as goal

abbrev pub invariant-loop-i : goal.invariant-loop-i
invariant-loop-i l = place_of_site l.sites l.name ≡ l.i + place_of_site (drop l.i l.sites) l.name
