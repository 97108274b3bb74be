-- A record that is read from octets carries no more of a user's octets than fit.
use Rattle.std.proofs.Common.{◌≡◌, Some}
use Rattle.tp_records.specs.BodyReading.{peer_in}
use Rattle.tp_encodable.proofs.Read.{few_octets}
use Rattle.tp_site.proofs.site.Site.arrive.Goals as goal

pub give-requires-clause-few : goal.give-requires-clause-few
give-requires-clause-few g c =
    let octets = c.as_slice.result.now in
    let read : peer_in octets ≡ Some c.in-Some.rec = cc (c.in_ok-rec.ensures, c.in-Some.is) in
    few_octets octets c.in-Some.rec read
