-- What is not decoded, or is decoded with more after it, is no record's whole text.
use Rattle.std.proofs.Common.{subst, arith}
use Rattle.tp_names.specs.Grammar.{IsBadAt, IsFaultOf}
use Rattle.tp_names.proofs.Numbers.{bytes_from}
use Rattle.tp_records.specs.BodyReading.{peer_grammar}
use Rattle.tp_texts.proofs.PeerReading.{front_text, no_text}
use Rattle.tp_texts.proofs.peer_reading.read_whole_peer.Goals as goal

pub returns-in-Ok-2 : goal.returns-in-Ok-2
returns-in-Ok-2 c = front_text c.args.octets.now c.in-Ok.rec c.in-Ok.len c.in-Ok.ensures.ok (λ same. omega (arith, c.if-len-octets.false, same))

pub returns-in-BadRecord : goal.returns-in-BadRecord
returns-in-BadRecord c =
    let octets = c.args.octets.now in
    let bad : IsBadAt peer_grammar octets c.in-BadRecord.at = subst (IsFaultOf peer_grammar octets) c.in-BadRecord.is c.in-Err.ensures.bad in
    no_text octets c.in-BadRecord.at (bytes_from octets (λ i. omega (arith, c.type_inv.octets i))) bad
