-- Octets that say a record are read back.
use Rattle.tp_unite.proofs.Sent.{spells}
use Rattle.tp_unite.proofs.letters.octets_of.Goals as goal

pub returns : goal.returns
returns c = spells c.args.rec.now c.in_ok-octets.octets c.few_has_text.ensures c.in_ok-octets.ensures
