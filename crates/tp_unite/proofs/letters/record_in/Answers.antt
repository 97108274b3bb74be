-- What is read is spelled so.
use Rattle.std.proofs.Common.{arith}
use Rattle.tp_names.proofs.Numbers.{bytes_from}
use Rattle.tp_unite.proofs.Sent.{record_so}
use Rattle.tp_unite.proofs.letters.record_in.Goals as goal

pub returns : goal.returns
returns c = record_so c.args.octets.now c.in_ok-rec.rec (bytes_from _ (λ i. omega (arith, c.type_inv.octets i))) c.in_ok-rec.ensures
