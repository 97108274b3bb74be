use Rattle.std.proofs.Common.{arith}
use Rattle.tp_names.proofs.Numbers.{bytes_from}
use Rattle.tp_records.proofs.Decoding.{text_at, no_text_at}
use Rattle.tp_records.proofs.peer.sized.is_peer_text.Goals as goal

pub returns : goal.returns
returns c = text_at c.args.octets.now c.new-from.result c.in-Ok.field-0 c.read_peer.new.from c.left.result c.new-from.ensures c.in-Ok.ensures c.left.ensures

pub returns-in-Err-Bad : goal.returns-in-Err-Bad
returns-in-Err-Bad c = no_text_at c.args.octets.now c.new-from.result c.in-Err-Bad.field-0 c.read_peer.new.from _ (bytes_from _ (λ i. omega (arith, c.type_inv.octets i))) c.new-from.ensures c.in-Err-Bad.ensures c.in-Err-Bad.field-0-is
